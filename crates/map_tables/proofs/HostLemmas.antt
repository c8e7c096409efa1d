-- What the host table holds.
use Rattle.std.proofs.Common.{◌≡◌, ℕ, ◌+◌, ◌<◌, List, Bool, true, false, ◌||◌, length, get_or, take, ap, sym, subst, ◌∙◌, true≢false, inl, inr, ◌⊎◌}
use Rattle.std.specs.Prelude.{bytes_eq}
use Rattle.std.specs.List.{list_any}
use Rattle.std.specs.Str.{str_to_ascii_lowercase, str_eq_ignore_ascii_case}
use Rattle.std.proofs.lemmas.Slice.Eq.{bytes_eq-Decides}
use Rattle.std.proofs.lemmas.Bool.{or_cases, or_left, or_right}
use Rattle.std.proofs.lemmas.List.Folds.{list_any_more}
use Rattle.mail_base.specs.Places.{Held, is_held_for, IsFirstAt, Keeps}
use Rattle.mail_base.proofs.PlaceLemmas.{held_alike as held_same}
use Rattle.map_tables.specs.Hosts.{has_name}
use Rattle.map_tables.specs.declared.hosts.HostLine.{HostLine}

-- ---- equal names stand in the same lines

folded : (one other : List ℕ) → str_eq_ignore_ascii_case one other ≡ true → str_to_ascii_lowercase one ≡ str_to_ascii_lowercase other
folded one other same = (bytes_eq-Decides (str_to_ascii_lowercase one) (str_to_ascii_lowercase other)).0 same

same_back : (one other : List ℕ) → str_eq_ignore_ascii_case one other ≡ true → str_eq_ignore_ascii_case other one ≡ true
same_back one other same = (bytes_eq-Decides (str_to_ascii_lowercase other) (str_to_ascii_lowercase one)).1 (sym (folded one other same))

abbrev has_folded : List ℕ → HostLine → Bool
has_folded small line = bytes_eq small (str_to_ascii_lowercase line.name) || list_any (λ other. bytes_eq small (str_to_ascii_lowercase other)) line.aliases

-- what is held for a name where its first line stands is held for each name that equals it
held_alike : (one other : List ℕ) (lines : List HostLine) (place : ℕ) (held : Held) → str_eq_ignore_ascii_case one other ≡ true
    → (IsFirstAt (has_name other) lines place → is_held_for other place held ≡ true) → IsFirstAt (has_name one) lines place → is_held_for one place held ≡ true
held_alike one other lines place held same is first =
    held_same other one place held (same_back one other same)
    (is (subst (λ (small : List ℕ). IsFirstAt (has_folded small) lines place) (folded one other same) first))

-- ---- the places as they grow

-- held for a line's own name
pub held_name : (lines : List HostLine) (place : ℕ) (own : List ℕ) (aliases : List (List ℕ)) (was : Held) → (IsFirstAt (has_name own) lines place → is_held_for own place was ≡ true)
    → (name : List ℕ) → (str_eq_ignore_ascii_case name own || list_any (str_eq_ignore_ascii_case name) (take 0 aliases)) ≡ true → IsFirstAt (has_name name) lines place → is_held_for name place was ≡ true
held_name lines place own aliases was held name among first = by (or_cases (str_eq_ignore_ascii_case name own) false among)
  where
    by : (str_eq_ignore_ascii_case name own ≡ true) ⊎ (false ≡ true) → is_held_for name place was ≡ true
    by (inl same) = held_alike name own lines place was same held first
    by (inr never) = absurd (true≢false (sym never))

-- and for one alias more
pub held_alias : (lines : List HostLine) (place : ℕ) (own : List ℕ) (aliases : List (List ℕ)) (i : ℕ) (alias : List ℕ) (was now : Held) → i < length aliases → alias ≡ get_or aliases i alias
    → Keeps was now → (IsFirstAt (has_name alias) lines place → is_held_for alias place now ≡ true)
    → ((name : List ℕ) → (str_eq_ignore_ascii_case name own || list_any (str_eq_ignore_ascii_case name) (take i aliases)) ≡ true → IsFirstAt (has_name name) lines place → is_held_for name place was ≡ true)
    → (name : List ℕ) → (str_eq_ignore_ascii_case name own || list_any (str_eq_ignore_ascii_case name) (take (i + 1) aliases)) ≡ true → IsFirstAt (has_name name) lines place → is_held_for name place now ≡ true
held_alias lines place own aliases i alias was now lt at keeps held so name among first =
    by (or_cases (str_eq_ignore_ascii_case name own) (list_any (str_eq_ignore_ascii_case name) (take i aliases) || str_eq_ignore_ascii_case name (get_or aliases i alias))
    (sym (ap (λ (b : Bool). str_eq_ignore_ascii_case name own || b) (list_any_more (str_eq_ignore_ascii_case name) aliases i alias lt)) ∙ among))
  where
    old : (str_eq_ignore_ascii_case name own || list_any (str_eq_ignore_ascii_case name) (take i aliases)) ≡ true → is_held_for name place now ≡ true
    old h = keeps name place (so name h first)

    more : (list_any (str_eq_ignore_ascii_case name) (take i aliases) ≡ true) ⊎ (str_eq_ignore_ascii_case name (get_or aliases i alias) ≡ true) → is_held_for name place now ≡ true
    more (inl before) = old (or_right (str_eq_ignore_ascii_case name own) _ before)
    more (inr same) = held_alike name alias lines place now (ap (str_eq_ignore_ascii_case name) at ∙ same) held first

    by : (str_eq_ignore_ascii_case name own ≡ true) ⊎ ((list_any (str_eq_ignore_ascii_case name) (take i aliases) || str_eq_ignore_ascii_case name (get_or aliases i alias)) ≡ true) → is_held_for name place now ≡ true
    by (inl same) = old (or_left (str_eq_ignore_ascii_case name own) _ same)
    by (inr rest) = more (or_cases (list_any (str_eq_ignore_ascii_case name) (take i aliases)) _ rest)
