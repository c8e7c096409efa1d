-- What aliases hold.
use Rattle.std.proofs.Common.{◌≡◌, ℕ, suc, zero, ◌+◌, ◌<◌, List, [], ◌∷◌, ◌++◌, Bool, true, false, cond, Some, None, Result, Ok, Err, OnOk, length, get_or, sym, subst, ◌∙◌, refl, arith}
use Rattle.std.specs.Prelude.{OnErr, bytes_eq, slice_get}
use Rattle.std.specs.List.{All, find}
use Rattle.std.specs.Str.{str_to_ascii_lowercase, str_eq_ignore_ascii_case}
use Rattle.std.proofs.lemmas.Slice.Eq.{bytes_eq-Decides}
use Rattle.std.proofs.lemmas.List.Elements.{All-append, All-head, All-same, All-tail}
use Rattle.mail_base.specs.Places.{Held, is_held_for, IsFirstAt, IsIndexed, IsIndexedTo, Keeps}
use Rattle.mail_base.proofs.PlaceLemmas.{held_alike as held_same, indexed_more as one_more}
use Rattle.alias_expand.specs.declared.aliases.Alias.{Alias}
use Rattle.alias_expand.specs.Aliases.{has_name}
use Rattle.alias_expand.specs.inner.AliasPlaces.{HasMembers}

-- ---- equal names are those of the same aliases

folded : (one other : List ℕ) → str_eq_ignore_ascii_case one other ≡ true → str_to_ascii_lowercase one ≡ str_to_ascii_lowercase other
folded one other same = (bytes_eq-Decides (str_to_ascii_lowercase one) (str_to_ascii_lowercase other)).0 same

same_back : (one other : List ℕ) → str_eq_ignore_ascii_case one other ≡ true → str_eq_ignore_ascii_case other one ≡ true
same_back one other same = (bytes_eq-Decides (str_to_ascii_lowercase other) (str_to_ascii_lowercase one)).1 (sym (folded one other same))

abbrev has_folded : List ℕ → Alias → Bool
has_folded small alias = bytes_eq small (str_to_ascii_lowercase alias.name)

held_alike : (one other : List ℕ) (lines : List Alias) (place : ℕ) (held : Held) → str_eq_ignore_ascii_case one other ≡ true
    → (IsFirstAt (has_name other) lines place → is_held_for other place held ≡ true) → IsFirstAt (has_name one) lines place → is_held_for one place held ≡ true
held_alike one other lines place held same is first =
    held_same other one place held (same_back one other same)
    (is (subst (λ (small : List ℕ). IsFirstAt (has_folded small) lines place) (folded one other same) first))

-- ---- the places as they grow

-- one line more
pub indexed_more : (lines : List Alias) (i : ℕ) (alias : Alias) (was now : Held) → i < length lines → alias ≡ get_or lines i alias → Keeps was now
    → (IsFirstAt (has_name alias.name) lines i → is_held_for alias.name i now ≡ true) → IsIndexedTo has_name i lines was → IsIndexedTo has_name (i + 1) lines now
indexed_more lines i alias was now within at keeps held =
    one_more has_name lines i alias was now within at keeps (λ name same. held_alike name alias.name lines i now same held)

front_same : (lines more : List Alias) (k : ℕ) → k < length lines → slice_get (lines ++ more) k ≡ slice_get lines k
front_same [] more k lt = absurd (omega (arith, lt))
front_same (l ∷ lines) more zero lt = refl
front_same (l ∷ lines) more (suc k) lt = front_same lines more k (omega (arith, lt))

-- more lines behind those that are held
pub indexed_front : (lines more : List Alias) (was : Held) → IsIndexed has_name lines was → IsIndexedTo has_name (length lines) (lines ++ more) was
indexed_front lines more was indexed = λ name place lt first. indexed name place (record {
  one = first.one;
  stands = sym (front_same lines more place lt) ∙ first.stands;
  passes = first.passes;
  before = λ k other less there. first.before k other less (front_same lines more k (omega (arith, lt, less)) ∙ there);
})

-- ---- members

found_by : (name : List ℕ) (alias line : Alias) (lines : List Alias) (has : Bool) → Some alias ≡ cond has (Some line) (find (has_name name) lines) → (Some alias ≡ find (has_name name) lines → HasMembers alias) → HasMembers line → HasMembers alias
found_by name alias line lines true is later each = let same : line ≡ alias = cc is in subst HasMembers same each
found_by name alias line lines false is later each = later is

-- the alias that is found has members
pub found_has : (name : List ℕ) (alias : Alias) (lines : List Alias) → Some alias ≡ find (has_name name) lines → All HasMembers lines → HasMembers alias
found_has name alias [] is each = absurd (none is)
  where
    none : Some alias ≡ None → ⊥
    none e = cc e
found_has name alias (line ∷ lines) is each = found_by name alias line lines (has_name name line) is (λ later. found_has name alias lines later (All-tail HasMembers line lines each)) (All-head HasMembers line lines each)

-- lines that were put behind others, or weren't, have members
pub put_each : {T E : Type 0} (result : Result T E) (lines more now : List Alias) → OnOk result (now ≡ lines ++ more) → OnErr result (now ≡ lines) → All HasMembers lines → All HasMembers more → All HasMembers now
put_each (Ok done) lines more now ok err each others = All-same HasMembers now (lines ++ more) ok (All-append HasMembers lines more each others)
put_each (Err fault) lines more now ok err each others = All-same HasMembers now lines err each
