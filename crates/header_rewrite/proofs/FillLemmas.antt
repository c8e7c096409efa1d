-- A header that is filled from its front on.
use Rattle.std.proofs.Common.{◌≡◌, ℕ, ◌+◌, ◌<◌, ◌≤◌, List, [], ◌∷◌, ◌++◌, length, get_or, drop, slice_range, sym, ◌∙◌, ap, subst, arith}
use Rattle.std.proofs.lemmas.List.{append_assoc, drop_more, drop_all}
use Rattle.mail_header.specs.declared.span.Span.{Span}
use Rattle.mail_header.specs.Places.{AreApart}
use Rattle.ruleset_run.specs.Sites.{Site, Macros}
use Rattle.ruleset_run.specs.Sets.{Rewrites}
use Rattle.ruleset_run.specs.declared.rewritten.Rewritten.{Rewritten}
use Rattle.header_rewrite.specs.Rewriting.{becomes, no_place, one_place, put, address_at, end_of}
use Rattle.header_rewrite.specs.inner.Ways.{Way}
use Rattle.header_rewrite.specs.inner.Filling.{Adds, FillsBy}

-- the end of a place is in the header
apart_end : (from : ℕ) (places : List Span) (to : ℕ) → AreApart from places to → from ≤ to
apart_end from [] to a = a
apart_end from (place ∷ places) to a = omega (arith, a.0, a.1, apart_end (end_of place) places to a.2)

module _ (from index to : ℕ) (places : List Span) (apart : AreApart from (drop index places) to) (d : Span) (some : index < length places) where
  abbrev place : Span
  place = get_or places index d

  here : AreApart from (place ∷ drop (index + 1) places) to
  here = subst (λ ps. AreApart from ps to) (drop_more places index d some) apart

  place_end : end_of (get_or places index d) ≤ to
  place_end = apart_end (end_of place) (drop (index + 1) places) to here.2

  pub place_within : (size : ℕ) → size ≡ to → end_of (get_or places index d) ≤ size
  place_within size is = omega (arith, place_end, is)

  pub apart_behind : AreApart (end_of (get_or places index d)) (drop (index + 1) places) to
  apart_behind = here.2

  -- what fills the rest behind a place fills it with the place
  pub fills_behind : (way : Way) (header bytes : List ℕ) (whole : List Span) (old new : List ℕ) → bytes ≡ header
      → ((more : List ℕ) → FillsBy way header from (drop index places) more → FillsBy way header 0 whole (old ++ more))
      → Adds way (slice_range bytes from (get_or places index d).start) (address_at bytes (get_or places index d)) old new
      → (more : List ℕ) → FillsBy way header (end_of (get_or places index d)) (drop (index + 1) places) more → FillsBy way header 0 whole (new ++ more)
  fills_behind way header bytes whole old new reads so adds more fills =
      let a = subst (λ b. Adds way (slice_range b from place.start) (address_at b place) old new) reads adds in
      let front = slice_range header from place.start in
      let one = one_place from place (drop (index + 1) places) a.text more a.becomes fills in
      let same : old ++ (front ++ (a.text ++ more)) ≡ new ++ more =
      ap (λ x. old ++ x) (sym (append_assoc front a.text more)) ∙ sym (append_assoc old (front ++ a.text) more) ∙ ap (λ x. x ++ more) (sym a.whole) in
      subst (FillsBy way header 0 whole) same (so (front ++ (a.text ++ more)) (subst (λ ps. FillsBy way header from ps (front ++ (a.text ++ more))) (sym (drop_more places index d some)) one))

-- at the end of the places
pub fills_all : (way : Way) (header rest : List ℕ) (from index : ℕ) (places : List Span) (old new : List ℕ) → length places ≤ index → rest ≡ drop from header → new ≡ old ++ rest
    → ((more : List ℕ) → FillsBy way header from (drop index places) more → FillsBy way header 0 places (old ++ more)) → FillsBy way header 0 places new
fills_all way header rest from index places old new all rest_is new_is so =
    subst (FillsBy way header 0 places) (ap (λ r. old ++ r) (sym rest_is) ∙ sym new_is) (so (drop from header) (subst (λ ps. FillsBy way header from ps (drop from header)) (sym (drop_all index places all)) (no_place from)))

pub from_front : (way : Way) (header : List ℕ) (places : List Span) (more : List ℕ) → FillsBy way header 0 (drop 0 places) more → FillsBy way header 0 places more
from_front way header places more fills = fills

-- what an address becomes stands behind what was before it
pub adds_it : (way : Way) (site : Site) (macros : Macros) (sets : List (List ℕ)) (front address given old mid new made : List ℕ) (answer : Rewritten) → record { site = site; macros = macros; sets = sets } ≡ way → given ≡ address → made ≡ put given answer
    → Rewrites site macros sets given answer → mid ≡ old ++ front → new ≡ mid ++ made → Adds way front address old new
adds_it way site macros sets front address given old mid new made answer way_is given_is made_is so mid_is new_is =
    subst (λ w. Adds w front address old new) way_is
    (subst (λ a. Adds (record { site = site; macros = macros; sets = sets }) front a old new) given_is
    (record { text = put given answer; becomes = becomes answer so; whole = new_is ∙ ap (λ m. m ++ made) mid_is ∙ ap (λ t. (old ++ front) ++ t) made_is ∙ append_assoc old front (put given answer) }))
