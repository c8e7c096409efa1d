-- The files of maps by their names.
use Rattle.std.proofs.Common.{◌≡◌, ℕ, suc, ◌+◌, List, [], ◌∷◌, Bool, true, false, cond, Option, Some, None, refl, ap, ◌∙◌, arith}
use Rattle.std.specs.Prelude.{bytes_eq, option_map, unwrap_or, slice_get}
use Rattle.std.specs.List.{find}
use Rattle.mail_base.specs.Catalogs.{value_at}
use Rattle.map_tables.specs.declared.named.Named.{Named}
use Rattle.map_tables.specs.Tables.{is_named, text_of}
use Rattle.map_tables.specs.inner.FilePlaces.{bytes_at, first_places, places_from, text_at}
use Rattle.map_tables.proofs.TableLemmas.{first_counts}

-- the place of a name is that of the first file of that name
place_found : (file : List ℕ) (texts : List Named) (n : ℕ) (all : List Named) → ((k : ℕ) → slice_get all (n + k) ≡ slice_get texts k) → text_at all (value_at file (places_from n texts)) ≡ find (is_named file) texts
place_found file [] n all so = refl
place_found file (text ∷ texts) n all so = by (bytes_eq file text.name) refl (place_found file texts (n + 1) all next)
  where
    next : (k : ℕ) → slice_get all (n + 1 + k) ≡ slice_get texts k
    next k = let e : n + 1 + k ≡ n + suc k = omega arith in ap (slice_get all) e ∙ so (suc k)

    here : slice_get all n ≡ Some text
    here = let e : n ≡ n + 0 = omega arith in ap (slice_get all) e ∙ so 0

    by : (b : Bool) → bytes_eq file text.name ≡ b → text_at all (value_at file (places_from (n + 1) texts)) ≡ find (is_named file) texts
        → text_at all (cond b (Some n) (value_at file (places_from (n + 1) texts))) ≡ cond b (Some text) (find (is_named file) texts)
    by true e rest = here
    by false e rest = rest

bytes_of_text : (o : Option Named) → bytes_at o ≡ unwrap_or (option_map (λ text. text.bytes) o) []
bytes_of_text None = refl
bytes_of_text (Some text) = refl

-- the bytes of the first file of a name
pub bytes_found : (file : List ℕ) (texts shown : List Named) (places : List (List ℕ × ℕ)) (place : Option ℕ) (text : Option Named) → places ≡ first_places texts → place ≡ value_at file places → shown ≡ texts → text ≡ text_at shown place
    → bytes_at text ≡ text_of texts (Some file)
bytes_found file texts shown places place text known at same is =
    ap bytes_at
    (is ∙ ap (λ (ts : List Named). text_at ts place) same
    ∙ ap (text_at texts) (at ∙ ap (value_at file) known ∙ first_counts file (places_from 0 texts))
    ∙ place_found file texts 0 texts (λ k. let e : 0 + k ≡ k = omega arith in ap (slice_get texts) e))
    ∙ bytes_of_text (find (is_named file) texts)
