-- A text has one answer: a number or a place.
use Rattle.std.proofs.Common.{◌≡◌, ℕ, ◌+◌, ◌<◌, ◌≤◌, List, [], ◌++◌, length, take, drop, Result, Ok, Err, sym, ap, subst, ◌∙◌, arith}
use Rattle.std.specs.Result.{IfOk, IfErr}
use Rattle.std.proofs.lemmas.List.{take-append-drop, append_assoc, append-nil, take-take}
use Rattle.cf_values.specs.declared.bad.Bad.{Bad}
use Rattle.cf_values.specs.Refusals.{Begins, IsFirstBad, IsRefused, bad_byte, empty, above}

-- what the meanings of texts have in common: one number at most, and none for the empty text
pub record IsGrammar (Means : List ℕ → ℕ → Type 0) : Type 0 where
  pub one : (text : List ℕ) (n m : ℕ) → Means text n → Means text m → n ≡ m
  pub some : (n : ℕ) → Means [] n → ⊥

-- a text of the grammar begins with each front of a front
begins_front : (M : List ℕ → ℕ → Type 0) (front more : List ℕ) → Begins M (front ++ more) → Begins M front
begins_front M front more h = (more ++ h.0, h.1, subst (λ t. M t h.1) (append_assoc front more h.0) h.2)

begins_take : (M : List ℕ → ℕ → Type 0) (k : ℕ) (text : List ℕ) → Begins M text → Begins M (take k text)
begins_take M k text h = begins_front M (take k text) (drop k text) (subst (Begins M) (sym (take-append-drop k text)) h)

begins_itself : (M : List ℕ → ℕ → Type 0) (text : List ℕ) (n : ℕ) → M text n → Begins M text
begins_itself M text n m = ([], n, subst (λ t. M t n) (sym (append-nil text)) m)

no_bad_byte : (M : List ℕ → ℕ → Type 0) (text : List ℕ) (n place : ℕ) → M text n → IsFirstBad M text place → ⊥
no_bad_byte M text n place m bad = bad.with_it (begins_take M (place + 1) text (begins_itself M text n m))

no_earlier : (M : List ℕ → ℕ → Type 0) (text : List ℕ) (p q : ℕ) → IsFirstBad M text p → IsFirstBad M text q → p < q → ⊥
no_earlier M text p q a b lt =
    let cut : take (p + 1) (take q text) ≡ take (p + 1) text = take-take (p + 1) q text (omega arith) in
    a.with_it (subst (Begins M) cut (begins_take M (p + 1) (take q text) b.before))

no_refusal : (M : List ℕ → ℕ → Type 0) → IsGrammar M → (most : ℕ) (text : List ℕ) (n place : ℕ) → M text n → n ≤ most → IsRefused M most text place → ⊥
no_refusal M is most text n place m le (bad_byte bad) = no_bad_byte M text n place m bad
no_refusal M is most text n place m le (empty e at) = is.some n (subst (λ t. M t n) e m)
no_refusal M is most text n place m le (above k other lt at) = let same = is.one text n k m other in omega arith

no_byte_past : (M : List ℕ → ℕ → Type 0) (text : List ℕ) (p : ℕ) → text ≡ [] → IsFirstBad M text p → ⊥
no_byte_past M text p e bad = let h = bad.within in let l = ap length e in omega arith

same_place : (M : List ℕ → ℕ → Type 0) (most : ℕ) (text : List ℕ) (p q : ℕ) → IsRefused M most text p → IsRefused M most text q → p ≡ q
same_place M most text p q (bad_byte a) (bad_byte b) =
    let not_below : (p < q) → ⊥ = no_earlier M text p q a b in
    let not_above : (q < p) → ⊥ = no_earlier M text q p b a in
    omega (arith, not_below, not_above)
same_place M most text p q (bad_byte a) (empty e at) = absurd (no_byte_past M text p e a)
same_place M most text p q (bad_byte a) (above n m lt at) = absurd (no_bad_byte M text n p m a)
same_place M most text p q (empty e at) (bad_byte b) = absurd (no_byte_past M text q e b)
same_place M most text p q (above n m lt at) (bad_byte b) = absurd (no_bad_byte M text n q m b)
same_place M most text p q (empty e at) (empty f there) = at ∙ sym there
same_place M most text p q (empty e at) (above n m lt there) = at ∙ sym there
same_place M most text p q (above n m lt at) (empty f there) = at ∙ sym there
same_place M most text p q (above n m lt at) (above k o gt there) = at ∙ sym there

-- the answer to a text that has a number
pub value_of : (M : List ℕ → ℕ → Type 0) → IsGrammar M → (most : ℕ) (text : List ℕ) (r : Result ℕ Bad)
    → IfOk r (λ n. M text n × (n ≤ most)) → IfErr r (λ bad. IsRefused M most text bad.place)
    → (n : ℕ) → M text n → n ≤ most → r ≡ Ok n
value_of M is most text (Ok k) ok bad n m le = ap Ok (is.one text k n ok.0 m)
value_of M is most text (Err b) ok bad n m le = absurd (no_refusal M is most text n b.place m le bad)

-- the answer to a text that is refused at a place
pub place_of : (M : List ℕ → ℕ → Type 0) → IsGrammar M → (most : ℕ) (text : List ℕ) (r : Result ℕ Bad)
    → IfOk r (λ n. M text n × (n ≤ most)) → IfErr r (λ bad. IsRefused M most text bad.place)
    → (place : ℕ) → IsRefused M most text place → r ≡ Err (record { place = place })
place_of M is most text (Ok k) ok bad place refused = absurd (no_refusal M is most text k place ok.0 ok.1 refused)
place_of M is most text (Err b) ok bad place refused = ap (λ p. Err (record { place = p })) (same_place M most text b.place place bad refused)
