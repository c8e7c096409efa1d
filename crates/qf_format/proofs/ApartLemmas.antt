-- Values are told apart by their spellings, whatever follows them.
use Rattle.std.proofs.Common.{◌≡◌, ℕ, List, [], ◌∷◌, ◌++◌, refl, sym, ap, subst, ◌∙◌, append_assoc}
use Rattle.std.specs.Prelude.{All}
use Rattle.std.specs.List.{flat_map}
use Rattle.std.proofs.lemmas.List.{append_cancel_left}
use Rattle.std.proofs.lemmas.List.Concat.{flat_map-cons}
use Rattle.std.proofs.lemmas.List.Elements.{All-head, All-tail}
use Rattle.mail_base.specs.Texts.{IsLine}
use Rattle.qf_format.specs.inner.Reading.{Anything}
use Rattle.qf_format.specs.inner.Parts.{At, NotAt}
use Rattle.qf_format.specs.Spelling.{line}
use Rattle.qf_format.proofs.ReadLemmas.{both, BothFormed, Retold}
use Rattle.qf_format.proofs.FieldLemmas.{split_once}

-- equal spellings with what follows them are of one value and of one rest
abbrev pub Apart : {X : Type 0} → (X → List ℕ) → (X → Type 0) → (List ℕ → Type 0) → Type 0
Apart {X} s v f = (x y : X) (r q : List ℕ) → v x → v y → f r → f q → s x ++ r ≡ s y ++ q → (x ≡ y) × (r ≡ q)

-- equal spellings are of one value
abbrev pub Once : {X : Type 0} → (X → List ℕ) → (X → Type 0) → Type 0
Once {X} s v = (x y : X) → v x → v y → s x ≡ s y → x ≡ y

-- ---- one after the other, and told of another type

-- values that are told apart by their spellings are so one after the other too
pub apart_then : {X Y : Type 0} (s : X → List ℕ) (v : X → Type 0) (f : List ℕ → Type 0) (t : Y → List ℕ) (w : Y → Type 0) (g : List ℕ → Type 0) → ((y : Y) (z : List ℕ) → w y → g z → f (t y ++ z)) → Apart s v f → Apart t w g → Apart (both s v f t w g) (BothFormed s v f t w g) g
apart_then s v f t w g on a b x y r q h k m n e =
    let inner : s x.0 ++ (t x.1 ++ r) ≡ s y.0 ++ (t y.1 ++ q) = sym (append_assoc (s x.0) (t x.1) r) ∙ e ∙ append_assoc (s y.0) (t y.1) q in
    let one = a x.0 y.0 (t x.1 ++ r) (t y.1 ++ q) h.0 k.0 (on x.1 r h.1 m) (on y.1 q k.1 n) inner in
    let two = b x.1 y.1 r q h.1 k.1 m n one.1 in
    (λ i. (one.0 i, two.0 i), two.1)

-- values told as another type are told apart as those are
pub apart_as : {X Y : Type 0} (s : X → List ℕ) (v : X → Type 0) (t : Y → List ℕ) (w : Y → Type 0) (to : X → Y) (from : Y → X) (f : List ℕ → Type 0) → Retold s v t w to from → Apart s v f → Apart t w f
apart_as s v t w to from f o a x y r q h k m n e =
    let inner : s (from x) ++ r ≡ s (from y) ++ q = ap (λ (b : List ℕ). b ++ r) (sym (o.text_from x)) ∙ e ∙ ap (λ (b : List ℕ). b ++ q) (o.text_from y) in
    let one = a (from x) (from y) r q (o.form_from x h) (o.form_from y k) m n inner in
    (sym (o.back x) ∙ ap to one.0 ∙ o.back y, one.1)

-- ---- a value within a text, and fewer values

-- values with texts of their own are told apart within what frames their texts
pub apart_within : {X : Type 0} (frame : List ℕ → List ℕ) (form : List ℕ → Type 0) (f : List ℕ → Type 0) (s : X → List ℕ) (v : X → Type 0) → ((x : X) → v x → form (s x)) → Apart frame form f → Once s v → Apart (λ x. frame (s x)) v f
apart_within frame form f s v is_text a o x y r q h k m n e =
    let one = a (s x) (s y) r q (is_text x h) (is_text y k) m n e in
    (o x y h k one.0, one.1)

-- fewer values are told apart as all are
pub apart_fewer : {X : Type 0} (s : X → List ℕ) (v w : X → Type 0) (f : List ℕ → Type 0) → ((x : X) → w x → v x) → Apart s v f → Apart s w f
apart_fewer s v w f weaker a x y r q h k m n e = a x y r q (weaker x h) (weaker y k) m n e

-- ---- lines

line_parts : (tag x r : List ℕ) → line (tag ++ x) ++ r ≡ tag ++ (x ++ 10 ∷ r)
line_parts tag x r = append_assoc (tag ++ x) (10 ∷ []) r ∙ append_assoc tag x (10 ∷ r)

-- lines behind a tag are told apart by their bytes, whatever follows
pub line_apart : (tag : List ℕ) → Apart (λ text. line (tag ++ text)) IsLine Anything
line_apart tag x y r q h k m n e = split_once 10 x y r q h k (append_cancel_left tag (x ++ 10 ∷ r) (y ++ 10 ∷ q) (sym (line_parts tag x r) ∙ e ∙ line_parts tag y q))

-- ---- lists

module _ {X : Type 0} (s : X → List ℕ) (v : X → Type 0) (g f : List ℕ → Type 0) (letter : ℕ) (begins : (x : X) (z : List ℕ) → At letter (s x ++ z)) (ends : (z : List ℕ) → f z → NotAt letter z) (goes_on : (xs : List X) (z : List ℕ) → f z → g (flat_map s xs ++ z)) (apart : Apart s v g) where
  more_parts : (x : X) (xs : List X) (z : List ℕ) → flat_map s (x ∷ xs) ++ z ≡ s x ++ (flat_map s xs ++ z)
  more_parts x xs z = ap (λ (b : List ℕ). b ++ z) (flat_map-cons s x xs) ∙ append_assoc (s x) (flat_map s xs) z

  not_both : (x : X) (xs : List X) (z r : List ℕ) → f r → flat_map s (x ∷ xs) ++ z ≡ r → ⊥
  not_both x xs z r m e = ends r m (subst (At letter) (sym (more_parts x xs z) ∙ e) (begins x (flat_map s xs ++ z)))

  -- lists of items are told apart by their spellings, as items are
  pub list_apart : Apart (flat_map s) (All v) f
  list_apart [] [] r q h k m n e = (refl, e)
  list_apart [] (y ∷ ys) r q h k m n e = absurd (not_both y ys q r m (sym e))
  list_apart (x ∷ xs) [] r q h k m n e = absurd (not_both x xs r q n e)
  list_apart (x ∷ xs) (y ∷ ys) r q h k m n e =
      let one = apart x y (flat_map s xs ++ r) (flat_map s ys ++ q) (All-head v x xs h) (All-head v y ys k) (goes_on xs r m) (goes_on ys q n) (sym (more_parts x xs r) ∙ e ∙ more_parts y ys q) in
      let two = list_apart xs ys r q (All-tail v x xs h) (All-tail v y ys k) m n one.1 in
      (λ i. one.0 i ∷ two.0 i, two.1)
