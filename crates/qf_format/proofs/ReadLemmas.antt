-- Readers one after the other, and what they read within each other.
use Rattle.std.proofs.Common.{◌≡◌, ℕ, List, ◌++◌, sym, ap, ◌∙◌, append_assoc}
use Rattle.qf_format.specs.inner.Reading.{Front, NoFront, Whole, NoWhole}

-- ---- one after the other

module _ {X Y : Type 0} (s : X → List ℕ) (v : X → Type 0) (f : List ℕ → Type 0) (t : Y → List ℕ) (w : Y → Type 0) (g : List ℕ → Type 0) where
  -- the one value's spelling, and then the other's
  abbrev pub both : X × Y → List ℕ
  both p = s p.0 ++ t p.1

  -- both values have their forms
  abbrev pub BothFormed : X × Y → Type 0
  BothFormed p = v p.0 × w p.1

  module _ (goes_on : (y : Y) (z : List ℕ) → w y → g z → f (t y ++ z)) (bytes : List ℕ) where
    first_only : (x : X) (rest : List ℕ) → Front s v f bytes x rest → (p : X × Y) (z : List ℕ) → BothFormed p → g z → bytes ≡ both p ++ z → (p.0 ≡ x) × (t p.1 ++ z ≡ rest)
    first_only x rest a p z h k e = a.only p.0 (t p.1 ++ z) h.0 (goes_on p.1 z h.1 k) (e ∙ append_assoc (s p.0) (t p.1) z)

    -- two values that are read one behind the other are read as both
    pub front_then : (x : X) (rest : List ℕ) (y : Y) (after : List ℕ) → Front s v f bytes x rest → Front t w g rest y after → Front both BothFormed g bytes (x, y) after
    front_then x rest y after a b = record {
      is_formed = (a.is_formed, b.is_formed);
      parts = a.parts ∙ ap (λ (r : List ℕ). s x ++ r) b.parts ∙ sym (append_assoc (s x) (t y) after);
      only = λ p z h k e.
          let one = first_only x rest a p z h k e in
          let two = b.only p.1 z h.1 k (sym one.1) in
          (λ i. (one.0 i, two.0 i), two.1);
    }

    -- where the first of two values can't be read, both can't
    pub none_first : NoFront s v f bytes → NoFront both BothFormed g bytes
    none_first a = record { none = λ p z h k e. a.none p.0 (t p.1 ++ z) h.0 (goes_on p.1 z h.1 k) (e ∙ append_assoc (s p.0) (t p.1) z) }

    -- where the second value can't be read behind the first, both can't
    pub none_second : (x : X) (rest : List ℕ) → Front s v f bytes x rest → NoFront t w g rest → NoFront both BothFormed g bytes
    none_second x rest a b = record { none = λ p z h k e. let one = first_only x rest a p z h k e in b.none p.1 z h.1 k (sym one.1) }

-- ---- the same told of another type

-- two types tell the same, by functions between them
pub record Retold {X Y : Type 0} (s : X → List ℕ) (v : X → Type 0) (t : Y → List ℕ) (w : Y → Type 0) (to : X → Y) (from : Y → X) : Type 0 where
  pub back : (y : Y) → to (from y) ≡ y
  pub text_to : (x : X) → s x ≡ t (to x)
  pub text_from : (y : Y) → t y ≡ s (from y)
  pub form_to : (x : X) → v x → w (to x)
  pub form_from : (y : Y) → w y → v (from y)

module _ {X Y : Type 0} (s : X → List ℕ) (v : X → Type 0) (t : Y → List ℕ) (w : Y → Type 0) (to : X → Y) (from : Y → X) (f : List ℕ → Type 0) (bytes : List ℕ) where
  -- a value that was read is read as what it tells of another type
  pub front_as : (x : X) (rest : List ℕ) → Retold s v t w to from → Front s v f bytes x rest → Front t w f bytes (to x) rest
  front_as x rest r a = record {
    is_formed = r.form_to x a.is_formed;
    parts = a.parts ∙ ap (λ (b : List ℕ). b ++ rest) (r.text_to x);
    only = λ y z h k e.
        let one = a.only (from y) z (r.form_from y h) k (e ∙ ap (λ (b : List ℕ). b ++ z) (r.text_from y)) in
        (sym (r.back y) ∙ ap to one.0, one.1);
  }

  -- where no value can be read, none that tells the same of another type can
  pub none_as : Retold s v t w to from → NoFront s v f bytes → NoFront t w f bytes
  none_as r a = record { none = λ y z h k e. a.none (from y) z (r.form_from y h) k (e ∙ ap (λ (b : List ℕ). b ++ z) (r.text_from y)) }

-- ---- a value within a text

module _ {X : Type 0} (frame : List ℕ → List ℕ) (form : List ℕ → Type 0) (f : List ℕ → Type 0) (s : X → List ℕ) (v : X → Type 0) (is_text : (x : X) → v x → form (s x)) (bytes : List ℕ) where
  abbrev pub framed : X → List ℕ
  framed x = frame (s x)

  -- a text that was read, which is a value's, is read as that value within its frame
  pub within : (text rest : List ℕ) (x : X) → Front frame form f bytes text rest → Whole s v text x → Front framed v f bytes x rest
  within text rest x a b = record {
    is_formed = b.is_formed;
    parts = a.parts ∙ ap (λ (t : List ℕ). frame t ++ rest) b.is_spelled;
    only = λ y z h k e. let one = a.only (s y) z (is_text y h) k e in (b.only y h (sym one.0), one.1);
  }

  -- where no framed text can be read, no framed value can
  pub none_around : NoFront frame form f bytes → NoFront framed v f bytes
  none_around a = record { none = λ y z h k e. a.none (s y) z (is_text y h) k e }

  -- where the framed text is no value's, no framed value can be read
  pub none_within : (text rest : List ℕ) → Front frame form f bytes text rest → NoWhole s v text → NoFront framed v f bytes
  none_within text rest a b = record { none = λ y z h k e. let one = a.only (s y) z (is_text y h) k e in b.none y h (sym one.0) }

-- ---- the end

module _ {X : Type 0} (s : X → List ℕ) (v : X → Type 0) (f : List ℕ → Type 0) (end : List ℕ) (may : f end) (bytes : List ℕ) where
  abbrev pub ended : X → List ℕ
  ended x = s x ++ end

  -- a value that was read, with just the end as its rest, is what the whole bytes spell
  pub whole_at_end : (x : X) (rest : List ℕ) → Front s v f bytes x rest → rest ≡ end → Whole ended v bytes x
  whole_at_end x rest a h = record {
    is_formed = a.is_formed;
    is_spelled = a.parts ∙ ap (λ (r : List ℕ). s x ++ r) h;
    only = λ y k e. (a.only y end k may e).0;
  }

  -- where the rest of what was read isn't just the end, the whole bytes spell no value
  pub none_at_end : (x : X) (rest : List ℕ) → Front s v f bytes x rest → (rest ≡ end → ⊥) → NoWhole ended v bytes
  none_at_end x rest a h = record { none = λ y k e. h (sym (a.only y end k may e).1) }

  -- where no value can be read, the whole bytes spell none with the end behind it
  pub none_before_end : NoFront s v f bytes → NoWhole ended v bytes
  none_before_end a = record { none = λ y k e. a.none y end k may e }
