-- What became of a row, as it is written.
use Rattle.std.proofs.Common.{◌≡◌, ℕ, ◌+◌, true, List, [], ◌∷◌, ◌++◌, Some, None, take, drop, refl, sym, ap, subst, ◌∙◌, arith}
use Rattle.std.specs.Prelude.{◌≢◌}
use Rattle.bstr.specs.Find.{IsFirstByte, is_byte}
use Rattle.std.proofs.lemmas.List.Elements.{All-weaker}
use Rattle.mail_base.specs.Notes.{IsNote, is_status}
use Rattle.mail_base.specs.declared.control.State.{State}
use Rattle.mail_base.specs.declared.control.State.TheVariants.{Queued, Sent, Failed, Returned, Dead}
use Rattle.qf_format.specs.inner.Reading.{Whole, NoWhole}
use Rattle.mail_base.specs.Names.{id_text}
use Rattle.qf_format.specs.Spelling.{cause, state_text}
use Rattle.qf_format.specs.Valid.{IsCause, IsState}
use Rattle.qf_format.proofs.FieldLemmas.{Without, IsFirst, split_once, first_at, none_in}
use Rattle.qf_format.proofs.StatusLemmas.{IsStatusByte, status_in}

-- lists that are equal with one item in front are equal
pub cons_tail : (c : ℕ) (x y : List ℕ) → c ∷ x ≡ c ∷ y → x ≡ y
cons_tail c x y e = cc

heads : (c d : ℕ) (x y : List ℕ) → (c ≡ d → ⊥) → c ∷ x ≡ d ∷ y → ⊥
heads c d x y h e = h cc

-- a status and a note as one value
abbrev pub cause_text : List ℕ × List ℕ → List ℕ
cause_text p = cause p.0 p.1

-- the pair is a status and a note
abbrev pub IsCauseOf : List ℕ × List ℕ → Type 0
IsCauseOf p = IsCause p.0 p.1

-- ---- states with a cause

-- a state of that letter has a status and a note
abbrev HasCause : ℕ → (List ℕ → List ℕ → State) → State → Type 0
HasCause c make y = (s : List ℕ) × (m : List ℕ) × (y ≡ make s m) × IsCause s m

module _ (c : ℕ) (make : List ℕ → List ℕ → State) (text : (s m : List ℕ) → state_text (make s m) ≡ c ∷ cause s m) (form : (s m : List ℕ) → IsCause s m → IsState (make s m)) (has : (y : State) (rest : List ℕ) → IsState y → c ∷ rest ≡ state_text y → HasCause c make y) (bytes rest : List ℕ) (e : bytes ≡ c ∷ rest) where
  only_of : (y : State) → IsState y → bytes ≡ state_text y → (p : List ℕ × List ℕ) × (y ≡ make p.0 p.1) × IsCause p.0 p.1 × (rest ≡ cause p.0 p.1)
  only_of y k f =
      let h = has y rest k (sym e ∙ f) in
      ((h.0, h.1), h.2, h.3, cons_tail c rest (cause h.0 h.1) (sym e ∙ f ∙ ap state_text h.2 ∙ text h.0 h.1))

  read_of : (s m : List ℕ) → Whole cause_text IsCauseOf rest (s, m) → Whole state_text IsState bytes (make s m)
  read_of s m w = record {
    is_formed = form s m w.is_formed;
    is_spelled = e ∙ ap (λ (r : List ℕ). c ∷ r) w.is_spelled ∙ sym (text s m);
    only = λ y k f.
        let o = only_of y k f in
        let same = w.only o.0 o.2 o.3 in
        o.1 ∙ ap (λ (p : List ℕ × List ℕ). make p.0 p.1) same;
  }

  none_of : NoWhole cause_text IsCauseOf rest → NoWhole state_text IsState bytes
  none_of w = record { none = λ y k f. let o = only_of y k f in w.none o.0 o.2 o.3 }

has_failed : (y : State) (rest : List ℕ) → IsState y → 70 ∷ rest ≡ state_text y → HasCause 70 Failed y
has_failed (Queued None) rest k f = absurd (heads 70 81 rest [] (λ z. omega arith) f)
has_failed (Queued (Some m)) rest k f = absurd (heads 70 81 rest (32 ∷ m) (λ z. omega arith) f)
has_failed Sent rest k f = absurd (heads 70 83 rest [] (λ z. omega arith) f)
has_failed (Failed s m) rest k f = (s, m, refl, k)
has_failed (Returned i) rest k f = absurd (heads 70 82 rest (32 ∷ id_text i) (λ z. omega arith) f)
has_failed (Dead s m) rest k f = absurd (heads 70 68 rest (cause s m) (λ z. omega arith) f)

has_dead : (y : State) (rest : List ℕ) → IsState y → 68 ∷ rest ≡ state_text y → HasCause 68 Dead y
has_dead (Queued None) rest k f = absurd (heads 68 81 rest [] (λ z. omega arith) f)
has_dead (Queued (Some m)) rest k f = absurd (heads 68 81 rest (32 ∷ m) (λ z. omega arith) f)
has_dead Sent rest k f = absurd (heads 68 83 rest [] (λ z. omega arith) f)
has_dead (Failed s m) rest k f = absurd (heads 68 70 rest (cause s m) (λ z. omega arith) f)
has_dead (Returned i) rest k f = absurd (heads 68 82 rest (32 ∷ id_text i) (λ z. omega arith) f)
has_dead (Dead s m) rest k f = (s, m, refl, k)

-- an F with a status and a note behind it is read as the state Failed
pub failed_read : (bytes rest s m : List ℕ) → bytes ≡ 70 ∷ rest → Whole cause_text IsCauseOf rest (s, m) → Whole state_text IsState bytes (Failed s m)
failed_read bytes rest s m e w = read_of 70 Failed (λ s m. refl) (λ s m h. h) has_failed bytes rest e s m w

-- an F without a status and a note behind it is no state
pub none_failed : (bytes rest : List ℕ) → bytes ≡ 70 ∷ rest → NoWhole cause_text IsCauseOf rest → NoWhole state_text IsState bytes
none_failed bytes rest e w = none_of 70 Failed (λ s m. refl) (λ s m h. h) has_failed bytes rest e w

-- a D with a status and a note behind it is read as the state Dead
pub dead_read : (bytes rest s m : List ℕ) → bytes ≡ 68 ∷ rest → Whole cause_text IsCauseOf rest (s, m) → Whole state_text IsState bytes (Dead s m)
dead_read bytes rest s m e w = read_of 68 Dead (λ s m. refl) (λ s m h. h) has_dead bytes rest e s m w

-- a D without a status and a note behind it is no state
pub none_dead : (bytes rest : List ℕ) → bytes ≡ 68 ∷ rest → NoWhole cause_text IsCauseOf rest → NoWhole state_text IsState bytes
none_dead bytes rest e w = none_of 68 Dead (λ s m. refl) (λ s m h. h) has_dead bytes rest e w

-- ---- a status and a note

not_blank : (b : ℕ) → IsStatusByte b → b ≢ 32
not_blank b h e = omega (arith, h.low, e)

-- a status has no space
pub no_blank : (s : List ℕ) → is_status s ≡ true → Without 32 s
no_blank s h = All-weaker IsStatusByte (λ b. b ≢ 32) not_blank s (status_in s h).each

-- where the status ends
module _ (bytes rest : List ℕ) (at : ℕ) (e : bytes ≡ 32 ∷ rest) (first : IsFirst 32 rest at) where
  cause_only : (p : List ℕ × List ℕ) → IsCause p.0 p.1 → bytes ≡ cause p.0 p.1 → (p.0 ≡ take at rest) × (p.1 ≡ drop (at + 1) rest)
  cause_only p k f = split_once 32 p.0 (take at rest) p.1 (drop (at + 1) rest) (no_blank p.0 k.status_form) first.front (sym (cons_tail 32 rest (p.0 ++ 32 ∷ p.1) (sym e ∙ f)) ∙ first.parts)

  cause_read_at : IsCause (take at rest) (drop (at + 1) rest) → Whole cause_text IsCauseOf bytes (take at rest, drop (at + 1) rest)
  cause_read_at h = record {
    is_formed = h;
    is_spelled = e ∙ ap (λ (r : List ℕ). 32 ∷ r) first.parts;
    only = λ p k f. let o = cause_only p k f in (λ i. (o.0 i, o.1 i));
  }

  none_cause_at : (IsCause (take at rest) (drop (at + 1) rest) → ⊥) → NoWhole cause_text IsCauseOf bytes
  none_cause_at h = record { none = λ p k f. let o = cause_only p k f in h (cause_along p.0 (take at rest) p.1 (drop (at + 1) rest) o.0 o.1 k) }
    where
      cause_along : (a b c d : List ℕ) → a ≡ b → c ≡ d → IsCause a c → IsCause b d
      cause_along a b c d p q k = subst (λ x. IsCause x d) p (subst (λ x. IsCause a x) q k)

-- behind a space, a status up to the next one and a note from there on are read as a cause
pub cause_read : (bytes rest status note : List ℕ) (at : ℕ) → bytes ≡ 32 ∷ rest → IsFirstByte (is_byte 32) rest (Some at) → status ≡ take at rest → note ≡ drop (at + 1) rest → is_status status ≡ true → IsNote note → Whole cause_text IsCauseOf bytes (status, note)
cause_read bytes rest status note at e h p q k l =
    let formed : IsCause (take at rest) (drop (at + 1) rest) = record { status_form = subst (λ x. is_status x ≡ true) p k; note_form = subst IsNote q l } in
    subst (λ x. Whole cause_text IsCauseOf bytes x) (λ i. (sym p i, sym q i)) (cause_read_at bytes rest at e (first_at 32 rest at h) formed)

-- where what stands between two spaces is no status, the bytes are no cause
pub no_status : (bytes rest status : List ℕ) (at : ℕ) → bytes ≡ 32 ∷ rest → IsFirstByte (is_byte 32) rest (Some at) → status ≡ take at rest → (is_status status ≡ true → ⊥) → NoWhole cause_text IsCauseOf bytes
no_status bytes rest status at e h p k = none_cause_at bytes rest at e (first_at 32 rest at h) (λ c. k (subst (λ x. is_status x ≡ true) (sym p) c.status_form))

-- where what stands behind the second space is no note, the bytes are no cause
pub no_note : (bytes rest note : List ℕ) (at : ℕ) → bytes ≡ 32 ∷ rest → IsFirstByte (is_byte 32) rest (Some at) → note ≡ drop (at + 1) rest → (IsNote note → ⊥) → NoWhole cause_text IsCauseOf bytes
no_note bytes rest note at e h q k = none_cause_at bytes rest at e (first_at 32 rest at h) (λ c. k (subst IsNote (sym q) c.note_form))

-- without a second space the bytes are no cause
pub no_second : (bytes rest : List ℕ) → bytes ≡ 32 ∷ rest → IsFirstByte (is_byte 32) rest None → NoWhole cause_text IsCauseOf bytes
no_second bytes rest e h = record { none = λ p k f. none_in 32 rest p.0 p.1 h (cons_tail 32 rest (p.0 ++ 32 ∷ p.1) (sym e ∙ f)) }
