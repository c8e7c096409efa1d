-- Numbers, ids, parents and states are told apart by their spellings.
use Rattle.std.proofs.Common.{◌≡◌, ℕ, suc, ◌^◌, ◌<◌, List, ◌∷◌, ◌++◌, Some, None, get_or, refl, sym, ap, ◌∙◌, arith, ℤ, pos, negsuc}
use Rattle.std.specs.Prelude.{FitsSigned, slice_index}
use Rattle.std.specs.Int.{w64, w128}
use Rattle.std.specs.Fmt.{decimal, signed_decimal}
use Rattle.std.specs.Str.Parse.{digits_value}
use Rattle.std.proofs.lemmas.Fmt.{decimal_is_IsNumeral_wide}
use Rattle.std.proofs.lemmas.Int.{ints}
use Rattle.mail_base.specs.Limits.{IsId}
use Rattle.mail_base.specs.Names.{digits, id_text}
use Rattle.mail_base.specs.declared.control.State.{State}
use Rattle.mail_base.specs.declared.control.State.TheVariants.{Queued, Sent, Failed, Returned, Dead}
use Rattle.qf_format.specs.inner.Parts.{IsSmall, parent_text}
use Rattle.qf_format.specs.Spelling.{cause, state_text}
use Rattle.qf_format.specs.Valid.{IsCause, IsParent, IsRevision, IsState}
use Rattle.qf_format.proofs.ApartLemmas.{Once}
use Rattle.qf_format.proofs.FieldLemmas.{split_once}
use Rattle.qf_format.proofs.Numbers.{first_digit}
use Rattle.qf_format.proofs.ParentLemmas.{id_free}
use Rattle.qf_format.proofs.SignedLemmas.{are_digits}
use Rattle.qf_format.proofs.StateLemmas.{no_blank, cons_tail}

-- ---- numbers

wide_once : (x y : ℕ) → x < 2 ^ 128 → y < 2 ^ 128 → decimal x ≡ decimal y → x ≡ y
wide_once x y h k e = sym (decimal_is_IsNumeral_wide x (omega arith)).1 ∙ ap (digits_value 10) e ∙ (decimal_is_IsNumeral_wide y (omega arith)).1

-- numbers below 2 ^ 64 with the same digits are equal
pub small_once : Once decimal IsSmall
small_once x y h k e = wide_once x y (omega arith) (omega arith) e

-- revisions with the same digits are equal
pub revision_once : Once decimal IsRevision
revision_once x y h k e = wide_once x y (omega (arith, h.most)) (omega (arith, k.most)) e

minus_apart : (x : List ℕ) (m : ℕ) → m < 2 ^ 128 → 45 ∷ x ≡ decimal m → ⊥
minus_apart x m h e =
    let d = first_digit m h in
    let is : 45 ≡ get_or (decimal m) 0 0 = ap (λ (bs : List ℕ). get_or bs 0 0) e in
    omega arith

-- priorities with the same digits and sign are equal
pub priority_once : Once signed_decimal (FitsSigned w128)
priority_once (pos m) (pos n) h k e = ap pos (wide_once m n (omega (arith, ints)) (omega (arith, ints)) e)
priority_once (pos m) (negsuc n) h k e = absurd (minus_apart (decimal (suc n)) m (omega (arith, ints)) (sym e))
priority_once (negsuc m) (pos n) h k e = absurd (minus_apart (decimal (suc m)) n (omega (arith, ints)) e)
priority_once (negsuc m) (negsuc n) h k e =
    let same = wide_once (suc m) (suc n) (omega (arith, ints)) (omega (arith, ints)) (cons_tail 45 (decimal (suc m)) (decimal (suc n)) e) in
    ap negsuc (omega (arith, same))

wider : (z : ℤ) → FitsSigned w64 z → FitsSigned w128 z
wider z h = record { sfits = omega (arith, ints) }

-- classes with the same digits and sign are equal
pub class_once : Once signed_decimal (FitsSigned w64)
class_once x y h k e = priority_once x y (wider x h) (wider y k) e

id_once : Once id_text IsId
id_once x y h k e =
    let same : digits 12 x ≡ digits 12 y = cons_tail 119 (digits 12 x) (digits 12 y) e in
    sym (are_digits 12 x (omega arith)).value ∙ ap (digits_value 10) same ∙ (are_digits 12 y (omega arith)).value

-- ---- parents

-- parents with the same text are equal
pub parent_once : Once parent_text IsParent
parent_once x y h k e =
    let cut = split_once 32 (id_text x.id) (id_text y.id) (decimal x.revision) (decimal y.revision) (id_free x.id h.id) (id_free y.id k.id) e in
    let one = id_once x.id y.id h.id k.id cut.0 in
    let two = revision_once x.revision y.revision h.revision k.revision cut.1 in
    (λ i. record { id = one i; revision = two i })

-- ---- states

cause_once : (s t m n : List ℕ) → IsCause s m → IsCause t n → cause s m ≡ cause t n → (s ≡ t) × (m ≡ n)
cause_once s t m n h k e = split_once 32 s t m n (no_blank s h.status_form) (no_blank t k.status_form) (cons_tail 32 (s ++ 32 ∷ m) (t ++ 32 ∷ n) e)

letter_of : State → ℕ
letter_of (Queued _) = 81
letter_of Sent = 83
letter_of (Failed s m) = 70
letter_of (Returned id) = 82
letter_of (Dead s m) = 68

first_letter : (x : State) → slice_index (state_text x) 0 ≡ letter_of x
unfolding letter_of
first_letter (Queued None) = refl
first_letter (Queued (Some _)) = refl
first_letter Sent = refl
first_letter (Failed s m) = refl
first_letter (Returned id) = refl
first_letter (Dead s m) = refl

same_letter : (x y : State) → state_text x ≡ state_text y → letter_of x ≡ letter_of y
same_letter x y e = sym (first_letter x) ∙ ap (λ (b : List ℕ). slice_index b 0) e ∙ first_letter y

-- states with the same text are equal
pub state_once : Once state_text IsState
unfolding letter_of
state_once (Queued None) (Queued None) h k e = refl
state_once (Queued None) (Queued (Some n)) h k e = let z : 0 ≡ 32 = ap (λ (b : List ℕ). slice_index b 1) e in absurd (omega (arith, z))
state_once (Queued (Some m)) (Queued None) h k e = let z : 32 ≡ 0 = ap (λ (b : List ℕ). slice_index b 1) e in absurd (omega (arith, z))
state_once (Queued (Some m)) (Queued (Some n)) h k e = ap (λ x. Queued (Some x)) (cons_tail 32 m n (cons_tail 81 (32 ∷ m) (32 ∷ n) e))
state_once Sent Sent h k e = refl
state_once (Failed s m) (Failed t n) h k e =
    let o = cause_once s t m n h k (cons_tail 70 (cause s m) (cause t n) e) in
    (λ i. Failed (o.0 i) (o.1 i))
state_once (Returned x) (Returned y) h k e = ap (λ n. Returned n) (id_once x y h k (cons_tail 32 (id_text x) (id_text y) (cons_tail 82 (32 ∷ id_text x) (32 ∷ id_text y) e)))
state_once (Dead s m) (Dead t n) h k e =
    let o = cause_once s t m n h k (cons_tail 68 (cause s m) (cause t n) e) in
    (λ i. Dead (o.0 i) (o.1 i))
state_once x y h k e = let z : letter_of x ≡ letter_of y = same_letter x y e in absurd (omega (arith, z))
