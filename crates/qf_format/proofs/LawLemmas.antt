-- Controls are told apart by their texts.
use Rattle.std.proofs.Common.{◌≡◌, ℕ, Bool, true, false, List, [], ◌∷◌, ◌++◌, Some, None, refl, sym, ap, subst, ◌∙◌, arith, inl, inr}
use Rattle.std.specs.Prelude.{◌⊎◌, ◌≢◌, ◌==◌, ◌||◌, FitsSigned, codes, slice_index}
use Rattle.std.specs.Int.{w64, w128}
use Rattle.std.specs.Fmt.{decimal, signed_decimal}
use Rattle.std.proofs.lemmas.List.{append_cancel_left}
use Rattle.std.proofs.lemmas.List.Elements.{All-nil, All-cons, All-append}
use Rattle.mail_base.specs.Texts.{IsLine, IsBracketed}
use Rattle.mail_base.specs.declared.message.Marks.{Marks}
use Rattle.qf_format.specs.inner.Parts.{AnyBool, AnyMarks, At, IsParentOrNone, IsSmall, NotAt, control_front, parent_text}
use Rattle.qf_format.specs.inner.Reading.{Anything}
use Rattle.qf_format.specs.Spelling.{eight_line, letter, letters, line, marks_line, parent_line, spelled, state_text}
use Rattle.qf_format.specs.Valid.{IsParent, IsRevision, IsState, IsValid}
use Rattle.qf_format.proofs.ApartLemmas.{Apart, Once, apart_within, apart_fewer, line_apart}
use Rattle.qf_format.proofs.OnceLemmas.{small_once, revision_once, priority_once, class_once, parent_once, state_once}
use Rattle.qf_format.proofs.TextLemmas.{NotLf, small_line, revision_line, priority_line, class_line, state_is_line}
use Rattle.qf_format.proofs.ParentLemmas.{parent_is_line}
use Rattle.qf_format.proofs.RowLemmas.{AddressText, AddressForm, state_line_text, row_apart, rows_apart}
use Rattle.qf_format.proofs.HeaderLemmas.{headers_apart}
use Rattle.qf_format.proofs.PlaceLemmas as Place
use Rattle.qf_format.proofs.OrderLemmas as Order
use Rattle.qf_format.proofs.EnvelopeLemmas as Envelope
use Rattle.qf_format.proofs.KeptLemmas as Kept
use Rattle.qf_format.proofs.ControlLemmas as Control

-- a value within a line behind a tag
tagged_apart : {X : Type 0} (tag : List ℕ) (s : X → List ℕ) (v : X → Type 0) → ((x : X) → v x → IsLine (s x)) → Once s v → Apart (λ x. line (tag ++ s x)) v Anything
tagged_apart tag s v is_text o = apart_within (λ text. line (tag ++ text)) IsLine Anything s v is_text (line_apart tag) o

number_apart : (tag : List ℕ) → Apart (λ n. line (tag ++ decimal n)) IsSmall Anything
number_apart tag = tagged_apart tag decimal IsSmall small_line small_once

-- ---- optional lines

not_first : (c : ℕ) (x z : List ℕ) → slice_index x 0 ≡ c → NotAt c z → x ≡ z → ⊥
not_first c x z h k e = k (subst (At c) e h)

parent_line_apart : Apart parent_line IsParentOrNone (NotAt 112)
parent_line_apart None None r q h k m n e = (refl, e)
parent_line_apart None (Some y) r q h k m n e = absurd (not_first 112 (parent_line (Some y) ++ q) r refl m (sym e))
parent_line_apart (Some x) None r q h k m n e = absurd (not_first 112 (parent_line (Some x) ++ r) q refl n e)
parent_line_apart (Some x) (Some y) r q h k m n e =
    let o = tagged_apart (codes "p") parent_text IsParent parent_is_line parent_once x y r q h k tt tt e in
    (ap (λ p. Some p) o.0, o.1)

eight_apart : Apart eight_line AnyBool (At 83)
eight_apart true true r q h k m n e = (refl, append_cancel_left (eight_line true) r q e)
eight_apart true false r q h k m n e = let z : 66 ≡ slice_index q 0 = ap (λ (b : List ℕ). slice_index b 0) e in absurd (omega (arith, z, n))
eight_apart false true r q h k m n e = let z : slice_index r 0 ≡ 66 = ap (λ (b : List ℕ). slice_index b 0) e in absurd (omega (arith, z, m))
eight_apart false false r q h k m n e = (refl, e)

-- ---- marks

abbrev marks_of : Bool → Bool → Bool → Marks
marks_of a b c = record { bounce = a; double = b; warned = c }

-- whether a letter is there
has : ℕ → List ℕ → Bool
has c [] = false
has c (b ∷ bytes) = (b == c) || has c bytes

marks_in : List ℕ → Marks
marks_in bytes = marks_of (has 98 bytes) (has 100 bytes) (has 119 bytes)

marks_back : (a b c : Bool) → marks_in (letters (marks_of a b c)) ≡ marks_of a b c
unfolding marks_in has
marks_back true true true = refl
marks_back true true false = refl
marks_back true false true = refl
marks_back true false false = refl
marks_back false true true = refl
marks_back false true false = refl
marks_back false false true = refl
marks_back false false false = refl

letter_line : (a : Bool) (c : ℕ) → c ≢ 10 → IsLine (letter a (c ∷ []))
letter_line true c h = All-cons NotLf c [] h (All-nil NotLf)
letter_line false c h = All-nil NotLf

letters_line : (a b c : Bool) → IsLine (letters (marks_of a b c))
letters_line a b c =
    All-append NotLf (letter a (codes "b") ++ letter b (codes "d")) (letter c (codes "w"))
    (All-append NotLf (letter a (codes "b")) (letter b (codes "d")) (letter_line a 98 (λ e. omega arith)) (letter_line b 100 (λ e. omega arith)))
    (letter_line c 119 (λ e. omega arith))

-- the line of marks is there, or none is set
abbrev HasLine : Marks → Type 0
HasLine marks = (marks_line marks ≡ line (codes "F" ++ letters marks)) ⊎ ((marks_line marks ≡ []) × (marks ≡ marks_of false false false))

has_line : (a b c : Bool) → HasLine (marks_of a b c)
has_line true b c = inl refl
has_line false true c = inl refl
has_line false false true = inl refl
has_line false false false = inr (refl, refl)

letters_apart : Apart (λ m. line (codes "F" ++ letters m)) AnyMarks Anything
letters_apart = tagged_apart (codes "F") letters AnyMarks (λ x h. letters_line x.bounce x.double x.warned) (λ x y h k e. sym (marks_back x.bounce x.double x.warned) ∙ ap marks_in e ∙ marks_back y.bounce y.double y.warned)

with_rest : (x y r q : List ℕ) (u v : List ℕ) → x ≡ u → y ≡ v → x ++ r ≡ y ++ q → u ++ r ≡ v ++ q
with_rest x y r q u v h k e = ap (λ (b : List ℕ). b ++ r) (sym h) ∙ e ∙ ap (λ (b : List ℕ). b ++ q) k

marks_apart : Apart marks_line AnyMarks (NotAt 70)
marks_apart x y r q h k m n e = elim (has_line x.bounce x.double x.warned) [
  | inl a ↦ elim (has_line y.bounce y.double y.warned) [
    | inl b ↦ letters_apart x y r q tt tt tt tt (with_rest (marks_line x) (marks_line y) r q (line (codes "F" ++ letters x)) (line (codes "F" ++ letters y)) a b e)
    | inr b ↦ absurd (not_first 70 (line (codes "F" ++ letters x) ++ r) q refl n (with_rest (marks_line x) (marks_line y) r q (line (codes "F" ++ letters x)) [] a b.0 e))
  ]
  | inr a ↦ elim (has_line y.bounce y.double y.warned) [
    | inl b ↦ absurd (not_first 70 (line (codes "F" ++ letters y) ++ q) r refl m (sym (with_rest (marks_line x) (marks_line y) r q [] (line (codes "F" ++ letters y)) a.0 b e)))
    | inr b ↦ (a.1 ∙ sym b.1, with_rest (marks_line x) (marks_line y) r q [] [] a.0 b.0 e)
  ]
]

-- ---- rows

address_apart : (a b : Bool) (x y r q : List ℕ) → IsLine x → IsLine y → AddressText (a, x) ++ r ≡ AddressText (b, y) ++ q → (a ≡ b) × (x ≡ y) × (r ≡ q)
address_apart true true x y r q h k e = let o = line_apart (codes "RPFD:") x y r q h k tt tt e in (refl, o.0, o.1)
address_apart false false x y r q h k e = let o = line_apart (codes "RFD:") x y r q h k tt tt e in (refl, o.0, o.1)
address_apart true false x y r q h k e = let z : 80 ≡ 70 = ap (λ (b : List ℕ). slice_index b 1) e in absurd (omega (arith, z))
address_apart false true x y r q h k e = let z : 70 ≡ 80 = ap (λ (b : List ℕ). slice_index b 1) e in absurd (omega (arith, z))

addresses_apart : Apart AddressText AddressForm Anything
addresses_apart x y r q h k m n e =
    let o = address_apart x.0 y.0 x.1 y.1 r q h.line k.line e in
    (λ i. (o.0 i, o.1 i), o.2)

states_apart : Apart state_line_text IsState Anything
states_apart = tagged_apart (codes "e") state_text IsState state_is_line state_once

-- ---- the whole

sender_apart : Apart (λ text. line (codes "S" ++ text)) IsBracketed Anything
sender_apart = apart_fewer (λ text. line (codes "S" ++ text)) IsLine IsBracketed Anything (λ x h. h.line) (line_apart (codes "S"))

front_apart : Apart control_front IsValid (At 46)
front_apart = Control.apart_all
    (Place.apart_all (tagged_apart (codes "V1\nv") decimal IsRevision revision_line revision_once) parent_line_apart (line_apart (codes "g")))
    (Order.apart_all (number_apart (codes "T")) (number_apart (codes "K")) (number_apart (codes "N")) (tagged_apart (codes "P") signed_decimal (FitsSigned w128) priority_line priority_once) (tagged_apart (codes "c") signed_decimal (FitsSigned w64) class_line class_once))
    (Envelope.apart_all marks_apart eight_apart sender_apart)
    (Kept.apart_all (line_apart (codes "$r")) (line_apart (codes "$s")) (line_apart (codes "${client_addr}")))
    (rows_apart (row_apart addresses_apart states_apart))
    headers_apart

-- controls with the same text are the same control
pub spelled_once : Once spelled IsValid
unfolding spelled control_front
spelled_once x y h k e = (front_apart x y (line (codes ".")) (line (codes ".")) h k refl refl e).0
