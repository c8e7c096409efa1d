-- What is written of values has no LF, and values are read within lines.
use Rattle.std.proofs.Common.{◌≡◌, ℕ, suc, ◌^◌, ◌<◌, true, List, [], ◌∷◌, ◌++◌, Some, None, arith, ℤ, pos, negsuc}
use Rattle.std.specs.Prelude.{◌≢◌, FitsSigned}
use Rattle.std.specs.Int.{w64, w128}
use Rattle.std.specs.Fmt.{decimal, signed_decimal}
use Rattle.std.specs.Str.Parse.{AllDigits}
use Rattle.std.proofs.lemmas.Fmt.{decimal_is_IsNumeral_wide}
use Rattle.std.proofs.lemmas.Int.{ints}
use Rattle.std.proofs.lemmas.Str.Parse.{digit_from_value}
use Rattle.std.proofs.lemmas.List.Elements.{All-nil, All-cons, All-append, All-weaker}
use Rattle.mail_base.specs.Limits.{IsId}
use Rattle.mail_base.specs.Names.{digits, id_text}
use Rattle.mail_base.specs.Notes.{IsNote, IsLineByte, is_status}
use Rattle.mail_base.specs.Texts.{IsLine}
use Rattle.mail_base.specs.declared.control.State.{State}
use Rattle.mail_base.specs.declared.control.State.TheVariants.{Queued, Sent, Failed, Returned, Dead}
use Rattle.qf_format.specs.declared.stop.Stop.{Stop}
use Rattle.qf_format.specs.declared.stop.Stop.TheVariants.{Outside, Memory}
use Rattle.qf_format.specs.inner.Parts.{IsSmall}
use Rattle.qf_format.specs.inner.Reading.{Stops, Anything}
use Rattle.qf_format.specs.Spelling.{cause, state_text}
use Rattle.qf_format.specs.Valid.{IsCause, IsState, IsRevision}
use Rattle.qf_format.proofs.ReadLemmas.{none_around}
use Rattle.qf_format.proofs.SignedLemmas.{are_digits}
use Rattle.qf_format.proofs.StatusLemmas.{IsStatusByte, status_in}

-- a byte other than LF
abbrev pub NotLf : ℕ → Type 0
NotLf b = b ≢ 10

digits_line : (ds : List ℕ) → AllDigits 10 ds → IsLine ds
digits_line [] h = All-nil NotLf
digits_line (d ∷ ds) h = let r = digit_from_value d h.0 in All-cons NotLf d ds (λ e. omega (arith, r.0, e)) (digits_line ds h.1)

decimal_line : (n : ℕ) → n < 2 ^ 128 → IsLine (decimal n)
decimal_line n h = digits_line (decimal n) (decimal_is_IsNumeral_wide n (omega arith)).0.1

-- the digits of a number below 2 ^ 64 have no LF
pub small_line : (n : ℕ) → IsSmall n → IsLine (decimal n)
small_line n h = decimal_line n (omega arith)

-- a revision's text has no LF
pub revision_line : (n : ℕ) → IsRevision n → IsLine (decimal n)
revision_line n h = decimal_line n (omega (arith, h.most))

-- a priority's text has no LF
pub priority_line : (z : ℤ) → FitsSigned w128 z → IsLine (signed_decimal z)
priority_line (pos n) h = decimal_line n (omega (arith, ints))
priority_line (negsuc n) h = All-cons NotLf 45 (decimal (suc n)) (λ e. omega arith) (decimal_line (suc n) (omega (arith, ints)))

-- a class's text has no LF
pub class_line : (z : ℤ) → FitsSigned w64 z → IsLine (signed_decimal z)
class_line (pos n) h = decimal_line n (omega (arith, ints))
class_line (negsuc n) h = All-cons NotLf 45 (decimal (suc n)) (λ e. omega arith) (decimal_line (suc n) (omega (arith, ints)))

-- an id's text has no LF
pub id_line : (n : ℕ) → IsId n → IsLine (id_text n)
id_line n h = All-cons NotLf 119 (digits 12 n) (λ e. omega arith) (digits_line (digits 12 n) (are_digits 12 n (omega arith)).each)

note_line : (n : List ℕ) → IsNote n → IsLine n
note_line n h = All-weaker IsLineByte NotLf (λ b p. p.0) n h.line

status_line : (s : List ℕ) → is_status s ≡ true → IsLine s
status_line s h = All-weaker IsStatusByte NotLf (λ b p e. omega (arith, p.low, e)) s (status_in s h).each

cause_line : (s n : List ℕ) → IsCause s n → IsLine (cause s n)
cause_line s n h = All-cons NotLf 32 (s ++ 32 ∷ n) (λ e. omega arith) (All-append NotLf s (32 ∷ n) (status_line s h.status_form) (All-cons NotLf 32 n (λ e. omega arith) (note_line n h.note_form)))

-- a state's text has no LF
pub state_is_line : (s : State) → IsState s → IsLine (state_text s)
state_is_line (Queued None) h = All-cons NotLf 81 [] (λ e. omega arith) (All-nil NotLf)
state_is_line (Queued (Some n)) h = All-cons NotLf 81 (32 ∷ n) (λ e. omega arith) (All-cons NotLf 32 n (λ e. omega arith) (note_line n h))
state_is_line Sent h = All-cons NotLf 83 [] (λ e. omega arith) (All-nil NotLf)
state_is_line (Failed s n) h = All-cons NotLf 70 (cause s n) (λ e. omega arith) (cause_line s n h)
state_is_line (Returned i) h = All-cons NotLf 82 (32 ∷ id_text i) (λ e. omega arith) (All-cons NotLf 32 (id_text i) (λ e. omega arith) (id_line i h))
state_is_line (Dead s n) h = All-cons NotLf 68 (cause s n) (λ e. omega arith) (cause_line s n h)

-- what stops a reader of a text stops that of a value within it
pub stops_within : {X : Type 0} (frame : List ℕ → List ℕ) (s : X → List ℕ) (v : X → Type 0) (is_text : (x : X) → v x → IsLine (s x)) (bytes : List ℕ) (e : Stop) → Stops frame IsLine Anything bytes e → Stops (λ x. frame (s x)) v Anything bytes e
stops_within frame s v is_text bytes Outside h = none_around frame IsLine Anything s v is_text bytes h
stops_within frame s v is_text bytes Memory h = tt
