-- What a judge is asked of the paths of a session and what it says (RFC 5321, sections 3.3 and
-- 7.9: a server may refuse a sender or a recipient; the rows of a recipient are the queue's, own).
use Rattle.std.specs.Prelude.{◌≡◌, ℕ, ◌≤◌, ◌↔◌, Bool, true, false, List, [], Option, Some, None, Result, Ok, Err, IsTrue}
use Rattle.mail_base.specs.Answering.{Answerer}
use Rattle.mail_base.specs.Drawing.{AreRows}
use Rattle.mail_base.specs.Refusals.{IsRefusal}
use Rattle.mail_base.specs.declared.draw.Draw.{Draw}
use Rattle.mail_base.specs.declared.fault.JudgeFault.{JudgeFault}
use Rattle.mail_base.specs.declared.message.Kept.{Kept}
use Rattle.mail_base.specs.declared.route.RouteError.{RouteError}
use Rattle.smtp_receive.specs.declared.judge.Verdict.{Verdict}
use Rattle.smtp_receive.specs.declared.judge.Verdict.TheVariants.{Rows, No}
pub use Rattle.mail_base.specs.Answering.{is_calm}

-- what a judge is asked: of a sender, and of a recipient with the sender; paths have their angles,
-- and with each stand the macros that are kept of the session
pub data Question : Type 0 where
  AsksSender : (path : List ℕ) → Kept → Question
  AsksRecipient : (path sender : List ℕ) → Kept → Question

-- what it said at a line: nothing, where it wasn't asked; of a sender the refusal, if it refuses;
-- of a recipient its verdict
pub data Said : Type 0 where
  Unasked : Said
  OfSender : Option RouteError → Said
  OfRecipient : Verdict → Said

-- the refusal, if it refuses
abbrev pub refusal_in : Said → Option RouteError
refusal_in Unasked = None
refusal_in (OfSender refusal) = refusal
refusal_in (OfRecipient (Rows rows)) = None
refusal_in (OfRecipient (No error)) = Some error

-- the rows that it draws
abbrev pub drawn_in : Said → List Draw
drawn_in Unasked = []
drawn_in (OfSender refusal) = []
drawn_in (OfRecipient (Rows rows)) = rows
drawn_in (OfRecipient (No error)) = []

-- what is said is in its form: a refusal can stand in a reply, and rows can stand in an entry
abbrev pub IsFormedSaid : Said → Type 0
IsFormedSaid Unasked = Unit {0}
IsFormedSaid (OfSender None) = Unit {0}
IsFormedSaid (OfSender (Some error)) = IsRefusal error
IsFormedSaid (OfRecipient (Rows rows)) = AreRows rows
IsFormedSaid (OfRecipient (No error)) = IsRefusal error

-- whether something said is of the kind that a question has
abbrev pub is_answer_to : Question → Said → Bool
is_answer_to (AsksSender path kept) (OfSender refusal) = true
is_answer_to (AsksRecipient path sender kept) (OfRecipient verdict) = true
is_answer_to question said = false

-- what is said answers a question in its form, and where the judge tells its answers it is the one
-- that belongs to the question
pub record Answers (seen : Answerer) (Test : Question → Said → Type 0) (question : Question)
    (said : Said) : Type 0 where
  pub kind : is_answer_to question said ≡ true
  pub form : IsFormedSaid said
  pub told : IsTrue seen.tells → Test question said

-- what a judge says of the question at a line, if there is one
abbrev pub IsSaid : Answerer → (Question → Said → Type 0) → Option Question → Said → Type 0
IsSaid seen Test None said = said ≡ Unasked
IsSaid seen Test (Some question) said = Answers seen Test question said

-- what a judge says as something said
abbrev pub as_said : {A : Type 0} → (A → Said) → Result A JudgeFault → Result Said JudgeFault
as_said said_by (Ok answer) = Ok (said_by answer)
as_said said_by (Err fault) = Err fault

-- neither whether a judge tells its answers has changed, nor what they are
pub record IsSteady (before now : Answerer) (Before Now : Question → Said → Type 0) : Type 0 where
  pub tells : now.tells ≡ before.tells
  pub stays : IsTrue before.tells
      → (question : Question) (said : Said) → Before question said ↔ Now question said
