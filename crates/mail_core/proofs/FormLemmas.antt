-- A message that was received has a control text.
use Rattle.std.proofs.Common.{◌≡◌, ◌≢◌, ◌⊎◌, inl, inr, ℕ, ◌<◌, ◌^◌, List, [], ◌∷◌, Option, sym, subst, arith}
use Rattle.std.specs.Prelude.{All, FitsSigned, IfSome, codes}
use Rattle.std.specs.Int.{w64}
use Rattle.std.proofs.lemmas.List.Elements.{All-nil, All-cons}
use Rattle.mail_base.specs.declared.message.Cut.{Cut}
use Rattle.mail_base.specs.declared.message.Message.{Message}
use Rattle.mail_base.specs.Texts.{IsHeader}
use Rattle.smtp_receive.specs.Forms.{IsFormed}
use Rattle.smtp_receive.specs.Mails.{mail_of}
use Rattle.queue_plan.specs.Parts.{IsPart}
use Rattle.queue_table.specs.Calls.{AreValid}
use Rattle.queue_table.specs.declared.terms.Terms.{Terms}
use Rattle.mail_made.specs.Messages.{headed}
use Rattle.mail_made.proofs.FormLemmas.{IsWellFormed, valid_parts as valid_well}

abbrev NotLf : ℕ → Type 0
NotLf b = b ≢ 10

line_of : (b : ℕ) (bytes : List ℕ) → b ≢ 10 → All NotLf bytes → All NotLf (b ∷ bytes)
line_of b bytes h k = All-cons NotLf b bytes h k

protocol_line : All NotLf (codes "SMTP")
protocol_line = line_of 83 (77 ∷ 84 ∷ 80 ∷ []) (λ e. omega (arith, e)) (line_of 77 (84 ∷ 80 ∷ []) (λ e. omega (arith, e)) (line_of 84 (80 ∷ []) (λ e. omega (arith, e)) (line_of 80 ([]) (λ e. omega (arith, e)) (All-nil NotLf))))

protocol_formed : (protocol : List ℕ) → (protocol ≡ codes "SMTP") ⊎ (protocol ≡ codes "ESMTP") → All NotLf protocol
protocol_formed protocol (inl e) = subst (All NotLf) (sym e) protocol_line
protocol_formed protocol (inr e) = subst (All NotLf) (sym e) (line_of 69 (codes "SMTP") (λ e. omega (arith, e)) protocol_line)

well_formed : (message : Message) (peer : List ℕ) → All NotLf peer → FitsSigned w64 message.class → IsFormed (mail_of message) peer → IsWellFormed message
well_formed message peer line class form = record {
  class = class;
  protocol = protocol_formed message.kept.protocol form.protocol_is;
  helo = form.helo_form;
  client = subst (All NotLf) (sym form.client_is) line;
  headers = form.headers_form;
}

-- the control of each of its parts is valid
pub valid_parts : (terms : Terms) (moment : ℕ) (first : Option (List ℕ)) (message : Message) (peer : List ℕ) (cuts : List Cut) → moment < 2 ^ 64 → All NotLf peer → FitsSigned w64 message.class → IfSome first IsHeader → IsFormed (mail_of message) peer → All IsPart cuts → AreValid terms (headed first message) moment cuts
valid_parts terms moment first message peer cuts fits line class header form parts =
    valid_well terms moment first message cuts fits header (well_formed message peer line class form) parts
