-- Where messages come from.
use Rattle.std.proofs.Common.{◌≡◌, ℕ, ◌+◌, ◌==◌, List, length, Bool, true, false, not, Option, Some, None, Result, Ok, Err, refl, subst}
use Rattle.std.specs.Prelude.{is_some, nat_lt}
use Rattle.std.proofs.lemmas.Bool.{cond_both}
use Rattle.mail_base.specs.Limits.{message_limit, most_rows, recipient_limit}
use Rattle.mail_base.specs.declared.command.LineFault.{LineFault}
use Rattle.mail_base.specs.declared.config.Config.{Config}
use Rattle.mail_base.specs.declared.draw.Draw.{Draw}
use Rattle.mail_base.specs.declared.message.Kept.{Kept}
use Rattle.smtp_receive.specs.Mails.{Mail as Mails}
use Rattle.mail_base.specs.declared.route.RouteError.{RouteError}
use Rattle.smtp_lines.specs.Commands.{Order, Helo, Ehlo, Mail, Rcpt, Data, Rset, Noop, Quit, Vrfy, Expn, Help}
use Rattle.smtp_lines.specs.Reading.{order_of}
use Rattle.smtp_lines.specs.declared.line.Line.{Line}
use Rattle.smtp_lines.specs.declared.line.Line.TheVariants.{Command, TooLong, Data as DataLine, DataEnd}
use Rattle.smtp_receive.specs.Dialogue.{Answer, Says, Grants, Exchange, Gives, Standing, answer_to, command_answer, eight_in, end_answer, is_dropped, is_uncut, kept_in, lines_in, mail_answer, mail_fault, rcpt_answer, rcpt_fault, recipient_answer, rows_in, sender_answer, sender_in, standing_in}
use Rattle.smtp_receive.specs.Judging.{Said, drawn_in, refusal_in}
use Rattle.smtp_receive.specs.declared.reply.Reply.{Reply}
use Rattle.smtp_receive.specs.declared.reply.Reply.TheVariants.{NeedRcpt}

-- an answer that gives no message
abbrev GivesNone : Answer → Type 0
GivesNone (Gives message) = ⊥
GivesNone _ = Unit {0}

sender_none : (refusal : Option RouteError) (uncut : Bool) → GivesNone (sender_answer refusal uncut)
sender_none (Some error) uncut = tt
sender_none None true = tt
sender_none None false = tt

mail_none : (fault : Option Reply) (operators path : List ℕ) (said : Said) → GivesNone (mail_answer fault operators path said)
mail_none (Some reply) operators path said = tt
mail_none None operators path said = sender_none (refusal_in said) (is_uncut operators path)

recipient_none : (refusal : Option RouteError) (full : Bool) → GivesNone (recipient_answer refusal full)
recipient_none (Some error) full = tt
recipient_none None true = tt
recipient_none None false = tt

rcpt_none : (fault : Option Reply) (rows : ℕ) (said : Said) → GivesNone (rcpt_answer fault rows said)
rcpt_none (Some reply) rows said = tt
rcpt_none None rows said = recipient_none (refusal_in said) (nat_lt most_rows (rows + length (drawn_in said)))

command_none : (config : Config) (now : Standing) (said : Said) (read : Result Order LineFault) → GivesNone (command_answer config now said read)
command_none config now said (Err fault) = tt
command_none config now said (Ok (Helo argument)) = tt
command_none config now said (Ok (Ehlo argument)) = tt
command_none config now said (Ok (Mail path size eight)) = mail_none (mail_fault (is_some now.sender) (message_limit config.options) size) config.options.operator_chars path said
command_none config now said (Ok (Rcpt path)) = rcpt_none (rcpt_fault (is_some now.sender) (recipient_limit config.options) now.count path) (length now.rows) said
command_none config now said (Ok Data) = cond_both (now.count == 0) (Says NeedRcpt) Grants GivesNone (λ h. tt) (λ h. tt)
command_none config now said (Ok Rset) = tt
command_none config now said (Ok Noop) = tt
command_none config now said (Ok Quit) = tt
command_none config now said (Ok Vrfy) = tt
command_none config now said (Ok Expn) = tt
command_none config now said (Ok Help) = tt

-- a message is given at the line that ends the data
pub gift_at_end : (config : Config) (peer : List ℕ) (before : List Exchange) (said : Said) (line : Line) (message : Mails) → answer_to config peer before said line ≡ Gives message → line ≡ DataEnd
gift_at_end config peer before said (Command text) message e = absurd (subst GivesNone e (command_none config (standing_in before) said (order_of text)))
gift_at_end config peer before said TooLong message e = absurd (cc e)
gift_at_end config peer before said (DataLine text) message e = absurd (cc e)
gift_at_end config peer before said DataEnd message e = refl

-- what gives a message is kept of its lines
end_kept : (config : Config) (kept : Kept) (sender : Option (List ℕ)) (eight : Bool) (rows : List Draw) (lines : Option (List (List ℕ))) (message : Mails)
    → end_answer config kept sender eight rows lines ≡ Gives message → not (is_some lines) ≡ false
end_kept config kept None eight rows lines message e = absurd (cc e)
end_kept config kept (Some sender) eight rows None message e = absurd (cc e)
end_kept config kept (Some sender) eight rows (Some lines) message e = refl

-- a line that gives a message isn't dropped
pub gift_kept : (config : Config) (peer : List ℕ) (before : List Exchange) (said : Said) (line : Line) (message : Mails) → answer_to config peer before said line ≡ Gives message → is_dropped before line ≡ false
gift_kept config peer before said (Command text) message e = refl
gift_kept config peer before said TooLong message e = refl
gift_kept config peer before said (DataLine text) message e = absurd (cc e)
gift_kept config peer before said DataEnd message e = end_kept config (kept_in peer before) (sender_in before) (eight_in before) (rows_in before) (lines_in before) message e
