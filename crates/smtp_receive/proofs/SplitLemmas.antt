-- A message is split as the text of its lines is.
use Rattle.std.proofs.Common.{◌≡◌, ℕ, Bool, false, cond, List, Option, Some, None, subst, sym, ap, ◌∙◌}
use Rattle.std.proofs.lemmas.Bool.{cond_both}
use Rattle.mail_base.specs.Limits.{message_limit, most_headers}
use Rattle.mail_base.specs.declared.config.Config.{Config}
use Rattle.mail_base.specs.declared.draw.Draw.{Draw}
use Rattle.mail_base.specs.declared.message.Kept.{Kept}
use Rattle.smtp_receive.specs.Mails.{Mail}
use Rattle.mail_header.specs.Fields.{class_in, hops_of}
use Rattle.mail_header.specs.Gatherings.{is_above}
use Rattle.mail_header.specs.Headers.{AreLines, text_of}
use Rattle.mail_header.specs.Lines.{headers_of, body_of, block_of, size_of}
use Rattle.mail_header.proofs.GrammarLemmas.{split_of_lines}
use Rattle.smtp_lines.specs.declared.line.Line.{Line}
use Rattle.smtp_lines.specs.declared.line.Line.TheVariants.{DataEnd}
use Rattle.smtp_receive.specs.declared.reply.Reply.TheVariants.{MessageTooLarge, HeaderTooLarge, TooManyHops}
use Rattle.smtp_receive.specs.Dialogue.{Answer, Says, Gives, Exchange, Heard, answer_to, eight_in, end_answer, exchanges, kept_in, lines_in, message_answer, no_marks, rows_in, sender_in}
use Rattle.smtp_receive.specs.Judging.{Said}
use Rattle.smtp_receive.specs.Sessions.{answer_of}
use Rattle.smtp_receive.specs.Forms.{IsSplitOf}
use Rattle.smtp_receive.proofs.ToldLemmas.{gift_at_end}

-- the message of an answer, if it gives one, is split so
abbrev AnswerSplit : List ℕ → Answer → Type 0
AnswerSplit text (Gives message) = IsSplitOf message text
AnswerSplit text _ = Unit {0}

message_split : (config : Config) (kept : Kept) (sender : List ℕ) (eight : Bool) (rows : List Draw) (lines : List (List ℕ)) → AreLines lines
    → AnswerSplit (text_of lines) (message_answer config kept sender eight rows lines)
message_split config kept sender eight rows lines are =
    let P : Answer → Type 0 = AnswerSplit (text_of lines) in
    let message : Mail = record {
      sender = sender;
      rows = rows;
      headers = headers_of lines;
      body = body_of lines;
      size = size_of lines;
      class = class_in config.precedences (headers_of lines);
      eight = eight;
      marks = no_marks;
      kept = kept;
    } in
    let hops : Answer = cond (is_above config.options.max_hop_count (hops_of (headers_of lines))) (Says TooManyHops) (Gives message) in
    let block : Answer = cond (is_above most_headers (size_of (block_of false lines))) (Says HeaderTooLarge) hops in
    cond_both (is_above (message_limit config.options) (size_of lines)) (Says MessageTooLarge) block P (λ h. tt)
    (λ h. cond_both (is_above most_headers (size_of (block_of false lines))) (Says HeaderTooLarge) hops P (λ h. tt)
    (λ h. cond_both (is_above config.options.max_hop_count (hops_of (headers_of lines))) (Says TooManyHops) (Gives message) P (λ h. tt)
    (λ h. record { block = size_of (block_of false lines); split = split_of_lines lines are })))

end_split : (config : Config) (kept : Kept) (sender : Option (List ℕ)) (eight : Bool) (rows : List Draw) (lines : List (List ℕ)) → AreLines lines
    → AnswerSplit (text_of lines) (end_answer config kept sender eight rows (Some lines))
end_split config kept (Some sender) eight rows lines are = message_split config kept sender eight rows lines are
end_split config kept None eight rows lines are = tt

-- a message that is given is split as the text of its lines is
pub given_split : (config : Config) (peer : List ℕ) (heard : List Heard) (said : Said) (line : Line) (message : Mail) (lines : List (List ℕ)) → answer_of config peer heard said line ≡ Gives message
    → lines_in (exchanges config peer heard) ≡ Some lines → AreLines lines → IsSplitOf message (text_of lines)
given_split config peer heard said line message lines gives is are =
    let before : List Exchange = exchanges config peer heard in
    let at_end : answer_to config peer before said DataEnd ≡ Gives message = ap (answer_to config peer before said) (sym (gift_at_end config peer before said line message gives)) ∙ gives in
    let here : end_answer config (kept_in peer before) (sender_in before) (eight_in before) (rows_in before) (Some lines) ≡ Gives message =
    ap (end_answer config (kept_in peer before) (sender_in before) (eight_in before) (rows_in before)) (sym is) ∙ at_end in
    subst (AnswerSplit (text_of lines)) here (end_split config (kept_in peer before) (sender_in before) (eight_in before) (rows_in before) lines are)
