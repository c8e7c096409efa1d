-- One reply alone says that a message is stored.
use Rattle.std.proofs.Common.{◌≡◌, ℕ, ◌+◌, ◌/◌, ◌==◌, Bool, true, false, cond, List, [], ◌∷◌, ◌++◌, length, Option, Some, None, is_some, Result, Ok, Err, refl, sym, ap, subst, ◌∙◌, codes, append_assoc, arith}
use Rattle.std.specs.Prelude.{◌≤◌, IfSome, nat_eq, nat_lt, slice_index}
use Rattle.std.proofs.lemmas.Bool.{false≢true, eq-eqb, cond_both}
use Rattle.std.proofs.lemmas.List.{append_cancel_left, append_cancel_right, same_from_push}
use Rattle.mail_base.specs.Limits.{IsId, message_limit, most_headers, most_rows, recipient_limit}
use Rattle.mail_base.specs.Names.{id_text}
use Rattle.mail_base.specs.Refusals.{IsRefusal}
use Rattle.mail_base.specs.Texts.{crlf}
use Rattle.mail_base.specs.declared.command.LineFault.{LineFault}
use Rattle.mail_base.specs.declared.config.Config.{Config}
use Rattle.mail_base.specs.declared.draw.Draw.{Draw}
use Rattle.mail_base.specs.declared.id.Kind.TheVariants.{Qf}
use Rattle.mail_base.specs.declared.message.Kept.{Kept}
use Rattle.smtp_receive.specs.Mails.{Mail as Mails}
use Rattle.mail_base.specs.declared.route.RouteError.{RouteError}
use Rattle.mail_base.proofs.FileNames.{same_number}
use Rattle.mail_header.specs.Fields.{class_in, hops_of}
use Rattle.mail_header.specs.Gatherings.{is_above}
use Rattle.mail_header.specs.Lines.{headers_of, body_of, block_of, size_of}
use Rattle.smtp_lines.specs.Commands.{Order, Helo, Ehlo, Mail, Rcpt, Data, Rset, Noop, Quit, Vrfy, Expn, Help}
use Rattle.smtp_lines.specs.Reading.{order_of}
use Rattle.smtp_lines.specs.declared.line.Line.{Line}
use Rattle.smtp_lines.specs.declared.line.Line.TheVariants.{Command, TooLong, Data as DataLine, DataEnd}
use Rattle.smtp_receive.specs.declared.judge.Verdict.TheVariants.{Rows, No}
use Rattle.smtp_receive.specs.declared.reply.Reply.{Reply}
use Rattle.smtp_receive.specs.declared.reply.Reply.TheVariants.{NeedRcpt, SenderOk, RecipientOk, MessageTooLarge, HeaderTooLarge, TooManyHops, ResetState, Okay, CannotVerify, SeeStandard}
use Rattle.smtp_receive.specs.Replies.{text_of, refusal_text, grant_text, greeting_text, hello_text, extended_text, closing_text, stored_text, out_of_memory_text, too_many_sessions_text}
use Rattle.smtp_receive.specs.Dialogue.{Answer, Says, Refuses, Greets, Extends, Grants, TakesLeave, Gives, StaysSilent, Exchange, Heard, Standing, answer_to, command_answer, did_of, eight_in, end_answer, exchanges, is_uncut, kept_in, lines_in, mail_answer, mail_fault, message_answer, no_marks, rcpt_answer, rcpt_fault, recipient_answer, rows_in, sender_answer, sender_in, standing_in}
use Rattle.smtp_receive.specs.Judging.{Said, Unasked, OfSender, OfRecipient, IsFormedSaid, drawn_in, refusal_in}
use Rattle.smtp_receive.specs.Sessions.{answer_of}
use Rattle.smtp_receive.specs.Finals.{text_told, IsFinal}

-- texts that differ at a place differ
differ : (i : ℕ) (one other : List ℕ) → nat_eq (slice_index one i) (slice_index other i) ≡ false → one ≡ other → ⊥
differ i one other apart same = false≢true (sym apart ∙ eq-eqb (slice_index one i) (slice_index other i) (ap (λ t. slice_index t i) same))

-- the greeting isn't the reply that a message is stored
pub greeting_final : (host : List ℕ) → IsFinal (greeting_text host) → ⊥
greeting_final host final = differ 1 (greeting_text host) (stored_text final.0) refl final.1

-- the reply to QUIT isn't the reply that a message is stored
pub closing_final : (host : List ℕ) → IsFinal (closing_text host) → ⊥
closing_final host final = differ 1 (closing_text host) (stored_text final.0) refl final.1

-- the reply at want of memory isn't the reply that a message is stored
pub memory_final : IsFinal out_of_memory_text → ⊥
memory_final final = differ 0 out_of_memory_text (stored_text final.0) refl final.1

-- the reply at too many sessions isn't the reply that a message is stored
pub sessions_final : IsFinal too_many_sessions_text → ⊥
sessions_final final = differ 0 too_many_sessions_text (stored_text final.0) refl final.1

-- whatever the host is, 250 to HELO ends with other words
pub hello_final : (host : List ℕ) → IsFinal (hello_text host) → ⊥
hello_final host final =
    let said : List ℕ = codes "250 " ++ host in
    let told : List ℕ = codes "250 2.0.0 " ++ id_text final.0 in
    let words : said ++ codes " Hello" ≡ told ++ codes " Message accepted for delivery" = append_cancel_right (said ++ codes " Hello") (told ++ codes " Message accepted for delivery") crlf final.1 in
    let last : (said ++ codes " Hell") ++ 111 ∷ [] ≡ (told ++ codes " Message accepted for deliver") ++ 121 ∷ [] =
    append_assoc said (codes " Hell") (111 ∷ []) ∙ words ∙ sym (append_assoc told (codes " Message accepted for deliver") (121 ∷ [])) in
    let same = same_from_push (said ++ codes " Hell") (told ++ codes " Message accepted for deliver") 111 121 last in
    false≢true (eq-eqb 111 121 same.1)

-- the reply to DATA isn't the reply that a message is stored
pub grant_final : IsFinal grant_text → ⊥
grant_final final = differ 0 grant_text (stored_text final.0) refl final.1

-- the reply to EHLO goes on behind its first line
pub extended_final : (host : List ℕ) (limit : ℕ) → IsFinal (extended_text host limit) → ⊥
extended_final host limit final = differ 3 (extended_text host limit) (stored_text final.0) refl final.1

first_digit : (code : ℕ) → 400 ≤ code → 48 + code / 100 ≡ 50 → ⊥
first_digit code least is = absurd (omega arith)

-- a refusal is no positive reply
pub refusal_final : (error : RouteError) → IsRefusal error → IsFinal (refusal_text error) → ⊥
refusal_final error form final = first_digit error.code form.least (ap (λ t. slice_index t 0) final.1)

-- no reply of the plain ones says that a message is stored
pub reply_final : (reply : Reply) → IsFinal (text_of reply) → ⊥
reply_final SenderOk final = differ 6 (text_of SenderOk) (stored_text final.0) refl final.1
reply_final RecipientOk final = differ 6 (text_of RecipientOk) (stored_text final.0) refl final.1
reply_final ResetState final = differ 10 (text_of ResetState) (stored_text final.0) refl final.1
reply_final Okay final = differ 10 (text_of Okay) (stored_text final.0) refl final.1
reply_final CannotVerify final = differ 2 (text_of CannotVerify) (stored_text final.0) refl final.1
reply_final SeeStandard final = differ 1 (text_of SeeStandard) (stored_text final.0) refl final.1
reply_final reply final = differ 0 (text_of reply) (stored_text final.0) refl final.1

abbrev NotFinal : Option (List ℕ) → Type 0
NotFinal told = IfSome told (λ text. IsFinal text → ⊥)

-- an answer that refuses does so in a form that can stand in a reply
abbrev RefusesWell : Answer → Type 0
RefusesWell (Refuses error) = IsRefusal error
RefusesWell _ = Unit {0}

did_final : (host : List ℕ) (limit : ℕ) (answer : Answer) → RefusesWell answer → NotFinal (text_told (did_of host limit answer))
did_final host limit (Says reply) well = reply_final reply
did_final host limit (Refuses error) well = refusal_final error well
did_final host limit Greets well = hello_final host
did_final host limit Extends well = extended_final host limit
did_final host limit Grants well = grant_final
did_final host limit TakesLeave well = closing_final host
did_final host limit (Gives message) well = tt
did_final host limit StaysSilent well = tt

refusal_well : (said : Said) → IsFormedSaid said → IfSome (refusal_in said) IsRefusal
refusal_well Unasked formed = tt
refusal_well (OfSender None) formed = tt
refusal_well (OfSender (Some error)) formed = formed
refusal_well (OfRecipient (Rows rows)) formed = tt
refusal_well (OfRecipient (No error)) formed = formed

sender_well : (refusal : Option RouteError) (uncut : Bool) → IfSome refusal IsRefusal → RefusesWell (sender_answer refusal uncut)
sender_well (Some error) uncut well = well
sender_well None true well = tt
sender_well None false well = tt

recipient_well : (refusal : Option RouteError) (full : Bool) → IfSome refusal IsRefusal → RefusesWell (recipient_answer refusal full)
recipient_well (Some error) full well = well
recipient_well None true well = tt
recipient_well None false well = tt

mail_well : (fault : Option Reply) (operators path : List ℕ) (said : Said) → IsFormedSaid said → RefusesWell (mail_answer fault operators path said)
mail_well (Some reply) operators path said formed = tt
mail_well None operators path said formed = sender_well (refusal_in said) (is_uncut operators path) (refusal_well said formed)

rcpt_well : (fault : Option Reply) (rows : ℕ) (said : Said) → IsFormedSaid said → RefusesWell (rcpt_answer fault rows said)
rcpt_well (Some reply) rows said formed = tt
rcpt_well None rows said formed = recipient_well (refusal_in said) (nat_lt most_rows (rows + length (drawn_in said))) (refusal_well said formed)

command_well : (config : Config) (now : Standing) (said : Said) (read : Result Order LineFault) → IsFormedSaid said → RefusesWell (command_answer config now said read)
command_well config now said (Err fault) formed = tt
command_well config now said (Ok (Helo argument)) formed = tt
command_well config now said (Ok (Ehlo argument)) formed = tt
command_well config now said (Ok (Mail path size eight)) formed =
    mail_well (mail_fault (is_some now.sender) (message_limit config.options) size) config.options.operator_chars path said formed
command_well config now said (Ok (Rcpt path)) formed = rcpt_well (rcpt_fault (is_some now.sender) (recipient_limit config.options) now.count path) (length now.rows) said formed
command_well config now said (Ok Data) formed = cond_both (now.count == 0) (Says NeedRcpt) Grants RefusesWell (λ h. tt) (λ h. tt)
command_well config now said (Ok Rset) formed = tt
command_well config now said (Ok Noop) formed = tt
command_well config now said (Ok Quit) formed = tt
command_well config now said (Ok Vrfy) formed = tt
command_well config now said (Ok Expn) formed = tt
command_well config now said (Ok Help) formed = tt

message_well : (config : Config) (kept : Kept) (sender : List ℕ) (eight : Bool) (rows : List Draw) (lines : List (List ℕ)) → RefusesWell (message_answer config kept sender eight rows lines)
message_well config kept sender eight rows lines =
    let message : Mails = record {
      sender = sender;
      rows = rows;
      headers = headers_of lines;
      body = body_of lines;
      size = size_of lines;
      class = class_in config.precedences (headers_of lines);
      eight = eight;
      marks = no_marks;
      kept = kept;
    } in
    let hops : Answer = cond (is_above config.options.max_hop_count (hops_of (headers_of lines))) (Says TooManyHops) (Gives message) in
    let block : Answer = cond (is_above most_headers (size_of (block_of false lines))) (Says HeaderTooLarge) hops in
    cond_both (is_above (message_limit config.options) (size_of lines)) (Says MessageTooLarge) block RefusesWell (λ h. tt)
    (λ h. cond_both (is_above most_headers (size_of (block_of false lines))) (Says HeaderTooLarge) hops RefusesWell (λ h. tt)
    (λ h. cond_both (is_above config.options.max_hop_count (hops_of (headers_of lines))) (Says TooManyHops) (Gives message) RefusesWell (λ h. tt) (λ h. tt)))

end_well : (config : Config) (kept : Kept) (sender : Option (List ℕ)) (eight : Bool) (rows : List Draw) (lines : Option (List (List ℕ))) → RefusesWell (end_answer config kept sender eight rows lines)
end_well config kept None eight rows lines = tt
end_well config kept (Some sender) eight rows None = tt
end_well config kept (Some sender) eight rows (Some lines) = message_well config kept sender eight rows lines

answer_well : (config : Config) (peer : List ℕ) (before : List Exchange) (said : Said) (line : Line) → IsFormedSaid said → RefusesWell (answer_to config peer before said line)
answer_well config peer before said (Command text) formed = command_well config (standing_in before) said (order_of text) formed
answer_well config peer before said TooLong formed = tt
answer_well config peer before said (DataLine text) formed = tt
answer_well config peer before said DataEnd formed = end_well config (kept_in peer before) (sender_in before) (eight_in before) (rows_in before) (lines_in before)

-- no answer to a line, as it is sent, says that a message is stored
pub told_final : (config : Config) (host peer : List ℕ) (limit : ℕ) (heard : List Heard) (said : Said) (line : Line) (text : List ℕ) → IsFormedSaid said
    → text_told (did_of host limit (answer_of config peer heard said line)) ≡ Some text → IsFinal text → ⊥
told_final config host peer limit heard said line text formed is =
    let before : List Exchange = exchanges config peer heard in
    subst NotFinal is (did_final host limit (answer_to config peer before said line) (answer_well config peer before said line formed))

-- replies that a message is stored are equal only for one id
pub same_id : (one other : ℕ) → IsId one → IsId other → stored_text one ≡ stored_text other → one ≡ other
same_id one other one_fits other_fits same =
    let back : List ℕ = codes " Message accepted for delivery" in
    let front : List ℕ = codes "250 2.0.0 " in
    let words : (front ++ id_text one) ++ back ≡ (front ++ id_text other) ++ back = append_cancel_right ((front ++ id_text one) ++ back) ((front ++ id_text other) ++ back) crlf same in
    let told : front ++ id_text one ≡ front ++ id_text other = append_cancel_right (front ++ id_text one) (front ++ id_text other) back words in
    let ids : id_text one ≡ id_text other = append_cancel_left front (id_text one) (id_text other) told in
    same_number Qf Qf one other one_fits other_fits (ap (λ t. codes "qf" ++ t) ids)
