-- What the answer to a line says of the rows and the recipients of its transaction.
use Rattle.std.specs.Prelude.{◌≤◌, IfSome, nat_lt, nat_le}
use Rattle.std.proofs.Common.{◌≡◌, ℕ, zero, suc, ◌+◌, ◌==◌, Bool, true, false, not, ◌&&◌, List, [], ◌∷◌, length, Option, Some, None, is_some, cond, Result, Ok, Err, refl, sym, fold, arith}
use Rattle.std.proofs.lemmas.Bool.{false≢true, cond_both, ltb-false}
use Rattle.std.proofs.lemmas.List.{length-append}
use Rattle.mail_base.specs.Limits.{message_limit, recipient_limit, most_headers, most_rows}
use Rattle.mail_base.specs.declared.command.LineFault.{LineFault}
use Rattle.mail_base.specs.declared.command.LineFault.TheVariants.{BadByte as HasBadByte, Unknown, ArgumentNeeded as LacksArgument, NoArgument as HasArgument, Syntax, PathTooLong as HasLongPath, Parameter}
use Rattle.mail_base.specs.declared.command.Verb.{Verb}
use Rattle.mail_base.specs.declared.command.Verb.TheVariants.{Helo as HeloVerb, Ehlo as EhloVerb, Mail as MailVerb, Rcpt as RcptVerb, Data as DataVerb, Rset as RsetVerb, Noop as NoopVerb, Quit as QuitVerb, Vrfy as VrfyVerb, Expn as ExpnVerb, Help as HelpVerb}
use Rattle.mail_base.specs.declared.config.Config.{Config}
use Rattle.mail_base.specs.declared.draw.Draw.{Draw}
use Rattle.mail_base.specs.declared.message.Kept.{Kept}
use Rattle.mail_base.specs.declared.route.RouteError.{RouteError}
use Rattle.mail_header.specs.Fields.{class_in, hops_of}
use Rattle.mail_header.specs.Gatherings.{is_above}
use Rattle.mail_header.specs.Lines.{headers_of, body_of, block_of, size_of}
use Rattle.smtp_lines.specs.Commands.{Order, Helo, Ehlo, Mail, Rcpt, Data, Rset, Noop, Quit, Vrfy, Expn, Help}
use Rattle.smtp_lines.specs.Reading.{is_nothing, order_of}
use Rattle.smtp_lines.specs.declared.line.Line.{Line}
use Rattle.smtp_lines.specs.declared.line.Line.TheVariants.{Command, TooLong, Data as DataLine, DataEnd}
use Rattle.smtp_receive.specs.Dialogue.{Answer, Says, Grants, Gives, Exchange, Heard, Standing, answer_heard, answer_to, asked, command_answer, eight_in, end_answer, ends, exchange_of, exchanges, fault_reply, is_dropped, is_large, is_uncut, kept_in, lines_in, mail_answer, mail_fault, mail_question, message_answer, no_marks, order_question, path_reply, question, rcpt_answer, rcpt_fault, rcpt_question, read_in, recipient_answer, rows_in, rows_of, sender_answer, sender_in, standing_in, transaction, with_heard, with_rows}
use Rattle.smtp_receive.specs.Forms.{FormedFor}
use Rattle.mail_base.specs.Drawing.{AreRows}
use Rattle.smtp_receive.specs.Judging.{Question, Said, Unasked, OfSender, OfRecipient, drawn_in, refusal_in}
use Rattle.smtp_receive.specs.declared.judge.Verdict.TheVariants.{Rows, No}
use Rattle.smtp_receive.specs.declared.reply.Reply.{Reply}
use Rattle.smtp_receive.specs.declared.reply.Reply.TheVariants.{NeedRcpt, UserRequired, TooManyRecipients, RecipientOk, MessageTooLarge, HeaderTooLarge, TooManyHops, SyntaxError, PathTooLong, ParameterNotKnown}

-- what an answer says of what came before it: a recipient that is accepted has its rows, and they are
-- within the limit; where lines follow there is a recipient
abbrev pub Fits : Option Question → Standing → Said → Answer → Type 0
Fits question now said (Says RecipientOk) =
    (length now.rows + length (drawn_in said) ≤ most_rows) × (FormedFor question said → AreRows (drawn_in said))
Fits question now said Grants = 1 ≤ now.count
Fits question now said _ = Unit {0}

-- the replies that accept a recipient
abbrev pub accepts : Reply → Bool
accepts RecipientOk = true
accepts _ = false

quiet_fits : (q : Option Question) (now : Standing) (said : Said) (reply : Reply) → accepts reply ≡ false → Fits q now said (Says reply)
quiet_fits q now said RecipientOk h = absurd (false≢true (sym h))
quiet_fits q now said reply h = tt

path_quiet : (verb : Verb) (given : Bool) (reply : Reply) → accepts reply ≡ false → accepts (path_reply verb given reply) ≡ false
path_quiet HeloVerb given reply h = h
path_quiet EhloVerb given reply h = h
path_quiet MailVerb true reply h = refl
path_quiet MailVerb false reply h = h
path_quiet RcptVerb true reply h = h
path_quiet RcptVerb false reply h = refl
path_quiet DataVerb given reply h = h
path_quiet RsetVerb given reply h = h
path_quiet NoopVerb given reply h = h
path_quiet QuitVerb given reply h = h
path_quiet VrfyVerb given reply h = h
path_quiet ExpnVerb given reply h = h
path_quiet HelpVerb given reply h = h

fault_quiet : (given : Bool) (fault : LineFault) → accepts (fault_reply given fault) ≡ false
fault_quiet given HasBadByte = refl
fault_quiet given Unknown = refl
fault_quiet given LacksArgument = refl
fault_quiet given HasArgument = refl
fault_quiet given (Syntax verb) = path_quiet verb given SyntaxError refl
fault_quiet given (HasLongPath verb) = path_quiet verb given PathTooLong refl
fault_quiet given (Parameter verb) = path_quiet verb given ParameterNotKnown refl

abbrev IsQuiet : Option Reply → Type 0
IsQuiet fault = IfSome fault (λ reply. accepts reply ≡ false)

mail_quiet : (given : Bool) (limit : ℕ) (size : Option ℕ) → IsQuiet (mail_fault given limit size)
mail_quiet true limit size = refl
mail_quiet false limit size = cond_both (is_large limit size) (Some MessageTooLarge) None IsQuiet (λ h. refl) (λ h. tt)

rcpt_quiet : (given : Bool) (limit count : ℕ) (path : List ℕ) → IsQuiet (rcpt_fault given limit count path)
rcpt_quiet false limit count path = refl
rcpt_quiet true limit count path =
    cond_both (is_nothing path) (Some UserRequired) (cond (nat_le limit count) (Some TooManyRecipients) None) IsQuiet (λ h. refl)
    (λ h. cond_both (nat_le limit count) (Some TooManyRecipients) None IsQuiet (λ h. refl) (λ h. tt))

sender_fits : (q : Option Question) (now : Standing) (said : Said) (refusal : Option RouteError) (uncut : Bool) → Fits q now said (sender_answer refusal uncut)
sender_fits q now said (Some error) uncut = tt
sender_fits q now said None true = tt
sender_fits q now said None false = tt

mail_fits : (q : Option Question) (now : Standing) (said : Said) (fault : Option Reply) (operators path : List ℕ) → IsQuiet fault → Fits q now said (mail_answer fault operators path said)
mail_fits q now said (Some reply) operators path quiet = quiet_fits q now said reply quiet
mail_fits q now said None operators path quiet = sender_fits q now said (refusal_in said) (is_uncut operators path)

full_fits : (q : Option Question) (now : Standing) (said : Said) → (FormedFor q said → AreRows (drawn_in said))
    → Fits q now said (recipient_answer None (nat_lt most_rows (length now.rows + length (drawn_in said))))
full_fits q now said are =
    let n : ℕ = length now.rows + length (drawn_in said) in
    cond_both (nat_lt most_rows n) (Says TooManyRecipients) (Says RecipientOk) (Fits q now said) (λ h. tt) (λ h. (ltb-false most_rows n h, are))

asked_fits : (path sender : List ℕ) (kept : Kept) (now : Standing) (said : Said) → Fits (rcpt_question None path (Some sender) kept) now said (rcpt_answer None (length now.rows) said)
asked_fits path sender kept now Unasked = full_fits (rcpt_question None path (Some sender) kept) now Unasked (λ formed. absurd (false≢true formed.0))
asked_fits path sender kept now (OfSender None) = full_fits (rcpt_question None path (Some sender) kept) now (OfSender None) (λ formed. absurd (false≢true formed.0))
asked_fits path sender kept now (OfSender (Some error)) = tt
asked_fits path sender kept now (OfRecipient (Rows rows)) = full_fits (rcpt_question None path (Some sender) kept) now (OfRecipient (Rows rows)) (λ formed. formed.1)
asked_fits path sender kept now (OfRecipient (No error)) = tt

rcpt_fits : (fault : Option Reply) (path : List ℕ) (sender : Option (List ℕ)) (kept : Kept) (now : Standing) (said : Said) → IsQuiet fault → (fault ≡ None → is_some sender ≡ true)
    → Fits (rcpt_question fault path sender kept) now said (rcpt_answer fault (length now.rows) said)
rcpt_fits (Some reply) path sender kept now said quiet given = quiet_fits None now said reply quiet
rcpt_fits None path None kept now said quiet given = absurd (false≢true (given refl))
rcpt_fits None path (Some sender) kept now said quiet given = asked_fits path sender kept now said

-- an RCPT that has no fault has a sender
pub rcpt_given : (given : Bool) (limit count : ℕ) (path : List ℕ) → rcpt_fault given limit count path ≡ None → given ≡ true
rcpt_given true limit count path none = refl
rcpt_given false limit count path none = absurd (cc none)

some_count : (n : ℕ) → (n == 0) ≡ false → 1 ≤ n
some_count zero h = absurd (false≢true (sym h))
some_count (suc n) h = omega arith

command_fits : (config : Config) (now : Standing) (kept : Kept) (said : Said) (read : Result Order LineFault) → Fits (order_question config now kept (read_in read)) now said (command_answer config now said read)
command_fits config now kept said (Err fault) = quiet_fits None now said (fault_reply (is_some now.sender) fault) (fault_quiet (is_some now.sender) fault)
command_fits config now kept said (Ok (Helo argument)) = tt
command_fits config now kept said (Ok (Ehlo argument)) = tt
command_fits config now kept said (Ok (Mail path size eight)) =
    let fault : Option Reply = mail_fault (is_some now.sender) (message_limit config.options) size in
    mail_fits (mail_question fault path kept) now said fault config.options.operator_chars path (mail_quiet (is_some now.sender) (message_limit config.options) size)
command_fits config now kept said (Ok (Rcpt path)) =
    let limit : ℕ = recipient_limit config.options in
    rcpt_fits (rcpt_fault (is_some now.sender) limit now.count path) path now.sender kept now said (rcpt_quiet (is_some now.sender) limit now.count path) (rcpt_given (is_some now.sender) limit now.count path)
command_fits config now kept said (Ok Data) = cond_both (now.count == 0) (Says NeedRcpt) Grants (Fits None now said) (λ h. tt) (λ h. some_count now.count h)
command_fits config now kept said (Ok Rset) = tt
command_fits config now kept said (Ok Noop) = tt
command_fits config now kept said (Ok Quit) = tt
command_fits config now kept said (Ok Vrfy) = tt
command_fits config now kept said (Ok Expn) = tt
command_fits config now kept said (Ok Help) = tt

message_fits : (q : Option Question) (now : Standing) (said : Said) (config : Config) (kept : Kept) (sender : List ℕ) (eight : Bool) (rows : List Draw) (lines : List (List ℕ))
    → Fits q now said (message_answer config kept sender eight rows lines)
message_fits q now said config kept sender eight rows lines =
    let P : Answer → Type 0 = Fits q now said in
    let given : Answer = Gives (record {
      sender = sender;
      rows = rows;
      headers = headers_of lines;
      body = body_of lines;
      size = size_of lines;
      class = class_in config.precedences (headers_of lines);
      eight = eight;
      marks = no_marks;
      kept = kept;
    }) in
    let hops : Answer = cond (is_above config.options.max_hop_count (hops_of (headers_of lines))) (Says TooManyHops) given in
    let block : Answer = cond (is_above most_headers (size_of (block_of false lines))) (Says HeaderTooLarge) hops in
    cond_both (is_above (message_limit config.options) (size_of lines)) (Says MessageTooLarge) block P (λ h. tt)
    (λ h. cond_both (is_above most_headers (size_of (block_of false lines))) (Says HeaderTooLarge) hops P (λ h. tt)
    (λ h. cond_both (is_above config.options.max_hop_count (hops_of (headers_of lines))) (Says TooManyHops) given P (λ h. tt) (λ h. tt)))

end_fits : (q : Option Question) (now : Standing) (said : Said) (config : Config) (kept : Kept) (sender : Option (List ℕ)) (eight : Bool) (rows : List Draw) (lines : Option (List (List ℕ)))
    → Fits q now said (end_answer config kept sender eight rows lines)
end_fits q now said config kept None eight rows lines = tt
end_fits q now said config kept (Some sender) eight rows None = tt
end_fits q now said config kept (Some sender) eight rows (Some lines) = message_fits q now said config kept sender eight rows lines

answer_fits : (config : Config) (peer : List ℕ) (before : List Exchange) (said : Said) (line : Line) → Fits (question config peer before line) (standing_in before) said (answer_to config peer before said line)
answer_fits config peer before said (Command text) = command_fits config (standing_in before) (kept_in peer before) said (order_of text)
answer_fits config peer before said TooLong = tt
answer_fits config peer before said (DataLine text) = tt
answer_fits config peer before said DataEnd =
    end_fits None (standing_in before) said config (kept_in peer before) (sender_in before) (eight_in before) (rows_in before) (lines_in before)

-- the answer to what is heard fits what came before it
pub heard_fits : (config : Config) (peer : List ℕ) (before : List Exchange) (h : Heard)
    → IfSome (answer_heard config peer before h) (Fits (question config peer before h.line) (standing_in before) h.said)
heard_fits config peer before h =
    let P : Option Answer → Type 0 = λ o. IfSome o (Fits (question config peer before h.line) (standing_in before) h.said) in
    cond_both (h.short && not (is_dropped before h.line)) None (Some (answer_to config peer before h.said h.line)) P (λ lacks. tt) (λ says. answer_fits config peer before h.said h.line)

-- ---- rows are within their limit

abbrev AreFew : List Draw → Type 0
AreFew rows = length rows ≤ most_rows

few_more : (q : Option Question) (now : Standing) (order : Option Order) (said : Said) (answer : Option Answer) → IfSome answer (Fits q now said) → AreFew now.rows → AreFew (with_rows answer order said now.rows)
few_more q now order said (Some (Says RecipientOk)) fits few = let both = fits.0 in omega (arith, length-append now.rows (drawn_in said))
few_more q now order said _ fits few = few

few_step : (config : Config) (peer : List ℕ) (before : List Exchange) (h : Heard) → AreFew (rows_in before) → AreFew (rows_in (with_heard config peer before h))
few_step config peer before h few =
    let e : Exchange = exchange_of config peer before h in
    cond_both (ends e) [] (e ∷ transaction before) (λ es. AreFew (rows_of es)) (λ over. omega arith)
    (λ on. few_more (question config peer before h.line) (standing_in before) (asked h.line) h.said (answer_heard config peer before h) (heard_fits config peer before h) few)

few_all : (config : Config) (peer : List ℕ) (heard : List Heard) (before : List Exchange) → AreFew (rows_in before) → AreFew (rows_in (fold (with_heard config peer) before heard))
few_all config peer [] before few = few
few_all config peer (h ∷ heard) before few = few_all config peer heard (with_heard config peer before h) (few_step config peer before h few)

-- a transaction has no more rows than an entry may have
pub rows_few : (config : Config) (peer : List ℕ) (heard : List Heard) → length (rows_in (exchanges config peer heard)) ≤ most_rows
rows_few config peer heard = few_all config peer heard [] (omega arith)
