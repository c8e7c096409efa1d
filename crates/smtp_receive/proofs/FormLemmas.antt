-- The messages of a session have their forms.
use Rattle.std.proofs.Common.{◌≡◌, ℕ, zero, suc, ◌+◌, Bool, true, false, cond, ◌&&◌, ◌==◌, min, List, [], ◌∷◌, ◌++◌, length, Option, Some, None, is_some, Result, Ok, Err, IfOk, refl, sym, ap, subst, ◌∙◌, ⊎_elim, inl, inr, unwrap_or, fold, codes, arith}
use Rattle.std.specs.Prelude.{◌⊎◌, ◌≤◌, All, IfSome, slice_index, nat_lt}
use Rattle.std.specs.List.{list_all, AllByRecursion, prefix_len}
use Rattle.std.proofs.lemmas.Bool.{false≢true, cond_both, or_cases, and_parts, ltb-false}
use Rattle.std.proofs.lemmas.List.{length-append}
use Rattle.std.proofs.lemmas.List.Elements.{All-nil, All-cons, All-head, All-tail, All-append, All-weaker, All-from_recursion}
use Rattle.mail_base.specs.Limits.{message_limit, most_message, most_headers}
use Rattle.mail_base.specs.Texts.{is_blank, IsLine, IsBracketed, IsBlank, IsHeader, crlf}
use Rattle.mail_base.specs.declared.config.Config.{Config}
use Rattle.mail_base.specs.declared.draw.Draw.{Draw}
use Rattle.mail_base.specs.declared.message.Kept.{Kept}
use Rattle.smtp_receive.specs.Mails.{Mail as Mails}
use Rattle.mail_base.specs.declared.options.Options.{Options}
use Rattle.mail_base.specs.declared.command.LineFault.{LineFault}
use Rattle.mail_header.specs.Fields.{class_in, hops_of}
use Rattle.mail_header.specs.Headers.{is_plain, is_name_byte, is_header, is_header_by, is_continuation}
use Rattle.mail_header.specs.Gatherings.{is_above}
use Rattle.mail_header.specs.Lines.{belongs, block_of, goes_on, joined, headers_in, headers_of, body_of, size_of}
use Rattle.smtp_lines.specs.Commands.{Order, Helo, Ehlo, Mail}
use Rattle.smtp_lines.specs.Reading.{order_of}
use Rattle.smtp_lines.specs.declared.line.Line.{Line}
use Rattle.smtp_lines.specs.declared.line.Line.TheVariants.{Command, TooLong, Data as DataLine, DataEnd}
use Rattle.smtp_receive.specs.Dialogue.{Answer, Says, Greets, Extends, Grants, Gives, Exchange, Heard, answer_heard, answer_to, argument_in, asked, count_of, eight_in, end_answer, ends, exchange_of, exchanges, helo_by, helo_in, kept_in, lines_in, lines_of, message_answer, no_marks, or_else, path_in, protocol_by, protocol_in, protocol_of, question, read_in, rows_in, rows_of, sender_by, sender_in, sender_of, standing_in, transaction, with_heard, with_text}
use Rattle.smtp_receive.specs.Forms.{AreFormed, AreFormedIn, FormedFor, IsFormed}
use Rattle.mail_base.specs.Drawing.{AreRows, IsDrawn}
use Rattle.smtp_receive.specs.Judging.{Said, drawn_in}
use Rattle.smtp_receive.specs.Sessions.{answer_of}
use Rattle.smtp_receive.specs.declared.reply.Reply.TheVariants.{SenderOk, RecipientOk, MessageTooLarge, HeaderTooLarge, TooManyHops}
use Rattle.mail_header.proofs.MadeLemmas.{blank_is}
use Rattle.smtp_receive.proofs.PathLemmas.{NotLf, OrderLine, brackets_form, order_line}
use Rattle.smtp_receive.proofs.RowLemmas.{Fits, heard_fits, rows_few}
use Rattle.smtp_receive.proofs.ToldLemmas.{gift_at_end}

-- ---- the sender, and what a greeting tells

in_line : (r : Result Order LineFault) → IfOk r OrderLine → IfSome (read_in r) OrderLine
in_line (Ok order) line = line
in_line (Err fault) line = tt

asked_line : (line : Line) → IfSome (asked line) OrderLine
asked_line (Command text) = in_line (order_of text) (order_line text)
asked_line TooLong = tt
asked_line (DataLine text) = tt
asked_line DataEnd = tt

path_form : (order : Option Order) → IfSome order OrderLine → IfSome (path_in order) IsBracketed
path_form (Some (Mail path size eight)) line = brackets_form path line
path_form _ line = tt

argument_form : (order : Option Order) → IfSome order OrderLine → IfSome (argument_in order) IsLine
argument_form (Some (Helo argument)) line = line
argument_form (Some (Ehlo argument)) line = line
argument_form _ line = tt

-- the two protocols
abbrev IsProtocol : List ℕ → Type 0
IsProtocol text = (text ≡ codes "SMTP") ⊎ (text ≡ codes "ESMTP")

protocol_form : (order : Option Order) → IfSome (protocol_of order) IsProtocol
protocol_form (Some (Helo argument)) = inl refl
protocol_form (Some (Ehlo argument)) = inr refl
protocol_form _ = tt

sender_form : (answer : Option Answer) (order : Option Order) → IfSome order OrderLine → IfSome (sender_by answer order) IsBracketed
sender_form (Some (Says SenderOk)) order line = path_form order line
sender_form _ order line = tt

greeted_form : (answer : Option Answer) (order : Option Order) → IfSome order OrderLine → IfSome (helo_by answer order) IsLine
greeted_form (Some Greets) order line = argument_form order line
greeted_form (Some Extends) order line = argument_form order line
greeted_form _ order line = tt

told_form : (answer : Option Answer) (order : Option Order) → IfSome (protocol_by answer order) IsProtocol
told_form (Some Greets) order = protocol_form order
told_form (Some Extends) order = protocol_form order
told_form _ order = tt

either_form : (P : List ℕ → Type 0) (told earlier : Option (List ℕ)) → IfSome told P → IfSome earlier P → IfSome (or_else told earlier) P
either_form P (Some told) earlier one other = one
either_form P None earlier one other = other

or_earlier : (P : List ℕ → Type 0) (told : Option (List ℕ)) (earlier : List ℕ) → IfSome told P → P earlier → P (unwrap_or told earlier)
or_earlier P (Some told) earlier one other = one
or_earlier P None earlier one other = other

senders_form : (es : List Exchange) → IfSome (sender_of es) IsBracketed
senders_form [] = tt
senders_form (e ∷ es) = either_form IsBracketed (sender_by e.answer (asked e.line)) (sender_of es) (sender_form e.answer (asked e.line) (asked_line e.line)) (senders_form es)

helo_line : (before : List Exchange) → IsLine (helo_in before)
helo_line [] = All-nil NotLf
helo_line (e ∷ before) = or_earlier IsLine (helo_by e.answer (asked e.line)) (helo_in before) (greeted_form e.answer (asked e.line) (asked_line e.line)) (helo_line before)

protocol_is : (before : List Exchange) → IsProtocol (protocol_in before)
protocol_is [] = inl refl
protocol_is (e ∷ before) = or_earlier IsProtocol (protocol_by e.answer (asked e.line)) (protocol_in before) (told_form e.answer (asked e.line)) (protocol_is before)

-- ---- rows and recipients

-- each recipient has its rows, and lines follow only where there is one
record Counts (es : List Exchange) : Type 0 where
  counts : count_of es ≤ length (rows_of es)
  begun : is_some (lines_of es) ≡ true → 1 ≤ count_of es
  each : All IsDrawn (rows_of es)

some_text : (line : Line) (lines : Option (List (List ℕ))) → is_some (with_text line lines) ≡ is_some lines
some_text (Command text) lines = refl
some_text TooLong lines = refl
some_text (DataLine text) None = refl
some_text (DataLine text) (Some lines) = refl
some_text DataEnd lines = refl

-- the same of an exchange more, by its answer
abbrev CountsBy : Line → Said → Option Answer → List Exchange → Type 0
CountsBy line said answer es = Counts (record { line = line; said = said; answer = answer } ∷ es)

counts_more : (config : Config) (peer : List ℕ) (before : List Exchange) (line : Line) (said : Said) (answer : Option Answer)
    → IfSome answer (Fits (question config peer before line) (standing_in before) said) → IfSome answer (λ _. FormedFor (question config peer before line) said) → Counts (transaction before)
    → CountsBy line said answer (transaction before)
counts_more config peer before line said (Some (Says RecipientOk)) fits formed c =
    let rows = fits.1 formed in
    let some = rows.some in
    let counts = c.counts in
    record {
      counts = omega (arith, length-append (rows_in before) (drawn_in said));
      begun = λ h. omega arith;
      each = All-append IsDrawn (rows_in before) (drawn_in said) c.each rows.each;
    }
counts_more config peer before line said (Some Grants) fits formed c = record { counts = c.counts; begun = λ h. fits; each = c.each }
counts_more config peer before line said _ fits formed c =
    record { counts = c.counts; begun = λ h. c.begun (sym (some_text line (lines_in before)) ∙ h); each = c.each }

no_counts : Counts []
no_counts = record { counts = omega arith; begun = λ h. absurd (false≢true h); each = All-nil IsDrawn }

counts_step : (config : Config) (peer : List ℕ) (before : List Exchange) (h : Heard) → (AreFormedIn config peer before → Counts (transaction before)) → AreFormedIn config peer (with_heard config peer before h)
    → Counts (transaction (with_heard config peer before h))
counts_step config peer before h earlier formed =
    let e : Exchange = exchange_of config peer before h in
    cond_both (ends e) [] (e ∷ transaction before) Counts (λ over. no_counts)
    (λ on. counts_more config peer before h.line h.said (answer_heard config peer before h) (heard_fits config peer before h) formed.0 (earlier formed.1))

counts_all : (config : Config) (peer : List ℕ) (heard : List Heard) (before : List Exchange) → (AreFormedIn config peer before → Counts (transaction before))
    → AreFormedIn config peer (fold (with_heard config peer) before heard) → Counts (transaction (fold (with_heard config peer) before heard))
counts_all config peer [] before earlier formed = earlier formed
counts_all config peer (h ∷ heard) before earlier formed = counts_all config peer heard (with_heard config peer before h) (counts_step config peer before h earlier) formed

heard_counts : (config : Config) (peer : List ℕ) (heard : List Heard) → AreFormed config peer heard → Counts (transaction (exchanges config peer heard))
heard_counts config peer heard formed = counts_all config peer heard [] (λ none. no_counts) formed

-- ---- headers

-- the same as IsHeader, in a form that computes
abbrev Goes : List ℕ → Type 0
Goes header = (k : ℕ) → slice_index header k ≡ 10 → IsBlank (slice_index header (suc k))

header_from : (header : List ℕ) → Goes header → IsHeader header
header_from header goes k is =
    let next : suc k ≡ k + 1 = omega arith in
    let P : ℕ → Type 0 = λ n. IsBlank (slice_index header n) in
    subst P next (goes k is)

goes_line : (line : List ℕ) → IsLine line → Goes line
goes_line [] plain k is = absurd (omega arith)
goes_line (b ∷ line) plain zero is = absurd (All-head NotLf b line plain is)
goes_line (b ∷ line) plain (suc k) is = goes_line line (All-tail NotLf b line plain) k is

goes_onto : (line header : List ℕ) → IsLine line → IsBlank (slice_index header 0) → Goes header → Goes (line ++ (crlf ++ header))
goes_onto [] header plain blank goes zero is = absurd (omega arith)
goes_onto [] header plain blank goes (suc zero) is = blank
goes_onto [] header plain blank goes (suc (suc k)) is = goes k is
goes_onto (b ∷ line) header plain blank goes zero is = absurd (All-head NotLf b line plain is)
goes_onto (b ∷ line) header plain blank goes (suc k) is = goes_onto line header (All-tail NotLf b line plain) blank goes k is

plain_byte : (b : ℕ) → is_plain b ≡ true → NotLf b
plain_byte b plain is = false≢true (sym (ap is_plain is) ∙ plain)

plain_line : (line : List ℕ) → list_all is_plain line ≡ true → IsLine line
plain_line [] plain = All-nil NotLf
plain_line (b ∷ line) plain =
    let parts = and_parts (is_plain b) (list_all is_plain line) plain in
    All-cons NotLf b line (plain_byte b parts.0) (plain_line line parts.1)

header_line : (line : List ℕ) (n : ℕ) → is_header_by line n ≡ true → IsLine line
header_line line n is =
    let parts = and_parts (nat_lt 0 n && nat_lt n (length line)) (slice_index line n == 58 && list_all is_plain line) is in
    plain_line line (and_parts (slice_index line n == 58) (list_all is_plain line) parts.1).1

next_line : (line : List ℕ) → is_continuation line ≡ true → IsLine line
next_line line is = plain_line line (and_parts (is_blank (slice_index line 0)) (list_all is_plain line) is).1

block_line : (begun : Bool) (line : List ℕ) → belongs begun line ≡ true → IsLine line
block_line begun line is =
    ⊎_elim
    (λ first. header_line line (prefix_len is_name_byte line) first)
    (λ next. next_line line (and_parts begun (is_continuation line) next).1)
    (or_cases (is_header line) (begun && is_continuation line) is)

block_lines : (begun : Bool) (lines : List (List ℕ)) → AllByRecursion IsLine (block_of begun lines)
block_lines begun [] = tt
block_lines begun (line ∷ lines) =
    cond_both (belongs begun line) (line ∷ block_of true lines) [] (AllByRecursion IsLine)
    (λ met. (block_line begun line met, block_lines true lines))
    (λ unmet. tt)

-- the first of headers, if there is one, begins with a blank
abbrev FirstBlank : List (List ℕ) → Type 0
FirstBlank [] = Unit {0}
FirstBlank (header ∷ headers) = IsBlank (slice_index header 0)

not_blank : IsBlank 0 → ⊥
not_blank is = ⊎_elim (λ space. absurd (omega arith)) (λ tab. absurd (omega arith)) is

joined_first : (line : List ℕ) (goes : Bool) (headers : List (List ℕ)) → IsBlank (slice_index line 0) → FirstBlank (joined line goes headers)
joined_first line false headers blank = blank
joined_first line true [] blank = blank
joined_first [] true (header ∷ headers) blank = absurd (not_blank blank)
joined_first (b ∷ line) true (header ∷ headers) blank = blank

headers_first : (lines : List (List ℕ)) → goes_on lines ≡ true → FirstBlank (headers_in lines)
headers_first [] is = absurd (false≢true is)
headers_first (line ∷ lines) is =
    joined_first line (goes_on lines) (headers_in lines) (blank_is (slice_index line 0) (and_parts (is_blank (slice_index line 0)) (list_all is_plain line) is).0)

joined_all : (line : List ℕ) (goes : Bool) (headers : List (List ℕ)) → IsLine line → (goes ≡ true → FirstBlank headers) → AllByRecursion Goes headers → AllByRecursion Goes (joined line goes headers)
joined_all line false headers plain first all = (goes_line line plain, all)
joined_all line true [] plain first all = (goes_line line plain, tt)
joined_all line true (header ∷ headers) plain first all = (goes_onto line header plain (first refl) all.0, all.1)

headers_all : (lines : List (List ℕ)) → AllByRecursion IsLine lines → AllByRecursion Goes (headers_in lines)
headers_all [] plain = tt
headers_all (line ∷ lines) plain = joined_all line (goes_on lines) (headers_in lines) plain.0 (headers_first lines) (headers_all lines plain.1)

headers_form : (lines : List (List ℕ)) → All IsHeader (headers_of lines)
headers_form lines =
    let block : List (List ℕ) = block_of false lines in
    All-weaker Goes IsHeader header_from (headers_in block) (All-from_recursion Goes (headers_in block) (headers_all block (block_lines false lines)))

-- ---- messages

-- a message has no more bytes than any may have
limit_small : (options : Options) → message_limit options ≤ most_message
limit_small options =
    cond_both (options.max_message_size == 0) most_message (min options.max_message_size most_message) (λ n. n ≤ most_message) (λ h. omega arith) (λ h. omega arith)

-- the message of an answer, if it gives one, is formed
abbrev AnswerFormed : List ℕ → Answer → Type 0
AnswerFormed peer (Gives message) = IsFormed message peer
AnswerFormed peer _ = Unit {0}

message_formed : (config : Config) (peer : List ℕ) (kept : Kept) (sender : List ℕ) (eight : Bool) (rows : List Draw) (lines : List (List ℕ)) → IsLine kept.helo → IsProtocol kept.protocol
    → kept.client ≡ peer → IsBracketed sender → AreRows rows → AnswerFormed peer (message_answer config kept sender eight rows lines)
message_formed config peer kept sender eight rows lines helo protocol client sender_is rows_are =
    let P : Answer → Type 0 = AnswerFormed peer in
    let limit : ℕ = message_limit config.options in
    let message : Mails = record {
      sender = sender;
      rows = rows;
      headers = headers_of lines;
      body = body_of lines;
      size = size_of lines;
      class = class_in config.precedences (headers_of lines);
      eight = eight;
      marks = no_marks;
      kept = kept;
    } in
    let hops : Answer = cond (is_above config.options.max_hop_count (hops_of (headers_of lines))) (Says TooManyHops) (Gives message) in
    let block : Answer = cond (is_above most_headers (size_of (block_of false lines))) (Says HeaderTooLarge) hops in
    cond_both (is_above limit (size_of lines)) (Says MessageTooLarge) block P (λ h. tt)
    (λ small. cond_both (is_above most_headers (size_of (block_of false lines))) (Says HeaderTooLarge) hops P (λ h. tt)
    (λ h. cond_both (is_above config.options.max_hop_count (hops_of (headers_of lines))) (Says TooManyHops) (Gives message) P (λ h. tt)
    (λ h. record {
      sender_form = sender_is;
      rows_form = rows_are;
      headers_form = headers_form lines;
      size_range = omega (arith, ltb-false limit (size_of lines) small, limit_small config.options);
      marks_are = refl;
      protocol_is = protocol;
      helo_form = helo;
      client_is = client;
    })))

end_formed : (config : Config) (peer : List ℕ) (kept : Kept) (sender : Option (List ℕ)) (eight : Bool) (rows : List Draw) (lines : Option (List (List ℕ))) → IsLine kept.helo → IsProtocol kept.protocol
    → kept.client ≡ peer → IfSome sender IsBracketed → (is_some lines ≡ true → AreRows rows) → AnswerFormed peer (end_answer config kept sender eight rows lines)
end_formed config peer kept None eight rows lines helo protocol client sender_is rows_are = tt
end_formed config peer kept (Some sender) eight rows None helo protocol client sender_is rows_are = tt
end_formed config peer kept (Some sender) eight rows (Some lines) helo protocol client sender_is rows_are =
    message_formed config peer kept sender eight rows lines helo protocol client sender_is (rows_are refl)

-- a message that is given is formed
pub given_formed : (config : Config) (peer : List ℕ) (heard : List Heard) (said : Said) (line : Line) (message : Mails) → AreFormed config peer heard → answer_of config peer heard said line ≡ Gives message
    → IsFormed message peer
given_formed config peer heard said line message formed gives =
    let before : List Exchange = exchanges config peer heard in
    let counts = heard_counts config peer heard formed in
    let at_end : answer_to config peer before said DataEnd ≡ Gives message = ap (answer_to config peer before said) (sym (gift_at_end config peer before said line message gives)) ∙ gives in
    let few = rows_few config peer heard in
    let least = counts.counts in
    subst (AnswerFormed peer) at_end
    (end_formed config peer (kept_in peer before) (sender_in before) (eight_in before) (rows_in before) (lines_in before) (helo_line before) (protocol_is before) refl
    (senders_form (transaction before)) (λ begun. let some = counts.begun begun in record { some = omega arith; few = few; each = counts.each }))
