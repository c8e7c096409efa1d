-- What a session keeps after one exchange more.
use Rattle.std.proofs.Common.{◌≡◌, ℕ, ◌+◌, Bool, true, false, List, [], ◌∷◌, ◌++◌, Option, Some, None, is_some, not, ◌&&◌, cond, Result, Ok, Err, IfOk, OnOk, OnErr, refl, sym, ap, subst, ◌∙◌, unwrap_or}
use Rattle.std.proofs.lemmas.Bool.{false≢true, cond-true}
use Rattle.std.proofs.lemmas.List.Sums.{fold-append}
use Rattle.mail_base.specs.Answering.{Answerer}
use Rattle.mail_base.specs.Limits.{message_limit}
use Rattle.mail_base.specs.declared.config.Config.{Config}
use Rattle.mail_base.specs.declared.draw.Draw.{Draw}
use Rattle.mail_base.specs.declared.message.Kept.{Kept}
use Rattle.mail_header.specs.declared.gathered.Gathered.{Gathered}
use Rattle.mail_header.specs.Gatherings.{Gathers}
use Rattle.smtp_lines.specs.Commands.{Order}
use Rattle.smtp_lines.specs.Reading.{order_of}
use Rattle.smtp_lines.specs.declared.line.Line.{Line}
use Rattle.smtp_lines.specs.declared.line.Line.TheVariants.{Command, TooLong, Data as DataLine, DataEnd}
use Rattle.smtp_receive.specs.Dialogue.{Answer, Says, Refuses, Greets, Extends, Grants, TakesLeave, Gives, StaysSilent, Exchange, Heard, Standing, answer_heard, answer_to, argument_in, asked, command_answer, count_in, count_of, did_of, eight_of, ends, exchange_of, exchanges, helo_by, helo_in, is_dropped, kept_in, lines_in, lines_of, or_else, order_question, path_in, protocol_by, protocol_in, protocol_of, question, rows_of, sender_in, sender_of, standing_in, transaction, with_heard, with_text}
use Rattle.smtp_receive.specs.Judging.{Question, Said, Unasked, IsSaid, drawn_in}
use Rattle.smtp_receive.specs.Replies.{shown_host, text_of}
use Rattle.smtp_receive.specs.Sessions.{Holds, Keeps, Stands, cleared}
use Rattle.smtp_receive.specs.Mails.{Replied, Taken, deed_of}
use Rattle.smtp_receive.specs.declared.did.Did.{Did}
use Rattle.smtp_receive.specs.declared.reply.Reply.{Reply}
use Rattle.smtp_receive.specs.declared.reply.Reply.TheVariants.{LineTooLong, SenderOk, RecipientOk, ResetState}
use Rattle.smtp_receive.specs.declared.session.Session.{Session}
use Rattle.smtp_receive.specs.inner.Steps.{AddsLine, Changes, Does, Goes, after, answer_by, is_data, question_by, standing_of}

-- a line after which the answer is this
abbrev pub exchange : Line → Said → Option Answer → Exchange
exchange line said answer = record { line = line; said = said; answer = answer }

-- ---- commands

-- a reply that tells nothing keeps all
keep_says : (s n : Session) (config : Config) (host peer : List ℕ) (before : List Exchange) (text : List ℕ) (said : Said) (reply : Reply) → Keeps s config host peer before
    → n ≡ after s (Says reply) (asked (Command text)) said → Keeps n config host peer (exchange (Command text) said (Some (Says reply)) ∷ before)
keep_says s n config host peer before text said SenderOk k is =
    subst (λ x. Keeps x config host peer (exchange (Command text) said (Some (Says SenderOk)) ∷ before)) (sym is)
    (record {
      host_is = k.host_is;
      kept_is = k.kept_is;
      sender_is = ap (or_else (path_in (asked (Command text)))) k.sender_is;
      eight_is = refl;
      rows_is = k.rows_is;
      count_is = k.count_is;
      message_is = k.message_is;
    })
keep_says s n config host peer before text said RecipientOk k is =
    subst (λ x. Keeps x config host peer (exchange (Command text) said (Some (Says RecipientOk)) ∷ before)) (sym is)
    (record {
      host_is = k.host_is;
      kept_is = k.kept_is;
      sender_is = k.sender_is;
      eight_is = k.eight_is;
      rows_is = ap (λ rows. rows ++ drawn_in said) k.rows_is;
      count_is = ap (λ count. count + 1) k.count_is;
      message_is = k.message_is;
    })
keep_says s n config host peer before text said ResetState k is =
    subst (λ x. Keeps x config host peer (exchange (Command text) said (Some (Says ResetState)) ∷ before)) (sym is)
    (record { host_is = k.host_is; kept_is = k.kept_is; sender_is = refl; eight_is = refl; rows_is = refl; count_is = refl; message_is = tt })
keep_says s n config host peer before text said reply k is =
    subst (λ x. Keeps x config host peer (exchange (Command text) said (Some (Says reply)) ∷ before)) (sym is)
    (record {
      host_is = k.host_is;
      kept_is = k.kept_is;
      sender_is = k.sender_is;
      eight_is = k.eight_is;
      rows_is = k.rows_is;
      count_is = k.count_is;
      message_is = k.message_is;
    })

-- a greeting keeps what it tells, and ends the transaction
greeted_is : (s : Session) (peer : List ℕ) (before : List Exchange) (order : Option Order) → s.kept ≡ kept_in peer before
    → record s.kept { protocol = unwrap_or (protocol_of order) s.kept.protocol; helo = unwrap_or (argument_in order) s.kept.helo }
    ≡ record { protocol = unwrap_or (protocol_of order) (protocol_in before); helo = unwrap_or (argument_in order) (helo_in before); client = peer }
greeted_is s peer before order kept = ap (λ (k : Kept). record k { protocol = unwrap_or (protocol_of order) k.protocol; helo = unwrap_or (argument_in order) k.helo }) kept

-- what a command changes is what the exchange tells
keeps_change : (s n : Session) (config : Config) (host peer : List ℕ) (before : List Exchange) (text : List ℕ) (said : Said) (answer : Answer) → Keeps s config host peer before
    → Changes config s n answer (asked (Command text)) said → Keeps n config host peer (exchange (Command text) said (Some answer) ∷ before)
keeps_change s n config host peer before text said (Says reply) k is = keep_says s n config host peer before text said reply k is
keeps_change s n config host peer before text said (Refuses error) k is =
    subst (λ x. Keeps x config host peer (exchange (Command text) said (Some (Refuses error)) ∷ before)) (sym is)
    (record { host_is = k.host_is; kept_is = k.kept_is; sender_is = k.sender_is; eight_is = k.eight_is; rows_is = k.rows_is; count_is = k.count_is; message_is = k.message_is })
keeps_change s n config host peer before text said Greets k is =
    subst (λ x. Keeps x config host peer (exchange (Command text) said (Some Greets) ∷ before)) (sym is)
    (record {
      host_is = k.host_is;
      kept_is = greeted_is s peer before (asked (Command text)) k.kept_is;
      sender_is = refl;
      eight_is = refl;
      rows_is = refl;
      count_is = refl;
      message_is = tt;
    })
keeps_change s n config host peer before text said Extends k is =
    subst (λ x. Keeps x config host peer (exchange (Command text) said (Some Extends) ∷ before)) (sym is)
    (record {
      host_is = k.host_is;
      kept_is = greeted_is s peer before (asked (Command text)) k.kept_is;
      sender_is = refl;
      eight_is = refl;
      rows_is = refl;
      count_is = refl;
      message_is = tt;
    })
keeps_change s n config host peer before text said Grants k begins =
    subst (λ x. Keeps x config host peer (exchange (Command text) said (Some Grants) ∷ before)) (sym begins.same)
    (record { host_is = k.host_is; kept_is = k.kept_is; sender_is = k.sender_is; eight_is = k.eight_is; rows_is = k.rows_is; count_is = k.count_is; message_is = begins.begins })
keeps_change s n config host peer before text said TakesLeave k is =
    subst (λ x. Keeps x config host peer (exchange (Command text) said (Some TakesLeave) ∷ before)) (sym is)
    (record { host_is = k.host_is; kept_is = k.kept_is; sender_is = k.sender_is; eight_is = k.eight_is; rows_is = k.rows_is; count_is = k.count_is; message_is = k.message_is })
keeps_change s n config host peer before text said (Gives message) k is =
    subst (λ x. Keeps x config host peer (exchange (Command text) said (Some (Gives message)) ∷ before)) (sym is)
    (record { host_is = k.host_is; kept_is = k.kept_is; sender_is = k.sender_is; eight_is = k.eight_is; rows_is = k.rows_is; count_is = k.count_is; message_is = k.message_is })
keeps_change s n config host peer before text said StaysSilent k is =
    subst (λ x. Keeps x config host peer (exchange (Command text) said (Some StaysSilent) ∷ before)) (sym is)
    (record { host_is = k.host_is; kept_is = k.kept_is; sender_is = k.sender_is; eight_is = k.eight_is; rows_is = k.rows_is; count_is = k.count_is; message_is = k.message_is })

-- what an answer hangs on is what a session keeps
standing_is : (s : Session) (config : Config) (host peer : List ℕ) (before : List Exchange) → Keeps s config host peer before → standing_of s ≡ standing_in before
standing_is s config host peer before k =
    let P : Option (List ℕ) → ℕ → List Draw → Standing = λ a b c. record { sender = a; count = b; rows = c } in
    ap (λ a. P a s.count s.rows) k.sender_is ∙ ap (λ b. P (sender_in before) b s.rows) k.count_is ∙ ap (P (sender_in before) (count_in before)) k.rows_is

-- what a session asks is what the line does after its exchanges
pub question_is : (s : Session) (config : Config) (host peer : List ℕ) (before : List Exchange) (line : Line) → Keeps s config host peer before
    → question_by config s (asked line) ≡ question config peer before line
question_is s config host peer before line k =
    ap (λ now. order_question config now s.kept (asked line)) (standing_is s config host peer before k)
    ∙ ap (λ kept. order_question config (standing_in before) kept (asked line)) k.kept_is

goes_command : (seen : Answerer) (Test : Question → Said → Type 0) (s n : Session) (config : Config) (host peer : List ℕ) (before : List Exchange) (text : List ℕ) (did : Did)
    → Keeps s config host peer before → Does seen Test s n config (order_of text) did → Goes seen Test n config host peer before (Command text) did
goes_command seen Test s n config host peer before text did k does =
    let limit : ℕ = message_limit config.options in
    let answer : answer_by config s does.said (order_of text) ≡ answer_to config peer before does.said (Command text) =
    ap (λ now. command_answer config now does.said (order_of text)) (standing_is s config host peer before k) in
    record {
      said = does.said;
      is_said = subst (λ q. IsSaid seen Test q does.said) (question_is s config host peer before (Command text) k) does.is_said;
      did_is = does.did_is ∙ ap (λ h. did_of h limit (answer_by config s does.said (order_of text))) k.host_is ∙ ap (did_of (shown_host host) limit) answer;
      keeps = subst (λ a. Keeps n config host peer (exchange (Command text) does.said (Some a) ∷ before)) answer
          (keeps_change s n config host peer before text does.said (answer_by config s does.said (order_of text)) k does.changes);
    }

-- ---- lines that are no commands

goes_long : (seen : Answerer) (Test : Question → Said → Type 0) (s : Session) (config : Config) (host peer : List ℕ) (before : List Exchange) (did : Did) → Keeps s config host peer before
    → deed_of did ≡ Replied (text_of LineTooLong) → Goes seen Test s config host peer before TooLong did
goes_long seen Test s config host peer before did k did_is = record {
  said = Unasked;
  is_said = refl;
  did_is = did_is;
  keeps = record { host_is = k.host_is; kept_is = k.kept_is; sender_is = k.sender_is; eight_is = k.eight_is; rows_is = k.rows_is; count_is = k.count_is; message_is = k.message_is };
}

goes_data : (seen : Answerer) (Test : Question → Said → Type 0) (s n : Session) (config : Config) (host peer : List ℕ) (before : List Exchange) (text : List ℕ) (did : Did)
    → Keeps s config host peer before → deed_of did ≡ Taken → AddsLine (message_limit config.options) s n text → Goes seen Test n config host peer before (DataLine text) did
goes_data seen Test s n config host peer before text did k did_is adds = record {
  said = Unasked;
  is_said = refl;
  did_is = did_is;
  keeps = subst (λ x. Keeps x config host peer (exchange (DataLine text) Unasked (Some StaysSilent) ∷ before)) (sym adds.same)
      (record {
        host_is = k.host_is;
        kept_is = k.kept_is;
        sender_is = k.sender_is;
        eight_is = k.eight_is;
        rows_is = k.rows_is;
        count_is = k.count_is;
        message_is = adds.adds (lines_in before) k.message_is;
      });
}

protocol_none : (answer : Option Answer) → protocol_by answer None ≡ None
protocol_none (Some Greets) = refl
protocol_none (Some Extends) = refl
protocol_none _ = refl

helo_none : (answer : Option Answer) → helo_by answer None ≡ None
helo_none (Some Greets) = refl
helo_none (Some Extends) = refl
helo_none _ = refl

-- the end of data tells no greeting
kept_ended : (peer : List ℕ) (before : List Exchange) (said : Said) (answer : Option Answer) → kept_in peer (exchange DataEnd said answer ∷ before) ≡ kept_in peer before
kept_ended peer before said answer =
    let P : Option (List ℕ) → Option (List ℕ) → Kept = λ p h. record { protocol = unwrap_or p (protocol_in before); helo = unwrap_or h (helo_in before); client = peer } in
    ap (λ p. P p (helo_by answer None)) (protocol_none answer) ∙ ap (P None) (helo_none answer)

-- the end of data after exchanges that told the same greeting
pub keep_end : (s n : Session) (config : Config) (host peer : List ℕ) (earlier before : List Exchange) (said : Said) (answer : Option Answer) → Keeps s config host peer earlier
    → kept_in peer earlier ≡ kept_in peer before → n ≡ cleared s → Keeps n config host peer (exchange DataEnd said answer ∷ before)
keep_end s n config host peer earlier before said answer k same new =
    subst (λ x. Keeps x config host peer (exchange DataEnd said answer ∷ before)) (sym new)
    (record {
      host_is = k.host_is;
      kept_is = k.kept_is ∙ same ∙ sym (kept_ended peer before said answer);
      sender_is = refl;
      eight_is = refl;
      rows_is = refl;
      count_is = refl;
      message_is = tt;
    })

-- ---- a session's lines

-- one line more is one exchange more
pub heard_more : (config : Config) (peer : List ℕ) (heard : List Heard) (h : Heard) → exchanges config peer (heard ++ h ∷ []) ≡ exchange_of config peer (exchanges config peer heard) h ∷ exchanges config peer heard
heard_more config peer heard h = fold-append (with_heard config peer) [] heard (h ∷ [])

-- want of memory ends the transaction
lack_ends : (line : Line) (said : Said) → ends (exchange line said None) ≡ true
lack_ends DataEnd said = refl
lack_ends _ said = refl

ended : (before : List Exchange) (line : Line) (said : Said) → transaction (exchange line said None ∷ before) ≡ []
ended before line said = cond-true (ends (exchange line said None)) [] (exchange line said None ∷ transaction before) (lack_ends line said)

-- it leaves no answer to a line that isn't dropped
pub lacking : (config : Config) (peer : List ℕ) (before : List Exchange) (line : Line) (said : Said) → is_dropped before line ≡ false
    → answer_heard config peer before (record { line = line; said = said; short = true; id = None }) ≡ None
lacking config peer before line said kept = ap (λ b. cond (true && not b) None (Some (answer_to config peer before said line))) kept

keep_reset : (s n : Session) (config : Config) (host peer : List ℕ) (before : List Exchange) (line : Line) (said : Said) → Keeps s config host peer before → n ≡ cleared s
    → Keeps n config host peer (exchange line said None ∷ before)
keep_reset s n config host peer before line said k new =
    let gone = ended before line said in
    subst (λ x. Keeps x config host peer (exchange line said None ∷ before)) (sym new)
    (record {
      host_is = k.host_is;
      kept_is = k.kept_is;
      sender_is = sym (ap sender_of gone);
      eight_is = sym (ap (λ es. unwrap_or (eight_of es) false) gone);
      rows_is = sym (ap rows_of gone);
      count_is = sym (ap count_of gone);
      message_is = subst (λ l. Holds (message_limit config.options) None l) (sym (ap lines_of gone)) tt;
    })

-- where memory was wanting, a session that is reset stands for the line with 452
pub stands_reset : (s n : Session) (config : Config) (host peer : List ℕ) (heard : List Heard) (line : Line) (said : Said) → Stands s config host peer heard
    → is_dropped (exchanges config peer heard) line ≡ false → n ≡ cleared s → Stands n config host peer (heard ++ record { line = line; said = said; short = true; id = None } ∷ [])
stands_reset s n config host peer heard line said k kept new =
    let es : List Exchange = exchanges config peer heard in
    subst (λ all. Keeps n config host peer all) (sym (heard_more config peer heard (record { line = line; said = said; short = true; id = None })))
    (subst (λ a. Keeps n config host peer (exchange line said a ∷ es)) (sym (lacking config peer es line said kept)) (keep_reset s n config host peer es line said k new))

-- the end of data, and whether it was and is answered by want of memory
pub stands_ended : (s n : Session) (config : Config) (host peer : List ℕ) (heard : List Heard) (said says : Said) (was is : Bool) (got gets : Option ℕ)
    → Stands s config host peer (heard ++ record { line = DataEnd; said = said; short = was; id = got } ∷ []) → n ≡ cleared s
    → Stands n config host peer (heard ++ record { line = DataEnd; said = says; short = is; id = gets } ∷ [])
stands_ended s n config host peer heard said says was is got gets k new =
    let es : List Exchange = exchanges config peer heard in
    let earlier : Heard = record { line = DataEnd; said = said; short = was; id = got } in
    let last : Heard = record { line = DataEnd; said = says; short = is; id = gets } in
    subst (λ all. Keeps n config host peer all) (sym (heard_more config peer heard last))
    (keep_end s n config host peer (exchange_of config peer es earlier ∷ es) es says (answer_heard config peer es last)
    (subst (λ all. Keeps s config host peer all) (heard_more config peer heard earlier) k)
    (kept_ended peer es said (answer_heard config peer es earlier)) new)

-- ---- a line that is dropped

none_held : (limit : ℕ) (m : Option Gathered) (lines : Option (List (List ℕ))) → not (is_some lines) ≡ true → Holds limit m lines → m ≡ None
none_held limit None lines none h = refl
none_held limit (Some g) None none h = absurd h
none_held limit (Some g) (Some lines) none h = absurd (false≢true none)

-- nothing is kept of the message, and the line is of data
pub dropped_by : (s : Session) (config : Config) (host peer : List ℕ) (before : List Exchange) (line : Line) → Keeps s config host peer before → is_dropped before line ≡ true
    → (s.message ≡ None) × (is_data line ≡ true)
dropped_by s config host peer before (Command text) k dropped = absurd (false≢true dropped)
dropped_by s config host peer before TooLong k dropped = absurd (false≢true dropped)
dropped_by s config host peer before (DataLine text) k dropped = (none_held (message_limit config.options) s.message (lines_in before) dropped k.message_is, refl)
dropped_by s config host peer before DataEnd k dropped = (none_held (message_limit config.options) s.message (lines_in before) dropped k.message_is, refl)

-- ---- the same of a result

-- a command that was done goes as the dialogue says
pub command_goes : {E : Type 0} (r : Result Did E) (seen : Answerer) (Test : Question → Said → Type 0) (s n : Session) (config : Config) (host peer : List ℕ) (before : List Exchange)
    (line : Line) (text : List ℕ) → line ≡ Command text → Keeps s config host peer before → IfOk r (Does seen Test s n config (order_of text)) → IfOk r (Goes seen Test n config host peer before line)
command_goes (Err e) seen Test s n config host peer before line text is k does = tt
command_goes (Ok d) seen Test s n config host peer before line text is k does =
    subst (λ l. Goes seen Test n config host peer before l d) (sym is) (goes_command seen Test s n config host peer before text d k does)

-- a line that is too long and was answered changes nothing
pub long_goes : {E : Type 0} (r : Result Did E) (seen : Answerer) (Test : Question → Said → Type 0) (s : Session) (config : Config) (host peer : List ℕ) (before : List Exchange) (line : Line)
    → line ≡ TooLong → Keeps s config host peer before → IfOk r (λ did. deed_of did ≡ Replied (text_of LineTooLong)) → IfOk r (Goes seen Test s config host peer before line)
long_goes (Err e) seen Test s config host peer before line is k did = tt
long_goes (Ok d) seen Test s config host peer before line is k did = subst (λ l. Goes seen Test s config host peer before l d) (sym is) (goes_long seen Test s config host peer before d k did)

-- a data line that is taken is kept as one line more of the message
pub data_goes : {E : Type 0} (r : Result Did E) (seen : Answerer) (Test : Question → Said → Type 0) (s n : Session) (config : Config) (host peer : List ℕ) (before : List Exchange) (line : Line)
    (text : List ℕ) → line ≡ DataLine text → Keeps s config host peer before → IfOk r (λ did. deed_of did ≡ Taken) → IfOk r (λ _. AddsLine (message_limit config.options) s n text)
    → IfOk r (Goes seen Test n config host peer before line)
data_goes (Err e) seen Test s n config host peer before line text is k did adds = tt
data_goes (Ok d) seen Test s n config host peer before line text is k did adds =
    subst (λ l. Goes seen Test n config host peer before l d) (sym is) (goes_data seen Test s n config host peer before text d k did adds)

-- a session that is as before
pub still : {T E : Type 0} (r : Result T E) (s : Session) → OnErr r (s ≡ s)
still (Ok d) s = tt
still (Err e) s = refl

-- ---- lines of a message

holds_some : (limit : ℕ) (g n : Gathered) (text : List ℕ) → ((all : List (List ℕ)) → Gathers g limit all → Gathers n limit (all ++ text ∷ [])) → (lines : Option (List (List ℕ)))
    → Holds limit (Some g) lines → Holds limit (Some n) (with_text (DataLine text) lines)
holds_some limit g n text more None h = h
holds_some limit g n text more (Some all) h = more all h

-- a line that a gathering took is held as one line more of the message
pub holds_more : {T E : Type 0} (r : Result T E) (limit : ℕ) (m : Option Gathered) (g n : Gathered) (text : List ℕ) → m ≡ Some g
    → OnOk r ((all : List (List ℕ)) → Gathers g limit all → Gathers n limit (all ++ text ∷ []))
    → OnOk r ((lines : Option (List (List ℕ))) → Holds limit m lines → Holds limit (Some n) (with_text (DataLine text) lines))
holds_more (Err e) limit m g n text is more = tt
holds_more (Ok u) limit m g n text is more = λ lines h. holds_some limit g n text more lines (subst (λ x. Holds limit x lines) is h)

nothing_held : (limit : ℕ) (text : List ℕ) (lines : Option (List (List ℕ))) → Holds limit None lines → Holds limit None (with_text (DataLine text) lines)
nothing_held limit text None h = h
nothing_held limit text (Some all) h = absurd h

-- where no message is under way, a data line adds nothing
pub holds_none : (limit : ℕ) (m : Option Gathered) (text : List ℕ) → m ≡ None → (lines : Option (List (List ℕ))) → Holds limit m lines → Holds limit m (with_text (DataLine text) lines)
holds_none limit m text is lines h = subst (λ x. Holds limit x (with_text (DataLine text) lines)) (sym is) (nothing_held limit text lines (subst (λ x. Holds limit x lines) is h))
