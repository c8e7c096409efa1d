-- The end of data, and what is kept of a message.
use Rattle.std.specs.Prelude.{◌≤◌, IfSome}
use Rattle.std.proofs.Common.{◌≡◌, ℕ, Bool, true, false, List, [], ◌∷◌, ◌++◌, length, Option, Some, None, cond, Result, Ok, Err, IfOk, refl, sym, ap, subst, ◌∙◌, arith}
use Rattle.std.proofs.lemmas.Bool.{cond-true, cond-false, cond_both}
use Rattle.std.proofs.lemmas.List.{length-append}
use Rattle.mail_base.specs.Answering.{Answerer}
use Rattle.mail_base.specs.Limits.{message_limit, most_headers}
use Rattle.mail_base.specs.Texts.{crlf}
use Rattle.mail_base.specs.declared.config.Config.{Config}
use Rattle.mail_base.specs.declared.draw.Draw.{Draw}
use Rattle.mail_base.specs.declared.message.Kept.{Kept}
use Rattle.mail_header.specs.declared.gathered.Gathered.{Gathered}
use Rattle.mail_header.specs.Fields.{class_in, hops_of}
use Rattle.mail_header.specs.Gatherings.{Gathers, IsSmall, is_above, unless}
use Rattle.mail_header.specs.Headers.{text_of as lines_text}
use Rattle.mail_header.specs.Lines.{headers_of, body_of, block_of, size_of}
use Rattle.mail_header.proofs.SizeLemmas.{gathers_small}
use Rattle.mail_header.proofs.SplitLemmas.{exact_size, same_above}
use Rattle.smtp_lines.specs.declared.line.Line.{Line}
use Rattle.smtp_lines.specs.declared.line.Line.TheVariants.{DataEnd}
use Rattle.smtp_receive.specs.Dialogue.{Answer, Says, Gives, Exchange, did_of, eight_in, end_answer, kept_in, lines_in, message_answer, no_marks, rows_in, sender_in}
use Rattle.smtp_receive.specs.Judging.{Question, Said, Unasked}
use Rattle.smtp_receive.specs.Replies.{shown_host}
use Rattle.smtp_receive.specs.Sessions.{Holds, Keeps, cleared}
use Rattle.smtp_receive.specs.declared.did.Did.{Did}
use Rattle.smtp_receive.specs.declared.ending.End.{End}
use Rattle.smtp_receive.specs.declared.ending.End.TheVariants.{Refused, Whole}
use Rattle.smtp_receive.specs.declared.reply.Reply.TheVariants.{MessageTooLarge, HeaderTooLarge, TooManyHops}
use Rattle.smtp_receive.specs.declared.session.Session.{Session}
use Rattle.smtp_receive.specs.inner.Steps.{Ends, Goes, IsSmallIfSome, end_of, ending_of, ends_as, gathered_mail, given_in, given_or}
use Rattle.smtp_receive.proofs.KeepLemmas.{keep_end}

-- ---- what is kept is small

headers_short : (headers : List (List ℕ)) → length headers ≤ length (lines_text headers)
headers_short [] = omega arith
headers_short (h ∷ headers) = let rest = headers_short headers in omega (arith, length-append (h ++ crlf) (lines_text headers), length-append h crlf)

holds_short : (limit : ℕ) (m : Option Gathered) (lines : Option (List (List ℕ))) → Holds limit m lines → IsSmallIfSome m
holds_short limit None lines h = tt
holds_short limit (Some g) None h = absurd h
holds_short limit (Some g) (Some lines) h = let small = (gathers_small g limit lines h).headers in omega (arith, headers_short g.headers)

-- the bytes of a message under way are within its limit
pub holds_small : (limit : ℕ) (m : Option Gathered) (lines : Option (List (List ℕ))) → Holds limit m lines → IfSome m (λ g. IsSmall g limit)
holds_small limit None lines h = tt
holds_small limit (Some g) None h = absurd h
holds_small limit (Some g) (Some lines) h = gathers_small g limit lines h

-- ---- the message

within : (limit : ℕ) (g : Gathered) (lines : List (List ℕ)) → Gathers g limit lines → (b : Bool) → is_above limit g.size ≡ b → is_above limit (size_of lines) ≡ b
within limit g lines gathers b is = sym (same_above limit (size_of lines)) ∙ sym (ap (is_above limit) gathers.size) ∙ is

-- the answer to a message of these parts
abbrev answer_with : Config → Kept → List ℕ → Bool → List Draw → List (List ℕ) → List ℕ → ℕ → Answer
answer_with config kept sender eight rows headers body size =
    cond (is_above config.options.max_hop_count (hops_of headers)) (Says TooManyHops)
    (Gives (record { sender = sender; rows = rows; headers = headers; body = body; size = size; class = class_in config.precedences headers; eight = eight; marks = no_marks; kept = kept }))

message_large : (config : Config) (kept : Kept) (sender : List ℕ) (eight : Bool) (rows : List Draw) (g : Gathered) (lines : List (List ℕ)) → Gathers g (message_limit config.options) lines
    → is_above (message_limit config.options) g.size ≡ true → message_answer config kept sender eight rows lines ≡ Says MessageTooLarge
message_large config kept sender eight rows g lines gathers large =
    cond-true (is_above (message_limit config.options) (size_of lines)) _ _ (within (message_limit config.options) g lines gathers true large)

message_block : (config : Config) (kept : Kept) (sender : List ℕ) (eight : Bool) (rows : List Draw) (g : Gathered) (lines : List (List ℕ)) → Gathers g (message_limit config.options) lines
    → is_above (message_limit config.options) g.size ≡ false → is_above most_headers g.block ≡ true → message_answer config kept sender eight rows lines ≡ Says HeaderTooLarge
message_block config kept sender eight rows g lines gathers small large =
    let split = gathers.split small in
    cond-false (is_above (message_limit config.options) (size_of lines)) _ _ (within (message_limit config.options) g lines gathers false small)
    ∙ cond-true (is_above most_headers (size_of (block_of false lines))) _ _ (sym (same_above most_headers (size_of (block_of false lines))) ∙ sym (ap (is_above most_headers) split.block) ∙ large)

message_whole : (config : Config) (kept : Kept) (sender : List ℕ) (eight : Bool) (rows : List Draw) (g : Gathered) (lines : List (List ℕ)) → Gathers g (message_limit config.options) lines
    → is_above (message_limit config.options) g.size ≡ false → is_above most_headers g.block ≡ false
    → message_answer config kept sender eight rows lines ≡ answer_with config kept sender eight rows g.headers g.body g.size
message_whole config kept sender eight rows g lines gathers small small_block =
    let limit : ℕ = message_limit config.options in
    let split = gathers.split small in
    let exact = exact_size limit (size_of lines) (sym (ap (is_above limit) gathers.size) ∙ small) in
    let headers : g.headers ≡ headers_of lines = split.headers ∙ ap (λ b. unless b (headers_of lines)) small_block in
    cond-false (is_above limit (size_of lines)) _ _ (within limit g lines gathers false small)
    ∙ cond-false (is_above most_headers (size_of (block_of false lines))) _ _ (sym (same_above most_headers (size_of (block_of false lines))) ∙ sym (ap (is_above most_headers) split.block) ∙ small_block)
    ∙ ap (λ h. answer_with config kept sender eight rows h (body_of lines) (size_of lines)) (sym headers)
    ∙ ap (λ b. answer_with config kept sender eight rows g.headers b (size_of lines)) (sym split.body)
    ∙ ap (λ n. answer_with config kept sender eight rows g.headers g.body n) (sym exact ∙ sym gathers.size)

did_cond : (host : List ℕ) (limit : ℕ) (b : Bool) (one other : Answer) → did_of host limit (cond b one other) ≡ cond b (did_of host limit one) (did_of host limit other)
did_cond host limit true one other = refl
did_cond host limit false one other = refl

message_did : (host : List ℕ) (config : Config) (kept : Kept) (sender : List ℕ) (eight : Bool) (rows : List Draw) (g : Gathered) (lines : List (List ℕ)) → Gathers g (message_limit config.options) lines
    → did_of host (message_limit config.options) (message_answer config kept sender eight rows lines) ≡ ends_as (given_or config g sender rows eight kept) (ending_of (message_limit config.options) g)
message_did host config kept sender eight rows g lines gathers =
    let limit : ℕ = message_limit config.options in
    let P : End → Type 0 = λ e. did_of host limit (message_answer config kept sender eight rows lines) ≡ ends_as (given_or config g sender rows eight kept) e in
    let block : End = cond (is_above most_headers g.block) (Refused HeaderTooLarge) Whole in
    cond_both (is_above limit g.size) (Refused MessageTooLarge) block P
    (λ large. ap (did_of host limit) (message_large config kept sender eight rows g lines gathers large))
    (λ small. cond_both (is_above most_headers g.block) (Refused HeaderTooLarge) Whole P
    (λ large. ap (did_of host limit) (message_block config kept sender eight rows g lines gathers small large))
    (λ whole.
    ap (did_of host limit) (message_whole config kept sender eight rows g lines gathers small whole)
    ∙ did_cond host limit (is_above config.options.max_hop_count (hops_of g.headers)) (Says TooManyHops) (Gives (gathered_mail config g sender rows eight kept))))

end_did : (host : List ℕ) (config : Config) (kept : Kept) (eight : Bool) (rows : List Draw) (sender : Option (List ℕ)) (m : Option Gathered) (lines : Option (List (List ℕ)))
    → Holds (message_limit config.options) m lines
    → did_of host (message_limit config.options) (end_answer config kept sender eight rows lines) ≡ ends_as (given_in config kept eight rows sender m) (end_of (message_limit config.options) sender m)
end_did host config kept eight rows None m lines h = refl
end_did host config kept eight rows (Some sender) None None h = refl
end_did host config kept eight rows (Some sender) None (Some lines) h = absurd h
end_did host config kept eight rows (Some sender) (Some g) None h = absurd h
end_did host config kept eight rows (Some sender) (Some g) (Some lines) h = message_did host config kept sender eight rows g lines h

-- the answer to the end of data by what a session keeps
end_is : (s : Session) (config : Config) (host peer : List ℕ) (before : List Exchange) → Keeps s config host peer before
    → end_answer config s.kept s.sender s.eight s.rows (lines_in before) ≡ end_answer config (kept_in peer before) (sender_in before) (eight_in before) (rows_in before) (lines_in before)
end_is s config host peer before k =
    ap (λ x. end_answer config x s.sender s.eight s.rows (lines_in before)) k.kept_is
    ∙ ap (λ x. end_answer config (kept_in peer before) x s.eight s.rows (lines_in before)) k.sender_is
    ∙ ap (λ x. end_answer config (kept_in peer before) (sender_in before) x s.rows (lines_in before)) k.eight_is
    ∙ ap (λ x. end_answer config (kept_in peer before) (sender_in before) (eight_in before) x (lines_in before)) k.rows_is

goes_end : (seen : Answerer) (Test : Question → Said → Type 0) (s n : Session) (config : Config) (host peer : List ℕ) (before : List Exchange) (did : Did) → Keeps s config host peer before
    → (IsSmallIfSome s.message → Ends config s did) → n ≡ cleared s → Goes seen Test n config host peer before DataEnd did
goes_end seen Test s n config host peer before did k ends new =
    let limit : ℕ = message_limit config.options in
    let answer : Answer = end_answer config (kept_in peer before) (sender_in before) (eight_in before) (rows_in before) (lines_in before) in
    record {
      said = Unasked;
      is_said = refl;
      did_is =
          ends (holds_short limit s.message (lines_in before) k.message_is) ∙ sym (end_did (shown_host host) config s.kept s.eight s.rows s.sender s.message (lines_in before) k.message_is)
          ∙ ap (did_of (shown_host host) limit) (end_is s config host peer before k);
      keeps = keep_end s n config host peer before before Unasked (Some answer) k refl new;
    }

-- the end of data goes as the dialogue says
pub end_goes : {E : Type 0} (r : Result Did E) (seen : Answerer) (Test : Question → Said → Type 0) (s n : Session) (config : Config) (host peer : List ℕ) (before : List Exchange) (line : Line)
    → line ≡ DataEnd → Keeps s config host peer before → (IsSmallIfSome s.message → IfOk r (Ends config s)) → IfOk r (λ _. n ≡ cleared s) → IfOk r (Goes seen Test n config host peer before line)
end_goes (Err e) seen Test s n config host peer before line is k ends new = tt
end_goes (Ok d) seen Test s n config host peer before line is k ends new = subst (λ l. Goes seen Test n config host peer before l d) (sym is) (goes_end seen Test s n config host peer before d k ends new)
