-- A line from what was kept of its front.
use Rattle.std.proofs.Common.{◌≡◌, ℕ, suc, ◌+◌, ◌-◌, ◌<◌, ◌≤◌, ◌==◌, min, cond, List, [], ◌∷◌, ◌++◌, length, take, refl, sym, ap, ◌∙◌, arith, ⊎_elim}
use Rattle.std.specs.Str.{bytes_eq}
use Rattle.std.proofs.lemmas.Bool.{lt-leb, cases_lt, cases_Bool, cond-true, cond-false}
use Rattle.std.proofs.lemmas.List.{take_all, take_at, take_min, take-take, take-append-le, length-take, length-append}
use Rattle.std.proofs.Math.Seq.{take-append-add}
use Rattle.mail_base.specs.Limits.{most_message, most_command}
use Rattle.smtp_lines.specs.declared.line.Line.TheVariants.{Command, TooLong, Data, DataEnd}
use Rattle.smtp_lines.specs.declared.line.Mode.TheVariants.{Commands, Message}
use Rattle.smtp_lines.specs.Stream.{command_line, message_line, without_dot, without_cr}
use Rattle.smtp_lines.specs.inner.Readings.{IsKept, enough}

enough-commands : enough Commands ≡ most_command
unfolding enough
enough-commands = refl

-- of a message's line the most, CR, LF and one byte more are enough
pub enough-message : enough Message ≡ most_message + 3
unfolding enough
enough-message = refl

-- the front of two joined texts is the first and the front of the second
pub take_joined : (front back : List ℕ) (most : ℕ) → length front ≤ most → take most (front ++ back) ≡ front ++ take (most - length front) back
take_joined front back most le =
    let e : most ≡ length front + (most - length front) = omega arith in
    ap (λ n. take n (front ++ back)) e ∙ take-append-add front back (most - length front)

-- a command line of more bytes than the most is too long
pub command-long : (begun bytes content kept : List ℕ) → IsKept Commands begun kept → begun ++ bytes ≡ content ++ 10 ∷ [] → most_command < length kept + length bytes → TooLong ≡ command_line content
command-long begun bytes content kept is whole long =
    let lens = sym (length-append begun bytes) ∙ ap length whole ∙ length-append content (10 ∷ []) in
    let short = ap length is.is ∙ length-take is.most begun in
    let more : most_command < length content + 1 = omega arith in
    sym (cond-false _ (Command (without_cr content)) TooLong (lt-leb _ _ more))

-- a command line that fits, without its LF, was kept as a whole
pub command-short : (begun bytes content kept : List ℕ) → IsKept Commands begun kept → 0 < length bytes → begun ++ bytes ≡ content ++ 10 ∷ [] → length kept + length bytes ≤ most_command → take (length kept + length bytes - 1) (kept ++ bytes) ≡ content
command-short begun bytes content kept is some whole short =
    let lens = sym (length-append begun bytes) ∙ ap length whole ∙ length-append content (10 ∷ []) in
    let kept_len = ap length is.is ∙ length-take is.most begun in
    let enough_is = enough-commands in
    let enough_le = is.enough in
    let all : length begun ≤ is.most = omega arith in
    let same : kept ≡ begun = is.is ∙ take_all is.most begun all in
    let n : length content ≡ length kept + length bytes - 1 = omega (arith, ap length same) in
    ap (λ x. take (length kept + length bytes - 1) (x ++ bytes)) same ∙ ap (take (length kept + length bytes - 1)) whole ∙ take_at content (10 ∷ []) _ n

-- the front of a message's line, without its CR LF, is at hand
pub message-front : (begun bytes content kept : List ℕ) (most limit : ℕ) → kept ≡ take most begun → limit + 1 ≤ most → 0 < length bytes → begun ++ bytes ≡ content ++ 13 ∷ 10 ∷ []
    → take (min (length kept + length bytes - 2) limit) (kept ++ bytes) ≡ take limit content
message-front begun bytes content kept most limit is le some whole =
    let lens = sym (length-append begun bytes) ∙ ap length whole ∙ length-append content (13 ∷ 10 ∷ []) in
    let kept_len = ap length is ∙ length-take most begun in
    ⊎_elim
    (λ (cut : most < length begun).
    let m : min (length kept + length bytes - 2) limit ≡ limit = omega arith in
    ap (λ n. take n (kept ++ bytes)) m
    ∙ take-append-le limit kept bytes (omega arith)
    ∙ ap (take limit) is
    ∙ take-take limit most begun (omega arith)
    ∙ sym (take-append-le limit begun bytes (omega arith))
    ∙ ap (take limit) whole
    ∙ take-append-le limit content (13 ∷ 10 ∷ []) (omega arith))
    (λ (all : length begun ≤ most).
    let same : kept ≡ begun = is ∙ take_all most begun all in
    let m : min (length kept + length bytes - 2) limit ≡ min limit (length content) = omega (arith, ap length same) in
    ap (λ n. take n (kept ++ bytes)) m
    ∙ ap (λ x. take (min limit (length content)) (x ++ bytes)) same
    ∙ ap (take (min limit (length content))) whole
    ∙ take-append-le (min limit (length content)) content (13 ∷ 10 ∷ []) (omega arith)
    ∙ take_min limit content)
    (cases_lt most (length begun))

dot_front : (limit : ℕ) (content : List ℕ) → take limit (without_dot (take (suc limit) content)) ≡ take limit (without_dot content)
dot_front limit [] = refl
dot_front limit (b ∷ content) =
    ⊎_elim
    (λ yes. ap (take limit) (cond-true _ _ _ yes) ∙ take-take limit limit content (omega arith) ∙ sym (ap (take limit) (cond-true _ _ _ yes)))
    (λ no. ap (take limit) (cond-false _ _ _ no) ∙ take-take limit (suc limit) (b ∷ content) (omega arith) ∙ sym (ap (take limit) (cond-false _ _ _ no)))
    (cases_Bool (b == 46))

dot_alone : (limit : ℕ) (content : List ℕ) → bytes_eq (take (suc (suc limit)) content) (46 ∷ []) ≡ bytes_eq content (46 ∷ [])
dot_alone limit [] = refl
dot_alone limit (b ∷ []) = refl
dot_alone limit (b ∷ c ∷ content) = refl

-- a line of a message that is longer than what stands of it
pub message_line-front : (content : List ℕ) → message_line (take (most_message + 2) content) ≡ message_line content
unfolding most_message
message_line-front content =
    ap (λ t. cond t DataEnd (Data (take (most_message + 1) (without_dot (take (most_message + 2) content))))) (dot_alone most_message content)
    ∙ ap (λ x. cond (bytes_eq content (46 ∷ [])) DataEnd (Data x)) (dot_front (most_message + 1) content)
