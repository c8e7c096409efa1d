-- A run over a stream whose grants are known beforehand, call by call.
use Rattle.std.proofs.Common.{◌≡◌, ℕ, ◌+◌, ◌-◌, ◌<◌, Bool, true, false, cond, List, [], ◌∷◌, ◌++◌, length, take, drop, get_or, refl, sym, ap, subst, ◌∙◌, arith, append_assoc}
use Rattle.std.specs.List.{concat}
use Rattle.std.proofs.lemmas.Bool.{cond-true, false≢true}
use Rattle.std.proofs.lemmas.List.{append-nil, take_more, take_all}
use Rattle.smtp_lines.specs.declared.line.Line.{Line}
use Rattle.smtp_lines.specs.Stream.{asks, first_grant}
use Rattle.smtp_lines.specs.Reader.{asked_after, awaited, Reader, Stream, Stands, given, granted, refused}
use Rattle.smtp_lines.specs.Runs.{granted_by}
use Rattle.smtp_lines.specs.inner.Courses.{Follows}
use Rattle.smtp_lines.proofs.ReadLemmas.{asked_after-push}
use Rattle.smtp_lines.proofs.ReadingLemmas.{follows_more}
use Rattle.smtp_lines.proofs.StandLemmas.{stands_granted, stands_refused}

-- whether the last of some lines asks is whether they end in one that asks
pub last_at : (lines : List Line) (last : Line) → 0 < length lines → last ≡ get_or lines (length lines - 1) last → asks last ≡ asked_after false lines
last_at lines last some is =
    let n = length lines - 1 in
    let within : n < length lines = omega arith in
    let whole : n + 1 ≡ length lines = omega arith in
    let split : lines ≡ take n lines ++ last ∷ [] =
    sym (take_all (length lines) lines (omega arith)) ∙ sym (ap (λ m. take m lines) whole)
    ∙ take_more lines n last within ∙ ap (λ l. take n lines ++ l ∷ []) (sym is) in
    sym (ap (asked_after false) split ∙ asked_after-push false (take n lines) last)

-- the reader has given these lines of these bytes, and each that asked was answered
pub record Answered (grants rest : List Bool) (r : Reader) (lines : List Line) (bytes : List ℕ) : Type 0 where
  pub stream : Stream
  pub stands : Stands r stream
  pub follows : Follows grants (stream.granted ++ awaited r.under.may_turn false) rest
  pub lines_are : stream.lines ≡ lines
  pub bytes_are : stream.received ≡ bytes

-- the same with fresh lines, of which the last may ask and wait
pub record Answering (grants rest : List Bool) (r : Reader) (lines fresh : List Line) (bytes : List ℕ) : Type 0 where
  pub stream : Stream
  pub stands : Stands r stream
  pub turns : asked_after false fresh ≡ true → r.under.may_turn ≡ true
  pub settled : Follows grants (cond (asked_after false fresh) stream.granted (stream.granted ++ awaited r.under.may_turn false)) rest
  pub lines_are : stream.lines ≡ lines ++ fresh
  pub bytes_are : stream.received ≡ bytes
  pub all : asked_after false fresh ≡ false → r.left ≡ []

settled_is : (granted : List Bool) (asked : Bool) → cond asked granted (granted ++ awaited asked false) ≡ granted
settled_is granted true = refl
settled_is granted false = append-nil granted

-- after a call the fresh lines stand behind those before, and the last may ask and wait
pub after_call : (grants rest : List Bool) (old new : Reader) (s : Stream) (lines fresh : List Line) (bytes : List ℕ)
    → Stands new (given old.under.may_turn s fresh) → new.under.may_turn ≡ asked_after old.under.may_turn fresh → (asked_after false fresh ≡ false → new.left ≡ [])
    → Follows grants (s.granted ++ awaited old.under.may_turn false) rest → s.lines ≡ lines → s.received ≡ bytes
    → Answering grants rest new lines fresh bytes
after_call grants rest old new s lines [] bytes stands turns all follows lines_are bytes_are = record {
  stream = s;
  stands = stands;
  turns = λ no. absurd (false≢true no);
  settled = subst (λ b. Follows grants (s.granted ++ awaited b false) rest) (sym turns) follows;
  lines_are = lines_are ∙ sym (append-nil lines);
  bytes_are = bytes_are;
  all = all;
}
after_call grants rest old new s lines (line ∷ fresh) bytes stands turns all follows lines_are bytes_are =
    let told = s.granted ++ awaited old.under.may_turn false in
    let asked = asked_after (asks line) fresh in
    record {
      stream = given old.under.may_turn s (line ∷ fresh);
      stands = stands;
      turns = λ asking. turns ∙ asking;
      settled = subst (λ b. Follows grants (cond asked told (told ++ awaited b false)) rest) (sym turns) (subst (λ g. Follows grants g rest) (sym (settled_is told asked)) follows);
      lines_are = ap (λ l. l ++ (line ∷ fresh)) lines_are;
      bytes_are = bytes_are;
      all = all;
    }

answered_by : (grants rest : List Bool) (r : Reader) (s : Stream) (grant : Bool) → grant ≡ first_grant rest → Stands r s → r.under.may_turn ≡ true → Follows grants s.granted rest
    → Answered grants (drop 1 rest) (granted_by grant r) s.lines s.received
answered_by grants rest r s true is stands turns follows = record {
  stream = granted s;
  stands = stands_granted r s turns stands;
  follows = subst (λ g. Follows grants g (drop 1 rest)) (sym (append-nil (s.granted ++ true ∷ []))) (follows_more grants s.granted rest true follows is);
  lines_are = refl;
  bytes_are = refl;
}
answered_by grants rest r s false is stands turns follows = record {
  stream = refused s;
  stands = stands_refused r s turns stands;
  follows = subst (λ g. Follows grants g (drop 1 rest)) (sym (append-nil (s.granted ++ false ∷ []))) (follows_more grants s.granted rest false follows is);
  lines_are = refl;
  bytes_are = refl;
}

-- once the line that asked is answered, all lines so far are answered
pub after_answer : (grants rest : List Bool) (r new : Reader) (lines fresh : List Line) (bytes : List ℕ) → Answering grants rest r lines fresh bytes → asked_after false fresh ≡ true
    → new ≡ granted_by (first_grant rest) r → Answered grants (drop 1 rest) new (lines ++ fresh) bytes
after_answer grants rest r new lines fresh bytes a asking is =
    let s = a.stream in
    let follows = subst (λ g. Follows grants g rest) (cond-true _ _ _ asking) a.settled in
    subst (λ x. Answered grants (drop 1 rest) x (lines ++ fresh) bytes) (sym is)
    (subst (λ l. Answered grants (drop 1 rest) (granted_by (first_grant rest) r) l bytes) a.lines_are
    (subst (λ b. Answered grants (drop 1 rest) (granted_by (first_grant rest) r) s.lines b) a.bytes_are
    (answered_by grants rest r s (first_grant rest) refl a.stands (a.turns asking) follows)))

concat-push : (pieces : List (List ℕ)) (piece : List ℕ) → concat (pieces ++ piece ∷ []) ≡ concat pieces ++ piece
concat-push [] piece = append-nil piece
concat-push (p ∷ pieces) piece = ap (λ x. p ++ x) (concat-push pieces piece) ∙ sym (append_assoc p (concat pieces) piece)

-- one piece more makes the bytes so far longer by that piece
pub concat-more : (pieces : List (List ℕ)) (i : ℕ) (piece : List ℕ) → i < length pieces → piece ≡ get_or pieces i piece → concat (take (i + 1) pieces) ≡ concat (take i pieces) ++ piece
concat-more pieces i piece within is =
    ap concat (take_more pieces i piece within ∙ ap (λ p. take i pieces ++ p ∷ []) (sym is)) ∙ concat-push (take i pieces) piece

-- lines that end in one that asks do so whatever was asked before them
pub asked_after-turns : (may_turn : Bool) (fresh : List Line) → asked_after false fresh ≡ true → asked_after may_turn fresh ≡ true
asked_after-turns may_turn [] asking = absurd (false≢true asking)
asked_after-turns may_turn (line ∷ fresh) asking = asking
