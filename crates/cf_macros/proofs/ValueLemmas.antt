-- The value of a text by its first construct, where no limit is met.
use Rattle.std.proofs.Common.{◌≡◌, ◌≢◌, ℕ, zero, ◌+◌, ◌≤◌, List, [], ◌∷◌, ◌++◌, length, map, refl, ap, sym, ◌∙◌, append_assoc, append-nil, if◌then◌else◌, Ok}
use Rattle.std.specs.Prelude.{All}
use Rattle.std.proofs.lemmas.List.Elements.{All-head, All-tail}
use Rattle.cf_macros.specs.declared.scope.Scope.{Scope}
use Rattle.cf_macros.specs.Readings.{Parts, Nothing, Bytes, Refer, Choose, Reading, reading}
use Rattle.cf_macros.specs.Expansion.{Act, Gives, silent, gives_any, acts_of, whole, followed, outcome, value_in}
use Rattle.cf_macros.specs.Written.{Byte, Simple, simple_spelling, IsSimple, Part, part_spelling, IsPart, set_to, chosen, Then, Joins}
use Rattle.cf_macros.proofs.InsideLemmas.{inside-put}
use Rattle.cf_macros.proofs.StackLemmas.{outcome-gives}
use Rattle.cf_macros.proofs.OutcomeLemmas.{splits, more-references, outcome-given, outcome-silent, outcome-any, outcome-anywhere, is_some_text, Clean, clean-ok, clean-silent, deeper-text}
use Rattle.cf_macros.proofs.WrittenLemmas.{ReadsAs, kind_of, text_of, front_of, simple_reads, part_front, part_reads}

-- the value of a text whose front has these acts
record Cut (scope : Scope) (macros : List (List ℕ × List ℕ)) (acts : (List ℕ → List Act) → List Act) (text given : List ℕ) : Type 0 where
  pub front : List ℕ
  pub first : outcome 10000 1048576 (acts (followed scope 10 macros)) ≡ Ok front
  pub rest : Then front (value_in scope text macros) given

cut : (scope : Scope) (macros : List (List ℕ × List ℕ)) (front : Parts → Parts) (acts : (List ℕ → List Act) → List Act) → ((f : List ℕ → List Act) (parts : Parts) → acts_of f (front parts) ≡ acts f ++ acts_of f parts) →
    (all text given : List ℕ) → ReadsAs scope 0 all front text → value_in scope all macros ≡ Ok given → Cut scope macros acts text given
unfolding value_in
cut scope macros front acts h all text given r e =
    let f : List ℕ → List Act = followed scope 10 macros in
    let split : whole f (reading scope 0 0 all) ≡ acts f ++ whole f (reading scope r.next 0 text) = ap (whole f) r.reads ∙ inside-put f front (acts f) (h f) zero (reading scope r.next 0 text) in
    let s = splits 10000 1048576 (acts f) (whole f (reading scope r.next 0 text)) given (ap (outcome 10000 1048576) (sym split) ∙ e) in
    record { front = s.front; first = s.first; rest = (s.back, outcome-anywhere scope f r.next 0 10000 1048576 text s.back s.later, s.whole) }

-- a simple construct is read as what it is, and the text behind it
pub simple_front : (scope : Scope) (simple : Simple) → IsSimple simple → (text : List ℕ) → ReadsAs scope 0 (simple_spelling simple ++ text) (front_of (kind_of scope simple) (text_of scope simple)) text
simple_front scope simple is text = record { next = 0 + length (simple_spelling simple); reads = simple_reads scope simple is 0 text }

-- bytes that stand for themselves
pub gives_bytes : (scope : Scope) (macros : List (List ℕ × List ℕ)) (bytes all text given : List ℕ) → ReadsAs scope 0 all (Bytes bytes) text → value_in scope all macros ≡ Ok given → Then bytes (value_in scope text macros) given
gives_bytes scope macros bytes all text given r e =
    let c = cut scope macros (Bytes bytes) (λ f. map Gives bytes) (λ f parts. refl) all text given r e in
    (c.rest.0, c.rest.1, c.rest.2 ∙ ap (λ t. t ++ c.rest.0) (outcome-given 10000 1048576 bytes c.front c.first))

-- a reference
followed_value : (scope : Scope) (macros : List (List ℕ × List ℕ)) (name given : List ℕ) → outcome 10000 1048576 (followed scope 10 macros name) ≡ Ok given → value_in scope (set_to macros name) macros ≡ Ok given
unfolding followed value_in
followed_value scope macros name given e =
    let rest : Reading = reading scope 0 0 (set_to macros name) in
    let acts : List Act = whole (followed scope 9 macros) rest in
    ap (outcome 10000 1048576) (deeper-text scope macros 9 rest (clean-ok 9999 1048576 acts given e)) ∙ more-references 9999 1048576 acts given e

-- a text that begins with a reference has the macro's value and then that of the rest
pub refers_to : (scope : Scope) (macros : List (List ℕ × List ℕ)) (name all text given : List ℕ) → ReadsAs scope 0 all (Refer name) text → value_in scope all macros ≡ Ok given →
    Joins (value_in scope (set_to macros name) macros) (value_in scope text macros) given
refers_to scope macros name all text given r e =
    let c = cut scope macros (Refer name) (λ f. f name) (λ f parts. refl) all text given r e in
    (c.front, followed_value scope macros name c.front c.first, c.rest)

-- ---- conditionals

tested : (scope : Scope) (macros : List (List ℕ × List ℕ)) (name test : List ℕ) → Clean (followed scope 10 macros name) → value_in scope (set_to macros name) macros ≡ Ok test → gives_any (followed scope 10 macros name) ≡ is_some_text test
unfolding followed value_in
tested scope macros name test c e =
    let rest : Reading = reading scope 0 0 (set_to macros name) in
    ap gives_any (sym (deeper-text scope macros 9 rest c)) ∙ outcome-any 10000 1048576 (whole (followed scope 10 macros) rest) test e

part_value : (scope : Scope) (f : List ℕ → List Act) (part : Part) → IsPart part → whole f (reading scope 0 0 (part_spelling part)) ≡ acts_of f (part_front scope part Nothing)
unfolding reading
part_value scope f part is =
    let r = part_reads scope part is [] 0 in
    ap (λ t. whole f (reading scope 0 0 t)) (sym (append-nil (part_spelling part))) ∙ ap (whole f) r.reads

chosen_value : (scope : Scope) (macros : List (List ℕ × List ℕ)) (shown other : Part) (test given : List ℕ) → IsPart shown → IsPart other →
    outcome 10000 1048576 (if is_some_text test then acts_of (followed scope 10 macros) (part_front scope shown Nothing) else acts_of (followed scope 10 macros) (part_front scope other Nothing)) ≡ Ok given →
    value_in scope (part_spelling (chosen test shown other)) macros ≡ Ok given
unfolding value_in
chosen_value scope macros shown other [] given is is_other e = ap (outcome 10000 1048576) (part_value scope (followed scope 10 macros) other is_other) ∙ e
chosen_value scope macros shown other (byte ∷ test) given is is_other e = ap (outcome 10000 1048576) (part_value scope (followed scope 10 macros) shown is) ∙ e

-- a text that begins with a conditional has the value of the chosen part and then that of the rest
pub chooses : (scope : Scope) (macros : List (List ℕ × List ℕ)) (name : List ℕ) (shown other : Part) (all text given test : List ℕ) → IsPart shown → IsPart other →
    ReadsAs scope 0 all (Choose name (part_front scope shown Nothing) (part_front scope other Nothing)) text → value_in scope all macros ≡ Ok given → value_in scope (set_to macros name) macros ≡ Ok test →
    Joins (value_in scope (part_spelling (chosen test shown other)) macros) (value_in scope text macros) given
chooses scope macros name shown other all text given test is is_other r e t =
    let f : List ℕ → List Act = followed scope 10 macros in
    let one : List Act = acts_of f (part_front scope shown Nothing) in
    let two : List Act = acts_of f (part_front scope other Nothing) in
    let c = cut scope macros (Choose name (part_front scope shown Nothing) (part_front scope other Nothing))
    (λ f. silent (f name) ++ (if gives_any (f name) then acts_of f (part_front scope shown Nothing) else acts_of f (part_front scope other Nothing)))
    (λ f parts. sym (append_assoc (silent (f name)) _ (acts_of f parts))) all text given r e in
    let s = splits 10000 1048576 (silent (f name)) (if gives_any (f name) then one else two) c.front c.first in
    let clean = clean-silent (f name) (clean-ok 10000 1048576 (silent (f name)) s.front s.first) in
    let branch : outcome 10000 1048576 (if is_some_text test then one else two) ≡ Ok s.back =
    ap (λ b. outcome 10000 1048576 (if b then one else two)) (sym (tested scope macros name test clean t)) ∙ s.later in
    let front : c.front ≡ s.back = s.whole ∙ ap (λ text. text ++ s.back) (outcome-silent 10000 1048576 (f name) s.front s.first) in
    (s.back, chosen_value scope macros shown other test s.back is is_other branch, (c.rest.0, c.rest.1, c.rest.2 ∙ ap (λ t. t ++ c.rest.0) front))

-- ---- a text without a dollar sign

plain_acts : (scope : Scope) (f : List ℕ → List Act) (text : List ℕ) (place : ℕ) → All (λ byte. byte ≢ 36) text → whole f (reading scope place 0 text) ≡ map Gives text
unfolding reading
plain_acts scope f [] place all = refl
plain_acts scope f (byte ∷ text) place all =
    ap (whole f) (simple_reads scope (Byte byte) (All-head (λ byte. byte ≢ 36) byte text all) place text)
    ∙ inside-put f (Bytes (byte ∷ [])) (Gives byte ∷ []) (λ parts. refl) zero (reading scope (place + 1) 0 text)
    ∙ ap (λ acts. Gives byte ∷ acts) (plain_acts scope f text (place + 1) (All-tail (λ byte. byte ≢ 36) byte text all))

-- a text without a dollar sign, within the limit, is its own value
pub plain_value : (scope : Scope) (macros : List (List ℕ × List ℕ)) (text : List ℕ) → All (λ byte. byte ≢ 36) text → length text ≤ 1048576 → value_in scope text macros ≡ Ok text
unfolding value_in
plain_value scope macros text all fits =
    ap (outcome 10000 1048576) (plain_acts scope (followed scope 10 macros) text 0 all ∙ sym (append-nil (map Gives text)))
    ∙ outcome-gives 10000 1048576 text [] fits ∙ ap Ok (append-nil text)
