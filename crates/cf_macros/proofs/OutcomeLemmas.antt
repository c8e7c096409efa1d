-- What acts come to that no limit stops, and what that says of their parts.
use Rattle.std.proofs.Common.{◌≡◌, ℕ, zero, suc, ◌-◌, List, [], ◌∷◌, ◌++◌, map, refl, ap, sym, ◌∙◌, Bool, true, false, if◌then◌else◌, Result, Ok, Err, Option, None, Some}
use Rattle.cf_macros.specs.declared.fault.ExpandFault.{ExpandFault}
use Rattle.cf_macros.specs.declared.fault.ExpandFault.TheVariants.{Deep}
use Rattle.cf_macros.specs.declared.construct.Kind.{Kind}
use Rattle.cf_macros.specs.declared.construct.Kind.TheVariants.{Plain, Reference, Test, Else, End}
use Rattle.cf_macros.specs.declared.construct.Kind.TheVariants.{Unclosed as Open}
use Rattle.cf_macros.specs.declared.scope.Scope.{Scope}
use Rattle.cf_macros.specs.Constructs.{Piece, first_piece}
use Rattle.cf_macros.specs.Readings.{Parts, Nothing, Bytes, Refer, Choose, Broken, Reading, Last, BeforeElse, BeforeEnd, put, first_part, second_part, behind_end, closing, before, reading}
use Rattle.cf_macros.specs.Written.{set_to}
use Rattle.cf_macros.specs.Expansion.{Act, Gives, Follows, Fails, gives_any, silent, acts_of, whole, followed, with_byte, outcome}

-- ---- acts that come to a text

abbrev taken : Result (List ℕ) ExpandFault → List ℕ
taken (Ok text) = text
taken (Err fault) = []

abbrev good : List ℕ → Result (List ℕ) ExpandFault
good text = Ok text

ok_same : (one other : List ℕ) → good one ≡ good other → one ≡ other
ok_same one other e = ap taken e

-- a text of which the first byte is taken off
record Bytewise (byte : ℕ) (result : Result (List ℕ) ExpandFault) (text : List ℕ) : Type 0 where
  pub later : List ℕ
  pub rest : result ≡ Ok later
  pub whole : text ≡ byte ∷ later

bytewise : (byte : ℕ) (result : Result (List ℕ) ExpandFault) (text : List ℕ) → with_byte byte result ≡ Ok text → Bytewise byte result text
bytewise byte (Ok later) text e = record { later = later; rest = refl; whole = sym (ok_same (byte ∷ later) text e) }
bytewise byte (Err fault) text e = absurd (cc)

more-bytes : (references bytes : ℕ) (acts : List Act) (text : List ℕ) → outcome references bytes acts ≡ Ok text → outcome references (suc bytes) acts ≡ Ok text
more-bytes references bytes [] text e = e
more-bytes references zero (Gives byte ∷ acts) text e = absurd (cc)
more-bytes references (suc bytes) (Gives byte ∷ acts) text e =
    let b = bytewise byte (outcome references bytes acts) text e in
    ap (with_byte byte) (more-bytes references bytes acts b.later b.rest) ∙ ap Ok (sym b.whole)
more-bytes zero bytes (Follows ∷ acts) text e = absurd (cc)
more-bytes (suc references) bytes (Follows ∷ acts) text e = more-bytes references bytes acts text e
more-bytes references bytes (Fails fault ∷ acts) text e = absurd (cc)

-- what acts come to they also come to with one reference more left
pub more-references : (references bytes : ℕ) (acts : List Act) (text : List ℕ) → outcome references bytes acts ≡ Ok text → outcome (suc references) bytes acts ≡ Ok text
more-references references bytes [] text e = e
more-references references zero (Gives byte ∷ acts) text e = absurd (cc)
more-references references (suc bytes) (Gives byte ∷ acts) text e =
    let b = bytewise byte (outcome references bytes acts) text e in
    ap (with_byte byte) (more-references references bytes acts b.later b.rest) ∙ ap Ok (sym b.whole)
more-references zero bytes (Follows ∷ acts) text e = absurd (cc)
more-references (suc references) bytes (Follows ∷ acts) text e = more-references references bytes acts text e
more-references references bytes (Fails fault ∷ acts) text e = absurd (cc)

-- two lists of acts, of which each comes to its part
pub record Splits (references bytes : ℕ) (one other : List Act) (text : List ℕ) : Type 0 where
  pub front : List ℕ
  pub back : List ℕ
  pub first : outcome references bytes one ≡ Ok front
  pub later : outcome references bytes other ≡ Ok back
  pub whole : text ≡ front ++ back

-- acts in two lists that come to a text come to a part of it each
pub splits : (references bytes : ℕ) (one other : List Act) (text : List ℕ) → outcome references bytes (one ++ other) ≡ Ok text → Splits references bytes one other text
splits references bytes [] other text e = record { front = []; back = text; first = refl; later = e; whole = refl }
splits references zero (Gives byte ∷ one) other text e = absurd (cc)
splits references (suc bytes) (Gives byte ∷ one) other text e =
    let b = bytewise byte (outcome references bytes (one ++ other)) text e in
    let s = splits references bytes one other b.later b.rest in
    record {
      front = byte ∷ s.front;
      back = s.back;
      first = ap (with_byte byte) s.first;
      later = more-bytes references bytes other s.back s.later;
      whole = b.whole ∙ ap (λ t. byte ∷ t) s.whole;
    }
splits zero bytes (Follows ∷ one) other text e = absurd (cc)
splits (suc references) bytes (Follows ∷ one) other text e =
    let s = splits references bytes one other text e in
    record { front = s.front; back = s.back; first = s.first; later = more-references references bytes other s.back s.later; whole = s.whole }
splits references bytes (Fails fault ∷ one) other text e = absurd (cc)

-- bytes that are given come to themselves
pub outcome-given : (references bytes : ℕ) (given text : List ℕ) → outcome references bytes (map Gives given) ≡ Ok text → text ≡ given
outcome-given references bytes [] text e = sym (ok_same [] text e)
outcome-given references zero (byte ∷ given) text e = absurd (cc)
outcome-given references (suc bytes) (byte ∷ given) text e =
    let b = bytewise byte (outcome references bytes (map Gives given)) text e in
    b.whole ∙ ap (λ t. byte ∷ t) (outcome-given references bytes given b.later b.rest)

-- the acts of a test come to no text
pub outcome-silent : (references bytes : ℕ) (acts : List Act) (text : List ℕ) → outcome references bytes (silent acts) ≡ Ok text → text ≡ []
outcome-silent references bytes [] text e = sym (ok_same [] text e)
outcome-silent references bytes (Gives byte ∷ acts) text e = outcome-silent references bytes acts text e
outcome-silent zero bytes (Follows ∷ acts) text e = absurd (cc)
outcome-silent (suc references) bytes (Follows ∷ acts) text e = outcome-silent references bytes acts text e
outcome-silent references bytes (Fails fault ∷ acts) text e = absurd (cc)

-- whether a text has a byte
abbrev pub is_some_text : List ℕ → Bool
is_some_text [] = false
is_some_text (byte ∷ text) = true

-- acts give something just if the text that they come to has a byte
pub outcome-any : (references bytes : ℕ) (acts : List Act) (text : List ℕ) → outcome references bytes acts ≡ Ok text → gives_any acts ≡ is_some_text text
outcome-any references bytes [] text e = ap is_some_text (ok_same [] text e)
outcome-any references zero (Gives byte ∷ acts) text e = absurd (cc)
outcome-any references (suc bytes) (Gives byte ∷ acts) text e = sym (ap is_some_text (bytewise byte (outcome references bytes acts) text e).whole)
outcome-any zero bytes (Follows ∷ acts) text e = absurd (cc)
outcome-any (suc references) bytes (Follows ∷ acts) text e = outcome-any references bytes acts text e
outcome-any references bytes (Fails fault ∷ acts) text e = absurd (cc)

-- ---- acts without a refusal

-- no act refuses
abbrev pub Clean : List Act → Type 0
Clean [] = Unit {0}
Clean (Gives byte ∷ acts) = Clean acts
Clean (Follows ∷ acts) = Clean acts
Clean (Fails fault ∷ acts) = ⊥

-- acts that come to a text refuse nothing
pub clean-ok : (references bytes : ℕ) (acts : List Act) (text : List ℕ) → outcome references bytes acts ≡ Ok text → Clean acts
clean-ok references bytes [] text e = tt
clean-ok references zero (Gives byte ∷ acts) text e = absurd (cc)
clean-ok references (suc bytes) (Gives byte ∷ acts) text e =
    let b = bytewise byte (outcome references bytes acts) text e in clean-ok references bytes acts b.later b.rest
clean-ok zero bytes (Follows ∷ acts) text e = absurd (cc)
clean-ok (suc references) bytes (Follows ∷ acts) text e = clean-ok references bytes acts text e
clean-ok references bytes (Fails fault ∷ acts) text e = absurd (cc)

clean-both : (one other : List Act) → Clean (one ++ other) → Clean one × Clean other
clean-both [] other c = (tt, c)
clean-both (Gives byte ∷ one) other c = clean-both one other c
clean-both (Follows ∷ one) other c = clean-both one other c
clean-both (Fails fault ∷ one) other c = absurd c

-- acts that refuse nothing as a test refuse nothing
pub clean-silent : (acts : List Act) → Clean (silent acts) → Clean acts
clean-silent [] c = tt
clean-silent (Gives byte ∷ acts) c = clean-silent acts c
clean-silent (Follows ∷ acts) c = clean-silent acts c
clean-silent (Fails fault ∷ acts) c = absurd c

-- ---- where no refusal is met, more levels change nothing

abbrev IsMore : (List ℕ → List Act) → (List ℕ → List Act) → Type 0
IsMore few many = (name : List ℕ) → Clean (few name) → many name ≡ few name

chosen-same : (b : Bool) (one other more also : List Act) → (Clean one → more ≡ one) → (Clean other → also ≡ other) → Clean (if b then one else other) → (if b then more else also) ≡ (if b then one else other)
chosen-same true one other more also e f c = e c
chosen-same false one other more also e f c = f c

deeper-parts : (few many : List ℕ → List Act) → IsMore few many → (parts : Parts) → Clean (acts_of few parts) → acts_of many parts ≡ acts_of few parts
deeper-parts few many h Nothing c = refl
deeper-parts few many h (Bytes bytes parts) c =
    let both = clean-both (map Gives bytes) (acts_of few parts) c in ap (λ acts. map Gives bytes ++ acts) (deeper-parts few many h parts both.1)
deeper-parts few many h (Refer name parts) c =
    let both = clean-both (few name) (acts_of few parts) c in
    ap (λ acts. acts ++ acts_of many parts) (h name both.0) ∙ ap (λ acts. few name ++ acts) (deeper-parts few many h parts both.1)
deeper-parts few many h (Choose name shown other parts) c =
    let tests = clean-both (silent (few name)) ((if gives_any (few name) then acts_of few shown else acts_of few other) ++ acts_of few parts) c in
    let both = clean-both (if gives_any (few name) then acts_of few shown else acts_of few other) (acts_of few parts) tests.1 in
    let same : many name ≡ few name = h name (clean-silent (few name) tests.0) in
    ap (λ acts. silent acts ++ ((if gives_any acts then acts_of many shown else acts_of many other) ++ acts_of many parts)) same
    ∙ ap (λ acts. silent (few name) ++ (acts ++ acts_of many parts)) (chosen-same (gives_any (few name)) (acts_of few shown) (acts_of few other) (acts_of many shown) (acts_of many other) (λ c. deeper-parts few many h shown c) (λ c. deeper-parts few many h other c) both.0)
    ∙ ap (λ acts. silent (few name) ++ ((if gives_any (few name) then acts_of few shown else acts_of few other) ++ acts)) (deeper-parts few many h parts both.1)
deeper-parts few many h (Broken place) c = absurd c

deeper-whole : (few many : List ℕ → List Act) → IsMore few many → (rest : Reading) → Clean (whole few rest) → whole many rest ≡ whole few rest
deeper-whole few many h (Last parts) c = deeper-parts few many h parts c
deeper-whole few many h (BeforeElse parts more) c =
    let both = clean-both (acts_of few parts) (Gives 36 ∷ Gives 124 ∷ whole few more) c in
    ap (λ acts. acts ++ (Gives 36 ∷ Gives 124 ∷ whole many more)) (deeper-parts few many h parts both.0)
    ∙ ap (λ acts. acts_of few parts ++ (Gives 36 ∷ Gives 124 ∷ acts)) (deeper-whole few many h more both.1)
deeper-whole few many h (BeforeEnd parts more) c =
    let both = clean-both (acts_of few parts) (Gives 36 ∷ Gives 46 ∷ whole few more) c in
    ap (λ acts. acts ++ (Gives 36 ∷ Gives 46 ∷ whole many more)) (deeper-parts few many h parts both.0)
    ∙ ap (λ acts. acts_of few parts ++ (Gives 36 ∷ Gives 46 ∷ acts)) (deeper-whole few many h more both.1)

deeper : (scope : Scope) (macros : List (List ℕ × List ℕ)) (levels : ℕ) → IsMore (followed scope levels macros) (followed scope (suc levels) macros)
unfolding followed
deeper scope macros zero name c = absurd c
deeper scope macros (suc levels) name c =
    ap (λ acts. Follows ∷ acts) (deeper-whole (followed scope levels macros) (followed scope (suc levels) macros) (deeper scope macros levels) (reading scope 0 0 (set_to macros name)) c)

-- the acts of a text with a level more
pub deeper-text : (scope : Scope) (macros : List (List ℕ × List ℕ)) (levels : ℕ) (rest : Reading) → Clean (whole (followed scope levels macros) rest) → whole (followed scope (suc levels) macros) rest ≡ whole (followed scope levels macros) rest
deeper-text scope macros levels rest c = deeper-whole (followed scope levels macros) (followed scope (suc levels) macros) (deeper scope macros levels) rest c

-- ---- where a text begins changes nothing but the places of refusals

abbrev unplaced : Parts → Parts
unplaced Nothing = Nothing
unplaced (Bytes bytes parts) = Bytes bytes (unplaced parts)
unplaced (Refer name parts) = Refer name (unplaced parts)
unplaced (Choose name shown other parts) = Choose name (unplaced shown) (unplaced other) (unplaced parts)
unplaced (Broken place) = Broken 0

abbrev bare : Reading → Reading
bare (Last parts) = Last (unplaced parts)
bare (BeforeElse parts more) = BeforeElse (unplaced parts) (bare more)
bare (BeforeEnd parts more) = BeforeEnd (unplaced parts) (bare more)

abbrev bare_end : Option Reading → Option Reading
bare_end None = None
bare_end (Some rest) = Some (bare rest)

bare-first : (rest : Reading) → unplaced (first_part rest) ≡ first_part (bare rest)
bare-first (Last parts) = refl
bare-first (BeforeElse parts more) = refl
bare-first (BeforeEnd parts more) = refl

bare-second : (rest : Reading) → unplaced (second_part rest) ≡ second_part (bare rest)
bare-second (Last parts) = refl
bare-second (BeforeElse parts more) = bare-first more
bare-second (BeforeEnd parts more) = refl

bare-behind : (rest : Reading) → bare_end (behind_end rest) ≡ behind_end (bare rest)
bare-behind (Last parts) = refl
bare-behind (BeforeElse parts more) = bare-behind more
bare-behind (BeforeEnd parts more) = refl

bare-put : (front same : Parts → Parts) → ((parts : Parts) → unplaced (front parts) ≡ same (unplaced parts)) → (rest : Reading) → bare (put front rest) ≡ put same (bare rest)
bare-put front same h (Last parts) = ap Last (h parts)
bare-put front same h (BeforeElse parts more) = ap (λ p. BeforeElse p (bare more)) (h parts)
bare-put front same h (BeforeEnd parts more) = ap (λ p. BeforeEnd p (bare more)) (h parts)

bare-closing : (place : ℕ) (name : List ℕ) (inner : Reading) (after : Option Reading) → bare (closing place name inner after) ≡ closing 0 name (bare inner) (bare_end after)
bare-closing place name inner None = refl
bare-closing place name inner (Some after) =
    bare-put (Choose name (first_part inner) (second_part inner)) (Choose name (unplaced (first_part inner)) (unplaced (second_part inner))) (λ parts. refl) after
    ∙ ap (λ p. put (Choose name p (unplaced (second_part inner))) (bare after)) (bare-first inner)
    ∙ ap (λ p. put (Choose name (first_part (bare inner)) p) (bare after)) (bare-second inner)

-- the same without its place
abbrev bare_before : Kind → Piece → Reading → Reading
bare_before Plain found rest = put (Bytes found.text) rest
bare_before Reference found rest = put (Refer found.text) rest
bare_before Test found rest = closing 0 found.text rest (behind_end rest)
bare_before Else found rest = BeforeElse Nothing rest
bare_before End found rest = BeforeEnd Nothing rest
bare_before Open found rest = Last (Broken 0)

bare-before : (kind : Kind) (place : ℕ) (found : Piece) (rest : Reading) → bare (before kind place found rest) ≡ bare_before kind found (bare rest)
bare-before Plain place found rest = bare-put (Bytes found.text) (Bytes found.text) (λ parts. refl) rest
bare-before Reference place found rest = bare-put (Refer found.text) (Refer found.text) (λ parts. refl) rest
bare-before Test place found rest = bare-closing place found.text rest (behind_end rest) ∙ ap (closing 0 found.text (bare rest)) (bare-behind rest)
bare-before Else place found rest = refl
bare-before End place found rest = refl
bare-before Open place found rest = refl

bare-reading : (scope : Scope) (one other skipped : ℕ) (text : List ℕ) → bare (reading scope one skipped text) ≡ bare (reading scope other skipped text)
unfolding reading
bare-reading scope one other skipped [] = refl
bare-reading scope one other (suc skipped) (byte ∷ text) = bare-reading scope (suc one) (suc other) skipped text
bare-reading scope one other zero (byte ∷ text) =
    cut (first_piece scope (byte ∷ text)) (λ skipped. bare-reading scope (suc one) (suc other) skipped text)
  where
    cut : (found : Piece) → ((skipped : ℕ) → bare (reading scope (suc one) skipped text) ≡ bare (reading scope (suc other) skipped text)) →
        bare (before found.kind one found (reading scope (suc one) (found.width - 1) text)) ≡ bare (before found.kind other found (reading scope (suc other) (found.width - 1) text))
    cut found same =
        bare-before found.kind one found (reading scope (suc one) (found.width - 1) text)
        ∙ ap (bare_before found.kind found) (same (found.width - 1))
        ∙ sym (bare-before found.kind other found (reading scope (suc other) (found.width - 1) text))

-- acts whose refusals have no places
abbrev faceless : List Act → List Act
faceless [] = []
faceless (Gives byte ∷ acts) = Gives byte ∷ faceless acts
faceless (Follows ∷ acts) = Follows ∷ faceless acts
faceless (Fails fault ∷ acts) = Fails Deep ∷ []

faceless-append : (one other : List Act) (same : List Act) → faceless other ≡ faceless same → faceless (one ++ other) ≡ faceless (one ++ same)
faceless-append [] other same e = e
faceless-append (Gives byte ∷ one) other same e = ap (λ acts. Gives byte ∷ acts) (faceless-append one other same e)
faceless-append (Follows ∷ one) other same e = ap (λ acts. Follows ∷ acts) (faceless-append one other same e)
faceless-append (Fails fault ∷ one) other same e = refl

-- acts behind those whose refusals have no places
abbrev joins : List Act → List Act → List Act
joins later [] = faceless later
joins later (Gives byte ∷ acts) = Gives byte ∷ joins later acts
joins later (Follows ∷ acts) = Follows ∷ joins later acts
joins later (Fails fault ∷ acts) = Fails Deep ∷ []

joined : (one later : List Act) → faceless (one ++ later) ≡ joins later (faceless one)
joined [] later = refl
joined (Gives byte ∷ one) later = ap (λ acts. Gives byte ∷ acts) (joined one later)
joined (Follows ∷ one) later = ap (λ acts. Follows ∷ acts) (joined one later)
joined (Fails fault ∷ one) later = refl

faceless-both : (one other two same : List Act) → faceless one ≡ faceless two → faceless other ≡ faceless same → faceless (one ++ other) ≡ faceless (two ++ same)
faceless-both one other two same e f = faceless-append one other same f ∙ joined one same ∙ ap (joins same) e ∙ sym (joined two same)

chosen-faceless : (b : Bool) (one other more also : List Act) → faceless one ≡ faceless more → faceless other ≡ faceless also → faceless (if b then one else other) ≡ faceless (if b then more else also)
chosen-faceless true one other more also e f = e
chosen-faceless false one other more also e f = f

faceless-parts : (followed : List ℕ → List Act) (parts : Parts) → faceless (acts_of followed (unplaced parts)) ≡ faceless (acts_of followed parts)
faceless-parts followed Nothing = refl
faceless-parts followed (Bytes bytes parts) = faceless-append (map Gives bytes) (acts_of followed (unplaced parts)) (acts_of followed parts) (faceless-parts followed parts)
faceless-parts followed (Refer name parts) = faceless-append (followed name) (acts_of followed (unplaced parts)) (acts_of followed parts) (faceless-parts followed parts)
faceless-parts followed (Choose name shown other parts) =
    faceless-append (silent (followed name)) _ _
    (faceless-both (if gives_any (followed name) then acts_of followed (unplaced shown) else acts_of followed (unplaced other)) (acts_of followed (unplaced parts)) (if gives_any (followed name) then acts_of followed shown else acts_of followed other) (acts_of followed parts)
    (chosen-faceless (gives_any (followed name)) (acts_of followed (unplaced shown)) (acts_of followed (unplaced other)) (acts_of followed shown) (acts_of followed other) (faceless-parts followed shown) (faceless-parts followed other)) (faceless-parts followed parts))
faceless-parts followed (Broken place) = refl

faceless-whole : (followed : List ℕ → List Act) (rest : Reading) → faceless (whole followed (bare rest)) ≡ faceless (whole followed rest)
faceless-whole followed (Last parts) = faceless-parts followed parts
faceless-whole followed (BeforeElse parts more) =
    faceless-both (acts_of followed (unplaced parts)) (Gives 36 ∷ Gives 124 ∷ whole followed (bare more)) (acts_of followed parts) (Gives 36 ∷ Gives 124 ∷ whole followed more)
    (faceless-parts followed parts) (ap (λ acts. Gives 36 ∷ Gives 124 ∷ acts) (faceless-whole followed more))
faceless-whole followed (BeforeEnd parts more) =
    faceless-both (acts_of followed (unplaced parts)) (Gives 36 ∷ Gives 46 ∷ whole followed (bare more)) (acts_of followed parts) (Gives 36 ∷ Gives 46 ∷ whole followed more)
    (faceless-parts followed parts) (ap (λ acts. Gives 36 ∷ Gives 46 ∷ acts) (faceless-whole followed more))

to-faceless : (references bytes : ℕ) (acts : List Act) (text : List ℕ) → outcome references bytes acts ≡ Ok text → outcome references bytes (faceless acts) ≡ Ok text
to-faceless references bytes [] text e = e
to-faceless references zero (Gives byte ∷ acts) text e = absurd (cc)
to-faceless references (suc bytes) (Gives byte ∷ acts) text e =
    let b = bytewise byte (outcome references bytes acts) text e in
    ap (with_byte byte) (to-faceless references bytes acts b.later b.rest) ∙ ap Ok (sym b.whole)
to-faceless zero bytes (Follows ∷ acts) text e = absurd (cc)
to-faceless (suc references) bytes (Follows ∷ acts) text e = to-faceless references bytes acts text e
to-faceless references bytes (Fails fault ∷ acts) text e = absurd (cc)

from-faceless : (references bytes : ℕ) (acts : List Act) (text : List ℕ) → outcome references bytes (faceless acts) ≡ Ok text → outcome references bytes acts ≡ Ok text
from-faceless references bytes [] text e = e
from-faceless references zero (Gives byte ∷ acts) text e = absurd (cc)
from-faceless references (suc bytes) (Gives byte ∷ acts) text e =
    let b = bytewise byte (outcome references bytes (faceless acts)) text e in
    ap (with_byte byte) (from-faceless references bytes acts b.later b.rest) ∙ ap Ok (sym b.whole)
from-faceless zero bytes (Follows ∷ acts) text e = absurd (cc)
from-faceless (suc references) bytes (Follows ∷ acts) text e = from-faceless references bytes acts text e
from-faceless references bytes (Fails fault ∷ acts) text e = absurd (cc)

-- a text that comes to a value comes to it wherever it begins
pub outcome-anywhere : (scope : Scope) (followed : List ℕ → List Act) (one other references bytes : ℕ) (text given : List ℕ) →
    outcome references bytes (whole followed (reading scope one 0 text)) ≡ Ok given → outcome references bytes (whole followed (reading scope other 0 text)) ≡ Ok given
outcome-anywhere scope followed one other references bytes text given e =
    let same : faceless (whole followed (reading scope other 0 text)) ≡ faceless (whole followed (reading scope one 0 text)) =
    sym (faceless-whole followed (reading scope other 0 text)) ∙ ap (λ rest. faceless (whole followed rest)) (bare-reading scope other one 0 text) ∙ faceless-whole followed (reading scope one 0 text) in
    from-faceless references bytes _ given (ap (outcome references bytes) same ∙ to-faceless references bytes _ given e)
