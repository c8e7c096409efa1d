-- How a text is read that begins with a construct as it is written.
use Rattle.std.proofs.Common.{◌≡◌, ◌≢◌, ℕ, suc, ◌+◌, ◌<◌, ◌≤◌, List, [], ◌∷◌, ◌++◌, length, take, drop, true, false, eqb, not, Some, refl, ap, sym, ◌∙◌, arith, append_assoc, length-append}
use Rattle.std.specs.Prelude.{All, ◌==◌}
use Rattle.std.specs.List.{position, prefix_len}
use Rattle.std.proofs.Math.Seq.{take-append_seam, drop-append_seam}
use Rattle.std.proofs.lemmas.Bool.{cond-true, cond-false, ne_eqb, lt-ltb}
use Rattle.std.proofs.lemmas.List.Elements.{All-head, All-tail}
use Rattle.cf_macros.specs.declared.construct.Kind.{Kind}
use Rattle.cf_macros.specs.declared.construct.Kind.TheVariants.{Plain, Reference, Test, Else, End, Unclosed}
use Rattle.cf_macros.specs.declared.construct.Naming.{Naming}
use Rattle.cf_macros.specs.declared.construct.Naming.TheVariants.{Letter, Word, Nameless}
use Rattle.cf_macros.specs.declared.scope.Scope.{Scope}
use Rattle.cf_macros.specs.declared.scope.Scope.TheVariants.{Outside, Rule}
use Rattle.cf_macros.specs.Constructs.{Piece, piece, is_name, braced, name_at, reference_at, test_of, kept, first_piece}
use Rattle.cf_macros.specs.Readings.{Parts, Nothing, Bytes, Refer, Choose, Reading, Last, BeforeElse, BeforeEnd, put, behind_end, closing, before, reading}
use Rattle.cf_macros.specs.Written.{Named, Bare, Braced, name_of, name_spelling, IsNamed, IsNoName, Simple, Byte, Doubled, Macro, Late, Alone, simple_spelling, IsSimple, Part, Ends, One, Short, Long, part_spelling, IsPart}
use Rattle.cf_macros.proofs.ReadingLemmas.{reading-first}

-- each text that begins with these bytes begins with that construct
record Opens (scope : Scope) (bytes : List ℕ) (kind : Kind) (text : List ℕ) : Type 0 where
  pub found : (more : List ℕ) → first_piece scope (bytes ++ more) ≡ piece kind text (length bytes)
  pub some : 1 ≤ length bytes

read_first : (scope : Scope) (bytes : List ℕ) (kind : Kind) (text : List ℕ) → Opens scope bytes kind text → (place : ℕ) (more : List ℕ) →
    reading scope place 0 (bytes ++ more) ≡ before kind place (piece kind text (length bytes)) (reading scope (place + length bytes) 0 more)
read_first scope bytes kind text opens place more =
    let found = opens.found more in
    let width : (first_piece scope (bytes ++ more)).width ≡ length bytes = ap (λ (p : Piece). p.width) found in
    let there : 0 < length (bytes ++ more) = omega (arith, length-append bytes more, opens.some) in
    let moves : 1 ≤ (first_piece scope (bytes ++ more)).width = omega (arith, width, opens.some) in
    reading-first scope place (bytes ++ more) there moves
    ∙ ap (λ (p : Piece). before p.kind place p (reading scope (place + p.width) 0 (drop p.width (bytes ++ more)))) found
    ∙ ap (λ t. before kind place (piece kind text (length bytes)) (reading scope (place + length bytes) 0 t)) (drop-append_seam bytes more)

-- ---- names

name_other : (x k : ℕ) → is_name x ≡ true → is_name k ≡ false → eqb x k ≡ false
name_other x k is other = ne_eqb x k (λ e. let h : true ≡ false = sym is ∙ ap is_name e ∙ other in cc)

word_length : (word more : List ℕ) → All (λ byte. byte ≢ 125) word → prefix_len (λ x. not (x == 125)) ((word ++ 125 ∷ []) ++ more) ≡ length word
word_length [] more all = refl
word_length (b ∷ word) more all =
    let one : 1 + length word ≡ suc (length word) = omega arith in
    cond-true _ _ _ (ap not (ne_eqb b 125 (All-head (λ byte. byte ≢ 125) b word all)))
    ∙ ap (λ n. 1 + n) (word_length word more (All-tail (λ byte. byte ≢ 125) b word all)) ∙ one

word_position : (word more : List ℕ) → All (λ byte. byte ≢ 125) word → position (λ other. other == 125) ((word ++ 125 ∷ []) ++ more) ≡ Some (length word)
word_position word more all =
    let at = word_length word more all in
    let short : prefix_len (λ x. not (x == 125)) ((word ++ 125 ∷ []) ++ more) < length ((word ++ 125 ∷ []) ++ more) =
    omega (arith, at, length-append (word ++ 125 ∷ []) more, length-append word (125 ∷ [])) in
    cond-true _ _ _ (lt-ltb _ _ short) ∙ ap Some at

abbrev naming_of : Named → Naming
naming_of (Bare byte) = Letter
naming_of (Braced word) = Word (length word)

named_at : (name : Named) → IsNamed name → (more : List ℕ) → name_at (name_spelling name ++ more) ≡ naming_of name
named_at (Bare x) is more = cond-false _ _ _ (name_other x 123 is refl) ∙ cond-true _ _ _ is
named_at (Braced word) is more = ap braced (word_position word more is)

word_taken : (word more : List ℕ) → take (length word) ((word ++ 125 ∷ []) ++ more) ≡ word
word_taken word more = ap (take (length word)) (append_assoc word (125 ∷ []) more) ∙ take-append_seam word (125 ∷ more)

-- ---- each construct

byte_opens : (scope : Scope) (b : ℕ) → b ≢ 36 → Opens scope (b ∷ []) Plain (b ∷ [])
byte_opens scope b other = record { found = found; some = omega arith }
  where
    found : (more : List ℕ) → first_piece scope (b ∷ more) ≡ piece Plain (b ∷ []) 1
    found [] = refl
    found (c ∷ more) = cond-false _ _ _ (ne_eqb b 36 other)

alone_opens : (scope : Scope) (b : ℕ) → IsNoName b → Opens scope (36 ∷ b ∷ []) Plain (36 ∷ b ∷ [])
alone_opens scope b is = record {
  found = λ more.
      let none : name_at (b ∷ more) ≡ Nameless = cond-false _ _ _ (ne_eqb b 123 is.no_brace) ∙ cond-false _ _ _ is.no_name in
      cond-false _ _ _ (ne_eqb b 36 is.no_dollar) ∙ cond-false _ _ _ (ne_eqb b 124 is.no_else) ∙ cond-false _ _ _ (ne_eqb b 46 is.no_end)
      ∙ cond-false _ _ _ (ne_eqb b 63 is.no_test) ∙ cond-false _ _ _ (ne_eqb b 38 is.no_late) ∙ ap (reference_at 1 (36 ∷ b ∷ more)) none;
  some = omega arith;
}

macro_opens : (scope : Scope) (name : Named) → IsNamed name → Opens scope (36 ∷ name_spelling name) Reference (name_of name)
macro_opens scope (Bare x) is = record {
  found = λ more.
      cond-false _ _ _ (name_other x 36 is refl) ∙ cond-false _ _ _ (name_other x 124 is refl) ∙ cond-false _ _ _ (name_other x 46 is refl)
      ∙ cond-false _ _ _ (name_other x 63 is refl) ∙ cond-false _ _ _ (name_other x 38 is refl) ∙ ap (reference_at 1 (36 ∷ x ∷ more)) (named_at (Bare x) is more);
  some = omega arith;
}
macro_opens scope (Braced word) is = record {
  found = λ more.
      let width : 1 + length word + 2 ≡ length (36 ∷ 123 ∷ (word ++ 125 ∷ [])) = omega (arith, length-append word (125 ∷ [])) in
      ap (reference_at 1 (36 ∷ 123 ∷ ((word ++ 125 ∷ []) ++ more))) (named_at (Braced word) is more)
      ∙ ap (λ t. piece Reference t (1 + length word + 2)) (word_taken word more) ∙ ap (piece Reference word) width;
  some = omega arith;
}

late_opens : (name : Named) → IsNamed name → Opens Outside (36 ∷ 38 ∷ name_spelling name) Reference (name_of name)
late_opens (Bare x) is = record { found = λ more. ap (reference_at 2 (36 ∷ 38 ∷ x ∷ more)) (named_at (Bare x) is more); some = omega arith }
late_opens (Braced word) is = record {
  found = λ more.
      let width : 2 + length word + 2 ≡ length (36 ∷ 38 ∷ 123 ∷ (word ++ 125 ∷ [])) = omega (arith, length-append word (125 ∷ [])) in
      ap (reference_at 2 (36 ∷ 38 ∷ 123 ∷ ((word ++ 125 ∷ []) ++ more))) (named_at (Braced word) is more)
      ∙ ap (λ t. piece Reference t (2 + length word + 2)) (word_taken word more) ∙ ap (piece Reference word) width;
  some = omega arith;
}

kept_opens : (name : Named) → IsNamed name → Opens Rule (36 ∷ 38 ∷ name_spelling name) Plain (36 ∷ 38 ∷ name_spelling name)
kept_opens (Bare x) is = record { found = λ more. ap (kept (36 ∷ 38 ∷ x ∷ more)) (named_at (Bare x) is more); some = omega arith }
kept_opens (Braced word) is = record {
  found = λ more.
      let bytes : List ℕ = 36 ∷ 38 ∷ 123 ∷ (word ++ 125 ∷ []) in
      let width : length word + 4 ≡ length (36 ∷ 38 ∷ 123 ∷ (word ++ 125 ∷ [])) = omega (arith, length-append word (125 ∷ [])) in
      ap (kept (bytes ++ more)) (named_at (Braced word) is more)
      ∙ ap (λ n. piece Plain (take n (bytes ++ more)) n) width ∙ ap (λ t. piece Plain t (length bytes)) (take-append_seam bytes more);
  some = omega arith;
}

test_opens : (scope : Scope) (name : Named) → IsNamed name → Opens scope (36 ∷ 63 ∷ name_spelling name) Test (name_of name)
test_opens scope (Bare x) is = record { found = λ more. ap (test_of (36 ∷ 63 ∷ x ∷ more)) (named_at (Bare x) is more); some = omega arith }
test_opens scope (Braced word) is = record {
  found = λ more.
      let width : 2 + length word + 2 ≡ length (36 ∷ 63 ∷ 123 ∷ (word ++ 125 ∷ [])) = omega (arith, length-append word (125 ∷ [])) in
      ap (test_of (36 ∷ 63 ∷ 123 ∷ ((word ++ 125 ∷ []) ++ more))) (named_at (Braced word) is more)
      ∙ ap (λ t. piece Test t (2 + length word + 2)) (word_taken word more) ∙ ap (piece Test word) width;
  some = omega arith;
}

-- ---- what a construct but a conditional puts in front

-- what a simple construct is, by where it stands
abbrev pub kind_of : Scope → Simple → Kind
kind_of scope (Byte b) = Plain
kind_of scope Doubled = Plain
kind_of scope (Macro name) = Reference
kind_of Outside (Late name) = Reference
kind_of Rule (Late name) = Plain
kind_of scope (Alone b) = Plain

-- the name of a simple construct, or the bytes that it stands for
abbrev pub text_of : Scope → Simple → List ℕ
text_of scope (Byte b) = b ∷ []
text_of Outside Doubled = 36 ∷ []
text_of Rule Doubled = 36 ∷ 36 ∷ []
text_of scope (Macro name) = name_of name
text_of Outside (Late name) = name_of name
text_of Rule (Late name) = 36 ∷ 38 ∷ name_spelling name
text_of scope (Alone b) = 36 ∷ b ∷ []

-- a construct of a kind, put before other parts
abbrev pub front_of : Kind → List ℕ → Parts → Parts
front_of Plain text parts = Bytes text parts
front_of Reference text parts = Refer text parts
front_of Test text parts = parts
front_of Else text parts = parts
front_of End text parts = parts
front_of Unclosed text parts = parts

doubled_opens : (scope : Scope) → Opens scope (36 ∷ 36 ∷ []) Plain (text_of scope Doubled)
doubled_opens Outside = record { found = λ more. refl; some = omega arith }
doubled_opens Rule = record { found = λ more. refl; some = omega arith }

-- a simple construct as it is written is read as that construct, and then what follows
pub simple_reads : (scope : Scope) (simple : Simple) → IsSimple simple → (place : ℕ) (more : List ℕ) →
    reading scope place 0 (simple_spelling simple ++ more) ≡ put (front_of (kind_of scope simple) (text_of scope simple)) (reading scope (place + length (simple_spelling simple)) 0 more)
simple_reads scope (Byte b) is place more = read_first scope (b ∷ []) Plain (b ∷ []) (byte_opens scope b is) place more
simple_reads scope Doubled is place more = read_first scope (36 ∷ 36 ∷ []) Plain (text_of scope Doubled) (doubled_opens scope) place more
simple_reads scope (Macro name) is place more = read_first scope (36 ∷ name_spelling name) Reference (name_of name) (macro_opens scope name is) place more
simple_reads Outside (Late name) is place more = read_first Outside (36 ∷ 38 ∷ name_spelling name) Reference (name_of name) (late_opens name is) place more
simple_reads Rule (Late name) is place more = read_first Rule (36 ∷ 38 ∷ name_spelling name) Plain (36 ∷ 38 ∷ name_spelling name) (kept_opens name is) place more
simple_reads scope (Alone b) is place more = read_first scope (36 ∷ b ∷ []) Plain (36 ∷ b ∷ []) (alone_opens scope b is) place more

-- ---- parts of conditionals

-- a part of a conditional, put before other parts
abbrev pub part_front : Scope → Part → Parts → Parts
part_front scope Ends parts = parts
part_front scope (One simple more) parts = front_of (kind_of scope simple) (text_of scope simple) (part_front scope more parts)
part_front scope (Short name shown more) parts = Choose (name_of name) (part_front scope shown Nothing) Nothing (part_front scope more parts)
part_front scope (Long name shown other more) parts = Choose (name_of name) (part_front scope shown Nothing) (part_front scope other Nothing) (part_front scope more parts)

put-twice : (one other : Parts → Parts) (rest : Reading) → put one (put other rest) ≡ put (λ parts. one (other parts)) rest
put-twice one other (Last parts) = refl
put-twice one other (BeforeElse parts more) = refl
put-twice one other (BeforeEnd parts more) = refl

put-none : (scope : Scope) (rest : Reading) → rest ≡ put (part_front scope Ends) rest
put-none scope (Last parts) = refl
put-none scope (BeforeElse parts more) = refl
put-none scope (BeforeEnd parts more) = refl

else_reads : (scope : Scope) (place : ℕ) (more : List ℕ) → reading scope place 0 (36 ∷ 124 ∷ more) ≡ BeforeElse Nothing (reading scope (place + 2) 0 more)
else_reads scope place more = read_first scope (36 ∷ 124 ∷ []) Else [] (record { found = λ more. refl; some = omega arith }) place more

end_reads : (scope : Scope) (place : ℕ) (more : List ℕ) → reading scope place 0 (36 ∷ 46 ∷ more) ≡ BeforeEnd Nothing (reading scope (place + 2) 0 more)
end_reads scope place more = read_first scope (36 ∷ 46 ∷ []) End [] (record { found = λ more. refl; some = omega arith }) place more

-- a text is read as these parts and then a text from some place on
pub record ReadsAs (scope : Scope) (place : ℕ) (text : List ℕ) (front : Parts → Parts) (more : List ℕ) : Type 0 where
  pub next : ℕ
  pub reads : reading scope place 0 text ≡ put front (reading scope next 0 more)

-- a conditional whose parts are read so
short_reads : (scope : Scope) (name : Named) → IsNamed name → (shown : Parts → Parts) (inner text : List ℕ) → ((place : ℕ) → ReadsAs scope place inner shown (36 ∷ 46 ∷ text)) → (place : ℕ) →
    ReadsAs scope place (36 ∷ 63 ∷ (name_spelling name ++ inner)) (Choose (name_of name) (shown Nothing) Nothing) text
short_reads scope name is shown inner text reads_inner place =
    let at : ℕ = place + length (36 ∷ 63 ∷ name_spelling name) in
    let within = reads_inner at in
    let rest : reading scope at 0 inner ≡ BeforeEnd (shown Nothing) (reading scope (within.next + 2) 0 text) = within.reads ∙ ap (put shown) (end_reads scope within.next text) in
    record {
      next = within.next + 2;
      reads =
          read_first scope (36 ∷ 63 ∷ name_spelling name) Test (name_of name) (test_opens scope name is) place inner
          ∙ ap (λ r. closing place (name_of name) r (behind_end r)) rest;
    }

long_reads : (scope : Scope) (name : Named) → IsNamed name → (shown other : Parts → Parts) (inner between text : List ℕ) → ((place : ℕ) → ReadsAs scope place inner shown (36 ∷ 124 ∷ between)) →
    ((place : ℕ) → ReadsAs scope place between other (36 ∷ 46 ∷ text)) → (place : ℕ) →
    ReadsAs scope place (36 ∷ 63 ∷ (name_spelling name ++ inner)) (Choose (name_of name) (shown Nothing) (other Nothing)) text
long_reads scope name is shown other inner between text reads_inner reads_between place =
    let at : ℕ = place + length (36 ∷ 63 ∷ name_spelling name) in
    let within = reads_inner at in
    let last = reads_between (within.next + 2) in
    let rest : reading scope at 0 inner ≡ BeforeElse (shown Nothing) (BeforeEnd (other Nothing) (reading scope (last.next + 2) 0 text)) =
    within.reads ∙ ap (put shown) (else_reads scope within.next between) ∙ ap (BeforeElse (shown Nothing)) (last.reads ∙ ap (put other) (end_reads scope last.next text)) in
    record {
      next = last.next + 2;
      reads =
          read_first scope (36 ∷ 63 ∷ name_spelling name) Test (name_of name) (test_opens scope name is) place inner
          ∙ ap (λ r. closing place (name_of name) r (behind_end r)) rest;
    }

then_reads : (scope : Scope) (place : ℕ) (text more last : List ℕ) (one other : Parts → Parts) → ReadsAs scope place text one more → ((next : ℕ) → ReadsAs scope next more other last) → ReadsAs scope place text (λ parts. one (other parts)) last
then_reads scope place text more last one other first rest =
    let then = rest first.next in
    record { next = then.next; reads = first.reads ∙ ap (put one) then.reads ∙ put-twice one other (reading scope then.next 0 last) }

along : (scope : Scope) (place : ℕ) (text same : List ℕ) (front : Parts → Parts) (more : List ℕ) → text ≡ same → ReadsAs scope place same front more → ReadsAs scope place text front more
along scope place text same front more e r = record { next = r.next; reads = ap (reading scope place 0) e ∙ r.reads }

-- a part as it is written is read as its constructs, and then what follows
pub part_reads : (scope : Scope) (part : Part) → IsPart part → (more : List ℕ) (place : ℕ) → ReadsAs scope place (part_spelling part ++ more) (part_front scope part) more
part_reads scope Ends is more place = record { next = place; reads = put-none scope (reading scope place 0 more) }
part_reads scope (One simple rest) is more place =
    along scope place _ _ _ more (append_assoc (simple_spelling simple) (part_spelling rest) more)
    (then_reads scope place (simple_spelling simple ++ (part_spelling rest ++ more)) (part_spelling rest ++ more) more (front_of (kind_of scope simple) (text_of scope simple)) (part_front scope rest)
    (record { next = place + length (simple_spelling simple); reads = simple_reads scope simple is.0 place (part_spelling rest ++ more) })
    (part_reads scope rest is.1 more))
part_reads scope (Short name shown rest) is more place =
    let end : List ℕ = 36 ∷ 46 ∷ (part_spelling rest ++ more) in
    let cut : (name_spelling name ++ (part_spelling shown ++ (36 ∷ 46 ∷ part_spelling rest))) ++ more ≡ name_spelling name ++ (part_spelling shown ++ end) =
    append_assoc (name_spelling name) (part_spelling shown ++ (36 ∷ 46 ∷ part_spelling rest)) more
    ∙ ap (λ t. name_spelling name ++ t) (append_assoc (part_spelling shown) (36 ∷ 46 ∷ part_spelling rest) more) in
    along scope place _ _ _ more (ap (λ t. 36 ∷ 63 ∷ t) cut)
    (then_reads scope place (36 ∷ 63 ∷ (name_spelling name ++ (part_spelling shown ++ end))) (part_spelling rest ++ more) more (Choose (name_of name) (part_front scope shown Nothing) Nothing) (part_front scope rest)
    (short_reads scope name is.0 (part_front scope shown) (part_spelling shown ++ end) (part_spelling rest ++ more) (part_reads scope shown is.1 end) place)
    (part_reads scope rest is.2 more))
part_reads scope (Long name shown other rest) is more place =
    let end : List ℕ = 36 ∷ 46 ∷ (part_spelling rest ++ more) in
    let between : List ℕ = part_spelling other ++ end in
    let cut : (name_spelling name ++ (part_spelling shown ++ (36 ∷ 124 ∷ (part_spelling other ++ (36 ∷ 46 ∷ part_spelling rest))))) ++ more ≡ name_spelling name ++ (part_spelling shown ++ (36 ∷ 124 ∷ between)) =
    append_assoc (name_spelling name) (part_spelling shown ++ (36 ∷ 124 ∷ (part_spelling other ++ (36 ∷ 46 ∷ part_spelling rest)))) more
    ∙ ap (λ t. name_spelling name ++ t) (append_assoc (part_spelling shown) (36 ∷ 124 ∷ (part_spelling other ++ (36 ∷ 46 ∷ part_spelling rest))) more
    ∙ ap (λ t. part_spelling shown ++ (36 ∷ 124 ∷ t)) (append_assoc (part_spelling other) (36 ∷ 46 ∷ part_spelling rest) more)) in
    along scope place _ _ _ more (ap (λ t. 36 ∷ 63 ∷ t) cut)
    (then_reads scope place (36 ∷ 63 ∷ (name_spelling name ++ (part_spelling shown ++ (36 ∷ 124 ∷ between)))) (part_spelling rest ++ more) more (Choose (name_of name) (part_front scope shown Nothing) (part_front scope other Nothing)) (part_front scope rest)
    (long_reads scope name is.0 (part_front scope shown) (part_front scope other) (part_spelling shown ++ (36 ∷ 124 ∷ between)) between (part_spelling rest ++ more) (part_reads scope shown is.1 (36 ∷ 124 ∷ between)) (part_reads scope other is.2 end) place)
    (part_reads scope rest is.3 more))

-- a conditional in front of a text
pub short_text : (scope : Scope) (name : Named) (shown : Part) (text : List ℕ) → IsNamed name → IsPart shown → (place : ℕ) →
    ReadsAs scope place (36 ∷ 63 ∷ (name_spelling name ++ (part_spelling shown ++ (36 ∷ 46 ∷ text)))) (Choose (name_of name) (part_front scope shown Nothing) Nothing) text
short_text scope name shown text is_name is place = short_reads scope name is_name (part_front scope shown) (part_spelling shown ++ (36 ∷ 46 ∷ text)) text (part_reads scope shown is (36 ∷ 46 ∷ text)) place

-- a conditional with both parts, as it is written, is read as that, and then what follows
pub long_text : (scope : Scope) (name : Named) (shown other : Part) (text : List ℕ) → IsNamed name → IsPart shown → IsPart other → (place : ℕ) →
    ReadsAs scope place (36 ∷ 63 ∷ (name_spelling name ++ (part_spelling shown ++ (36 ∷ 124 ∷ (part_spelling other ++ (36 ∷ 46 ∷ text)))))) (Choose (name_of name) (part_front scope shown Nothing) (part_front scope other Nothing)) text
long_text scope name shown other text is_name is is_other place =
    long_reads scope name is_name (part_front scope shown) (part_front scope other) (part_spelling shown ++ (36 ∷ 124 ∷ (part_spelling other ++ (36 ∷ 46 ∷ text)))) (part_spelling other ++ (36 ∷ 46 ∷ text)) text
    (part_reads scope shown is (36 ∷ 124 ∷ (part_spelling other ++ (36 ∷ 46 ∷ text)))) (part_reads scope other is_other (36 ∷ 46 ∷ text)) place
