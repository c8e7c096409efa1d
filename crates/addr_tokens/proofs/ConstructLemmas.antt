-- Constructs that begin with a dollar sign: what is read of one is one, and one is read.
use Rattle.std.proofs.Common.{◌≡◌, ℕ, ◌==◌, Bool, true, false, not, ◌&&◌, ◌||◌, cond, List, [], ◌∷◌, ◌++◌, length, Option, Some, None, Ok, Err, refl, sym, ◌∙◌, ap, subst}
use Rattle.std.specs.List.{list_any}
use Rattle.std.proofs.lemmas.Bool.{cond_both, cond-true, cond-false, and_parts, and_from, and_left, and_right, or_parts, not-true, not_from_false, eqb-true, both_ways, false≢true}
use Rattle.std.proofs.lemmas.List.{append_assoc}
use Rattle.addr_tokens.specs.declared.lexeme.Dollars.{Dollars}
use Rattle.addr_tokens.specs.declared.lexeme.Dollars.TheVariants.{Bytes, Typed, Side}
use Rattle.addr_tokens.specs.declared.fault.ScanFault.TheVariants.{BadDollar}
use Rattle.addr_tokens.specs.Pieces.{Alphabet, Construct, Single, Letter, Braced, Dollar, after_dollar, is_construct, is_construct_in, is_naming, is_name, is_class_name, is_letter, is_in_braces, is_side, means, is_dollar, is_doubled, is_listed}
use Rattle.addr_tokens.specs.Reader.{First, first_dollar, first_named, first_braced, in_braces, with_byte, begins_dollar, is_pair}

-- what holds of each byte that has a name holds of this one
by_naming : (P : ℕ → Type 0) → P 61 → P 126 → P 38 → (b : ℕ) → is_naming b ≡ true → P b
by_naming P one two three b is = first_by (61 == b) refl is
  where
    third_by : (t : Bool) → (38 == b) ≡ t → (t || false) ≡ true → P b
    third_by true e is = subst P (eqb-true 38 b e) three
    third_by false e is = absurd (false≢true is)

    second_by : (t : Bool) → (126 == b) ≡ t → (t || ((38 == b) || false)) ≡ true → P b
    second_by true e is = subst P (eqb-true 126 b e) two
    second_by false e is = third_by (38 == b) refl is

    first_by : (t : Bool) → (61 == b) ≡ t → (t || ((126 == b) || ((38 == b) || false))) ≡ true → P b
    first_by true e is = subst P (eqb-true 61 b e) one
    first_by false e is = second_by (126 == b) refl is

-- it is no dollar sign, and no construct by itself
naming_dollar : (b : ℕ) → is_naming b ≡ true → (b == 36) ≡ false
naming_dollar b is = by_naming (λ x. (x == 36) ≡ false) refl refl refl b is

naming_single : (operator : Bool) (b : ℕ) → is_naming b ≡ true → is_construct_in Side operator (Single b) ≡ false
naming_single operator b is = by_naming (λ x. is_construct_in Side operator (Single x) ≡ false) refl refl refl b is

-- in a rule's side
side_construct : (dollars : Dollars) (operator : Bool) (construct : Construct) → is_side dollars ≡ true → is_construct_in dollars operator construct ≡ is_construct_in Side operator construct
side_construct Bytes operator construct side = absurd (false≢true side)
side_construct Typed operator construct side = absurd (false≢true side)
side_construct Side operator construct side = refl

-- a dollar sign that begins something, before a byte that is no construct by itself
side_of : (dollars : Dollars) (operator : Bool) (b : ℕ) (bs : List ℕ) → is_dollar dollars 36 (b ∷ bs) ≡ true → is_construct_in dollars operator (Single b) ≡ false → is_side dollars ≡ true
side_of Bytes operator b bs dollar none = absurd (false≢true dollar)
side_of Typed operator b bs dollar none = absurd (both_ways _ none dollar)
side_of Side operator b bs dollar none = refl

-- a dollar sign is meant
pub dollar_is : (dollars : Dollars) (b : ℕ) (after : List ℕ) → is_dollar dollars b after ≡ true → (b == 36) ≡ true
dollar_is dollars b after is = (and_parts (b == 36) (means dollars after) is).0

-- ---- braces

abbrev Braces : List ℕ → Option (List ℕ × List ℕ) → Type 0
Braces text None = Unit {0}
Braces text (Some parts) = (text ≡ parts.0 ++ 125 ∷ parts.1) × (is_in_braces parts.0 ≡ true)

more_braces : (b : ℕ) (bs : List ℕ) (found : Option (List ℕ × List ℕ)) → (b == 125) ≡ false → Braces bs found → Braces (b ∷ bs) (with_byte b found)
more_braces b bs None other is = tt
more_braces b bs (Some parts) other is =
    (ap (λ x. b ∷ x) is.0, not_from_false _ (ap (λ t. t || list_any (λ x. x == 125) parts.0) other ∙ not-true _ is.1))

braces_at : (b : ℕ) (bs : List ℕ) (closing : Bool) → (b == 125) ≡ closing → Braces bs (in_braces bs) → Braces (b ∷ bs) (cond closing (Some ([], bs)) (with_byte b (in_braces bs)))
braces_at b bs true e is = (ap (λ x. x ∷ bs) (eqb-true b 125 e), refl)
braces_at b bs false e is = more_braces b bs (in_braces bs) e is

braces_read : (text : List ℕ) → Braces text (in_braces text)
braces_read [] = tt
braces_read (b ∷ bs) = braces_at b bs (b == 125) refl (braces_read bs)

braces_is : (name rest : List ℕ) → is_in_braces name ≡ true → in_braces (name ++ 125 ∷ rest) ≡ Some (name, rest)
braces_is [] rest is = refl
braces_is (b ∷ name) rest is =
    let p = or_parts (b == 125) (list_any (λ x. x == 125) name) (not-true _ is) in
    cond-false _ _ _ p.0 ∙ ap (with_byte b) (braces_is name rest (not_from_false _ p.1))

module _ (alphabet : Alphabet) where
  abbrev operator : Bool
  operator = is_listed alphabet 36

  -- ---- what is read is a construct, or refused

  pub record IsConstruct (text : List ℕ) (construct : Construct) (rest : List ℕ) : Type 0 where
    pub whole : text ≡ after_dollar construct ++ rest
    pub is : is_construct alphabet construct ≡ true

  pub data DollarReads (place : ℕ) (text : List ℕ) : First → Type 0 where
    reads : (construct : Construct) (rest : List ℕ) → IsConstruct text construct rest → DollarReads place text (Ok (Dollar construct, rest))
    refuses : DollarReads place text (Err (BadDollar place))

  name_reads : (place b : ℕ) (cs name rest : List ℕ) (empty : Bool) → (length name == 0) ≡ empty → is_side alphabet.dollars ≡ true → is_naming b ≡ true → Braces cs (Some (name, rest))
      → DollarReads place (b ∷ 123 ∷ cs) (cond empty (Err (BadDollar place)) (Ok (Dollar (Braced b name), rest)))
  name_reads place b cs name rest true e side naming is = refuses
  name_reads place b cs name rest false e side naming is = reads (Braced b name) rest (record {
    whole = ap (λ x. b ∷ 123 ∷ x) (is.0 ∙ sym (append_assoc name (125 ∷ []) rest));
    is = side_construct alphabet.dollars operator (Braced b name) side ∙ and_from _ _ naming (and_from _ _ (ap not e) is.1);
  })

  braced_reads : (place b : ℕ) (cs : List ℕ) (found : Option (List ℕ × List ℕ)) → is_side alphabet.dollars ≡ true → is_naming b ≡ true → Braces cs found → DollarReads place (b ∷ 123 ∷ cs) (first_braced place b found)
  braced_reads place b cs None side naming is = refuses
  braced_reads place b cs (Some parts) side naming is = name_reads place b cs parts.0 parts.1 (length parts.0 == 0) refl side naming is

  letter_reads : (place b c : ℕ) (cs : List ℕ) (named : Bool) → is_letter b c ≡ named → is_side alphabet.dollars ≡ true → is_naming b ≡ true → DollarReads place (b ∷ c ∷ cs) (cond named (Ok (Dollar (Letter b c), cs)) (Err (BadDollar place)))
  letter_reads place b c cs true name side naming = reads (Letter b c) cs (record { whole = refl; is = side_construct alphabet.dollars operator (Letter b c) side ∙ and_from _ _ naming name })
  letter_reads place b c cs false name side naming = refuses

  named_at : (place b c : ℕ) (cs : List ℕ) (brace : Bool) → (c == 123) ≡ brace → is_side alphabet.dollars ≡ true → is_naming b ≡ true
      → DollarReads place (b ∷ c ∷ cs) (cond brace (first_braced place b (in_braces cs)) (cond (is_letter b c) (Ok (Dollar (Letter b c), cs)) (Err (BadDollar place))))
  named_at place b c cs true e side naming =
      subst (λ x. DollarReads place (b ∷ x ∷ cs) (first_braced place b (in_braces cs))) (sym (eqb-true c 123 e)) (braced_reads place b cs (in_braces cs) side naming (braces_read cs))
  named_at place b c cs false e side naming = letter_reads place b c cs (is_letter b c) refl side naming

  named_reads : (place b : ℕ) (bs : List ℕ) → is_side alphabet.dollars ≡ true → is_naming b ≡ true → DollarReads place (b ∷ bs) (first_named place b bs)
  named_reads place b [] side naming = refuses
  named_reads place b (c ∷ cs) side naming = named_at place b c cs (c == 123) refl side naming

  dollar_at : (place b : ℕ) (bs : List ℕ) (single naming : Bool) → is_construct alphabet (Single b) ≡ single → is_naming b ≡ naming → is_dollar alphabet.dollars 36 (b ∷ bs) ≡ true
      → DollarReads place (b ∷ bs) (cond single (Ok (Dollar (Single b), bs)) (cond naming (first_named place b bs) (Err (BadDollar place))))
  dollar_at place b bs true n s e dollar = reads (Single b) bs (record { whole = refl; is = s })
  dollar_at place b bs false true s e dollar = named_reads place b bs (side_of alphabet.dollars operator b bs dollar s) e
  dollar_at place b bs false false s e dollar = refuses

  -- what is read at a dollar sign that begins a construct is a construct, or no construct is there
  pub dollar_reads : (place : ℕ) (text : List ℕ) → is_dollar alphabet.dollars 36 text ≡ true → DollarReads place text (first_dollar alphabet place text)
  dollar_reads place [] dollar = refuses
  dollar_reads place (b ∷ bs) dollar = dollar_at place b bs (is_construct alphabet (Single b)) (is_naming b) refl refl dollar

  -- ---- a construct is read

  begins_by : (dollars : Dollars) (listed : Bool) (construct : Construct) (rest : List ℕ) → is_construct_in dollars listed construct ≡ true → is_dollar dollars 36 (after_dollar construct ++ rest) ≡ true
  begins_by Bytes listed construct rest is = absurd (false≢true is)
  begins_by Typed listed (Single b) rest is = is
  begins_by Typed listed (Letter b letter) rest is = absurd (false≢true is)
  begins_by Typed listed (Braced b name) rest is = absurd (false≢true is)
  begins_by Side listed construct rest is = refl

  -- the text of a construct begins one
  pub construct_begins : (construct : Construct) (rest : List ℕ) → is_construct alphabet construct ≡ true → is_dollar alphabet.dollars 36 (after_dollar construct ++ rest) ≡ true
  construct_begins construct rest is = begins_by alphabet.dollars operator construct rest is

  -- a doubled dollar sign is a construct or a pair of a word
  single_apart : (b : ℕ) (same : Bool) → (b == 36) ≡ same → is_construct_in Side operator (Single b) ≡ true → (same && is_doubled alphabet) ≡ false
  single_apart b false e is = refl
  single_apart b true e is =
      let listed : operator ≡ true = subst (λ x. is_construct_in Side operator (Single x) ≡ true) (eqb-true b 36 e) is in
      and_right (is_side alphabet.dollars) _ (ap not listed)

  pair_apart : (construct : Construct) (rest : List ℕ) → is_construct_in Side operator construct ≡ true → is_pair alphabet 36 (after_dollar construct ++ rest) ≡ false
  pair_apart (Single b) rest is = single_apart b (b == 36) refl is
  pair_apart (Letter b letter) rest is = and_left _ _ (naming_dollar b (and_parts (is_naming b) _ is).0)
  pair_apart (Braced b name) rest is = and_left _ _ (naming_dollar b (and_parts (is_naming b) _ is).0)

  pair_elsewhere : (construct : Construct) (rest : List ℕ) → is_side alphabet.dollars ≡ false → is_pair alphabet 36 (after_dollar construct ++ rest) ≡ false
  pair_elsewhere construct rest none = and_right (begins_dollar (after_dollar construct ++ rest)) _ (and_left (is_side alphabet.dollars) _ none)

  apart_by : (side : Bool) → is_side alphabet.dollars ≡ side → (construct : Construct) (rest : List ℕ) → is_construct alphabet construct ≡ true → is_pair alphabet 36 (after_dollar construct ++ rest) ≡ false
  apart_by true side construct rest is = pair_apart construct rest (sym (side_construct alphabet.dollars operator construct side) ∙ is)
  apart_by false side construct rest is = pair_elsewhere construct rest side

  -- a construct's dollar sign isn't one of a doubled pair
  pub construct_apart : (construct : Construct) (rest : List ℕ) → is_construct alphabet construct ≡ true → is_pair alphabet 36 (after_dollar construct ++ rest) ≡ false
  construct_apart construct rest is = apart_by (is_side alphabet.dollars) refl construct rest is

  -- a construct with a name is one of a rule's side
  named_side : (dollars : Dollars) (listed : Bool) (construct : Construct) → ((b : ℕ) → construct ≡ Single b → ⊥) → is_construct_in dollars listed construct ≡ true → is_side dollars ≡ true
  named_side Bytes listed construct named is = absurd (false≢true is)
  named_side Typed listed (Single b) named is = absurd (named b refl)
  named_side Typed listed (Letter b letter) named is = absurd (false≢true is)
  named_side Typed listed (Braced b name) named is = absurd (false≢true is)
  named_side Side listed construct named is = refl

  naming_first : (place b : ℕ) (rest : List ℕ) → is_side alphabet.dollars ≡ true → is_naming b ≡ true → first_dollar alphabet place (b ∷ rest) ≡ first_named place b rest
  naming_first place b rest side naming = cond-false _ _ _ (side_construct alphabet.dollars operator (Single b) side ∙ naming_single operator b naming) ∙ cond-true _ _ _ naming

  letter_brace : (b c : ℕ) (brace : Bool) → (c == 123) ≡ brace → is_letter b c ≡ true → brace ≡ false
  letter_brace b c true e is =
      let none : is_letter b 123 ≡ false = cond_both (b == 38) (is_name 123) (is_class_name 123) (λ x. x ≡ false) (λ k. refl) (λ k. refl) in
      absurd (false≢true (sym none ∙ subst (λ x. is_letter b x ≡ true) (eqb-true c 123 e) is))
  letter_brace b c false e is = refl

  -- the text of a construct is read as that construct, and then what follows
  pub construct_first : (place : ℕ) (construct : Construct) (rest : List ℕ) → is_construct alphabet construct ≡ true → first_dollar alphabet place (after_dollar construct ++ rest) ≡ Ok (Dollar construct, rest)
  construct_first place (Single b) rest is = cond-true _ _ _ is
  construct_first place (Letter b letter) rest is =
      let side = named_side alphabet.dollars operator (Letter b letter) (λ x e. cc e) is in
      let p = and_parts (is_naming b) (is_letter b letter) (sym (side_construct alphabet.dollars operator (Letter b letter) side) ∙ is) in
      naming_first place b (letter ∷ rest) side p.0 ∙ cond-false _ _ _ (letter_brace b letter (letter == 123) refl p.1) ∙ cond-true _ _ _ p.1
  construct_first place (Braced b name) rest is =
      let side = named_side alphabet.dollars operator (Braced b name) (λ x e. cc e) is in
      let p = and_parts (is_naming b) (not (length name == 0) && is_in_braces name) (sym (side_construct alphabet.dollars operator (Braced b name) side) ∙ is) in
      let q = and_parts (not (length name == 0)) (is_in_braces name) p.1 in
      naming_first place b (123 ∷ ((name ++ 125 ∷ []) ++ rest)) side p.0
      ∙ ap (first_braced place b) (ap in_braces (append_assoc name (125 ∷ []) rest) ∙ braces_is name rest q.1)
      ∙ cond-false _ _ _ (not-true _ q.0)
