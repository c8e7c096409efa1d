-- The answer for a text is its lexemes, or its first fault, and the only one.
use Rattle.std.proofs.Common.{◌≡◌, ℕ, ◌+◌, ◌<◌, ◌≤◌, ◌==◌, ◌⊎◌, inl, inr, ⊎_elim, unwrap_or, nat_le, Bool, true, false, cond, List, [], ◌∷◌, ◌++◌, length, Option, Some, None, Ok, Err, refl, sym, ◌∙◌, ap, subst, arith}
use Rattle.std.specs.List.{flat_map, list_any}
use Rattle.std.specs.Option.{is_some}
use Rattle.std.proofs.lemmas.Bool.{cond-true, cond-false, and_from, or_right, le-leb, lt-leb, leb-true, leb-false, false≢true}
use Rattle.std.proofs.lemmas.List.{append_assoc, append-nil, length-append, nil_from_length}
use Rattle.mail_base.specs.declared.token.Token.TheVariants.{Op}
use Rattle.addr_tokens.specs.declared.fault.ScanFault.{ScanFault}
use Rattle.addr_tokens.specs.declared.fault.ScanFault.TheVariants.{Unbalanced, BadQuote, BadDollar, Long, NoMemory}
use Rattle.addr_tokens.specs.declared.lexeme.Dollars.{Dollars}
use Rattle.addr_tokens.specs.declared.lexeme.Lexeme.{Lexeme}
use Rattle.addr_tokens.specs.declared.lexeme.Lexeme.TheVariants.{Token as Plain}
use Rattle.addr_tokens.specs.Pieces.{Alphabet, IsPiece, ArePieces, Piece, White, Comment, Quotation, Operator, Dollar, Run, bytes_of, lexemes_of, are_apart, Cuts, CutsBefore, is_operator}
use Rattle.addr_tokens.specs.Scans.{opened, most_tokens, Stops, MayGoOn, AreBalanced, AreLexemes, HasFault, stops, right_angle, left_angle, long, ExplainsFault}
use Rattle.addr_tokens.specs.Reader.{Answer, Reading, reading_of, with_lexemes, judge_end, judged, gathered, limited, outcome_of}
use Rattle.addr_tokens.proofs.WordLemmas.{NoWord}
use Rattle.addr_tokens.proofs.FirstLemmas.{first_is, stop_none}
use Rattle.addr_tokens.proofs.ReadingLemmas.{IsEnd, reads, before, reading_first, reading_of-pieces, reading_at_stop, operator_none}
use Rattle.addr_tokens.proofs.JudgeLemmas.{unchecked, opened-append, lexemes_of-append, Lone, Opens, Stays, Passes, verdict, closes_more}

short_limited : (lexemes : List Lexeme) → length lexemes ≤ most_tokens → limited lexemes ≡ Ok lexemes
short_limited lexemes le = cond-true _ _ _ (le-leb _ _ le)

long_limited : (lexemes : List Lexeme) → most_tokens < length lexemes → limited lexemes ≡ Err Long
long_limited lexemes lt = cond-false _ _ _ (lt-leb _ _ lt)

apart_front : (front after : List Piece) → are_apart (front ++ after) ≡ true → are_apart front ≡ true
apart_front [] after apart = refl
apart_front (White b ∷ front) after apart = apart_front front after apart
apart_front (Comment bytes ∷ front) after apart = apart_front front after apart
apart_front (Quotation bytes ∷ front) after apart = apart_front front after apart
apart_front (Operator b ∷ front) after apart = apart_front front after apart
apart_front (Dollar c ∷ front) after apart = apart_front front after apart
apart_front (Run bytes ∷ []) after apart = refl
apart_front (Run bytes ∷ White b ∷ front) after apart = apart_front front after apart
apart_front (Run bytes ∷ Comment inside ∷ front) after apart = apart_front front after apart
apart_front (Run bytes ∷ Quotation inside ∷ front) after apart = apart_front front after apart
apart_front (Run bytes ∷ Operator b ∷ front) after apart = apart_front front after apart
apart_front (Run bytes ∷ Dollar c ∷ front) after apart = apart_front front after apart
apart_front (Run bytes ∷ Run more ∷ front) after apart = absurd (false≢true apart)

flat_map-both : (one other : List Piece) → flat_map bytes_of (one ++ other) ≡ flat_map bytes_of one ++ flat_map bytes_of other
flat_map-both [] other = refl
flat_map-both (piece ∷ one) other = ap (λ x. bytes_of piece ++ x) (flat_map-both one other) ∙ sym (append_assoc (bytes_of piece) (flat_map bytes_of one) (flat_map bytes_of other))

-- the pieces of a front
each_front : (alphabet : Alphabet) (front after : List Piece) (rest : List ℕ) → ArePieces alphabet (front ++ after) rest → ArePieces alphabet front (flat_map bytes_of after ++ rest)
each_front alphabet [] after rest each = tt
each_front alphabet (piece ∷ front) after rest each =
    (subst (IsPiece alphabet piece) (ap (λ x. x ++ rest) (flat_map-both front after) ∙ append_assoc (flat_map bytes_of front) (flat_map bytes_of after) rest) each.0, each_front alphabet front after rest each.1)

-- where angles are checked, a `>` without its `<` is seen
lone_closed : (dollars : Dollars) (pieces : List Piece) → Lone dollars 0 [] pieces → opened (Some 0) (lexemes_of dollars pieces) ≡ None
lone_closed dollars pieces l =
    ap (λ ps. opened (Some 0) (lexemes_of dollars ps)) l.whole
    ∙ ap (opened (Some 0)) (lexemes_of-append dollars l.front (Operator 62 ∷ l.after))
    ∙ opened-append (Some 0) (lexemes_of dollars l.front) (Plain (Op 62) ∷ lexemes_of dollars l.after)
    ∙ ap (λ n. opened n (Plain (Op 62) ∷ lexemes_of dollars l.after)) l.closed
    ∙ none_opened (lexemes_of dollars l.after)
  where
    none_opened : (lexemes : List Lexeme) → opened None lexemes ≡ None
    none_opened [] = refl
    none_opened (lexeme ∷ lexemes) = refl

count_of : (m n : ℕ) → Some m ≡ Some n → m ≡ n
count_of m n e = ap (λ o. unwrap_or o 0) e

same_lexemes : (answer : Answer) (one other : List Lexeme) → answer ≡ Ok one → answer ≡ Ok other → one ≡ other
same_lexemes answer one other a b = cc

same_fault : (answer : Answer) (one other : ScanFault) → answer ≡ Err one → answer ≡ Err other → one ≡ other
same_fault answer one other a b = cc

never_both : (answer : Answer) (lexemes : List Lexeme) (fault : ScanFault) → answer ≡ Ok lexemes → answer ≡ Err fault → ⊥
never_both answer lexemes fault a b = cc

module _ (alphabet : Alphabet) where
  abbrev dollars : Dollars
  dollars = alphabet.dollars

  -- ---- each statement says what is answered

  outcome_from : (angles : Bool) (text : List ℕ) (reading : Reading) (answer : Answer) → reading_of alphabet 0 text ≡ reading → judged dollars angles 0 [] reading.pieces reading.fault ≡ answer → outcome_of alphabet angles text ≡ gathered false [] answer
  outcome_from angles text reading answer is judged_is = ap (λ r. gathered false [] (judged dollars angles 0 [] r.pieces r.fault)) is ∙ ap (gathered false []) judged_is

  pub whole_reading : (text : List ℕ) (pieces : List Piece) → Cuts alphabet text pieces → reading_of alphabet 0 text ≡ record { pieces = pieces; fault = None }
  whole_reading text pieces cut =
      ap (reading_of alphabet 0) (sym (append-nil (flat_map bytes_of pieces) ∙ cut.whole))
      ∙ reading_of-pieces alphabet pieces [] 0 cut.each cut.apart (record { stays = refl })
      ∙ ap (λ ps. record { pieces = ps; fault = None }) (append-nil pieces)

  front_reading : (front rest : List ℕ) (pieces : List Piece) → CutsBefore alphabet rest front pieces → NoWord alphabet rest → reading_of alphabet 0 (front ++ rest) ≡ before alphabet pieces (reading_of alphabet (length front) rest)
  front_reading front rest pieces cut none =
      let n : 0 + length (flat_map bytes_of pieces) ≡ length front = omega (arith, ap length cut.whole) in
      ap (λ x. reading_of alphabet 0 (x ++ rest)) (sym cut.whole)
      ∙ reading_of-pieces alphabet pieces rest 0 cut.each cut.apart none
      ∙ ap (λ k. before alphabet pieces (reading_of alphabet k rest)) n

  pub balanced_judged : (angles : Bool) (pieces : List Piece) → AreBalanced angles (lexemes_of dollars pieces) → judged dollars angles 0 [] pieces None ≡ Ok (lexemes_of dollars pieces)
  balanced_judged false pieces balanced = unchecked dollars 0 [] pieces None ∙ ap Ok (append-nil (lexemes_of dollars pieces))
  balanced_judged true pieces balanced = closes_more dollars pieces 0 [] [] None (balanced refl) ∙ ap Ok (append-nil (lexemes_of dollars pieces))

  balanced_outcome : (angles : Bool) (text : List ℕ) (pieces : List Piece) → Cuts alphabet text pieces → AreBalanced angles (lexemes_of dollars pieces) → outcome_of alphabet angles text ≡ limited (lexemes_of dollars pieces)
  balanced_outcome angles text pieces cut balanced = outcome_from angles text _ _ (whole_reading text pieces cut) (balanced_judged angles pieces balanced)

  -- the lexemes of a text are what its cutting answers
  pub lexemes_answered : (angles : Bool) (text : List ℕ) (lexemes : List Lexeme) → AreLexemes alphabet angles text lexemes → outcome_of alphabet angles text ≡ Ok lexemes
  lexemes_answered angles text lexemes a =
      balanced_outcome angles text a.pieces a.cut (subst (AreBalanced angles) (sym a.lexemes_are) a.balanced)
      ∙ ap limited a.lexemes_are ∙ short_limited lexemes a.short

  stopped : (angles : Bool) (pieces : List Piece) (fault : ScanFault) → MayGoOn angles (lexemes_of dollars pieces) → judged dollars angles 0 [] (pieces ++ []) (Some fault) ≡ Err fault
  stopped false pieces fault goes_on = unchecked dollars 0 [] (pieces ++ []) (Some fault)
  stopped true pieces fault goes_on =
      ⊎_elim
      (λ (l : Lone dollars 0 [] pieces). absurd (false≢true (ap is_some (sym (lone_closed dollars pieces l)) ∙ goes_on refl)))
      (λ (p : Passes dollars 0 [] pieces). p.judged_so [] (Some fault)) (verdict dollars pieces 0 [])

  angle_is : (after : List ℕ) → is_operator alphabet 62 after ≡ true
  angle_is after = and_from _ _ (or_right (list_any (λ o. o == 62) alphabet.operators) true refl) refl

  right_reading : (front after : List ℕ) (pieces : List Piece) → CutsBefore alphabet (62 ∷ after) front pieces
      → let more = reading_of alphabet (length front + 1) after in reading_of alphabet 0 (front ++ 62 ∷ after) ≡ record { pieces = pieces ++ Operator 62 ∷ more.pieces; fault = more.fault }
  right_reading front after pieces cut =
      front_reading front (62 ∷ after) pieces cut (operator_none alphabet 62 after (angle_is after))
      ∙ ap (before alphabet pieces) (reading_first alphabet (length front) (62 ∷ after) (Operator 62) after (first_is alphabet (length front) (Operator 62) after (angle_is after) tt))

  right_judged : (pieces more : List Piece) (fault : Option ScanFault) → opened (Some 0) (lexemes_of dollars pieces) ≡ Some 0 → judged dollars true 0 [] (pieces ++ Operator 62 ∷ more) fault ≡ Err (Unbalanced (length (flat_map bytes_of pieces)))
  right_judged pieces more fault closed =
      ⊎_elim
      (λ (l : Lone dollars 0 [] pieces). absurd (cc (sym (lone_closed dollars pieces l) ∙ closed)))
      (λ (p : Passes dollars 0 [] pieces).
      let none : p.now ≡ [] = nil_from_length p.now (count_of (length p.now) 0 (sym p.count ∙ closed)) in
      let n : 0 + length (flat_map bytes_of pieces) ≡ length (flat_map bytes_of pieces) = omega arith in
      p.judged_so (Operator 62 ∷ more) fault
      ∙ ap (λ l. with_lexemes (lexemes_of dollars pieces) (judged dollars true (0 + length (flat_map bytes_of pieces)) l (Operator 62 ∷ more) fault)) none
      ∙ ap (λ k. Err (Unbalanced k)) n) (verdict dollars pieces 0 [])

  left_judged : (pieces more : List Piece) → MayGoOn true (lexemes_of dollars pieces) → opened (Some 0) (lexemes_of dollars more) ≡ Some 0 → judged dollars true 0 [] (pieces ++ Operator 60 ∷ more) None ≡ Err (Unbalanced (length (flat_map bytes_of pieces)))
  left_judged pieces more goes_on closed =
      ⊎_elim
      (λ (l : Lone dollars 0 [] pieces). absurd (false≢true (ap is_some (sym (lone_closed dollars pieces l)) ∙ goes_on refl)))
      (λ (p : Passes dollars 0 [] pieces).
      let place = 0 + length (flat_map bytes_of pieces) in
      let n : place ≡ length (flat_map bytes_of pieces) = omega arith in
      p.judged_so (Operator 60 ∷ more) None
      ∙ ap (λ r. with_lexemes (lexemes_of dollars pieces) (with_lexemes (Plain (Op 60) ∷ []) r)) (closes_more dollars more (place + 1) [] (place ∷ p.now) None closed)
      ∙ ap (λ k. Err (Unbalanced k)) n) (verdict dollars pieces 0 [])

  -- the fault of a text is what its cutting answers
  pub fault_answered : (angles : Bool) (text : List ℕ) (fault : ScanFault) → HasFault alphabet angles text fault → outcome_of alphabet angles text ≡ Err fault
  fault_answered angles _ _ (stops front rest pieces fault cut goes_on stop) =
      outcome_from angles (front ++ rest) _ (Err fault)
      (front_reading front rest pieces cut (stop_none alphabet rest (length front) fault stop) ∙ ap (before alphabet pieces) (reading_at_stop alphabet (length front) rest fault stop))
      (stopped angles pieces fault goes_on)
  fault_answered angles _ _ (right_angle front after pieces checked cut closed) =
      ap (λ a. outcome_of alphabet a (front ++ 62 ∷ after)) checked
      ∙ outcome_from true (front ++ 62 ∷ after) _ _ (right_reading front after pieces cut) (right_judged pieces _ _ closed)
      ∙ ap (λ x. Err (Unbalanced (length x))) cut.whole
  fault_answered angles _ _ (left_angle text pieces more checked cut goes_on closed) =
      ap (λ a. outcome_of alphabet a text) checked
      ∙ outcome_from true text _ _ (whole_reading text (pieces ++ Operator 60 ∷ more) cut) (left_judged pieces more (λ _. goes_on checked) closed)
  fault_answered angles _ _ (long text pieces cut balanced many) = balanced_outcome angles text pieces cut balanced ∙ long_limited (lexemes_of dollars pieces) many

  -- ---- what is answered is so

  -- what an answer says of a text: its lexemes, or its fault
  abbrev pub Means : Bool → List ℕ → Answer → Type 0
  Means angles text (Ok lexemes) = AreLexemes alphabet angles text lexemes
  Means angles text (Err fault) = HasFault alphabet angles text fault

  limited_means : (angles : Bool) (text : List ℕ) (pieces : List Piece) → Cuts alphabet text pieces → AreBalanced angles (lexemes_of dollars pieces) → (short : Bool) → nat_le (length (lexemes_of dollars pieces)) most_tokens ≡ short
      → Means angles text (cond short (Ok (lexemes_of dollars pieces)) (Err Long))
  limited_means angles text pieces cut balanced true le = record { pieces = pieces; cut = cut; lexemes_are = refl; balanced = balanced; short = leb-true _ _ le }
  limited_means angles text pieces cut balanced false le = long text pieces cut balanced (leb-false _ _ le)

  balanced_means : (angles : Bool) (text : List ℕ) (pieces : List Piece) → Cuts alphabet text pieces → AreBalanced angles (lexemes_of dollars pieces) → Means angles text (limited (lexemes_of dollars pieces))
  balanced_means angles text pieces cut balanced = limited_means angles text pieces cut balanced (nat_le (length (lexemes_of dollars pieces)) most_tokens) refl

  all_cut : (text front rest : List ℕ) (pieces : List Piece) → text ≡ front ++ rest → CutsBefore alphabet rest front pieces → rest ≡ [] → Cuts alphabet text pieces
  all_cut text front rest pieces whole cut none = record { whole = cut.whole ∙ sym (append-nil front) ∙ ap (λ x. front ++ x) (sym none) ∙ sym whole; each = subst (ArePieces alphabet pieces) none cut.each; apart = cut.apart }

  stop_means : (angles : Bool) (text front rest : List ℕ) (pieces : List Piece) (fault : ScanFault) → text ≡ front ++ rest → CutsBefore alphabet rest front pieces → MayGoOn angles (lexemes_of dollars pieces) → Stops alphabet rest (0 + length front) fault → HasFault alphabet angles text fault
  stop_means angles text front rest pieces fault whole cut goes_on stop =
      let n : 0 + length front ≡ length front = omega arith in
      subst (λ x. HasFault alphabet angles x fault) (sym whole) (stops front rest pieces fault cut goes_on (subst (λ k. Stops alphabet rest k fault) n stop))

  cut_front : (rest text : List ℕ) (pieces front after : List Piece) → pieces ≡ front ++ after → CutsBefore alphabet rest text pieces → CutsBefore alphabet (flat_map bytes_of after ++ rest) (flat_map bytes_of front) front
  cut_front rest text pieces front after whole cut = record {
    whole = refl;
    each = each_front alphabet front after rest (subst (λ ps. ArePieces alphabet ps rest) whole cut.each);
    apart = apart_front front after (ap are_apart (sym whole) ∙ cut.apart);
  }

  lone_means : (text front rest : List ℕ) (pieces : List Piece) → text ≡ front ++ rest → CutsBefore alphabet rest front pieces → (l : Lone dollars 0 [] pieces) → HasFault alphabet true text (Unbalanced (0 + length (flat_map bytes_of l.front)))
  lone_means text front rest pieces whole cut l =
      let n : length (flat_map bytes_of l.front) ≡ 0 + length (flat_map bytes_of l.front) = omega arith in
      let after = flat_map bytes_of l.after ++ rest in
      let e : text ≡ flat_map bytes_of l.front ++ 62 ∷ after =
      whole ∙ ap (λ x. x ++ rest) (sym cut.whole ∙ ap (flat_map bytes_of) l.whole ∙ flat_map-both l.front (Operator 62 ∷ l.after))
      ∙ append_assoc (flat_map bytes_of l.front) (62 ∷ flat_map bytes_of l.after) rest in
      subst (λ k. HasFault alphabet true text (Unbalanced k)) n
      (subst (λ x. HasFault alphabet true x (Unbalanced (length (flat_map bytes_of l.front)))) (sym e)
      (right_angle (flat_map bytes_of l.front) after l.front refl (cut_front rest front pieces l.front (Operator 62 ∷ l.after) l.whole cut) l.closed))

  opens_means : (text : List ℕ) (pieces : List Piece) (last : ℕ) → Cuts alphabet text pieces → Opens dollars 0 [] pieces last → HasFault alphabet true text (Unbalanced last)
  opens_means text pieces last cut o =
      let n : length (flat_map bytes_of o.front) ≡ last = omega (arith, o.place_is) in
      subst (λ k. HasFault alphabet true text (Unbalanced k)) n
      (left_angle text o.front o.after refl (subst (Cuts alphabet text) o.whole cut) (λ _. o.goes_on) o.closed)

  end_means : (text : List ℕ) (pieces : List Piece) (now : List ℕ) → Cuts alphabet text pieces → opened (Some 0) (lexemes_of dollars pieces) ≡ Some (length now)
      → ((last : ℕ) (others : List ℕ) → now ≡ last ∷ others → Opens dollars 0 [] pieces last ⊎ Stays dollars [] pieces last others) → Means true text (gathered false [] (with_lexemes (lexemes_of dollars pieces) (judge_end now None)))
  end_means text pieces [] cut count last_is = subst (λ ts. Means true text (limited ts)) (sym (append-nil (lexemes_of dollars pieces))) (balanced_means true text pieces cut (λ _. count))
  end_means text pieces (last ∷ others) cut count last_is =
      ⊎_elim (λ o. opens_means text pieces last cut o)
      (λ (s : Stays dollars [] pieces last others). absurd (omega (arith, ap length s.whole, length-append s.closed_first (last ∷ others)))) (last_is last others refl)

  passes_means : (text front rest : List ℕ) (pieces : List Piece) (fault : Option ScanFault) → text ≡ front ++ rest → CutsBefore alphabet rest front pieces → IsEnd alphabet fault (0 + length front) rest → (p : Passes dollars 0 [] pieces)
      → Means true text (gathered false [] (with_lexemes (lexemes_of dollars pieces) (judge_end p.now fault)))
  passes_means text front rest pieces None whole cut ends p = end_means text pieces p.now (all_cut text front rest pieces whole cut ends) p.count p.last_is
  passes_means text front rest pieces (Some fault) whole cut ends p = stop_means true text front rest pieces fault whole cut (λ _. ap is_some p.count) ends

  means_by : (angles : Bool) (text front rest : List ℕ) (pieces : List Piece) (fault : Option ScanFault) → text ≡ front ++ rest → CutsBefore alphabet rest front pieces → IsEnd alphabet fault (0 + length front) rest
      → Means angles text (gathered false [] (judged dollars angles 0 [] pieces fault))
  means_by false text front rest pieces None whole cut ends =
      subst (λ a. Means false text (gathered false [] a)) (sym (balanced_judged false pieces (λ e. absurd (false≢true e))))
      (balanced_means false text pieces (all_cut text front rest pieces whole cut ends) (λ e. absurd (false≢true e)))
  means_by false text front rest pieces (Some fault) whole cut ends =
      subst (λ a. Means false text (gathered false [] a)) (sym (unchecked dollars 0 [] pieces (Some fault)))
      (stop_means false text front rest pieces fault whole cut (λ e. absurd (false≢true e)) ends)
  means_by true text front rest pieces fault whole cut ends =
      subst (λ ps. Means true text (gathered false [] (judged dollars true 0 [] ps fault))) (append-nil pieces)
      (⊎_elim
      (λ (l : Lone dollars 0 [] pieces). subst (λ a. Means true text (gathered false [] a)) (sym (l.judged_so [] fault)) (lone_means text front rest pieces whole cut l))
      (λ (p : Passes dollars 0 [] pieces). subst (λ a. Means true text (gathered false [] a)) (sym (p.judged_so [] fault)) (passes_means text front rest pieces fault whole cut ends p)) (verdict dollars pieces 0 []))

  -- the answer of a cutting is so
  pub answer_means : (angles : Bool) (text : List ℕ) → Means angles text (outcome_of alphabet angles text)
  answer_means angles text =
      let r = reads alphabet 0 text in
      means_by angles text r.front r.rest (reading_of alphabet 0 text).pieces (reading_of alphabet 0 text).fault r.whole r.cut r.ends

  -- the lexemes that a cutting answers are those of the text
  pub lexemes_of_answer : (angles : Bool) (text : List ℕ) (lexemes : List Lexeme) → outcome_of alphabet angles text ≡ Ok lexemes → AreLexemes alphabet angles text lexemes
  lexemes_of_answer angles text lexemes is = subst (Means angles text) is (answer_means angles text)

  -- the fault that a cutting answers is the text's
  pub has_of_answer : (angles : Bool) (text : List ℕ) (fault : ScanFault) → outcome_of alphabet angles text ≡ Err fault → HasFault alphabet angles text fault
  has_of_answer angles text fault is = subst (Means angles text) is (answer_means angles text)

  -- ---- there is one

  -- a text has one cutting at most
  pub one_cut : (text : List ℕ) (one other : List Piece) → Cuts alphabet text one → Cuts alphabet text other → one ≡ other
  one_cut text one other a b = ap (λ r. r.pieces) (sym (whole_reading text one a) ∙ whole_reading text other b)

  abbrev pub Some_answer : Bool → List ℕ → Type 0
  Some_answer angles text = ((lexemes : List Lexeme) × AreLexemes alphabet angles text lexemes) ⊎ ((fault : ScanFault) × HasFault alphabet angles text fault)

  answer_by : (angles : Bool) (text : List ℕ) (answer : Answer) → Means angles text answer → Some_answer angles text
  answer_by angles text (Ok lexemes) means = inl (lexemes, means)
  answer_by angles text (Err fault) means = inr (fault, means)

  -- each text has lexemes or a fault
  pub some_answer : (angles : Bool) (text : List ℕ) → Some_answer angles text
  some_answer angles text = answer_by angles text (outcome_of alphabet angles text) (answer_means angles text)

  -- a text has its lexemes in one way only
  pub one_lexemes : (angles : Bool) (text : List ℕ) (one other : List Lexeme) → AreLexemes alphabet angles text one → AreLexemes alphabet angles text other → one ≡ other
  one_lexemes angles text one other a b = same_lexemes (outcome_of alphabet angles text) one other (lexemes_answered angles text one a) (lexemes_answered angles text other b)

  -- a text has one fault at most
  pub one_fault : (angles : Bool) (text : List ℕ) (one other : ScanFault) → HasFault alphabet angles text one → HasFault alphabet angles text other → one ≡ other
  one_fault angles text one other a b = same_fault (outcome_of alphabet angles text) one other (fault_answered angles text one a) (fault_answered angles text other b)

  -- no text has lexemes and a fault
  pub not_both : (angles : Bool) (text : List ℕ) (lexemes : List Lexeme) (fault : ScanFault) → AreLexemes alphabet angles text lexemes → HasFault alphabet angles text fault → ⊥
  not_both angles text lexemes fault a b = never_both (outcome_of alphabet angles text) lexemes fault (lexemes_answered angles text lexemes a) (fault_answered angles text fault b)

  explains : (angles : Bool) (text : List ℕ) (fault : ScanFault) → HasFault alphabet angles text fault → ExplainsFault alphabet angles text fault
  explains angles text (Unbalanced place) has = has
  explains angles text (BadQuote place) has = has
  explains angles text (BadDollar place) has = has
  explains angles text Long has = has
  explains angles text NoMemory has = tt

  -- the fault that a cutting answers explains itself in the text
  pub fault_of_answer : (angles : Bool) (text : List ℕ) (fault : ScanFault) → outcome_of alphabet angles text ≡ Err fault → ExplainsFault alphabet angles text fault
  fault_of_answer angles text fault is = explains angles text fault (has_of_answer angles text fault is)
