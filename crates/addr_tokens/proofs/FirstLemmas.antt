-- The first piece of a text.
use Rattle.std.proofs.Common.{◌≡◌, ◌≢◌, ℕ, ◌+◌, ◌-◌, ◌<◌, ◌≤◌, ◌==◌, Bool, true, false, not, ◌&&◌, ◌||◌, cond, List, [], ◌∷◌, ◌++◌, length, Ok, Err, refl, sym, ◌∙◌, ap, subst, arith}
use Rattle.std.proofs.lemmas.Bool.{cond-true, cond-false, and_parts, and_from, or_from, not-true, not_from_false, or_parts, eqb-true, eq-eqb, ne_eqb, both_ways, false≢true}
use Rattle.std.proofs.lemmas.List.{append_assoc, append-nil, length-append}
use Rattle.mail_base.proofs.FeedLemmas.{clash, heads, tails}
use Rattle.addr_tokens.specs.declared.fault.ScanFault.{ScanFault}
use Rattle.addr_tokens.specs.declared.fault.ScanFault.TheVariants.{Unbalanced, BadQuote, BadDollar, Long}
use Rattle.mail_base.specs.Whites.{is_white}
use Rattle.addr_tokens.specs.Pieces.{Alphabet, InWord, word_nothing, word_plain, word_escaped, word_doubled, IsPiece, Piece, White, Comment, Quotation, Operator, Dollar, Run, Single, Letter, Braced, bytes_of, is_special, is_listed, is_word_byte, is_dollar, is_doubled}
use Rattle.addr_tokens.specs.Scans.{Stops, closing, opening, opening_ended, backslash, quote, quote_ended, quoted_control, escaped_control, dollar, BeginsNone}
use Rattle.addr_tokens.specs.Reader.{Ending, Closed, Unclosed, Bad, First, first_of, first_word, first_quote, first_comment, first_dollar, front_of, is_pair, takes_next, past_word, past_quote, past_comment}
use Rattle.addr_tokens.proofs.WordLemmas.{NoWord, word_read, word_stops, word_parts, takes_none, past_word-append, front_is, special_parts}
use Rattle.addr_tokens.proofs.ConstructLemmas.{DollarReads, reads, refuses, dollar_reads, dollar_is, construct_begins, construct_apart, construct_first}
use Rattle.addr_tokens.proofs.QuoteLemmas.{QuoteEnds, SpoilsQuote, spoilt_end, spoilt_byte, spoilt_pair, quote_read, past_quote-append}
use Rattle.addr_tokens.proofs.CommentLemmas.{CommentEnds, comment_read, past_comment-append, past_comment-open, past_comment-ended}

taken : (text front rest : List ℕ) → text ≡ front ++ rest → front_of text rest ≡ front
taken text front rest whole = ap (λ t. front_of t rest) whole ∙ front_is front rest

module _ (alphabet : Alphabet) where
  at_place : (text : List ℕ) (place m n : ℕ) → m ≡ n → Stops alphabet text place (BadQuote m) → Stops alphabet text place (BadQuote n)
  at_place text place m n e s = subst (λ k. Stops alphabet text place (BadQuote k)) e s

  -- no word follows a word
  abbrev pub Follows : Piece → List ℕ → Type 0
  Follows (White byte) rest = Unit {0}
  Follows (Comment bytes) rest = Unit {0}
  Follows (Quotation bytes) rest = Unit {0}
  Follows (Operator byte) rest = Unit {0}
  Follows (Dollar construct) rest = Unit {0}
  Follows (Run bytes) rest = NoWord alphabet rest

  pub record IsFirst (text : List ℕ) (piece : Piece) (rest : List ℕ) : Type 0 where
    pub whole : text ≡ bytes_of piece ++ rest
    pub is : IsPiece alphabet piece rest
    pub then : Follows piece rest

  -- what is answered for the first piece: it stands there, or nothing goes on at its place
  abbrev pub FirstReads : ℕ → List ℕ → First → Type 0
  FirstReads place text (Ok first) = IsFirst text first.0 first.1
  FirstReads place text (Err fault) = Stops alphabet text place fault

  some_word : (place : ℕ) (text rest word : List ℕ) → text ≡ word ++ rest → 0 < length word → first_word place text rest ≡ Ok (Run word, rest)
  some_word place text rest word whole some =
      let n : (length text - length rest ≡ 0) → ⊥ = λ e. omega (arith, ap length whole, length-append word rest, e) in
      cond-false _ _ _ (ne_eqb _ _ n) ∙ ap (λ w. Ok (Run w, rest)) (taken text word rest whole)

  no_word : (place : ℕ) (text rest : List ℕ) → text ≡ rest → first_word place text rest ≡ Err (BadQuote place)
  no_word place text rest same =
      let n : length text - length rest ≡ 0 = omega (arith, ap length same) in
      cond-true _ _ _ (eq-eqb _ _ n)

  word_by : (place : ℕ) (text rest word : List ℕ) → text ≡ word ++ rest → InWord alphabet word rest → NoWord alphabet rest → (text ≡ rest → Stops alphabet text place (BadQuote place)) → FirstReads place text (first_word place text rest)
  word_by place text rest [] whole is none stops = subst (FirstReads place text) (sym (no_word place text rest whole)) (stops whole)
  word_by place text rest (b ∷ bs) whole is none stops =
      subst (FirstReads place text) (sym (some_word place text rest (b ∷ bs) whole (omega arith)))
      (record { whole = whole; is = record { some = λ e. absurd (cc e); is = is }; then = none })

  word_first : (place : ℕ) (text : List ℕ) → (text ≡ past_word alphabet false text → Stops alphabet text place (BadQuote place)) → FirstReads place text (first_word place text (past_word alphabet false text))
  word_first place text stops =
      let r = word_read alphabet text in
      word_by place text (past_word alphabet false text) r.word r.whole r.is (word_stops alphabet false text) stops

  -- what is left behind a word isn't longer than the text
  pub past-length : (text : List ℕ) → length (past_word alphabet false text) ≤ length text
  past-length text = let r = word_read alphabet text in omega (arith, ap length r.whole, length-append r.word (past_word alphabet false text))

  -- a byte that takes the next one begins a word, or is a backslash that ends the text
  slash_is : (slash two : Bool) → (slash || (two && false)) ≡ true → slash ≡ true
  slash_is true two is = refl
  slash_is false two is = absurd (false≢true (and_parts two false is).1)

  taking_first : (place b : ℕ) (bs : List ℕ) → takes_next alphabet b bs ≡ true → b ∷ bs ≡ past_word alphabet false (b ∷ bs) → Stops alphabet (b ∷ bs) place (BadQuote place)
  taking_first place b [] takes same = subst (λ x. Stops alphabet (x ∷ []) place (BadQuote place)) (sym (eqb-true b 92 (slash_is (b == 92) (b == 36) takes))) (backslash place)
  taking_first place b (c ∷ cs) takes same = absurd (omega (arith, ap length (same ∙ cond-true _ _ _ takes), past-length cs))

  byte_first : (place b : ℕ) (bs : List ℕ) → takes_next alphabet b bs ≡ false → is_word_byte alphabet b bs ≡ true → b ∷ bs ≡ past_word alphabet false (b ∷ bs) → Stops alphabet (b ∷ bs) place (BadQuote place)
  byte_first place b bs t w same =
      absurd (omega (arith, ap length (same ∙ cond-false _ _ _ t ∙ cond-true _ _ _ w), past-length bs))

  comment_first : (place : ℕ) (bs : List ℕ) (ending : Ending) → CommentEnds 0 bs ending → FirstReads place (40 ∷ bs) (first_comment place (40 ∷ bs) ending)
  comment_first place bs (Closed rest) c =
      let front = 40 ∷ (c.inside ++ 41 ∷ []) in
      let whole : 40 ∷ bs ≡ front ++ rest = ap (λ x. 40 ∷ x) (c.whole ∙ ap (λ x. c.inside ++ 41 ∷ x) c.after ∙ sym (append_assoc c.inside (41 ∷ []) rest)) in
      let e = taken (40 ∷ bs) front rest whole in
      record { whole = whole ∙ ap (λ x. x ++ rest) (sym e); is = record { inside = c.inside; whole = e; is = c.is }; then = tt }
  comment_first place bs Unclosed o = opening bs place o
  comment_first place bs (Bad left) s =
      let n : place + length (40 ∷ s.inside) ≡ place + (length (40 ∷ bs) - left) = omega (arith, s.one, ap length s.whole, length-append s.inside (92 ∷ [])) in
      at_place (40 ∷ bs) place _ _ n (subst (λ x. Stops alphabet (40 ∷ x) place (BadQuote (place + length (40 ∷ s.inside)))) (sym s.whole) (opening_ended s.inside place s.remains))

  spoilt_first : (place : ℕ) (bs : List ℕ) (left : ℕ) → SpoilsQuote bs left → Stops alphabet (34 ∷ bs) place (BadQuote (place + (length (34 ∷ bs) - left)))
  spoilt_first place _ _ (spoilt_end inside is) = at_place _ place _ _ (omega (arith, length-append inside (92 ∷ []))) (quote_ended inside place is)
  spoilt_first place _ _ (spoilt_byte inside b after is c) = at_place _ place _ _ (omega (arith, length-append inside (b ∷ after))) (quoted_control inside b after place is c)
  spoilt_first place _ _ (spoilt_pair inside b after is c) = at_place _ place _ _ (omega (arith, length-append inside (92 ∷ b ∷ after))) (escaped_control inside b after place is c)

  quote_first : (place : ℕ) (bs : List ℕ) (ending : Ending) → QuoteEnds bs ending → FirstReads place (34 ∷ bs) (first_quote place (34 ∷ bs) ending)
  quote_first place bs (Closed rest) c =
      let front = 34 ∷ (c.inside ++ 34 ∷ []) in
      let whole : 34 ∷ bs ≡ front ++ rest = ap (λ x. 34 ∷ x) (c.whole ∙ sym (append_assoc c.inside (34 ∷ []) rest)) in
      let e = taken (34 ∷ bs) front rest whole in
      record { whole = whole ∙ ap (λ x. x ++ rest) (sym e); is = record { inside = c.inside; whole = e; is = c.is }; then = tt }
  quote_first place bs Unclosed is = quote bs place is
  quote_first place bs (Bad left) s = spoilt_first place bs left s

  -- a dollar sign that begins no construct and no word begins nothing
  run_begins : (after bytes rest : List ℕ) → is_dollar alphabet.dollars 36 after ≡ true → is_pair alphabet 36 after ≡ false → bytes ≢ [] → InWord alphabet bytes rest → 36 ∷ after ≡ bytes ++ rest → ⊥
  run_begins after _ _ begins single some (word_nothing rest) whole = some refl
  run_begins after _ _ begins single some (word_plain b more rest w is) whole =
      let p = word_parts alphabet b (more ++ rest) (not (is_listed alphabet b)) w in
      both_ways (is_dollar alphabet.dollars 36 after)
      ((λ i. is_dollar alphabet.dollars (heads 36 b after (more ++ rest) whole i) (tails 36 b after (more ++ rest) whole i)) ∙ p.0) begins
  run_begins after _ _ begins single some (word_escaped b more rest is) whole = clash 36 92 after (b ∷ (more ++ rest)) refl whole
  run_begins after _ _ begins single some (word_doubled more rest two is) whole =
      both_ways (is_pair alphabet 36 after) single (ap (is_pair alphabet 36) (tails 36 36 after (36 ∷ (more ++ rest)) whole) ∙ two)

  none_begins : (place : ℕ) (after : List ℕ) → is_dollar alphabet.dollars 36 after ≡ true → is_pair alphabet 36 after ≡ false → first_dollar alphabet place after ≡ Err (BadDollar place) → BeginsNone alphabet (36 ∷ after)
  none_begins place after begins single refused (White b) rest is whole = both_ways (is_white b) (ap is_white (sym (heads 36 b after rest whole))) is
  none_begins place after begins single refused (Comment bytes) rest is whole =
      clash 36 40 after ((is.inside ++ 41 ∷ []) ++ rest) refl (whole ∙ ap (λ x. x ++ rest) is.whole)
  none_begins place after begins single refused (Quotation bytes) rest is whole =
      clash 36 34 after ((is.inside ++ 34 ∷ []) ++ rest) refl (whole ∙ ap (λ x. x ++ rest) is.whole)
  none_begins place after begins single refused (Operator b) rest is whole =
      let p = word_parts alphabet b rest (is_listed alphabet b) is in
      both_ways (is_dollar alphabet.dollars 36 after) ((λ i. is_dollar alphabet.dollars (heads 36 b after rest whole i) (tails 36 b after rest whole i)) ∙ p.0) begins
  none_begins place after begins single refused (Dollar construct) rest is whole =
      absurd (cc (sym refused ∙ ap (first_dollar alphabet place) (tails 36 36 after _ whole) ∙ construct_first alphabet place construct rest is))
  none_begins place after begins single refused (Run bytes) rest is whole = run_begins after bytes rest begins single is.some is.is whole

  dollar_by : (place : ℕ) (after : List ℕ) (first : First) → is_dollar alphabet.dollars 36 after ≡ true → is_pair alphabet 36 after ≡ false → first_dollar alphabet place after ≡ first → DollarReads alphabet place after first → FirstReads place (36 ∷ after) first
  dollar_by place after _ begins single is (reads construct rest r) = record { whole = ap (λ x. 36 ∷ x) r.whole; is = r.is; then = tt }
  dollar_by place after _ begins single is refuses = dollar after place (none_begins place after begins single is)

  dollar_first : (place : ℕ) (after : List ℕ) → is_dollar alphabet.dollars 36 after ≡ true → takes_next alphabet 36 after ≡ false → FirstReads place (36 ∷ after) (first_dollar alphabet place after)
  dollar_first place after begins takes = dollar_by place after (first_dollar alphabet place after) begins takes refl (dollar_reads alphabet place after begins)

  abbrev word_from : ℕ → ℕ → List ℕ → First
  word_from place b bs = first_word place (b ∷ bs) (past_word alphabet false (b ∷ bs))

  first_at : (place b : ℕ) (bs : List ℕ) (white open_ close quoting takes begins listed : Bool) → is_white b ≡ white → (b == 40) ≡ open_ → (b == 41) ≡ close → (b == 34) ≡ quoting
      → takes_next alphabet b bs ≡ takes → is_dollar alphabet.dollars b bs ≡ begins → is_listed alphabet b ≡ listed
      → FirstReads place (b ∷ bs) (cond white (Ok (White b, bs)) (cond open_ (first_comment place (b ∷ bs) (past_comment 0 false bs)) (cond close (Err (Unbalanced place)) (cond quoting (first_quote place (b ∷ bs) (past_quote false bs)) (cond takes (word_from place b bs) (cond begins (first_dollar alphabet place bs) (cond listed (Ok (Operator b, bs)) (word_from place b bs))))))))
  first_at place b bs true o c q t d l we oe ce qe te de le = record { whole = refl; is = we; then = tt }
  first_at place b bs false true c q t d l we oe ce qe te de le = subst (λ x. FirstReads place (x ∷ bs) (first_comment place (x ∷ bs) (past_comment 0 false bs))) (sym (eqb-true b 40 oe)) (comment_first place bs (past_comment 0 false bs) (comment_read 0 false bs))
  first_at place b bs false false true q t d l we oe ce qe te de le = subst (λ x. Stops alphabet (x ∷ bs) place (Unbalanced place)) (sym (eqb-true b 41 ce)) (closing bs place)
  first_at place b bs false false false true t d l we oe ce qe te de le = subst (λ x. FirstReads place (x ∷ bs) (first_quote place (x ∷ bs) (past_quote false bs))) (sym (eqb-true b 34 qe)) (quote_first place bs (past_quote false bs) (quote_read false bs))
  first_at place b bs false false false false true d l we oe ce qe te de le = word_first place (b ∷ bs) (taking_first place b bs te)
  first_at place b bs false false false false false true l we oe ce qe te de le =
      let e = eqb-true b 36 (dollar_is alphabet.dollars b bs de) in
      subst (λ x. FirstReads place (x ∷ bs) (first_dollar alphabet place bs)) (sym e)
      (dollar_first place bs (ap (λ x. is_dollar alphabet.dollars x bs) (sym e) ∙ de) (ap (λ x. takes_next alphabet x bs) (sym e) ∙ te))
  first_at place b bs false false false false false false true we oe ce qe te de le = record {
    whole = refl;
    is = and_from _ _ (and_from _ _ (and_from _ _ (not_from_false _ we) (not_from_false _ (or_from _ _ (or_from _ _ (or_from _ _ qe (or_parts (b == 92) _ te).0) oe) ce))) le) (not_from_false _ de);
    then = tt;
  }
  first_at place b bs false false false false false false false we oe ce qe te de le =
      word_first place (b ∷ bs)
      (byte_first place b bs te (and_from _ _ (and_from _ _ (and_from _ _ (not_from_false _ we) (not_from_false _ (or_from _ _ (or_from _ _ (or_from _ _ qe (or_parts (b == 92) _ te).0) oe) ce))) (not_from_false _ le)) (not_from_false _ de)))

  -- what is read first is a piece, or a stop
  pub first_read : (place b : ℕ) (bs : List ℕ) → FirstReads place (b ∷ bs) (first_of alphabet place b bs)
  first_read place b bs =
      first_at place b bs (is_white b) (b == 40) (b == 41) (b == 34) (takes_next alphabet b bs) (is_dollar alphabet.dollars b bs) (is_listed alphabet b) refl refl refl refl refl refl refl

  -- the same for any text
  abbrev pub first_on : ℕ → List ℕ → First
  first_on place [] = Err Long
  first_on place (b ∷ bs) = first_of alphabet place b bs

  -- past white space, comments, quotes and dollar signs
  plain_first : (place b : ℕ) (bs : List ℕ) → is_dollar alphabet.dollars b bs ≡ false → is_white b ≡ false → is_special b ≡ false
      → first_of alphabet place b bs ≡ cond (is_listed alphabet b) (Ok (Operator b, bs)) (word_from place b bs)
  plain_first place b bs d w s =
      let p = special_parts b s in
      cond-false _ _ _ w ∙ cond-false _ _ _ p.2 ∙ cond-false _ _ _ p.3 ∙ cond-false _ _ _ p.0 ∙ cond-false _ _ _ (takes_none alphabet b bs d s) ∙ cond-false _ _ _ d

  past_is : (word rest : List ℕ) → InWord alphabet word rest → NoWord alphabet rest → past_word alphabet false (word ++ rest) ≡ rest
  past_is word rest is none = past_word-append alphabet word rest is ∙ none.stays

  run_first : (place : ℕ) (word rest : List ℕ) → word ≢ [] → InWord alphabet word rest → NoWord alphabet rest → first_on place (word ++ rest) ≡ Ok (Run word, rest)
  run_first place _ _ some (word_nothing rest) none = absurd (some refl)
  run_first place _ _ some (word_plain b more rest w is) none =
      let p = word_parts alphabet b (more ++ rest) (not (is_listed alphabet b)) w in
      plain_first place b (more ++ rest) p.0 p.1 p.2 ∙ cond-false _ _ _ (not-true _ p.3)
      ∙ ap (first_word place (b ∷ (more ++ rest))) (past_is (b ∷ more) rest (word_plain b more rest w is) none)
      ∙ some_word place (b ∷ (more ++ rest)) rest (b ∷ more) refl (omega arith)
  run_first place _ _ some (word_escaped b more rest is) none =
      ap (first_word place (92 ∷ b ∷ (more ++ rest))) (past_is (92 ∷ b ∷ more) rest (word_escaped b more rest is) none)
      ∙ some_word place (92 ∷ b ∷ (more ++ rest)) rest (92 ∷ b ∷ more) refl (omega arith)
  run_first place _ _ some (word_doubled more rest two is) none =
      cond-true _ _ _ two
      ∙ ap (first_word place (36 ∷ 36 ∷ (more ++ rest))) (past_is (36 ∷ 36 ∷ more) rest (word_doubled more rest two is) none)
      ∙ some_word place (36 ∷ 36 ∷ (more ++ rest)) rest (36 ∷ 36 ∷ more) refl (omega arith)

  -- a piece is read
  pub first_is : (place : ℕ) (piece : Piece) (rest : List ℕ) → IsPiece alphabet piece rest → Follows piece rest → first_on place (bytes_of piece ++ rest) ≡ Ok (piece, rest)
  first_is place (White b) rest is then = cond-true _ _ _ is
  first_is place (Comment bytes) rest is then =
      let e : bytes ++ rest ≡ 40 ∷ (is.inside ++ 41 ∷ rest) = ap (λ x. x ++ rest) is.whole ∙ ap (λ x. 40 ∷ x) (append_assoc is.inside (41 ∷ []) rest) in
      ap (first_on place) e
      ∙ ap (first_comment place (40 ∷ (is.inside ++ 41 ∷ rest))) (past_comment-append 0 is.inside (41 ∷ rest) is.is)
      ∙ ap (λ x. Ok (Comment x, rest)) (taken _ bytes rest (sym e))
  first_is place (Quotation bytes) rest is then =
      let e : bytes ++ rest ≡ 34 ∷ (is.inside ++ 34 ∷ rest) = ap (λ x. x ++ rest) is.whole ∙ ap (λ x. 34 ∷ x) (append_assoc is.inside (34 ∷ []) rest) in
      ap (first_on place) e
      ∙ ap (first_quote place (34 ∷ (is.inside ++ 34 ∷ rest))) (past_quote-append is.inside (34 ∷ rest) is.is)
      ∙ ap (λ x. Ok (Quotation x, rest)) (taken _ bytes rest (sym e))
  first_is place (Operator b) rest is then =
      let p = word_parts alphabet b rest (is_listed alphabet b) is in
      plain_first place b rest p.0 p.1 p.2 ∙ cond-true _ _ _ p.3
  first_is place (Dollar construct) rest is then =
      cond-false _ _ _ (construct_apart alphabet construct rest is) ∙ cond-true _ _ _ (construct_begins alphabet construct rest is) ∙ construct_first alphabet place construct rest is
  first_is place (Run word) rest is then = run_first place word rest is.some is.is then

  -- a stop at a dollar sign is refused there
  fault_at : (text after : List ℕ) (place : ℕ) (fault : ScanFault) → Stops alphabet text place fault → text ≡ 36 ∷ after → fault ≡ BadDollar place
  fault_at _ rest _ _ (closing after place) e = absurd (clash 41 36 _ _ refl e)
  fault_at _ rest _ _ (opening inside place is) e = absurd (clash 40 36 _ _ refl e)
  fault_at _ rest _ _ (opening_ended inside place is) e = absurd (clash 40 36 _ _ refl e)
  fault_at _ rest _ _ (backslash place) e = absurd (clash 92 36 _ _ refl e)
  fault_at _ rest _ _ (quote inside place is) e = absurd (clash 34 36 _ _ refl e)
  fault_at _ rest _ _ (quote_ended inside place is) e = absurd (clash 34 36 _ _ refl e)
  fault_at _ rest _ _ (quoted_control inside b after place is c) e = absurd (clash 34 36 _ _ refl e)
  fault_at _ rest _ _ (escaped_control inside b after place is c) e = absurd (clash 34 36 _ _ refl e)
  fault_at _ rest _ _ (dollar after place none) e = refl

  refused_by : (place : ℕ) (after : List ℕ) (first : First) → BeginsNone alphabet (36 ∷ after) → FirstReads place (36 ∷ after) first → first ≡ Err (BadDollar place)
  refused_by place after (Ok first) none is = absurd (none first.0 first.1 is.is is.whole)
  refused_by place after (Err fault) none is = ap Err (fault_at (36 ∷ after) after place fault is refl)

  -- a stop is read
  pub stop_is : (text : List ℕ) (place : ℕ) (fault : ScanFault) → Stops alphabet text place fault → first_on place text ≡ Err fault
  stop_is _ _ _ (closing after place) = refl
  stop_is _ _ _ (opening inside place is) = ap (first_comment place (40 ∷ inside)) (past_comment-open 0 inside is)
  stop_is _ _ _ (opening_ended inside place is) =
      let n : place + (length (40 ∷ (inside ++ 92 ∷ [])) - 1) ≡ place + length (40 ∷ inside) = omega (arith, length-append inside (92 ∷ [])) in
      ap (first_comment place (40 ∷ (inside ++ 92 ∷ []))) (past_comment-ended 0 inside is) ∙ ap (λ k. Err (BadQuote k)) n
  stop_is _ _ _ (backslash place) = refl
  stop_is _ _ _ (quote inside place is) =
      ap (first_quote place (34 ∷ inside)) (ap (past_quote false) (sym (append-nil inside)) ∙ past_quote-append inside [] is)
  stop_is _ _ _ (quote_ended inside place is) =
      let n : place + (length (34 ∷ (inside ++ 92 ∷ [])) - 1) ≡ place + length (34 ∷ inside) = omega (arith, length-append inside (92 ∷ [])) in
      ap (first_quote place (34 ∷ (inside ++ 92 ∷ []))) (past_quote-append inside (92 ∷ []) is) ∙ ap (λ k. Err (BadQuote k)) n
  stop_is _ _ _ (quoted_control inside b after place is c) =
      let n : place + (length (34 ∷ (inside ++ b ∷ after)) - length (b ∷ after)) ≡ place + length (34 ∷ inside) = omega (arith, length-append inside (b ∷ after)) in
      ap (first_quote place (34 ∷ (inside ++ b ∷ after))) (past_quote-append inside (b ∷ after) is ∙ cond-true _ _ _ c) ∙ ap (λ k. Err (BadQuote k)) n
  stop_is _ _ _ (escaped_control inside b after place is c) =
      let n : place + (length (34 ∷ (inside ++ 92 ∷ b ∷ after)) - length (b ∷ after)) ≡ place + length (34 ∷ inside) + 1 = omega (arith, length-append inside (92 ∷ b ∷ after)) in
      ap (first_quote place (34 ∷ (inside ++ 92 ∷ b ∷ after))) (past_quote-append inside (92 ∷ b ∷ after) is ∙ cond-true _ _ _ c) ∙ ap (λ k. Err (BadQuote k)) n
  stop_is _ _ _ (dollar after place none) = refused_by place after (first_of alphabet place 36 after) none (first_read place 36 after)

  -- what begins no piece begins no word
  word_none : (after : List ℕ) (pair byte : Bool) → is_pair alphabet 36 after ≡ pair → is_word_byte alphabet 36 after ≡ byte → BeginsNone alphabet (36 ∷ after)
      → cond pair (past_word alphabet true after) (cond byte (past_word alphabet false after) (36 ∷ after)) ≡ 36 ∷ after
  word_none [] true byte p w none = absurd (false≢true p)
  word_none (c ∷ cs) true byte p w none =
      let two = and_parts (c == 36) (is_doubled alphabet) p in
      absurd (none (Run (36 ∷ 36 ∷ [])) cs (record { some = λ e. absurd (cc e); is = word_doubled [] cs two.1 (word_nothing cs) }) (ap (λ x. 36 ∷ x ∷ cs) (eqb-true c 36 two.0)))
  word_none after false true p w none =
      absurd (none (Run (36 ∷ [])) after (record { some = λ e. absurd (cc e); is = word_plain 36 [] after w (word_nothing after) }) refl)
  word_none after false false p w none = refl

  -- no word begins at a stop
  pub stop_none : (text : List ℕ) (place : ℕ) (fault : ScanFault) → Stops alphabet text place fault → NoWord alphabet text
  stop_none _ _ _ (closing after place) = record { stays = refl }
  stop_none _ _ _ (opening inside place is) = record { stays = refl }
  stop_none _ _ _ (opening_ended inside place is) = record { stays = refl }
  stop_none _ _ _ (backslash place) = record { stays = refl }
  stop_none _ _ _ (quote inside place is) = record { stays = refl }
  stop_none _ _ _ (quote_ended inside place is) = record { stays = refl }
  stop_none _ _ _ (quoted_control inside b after place is c) = record { stays = refl }
  stop_none _ _ _ (escaped_control inside b after place is c) = record { stays = refl }
  stop_none _ _ _ (dollar after place none) = record { stays = word_none after (is_pair alphabet 36 after) (is_word_byte alphabet 36 after) refl refl none }

  -- no piece is empty
  pub piece_some : (piece : Piece) (rest : List ℕ) → IsPiece alphabet piece rest → 0 < length (bytes_of piece)
  piece_some (White b) rest is = omega arith
  piece_some (Comment bytes) rest is = omega (arith, ap length is.whole)
  piece_some (Quotation bytes) rest is = omega (arith, ap length is.whole)
  piece_some (Operator b) rest is = omega arith
  piece_some (Dollar (Single b)) rest is = omega arith
  piece_some (Dollar (Letter b letter)) rest is = omega arith
  piece_some (Dollar (Braced b name)) rest is = omega arith
  piece_some (Run []) rest is = absurd (is.some refl)
  piece_some (Run (b ∷ bs)) rest is = omega arith
