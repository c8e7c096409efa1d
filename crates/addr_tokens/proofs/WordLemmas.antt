-- Words: what is read of one is one, and one is read.
use Rattle.std.proofs.Common.{◌≡◌, ℕ, ◌-◌, ◌≤◌, ◌==◌, Bool, true, false, not, ◌&&◌, ◌||◌, cond, List, [], ◌∷◌, ◌++◌, length, take, drop, refl, sym, ◌∙◌, ap, subst, arith}
use Rattle.std.proofs.lemmas.Bool.{cond-true, cond-false, and_parts, not-true, or_parts, eqb-true, false≢true, and_left, and_right}
use Rattle.std.proofs.lemmas.List.{length-append, take_at, length-drop}
use Rattle.mail_base.specs.Whites.{is_white}
use Rattle.addr_tokens.specs.declared.lexeme.Dollars.{Dollars}
use Rattle.addr_tokens.specs.declared.lexeme.Dollars.TheVariants.{Bytes, Typed, Side}
use Rattle.addr_tokens.specs.Pieces.{Alphabet, InWord, word_nothing, word_plain, word_escaped, word_doubled, is_word_byte, is_special, is_listed, means, is_dollar, is_doubled, is_side}
use Rattle.addr_tokens.specs.Reader.{past_word, begins_dollar, is_pair, takes_next, front_of}

-- a backslash that stands before the text
abbrev pub behind : Bool → List ℕ → List ℕ
behind true text = 92 ∷ text
behind false text = text

-- what stands before a rest that ends the text
pub front_is : (front rest : List ℕ) → front_of (front ++ rest) rest ≡ front
front_is front rest =
    let e : length (front ++ rest) - length rest ≡ length front = omega (arith, length-append front rest) in
    ap (λ n. take n (front ++ rest)) e ∙ take_at front rest (length front) refl

-- the bytes before what is left of a text are its front
pub front_taken : (text : List ℕ) (n : ℕ) → n ≤ length text → front_of text (drop n text) ≡ take n text
front_taken text n within =
    let e : length text - length (drop n text) ≡ n = omega (arith, length-drop n text) in
    ap (λ k. take k text) e

-- which bytes a byte is not that neither quotes nor comments
pub special_parts : (b : ℕ) → is_special b ≡ false → ((b == 34) ≡ false) × ((b == 92) ≡ false) × ((b == 40) ≡ false) × ((b == 41) ≡ false)
special_parts b h =
    let p = or_parts (b == 34 || b == 92 || b == 40) (b == 41) h in
    let q = or_parts (b == 34 || b == 92) (b == 40) p.0 in
    let r = or_parts (b == 34) (b == 92) q.0 in
    (r.0, r.1, q.1, p.1)

-- in a rule's side each dollar sign is meant
side_byte : (dollars : Dollars) (after : List ℕ) (same : Bool) → is_side dollars ≡ true → (same && means dollars after) ≡ false → same ≡ false
side_byte dollars after false side none = refl
side_byte Bytes after true side none = absurd (false≢true side)
side_byte Typed after true side none = absurd (false≢true side)
side_byte Side after true side none = absurd (false≢true (sym none))

module _ (alphabet : Alphabet) where
  pub record ReadsWord (text rest : List ℕ) : Type 0 where
    pub word : List ℕ
    pub whole : text ≡ word ++ rest
    pub is : InWord alphabet word rest

  -- what is read behind a byte that the one before takes
  abbrev ReadsOn : List ℕ → Type 0
  ReadsOn [] = Unit {0}
  ReadsOn (b ∷ bs) = ReadsWord bs (past_word alphabet false bs)

  escaped_at : (b : ℕ) (bs : List ℕ) → (b == 92) ≡ true → ReadsOn bs → ReadsWord (b ∷ bs) (past_word alphabet true bs)
  escaped_at b [] slash on = subst (λ x. ReadsWord (x ∷ []) (92 ∷ [])) (sym (eqb-true b 92 slash)) (record { word = []; whole = refl; is = word_nothing (92 ∷ []) })
  escaped_at b (c ∷ cs) slash on =
      subst (λ x. ReadsWord (x ∷ c ∷ cs) (past_word alphabet false cs)) (sym (eqb-true b 92 slash))
      (record { word = 92 ∷ c ∷ on.word; whole = ap (λ x. 92 ∷ c ∷ x) on.whole; is = word_escaped c on.word (past_word alphabet false cs) on.is })

  doubled_at : (b : ℕ) (bs : List ℕ) → is_pair alphabet b bs ≡ true → ReadsOn bs → ReadsWord (b ∷ bs) (past_word alphabet true bs)
  doubled_at b [] pair on = absurd (false≢true (and_parts (b == 36) false pair).1)
  doubled_at b (c ∷ cs) pair on =
      let p = and_parts (b == 36) (c == 36 && is_doubled alphabet) pair in
      let q = and_parts (c == 36) (is_doubled alphabet) p.1 in
      subst (λ x. ReadsWord (x ∷ c ∷ cs) (past_word alphabet false cs)) (sym (eqb-true b 36 p.0))
      (subst (λ x. ReadsWord (36 ∷ x ∷ cs) (past_word alphabet false cs)) (sym (eqb-true c 36 q.0))
      (record { word = 36 ∷ 36 ∷ on.word; whole = ap (λ x. 36 ∷ 36 ∷ x) on.whole; is = word_doubled on.word (past_word alphabet false cs) q.1 on.is }))

  taken_at : (b : ℕ) (bs : List ℕ) (slash : Bool) → (b == 92) ≡ slash → (slash || is_pair alphabet b bs) ≡ true → ReadsOn bs → ReadsWord (b ∷ bs) (past_word alphabet true bs)
  taken_at b bs true s takes on = escaped_at b bs s on
  taken_at b bs false s takes on = doubled_at b bs takes on

  word_at : (b : ℕ) (bs : List ℕ) (takes byte : Bool) → takes_next alphabet b bs ≡ takes → is_word_byte alphabet b bs ≡ byte → ReadsOn bs → ReadsWord bs (past_word alphabet false bs)
      → ReadsWord (b ∷ bs) (cond takes (past_word alphabet true bs) (cond byte (past_word alphabet false bs) (b ∷ bs)))
  word_at b bs true byte t w on plain = taken_at b bs (b == 92) refl t on
  word_at b bs false true t w on plain = record { word = b ∷ plain.word; whole = ap (λ x. b ∷ x) plain.whole; is = word_plain b plain.word (past_word alphabet false bs) (subst (λ x. is_word_byte alphabet b x ≡ true) plain.whole w) plain.is }
  word_at b bs false false t w on plain = record { word = []; whole = refl; is = word_nothing (b ∷ bs) }

  word_reads : (text : List ℕ) → ReadsWord text (past_word alphabet false text) × ReadsOn text
  word_reads [] = (record { word = []; whole = refl; is = word_nothing [] }, tt)
  word_reads (b ∷ bs) =
      let more = word_reads bs in
      (word_at b bs (takes_next alphabet b bs) (is_word_byte alphabet b bs) refl refl more.1 more.0, more.0)

  -- what is passed as a word is one, up to where it ends
  pub word_read : (text : List ℕ) → ReadsWord text (past_word alphabet false text)
  word_read text = (word_reads text).0

  -- no word begins there
  pub record NoWord (text : List ℕ) : Type 0 where
    pub stays : past_word alphabet false text ≡ text

  stops_at : (b : ℕ) (bs : List ℕ) (takes byte : Bool) → takes_next alphabet b bs ≡ takes → is_word_byte alphabet b bs ≡ byte
      → NoWord (past_word alphabet true bs) → NoWord (past_word alphabet false bs)
      → NoWord (cond takes (past_word alphabet true bs) (cond byte (past_word alphabet false bs) (b ∷ bs)))
  stops_at b bs true byte t w taken plain = taken
  stops_at b bs false true t w taken plain = plain
  stops_at b bs false false t w taken plain = record { stays = cond-false _ _ _ t ∙ cond-false _ _ _ w }

  -- no word goes on behind what was passed as one
  pub word_stops : (quoted : Bool) (text : List ℕ) → NoWord (past_word alphabet quoted text)
  word_stops true [] = record { stays = refl }
  word_stops false [] = record { stays = refl }
  word_stops true (b ∷ bs) = word_stops false bs
  word_stops false (b ∷ bs) = stops_at b bs (takes_next alphabet b bs) (is_word_byte alphabet b bs) refl refl (word_stops true bs) (word_stops false bs)

  -- what a byte of a word is
  pub word_parts : (b : ℕ) (after : List ℕ) (listed : Bool) → (not (is_white b) && not (is_special b) && listed && not (is_dollar alphabet.dollars b after)) ≡ true
      → (is_dollar alphabet.dollars b after ≡ false) × (is_white b ≡ false) × (is_special b ≡ false) × (listed ≡ true)
  word_parts b after listed h =
      let d = and_parts (not (is_white b) && not (is_special b) && listed) (not (is_dollar alphabet.dollars b after)) h in
      let p = and_parts (not (is_white b) && not (is_special b)) listed d.0 in
      let q = and_parts (not (is_white b)) (not (is_special b)) p.0 in
      (not-true _ d.1, not-true _ q.0, not-true _ q.1, p.1)

  -- a byte that begins no construct begins no pair
  pair_by : (b : ℕ) (after : List ℕ) (side : Bool) → is_side alphabet.dollars ≡ side → is_dollar alphabet.dollars b after ≡ false → is_pair alphabet b after ≡ false
  pair_by b after true is none = and_left (b == 36) _ (side_byte alphabet.dollars after (b == 36) is none)
  pair_by b after false is none = and_right (b == 36) _ (and_right (begins_dollar after) _ (and_left (is_side alphabet.dollars) _ is))

  no_pair : (b : ℕ) (after : List ℕ) → is_dollar alphabet.dollars b after ≡ false → is_pair alphabet b after ≡ false
  no_pair b after none = pair_by b after (is_side alphabet.dollars) refl none

  -- nor does it take the next byte, where it is no backslash
  pub takes_none : (b : ℕ) (after : List ℕ) → is_dollar alphabet.dollars b after ≡ false → is_special b ≡ false → takes_next alphabet b after ≡ false
  takes_none b after none s = ap (λ t. t || is_pair alphabet b after) (special_parts b s).1 ∙ no_pair b after none

  -- bytes of a word are read
  pub past_word-append : (word rest : List ℕ) → InWord alphabet word rest → past_word alphabet false (word ++ rest) ≡ past_word alphabet false rest
  past_word-append _ _ (word_nothing rest) = refl
  past_word-append _ _ (word_plain b more rest w is) =
      let p = word_parts b (more ++ rest) (not (is_listed alphabet b)) w in
      cond-false _ _ _ (takes_none b (more ++ rest) p.0 p.2) ∙ cond-true _ _ _ w ∙ past_word-append more rest is
  past_word-append _ _ (word_escaped b more rest is) = past_word-append more rest is
  past_word-append _ _ (word_doubled more rest two is) = cond-true _ _ _ two ∙ past_word-append more rest is
