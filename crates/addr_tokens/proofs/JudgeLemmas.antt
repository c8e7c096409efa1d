-- The angles of pieces, and the answer.
use Rattle.std.proofs.Common.{◌≡◌, ℕ, suc, ◌+◌, ◌==◌, ◌⊎◌, inl, inr, ⊎_elim, unwrap_or, Bool, true, false, cond, List, [], ◌∷◌, ◌++◌, length, Option, Some, None, Ok, Err, refl, sym, ◌∙◌, ap, subst, arith}
use Rattle.std.specs.List.{flat_map}
use Rattle.std.specs.Option.{is_some}
use Rattle.std.proofs.lemmas.Bool.{cond-false, eqb-true}
use Rattle.std.proofs.lemmas.List.{append_assoc, length-append}
use Rattle.mail_base.specs.declared.token.Token.TheVariants.{Word, Quoted, Op, Sign}
use Rattle.addr_tokens.specs.declared.fault.ScanFault.{ScanFault}
use Rattle.addr_tokens.specs.declared.fault.ScanFault.TheVariants.{Unbalanced}
use Rattle.addr_tokens.specs.declared.lexeme.Dollars.{Dollars}
use Rattle.addr_tokens.specs.declared.lexeme.Dollars.TheVariants.{Bytes, Typed, Side}
use Rattle.addr_tokens.specs.declared.lexeme.Lexeme.{Lexeme}
use Rattle.addr_tokens.specs.declared.lexeme.Lexeme.TheVariants.{Token as Plain, Dollar as Metasign, Named}
use Rattle.addr_tokens.specs.Pieces.{Construct, Single, Letter, Braced, Piece, White, Comment, Quotation, Operator, Dollar, Run, bytes_of, lexeme_of, given_by, lexemes_of}
use Rattle.addr_tokens.specs.Scans.{opened, less}
use Rattle.addr_tokens.specs.Reader.{Answer, note_angle, with_lexemes, judge_on, judge_end, judged}

with_none : (answer : Answer) → with_lexemes [] answer ≡ answer
with_none (Ok tokens) = refl
with_none (Err fault) = refl

with_both : (one other : List Lexeme) (answer : Answer) → with_lexemes one (with_lexemes other answer) ≡ with_lexemes (one ++ other) answer
with_both one other (Ok tokens) = ap Ok (sym (append_assoc one other tokens))
with_both one other (Err fault) = refl

-- what was opened by none stays so
opened-none : (tokens : List Lexeme) → opened None tokens ≡ None
opened-none [] = refl
opened-none (token ∷ tokens) = refl

-- open angle brackets are counted through two lists as through one
pub opened-append : (n : Option ℕ) (one other : List Lexeme) → opened n (one ++ other) ≡ opened (opened n one) other
opened-append n [] other = refl
opened-append None (token ∷ one) other = sym (opened-none other)
opened-append (Some n) (Plain (Op byte) ∷ one) other = opened-append (cond (byte == 60) (Some (suc n)) (cond (byte == 62) (less (Some n)) (Some n))) one other
opened-append (Some n) (Plain (Word text) ∷ one) other = opened-append (Some n) one other
opened-append (Some n) (Plain (Quoted text) ∷ one) other = opened-append (Some n) one other
opened-append (Some n) (Plain (Sign mark) ∷ one) other = opened-append (Some n) one other
opened-append (Some n) (Metasign byte ∷ one) other = opened-append (Some n) one other
opened-append (Some n) (Named byte name ∷ one) other = opened-append (Some n) one other

-- a construct is no angle
single_opens : (b : ℕ) (same : Bool) (n : ℕ) (more : List Lexeme) → opened (Some n) (cond same (Plain (Op 36)) (Metasign b) ∷ more) ≡ opened (Some n) more
single_opens b true n more = refl
single_opens b false n more = refl

construct_opens : (dollars : Dollars) (construct : Construct) (n : ℕ) (more : List Lexeme) → opened (Some n) (lexeme_of dollars construct ∷ more) ≡ opened (Some n) more
construct_opens Bytes (Single b) n more = refl
construct_opens Typed (Single b) n more = refl
construct_opens Side (Single b) n more = single_opens b (b == 36) n more
construct_opens Bytes (Letter b letter) n more = refl
construct_opens Typed (Letter b letter) n more = refl
construct_opens Side (Letter b letter) n more = refl
construct_opens Bytes (Braced b name) n more = refl
construct_opens Typed (Braced b name) n more = refl
construct_opens Side (Braced b name) n more = refl

module _ (dollars : Dollars) where
  -- the lexemes of two lists of pieces are those of the one and then those of the other
  pub lexemes_of-append : (one other : List Piece) → lexemes_of dollars (one ++ other) ≡ lexemes_of dollars one ++ lexemes_of dollars other
  lexemes_of-append [] other = refl
  lexemes_of-append (piece ∷ one) other = ap (λ x. given_by dollars piece ++ x) (lexemes_of-append one other) ∙ sym (append_assoc (given_by dollars piece) (lexemes_of dollars one) (lexemes_of dollars other))

  -- where angles aren't checked
  pub unchecked : (place : ℕ) (lefts : List ℕ) (pieces : List Piece) (fault : Option ScanFault) → judged dollars false place lefts pieces fault ≡ with_lexemes (lexemes_of dollars pieces) (judge_end lefts fault)
  unchecked place lefts [] fault = sym (with_none (judge_end lefts fault))
  unchecked place lefts (piece ∷ pieces) fault =
      ap (with_lexemes (given_by dollars piece)) (unchecked (place + length (bytes_of piece)) lefts pieces fault)
      ∙ with_both (given_by dollars piece) (lexemes_of dollars pieces) (judge_end lefts fault)

  -- an operator that is no angle, or a piece of another form
  pub data Angle : Piece → Type 0 where
    left : Angle (Operator 60)
    right : Angle (Operator 62)
    none : (piece : Piece) → ((place : ℕ) (lefts : List ℕ) → note_angle true place lefts piece ≡ Ok lefts) → ((n : ℕ) (more : List Lexeme) → opened (Some n) (given_by dollars piece ++ more) ≡ opened (Some n) more) → Angle piece

  angle_by : (b : ℕ) (is_left is_right : Bool) → (b == 60) ≡ is_left → (b == 62) ≡ is_right → Angle (Operator b)
  angle_by b true r l e = subst (λ x. Angle (Operator x)) (sym (eqb-true b 60 l)) left
  angle_by b false true l e = subst (λ x. Angle (Operator x)) (sym (eqb-true b 62 e)) right
  angle_by b false false l e =
      none (Operator b) (λ place lefts. cond-false _ _ _ l ∙ cond-false _ _ _ e)
      (λ n more. ap (λ x. opened x more) (cond-false _ _ _ l ∙ cond-false _ _ _ e))

  angle_of : (piece : Piece) → Angle piece
  angle_of (White b) = none (White b) (λ place lefts. refl) (λ n more. refl)
  angle_of (Comment bytes) = none (Comment bytes) (λ place lefts. refl) (λ n more. refl)
  angle_of (Quotation bytes) = none (Quotation bytes) (λ place lefts. refl) (λ n more. refl)
  angle_of (Dollar c) = none (Dollar c) (λ place lefts. refl) (λ n more. construct_opens dollars c n more)
  angle_of (Run bytes) = none (Run bytes) (λ place lefts. refl) (λ n more. refl)
  angle_of (Operator b) = angle_by b (b == 60) (b == 62) refl refl

  -- a `>` that has no open `<`
  pub record Lone (place : ℕ) (lefts : List ℕ) (pieces : List Piece) : Type 0 where
    pub front : List Piece
    pub after : List Piece
    pub whole : pieces ≡ front ++ Operator 62 ∷ after
    pub closed : opened (Some (length lefts)) (lexemes_of dollars front) ≡ Some 0
    pub judged_so : (more : List Piece) (fault : Option ScanFault) → judged dollars true place lefts (pieces ++ more) fault ≡ Err (Unbalanced (place + length (flat_map bytes_of front)))

  -- the last `<` that stays open, where it is one of the pieces
  pub record Opens (place : ℕ) (lefts : List ℕ) (pieces : List Piece) (last : ℕ) : Type 0 where
    pub front : List Piece
    pub after : List Piece
    pub whole : pieces ≡ front ++ Operator 60 ∷ after
    pub goes_on : is_some (opened (Some (length lefts)) (lexemes_of dollars front)) ≡ true
    pub closed : opened (Some 0) (lexemes_of dollars after) ≡ Some 0
    pub place_is : last ≡ place + length (flat_map bytes_of front)

  -- where it stood before them
  pub record Stays (lefts : List ℕ) (pieces : List Piece) (last : ℕ) (others : List ℕ) : Type 0 where
    pub closed_first : List ℕ
    pub whole : lefts ≡ closed_first ++ last ∷ others
    pub closed : opened (Some (length closed_first)) (lexemes_of dollars pieces) ≡ Some 0

  pub record Passes (place : ℕ) (lefts : List ℕ) (pieces : List Piece) : Type 0 where
    pub now : List ℕ
    pub count : opened (Some (length lefts)) (lexemes_of dollars pieces) ≡ Some (length now)
    pub judged_so : (more : List Piece) (fault : Option ScanFault) → judged dollars true place lefts (pieces ++ more) fault ≡ with_lexemes (lexemes_of dollars pieces) (judged dollars true (place + length (flat_map bytes_of pieces)) now more fault)
    pub last_is : (last : ℕ) (others : List ℕ) → now ≡ last ∷ others → Opens place lefts pieces last ⊎ Stays lefts pieces last others

  abbrev pub Verdict : ℕ → List ℕ → List Piece → Type 0
  Verdict place lefts pieces = Lone place lefts pieces ⊎ Passes place lefts pieces

  no_pieces : (place : ℕ) (lefts : List ℕ) → Passes place lefts []
  no_pieces place lefts = record {
    now = lefts;
    count = refl;
    judged_so = λ more fault. let e : place ≡ place + 0 = omega arith in sym (with_none _) ∙ ap (λ n. with_lexemes [] (judged dollars true n lefts more fault)) e;
    last_is = λ last others is. inr (record { closed_first = []; whole = is; closed = refl });
  }

  -- a piece before others, where it is judged so
  step : (place : ℕ) (lefts now : List ℕ) (piece : Piece) (pieces : List Piece) → note_angle true place lefts piece ≡ Ok now → (more : List Piece) (fault : Option ScanFault)
      → judged dollars true place lefts ((piece ∷ pieces) ++ more) fault ≡ with_lexemes (given_by dollars piece) (judged dollars true (place + length (bytes_of piece)) now (pieces ++ more) fault)
  step place lefts now piece pieces noted more fault = ap (judge_on (λ l. judged dollars true (place + length (bytes_of piece)) l (pieces ++ more) fault) (given_by dollars piece)) noted

  further : (place : ℕ) (piece : Piece) (pieces : List Piece) → place + length (bytes_of piece) + length (flat_map bytes_of pieces) ≡ place + length (flat_map bytes_of (piece ∷ pieces))
  further place piece pieces = omega (arith, length-append (bytes_of piece) (flat_map bytes_of pieces))

  module _ (place : ℕ) (lefts noted : List ℕ) (piece : Piece) (pieces : List Piece) (is : note_angle true place lefts piece ≡ Ok noted)
      (counts : (more : List Lexeme) → opened (Some (length lefts)) (given_by dollars piece ++ more) ≡ opened (Some (length noted)) more) where
    next : ℕ
    next = place + length (bytes_of piece)

    lone_later : Lone (place + length (bytes_of piece)) noted pieces → Lone place lefts (piece ∷ pieces)
    lone_later l = record {
      front = piece ∷ l.front;
      after = l.after;
      whole = ap (λ ps. piece ∷ ps) l.whole;
      closed = counts (lexemes_of dollars l.front) ∙ l.closed;
      judged_so = λ more fault. step place lefts noted piece pieces is more fault ∙ ap (with_lexemes (given_by dollars piece)) (l.judged_so more fault) ∙ ap (λ n. Err (Unbalanced n)) (further place piece l.front);
    }

    opens_later : (last : ℕ) → Opens (place + length (bytes_of piece)) noted pieces last → Opens place lefts (piece ∷ pieces) last
    opens_later last o = record {
      front = piece ∷ o.front;
      after = o.after;
      whole = ap (λ ps. piece ∷ ps) o.whole;
      goes_on = ap is_some (counts (lexemes_of dollars o.front)) ∙ o.goes_on;
      closed = o.closed;
      place_is = o.place_is ∙ further place piece o.front;
    }

    passes_later : Passes (place + length (bytes_of piece)) noted pieces → ((last : ℕ) (others : List ℕ) → Stays noted pieces last others → Opens place lefts (piece ∷ pieces) last ⊎ Stays lefts (piece ∷ pieces) last others) → Passes place lefts (piece ∷ pieces)
    passes_later p stays = record {
      now = p.now;
      count = counts (lexemes_of dollars pieces) ∙ p.count;
      judged_so = λ more fault.
          step place lefts noted piece pieces is more fault ∙ ap (with_lexemes (given_by dollars piece)) (p.judged_so more fault)
          ∙ with_both (given_by dollars piece) (lexemes_of dollars pieces) _
          ∙ ap (λ n. with_lexemes (lexemes_of dollars (piece ∷ pieces)) (judged dollars true n p.now more fault)) (further place piece pieces);
      last_is = λ last others now_is. ⊎_elim (λ o. inl (opens_later last o)) (λ s. stays last others s) (p.last_is last others now_is);
    }

    later : Verdict (place + length (bytes_of piece)) noted pieces → ((last : ℕ) (others : List ℕ) → Stays noted pieces last others → Opens place lefts (piece ∷ pieces) last ⊎ Stays lefts (piece ∷ pieces) last others) → Verdict place lefts (piece ∷ pieces)
    later (inl l) stays = inl (lone_later l)
    later (inr p) stays = inr (passes_later p stays)

  -- at a `<`, which stays open or is closed
  stays_left : (place : ℕ) (lefts : List ℕ) (pieces : List Piece) (last : ℕ) (others first : List ℕ) → place ∷ lefts ≡ first ++ last ∷ others → opened (Some (length first)) (lexemes_of dollars pieces) ≡ Some 0
      → Opens place lefts (Operator 60 ∷ pieces) last ⊎ Stays lefts (Operator 60 ∷ pieces) last others
  stays_left place lefts pieces last others [] whole closed =
      let e : place ≡ last = cc in
      let n : place ≡ place + 0 = omega arith in
      inl (record { front = []; after = pieces; whole = refl; goes_on = refl; closed = closed; place_is = sym e ∙ n })
  stays_left place lefts pieces last others (x ∷ xs) whole closed =
      let e : lefts ≡ xs ++ last ∷ others = cc in
      inr (record { closed_first = xs; whole = e; closed = closed })

  verdict_at : (place : ℕ) (lefts : List ℕ) (piece : Piece) (pieces : List Piece) → Angle piece → ((place : ℕ) (lefts : List ℕ) → Verdict place lefts pieces) → Verdict place lefts (piece ∷ pieces)
  verdict_at place lefts _ pieces left go =
      later place lefts (place ∷ lefts) (Operator 60) pieces refl (λ more. refl) (go (place + 1) (place ∷ lefts))
      (λ last others s. stays_left place lefts pieces last others s.closed_first s.whole s.closed)
  verdict_at place [] _ pieces right go = inl (record {
    front = [];
    after = pieces;
    whole = refl;
    closed = refl;
    judged_so = λ more fault. let n : place ≡ place + 0 = omega arith in ap (λ k. Err (Unbalanced k)) n;
  })
  verdict_at place (x ∷ lefts) _ pieces right go =
      later place (x ∷ lefts) lefts (Operator 62) pieces refl (λ more. refl) (go (place + 1) lefts)
      (λ last others s. inr (record { closed_first = x ∷ s.closed_first; whole = ap (λ l. x ∷ l) s.whole; closed = s.closed }))
  verdict_at place lefts _ pieces (none piece noted counts) go =
      later place lefts lefts piece pieces (noted place lefts) (counts (length lefts)) (go (place + length (bytes_of piece)) lefts)
      (λ last others s. inr (record { closed_first = s.closed_first; whole = s.whole; closed = counts (length s.closed_first) (lexemes_of dollars pieces) ∙ s.closed }))

  -- what the angles of pieces come to
  pub verdict : (pieces : List Piece) (place : ℕ) (lefts : List ℕ) → Verdict place lefts pieces
  verdict [] place lefts = inr (no_pieces place lefts)
  verdict (piece ∷ pieces) place lefts = verdict_at place lefts piece pieces (angle_of piece) (λ p l. verdict pieces p l)

  -- pieces that close what they open, and those of the open ones that stand first
  closes_at : (piece : Piece) (pieces : List Piece) (place : ℕ) (first base : List ℕ) (fault : Option ScanFault) → Angle piece → opened (Some (length first)) (lexemes_of dollars (piece ∷ pieces)) ≡ Some 0
      → ((place : ℕ) (first : List ℕ) → opened (Some (length first)) (lexemes_of dollars pieces) ≡ Some 0 → judged dollars true place (first ++ base) pieces fault ≡ with_lexemes (lexemes_of dollars pieces) (judge_end base fault))
      → judged dollars true place (first ++ base) (piece ∷ pieces) fault ≡ with_lexemes (lexemes_of dollars (piece ∷ pieces)) (judge_end base fault)
  closes_at _ pieces place first base fault left closed go =
      ap (with_lexemes (Plain (Op 60) ∷ [])) (go (place + 1) (place ∷ first) closed) ∙ with_both (Plain (Op 60) ∷ []) (lexemes_of dollars pieces) (judge_end base fault)
  closes_at _ pieces place [] base fault right closed go = absurd (cc (sym (opened-none (lexemes_of dollars pieces)) ∙ closed))
  closes_at _ pieces place (x ∷ first) base fault right closed go =
      ap (with_lexemes (Plain (Op 62) ∷ [])) (go (place + 1) first closed) ∙ with_both (Plain (Op 62) ∷ []) (lexemes_of dollars pieces) (judge_end base fault)
  closes_at _ pieces place first base fault (none piece noted counts) closed go =
      ap (judge_on (λ l. judged dollars true (place + length (bytes_of piece)) l pieces fault) (given_by dollars piece)) (noted place (first ++ base))
      ∙ ap (with_lexemes (given_by dollars piece)) (go (place + length (bytes_of piece)) first (sym (counts (length first) (lexemes_of dollars pieces)) ∙ closed))
      ∙ with_both (given_by dollars piece) (lexemes_of dollars pieces) (judge_end base fault)

  -- pieces that close all angles that are open before them leave the others as they were
  pub closes_more : (pieces : List Piece) (place : ℕ) (first base : List ℕ) (fault : Option ScanFault) → opened (Some (length first)) (lexemes_of dollars pieces) ≡ Some 0
      → judged dollars true place (first ++ base) pieces fault ≡ with_lexemes (lexemes_of dollars pieces) (judge_end base fault)
  closes_more [] place [] base fault closed = sym (with_none (judge_end base fault))
  closes_more [] place (x ∷ first) base fault closed = absurd (no_more (length first) closed)
    where
      no_more : (n : ℕ) → Some (suc n) ≡ Some 0 → ⊥
      no_more n e = omega (arith, ap (λ o. unwrap_or o 0) e)
  closes_more (piece ∷ pieces) place first base fault closed = closes_at piece pieces place first base fault (angle_of piece) closed (λ p f c. closes_more pieces p f base fault c)
