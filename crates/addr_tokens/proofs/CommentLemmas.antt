-- Comments: how one ends.
use Rattle.std.proofs.Common.{◌≡◌, ℕ, zero, suc, ◌==◌, ◌⊎◌, inl, inr, Bool, true, false, not, ◌&&◌, cond, List, [], ◌∷◌, ◌++◌, refl, sym, ◌∙◌, ap, subst}
use Rattle.std.proofs.lemmas.Bool.{cond-false, and_parts, and_from, not-true, not_from_false, eqb-true}
use Rattle.std.proofs.lemmas.List.{append_assoc, append-nil}
use Rattle.addr_tokens.specs.Pieces.{InComment, comment_nothing, comment_plain, comment_escaped, comment_nested, is_comment_byte}
use Rattle.addr_tokens.specs.Scans.{InOpen, here, deeper}
use Rattle.addr_tokens.specs.Reader.{Ending, Closed, Unclosed, Bad, past_comment, closed_by}
use Rattle.addr_tokens.proofs.WordLemmas.{behind}

-- the text closes the comment in which it begins, and then goes on
pub record Closes (After : List ℕ → Type 0) (text : List ℕ) : Type 0 where
  pub inside : List ℕ
  pub more : List ℕ
  pub whole : text ≡ inside ++ 41 ∷ more
  pub is : InComment inside
  pub after : After more

-- so many inner comments, and then the outer one, are closed in the text
abbrev pub Levels : ℕ → (List ℕ → Type 0) → List ℕ → Type 0
Levels zero After = Closes After
Levels (suc depth) After = Closes (Levels depth After)

-- the text closes some of the comments in which it begins, and not the next
abbrev pub Remains : ℕ → List ℕ → Type 0
Remains zero text = InOpen text
Remains (suc depth) text = InOpen text ⊎ Closes (Remains depth) text

-- a comment is still open where a backslash ends the text
pub record Spoils (depth : ℕ) (text : List ℕ) (left : ℕ) : Type 0 where
  pub inside : List ℕ
  pub whole : text ≡ inside ++ 92 ∷ []
  pub remains : Remains depth inside
  pub one : left ≡ 1

-- where a comment of a depth ends, by what the reader of its end answers
abbrev pub CommentEnds : ℕ → List ℕ → Ending → Type 0
CommentEnds depth text (Closed rest) = Levels depth (λ more. more ≡ rest) text
CommentEnds depth text Unclosed = Remains depth text
CommentEnds depth text (Bad left) = Spoils depth text left

abbrev Grows : List ℕ → Type 0
Grows front = (inside : List ℕ) → InComment inside → InComment (front ++ inside)

closes_later : (After : List ℕ → Type 0) (front text : List ℕ) → Grows front → Closes After text → Closes After (front ++ text)
closes_later After front text grow c = record {
  inside = front ++ c.inside;
  more = c.more;
  whole = ap (λ x. front ++ x) c.whole ∙ sym (append_assoc front c.inside (41 ∷ c.more));
  is = grow c.inside c.is;
  after = c.after;
}

levels_later : (depth : ℕ) (After : List ℕ → Type 0) (front text : List ℕ) → Grows front → Levels depth After text → Levels depth After (front ++ text)
levels_later zero After front text grow c = closes_later After front text grow c
levels_later (suc depth) After front text grow c = closes_later (Levels depth After) front text grow c

open_later : (front text : List ℕ) → Grows front → InOpen text → InOpen (front ++ text)
open_later front _ grow (here inside is) = here (front ++ inside) (grow inside is)
open_later front _ grow (deeper inside more is then) = subst InOpen (append_assoc front inside (40 ∷ more)) (deeper (front ++ inside) more (grow inside is) then)

remains_later : (depth : ℕ) (front text : List ℕ) → Grows front → Remains depth text → Remains depth (front ++ text)
remains_later zero front text grow r = open_later front text grow r
remains_later (suc depth) front text grow (inl o) = inl (open_later front text grow o)
remains_later (suc depth) front text grow (inr c) = inr (closes_later (Remains depth) front text grow c)

ends_later : (depth : ℕ) (front text : List ℕ) (ending : Ending) → Grows front → CommentEnds depth text ending → CommentEnds depth (front ++ text) ending
ends_later depth front text (Closed rest) grow e = levels_later depth (λ more. more ≡ rest) front text grow e
ends_later depth front text Unclosed grow e = remains_later depth front text grow e
ends_later depth front text (Bad left) grow e = record {
  inside = front ++ e.inside;
  whole = ap (λ x. front ++ x) e.whole ∙ sym (append_assoc front e.inside (92 ∷ []));
  remains = remains_later depth front e.inside grow e.remains;
  one = e.one;
}

-- a comment that is closed stands inside of another
nested : (inside : List ℕ) → InComment inside → Grows (40 ∷ (inside ++ 41 ∷ []))
nested inside is more so = subst (λ x. InComment (40 ∷ x)) (sym (append_assoc inside (41 ∷ []) more)) (comment_nested inside more is so)

-- the text behind a parenthesis, from the parenthesis on
from_open : (front text more : List ℕ) → text ≡ front ++ 41 ∷ more → 40 ∷ text ≡ (40 ∷ (front ++ 41 ∷ [])) ++ more
from_open front text more whole = ap (λ x. 40 ∷ x) (whole ∙ sym (append_assoc front (41 ∷ []) more))

levels_open : (depth : ℕ) (After : List ℕ → Type 0) (text : List ℕ) → Levels (suc depth) After text → Levels depth After (40 ∷ text)
levels_open depth After text c =
    subst (Levels depth After) (sym (from_open c.inside text c.more c.whole))
    (levels_later depth After (40 ∷ (c.inside ++ 41 ∷ [])) c.more (nested c.inside c.is) c.after)

remains_at : (depth : ℕ) (text : List ℕ) → InOpen text → Remains depth text
remains_at zero text o = o
remains_at (suc depth) text o = inl o

remains_open : (depth : ℕ) (text : List ℕ) → Remains (suc depth) text → Remains depth (40 ∷ text)
remains_open depth text (inl o) = remains_at depth (40 ∷ text) (deeper [] text comment_nothing o)
remains_open depth text (inr c) =
    subst (Remains depth) (sym (from_open c.inside text c.more c.whole))
    (remains_later depth (40 ∷ (c.inside ++ 41 ∷ [])) c.more (nested c.inside c.is) c.after)

ends_open : (depth : ℕ) (text : List ℕ) (ending : Ending) → CommentEnds (suc depth) text ending → CommentEnds depth (40 ∷ text) ending
ends_open depth text (Closed rest) e = levels_open depth (λ more. more ≡ rest) text e
ends_open depth text Unclosed e = remains_open depth text e
ends_open depth text (Bad left) e = record {
  inside = 40 ∷ e.inside;
  whole = ap (λ x. 40 ∷ x) e.whole;
  remains = remains_open depth e.inside e.remains;
  one = e.one;
}

at_close : (After : List ℕ → Type 0) (text : List ℕ) → After text → Closes After (41 ∷ text)
at_close After text after = record { inside = []; more = text; whole = refl; is = comment_nothing; after = after }

levels_close : (depth : ℕ) (After : List ℕ → Type 0) (text : List ℕ) → Levels depth After text → Levels (suc depth) After (41 ∷ text)
levels_close depth After text l = at_close (Levels depth After) text l

ends_close : (depth : ℕ) (text : List ℕ) (ending : Ending) → CommentEnds depth text ending → CommentEnds (suc depth) (41 ∷ text) ending
ends_close depth text (Closed rest) e = levels_close depth (λ more. more ≡ rest) text e
ends_close depth text Unclosed e = inr (at_close (Remains depth) text e)
ends_close depth text (Bad left) e = record {
  inside = 41 ∷ e.inside;
  whole = ap (λ x. 41 ∷ x) e.whole;
  remains = inr (at_close (Remains depth) e.inside e.remains);
  one = e.one;
}

closed_at : (depth : ℕ) (text : List ℕ) → ((d : ℕ) → CommentEnds d text (past_comment d false text)) → CommentEnds depth (41 ∷ text) (closed_by (λ d. past_comment d false text) text depth)
closed_at zero text ends = at_close (λ more. more ≡ text) text refl
closed_at (suc depth) text ends = ends_close depth text (past_comment depth false text) (ends depth)

comment_at : (depth b : ℕ) (bs : List ℕ) (slash opening close : Bool) → (b == 92) ≡ slash → (b == 40) ≡ opening → (b == 41) ≡ close
    → CommentEnds depth (92 ∷ bs) (past_comment depth true bs) → ((d : ℕ) → CommentEnds d bs (past_comment d false bs))
    → CommentEnds depth (b ∷ bs) (cond slash (past_comment depth true bs) (cond opening (past_comment (suc depth) false bs) (cond close (closed_by (λ d. past_comment d false bs) bs depth) (past_comment depth false bs))))
comment_at depth b bs true opening close s o c escaped plain = subst (λ x. CommentEnds depth (x ∷ bs) (past_comment depth true bs)) (sym (eqb-true b 92 s)) escaped
comment_at depth b bs false true close s o c escaped plain =
    subst (λ x. CommentEnds depth (x ∷ bs) (past_comment (suc depth) false bs)) (sym (eqb-true b 40 o)) (ends_open depth bs (past_comment (suc depth) false bs) (plain (suc depth)))
comment_at depth b bs false false true s o c escaped plain =
    subst (λ x. CommentEnds depth (x ∷ bs) (closed_by (λ d. past_comment d false bs) bs depth)) (sym (eqb-true b 41 c)) (closed_at depth bs plain)
comment_at depth b bs false false false s o c escaped plain =
    ends_later depth (b ∷ []) bs (past_comment depth false bs)
    (λ inside is. comment_plain b inside (and_from _ _ (and_from _ _ (not_from_false _ s) (not_from_false _ o)) (not_from_false _ c)) is) (plain depth)

-- how a comment is read to end is how it ends
pub comment_read : (depth : ℕ) (quoted : Bool) (text : List ℕ) → CommentEnds depth (behind quoted text) (past_comment depth quoted text)
comment_read depth true [] = record { inside = []; whole = refl; remains = remains_at depth [] (here [] comment_nothing); one = refl }
comment_read depth false [] = remains_at depth [] (here [] comment_nothing)
comment_read depth true (b ∷ bs) = ends_later depth (92 ∷ b ∷ []) bs (past_comment depth false bs) (λ inside is. comment_escaped b inside is) (comment_read depth false bs)
comment_read depth false (b ∷ bs) = comment_at depth b bs (b == 92) (b == 40) (b == 41) refl refl refl (comment_read depth true bs) (λ d. comment_read d false bs)

comment_byte_parts : (b : ℕ) → is_comment_byte b ≡ true → ((b == 92) ≡ false) × ((b == 40) ≡ false) × ((b == 41) ≡ false)
comment_byte_parts b h =
    let p = and_parts (not (b == 92) && not (b == 40)) (not (b == 41)) h in
    let q = and_parts (not (b == 92)) (not (b == 40)) p.0 in
    (not-true _ q.0, not-true _ q.1, not-true _ p.1)

-- what stands in a comment is read
pub past_comment-append : (depth : ℕ) (inside rest : List ℕ) → InComment inside → past_comment depth false (inside ++ rest) ≡ past_comment depth false rest
past_comment-append depth _ rest comment_nothing = refl
past_comment-append depth _ rest (comment_plain b more p is) =
    let q = comment_byte_parts b p in
    cond-false _ _ _ q.0 ∙ cond-false _ _ _ q.1 ∙ cond-false _ _ _ q.2 ∙ past_comment-append depth more rest is
past_comment-append depth _ rest (comment_escaped b more is) = past_comment-append depth more rest is
past_comment-append depth _ rest (comment_nested inside more is so) =
    ap (past_comment (suc depth) false) (append_assoc inside (41 ∷ more) rest)
    ∙ past_comment-append (suc depth) inside (41 ∷ (more ++ rest)) is
    ∙ past_comment-append depth more rest so

-- nothing closes it
pub past_comment-open : (depth : ℕ) (text : List ℕ) → InOpen text → past_comment depth false text ≡ Unclosed
past_comment-open depth _ (here inside is) = ap (past_comment depth false) (sym (append-nil inside)) ∙ past_comment-append depth inside [] is
past_comment-open depth _ (deeper inside more is then) = past_comment-append depth inside (40 ∷ more) is ∙ past_comment-open (suc depth) more then

-- a backslash ends it
pub past_comment-ended : (depth : ℕ) (text : List ℕ) → InOpen text → past_comment depth false (text ++ 92 ∷ []) ≡ Bad 1
past_comment-ended depth _ (here inside is) = past_comment-append depth inside (92 ∷ []) is
past_comment-ended depth _ (deeper inside more is then) =
    ap (past_comment depth false) (append_assoc inside (40 ∷ more) (92 ∷ []))
    ∙ past_comment-append depth inside (40 ∷ (more ++ 92 ∷ [])) is ∙ past_comment-ended (suc depth) more then
