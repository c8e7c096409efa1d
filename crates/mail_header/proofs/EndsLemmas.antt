-- A body line by line.
use Rattle.std.proofs.Common.{◌≡◌, ℕ, suc, ◌+◌, ◌-◌, ◌<◌, ◌≤◌, ◌==◌, ◌&&◌, Bool, true, false, List, [], ◌∷◌, ◌++◌, length, take, drop, slice_index, Option, Some, None, IfSome, IfNone, refl, sym, ap, ◌∙◌, arith, ⊎_elim}
use Rattle.std.specs.Prelude.{if◌then◌else◌}
use Rattle.std.specs.List.{flat_map}
use Rattle.std.proofs.lemmas.Bool.{cond-true, cond-false, cases_Bool, or_parts}
use Rattle.std.proofs.lemmas.List.{append_assoc, drop-drop, length-drop}
use Rattle.bstr.specs.Find.{IsFirstByte, is_byte}
use Rattle.mail_base.specs.Texts.{is_lf, has_lf}
use Rattle.mail_base.specs.declared.mailer.Mailer.{Mailer}
use Rattle.mail_base.proofs.FeedLemmas.{no_lf, cut_lf}
use Rattle.mail_header.specs.Outgoing.{with_ends, end_for, header_text, from_line, outgoing_of}
use Rattle.mail_header.specs.inner.Ends.{ended_line, EndsLine, StaysWhole}

and_no : (x y : Bool) → y ≡ false → (x && y) ≡ false
and_no true y h = h
and_no false y h = refl

-- ---- no LF, no other end

stays : (end body : List ℕ) → has_lf body ≡ false → with_ends end body ≡ body
stays end [] h = refl
stays end (b ∷ []) h = refl
stays end (b ∷ c ∷ body) h =
    let p = or_parts (is_lf b) (has_lf (c ∷ body)) h in
    let q = or_parts (is_lf c) (has_lf body) p.1 in
    cond-false (b == 13 && c == 10) (end ++ with_ends end body) (b ∷ with_ends end (c ∷ body)) (and_no (b == 13) (c == 10) q.0)
    ∙ ap (λ t. b ∷ t) (stays end (c ∷ body) p.1)

-- where a search finds no LF, the text stays
stays_whole : (body : List ℕ) → IsFirstByte (is_byte 10) body None → StaysWhole body
stays_whole body none end = stays end body (no_lf body none)

-- ---- a line that an LF ends

feed_first : (end rest : List ℕ) → with_ends end (10 ∷ rest) ≡ 10 ∷ with_ends end rest
feed_first end [] = refl
feed_first end (c ∷ rest) = refl

one_ended : (b : ℕ) (end rest : List ℕ) → with_ends end (b ∷ 10 ∷ rest) ≡ ended_line end (b ∷ []) ++ with_ends end rest
one_ended b end rest =
    ⊎_elim
    (λ is.
    cond-true (b == 13 && 10 == 10) (end ++ with_ends end rest) (b ∷ with_ends end (10 ∷ rest)) (both (b == 13) is)
    ∙ ap (λ t. t ++ with_ends end rest) (sym (cond-true (b == 13) ([] ++ end) (b ∷ 10 ∷ []) is)))
    (λ other.
    cond-false (b == 13 && 10 == 10) (end ++ with_ends end rest) (b ∷ with_ends end (10 ∷ rest)) (first_no (b == 13) other)
    ∙ ap (λ t. b ∷ t) (feed_first end rest)
    ∙ ap (λ t. t ++ with_ends end rest) (sym (cond-false (b == 13) ([] ++ end) (b ∷ 10 ∷ []) other)))
    (cases_Bool (b == 13))
  where
    both : (x : Bool) → x ≡ true → (x && true) ≡ true
    both true h = refl
    both false h = h

    first_no : (x : Bool) → x ≡ false → (x && true) ≡ false
    first_no true h = h
    first_no false h = refl

under : (b : ℕ) (x y : List ℕ) (t : Bool) → (if t then b ∷ x else b ∷ y) ≡ b ∷ (if t then x else y)
under b x y true = refl
under b x y false = refl

one_more : (b c : ℕ) (end line : List ℕ) → ended_line end (b ∷ c ∷ line) ≡ b ∷ ended_line end (c ∷ line)
one_more b c end line =
    let n : length (b ∷ c ∷ line) - 1 ≡ suc (length (c ∷ line) - 1) = omega arith in
    ap (λ k. if slice_index (b ∷ c ∷ line) k == 13 then take k (b ∷ c ∷ line) ++ end else b ∷ c ∷ (line ++ 10 ∷ [])) n
    ∙ under b (take (length (c ∷ line) - 1) (c ∷ line) ++ end) (c ∷ (line ++ 10 ∷ [])) (slice_index (c ∷ line) (length (c ∷ line) - 1) == 13)

first : (end line rest : List ℕ) → has_lf line ≡ false → with_ends end (line ++ 10 ∷ rest) ≡ ended_line end line ++ with_ends end rest
first end [] rest h = feed_first end rest
first end (b ∷ []) rest h = one_ended b end rest
first end (b ∷ c ∷ line) rest h =
    let p = or_parts (is_lf b) (has_lf (c ∷ line)) h in
    let q = or_parts (is_lf c) (has_lf line) p.1 in
    cond-false (b == 13 && c == 10) (end ++ with_ends end (line ++ 10 ∷ rest)) (b ∷ with_ends end (c ∷ (line ++ 10 ∷ rest))) (and_no (b == 13) (c == 10) q.0)
    ∙ ap (λ t. b ∷ t) (first end (c ∷ line) rest p.1)
    ∙ ap (λ t. t ++ with_ends end rest) (sym (one_more b c end line))

-- where a search finds an LF, the first line ends
ends_line : (body : List ℕ) (k : ℕ) → IsFirstByte (is_byte 10) body (Some k) → EndsLine body k
ends_line body k found = let cut = cut_lf body k found in record {
  within = found.0.high;
  given = λ end. ap (λ t. with_ends end t) cut.0 ∙ first end (take k body) (drop (k + 1) body) cut.1;
}

-- what a search for an LF answers
pub feed_some : (body : List ℕ) (r : Option ℕ) → IsFirstByte (is_byte 10) body r → IfSome r (EndsLine body)
feed_some body None none = tt
feed_some body (Some k) found = ends_line body k found

pub feed_none : (body : List ℕ) (r : Option ℕ) → IsFirstByte (is_byte 10) body r → IfNone r (StaysWhole body)
feed_none body None none = stays_whole body none
feed_none body (Some k) found = tt

-- ---- a body up to a place

-- what is written so far, with what is made of the rest, is all of it
pub record IsWritten (end body before : List ℕ) (place : ℕ) (now : List ℕ) : Type 0 where
  pub within : place ≤ length body
  pub all : now ++ with_ends end (drop place body) ≡ before ++ with_ends end body

-- one line more
pub written_more : (end body before now : List ℕ) (place feed : ℕ) → IsWritten end body before place now → EndsLine (drop place body) feed → IsWritten end body before (place + (feed + 1)) (now ++ ended_line end (take feed (drop place body)))
written_more end body before now place feed so line =
    let in_rest : feed < length (drop place body) = line.within in
    let size : length (drop place body) ≡ length body - place = length-drop place body in
    let low : place ≤ length body = so.within in record {
      within = omega arith;
      all =
          append_assoc now (ended_line end (take feed (drop place body))) (with_ends end (drop (place + (feed + 1)) body))
          ∙ ap (λ t. now ++ (ended_line end (take feed (drop place body)) ++ with_ends end t)) (sym (drop-drop (feed + 1) place body))
          ∙ ap (λ t. now ++ t) (sym (line.given end))
          ∙ so.all;
    }

-- ---- the whole text

-- the four pieces, one behind the other
pub put_together : (mailer : Mailer) (macros : List (List ℕ × List ℕ)) (headers : List (List ℕ)) (body end : List ℕ) (given : List (List ℕ)) (bytes a b c d : List ℕ)
    → end ≡ end_for mailer → given ≡ headers → bytes ≡ body
    → a ≡ from_line mailer macros → b ≡ a ++ flat_map (header_text end) given → c ≡ b ++ end → d ≡ c ++ with_ends end bytes
    → d ≡ outgoing_of mailer macros headers body
put_together mailer macros headers body end given bytes a b c d e g t p q r s =
    let front = from_line mailer macros in
    let middle = flat_map (header_text end) given in
    s
    ∙ ap (λ x. x ++ with_ends end bytes) (r ∙ ap (λ x. x ++ end) (q ∙ ap (λ x. x ++ middle) p))
    ∙ append_assoc (front ++ middle) end (with_ends end bytes)
    ∙ append_assoc front middle (end ++ with_ends end bytes)
    ∙ (λ i. front ++ (flat_map (header_text (e i)) (g i) ++ (e i ++ with_ends (e i) (t i))))
