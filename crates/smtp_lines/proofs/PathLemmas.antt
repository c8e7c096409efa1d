-- Where a path ends: what is computed, against the grammar.
use Rattle.std.proofs.Common.{◌≡◌, ℕ, zero, suc, ◌+◌, ◌==◌, Bool, true, false, not, cond, List, [], ◌∷◌, ◌++◌, length, take, drop, Option, Some, None, option_map, refl, sym, ap, subst, ◌∙◌, arith, add-one}
use Rattle.std.specs.Prelude.{option_and_then}
use Rattle.std.proofs.lemmas.Bool.{cond-true, cond-false, and_parts, and_from, not-true, not_from_false, eqb-true}
use Rattle.std.proofs.lemmas.List.{append_assoc, length-append, take_at}
use Rattle.smtp_lines.specs.Paths.{Parts, EndsPath, InQuotes, quote_nothing, quote_plain, quote_pair, InAngles, path_nothing, path_plain, path_quoted, is_quotable, is_path_byte}
use Rattle.smtp_lines.specs.PathEnds.{quote_length, path_end, parts_at}
use Rattle.smtp_lines.specs.Reading.{path_parts}

-- a quoted string with so many bytes behind its first double quote is at the front
pub record ClosesQuote (text : List ℕ) (n : ℕ) : Type 0 where
  pub inside : List ℕ
  pub rest : List ℕ
  pub whole : text ≡ inside ++ 34 ∷ rest
  pub is : InQuotes inside
  pub count : n ≡ suc (length inside)

abbrev pub QuoteEnds : List ℕ → Option ℕ → Type 0
QuoteEnds text None = Unit {0}
QuoteEnds text (Some n) = ClosesQuote text n

quote_byte : (b : ℕ) (bs : List ℕ) (o : Option ℕ) → is_quotable b ≡ true → QuoteEnds bs o → QuoteEnds (b ∷ bs) (option_map suc o)
quote_byte b bs None q ends = tt
quote_byte b bs (Some n) q ends = record { inside = b ∷ ends.inside; rest = ends.rest; whole = ap (λ x. b ∷ x) ends.whole; is = quote_plain b ends.inside q ends.is; count = ap suc ends.count }

quote_two : (b : ℕ) (bs : List ℕ) (o : Option ℕ) → QuoteEnds bs o → QuoteEnds (92 ∷ b ∷ bs) (option_map (λ n. n + 2) o)
quote_two b bs None ends = tt
quote_two b bs (Some n) ends =
    let count : n + 2 ≡ suc (suc (suc (length ends.inside))) = omega (arith, ends.count) in
    record { inside = 92 ∷ b ∷ ends.inside; rest = ends.rest; whole = ap (λ x. 92 ∷ b ∷ x) ends.whole; is = quote_pair b ends.inside ends.is; count = count }

quote_at : (b c : ℕ) (bs : List ℕ) (close slash : Bool) → (b == 34) ≡ close → (b == 92) ≡ slash
    → QuoteEnds bs (quote_length bs) → QuoteEnds (c ∷ bs) (quote_length (c ∷ bs))
    → QuoteEnds (b ∷ c ∷ bs) (cond close (Some 1) (cond slash (option_map (λ n. n + 2) (quote_length bs)) (option_map suc (quote_length (c ∷ bs)))))
quote_at b c bs true slash q s two one = record { inside = []; rest = c ∷ bs; whole = ap (λ x. x ∷ c ∷ bs) (eqb-true b 34 q); is = quote_nothing; count = refl }
quote_at b c bs false true q s two one =
    subst (λ x. QuoteEnds (x ∷ c ∷ bs) (option_map (λ n. n + 2) (quote_length bs))) (sym (eqb-true b 92 s)) (quote_two c bs (quote_length bs) two)
quote_at b c bs false false q s two one = quote_byte b (c ∷ bs) (quote_length (c ∷ bs)) (and_from _ _ (not_from_false _ q) (not_from_false _ s)) one

quote_last : (b : ℕ) (close : Bool) → (b == 34) ≡ close → QuoteEnds (b ∷ []) (cond close (Some 1) None)
quote_last b true q = record { inside = []; rest = []; whole = ap (λ x. x ∷ []) (eqb-true b 34 q); is = quote_nothing; count = refl }
quote_last b false q = tt

-- a length that is computed is that of a quoted string
quote_read : (text : List ℕ) → QuoteEnds text (quote_length text)
quote_read [] = tt
quote_read (b ∷ []) = quote_last b (b == 34) refl
quote_read (b ∷ c ∷ bs) = quote_at b c bs (b == 34) (b == 92) refl refl (quote_read bs) (quote_read (c ∷ bs))

-- a plain byte makes a quoted string's length one more
pub length_plain : (b : ℕ) (bs : List ℕ) → (b == 34) ≡ false → (b == 92) ≡ false → quote_length (b ∷ bs) ≡ option_map suc (quote_length bs)
length_plain b [] q s = cond-false (b == 34) (Some 1) None q
length_plain b (c ∷ bs) q s = cond-false _ _ _ q ∙ cond-false _ _ _ s

-- a double quote ends a quoted string
pub length_close : (b : ℕ) (bs : List ℕ) → (b == 34) ≡ true → quote_length (b ∷ bs) ≡ Some 1
length_close b [] q = cond-true _ _ _ q
length_close b (c ∷ bs) q = cond-true _ _ _ q

-- a backslash and the byte behind it make a quoted string's length two more
pub length_two : (b : ℕ) (bs : List ℕ) → (b == 34) ≡ false → (b == 92) ≡ true → quote_length (b ∷ bs) ≡ option_map (λ n. n + 2) (quote_length (drop 1 bs))
length_two b [] q s = cond-false (b == 34) (Some 1) None q
length_two b (c ∷ bs) q s = cond-false _ _ _ q ∙ cond-true _ _ _ s

quotable_parts : (b : ℕ) → is_quotable b ≡ true → ((b == 34) ≡ false) × ((b == 92) ≡ false)
quotable_parts b h = let p = and_parts (not (b == 34)) (not (b == 92)) h in (not-true _ p.0, not-true _ p.1)

path_byte_parts : (b : ℕ) → is_path_byte b ≡ true → ((b == 34) ≡ false) × ((b == 62) ≡ false)
path_byte_parts b h = let p = and_parts (not (b == 34)) (not (b == 62)) h in (not-true _ p.0, not-true _ p.1)

-- the length of each quoted string is computed
quote_found : (inside rest : List ℕ) → InQuotes inside → quote_length (inside ++ 34 ∷ rest) ≡ Some (suc (length inside))
quote_found _ rest quote_nothing = length_close 34 rest refl
quote_found _ rest (quote_plain b more q is) =
    let p = quotable_parts b q in
    length_plain b (more ++ 34 ∷ rest) p.0 p.1 ∙ ap (option_map suc) (quote_found more rest is)
quote_found _ rest (quote_pair b more is) =
    let e : suc (length more) + 2 ≡ suc (suc (suc (length more))) = omega arith in
    ap (option_map (λ n. n + 2)) (quote_found more rest is) ∙ ap (λ m. Some m) e

-- behind so many bytes of a quoted string an inside is ended at this place
pub record PathFrom (text : List ℕ) (skipped n : ℕ) : Type 0 where
  pub inside : List ℕ
  pub back : List ℕ
  pub whole : drop skipped text ≡ inside ++ 62 ∷ back
  pub is : InAngles inside
  pub count : n ≡ skipped + length inside

abbrev pub PathEnds : List ℕ → ℕ → Option ℕ → Type 0
PathEnds text skipped None = Unit {0}
PathEnds text skipped (Some n) = PathFrom text skipped n

path_later : (b : ℕ) (bs : List ℕ) (k : ℕ) (o : Option ℕ) → PathEnds bs k o → PathEnds (b ∷ bs) (suc k) (option_map suc o)
path_later b bs k None ends = tt
path_later b bs k (Some n) ends =
    let count : suc n ≡ suc k + length ends.inside = omega (arith, ends.count) in
    record { inside = ends.inside; back = ends.back; whole = ends.whole; is = ends.is; count = count }

path_byte : (b : ℕ) (bs : List ℕ) (o : Option ℕ) → is_path_byte b ≡ true → PathEnds bs 0 o → PathEnds (b ∷ bs) 0 (option_map suc o)
path_byte b bs None p ends = tt
path_byte b bs (Some n) p ends =
    let count : suc n ≡ 0 + suc (length ends.inside) = omega (arith, ends.count) in
    record { inside = b ∷ ends.inside; back = ends.back; whole = ap (λ x. b ∷ x) ends.whole; is = path_plain b ends.inside p ends.is; count = count }

quote_behind : (inside rest : List ℕ) → drop (suc (length inside)) (inside ++ 34 ∷ rest) ≡ rest
quote_behind [] rest = refl
quote_behind (b ∷ inside) rest = quote_behind inside rest

path_joined : (bs : List ℕ) (k : ℕ) (o : Option ℕ) → ClosesQuote bs k → PathEnds bs k o → PathEnds (34 ∷ bs) 0 (option_map suc o)
path_joined bs k None quote ends = tt
path_joined bs k (Some n) quote ends =
    let behind : drop k bs ≡ quote.rest = (λ i. drop (quote.count i) (quote.whole i)) ∙ quote_behind quote.inside quote.rest in
    let count : suc n ≡ 0 + suc (length (quote.inside ++ 34 ∷ ends.inside)) = omega (arith, ends.count, quote.count, length-append quote.inside (34 ∷ ends.inside)) in
    record {
      inside = 34 ∷ (quote.inside ++ 34 ∷ ends.inside);
      back = ends.back;
      whole = ap (λ x. 34 ∷ x) (quote.whole ∙ ap (λ x. quote.inside ++ 34 ∷ x) (sym behind ∙ ends.whole) ∙ sym (append_assoc quote.inside (34 ∷ ends.inside) (62 ∷ ends.back)));
      is = path_quoted quote.inside ends.inside quote.is ends.is;
      count = count;
    }

path_past : (bs : List ℕ) (o : Option ℕ) → QuoteEnds bs o → ((n : ℕ) → PathEnds bs n (path_end bs n)) → PathEnds (34 ∷ bs) 0 (option_map suc (option_and_then (λ n. path_end bs n) o))
path_past bs None quote go = tt
path_past bs (Some k) quote go = path_joined bs k (path_end bs k) quote (go k)

path_at : (b : ℕ) (bs : List ℕ) (close quote : Bool) → (b == 62) ≡ close → (b == 34) ≡ quote → ((n : ℕ) → PathEnds bs n (path_end bs n))
    → PathEnds (b ∷ bs) 0 (cond close (Some 0) (cond quote (option_map suc (option_and_then (λ n. path_end bs n) (quote_length bs))) (option_map suc (path_end bs 0))))
path_at b bs true quote c q go = record { inside = []; back = bs; whole = ap (λ x. x ∷ bs) (eqb-true b 62 c); is = path_nothing; count = refl }
path_at b bs false true c q go =
    subst (λ x. PathEnds (x ∷ bs) 0 (option_map suc (option_and_then (λ n. path_end bs n) (quote_length bs)))) (sym (eqb-true b 34 q)) (path_past bs (quote_length bs) (quote_read bs) go)
path_at b bs false false c q go = path_byte b bs (path_end bs 0) (and_from _ _ (not_from_false _ q) (not_from_false _ c)) (go 0)

-- a place that is computed ends a path
path_read : (text : List ℕ) (n : ℕ) → PathEnds text n (path_end text n)
path_read [] n = tt
path_read (b ∷ bs) (suc n) = path_later b bs n (path_end bs n) (path_read bs n)
path_read (b ∷ bs) zero = path_at b bs (b == 62) (b == 34) refl refl (λ k. path_read bs k)

path_behind : (inside rest : List ℕ) (n : ℕ) → path_end rest 0 ≡ Some n → path_end (inside ++ 34 ∷ rest) (suc (length inside)) ≡ Some (suc (length inside + n))
path_behind [] rest n e = let more : suc n ≡ suc (0 + n) = omega arith in ap (option_map suc) e ∙ ap (λ m. Some m) more
path_behind (b ∷ inside) rest n e =
    let more : suc (suc (length inside + n)) ≡ suc (suc (length inside) + n) = omega arith in
    ap (option_map suc) (path_behind inside rest n e) ∙ ap (λ m. Some m) more

-- the place that ends each path is computed
path_found : (inside back : List ℕ) → InAngles inside → path_end (inside ++ 62 ∷ back) 0 ≡ Some (length inside)
path_found _ back path_nothing = refl
path_found _ back (path_plain b more p is) =
    let parts = path_byte_parts b p in
    cond-false _ _ _ parts.1 ∙ cond-false _ _ _ parts.0 ∙ ap (option_map suc) (path_found more back is)
path_found _ back (path_quoted inside more q is) =
    let rest = more ++ 62 ∷ back in
    let count : suc (suc (length inside + length more)) ≡ suc (length (inside ++ 34 ∷ more)) = omega (arith, length-append inside (34 ∷ more)) in
    ap (λ x. path_end (34 ∷ x) 0) (append_assoc inside (34 ∷ more) (62 ∷ back))
    ∙ ap (λ o. option_map suc (option_and_then (λ n. path_end (inside ++ 34 ∷ rest) n) o)) (quote_found inside rest q)
    ∙ ap (option_map suc) (path_behind inside rest (length more) (path_found more back is))
    ∙ ap (λ m. Some m) count

-- the parts at the end of an inside
parts_are : (text inside back : List ℕ) (n : ℕ) → text ≡ inside ++ 62 ∷ back → n ≡ length inside → parts_at text (Some n) ≡ Some (record { front = inside; back = back })
parts_are text inside back n whole count =
    let front : take n text ≡ inside = (λ i. take (count i) (whole i)) ∙ take_at inside (62 ∷ back) (length inside) refl in
    let behind : drop (n + 1) text ≡ back = (λ i. drop (count i + 1) (whole i)) ∙ ap (λ k. drop k (inside ++ 62 ∷ back)) (add-one (length inside)) ∙ angle_behind inside back in
    λ i. Some (record { front = front i; back = behind i })
  where
    angle_behind : (inside back : List ℕ) → drop (suc (length inside)) (inside ++ 62 ∷ back) ≡ back
    angle_behind [] back = refl
    angle_behind (b ∷ inside) back = angle_behind inside back

one_of : (one other : Parts) (o : Option Parts) → o ≡ Some one → o ≡ Some other → one ≡ other
one_of one other o p q = cc

parts_read : (text : List ℕ) (o : Option ℕ) → PathEnds text 0 o → (parts : Parts) → parts_at text o ≡ Some parts → EndsPath text parts
parts_read text None ends parts e = absurd (cc e)
parts_read text (Some n) ends parts e =
    let count : n ≡ length ends.inside = omega (arith, ends.count) in
    let same = one_of (record { front = ends.inside; back = ends.back }) parts (parts_at text (Some n)) (parts_are text ends.inside ends.back n ends.whole count) e in
    subst (λ p. EndsPath text p) same (record { whole = ends.whole; inside = ends.is })

-- the parts that are computed are those at which a path ends
pub parts_end : (text : List ℕ) (parts : Parts) → path_parts (60 ∷ text) ≡ Some parts → EndsPath text parts
parts_end text parts e = parts_read text (path_end text 0) (path_read text 0) parts e

-- where a path ends in some parts, these are computed
pub parts_found : (text : List ℕ) (parts : Parts) → EndsPath text parts → path_parts (60 ∷ text) ≡ Some parts
parts_found text parts ends =
    ap (parts_at text) (ap (λ x. path_end x 0) ends.whole ∙ path_found parts.front parts.back ends.inside)
    ∙ parts_are text parts.front parts.back (length parts.front) ends.whole refl

-- where no parts are computed, no path ends
pub parts_none : (text : List ℕ) → path_parts (60 ∷ text) ≡ None → (parts : Parts) → EndsPath text parts → ⊥
parts_none text e parts ends = let found = parts_found text parts ends in cc

none_when : (o : Option Parts) → ((parts : Parts) → o ≡ Some parts → ⊥) → o ≡ None
none_when None never = refl
none_when (Some parts) never = absurd (never parts refl)

-- where no path ends, no parts are computed
pub none_found : (text : List ℕ) → ((parts : Parts) → EndsPath text parts → ⊥) → path_parts (60 ∷ text) ≡ None
none_found text never = none_when (path_parts (60 ∷ text)) (λ parts e. never parts (parts_end text parts e))

-- the parts at which a path ends are its only ones
pub one_end : (text : List ℕ) (one other : Parts) → EndsPath text one → EndsPath text other → one ≡ other
one_end text one other a b = one_of one other (path_parts (60 ∷ text)) (parts_found text one a) (parts_found text other b)
