-- Parameters as they are computed, against their grammar.
use Rattle.std.proofs.Common.{◌≡◌, ℕ, ◌<◌, ◌&&◌, Bool, true, false, cond, List, [], ◌∷◌, ◌++◌, length, take, drop, Option, Some, None, refl, sym, ap, subst, ◌∙◌, arith, ⊎_elim, nat_le}
use Rattle.std.specs.Prelude.{unwrap_or, codes}
use Rattle.std.specs.Char.{is_ascii_digit}
use Rattle.std.specs.List.{list_all}
use Rattle.std.specs.Str.{bytes_eq, str_to_ascii_lowercase, str_eq_ignore_ascii_case}
use Rattle.std.specs.Str.Parse.{digits_value}
use Rattle.std.proofs.lemmas.Bool.{cond-true, cond-false, cases_Bool, and_parts, and_from, false≢true, le-leb, leb-true}
use Rattle.std.proofs.lemmas.List.{map-append, length-map, take_at, drop_at, take-append-drop}
use Rattle.std.proofs.lemmas.Slice.Eq.{bytes_eq-Decides}
use Rattle.smtp_lines.specs.declared.parameter.Given.{Given}
use Rattle.smtp_lines.specs.declared.parameter.Given.TheVariants.{Size, Body}
use Rattle.smtp_lines.specs.declared.parameter.Parameters.{Parameters}
use Rattle.smtp_lines.specs.Parameters.{is_some_text, words_of, IsSize, IsParameter, says_size, says_seven, says_eight, AreParameters, no_more, one_more, sizes_in, bodies_in, last_or, AreGiven}
use Rattle.smtp_lines.specs.Reading.{size_of, as_size, given_by, with_given, with_words, no_parameters, parameters_of}
use Rattle.smtp_lines.proofs.WordLemmas.{words_none}

-- texts that are equal without case have one form in small letters
pub same_lower : (text other : List ℕ) → str_eq_ignore_ascii_case text other ≡ true → str_to_ascii_lowercase text ≡ str_to_ascii_lowercase other
same_lower text other h = (bytes_eq-Decides (str_to_ascii_lowercase text) (str_to_ascii_lowercase other)).0 h

-- texts that are equal without case are of one length
pub same_length : (text other : List ℕ) → str_eq_ignore_ascii_case text other ≡ true → length text ≡ length other
same_length text other h = sym (length-map text _) ∙ ap (λ t. length t) (same_lower text other h) ∙ length-map other _

-- a size
some_text : (text : List ℕ) → 0 < length text → is_some_text text ≡ true
some_text [] low = absurd (omega arith)
some_text (b ∷ text) low = refl

text_some : (text : List ℕ) → is_some_text text ≡ true → 0 < length text
text_some [] h = absurd (false≢true h)
text_some (b ∷ text) h = omega arith

size_found : (digits : List ℕ) → IsSize digits → size_of digits ≡ Some (digits_value 10 digits)
size_found digits is = cond-true _ _ _ (and_from _ _ (some_text digits is.some) (and_from _ _ (le-leb _ _ is.most) is.all))

size_read : (digits : List ℕ) (given : Given) → as_size (size_of digits) ≡ Some given → IsSize digits × (Size (digits_value 10 digits) ≡ given)
size_read digits given e =
    let test = is_some_text digits && (nat_le (length digits) 20 && list_all is_ascii_digit digits) in
    ⊎_elim
    (λ yes.
    let p = and_parts _ _ yes in
    let q = and_parts _ _ p.1 in
    let is : as_size (size_of digits) ≡ Some (Size (digits_value 10 digits)) = ap as_size (cond-true test (Some (digits_value 10 digits)) None yes) in
    (record { some = text_some digits p.0; most = leb-true _ _ q.0; all = q.1 }, cc))
    (λ no.
    let is : as_size (size_of digits) ≡ None = ap as_size (cond-false test (Some (digits_value 10 digits)) None no) in
    absurd (cc))
    (cases_Bool test)

-- a parameter
not_seven : (word other : List ℕ) → str_eq_ignore_ascii_case word other ≡ true → bytes_eq (str_to_ascii_lowercase other) (codes "body=7bit") ≡ false → str_eq_ignore_ascii_case word (codes "BODY=7BIT") ≡ false
not_seven word other h unlike = ap (λ t. bytes_eq t (codes "body=7bit")) (same_lower word other h) ∙ unlike

given_found : (word : List ℕ) (given : Given) → IsParameter word given → given_by word ≡ Some given
given_found _ _ (says_seven word h) = cond-true _ _ _ h
given_found _ _ (says_eight word h) = cond-false _ _ _ (not_seven word (codes "BODY=8BITMIME") h refl) ∙ cond-true _ _ _ h
given_found _ _ (says_size key digits h is) =
    let low : str_to_ascii_lowercase (key ++ digits) ≡ codes "size=" ++ str_to_ascii_lowercase digits = map-append _ key digits ∙ ap (λ t. t ++ str_to_ascii_lowercase digits) (same_lower key (codes "SIZE=") h) in
    let five : length key ≡ 5 = same_length key (codes "SIZE=") h in
    cond-false _ _ _ (ap (λ t. bytes_eq t (codes "body=7bit")) low)
    ∙ cond-false _ _ _ (ap (λ t. bytes_eq t (codes "body=8bitmime")) low)
    ∙ cond-true _ _ _ (ap (λ t. str_eq_ignore_ascii_case t (codes "SIZE=")) (take_at key digits 5 five) ∙ h)
    ∙ ap (λ t. as_size (size_of t)) (drop_at key digits 5 five)
    ∙ ap as_size (size_found digits is)

given_read : (word : List ℕ) (given : Given) → given_by word ≡ Some given → IsParameter word given
given_read word given e =
    let seven = str_eq_ignore_ascii_case word (codes "BODY=7BIT") in
    let eight = str_eq_ignore_ascii_case word (codes "BODY=8BITMIME") in
    let size = str_eq_ignore_ascii_case (take 5 word) (codes "SIZE=") in
    let last = cond size (as_size (size_of (drop 5 word))) None in
    let next = cond eight (Some (Body true)) last in
    ⊎_elim
    (λ yes. let is : given_by word ≡ Some (Body false) = cond-true seven (Some (Body false)) next yes in
    let same : Body false ≡ given = cc in subst (IsParameter word) same (says_seven word yes))
    (λ no.
    let first : given_by word ≡ next = cond-false seven (Some (Body false)) next no in
    ⊎_elim
    (λ yes. let is : next ≡ Some (Body true) = cond-true eight (Some (Body true)) last yes in
    let same : Body true ≡ given = cc in subst (IsParameter word) same (says_eight word yes))
    (λ never.
    let second : next ≡ last = cond-false eight (Some (Body true)) last never in
    ⊎_elim
    (λ yes. let third : last ≡ as_size (size_of (drop 5 word)) = cond-true size (as_size (size_of (drop 5 word))) None yes in
    let read = size_read (drop 5 word) given (sym third ∙ sym second ∙ sym first ∙ e) in
    subst (λ w. IsParameter w given) (take-append-drop 5 word)
    (subst (IsParameter (take 5 word ++ drop 5 word)) read.1 (says_size (take 5 word) (drop 5 word) yes read.0)))
    (λ none. let third : last ≡ None = cond-false size (as_size (size_of (drop 5 word))) None none in absurd (cc))
    (cases_Bool size))
    (cases_Bool eight))
    (cases_Bool seven)

-- words that add to the parameters before
pub record Adds (words : List (List ℕ)) (from to : Parameters) : Type 0 where
  pub given : List Given
  pub are : AreParameters words given
  pub size_is : last_or from.size (sizes_in given) ≡ to.size
  pub body_is : last_or from.body (bodies_in given) ≡ to.body

no_words : (words : List (List ℕ)) (to : Parameters) → with_words words None ≡ Some to → ⊥
no_words words to e = let none = words_none words in cc

some_is : (one other : Parameters) → Some one ≡ Some other → one ≡ other
some_is one other e = cc

module _ (word : List ℕ) (words : List (List ℕ)) (to : Parameters) (go : (from : Parameters) → with_words words (Some from) ≡ Some to → Adds words from to) where
  add_given : (from : Parameters) (o : Option Given) → given_by word ≡ o → with_words words (with_given from o) ≡ Some to → Adds (word ∷ words) from to
  add_given from None is e = absurd (no_words words to e)
  add_given from (Some (Size n)) is e =
      let adds = go (record from { size = Some n }) e in
      record { given = Size n ∷ adds.given; are = one_more word words (Size n) adds.given (given_read word (Size n) is) adds.are; size_is = adds.size_is; body_is = adds.body_is }
  add_given from (Some (Body eight)) is e =
      let adds = go (record from { body = Some eight }) e in
      record { given = Body eight ∷ adds.given; are = one_more word words (Body eight) adds.given (given_read word (Body eight) is) adds.are; size_is = adds.size_is; body_is = adds.body_is }

words_read : (words : List (List ℕ)) (from to : Parameters) → with_words words (Some from) ≡ Some to → Adds words from to
words_read [] from to e =
    let same = some_is from to e in
    record { given = []; are = no_more; size_is = ap (λ p. p.size) same; body_is = ap (λ p. p.body) same }
words_read (word ∷ words) from to e = add_given word words to (λ before. words_read words before to) from (given_by word) refl e

module _ (word : List ℕ) (words : List (List ℕ)) (to : Parameters) (later : List Given)
    (go : (from : Parameters) → last_or from.size (sizes_in later) ≡ to.size → last_or from.body (bodies_in later) ≡ to.body → with_words words (Some from) ≡ Some to) where
  put_given : (from : Parameters) (given : Given) → last_or from.size (sizes_in (given ∷ later)) ≡ to.size → last_or from.body (bodies_in (given ∷ later)) ≡ to.body
      → with_words words (with_given from (Some given)) ≡ Some to
  put_given from (Size n) sizes bodies = go (record from { size = Some n }) sizes bodies
  put_given from (Body eight) sizes bodies = go (record from { body = Some eight }) sizes bodies

words_found : (words : List (List ℕ)) (given : List Given) (from to : Parameters) → AreParameters words given → last_or from.size (sizes_in given) ≡ to.size → last_or from.body (bodies_in given) ≡ to.body
    → with_words words (Some from) ≡ Some to
words_found _ _ from to no_more sizes bodies = λ i. Some (record { size = sizes i; body = bodies i })
words_found _ _ from to (one_more word words given later is are) sizes bodies =
    ap (λ o. with_words words (with_given from o)) (given_found word given is)
    ∙ put_given word words to later (λ before one two. words_found words later before to are one two) from given sizes bodies

-- parameters that are computed are given by the text
pub parameters_read : (text : List ℕ) (to : Parameters) → parameters_of text ≡ Some to → AreGiven text to.size (unwrap_or to.body false)
parameters_read text to e =
    let adds = words_read (words_of text) no_parameters to e in
    record { given = adds.given; body = to.body; are = adds.are; size_is = adds.size_is; body_is = adds.body_is; eight_is = refl }

-- parameters that a text gives are computed
pub parameters_found : (text : List ℕ) (size : Option ℕ) (eight : Bool) (is : AreGiven text size eight) → parameters_of text ≡ Some (record { size = size; body = is.body })
parameters_found text size eight is = words_found (words_of text) is.given no_parameters (record { size = size; body = is.body }) is.are is.size_is is.body_is
