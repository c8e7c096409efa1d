-- A path behind a keyword as it is computed, against its grammar.
use Rattle.std.proofs.Common.{◌≡◌, ℕ, ◌+◌, ◌-◌, ◌<◌, ◌==◌, ◌||◌, Bool, true, false, not, cond, List, [], ◌∷◌, ◌++◌, length, take, drop, Option, Some, None, Result, Ok, Err, refl, sym, ap, subst, ◌∙◌, arith, ⊎_elim, ◌⊎◌, inl, inr, nat_lt}
use Rattle.std.specs.List.{list_any, suffix_len}
use Rattle.std.specs.Str.{str_eq_ignore_ascii_case}
use Rattle.std.proofs.lemmas.Bool.{cond-true, cond-false, cases_Bool, eqb-true, eqb-false, ne_eqb, or_left, or_parts, not_from_true, not_from_false, not-true, ltb-true, lt-ltb}
use Rattle.std.proofs.lemmas.List.{append_assoc, take_at, drop_at, take-append-drop, length-drop}
use Rattle.mail_base.specs.Limits.{most_path, most_local_part, most_domain}
use Rattle.mail_base.specs.Texts.{is_blank, without_blanks}
use Rattle.mail_base.specs.declared.command.Verb.{Verb}
use Rattle.mail_base.specs.declared.command.LineFault.{LineFault}
use Rattle.mail_base.specs.declared.command.LineFault.TheVariants.{Syntax, PathTooLong}
use Rattle.smtp_lines.specs.Paths.{Parts, EndsPath, IsWritten, in_angles, bare, is_parted, without_route, local_part, domain_of, is_at, is_too_long, HasPath}
use Rattle.smtp_lines.specs.Reading.{word_end, path_parts, is_long, checked, path_after}
use Rattle.smtp_lines.proofs.PathLemmas.{parts_end, parts_found}
use Rattle.smtp_lines.proofs.ParameterLemmas.{same_length}
use Rattle.smtp_lines.proofs.WordLemmas.{is_solid, gap_cut, gap_found, word_solid, word_found, word_first}

-- ---- lengths

or_false : (b : Bool) → (b || false) ≡ b
or_false true = refl
or_false false = refl

-- a domain above its limit is in a path above its own
same_long : (path : List ℕ) → is_too_long path ≡ is_long path
unfolding most_path most_domain
same_long path =
    let wide = nat_lt most_domain (length (domain_of path)) in
    ⊎_elim
    (λ long.
    let above = ltb-true most_domain (length (domain_of path)) long in
    let within = length-drop (length path - suffix_len (λ b. not (is_at b)) path) path in
    let more : most_path < length path + 2 = omega arith in
    let first : is_long path ≡ true = or_left _ (nat_lt most_local_part (length (local_part path))) (lt-ltb most_path (length path + 2) more) in
    or_left (is_long path) wide first ∙ sym first)
    (λ short. ap (λ b. is_long path || b) short ∙ or_false (is_long path))
    (cases_Bool wide)

-- ---- a path as it is written

pub record Written (text : List ℕ) (parts : Parts) : Type 0 where
  pub written : List ℕ
  pub whole : text ≡ written ++ parts.back
  pub is : IsWritten written parts.front

some_is : (one other : Parts) → Some one ≡ Some other → one ≡ other
some_is one other e = cc

angled : (text : List ℕ) (parts : Parts) → EndsPath text parts → Written (60 ∷ text) parts
angled text parts ends = record {
  written = 60 ∷ (parts.front ++ 62 ∷ []);
  whole = ap (λ t. 60 ∷ t) (ends.whole ∙ sym (append_assoc parts.front (62 ∷ []) parts.back));
  is = in_angles parts.front ends.inside;
}

bare_parts : (b : ℕ) (text : List ℕ) → (b == 60) ≡ false → is_blank b ≡ false → Written (b ∷ text) (record { front = take (word_end (b ∷ text)) (b ∷ text); back = drop (word_end (b ∷ text)) (b ∷ text) })
bare_parts b text plain solid =
    let front = take (word_end (b ∷ text)) (b ∷ text) in
    let first = word_first b text solid in
    let is : IsWritten (b ∷ take (word_end text) text) (b ∷ take (word_end text) text) = bare b (take (word_end text) text) (λ e. eqb-false b 60 plain e) (ap (λ t. list_any is_blank t) (sym first) ∙ word_solid (b ∷ text)) in
    record {
      written = front;
      whole = sym (take-append-drop (word_end (b ∷ text)) (b ∷ text));
      is = subst (λ t. IsWritten t t) (sym first) is;
    }

path_read : (text : List ℕ) (parts : Parts) → is_solid text ≡ true → path_parts text ≡ Some parts → Written text parts
path_read [] parts solid e = absurd (cc)
path_read (b ∷ text) parts solid e =
    ⊎_elim
    (λ angle.
    let is = eqb-true b 60 angle in
    subst (λ x. Written (x ∷ text) parts) (sym is) (angled text parts (parts_end text parts (ap (λ x. path_parts (x ∷ text)) (sym is) ∙ e))))
    (λ plain.
    let front = take (word_end (b ∷ text)) (b ∷ text) in
    let back = drop (word_end (b ∷ text)) (b ∷ text) in
    let same = some_is (record { front = front; back = back }) parts (sym (cond-false (b == 60) _ _ plain) ∙ e) in
    subst (Written (b ∷ text)) same (bare_parts b text plain (not-true (is_blank b) solid)))
    (cases_Bool (b == 60))

path_found : (written inside rest : List ℕ) → IsWritten written inside → is_parted rest ≡ true → path_parts (written ++ rest) ≡ Some (record { front = inside; back = rest })
path_found _ _ rest (in_angles inside is) parted =
    ap (λ t. path_parts (60 ∷ t)) (append_assoc inside (62 ∷ []) rest)
    ∙ parts_found (inside ++ 62 ∷ rest) (record { front = inside; back = rest }) (record { whole = refl; inside = is })
path_found _ _ rest (bare b more plain solid) parted =
    let end = word_found (b ∷ more) rest solid parted in
    cond-false _ _ _ (ne_eqb b 60 plain)
    ∙ ap (λ n. Some (record { front = take n ((b ∷ more) ++ rest); back = drop n ((b ∷ more) ++ rest) })) end
    ∙ (λ i. Some (record { front = take_at (b ∷ more) rest (length (b ∷ more)) refl i; back = drop_at (b ∷ more) rest (length (b ∷ more)) refl i }))

written_solid : (written inside rest : List ℕ) → IsWritten written inside → is_solid (written ++ rest) ≡ true
written_solid _ _ rest (in_angles inside is) = refl
written_solid _ _ rest (bare b more plain solid) = not_from_false _ (or_parts _ _ solid).0

-- ---- a path behind a keyword

module _ (verb : Verb) (keyword argument : List ℕ) where
  abbrev tail : List ℕ
  tail = drop (length keyword) argument

  -- the path of an argument is computed, or that it is too long
  pub path_after_found : (path rest : List ℕ) → HasPath keyword argument path rest → path_after verb keyword argument ≡ cond (is_too_long path) (Err (PathTooLong verb)) (Ok (record { front = path; back = rest }))
  path_after_found path rest has =
      let size : length has.word ≡ length keyword = same_length has.word keyword has.keyword_is in
      let after = has.gap ++ (has.written ++ rest) in
      let front : take (length keyword) argument ≡ has.word = ap (take (length keyword)) has.whole ∙ take_at has.word after (length keyword) size in
      let behind : tail ≡ after = ap (drop (length keyword)) has.whole ∙ drop_at has.word after (length keyword) size in
      let text : without_blanks tail ≡ has.written ++ rest = ap without_blanks behind ∙ gap_found has.gap (has.written ++ rest) has.blank (written_solid has.written has.inside rest has.is) in
      let parts : path_parts (without_blanks tail) ≡ Some (record { front = has.inside; back = rest }) = ap path_parts text ∙ path_found has.written has.inside rest has.is has.parted in
      cond-true _ _ _ (ap (λ t. str_eq_ignore_ascii_case t keyword) front ∙ has.keyword_is)
      ∙ ap (checked verb) parts
      ∙ cond-false _ _ _ (not_from_true _ has.parted)
      ∙ (λ i. cond (is_long (sym has.unrouted i)) (Err (PathTooLong verb)) (Ok (record { front = sym has.unrouted i; back = rest })))
      ∙ ap (λ b. cond b (Err (PathTooLong verb)) (Ok (record { front = path; back = rest }))) (sym (same_long path))

  -- what the computed answer says
  abbrev pub PathRead : Result Parts LineFault → Type 0
  PathRead (Ok parts) = HasPath keyword argument parts.front parts.back × (is_too_long parts.front ≡ false)
  PathRead (Err fault) =
      ((fault ≡ Syntax verb) × ((path rest : List ℕ) → HasPath keyword argument path rest → ⊥))
      ⊎ ((fault ≡ PathTooLong verb) × ((path : List ℕ) × (rest : List ℕ) × HasPath keyword argument path rest × (is_too_long path ≡ true)))

  no_syntax : (b : Bool) (parts : Parts) → cond b (Err (PathTooLong verb)) (Ok parts) ≡ Err (Syntax verb) → ⊥
  no_syntax true parts e = cc
  no_syntax false parts e = cc

  syntax_read : path_after verb keyword argument ≡ Err (Syntax verb) → PathRead (path_after verb keyword argument)
  syntax_read e =
      subst PathRead (sym e) (inl (refl, λ path rest has. no_syntax (is_too_long path) (record { front = path; back = rest }) (sym (path_after_found path rest has) ∙ e)))

  has_path : (parts : Parts) → str_eq_ignore_ascii_case (take (length keyword) argument) keyword ≡ true → path_parts (without_blanks tail) ≡ Some parts → is_parted parts.back ≡ true
      → HasPath keyword argument (without_route parts.front) parts.back
  has_path parts named e parted =
      let cut = gap_cut tail in
      let read = path_read (without_blanks tail) parts cut.solid e in
      record {
        word = take (length keyword) argument;
        gap = cut.gap;
        written = read.written;
        inside = parts.front;
        whole = sym (take-append-drop (length keyword) argument) ∙ ap (λ t. take (length keyword) argument ++ t) (cut.whole ∙ ap (λ t. cut.gap ++ t) read.whole);
        keyword_is = named;
        blank = cut.blank;
        is = read.is;
        parted = parted;
        unrouted = refl;
      }

  parts_read : (o : Option Parts) → path_parts (without_blanks tail) ≡ o → str_eq_ignore_ascii_case (take (length keyword) argument) keyword ≡ true → PathRead (path_after verb keyword argument)
  parts_read None e named = syntax_read (cond-true _ _ _ named ∙ ap (checked verb) e)
  parts_read (Some parts) e named =
      let path = without_route parts.front in
      let first : path_after verb keyword argument ≡ checked verb (Some parts) = cond-true _ _ _ named ∙ ap (checked verb) e in
      ⊎_elim
      (λ parted.
      let second : checked verb (Some parts) ≡ cond (is_long path) (Err (PathTooLong verb)) (Ok (record { front = path; back = parts.back })) = cond-false _ _ _ (not_from_true _ parted) in
      let has = has_path parts named e parted in
      ⊎_elim
      (λ long. subst PathRead (sym (first ∙ second ∙ cond-true _ _ _ long)) (inr (refl, (path, parts.back, has, same_long path ∙ long))))
      (λ short. subst PathRead (sym (first ∙ second ∙ cond-false _ _ _ short)) (has, same_long path ∙ short))
      (cases_Bool (is_long path)))
      (λ joined. syntax_read (first ∙ cond-true _ _ _ (not_from_false _ joined)))
      (cases_Bool (is_parted parts.back))

  -- what is computed of an argument is its path, or why it has none
  pub path_after_read : PathRead (path_after verb keyword argument)
  path_after_read =
      ⊎_elim
      (λ named. parts_read (path_parts (without_blanks tail)) refl named)
      (λ unnamed. syntax_read (cond-false _ _ _ unnamed))
      (cases_Bool (str_eq_ignore_ascii_case (take (length keyword) argument) keyword))
