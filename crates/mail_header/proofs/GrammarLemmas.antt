-- Headers and body against their grammar.
use Rattle.std.proofs.Common.{◌≡◌, ℕ, ◌+◌, ◌<◌, ◌≤◌, ◌==◌, ◌||◌, ◌&&◌, Bool, true, false, not, cond, List, [], ◌∷◌, ◌++◌, length, slice_index, nat_lt, refl, sym, ap, subst, ◌∙◌, arith, ⊎_elim}
use Rattle.std.specs.List.{list_all, prefix_len}
use Rattle.std.proofs.lemmas.Bool.{cond-false, cases_Bool, and_parts, or_parts, or_cases, or_left, eqb-true, eqb-false, ltb-true, leb-true, not-true, false≢true, false_from_ne_true}
use Rattle.std.proofs.lemmas.List.{append_assoc}
use Rattle.mail_base.specs.Texts.{is_blank, crlf}
use Rattle.mail_base.specs.declared.message.Split.{Split}
use Rattle.mail_base.proofs.FeedLemmas.{heads, tails}
use Rattle.mail_header.specs.Headers.{is_name_byte, is_plain, is_header, is_continuation, IsFolded, last_fold, one_fold, IsHeaderText, unfolded, folded, AreHeaders, no_headers, one_header, with_end, text_of, is_some_line, EndsHeaders, IsBody, behind_empty_line, at_once, IsSplit, has_crlf, AreLines, no_lines, one_line}
use Rattle.mail_header.specs.Lines.{belongs, block_of, rest_of, goes_on, joined, headers_in, headers_of, without_empty, body_of, size_of}
use Rattle.mail_header.proofs.SizeLemmas.{ended_size}

-- ---- lines and their ends

plain_byte : (b : ℕ) → is_plain b ≡ true → ((b == 13) ≡ false) × ((b == 10) ≡ false)
plain_byte b h = let p = and_parts (not (b == 13)) (not (b == 10)) h in (not-true _ p.0, not-true _ p.1)

-- a line without CR LF, and one of plain bytes, each before a CR LF
pub first_crlf : (one other xs ys : List ℕ) → has_crlf one ≡ false → list_all is_plain other ≡ true → one ++ (crlf ++ xs) ≡ other ++ (crlf ++ ys) → (one ≡ other) × (xs ≡ ys)
first_crlf [] [] xs ys a b e = (refl, tails 10 10 xs ys (tails 13 13 (10 ∷ xs) (10 ∷ ys) e))
first_crlf [] (d ∷ other) xs ys a b e =
    let p = and_parts (is_plain d) (list_all is_plain other) b in
    absurd (eqb-false d 13 (plain_byte d p.0).0 (sym (heads 13 d (10 ∷ xs) (other ++ (crlf ++ ys)) e)))
first_crlf (c ∷ []) [] xs ys a b e = absurd (eqb-false 13 10 refl (heads 13 10 (10 ∷ xs) ys (tails c 13 (13 ∷ 10 ∷ xs) (10 ∷ ys) e)))
first_crlf (c ∷ f ∷ one) [] xs ys a b e =
    let first : c ≡ 13 = heads c 13 (f ∷ (one ++ (crlf ++ xs))) (10 ∷ ys) e in
    let second : f ≡ 10 = heads f 10 (one ++ (crlf ++ xs)) ys (tails c 13 (f ∷ (one ++ (crlf ++ xs))) (10 ∷ ys) e) in
    let none : ((c == 13) && (f == 10)) ≡ false = (or_parts ((c == 13) && (f == 10)) (has_crlf (f ∷ one)) a).0 in
    absurd (false≢true (sym none ∙ (λ i. (first i == 13) && (second i == 10))))
first_crlf (c ∷ one) (d ∷ other) xs ys a b e =
    let p = and_parts (is_plain d) (list_all is_plain other) b in
    let same = heads c d (one ++ (crlf ++ xs)) (other ++ (crlf ++ ys)) e in
    let rest = first_crlf one other xs ys (or_parts ((c == 13) && (slice_index one 0 == 10)) (has_crlf one) a).1 p.1 (tails c d (one ++ (crlf ++ xs)) (other ++ (crlf ++ ys)) e) in
    ((λ i. same i ∷ rest.0 i), rest.1)

-- plain bytes have none
plain_no_crlf : (line : List ℕ) → list_all is_plain line ≡ true → has_crlf line ≡ false
plain_no_crlf [] h = refl
plain_no_crlf (b ∷ line) h =
    let p = and_parts (is_plain b) (list_all is_plain line) h in
    ap (λ t. (t && (slice_index line 0 == 10)) || has_crlf line) (plain_byte b p.0).0 ∙ plain_no_crlf line p.1

-- a header's first line has only plain bytes
pub header_plain : (line : List ℕ) → is_header line ≡ true → list_all is_plain line ≡ true
header_plain line h =
    let n = prefix_len is_name_byte line in
    let p = and_parts (nat_lt 0 n && nat_lt n (length line)) (slice_index line n == 58 && list_all is_plain line) h in
    (and_parts (slice_index line n == 58) (list_all is_plain line) p.1).1

-- a line that goes on has only plain bytes
pub fold_plain : (line : List ℕ) → is_continuation line ≡ true → list_all is_plain line ≡ true
fold_plain line h = (and_parts (is_blank (slice_index line 0)) (list_all is_plain line) h).1

-- no line is both
pub not_both : (line : List ℕ) → is_header line ≡ true → is_continuation line ≡ true → ⊥
not_both [] h f = false≢true f
not_both (b ∷ line) h f =
    let n = prefix_len is_name_byte (b ∷ line) in
    let p = and_parts (nat_lt 0 n && nat_lt n (length (b ∷ line))) (slice_index (b ∷ line) n == 58 && list_all is_plain (b ∷ line)) h in
    let some : 0 < n = ltb-true 0 n (and_parts (nat_lt 0 n) (nat_lt n (length (b ∷ line))) p.0).0 in
    let blank = (and_parts (is_blank b) (list_all is_plain (b ∷ line)) f).0 in
    ⊎_elim
    (λ named. solid b named blank)
    (λ other. let none : n ≡ 0 = cond-false (is_name_byte b) (1 + prefix_len is_name_byte line) 0 other in absurd (omega arith))
    (cases_Bool (is_name_byte b))
  where
    solid : (b : ℕ) → is_name_byte b ≡ true → is_blank b ≡ true → ⊥
    solid b named blank =
        let low : 33 ≤ b = leb-true 33 b (and_parts _ _ (and_parts _ (not (b == 58)) named).0).0 in
        ⊎_elim
        (λ space. let is = eqb-true b 32 space in absurd (omega arith))
        (λ tab. let is = eqb-true b 9 tab in absurd (omega arith))
        (or_cases (b == 32) (b == 9) blank)

-- ---- what is gathered is split

text_joined : (line : List ℕ) (on : Bool) (headers : List (List ℕ)) → text_of (joined line on headers) ≡ with_end line ++ text_of headers
text_joined line false headers = refl
text_joined line true [] = refl
text_joined line true (header ∷ headers) = simp append_assoc

text_in : (lines : List (List ℕ)) → text_of (headers_in lines) ≡ text_of lines
text_in [] = refl
text_in (line ∷ lines) = text_joined line (goes_on lines) (headers_in lines) ∙ ap (λ t. with_end line ++ t) (text_in lines)

-- what lines of a header block are: headers, behind lines that go on where such stand first
record HasFold (lines : List (List ℕ)) : Type 0 where
  fold : List ℕ
  headers : List (List ℕ)
  is : headers_in lines ≡ fold ∷ headers
  folds : IsFolded fold
  are : AreHeaders headers

record Joins (lines : List (List ℕ)) : Type 0 where
  plain : goes_on lines ≡ false → AreHeaders (headers_in lines)
  going : goes_on lines ≡ true → HasFold lines

header_first : (line : List ℕ) → belongs true line ≡ true → is_continuation line ≡ false → is_header line ≡ true
header_first line is other = ⊎_elim (λ yes. yes) (λ folds. absurd (false≢true (sym other ∙ folds))) (or_cases (is_header line) (is_continuation line) is)

joins : (lines : List (List ℕ)) → list_all (belongs true) lines ≡ true → Joins lines
joins [] h = record { plain = λ e. no_headers; going = λ e. absurd (false≢true e) }
joins (line ∷ lines) h =
    let p = and_parts (belongs true line) (list_all (belongs true) lines) h in
    let rest = joins lines p.1 in
    ⊎_elim
    (λ on.
    let has = rest.going on in
    let all : headers_in (line ∷ lines) ≡ (line ++ (crlf ++ has.fold)) ∷ has.headers = (λ i. joined line (on i) (has.is i)) in
    record {
      plain = λ e. subst AreHeaders (sym all) (one_header (line ++ (crlf ++ has.fold)) has.headers (folded line has.fold (header_first line p.0 e) has.folds) has.are);
      going = λ e. record { fold = line ++ (crlf ++ has.fold); headers = has.headers; is = all; folds = one_fold line has.fold e has.folds; are = has.are };
    })
    (λ off.
    let are = rest.plain off in
    let all : headers_in (line ∷ lines) ≡ line ∷ headers_in lines = ap (λ on. joined line on (headers_in lines)) off in
    record {
      plain = λ e. subst AreHeaders (sym all) (one_header line (headers_in lines) (unfolded line (header_first line p.0 e)) are);
      going = λ e. record { fold = line; headers = headers_in lines; is = all; folds = last_fold line e; are = are };
    })
    (cases_Bool (goes_on lines))

block_belongs : (begun : Bool) (lines : List (List ℕ)) → list_all (belongs true) (block_of begun lines) ≡ true
block_belongs begun [] = refl
block_belongs begun (line ∷ lines) =
    elim (belongs begun line) as (λ b. belongs begun line ≡ b → list_all (belongs true) (cond b (line ∷ block_of true lines) []) ≡ true)
    [ true ↦ λ is. (λ i. belongs_so begun line is i && block_belongs true lines i) | false ↦ λ is. refl ] refl
  where
    belongs_so : (begun : Bool) (line : List ℕ) → belongs begun line ≡ true → belongs true line ≡ true
    belongs_so true line is = is
    belongs_so false line is = or_left (is_header line) (is_continuation line) (⊎_elim (λ yes. yes) (λ never. absurd (false≢true never)) (or_cases (is_header line) false is))

block_starts : (lines : List (List ℕ)) → goes_on (block_of false lines) ≡ false
block_starts [] = refl
block_starts (line ∷ lines) =
    elim (belongs false line) as (λ b. belongs false line ≡ b → goes_on (cond b (line ∷ block_of true lines) []) ≡ false)
    [ true ↦ λ is. false_from_ne_true (is_continuation line) (λ folds. not_both line (⊎_elim (λ yes. yes) (λ never. absurd (false≢true never)) (or_cases (is_header line) false is)) folds) | false ↦ λ is. refl ] refl

parts_are : (begun : Bool) (lines : List (List ℕ)) → lines ≡ block_of begun lines ++ rest_of begun lines
parts_are begun [] = refl
parts_are begun (line ∷ lines) =
    elim (belongs begun line) as (λ b. line ∷ lines ≡ cond b (line ∷ block_of true lines) [] ++ cond b (rest_of true lines) (line ∷ lines))
    [ true ↦ ap (λ t. line ∷ t) (parts_are true lines) | false ↦ refl ]

text_append : (lines others : List (List ℕ)) → text_of (lines ++ others) ≡ text_of lines ++ text_of others
text_append [] others = refl
text_append (line ∷ lines) others = ap (λ t. with_end line ++ t) (text_append lines others) ∙ sym (append_assoc (with_end line) (text_of lines) (text_of others))

rest_lines : (begun : Bool) (lines : List (List ℕ)) → AreLines lines → AreLines (rest_of begun lines)
rest_lines begun _ no_lines = no_lines
rest_lines begun _ (one_line line lines is are) =
    elim (belongs begun line) as (λ b. AreLines (cond b (rest_of true lines) (line ∷ lines))) [ true ↦ rest_lines true lines are | false ↦ one_line line lines is are ]

-- the first line that doesn't belong to the block
rest_first : (begun : Bool) (lines : List (List ℕ)) (first : List ℕ) (later : List (List ℕ)) → rest_of begun lines ≡ first ∷ later → (is_header first ≡ false) × ((begun || is_some_line (block_of begun lines)) ≡ true → is_continuation first ≡ false)
rest_first begun [] first later e = absurd (cc)
rest_first begun (line ∷ lines) first later e =
    elim (belongs begun line) as (λ b. belongs begun line ≡ b → cond b (rest_of true lines) (line ∷ lines) ≡ first ∷ later → (is_header first ≡ false) × ((begun || is_some_line (cond b (line ∷ block_of true lines) [])) ≡ true → is_continuation first ≡ false)) [
      | true ↦ λ is rest. let more = rest_first true lines first later rest in (more.0, λ some. more.1 refl)
      | false ↦ λ is rest. stops begun is (first_of rest)
    ] refl e
  where
    first_of : line ∷ lines ≡ first ∷ later → line ≡ first
    first_of same = cc

    stops : (begun : Bool) → belongs begun line ≡ false → line ≡ first → (is_header first ≡ false) × ((begun || false) ≡ true → is_continuation first ≡ false)
    stops true is same = let p = or_parts (is_header line) (is_continuation line) is in (sym (ap is_header same) ∙ p.0, λ some. sym (ap is_continuation same) ∙ p.1)
    stops false is same = let p = or_parts (is_header line) false is in (sym (ap is_header same) ∙ p.0, λ some. absurd (false≢true some))

nothing_not : (line more : List ℕ) → [] ≡ line ++ (crlf ++ more) → ⊥
nothing_not [] more e = cc
nothing_not (b ∷ line) more e = cc

line_first : (first line more : List ℕ) (later : List (List ℕ)) → has_crlf first ≡ false → list_all is_plain line ≡ true → text_of (first ∷ later) ≡ line ++ (crlf ++ more) → first ≡ line
line_first first line more later none plain e = (first_crlf first line (text_of later) more none plain (sym (append_assoc first crlf (text_of later)) ∙ e)).0

some_headers : (lines : List (List ℕ)) → is_some_line (headers_in lines) ≡ true → is_some_line lines ≡ true
some_headers [] h = h
some_headers (line ∷ lines) h = refl

ends_block : (lines : List (List ℕ)) (rest : List (List ℕ)) → AreLines rest → rest_of false lines ≡ rest → EndsHeaders (headers_of lines) (text_of rest)
ends_block lines _ no_lines is line more e = absurd (nothing_not line more e)
ends_block lines _ (one_line first later none are) is line more e =
    let stop = rest_first false lines first later is in (
      false_from_ne_true (is_header line) (λ h. false≢true (sym stop.0 ∙ ap is_header (line_first first line more later none (header_plain line h) e) ∙ h)),
      λ some. false_from_ne_true (is_continuation line) (λ f. false≢true (sym (stop.1 (some_headers (block_of false lines) some)) ∙ ap is_continuation (line_first first line more later none (fold_plain line f) e) ∙ f)),
    )

body_is : (rest : List (List ℕ)) → AreLines rest → IsBody (text_of rest) (text_of (without_empty rest))
body_is _ no_lines = at_once [] (λ more e. cc)
body_is _ (one_line [] later none are) = behind_empty_line (text_of later)
body_is _ (one_line (b ∷ []) later none are) = at_once (text_of ((b ∷ []) ∷ later)) (λ more e.
    eqb-false 13 10 refl (heads 13 10 (10 ∷ text_of later) more (tails b 13 (13 ∷ 10 ∷ text_of later) (10 ∷ more) e)))
body_is _ (one_line (b ∷ c ∷ line) later none are) = at_once (text_of ((b ∷ c ∷ line) ∷ later)) (λ more e.
    let rest = (line ++ crlf) ++ text_of later in
    let first : b ≡ 13 = heads b 13 (c ∷ rest) (10 ∷ more) e in
    let second : c ≡ 10 = heads c 10 rest more (tails b 13 (c ∷ rest) (10 ∷ more) e) in
    let lone : ((b == 13) && (c == 10)) ≡ false = (or_parts ((b == 13) && (c == 10)) (has_crlf (c ∷ line)) none).0 in
    false≢true (sym lone ∙ (λ i. (first i == 13) && (second i == 10))))

-- the split of lines is that of their text
pub split_of_lines : (lines : List (List ℕ)) → AreLines lines → IsSplit (text_of lines) (record { headers = headers_of lines; body = body_of lines; block = size_of (block_of false lines) })
split_of_lines lines are =
    let block = block_of false lines in
    let rest = rest_of false lines in
    let text : text_of (headers_in block) ≡ text_of block = text_in block in
    record {
      rest = text_of rest;
      whole = ap text_of (parts_are false lines) ∙ text_append block rest ∙ ap (λ t. t ++ text_of rest) (sym text);
      are = (joins block (block_belongs false lines)).plain (block_starts lines);
      ends = ends_block lines rest (rest_lines false lines are) refl;
      body = body_is rest (rest_lines false lines are);
      block = sym (ap (λ t. length t) text ∙ ended_size block);
    }

-- ---- one split

-- no line that goes on stands first
abbrev Solid : List ℕ → Type 0
Solid text = (line more : List ℕ) → is_continuation line ≡ true → text ≡ line ++ (crlf ++ more) → ⊥

record Same (one other xs ys : List ℕ) : Type 0 where
  header : one ≡ other
  rest : xs ≡ ys

behind_line : (line more xs : List ℕ) → (line ++ (crlf ++ more)) ++ (crlf ++ xs) ≡ line ++ (crlf ++ (more ++ (crlf ++ xs)))
behind_line line more xs = append_assoc line (crlf ++ more) (crlf ++ xs)

fold_first : (others xs ys : List ℕ) → IsFolded others → xs ≡ others ++ (crlf ++ ys) → Solid xs → ⊥
fold_first _ xs ys (last_fold line a) e solid = solid line ys a e
fold_first _ xs ys (one_fold line more a later) e solid = solid line (more ++ (crlf ++ ys)) a (e ∙ behind_line line more ys)

same_folds : (one other xs ys : List ℕ) → IsFolded one → IsFolded other → Solid xs → Solid ys → one ++ (crlf ++ xs) ≡ other ++ (crlf ++ ys) → Same one other xs ys
same_folds _ _ xs ys (last_fold line a) (last_fold end b) sx sy e =
    let cut = first_crlf line end xs ys (plain_no_crlf line (fold_plain line a)) (fold_plain end b) e in record { header = cut.0; rest = cut.1 }
same_folds _ _ xs ys (last_fold line a) (one_fold end others b later) sx sy e =
    let cut = first_crlf line end xs (others ++ (crlf ++ ys)) (plain_no_crlf line (fold_plain line a)) (fold_plain end b) (e ∙ behind_line end others ys) in
    absurd (fold_first others xs ys later cut.1 sx)
same_folds _ _ xs ys (one_fold line more a later) (last_fold end b) sx sy e =
    let cut = first_crlf line end (more ++ (crlf ++ xs)) ys (plain_no_crlf line (fold_plain line a)) (fold_plain end b) (sym (behind_line line more xs) ∙ e) in
    absurd (fold_first more ys xs later (sym cut.1) sy)
same_folds _ _ xs ys (one_fold line more a later) (one_fold end others b after) sx sy e =
    let cut = first_crlf line end (more ++ (crlf ++ xs)) (others ++ (crlf ++ ys)) (plain_no_crlf line (fold_plain line a)) (fold_plain end b) (sym (behind_line line more xs) ∙ e ∙ behind_line end others ys) in
    let same = same_folds more others xs ys later after sx sy cut.1 in
    record { header = (λ i. cut.0 i ++ (crlf ++ same.header i)); rest = same.rest }

same_header : (one other xs ys : List ℕ) → IsHeaderText one → IsHeaderText other → Solid xs → Solid ys → one ++ (crlf ++ xs) ≡ other ++ (crlf ++ ys) → Same one other xs ys
same_header _ _ xs ys (unfolded line a) (unfolded end b) sx sy e =
    let cut = first_crlf line end xs ys (plain_no_crlf line (header_plain line a)) (header_plain end b) e in record { header = cut.0; rest = cut.1 }
same_header _ _ xs ys (unfolded line a) (folded end others b later) sx sy e =
    let cut = first_crlf line end xs (others ++ (crlf ++ ys)) (plain_no_crlf line (header_plain line a)) (header_plain end b) (e ∙ behind_line end others ys) in
    absurd (fold_first others xs ys later cut.1 sx)
same_header _ _ xs ys (folded line more a later) (unfolded end b) sx sy e =
    let cut = first_crlf line end (more ++ (crlf ++ xs)) ys (plain_no_crlf line (header_plain line a)) (header_plain end b) (sym (behind_line line more xs) ∙ e) in
    absurd (fold_first more ys xs later (sym cut.1) sy)
same_header _ _ xs ys (folded line more a later) (folded end others b after) sx sy e =
    let cut = first_crlf line end (more ++ (crlf ++ xs)) (others ++ (crlf ++ ys)) (plain_no_crlf line (header_plain line a)) (header_plain end b) (sym (behind_line line more xs) ∙ e ∙ behind_line end others ys) in
    let same = same_folds more others xs ys later after sx sy cut.1 in
    record { header = (λ i. cut.0 i ++ (crlf ++ same.header i)); rest = same.rest }

text_behind : (header : List ℕ) (headers : List (List ℕ)) (rest : List ℕ) → text_of (header ∷ headers) ++ rest ≡ header ++ (crlf ++ (text_of headers ++ rest))
text_behind header headers rest = append_assoc (with_end header) (text_of headers) rest ∙ append_assoc header crlf (text_of headers ++ rest)

-- a header begins with its first line
begins_header : (header rest : List ℕ) → IsHeaderText header → (line : List ℕ) × (more : List ℕ) × (is_header line ≡ true) × (header ++ (crlf ++ rest) ≡ line ++ (crlf ++ more))
begins_header _ rest (unfolded line is) = (line, rest, is, refl)
begins_header _ rest (folded line more is later) = (line, more ++ (crlf ++ rest), is, behind_line line more rest)

header_solid : (header : List ℕ) (rest : List ℕ) → IsHeaderText header → Solid (header ++ (crlf ++ rest))
header_solid header rest is line more goes e =
    let first = begins_header header rest is in
    let cut = first_crlf first.0 line first.1 more (plain_no_crlf first.0 (header_plain first.0 first.2)) (fold_plain line goes) (sym first.3 ∙ e) in
    not_both line (sym (ap is_header cut.0) ∙ first.2) goes

-- behind a header
rest_solid : (headers : List (List ℕ)) (rest : List ℕ) → AreHeaders headers → ((line more : List ℕ) → rest ≡ line ++ (crlf ++ more) → is_continuation line ≡ false) → Solid (text_of headers ++ rest)
rest_solid _ rest no_headers ends line more goes e = false≢true (sym (ends line more e) ∙ goes)
rest_solid _ rest (one_header header headers is are) ends line more goes e = header_solid header (text_of headers ++ rest) is line more goes (sym (text_behind header headers rest) ∙ e)

record SameSplit (one other : List (List ℕ)) (xs ys : List ℕ) : Type 0 where
  headers : one ≡ other
  rest : xs ≡ ys

abbrev NoHeader : List ℕ → Type 0
NoHeader rest = (line more : List ℕ) → rest ≡ line ++ (crlf ++ more) → is_header line ≡ false

abbrev NoFold : List ℕ → Type 0
NoFold rest = (line more : List ℕ) → rest ≡ line ++ (crlf ++ more) → is_continuation line ≡ false

header_never : (rest other : List ℕ) (others : List (List ℕ)) (ys : List ℕ) → NoHeader rest → IsHeaderText other → rest ≡ text_of (other ∷ others) ++ ys → ⊥
header_never rest other others ys never is e =
    let first = begins_header other (text_of others ++ ys) is in
    false≢true (sym (never first.0 first.1 (e ∙ text_behind other others ys ∙ first.3)) ∙ first.2)

same_headers : (one other : List (List ℕ)) (xs ys : List ℕ) → AreHeaders one → AreHeaders other → NoHeader xs → NoHeader ys → (is_some_line one ≡ true → NoFold xs) → (is_some_line other ≡ true → NoFold ys) → text_of one ++ xs ≡ text_of other ++ ys → SameSplit one other xs ys
same_headers _ _ xs ys no_headers no_headers nx ny fx fy e = record { headers = refl; rest = e }
same_headers _ _ xs ys no_headers (one_header other others b later) nx ny fx fy e = absurd (header_never xs other others ys nx b e)
same_headers _ _ xs ys (one_header header headers a are) no_headers nx ny fx fy e = absurd (header_never ys header headers xs ny a (sym e))
same_headers _ _ xs ys (one_header header headers a are) (one_header other others b later) nx ny fx fy e =
    let first = same_header header other (text_of headers ++ xs) (text_of others ++ ys) a b (rest_solid headers xs are (fx refl)) (rest_solid others ys later (fy refl)) (sym (text_behind header headers xs) ∙ e ∙ text_behind other others ys) in
    let next = same_headers headers others xs ys are later nx ny (λ some. fx refl) (λ some. fy refl) first.rest in
    record { headers = (λ i. first.header i ∷ next.headers i); rest = next.rest }

same_body : (rest end body other : List ℕ) → IsBody rest body → IsBody end other → rest ≡ end → body ≡ other
same_body _ _ _ _ (behind_empty_line body) (behind_empty_line other) e = tails 10 10 body other (tails 13 13 (10 ∷ body) (10 ∷ other) e)
same_body _ _ _ _ (behind_empty_line body) (at_once other never) e = absurd (never body (sym e))
same_body _ _ _ _ (at_once body never) (behind_empty_line other) e = absurd (never other e)
same_body _ _ _ _ (at_once body never) (at_once other nor) e = e

-- a message has one split
pub one_split : (message : List ℕ) (one other : Split) → IsSplit message one → IsSplit message other → one ≡ other
one_split message one other a b =
    let same = same_headers one.headers other.headers a.rest b.rest a.are b.are (λ line more e. (a.ends line more e).0) (λ line more e. (b.ends line more e).0)
    (λ some line more e. (a.ends line more e).1 some) (λ some line more e. (b.ends line more e).1 some) (sym a.whole ∙ b.whole) in
    let body = same_body a.rest b.rest one.body other.body a.body b.body same.rest in
    let block : one.block ≡ other.block = a.block ∙ ap (λ h. length (text_of h)) same.headers ∙ sym b.block in
    λ i. record { headers = same.headers i; body = body i; block = block i }
