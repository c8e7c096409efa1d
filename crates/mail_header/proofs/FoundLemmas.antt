-- What a search found, in the words of headers.
use Rattle.std.proofs.Common.{◌≡◌, ℕ, zero, suc, [], ◌∷◌, ◌+◌, ◌<◌, ◌≤◌, ◌==◌, Bool, true, false, ◌&&◌, List, length, take, get_or, Some, None, refl, sym, ap, ◌∙◌, arith, nat_lt, slice_index, ⊎_elim}
use Rattle.std.specs.List.{list_all, prefix_len}
use Rattle.std.proofs.lemmas.Bool.{false≢true, and_from, and_right, cond-true, cond-false, cases_Bool, cases_lt, false_from_ne_true, eqb-true, lt-ltb, le-ltb}
use Rattle.std.proofs.lemmas.List.{get_or-take, length-take}
use Rattle.std.proofs.lemmas.List.Folds.{list_all_at}
use Rattle.std.proofs.lemmas.List.Sums.{prefix_len_is}
use Rattle.bstr.specs.Find.{IsFirstByte, is_byte}
use Rattle.mail_header.specs.Headers.{is_name_byte, is_plain, is_header_by, is_header}

-- the bytes of a name stand before its colon
name_bytes : (line : List ℕ) (k : ℕ) → k < length line → list_all is_name_byte (take k line) ≡ true → (j : ℕ) → j < k → is_name_byte (get_or line j 0) ≡ true
name_bytes line k low named j lt =
    ⊎_elim (λ yes. yes)
    (λ no. absurd (false≢true (sym (list_all_at is_name_byte (take k line) j 0 (omega (arith, length-take k line)) (ap is_name_byte (get_or-take k line j 0 lt) ∙ no)) ∙ named)))
    (cases_Bool (is_name_byte (get_or line j 0)))

name_ends : (b : ℕ) → b == 58 ≡ true → is_name_byte b ≡ false
name_ends b is = ap is_name_byte (eqb-true b 58 is)

-- a name of other bytes ends before the colon
all_named : (line : List ℕ) (k : ℕ) → k ≤ prefix_len is_name_byte line → list_all is_name_byte (take k line) ≡ true
all_named line zero le = refl
all_named [] (suc k) le = refl
all_named (b ∷ line) (suc k) le =
    ⊎_elim
    (λ yes. and_from (is_name_byte b) _ yes (all_named line k (omega (arith, cond-true (is_name_byte b) (1 + prefix_len is_name_byte line) 0 yes))))
    (λ no. absurd (omega (arith, cond-false (is_name_byte b) (1 + prefix_len is_name_byte line) 0 no)))
    (cases_Bool (is_name_byte b))

and_true : (b : Bool) → (b && true) ≡ b
and_true true = refl
and_true false = refl

name_short : (line : List ℕ) (k : ℕ) → k < length line → list_all is_name_byte (take k line) ≡ false → prefix_len is_name_byte line < k
name_short line k low named =
    ⊎_elim (λ less. less)
    (λ (le : k ≤ prefix_len is_name_byte line). absurd (false≢true (sym named ∙ all_named line k le)))
    (cases_lt (prefix_len is_name_byte line) k)

header_named : (line : List ℕ) (k : ℕ) → IsFirstByte (is_byte 58) line (Some k) → list_all is_name_byte (take k line) ≡ true → (nat_lt 0 k && list_all is_plain line) ≡ is_header line
header_named line k found named =
    let low : k < length line = found.0.high in
    let at : prefix_len is_name_byte line ≡ k = prefix_len_is is_name_byte line k 0 (omega arith) (name_bytes line k low named) (λ lt. name_ends _ found.1) in
    sym (ap (is_header_by line) at
    ∙ ap (λ b. (nat_lt 0 k && b) && (slice_index line k == 58 && list_all is_plain line)) (lt-ltb k (length line) low)
    ∙ ap (λ b. (nat_lt 0 k && true) && (b && list_all is_plain line)) found.1
    ∙ ap (λ b. b && list_all is_plain line) (and_true (nat_lt 0 k)))

header_unnamed : (line : List ℕ) (k : ℕ) → IsFirstByte (is_byte 58) line (Some k) → list_all is_name_byte (take k line) ≡ false → is_header line ≡ false
header_unnamed line k found named =
    let low : k < length line = found.0.high in
    let n = prefix_len is_name_byte line in
    let less : n < k = name_short line k low named in
    and_right (nat_lt 0 n && nat_lt n (length line)) _ (ap (λ b. b && list_all is_plain line) (false_from_ne_true (slice_index line n == 58) (λ is. found.0.before n (omega arith) less is)))

-- a line with its first colon at k is a header if a name stands before it and no bad byte is there
pub header_at : (line : List ℕ) (k : ℕ) → IsFirstByte (is_byte 58) line (Some k) → ((nat_lt 0 k && list_all is_name_byte (take k line)) && list_all is_plain line) ≡ is_header line
header_at line k found =
    let by : Bool → Bool = λ named. (nat_lt 0 k && named) && list_all is_plain line in
    ⊎_elim
    (λ yes. ap by yes ∙ ap (λ b. b && list_all is_plain line) (and_true (nat_lt 0 k)) ∙ header_named line k found yes)
    (λ no. ap by no ∙ ap (λ b. b && list_all is_plain line) (and_right (nat_lt 0 k) false refl) ∙ sym (header_unnamed line k found no))
    (cases_Bool (list_all is_name_byte (take k line)))

-- a line without a colon is no header
pub header_none : (line : List ℕ) → IsFirstByte (is_byte 58) line None → false ≡ is_header line
header_none line none =
    let n = prefix_len is_name_byte line in
    sym (⊎_elim
    (λ less. and_right (nat_lt 0 n && nat_lt n (length line)) _ (ap (λ b. b && list_all is_plain line) (false_from_ne_true (slice_index line n == 58) (λ is. none n (omega arith) less is))))
    (λ over. ap (λ b. b && (slice_index line n == 58 && list_all is_plain line)) (and_right (nat_lt 0 n) _ (le-ltb n (length line) over)))
    (cases_lt n (length line)))
