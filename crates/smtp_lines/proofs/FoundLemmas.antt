-- What a search found, in the words of paths.
use Rattle.std.proofs.Common.{◌≡◌, ℕ, ◌+◌, ◌-◌, ◌<◌, ◌==◌, not, ◌&&◌, cond, List, length, take, drop, Some, None, sym, ap, ◌∙◌, arith, nat_lt, slice_index}
use Rattle.std.specs.List.{position_or_len}
use Rattle.std.proofs.lemmas.Bool.{and_from, and_right, cond-true, cond-false, ne_eqb, eq-eqb, lt-ltb, le-ltb}
use Rattle.bstr.specs.Find.{IsFirstByte, IsLastByte, is_byte}
use Rattle.smtp_lines.specs.Paths.{is_colon, has_route, without_route, is_at, last_at_end, local_part}
use Rattle.mail_base.proofs.SearchLemmas.{front_some, front_none, back_some, back_none, byte_found}

colon_at : (path : List ℕ) (k : ℕ) → IsFirstByte (is_byte 58) path (Some k) → position_or_len is_colon path ≡ k
colon_at path k found = front_some (is_byte 58) (λ b. not (is_colon b)) (byte_found 58) path k found

-- a path without a colon has no route
pub no_colon : (path : List ℕ) → IsFirstByte (is_byte 58) path None → path ≡ without_route path
no_colon path none =
    let over : position_or_len is_colon path ≡ length path = front_none (is_byte 58) (λ b. not (is_colon b)) (byte_found 58) path none in
    sym (cond-false (has_route path (position_or_len is_colon path)) _ path
    (and_right (slice_index path 0 == 64) _ (ap (λ n. nat_lt n (length path)) over ∙ le-ltb (length path) (length path) (omega arith))))

-- a path that doesn't begin with @ has no route
pub no_route : (path : List ℕ) → (slice_index path 0 ≡ 64 → ⊥) → path ≡ without_route path
no_route path first =
    sym (cond-false (has_route path (position_or_len is_colon path)) _ path
    (ap (λ b. b && nat_lt (position_or_len is_colon path) (length path)) (ne_eqb (slice_index path 0) 64 first)))

-- where a path begins with @, what stands behind the first colon is the path without its route
pub after_route : (path : List ℕ) (k : ℕ) → IsFirstByte (is_byte 58) path (Some k) → slice_index path 0 ≡ 64 → drop (k + 1) path ≡ without_route path
after_route path k found first =
    let at = colon_at path k found in
    let low : k < length path = found.0.high in
    sym (cond-true (has_route path (position_or_len is_colon path)) (drop (position_or_len is_colon path + 1) path) path
    (and_from (slice_index path 0 == 64) _ (eq-eqb (slice_index path 0) 64 first) (ap (λ n. nat_lt n (length path)) at ∙ lt-ltb k (length path) low))
    ∙ ap (λ n. drop (n + 1) path) at)

-- the local part of a path is what stands before the last @
pub before_at : (path : List ℕ) (k : ℕ) → IsLastByte (is_byte 64) path (Some k) → take k path ≡ local_part path
before_at path k found =
    let low : k < length path = found.0.high in
    let back = back_some (is_byte 64) (λ b. not (is_at b)) (λ b. byte_found 64 b) path k found in
    let at : last_at_end path ≡ k + 1 = omega (arith, back) in
    let less : last_at_end path - 1 ≡ k = omega (arith, at) in
    sym (cond-false (last_at_end path == 0) path (take (last_at_end path - 1) path) (ne_eqb (last_at_end path) 0 (λ e. absurd (omega (arith, e, at)))) ∙ ap (λ n. take n path) less)

-- a path without @ is a local part
pub no_at : (path : List ℕ) → IsLastByte (is_byte 64) path None → path ≡ local_part path
no_at path none =
    let at : last_at_end path ≡ 0 = omega (arith, back_none (is_byte 64) (λ b. not (is_at b)) (λ b. byte_found 64 b) path none) in
    sym (ap (λ n. cond (n == 0) path (take (n - 1) path)) at)
