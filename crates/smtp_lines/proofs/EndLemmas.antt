-- Where a line ends, over lists that are joined, and from what the searches tell.
use Rattle.std.proofs.Common.{◌≡◌, ℕ, zero, suc, ◌+◌, ◌-◌, ◌<◌, ◌≤◌, ◌==◌, Bool, true, false, List, [], ◌∷◌, ◌++◌, length, take, drop, get_or, slice_index, Some, None, refl, sym, ap, subst, ◌∙◌, ⊎_elim, arith, append_assoc}
use Rattle.std.proofs.lemmas.Bool.{or_parts, or_from, false_from_ne_true, and_parts, eqb-true, eq-eqb, cases_lt, false≢true}
use Rattle.std.proofs.lemmas.List.{take_more, take_all, length-take, length-drop, get_or-take, get_or-drop}
use Rattle.bstr.specs.Find.{OccursAt, NoneBefore, Passes, IsFirstByte, is_byte}
use Rattle.smtp_lines.specs.declared.line.Mode.TheVariants.{Commands, Message}
use Rattle.smtp_lines.specs.Stream.{has_end, ends_in_cr}
use Rattle.smtp_lines.specs.inner.Readings.{EndsAt}

-- ---- LF

-- two texts without LF, joined, have none
pub lf_join : (u x : List ℕ) → has_end Commands u ≡ false → has_end Commands x ≡ false → has_end Commands (u ++ x) ≡ false
lf_join [] x h k = k
lf_join (b ∷ u) x h k = let p = or_parts (b == 10) (has_end Commands u) h in or_from _ _ p.0 (lf_join u x p.1 k)

-- where a search finds no LF among so many bytes, no command line ends there
pub lf_none : (bytes : List ℕ) (n : ℕ) → ((k : ℕ) → k < n → k < length bytes → (slice_index bytes k == 10) ≡ true → ⊥) → has_end Commands (take n bytes) ≡ false
lf_none [] zero h = refl
lf_none [] (suc n) h = refl
lf_none (b ∷ bytes) zero h = refl
lf_none (b ∷ bytes) (suc n) h =
    or_from _ _ (false_from_ne_true (b == 10) (h 0 (omega arith) (omega arith)))
    (lf_none bytes n (λ k lt within is. h (suc k) (omega arith) (omega arith) is))

-- a command line ends behind the first LF
pub command_ends : (begun bytes : List ℕ) (place : ℕ) → has_end Commands begun ≡ false
    → ((k : ℕ) → k < place → (slice_index bytes k == 10) ≡ true → ⊥) → place < length bytes → (slice_index bytes place == 10) ≡ true
    → EndsAt Commands begun bytes (place + 1)
command_ends begun bytes place none before within here = record {
  content = begun ++ take place bytes;
  whole =
      ap (λ x. begun ++ x) (take_more bytes place 0 within)
      ∙ ap (λ b. begun ++ (take place bytes ++ b ∷ [])) (eqb-true (slice_index bytes place) 10 here)
      ∙ sym (append_assoc begun (take place bytes) (10 ∷ []));
  none = lf_join begun _ none (lf_none bytes place (λ k lt in_bytes is. before k lt is));
}

-- ---- CR LF

-- no CR stands before an LF
abbrev pub NoCrlf : List ℕ → Type 0
NoCrlf bytes = (k : ℕ) → suc k < length bytes → get_or bytes k 0 ≡ 13 → get_or bytes (suc k) 0 ≡ 10 → ⊥

crlf_none : (bytes : List ℕ) → NoCrlf bytes → has_end Message bytes ≡ false
crlf_none [] h = refl
crlf_none (b ∷ []) h = refl
crlf_none (b ∷ c ∷ bytes) h =
    or_from _ _
    (false_from_ne_true _ (λ both. let p = and_parts (b == 13) (c == 10) both in h 0 (omega arith) (eqb-true b 13 p.0) (eqb-true c 10 p.1)))
    (crlf_none (c ∷ bytes) (λ k lt. h (suc k) (omega arith)))

abbrev pub begins_in_lf : List ℕ → Bool
begins_in_lf bytes = slice_index bytes 0 == 10

ends_in_cr-more : (b c : ℕ) (u : List ℕ) → ends_in_cr (b ∷ c ∷ u) ≡ ends_in_cr (c ∷ u)
ends_in_cr-more b c u =
    let p : suc (suc (length u)) - 1 ≡ suc (length u) = omega arith in
    let q : suc (length u) - 1 ≡ length u = omega arith in
    ap (λ n. get_or (b ∷ c ∷ u) n 0 == 13) p ∙ sym (ap (λ n. get_or (c ∷ u) n 0 == 13) q)

-- two texts without CR LF have none, joined, unless it stands across the seam
pub crlf_join : (u x : List ℕ) → has_end Message u ≡ false → has_end Message x ≡ false → (ends_in_cr u ≡ true → begins_in_lf x ≡ true → ⊥) → has_end Message (u ++ x) ≡ false
crlf_join [] x h k seam = k
crlf_join (b ∷ []) [] h k seam = refl
crlf_join (b ∷ []) (c ∷ x) h k seam =
    or_from _ _ (false_from_ne_true _ (λ both. let p = and_parts (b == 13) (c == 10) both in seam p.0 p.1)) k
crlf_join (b ∷ c ∷ u) x h k seam =
    let p = or_parts _ _ h in
    or_from _ _ p.0 (crlf_join (c ∷ u) x p.1 k (λ cr. seam (ends_in_cr-more b c u ∙ cr)))

crlf_front : (u x : List ℕ) → has_end Message (u ++ x) ≡ false → has_end Message u ≡ false
crlf_front [] x h = refl
crlf_front (b ∷ []) x h = refl
crlf_front (b ∷ c ∷ u) x h = let p = or_parts _ _ h in or_from _ _ p.0 (crlf_front (c ∷ u) x p.1)

-- where no LF stands, no CR LF does
pub crlf_from_lf : (u : List ℕ) → has_end Commands u ≡ false → has_end Message u ≡ false
crlf_from_lf [] h = refl
crlf_from_lf (b ∷ []) h = refl
crlf_from_lf (b ∷ c ∷ u) h =
    let p = or_parts (b == 10) _ h in
    let q = or_parts (c == 10) (has_end Commands u) p.1 in
    or_from _ _ (false_from_ne_true _ (λ both. false≢true (sym q.0 ∙ (and_parts (b == 13) (c == 10) both).1)))
    (crlf_from_lf (c ∷ u) p.1)

begins_in_lf-take : (n : ℕ) (bytes : List ℕ) → begins_in_lf (take n bytes) ≡ true → begins_in_lf bytes ≡ true
begins_in_lf-take zero [] h = h
begins_in_lf-take zero (b ∷ bytes) h = absurd (false≢true h)
begins_in_lf-take (suc n) [] h = h
begins_in_lf-take (suc n) (b ∷ bytes) h = h

reads_crlf : (hay : List ℕ) (k : ℕ) → get_or hay k 0 ≡ 13 → get_or hay (suc k) 0 ≡ 10 → (j : ℕ) → j < 2 → slice_index hay (k + j) ≡ slice_index (13 ∷ 10 ∷ []) j
reads_crlf hay k cr lf zero lt = let e : k + 0 ≡ k = omega arith in ap (λ n. get_or hay n 0) e ∙ cr
reads_crlf hay k cr lf (suc zero) lt = let e : k + 1 ≡ suc k = omega arith in ap (λ n. get_or hay n 0) e ∙ lf
reads_crlf hay k cr lf (suc (suc j)) lt = absurd (omega arith)

occurs : (hay : List ℕ) (k : ℕ) → suc k < length hay → get_or hay k 0 ≡ 13 → get_or hay (suc k) 0 ≡ 10 → OccursAt hay (13 ∷ 10 ∷ []) k
occurs hay k lt cr lf = record { fits = omega arith; reads = reads_crlf hay k cr lf }

-- where a search finds no CR LF among so many bytes, no line of a message ends there
pub crlf_before : (bytes : List ℕ) (n : ℕ) → ((k : ℕ) → k < n → k < length bytes → OccursAt bytes (13 ∷ 10 ∷ []) k → ⊥) → has_end Message (take n bytes) ≡ false
crlf_before bytes n h =
    crlf_none (take n bytes)
    (λ k lt cr lf.
    let len = length-take n bytes in
    let below : suc k < n = omega arith in
    let within : suc k < length bytes = omega arith in
    let lower : k < n = omega arith in
    h k lower (omega arith)
    (occurs bytes k within (sym (get_or-take n bytes k 0 lower) ∙ cr) (sym (get_or-take n bytes (suc k) 0 below) ∙ lf)))

-- a line of a message ends behind the first CR LF
pub message_ends : (begun bytes : List ℕ) (place : ℕ) → has_end Message begun ≡ false → (ends_in_cr begun ≡ true → begins_in_lf bytes ≡ true → ⊥)
    → ((k : ℕ) → k < place → OccursAt bytes (13 ∷ 10 ∷ []) k → ⊥) → OccursAt bytes (13 ∷ 10 ∷ []) place
    → EndsAt Message begun bytes (place + 2)
message_ends begun bytes place none seam before here =
    let fits = here.fits in
    let first : place < length bytes = omega arith in
    let second : place + 1 < length bytes = omega arith in
    let zeroth : place + 0 ≡ place = omega arith in
    let cr : get_or bytes place 0 ≡ 13 = sym (ap (λ n. get_or bytes n 0) zeroth) ∙ here.reads 0 (omega arith) in
    let lf : get_or bytes (place + 1) 0 ≡ 10 = here.reads 1 (omega arith) in
    let two : place + 2 ≡ place + 1 + 1 = omega arith in
    record {
      content = begun ++ take place bytes;
      whole =
          ap (λ n. begun ++ take n bytes) two
          ∙ ap (λ x. begun ++ x) (take_more bytes (place + 1) 0 second)
          ∙ ap (λ x. begun ++ (x ++ get_or bytes (place + 1) 0 ∷ [])) (take_more bytes place 0 first)
          ∙ ap (λ b. begun ++ ((take place bytes ++ b ∷ []) ++ get_or bytes (place + 1) 0 ∷ [])) cr
          ∙ ap (λ b. begun ++ ((take place bytes ++ 13 ∷ []) ++ b ∷ [])) lf
          ∙ ap (λ x. begun ++ x) (append_assoc (take place bytes) (13 ∷ []) (10 ∷ []))
          ∙ sym (append_assoc begun (take place bytes) (13 ∷ 10 ∷ []));
      none =
          crlf_join begun _ none (crlf_before bytes place (λ k lt within is. before k lt is))
          (λ yes is. seam yes (begins_in_lf-take place bytes is));
    }

cr_last : (u : List ℕ) → ends_in_cr u ≡ true → u ≡ take (length u - 1) u ++ 13 ∷ []
cr_last [] h = absurd (false≢true h)
cr_last (b ∷ u) h =
    let n = length u in
    let less : suc n - 1 < suc n = omega arith in
    let more : suc n - 1 + 1 ≡ suc n = omega arith in
    sym (take_all (suc n) (b ∷ u) (omega arith)) ∙ sym (ap (λ m. take m (b ∷ u)) more)
    ∙ take_more (b ∷ u) (suc n - 1) 0 less ∙ ap (λ c. take (suc n - 1) (b ∷ u) ++ c ∷ []) (eqb-true _ 13 h)

-- a line of a message whose CR came before ends behind an LF at the front
pub split_ends : (begun bytes : List ℕ) → has_end Message begun ≡ false → ends_in_cr begun ≡ true → 0 < length bytes → begins_in_lf bytes ≡ true → EndsAt Message begun bytes 1
split_ends begun [] none cr some lf = absurd (omega arith)
split_ends begun (b ∷ bytes) none cr some lf =
    let e = cr_last begun cr in
    record {
      content = take (length begun - 1) begun;
      whole = ap (λ c. begun ++ c ∷ []) (eqb-true b 10 lf) ∙ ap (λ x. x ++ 10 ∷ []) e ∙ append_assoc (take (length begun - 1) begun) (13 ∷ []) (10 ∷ []);
      none = crlf_front (take (length begun - 1) begun) (13 ∷ []) (subst (λ x. has_end Message x ≡ false) e none);
    }

-- ---- a search for CR LF by its LF

-- no CR LF has its LF before a place
abbrev pub NoneUpTo : List ℕ → ℕ → Type 0
NoneUpTo bytes from = (k : ℕ) → k + 1 < from → OccursAt bytes (13 ∷ 10 ∷ []) k → ⊥

cr_of : (bytes : List ℕ) (k : ℕ) → OccursAt bytes (13 ∷ 10 ∷ []) k → get_or bytes k 0 ≡ 13
cr_of bytes k here = let e : k + 0 ≡ k = omega arith in sym (ap (λ n. get_or bytes n 0) e) ∙ here.reads 0 (omega arith)

-- nor before a later one, where no LF stands between
skipped : (bytes : List ℕ) (from n : ℕ) → NoneUpTo bytes from
    → ((j : ℕ) → 0 ≤ j → j < n → Passes (is_byte 10) (drop from bytes) j → ⊥) → NoneUpTo bytes (from + n)
skipped bytes from n none no_lf k lt here =
    ⊎_elim (λ low. none k low here)
    (λ high.
    let j = k + 1 - from in
    let at : from + j ≡ k + 1 = omega (arith, high) in
    let lf : get_or (drop from bytes) j 0 ≡ 10 = get_or-drop from bytes j 0 ∙ ap (λ n. get_or bytes n 0) at ∙ here.reads 1 (omega arith) in
    no_lf j (omega arith) (omega (arith, high, lt)) (eq-eqb (get_or (drop from bytes) j 0) 10 lf))
    (cases_lt (k + 1) from)

pub none_yet : (bytes : List ℕ) → NoneUpTo bytes 0
none_yet bytes k lt here = absurd (omega (arith, lt))

-- the first LF from there on ends the first CR LF, where a CR stands before it
pub found_by_lf : (bytes : List ℕ) (from place : ℕ) → NoneUpTo bytes from → IsFirstByte (is_byte 10) (drop from bytes) (Some place)
    → 0 < from + place → get_or bytes (from + place - 1) 0 ≡ 13
    → NoneBefore (OccursAt bytes (13 ∷ 10 ∷ [])) 0 (length bytes + 1) (from + place - 1) × OccursAt bytes (13 ∷ 10 ∷ []) (from + place - 1)
found_by_lf bytes from place none found some cr =
    let high = found.0.high in
    let len = length-drop from bytes in
    let next : suc (from + place - 1) ≡ from + place = omega (arith, some) in
    let lf : get_or bytes (from + place) 0 ≡ 10 = sym (get_or-drop from bytes place 0) ∙ eqb-true (get_or (drop from bytes) place 0) 10 found.1 in (
      record {
        low = omega arith;
        high = omega (arith, high, len);
        before = λ k low lt here. skipped bytes from place none found.0.before k (omega (arith, lt)) here;
      },
      occurs bytes (from + place - 1) (omega (arith, high, len, next)) cr (ap (λ n. get_or bytes n 0) next ∙ lf),
    )

-- it ends none where no CR does
pub passed_lf : (bytes : List ℕ) (from place : ℕ) → NoneUpTo bytes from → IsFirstByte (is_byte 10) (drop from bytes) (Some place)
    → (0 < from + place → get_or bytes (from + place - 1) 0 ≡ 13 → ⊥) → NoneUpTo bytes (from + place + 1)
passed_lf bytes from place none found other k lt here =
    ⊎_elim (λ low. skipped bytes from place none found.0.before k low here)
    (λ high.
    let at : from + place - 1 ≡ k = omega (arith, high, lt) in
    other (omega (arith, high)) (ap (λ n. get_or bytes n 0) at ∙ cr_of bytes k here))
    (cases_lt (k + 1) (from + place))

-- without an LF there is none
pub none_by_lf : (bytes : List ℕ) (from : ℕ) → NoneUpTo bytes from → IsFirstByte (is_byte 10) (drop from bytes) None
    → (k : ℕ) → OccursAt bytes (13 ∷ 10 ∷ []) k → ⊥
none_by_lf bytes from none nowhere k here =
    let fits = here.fits in
    let len = length-drop from bytes in
    skipped bytes from (length (drop from bytes)) none nowhere k (omega (arith, fits, len)) here
