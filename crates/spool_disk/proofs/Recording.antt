-- A record that grows by a call is a call of the trait.
use Rattle.std.proofs.Common.{◌≡◌, inl, inr, ⊎_elim, ℕ, ◌≤◌, ◌<◌, List, [], ◌∷◌, ◌++◌, length, take, drop, true, false, true≢false, refl, sym, ◌∙◌, ap, subst, arith, length-drop}
use Rattle.std.specs.Prelude.{◌⊎◌, Result, Ok, Err, IsOk, is_ok}
use Rattle.std.proofs.lemmas.List.{take_all, take-append-le, drop-append-le, drop_all, length_push}
use Rattle.std.proofs.lemmas.Bool.{cases_lt}
use Rattle.spool_disk.specs.declared.attempt.Attempt.{Attempt}
use Rattle.spool_disk.specs.Disk.{FileMap, IsImage, IsDone}
use Rattle.spool_disk.specs.Changes.{after, past_with, after_attempt, after_all, IsLeftIn, IsLeft, record_seen}
use Rattle.spool_disk.specs.Spooled.{Calls}
use Rattle.spool_disk.proofs.Placing.{still_image, image_of_done}
use Rattle.mail_base.specs.declared.fault.Failed.{Failed}
use Rattle.spool_disk.specs.declared.change.Change.{Change}

-- a call more
pub after_more : (past : List Attempt) (attempt : Attempt) (files : FileMap) → after_all (past ++ attempt ∷ []) files ≡ after_attempt attempt (after_all past files)
after_more [] attempt files = refl
after_more (a ∷ past) attempt files = after_more past attempt (after_attempt a files)

left_more : (rest : List Attempt) (attempt : Attempt) (files c : FileMap) → IsLeftIn rest files c → IsLeftIn (rest ++ attempt ∷ []) files c
left_more [] attempt files c h = subst (IsImage attempt.change files) (sym h) (still_image attempt.change files)
left_more (a ∷ rest) attempt files c h = h

left_less : (rest : List Attempt) (attempt : Attempt) (files c : FileMap) → IsLeftIn (rest ++ attempt ∷ []) files c → IsLeftIn rest files c ⊎ ((rest ≡ []) × IsImage attempt.change files c)
left_less [] attempt files c h = inr (refl, h)
left_less (a ∷ rest) attempt files c h = inl h

-- what was left stays so
kept_more : (start : FileMap) (past : List Attempt) (attempt : Attempt) (t : ℕ) (c : FileMap) → IsLeft start past t c → IsLeft start (past ++ attempt ∷ []) t c
kept_more start past attempt t c h = record {
  calls = h.calls;
  not_before = h.not_before;
  not_after = omega (arith, h.not_after, length_push past attempt);
  is = rw (drop-append-le h.calls past (attempt ∷ []) h.not_after, take-append-le h.calls past (attempt ∷ []) h.not_after) (left_more (drop h.calls past) attempt (after_all (take h.calls past) start) c h.is);
}

-- what is new is an image of the call
images_within : (start : FileMap) (past : List Attempt) (attempt : Attempt) (t : ℕ) (c : FileMap) → (h : IsLeft start (past ++ attempt ∷ []) t c) → h.calls ≤ length past → IsLeft start past t c ⊎ IsImage attempt.change (after_all past start) c
images_within start past attempt t c h le =
    let is : IsLeftIn (drop h.calls past ++ attempt ∷ []) (after_all (take h.calls past) start) c = rw (drop-append-le h.calls past (attempt ∷ []) le, take-append-le h.calls past (attempt ∷ []) le) at h.is in
    ⊎_elim
    (λ old. inl (record { calls = h.calls; not_before = h.not_before; not_after = le; is = old }))
    (λ new. let none : length past ≤ h.calls = omega (arith, length-drop h.calls past, ap length new.0) in
    inr (subst (λ q. IsImage attempt.change (after_all q start) c) (take_all h.calls past none) new.1))
    (left_less (drop h.calls past) attempt (after_all (take h.calls past) start) c is)

images_after : (start : FileMap) (past : List Attempt) (attempt : Attempt) (t : ℕ) (c : FileMap) → (h : IsLeft start (past ++ attempt ∷ []) t c) → length past < h.calls → IsImage attempt.change (after_all past start) (after_attempt attempt (after_all past start)) → IsImage attempt.change (after_all past start) c
images_after start past attempt t c h lt image =
    let all : length (past ++ attempt ∷ []) ≤ h.calls = omega (arith, length_push past attempt, lt) in
    let is : c ≡ after_all (past ++ attempt ∷ []) start = rw (drop_all h.calls (past ++ attempt ∷ []) all, take_all h.calls (past ++ attempt ∷ []) all) at h.is in
    subst (IsImage attempt.change (after_all past start)) (sym (is ∙ after_more past attempt start)) image

images_more : (start : FileMap) (past : List Attempt) (attempt : Attempt) (t : ℕ) (c : FileMap) → IsImage attempt.change (after_all past start) (after_attempt attempt (after_all past start)) → IsLeft start (past ++ attempt ∷ []) t c → IsLeft start past t c ⊎ IsImage attempt.change (after_all past start) c
images_more start past attempt t c image h =
    ⊎_elim (λ lt. inr (images_after start past attempt t c h lt image)) (λ le. images_within start past attempt t c h le) (cases_lt (length past) h.calls)

-- a call that is recorded, done or not
pub calls_recorded : (start : FileMap) (past : List Attempt) (attempt : Attempt) (before now : ℕ) (well : Type 0) → IsImage attempt.change (after_all past start) (after_attempt attempt (after_all past start)) → (well → IsDone attempt.change (after_all past start) (after_attempt attempt (after_all past start))) → Calls (record_seen start past before) (record_seen start (past ++ attempt ∷ []) now) (IsImage attempt.change) (IsDone attempt.change) well
calls_recorded start past attempt before now well image done =
    let is = after_more past attempt start in record {
      later = omega (arith, length_push past attempt);
      now = (subst (IsImage attempt.change (after_all past start)) (sym is) image, λ w. subst (IsDone attempt.change (after_all past start)) (sym is) (done w));
      images = λ files e t c le left. let same : after_all past start ≡ files = cc e in ⊎_elim (λ old. inl old) (λ new. inr (subst (λ q. IsImage attempt.change q c) same new)) (images_more start past attempt t c image left);
      kept = λ t c h. kept_more start past attempt t c h;
    }

-- a call that does nothing, and is not recorded
pub calls_nothing : (start : FileMap) (past : List Attempt) (before now : ℕ) (Image Done : FileMap → FileMap → Type 0) (well : Type 0) → Image (after_all past start) (after_all past start) → (well → Done (after_all past start) (after_all past start)) → Calls (record_seen start past before) (record_seen start past now) Image Done well
calls_nothing start past before now Image Done well image done = record {
  later = omega arith;
  now = (image, done);
  images = λ files e t c le left. inl left;
  kept = λ t c h. h;
}

-- a call that went well, or that failed and did nothing
pub calls_made : (start later : FileMap) (past new : List Attempt) (change : Change) (before now : ℕ) (result : Result (Unit {0}) Failed) → later ≡ start → new ≡ past_with past change (is_ok result) → IsDone change (after_all past start) (after change (after_all past start)) → Calls (record_seen start past before) (record_seen later new now) (IsImage change) (IsDone change) (IsOk result)
calls_made start later past new change before now (Ok x) s p done =
    subst (λ q. Calls (record_seen start past before) (record_seen q new now) (IsImage change) (IsDone change) (true ≡ true)) (sym s)
    (subst (λ q. Calls (record_seen start past before) (record_seen start q now) (IsImage change) (IsDone change) (true ≡ true)) (sym p)
    (calls_recorded start past (record { change = change; done = true }) before now (true ≡ true) (image_of_done change (after_all past start) (after change (after_all past start)) done) (λ w. done)))
calls_made start later past new change before now (Err e) s p done =
    subst (λ q. Calls (record_seen start past before) (record_seen q new now) (IsImage change) (IsDone change) (false ≡ true)) (sym s)
    (subst (λ q. Calls (record_seen start past before) (record_seen start q now) (IsImage change) (IsDone change) (false ≡ true)) (sym p)
    (calls_nothing start past before now (IsImage change) (IsDone change) (false ≡ true) (still_image change (after_all past start)) (λ w. absurd (true≢false (sym w)))))
