-- What the stop of a spool in memory leaves.
use Rattle.std.proofs.Common.{◌≡◌, ℕ, true, false, Bool, List, [], ◌∷◌, Option, Some, None, true≢false, refl, sym, subst, All, length, take}
use Rattle.std.specs.Prelude.{◌/◌}
use Rattle.std.specs.Prelude.{map, Result, Ok, Err, IfOk}
use Rattle.mail_base.specs.declared.fault.NoMemory.{NoMemory}
use Rattle.std.proofs.lemmas.List.Elements.{All-cons, All-nil}
use Rattle.spool_disk.specs.declared.change.Change.{Change}
use Rattle.spool_disk.specs.declared.change.Change.TheVariants.{Write, Rename, Remove}
use Rattle.spool_disk.specs.declared.attempt.Attempt.{Attempt}
use Rattle.spool_disk.specs.Memory.{Memory}
use Rattle.spool_disk.specs.Disk.{FileMap, IsImage, IsDone}
use Rattle.spool_disk.specs.Changes.{after, after_all, record_seen}
use Rattle.spool_disk.specs.Spooled.{Calls}
use Rattle.spool_disk.specs.Stops.{MayLeave, fresh, left_maps, past_after}
use Rattle.spool_disk.proofs.Placing.{has_written, has_removed, still_image, image_after}
use Rattle.spool_disk.proofs.Recording.{calls_recorded, calls_nothing}

-- a spool that begins with files that may be left
abbrev Leaves : Option Change → FileMap → Memory → Type 0
Leaves call files spool = MayLeave call files spool.start

none : (call : Option Change) (files : FileMap) → All (Leaves call files) []
none call files = All-nil (Leaves call files)

more : (call : Option Change) (files first : FileMap) (rest : List FileMap) → MayLeave call files first → All (Leaves call files) (map fresh rest) → All (Leaves call files) (map fresh (first ∷ rest))
more call files first rest h k = All-cons (Leaves call files) (fresh first) (map fresh rest) h k

both : (change : Change) (files : FileMap) → All (Leaves (Some change) files) (map fresh (files ∷ after change files ∷ []))
both change files =
    let call : Option Change = Some change in
    more call files files (after change files ∷ []) (still_image change files) (more call files (after change files) [] (image_after change files) (none call files))

-- each of the maps that are named may be left
each_may_be : (call : Option Change) (files : FileMap) → All (Leaves call files) (map fresh (left_maps call files))
each_may_be None files = more None files files [] refl (none None files)
each_may_be (Some (Write dir name bytes)) files =
    let call : Option Change = Some (Write dir name bytes) in
    let half : List ℕ = take (length bytes / 2) bytes in
    let written : List ℕ → FileMap = λ part. after (Write dir name part) files in
    more call files (after (Remove dir name) files) (written [] ∷ written half ∷ written bytes ∷ []) (has_removed dir name files).others
    (more call files (written []) (written half ∷ written bytes ∷ []) (has_written dir name [] files).others
    (more call files (written half) (written bytes ∷ []) (has_written dir name half files).others
    (more call files (written bytes) [] (has_written dir name bytes files).others (none call files))))
each_may_be (Some (Rename dir from to)) files = both (Rename dir from to) files
each_may_be (Some (Remove dir name)) files = both (Remove dir name) files

each_made : (call : Option Change) (files : FileMap) (result : Result (List Memory) NoMemory) → IfOk result (λ spools. spools ≡ map fresh (left_maps call files)) → IfOk result (λ spools. All (Leaves call files) spools)
each_made call files (Ok spools) h = subst (All (Leaves call files)) (sym h) (each_may_be call files)
each_made call files (Err e) h = tt

-- each of the spools that are handed out may be left
pub each_of : (call named : Option Change) (files copied : FileMap) (result : Result (List Memory) NoMemory) → named ≡ call → copied ≡ files → IfOk result (λ spools. spools ≡ map fresh (left_maps named copied)) → IfOk result (λ spools. All (λ spool. MayLeave call files spool.start) spools)
each_of call named files copied result n e h =
    each_made call files result (subst (λ q. IfOk result (λ spools. spools ≡ map fresh (left_maps call q))) e (subst (λ q. IfOk result (λ spools. spools ≡ map fresh (left_maps q copied))) n h))

-- a call that was cut short, or that failed and did nothing
pub calls_cut : (start later : FileMap) (past new : List Attempt) (change : Change) (cut : Bool) (before now : ℕ) → later ≡ start → new ≡ past_after past change false cut → Calls (record_seen start past before) (record_seen later new now) (IsImage change) (IsDone change) (false ≡ true)
calls_cut start later past new change true before now s p =
    subst (λ q. Calls (record_seen start past before) (record_seen q new now) (IsImage change) (IsDone change) (false ≡ true)) (sym s)
    (subst (λ q. Calls (record_seen start past before) (record_seen start q now) (IsImage change) (IsDone change) (false ≡ true)) (sym p)
    (calls_recorded start past (record { change = change; done = false }) before now (false ≡ true) (still_image change (after_all past start)) (λ w. absurd (true≢false (sym w)))))
calls_cut start later past new change false before now s p =
    subst (λ q. Calls (record_seen start past before) (record_seen q new now) (IsImage change) (IsDone change) (false ≡ true)) (sym s)
    (subst (λ q. Calls (record_seen start past before) (record_seen start q now) (IsImage change) (IsDone change) (false ≡ true)) (sym p)
    (calls_nothing start past before now (IsImage change) (IsDone change) (false ≡ true) (still_image change (after_all past start)) (λ w. absurd (true≢false (sym w)))))
