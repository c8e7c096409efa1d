-- What the steps of a run say that hands a message over. It need not be believed: only private
-- contracts cite it.
use Rattle.std.specs.Prelude.{◌≡◌, ℕ, ◌≤◌, List, length, Bool, true, false, Some, Result, Ok, Err, All, IfSome}
use Rattle.mail_base.specs.Drawing.{IsDrawn}
use Rattle.mail_base.specs.Limits.{most_rows}
use Rattle.mail_base.specs.declared.draw.Draw.{Draw}
use Rattle.mail_base.specs.declared.route.RouteError.{RouteError}
use Rattle.mail_base.specs.Texts.{IsHeader, IsLine}
use Rattle.mail_submit.specs.declared.submission.Submission.{Submission}
use Rattle.alias_expand.specs.declared.refusal.ExpandRefusal.{ExpandRefusal}
use Rattle.mail_judge.specs.Judged.{error_of}
use Rattle.submit_run.specs.declared.end.SubmitEnd.{SubmitEnd}
use Rattle.submit_run.specs.declared.end.SubmitEnd.TheVariants as ends

-- a result is one with P, but for faults of files and want of memory; no other fault comes
abbrev pub Tells : {T : Type 0} → (Result T SubmitEnd → Type 0) → Result T SubmitEnd → Type 0
Tells P (Ok value) = P (Ok value)
Tells P (Err (ends.MessageRefused code)) = P (Err (ends.MessageRefused code))
Tells P (Err ends.NoRecipient) = P (Err ends.NoRecipient)
Tells P (Err (ends.BadRecipient place error)) = P (Err (ends.BadRecipient place error))
Tells P (Err ends.FilesFault) = Unit {0}
Tells P (Err ends.NoMemory) = Unit {0}
Tells P (Err ends.Done) = ⊥
Tells P (Err ends.ReadFault) = ⊥
Tells P (Err ends.SpoolFault) = ⊥
Tells P (Err ends.IdsSpent) = ⊥

-- whether a result is a fault of files
abbrev pub has_files_fault : {T : Type 0} → Result T SubmitEnd → Bool
has_files_fault (Err ends.FilesFault) = true
has_files_fault result = false

-- what comes of one recipient of this place: its rows are added, or it is refused
abbrev pub Gathers : {T : Type 0} → ℕ → (Result (List Draw) RouteError → Type 0)
    → Result T SubmitEnd → List Draw → Type 0
Gathers place P (Ok done) rows = P (Ok rows)
Gathers place P (Err (ends.BadRecipient at error)) rows = (at ≡ place) × P (Err error)
Gathers place P (Err ends.FilesFault) rows = Unit {0}
Gathers place P (Err ends.NoMemory) rows = Unit {0}
Gathers place P (Err (ends.MessageRefused code)) rows = ⊥
Gathers place P (Err ends.NoRecipient) rows = ⊥
Gathers place P (Err ends.Done) rows = ⊥
Gathers place P (Err ends.ReadFault) rows = ⊥
Gathers place P (Err ends.SpoolFault) rows = ⊥
Gathers place P (Err ends.IdsSpent) rows = ⊥

-- the end that a recipient brings whose aliases give no rows
abbrev pub RefusesBy : {T : Type 0} → ℕ → ExpandRefusal → Result T SubmitEnd → Type 0
RefusesBy place refusal (Err (ends.BadRecipient at error)) =
    (at ≡ place) × (error_of refusal ≡ Some error)
RefusesBy place refusal (Err ends.FilesFault) = Unit {0}
RefusesBy place refusal (Err ends.NoMemory) = Unit {0}
RefusesBy place refusal (Err (ends.MessageRefused code)) = ⊥
RefusesBy place refusal (Err ends.NoRecipient) = ⊥
RefusesBy place refusal (Err ends.Done) = ⊥
RefusesBy place refusal (Err ends.ReadFault) = ⊥
RefusesBy place refusal (Err ends.SpoolFault) = ⊥
RefusesBy place refusal (Err ends.IdsSpent) = ⊥
RefusesBy place refusal (Ok done) = ⊥

-- so many recipients have given rows: one each at least
pub record AreGathered (place : ℕ) (rows : List Draw) : Type 0 where
  pub some : place ≤ length rows
  pub few : length rows ≤ most_rows
  pub each : All IsDrawn rows

-- a submission has its parts in their forms
pub record IsSound (s : Submission) : Type 0 where
  pub headers : All IsHeader s.headers
  pub count : length s.headers ≤ s.block
  pub found : All IsLine s.recipients
  pub first_from : IfSome s.first_from IsLine
