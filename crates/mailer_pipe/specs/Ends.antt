-- What the end of a program mailer says of its rows (sysexits; which of them are tried again is of
-- Sendmail; notes and statuses are our own).
use Rattle.std.specs.Prelude.{◌≡◌, ℕ, ℤ, pos, Bool, ◌||◌, ◌&&◌, nat_le, List, ◌++◌, Option, Some, None, if◌then◌else◌, codes, refl}
use Rattle.std.specs.Fmt.{signed_decimal}
use Rattle.std.specs.Ordering.{int_eq}
use Rattle.mail_base.specs.Exits.{exit_status}
use Rattle.mail_base.specs.declared.outcome.Result1.{Result1}
use Rattle.mail_base.specs.declared.outcome.Result1.TheVariants.{Sent, Deferred, Failed}

-- the exits 71 oserr, 74 ioerr and 75 tempfail are tried again
abbrev pub is_tried_again : ℤ → Bool
is_tried_again status =
    int_eq status (pos 71) || int_eq status (pos 74) || int_eq status (pos 75)

-- the number of an exit that has a name
abbrev pub named_exit : ℤ → Option ℕ
named_exit (pos number) = if nat_le 64 number && nat_le number 78 then Some number else None
named_exit status = None

abbrev pub note_of : ℤ → List ℕ
note_of status = codes "exit " ++ signed_decimal status

-- what a status makes of each row of the batch
abbrev pub ended_with : ℤ → Result1
ended_with status =
    if int_eq status (pos 0) then Sent
    else if is_tried_again status then Deferred (note_of status)
    else Failed (exit_status (named_exit status)) (note_of status)

-- what becomes of a row whose user can't be an argument: no program is started for it
abbrev pub no_argument : Result1
no_argument = Failed (codes "5.1.3") (codes "NUL in user")

example : ended_with (pos 0) ≡ Sent
example = refl
