-- The states of a row and of an entry (Sendmail Installation and Operation Guide, the queue; RFC
-- 3461, section 6: a row is tried until it was sent, failed or was given up).
use Rattle.std.specs.Prelude.{◌||◌, Bool, true, false, not, IsTrue}
use Rattle.std.specs.List.{list_all, list_any}
use Rattle.mail_base.specs.declared.control.Control.{Control}
use Rattle.mail_base.specs.declared.control.State.{State}
use Rattle.mail_base.specs.declared.control.State.TheVariants.{Queued, Sent, Failed, Returned, Dead}

-- something is still to be done for it: it is tried, or awaits its return
abbrev pub is_open : State → Bool
is_open (Queued _) = true
is_open Sent = false
is_open (Failed _ _) = true
is_open (Returned _) = false
is_open (Dead _ _) = false

-- it is still tried
abbrev pub is_queued : State → Bool
is_queued (Queued _) = true
is_queued Sent = false
is_queued (Failed _ _) = false
is_queued (Returned _) = false
is_queued (Dead _ _) = false

-- it awaits its return
abbrev pub is_failed : State → Bool
is_failed (Queued _) = false
is_failed Sent = false
is_failed (Failed _ _) = true
is_failed (Returned _) = false
is_failed (Dead _ _) = false

-- a row of a double bounce that failed, whose body is kept
abbrev pub is_dead : State → Bool
is_dead (Queued _) = false
is_dead Sent = false
is_dead (Failed _ _) = false
is_dead (Returned _) = false
is_dead (Dead _ _) = true

-- a row is still tried
abbrev pub has_queued : Control → Bool
has_queued control = list_any (λ row. is_queued row.state) control.rows

-- a row awaits its return
abbrev pub has_failed : Control → Bool
has_failed control = list_any (λ row. is_failed row.state) control.rows

-- rows of it that failed are returned by a bounce: those of a double bounce are dead instead
abbrev pub wants_bounce : Control → Bool
wants_bounce control = not control.marks.double

-- every row is done
abbrev pub is_finished : Control → Bool
is_finished control = list_all (λ row. not (is_open row.state)) control.rows

-- the body of an entry is wanted while a row is open, and where one is dead
abbrev pub needs_body : Control → Bool
needs_body control = list_any (λ row. is_open row.state || is_dead row.state) control.rows

abbrev pub NeedsBody : Control → Type 0
NeedsBody control = IsTrue (needs_body control)
