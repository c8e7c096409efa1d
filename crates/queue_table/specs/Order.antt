-- Which entries are tried, and in which order (Sendmail Installation and Operation Guide, "Queue
-- Priorities" and MinQueueAge; that ids decide between equal priorities is our own).
use Rattle.std.specs.Prelude.{◌≡◌, ◌⊎◌, ℕ, ◌+◌, ◌<◌, ◌==◌, nat_le, ◌<ℤ◌, ◌||◌, ◌&&◌, Bool}
use Rattle.mail_base.specs.States.{has_failed, has_queued}
use Rattle.mail_base.specs.declared.control.Control.{Control}
use Rattle.mail_base.specs.declared.control.Entry.{Entry}

-- it was never tried, or its last try was so many seconds ago
abbrev pub has_waited : Control → ℕ → ℕ → Bool
has_waited control moment wait = control.tries == 0 || nat_le (control.last_try + wait) moment

-- it is to be tried at a moment, where so many seconds are to pass between two tries
abbrev pub is_due : Control → ℕ → ℕ → Bool
is_due control moment wait =
    has_failed control || (has_queued control && has_waited control moment wait)

-- the entry of lower priority goes first, and of two with the same the one of lower id
abbrev pub IsBefore : Entry → Entry → Type 0
IsBefore a b =
    (a.control.priority <ℤ b.control.priority)
    ⊎ ((a.control.priority ≡ b.control.priority) × (a.id < b.id))
