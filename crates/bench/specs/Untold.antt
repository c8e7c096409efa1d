-- What is seen of a spool that tells nothing (own).
use Rattle.std.specs.Prelude.{ℕ, None}
use Rattle.spool_disk.specs.Spooled.{Spooled}

abbrev pub untold : ℕ → Spooled
untold faults =
    record { told = None; moment = 0; left_since = λ since files. ⊥; faults = faults }
