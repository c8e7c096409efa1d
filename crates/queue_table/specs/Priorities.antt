-- The priority of an entry (Sendmail Installation and Operation Guide, "Queue Priorities": the
-- size, less the class times its factor, and the recipients times theirs, and each try adds one
-- factor more; that a sum stays within 128 bits is our own).
use Rattle.std.specs.Prelude.{◌≡◌, ℕ, ◌*◌, ℤ, pos, negsuc, ◌+ℤ◌, ◌-ℤ◌, ◌*ℤ◌, refl}
use Rattle.std.specs.Int.{w128, saturate_signed}
use Rattle.mail_base.specs.Configs.{default_options}
use Rattle.mail_base.specs.declared.options.Options.{Options}
use Rattle.queue_table.specs.declared.factors.Factors.{Factors}

abbrev pub factors_of : Options → Factors
factors_of options =
    record {
      class = options.class_factor;
      recipient = options.recipient_factor;
      retry = options.retry_factor;
    }

-- a sum is the last number of 128 bits where it would pass it
abbrev pub within_128 : ℤ → ℤ
within_128 sum = saturate_signed w128 sum

-- the priority of so many bytes and rows of a class, after so many tries
abbrev pub priority_of : Factors → ℕ → ℤ → ℕ → ℕ → ℤ
priority_of factors size class rows tries =
    within_128
    (pos size -ℤ class *ℤ pos factors.class +ℤ pos (rows * factors.recipient)
    +ℤ pos (tries * factors.retry))

-- what a try makes of a priority
abbrev pub retried : Factors → ℤ → ℤ
retried factors priority = within_128 (priority +ℤ pos factors.retry)

-- 22 bytes with a recipient, the same after a try, and one of a class of its own with two
example :
    (priority_of (factors_of default_options) 22 (pos 0) 1 0 ≡ pos 30_022)
    × (priority_of (factors_of default_options) 22 (pos 0) 1 1 ≡ pos 120_022)
    × (priority_of (factors_of default_options) 100 (pos 100) 2 0 ≡ negsuc 119_899)
    × (retried (factors_of default_options) (pos 30_022) ≡ pos 120_022)
example = (refl, refl, refl, refl)
