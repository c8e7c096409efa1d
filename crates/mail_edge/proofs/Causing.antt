-- Causes of faults over several calls.
use Rattle.std.proofs.Common.{ℕ, ◌≤◌, arith}
use Rattle.mail_base.specs.Histories.{Rose}

-- a count that rose since a moment rose since each one before
pub rose_since : (a b c : ℕ) → a ≤ b → Rose b c → Rose a c
rose_since a b c h k = omega arith
