use Rattle.std.proofs.Common.{◌-◌, ◌≤◌, Bool, length, take}
use Rattle.std.specs.Prelude.{fold}
use Rattle.mail_submit.specs.Inputs.{Reading, Stands, with_byte}
use Rattle.mail_submit.specs.inner.Behind.{IsBehind}
use Rattle.mail_submit.proofs.held.Held.take.Given as goal

-- the front of the piece is read
abbrev pub invariant-lines : goal.invariant-lines
invariant-lines l = record {
  within : l.place ≤ length l.piece;
  stands : (dot : Bool) (r : Reading) → Stands l.fn.self dot r → Stands l.self dot (fold (with_byte dot) r (take l.place l.piece));
  behind : IsBehind l.fn.self l.self;
}

abbrev pub decreases-lines : goal.decreases-lines
decreases-lines l = length l.piece - l.place
