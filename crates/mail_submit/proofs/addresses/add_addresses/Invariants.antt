use Rattle.std.proofs.Common.{◌≡◌, ◌++◌, drop, map}
use Rattle.mail_submit.specs.Submissions.{address_at}
use Rattle.mail_submit.proofs.addresses.add_addresses.Given as goal

abbrev pub invariant-loop-place : goal.invariant-loop-place
invariant-loop-place l =
    l.list ++ map (address_at l.header) (drop l.place-index l.places) ≡ l.fn.list ++ map (address_at l.header) l.places
