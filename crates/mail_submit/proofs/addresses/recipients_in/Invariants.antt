use Rattle.std.proofs.Common.{◌≡◌, ◌++◌, drop}
use Rattle.std.specs.Prelude.{flat_map}
use Rattle.mail_submit.specs.Submissions.{recipients_of_one}
use Rattle.mail_submit.proofs.addresses.recipients_in.Given as goal

abbrev pub invariant-loop-header : goal.invariant-loop-header
invariant-loop-header l =
    l.recipients ++ flat_map recipients_of_one (drop l.header-index l.headers) ≡ flat_map recipients_of_one l.headers
