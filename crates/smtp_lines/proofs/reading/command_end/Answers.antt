use Rattle.std.proofs.Common.{◌≡◌, false, length, subst, arith}
use Rattle.std.proofs.Math.Seq.{take-length}
use Rattle.smtp_lines.proofs.EndLemmas.{command_ends, lf_join, lf_none}
use Rattle.smtp_lines.specs.declared.line.Mode.TheVariants.{Commands}
use Rattle.smtp_lines.specs.Stream.{has_end}
use Rattle.smtp_lines.proofs.reading.command_end.Goals as goal

pub returns-in-Some-clause-ends : goal.returns-in-Some-clause-ends
returns-in-Some-clause-ends c = λ begun none. let found = c.in-Some.ensures in command_ends begun c.args.bytes.now c.in-Some.place none (λ k lt is. found.0.before k (omega arith) lt is) found.0.high found.1

pub returns-in-None-clause-ends : goal.returns-in-None-clause-ends
returns-in-None-clause-ends c =
    λ begun none.
    let bytes = c.args.bytes.now in
    lf_join begun bytes none
    (subst (λ x. has_end Commands x ≡ false) (take-length bytes) (lf_none bytes (length bytes) (λ k lt within is. c.in-None.ensures k (omega arith) lt is)))
