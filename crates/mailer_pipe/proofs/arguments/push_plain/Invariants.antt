use Rattle.std.proofs.Common.{◌≡◌, ◌++◌, drop}
use Rattle.mailer_pipe.specs.Arguments.{plain_args}
use Rattle.mailer_pipe.proofs.arguments.push_plain.Given as goal

abbrev pub invariant-loop-word : goal.invariant-loop-word
invariant-loop-word l =
    l.args ++ plain_args l.macros (drop l.word-index l.words) ≡ l.fn.args ++ plain_args l.macros l.words
