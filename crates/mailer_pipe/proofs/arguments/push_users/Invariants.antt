use Rattle.std.proofs.Common.{◌≡◌, ◌++◌, drop}
use Rattle.mailer_pipe.specs.Arguments.{user_args, with_users}
use Rattle.mailer_pipe.proofs.arguments.push_users.Given as goal

abbrev pub invariant-loop-user : goal.invariant-loop-user
invariant-loop-user l =
    (l.args ++ user_args l.macros (drop l.user-index l.users) l.word ≡ l.fn.args ++ user_args l.fn.macros l.users l.word)
    × (with_users (drop l.user-index l.users) l.macros ≡ with_users l.users l.fn.macros)
