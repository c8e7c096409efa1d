use Rattle.std.proofs.Common.{◌≡◌, take, false}
use Rattle.std.specs.List.{list_any}
use Rattle.mail_core.specs.inner.Handling.{is_caller}
use Rattle.mail_core.proofs.serving.Core.place_of.Given as goal

-- none of the callers so far has the number
abbrev pub invariant-loop-place : goal.invariant-loop-place
invariant-loop-place l = list_any (is_caller l.session) (take l.place l.fn.self.callers.items) ≡ false
