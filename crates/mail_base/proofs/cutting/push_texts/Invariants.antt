use Rattle.std.proofs.Common.{◌≡◌, ◌++◌, map, take}
use Rattle.mail_base.proofs.cutting.push_texts.Given as goal

abbrev pub invariant-loop-slice : goal.invariant-loop-slice
invariant-loop-slice l = l.texts ≡ l.fn.texts ++ map (λ slice. slice.now) (take l.slice-index l.slices)
