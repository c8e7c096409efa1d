use Rattle.std.proofs.Common.{[], ◌∷◌, Result, reverse, false}
use Rattle.mail_edge.specs.Asking.{Asks}
use Rattle.alias_expand.specs.declared.reading.Reading.{Reading}
use Rattle.alias_expand.specs.declared.refusal.ExpandRefusal.{ExpandRefusal}
use Rattle.alias_expand.specs.inner.Costs.{Fits, deepest, worth}
use Rattle.alias_expand.specs.inner.Steps.{Completes, frame_of}
use Rattle.alias_expand.proofs.tree.read_members.Given as goal

-- what completes the rest completes the whole, which ends, and the files didn't fail
abbrev pub invariant-frames : goal.invariant-frames
invariant-frames g l = record {
  so_far : (end : Result Reading ExpandRefusal) → Completes l.site (g.F.Files.seen l.fn.files).map (reverse l.stack.items) l.reading end → Completes l.site (g.F.Files.seen l.fn.files).map (frame_of l.fn.opened ∷ []) l.fn.reading end;
  fits : Fits (reverse l.stack.items) l.reading;
  asks : Asks (g.F.Files.seen l.fn.files) (g.F.Files.seen l.files) false;
}

abbrev pub decreases-frames : goal.decreases-frames
decreases-frames g l = worth (deepest l.site) (reverse l.stack.items)
