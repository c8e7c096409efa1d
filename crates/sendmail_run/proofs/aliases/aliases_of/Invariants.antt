use Rattle.std.proofs.Common.{◌≡◌, drop, false}
use Rattle.std.specs.Prelude.{IfSome}
use Rattle.mail_edge.specs.Asking.{Asks}
use Rattle.sendmail_run.specs.inner.AliasLoading.{aliases_by, behind}
use Rattle.sendmail_run.proofs.aliases.aliases_of.Given as goal

-- the lines so far and those of the files that are left are those of all, and the files didn't fail
abbrev pub invariant-loop-name : goal.invariant-loop-name
invariant-loop-name g l = record {
  rest : IfSome (g.F.Files.seen l.fn.files).map (λ map. behind l.aliases (aliases_by map (drop l.name-index l.names)) ≡ aliases_by map l.fn.names);
  asks : Asks (g.F.Files.seen l.fn.files) (g.F.Files.seen l.files) false;
}
