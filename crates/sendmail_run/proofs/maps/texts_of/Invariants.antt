use Rattle.std.proofs.Common.{◌≡◌, drop, false}
use Rattle.std.specs.Prelude.{IfSome}
use Rattle.mail_edge.specs.Asking.{Asks}
use Rattle.sendmail_run.specs.inner.Loading.{behind, texts_by}
use Rattle.sendmail_run.proofs.maps.texts_of.Given as goal

-- the texts so far and those of the files that are left are those of all, and the files didn't fail
abbrev pub invariant-loop-file : goal.invariant-loop-file
invariant-loop-file g l = record {
  rest : IfSome (g.F.Files.seen l.fn.files).map (λ map. behind l.texts (texts_by map (drop l.file-index l.wanted)) ≡ texts_by map l.fn.wanted);
  asks : Asks (g.F.Files.seen l.fn.files) (g.F.Files.seen l.files) false;
}
