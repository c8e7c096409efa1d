use Rattle.std.proofs.Common.{◌≡◌, take}
use Rattle.mail_base.proofs.catalog.CatalogTryCopy.copy.Given as goal

abbrev pub invariant-loop-index : goal.invariant-loop-index
invariant-loop-index g l = l.copied ≡ take l.index l.self
