use Rattle.std.proofs.Common.{◌≡◌, None, take}
use Rattle.mail_base.specs.Catalogs.{value_like}
use Rattle.mail_base.proofs.catalog.Catalog.get_like.Given as goal

abbrev pub invariant-loop-index : goal.invariant-loop-index
invariant-loop-index g l = value_like l.name (take l.index l.self) ≡ None
