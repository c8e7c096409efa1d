use Rattle.std.proofs.Common.{◌∙◌, length}
use Rattle.header_rewrite.proofs.LawLemmas.{idle_fills, joined_whole}
use Rattle.header_rewrite.proofs.law.only_joins.Goals as goal

pub returns-clause-joins : goal.returns-clause-joins
returns-clause-joins c = λ site macros sets header places text idle fills. idle_fills c.one_rewriting.ensures site macros sets idle fills

pub returns-clause-same : goal.returns-clause-same
returns-clause-same c = λ site macros sets header places text idle apart each fills.
    idle_fills c.one_rewriting.ensures site macros sets idle fills ∙ joined_whole site.operators header 0 places (length header) apart each
