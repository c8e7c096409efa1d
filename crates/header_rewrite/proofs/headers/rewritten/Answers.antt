use Rattle.std.proofs.lemmas.Result.{IfOk-weaker}
use Rattle.ruleset_run.specs.Sites.{site_of}
use Rattle.header_rewrite.proofs.LawLemmas.{same_headers}
use Rattle.header_rewrite.proofs.headers.rewritten.Goals as goal

pub returns-clause-only : goal.returns-clause-only
returns-clause-only c = λ texts are.
    IfOk-weaker c.all_rewritten.result _ _
    (λ given so. same_headers c.one_header.ensures (site_of c.args.config.now c.args.maps.now) c.args.macros.now c.args.mailer.now c.args.headers.now given texts so are) c.all_rewritten.ensures
