use Rattle.ruleset_run.specs.Sites.{site_of}
use Rattle.header_rewrite.proofs.LawLemmas.{more_headers}
use Rattle.header_rewrite.proofs.headers.all_rewritten.Goals as goal

pub headers-preserved : goal.headers-preserved
headers-preserved c =
    more_headers (site_of c.args.config.now c.args.maps.now) c.args.macros.now c.args.mailer.now c.args.headers.now c.items-header-items.result.now c.headers.texts c.push.new.self c.headers.index c.header-item.result c.in_ok-header_for.field-0
    c.items-header-items.ensures c.headers-test.true c.header-item.is c.headers.invariant c.in_ok-header_for.ensures c.in_ok-push.ensures.ok
