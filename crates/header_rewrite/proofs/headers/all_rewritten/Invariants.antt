use Rattle.std.proofs.Common.{take}
use Rattle.ruleset_run.specs.Sites.{site_of}
use Rattle.header_rewrite.specs.Rewriting.{AreRewritten}
use Rattle.header_rewrite.proofs.headers.all_rewritten.Given as goal

abbrev pub invariant-headers : goal.invariant-headers
invariant-headers l = AreRewritten (site_of l.config l.maps) l.macros l.mailer (take l.index l.headers) l.texts
