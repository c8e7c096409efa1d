-- The header has the dates and the id, and the parts are by the macros of the session.
use Rattle.std.proofs.Common.{◌∙◌, ap, refl}
use Rattle.queue_plan.specs.Rows.{distinct}
use Rattle.mail_made.proofs.PartLemmas.{headed_of, taken_of}
use Rattle.mail_made.proofs.message.made.Goals as goal

pub returns-clause-is : goal.returns-clause-is
returns-clause-is c = record {
  first = c.in_ok-first.first;
  header = c.in_ok-first.ensures.header;
  taken = taken_of c.args.config.now c.args.maps.now c.args.moment c.args.message c.args.id c.in_ok-session.session c.in_ok-macros.macros c.in_ok-first.first c.in_ok-rows.rows c.in_ok-cuts.cuts c.requires.rows c.in_ok-session.ensures c.in_ok-macros.ensures c.in_ok-first.ensures.made (c.in_ok-rows.ensures.is ∙ ap distinct c.replace-rows.ensures.value) c.in_ok-cuts.ensures.is;
  is = headed_of c.in_ok-first.first c.args.message _ c.in_ok-headed.field-0 _ refl (c.replace-rows.ensures.after ∙ c.new.ensures) c.in_ok-headed.ensures;
}
