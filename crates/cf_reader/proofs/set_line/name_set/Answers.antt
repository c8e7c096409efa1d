use Rattle.std.proofs.Common.{◌∙◌}
use Rattle.cf_reader.specs.SetLines.{empty_set, named}
use Rattle.std.specs.Prelude.{get_or}
use Rattle.cf_reader.proofs.SetLemmas.{name_more, name_within}
use Rattle.cf_reader.proofs.set_line.name_set.Goals as goal

pub loop-name-preserved : goal.loop-name-preserved
loop-name-preserved c = record {
  within = name_within c.loop-name.book c.name_once.new.book c.args.place (named (get_or c.loop-name.book c.args.place empty_set) c.name-item.result) c.loop-name.invariant.within (c.in_ok-name_once.ensures empty_set);
  rest = λ d.
      name_more c.args.names.now c.loop-name.book c.name_once.new.book c.args.place c.loop-name.name-index c.name-item.result d c.loop-name-test.true c.name-item.is c.loop-name.invariant.within c.in_ok-name_once.ensures
      ∙ c.loop-name.invariant.rest d;
}
