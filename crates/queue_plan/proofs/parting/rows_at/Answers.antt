use Rattle.std.specs.Option.{option_copied}
use Rattle.queue_plan.proofs.PartLemmas.{row_more}
use Rattle.queue_plan.proofs.parting.rows_at.Goals as goal

pub loop-place-preserved : goal.loop-place-preserved
loop-place-preserved c =
    let l = c.loop-place in
    row_more c.args.rows.now c.args.places.now l.place-index l.chosen c.add_row.new.chosen (option_copied c.get.result) c.loop-place-test.true l.invariant c.get.ensures c.in_ok-add_row.ensures
