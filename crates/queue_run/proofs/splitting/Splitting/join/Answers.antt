-- A row that is put into its batch, or begins one.
use Rattle.queue_run.proofs.SplitLemmas.{at_none, at_some, begin_indexed, begin_joins, place_within, put_indexed, put_joins}
use Rattle.queue_run.specs.Batches.{course_of}
use Rattle.queue_run.proofs.splitting.Splitting.join.Goals as goal

pub add-requires : goal.add-requires
add-requires c = place_within c.args.config.now (course_of c.args.row.resolved) c.args.self.now.batches.items c.in-Some.at (at_some c.args.config.now (course_of c.args.row.resolved) c.args.self.now.batches.items _ c.in-Some.at c.in-Some.is c.in_ok-place.ensures)

pub returns-in-Some-clause-is : goal.returns-in-Some-clause-is
returns-in-Some-clause-is c =
    let at = at_some c.args.config.now (course_of c.args.row.resolved) c.args.self.now.batches.items _ c.in-Some.at c.in-Some.is c.in_ok-place.ensures in
    put_joins _ c.args.config.now c.args.row c.args.self.now.batches.items _ c.in-Some.at at (c.add.ensures at.batch)

pub returns-in-Some-clause-indexed : goal.returns-in-Some-clause-indexed
returns-in-Some-clause-indexed c =
    let at = at_some c.args.config.now (course_of c.args.row.resolved) c.args.self.now.batches.items _ c.in-Some.at c.in-Some.is c.in_ok-place.ensures in
    put_indexed _ c.args.config.now c.args.row c.args.self.now.batches.items _ c.args.self.now.last.entries c.in-Some.at at c.requires.indexed (c.add.ensures at.batch)

pub returns-in-None-clause-is : goal.returns-in-None-clause-is
returns-in-None-clause-is c =
    begin_joins _ c.args.config.now c.args.row c.args.self.now.batches.items _ (at_none c.args.config.now (course_of c.args.row.resolved) c.args.self.now.batches.items _ c.in-None.is c.in_ok-place.ensures) c.begin.ensures.is

pub returns-in-None-clause-indexed : goal.returns-in-None-clause-indexed
returns-in-None-clause-indexed c =
    begin_indexed _ c.args.config.now c.args.row c.args.self.now.batches.items _ c.args.self.now.last.entries _ (at_none c.args.config.now (course_of c.args.row.resolved) c.args.self.now.batches.items _ c.in-None.is c.in_ok-place.ensures) c.requires.indexed c.begin.ensures.is c.begin.ensures.last
