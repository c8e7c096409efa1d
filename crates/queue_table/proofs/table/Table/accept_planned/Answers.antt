-- A commit of what was planned, and then its room is used up.
use Rattle.std.proofs.Common.{None, refl}
use Rattle.spool_store.specs.Keepers.{seen}
use Rattle.spool_store.specs.Writes.{after_commit}
use Rattle.queue_table.specs.Calls.{store}
use Rattle.queue_table.specs.Commands.{after, draft_of, drafts_of}
use Rattle.queue_table.specs.Commands.Command.{Accept}
use Rattle.queue_table.proofs.CallLemmas.{accept_holds, accept_leads, commit_stays, commit_whole, leads_by}
use Rattle.queue_table.proofs.table.Table.accept_planned.Goals as goal

pub returns-clause-moves : goal.returns-clause-moves
returns-clause-moves g c = λ table message cuts moment holds is.
    let kept = c.args.self.now in
    let children = drafts_of kept.terms message moment is.rest in
    let parent = draft_of kept.terms message moment is.first in
    leads_by (store kept).dirs table (after_commit table children parent message.body None) (after table (Accept kept.terms message cuts moment)) c.commit.result _ _ (accept_leads kept message cuts moment c.args.accepting is table)
    (c.commit.ensures.moves table children parent message.body holds is.parcel)

pub returns-clause-holds : goal.returns-clause-holds
returns-clause-holds g c = λ table message cuts moment holds is.
    let kept = c.args.self.now in
    let children = drafts_of kept.terms message moment is.rest in
    let parent = draft_of kept.terms message moment is.first in
    accept_holds kept message cuts moment c.args.accepting c.commit.result (seen c.commit.new.self) table is
    (c.commit.ensures.ok children parent message.body is.parcel)
    (c.holding_goes_on.ensures.commit (store kept) table children parent message.body holds)

pub returns-clause-stays : goal.returns-clause-stays
returns-clause-stays g c =
    let kept = c.args.self.now in
    let p = c.requires.planned in
    let children = drafts_of kept.terms p.message p.moment p.is.rest in
    let parent = draft_of kept.terms p.message p.moment p.is.first in
    let same = commit_stays c.commit.result (store kept) (seen c.commit.new.self) children parent (c.commit.ensures.ok children parent p.message.body p.is.parcel) c.commit.ensures.err in
    record { terms = refl; dirs = same.0; strange = same.1 }

pub returns-clause-ok : goal.returns-clause-ok
returns-clause-ok g c =
    let kept = c.args.self.now in
    let p = c.requires.planned in
    let children = drafts_of kept.terms p.message p.moment p.is.rest in
    let parent = draft_of kept.terms p.message p.moment p.is.first in
    commit_whole c.commit.result (store kept) (seen c.commit.new.self) children parent (c.commit.ensures.ok children parent p.message.body p.is.parcel)
