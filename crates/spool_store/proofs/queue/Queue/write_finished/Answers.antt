-- The names are those of the entry's control file, of a finished one's and of its body.
use Rattle.std.proofs.Common.{◌≡◌, ◌∙◌, ap, sym, true, false, true≢false}
use Rattle.std.proofs.lemmas.Result.{err_from_is_err_and}
use Rattle.mail_base.specs.Names.{name_of}
use Rattle.mail_base.specs.States.{needs_body}
use Rattle.mail_base.specs.declared.id.Kind.TheVariants.{Df, Qf, Sf}
use Rattle.spool_store.specs.inner.Finishing.{HasEnded}
use Rattle.spool_store.specs.Keepers.{seen}
use Rattle.spool_store.specs.Stores.{spot_at}
use Rattle.spool_store.specs.declared.held.Held.{Held}
use Rattle.spool_store.proofs.Ended.{there_of}
use Rattle.spool_store.proofs.MovesLemmas.{moves_join, moves_weaker, run_join}
use Rattle.spool_store.proofs.Shelving.{held_is}
use Rattle.spool_store.proofs.queue.Queue.write_finished.Goals as goal

pub end-requires-clause-there : goal.end-requires-clause-there
end-requires-clause-there g c =
    let can = c.requires.can in
    let is = held_is c.args.self.now.shelf.items c.items-items.result.now c.args.id c.place-place.result c.index-items-place.result can.held c.items-items.ensures.items c.items-items.ensures.ascending c.place-place.ensures.at can.among can.is in
    there_of (g.D.Spool.seen c.args.spool.now).told (seen c.args.self.now) can.held _ _ c.requires.agrees can.among (c.requires.queued can.held can.among can.is) (ap (λ (q : Held). q.entry.dir) is) (c.text.ensures ∙ c.write.ensures ∙ ap (name_of Qf) (sym can.is))

pub returns-in_err-end-clause-moves : goal.returns-in_err-end-clause-moves
returns-in_err-end-clause-moves g c = λ f h k has done.
    let is = held_is c.args.self.now.shelf.items c.items-items.result.now c.args.id c.place-place.result c.index-items-place.result h c.items-items.ensures.items c.items-items.ensures.ascending c.place-place.ensures.at k has in
    let p = err_from_is_err_and c.from_residual.result c.from_residual.ensures.1 in
    rw p.1 (c.in_err-end.ensures.moves c.args.self.now.shelf.dirs f (spot_at h) h.entry.control done (ap (λ (q : Held). q.entry.dir) is) (c.text.ensures ∙ c.write.ensures ∙ ap (name_of Qf) (sym has)) (c.text-2.ensures ∙ c.write-2.ensures ∙ ap (name_of Sf) (sym has)))

pub returns-then-needs_body-clause-moves : goal.returns-then-needs_body-clause-moves
returns-then-needs_body-clause-moves g c = λ f h k has done.
    let is = held_is c.args.self.now.shelf.items c.items-items.result.now c.args.id c.place-place.result c.index-items-place.result h c.items-items.ensures.items c.items-items.ensures.ascending c.place-place.ensures.at k has in
    let shown = held_is c.args.self.now.shelf.items c.items-items.result.now c.args.id c.place-place.result c.index-items-place-2.result h c.items-items.ensures.items c.items-items.ensures.ascending c.place-place.ensures.at k has in
    let needs : needs_body h.entry.control ≡ true = ap (λ (q : Held). needs_body q.entry.control) (sym shown) ∙ sym c.if-needs_body.ensures in
    moves_weaker _ _ _ _ _ _ _ (λ x (e : HasEnded c.args.self.now.shelf.dirs f (spot_at h) x). record { ended = e; body = λ none. absurd (true≢false (sym needs ∙ none)) }) (λ x t. t)
    (c.in_ok-end.ensures.moves c.args.self.now.shelf.dirs f (spot_at h) h.entry.control done (ap (λ (q : Held). q.entry.dir) is) (c.text.ensures ∙ c.write.ensures ∙ ap (name_of Qf) (sym has)) (c.text-2.ensures ∙ c.write-2.ensures ∙ ap (name_of Sf) (sym has)))

pub returns-clause-moves : goal.returns-clause-moves
returns-clause-moves g c = λ f h k has done.
    let is = held_is c.args.self.now.shelf.items c.items-items.result.now c.args.id c.place-place.result c.index-items-place.result h c.items-items.ensures.items c.items-items.ensures.ascending c.place-place.ensures.at k has in
    let its = held_is c.args.self.now.shelf.items c.items-items-2.result.now c.args.id c.place-place.result c.index-items-place-3.result h c.items-items-2.ensures.items c.items-items-2.ensures.ascending c.place-place.ensures.at k has in
    let shown = held_is c.args.self.now.shelf.items c.items-items.result.now c.args.id c.place-place.result c.index-items-place-2.result h c.items-items.ensures.items c.items-items.ensures.ascending c.place-place.ensures.at k has in
    let none : needs_body h.entry.control ≡ false = ap (λ (q : Held). needs_body q.entry.control) (sym shown) ∙ sym c.if-needs_body.ensures in
    moves_join _ _ _ _ _ _ _
    (c.in_ok-end.ensures.moves c.args.self.now.shelf.dirs f (spot_at h) h.entry.control done (ap (λ (q : Held). q.entry.dir) is) (c.text.ensures ∙ c.write.ensures ∙ ap (name_of Qf) (sym has)) (c.text-2.ensures ∙ c.write-2.ensures ∙ ap (name_of Sf) (sym has)))
    (c.drop_body.ensures.moves c.args.self.now.shelf.dirs f (spot_at h) h.entry.control done none (ap (λ (q : Held). q.entry.dir) its) (c.text-3.ensures ∙ c.write-3.ensures ∙ ap (name_of Df) (sym has)))

pub returns-clause-runs : goal.returns-clause-runs
returns-clause-runs g c = run_join _ _ _ c.in_ok-end.ensures.runs c.drop_body.ensures.runs
