-- The four phases, joined.
use Rattle.std.proofs.Common.{sym, subst, List, length, [], ◌++◌}
use Rattle.std.proofs.lemmas.Result.{err_from_is_err_and}
use Rattle.std.proofs.lemmas.List.Elements.{Contains-append_left, Contains-append_right}
use Rattle.mail_base.specs.declared.id.Kind.TheVariants.{Qf}
use Rattle.spool_store.specs.Queue.{spot_place}
use Rattle.spool_store.specs.declared.named.Named.{Named}
use Rattle.spool_store.specs.inner.Plans.{AreDead, AreDone, AreDrafts, AreUnwanted}
use Rattle.spool_store.specs.inner.Sweeps.{places}
use Rattle.spool_store.proofs.MovesLemmas.{ends_to, moves_join, moves_weaker}
use Rattle.spool_store.proofs.PlanLemmas.{bodies_go, dead_go, dead_gone, decided_by, drafts_go, gone_by, may_finish, swept_by}
use Rattle.spool_store.proofs.RecoveryLemmas.{kinds_named, within_named}
use Rattle.spool_store.proofs.recovery.carry_out.Goals as goal

pub remove_all-requires : goal.remove_all-requires
remove_all-requires g c = record { within = within_named (length c.args.dirs.now) c.args.plan.now.drafts c.items.result.now c.items.ensures c.requires.plan.drafts }

pub remove_all-requires-2 : goal.remove_all-requires-2
remove_all-requires-2 g c = record { within = within_named (length c.args.dirs.now) c.args.plan.now.dead c.items-2.result.now c.items-2.ensures c.requires.plan.dead }

pub finish_all-requires-clause-within : goal.finish_all-requires-clause-within
finish_all-requires-clause-within g c = within_named (length c.args.dirs.now) c.args.plan.now.closed c.items-3.result.now c.items-3.ensures c.requires.plan.closed

pub finish_all-requires-clause-kinds : goal.finish_all-requires-clause-kinds
finish_all-requires-clause-kinds g c = kinds_named Qf c.args.plan.now.closed c.items-3.result.now c.items-3.ensures c.requires.plan.kinds

pub remove_all-requires-3 : goal.remove_all-requires-3
remove_all-requires-3 g c = record { within = within_named (length c.args.dirs.now) c.args.plan.now.bodies c.items-4.result.now c.items-4.ensures c.requires.plan.bodies }

pub returns-in_err-remove_all-clause-moves : goal.returns-in_err-remove_all-clause-moves
returns-in_err-remove_all-clause-moves g c = λ f l long looked planned.
    let dirs = c.args.dirs.now in
    let d1 = subst (λ (q : List Named). AreDrafts l.named q) (sym c.items.ensures) planned.drafts in
    let p = err_from_is_err_and c.from_residual.result c.from_residual.ensures.1 in
    rw p.1 (c.in_err-remove_all.ensures.moves f [] (drafts_go dirs f l.named c.items.result.now [] looked.named d1))

pub returns-in_err-remove_all-2-clause-moves : goal.returns-in_err-remove_all-2-clause-moves
returns-in_err-remove_all-2-clause-moves g c = λ f l long looked planned.
    let dirs = c.args.dirs.now in
    let d1 = subst (λ (q : List Named). AreDrafts l.named q) (sym c.items.ensures) planned.drafts in
    let d2 = subst (λ (q : List Named). AreDead dirs f l.found q) (sym c.items-2.ensures) planned.dead in
    let p = err_from_is_err_and c.from_residual-in_err-remove_all-2.result c.from_residual-in_err-remove_all-2.ensures.1 in
    rw p.1 (moves_join _ _ _ _ _ _ _ (c.in_ok-remove_all.ensures.moves f [] (drafts_go dirs f l.named c.items.result.now [] looked.named d1)) (c.in_err-remove_all-2.ensures.moves f ([] ++ places dirs c.items.result.now) (dead_go dirs f l.found c.items-2.result.now ([] ++ places dirs c.items.result.now) d2)))

pub returns-in_err-finish_all-clause-moves : goal.returns-in_err-finish_all-clause-moves
returns-in_err-finish_all-clause-moves g c = λ f l long looked planned.
    let dirs = c.args.dirs.now in
    let d1 = subst (λ (q : List Named). AreDrafts l.named q) (sym c.items.ensures) planned.drafts in
    let d2 = subst (λ (q : List Named). AreDead dirs f l.found q) (sym c.items-2.ensures) planned.dead in
    let d3 = subst (λ (q : List Named). AreDone dirs f l.found q) (sym c.items-3.ensures) planned.closed in
    let p = err_from_is_err_and c.from_residual-in_err-finish_all.result c.from_residual-in_err-finish_all.ensures.1 in
    rw p.1 (moves_join _ _ _ _ _ _ _ (moves_join _ _ _ _ _ _ _ (c.in_ok-remove_all.ensures.moves f [] (drafts_go dirs f l.named c.items.result.now [] looked.named d1)) (c.in_ok-remove_all-2.ensures.moves f ([] ++ places dirs c.items.result.now) (dead_go dirs f l.found c.items-2.result.now ([] ++ places dirs c.items.result.now) d2))) (c.in_err-finish_all.ensures.moves f (([] ++ places dirs c.items.result.now) ++ places dirs c.items-2.result.now) (may_finish dirs f l.named l.found c.items.result.now c.items-2.result.now c.items-3.result.now d1 d2 d3)))

pub returns-clause-moves : goal.returns-clause-moves
returns-clause-moves g c = λ f l long looked planned.
    let dirs = c.args.dirs.now in
    let d1 = subst (λ (q : List Named). AreDrafts l.named q) (sym c.items.ensures) planned.drafts in
    let d2 = subst (λ (q : List Named). AreDead dirs f l.found q) (sym c.items-2.ensures) planned.dead in
    let d3 = subst (λ (q : List Named). AreDone dirs f l.found q) (sym c.items-3.ensures) planned.closed in
    let d4 = subst (λ (q : List Named). AreUnwanted dirs f l.named q) (sym c.items-4.ensures) planned.bodies in
    let known = decided_by dirs f l.found l.verdicts long looked.found looked.judged in
    let done = (([] ++ places dirs c.items.result.now) ++ places dirs c.items-2.result.now) ++ places dirs c.items-3.result.now in
    moves_weaker _ _ _ _ _ _ _ (ends_to c.remove_all-3.result _ _ _ _ (λ h s. (s.tidied, swept_by dirs f h l.named l.found (done ++ places dirs c.items-4.result.now) looked.named looked.found known (gone_by dirs f l.named l.found c.items.result.now c.items-2.result.now c.items-3.result.now c.items-4.result.now looked.found d1 d2 d3 d4) s)) (λ h m. m)) (λ h m. m)
    (moves_join _ _ _ _ _ _ _ (moves_join _ _ _ _ _ _ _ (moves_join _ _ _ _ _ _ _ (c.in_ok-remove_all.ensures.moves f [] (drafts_go dirs f l.named c.items.result.now [] looked.named d1)) (c.in_ok-remove_all-2.ensures.moves f ([] ++ places dirs c.items.result.now) (dead_go dirs f l.found c.items-2.result.now ([] ++ places dirs c.items.result.now) d2))) (c.in_ok-finish_all.ensures.moves f (([] ++ places dirs c.items.result.now) ++ places dirs c.items-2.result.now) (may_finish dirs f l.named l.found c.items.result.now c.items-2.result.now c.items-3.result.now d1 d2 d3)))
    (c.remove_all-3.ensures.moves f done (bodies_go dirs f l.named c.items-4.result.now done looked.named known (λ s k. Contains-append_left (([] ++ places dirs c.items.result.now) ++ places dirs c.items-2.result.now) (places dirs c.items-3.result.now) (spot_place s) (Contains-append_right ([] ++ places dirs c.items.result.now) (places dirs c.items-2.result.now) (spot_place s) (dead_gone dirs f l.found c.items-2.result.now looked.found d2 s k))) d4)))
