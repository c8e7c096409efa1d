-- From each map with which the store agrees.
use Rattle.std.proofs.Common.{◌∙◌, ◌≡◌, ap, subst, sym, inr, map}
use Rattle.std.specs.Prelude.{IfSome}
use Rattle.mail_base.specs.Limits.{IsId}
use Rattle.qf_format.specs.Spelling.{spelled}
use Rattle.qf_format.specs.Valid.{IsValid}
use Rattle.spool_disk.specs.Disk.{FileMap}
use Rattle.spool_store.specs.Keepers.{seen, after_replace}
use Rattle.spool_store.specs.inner.Parts.{with_new}
use Rattle.spool_store.specs.Parts.{IsEitherTable}
use Rattle.spool_store.specs.Settled.{IsSettled, StandsFor}
use Rattle.spool_store.specs.Stores.{Agrees, KeepsOthers, StoreSeen, recontrolled}
use Rattle.spool_store.proofs.MovesLemmas.{told_now}
use Rattle.spool_store.proofs.Replaces.{from_agreed, can_of, fits_paper, replace_leads, replace_safe, replace_agrees, replace_keeps, seen_set}
use Rattle.spool_store.proofs.queue.Queue.replace.Goals as goal

pub print_into-requires-clause-fits : goal.print_into-requires-clause-fits
print_into-requires-clause-fits g c = rw c.into_parts-control.ensures.parts (fits_paper (seen c.args.self.now) c.args.room.id c.args.room.control c.args.room.paper c.requires.can)

pub set_control-requires-clause-valid : goal.set_control-requires-clause-valid
set_control-requires-clause-valid g c = subst IsValid (sym (ap (λ q. q.0) c.into_parts-control.ensures.parts)) c.requires.can.valid

pub returns-in-Ok-clause-moves : goal.returns-in-Ok-clause-moves
returns-in-Ok-clause-moves g c = λ table holds.
    let can = c.requires.can in
    let store = seen c.args.self.now in
    let said : c.into_text-text.result ≡ spelled c.args.room.control = c.into_text-text.ensures ∙ ap (λ q. q.bytes) c.print_into.ensures ∙ ap (λ q. spelled q.0) c.into_parts-control.ensures.parts in
    from_agreed _ _ store (with_new can.held c.args.room.control) (StandsFor store.dirs table) (IsSettled store.dirs (after_replace table c.args.room.id c.args.room.control)) (IsEitherTable store.dirs table (after_replace table c.args.room.id c.args.room.control)) _ _ (c.requires.agrees c.if-self.false) (subst IsId (sym can.is) c.into_parts-control.ensures.within)
    (λ f able. c.in-Ok.ensures.moves f can.held c.args.room.control can.among (can.is ∙ sym (ap (λ q. q.1) c.into_parts-control.ensures.parts)) said able)
    (can_of store c.args.room.id c.args.room.control c.args.room.paper can)
    (λ f x a stands w. replace_leads store table f x c.args.room.id c.args.room.control c.args.room.paper can a holds stands w)
    (λ f x a stands m. replace_safe store table f x c.args.room.id c.args.room.control c.args.room.paper can a holds stands m)

pub returns-in-Ok-clause-frame : goal.returns-in-Ok-clause-frame
returns-in-Ok-clause-frame g c = λ base.
    let can = c.requires.can in
    let store = seen c.args.self.now in
    let said : c.into_text-text.result ≡ spelled c.args.room.control = c.into_text-text.ensures ∙ ap (λ q. q.bytes) c.print_into.ensures ∙ ap (λ q. spelled q.0) c.into_parts-control.ensures.parts in
    from_agreed _ _ store (with_new can.held c.args.room.control) (λ (f : FileMap). f ≡ base) (KeepsOthers store.dirs base) (KeepsOthers store.dirs base) _ _ (c.requires.agrees c.if-self.false) (subst IsId (sym can.is) c.into_parts-control.ensures.within)
    (λ f able. c.in-Ok.ensures.moves f can.held c.args.room.control can.among (can.is ∙ sym (ap (λ q. q.1) c.into_parts-control.ensures.parts)) said able)
    (can_of store c.args.room.id c.args.room.control c.args.room.paper can)
    (λ f x a e w. subst (λ (q : FileMap). KeepsOthers store.dirs q x) e (replace_keeps store f x c.args.room.id c.args.room.control c.args.room.paper can a (inr w)))
    (λ f x a e m. subst (λ (q : FileMap). KeepsOthers store.dirs q x) e (replace_keeps store f x c.args.room.id c.args.room.control c.args.room.paper can a m))

pub returns-in-Ok-clause-agrees : goal.returns-in-Ok-clause-agrees
returns-in-Ok-clause-agrees g c =
    let can = c.requires.can in
    let store = seen c.args.self.now in
    let said : c.into_text-text.result ≡ spelled c.args.room.control = c.into_text-text.ensures ∙ ap (λ q. q.bytes) c.print_into.ensures ∙ ap (λ q. spelled q.0) c.into_parts-control.ensures.parts in
    let moves = from_agreed _ _ store (with_new can.held c.args.room.control) (λ (f : FileMap). Unit {0}) (Agrees (record store { entries = map (recontrolled c.args.room.id c.args.room.control) store.entries })) (λ (f : FileMap). Unit {0}) _ _ (c.requires.agrees c.if-self.false) (subst IsId (sym can.is) c.into_parts-control.ensures.within)
    (λ f able. c.in-Ok.ensures.moves f can.held c.args.room.control can.among (can.is ∙ sym (ap (λ q. q.1) c.into_parts-control.ensures.parts)) said able)
    (can_of store c.args.room.id c.args.room.control c.args.room.paper can)
    (λ f x a e w. replace_agrees store f x c.args.room.id c.args.room.control c.args.room.paper can a w)
    (λ f x a e m. tt)
    in
    let now = told_now _ _ (Agrees (record store { entries = map (recontrolled c.args.room.id c.args.room.control) store.entries })) moves.now in
    subst (λ (q : StoreSeen). IfSome (g.D.Spool.seen c.write_control.new.spool).told (Agrees q)) (sym (seen_set (seen c.write_control.new.self) store c.set_control.new.self c.args.room.id _ c.args.room.control _ c.in-Ok.ensures.same c.set_control.ensures (ap (λ q. q.1) c.into_parts-control.ensures.parts) (ap (λ q. q.0) c.into_parts-control.ensures.parts))) now

pub returns-in-Err-clause-moves : goal.returns-in-Err-clause-moves
returns-in-Err-clause-moves g c = λ table holds.
    let can = c.requires.can in
    let store = seen c.args.self.now in
    let said : c.into_text-text.result ≡ spelled c.args.room.control = c.into_text-text.ensures ∙ ap (λ q. q.bytes) c.print_into.ensures ∙ ap (λ q. spelled q.0) c.into_parts-control.ensures.parts in
    from_agreed _ _ store (with_new can.held c.args.room.control) (StandsFor store.dirs table) (IsEitherTable store.dirs table (after_replace table c.args.room.id c.args.room.control)) (IsEitherTable store.dirs table (after_replace table c.args.room.id c.args.room.control)) _ _ (c.requires.agrees c.if-self.false) (subst IsId (sym can.is) c.into_parts-control.ensures.within)
    (λ f able. c.in-Err.ensures.moves f can.held c.args.room.control can.among (can.is ∙ sym (ap (λ q. q.1) c.into_parts-control.ensures.parts)) said able)
    (can_of store c.args.room.id c.args.room.control c.args.room.paper can)
    (λ f x a stands m. replace_safe store table f x c.args.room.id c.args.room.control c.args.room.paper can a holds stands m)
    (λ f x a stands m. replace_safe store table f x c.args.room.id c.args.room.control c.args.room.paper can a holds stands m)

pub returns-in-Err-clause-frame : goal.returns-in-Err-clause-frame
returns-in-Err-clause-frame g c = λ base.
    let can = c.requires.can in
    let store = seen c.args.self.now in
    let said : c.into_text-text.result ≡ spelled c.args.room.control = c.into_text-text.ensures ∙ ap (λ q. q.bytes) c.print_into.ensures ∙ ap (λ q. spelled q.0) c.into_parts-control.ensures.parts in
    from_agreed _ _ store (with_new can.held c.args.room.control) (λ (f : FileMap). f ≡ base) (KeepsOthers store.dirs base) (KeepsOthers store.dirs base) _ _ (c.requires.agrees c.if-self.false) (subst IsId (sym can.is) c.into_parts-control.ensures.within)
    (λ f able. c.in-Err.ensures.moves f can.held c.args.room.control can.among (can.is ∙ sym (ap (λ q. q.1) c.into_parts-control.ensures.parts)) said able)
    (can_of store c.args.room.id c.args.room.control c.args.room.paper can)
    (λ f x a e m. subst (λ (q : FileMap). KeepsOthers store.dirs q x) e (replace_keeps store f x c.args.room.id c.args.room.control c.args.room.paper can a m))
    (λ f x a e m. subst (λ (q : FileMap). KeepsOthers store.dirs q x) e (replace_keeps store f x c.args.room.id c.args.room.control c.args.room.paper can a m))
