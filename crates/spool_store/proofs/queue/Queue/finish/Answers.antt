-- From each map with which the store agrees.
use Rattle.std.proofs.Common.{◌≡◌, ◌∙◌, subst, sym, false, true≢false, map}
use Rattle.std.specs.Prelude.{IfSome, Contains}
use Rattle.spool_disk.specs.Disk.{FileMap}
use Rattle.spool_store.specs.Keepers.{seen, IsFiled}
use Rattle.spool_store.specs.Settled.{StandsFor}
use Rattle.spool_store.specs.Stores.{Agrees, KeepsOthers, StoreSeen, refinished}
use Rattle.spool_store.specs.Tidying.{IsTidied}
use Rattle.spool_store.specs.declared.held.Held.{Held}
use Rattle.spool_store.proofs.Ended.{finish_run, finish_agrees, filed_all, already, seen_finished, some_any}
use Rattle.spool_store.proofs.Keeping.{tidied_keeps}
use Rattle.spool_store.proofs.MovesLemmas.{moves_none, told_now}
use Rattle.spool_store.proofs.Shelving.{only_held}
use Rattle.spool_store.proofs.Sweeping.{tidied_none}
use Rattle.spool_store.proofs.Tidying.{tidied_stands}
use Rattle.spool_store.proofs.queue.Queue.finish.Goals as goal

pub returns-then-self-clause-moves : goal.returns-then-self-clause-moves
returns-then-self-clause-moves g c = λ base. moves_none _ _ _ _ (λ f e. subst (λ (q : FileMap). IsTidied c.args.self.now.shelf.dirs base q) (sym e) (tidied_none c.args.self.now.shelf.dirs base))

pub returns-then-is_finished-clause-moves : goal.returns-then-is_finished-clause-moves
returns-then-is_finished-clause-moves g c = λ base. moves_none _ _ _ _ (λ f e. subst (λ (q : FileMap). IsTidied c.args.self.now.shelf.dirs base q) (sym e) (tidied_none c.args.self.now.shelf.dirs base))

pub returns-then-is_finished-clause-ok : goal.returns-then-is_finished-clause-ok
returns-then-is_finished-clause-ok g c = λ i. record (seen c.args.self.now) { entries = sym (already c.args.self.now.shelf.items c.args.id.now (λ h k has. sym (c.is_finished.ensures.is h k has) ∙ c.if-is_finished.true)) i }

pub returns-then-is_finished-clause-files : goal.returns-then-is_finished-clause-files
returns-then-is_finished-clause-files g c = some_any _ (λ (x : FileMap). (h : Held) → Contains c.args.self.now.shelf.items h → h.entry.id ≡ c.args.id.now → h.finished ≡ false → IsFiled h x) (λ f h k has queued. absurd (true≢false (sym c.if-is_finished.true ∙ c.is_finished.ensures.is h k has ∙ queued)))

pub write_finished-requires-clause-queued : goal.write_finished-requires-clause-queued
write_finished-requires-clause-queued g c = λ h k has. sym (c.is_finished.ensures.is h k has) ∙ c.if-is_finished.false

pub returns-in-Ok-clause-moves : goal.returns-in-Ok-clause-moves
returns-in-Ok-clause-moves g c = λ base.
    let store = seen c.args.self.now in
    let can = c.requires.can in
    finish_run _ _ store c.args.id.now can (λ (f : FileMap). f ≡ base) (IsTidied store.dirs base) (IsTidied store.dirs base) _ (sym (c.is_finished.ensures.is can.held can.among can.is) ∙ c.if-is_finished.false) (c.requires.agrees c.if-self.false) c.in-Ok.ensures.runs c.in-Ok.ensures.moves
    (λ f x a done e q. subst (λ (p : FileMap). IsTidied store.dirs p x) e q.ended.tidied)
    (λ f x e t. subst (λ (p : FileMap). IsTidied store.dirs p x) e t)

pub returns-in-Ok-clause-stands : goal.returns-in-Ok-clause-stands
returns-in-Ok-clause-stands g c = λ table.
    let store = seen c.args.self.now in
    let can = c.requires.can in
    finish_run _ _ store c.args.id.now can (StandsFor store.dirs table) (StandsFor store.dirs table) (StandsFor store.dirs table) _ (sym (c.is_finished.ensures.is can.held can.among can.is) ∙ c.if-is_finished.false) (c.requires.agrees c.if-self.false) c.in-Ok.ensures.runs c.in-Ok.ensures.moves
    (λ f x a done stands q. tidied_stands store.dirs table f x q.ended.tidied stands)
    (λ f x stands t. tidied_stands store.dirs table f x t stands)

pub returns-in-Ok-clause-frame : goal.returns-in-Ok-clause-frame
returns-in-Ok-clause-frame g c = λ base.
    let store = seen c.args.self.now in
    let can = c.requires.can in
    finish_run _ _ store c.args.id.now can (λ (f : FileMap). f ≡ base) (KeepsOthers store.dirs base) (KeepsOthers store.dirs base) _ (sym (c.is_finished.ensures.is can.held can.among can.is) ∙ c.if-is_finished.false) (c.requires.agrees c.if-self.false) c.in-Ok.ensures.runs c.in-Ok.ensures.moves
    (λ f x a done e q. subst (λ (p : FileMap). KeepsOthers store.dirs p x) e (tidied_keeps store.dirs f x q.ended.tidied))
    (λ f x e t. subst (λ (p : FileMap). KeepsOthers store.dirs p x) e (tidied_keeps store.dirs f x t))

pub returns-in-Ok-clause-already : goal.returns-in-Ok-clause-already
returns-in-Ok-clause-already g c = λ h k has e. absurd (true≢false (sym e ∙ sym (c.is_finished.ensures.is h k has) ∙ c.if-is_finished.false))

pub returns-in-Err-clause-moves : goal.returns-in-Err-clause-moves
returns-in-Err-clause-moves g c = λ base.
    let store = seen c.args.self.now in
    let can = c.requires.can in
    finish_run _ _ store c.args.id.now can (λ (f : FileMap). f ≡ base) (IsTidied store.dirs base) (IsTidied store.dirs base) _ (sym (c.is_finished.ensures.is can.held can.among can.is) ∙ c.if-is_finished.false) (c.requires.agrees c.if-self.false) c.in-Err.ensures.runs c.in-Err.ensures.moves
    (λ f x a done e q. subst (λ (p : FileMap). IsTidied store.dirs p x) e q)
    (λ f x e t. subst (λ (p : FileMap). IsTidied store.dirs p x) e t)

pub returns-in-Err-clause-stands : goal.returns-in-Err-clause-stands
returns-in-Err-clause-stands g c = λ table.
    let store = seen c.args.self.now in
    let can = c.requires.can in
    finish_run _ _ store c.args.id.now can (StandsFor store.dirs table) (StandsFor store.dirs table) (StandsFor store.dirs table) _ (sym (c.is_finished.ensures.is can.held can.among can.is) ∙ c.if-is_finished.false) (c.requires.agrees c.if-self.false) c.in-Err.ensures.runs c.in-Err.ensures.moves
    (λ f x a done stands q. tidied_stands store.dirs table f x q stands)
    (λ f x stands t. tidied_stands store.dirs table f x t stands)

pub returns-in-Err-clause-frame : goal.returns-in-Err-clause-frame
returns-in-Err-clause-frame g c = λ base.
    let store = seen c.args.self.now in
    let can = c.requires.can in
    finish_run _ _ store c.args.id.now can (λ (f : FileMap). f ≡ base) (KeepsOthers store.dirs base) (KeepsOthers store.dirs base) _ (sym (c.is_finished.ensures.is can.held can.among can.is) ∙ c.if-is_finished.false) (c.requires.agrees c.if-self.false) c.in-Err.ensures.runs c.in-Err.ensures.moves
    (λ f x a done e q. subst (λ (p : FileMap). KeepsOthers store.dirs p x) e (tidied_keeps store.dirs f x q))
    (λ f x e t. subst (λ (p : FileMap). KeepsOthers store.dirs p x) e (tidied_keeps store.dirs f x t))

pub returns-in-Err-clause-already : goal.returns-in-Err-clause-already
returns-in-Err-clause-already g c = λ h k has e. absurd (true≢false (sym e ∙ sym (c.is_finished.ensures.is h k has) ∙ c.if-is_finished.false))

pub returns-in-Ok-clause-files : goal.returns-in-Ok-clause-files
returns-in-Ok-clause-files g c =
    let store = seen c.args.self.now in
    let can = c.requires.can in
    let moves = finish_run _ _ store c.args.id.now can (λ (f : FileMap). Unit {0}) (λ (x : FileMap). (h : Held) → Contains store.entries h → h.entry.id ≡ c.args.id.now → h.finished ≡ false → IsFiled h x) (λ (f : FileMap). Unit {0}) _ (sym (c.is_finished.ensures.is can.held can.among can.is) ∙ c.if-is_finished.false) (c.requires.agrees c.if-self.false) c.in-Ok.ensures.runs c.in-Ok.ensures.moves
    (λ f x a done e q. filed_all store.dirs store.entries c.args.id.now f x can.held (only_held store.entries c.args.id.now can.held c.is_finished.ensures.ascending can.among can.is) done q)
    (λ f x e t. tt)
    in
    told_now _ _ (λ (x : FileMap). (h : Held) → Contains store.entries h → h.entry.id ≡ c.args.id.now → h.finished ≡ false → IsFiled h x) moves.now

pub returns-in-Ok-clause-agrees : goal.returns-in-Ok-clause-agrees
returns-in-Ok-clause-agrees g c =
    let store = seen c.args.self.now in
    let can = c.requires.can in
    let after = record store { entries = map (refinished c.args.id.now) store.entries } in
    let moves = finish_run _ _ store c.args.id.now can (λ (f : FileMap). Unit {0}) (Agrees after) (λ (f : FileMap). Unit {0}) _ (sym (c.is_finished.ensures.is can.held can.among can.is) ∙ c.if-is_finished.false) (c.requires.agrees c.if-self.false) c.in-Ok.ensures.runs c.in-Ok.ensures.moves
    (λ f x a done e q. finish_agrees store f x c.args.id.now can.held a can.is done q)
    (λ f x e t. tt)
    in
    subst (λ (q : StoreSeen). IfSome (g.D.Spool.seen c.write_finished.new.spool).told (Agrees q)) (sym (seen_finished (seen c.write_finished.new.self) store c.set_finished.new.self c.args.id.now c.in-Ok.ensures.same c.set_finished.ensures)) (told_now _ _ (Agrees after) moves.now)
