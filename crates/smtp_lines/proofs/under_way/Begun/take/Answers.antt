use Rattle.std.proofs.Common.{◌≡◌, ◌-◌, Bool, [], ◌++◌, length, take, drop, refl, ap, sym, subst, ◌∙◌, arith, true, false}
use Rattle.std.proofs.lemmas.Bool.{iff_false}
use Rattle.std.proofs.lemmas.List.{take_rest, drop_all, append-nil}
use Rattle.smtp_lines.specs.Stream.{has_end}
use Rattle.smtp_lines.specs.Views.{under}
use Rattle.smtp_lines.specs.Reader.{most_kept, Under}
use Rattle.smtp_lines.specs.inner.Readings.{IsKept, ReadsOn}
use Rattle.smtp_lines.proofs.TakeLemmas.{enough_kept, takes_none, takes_some, asked_after-some}
use Rattle.smtp_lines.proofs.under_way.Begun.take.Goals as goal

may_turn-is : {u v : Under} → u ≡ v → u.may_turn ≡ v.may_turn
may_turn-is is = ap (λ (x : Under). x.may_turn) is

pub returns-then-is_empty-clause-takes : goal.returns-then-is_empty-clause-takes
returns-then-is_empty-clause-takes c =
    λ begun holds.
    let b = c.args.self.now in
    let kept : IsKept b.mode begun c.deref.result.now = record { most = most_kept b.mode b.may_turn; enough = enough_kept b.mode b.may_turn; is = c.deref.ensures.value ∙ holds.kept } in
    let reads = c.in_ok-gained.ensures.reads begun kept holds.none holds.cr in
    let nil = c.is_empty.ensures.0 c.if-is_empty.true in
    takes_none (under b) (under c.go_on.new.self) begun c.args.bytes.now c.in_ok-gained.gained.lines nil c.in_ok-go_on.ensures.ok holds (reads.none nil)

pub returns-then-gained-clause-turns : goal.returns-then-gained-clause-turns
returns-then-gained-clause-turns c =
    let g = c.in_ok-gained.gained in
    let some = iff_false c.is_empty.ensures c.if-is_empty.false in
    may_turn-is c.in_ok-begin.ensures.ok ∙ sym c.if-gained.true ∙ c.in_ok-gained.ensures.asks ∙ asked_after-some false c.args.self.now.may_turn g.lines some

pub returns-then-gained-clause-takes : goal.returns-then-gained-clause-takes
returns-then-gained-clause-takes c =
    λ begun holds.
    let b = c.args.self.now in
    let g = c.in_ok-gained.gained in
    let kept : IsKept b.mode begun c.deref.result.now = record { most = most_kept b.mode b.may_turn; enough = enough_kept b.mode b.may_turn; is = c.deref.ensures.value ∙ holds.kept } in
    let reads = c.in_ok-gained.ensures.reads begun kept holds.none holds.cr in
    let some = iff_false c.is_empty.ensures c.if-is_empty.false in
    let P : Bool → Type 0 = λ a. ReadsOn b.mode begun c.args.bytes.now g.lines g.mode g.used a in
    takes_some (under b) (under c.begin.new.self) begun c.args.bytes.now g.lines g.mode g.used g.used true [] some (subst P c.if-gained.true reads) c.in_ok-begin.ensures.ok refl refl

pub returns-clause-turns : goal.returns-clause-turns
returns-clause-turns c =
    let g = c.in_ok-gained.gained in
    let some = iff_false c.is_empty.ensures c.if-is_empty.false in
    may_turn-is c.in_ok-begin-2.ensures.ok ∙ sym c.if-gained.false ∙ c.in_ok-gained.ensures.asks ∙ asked_after-some false c.args.self.now.may_turn g.lines some

pub returns-clause-takes : goal.returns-clause-takes
returns-clause-takes c =
    λ begun holds.
    let b = c.args.self.now in
    let g = c.in_ok-gained.gained in
    let kept : IsKept b.mode begun c.deref.result.now = record { most = most_kept b.mode b.may_turn; enough = enough_kept b.mode b.may_turn; is = c.deref.ensures.value ∙ holds.kept } in
    let reads = c.in_ok-gained.ensures.reads begun kept holds.none holds.cr in
    let some = iff_false c.is_empty.ensures c.if-is_empty.false in
    let P : Bool → Type 0 = λ a. ReadsOn b.mode begun c.args.bytes.now g.lines g.mode g.used a in
    let bytes = c.args.bytes.now in
    let tail = take (length bytes - g.used) (drop g.used bytes) in
    let none : has_end g.mode tail ≡ false = ap (has_end g.mode) (take_rest bytes g.used) ∙ reads.all some c.if-gained.false in
    let left : tail ++ drop (length bytes) bytes ≡ drop g.used bytes =
    ap (λ x. tail ++ x) (drop_all (length bytes) bytes (omega arith)) ∙ append-nil tail ∙ take_rest bytes g.used in
    takes_some (under b) (under c.begin-2.new.self) begun bytes g.lines g.mode g.used (length bytes) false tail some (subst P c.if-gained.false reads) c.in_ok-begin-2.ensures.ok none left
