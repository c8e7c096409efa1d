-- A lane that has room stands against it; and where none has, nothing is free.
use Rattle.std.proofs.Common.{◌≡◌, ◌∙◌, [], ℕ, List, ap, arith, false, sym}
use Rattle.std.proofs.lemmas.Bool.{false≢true}
use Rattle.queue_table.specs.Claims.{has_room}
use Rattle.queue_table.specs.declared.waiting.Holder.{Holder}
use Rattle.queue_table.specs.declared.waiting.Lane.{Lane}
use Rattle.queue_table.proofs.ClaimLemmas.{none_free}
use Rattle.queue_table.proofs.waiting.Waiting.is_full.Goals as goal

pub returns-then-has_room_at-clause-is : goal.returns-then-has_room_at-clause-is
returns-then-has_room_at-clause-is c =
    let d : List ℕ × Lane = ([], c.args.self.now.other) in
    ((λ t. absurd (false≢true t)), (λ full. sym (c.has_room_at.ensures d ∙ full.1 c.loop-place.place d (omega (arith, c.loop-place-test.true, c.len-place-end.ensures))) ∙ c.if-has_room_at.true))

pub returns-clause-none : goal.returns-clause-none
returns-clause-none c =
    let other : has_room c.args.self.now.holders c.args.self.now.other ≡ false = ap (λ (hs : List Holder). has_room hs c.args.self.now.other) (sym c.items.ensures) ∙ sym c.has_room.ensures ∙ c.if-has_room.false in
    λ yes_ h. none_free c.args.self.now (other, (λ k d lt. c.loop-place.invariant k d (omega (arith, lt, c.loop-place-test.false, c.len-place-end.ensures)))) h
