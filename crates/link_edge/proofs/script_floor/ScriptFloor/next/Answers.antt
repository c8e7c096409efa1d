-- The step at the place is the next one.
use Rattle.std.proofs.Common.{◌≡◌, ◌∙◌, Some, None, sym, ap, arith, slice_get, length}
use Rattle.std.specs.Prelude.{option_copied}
use Rattle.std.proofs.lemmas.Option.{slice_get_within}
use Rattle.link_edge.specs.inner.Rests.{rest_at}
use Rattle.link_edge.proofs.Stepping.{stop_here, none_later, heard_here, later_same, later_next}
use Rattle.link_edge.proofs.script_floor.ScriptFloor.next.Goals as goal

pub returns-in_default-clause-heard : goal.returns-in_default-clause-heard
returns-in_default-clause-heard c =
    let past : slice_get c.args.self.now.steps c.args.self.now.at ≡ None = sym c.get.ensures ∙ ap option_copied c.in_default.is in
    stop_here c.args.self.now.told _ (length c.args.buf.now) c.args.self.now.said c.args.self.now.at c.args.self.now.steps _ past c.in_ok-pass.ensures.told

pub returns-in_default-clause-later : goal.returns-in_default-clause-later
returns-in_default-clause-later c =
    let past : slice_get c.args.self.now.steps c.args.self.now.at ≡ None = sym c.get.ensures ∙ ap option_copied c.in_default.is in
    none_later c.args.self.now.told (length c.args.buf.now) c.args.self.now.said c.args.self.now.at c.args.self.now.steps past

pub overflow_add-self : goal.overflow_add-self
overflow_add-self c =
    let here : slice_get c.args.self.now.steps c.args.self.now.at ≡ Some c.in-Some.step.now = sym c.get.ensures ∙ ap option_copied c.in-Some.is in
    let within = slice_get_within c.args.self.now.steps c.args.self.now.at c.in-Some.step.now here in
    omega arith

pub returns-in-Some-count-clause-heard : goal.returns-in-Some-count-clause-heard
returns-in-Some-count-clause-heard c =
    let here : slice_get c.args.self.now.steps c.args.self.now.at ≡ Some c.in-Some.step.now = sym c.get.ensures ∙ ap option_copied c.in-Some.is in
    heard_here c.args.self.now.told _ (length c.args.buf.now) c.args.self.now.said c.args.self.now.at c.args.self.now.steps c.in-Some.step.now _ _ here c.in_ok-turn.ensures.heard

pub returns-in-Some-count-clause-later : goal.returns-in-Some-count-clause-later
returns-in-Some-count-clause-later c =
    let here : slice_get c.args.self.now.steps c.args.self.now.at ≡ Some c.in-Some.step.now = sym c.get.ensures ∙ ap option_copied c.in-Some.is in
    later_same c.args.self.now.told (length c.args.buf.now) c.args.self.now.said c.args.self.now.at c.args.self.now.steps c.in-Some.step.now _ here (sym (ap (rest_at c.in-Some.step.now) c.in-Some-count.is) ∙ c.in_ok-turn.ensures.left)

pub returns-in-None-clause-heard : goal.returns-in-None-clause-heard
returns-in-None-clause-heard c =
    let here : slice_get c.args.self.now.steps c.args.self.now.at ≡ Some c.in-Some.step.now = sym c.get.ensures ∙ ap option_copied c.in-Some.is in
    heard_here c.args.self.now.told _ (length c.args.buf.now) c.args.self.now.said c.args.self.now.at c.args.self.now.steps c.in-Some.step.now _ _ here c.in_ok-turn.ensures.heard

pub returns-in-None-clause-later : goal.returns-in-None-clause-later
returns-in-None-clause-later c =
    let here : slice_get c.args.self.now.steps c.args.self.now.at ≡ Some c.in-Some.step.now = sym c.get.ensures ∙ ap option_copied c.in-Some.is in
    later_next c.args.self.now.told (length c.args.buf.now) c.args.self.now.said c.args.self.now.at c.args.self.now.steps c.in-Some.step.now here (sym (ap (rest_at c.in-Some.step.now) c.in-None.is) ∙ c.in_ok-turn.ensures.left)
