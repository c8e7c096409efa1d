use Rattle.std.proofs.Common.{◌-◌, length, drop, take, sym, ap, subst, ◌∙◌, arith}
use Rattle.std.specs.Prelude.{fold}
use Rattle.std.proofs.lemmas.List.{length-drop, take_rest}
use Rattle.mail_submit.specs.Inputs.{Stands, with_byte}
use Rattle.mail_submit.proofs.BehindLemmas.{behind_itself, behind_join}
use Rattle.mail_submit.proofs.ReadLemmas.{takes_end, takes_more, takes_stuck}
use Rattle.mail_submit.proofs.held.Held.take.Goals as goal

pub lines-init : goal.lines-init
lines-init c = record { within = omega arith; stands = λ dot r s. s; behind = behind_itself c.args.self.now c.args.self.now.ended }

pub lines-preserved : goal.lines-preserved
lines-preserved c =
    let piece = c.args.piece.now in
    let place = c.lines.place in
    let taken = c.in_ok-taken.taken in
    let rest = take (length piece - place) (drop place piece) in
    record {
      within = omega (arith, c.in_ok-taken.ensures.all, ap length (take_rest piece place), length-drop place piece);
      stands = λ dot r s.
          subst (Stands c.take_line.new.self dot) (takes_more dot r piece rest place taken (take_rest piece place))
          (c.in_ok-taken.ensures.ok dot (fold (with_byte dot) r (take place piece)) (c.lines.invariant.stands dot r s));
      behind = behind_join c.args.self.now c.lines.self c.take_line.new.self c.lines.invariant.behind c.take_line.ensures.behind;
    }

pub returns-then-self-clause-ok : goal.returns-then-self-clause-ok
returns-then-self-clause-ok c = λ dot r s.
    let stands = c.lines.invariant.stands dot r s in
    subst (Stands c.lines.self dot) (takes_stuck dot r c.args.piece.now c.lines.place (sym stands.ended ∙ c.if-self.true)) stands

pub returns-in_err-taken-clause-behind : goal.returns-in_err-taken-clause-behind
returns-in_err-taken-clause-behind c = behind_join c.args.self.now c.lines.self c.take_line.new.self c.lines.invariant.behind c.take_line.ensures.behind

pub returns-clause-ok : goal.returns-clause-ok
returns-clause-ok c = λ dot r s.
    subst (Stands c.lines.self dot) (takes_end dot r c.args.piece.now c.lines.place c.lines-test.false) (c.lines.invariant.stands dot r s)
