use Rattle.std.proofs.Common.{◌≡◌, ◌∷◌}
use Rattle.cf_reader.specs.Faults.{fault}
use Rattle.cf_reader.specs.Letters.{after_line}
use Rattle.cf_reader.specs.inner.Steps.{Seeks}
use Rattle.cf_reader.proofs.ReadingLemmas.{if_all}
use Rattle.cf_reader.proofs.TakeLemmas.{option_seeks}
use Rattle.cf_reader.proofs.state.State.take.Goals as goal

pub returns-in-79-clause-told : goal.returns-in-79-clause-told
returns-in-79-clause-told g c =
    let line : c.args.line.now.text ≡ 79 ∷ c.in-Some.text.now = cc (c.bytes.ensures, c.in-Some.ensures.cases.0, c.in-79.is) in
    if_all {P = λ map. Seeks c.take_option.result (fault map c.args.self.now c.args.line.now.text) (after_line map c.args.line.now c.args.self.now) c.take_option.new.self} (g.F.Files.seen c.args.files.now).map
    (λ map. option_seeks map c.args.self.now c.take_option.new.self c.args.line.now.number c.args.line.now.text c.in-Some.text.now c.take_option.result line c.take_option.ensures)
