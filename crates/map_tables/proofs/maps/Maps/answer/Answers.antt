use Rattle.std.proofs.Common.{◌≡◌, None, subst}
use Rattle.std.specs.Prelude.{IfOk}
use Rattle.map_tables.specs.Answers.{Loaded, map_answer}
use Rattle.map_tables.proofs.AnswerLemmas.{answers_named, none_named}
use Rattle.map_tables.proofs.maps.Maps.answer.Goals as goal

pub returns-in-Some : goal.returns-in-Some
returns-in-Some c =
    subst (λ (l : Loaded). IfOk c.place_answer.result (λ given. given ≡ map_answer l c.args.name.now c.args.key.now c.args.args.now)) c.self.view_is
    (answers_named c.self.inside.hosts c.args.key.now c.args.args.now c.place_answer.result c.items.result.now c.self.inside.maps c.self.inside.places c.args.name.now c.in-Some.place.now
    c.self.invariant c.in-Some.ensures c.items.ensures c.place_answer.ensures)

pub returns-in-None : goal.returns-in-None
returns-in-None c =
    subst (λ (l : Loaded). None ≡ map_answer l c.args.name.now c.args.key.now c.args.args.now) c.self.view_is
    (none_named c.self.inside.hosts c.args.key.now c.args.args.now c.self.inside.maps c.self.inside.places c.args.name.now c.self.invariant c.in-None.ensures)
