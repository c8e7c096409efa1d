use Rattle.std.proofs.Common.{sym}
use Rattle.map_tables.proofs.AnswerLemmas.{place_is, place_lacks}
use Rattle.map_tables.proofs.answering.place_answer.Goals as goal

pub returns-in_ok-answer-in-Some : goal.returns-in_ok-answer-in-Some
returns-in_ok-answer-in-Some c =
    place_is c.args.hosts.now c.args.key.now c.args.args.now c.args.maps.now c.args.place c.in-Some.map.now c.in_ok-answer-in-Some.field-0 c.items.result.now c.in_ok-before-in-Some.before
    c.in_ok-answer-in-Some.ensures c.items.ensures c.in_ok-before-in-Some.ensures c.in-Some.ensures

pub returns-in-None : goal.returns-in-None
returns-in-None c = sym (place_lacks c.args.hosts.now c.args.key.now c.args.args.now c.args.maps.now c.args.place c.in-None.ensures)
