use Rattle.std.proofs.Common.{sym}
use Rattle.map_tables.specs.Answers.{answers}
use Rattle.map_tables.proofs.AnswerLemmas.{unless_sequence}
use Rattle.map_tables.proofs.MemberLemmas.{sequence_from}
use Rattle.map_tables.proofs.answering.before.Goals as goal

pub returns-then-is_sequence : goal.returns-then-is_sequence
returns-then-is_sequence c =
    sequence_from c.member_answers.result c.args.hosts.now c.args.key.now c.args.args.now c.args.maps.now c.args.map.now c.members_in.result.now c.members_in.ensures c.member_answers.ensures

pub returns : goal.returns
returns c =
    unless_sequence c.args.map.now.line.class c.args.hosts.now c.args.key.now c.args.args.now c.new.result (answers c.args.hosts.now c.args.key.now c.args.args.now c.args.maps.now) c.args.map.now (sym c.if-is_sequence.ensures)
