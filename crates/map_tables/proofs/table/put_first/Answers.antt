use Rattle.map_tables.proofs.TableLemmas.{first_known, put_new}
use Rattle.map_tables.proofs.table.put_first.Goals as goal

pub returns-in-Some : goal.returns-in-Some
returns-in-Some c = first_known c.args.key c.args.value c.args.pairs.now _ c.in-Some.ensures

pub returns-in-None : goal.returns-in-None
returns-in-None c = put_new c.set.result c.args.key c.args.value c.args.pairs.now c.set.new.self c.in-None.ensures c.set.ensures.ok
