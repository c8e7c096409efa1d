-- What the bytes say has a text.
use Rattle.spool_store.proofs.Readings.{meaning_text}
use Rattle.spool_store.proofs.looking.found_of.Goals as goal

pub returns-clause-text : goal.returns-clause-text
returns-clause-text c = λ d e. meaning_text c.args.bytes.now c.in_ok-control.control c.in_ok-control.ensures d e
