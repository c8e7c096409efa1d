use Rattle.addr_tokens.proofs.ScanLemmas.{seen_lexemes}
use Rattle.addr_tokens.proofs.scan.lexemes.Goals as goal

pub returns-clause-lexemes : goal.returns-clause-lexemes
returns-clause-lexemes c = seen_lexemes c.args.angles _ c.args.text.now _ c.args.operators.now c.scan.result c.bytes.ensures c.bytes-2.ensures c.scan.ensures.given
