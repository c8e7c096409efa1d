use Rattle.std.proofs.Common.{sym, ◌∙◌}
use Rattle.addr_tokens.proofs.TableLemmas.{lone_byte_is, asked_byte_is}
use Rattle.addr_tokens.proofs.table.asked_bytes.Goals as goal

pub returns-clause-lone : goal.returns-clause-lone
returns-clause-lone c = λ b few none. lone_byte_is c.args.listed _ b (c.list_low.ensures.kept b) (c.list_low.ensures.low b) (sym (c.list.ensures b few) ∙ none)

pub returns-clause-ends : goal.returns-clause-ends
returns-clause-ends c = λ b few is. asked_byte_is c.args.listed _ b (c.list_low.ensures.only b) (sym (c.list.ensures b few) ∙ is)
