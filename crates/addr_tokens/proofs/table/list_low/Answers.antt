use Rattle.std.proofs.Common.{true, false, ◌∙◌, arith}
use Rattle.std.proofs.lemmas.List.{length-set, get_or-set_other}
use Rattle.addr_tokens.proofs.TableLemmas.{stays_listed, low_more}
use Rattle.addr_tokens.proofs.table.list_low.Goals as goal

pub bytes-preserved : goal.bytes-preserved
bytes-preserved c = record {
  size = length-set c.bytes.listed c.bytes.byte _ ∙ c.bytes.invariant.size;
  kept = λ b is. stays_listed c.bytes.listed c.bytes.byte b (omega arith) (c.bytes.invariant.kept b is);
  low = λ b few. low_more c.bytes.listed c.bytes.byte b (omega arith) (c.bytes.invariant.low b) few;
  only = λ b high. get_or-set_other c.bytes.listed c.bytes.byte b true false (λ e. omega (arith, e, high)) ∙ c.bytes.invariant.only b high;
}
