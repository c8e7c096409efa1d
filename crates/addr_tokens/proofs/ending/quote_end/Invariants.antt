use Rattle.std.proofs.Common.{◌≡◌, ◌<◌, true, false, drop}
use Rattle.addr_tokens.specs.Reader.{past_quote}
use Rattle.addr_tokens.proofs.ending.quote_end.Given as goal

abbrev pub invariant-bytes : goal.invariant-bytes
invariant-bytes l = record {
  rest : past_quote l.quoted (drop l.index l.text) ≡ past_quote false l.text;
  some : l.quoted ≡ true → 0 < l.index;
}
