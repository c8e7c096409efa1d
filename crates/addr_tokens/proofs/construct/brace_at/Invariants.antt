use Rattle.std.proofs.Common.{◌≡◌, take, drop}
use Rattle.addr_tokens.specs.Reader.{in_braces}
use Rattle.addr_tokens.proofs.DollarLemmas.{with_front}
use Rattle.addr_tokens.proofs.construct.brace_at.Given as goal

abbrev pub invariant-bytes : goal.invariant-bytes
invariant-bytes l = in_braces l.text ≡ with_front (take l.index l.text) (in_braces (drop l.index l.text))
