use Rattle.std.proofs.Common.{◌≡◌, ◌<◌, ◌≤◌, true, false, drop}
use Rattle.addr_tokens.specs.Reader.{past_comment}
use Rattle.addr_tokens.proofs.ending.comment_end.Given as goal

abbrev pub invariant-bytes : goal.invariant-bytes
invariant-bytes l = record {
  rest : past_comment l.depth l.quoted (drop l.index l.text) ≡ past_comment 0 false l.text;
  some : l.quoted ≡ true → 0 < l.index;
  depth : l.depth ≤ l.index;
}
