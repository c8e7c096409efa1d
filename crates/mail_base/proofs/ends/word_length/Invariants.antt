use Rattle.std.proofs.Common.{◌≡◌, ◌+◌, drop}
use Rattle.std.specs.List.{position_or_len}
use Rattle.mail_base.specs.Whites.{is_white}
use Rattle.mail_base.proofs.ends.word_length.Given as goal

abbrev pub invariant-loop-index : goal.invariant-loop-index
invariant-loop-index l = l.index + position_or_len is_white (drop l.index l.text) ≡ position_or_len is_white l.text
