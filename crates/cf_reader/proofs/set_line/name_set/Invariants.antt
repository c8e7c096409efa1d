use Rattle.std.proofs.Common.{◌≡◌, ◌<◌, length, drop}
use Rattle.std.specs.Prelude.{set, get_or}
use Rattle.mail_base.specs.Rulesets.{Ruled}
use Rattle.cf_reader.specs.SetLines.{with_names}
use Rattle.cf_reader.proofs.set_line.name_set.Given as goal

abbrev pub invariant-loop-name : goal.invariant-loop-name
invariant-loop-name l = record {
  within : l.place < length l.book;
  rest : (d : Ruled) → set l.book l.place (with_names (drop l.name-index l.names) (get_or l.book l.place d)) ≡ set l.fn.book l.place (with_names l.fn.names (get_or l.fn.book l.place d));
}
