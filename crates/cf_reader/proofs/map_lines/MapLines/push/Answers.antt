use Rattle.std.proofs.Common.{◌∙◌}
use Rattle.cf_reader.proofs.PlaceLemmas.{placed_pushed}
use Rattle.cf_reader.proofs.map_lines.MapLines.push.Goals as goal

pub invariant_of-self-in_default-set : goal.invariant_of-self-in_default-set
invariant_of-self-in_default-set c =
    placed_pushed c.self.inside.lines c.push.new.self c.args.line c.in_ok-name.name c.in-Ok.place c.self.inside.places c.set.new.self c.self.invariant c.in_ok-push.ensures.ok c.in_ok-name.ensures (c.in-Ok.ensures.1 ∙ c.len-count.ensures) c.in_default-set.ensures.sets
