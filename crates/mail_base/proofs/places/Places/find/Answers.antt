use Rattle.std.proofs.Common.{ℕ, Option, sym, subst, ◌∙◌, ◌≡◌}
use Rattle.std.specs.Prelude.{IfSome}
use Rattle.std.specs.Option.{option_copied}
use Rattle.mail_base.specs.Places.{IsFound}
use Rattle.mail_base.specs.inner.Looking.{looked}
use Rattle.mail_base.proofs.PlaceLemmas.{looked_by, first_looked, found_looked}
use Rattle.mail_base.proofs.places.Places.find.Goals as goal

is_looked : (g : _) (c : goal.After-earliest g) → c.earliest.result ≡ looked (g.T.Named.has_name c.args.name.now) c.args.items.now c.args.self.now c.args.name.now
is_looked g c =
    looked_by (g.T.Named.has_name c.args.name.now) c.args.items.now (record { index = c.self.inside.index.entries; others = c.self.inside.others }) c.args.self.now c.args.name.now c.items.result.now c.hash_of.result
    (option_copied c.get.result) c.found_at-found.result c.earliest.result c.earliest.ensures c.items.ensures c.found_at-found.ensures c.get.ensures.value c.hash_of.ensures c.self.view_is

pub returns-clause-first : goal.returns-clause-first
returns-clause-first g c = λ indexed. is_looked g c ∙ first_looked g.T.Named.has_name c.args.items.now c.args.self.now c.args.name.now indexed

pub returns-clause-found : goal.returns-clause-found
returns-clause-found g c =
    subst (λ (o : Option ℕ). IfSome o (IsFound g.T.Named.has_name c.args.items.now c.args.self.now c.args.name.now)) (sym (is_looked g c))
    (found_looked g.T.Named.has_name c.args.items.now c.args.self.now c.args.name.now)
