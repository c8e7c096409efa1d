use Rattle.std.proofs.Common.{◌≡◌, refl, ap, ◌∙◌}
use Rattle.std.specs.Option.{option_copied_mut}
use Rattle.mail_base.specs.Catalogs.{value_at}
use Rattle.mail_base.proofs.CatalogLemmas.{written}
use Rattle.mail_base.proofs.catalog.Catalog.get_mut.Goals as goal

pub returns : goal.returns
returns g c =
    let es = c.self.inside.entries.entries in
    let seen : option_copied_mut c.get_mut.result ≡ value_at c.args.name.now es = c.get_mut.ensures.value in
    ((refl, (λ w. rw (← c.self.view_is) (written c.get_mut.result c.args.name.now w es (c.get_mut.follows.lender w).entries seen (c.get_mut.follows.holds w).0)), ap (λ m. m.entries) c.get_mut.follows.holds-at-none ∙ c.self.view_is), record { lends = tt; value = seen ∙ ap (value_at c.args.name.now) c.self.view_is })
