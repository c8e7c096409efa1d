use Rattle.std.proofs.Common.{◌≡◌, ℕ, List, ap, subst, sym, ◌∙◌}
use Rattle.std.specs.Prelude.{OnOk}
use Rattle.mail_base.specs.Catalogs.{value_at}
use Rattle.map_tables.specs.Tables.{with_first}
use Rattle.map_tables.proofs.TableLemmas.{first_known, put_new}
use Rattle.map_tables.proofs.texts.put_place.Goals as goal

pub returns-in-Some : goal.returns-in-Some
returns-in-Some c = first_known c.args.name.now c.args.place c.args.places.now _ c.in-Some.ensures

pub returns-in_ok-copy-in-None : goal.returns-in_ok-copy-in-None
returns-in_ok-copy-in-None c =
    subst (λ (name : List ℕ). OnOk c.set.result (c.set.new.self ≡ with_first c.args.places.now (name, c.args.place))) c.in_ok-copy-in-None.ensures
    (put_new c.set.result c.in_ok-copy-in-None.field-0 c.args.place c.args.places.now c.set.new.self
    (c.in-None.ensures ∙ sym (ap (λ (name : List ℕ). value_at name c.args.places.now) c.in_ok-copy-in-None.ensures)) c.set.ensures.ok)
