use Rattle.std.proofs.Common.{◌≡◌, List, ap, sym, subst, ◌∙◌}
use Rattle.std.specs.List.{find}
use Rattle.mail_base.specs.Places.{IsIndexed}
use Rattle.map_tables.specs.Hosts.{has_name}
use Rattle.map_tables.specs.declared.hosts.HostLine.{HostLine}
use Rattle.map_tables.proofs.host_table.HostTable.line_of.Goals as goal

pub returns : goal.returns
returns c =
    let lines : c.items.result.now ≡ c.self.inside.lines = c.items.ensures in
    c.first.ensures (subst (λ (shown : List HostLine). IsIndexed has_name shown c.self.inside.places) (sym lines) c.self.invariant)
    ∙ ap (find (has_name c.args.name.now)) (lines ∙ c.self.view_is)
