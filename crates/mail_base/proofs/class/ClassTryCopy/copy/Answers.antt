use Rattle.std.proofs.Common.{[], ap, ◌∙◌}
use Rattle.mail_base.specs.Classes.{with_members}
use Rattle.mail_base.proofs.ClassLemmas.{all_again}
use Rattle.mail_base.proofs.class.ClassTryCopy.copy.Goals as goal

pub returns : goal.returns
returns c =
    let members = c.self.inside.members.keys in
    c.in_ok-extend.ensures.ok
    ∙ ap (λ done. with_members done c.in_ok-copies.field-0) c.new-copied.ensures
    ∙ ap (with_members []) (c.in_ok-copies.ensures ∙ c.as_slice.ensures.keys)
    ∙ all_again members c.as_slice.ensures.unique
    ∙ c.self.view_is
