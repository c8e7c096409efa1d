-- What equal rows have in common. It need not be believed: only private contracts cite it.
use Rattle.std.specs.Prelude.{ℕ, List, [], ◌∷◌, ◌++◌, Bool, false, ◌&&◌, bytes_eq, if◌then◌else◌}
use Rattle.std.specs.List.{list_any}
use Rattle.mail_base.specs.declared.draw.Draw.{Draw}
use Rattle.mail_base.specs.declared.route.Resolved.{Resolved}
use Rattle.mail_base.specs.declared.route.Resolved.TheVariants.{Goes, Refuses}
use Rattle.queue_plan.specs.declared.target.Target.{Target}
use Rattle.queue_plan.specs.declared.target.Target.TheVariants as target

abbrev pub target_by : List ℕ → Resolved → Target
target_by address (Goes triple) = target.Goes triple.mailer triple.host triple.user
target_by address (Refuses error) = target.Refused address

abbrev pub target_of : Draw → Target
target_of row = target_by row.address row.resolved

abbrev pub same_target : Target → Target → Bool
same_target (target.Goes a b c) (target.Goes x y z) = bytes_eq a x && bytes_eq b y && bytes_eq c z
same_target (target.Goes a b c) (target.Refused y) = false
same_target (target.Refused x) (target.Goes a b c) = false
same_target (target.Refused x) (target.Refused y) = bytes_eq x y

-- rows that are kept, with one more where its target is none of these
abbrev pub with_row : List Target → List Draw → Draw → List Draw
with_row met kept row =
    if list_any (same_target (target_of row)) met then kept else kept ++ row ∷ []
