-- The parts of a message, each of which becomes an entry (Sendmail Installation and Operation Guide,
-- "Queue Groups", the field recipients; that parts are told apart by sender too is our own).
use Rattle.std.specs.Prelude.{◌≡◌, ℕ, zero, suc, ◌<◌, ◌≤◌, List, [], ◌∷◌, All, Bool, true, ◌&&◌, Option, None, Some, bytes_eq, codes, drop, filter, length, map, max, take, refl}
use Rattle.std.specs.List.{flat_map, zip}
use Rattle.mail_base.specs.Catalogs.{value_at}
use Rattle.mail_base.specs.Configs.{initial, main_group}
use Rattle.mail_base.specs.Drawing.{IsDrawn}
use Rattle.mail_base.specs.Limits.{most_rows}
use Rattle.mail_base.specs.Texts.{IsBracketed, IsLine}
use Rattle.mail_base.specs.declared.config.Config.{Config}
use Rattle.mail_base.specs.declared.draw.Draw.{Draw}
use Rattle.mail_base.specs.declared.mailer.Group.{Group}
use Rattle.mail_base.specs.declared.message.Cut.{Cut}
use Rattle.mail_base.specs.declared.route.Resolved.TheVariants.{Goes}
use Rattle.queue_plan.specs.declared.heading.Heading.{Heading}
use Rattle.queue_plan.specs.Rows.{firsts}

-- ---- rows by sender and group

-- a row with the name of its group
abbrev pub Placed : Type 0
Placed = Draw × List ℕ

-- its sender and its group
abbrev pub heading_of : Placed → Heading
heading_of placed = record { sender = placed.0.sender; group = placed.1 }

abbrev pub same_heading : Heading → Heading → Bool
same_heading one other = bytes_eq one.sender other.sender && bytes_eq one.group other.group

-- the pairs of a sender and a group, in the order in which they are first met
abbrev pub headings : List Placed → List Heading
headings placed = firsts same_heading (map heading_of placed)

-- the rows of a sender and a group, in their order
abbrev pub rows_of : Heading → List Placed → List Draw
rows_of heading placed =
    map (λ p. p.0) (filter (λ p. same_heading heading (heading_of p)) placed)

-- ---- rows by number

-- a list in portions: the first so many items, and then the others in the same way; only the last
-- portion may be smaller. There are no more portions than the first number says
abbrev pub portions_within : {X : Type 0} → ℕ → ℕ → List X → List (List X)
portions_within zero size xs = []
portions_within (suc n) size [] = []
portions_within (suc n) size (x ∷ xs) =
    take size (x ∷ xs) ∷ portions_within n size (drop size (x ∷ xs))

abbrev pub portions : {X : Type 0} → ℕ → List X → List (List X)
portions size xs = portions_within (length xs) size xs

-- the most recipients of an entry of a group; 0 is no limit, as where there is no such group
abbrev pub limit_of : Option Group → ℕ
limit_of None = 0
limit_of (Some group) = group.recipients

-- the items of a portion: as many as the limit says, and without one all
abbrev pub portion_size : ℕ → ℕ → ℕ
portion_size zero count = max 1 count
portion_size (suc n) count = suc n

abbrev pub within_limit : {X : Type 0} → ℕ → List X → List (List X)
within_limit limit xs = portions (portion_size limit (length xs)) xs

-- ---- the parts

abbrev pub cut_of : Heading → List Draw → Cut
cut_of heading rows =
    record { sender = heading.sender; group = heading.group; rows = rows }

-- those of a sender and a group
abbrev pub parts_under : Config → List Placed → Heading → List Cut
parts_under config placed heading =
    map (cut_of heading)
    (within_limit (limit_of (value_at heading.group config.groups)) (rows_of heading placed))

-- the parts of rows, each of which goes to the group at its place
abbrev pub parts_of : Config → List Draw → List (List ℕ) → List Cut
parts_of config rows groups =
    let placed = zip rows groups in flat_map (parts_under config placed) (headings placed)

row : List ℕ → ℕ → Draw
row sender n = record {
  address = n ∷ [];
  sender = sender;
  primary = true;
  resolved = Goes (record { mailer = codes "smtp"; host = codes "far"; user = n ∷ [] });
}

-- a configuration whose group bulk has two recipients an entry
bulk : Config
bulk = record initial {
  groups = (codes "mqueue", main_group)
      ∷ (codes "bulk", record main_group { recipients = 2 }) ∷ [];
}

-- three portions; two senders, and a group that is met before the main one
example : (portions {X = ℕ} 2 (1 ∷ 2 ∷ 3 ∷ 4 ∷ 5 ∷ []) ≡ (1 ∷ 2 ∷ []) ∷ (3 ∷ 4 ∷ []) ∷ (5 ∷ []) ∷ [])
    × (parts_of bulk (row (codes "<a>") 1 ∷ row (codes "<b>") 2 ∷ row (codes "<a>") 3
    ∷ row (codes "<a>") 4 ∷ row (codes "<a>") 5 ∷ [])
    (codes "bulk" ∷ codes "bulk" ∷ codes "mqueue" ∷ codes "bulk" ∷ codes "bulk" ∷ [])
    ≡ record { sender = codes "<a>"; group = codes "bulk"; rows = row (codes "<a>") 1 ∷ row (codes "<a>") 4 ∷ [] }
    ∷ record { sender = codes "<a>"; group = codes "bulk"; rows = row (codes "<a>") 5 ∷ [] }
    ∷ record { sender = codes "<b>"; group = codes "bulk"; rows = row (codes "<b>") 2 ∷ [] }
    ∷ record { sender = codes "<a>"; group = codes "mqueue"; rows = row (codes "<a>") 3 ∷ [] } ∷ [])
unfolding row bulk
example = (refl, refl)

-- the part is one of that sender and group
abbrev pub is_under : Heading → Cut → Bool
is_under heading cut =
    same_heading heading (record { sender = cut.sender; group = cut.group })

-- ---- what a part may be

-- a part that may become an entry
pub record IsPart (cut : Cut) : Type 0 where
  pub sender : IsBracketed cut.sender
  pub group : IsLine cut.group
  pub some : 0 < length cut.rows
  pub few : length cut.rows ≤ most_rows
  pub each : All IsDrawn cut.rows

-- so many rows are within a limit; 0 is none
abbrev pub IsWithin : ℕ → ℕ → Type 0
IsWithin limit count = 0 < limit → count ≤ limit
