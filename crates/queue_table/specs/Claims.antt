-- Which entry is claimed next (Sendmail Installation and Operation Guide, "Queue Groups": Runners
-- and Interval; that a group which isn't configured counts as mqueue is our own).
use Rattle.std.specs.Prelude.{◌≡◌, ℕ, ◌<◌, nat_lt, ◌&&◌, List, Option, None, Some, Bool, true, false, not, eqb, bytes_eq, count_by, codes, [], ◌∷◌, All, Contains, refl}
use Rattle.std.specs.List.{list_any}
use Rattle.mail_base.specs.Catalogs.{value_at}
use Rattle.spool_store.specs.declared.held.Held.{Held}
use Rattle.queue_table.specs.Order.{IsBefore, is_due}
use Rattle.queue_table.specs.declared.waiting.Holder.{Holder}
use Rattle.queue_table.specs.declared.waiting.Lane.{Lane}
use Rattle.queue_table.specs.declared.waiting.Waiting.{Waiting}

-- a lane, or another one where there is none
abbrev pub or_lane : Lane → Option Lane → Lane
or_lane other None = other
or_lane other (Some lane) = lane

-- the lane of a group
abbrev pub lane_of : Waiting → List ℕ → Lane
lane_of w group = or_lane w.other (value_at group w.lanes)

abbrev pub is_held : List Holder → ℕ → Bool
is_held holders id = list_any (λ h. eqb h.id id) holders

-- fewer entries of a lane are held than may be at once
abbrev pub has_room : List Holder → Lane → Bool
has_room holders lane = nat_lt (count_by (λ h. bytes_eq h.lane lane.group) holders) lane.runners

-- no lane has room
abbrev pub IsFull : Waiting → Type 0
IsFull w =
    (has_room w.holders w.other ≡ false) × All (λ p. has_room w.holders p.1 ≡ false) w.lanes

-- nobody holds the entry, and its lane has room
abbrev pub is_free : Waiting → Held → Bool
is_free w h =
    not (is_held w.holders h.entry.id) && has_room w.holders (lane_of w h.entry.control.group)

-- and it is due
abbrev pub may_claim : Waiting → ℕ → Held → Bool
may_claim w moment h =
    is_free w h && is_due h.entry.control moment (lane_of w h.entry.control.group).wait

-- of the entries that may be claimed it is one before which no other goes
pub record IsLeast (w : Waiting) (moment : ℕ) (entries : List Held) (id : ℕ) : Type 0 where
  pub held : Held
  pub among : Contains entries held
  pub is : held.entry.id ≡ id
  pub may : may_claim w moment held ≡ true
  pub least : All (λ h. may_claim w moment h ≡ true → IsBefore h.entry held.entry → ⊥) entries

-- the least of the entries that may be claimed, or none where there is none
abbrev pub IsLeastDue : Waiting → ℕ → List Held → Option ℕ → Type 0
IsLeastDue w moment entries None = All (λ h. may_claim w moment h ≡ false) entries
IsLeastDue w moment entries (Some id) = IsLeast w moment entries id

-- before its moment no entry may be claimed
abbrev pub IsQuiet : Waiting → List Held → Type 0
IsQuiet w entries =
    (moment : ℕ) → moment < w.quiet → All (λ h. may_claim w moment h ≡ false) entries

-- where one entry of a lane is held that allows one, it is held and no other has room
example : (wait : ℕ)
    → (is_held (record { id = 7; lane = codes "bulk" } ∷ []) 7 ≡ true)
    × (has_room (record { id = 7; lane = codes "bulk" } ∷ [])
    (record { group = codes "bulk"; wait = wait; runners = 1 })
    ≡ false)
    × (has_room (record { id = 7; lane = codes "mqueue" } ∷ [])
    (record { group = codes "bulk"; wait = wait; runners = 1 })
    ≡ true)
example wait = (refl, refl, refl)
