-- What is seen of a spool, and what a call on it may change (own).
use Rattle.std.specs.Prelude.{◌≡◌, ◌⊎◌, ℕ, ◌≤◌, Option, Some, None}
use Rattle.spool_disk.specs.Disk.{FileMap}

-- its files, where they are told; a number that never falls; what a stop from a moment on may have
-- left; how often it failed
pub record Spooled : Type 1 where
  pub told : Option FileMap
  pub moment : ℕ
  pub left_since : ℕ → FileMap → Type 0
  pub faults : ℕ

-- what is told becomes one of a call's images, and is done if the call went well; whether it is
-- told never changes
abbrev pub Leads : Option FileMap → Option FileMap → (FileMap → FileMap → Type 0)
    → (FileMap → FileMap → Type 0) → Type 0 → Type 0
Leads None None Image Done well = Unit {0}
Leads (Some old) (Some new) Image Done well = Image old new × (well → Done old new)
Leads None (Some new) Image Done well = ⊥
Leads (Some old) None Image Done well = ⊥

-- a call leads to one of its images, and a stop since a moment may leave what it may have left
-- before the call, or one of those images
pub record Calls (old new : Spooled) (Image Done : FileMap → FileMap → Type 0)
    (well : Type 0) : Type 0 where
  pub later : old.moment ≤ new.moment
  pub now : Leads old.told new.told Image Done well
  pub images : (files : FileMap) → old.told ≡ Some files → (t : ℕ) (c : FileMap) → t ≤ old.moment
      → new.left_since t c → old.left_since t c ⊎ Image files c
  pub kept : (t : ℕ) (c : FileMap) → old.left_since t c → new.left_since t c

-- nothing changes
abbrev pub Rests : FileMap → FileMap → Type 0
Rests old new = new ≡ old

-- a call that changes nothing
abbrev pub Reads : Spooled → Spooled → Type 0
Reads old new = Calls old new Rests Rests (Unit {0})
