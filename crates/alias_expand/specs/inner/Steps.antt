-- What a step of reading a tree gives, and how the rest of it goes on.
use Rattle.std.specs.Prelude.{◌≡◌, ℕ, ◌+◌, false, List, [], ◌∷◌, drop, Option, None, Some, Result, Ok, Err}
use Rattle.mail_base.specs.declared.route.Resolved.TheVariants.{Goes}
use Rattle.mail_base.specs.declared.route.Triple.{Triple}
use Rattle.mail_edge.specs.Seen.{FileMap}
use Rattle.alias_expand.specs.declared.frame.Frame.{Frame}
use Rattle.alias_expand.specs.declared.frame.Opened.{Opened}
use Rattle.alias_expand.specs.declared.members.Member.{Member}
use Rattle.alias_expand.specs.declared.reading.Reading.{Reading}
use Rattle.alias_expand.specs.declared.refusal.ExpandRefusal.{ExpandRefusal}
use Rattle.alias_expand.specs.declared.refusal.ExpandRefusal.TheVariants as refusals
use Rattle.alias_expand.specs.declared.stand.Stand.{Stand}
use Rattle.alias_expand.specs.Rows.{Act, Stops, Stays, Opens, Site, Ends, Meets, Reads, RoutesTo, Starts}

-- a refusal is one with P, but for faults of files and want of memory
abbrev pub StopsWith : ExpandRefusal → (ExpandRefusal → Type 0) → Type 0
StopsWith (refusals.Refuses error) P = P (refusals.Refuses error)
StopsWith refusals.TooDeep P = P refusals.TooDeep
StopsWith refusals.TooMany P = P refusals.TooMany
StopsWith (refusals.IncludeAbsent name) P = P (refusals.IncludeAbsent name)
StopsWith refusals.NoOne P = P refusals.NoOne
StopsWith refusals.FilesFault P = Unit {0}
StopsWith refusals.NoMemory P = Unit {0}

-- files failed, or memory ran out
abbrev pub IsDeviceFault : ExpandRefusal → Type 0
IsDeviceFault refusal = StopsWith refusal (λ r. ⊥)

-- what was done is an act with P, where this was read
abbrev pub Does : Result (Option Opened) ExpandRefusal → Reading → (Act → Type 0) → Type 0
Does (Ok None) reading P = P (Stays reading)
Does (Ok (Some opened)) reading P = P (Opens opened.stand opened.members reading)
Does (Err refusal) reading P = StopsWith refusal (λ r. P (Stops r))

-- the members of a frame that are left
abbrev pub left_of : Frame → List Member
left_of frame = drop frame.next frame.members

-- a frame whose next member was read
abbrev pub advanced : Frame → Frame
advanced frame = record { stand = frame.stand; members = frame.members; next = frame.next + 1 }

-- the frame of members of which none was read
abbrev pub frame_of : Opened → Frame
frame_of opened = record { stand = opened.stand; members = opened.members; next = 0 }

abbrev pub frames_of : Option Opened → List Frame
frames_of None = []
frames_of (Some opened) = frame_of opened ∷ []

-- members were read, and come to an end with P
abbrev pub ReadsTo : Result Unit ExpandRefusal → Reading → (Result Reading ExpandRefusal → Type 0) → Type 0
ReadsTo (Ok done) reading P = P (Ok reading)
ReadsTo (Err refusal) reading P = StopsWith refusal (λ r. P (Err r))

module _ (site : Site) (files : Option FileMap) where
  -- what an address comes to, by the triple to which it goes
  abbrev pub Met : Stand → Reading → List ℕ → Triple → Act → Type 0
  Met stand reading text triple act = RoutesTo site text false (Goes triple) → Meets site files stand reading text act

  -- what an address comes to in the end
  abbrev pub ComesTo : List ℕ → List ℕ → Result Reading ExpandRefusal → Type 0
  ComesTo address sender end = (act : Act) × (Starts site files address sender act × Ends site files act end)

  -- what comes behind the first of several lists, by what that came to
  abbrev pub GoesOn : (Reading → Result Reading ExpandRefusal → Type 0) → Result Reading ExpandRefusal → Result Reading ExpandRefusal → Type 0
  GoesOn Rest (Ok reading) end = Rest reading end
  GoesOn Rest (Err refusal) end = end ≡ Err refusal

  -- what is left in these frames, the innermost first, comes to this end
  abbrev pub Completes : List Frame → Reading → Result Reading ExpandRefusal → Type 0
  Completes [] reading end = end ≡ Ok reading
  Completes (frame ∷ frames) reading end = (first : Result Reading ExpandRefusal) × (Reads site files frame.stand (left_of frame) reading first × GoesOn (Completes frames) first end)
