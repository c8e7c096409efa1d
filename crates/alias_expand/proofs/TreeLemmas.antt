-- A tree that is read with a stack of frames: what completes the rest completes the whole.
use Rattle.std.proofs.Common.{◌≡◌, ℕ, suc, ◌<◌, ◌≤◌, ◌^◌, IfSome, List, [], ◌∷◌, ◌++◌, length, drop, reverse, Option, Some, None, Result, Ok, Err, refl, sym, ◌∙◌, ap, subst, arith, add-one, drop-cons, slice_get, inl, inr}
use Rattle.std.proofs.lemmas.Option.{slice_get_within, get_or_from_slice_get, slice_get_cases}
use Rattle.std.proofs.lemmas.List.{reverse-append}
use Rattle.std.proofs.Math.ListN.{drop_of_length-le}
use Rattle.mail_edge.specs.Seen.{FileMap}
use Rattle.alias_expand.specs.declared.frame.Frame.{Frame}
use Rattle.alias_expand.specs.declared.frame.Opened.{Opened}
use Rattle.alias_expand.specs.declared.members.Member.{Member}
use Rattle.alias_expand.specs.declared.reading.Reading.{Reading}
use Rattle.alias_expand.specs.declared.refusal.ExpandRefusal.{ExpandRefusal}
use Rattle.alias_expand.specs.Rows.{Stops, Stays, Opens, Site, most_reads, Comes, Reads, reads_none, stops, stays, opens, opens_to_refusal}
use Rattle.alias_expand.specs.inner.Costs.{Falls, Fits, deepest, worth}
use Rattle.alias_expand.specs.inner.Steps.{Completes, Does, GoesOn, StopsWith, advanced, frame_of, frames_of, left_of}
use Rattle.alias_expand.proofs.CostLemmas.{opened_falls, stayed_falls}
use Rattle.alias_expand.proofs.StepLemmas.{stops_map}

-- the members of a frame that are left begin with the next one
pub next_left : (frame : Frame) (member : Member) → slice_get frame.members frame.next ≡ Some member → left_of frame ≡ member ∷ left_of (advanced frame)
next_left frame member h = rw add-one (drop-cons frame.members frame.next member (slice_get_within frame.members frame.next member h) ∙ ap (λ (q : Member). q ∷ drop (suc frame.next) frame.members) (get_or_from_slice_get frame.members frame.next member member h))

-- past the last member none are left
pub none_left : (frame : Frame) → slice_get frame.members frame.next ≡ None → left_of frame ≡ []
none_left frame h = elim (slice_get_cases frame.members frame.next).1 [ inl found ↦ cc (found.2, h) | inr past ↦ drop_of_length-le frame.members past.0 ]

module _ (site : Site) (files : Option FileMap) where
  abbrev Complete : List Frame → Reading → Result Reading ExpandRefusal → Type 0
  Complete = Completes site files

  -- a frame of which nothing is left
  pub over : (frame : Frame) (frames : List Frame) (reading : Reading) (end : Result Reading ExpandRefusal) → left_of frame ≡ [] → Complete frames reading end → Complete (frame ∷ frames) reading end
  over frame frames reading end none rest =
      let none_left : Reads site files frame.stand (left_of frame) reading (Ok reading) = subst (λ (ms : List Member). Reads site files frame.stand ms reading (Ok reading)) (sym none) (reads_none frame.stand reading) in
      (Ok reading, (none_left, rest))

  module _ (frame : Frame) (frames : List Frame) (member : Member) (reading : Reading) (left : left_of frame ≡ member ∷ left_of (advanced frame)) where
    abbrev Left : List Member → Result Reading ExpandRefusal → Type 0
    Left ms end = Reads site files frame.stand ms reading end

    -- its next member is refused
    pub refused : (refusal : ExpandRefusal) → Comes site files frame.stand reading member (Stops refusal) → Complete (frame ∷ frames) reading (Err refusal)
    refused refusal comes = (Err refusal, (subst (λ (ms : List Member). Left ms (Err refusal)) (sym left) (stops frame.stand member (left_of (advanced frame)) reading refusal comes), refl))

    -- its next member is a row, or is left out
    pub stayed : (next : Reading) (end : Result Reading ExpandRefusal) → Comes site files frame.stand reading member (Stays next) → Complete (advanced frame ∷ frames) next end → Complete (frame ∷ frames) reading end
    stayed next end comes (first, (reads, rest)) = (first, (subst (λ (ms : List Member). Left ms first) (sym left) (stays frame.stand member (left_of (advanced frame)) reading next first comes reads), rest))

    module _ (opened : Opened) (next : Reading) (end : Result Reading ExpandRefusal) (comes : Comes site files frame.stand reading member (Opens opened.stand opened.members next)) where
      -- its next member opens into others
      pub inner : (first : Result Reading ExpandRefusal) → Reads site files opened.stand opened.members next first → GoesOn site files (Completes site files (advanced frame ∷ frames)) first end → Complete (frame ∷ frames) reading end
      inner (Err refusal) reads is =
          let all : Left (left_of frame) (Err refusal) = subst (λ (ms : List Member). Left ms (Err refusal)) (sym left) (opens_to_refusal frame.stand opened.stand member (left_of (advanced frame)) opened.members reading next refusal comes reads) in
          (Err refusal, (all, is))
      inner (Ok after) reads (first, (more, rest)) =
          let all : Left (left_of frame) first = subst (λ (ms : List Member). Left ms first) (sym left) (opens frame.stand opened.stand member (left_of (advanced frame)) opened.members reading next after first comes reads more) in
          (first, (all, rest))

      pub opened_first : Complete (frame_of opened ∷ advanced frame ∷ frames) next end → Complete (frame ∷ frames) reading end
      opened_first (first, (reads, rest)) = inner first reads rest

    -- what the member comes to stands on top of the frame
    pub went_on : (opened : Option Opened) (next : Reading) → Does (Ok opened) next (Comes site files frame.stand reading member) → (new : List Frame) → new ≡ frames_of opened ++ advanced frame ∷ frames → (end : Result Reading ExpandRefusal) → Complete new next end → Complete (frame ∷ frames) reading end
    went_on None next comes new is end rest = stayed next end comes (subst (λ (fs : List Frame). Complete fs next end) is rest)
    went_on (Some opened) next comes new is end rest = opened_first opened next end comes (subst (λ (fs : List Frame). Complete fs next end) is rest)

    -- and is less than was left
    pub fell : (opened : Option Opened) (next : Reading) → Does (Ok opened) next (Comes site files frame.stand reading member) → IfSome opened (λ inner. length inner.members < 2 ^ 64) → (new : List Frame) → new ≡ frames_of opened ++ advanced frame ∷ frames → Fits (frame ∷ frames) reading → Falls (deepest site) (frame ∷ frames) new next
    fell None next comes short new is fits = rw is (stayed_falls site files frame frames member reading next left fits comes)
    fell (Some opened) next comes short new is fits = rw is (opened_falls site files frame frames member reading next left fits opened short comes)

  -- the whole is what its one frame comes to
  pub whole : (opened : Opened) (reading : Reading) (end : Result Reading ExpandRefusal) → Complete (frame_of opened ∷ []) reading end → Reads site files opened.stand opened.members reading end
  whole opened reading end (Ok after, (reads, is)) = subst (λ (e : Result Reading ExpandRefusal). Reads site files opened.stand opened.members reading e) (sym is) reads
  whole opened reading end (Err refusal, (reads, is)) = subst (λ (e : Result Reading ExpandRefusal). Reads site files opened.stand opened.members reading e) (sym is) reads

-- ---- the stack, whose last frame is on top

-- a stack with a frame on top
pub reversed : (items rest : List Frame) (frame : Frame) → items ≡ rest ++ frame ∷ [] → reverse items ≡ frame ∷ reverse rest
reversed items rest frame is = ap (λ (fs : List Frame). reverse fs) is ∙ reverse-append rest (frame ∷ [])

module _ (site : Site) (files : Option FileMap) (opened : Opened) (first : Reading) where
  -- nothing was read of the stack with one frame
  pub begun : (items : List Frame) → items ≡ frame_of opened ∷ [] → (end : Result Reading ExpandRefusal) → Completes site files (reverse items) first end → Completes site files (frame_of opened ∷ []) first end
  begun items is end h = subst (λ (fs : List Frame). Completes site files (reverse fs) first end) is h

  pub begun_fits : (items : List Frame) → items ≡ frame_of opened ∷ [] → length first.files ≤ most_reads → Fits (reverse items) first
  begun_fits items is few = rw is (record { few = few; nested = (omega arith, tt) })

  module _ (items : List Frame) (reading : Reading) (so_far : (end : Result Reading ExpandRefusal) → Completes site files (reverse items) reading end → Completes site files (frame_of opened ∷ []) first end) where
    -- all was read
    pub all_read : items ≡ [] → Reads site files opened.stand opened.members first (Ok reading)
    all_read none = whole site files opened first (Ok reading) (so_far (Ok reading) (subst (λ (fs : List Frame). Completes site files (reverse fs) reading (Ok reading)) (sym none) refl))

    module _ (now : Option FileMap) (same : now ≡ files) (rest : List Frame) (frame : Frame) (is : items ≡ rest ++ frame ∷ []) where
      -- what a step leaves completes the whole
      pub steps_on : (new : List Frame) (next : Reading) → ((end : Result Reading ExpandRefusal) → Completes site now new next end → Completes site now (frame ∷ reverse rest) reading end) → (end : Result Reading ExpandRefusal) → Completes site files new next end → Completes site files (frame_of opened ∷ []) first end
      steps_on new next step end h =
          let go : Completes site files new next end → Completes site files (frame ∷ reverse rest) reading end = subst (λ (fm : Option FileMap). Completes site fm new next end → Completes site fm (frame ∷ reverse rest) reading end) same (step end) in
          so_far end (subst (λ (fs : List Frame). Completes site files fs reading end) (sym (reversed items rest frame is)) (go h))

      -- a refusal ends what is read
      pub steps_stop : (refusal : ExpandRefusal) → StopsWith refusal (λ told. Completes site now (frame ∷ reverse rest) reading (Err told)) → StopsWith refusal (λ told. Reads site files opened.stand opened.members first (Err told))
      steps_stop refusal told = stops_map refusal (λ r complete. stop r complete) told
        where
          stop : (r : ExpandRefusal) → Completes site now (frame ∷ reverse rest) reading (Err r) → Reads site files opened.stand opened.members first (Err r)
          stop r complete = whole site files opened first (Err r) (so_far (Err r) (subst (λ (fs : List Frame). Completes site files fs reading (Err r)) (sym (reversed items rest frame is)) (subst (λ (fm : Option FileMap). Completes site fm (frame ∷ reverse rest) reading (Err r)) same complete)))

-- what is left fits, and is less
pub falls_on : (depth : ℕ) (items rest new : List Frame) (frame : Frame) (reading next : Reading) → items ≡ rest ++ frame ∷ [] → Fits (reverse items) reading → (Fits (frame ∷ reverse rest) reading → Falls depth (frame ∷ reverse rest) new next) → Fits new next × (worth depth new < worth depth (reverse items))
falls_on depth items rest new frame reading next is fits step =
    let top : reverse items ≡ frame ∷ reverse rest = reversed items rest frame is in
    let falls : Falls depth (frame ∷ reverse rest) new next = step (subst (λ (fs : List Frame). Fits fs reading) top fits) in
    (falls.fits, subst (λ (fs : List Frame). worth depth new < worth depth fs) (sym top) falls.less)
