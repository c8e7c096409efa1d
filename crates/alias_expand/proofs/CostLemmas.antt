-- A tree that is read with a stack of frames comes to an end.
use Rattle.std.proofs.Common.{◌≡◌, ℕ, zero, suc, ◌+◌, ◌-◌, ◌<◌, ◌≤◌, ◌^◌, List, [], ◌∷◌, ◌++◌, length, length-append, Option, Some, None, Bool, true, false, cond, ap, nat_le, ◌==◌, leb-false, ltb-false, arith}
use Rattle.mail_base.specs.Limits.{most_rows}
use Rattle.mail_base.specs.declared.draw.Draw.{Draw}
use Rattle.mail_base.specs.declared.route.Resolved.{Resolved}
use Rattle.mail_base.specs.declared.route.Resolved.TheVariants.{Goes, Refuses}
use Rattle.mail_base.specs.declared.route.Triple.{Triple}
use Rattle.mail_edge.specs.Seen.{FileMap}
use Rattle.alias_expand.specs.declared.frame.Frame.{Frame}
use Rattle.alias_expand.specs.declared.frame.Opened.{Opened}
use Rattle.alias_expand.specs.declared.members.Member.{Member}
use Rattle.alias_expand.specs.declared.reading.Reading.{Reading}
use Rattle.alias_expand.specs.declared.refusal.ExpandRefusal.TheVariants as refusals
use Rattle.alias_expand.specs.declared.stand.Stand.{Stand}
use Rattle.alias_expand.specs.Triples.{is_read, with_read}
use Rattle.alias_expand.specs.Rows.{Act, Stops, Stays, Opens, Site, Forwards, no_file, spent, absent, there, Leads, alias, no_alias, Includes, read_before, reads_spent, not_there, included, Meets, unrouted, itself, met_before, meets, Comes, too_deep, of_file, of_address, added, row_at, leaf_by, forward_file, is_spent, most_reads, with_row, with_file, with_met, with_self}
use Rattle.alias_expand.specs.inner.Steps.{advanced, frame_of, left_of}
use Rattle.alias_expand.specs.inner.Costs.{longest, costs, weight, deepest, worth, Nested, Fits, Falls}

-- ---- files that were read

-- no fewer files were read, and no more than may be
pub record Within (old new : ℕ) : Type 0 where
  pub grows : old ≤ new
  pub bounded : old ≤ most_reads → new ≤ most_reads

pub within_same : (n : ℕ) → Within n n
within_same n = record { grows = omega arith; bounded = λ h. h }

-- a file more was read
read_more : (namer : Triple) (name : List ℕ) (reading : Reading) → is_spent reading ≡ false → Within (length reading.files) (length (with_read namer name reading.files))
read_more namer name reading few = by (is_read namer name reading.files)
  where
    some_left : length reading.files < most_reads
    some_left = leb-false most_reads (length reading.files) few

    by : (b : Bool) → Within (length reading.files) (length (cond b reading.files (reading.files ++ (namer, name) ∷ [])))
    by true = within_same (length reading.files)
    by false =
        let one : length (reading.files ++ (namer, name) ∷ []) ≡ length reading.files + 1 = length-append reading.files ((namer, name) ∷ []) in
        record { grows = omega (arith, one); bounded = λ h. omega (arith, one, some_left) }

-- a file that wasn't read before is one more
read_first : (namer : Triple) (name : List ℕ) (reading : Reading) → is_read namer name reading.files ≡ false → length (with_read namer name reading.files) ≡ suc (length reading.files)
read_first namer name reading first =
    let one : length (reading.files ++ (namer, name) ∷ []) ≡ length reading.files + 1 = length-append reading.files ((namer, name) ∷ []) in
    rw first (omega (arith, one))

-- what an act says of files and of the level where it opens members
abbrev pub Climbs : ℕ → ℕ → Act → Type 0
Climbs level read (Stops refusal) = Unit {0}
Climbs level read (Stays next) = Within read (length next.files)
Climbs level read (Opens inner below next) = Within read (length next.files) × (suc (level + read) ≤ inner.level + length next.files)

module _ (level read : ℕ) where
  row_climbs : (row : Draw) (reading : Reading) → Within read (length reading.files) → Climbs level read (added row reading)
  row_climbs row reading within = by (nat_le most_rows (length reading.rows))
    where
      by : (b : Bool) → Climbs level read (cond b (Stops refusals.TooMany) (Stays (with_row row reading)))
      by true = tt
      by false = within

  leaf_climbs : (top : Bool) (resolved : Resolved) (row : Draw) (reading : Reading) → Within read (length reading.files) → Climbs level read (leaf_by top resolved row reading)
  leaf_climbs true (Refuses error) row reading within = tt
  leaf_climbs true (Goes triple) row reading within = row_climbs row reading within
  leaf_climbs false (Refuses error) row reading within = row_climbs row reading within
  leaf_climbs false (Goes triple) row reading within = row_climbs row reading within

module _ (site : Site) (files : Option FileMap) where
  module _ (level : ℕ) (sender text : List ℕ) (triple : Triple) where
    forward_climbs : (resolved : Resolved) (reading : Reading) (file : Option (List ℕ)) (act : Act) → Forwards site files level sender text triple resolved reading file act → Climbs level (length reading.files) act
    forward_climbs resolved reading None act (no_file) = leaf_climbs level (length reading.files) (level == 0) resolved (row_at level sender text resolved) reading (within_same (length reading.files))
    forward_climbs resolved reading (Some file) act (spent f s) = tt
    forward_climbs resolved reading (Some file) act (absent f s h) = leaf_climbs level (length reading.files) (level == 0) resolved (row_at level sender text resolved) (with_file triple file reading) (read_more triple file reading s)
    forward_climbs resolved reading (Some file) act (there f content s h) =
        let more : Within (length reading.files) (length (with_read triple file reading.files)) = read_more triple file reading s in
        (more, omega (arith, more.grows))

    pub lead_climbs : (reading : Reading) (act : Act) → Leads site files level sender text triple reading act → Climbs level (length reading.files) act
    lead_climbs reading act (alias members is) = (within_same (length reading.files), omega arith)
    lead_climbs reading act (no_alias resolved a none route by) = forward_climbs resolved reading (forward_file site text triple resolved) act by

  module _ (stand : Stand) (reading : Reading) where
    abbrev Climbing : Act → Type 0
    Climbing = Climbs stand.level (length reading.files)

    include_climbs : (file : List ℕ) (act : Act) → Includes site files stand reading file act → Climbing act
    include_climbs file act (read_before is) = within_same (length reading.files)
    include_climbs file act (reads_spent is s) = tt
    include_climbs file act (not_there is s h) = tt
    include_climbs file act (included content is s h) =
        let one : length (with_read stand.namer file reading.files) ≡ suc (length reading.files) = read_first stand.namer file reading is in
        (read_more stand.namer file reading s, omega (arith, one))

    meet_climbs : (text : List ℕ) (act : Act) → Meets site files stand reading text act → Climbing act
    meet_climbs text act (unrouted error route) = row_climbs stand.level (length reading.files) _ reading (within_same (length reading.files))
    meet_climbs text act (itself triple resolved route is leaf) = row_climbs stand.level (length reading.files) _ (with_self triple reading) (within_same (length reading.files))
    meet_climbs text act (met_before triple route other among) = within_same (length reading.files)
    meet_climbs text act (meets triple a route other first leads) = lead_climbs stand.level stand.sender text triple (with_met triple reading) act leads

    pub come_climbs : (member : Member) (act : Act) → Comes site files stand reading member act → Climbing act
    come_climbs member act (too_deep m deep) = tt
    come_climbs member act (of_file file a deep by) = include_climbs file act by
    come_climbs member act (of_address text a deep by) = meet_climbs text act by

    -- what opens isn't too deep
    opens_within : (member : Member) (inner : Stand) (below : List Member) (next : Reading) → Comes site files stand reading member (Opens inner below next) → stand.level ≤ site.config.options.max_alias_recursion
    opens_within member inner below next (of_file file a deep by) = ltb-false site.config.options.max_alias_recursion stand.level deep
    opens_within member inner below next (of_address text a deep by) = ltb-false site.config.options.max_alias_recursion stand.level deep

-- ---- the steps that are left

-- more members cost more
costs_more : (each m n : ℕ) → m ≤ n → costs m each ≤ costs n each
costs_more each zero n h = omega arith
costs_more each (suc m) zero h = absurd (omega (arith, h))
costs_more each (suc m) (suc n) h = let more : costs m each ≤ costs n each = costs_more each m n (omega (arith, h)) in omega (arith, more)

-- a member costs a step
weight_some : (depth : ℕ) → 1 ≤ weight depth
weight_some zero = omega arith
weight_some (suc depth) = omega arith

short_is : (n : ℕ) → n < 2 ^ 64 → n ≤ longest
unfolding longest
short_is n h = omega (arith, h)

-- what was nested is, when more files were read
nested_on : (old new : ℕ) (frames : List Frame) → old ≤ new → Nested old frames → Nested new frames
nested_on old new [] le nested = tt
nested_on old new (frame ∷ frames) le (deep, nested) = (omega (arith, deep, le), nested_on old new frames le nested)

module _ (depth : ℕ) (frame : Frame) (frames : List Frame) (reading : Reading) (fits : Fits (frame ∷ frames) reading) where
  -- nothing is left of a frame
  pub over_falls : left_of frame ≡ [] → Falls depth (frame ∷ frames) frames reading
  over_falls none = record { fits = record { few = fits.few; nested = fits.nested.1 }; less = omega arith }

module _ (site : Site) (files : Option FileMap) (frame : Frame) (frames : List Frame) (member : Member) (reading next : Reading) (left : left_of frame ≡ member ∷ left_of (advanced frame)) (fits : Fits (frame ∷ frames) reading) where
  abbrev each : ℕ
  each = weight (deepest site - length frames)

  abbrev rest : ℕ
  rest = costs (length (left_of (advanced frame))) each

  before : worth (deepest site) (frame ∷ frames) ≡ suc (each + rest + worth (deepest site) frames)
  before = rw left (omega arith)

  -- a member is a row, or is left out
  pub stayed_falls : Comes site files frame.stand reading member (Stays next) → Falls (deepest site) (frame ∷ frames) (advanced frame ∷ frames) next
  stayed_falls comes =
      let within : Within (length reading.files) (length next.files) = come_climbs site files frame.stand reading member (Stays next) comes in
      record {
        fits = record { few = within.bounded fits.few; nested = nested_on (length reading.files) (length next.files) (advanced frame ∷ frames) within.grows fits.nested };
        less = omega (arith, before, weight_some (deepest site - length frames));
      }

  -- a member opens into others
  pub opened_falls : (opened : Opened) → length opened.members < 2 ^ 64 → Comes site files frame.stand reading member (Opens opened.stand opened.members next) → Falls (deepest site) (frame ∷ frames) (frame_of opened ∷ advanced frame ∷ frames) next
  opened_falls opened short comes =
      let climbs : Within (length reading.files) (length next.files) × (suc (frame.stand.level + length reading.files) ≤ opened.stand.level + length next.files) = come_climbs site files frame.stand reading member (Opens opened.stand opened.members next) comes in
      let high : frame.stand.level ≤ site.config.options.max_alias_recursion = opens_within site files frame.stand reading member opened.stand opened.members next comes in
      let at : length frames ≤ frame.stand.level + length reading.files = fits.nested.0 in
      let few : length reading.files ≤ most_reads = fits.few in
      let deep : deepest site - length frames ≡ suc (deepest site - suc (length frames)) = omega (arith, high, at, few) in
      let inner : costs (length opened.members) (weight (deepest site - suc (length frames))) ≤ costs longest (weight (deepest site - suc (length frames))) = costs_more (weight (deepest site - suc (length frames))) (length opened.members) longest (short_is (length opened.members) short) in
      let paid : each ≡ suc (suc (costs longest (weight (deepest site - suc (length frames))))) = ap weight deep in
      record {
        fits = record { few = climbs.0.bounded fits.few; nested = (omega (arith, at, climbs.1), nested_on (length reading.files) (length next.files) (advanced frame ∷ frames) climbs.0.grows fits.nested) };
        less = omega (arith, before, paid, inner);
      }
