-- An address comes to an outcome, where the files are told.
use Rattle.std.proofs.Common.{◌≡◌, ℕ, zero, suc, ◌+◌, ◌<◌, ◌≤◌, ◌==◌, List, [], ◌∷◌, length, Option, Some, None, Result, Ok, Err, Bool, true, false, cond, IfOk, refl, sym, subst, nat_le, ltb-false, arith}
use Rattle.mail_base.specs.Limits.{most_rows}
use Rattle.mail_base.specs.declared.draw.Draw.{Draw}
use Rattle.mail_base.specs.declared.route.Resolved.{Resolved}
use Rattle.mail_base.specs.declared.route.Resolved.TheVariants.{Goes, Refuses}
use Rattle.mail_base.specs.declared.route.Triple.{Triple}
use Rattle.mail_edge.specs.Seen.{FileMap, text_of}
use Rattle.alias_expand.specs.declared.members.Member.{Member}
use Rattle.alias_expand.specs.declared.members.Member.TheVariants.{Address, Include}
use Rattle.alias_expand.specs.declared.reading.Reading.{Reading}
use Rattle.alias_expand.specs.declared.refusal.ExpandRefusal.{ExpandRefusal}
use Rattle.alias_expand.specs.declared.refusal.ExpandRefusal.TheVariants as refusals
use Rattle.alias_expand.specs.declared.stand.Stand.{Stand}
use Rattle.alias_expand.specs.Triples.{is_among, is_read}
use Rattle.alias_expand.specs.Rows.{Act, Stops, Stays, Opens, Site, RoutesTo, Forwards, no_file, spent, absent, there, Leads, alias, no_alias, Includes, read_before, reads_spent, not_there, included, Meets, unrouted, itself, met_before, meets, Comes, too_deep, of_file, of_address, Reads, reads_none, stops, stays, opens, opens_to_refusal, Ends, Starts, refused, starts, Expands, expands, IsMeant, rows_of, added, leaf_by, row_at, alias_members, forward_file, is_deep, is_itself, is_spent, escaped, most_reads, nothing_read, with_file, with_met, with_row, with_self}
use Rattle.alias_expand.specs.inner.Costs.{deepest}
use Rattle.alias_expand.proofs.CostLemmas.{Within, Climbs, come_climbs, lead_climbs, within_same}

-- ---- an act for each member

module _ (site : Site) (map : FileMap) (some_route : (text : List ℕ) (leaf : Bool) → (resolved : Resolved) × RoutesTo site text leaf resolved) where
  abbrev files : Option FileMap
  files = Some map

  module _ (level : ℕ) (sender text : List ℕ) (triple : Triple) (reading : Reading) where
    some_forward : (resolved : Resolved) (file : Option (List ℕ)) → (act : Act) × Forwards site files level sender text triple resolved reading file act
    some_forward resolved None = (_, no_file)
    some_forward resolved (Some file) = by (is_spent reading) refl
      where
        by_text : is_spent reading ≡ false → (found : Option (List ℕ)) → found ≡ text_of map file → (act : Act) × Forwards site files level sender text triple resolved reading (Some file) act
        by_text few None is = (_, absent file few is)
        by_text few (Some content) is = (_, there file content few is)

        by : (b : Bool) → is_spent reading ≡ b → (act : Act) × Forwards site files level sender text triple resolved reading (Some file) act
        by true e = (_, spent file e)
        by false e = by_text e (text_of map file) refl

    some_lead : (act : Act) × Leads site files level sender text triple reading act
    some_lead = by (alias_members site text triple) refl
      where
        by : (found : Option (List Member)) → alias_members site text triple ≡ found → (act : Act) × Leads site files level sender text triple reading act
        by (Some members) e = (_, alias members e)
        by None e =
            let r = some_route text true in
            let f = some_forward r.0 (forward_file site text triple r.0) in
            (f.0, no_alias r.0 f.0 e r.1 f.1)

  module _ (stand : Stand) (reading : Reading) where
    some_include : (file : List ℕ) → (act : Act) × Includes site files stand reading file act
    some_include file = by (is_read stand.namer file reading.files) refl
      where
        by_text : is_read stand.namer file reading.files ≡ false → is_spent reading ≡ false → (found : Option (List ℕ)) → found ≡ text_of map file → (act : Act) × Includes site files stand reading file act
        by_text first few None is = (_, not_there first few is)
        by_text first few (Some content) is = (_, included content first few is)

        by_count : is_read stand.namer file reading.files ≡ false → (b : Bool) → is_spent reading ≡ b → (act : Act) × Includes site files stand reading file act
        by_count first true e = (_, reads_spent first e)
        by_count first false e = by_text first e (text_of map file) refl

        by : (b : Bool) → is_read stand.namer file reading.files ≡ b → (act : Act) × Includes site files stand reading file act
        by true e = (_, read_before e)
        by false e = by_count e (is_spent reading) refl

    some_meet : (text : List ℕ) → (act : Act) × Meets site files stand reading text act
    some_meet text = let r = some_route text false in by_route r.0 r.1
      where
        by_met : (triple : Triple) → RoutesTo site text false (Goes triple) → is_itself stand triple reading ≡ false → (b : Bool) → is_among triple reading.met ≡ b → (act : Act) × Meets site files stand reading text act
        by_met triple r other true e = (_, met_before triple r other e)
        by_met triple r other false e =
            let l = some_lead stand.level stand.sender text triple (with_met triple reading) in
            (l.0, meets triple l.0 r other e l.1)

        by_self : (triple : Triple) → RoutesTo site text false (Goes triple) → (b : Bool) → is_itself stand triple reading ≡ b → (act : Act) × Meets site files stand reading text act
        by_self triple r true e = let l = some_route (escaped text) true in (_, itself triple l.0 r e l.1)
        by_self triple r false e = by_met triple r e (is_among triple reading.met) refl

        by_route : (resolved : Resolved) → RoutesTo site text false resolved → (act : Act) × Meets site files stand reading text act
        by_route (Refuses error) r = (_, unrouted error r)
        by_route (Goes triple) r = by_self triple r (is_itself stand triple reading) refl

    some_come : (member : Member) → (act : Act) × Comes site files stand reading member act
    some_come member = by (is_deep site stand) refl member
      where
        by : (b : Bool) → is_deep site stand ≡ b → (m : Member) → (act : Act) × Comes site files stand reading m act
        by true e m = (_, too_deep m e)
        by false e (Include file) = let i = some_include file in (i.0, of_file file i.0 e i.1)
        by false e (Address text) = let i = some_meet text in (i.0, of_address text i.0 e i.1)

  -- ---- an end for members

  -- how deep members may open yet
  record Room (depth : ℕ) (stand : Stand) (reading : Reading) : Type 0 where
    few : length reading.files ≤ most_reads
    high : deepest site ≤ stand.level + length reading.files + depth

  -- members come to an end, and no fewer files are read then
  record Finishes (stand : Stand) (members : List Member) (reading : Reading) : Type 0 where
    end : Result Reading ExpandRefusal
    reads : Reads site files stand members reading end
    within : IfOk end (λ after. Within (length reading.files) (length after.files))

  abbrev FinishesBelow : ℕ → Type 0
  FinishesBelow depth = (stand : Stand) (members : List Member) (reading : Reading) → Room depth stand reading → Finishes stand members reading

  within_join : (a b c : ℕ) → Within a b → Within b c → Within a c
  within_join a b c ab bc = record { grows = omega (arith, ab.grows, bc.grows); bounded = λ h. bc.bounded (ab.bounded h) }

  within_on : (a b : ℕ) (end : Result Reading ExpandRefusal) → Within a b → IfOk end (λ after. Within b (length after.files)) → IfOk end (λ after. Within a (length after.files))
  within_on a b (Ok after) ab bc = within_join a b (length after.files) ab bc
  within_on a b (Err refusal) ab bc = tt

  module _ (depth : ℕ) (stand : Stand) where
    room_on : (reading next : Reading) → Room depth stand reading → Within (length reading.files) (length next.files) → Room depth stand next
    room_on reading next room within = record { few = within.bounded room.few; high = omega (arith, room.high, within.grows) }

  -- members, where those that they open into come to an end
  module _ (depth : ℕ) (below_ends : FinishesBelow depth) (stand : Stand) where
    behind : (member : Member) (members : List Member) (reading next : Reading) (inner : Stand) (below : List Member) → Comes site files stand reading member (Opens inner below next) → Within (length reading.files) (length next.files)
        → Finishes inner below next → ((after : Reading) → Within (length reading.files) (length after.files) → Finishes stand members after) → Finishes stand (member ∷ members) reading
    behind member members reading next inner below c within first rest = by first.end first.reads first.within
      where
        by : (end : Result Reading ExpandRefusal) → Reads site files inner below next end → IfOk end (λ after. Within (length next.files) (length after.files)) → Finishes stand (member ∷ members) reading
        by (Err refusal) reads is = record { end = Err refusal; reads = opens_to_refusal stand inner member members below reading next refusal c reads; within = tt }
        by (Ok after) reads is =
            let all : Within (length reading.files) (length after.files) = within_join (length reading.files) (length next.files) (length after.files) within is in
            let f : Finishes stand members after = rest after all in
            record { end = f.end; reads = opens stand inner member members below reading next after f.end c reads f.reads; within = within_on (length reading.files) (length after.files) f.end all f.within }

    through : (members : List Member) (reading : Reading) → Room (suc depth) stand reading → Finishes stand members reading
    through [] reading room = record { end = Ok reading; reads = reads_none stand reading; within = within_same (length reading.files) }
    through (member ∷ members) reading room =
        let w = some_come stand reading member in
        by w.0 w.1 (λ next within. through members next (room_on (suc depth) stand reading next room within))
      where
        by : (act : Act) → Comes site files stand reading member act → ((next : Reading) → Within (length reading.files) (length next.files) → Finishes stand members next) → Finishes stand (member ∷ members) reading
        by (Stops refusal) c rest = record { end = Err refusal; reads = stops stand member members reading refusal c; within = tt }
        by (Stays next) c rest =
            let within : Within (length reading.files) (length next.files) = come_climbs site files stand reading member (Stays next) c in
            let f : Finishes stand members next = rest next within in
            record { end = f.end; reads = stays stand member members reading next f.end c f.reads; within = within_on (length reading.files) (length next.files) f.end within f.within }
        by (Opens inner below next) c rest =
            let climbs : Within (length reading.files) (length next.files) × (suc (stand.level + length reading.files) ≤ inner.level + length next.files) = come_climbs site files stand reading member (Opens inner below next) c in
            let high : deepest site ≤ stand.level + length reading.files + suc depth = room.high in
            let climb : suc (stand.level + length reading.files) ≤ inner.level + length next.files = climbs.1 in
            let inside : Room depth inner next = record { few = climbs.0.bounded room.few; high = omega (arith, high, climb) } in
            behind member members reading next inner below c climbs.0 (below_ends inner below next inside) rest

  some_end : (depth : ℕ) → FinishesBelow depth
  some_end zero stand [] reading room = record { end = Ok reading; reads = reads_none stand reading; within = within_same (length reading.files) }
  some_end zero stand (member ∷ members) reading room = record { end = Err refusals.TooDeep; reads = stops stand member members reading refusals.TooDeep (too_deep member (deep (is_deep site stand) refl)); within = tt }
    where
      deep : (b : Bool) → is_deep site stand ≡ b → is_deep site stand ≡ true
      deep true e = e
      deep false e =
          let low : stand.level ≤ site.config.options.max_alias_recursion = ltb-false site.config.options.max_alias_recursion stand.level e in
          let few : length reading.files ≤ most_reads = room.few in
          let high : deepest site ≤ stand.level + length reading.files + 0 = room.high in
          absurd (omega (arith, low, few, high))
  some_end (suc depth) stand members reading room = through depth (some_end depth) stand members reading room

  -- ---- an outcome

  module _ (address sender : List ℕ) where
    some_start : (act : Act) × Starts site files address sender act
    some_start = let r = some_route address false in by r.0 r.1
      where
        by : (resolved : Resolved) → RoutesTo site address false resolved → (act : Act) × Starts site files address sender act
        by (Refuses error) r = (_, refused error r)
        by (Goes triple) r = let l = some_lead 0 sender address triple (with_met triple nothing_read) in (l.0, starts triple l.0 r l.1)

    few_at_start : (inner : Stand) (below : List Member) (next : Reading) → Starts site files address sender (Opens inner below next) → length next.files ≤ most_reads
    few_at_start inner below next (starts triple act r leads) =
        let climbs = lead_climbs site files 0 sender address triple (with_met triple nothing_read) (Opens inner below next) leads in
        climbs.0.bounded (omega arith)

    some_finish : (act : Act) → Starts site files address sender act → (end : Result Reading ExpandRefusal) × Ends site files act end
    some_finish (Stops refusal) start = (Err refusal, refl)
    some_finish (Stays reading) start = (Ok reading, refl)
    some_finish (Opens inner below next) start =
        let f : Finishes inner below next = some_end (deepest site) inner below next (record { few = few_at_start inner below next start; high = omega arith }) in
        (f.end, f.reads)

    some_expansion : (outcome : Result (List Draw) ExpandRefusal) × Expands site files address sender outcome
    some_expansion =
        let s = some_start in
        let e = some_finish s.0 s.1 in
        (rows_of e.0, expands s.0 e.0 s.1 e.1)

-- ---- no outcome is a fault of files or want of memory

abbrev IsKnown : ExpandRefusal → Type 0
IsKnown refusal = IsMeant (Err refusal)

abbrev Known : Act → Type 0
Known (Stops refusal) = IsKnown refusal
Known (Stays next) = Unit {0}
Known (Opens inner below next) = Unit {0}

row_known : (row : Draw) (reading : Reading) → Known (added row reading)
row_known row reading = by (nat_le most_rows (length reading.rows))
  where
    by : (b : Bool) → Known (cond b (Stops refusals.TooMany) (Stays (with_row row reading)))
    by true = tt
    by false = tt

leaf_known : (top : Bool) (resolved : Resolved) (row : Draw) (reading : Reading) → Known (leaf_by top resolved row reading)
leaf_known true (Refuses error) row reading = tt
leaf_known true (Goes triple) row reading = row_known row reading
leaf_known false (Refuses error) row reading = row_known row reading
leaf_known false (Goes triple) row reading = row_known row reading

module _ (site : Site) (files : Option FileMap) where
  module _ (level : ℕ) (sender text : List ℕ) (triple : Triple) (reading : Reading) where
    forward_known : (resolved : Resolved) (file : Option (List ℕ)) (act : Act) → Forwards site files level sender text triple resolved reading file act → Known act
    forward_known resolved None act (no_file) = leaf_known (level == 0) resolved (row_at level sender text resolved) reading
    forward_known resolved (Some file) act (spent f s) = tt
    forward_known resolved (Some file) act (absent f s h) = leaf_known (level == 0) resolved (row_at level sender text resolved) (with_file triple file reading)
    forward_known resolved (Some file) act (there f content s h) = tt

    lead_known : (act : Act) → Leads site files level sender text triple reading act → Known act
    lead_known act (alias members is) = tt
    lead_known act (no_alias resolved a none route by) = forward_known resolved (forward_file site text triple resolved) act by

  module _ (stand : Stand) (reading : Reading) where
    include_known : (file : List ℕ) (act : Act) → Includes site files stand reading file act → Known act
    include_known file act (read_before is) = tt
    include_known file act (reads_spent is s) = tt
    include_known file act (not_there is s h) = tt
    include_known file act (included content is s h) = tt

    meet_known : (text : List ℕ) (act : Act) → Meets site files stand reading text act → Known act
    meet_known text act (unrouted error route) = row_known _ reading
    meet_known text act (itself triple resolved route is leaf) = row_known _ (with_self triple reading)
    meet_known text act (met_before triple route other among) = tt
    meet_known text act (meets triple a route other first leads) = lead_known stand.level stand.sender text triple (with_met triple reading) act leads

    come_known : (member : Member) (act : Act) → Comes site files stand reading member act → Known act
    come_known member act (too_deep m deep) = tt
    come_known member act (of_file file a deep by) = include_known file act by
    come_known member act (of_address text a deep by) = meet_known text act by

  abbrev EndKnown : Result Reading ExpandRefusal → Type 0
  EndKnown (Ok reading) = Unit {0}
  EndKnown (Err refusal) = IsKnown refusal

  reads_known : (stand : Stand) (members : List Member) (reading : Reading) (end : Result Reading ExpandRefusal) → Reads site files stand members reading end → EndKnown end
  reads_known stand [] reading end (reads_none s r) = tt
  reads_known stand (m ∷ ms) reading end (stops s n ns r refusal c) = come_known stand reading m (Stops refusal) c
  reads_known stand (m ∷ ms) reading end (stays s n ns r next e c rest) = reads_known stand ms next end rest
  reads_known stand (m ∷ ms) reading end (opens_to_refusal s inner n ns below r next refusal c deep) = reads_known inner below next (Err refusal) deep
  reads_known stand (m ∷ ms) reading end (opens s inner n ns below r next after e c deep rest) = reads_known stand ms after end rest

  end_known : (act : Act) (end : Result Reading ExpandRefusal) → Known act → Ends site files act end → EndKnown end
  end_known (Stops refusal) end known is = subst EndKnown (sym is) known
  end_known (Stays reading) end known is = subst EndKnown (sym is) tt
  end_known (Opens inner below next) end known reads = reads_known inner below next end reads

  start_known : (address sender : List ℕ) (act : Act) → Starts site files address sender act → Known act
  start_known address sender act (refused error route) = tt
  start_known address sender act (starts triple x route leads) = lead_known 0 sender address triple (with_met triple nothing_read) act leads

  rows_known : (end : Result Reading ExpandRefusal) → EndKnown end → IsMeant (rows_of end)
  rows_known (Err refusal) known = known
  rows_known (Ok reading) known = by (length reading.rows == 0)
    where
      by : (b : Bool) → IsMeant (cond b (Err refusals.NoOne) (Ok reading.rows))
      by true = tt
      by false = tt

  meant : (address sender : List ℕ) (outcome : Result (List Draw) ExpandRefusal) → Expands site files address sender outcome → IsMeant outcome
  meant address sender outcome (expands act end start ends) = rows_known end (end_known act end (start_known address sender act start) ends)

-- an address comes to an outcome, which is no fault of files and no want of memory
pub some_outcome : (site : Site) (map : FileMap) → ((text : List ℕ) (leaf : Bool) → (resolved : Resolved) × RoutesTo site text leaf resolved) → (address sender : List ℕ)
    → (outcome : Result (List Draw) ExpandRefusal) × (Expands site (Some map) address sender outcome × IsMeant outcome)
some_outcome site map some_route address sender =
    let o = some_expansion site map some_route address sender in
    (o.0, (o.1, meant site (Some map) address sender o.0 o.1))
