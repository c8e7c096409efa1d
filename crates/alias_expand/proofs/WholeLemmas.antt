-- What an address comes to in the end, by what was done of it.
use Rattle.std.proofs.Common.{◌≡◌, ℕ, ◌≤◌, List, [], ◌∷◌, length, eq-eqb, ne_eqb, Option, Some, None, Result, Ok, Err, true, false, IfSome, refl, ◌∙◌, ap, subst, ◌==◌, arith}
use Rattle.mail_base.specs.declared.draw.Draw.{Draw}
use Rattle.mail_base.specs.declared.route.Resolved.TheVariants.{Goes}
use Rattle.mail_base.specs.declared.route.Resolved.{Resolved}
use Rattle.mail_base.specs.declared.route.RouteError.{RouteError}
use Rattle.mail_base.specs.declared.route.Resolved.TheVariants as routes
use Rattle.mail_base.specs.declared.route.Triple.{Triple}
use Rattle.mail_edge.specs.Seen.{FileMap}
use Rattle.alias_expand.specs.Triples.{with_triple}
use Rattle.alias_expand.specs.declared.frame.Opened.{Opened}
use Rattle.alias_expand.specs.declared.reading.Reading.{Reading}
use Rattle.alias_expand.specs.declared.refusal.ExpandRefusal.{ExpandRefusal}
use Rattle.alias_expand.specs.declared.refusal.ExpandRefusal.TheVariants as refusals
use Rattle.alias_expand.specs.Rows.{Act, Stops, Stays, Opens, Site, RoutesTo, Leads, Reads, Starts, refused, starts, Expands, expands, HoldsOf, most_reads, nothing_read, rows_of, with_met}
use Rattle.alias_expand.specs.inner.Steps.{ComesTo, Does, StopsWith}
use Rattle.alias_expand.proofs.CostLemmas.{lead_climbs}

-- a refusal with a fact is a result with it
pub stops_holds : {T : Type 0} (P : Result T ExpandRefusal → Type 0) (refusal : ExpandRefusal) → StopsWith refusal (λ r. P (Err r)) → HoldsOf (Err refusal) P
stops_holds P (refusals.Refuses error) p = p
stops_holds P refusals.TooDeep p = p
stops_holds P refusals.TooMany p = p
stops_holds P (refusals.IncludeAbsent name) p = p
stops_holds P refusals.NoOne p = p
stops_holds P refusals.FilesFault p = p
stops_holds P refusals.NoMemory p = p

-- a refusal of one type with a fact is one of another type
pub refused_as : {T S : Type 0} (P : Result T ExpandRefusal → Type 0) (Q : Result S ExpandRefusal → Type 0) (refusal : ExpandRefusal) → ((r : ExpandRefusal) → P (Err r) → Q (Err r)) → HoldsOf (Err refusal) P → HoldsOf (Err refusal) Q
refused_as P Q (refusals.Refuses error) f p = f (refusals.Refuses error) p
refused_as P Q refusals.TooDeep f p = f refusals.TooDeep p
refused_as P Q refusals.TooMany f p = f refusals.TooMany p
refused_as P Q (refusals.IncludeAbsent name) f p = f (refusals.IncludeAbsent name) p
refused_as P Q refusals.NoOne f p = f refusals.NoOne p
refused_as P Q refusals.FilesFault f p = p
refused_as P Q refusals.NoMemory f p = p

-- a result with a fact has another
pub holds_map : {T : Type 0} (P Q : Result T ExpandRefusal → Type 0) (result : Result T ExpandRefusal) → ((r : Result T ExpandRefusal) → P r → Q r) → HoldsOf result P → HoldsOf result Q
holds_map P Q (Ok value) f p = f (Ok value) p
holds_map P Q (Err refusal) f p = refused_as P Q refusal (λ r. f (Err r)) p

-- what was met where an address begins
abbrev put_met : List Triple → Reading → Reading
put_met met reading = record reading { met = met }

pub begun_met : (reading : Reading) (met : List Triple) (triple : Triple) → reading ≡ nothing_read → met ≡ with_triple triple reading.met → put_met met reading ≡ with_met triple nothing_read
begun_met reading met triple none is = ap (λ (m : List Triple). put_met m reading) is ∙ ap (λ (r : Reading). with_met triple r) none

pub false≢true : false ≡ true → ⊥
false≢true e = cc e

no_rows : (rows : List Draw) → rows ≡ [] → (length rows == 0) ≡ true
no_rows rows none = eq-eqb (length rows) 0 (ap (λ (rs : List Draw). length rs) none)

some_rows : (rows : List Draw) → (rows ≡ [] → ⊥) → (length rows == 0) ≡ false
some_rows [] some = absurd (some refl)
some_rows (row ∷ rows) some = ne_eqb (length (row ∷ rows)) 0 (λ e. omega (arith, e))

module _ (site : Site) (files : Option FileMap) (address sender : List ℕ) where
  abbrev Start : Act → Type 0
  Start = Starts site files address sender

  abbrev Whole : Result Reading ExpandRefusal → Type 0
  Whole = ComesTo site files address sender

  -- an address with no route
  pub start_error : (resolved : Resolved) (error : RouteError) → resolved ≡ routes.Refuses error → RoutesTo site address false resolved → Start (Stops (refusals.Refuses error))
  start_error resolved error is route = refused error (subst (λ (r : Resolved). RoutesTo site address false r) is route)

  -- an address that goes
  pub start_goes : (resolved : Resolved) (triple : Triple) (reading : Reading) → resolved ≡ Goes triple → RoutesTo site address false resolved → reading ≡ with_met triple nothing_read → (act : Act) → Leads site files 0 sender address triple reading act → Start act
  start_goes resolved triple reading is route same act leads = starts triple act (subst (λ (r : Resolved). RoutesTo site address false r) is route) (subst (λ (r : Reading). Leads site files 0 sender address triple r act) same leads)

  -- an address is a row, or opens into members
  pub start_none : (started : Option Opened) (next : Reading) → started ≡ None → Does (Ok started) next Start → Start (Stays next)
  start_none started next is h = subst (λ (s : Option Opened). Does (Ok s) next Start) is h

  pub start_some : (started : Option Opened) (opened : Opened) (next : Reading) → started ≡ Some opened → Does (Ok started) next Start → Start (Opens opened.stand opened.members next)
  start_some started opened next is h = subst (λ (s : Option Opened). Does (Ok s) next Start) is h

  -- few files are read where an address begins
  pub starts_few : (opened : Opened) (next : Reading) → Start (Opens opened.stand opened.members next) → length next.files ≤ most_reads
  starts_few opened next (starts triple act route leads) =
      let climbs = lead_climbs site files 0 sender address triple (with_met triple nothing_read) (Opens opened.stand opened.members next) leads in
      climbs.0.bounded (omega arith)

  -- an address is refused at once
  pub start_refused : (refusal : ExpandRefusal) → StopsWith refusal (λ r. Start (Stops r)) → HoldsOf (Err refusal) Whole
  start_refused refusal stop = stops_holds Whole refusal (stops_whole refusal stop)
    where
      stops_whole : (r : ExpandRefusal) → StopsWith r (λ s. Start (Stops s)) → StopsWith r (λ s. Whole (Err s))
      stops_whole (refusals.Refuses error) p = (Stops (refusals.Refuses error), (p, refl))
      stops_whole refusals.TooDeep p = (Stops refusals.TooDeep, (p, refl))
      stops_whole refusals.TooMany p = (Stops refusals.TooMany, (p, refl))
      stops_whole (refusals.IncludeAbsent name) p = (Stops (refusals.IncludeAbsent name), (p, refl))
      stops_whole refusals.NoOne p = (Stops refusals.NoOne, (p, refl))
      stops_whole refusals.FilesFault p = p
      stops_whole refusals.NoMemory p = p

  -- an address is a row
  pub start_stays : (next : Reading) → Start (Stays next) → Whole (Ok next)
  start_stays next start = (Stays next, (start, refl))

  module _ (opened : Opened) (next : Reading) (start : Start (Opens opened.stand opened.members next)) where
    abbrev Inner : Option FileMap → Result Reading ExpandRefusal → Type 0
    Inner fm = Reads site fm opened.stand opened.members next

    -- an address opens into members, which are read
    pub tree_read : (now : Option FileMap) → now ≡ files → (after : Reading) → Inner now (Ok after) → Whole (Ok after)
    tree_read now same after reads = (Opens opened.stand opened.members next, (start, subst (λ (fm : Option FileMap). Inner fm (Ok after)) same reads))

    -- or of which one is refused
    pub tree_refused : (now : Option FileMap) → now ≡ files → (refusal : ExpandRefusal) → StopsWith refusal (λ r. Inner now (Err r)) → HoldsOf (Err refusal) Whole
    tree_refused now same refusal stop = stops_holds Whole refusal (stops_whole refusal (subst (λ (fm : Option FileMap). StopsWith refusal (λ r. Inner fm (Err r))) same stop))
      where
        stops_whole : (r : ExpandRefusal) → StopsWith r (λ s. Inner files (Err s)) → StopsWith r (λ s. Whole (Err s))
        stops_whole (refusals.Refuses error) p = (Opens opened.stand opened.members next, (start, p))
        stops_whole refusals.TooDeep p = (Opens opened.stand opened.members next, (start, p))
        stops_whole refusals.TooMany p = (Opens opened.stand opened.members next, (start, p))
        stops_whole (refusals.IncludeAbsent name) p = (Opens opened.stand opened.members next, (start, p))
        stops_whole refusals.NoOne p = (Opens opened.stand opened.members next, (start, p))
        stops_whole refusals.FilesFault p = p
        stops_whole refusals.NoMemory p = p

  -- ---- rows

  -- a refusal is the outcome
  pub rows_refused : (refusal : ExpandRefusal) → HoldsOf (Err refusal) Whole → HoldsOf (Err refusal) (Expands site files address sender)
  rows_refused refusal h = refused_as Whole (Expands site files address sender) refusal (λ r whole. expands whole.0 (Err r) whole.1.0 whole.1.1) h

  -- there are rows
  pub rows_some : (reading : Reading) → (reading.rows ≡ [] → ⊥) → Whole (Ok reading) → Expands site files address sender (Ok reading.rows)
  rows_some reading some whole =
      let is : rows_of (Ok reading) ≡ Ok reading.rows = rw (some_rows reading.rows some) refl in
      subst (Expands site files address sender) is (expands whole.0 (Ok reading) whole.1.0 whole.1.1)

  -- there are none
  pub rows_none : (reading : Reading) → reading.rows ≡ [] → Whole (Ok reading) → Expands site files address sender (Err refusals.NoOne)
  rows_none reading none whole =
      let is : rows_of (Ok reading) ≡ Err refusals.NoOne = rw (no_rows reading.rows none) refl in
      subst (Expands site files address sender) is (expands whole.0 (Ok reading) whole.1.0 whole.1.1)

-- an outcome is the only one, where the files are told
pub only_outcome : (site : Site) (files : Option FileMap) (address sender : List ℕ) → ((map : FileMap) (one another : Result (List Draw) ExpandRefusal) → Expands site (Some map) address sender one → Expands site (Some map) address sender another → one ≡ another) → (result : Result (List Draw) ExpandRefusal) → HoldsOf result (Expands site files address sender) → IfSome files (λ map. (rows : Result (List Draw) ExpandRefusal) → Expands site (Some map) address sender rows → HoldsOf result (λ r. r ≡ rows))
only_outcome site None address sender law result holds = tt
only_outcome site (Some map) address sender law result holds = λ rows so. holds_map (Expands site (Some map) address sender) (λ r. r ≡ rows) result (λ r is. law map r rows is so) holds
