-- A null sender stays in the rows of an address.
use Rattle.std.proofs.Common.{◌≡◌, ℕ, ◌==◌, Bool, true, false, cond, List, [], ◌∷◌, All, length, Option, Some, None, Result, Ok, Err, IfOk, refl, sym, subst, nat_le}
use Rattle.std.proofs.lemmas.List.Elements.{All-nil, All-push}
use Rattle.mail_base.specs.Drawing.{null_sender}
use Rattle.mail_base.specs.Limits.{most_rows}
use Rattle.mail_base.specs.declared.draw.Draw.{Draw}
use Rattle.mail_base.specs.declared.route.Resolved.{Resolved}
use Rattle.mail_base.specs.declared.route.Resolved.TheVariants.{Goes, Refuses}
use Rattle.mail_base.specs.declared.route.Triple.{Triple}
use Rattle.mail_edge.specs.Seen.{FileMap}
use Rattle.alias_expand.specs.declared.members.Member.{Member}
use Rattle.alias_expand.specs.declared.reading.Reading.{Reading}
use Rattle.alias_expand.specs.declared.refusal.ExpandRefusal.{ExpandRefusal}
use Rattle.alias_expand.specs.declared.refusal.ExpandRefusal.TheVariants as refusals
use Rattle.alias_expand.specs.declared.stand.Stand.{Stand}
use Rattle.alias_expand.specs.Owners.{sender_under}
use Rattle.alias_expand.specs.Rows.{Act, Stops, Stays, Opens, Site, Forwards, no_file, spent, absent, there, Leads, alias, no_alias, Includes, read_before, reads_spent, not_there, included, Meets, unrouted, itself, met_before, meets, Comes, too_deep, of_file, of_address, Reads, reads_none, stops, stays, opens, opens_to_refusal, Ends, Starts, refused, starts, Expands, expands, rows_of, added, row_at, leaf_by, forward_file, with_row, with_file, with_met, with_self, nothing_read}

abbrev HasNull : Draw → Type 0
HasNull row = row.sender ≡ null_sender

abbrev AreNull : Reading → Type 0
AreNull reading = All HasNull reading.rows

abbrev NullOf : Act → Type 0
NullOf (Stops refusal) = Unit {0}
NullOf (Stays next) = AreNull next
NullOf (Opens inner below next) = AreNull next × (inner.sender ≡ null_sender)

-- no owner takes its place
null_under : (site : Site) (sender name : List ℕ) → sender ≡ null_sender → sender_under site.aliases site.macros sender name ≡ null_sender
null_under site sender name is = rw is refl

null_row : (row : Draw) (reading : Reading) → HasNull row → AreNull reading → NullOf (added row reading)
null_row row reading one all = by (nat_le most_rows (length reading.rows))
  where
    by : (b : Bool) → NullOf (cond b (Stops refusals.TooMany) (Stays (with_row row reading)))
    by true = tt
    by false = All-push HasNull reading.rows row all one

null_leaf : (top : Bool) (resolved : Resolved) (row : Draw) (reading : Reading) → HasNull row → AreNull reading → NullOf (leaf_by top resolved row reading)
null_leaf true (Refuses error) row reading one all = tt
null_leaf true (Goes triple) row reading one all = null_row row reading one all
null_leaf false (Refuses error) row reading one all = null_row row reading one all
null_leaf false (Goes triple) row reading one all = null_row row reading one all

module _ (site : Site) (files : Option FileMap) where
  module _ (level : ℕ) (sender text : List ℕ) (triple : Triple) (is : sender ≡ null_sender) where
    null_forward : (resolved : Resolved) (reading : Reading) (file : Option (List ℕ)) (act : Act) → AreNull reading → Forwards site files level sender text triple resolved reading file act → NullOf act
    null_forward resolved reading None act all (no_file) = null_leaf (level == 0) resolved (row_at level sender text resolved) reading is all
    null_forward resolved reading (Some file) act all (spent f s) = tt
    null_forward resolved reading (Some file) act all (absent f s h) = null_leaf (level == 0) resolved (row_at level sender text resolved) (with_file triple file reading) is all
    null_forward resolved reading (Some file) act all (there f content s h) = (all, is)

    null_lead : (reading : Reading) (act : Act) → AreNull reading → Leads site files level sender text triple reading act → NullOf act
    null_lead reading act all (alias members a) = (all, null_under site sender triple.user is)
    null_lead reading act all (no_alias resolved a none route by) = null_forward resolved reading (forward_file site text triple resolved) act all by

  module _ (stand : Stand) (reading : Reading) (is : stand.sender ≡ null_sender) (all : AreNull reading) where
    null_include : (file : List ℕ) (act : Act) → Includes site files stand reading file act → NullOf act
    null_include file act (read_before b) = all
    null_include file act (reads_spent b s) = tt
    null_include file act (not_there b s h) = tt
    null_include file act (included content b s h) = (all, is)

    null_meet : (text : List ℕ) (act : Act) → Meets site files stand reading text act → NullOf act
    null_meet text act (unrouted error route) = null_row _ reading is all
    null_meet text act (itself triple resolved route self leaf) = null_row _ (with_self triple reading) is all
    null_meet text act (met_before triple route other among) = all
    null_meet text act (meets triple a route other first leads) = null_lead stand.level stand.sender text triple is (with_met triple reading) act all leads

    null_come : (member : Member) (act : Act) → Comes site files stand reading member act → NullOf act
    null_come member act (too_deep m deep) = tt
    null_come member act (of_file file a deep by) = null_include file act by
    null_come member act (of_address text a deep by) = null_meet text act by

  null_reads : (stand : Stand) (members : List Member) (reading : Reading) (end : Result Reading ExpandRefusal) → stand.sender ≡ null_sender → AreNull reading → Reads site files stand members reading end → IfOk end AreNull
  null_reads stand [] reading end is all (reads_none s r) = all
  null_reads stand (m ∷ ms) reading end is all (stops s n ns r refusal c) = tt
  null_reads stand (m ∷ ms) reading end is all (stays s n ns r next e c rest) = null_reads stand ms next end is (null_come stand reading is all m (Stays next) c) rest
  null_reads stand (m ∷ ms) reading end is all (opens_to_refusal s inner n ns below r next refusal c deep) = tt
  null_reads stand (m ∷ ms) reading end is all (opens s inner n ns below r next after e c deep rest) =
      let opened : NullOf (Opens inner below next) = null_come stand reading is all m (Opens inner below next) c in
      let later : AreNull after = null_reads inner below next (Ok after) opened.1 opened.0 deep in
      null_reads stand ms after end is later rest

  null_end : (act : Act) (end : Result Reading ExpandRefusal) → NullOf act → Ends site files act end → IfOk end AreNull
  null_end (Stops refusal) end null is = subst (λ (e : Result Reading ExpandRefusal). IfOk e AreNull) (sym is) tt
  null_end (Stays reading) end null is = subst (λ (e : Result Reading ExpandRefusal). IfOk e AreNull) (sym is) null
  null_end (Opens inner below next) end null reads = null_reads inner below next end null.1 null.0 reads

  null_start : (address : List ℕ) (act : Act) → Starts site files address null_sender act → NullOf act
  null_start address act (refused error route) = tt
  null_start address act (starts triple x route leads) = null_lead 0 null_sender address triple refl (with_met triple nothing_read) act (All-nil HasNull) leads

  null_rows : (end : Result Reading ExpandRefusal) → IfOk end AreNull → IfOk (rows_of end) (All HasNull)
  null_rows (Err refusal) all = tt
  null_rows (Ok reading) all = by (length reading.rows == 0)
    where
      by : (b : Bool) → IfOk (cond b (Err refusals.NoOne) (Ok reading.rows)) (All HasNull)
      by true = tt
      by false = all

  -- each row has the null sender
  pub null_outcome : (address : List ℕ) (result : Result (List Draw) ExpandRefusal) → Expands site files address null_sender result → IfOk result (All HasNull)
  null_outcome address result (expands act end start ends) = null_rows end (null_end act end (null_start address act start) ends)
