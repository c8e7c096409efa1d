-- Rows have their form: an address on one line, and a sender in its angles.
use Rattle.std.proofs.Common.{◌≡◌, ◌≢◌, ℕ, ◌+◌, ◌-◌, ◌<◌, ◌≤◌, ◌==◌, ◌&&◌, ◌||◌, not, Bool, true, false, cond, List, [], ◌∷◌, ◌++◌, All, length, map, length-append, Option, Some, None, Result, Ok, Err, IfOk, refl, sym, subst, nat_le, leb-false, arith, bytes_eq, option_map, find}
use Rattle.std.proofs.lemmas.Bool.{eqb-false}
use Rattle.std.proofs.lemmas.List.{get_or_push, length_push}
use Rattle.std.proofs.lemmas.List.Elements.{All-nil, All-cons, All-head, All-tail, All-push}
use Rattle.mail_base.specs.Drawing.{null_sender}
use Rattle.mail_base.specs.Limits.{most_rows}
use Rattle.mail_base.specs.Notes.{blanked}
use Rattle.mail_base.specs.Texts.{IsAddress, IsBracketed}
use Rattle.mail_base.specs.declared.draw.Draw.{Draw}
use Rattle.mail_base.specs.declared.route.Resolved.{Resolved}
use Rattle.mail_base.specs.declared.route.Resolved.TheVariants.{Goes, Refuses}
use Rattle.mail_base.specs.declared.route.Triple.{Triple}
use Rattle.mail_edge.specs.Seen.{FileMap}
use Rattle.cf_macros.specs.Expansion.{host_name}
use Rattle.alias_expand.specs.declared.aliases.Alias.{Alias}
use Rattle.alias_expand.specs.declared.members.Member.{Member}
use Rattle.alias_expand.specs.declared.reading.Reading.{Reading}
use Rattle.alias_expand.specs.declared.refusal.ExpandRefusal.{ExpandRefusal}
use Rattle.alias_expand.specs.declared.refusal.ExpandRefusal.TheVariants as refusals
use Rattle.alias_expand.specs.declared.stand.Stand.{Stand}
use Rattle.alias_expand.specs.Aliases.{has_name, members_named}
use Rattle.alias_expand.specs.Members.{IsMember}
use Rattle.alias_expand.specs.Owners.{bracketed, owned, owner_name, sender_under}
use Rattle.mail_base.specs.Drawing.{AreRows, IsDrawn}
use Rattle.alias_expand.specs.Rows.{Act, Stops, Stays, Opens, Site, Forwards, no_file, spent, absent, there, Leads, alias, no_alias, Includes, read_before, reads_spent, not_there, included, Meets, unrouted, itself, met_before, meets, Comes, too_deep, of_file, of_address, Reads, reads_none, stops, stays, opens, opens_to_refusal, Ends, Starts, refused, starts, Expands, expands, rows_of, added, row_at, leaf_by, alias_members, forward_file, has_mailer_flag, is_escaped, escaped, with_row, with_file, with_met, with_self, nothing_read}
use Rattle.alias_expand.specs.inner.AliasPlaces.{HasMembers}
use Rattle.alias_expand.proofs.AliasLemmas.{found_has}
use Rattle.alias_expand.proofs.MemberLemmas.{file_each}

-- ---- texts

abbrev NoLf : ℕ → Type 0
NoLf b = b ≢ 10

blank_by : (b : ℕ) (t : Bool) → (b == 10 || b == 13) ≡ t → NoLf (blanked b)
blank_by b true e = rw e (grind arith)
blank_by b false e = rw e (grind (arith, e))

all_blank : (text : List ℕ) → All NoLf (map blanked text)
all_blank [] = All-nil NoLf
all_blank (b ∷ text) = All-cons NoLf (blanked b) (map blanked text) (blank_by b (b == 10 || b == 13) refl) (all_blank text)

-- a path in its angles is one
bracketed_form : (text : List ℕ) → IsBracketed (bracketed text)
bracketed_form text = record {
  line = All-push NoLf (60 ∷ map blanked text) 62 (All-cons NoLf 60 (map blanked text) (λ is. absurd (omega arith)) (all_blank text)) (λ is. absurd (omega arith));
  opens = refl;
  closes = get_or_push (60 ∷ map blanked text) 62 0 (length (bracketed text) - 1) (omega (arith, length_push (60 ∷ map blanked text) 62));
}

escaped_form : (text : List ℕ) → IsAddress text → IsAddress (escaped text)
escaped_form text form = by (is_escaped text)
  where
    by : (b : Bool) → IsAddress (cond b text (92 ∷ text))
    by true = form
    by false = record { line = All-cons NoLf 92 text (λ is. absurd (omega arith)) form.line; some = omega arith }

owned_form : (sender owner host : List ℕ) (members : Option (List Member)) → IsBracketed sender → IsBracketed (owned sender owner host members)
owned_form sender owner host None form = form
owned_form sender owner host (Some members) form = bracketed_form _

sender_form : (aliases : List Alias) (site : Site) (sender name : List ℕ) → IsBracketed sender → IsBracketed (sender_under aliases site.macros sender name)
sender_form aliases site sender name form = by (bytes_eq sender null_sender)
  where
    by : (b : Bool) → IsBracketed (cond b sender (owned sender (owner_name name) (host_name site.macros) (members_named (owner_name name) aliases)))
    by true = form
    by false = owned_form sender (owner_name name) (host_name site.macros) (members_named (owner_name name) aliases) form

named_each : (name : List ℕ) (aliases : List Alias) (members : List Member) → All HasMembers aliases → members_named name aliases ≡ Some members → All IsMember members
named_each name aliases members kept is = by (find (has_name name) aliases) refl is
  where
    by : (found : Option Alias) → found ≡ find (has_name name) aliases → option_map (λ (a : Alias). a.members) found ≡ Some members → All IsMember members
    by None e same = absurd (cc same)
    by (Some a) e same =
        let equal : a.members ≡ members = cc same in
        subst (λ (ms : List Member). All IsMember ms) equal (found_has name a aliases e kept)

-- ---- rows

-- rows that were read so far
record Formed (reading : Reading) : Type 0 where
  few : length reading.rows ≤ most_rows
  each : All IsDrawn reading.rows

abbrev FormsOf : Act → Type 0
FormsOf (Stops refusal) = Unit {0}
FormsOf (Stays next) = Formed next
FormsOf (Opens inner below next) = Formed next × (IsBracketed inner.sender × All IsMember below)

row_form : (row : Draw) (reading : Reading) → IsDrawn row → Formed reading → FormsOf (added row reading)
row_form row reading drawn formed = by (nat_le most_rows (length reading.rows)) refl
  where
    by : (b : Bool) → nat_le most_rows (length reading.rows) ≡ b → FormsOf (cond b (Stops refusals.TooMany) (Stays (with_row row reading)))
    by true e = tt
    by false e =
        let some_left : length reading.rows < most_rows = leb-false most_rows (length reading.rows) e in
        let one : length (reading.rows ++ row ∷ []) ≡ length reading.rows + 1 = length-append reading.rows (row ∷ []) in
        record { few = omega (arith, one, some_left); each = All-push IsDrawn reading.rows row formed.each drawn }

leaf_form : (top : Bool) (resolved : Resolved) (row : Draw) (reading : Reading) → IsDrawn row → Formed reading → FormsOf (leaf_by top resolved row reading)
leaf_form true (Refuses error) row reading drawn formed = tt
leaf_form true (Goes triple) row reading drawn formed = row_form row reading drawn formed
leaf_form false (Refuses error) row reading drawn formed = row_form row reading drawn formed
leaf_form false (Goes triple) row reading drawn formed = row_form row reading drawn formed

-- more was read, but no rows
same_rows : (old new : Reading) → new.rows ≡ old.rows → Formed old → Formed new
same_rows old new same formed = record { few = rw same formed.few; each = rw same formed.each }

module _ (site : Site) (files : Option FileMap) (kept : All HasMembers site.aliases) where
  module _ (level : ℕ) (sender text : List ℕ) (triple : Triple) (address : IsAddress text) (bracketed : IsBracketed sender) where
    drawn : (resolved : Resolved) → IsDrawn (row_at level sender text resolved)
    drawn resolved = record { address_form = address; sender_form = bracketed }

    forward_form : (resolved : Resolved) (reading : Reading) (file : Option (List ℕ)) (act : Act) → Formed reading → Forwards site files level sender text triple resolved reading file act → FormsOf act
    forward_form resolved reading None act formed (no_file) = leaf_form (level == 0) resolved (row_at level sender text resolved) reading (drawn resolved) formed
    forward_form resolved reading (Some file) act formed (spent f s) = tt
    forward_form resolved reading (Some file) act formed (absent f s h) = leaf_form (level == 0) resolved (row_at level sender text resolved) (with_file triple file reading) (drawn resolved) (same_rows reading (with_file triple file reading) refl formed)
    forward_form resolved reading (Some file) act formed (there f content s h) = (same_rows reading (with_file triple file reading) refl formed, (bracketed, file_each content))

    alias_each : (members : List Member) → alias_members site text triple ≡ Some members → All IsMember members
    alias_each members is = by (not (is_escaped text) && has_mailer_flag site 65 triple) is
      where
        by : (b : Bool) → cond b (members_named triple.user site.aliases) None ≡ Some members → All IsMember members
        by true e = named_each triple.user site.aliases members kept e
        by false e = absurd (cc e)

    lead_form : (reading : Reading) (act : Act) → Formed reading → Leads site files level sender text triple reading act → FormsOf act
    lead_form reading act formed (alias members is) = (formed, (sender_form site.aliases site sender triple.user bracketed, alias_each members is))
    lead_form reading act formed (no_alias resolved a none route by) = forward_form resolved reading (forward_file site text triple resolved) act formed by

  module _ (stand : Stand) (reading : Reading) (bracketed : IsBracketed stand.sender) (formed : Formed reading) where
    include_form : (file : List ℕ) (act : Act) → Includes site files stand reading file act → FormsOf act
    include_form file act (read_before is) = formed
    include_form file act (reads_spent is s) = tt
    include_form file act (not_there is s h) = tt
    include_form file act (included content is s h) = (same_rows reading (with_file stand.namer file reading) refl formed, (bracketed, file_each content))

    meet_form : (text : List ℕ) (act : Act) → IsAddress text → Meets site files stand reading text act → FormsOf act
    meet_form text act address (unrouted error route) = row_form _ reading (record { address_form = address; sender_form = bracketed }) formed
    meet_form text act address (itself triple resolved route is leaf) = row_form _ (with_self triple reading) (record { address_form = escaped_form text address; sender_form = bracketed }) (same_rows reading (with_self triple reading) refl formed)
    meet_form text act address (met_before triple route other among) = formed
    meet_form text act address (meets triple a route other first leads) = lead_form stand.level stand.sender text triple address bracketed (with_met triple reading) act (same_rows reading (with_met triple reading) refl formed) leads

    come_form : (member : Member) (act : Act) → IsMember member → Comes site files stand reading member act → FormsOf act
    come_form member act is (too_deep m deep) = tt
    come_form member act is (of_file file a deep by) = include_form file act by
    come_form member act is (of_address text a deep by) = meet_form text act is by

  -- members that are read leave rows with their form
  reads_form : (stand : Stand) (members : List Member) (reading : Reading) (end : Result Reading ExpandRefusal) → IsBracketed stand.sender → All IsMember members → Formed reading → Reads site files stand members reading end → IfOk end Formed
  reads_form stand [] reading end bracketed each formed (reads_none s r) = formed
  reads_form stand (m ∷ ms) reading end bracketed each formed (stops s n ns r refusal c) = tt
  reads_form stand (m ∷ ms) reading end bracketed each formed (stays s n ns r next e c rest) =
      reads_form stand ms next end bracketed (All-tail IsMember m ms each) (come_form stand reading bracketed formed m (Stays next) (All-head IsMember m ms each) c) rest
  reads_form stand (m ∷ ms) reading end bracketed each formed (opens_to_refusal s inner n ns below r next refusal c deep) = tt
  reads_form stand (m ∷ ms) reading end bracketed each formed (opens s inner n ns below r next after e c deep rest) =
      let forms : FormsOf (Opens inner below next) = come_form stand reading bracketed formed m (Opens inner below next) (All-head IsMember m ms each) c in
      let later : Formed after = reads_form inner below next (Ok after) forms.1.0 forms.1.1 forms.0 deep in
      reads_form stand ms after end bracketed (All-tail IsMember m ms each) later rest

  end_form : (act : Act) (end : Result Reading ExpandRefusal) → FormsOf act → Ends site files act end → IfOk end Formed
  end_form (Stops refusal) end forms is = subst (λ (e : Result Reading ExpandRefusal). IfOk e Formed) (sym is) tt
  end_form (Stays reading) end forms is = subst (λ (e : Result Reading ExpandRefusal). IfOk e Formed) (sym is) forms
  end_form (Opens inner below next) end forms reads = reads_form inner below next end forms.1.0 forms.1.1 forms.0 reads

  start_form : (address sender : List ℕ) (act : Act) → IsAddress address → IsBracketed sender → Starts site files address sender act → FormsOf act
  start_form address sender act a s (refused error route) = tt
  start_form address sender act a s (starts triple x route leads) = lead_form 0 sender address triple a s (with_met triple nothing_read) act (record { few = omega arith; each = All-nil IsDrawn }) leads

  rows_form : (end : Result Reading ExpandRefusal) → IfOk end Formed → IfOk (rows_of end) AreRows
  rows_form (Err refusal) formed = tt
  rows_form (Ok reading) formed = by (length reading.rows == 0) refl
    where
      by : (b : Bool) → (length reading.rows == 0) ≡ b → IfOk (cond b (Err refusals.NoOne) (Ok reading.rows)) AreRows
      by true e = tt
      by false e =
          let some : length reading.rows ≢ 0 = eqb-false (length reading.rows) 0 e in
          record { some = omega (arith, some); few = formed.few; each = formed.each }

  pub outcome_form : (address sender : List ℕ) (result : Result (List Draw) ExpandRefusal) → IsAddress address → IsBracketed sender → Expands site files address sender result → IfOk result AreRows
  outcome_form address sender result a s (expands act end start ends) = rows_form end (end_form act end (start_form address sender act a s start) ends)
