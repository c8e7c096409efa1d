-- An address has one outcome, where routes are unique and the files are told.
use Rattle.std.proofs.Common.{◌≡◌, ℕ, List, [], ◌∷◌, Option, Some, None, Result, Ok, Err, Bool, true, false, refl, sym, ◌∙◌, ap, subst}
use Rattle.mail_base.specs.declared.draw.Draw.{Draw}
use Rattle.mail_base.specs.declared.route.Resolved.{Resolved}
use Rattle.mail_base.specs.declared.route.Resolved.TheVariants.{Goes, Refuses}
use Rattle.mail_base.specs.declared.route.RouteError.{RouteError}
use Rattle.mail_base.specs.declared.route.Triple.{Triple}
use Rattle.alias_expand.specs.Triples.{is_among}
use Rattle.mail_edge.specs.Seen.{FileMap}
use Rattle.alias_expand.specs.declared.members.Member.{Member}
use Rattle.alias_expand.specs.declared.reading.Reading.{Reading}
use Rattle.alias_expand.specs.declared.refusal.ExpandRefusal.{ExpandRefusal}
use Rattle.alias_expand.specs.declared.stand.Stand.{Stand}
use Rattle.alias_expand.specs.Rows.{Act, Stops, Stays, Opens, Site, RoutesTo, HasText, Forwards, no_file, spent, absent, there, Leads, alias, no_alias, Includes, read_before, reads_spent, not_there, included, Meets, unrouted, itself, met_before, meets, Comes, too_deep, of_file, of_address, Reads, reads_none, stops, stays, opens, opens_to_refusal, Ends, Starts, refused, starts, Expands, expands, rows_of, forward_file, is_itself, escaped, added, row_at, with_met, nothing_read}

true≢false : true ≡ false → ⊥
true≢false e = cc e

-- a test has one result
two_ways : {X : Type 0} (b : Bool) → b ≡ true → b ≡ false → X
two_ways b yes_it no_it = absurd (true≢false (sym yes_it ∙ no_it))

module _ (site : Site) (map : FileMap) (one_route : (text : List ℕ) (leaf : Bool) (one another : Resolved) → RoutesTo site text leaf one → RoutesTo site text leaf another → one ≡ another) where
  abbrev files : Option FileMap
  files = Some map

  one_text : (file : List ℕ) (one another : Option (List ℕ)) → HasText files file one → HasText files file another → one ≡ another
  one_text file one another a b = a ∙ sym b

  module _ (level : ℕ) (sender text : List ℕ) (triple : Triple) where
    one_forward : (resolved : Resolved) (reading : Reading) (file : Option (List ℕ)) (one another : Act) → Forwards site files level sender text triple resolved reading file one → Forwards site files level sender text triple resolved reading file another → one ≡ another
    one_forward resolved reading None one another (no_file) (no_file) = refl
    one_forward resolved reading (Some file) one another (spent f s) (spent g t) = refl
    one_forward resolved reading (Some file) one another (spent f s) (absent g t h) = two_ways _ s t
    one_forward resolved reading (Some file) one another (spent f s) (there g c t h) = two_ways _ s t
    one_forward resolved reading (Some file) one another (absent f s h) (spent g t) = two_ways _ t s
    one_forward resolved reading (Some file) one another (absent f s h) (absent g t i) = refl
    one_forward resolved reading (Some file) one another (absent f s h) (there g c t i) = absurd (cc (one_text file None (Some c) h i))
    one_forward resolved reading (Some file) one another (there f c s h) (spent g t) = two_ways _ t s
    one_forward resolved reading (Some file) one another (there f c s h) (absent g t i) = absurd (cc (one_text file (Some c) None h i))
    one_forward resolved reading (Some file) one another (there f c s h) (there g d t i) =
        let same : Some c ≡ Some d = one_text file (Some c) (Some d) h i in
        cc same

    one_lead : (reading : Reading) (one another : Act) → Leads site files level sender text triple reading one → Leads site files level sender text triple reading another → one ≡ another
    one_lead reading one another (alias ms is) (alias ns js) =
        let same : Some ms ≡ Some ns = sym is ∙ js in
        cc same
    one_lead reading one another (alias ms is) (no_alias r act none route by) = absurd (cc (sym is ∙ none))
    one_lead reading one another (no_alias r act none route by) (alias ms is) = absurd (cc (sym is ∙ none))
    one_lead reading one another (no_alias r act none route by) (no_alias s other none2 route2 by2) =
        let same : s ≡ r = one_route text true s r route2 route in
        one_forward r reading (forward_file site text triple r) one another by (subst (λ (x : Resolved). Forwards site files level sender text triple x reading (forward_file site text triple x) another) same by2)

  module _ (stand : Stand) (reading : Reading) where
    one_include : (file : List ℕ) (one another : Act) → Includes site files stand reading file one → Includes site files stand reading file another → one ≡ another
    one_include file one another (read_before a) (read_before b) = refl
    one_include file one another (read_before a) (reads_spent b s) = two_ways _ a b
    one_include file one another (read_before a) (not_there b s h) = two_ways _ a b
    one_include file one another (read_before a) (included c b s h) = two_ways _ a b
    one_include file one another (reads_spent a s) (read_before b) = two_ways _ b a
    one_include file one another (reads_spent a s) (reads_spent b t) = refl
    one_include file one another (reads_spent a s) (not_there b t h) = two_ways _ s t
    one_include file one another (reads_spent a s) (included c b t h) = two_ways _ s t
    one_include file one another (not_there a s h) (read_before b) = two_ways _ b a
    one_include file one another (not_there a s h) (reads_spent b t) = two_ways _ t s
    one_include file one another (not_there a s h) (not_there b t i) = refl
    one_include file one another (not_there a s h) (included c b t i) = absurd (cc (one_text file None (Some c) h i))
    one_include file one another (included c a s h) (read_before b) = two_ways _ b a
    one_include file one another (included c a s h) (reads_spent b t) = two_ways _ t s
    one_include file one another (included c a s h) (not_there b t i) = absurd (cc (one_text file (Some c) None h i))
    one_include file one another (included c a s h) (included d b t i) =
        let same : Some c ≡ Some d = one_text file (Some c) (Some d) h i in
        cc same

    module _ (text : List ℕ) where
      same_triple : (one another : Triple) → RoutesTo site text false (Goes one) → RoutesTo site text false (Goes another) → one ≡ another
      same_triple one another a b = let same : Goes one ≡ Goes another = one_route text false (Goes one) (Goes another) a b in cc same

      module _ {X : Type 0} where
        no_error : (error : RouteError) (triple : Triple) → RoutesTo site text false (Refuses error) → RoutesTo site text false (Goes triple) → X
        no_error error triple a b = absurd (cc (one_route text false (Refuses error) (Goes triple) a b))

      -- a fact of one triple is one of the other
      at : (t u : Triple) (P : Triple → Type 0) → RoutesTo site text false (Goes t) → RoutesTo site text false (Goes u) → P u → P t
      at t u P a b p = subst P (same_triple u t b a) p

      abbrev Is : Bool → Triple → Type 0
      Is b triple = is_itself stand triple reading ≡ b

      abbrev Among : Bool → Triple → Type 0
      Among b triple = is_among triple reading.met ≡ b

      one_meet : (one another : Act) → Meets site files stand reading text one → Meets site files stand reading text another → one ≡ another
      one_meet one another (unrouted e r) (unrouted f q) =
          let same : Refuses e ≡ Refuses f = one_route text false (Refuses e) (Refuses f) r q in
          ap (λ (x : Resolved). added (row_at stand.level stand.sender text x) reading) same
      one_meet one another (unrouted e r) (itself u s q is l) = no_error e u r q
      one_meet one another (unrouted e r) (met_before u q other_it am) = no_error e u r q
      one_meet one another (unrouted e r) (meets u act q other_it am leads) = no_error e u r q
      one_meet one another (itself t s r is l) (unrouted f q) = no_error f t q r
      one_meet one another (itself t s r is l) (itself u s2 q is2 l2) =
          let same : s ≡ s2 = one_route (escaped text) true s s2 l l2 in
          let also : t ≡ u = same_triple t u r q in
          rw (same, also) refl
      one_meet one another (itself t s r is l) (met_before u q other_it am) = two_ways _ is (at t u (Is false) r q other_it)
      one_meet one another (itself t s r is l) (meets u act q other_it am leads) = two_ways _ is (at t u (Is false) r q other_it)
      one_meet one another (met_before t r other_it am) (unrouted f q) = no_error f t q r
      one_meet one another (met_before t r other_it am) (itself u s q is l) = two_ways _ (at t u (Is true) r q is) other_it
      one_meet one another (met_before t r other_it am) (met_before u q no2 am2) = refl
      one_meet one another (met_before t r other_it am) (meets u act q no2 am2 leads) = two_ways _ am (at t u (Among false) r q am2)
      one_meet one another (meets t act r other_it am leads) (unrouted f q) = no_error f t q r
      one_meet one another (meets t act r other_it am leads) (itself u s q is l) = two_ways _ (at t u (Is true) r q is) other_it
      one_meet one another (meets t act r other_it am leads) (met_before u q no2 am2) = two_ways _ (at t u (Among true) r q am2) am
      one_meet one another (meets t act r other_it am leads) (meets u other q no2 am2 leads2) =
          one_lead stand.level stand.sender text t (with_met t reading) one another leads (at t u (λ (x : Triple). Leads site files stand.level stand.sender text x (with_met x reading) another) r q leads2)

    -- a member comes to one act
    one_come : (member : Member) (one another : Act) → Comes site files stand reading member one → Comes site files stand reading member another → one ≡ another
    one_come member one another (too_deep m d) (too_deep n e) = refl
    one_come member one another (too_deep m d) (of_file file act e by) = two_ways _ d e
    one_come member one another (too_deep m d) (of_address text act e by) = two_ways _ d e
    one_come member one another (of_file file act e by) (too_deep m d) = two_ways _ d e
    one_come member one another (of_file file act e by) (of_file g other f by2) = one_include file one another by by2
    one_come member one another (of_address text act e by) (too_deep m d) = two_ways _ d e
    one_come member one another (of_address text act e by) (of_address u other f by2) = one_meet text one another by by2

  -- the members behind one that opens, by what it came to
  abbrev Behind : Stand → List Member → Result Reading ExpandRefusal → Result Reading ExpandRefusal → Type 0
  Behind stand members end (Ok after) = Reads site files stand members after end
  Behind stand members end (Err refusal) = end ≡ Err refusal

  -- what comes behind the first member, by what that came to
  abbrev Follows : Stand → List Member → Result Reading ExpandRefusal → Act → Type 0
  Follows stand members end (Stops refusal) = end ≡ Err refusal
  Follows stand members end (Stays next) = Reads site files stand members next end
  Follows stand members end (Opens inner below next) = (first : Result Reading ExpandRefusal) × (Reads site files inner below next first × Behind stand members end first)

  read_by : (stand : Stand) (member : Member) (members : List Member) (reading : Reading) (end : Result Reading ExpandRefusal) → Reads site files stand (member ∷ members) reading end → (act : Act) × (Comes site files stand reading member act × Follows stand members end act)
  read_by stand member members reading end (stops s m ms r refusal c) = (Stops refusal, (c, refl))
  read_by stand member members reading end (stays s m ms r next e c rest) = (Stays next, (c, rest))
  read_by stand member members reading end (opens_to_refusal s inner m ms below r next refusal c deep) = (Opens inner below next, (c, (Err refusal, (deep, refl))))
  read_by stand member members reading end (opens s inner m ms below r next after e c deep rest) = (Opens inner below next, (c, (Ok after, (deep, rest))))

  -- members come to one end
  one_end : (stand : Stand) (members : List Member) (reading : Reading) (one another : Result Reading ExpandRefusal) → Reads site files stand members reading one → Reads site files stand members reading another → one ≡ another
  one_end stand [] reading one another (reads_none s r) (reads_none s2 r2) = refl
  one_end stand (m ∷ ms) reading one another (stops s n ns r refusal c) b =
      let w = read_by stand m ms reading another b in
      let same : Stops refusal ≡ w.0 = one_come stand reading m (Stops refusal) w.0 c w.1.0 in
      let is : another ≡ Err refusal = subst (λ (a : Act). Follows stand ms another a) (sym same) w.1.1 in
      sym is
  one_end stand (m ∷ ms) reading one another (stays s n ns r next e c rest) b =
      let w = read_by stand m ms reading another b in
      let same : Stays next ≡ w.0 = one_come stand reading m (Stays next) w.0 c w.1.0 in
      let behind : Reads site files stand ms next another = subst (λ (a : Act). Follows stand ms another a) (sym same) w.1.1 in
      one_end stand ms next one another rest behind
  one_end stand (m ∷ ms) reading one another (opens_to_refusal s inner n ns below r next refusal c deep) b =
      let w = read_by stand m ms reading another b in
      let same : Opens inner below next ≡ w.0 = one_come stand reading m (Opens inner below next) w.0 c w.1.0 in
      let f : (first : Result Reading ExpandRefusal) × (Reads site files inner below next first × Behind stand ms another first) = subst (λ (a : Act). Follows stand ms another a) (sym same) w.1.1 in
      let first : Err refusal ≡ f.0 = one_end inner below next (Err refusal) f.0 deep f.1.0 in
      let is : another ≡ Err refusal = subst (λ (x : Result Reading ExpandRefusal). Behind stand ms another x) (sym first) f.1.1 in
      sym is
  one_end stand (m ∷ ms) reading one another (opens s inner n ns below r next after e c deep rest) b =
      let w = read_by stand m ms reading another b in
      let same : Opens inner below next ≡ w.0 = one_come stand reading m (Opens inner below next) w.0 c w.1.0 in
      let f : (first : Result Reading ExpandRefusal) × (Reads site files inner below next first × Behind stand ms another first) = subst (λ (a : Act). Follows stand ms another a) (sym same) w.1.1 in
      let first : Ok after ≡ f.0 = one_end inner below next (Ok after) f.0 deep f.1.0 in
      let behind : Reads site files stand ms after another = subst (λ (x : Result Reading ExpandRefusal). Behind stand ms another x) (sym first) f.1.1 in
      one_end stand ms after one another rest behind

  module _ (address sender : List ℕ) where
    one_start : (one another : Act) → Starts site files address sender one → Starts site files address sender another → one ≡ another
    one_start one another (refused e r) (refused f q) =
        let same : Refuses e ≡ Refuses f = one_route address false (Refuses e) (Refuses f) r q in
        cc same
    one_start one another (refused e r) (starts t act q leads) = absurd (cc (one_route address false (Refuses e) (Goes t) r q))
    one_start one another (starts t act q leads) (refused e r) = absurd (cc (one_route address false (Refuses e) (Goes t) r q))
    one_start one another (starts t act q leads) (starts u other p leads2) =
        let routes : Goes u ≡ Goes t = one_route address false (Goes u) (Goes t) p q in
        let same : u ≡ t = cc routes in
        one_lead 0 sender address t (with_met t nothing_read) one another leads (subst (λ (x : Triple). Leads site files 0 sender address x (with_met x nothing_read) another) same leads2)

    one_finish : (act : Act) (one another : Result Reading ExpandRefusal) → Ends site files act one → Ends site files act another → one ≡ another
    one_finish (Stops refusal) one another a b = a ∙ sym b
    one_finish (Stays reading) one another a b = a ∙ sym b
    one_finish (Opens stand members reading) one another a b = one_end stand members reading one another a b

    -- an address comes to one outcome
    pub one_outcome : (one another : Result (List Draw) ExpandRefusal) → Expands site files address sender one → Expands site files address sender another → one ≡ another
    one_outcome one another (expands act end s e) (expands act2 end2 s2 e2) =
        let same : act2 ≡ act = one_start act2 act s2 s in
        ap rows_of (one_finish act end end2 e (subst (λ (x : Act). Ends site files x end2) same e2))
