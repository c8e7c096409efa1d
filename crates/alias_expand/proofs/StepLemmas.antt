-- What a member or an address comes to, by what was done of it.
use Rattle.std.proofs.Common.{◌≡◌, ℕ, List, Option, Some, None, Result, Ok, Err, true, false, sym, subst}
use Rattle.mail_base.specs.declared.route.Resolved.{Resolved}
use Rattle.mail_base.specs.declared.route.Resolved.TheVariants.{Goes, Refuses}
use Rattle.mail_base.specs.declared.route.RouteError.{RouteError}
use Rattle.mail_base.specs.declared.route.Triple.{Triple}
use Rattle.mail_edge.specs.Seen.{FileMap}
use Rattle.alias_expand.specs.declared.frame.Opened.{Opened}
use Rattle.alias_expand.specs.declared.members.Member.{Member}
use Rattle.alias_expand.specs.declared.members.Member.TheVariants.{Address, Include}
use Rattle.alias_expand.specs.declared.reading.Reading.{Reading}
use Rattle.alias_expand.specs.declared.refusal.ExpandRefusal.{ExpandRefusal}
use Rattle.alias_expand.specs.declared.refusal.ExpandRefusal.TheVariants as refusals
use Rattle.alias_expand.specs.declared.stand.Stand.{Stand}
use Rattle.alias_expand.specs.Members.{file_members}
use Rattle.alias_expand.specs.Triples.{is_among, is_read, with_read}
use Rattle.alias_expand.specs.Rows.{Act, Stops, Stays, Opens, Site, RoutesTo, HasText, Forwards, no_file, absent, there, Leads, alias, no_alias, Includes, included, not_there, Meets, unrouted, itself, meets, Comes, of_file, of_address, added, row_at, leaf_at, alias_members, forward_file, is_deep, is_spent, is_itself, escaped, under_alias, under_user, with_met, with_self}
use Rattle.alias_expand.specs.inner.Steps.{Does, Met, StopsWith}

-- a refusal with one fact has another
pub stops_map : {P Q : ExpandRefusal → Type 0} (refusal : ExpandRefusal) → ((r : ExpandRefusal) → P r → Q r) → StopsWith refusal P → StopsWith refusal Q
stops_map (refusals.Refuses error) f p = f (refusals.Refuses error) p
stops_map refusals.TooDeep f p = f refusals.TooDeep p
stops_map refusals.TooMany f p = f refusals.TooMany p
stops_map (refusals.IncludeAbsent name) f p = f (refusals.IncludeAbsent name) p
stops_map refusals.NoOne f p = f refusals.NoOne p
stops_map refusals.FilesFault f p = p
stops_map refusals.NoMemory f p = p

-- an act with one fact has another
pub does_map : {P Q : Act → Type 0} (result : Result (Option Opened) ExpandRefusal) (reading : Reading) → ((act : Act) → P act → Q act) → Does result reading P → Does result reading Q
does_map (Ok None) reading f p = f (Stays reading) p
does_map (Ok (Some opened)) reading f p = f (Opens opened.stand opened.members reading) p
does_map (Err refusal) reading f p = stops_map refusal (λ r. f (Stops r)) p

-- a fact of an address where it stands is one of the parts that say where
pub spotted : (P : ℕ → List ℕ → List ℕ → Type 0) (l m : ℕ) (s r t u : List ℕ) → l ≡ m → s ≡ r → t ≡ u → P l s t → P m r u
spotted P l m s r t u a b c p = subst (λ (x : ℕ). P x r u) a (subst (λ (x : List ℕ). P l x u) b (subst (λ (x : List ℕ). P l s x) c p))

module _ (site : Site) (files : Option FileMap) where
  module _ (level : ℕ) (sender text : List ℕ) (triple : Triple) (reading : Reading) where
    abbrev Leading : Act → Type 0
    Leading = Leads site files level sender text triple reading

    abbrev Forward : Resolved → Option (List ℕ) → Act → Type 0
    Forward resolved = Forwards site files level sender text triple resolved reading

    -- an alias is opened
    pub leads_alias : (opened : Opened) (members : List Member) → alias_members site text triple ≡ Some members → opened.members ≡ members → opened.stand ≡ under_alias site level sender triple → Leading (Opens opened.stand opened.members reading)
    leads_alias opened members is ms stand = rw (ms, stand) (alias members is)

    -- a row, where no forward file may be there
    pub leads_leaf : (resolved : Resolved) → alias_members site text triple ≡ None → RoutesTo site text true resolved → forward_file site text triple resolved ≡ None → (act : Act) → act ≡ leaf_at level sender text resolved reading → Leading act
    leads_leaf resolved none route fileless act is =
        let by : Forward resolved None act = subst (λ (a : Act). Forward resolved None a) (sym is) (no_file) in
        no_alias resolved act none route (subst (λ (file : Option (List ℕ)). Forward resolved file act) (sym fileless) by)

    -- what a forward file comes to
    pub leads_forward : (resolved : Resolved) (file : List ℕ) → alias_members site text triple ≡ None → RoutesTo site text true resolved → forward_file site text triple resolved ≡ Some file → (act : Act) → Forward resolved (Some file) act → Leading act
    leads_forward resolved file none route is act by = no_alias resolved act none route (subst (λ (f : Option (List ℕ)). Forward resolved f act) (sym is) by)

    -- a forward file is opened
    pub forwards_there : (resolved : Resolved) (file content : List ℕ) (found : Option (List ℕ)) (opened : Opened) (read : List (Triple × List ℕ)) → is_spent reading ≡ false → found ≡ Some content → HasText files file found → (opened.members ≡ file_members content) × (opened.stand ≡ under_user level sender triple) → read ≡ with_read triple file reading.files → Forward resolved (Some file) (Opens opened.stand opened.members (record reading { files = read }))
    forwards_there resolved file content found opened read few some has is add =
        let text : HasText files file (Some content) = subst (λ (t : Option (List ℕ)). HasText files file t) some has in
        rw (is.0, is.1, add) (there file content few text)

    -- a forward file isn't there
    pub forwards_absent : (resolved : Resolved) (file : List ℕ) (found : Option (List ℕ)) (read : List (Triple × List ℕ)) → is_spent reading ≡ false → found ≡ None → HasText files file found → read ≡ with_read triple file reading.files → (act : Act) → act ≡ leaf_at level sender text resolved (record reading { files = read }) → Forward resolved (Some file) act
    forwards_absent resolved file found read few none has add act is =
        let text_is : HasText files file None = subst (λ (t : Option (List ℕ)). HasText files file t) none has in
        rw (is, add) (absent file few text_is)

  module _ (stand : Stand) (reading : Reading) where
    -- an include file is opened
    pub includes_file : (file content : List ℕ) (found : Option (List ℕ)) (opened : Opened) (read : List (Triple × List ℕ)) → is_read stand.namer file reading.files ≡ false → is_spent reading ≡ false → found ≡ Some content → HasText files file found → (opened.members ≡ file_members content) × (opened.stand ≡ stand) → read ≡ with_read stand.namer file reading.files → Includes site files stand reading file (Opens opened.stand opened.members (record reading { files = read }))
    includes_file file content found opened read other few some has is add =
        let text_is : HasText files file (Some content) = subst (λ (t : Option (List ℕ)). HasText files file t) some has in
        rw (is.0, is.1, add) (included content other few text_is)

    -- an include file isn't there
    pub includes_none : (file : List ℕ) (found : Option (List ℕ)) → is_read stand.namer file reading.files ≡ false → is_spent reading ≡ false → found ≡ None → HasText files file found → Includes site files stand reading file (Stops (refusals.IncludeAbsent file))
    includes_none file found other few none has = not_there other few (subst (λ (t : Option (List ℕ)). HasText files file t) none has)

    -- a member that is a file, and one that is an address
    pub comes_file : (member : Member) (file : List ℕ) → member ≡ Include file → is_deep site stand ≡ false → (act : Act) → Includes site files stand reading file act → Comes site files stand reading member act
    comes_file member file is deep act by = rw is (of_file file act deep by)

    pub comes_address : (member : Member) (text : List ℕ) → member ≡ Address text → is_deep site stand ≡ false → (act : Act) → Meets site files stand reading text act → Comes site files stand reading member act
    comes_address member text is deep act by = rw is (of_address text act deep by)

    module _ (text : List ℕ) where
      -- an address with no route is a row
      pub meets_error : (resolved : Resolved) (error : RouteError) → resolved ≡ Refuses error → RoutesTo site text false resolved → (act : Act) → act ≡ added (row_at stand.level stand.sender text (Refuses error)) reading → Meets site files stand reading text act
      meets_error resolved error is route act same = subst (λ (a : Act). Meets site files stand reading text a) (sym same) (unrouted error (subst (λ (r : Resolved). RoutesTo site text false r) is route))

      -- an address that goes
      pub meets_met : (resolved : Resolved) (triple : Triple) → resolved ≡ Goes triple → RoutesTo site text false resolved → (act : Act) → Met site files stand reading text triple act → Meets site files stand reading text act
      meets_met resolved triple is route act met = met (subst (λ (r : Resolved). RoutesTo site text false r) is route)

      -- an alias or a user becomes a row itself
      pub met_itself : (triple : Triple) → is_itself stand triple reading ≡ true → (act : Act) → ((resolved : Resolved) × (RoutesTo site (escaped text) true resolved × (act ≡ added (row_at stand.level stand.sender (escaped text) resolved) (with_self triple reading)))) → Met site files stand reading text triple act
      met_itself triple is act (resolved, (route, same)) = λ goes. subst (λ (a : Act). Meets site files stand reading text a) (sym same) (itself triple resolved goes is route)

      -- a triple is met for the first time
      pub met_first : (triple : Triple) (new : Reading) → is_itself stand triple reading ≡ false → is_among triple reading.met ≡ false → new ≡ with_met triple reading → (act : Act) → Leads site files stand.level stand.sender text triple new act → Met site files stand reading text triple act
      met_first triple new other first is act leads = λ goes. meets triple act goes other first (subst (λ (r : Reading). Leads site files stand.level stand.sender text triple r act) is leads)
