-- The rows of an address (Sendmail Installation and Operation Guide, "The Alias Database",
-- ":include:", "Per-User Forwarding", the mailer's flags A and w, MaxAliasRecursion; aliases(5);
-- the limits of rows and of reads, the order, and that a file is read once are our own).
use Rattle.std.specs.Prelude.{◌≡◌, ℕ, ◌+◌, Bool, true, false, not, ◌&&◌, ◌==◌, nat_lt, nat_le, List, [], ◌∷◌, ◌++◌, length, Option, None, Some, option_map, IfSome, Result, Ok, Err, if◌then◌else◌, codes}
use Rattle.mail_base.specs.Catalogs.{value_like}
use Rattle.mail_base.specs.Limits.{most_rows}
use Rattle.mail_base.specs.Refusals.{IsRefusal}
use Rattle.mail_base.specs.declared.config.Config.{Config}
use Rattle.mail_base.specs.declared.draw.Draw.{Draw}
use Rattle.mail_base.specs.declared.route.Resolved.{Resolved}
use Rattle.mail_base.specs.declared.route.Resolved.TheVariants.{Goes, Refuses}
use Rattle.mail_base.specs.declared.route.RouteError.{RouteError}
use Rattle.mail_base.specs.declared.route.Triple.{Triple}
use Rattle.mail_edge.specs.Seen.{FileMap, text_of}
use Rattle.map_tables.specs.Answers.{Loaded}
use Rattle.map_tables.specs.Marks.{begins_with}
use Rattle.ruleset_run.specs.Sites.{Macros}
use Rattle.addr_route.specs.Aims.{found_flag}
use Rattle.addr_route.specs.Routes.{Routes}
use Rattle.alias_expand.specs.declared.aliases.Alias.{Alias}
use Rattle.alias_expand.specs.declared.members.Member.{Member}
use Rattle.alias_expand.specs.declared.members.Member.TheVariants.{Address, Include}
use Rattle.alias_expand.specs.declared.reading.Reading.{Reading}
use Rattle.alias_expand.specs.declared.reading.TheConstants.{MOST_READS}
use Rattle.alias_expand.specs.declared.refusal.ExpandRefusal.{ExpandRefusal}
use Rattle.alias_expand.specs.declared.refusal.ExpandRefusal.TheVariants as refusals
use Rattle.alias_expand.specs.declared.stand.Stand.{Stand}
use Rattle.alias_expand.specs.Aliases.{members_named}
use Rattle.alias_expand.specs.Homes.{home_of}
use Rattle.alias_expand.specs.Members.{file_members}
use Rattle.alias_expand.specs.Owners.{sender_under}
use Rattle.alias_expand.specs.Triples.{is_same, is_among, is_read, with_triple, with_read}

-- what rows stand on
pub record Site : Type 0 where
  pub aliases : List Alias
  pub homes : List (List ℕ × List ℕ)
  pub config : Config
  pub maps : Loaded
  pub macros : Macros

abbrev pub site_of : List Alias → List (List ℕ × List ℕ) → Config → Loaded → Macros → Site
site_of aliases homes config maps macros =
    record { aliases = aliases; homes = homes; config = config; maps = maps; macros = macros }

-- what was read so far: the triples that were met; those of aliases and users that became rows
-- themselves; the files that were read, each with the alias or user for whom it was; and the rows
abbrev pub nothing_read : Reading
nothing_read = record { met = []; selves = []; files = []; rows = [] }

abbrev pub with_met : Triple → Reading → Reading
with_met triple reading = record reading { met = with_triple triple reading.met }

abbrev pub with_self : Triple → Reading → Reading
with_self triple reading = record reading { selves = with_triple triple reading.selves }

abbrev pub with_file : Triple → List ℕ → Reading → Reading
with_file namer name reading = record reading { files = with_read namer name reading.files }

abbrev pub with_row : Draw → Reading → Reading
with_row row reading = record reading { rows = reading.rows ++ row ∷ [] }

-- the files that one expansion reads
unfoldable pub most_reads : ℕ
most_reads = MOST_READS

abbrev pub is_spent : Reading → Bool
is_spent reading = nat_le most_reads (length reading.files)

-- ---- what an address, or a member, comes to

-- a refusal; no more than was read with it, as it is a row or is left out; or members, which are
-- read in its place
pub data Act : Type 0 where
  Stops : ExpandRefusal → Act
  Stays : Reading → Act
  Opens : Stand → List Member → Reading → Act

-- no alias and no forward file stands for an address with a backslash (92) in front
abbrev pub is_escaped : List ℕ → Bool
is_escaped text = begins_with 92 text

abbrev pub escaped : List ℕ → List ℕ
escaped text = if is_escaped text then text else 92 ∷ text

-- ---- rows

-- only the address itself is primary: it stands at level 0
abbrev pub row_at : ℕ → List ℕ → List ℕ → Resolved → Draw
row_at level sender text resolved =
    record { address = text; sender = sender; primary = level == 0; resolved = resolved }

-- one row more, if there may be one
abbrev pub added : Draw → Reading → Act
added row reading = if nat_le most_rows (length reading.rows) then Stops refusals.TooMany
    else Stays (with_row row reading)

-- a leaf is a row; but the address itself, at level 0, is refused where its route is an error
abbrev pub leaf_by : Bool → Resolved → Draw → Reading → Act
leaf_by true (Refuses error) row reading = Stops (refusals.Refuses error)
leaf_by top resolved row reading = added row reading

abbrev pub leaf_at : ℕ → List ℕ → List ℕ → Resolved → Reading → Act
leaf_at level sender text resolved reading =
    leaf_by (level == 0) resolved (row_at level sender text resolved) reading

-- ---- aliases and forward files

-- the triple stays under set 5
abbrev pub is_left : Triple → Resolved → Bool
is_left triple (Goes other) = is_same triple other
is_left triple (Refuses error) = false

-- where the members of a forward file stand
abbrev pub under_user : ℕ → List ℕ → Triple → Stand
under_user level sender triple = record { level = level + 1; sender = sender; namer = triple }

module _ (site : Site) where
  -- the mailer of a triple has a flag
  abbrev pub has_mailer_flag : ℕ → Triple → Bool
  has_mailer_flag flag triple = found_flag flag (value_like triple.mailer site.config.mailers)

  -- the members of the alias of an address: its mailer has the flag A (65), and its user is an alias
  abbrev pub alias_members : List ℕ → Triple → Option (List Member)
  alias_members text triple =
      if not (is_escaped text) && has_mailer_flag 65 triple
      then members_named triple.user site.aliases else None

  -- the forward file of an address, if it is there: set 5 leaves its triple, its mailer has the flag
  -- w (119), and its user has a home
  abbrev pub forward_file : List ℕ → Triple → Resolved → Option (List ℕ)
  forward_file text triple resolved =
      if not (is_escaped text) && is_left triple resolved && has_mailer_flag 119 triple
      then option_map (λ home. home ++ codes "/.forward") (home_of triple.user site.homes)
      else None

  -- where the members of an alias stand
  abbrev pub under_alias : ℕ → List ℕ → Triple → Stand
  under_alias level sender triple = record {
    level = level + 1;
    sender = sender_under site.aliases site.macros sender triple.user;
    namer = triple;
  }

  -- an address, or what a leaf of it is, goes there
  abbrev pub RoutesTo : List ℕ → Bool → Resolved → Type 0
  RoutesTo text leaf resolved = Routes site.config site.maps site.macros text leaf resolved

  -- a member stands deeper than levels go
  abbrev pub is_deep : Stand → Bool
  is_deep stand = nat_lt site.config.options.max_alias_recursion stand.level

-- the file of that name has this text, or isn't there; of files that aren't told this says nothing
abbrev pub HasText : Option FileMap → List ℕ → Option (List ℕ) → Type 0
HasText files name text = IfSome files (λ map. text ≡ text_of map name)

-- a member is the first whose triple is that of the alias or user that names it
abbrev pub is_itself : Stand → Triple → Reading → Bool
is_itself stand triple reading = is_same triple stand.namer && not (is_among triple reading.selves)

module _ (site : Site) (files : Option FileMap) where
  -- what a user's forward file comes to, where it may be there
  pub data Forwards (level : ℕ) (sender text : List ℕ) (triple : Triple) (resolved : Resolved)
      (reading : Reading) : Option (List ℕ) → Act → Type 0 where
    no_file : Forwards level sender text triple resolved reading None
        (leaf_at level sender text resolved reading)
    spent : (file : List ℕ) → is_spent reading ≡ true
        → Forwards level sender text triple resolved reading (Some file) (Stops refusals.TooMany)
    absent : (file : List ℕ) → is_spent reading ≡ false → HasText files file None
        → Forwards level sender text triple resolved reading (Some file)
        (leaf_at level sender text resolved (with_file triple file reading))
    there : (file content : List ℕ) → is_spent reading ≡ false
        → HasText files file (Some content)
        → Forwards level sender text triple resolved reading (Some file)
        (Opens (under_user level sender triple) (file_members content)
        (with_file triple file reading))

  -- what an address comes to whose triple is met for the first time: an alias, a forward file, or a
  -- leaf
  pub data Leads (level : ℕ) (sender text : List ℕ) (triple : Triple) (reading : Reading)
      : Act → Type 0 where
    alias : (members : List Member) → alias_members site text triple ≡ Some members
        → Leads level sender text triple reading
        (Opens (under_alias site level sender triple) members reading)
    no_alias : (resolved : Resolved) (act : Act) → alias_members site text triple ≡ None
        → RoutesTo site text true resolved
        → Forwards level sender text triple resolved reading
        (forward_file site text triple resolved) act
        → Leads level sender text triple reading act

  -- what a member comes to that is an include file
  pub data Includes (stand : Stand) (reading : Reading) (file : List ℕ) : Act → Type 0 where
    read_before : is_read stand.namer file reading.files ≡ true
        → Includes stand reading file (Stays reading)
    reads_spent : is_read stand.namer file reading.files ≡ false → is_spent reading ≡ true
        → Includes stand reading file (Stops refusals.TooMany)
    not_there : is_read stand.namer file reading.files ≡ false → is_spent reading ≡ false
        → HasText files file None
        → Includes stand reading file (Stops (refusals.IncludeAbsent file))
    included : (content : List ℕ) → is_read stand.namer file reading.files ≡ false
        → is_spent reading ≡ false → HasText files file (Some content)
        → Includes stand reading file
        (Opens stand (file_members content) (with_file stand.namer file reading))

  -- what a member comes to that is an address
  pub data Meets (stand : Stand) (reading : Reading) (text : List ℕ) : Act → Type 0 where
    unrouted : (error : RouteError) → RoutesTo site text false (Refuses error)
        → Meets stand reading text (added
        (row_at stand.level stand.sender text (Refuses error)) reading)
    itself : (triple : Triple) (resolved : Resolved) → RoutesTo site text false (Goes triple)
        → is_itself stand triple reading ≡ true → RoutesTo site (escaped text) true resolved
        → Meets stand reading text (added
        (row_at stand.level stand.sender (escaped text) resolved) (with_self triple reading))
    met_before : (triple : Triple) → RoutesTo site text false (Goes triple)
        → is_itself stand triple reading ≡ false → is_among triple reading.met ≡ true
        → Meets stand reading text (Stays reading)
    meets : (triple : Triple) (act : Act) → RoutesTo site text false (Goes triple)
        → is_itself stand triple reading ≡ false → is_among triple reading.met ≡ false
        → Leads stand.level stand.sender text triple (with_met triple reading) act
        → Meets stand reading text act

  -- what a member comes to; its level is tested first
  pub data Comes (stand : Stand) (reading : Reading) : Member → Act → Type 0 where
    too_deep : (member : Member) → is_deep site stand ≡ true
        → Comes stand reading member (Stops refusals.TooDeep)
    of_file : (file : List ℕ) (act : Act) → is_deep site stand ≡ false
        → Includes stand reading file act → Comes stand reading (Include file) act
    of_address : (text : List ℕ) (act : Act) → is_deep site stand ≡ false
        → Meets stand reading text act → Comes stand reading (Address text) act

  -- ---- the tree

  -- members are read in order, each with all that it opens into before the next one; the first
  -- refusal ends that
  pub data Reads : Stand → List Member → Reading → Result Reading ExpandRefusal → Type 0 where
    reads_none : (stand : Stand) (reading : Reading) → Reads stand [] reading (Ok reading)
    stops : (stand : Stand) (member : Member) (members : List Member) (reading : Reading)
        (refusal : ExpandRefusal) → Comes stand reading member (Stops refusal)
        → Reads stand (member ∷ members) reading (Err refusal)
    stays : (stand : Stand) (member : Member) (members : List Member) (reading next : Reading)
        (end : Result Reading ExpandRefusal) → Comes stand reading member (Stays next)
        → Reads stand members next end → Reads stand (member ∷ members) reading end
    opens_to_refusal : (stand inner : Stand) (member : Member) (members below : List Member)
        (reading next : Reading) (refusal : ExpandRefusal)
        → Comes stand reading member (Opens inner below next) → Reads inner below next (Err refusal)
        → Reads stand (member ∷ members) reading (Err refusal)
    opens : (stand inner : Stand) (member : Member) (members below : List Member)
        (reading next after : Reading) (end : Result Reading ExpandRefusal)
        → Comes stand reading member (Opens inner below next) → Reads inner below next (Ok after)
        → Reads stand members after end → Reads stand (member ∷ members) reading end

  -- what an act comes to in the end
  abbrev pub Ends : Act → Result Reading ExpandRefusal → Type 0
  Ends (Stops refusal) end = end ≡ Err refusal
  Ends (Stays reading) end = end ≡ Ok reading
  Ends (Opens stand members reading) end = Reads stand members reading end

  -- what the address itself comes to, at level 0
  pub data Starts (address sender : List ℕ) : Act → Type 0 where
    refused : (error : RouteError) → RoutesTo site address false (Refuses error)
        → Starts address sender (Stops (refusals.Refuses error))
    starts : (triple : Triple) (act : Act) → RoutesTo site address false (Goes triple)
        → Leads 0 sender address triple (with_met triple nothing_read) act
        → Starts address sender act

-- the rows, of which there is one at least
abbrev pub rows_of : Result Reading ExpandRefusal → Result (List Draw) ExpandRefusal
rows_of (Err refusal) = Err refusal
rows_of (Ok reading) =
    if length reading.rows == 0 then Err refusals.NoOne else Ok reading.rows

-- what an address with a sender comes to: its rows, or the refusal
pub data Expands (site : Site) (files : Option FileMap) (address sender : List ℕ)
    : Result (List Draw) ExpandRefusal → Type 0 where
  expands : (act : Act) (end : Result Reading ExpandRefusal)
      → Starts site files address sender act → Ends site files act end
      → Expands site files address sender (rows_of end)

-- ---- what is promised of a call

-- a result is one with P, but for faults of files and want of memory
abbrev pub HoldsOf : {T : Type 0} → Result T ExpandRefusal
    → (Result T ExpandRefusal → Type 0) → Type 0
HoldsOf (Ok value) P = P (Ok value)
HoldsOf (Err refusals.FilesFault) P = Unit {0}
HoldsOf (Err refusals.NoMemory) P = Unit {0}
HoldsOf (Err refusal) P = P (Err refusal)

-- the files failed
abbrev pub is_files_fault : {T : Type 0} → Result T ExpandRefusal → Bool
is_files_fault (Err refusals.FilesFault) = true
is_files_fault result = false

-- why an address has no rows, as it is told: the error of a route can stand in a reply
abbrev pub IsTellable : ExpandRefusal → Type 0
IsTellable (refusals.Refuses error) = IsRefusal error
IsTellable refusal = Unit {0}

-- an outcome that an address has: neither a fault of files nor want of memory
abbrev pub IsMeant : Result (List Draw) ExpandRefusal → Type 0
IsMeant (Err refusals.FilesFault) = ⊥
IsMeant (Err refusals.NoMemory) = ⊥
IsMeant outcome = Unit {0}
