-- What the maps answer (Sendmail Installation and Operation Guide, K; that a sequence holds the
-- maps of its own line is our own).
use Rattle.std.specs.Prelude.{◌≡◌, ℕ, Bool, true, false, List, [], ◌∷◌, ◌++◌, Option, None, Some, Result, Ok, Err, fold, map, unwrap_or, option_map, slice_get, if◌then◌else◌}
use Rattle.std.specs.List.{find}
use Rattle.mail_base.specs.Catalogs.{value_at, with_value, without_name}
use Rattle.mail_base.specs.Lasts.{last_named}
use Rattle.mail_base.specs.Literals.{literal}
use Rattle.mail_base.specs.Texts.{without_ends}
use Rattle.mail_base.specs.declared.lines.MapClass.{MapClass}
use Rattle.mail_base.specs.declared.lines.MapClass.TheVariants.{Text as TextClass, Hash, Btree, Host, Dequote, Sequence, Null, Arith, Macro, Other}
use Rattle.mail_base.specs.declared.lines.MapLine.{MapLine}
use Rattle.map_tables.specs.declared.answer.Answer.{Answer}
use Rattle.map_tables.specs.declared.answer.Answer.TheVariants.{Finds, Sets, Lacks, Refuses}
use Rattle.map_tables.specs.declared.found.Found.{Found}
use Rattle.map_tables.specs.declared.found.Found.TheVariants.{Value, Absent}
use Rattle.map_tables.specs.declared.found.MapFault.{MapFault}
use Rattle.map_tables.specs.declared.found.MapFault.TheVariants.{MapClass as ClassFault, NoSuchMap, NoMemory}
use Rattle.map_tables.specs.declared.found.MapReply.{MapReply}
use Rattle.map_tables.specs.declared.hosts.HostLine.{HostLine}
use Rattle.map_tables.specs.declared.named.Named.{Named}
use Rattle.map_tables.specs.declared.table.Table.{Table}
use Rattle.map_tables.specs.Arithmetic.{calculated}
use Rattle.map_tables.specs.Hosts.{host_lines, host_name}
use Rattle.map_tables.specs.Percents.{filled}
use Rattle.map_tables.specs.Quotes.{dequoted}
use Rattle.map_tables.specs.Tables.{folded_key, table}

-- what is loaded: the K lines with their tables, and the host table
pub record Loaded : Type 0 where
  pub maps : List Table
  pub hosts : List HostLine

-- a value as the map gives it: with `-m` it is the key; the tag of `-a` stands last
abbrev pub dressed : MapLine → List ℕ → List ℕ → List ℕ
dressed line key value = (if line.match_only then key else value) ++ line.tag

-- a value that was found, or none
abbrev pub found : MapLine → List ℕ → Option (List ℕ) → Answer
found line key None = Lacks
found line key (Some value) = Finds (dressed line key value)

-- what a table has at a key, with its percent signs filled in
abbrev pub table_value : Table → List ℕ → List (List ℕ) → Option (List ℕ)
table_value table key args =
    option_map (filled key args) (value_at (folded_key table.line key) table.pairs)

-- an answer as a sequence hands it on
abbrev pub handed : MapLine → List ℕ → Answer → Answer
handed line key (Finds value) = Finds (dressed line key value)
handed line key (Sets value) = Sets (dressed line key value)
handed line key Lacks = Lacks
handed line key Refuses = Refuses

-- the answer at a place among these; a place that isn't there lacks every key
abbrev pub answer_at : List Answer → ℕ → Answer
answer_at answers place = unwrap_or (slice_get answers place) Lacks

-- an answer says more than that the key is lacking
abbrev pub says_more : Answer → Bool
says_more Lacks = false
says_more answer = true

-- the first of the answers that says more, if one does
abbrev pub first_answer : List Answer → Answer
first_answer answers = unwrap_or (find says_more answers) Lacks

-- what a map answers, by its class, where the maps of the K lines before its own answer these
abbrev pub answer_by : MapClass → List HostLine → List ℕ → List (List ℕ)
    → List Answer → Table → Answer
answer_by TextClass hosts key args before table = found table.line key (table_value table key args)
answer_by Hash hosts key args before table = found table.line key (table_value table key args)
answer_by Btree hosts key args before table = found table.line key (table_value table key args)
answer_by Host hosts key args before table = found table.line key (host_name key hosts)
answer_by Dequote hosts key args before table = found table.line key (dequoted key)
answer_by (Sequence places) hosts key args before table =
    handed table.line key (first_answer (map (answer_at before) places))
answer_by Null hosts key args before table = Lacks
answer_by Arith hosts key args before table = found table.line key (calculated key args)
answer_by Macro hosts key args before table = Sets (dressed table.line key [])
answer_by (Other class) hosts key args before table = Refuses

-- what a map answers for a key, by the answers of the maps before it
abbrev pub answer : List HostLine → List ℕ → List (List ℕ) → List Answer → Table → Answer
answer hosts key args before table = answer_by table.line.class hosts key args before table

-- one answer more, from those before it
abbrev pub with_answer : List HostLine → List ℕ → List (List ℕ) → List Answer → Table → List Answer
with_answer hosts key args before table = before ++ answer hosts key args before table ∷ []

-- the answers of all maps, place by place in the order of the K lines
abbrev pub answers : List HostLine → List ℕ → List (List ℕ) → List Table → List Answer
answers hosts key args maps = fold (with_answer hosts key args) [] maps

-- the name of a map
abbrev pub name_of : Table → List ℕ
name_of table = table.line.name

-- the place of the last K line of a name
abbrev pub last_place : List ℕ → List Table → Option ℕ
last_place = last_named name_of

-- the answer at a place that may be there
abbrev pub answer_of_place : List Answer → Option ℕ → Option Answer
answer_of_place answers None = None
answer_of_place answers (Some place) = slice_get answers place

-- what the map of a name answers, if there is one
abbrev pub map_answer : Loaded → List ℕ → List ℕ → List (List ℕ) → Option Answer
map_answer loaded name key args =
    answer_of_place (answers loaded.hosts key args loaded.maps) (last_place name loaded.maps)

-- what is loaded for a configuration, with these files and this host table
abbrev pub loaded : List MapLine → List Named → List ℕ → Loaded
loaded maps texts hosts = record { maps = map (table texts) maps; hosts = host_lines hosts }

-- how an answer is told
abbrev pub told : Option Answer → Result Found MapFault
told None = Err NoSuchMap
told (Some (Finds value)) = Ok (Value value)
told (Some (Sets value)) = Ok (Value value)
told (Some Lacks) = Ok Absent
told (Some Refuses) = Err ClassFault

-- a map's reply, or a fault, as it is told
abbrev pub found_of : Result MapReply MapFault → Result Found MapFault
found_of (Ok reply) = Ok reply.found
found_of (Err fault) = Err fault

-- a look-up tells this, or that there was no memory
abbrev pub TellsOr : Result Found MapFault → Result Found MapFault → Type 0
TellsOr wanted (Err NoMemory) = Unit {0}
TellsOr wanted result = result ≡ wanted

-- the name of a macro as a key writes it: in braces (123 and 125), or as it is
abbrev pub macro_name : List ℕ → List ℕ
macro_name key = without_ends 123 125 key

-- the macro of that name stands for the first argument, or isn't set where there is none
abbrev pub with_macro : List ℕ → List (List ℕ) → List (List ℕ × List ℕ) → List (List ℕ × List ℕ)
with_macro name [] macros = without_name name macros
with_macro name (text ∷ args) macros = with_value name (literal text) macros

-- an answer sets the macro that the key names: only one of a map of the class macro does
abbrev pub sets_macro : Option Answer → Bool
sets_macro (Some (Sets value)) = true
sets_macro _ = false

-- the macros after an answer
abbrev pub macros_after : Option Answer → List ℕ → List (List ℕ) → List (List ℕ × List ℕ)
    → List (List ℕ × List ℕ)
macros_after answer key args macros =
    if sets_macro answer then with_macro (macro_name key) args macros else macros
