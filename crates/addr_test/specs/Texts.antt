-- The texts of answers (Sendmail Installation and Operation Guide, "Address Testing Mode"; the
-- printed forms are our own).
use Rattle.std.specs.Prelude.{◌≡◌, ℕ, List, [], ◌∷◌, ◌++◌, length, Option, None, Some, Result, Ok, Err, codes, refl}
use Rattle.std.specs.Fmt.{decimal}
use Rattle.std.specs.List.{flat_map}
use Rattle.mail_base.specs.Refusals.{cause_name}
use Rattle.mail_base.specs.declared.mailer.Mailer.{Mailer}
use Rattle.mail_base.specs.declared.route.Cause.{Cause}
use Rattle.mail_base.specs.declared.route.Cause.TheVariants.{NoUser}
use Rattle.mail_base.specs.declared.route.Resolved.{Resolved}
use Rattle.mail_base.specs.declared.route.Resolved.TheVariants.{Goes, Refuses}
use Rattle.mail_base.specs.declared.rule.RuleSet.{RuleSet}
use Rattle.mail_base.specs.declared.token.Token.{Token}
use Rattle.mail_base.specs.declared.token.Token.TheVariants.{Word, Op}
use Rattle.addr_tokens.specs.declared.fault.ScanFault.{ScanFault}
use Rattle.addr_tokens.specs.declared.fault.ScanFault.TheVariants as scans
use Rattle.addr_tokens.specs.Joins.{token_bytes}
use Rattle.map_tables.specs.declared.found.Found.{Found}
use Rattle.map_tables.specs.declared.found.Found.TheVariants as finds
use Rattle.map_tables.specs.declared.found.MapFault.{MapFault}
use Rattle.map_tables.specs.declared.found.MapFault.TheVariants as maps
use Rattle.ruleset_run.specs.declared.fault.RunFault.{RunFault}
use Rattle.ruleset_run.specs.declared.fault.RunFault.TheVariants as runs
use Rattle.ruleset_run.specs.declared.rewritten.Rewritten.{Rewritten}
use Rattle.ruleset_run.specs.declared.rewritten.Rewritten.TheVariants as addresses

-- a text, on a line of its own
abbrev pub line_of : List ℕ → List ℕ
line_of text = text ++ 10 ∷ []

-- ---- runs

-- tokens, each after a blank
abbrev pub spaced : List Token → List ℕ
spaced tokens = flat_map (λ token. 32 ∷ token_bytes token) tokens

-- the run of a set returned these tokens
abbrev pub returned_text : List ℕ → List Token → List ℕ
returned_text name tokens = line_of (name ++ (codes " returns:" ++ spaced tokens))

-- why a run has no result
abbrev pub cause_text : RunFault → List ℕ
cause_text runs.Loop = codes "Loop"
cause_text runs.Work = codes "Work"
cause_text runs.Deep = codes "Deep"
cause_text runs.Long = codes "Long"
cause_text (runs.NoRuleset name) = codes "NoRuleset"
cause_text (runs.MapClass name) = codes "MapClass"
cause_text (runs.NoSuchMap name) = codes "NoSuchMap"
cause_text runs.BadScan = codes "BadScan"
cause_text runs.NoMemory = codes "NoMemory"

abbrev pub refused_text : List ℕ → RunFault → List ℕ
refused_text name fault = line_of (name ++ (codes " error: " ++ cause_text fault))

-- why an address has no tokens; a place counts from its first byte
abbrev pub scan_text : ScanFault → List ℕ
scan_text (scans.Unbalanced place) = codes "Unbalanced " ++ decimal place
scan_text (scans.BadQuote place) = codes "BadQuote " ++ decimal place
scan_text (scans.BadDollar place) = codes "BadDollar " ++ decimal place
scan_text scans.Long = codes "Long"
scan_text scans.NoMemory = codes "NoMemory"

abbrev pub bad_address_text : ScanFault → List ℕ
bad_address_text fault = line_of (codes "bad address: " ++ scan_text fault)

-- ---- routes

-- where an address goes, or the error that refuses it
abbrev pub route_text : Resolved → List ℕ
route_text (Goes triple) = line_of
    (codes "mailer " ++ (triple.mailer
    ++ (codes ", host " ++ (triple.host ++ (codes ", user " ++ triple.user)))))
route_text (Refuses error) =
    line_of (codes "error " ++ (decimal error.code ++ 32 ∷ (error.status ++ 32 ∷ error.text)))

-- why an address can't be rewritten
abbrev pub error_text : Cause → List ℕ
error_text cause = line_of (codes "error: " ++ cause_name cause)

-- an address as the sender and as the recipient of a mailer; the first cause stands for both
abbrev pub try_text : Rewritten → Rewritten → List ℕ
try_text (addresses.Gives sender) (addresses.Gives recipient) =
    line_of (codes "sender: " ++ sender) ++ line_of (codes "recipient: " ++ recipient)
try_text (addresses.Gives sender) (addresses.Refuses cause) = error_text cause
try_text (addresses.Refuses cause) recipient = error_text cause

-- ---- maps, sets and mailers

-- what a look-up tells
abbrev pub lookup_text : Result Found MapFault → List ℕ
lookup_text (Ok (finds.Value value)) = line_of (codes "found: " ++ value)
lookup_text (Ok finds.Absent) = line_of (codes "absent")
lookup_text (Err maps.MapClass) = line_of (codes "error: MapClass")
lookup_text (Err maps.NoSuchMap) = line_of (codes "error: NoSuchMap")
lookup_text (Err maps.NoMemory) = line_of (codes "error: NoMemory")

-- how many rules a set has, by the name under which it was asked for
abbrev pub rules_text : List ℕ → Option RuleSet → List ℕ
rules_text name (Some set) =
    line_of (name ++ (codes ": " ++ (decimal (length set.rules) ++ codes " rules")))
rules_text name None = line_of (name ++ codes ": none")

abbrev pub mailer_text : List ℕ × Mailer → List ℕ
mailer_text named = line_of (named.1.name ++ 32 ∷ named.1.path)

-- the mailers in the order in which they were first declared
abbrev pub mailers_text : List (List ℕ × Mailer) → List ℕ
mailers_text mailers = flat_map mailer_text mailers

-- texts, each on a line of its own
abbrev pub lines_text : List (List ℕ) → List ℕ
lines_text texts = flat_map line_of texts

example :
    (returned_text (codes "3") (Word (codes "ann") ∷ Op 64 ∷ Word (codes "b") ∷ [])
    ≡ line_of (codes "3 returns: ann @ b"))
    × (returned_text (codes "3") [] ≡ line_of (codes "3 returns:"))
    × (refused_text (codes "9") (runs.NoRuleset (codes "9")) ≡ line_of (codes "9 error: NoRuleset"))
    × (bad_address_text scans.Long ≡ line_of (codes "bad address: Long"))
    × (route_text (Goes (record {
      mailer = codes "smtp";
      host = codes "far";
      user = codes "a@far";
    })) ≡ line_of (codes "mailer smtp, host far, user a@far"))
    × (try_text (addresses.Gives (codes "a")) (addresses.Refuses NoUser)
    ≡ line_of (codes "error: NoUser"))
    × (lookup_text (Ok (finds.Value (codes "v"))) ≡ line_of (codes "found: v"))
example = (refl, refl, refl, refl, refl, refl, refl)
