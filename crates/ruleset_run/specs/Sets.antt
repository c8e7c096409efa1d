-- An address that goes through rulesets (Sendmail Installation and Operation Guide, R and S:
-- rewriting rules; M: define mailer, its fields S and R).
use Rattle.std.specs.Prelude.{◌≡◌, ℕ, List, [], ◌∷◌, ◌++◌, true, map, Option, None, Some, Result, Ok, Err, codes, refl}
use Rattle.mail_base.specs.declared.mailer.Mailer.{Mailer}
use Rattle.mail_base.specs.declared.route.Cause.{Cause}
use Rattle.mail_base.specs.declared.route.Cause.TheVariants as cause
use Rattle.mail_base.specs.declared.token.Token.{Token}
use Rattle.addr_tokens.specs.declared.fault.ScanFault.{ScanFault}
use Rattle.addr_tokens.specs.declared.fault.ScanFault.TheVariants as scans
use Rattle.addr_tokens.specs.Joins.{joined}
use Rattle.addr_tokens.specs.Pieces.{plain}
use Rattle.addr_tokens.specs.Reader.{tokens_or_fault}
use Rattle.ruleset_run.specs.declared.fault.RunFault.{RunFault}
use Rattle.ruleset_run.specs.declared.fault.RunFault.TheVariants as faults
use Rattle.ruleset_run.specs.Runs.{Done, RunsSet}
use Rattle.ruleset_run.specs.Sites.{Site, Macros}
use Rattle.ruleset_run.specs.declared.rewritten.Rewritten.{Rewritten}
use Rattle.ruleset_run.specs.declared.rewritten.Rewritten.TheVariants.{Gives, Refuses}

-- ---- why an address is refused

-- by a run; none ends with want of memory
abbrev pub run_cause : RunFault → Cause
run_cause faults.Loop = cause.Loop
run_cause faults.Work = cause.Work
run_cause faults.Deep = cause.Deep
run_cause faults.Long = cause.Long
run_cause (faults.NoRuleset name) = cause.NoRuleset name
run_cause (faults.MapClass name) = cause.MapClass name
run_cause (faults.NoSuchMap name) = cause.NoSuchMap name
run_cause faults.BadScan = cause.BadScan
run_cause faults.NoMemory = cause.BadScan

-- by its cutting
abbrev pub scan_cause : ScanFault → Cause
scan_cause scans.Long = cause.LongAddress
scan_cause fault = cause.BadAddress

abbrev pub scanned : Result (List Token) ScanFault → Result (List Token) Cause
scanned (Ok tokens) = Ok tokens
scanned (Err fault) = Err (scan_cause fault)

-- the tokens of an address, in which angles are checked, or why it has none
unfoldable pub cut : List ℕ → List ℕ → Result (List Token) Cause
cut operators address = scanned (tokens_or_fault (plain operators) true address)

-- ---- rulesets in order

-- tokens go through the rulesets of these names, each on the list that the one before gives; the
-- first error ends that
pub data Through (site : Site) (macros : Macros) : List (List ℕ) → List Token
    → Result (List Token) Cause → Type 0 where
  no_set : (tokens : List Token) → Through site macros [] tokens (Ok tokens)
  set_fails : (set : List ℕ) (sets : List (List ℕ)) (tokens : List Token) (fault : RunFault)
      → RunsSet site macros set tokens (Err fault)
      → Through site macros (set ∷ sets) tokens (Err (run_cause fault))
  goes_on : (set : List ℕ) (sets : List (List ℕ)) (tokens : List Token) (done : Done)
      (answer : Result (List Token) Cause) → RunsSet site macros set tokens (Ok done)
      → Through site macros sets done.tokens answer
      → Through site macros (set ∷ sets) tokens answer

-- an address is cut, and its tokens go through the rulesets
pub data Passes (site : Site) (macros : Macros) (sets : List (List ℕ)) (address : List ℕ)
    : Result (List Token) Cause → Type 0 where
  no_tokens : (why : Cause) → cut site.operators address ≡ Err why
      → Passes site macros sets address (Err why)
  passes : (tokens : List Token) (answer : Result (List Token) Cause)
      → cut site.operators address ≡ Ok tokens → Through site macros sets tokens answer
      → Passes site macros sets address answer

-- ---- an address rewritten

-- the list joined without blanks, or why there is none
abbrev pub rewritten : Result (List Token) Cause → Rewritten
rewritten (Ok tokens) = Gives (joined None tokens)
rewritten (Err why) = Refuses why

pub data Rewrites (site : Site) (macros : Macros) (sets : List (List ℕ))
    (address : List ℕ) : Rewritten → Type 0 where
  rewrites : (answer : Result (List Token) Cause) → Passes site macros sets address answer
      → Rewrites site macros sets address (rewritten answer)

-- ---- the rulesets of a mailer

abbrev pub listed : Option (List ℕ) → List (List ℕ)
listed None = []
listed (Some set) = set ∷ []

-- the sets of these digits, one that a mailer may name, and again some of digits
abbrev pub sets_around : List ℕ → Option (List ℕ) → List ℕ → List (List ℕ)
sets_around front set back =
    map (λ digit. digit ∷ []) front ++ (listed set ++ map (λ digit. digit ∷ []) back)

-- those of a sender: 3, 1, the one of the field S for the envelope, and 4
abbrev pub sender_sets : Mailer → List (List ℕ)
sender_sets mailer = sets_around (codes "31") mailer.envelope_from (codes "4")

-- those of a recipient: 3, 2, the one of the field R for the envelope, and 4
abbrev pub recipient_sets : Mailer → List (List ℕ)
recipient_sets mailer = sets_around (codes "32") mailer.envelope_to (codes "4")

-- those of a sender in a header: 3, 1, the one of the field S for headers, and 4
abbrev pub header_sender_sets : Mailer → List (List ℕ)
header_sender_sets mailer = sets_around (codes "31") mailer.header_from (codes "4")

-- those of a recipient in a header: 3, 2, the one of the field R for headers, and 4
abbrev pub header_recipient_sets : Mailer → List (List ℕ)
header_recipient_sets mailer = sets_around (codes "32") mailer.header_to (codes "4")

-- those of a user, which set 0 gave: the same without 3
abbrev pub user_sets : Mailer → List (List ℕ)
user_sets mailer = sets_around (codes "2") mailer.envelope_to (codes "4")

example : (sets_around (codes "31") (Some (codes "out")) (codes "4")
    ≡ codes "3" ∷ codes "1" ∷ codes "out" ∷ codes "4" ∷ [])
    × (sets_around (codes "2") None (codes "4") ≡ codes "2" ∷ codes "4" ∷ [])
example = (refl, refl)
