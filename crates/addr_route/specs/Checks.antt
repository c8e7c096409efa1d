-- What a check set says of an address (cf/README, the sets check_mail and check_rcpt; the code of
-- another answer is own).
use Rattle.std.specs.Prelude.{◌≡◌, ℕ, List, [], ◌∷◌, Option, None, Some, Result, Ok, Err, codes, if◌then◌else◌}
use Rattle.std.specs.List.{find}
use Rattle.mail_base.specs.Refusals.{IsRefusal}
use Rattle.mail_base.specs.Rulesets.{is_named}
use Rattle.mail_base.specs.declared.config.Config.{Config}
use Rattle.mail_base.specs.declared.route.Cause.{Cause}
use Rattle.mail_base.specs.declared.route.Cause.TheVariants.{BadScan, UnknownMailer}
use Rattle.mail_base.specs.declared.route.RouteError.{RouteError}
use Rattle.mail_base.specs.declared.rule.RuleSet.{RuleSet}
use Rattle.mail_base.specs.declared.token.Token.{Token}
use Rattle.map_tables.specs.Answers.{Loaded}
use Rattle.ruleset_run.specs.Filling.{is_resolved}
use Rattle.ruleset_run.specs.Sites.{Macros, site_of}
use Rattle.addr_route.specs.declared.aim.Aim.{Aim}
use Rattle.addr_route.specs.Aims.{aim_of, is_error, said_by}
use Rattle.addr_route.specs.Errors.{error_of, error_with, is_like, reply_to}
use Rattle.ruleset_run.specs.Sets.{Passes}

-- `$#ok` accepts, `$#error` refuses as it says, and another mailer is an error of the configuration
abbrev pub verdict_of : Aim → Option RouteError
verdict_of aim = if is_like aim.mailer (codes "ok") then None
    else if is_error aim.mailer then Some (said_by aim)
    else Some (error_with (reply_to BadScan) (UnknownMailer aim.mailer))

-- a list that doesn't begin with `$#` accepts
abbrev pub verdict : Result (List Token) Cause → Option RouteError
verdict (Err cause) = Some (error_of cause)
verdict (Ok list) = if is_resolved list then verdict_of (aim_of list) else None

-- the error with which an address is refused, or none; a set that no S line names accepts
pub data Checks (config : Config) (maps : Loaded) (macros : Macros) (set address : List ℕ)
    : Option RouteError → Type 0 where
  unchecked : find (is_named set) config.book ≡ None → Checks config maps macros set address None
  checked : (rules : RuleSet) (answer : Result (List Token) Cause)
      → find (is_named set) config.book ≡ Some rules
      → Passes (site_of config maps) macros (set ∷ []) address answer
      → Checks config maps macros set address (verdict answer)

-- what a check says can stand in a reply
abbrev pub IsBoundedIf : Option RouteError → Type 0
IsBoundedIf None = Unit {0}
IsBoundedIf (Some error) = IsRefusal error
