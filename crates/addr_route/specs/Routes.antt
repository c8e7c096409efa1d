-- Where an address goes (Sendmail Installation and Operation Guide, R and S: rewriting rules, the
-- sets 0 to 5; M: define mailer).
use Rattle.std.specs.Prelude.{◌≡◌, ℕ, Bool, true, false, List, [], ◌∷◌, Option, None, Some, Result, Ok, Err, codes, if◌then◌else◌}
use Rattle.mail_base.specs.Catalogs.{value_like}
use Rattle.mail_base.specs.Refusals.{IsRefusal}
use Rattle.mail_base.specs.declared.config.Config.{Config}
use Rattle.mail_base.specs.declared.mailer.Mailer.{Mailer}
use Rattle.mail_base.specs.declared.route.Cause.{Cause}
use Rattle.mail_base.specs.declared.route.Cause.TheVariants.{NotResolved, UnknownMailer, NoUser, FileMailer}
use Rattle.mail_base.specs.declared.route.Resolved.{Resolved}
use Rattle.mail_base.specs.declared.route.Resolved.TheVariants.{Goes, Refuses}
use Rattle.mail_base.specs.declared.route.RouteError.{RouteError}
use Rattle.mail_base.specs.declared.route.Triple.{Triple}
use Rattle.mail_base.specs.declared.token.Token.{Token}
use Rattle.map_tables.specs.Answers.{Loaded}
use Rattle.ruleset_run.specs.Filling.{is_resolved}
use Rattle.ruleset_run.specs.Sites.{Macros, site_of}
use Rattle.addr_route.specs.declared.aim.Aim.{Aim}
use Rattle.addr_route.specs.declared.form.Form.TheVariants.{Program, File, Plain}
use Rattle.addr_route.specs.Aims.{aim_of, is_error, said_by, is_file, asks_five, is_nil, with_host, triple_of}
use Rattle.addr_route.specs.Errors.{error_of}
use Rattle.addr_route.specs.Forms.{form_of}
use Rattle.ruleset_run.specs.Sets.{Passes, Through, user_sets}

-- ---- a mailer, a host and a user that the rules gave

-- where these lead, for a mailer that an M line has
pub data LeadsTo (config : Config) (maps : Loaded) (macros : Macros) (mailer : Mailer)
    (aim : Aim) : Resolved → Type 0 where
  files : is_file mailer ≡ true
      → LeadsTo config maps macros mailer aim (Refuses (error_of FileMailer))
  no_user : is_file mailer ≡ false → is_nil aim.user ≡ true
      → LeadsTo config maps macros mailer aim (Refuses (error_of NoUser))
  -- the user's rewriting is refused; in it the macro h is the host
  unwritten : (cause : Cause) → is_file mailer ≡ false → is_nil aim.user ≡ false
      → Through (site_of config maps) (with_host aim.host macros) (user_sets mailer)
      aim.user (Err cause)
      → LeadsTo config maps macros mailer aim (Refuses (error_of cause))
  written : (user : List Token) → is_file mailer ≡ false → is_nil aim.user ≡ false
      → Through (site_of config maps) (with_host aim.host macros)
      (user_sets mailer) aim.user (Ok user)
      → LeadsTo config maps macros mailer aim (Goes (triple_of mailer aim.host user))

pub data Leads (config : Config) (maps : Loaded) (macros : Macros)
    (aim : Aim) : Resolved → Type 0 where
  says_error : is_error aim.mailer ≡ true → Leads config maps macros aim (Refuses (said_by aim))
  unknown_mailer : is_error aim.mailer ≡ false → value_like aim.mailer config.mailers ≡ None
      → Leads config maps macros aim (Refuses (error_of (UnknownMailer aim.mailer)))
  known_mailer : (mailer : Mailer) (resolved : Resolved) → is_error aim.mailer ≡ false
      → value_like aim.mailer config.mailers ≡ Some mailer
      → LeadsTo config maps macros mailer aim resolved
      → Leads config maps macros aim resolved

-- ---- set 5

-- what it makes of a leaf's triple by what it gives
pub data Turns (config : Config) (maps : Loaded) (macros : Macros) (triple : Triple)
    : Result (List Token) Cause → Resolved → Type 0 where
  five_fails : (cause : Cause)
      → Turns config maps macros triple (Err cause) (Refuses (error_of cause))
  stays : (list : List Token) → is_resolved list ≡ false
      → Turns config maps macros triple (Ok list) (Goes triple)
  turned : (list : List Token) (resolved : Resolved) → is_resolved list ≡ true
      → Leads config maps macros (aim_of list) resolved
      → Turns config maps macros triple (Ok list) resolved

-- ---- what sets 3 and 0 give

-- where it leads
pub data Lands (config : Config) (maps : Loaded) (macros : Macros) (leaf : Bool)
    : Result (List Token) Cause → Resolved → Type 0 where
  rules_fail : (cause : Cause)
      → Lands config maps macros leaf (Err cause) (Refuses (error_of cause))
  not_resolved : (list : List Token) → is_resolved list ≡ false
      → Lands config maps macros leaf (Ok list) (Refuses (error_of NotResolved))
  refused : (list : List Token) (error : RouteError) → is_resolved list ≡ true
      → Leads config maps macros (aim_of list) (Refuses error)
      → Lands config maps macros leaf (Ok list) (Refuses error)
  goes : (list : List Token) (triple : Triple) → is_resolved list ≡ true
      → Leads config maps macros (aim_of list) (Goes triple)
      → asks_five config.mailers leaf (aim_of list) ≡ false
      → Lands config maps macros leaf (Ok list) (Goes triple)
  -- the user that set 0 gave goes through set 5
  by_five : (list : List Token) (triple : Triple) (answer : Result (List Token) Cause)
      (resolved : Resolved) → is_resolved list ≡ true
      → Leads config maps macros (aim_of list) (Goes triple)
      → asks_five config.mailers leaf (aim_of list) ≡ true
      → Through (site_of config maps) (with_host (aim_of list).host macros) (codes "5" ∷ [])
      (aim_of list).user answer
      → Turns config maps macros triple answer resolved
      → Lands config maps macros leaf (Ok list) resolved

-- ---- addresses

-- a program goes to the mailer `prog` with its command as the user
abbrev pub program_by : List ℕ → Option Mailer → Resolved
program_by command None = Refuses (error_of (UnknownMailer (codes "prog")))
program_by command (Some mailer) = if is_file mailer then Refuses (error_of FileMailer)
    else Goes (record { mailer = mailer.name; host = []; user = command })

-- where an address goes; a leaf is one for which no alias stands
pub data Routes (config : Config) (maps : Loaded) (macros : Macros) (address : List ℕ)
    (leaf : Bool) : Resolved → Type 0 where
  program : (command : List ℕ) → form_of address ≡ Program command
      → Routes config maps macros address leaf
      (program_by command (value_like (codes "prog") config.mailers))
  file : form_of address ≡ File
      → Routes config maps macros address leaf (Refuses (error_of FileMailer))
  by_rules : (text : List ℕ) (answer : Result (List Token) Cause) (resolved : Resolved)
      → form_of address ≡ Plain text
      → Passes (site_of config maps) macros (codes "3" ∷ codes "0" ∷ []) text answer
      → Lands config maps macros leaf answer resolved
      → Routes config maps macros address leaf resolved

-- what a route says can stand in a reply
abbrev pub IsBounded : Resolved → Type 0
IsBounded (Goes triple) = Unit {0}
IsBounded (Refuses error) = IsRefusal error
