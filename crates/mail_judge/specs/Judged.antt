-- What the rules of a configuration say of the paths of sessions (cf/README, the sets check_mail
-- and check_rcpt; Sendmail Installation and Operation Guide, "The Alias Database", "Per-User
-- Forwarding", and D: define macro, for r, s, f and {client_addr}; with what a recipient is refused
-- whose aliases give no rows is own).
use Rattle.std.specs.Prelude.{◌≡◌, ℕ, List, None, Some, Option, Ok, Err, is_some, codes}
use Rattle.mail_base.specs.Answering.{Answerer}
use Rattle.mail_base.specs.declared.config.Config.{Config}
use Rattle.mail_base.specs.declared.draw.Draw.{Draw}
use Rattle.mail_base.specs.declared.message.Kept.{Kept}
use Rattle.mail_base.specs.declared.route.Cause.{Cause}
use Rattle.mail_base.specs.declared.route.Cause.TheVariants.{Deep, Work, FileMailer, NotResolved}
use Rattle.mail_base.specs.declared.route.RouteError.{RouteError}
use Rattle.mail_edge.specs.Seen.{FileMap, FilesSeen}
use Rattle.map_tables.specs.Answers.{Loaded}
use Rattle.ruleset_run.specs.Sites.{Macros}
use Rattle.addr_route.specs.Checks.{Checks}
use Rattle.alias_expand.specs.Rows.{Expands, Site, site_of}
use Rattle.alias_expand.specs.declared.aliases.Alias.{Alias}
use Rattle.alias_expand.specs.declared.refusal.ExpandRefusal.{ExpandRefusal}
use Rattle.alias_expand.specs.declared.refusal.ExpandRefusal.TheVariants as refusals
use Rattle.smtp_receive.specs.declared.judge.Verdict.{Verdict}
use Rattle.smtp_receive.specs.declared.judge.Verdict.TheVariants.{Rows, No}
use Rattle.cf_macros.specs.SessionMacros.{session_macros}
use Rattle.smtp_receive.specs.Judging.{Question, AsksSender, AsksRecipient, Said, OfSender, OfRecipient}

-- what a judgement stands on beside files: a configuration, its maps, aliases, and homes of users
pub record Grounds : Type 0 where
  pub config : Config
  pub maps : Loaded
  pub aliases : List Alias
  pub homes : List (List ℕ × List ℕ)

-- what rows stand on, with the macros of a session
abbrev pub site_in : Grounds → Macros → Site
site_in grounds macros =
    site_of grounds.aliases grounds.homes grounds.config grounds.maps macros

-- faults are those of the files, and what is said is told where they are
abbrev pub answerer_of : FilesSeen → Answerer
answerer_of files = record { faults = files.faults; tells = is_some files.map }

-- ---- refusals

abbrev pub error_with : ℕ → List ℕ → List ℕ → Cause → RouteError
error_with code status text cause =
    record { code = code; status = status; text = text; cause = cause }

-- more recipients or rows come, or more files are read, than may be
abbrev pub too_many : RouteError
too_many = error_with 452 (codes "4.5.3") (codes "Too many recipients") Work

-- with what a recipient is refused that has no rows; a fault of files and want of memory refuse
-- none, and the cause is the nearest one of a route
abbrev pub error_of : ExpandRefusal → Option RouteError
error_of (refusals.Refuses error) = Some error
error_of refusals.TooDeep =
    Some (error_with 554 (codes "5.4.6") (codes "Aliases too deep") Deep)
error_of refusals.TooMany = Some too_many
error_of (refusals.IncludeAbsent name) =
    Some (error_with 550 (codes "5.2.4") (codes "Include file absent") FileMailer)
error_of refusals.NoOne =
    Some (error_with 554 (codes "5.4.6") (codes "Aliases leave no one") NotResolved)
error_of refusals.FilesFault = None
error_of refusals.NoMemory = None

-- ---- what is said

-- a recipient is refused by the set check_rcpt; or else its aliases give it no rows, or these rows
pub data Judges (grounds : Grounds) (files : Option FileMap) (macros : Macros)
    (path sender : List ℕ) : Verdict → Type 0 where
  is_checked : (error : RouteError)
      → Checks grounds.config grounds.maps macros (codes "check_rcpt") path (Some error)
      → Judges grounds files macros path sender (No error)
  is_refused : (refusal : ExpandRefusal) (error : RouteError)
      → Checks grounds.config grounds.maps macros (codes "check_rcpt") path None
      → Expands (site_in grounds macros) files path sender (Err refusal)
      → error_of refusal ≡ Some error
      → Judges grounds files macros path sender (No error)
  goes : (rows : List Draw)
      → Checks grounds.config grounds.maps macros (codes "check_rcpt") path None
      → Expands (site_in grounds macros) files path sender (Ok rows)
      → Judges grounds files macros path sender (Rows rows)

-- what is said of a sender: what the set check_mail says
abbrev pub IsOfSender : Grounds → List ℕ → Kept → Said → Type 0
IsOfSender grounds path kept (OfSender refusal) =
    Checks grounds.config grounds.maps (session_macros grounds.config kept path)
    (codes "check_mail") path refusal
IsOfSender grounds path kept said = ⊥

-- what is said of a recipient
abbrev pub IsOfRecipient : Grounds → Option FileMap → List ℕ → List ℕ → Kept → Said → Type 0
IsOfRecipient grounds files path sender kept (OfRecipient verdict) =
    Judges grounds files (session_macros grounds.config kept sender) path sender verdict
IsOfRecipient grounds files path sender kept said = ⊥

-- what the rules say of a question
abbrev pub IsJudged : Grounds → Option FileMap → Question → Said → Type 0
IsJudged grounds files (AsksSender path kept) said = IsOfSender grounds path kept said
IsJudged grounds files (AsksRecipient path sender kept) said =
    IsOfRecipient grounds files path sender kept said
