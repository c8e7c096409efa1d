-- What routes and checks say can stand in a reply.
use Rattle.std.proofs.Common.{◌≡◌, ℕ, ◌+◌, ◌≤◌, ◌<◌, List, ◌++◌, Bool, Option, None, Some, Result, Ok, Err, map, length, take, drop, refl, arith}
use Rattle.std.specs.Prelude.{IsTrue, codes}
use Rattle.std.proofs.lemmas.Bool.{cond_both}
use Rattle.mail_base.specs.Catalogs.{value_like}
use Rattle.mail_base.specs.Notes.{blanked, is_status}
use Rattle.mail_base.specs.Refusals.{IsRefusal}
use Rattle.mail_base.specs.declared.config.Config.{Config}
use Rattle.mail_base.specs.declared.mailer.Mailer.{Mailer}
use Rattle.mail_base.specs.declared.route.Cause.{Cause}
use Rattle.mail_base.specs.declared.route.Cause.TheVariants as cause
use Rattle.mail_base.specs.declared.route.Resolved.{Resolved}
use Rattle.mail_base.specs.declared.route.RouteError.{RouteError}
use Rattle.mail_base.specs.declared.token.Token.{Token}
use Rattle.map_tables.specs.Answers.{Loaded}
use Rattle.ruleset_run.specs.Filling.{is_resolved}
use Rattle.ruleset_run.specs.Sites.{Macros}
use Rattle.addr_route.specs.declared.aim.Aim.{Aim}
use Rattle.addr_route.specs.Aims.{aim_of, is_error, is_file, said_by}
use Rattle.addr_route.specs.Checks.{Checks, unchecked, checked, IsBoundedIf, verdict, verdict_of}
use Rattle.addr_route.specs.Errors.{error_of, error_with, reply_to, is_like, host_status, class_code, code_at, status_end, refusal, with_status, with_code, message_of}
use Rattle.addr_route.specs.Routes.{LeadsTo, files, no_user, unwritten, written, Leads, says_error, unknown_mailer, known_mailer, Turns, five_fails, stays, turned, Lands, rules_fail, not_resolved, refused, goes, by_five, Routes, program, file, by_rules, program_by, IsBounded}
use Rattle.addr_route.proofs.TextLemmas.{IsCode, all_blanked, said_form, said_some, host_form, class_form, code_at_form, end_form}

-- ---- causes

fixed : (code : ℕ) (status text : List ℕ) (cause : Cause) → 400 ≤ code → code ≤ 599 → IsTrue (is_status status) → 0 < length (map blanked text) → IsRefusal (record { code = code; status = status; text = map blanked text; cause = cause })
fixed code status text cause least most form some = record { least = least; most = most; status_form = form; some = some; text_form = all_blanked text }

configuration_bound : (why : Cause) → IsRefusal (error_with (reply_to cause.BadScan) why)
configuration_bound why = fixed 451 (codes "4.3.5") (codes "Configuration error") why (omega arith) (omega arith) refl (omega arith)

pub cause_bound : (why : Cause) → IsRefusal (error_of why)
cause_bound cause.BadAddress = fixed 553 (codes "5.1.3") (codes "Bad address") cause.BadAddress (omega arith) (omega arith) refl (omega arith)
cause_bound cause.LongAddress = fixed 553 (codes "5.1.3") (codes "Bad address") cause.LongAddress (omega arith) (omega arith) refl (omega arith)
cause_bound cause.NotResolved = fixed 554 (codes "5.3.5") (codes "Address does not resolve") cause.NotResolved (omega arith) (omega arith) refl (omega arith)
cause_bound (cause.UnknownMailer name) = fixed 554 (codes "5.3.5") (codes "Unknown mailer " ++ name) (cause.UnknownMailer name) (omega arith) (omega arith) refl (omega arith)
cause_bound cause.NoUser = fixed 553 (codes "5.1.1") (codes "User required") cause.NoUser (omega arith) (omega arith) refl (omega arith)
cause_bound cause.FileMailer = fixed 550 (codes "5.2.4") (codes "File delivery not supported") cause.FileMailer (omega arith) (omega arith) refl (omega arith)
cause_bound cause.Loop = configuration_bound cause.Loop
cause_bound cause.Deep = configuration_bound cause.Deep
cause_bound cause.Work = configuration_bound cause.Work
cause_bound (cause.NoRuleset name) = configuration_bound (cause.NoRuleset name)
cause_bound (cause.MapClass name) = configuration_bound (cause.MapClass name)
cause_bound (cause.NoSuchMap name) = configuration_bound (cause.NoSuchMap name)
cause_bound cause.BadScan = configuration_bound cause.BadScan
cause_bound cause.Long = configuration_bound cause.Long
cause_bound cause.ErrorMailer = configuration_bound cause.ErrorMailer

-- ---- the mailer `error`

refusal_bound : (code : ℕ) (status text : List ℕ) → IsCode code → IsTrue (is_status status) → IsRefusal (refusal code status text)
refusal_bound code status text c form = record { least = c.0; most = c.1; status_form = form; some = said_some text; text_form = said_form text }

status_bound : (code : ℕ) (status text : List ℕ) (at : Option ℕ) → status_end text ≡ at → IsCode code → IsTrue (is_status status) → IsRefusal (with_status code status at text)
status_bound code status text None e c form = refusal_bound code status text c form
status_bound code status text (Some place) e c form = refusal_bound code (take place text) (drop (place + 1) text) c (end_form text place e)

code_bound : (status message : List ℕ) (code : Option ℕ) → code_at message ≡ code → IsTrue (is_status status) → IsRefusal (with_code status code message)
code_bound status message None e form = refusal_bound (class_code status) status message (class_form status) form
code_bound status message (Some code) e form = status_bound code status (drop 4 message) (status_end (drop 4 message)) refl (code_at_form message code e) form

said_bound : (aim : Aim) → IsRefusal (said_by aim)
said_bound aim = code_bound (host_status aim.host) (message_of aim.user) (code_at (message_of aim.user)) refl (host_form aim.host)

-- ---- routes and checks

module _ (config : Config) (maps : Loaded) (macros : Macros) where
  leads_to_bound : {mailer : Mailer} {aim : Aim} {resolved : Resolved} → LeadsTo config maps macros mailer aim resolved → IsBounded resolved
  leads_to_bound (files f) = cause_bound cause.FileMailer
  leads_to_bound (no_user f n) = cause_bound cause.NoUser
  leads_to_bound (unwritten why f n t) = cause_bound why
  leads_to_bound (written user f n t) = tt

  leads_bound : {aim : Aim} {resolved : Resolved} → Leads config maps macros aim resolved → IsBounded resolved
  leads_bound {aim} (says_error s) = said_bound aim
  leads_bound {aim} (unknown_mailer f n) = cause_bound (cause.UnknownMailer aim.mailer)
  leads_bound (known_mailer mailer resolved f m l) = leads_to_bound l

  turns_bound : {triple : _} {answer : Result (List Token) Cause} {resolved : Resolved} → Turns config maps macros triple answer resolved → IsBounded resolved
  turns_bound (five_fails why) = cause_bound why
  turns_bound (stays list f) = tt
  turns_bound (turned list resolved t l) = leads_bound l

  lands_bound : {leaf : Bool} {answer : Result (List Token) Cause} {resolved : Resolved} → Lands config maps macros leaf answer resolved → IsBounded resolved
  lands_bound (rules_fail why) = cause_bound why
  lands_bound (not_resolved list f) = cause_bound cause.NotResolved
  lands_bound (refused list error t l) = leads_bound l
  lands_bound (goes list triple t l n) = tt
  lands_bound (by_five list triple answer resolved t l y h u) = turns_bound u

  program_bound : (command : List ℕ) (mailer : Option Mailer) → IsBounded (program_by command mailer)
  program_bound command None = cause_bound (cause.UnknownMailer (codes "prog"))
  program_bound command (Some mailer) = cond_both (is_file mailer) _ _ IsBounded (λ _. cause_bound cause.FileMailer) (λ _. tt)

  pub routes_bound : {address : List ℕ} {leaf : Bool} {resolved : Resolved} → Routes config maps macros address leaf resolved → IsBounded resolved
  routes_bound (program command f) = program_bound command (value_like (codes "prog") config.mailers)
  routes_bound (file f) = cause_bound cause.FileMailer
  routes_bound (by_rules text answer resolved f p l) = lands_bound l

  verdict_of_bound : (aim : Aim) → IsBoundedIf (verdict_of aim)
  verdict_of_bound aim = cond_both (is_like aim.mailer (codes "ok")) None _ IsBoundedIf (λ _. tt) (λ _. cond_both (is_error aim.mailer) _ _ IsBoundedIf (λ _. said_bound aim) (λ _. configuration_bound (cause.UnknownMailer aim.mailer)))

  verdict_bound : (answer : Result (List Token) Cause) → IsBoundedIf (verdict answer)
  verdict_bound (Err why) = cause_bound why
  verdict_bound (Ok list) = cond_both (is_resolved list) (verdict_of (aim_of list)) None IsBoundedIf (λ _. verdict_of_bound (aim_of list)) (λ _. tt)

  pub checks_bound : {set address : List ℕ} {error : Option RouteError} → Checks config maps macros set address error → IsBoundedIf error
  checks_bound (unchecked n) = tt
  checks_bound (checked rules answer m p) = verdict_bound answer
