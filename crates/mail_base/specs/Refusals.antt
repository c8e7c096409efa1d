-- Refused addresses, as a reply says them (RFC 5321, section 4.2.1; RFC 3463), and the printed
-- names of their causes (own).
use Rattle.std.specs.Prelude.{ℕ, ◌<◌, ◌≤◌, List, IsTrue, codes, length}
use Rattle.mail_base.specs.Notes.{is_status}
use Rattle.mail_base.specs.Texts.{IsSaid}
use Rattle.mail_base.specs.declared.route.RouteError.{RouteError}
use Rattle.mail_base.specs.declared.route.Cause.{Cause}
use Rattle.mail_base.specs.declared.route.Cause.TheVariants.{Loop, Deep, Work, NoRuleset, MapClass, NoSuchMap, BadScan, Long, BadAddress, LongAddress, NotResolved, UnknownMailer, NoUser, FileMailer, ErrorMailer}

-- what a refusal says can stand in a reply that is no positive one: a code of 4 or 5 hundred, a
-- status, and a text within one line
pub record IsRefusal (error : RouteError) : Type 0 where
  pub least : 400 ≤ error.code
  pub most : error.code ≤ 599
  pub status_form : IsTrue (is_status error.status)
  pub some : 0 < length error.text
  pub text_form : IsSaid error.text

-- the name that is printed for a cause: that of the variant, without what it holds; both limits of
-- lists are `Long`
abbrev pub cause_name : Cause → List ℕ
cause_name Loop = codes "Loop"
cause_name Deep = codes "Deep"
cause_name Work = codes "Work"
cause_name (NoRuleset name) = codes "NoRuleset"
cause_name (MapClass name) = codes "MapClass"
cause_name (NoSuchMap name) = codes "NoSuchMap"
cause_name BadScan = codes "BadScan"
cause_name Long = codes "Long"
cause_name BadAddress = codes "BadAddress"
cause_name LongAddress = codes "Long"
cause_name NotResolved = codes "NotResolved"
cause_name (UnknownMailer name) = codes "UnknownMailer"
cause_name NoUser = codes "NoUser"
cause_name FileMailer = codes "FileMailer"
cause_name ErrorMailer = codes "ErrorMailer"
