-- The commands of a session (RFC 5321, sections 2.4, 4.1.1 and 4.5.1; the order of the faults is
-- our own).
use Rattle.std.specs.Prelude.{◌≡◌, ◌≢◌, ℕ, ◌==◌, nat_lt, Bool, true, false, not, ◌||◌, ◌&&◌, List, [], length, drop, Option, Some, None, Result, Ok, Err, codes}
use Rattle.std.specs.List.{list_any}
use Rattle.std.specs.Str.{str_eq_ignore_ascii_case}
use Rattle.mail_base.specs.Texts.{trimmed}
use Rattle.mail_base.specs.declared.command.Verb.{Verb}
use Rattle.mail_base.specs.declared.command.Verb.TheVariants.{Helo as HeloVerb, Ehlo as EhloVerb, Mail as MailVerb, Rcpt as RcptVerb, Data as DataVerb, Rset as RsetVerb, Noop as NoopVerb, Quit as QuitVerb, Vrfy as VrfyVerb, Expn as ExpnVerb, Help as HelpVerb}
use Rattle.mail_base.specs.declared.command.Command.{Command}
use Rattle.mail_base.specs.declared.command.Command.TheVariants.{Helo as AsHelo, Ehlo as AsEhlo, Mail as AsMail, Rcpt as AsRcpt, Data as AsData, Rset as AsRset, Noop as AsNoop, Quit as AsQuit, Vrfy as AsVrfy, Expn as AsExpn, Help as AsHelp}
use Rattle.mail_base.specs.declared.command.LineFault.{LineFault}
use Rattle.mail_base.specs.declared.command.LineFault.TheVariants.{BadByte, Unknown, ArgumentNeeded, NoArgument, Syntax, PathTooLong, Parameter}
use Rattle.smtp_lines.specs.Stream.{verb_of}
use Rattle.smtp_lines.specs.Paths.{HasPath, is_too_long}
use Rattle.smtp_lines.specs.Parameters.{AreGiven}

-- what a command line asks for, by its verb: HELO and EHLO with the name that is given, MAIL with its
-- path, size and whether the body has eight bits, RCPT with its path; a path is without its angles
-- and its route
pub data Order : Type 0 where
  Helo : List ℕ → Order
  Ehlo : List ℕ → Order
  Mail : List ℕ → Option ℕ → Bool → Order
  Rcpt : List ℕ → Order
  Data : Order
  Rset : Order
  Noop : Order
  Quit : Order
  Vrfy : Order
  Expn : Order
  Help : Order

-- a control byte that no command holds
abbrev pub is_bad_byte : ℕ → Bool
is_bad_byte b = (nat_lt b 32 && not (b == 9)) || b == 127

abbrev pub name_of : Verb → List ℕ
name_of HeloVerb = codes "HELO"
name_of EhloVerb = codes "EHLO"
name_of MailVerb = codes "MAIL"
name_of RcptVerb = codes "RCPT"
name_of DataVerb = codes "DATA"
name_of RsetVerb = codes "RSET"
name_of NoopVerb = codes "NOOP"
name_of QuitVerb = codes "QUIT"
name_of VrfyVerb = codes "VRFY"
name_of ExpnVerb = codes "EXPN"
name_of HelpVerb = codes "HELP"

-- a word names a verb, whatever its case
abbrev pub IsNamed : List ℕ → Verb → Type 0
IsNamed word verb = str_eq_ignore_ascii_case word (name_of verb) ≡ true

-- what stands after the verb
abbrev pub argument_of : List ℕ → List ℕ
argument_of line = trimmed (drop (length (verb_of line)) line)

-- a line without bad bytes has this verb and this argument
pub record Says (line : List ℕ) (verb : Verb) (argument : List ℕ) : Type 0 where
  pub clean : list_any is_bad_byte line ≡ false
  pub verb_is : IsNamed (verb_of line) verb
  pub argument_is : argument ≡ argument_of line

-- the verbs that need an argument, and those that have none
abbrev pub needs_argument : Verb → Bool
needs_argument HeloVerb = true
needs_argument EhloVerb = true
needs_argument VrfyVerb = true
needs_argument verb = false

abbrev pub stands_alone : Verb → Bool
stands_alone DataVerb = true
stands_alone RsetVerb = true
stands_alone QuitVerb = true
stands_alone verb = false

-- the keyword of a verb that has a path
abbrev pub keyword_of : Verb → Option (List ℕ)
keyword_of MailVerb = Some (codes "FROM:")
keyword_of RcptVerb = Some (codes "TO:")
keyword_of verb = None

-- a line is a command
pub data IsCommand (line : List ℕ) : Order → Type 0 where
  helo : (argument : List ℕ) → Says line HeloVerb argument → argument ≢ []
      → IsCommand line (Helo argument)
  ehlo : (argument : List ℕ) → Says line EhloVerb argument → argument ≢ []
      → IsCommand line (Ehlo argument)
  mail : (argument path rest : List ℕ) (size : Option ℕ) (eight : Bool) → Says line MailVerb argument
      → HasPath (codes "FROM:") argument path rest → is_too_long path ≡ false
      → AreGiven rest size eight → IsCommand line (Mail path size eight)
  rcpt : (argument path : List ℕ) → Says line RcptVerb argument → HasPath (codes "TO:") argument path []
      → is_too_long path ≡ false → IsCommand line (Rcpt path)
  data_ : Says line DataVerb [] → IsCommand line Data
  rset : Says line RsetVerb [] → IsCommand line Rset
  noop : (argument : List ℕ) → Says line NoopVerb argument → IsCommand line Noop
  quit : Says line QuitVerb [] → IsCommand line Quit
  vrfy : (argument : List ℕ) → Says line VrfyVerb argument → argument ≢ [] → IsCommand line Vrfy
  expn : (argument : List ℕ) → Says line ExpnVerb argument → IsCommand line Expn
  help : (argument : List ℕ) → Says line HelpVerb argument → IsCommand line Help

-- a line is none, and this is the first of its faults in this order: what each says of the line
-- holds, and nothing that one before it says
pub data HasFault (line : List ℕ) : LineFault → Type 0 where
  bad_byte : list_any is_bad_byte line ≡ true → HasFault line BadByte
  unknown : list_any is_bad_byte line ≡ false → ((verb : Verb) → ¬ IsNamed (verb_of line) verb)
      → HasFault line Unknown
  lacks_argument : (verb : Verb) → needs_argument verb ≡ true → Says line verb []
      → HasFault line ArgumentNeeded
  has_argument : (verb : Verb) (argument : List ℕ) → stands_alone verb ≡ true
      → Says line verb argument → argument ≢ [] → HasFault line NoArgument
  no_path : (verb : Verb) (keyword argument : List ℕ) → keyword_of verb ≡ Some keyword
      → Says line verb argument → ((path rest : List ℕ) → ¬ HasPath keyword argument path rest)
      → HasFault line (Syntax verb)
  long_path : (verb : Verb) (keyword argument path rest : List ℕ) → keyword_of verb ≡ Some keyword
      → Says line verb argument → HasPath keyword argument path rest → is_too_long path ≡ true
      → HasFault line (PathTooLong verb)
  mail_parameter : (argument path rest : List ℕ) → Says line MailVerb argument
      → HasPath (codes "FROM:") argument path rest → is_too_long path ≡ false
      → ((size : Option ℕ) (eight : Bool) → ¬ AreGiven rest size eight)
      → HasFault line (Parameter MailVerb)
  rcpt_parameter : (argument path rest : List ℕ) → Says line RcptVerb argument
      → HasPath (codes "TO:") argument path rest → is_too_long path ≡ false → rest ≢ []
      → HasFault line (Parameter RcptVerb)

-- how a line is read: as a command, or with its first fault
abbrev pub IsRead : List ℕ → Result Order LineFault → Type 0
IsRead line (Ok order) = IsCommand line order
IsRead line (Err fault) = HasFault line fault

-- the order that a command is
abbrev pub as_order : Command → Order
as_order (AsHelo argument) = Helo argument.now
as_order (AsEhlo argument) = Ehlo argument.now
as_order (AsMail path size eight) = Mail path.now size eight
as_order (AsRcpt path) = Rcpt path.now
as_order AsData = Data
as_order AsRset = Rset
as_order AsNoop = Noop
as_order AsQuit = Quit
as_order AsVrfy = Vrfy
as_order AsExpn = Expn
as_order AsHelp = Help

-- the order that was read
abbrev pub as_read : Result Command LineFault → Result Order LineFault
as_read (Ok command) = Ok (as_order command)
as_read (Err fault) = Err fault
