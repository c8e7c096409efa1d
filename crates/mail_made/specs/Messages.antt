-- The command that a received message becomes (Sendmail Installation and Operation Guide, "The
-- queue", "Queue Groups", and H: Define Header for the header Received).
use Rattle.std.specs.Prelude.{◌≡◌, ℕ, ◌+◌, ◌≤◌, List, [], ◌∷◌, length, max, Bool, IfSome, Option, None, Some, codes, nat_lt}
use Rattle.mail_base.specs.Catalogs.{with_value}
use Rattle.mail_base.specs.Names.{id_text}
use Rattle.mail_base.specs.Texts.{IsHeader}
use Rattle.mail_base.specs.declared.config.Config.{Config}
use Rattle.mail_base.specs.declared.id.TheConstants.Id.{MOST}
use Rattle.mail_base.specs.declared.message.Cut.{Cut}
use Rattle.mail_base.specs.declared.message.Message.{Message}
use Rattle.cf_macros.specs.Dates.{IsDateText}
use Rattle.cf_macros.specs.declared.form.Form.TheVariants.{Mail, Unix, Short}
use Rattle.mail_header.specs.Fields.{IsDate, date_told}
use Rattle.mail_header.specs.Made.{received_of}
use Rattle.map_tables.specs.Answers.{Loaded}
use Rattle.ruleset_run.specs.Sites.{Macros}
use Rattle.mail_base.specs.Literals.{literal}
use Rattle.cf_macros.specs.SessionMacros.{session_macros}
use Rattle.spool_store.specs.Entries.{Table}
use Rattle.queue_plan.specs.Cuts.{AreParts}
use Rattle.queue_plan.specs.Rows.{distinct}
use Rattle.queue_table.specs.Commands.{Command}
use Rattle.queue_table.specs.Commands.Command.{Accept}
use Rattle.queue_table.specs.declared.terms.Terms.{Terms}

-- ---- the header Received

-- the macros a, b, d and t of a message
pub record Dates : Type 0 where
  pub told : List ℕ
  pub mail : List ℕ
  pub unix : List ℕ
  pub short : List ℕ

-- these are its dates at a moment
pub record AreDates (message : Message) (moment : ℕ) (dates : Dates) : Type 0 where
  pub told : IsDate (date_told message.headers) moment dates.told
  pub mail : IsDateText Mail moment dates.mail
  pub unix : IsDateText Unix moment dates.unix
  pub short : IsDateText Short moment dates.short

-- macros with dates, of which the told one stands for itself, and an id
abbrev pub dated_macros : Macros → Dates → ℕ → Macros
dated_macros macros dates id =
    with_value (codes "i") (id_text id)
    (with_value (codes "t") dates.short
    (with_value (codes "d") dates.unix
    (with_value (codes "b") dates.mail
    (with_value (codes "a") (literal dates.told) macros))))

-- the macros of a message that rulesets see on receipt: those of its session
abbrev pub macros_seen : Config → Message → Macros
macros_seen config message = session_macros config message.kept message.sender

-- those of its header Received, with its dates and its id besides
abbrev pub receipt_macros : Config → Message → Dates → ℕ → Macros
receipt_macros config message dates id = dated_macros (macros_seen config message) dates id

-- ---- a message on its way into the queue

-- what is made of it: the header that is put first, if there is one, and the parts, each of which
-- becomes an entry
pub record Made : Type 0 where
  pub first : Option (List ℕ)
  pub cuts : List Cut

-- a message that is taken in under an id has a row, and this is made of it: the header that the
-- configuration puts first, and the parts of its rows, of which the first of equal ones stays
pub record IsTakenIn (config : Config) (maps : Loaded) (moment : ℕ) (message : Message) (id : ℕ)
    (made : Made) : Type 0 where
  pub some : 1 ≤ length message.rows
  pub dates : Dates
  pub are : AreDates message moment dates
  pub first : made.first ≡ received_of config.headers (receipt_macros config message dates id)
  pub parts : AreParts config maps (macros_seen config message) (distinct message.rows) made.cuts

-- headers with one more in front, if there is one
abbrev pub put_first : Option (List ℕ) → List (List ℕ) → List (List ℕ)
put_first None headers = headers
put_first (Some first) headers = first ∷ headers

-- a message with that header; its rows are in the parts
abbrev pub headed : Option (List ℕ) → Message → Message
headed first message =
    record message { rows = []; headers = put_first first message.headers }

-- this message and these parts are made of one that is taken in under an id
pub record IsMessageMade (config : Config) (maps : Loaded) (moment : ℕ) (message : Message) (id : ℕ)
    (now : Message) (cuts : List Cut) : Type 0 where
  pub first : Option (List ℕ)
  pub header : IfSome first IsHeader
  pub taken : IsTakenIn config maps moment message id (record { first = first; cuts = cuts })
  pub is : now ≡ headed first message

-- ---- the command

-- the command that takes a message in
abbrev pub accept_under : Terms → ℕ → Message → Made → Command
accept_under terms moment message made = Accept terms (headed made.first message) made.cuts moment

-- the greatest id
unfoldable pub last_id : ℕ
last_id = MOST

-- the ids that are wanted for parts: one at least, and one for each
abbrev pub ids_for : List Cut → ℕ
ids_for cuts = max 1 (length cuts)

-- whether an id is wanting for one of the parts
abbrev pub is_spent : Table → Made → Bool
is_spent table made = nat_lt (last_id + 1) (table.next + ids_for made.cuts)
