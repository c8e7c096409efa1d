-- What the data of a step is: the text that a mailer is handed, the start of a program, the letter
-- to peers, and the messages that are sent for an entry (Sendmail Installation and Operation Guide,
-- M: Define Mailer, and macros a, b, d, f, g, h, i and t).
use Rattle.std.specs.Prelude.{◌≡◌, ℕ, List, [], Option, Some, codes}
use Rattle.mail_base.specs.Catalogs.{with_value}
use Rattle.mail_base.specs.declared.config.Config.{Config}
use Rattle.mail_base.specs.declared.control.Control.{Control}
use Rattle.mail_base.specs.declared.draw.Draw.{Draw}
use Rattle.mail_base.specs.declared.mailer.Mailer.{Mailer}
use Rattle.mail_base.specs.declared.message.Back.{Back}
use Rattle.mail_base.specs.declared.route.Resolved.{Resolved}
use Rattle.mail_base.specs.declared.route.Resolved.TheVariants.{Goes, Refuses}
use Rattle.map_tables.specs.Answers.{Loaded}
use Rattle.ruleset_run.specs.Sites.{Macros, site_of}
use Rattle.header_rewrite.specs.Rewriting.{AreRewritten}
use Rattle.addr_route.specs.Senders.{Sends}
use Rattle.mail_header.specs.Dated.{IsDated}
use Rattle.mail_header.specs.Fields.{IsDate, date_told}
use Rattle.mail_header.specs.Made.{added_of}
use Rattle.mail_header.specs.Outgoing.{outgoing_of}
use Rattle.dsn_bounce.specs.Returned.{IsBounce, IsWarning}
use Rattle.mail_base.specs.Literals.{literal}
use Rattle.mailer_pipe.specs.Starts.{start_of}
use Rattle.spawn_edge.specs.declared.event.Start.{Start}
use Rattle.queue_run.specs.Backs.{AreSentTo, Drawer, untold}
use Rattle.queue_run.specs.Claims.{claim_macros}
use Rattle.queue_run.specs.Deeds.{Talk}
use Rattle.queue_run.specs.Handovers.{IsHandover}
use Rattle.queue_run.specs.Kinds.{Kind, Starts, Talks, Returns, Warns, host_macros}
use Rattle.queue_run.specs.declared.letter.Letter.{Letter}
use Rattle.queue_run.specs.Steps.{Luck, StillRuns, Exits, Loses, Records, Outgrows, Begins, Misses, Ends, Gives, Dies, Tells, Closes, LetsGo, Lacks}

-- the host to which a batch goes
abbrev pub host_of : Resolved → List ℕ
host_of (Goes triple) = triple.host
host_of (Refuses error) = []

-- what a step stands on beside the table: the configuration and its maps, the moment, and what draws
-- the rows of receivers
pub record Ground : Type 1 where
  pub config : Config
  pub maps : Loaded
  pub moment : ℕ
  pub drawer : Drawer

abbrev pub ground_by : Config → Loaded → ℕ → Drawer → Ground
ground_by config maps moment d =
    record { config = config; maps = maps; moment = moment; drawer = d }

-- that of a step which draws none
abbrev pub ground_of : Config → Loaded → ℕ → Ground
ground_of config maps moment = ground_by config maps moment untold

-- macros with the date of the message and the sender for the mailer
abbrev pub letter_macros : Macros → List ℕ → List ℕ → Macros
letter_macros macros date sender =
    with_value (codes "g") (literal sender) (with_value (codes "a") (literal date) macros)

-- what a mailer is handed of an entry
pub record IsLetter (ground : Ground) (id : ℕ) (control : Control) (mailer : Mailer)
    (host : List ℕ) (letter : Letter) : Type 0 where
  pub sender : Sends ground.config ground.maps (claim_macros ground.config id control) mailer
      control.sender letter.sender
  pub date : IsDate (date_told control.headers) control.created letter.date
  pub macros : IsDated ground.moment
      (letter_macros (host_macros ground.config id control host) letter.date letter.sender)
      letter.macros
  pub headers : AreRewritten (site_of ground.config ground.maps) letter.macros mailer
      (added_of ground.config.headers mailer letter.macros control.headers) letter.headers
  pub text : letter.text ≡ outgoing_of mailer letter.macros letter.headers letter.body

-- of a batch that is tried, the letter to it
abbrev pub IsLetterOf : Ground → ℕ → Option Control → Kind → Letter → Type 0
IsLetterOf ground id (Some control) (Starts batch mailer) letter =
    IsLetter ground id control mailer (host_of batch.resolved) letter
IsLetterOf ground id (Some control) (Talks batch mailer peers) letter =
    IsLetter ground id control mailer (host_of batch.resolved) letter
IsLetterOf ground id found kind letter = Unit {0}

-- of one that a program is started for, the start
abbrev pub IsStartOf : Kind → Letter → Start → Type 0
IsStartOf (Starts batch mailer) letter start =
    start ≡ start_of mailer letter.macros batch.users letter.text
IsStartOf kind letter start = Unit {0}

-- of one that is delivered to peers, the delivery
abbrev pub IsTalkOf : Ground → Option Control → Kind → Letter → Talk → Type 0
IsTalkOf ground (Some control) (Talks batch mailer peers) letter talk =
    IsHandover ground.config control batch mailer peers letter talk
IsTalkOf ground found kind letter talk = Unit {0}

-- of one whose failed rows are given back, the bounce
abbrev pub IsBounceOf : Ground → Kind → Option Control → List ℕ → List Draw → Back → Type 0
IsBounceOf ground Returns (Some control) body rows back =
    IsBounce ground.config control body ground.moment back.message
    × AreSentTo ground.drawer ground.config ground.maps control rows back.cuts
IsBounceOf ground kind found body rows back = Unit {0}

-- of one whose sender is warned, the warning
abbrev pub IsWarningOf : Ground → Kind → Option Control → List Draw → Back → Type 0
IsWarningOf ground Warns (Some control) rows back =
    IsWarning ground.config control ground.moment back.message
    × AreSentTo ground.drawer ground.config ground.maps control rows back.cuts
IsWarningOf ground kind found rows back = Unit {0}

-- what the data of a step is, of an entry of that control
abbrev pub IsMeant : Ground → ℕ → Option Control → Kind → Luck → Type 0
IsMeant ground id found kind StillRuns = Unit {0}
IsMeant ground id found kind (Exits status failed) = Unit {0}
IsMeant ground id found kind (Loses failed) = Unit {0}
IsMeant ground id found kind (Records failed) = Unit {0}
IsMeant ground id found kind (Outgrows letter failed) = IsLetterOf ground id found kind letter
IsMeant ground id found kind (Begins letter start child missed) =
    IsLetterOf ground id found kind letter × IsStartOf kind letter start
IsMeant ground id found kind (Misses letter start launch failed) =
    IsLetterOf ground id found kind letter × IsStartOf kind letter start
IsMeant ground id found kind (Ends letter talk failed) =
    IsLetterOf ground id found kind letter × IsTalkOf ground found kind letter talk
IsMeant ground id found kind (Gives body rows bounce failed) =
    IsBounceOf ground kind found body rows bounce
IsMeant ground id found kind (Dies failed) = Unit {0}
IsMeant ground id found kind (Tells rows warning failed) =
    IsWarningOf ground kind found rows warning
IsMeant ground id found kind (Closes failed) = Unit {0}
IsMeant ground id found kind LetsGo = Unit {0}
IsMeant ground id found kind (Lacks cause) = Unit {0}
