-- Returned mail and warnings, as whole messages (RFC 5321, section 6.1: they go to the sender, under
-- the null sender; RFC 5322, section 3.6, for the headers; RFC 3834, section 5, for Auto-Submitted;
-- the words are our own).
use Rattle.std.specs.Prelude.{◌≡◌, ℕ, ℤ, pos, Bool, true, false, int_le, List, [], ◌∷◌, ◌++◌, length, map, if◌then◌else◌, codes, bytes_eq, refl}
use Rattle.std.specs.List.{flat_map}
use Rattle.mail_base.specs.Drawing.{null_sender}
use Rattle.mail_base.specs.Notes.{blanked}
use Rattle.mail_base.specs.Texts.{lines_of_header}
use Rattle.mail_base.specs.declared.config.Config.{Config}
use Rattle.mail_base.specs.declared.control.Control.{Control}
use Rattle.mail_base.specs.declared.control.Row.{Row}
use Rattle.mail_base.specs.declared.message.Message.{Message}
use Rattle.cf_macros.specs.Dates.{IsDateText}
use Rattle.cf_macros.specs.Expansion.{host_name}
use Rattle.cf_macros.specs.declared.form.Form.TheVariants.{Mail}
use Rattle.dsn_bounce.specs.Rows.{line, told_rows}
use Rattle.dsn_bounce.specs.declared.topic.Topic.{Topic}
use Rattle.dsn_bounce.specs.declared.topic.Topic.TheVariants.{Bounce, Warning}

-- the entry's sender gets it, or where that is null, who gets double bounces
abbrev pub receiver_of : Config → Control → List ℕ
receiver_of config control = if bytes_eq control.sender null_sender
    then config.options.double_bounce_address else control.sender

-- a header of one line: a CR or LF in what it is made of becomes a blank
abbrev pub titled : List ℕ → List ℕ → List ℕ
titled name value = map blanked (name ++ (codes ": " ++ value))

abbrev pub subject : Topic → List ℕ
subject Bounce = codes "Returned mail: see transcript for details"
subject Warning = codes "Warning: message still undelivered"

abbrev pub headers_of : Topic → (host receiver date : List ℕ) → List (List ℕ)
headers_of topic host receiver date =
    titled (codes "Date") date
    ∷ titled (codes "From") (codes "Mail Delivery Subsystem <MAILER-DAEMON@" ++ (host ++ codes ">"))
    ∷ titled (codes "To") receiver
    ∷ titled (codes "Subject") (subject topic)
    ∷ titled (codes "Auto-Submitted") (codes "auto-generated") ∷ []

abbrev pub heading : Topic → List ℕ
heading Bounce = codes "   ----- Addresses with fatal errors -----"
heading Warning = codes "   ----- Addresses still tried -----"

-- a bounce has the message's body behind its headers, unless the message's class is below 0
abbrev pub is_whole : Topic → ℤ → Bool
is_whole Bounce class = int_le (pos 0) class
is_whole Warning class = false

abbrev pub original : Bool → List ℕ
original true = codes "   ----- Original message -----"
original false = codes "   ----- Original headers -----"

-- an empty line and the body, where they are given
abbrev pub rest_of : Bool → List ℕ → List ℕ
rest_of true body = line [] ++ body
rest_of false body = []

unfoldable pub received_words : List ℕ
received_words = codes "The message was received at "

-- the body begins with the moment at which the entry was made,
abbrev pub received_lines : (created : List ℕ) → List ℕ
received_lines created = received_words ++ (line created ++ line [])

-- then come the rows that it tells of,
abbrev pub told_lines : Topic → List Row → List ℕ
told_lines topic rows = line (heading topic) ++ (told_rows topic rows ++ line [])

-- the lines of a header, whatever ends them in it
abbrev pub header_lines : List ℕ → List ℕ
header_lines header = flat_map line (lines_of_header header)

-- and then the headers of the entry's message
abbrev pub original_lines : Topic → Control → List ℕ
original_lines topic control = line (original (is_whole topic control.class))
    ++ (line [] ++ flat_map header_lines control.headers)

-- what stands in the body before the entry's own
abbrev pub front_of : Topic → Control → (created : List ℕ) → List ℕ
front_of topic control created =
    received_lines created ++ (told_lines topic control.rows ++ original_lines topic control)

abbrev pub body_of : Topic → Control → (body created : List ℕ) → List ℕ
body_of topic control body created =
    front_of topic control created ++ rest_of (is_whole topic control.class) body

-- a message as a text: its headers, an empty line and its body
abbrev pub text_of : List (List ℕ) → List ℕ → List ℕ
text_of headers body = flat_map header_lines headers ++ (line [] ++ body)

-- a bounce of a message with the null sender is a double bounce
abbrev pub is_double : Topic → Control → Bool
is_double Bounce control = bytes_eq control.sender null_sender
is_double Warning control = false

-- the message of these headers and this body, whose size is that of its text
abbrev pub message_of : Topic → Control → List (List ℕ) → List ℕ → Message
message_of topic control headers body = record {
  sender = null_sender;
  rows = [];
  headers = headers;
  body = body;
  size = length (text_of headers body);
  class = pos 0;
  eight = control.eight;
  marks = record { bounce = true; double = is_double topic control; warned = false };
  kept = record { protocol = []; helo = []; client = [] };
}

-- the message that tells an entry's sender at that moment of its rows; its dates are those of the
-- moment and of the entry's creation
pub record IsNotice (topic : Topic) (config : Config) (control : Control) (body : List ℕ) (moment : ℕ)
    (message : Message) : Type 0 where
  pub date : List ℕ
  pub created : List ℕ
  pub dated : IsDateText Mail moment date
  pub born : IsDateText Mail control.created created
  pub is : message ≡ message_of topic control
      (headers_of topic (host_name config.macros) (receiver_of config control) date)
      (body_of topic control body created)

-- a bounce returns the rows that failed
abbrev pub IsBounce : Config → Control → (body : List ℕ) → (moment : ℕ) → Message → Type 0
IsBounce config control body moment message = IsNotice Bounce config control body moment message

-- a warning tells of the rows that are still tried, and has no body of the entry
abbrev pub IsWarning : Config → Control → (moment : ℕ) → Message → Type 0
IsWarning config control moment message = IsNotice Warning config control [] moment message

example : (titled (codes "To") (codes "<a\n@b>") ≡ codes "To: <a @b>")
    × (header_lines (codes "To: a,\n b") ≡ codes "To: a,\r\n b\r\n")
    × (rest_of true (codes "hi") ≡ 13 ∷ 10 ∷ codes "hi")
example = (refl, refl, refl)
