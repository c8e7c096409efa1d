-- The forms of what a received message has (RFC 5321 section 4.1.2; RFC 5322 section 2.2.3 of
-- folded headers), and of what its headers and its body are (section 2.1).
use Rattle.std.specs.Prelude.{◌≡◌, ◌⊎◌, ℕ, ◌≤◌, true, List, [], ◌∷◌, Option, Some, None, IfSome, All, codes}
use Rattle.mail_base.specs.Limits.{most_message}
use Rattle.mail_base.specs.Texts.{IsLine, IsBracketed, IsHeader}
use Rattle.mail_base.specs.declared.config.Config.{Config}
use Rattle.mail_header.specs.Headers.{IsSplit}
use Rattle.smtp_receive.specs.Dialogue.{Exchange, Heard, exchanges, no_marks, question}
use Rattle.mail_base.specs.Drawing.{AreRows}
use Rattle.smtp_receive.specs.Mails.{Mail}
use Rattle.smtp_receive.specs.Judging.{IsFormedSaid, Question, Said, is_answer_to}

-- a message of this peer has its parts in these forms
pub record IsFormed (message : Mail) (peer : List ℕ) : Type 0 where
  pub sender_form : IsBracketed message.sender
  pub rows_form : AreRows message.rows
  pub headers_form : All IsHeader message.headers
  pub size_range : message.size ≤ most_message
  pub marks_are : message.marks ≡ no_marks
  pub protocol_is : (message.kept.protocol ≡ codes "SMTP") ⊎ (message.kept.protocol ≡ codes "ESMTP")
  pub helo_form : IsLine message.kept.helo
  pub client_is : message.kept.client ≡ peer

-- a message has the headers and the body of this text, by the grammar of mail_header
pub record IsSplitOf (message : Mail) (text : List ℕ) : Type 0 where
  pub block : ℕ
  pub split : IsSplit text
      (record { headers = message.headers; body = message.body; block = block })

-- what was said at a question is of its kind and in its form
abbrev pub FormedFor : Option Question → Said → Type 0
FormedFor None said = Unit {0}
FormedFor (Some question) said = (is_answer_to question said ≡ true) × IsFormedSaid said

-- all that the judge said in exchanges, of which the latest is first, is so, but where 452 4.3.1
-- was replied
abbrev pub AreFormedIn : Config → List ℕ → List Exchange → Type 0
AreFormedIn config peer [] = Unit {0}
AreFormedIn config peer (e ∷ before) =
    IfSome e.answer (λ _. FormedFor (question config peer before e.line) e.said)
    × AreFormedIn config peer before

-- the same of all that a session has heard
abbrev pub AreFormed : Config → List ℕ → List Heard → Type 0
AreFormed config peer heard = AreFormedIn config peer (exchanges config peer heard)
