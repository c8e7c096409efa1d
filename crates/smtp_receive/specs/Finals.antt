-- Which texts a session replies with, and which of them says that a message is stored (RFC 5321
-- section 4.2.5).
use Rattle.std.specs.Prelude.{◌≡◌, ℕ, List, Option, Some, None}
use Rattle.smtp_receive.specs.Mails.{Deed, Replied, Granted, Received, Taken, Parted}
use Rattle.smtp_receive.specs.Replies.{stored_text}

-- the text that was replied to a line, if one was
abbrev pub text_told : Deed → Option (List ℕ)
text_told (Replied text) = Some text
text_told (Granted text) = Some text
text_told (Received mail) = None
text_told Taken = None
text_told (Parted text) = Some text

-- the final 250 to a message: it was stored, under some id
abbrev pub IsFinal : List ℕ → Type 0
IsFinal text = (id : ℕ) × (text ≡ stored_text id)
