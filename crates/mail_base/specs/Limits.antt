-- The limits of mail (RFC 5321, section 4.5.3; RFC 5322, section 2.1.1; which numbers, where these
-- leave them open, is our own). Each number stands in `src/limits.rt`.
use Rattle.std.specs.Prelude.{ℕ, ◌≤◌, ◌==◌, min, if◌then◌else◌}
use Rattle.mail_base.specs.declared.limits.TheConstants.{MOST_MESSAGE, MOST_HEADERS, MOST_COMMAND, MOST_PATH, MOST_LOCAL_PART, MOST_DOMAIN, MOST_RECIPIENTS, MOST_ROWS, MOST_SESSIONS, MOST_REPLY_LINES, MOST_REPLY_LINE, MOST_PIECE, MOST_LINE}
use Rattle.mail_base.specs.declared.options.Options.{Options}

-- the bytes of a message, where no option says less
unfoldable pub most_message : ℕ
most_message = MOST_MESSAGE

-- the bytes of a header block
unfoldable pub most_headers : ℕ
most_headers = MOST_HEADERS

-- the bytes of a command line with its end
unfoldable pub most_command : ℕ
most_command = MOST_COMMAND

-- the bytes of a path with its angles
unfoldable pub most_path : ℕ
most_path = MOST_PATH

-- the bytes of what stands before the last @ of a path
unfoldable pub most_local_part : ℕ
most_local_part = MOST_LOCAL_PART

-- the bytes of what stands behind the last @ of a path
unfoldable pub most_domain : ℕ
most_domain = MOST_DOMAIN

-- the recipients of a message, where no option says how many
unfoldable pub most_recipients : ℕ
most_recipients = MOST_RECIPIENTS

-- the rows of a message and of an entry
unfoldable pub most_rows : ℕ
most_rows = MOST_ROWS

-- the sessions that are open at one time
unfoldable pub most_sessions : ℕ
most_sessions = MOST_SESSIONS

-- the lines of a peer's reply, and the bytes of each with its end
unfoldable pub most_reply_lines : ℕ
most_reply_lines = MOST_REPLY_LINES

unfoldable pub most_reply_line : ℕ
most_reply_line = MOST_REPLY_LINE

-- the bytes of a piece of input
unfoldable pub most_piece : ℕ
most_piece = MOST_PIECE

-- the bytes of a line of address test mode without its end
unfoldable pub most_line : ℕ
most_line = MOST_LINE

-- the bytes that a message may have under these options: MaxMessageSize counts where it is less,
-- and 0 says nothing
abbrev pub message_limit : Options → ℕ
message_limit options =
    if options.max_message_size == 0 then most_message
    else min options.max_message_size most_message

-- the recipients that a message may have under these options: MaxRecipientsPerMessage counts
-- unless it is 0
abbrev pub recipient_limit : Options → ℕ
recipient_limit options =
    if options.max_recipients_per_message == 0 then most_recipients
    else options.max_recipients_per_message

-- a number of an id
abbrev pub IsId : ℕ → Type 0
IsId id = id ≤ 999_999_999_999
