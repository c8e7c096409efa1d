-- The command that a received message becomes, by the terms of a run (own).
use Rattle.std.specs.Prelude.{ℕ, []}
use Rattle.mail_base.specs.declared.message.Message.{Message}
use Rattle.spool_store.specs.Entries.{Table}
use Rattle.queue_table.specs.Commands.{Command}
use Rattle.mail_made.specs.Messages.{Made, accept_under}
use Rattle.mail_core.specs.Sites.{Site, terms_at}

-- the command that takes a message in
abbrev pub accept_of : Site → ℕ → Message → Made → Command
accept_of site moment message made = accept_under (terms_at site) moment message made

-- the table of a queue that was never used: the first id is 1
abbrev pub start : Table
start = record { entries = []; next = 1 }
