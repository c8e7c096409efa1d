use Rattle.smtp_lines.proofs.reading.line_of.Goals as goal

pub returns-in-Commands : goal.returns-in-Commands
returns-in-Commands c = rw c.in-Commands.is c.command_of.ensures

pub returns-in-Message : goal.returns-in-Message
returns-in-Message c = rw c.in-Message.is c.message_line_of.ensures
