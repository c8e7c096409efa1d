use Rattle.std.proofs.Common.{◌≡◌, take}
use Rattle.std.specs.Prelude.{fold}
use Rattle.cf_reader.specs.MailerLines.{first_mailer, with_field}
use Rattle.cf_reader.proofs.mailer_line.mailer_of.Given as goal

abbrev pub invariant-loop-field : goal.invariant-loop-field
invariant-loop-field l = l.mailer ≡ fold with_field (first_mailer l.name) (take l.field-index l.fields)
