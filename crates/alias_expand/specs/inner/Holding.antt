-- Triples and files that were read, as they are held.
use Rattle.std.specs.Prelude.{ℕ, List}
use Rattle.mail_base.specs.declared.route.Triple.{Triple}
use Rattle.alias_expand.specs.declared.triples.Key.{Key}
use Rattle.alias_expand.specs.declared.file_reads.FileKey.{FileKey}

-- what a key stands for
abbrev pub triple_of : Key → Triple
triple_of key = record { mailer = key.mailer; host = key.host; user = key.user }

abbrev pub read_of : FileKey → Triple × List ℕ
read_of key = (triple_of key.namer, key.name)
