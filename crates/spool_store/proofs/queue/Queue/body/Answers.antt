-- What is read is the file of the entry at the id's place.
use Rattle.std.proofs.Common.{◌∙◌, ap, sym}
use Rattle.spool_store.specs.Keepers.{or_nothing, seen}
use Rattle.spool_store.specs.Settled.{StandsFor}
use Rattle.spool_store.proofs.Bodies.{body_read, body_bytes}
use Rattle.spool_store.proofs.MovesLemmas.{moves_read}
use Rattle.spool_store.proofs.queue.Queue.body.Goals as goal

pub returns-in-Ok-Some-clause-read : goal.returns-in-Ok-Some-clause-read
returns-in-Ok-Some-clause-read g c = body_read (g.D.Spool.seen c.args.spool.now).told c.args.self.now.shelf.items c.items.result.now c.args.id.now c.place-place.result c.index-items-place.result c.in_ok-name.name c.in-Ok-Some.text c.in-Ok-Some.field-0
    c.items.ensures.items c.items.ensures.ascending c.place-place.ensures.at (c.in_ok-name.ensures ∙ c.bytes.ensures ∙ c.name.ensures) (sym (ap or_nothing c.in-Ok-Some.field-0-is)) c.in-Ok-Some.ensures.bytes

pub returns-in-Ok-Some-clause-bytes : goal.returns-in-Ok-Some-clause-bytes
returns-in-Ok-Some-clause-bytes g c = body_bytes (g.D.Spool.seen c.args.spool.now).told (seen c.args.self.now) c.args.id.now c.in-Ok-Some.text c.requires.entry
    (body_read (g.D.Spool.seen c.args.spool.now).told c.args.self.now.shelf.items c.items.result.now c.args.id.now c.place-place.result c.index-items-place.result c.in_ok-name.name c.in-Ok-Some.text c.in-Ok-Some.field-0
    c.items.ensures.items c.items.ensures.ascending c.place-place.ensures.at (c.in_ok-name.ensures ∙ c.bytes.ensures ∙ c.name.ensures) (sym (ap or_nothing c.in-Ok-Some.field-0-is)) c.in-Ok-Some.ensures.bytes)

pub returns-in-Ok-None-clause-read : goal.returns-in-Ok-None-clause-read
returns-in-Ok-None-clause-read g c = body_read (g.D.Spool.seen c.args.spool.now).told c.args.self.now.shelf.items c.items.result.now c.args.id.now c.place-place.result c.index-items-place.result c.in_ok-name.name c.new.result c.in-Ok-None.field-0
    c.items.ensures.items c.items.ensures.ascending c.place-place.ensures.at (c.in_ok-name.ensures ∙ c.bytes.ensures ∙ c.name.ensures) (c.new.ensures ∙ sym (ap or_nothing c.in-Ok-None.field-0-is)) c.in-Ok-None.ensures.bytes

pub returns-in-Ok-None-clause-bytes : goal.returns-in-Ok-None-clause-bytes
returns-in-Ok-None-clause-bytes g c = body_bytes (g.D.Spool.seen c.args.spool.now).told (seen c.args.self.now) c.args.id.now c.new.result c.requires.entry
    (body_read (g.D.Spool.seen c.args.spool.now).told c.args.self.now.shelf.items c.items.result.now c.args.id.now c.place-place.result c.index-items-place.result c.in_ok-name.name c.new.result c.in-Ok-None.field-0
    c.items.ensures.items c.items.ensures.ascending c.place-place.ensures.at (c.in_ok-name.ensures ∙ c.bytes.ensures ∙ c.name.ensures) (c.new.ensures ∙ sym (ap or_nothing c.in-Ok-None.field-0-is)) c.in-Ok-None.ensures.bytes)

pub returns-in-Ok-Some-clause-stands : goal.returns-in-Ok-Some-clause-stands
returns-in-Ok-Some-clause-stands g c = λ table. moves_read (g.D.Spool.seen c.args.spool.now) (g.D.Spool.seen c.read.new.self) (StandsFor c.args.self.now.shelf.dirs table) c.read.ensures.call

pub returns-in-Ok-None-clause-stands : goal.returns-in-Ok-None-clause-stands
returns-in-Ok-None-clause-stands g c = λ table. moves_read (g.D.Spool.seen c.args.spool.now) (g.D.Spool.seen c.read.new.self) (StandsFor c.args.self.now.shelf.dirs table) c.read.ensures.call

pub returns-clause-stands : goal.returns-clause-stands
returns-clause-stands g c = λ table. moves_read (g.D.Spool.seen c.args.spool.now) (g.D.Spool.seen c.read.new.self) (StandsFor c.args.self.now.shelf.dirs table) c.read.ensures.call
