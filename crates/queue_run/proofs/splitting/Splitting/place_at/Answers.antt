-- The place of a batch that has room, or none.
use Rattle.queue_run.proofs.SplitLemmas.{no_place, open_within, room_place}
use Rattle.queue_run.proofs.splitting.Splitting.place_at.Goals as goal

pub has_room-requires : goal.has_room-requires
has_room-requires c = open_within c.args.config.now c.args.way.now c.args.self.now.batches.items c.args.place c.requires.open_at

pub returns-then-has_room : goal.returns-then-has_room
returns-then-has_room c = room_place c.args.config.now c.args.way.now c.args.self.now.batches.items c.args.place c.requires.open_at _ _ (c.has_room.ensures c.requires.open_at.batch) c.most_at-most.ensures c.if-has_room.true

pub returns : goal.returns
returns c = no_place c.args.config.now c.args.way.now c.args.self.now.batches.items c.args.place c.requires.open_at _ _ (c.has_room.ensures c.requires.open_at.batch) c.most_at-most.ensures c.if-has_room.false
