use Rattle.qf_format.proofs.RoomLemmas.{text_fits_room}
use Rattle.qf_format.proofs.lengths.room.Goals as goal

pub returns-clause-most : goal.returns-clause-most
returns-clause-most c = λ other same valid. text_fits_room c.args.control.now other same valid
