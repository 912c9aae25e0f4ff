use Rattle.format.proofs.SectionLaws.{room_is}
use Rattle.reading.proofs.sections.has_room.Goals as goal

pub returns : goal.returns
returns c = room_is c.args.words.now c.args.k c.capacity.ensures
