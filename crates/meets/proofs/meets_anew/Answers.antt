use Rattle.meets.proofs.MeetLaws.{notes-none}
use Rattle.meets.proofs.meets_anew.Goals as goal

pub meets_in-requires : goal.meets_in-requires
meets_in-requires c = (c.requires, rw c.key-none.ensures.0 (notes-none _ _))
