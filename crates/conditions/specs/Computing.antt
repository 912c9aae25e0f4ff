-- For examples that are computed, as the rulings are: the definitions by which a program builds and a row is tested.
use Rattle.nodes.specs.Standard.{counted, terminals, child_fits, shaped, first, is_standard}
use Rattle.nodes.specs.Clear.{zeroed, clear_of}
use Rattle.meets.specs.Meet.{judge_of, meets_by, meets_up_to, meets, neither, together}
use Rattle.operations.specs.Computing.{computing as operations}
use Rattle.operations.specs.User.{is_user}

-- to unfold this is to unfold them all
unfoldable pub computing : Unit {0}
unfolding operations counted terminals child_fits shaped first is_standard zeroed clear_of is_user judge_of meets_by meets_up_to meets neither together
computing = tt
