-- What the conditions promise to the crates above, which cite these laws and no others. The terms are those of `Stores` and `Meaning`:
-- `From u w n`: node n is on a variable from u up;
-- `Stands u m w s n`: node n is below the count, on a variable from u up, and stands for m unless the store is full;
-- `Builds w s P x`: the step from w and s to x leaves standard form, extends the store, leaves a full store as it is, and P holds of its answer;
-- `Fills m`: the program m leaves a store within its capacity, and makes it full there alone; in longer words it does the same up to there.

-- the store grows: older nodes stay
pub use Rattle.nodes.proofs.ExtendsLaws.{extends_refl, extends_trans, agree_var}
-- the variables that a node is on
pub use Rattle.operations.proofs.BuildLaws.{from_less, from-stays, from_0, from_1}
-- standard form as a test and as facts, each the other; the two terminals alone; clearing
pub use Rattle.nodes.proofs.StandardLaws.{standard_is, is-standard}
pub use Rattle.nodes.proofs.GrowthLaws.{terminals-standard, clear-standard}
pub use Rattle.nodes.proofs.ClearLaws.{clear-length, clear-below, clear_zero, clear-past, clear-extends}
-- programs: an answer, a step after a step, what is kept on the way
pub use Rattle.operations.proofs.BuildLaws.{pure-builds, next-builds, builds_weaker, builds-same, builds_clear, was_free, keep, clear-keep, next_is, each-builds, each_end, each_step}
-- meanings
pub use Rattle.operations.proofs.BuildLaws.{stands-value, stands_same, stands_from, stands_0, stands_1}
pub use Rattle.operations.proofs.IteLaws.{ite-builds, not-builds, and-builds, or-builds}
pub use Rattle.operations.proofs.MakeLaws.{variable-builds}
pub use Rattle.operations.proofs.AnyLaws.{any-builds, some_same}
pub use Rattle.diagrams.proofs.AssignmentLaws.{change-same, change_other, some_has, some_all}
-- each assignment to the 64 variables is a 64-bit number
pub use Rattle.diagrams.proofs.AssignmentLaws.{bit-number, number_fits}
pub use Rattle.diagrams.proofs.ValueLaws.{value_0, value_1}
-- a store becomes full at its capacity alone
pub use Rattle.operations.proofs.FullLaws.{standard-within, pure-fills, next-fills, each-fills, variable-fills, ite-fills, any-fills}
pub use Rattle.operations.proofs.LongerLaws.{value-longer}
-- an operation done again, in the store that it left or one grown out of that: nothing is built, and the node is the same
pub use Rattle.operations.proofs.AgainLaws.{Later, ite-again}
-- row 5
pub use Rattle.operations.proofs.UserLaws.{user_is, is_user_lem, user_stands, stands_user, stands_turns}
-- steps one after another in a store that is built in: `Later` and `Did` of `Builder`
pub use Rattle.conditions.proofs.BuilderLaws.{later_refl, later_trans, later_node, did_pure, did_next}
-- the table to begin with
pub use Rattle.conditions.proofs.ContractLaws.{zeros-sound}
-- rows 6 and 7
pub use Rattle.meets.proofs.MeetLaws.{neither_decides, together_decides}
-- a witness: the node holds there, or is node 0
pub use Rattle.diagrams.proofs.WitnessLaws.{witness-holds}
-- canonicity: the text of a condition, what follows it, and one node for one meaning
pub use Rattle.show.proofs.ShowLaws.{text-first}
pub use Rattle.show.proofs.TextClaims.{same_text, text_same, text-exactly, node-same-text, one-node}
