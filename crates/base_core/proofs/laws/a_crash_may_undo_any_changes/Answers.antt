use Rattle.std.proofs.Common.{inl, inr, refl}
use Rattle.base_core.proofs.Undone.{files_may_be_left, read_files_left}
use Rattle.base_core.proofs.laws.a_crash_may_undo_any_changes.Goals as goal

pub returns-clause-read : goal.returns-clause-read
returns-clause-read c = read_files_left

pub returns-clause-by_map : goal.returns-clause-by_map
returns-clause-by_map c = files_may_be_left

pub returns-clause-undone : goal.returns-clause-undone
returns-clause-undone c = λ v names map left. inr left

pub returns-clause-kept : goal.returns-clause-kept
returns-clause-kept c = λ v names map left. inl (map, left, refl)
