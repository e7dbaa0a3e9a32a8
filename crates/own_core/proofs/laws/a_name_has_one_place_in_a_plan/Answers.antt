use Rattle.std.proofs.lemmas.Bool.{false_from_ne_true}
use Rattle.own_core.specs.FilesAfter.{is_removed}
use Rattle.own_core.proofs.PlanNames.{removed_or_kept, written_or_removed}
use Rattle.own_core.proofs.Untouched.{kept_is}
use Rattle.own_core.proofs.laws.a_name_has_one_place_in_a_plan.Goals as goal

pub returns-clause-removed : goal.returns-clause-removed
returns-clause-removed c = λ change files name written.
    false_from_ne_true (is_removed change files name) (λ removed. written_or_removed change files name written removed)

pub returns-clause-kept : goal.returns-clause-kept
returns-clause-kept c = λ change files name kept. (
  ((kept_is change files name kept).0).unwritten,
  false_from_ne_true (is_removed change files name) (λ removed. removed_or_kept change files name removed kept),
)
