use Rattle.base_core.proofs.Counting.{goes_on_twice, goes_on_same, cause_sooner, cause_later, no_fault_twice, no_fault_same}
use Rattle.base_core.proofs.laws.counts_of_consecutive_calls_compose.Goals as goal

pub returns-clause-goes_on : goal.returns-clause-goes_on
returns-clause-goes_on c = goes_on_twice

pub returns-clause-cause_before : goal.returns-clause-cause_before
returns-clause-cause_before c = cause_sooner

pub returns-clause-cause_after : goal.returns-clause-cause_after
returns-clause-cause_after c = cause_later

pub returns-clause-no_fault : goal.returns-clause-no_fault
returns-clause-no_fault c = no_fault_twice

pub returns-clause-stays : goal.returns-clause-stays
returns-clause-stays c = λ a. (goes_on_same a, no_fault_same a)
