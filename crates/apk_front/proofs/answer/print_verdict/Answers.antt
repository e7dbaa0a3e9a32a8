use Rattle.std.proofs.Common.{refl}
use Rattle.base_core.proofs.Counting.{goes_on_same, no_fault_same}
use Rattle.apk_front.proofs.Printing.{printed_front, printed_whole}
use Rattle.apk_front.proofs.answer.print_verdict.Goals as goal

pub returns-in-Ok-clause-printed : goal.returns-in-Ok-clause-printed
returns-in-Ok-clause-printed g c = λ files. printed_whole _ _ _ files _ _ _ _ c.as_bytes.ensures c.in-Ok.ensures.written c.print_refusal.ensures.printed

pub returns-in-Err-clause-printed : goal.returns-in-Err-clause-printed
returns-in-Err-clause-printed g c = λ files. printed_front _ _ _ files _ _ _ c.as_bytes.ensures c.in-Err.ensures.written c.in-Err.ensures.some refl (no_fault_same _)

pub returns-in-Err-clause-err_counts : goal.returns-in-Err-clause-err_counts
returns-in-Err-clause-err_counts g c = record { goes_on = goes_on_same _; proper = refl }
