-- Behind the last byte nothing more is due.
use Rattle.std.proofs.Common.{◌∙◌, sym, subst}
use Rattle.file_guard.specs.Watching.{IsWatchOfTest}
use Rattle.file_guard.specs.declared.watch.Watch.{Watch}
use Rattle.file_guard.proofs.Due.{first_due, never_met, second_due}
use Rattle.file_guard.proofs.watch.Watch.has_listed_bytes.Goals as goal

pub returns-in-Never : goal.returns-in-Never
returns-in-Never c = λ test bytes watches.
    never_met test bytes (subst (λ (watch : Watch). IsWatchOfTest watch test bytes) c.in-Never.is watches)

pub returns-then-is_empty : goal.returns-then-is_empty
returns-then-is_empty c = λ test bytes watches.
    c.is_empty-then-is_empty.ensures
    ∙ second_due test bytes c.in-Exactly.first.now c.in-Exactly.second.now
    (subst (λ (watch : Watch). IsWatchOfTest watch test bytes) c.in-Exactly.is watches)
    (sym c.is_empty.ensures ∙ c.if-is_empty.true)

pub returns-else-is_empty : goal.returns-else-is_empty
returns-else-is_empty c = λ test bytes watches.
    c.if-is_empty.false
    ∙ first_due test bytes c.in-Exactly.first.now c.in-Exactly.second.now
    (subst (λ (watch : Watch). IsWatchOfTest watch test bytes) c.in-Exactly.is watches)
    (sym c.is_empty.ensures ∙ c.if-is_empty.false)
