-- The exit status of an answer. The rule is in `docs/commands.md`, "Answers and statuses"; status 5 is
-- returned by `crates/apk`, before this crate is called.
use Rattle.std.specs.Prelude.{ℕ}
use Rattle.apk_front.specs.declared.answer.Answer.{Answer}
use Rattle.apk_front.specs.declared.answer.Answer.TheVariants.{Ok, Refused, TreeFault, OutFault, Memory}

-- the exit status of an answer: 0 is done and 1 refused; from 2 on a fault has ended the run early
abbrev pub status_of : Answer → ℕ
status_of Ok = 0
status_of (Refused refusal) = 1
status_of TreeFault = 2
status_of OutFault = 3
status_of Memory = 4
