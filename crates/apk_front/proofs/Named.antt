-- Out of memory after words that name a command.
use Rattle.std.proofs.Common.{◌≡◌, ℕ, List, Result, Ok, Err, IsErrOf, IsTrue, refl, ap, subst}
use Rattle.std.proofs.lemmas.Bool.{or_right, or_left}
use Rattle.base_core.specs.Files.{no_names}
use Rattle.base_core.specs.Sink.{SinkBeforeAndAfter}
use Rattle.base_core.specs.declared.tree.TreeFault.{TreeFault}
use Rattle.base_core.specs.declared.tree.TreeFault.TheVariants.{Disk, Memory as NoMemory}
use Rattle.command_core.specs.Command.{CommandLine}
use Rattle.words_core.specs.Faults.{HasStartIfOutOfMemory}
use Rattle.words_core.specs.Grammar.{command_of, start_of_command_line}
use Rattle.words_core.specs.declared.read.WordsFault.{WordsFault}
use Rattle.words_core.specs.declared.read.WordsFault.TheVariants.{Memory as WantsMemory}
use Rattle.std.specs.Prelude.{is_ok}
use Rattle.apk_front.specs.Answers.{is_applet_help_or_version_named}
use Rattle.apk_front.specs.Verdicts.{IsVerdictPrinted}
use Rattle.apk_front.specs.declared.answer.Answer.{Answer}
use Rattle.apk_front.specs.declared.answer.Answer.TheVariants.{Ok as Done, Refused, TreeFault as TreeFailed, OutFault, Memory}
use Rattle.apk_front.specs.declared.answer.Verdict.{Verdict}

-- a command names one
pub command_named : (words : List (List ℕ)) (command : CommandLine) → command_of words ≡ Ok command → IsTrue (is_applet_help_or_version_named words)
command_named words command h = or_right (is_ok (start_of_command_line words)) (is_ok (command_of words)) (ap is_ok h)

-- and so do words whose applet was found
start_named : (words : List (List ℕ)) → IsTrue (is_ok (start_of_command_line words)) → IsTrue (is_applet_help_or_version_named words)
start_named words found = or_left (is_ok (start_of_command_line words)) (is_ok (command_of words)) found

pub memory_named_so : (words : List (List ℕ)) (fault : WordsFault) → fault ≡ WantsMemory → HasStartIfOutOfMemory fault (start_of_command_line words) → IsTrue (is_applet_help_or_version_named words)
memory_named_so words fault is behind = start_named words (subst (λ (f : WordsFault). HasStartIfOutOfMemory f (start_of_command_line words)) is behind)

-- want of memory is answered where the judge found none
pub memory_named : (judged : Result Verdict TreeFault) (answer : Answer) (out err : SinkBeforeAndAfter) (P : Type 0) → IsVerdictPrinted judged answer out err → (IsErrOf judged NoMemory → P) → answer ≡ Memory → P
memory_named (Ok verdict) Memory out err P is_shown memory h = absurd (is_shown no_names)
memory_named (Ok verdict) Done out err P is_shown memory h = cc
memory_named (Ok verdict) (Refused r) out err P is_shown memory h = cc
memory_named (Ok verdict) TreeFailed out err P is_shown memory h = cc
memory_named (Ok verdict) OutFault out err P is_shown memory h = cc
memory_named (Err NoMemory) answer out err P is_shown memory h = memory refl
memory_named (Err Disk) answer out err P is_shown memory h = let failed : answer ≡ TreeFailed = is_shown.0 in cc
