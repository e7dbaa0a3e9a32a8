-- Which commands recover, and what they leave then.
use Rattle.std.proofs.Common.{◌≡◌, ◌∙◌, ℕ, true, false, List, Option, Some, None, Result, Ok, refl, sym, ap, subst, true≢false}
use Rattle.std.specs.Prelude.{IsTrue}
use Rattle.base_core.specs.Files.{Files}
use Rattle.base_core.specs.declared.cause.Cause.{Cause}
use Rattle.command_core.specs.Command.{CommandLine}
use Rattle.command_core.specs.declared.command.Applet.{Applet}
use Rattle.command_core.specs.declared.command.Applet.TheVariants.{Adbdump, Adbgen, Add, Audit, Del, Demo, Fix, Help, Info, List as ListApplet, Manifest, Mkndx, Mkpkg, Policy, ProgramVersion, Search, Upgrade, Verify, Version}
use Rattle.engine_core.specs.journal_core.Recovery.{intent_name}
use Rattle.engine_core.specs.journal_core.Staged.{unstaged_files}
use Rattle.report_core.specs.declared.refusal.Refusal.TheVariants.{IntentBad}
use Rattle.words_core.specs.Grammar.{command_of}
use Rattle.outcome.proofs.Idle.{HaveIdle, HaveRoot, over_idle}
use Rattle.outcome.proofs.Worded.{of_by}
use Rattle.outcome.specs.Commands.{IsOutcomeWithoutDemo, IsOutcomeOverRecoveredFiles, IsOutcomeUnlessBadIntent}
use Rattle.outcome.specs.Effect.{Effect, Changes, Computes, Makes, OnlyReadsFiles, AsksRoot, does_neither_recover_nor_write, does_recover, effect_of, do_arguments_neither_recover_nor_write}
use Rattle.outcome.specs.Outcome.{Outcome, just_refusal}
use Rattle.outcome.specs.Recovers.{must_recover}
use Rattle.outcome.specs.Words.{IsOutcome}
use Rattle.outcome.specs.Work.{fault_of_intent, recovery_fault, files_recovered_if_needed}

pub recovers : (applet : Applet) → does_recover (effect_of applet) ≡ must_recover applet
recovers Verify = refl
recovers Version = refl
recovers Adbdump = refl
recovers Mkpkg = refl
recovers Mkndx = refl
recovers Info = refl
recovers Demo = refl
recovers Add = refl
recovers Del = refl
recovers Upgrade = refl
recovers Fix = refl
recovers Adbgen = refl
recovers Audit = refl
recovers Manifest = refl
recovers ListApplet = refl
recovers Search = refl
recovers Policy = refl
recovers Help = refl
recovers ProgramVersion = refl

-- and the others only read
pub others_read : (applet : Applet) → must_recover applet ≡ false → IsTrue (does_neither_recover_nor_write (effect_of applet))
others_read Verify h = refl
others_read Version h = refl
others_read Adbdump h = refl
others_read Demo h = refl
others_read Mkpkg h = absurd (true≢false h)
others_read Mkndx h = absurd (true≢false h)
others_read Info h = absurd (true≢false h)
others_read Add h = absurd (true≢false h)
others_read Del h = absurd (true≢false h)
others_read Upgrade h = absurd (true≢false h)
others_read Fix h = absurd (true≢false h)
others_read Adbgen h = refl
others_read Help h = refl
others_read ProgramVersion h = refl
others_read Audit h = absurd (true≢false h)
others_read Manifest h = absurd (true≢false h)
others_read ListApplet h = absurd (true≢false h)
others_read Search h = absurd (true≢false h)
others_read Policy h = absurd (true≢false h)

-- ---- of a command that recovers

fault_is : (effect : Effect) (files : Files) → does_recover effect ≡ true → recovery_fault effect files ≡ fault_of_intent (files intent_name)
fault_is Computes files h = absurd (true≢false (sym h))
fault_is OnlyReadsFiles files h = absurd (true≢false (sym h))
fault_is AsksRoot files h = refl
fault_is Makes files h = refl
fault_is Changes files h = refl

pub work_is : (effect : Effect) (files : Files) → does_recover effect ≡ true → files_recovered_if_needed effect files ≡ unstaged_files files
work_is Computes files h = absurd (true≢false (sym h))
work_is OnlyReadsFiles files h = absurd (true≢false (sym h))
work_is AsksRoot files h = refl
work_is Makes files h = refl
work_is Changes files h = refl

looks_beyond : (effect : Effect) → does_recover effect ≡ true → effect ≡ Computes → ⊥
looks_beyond effect h computes = true≢false (sym h ∙ ap does_recover computes)

-- its words are no `demo`'s
of_recovering : (words : List (List ℕ)) (command : CommandLine) (files : Files) (o : Outcome) → command_of words ≡ Ok command → must_recover command.applet ≡ true → IsOutcome (command_of words) files o → IsOutcomeWithoutDemo (Ok command) files o
of_recovering words command files o reads must is =
    of_by (Ok command) files o (looks_beyond (effect_of command.applet) (recovers command.applet ∙ must)) (subst (λ (r : Result CommandLine ℕ). IsOutcome r files o) reads is)

unless_refused_at : (fault : Option Cause) (words : List (List ℕ)) (command : CommandLine) (files : Files) (o : Outcome) → command_of words ≡ Ok command → must_recover command.applet ≡ true → fault_of_intent (files intent_name) ≡ fault
    → IsOutcome (command_of words) files o → IsOutcomeUnlessBadIntent fault command files o
unless_refused_at fault words command files o reads must at is =
    subst (λ (f : Option Cause). IsOutcomeUnlessBadIntent f command files o) (fault_is (effect_of command.applet) files (recovers command.applet ∙ must) ∙ at) (of_recovering words command files o reads must is)

pub refuses_bad : (words : List (List ℕ)) (command : CommandLine) (files : Files) (o : Outcome) (cause : Cause) → command_of words ≡ Ok command → must_recover command.applet ≡ true → fault_of_intent (files intent_name) ≡ Some cause
    → IsOutcome (command_of words) files o → o ≡ just_refusal files (IntentBad cause)
refuses_bad words command files o cause reads must at is = unless_refused_at (Some cause) words command files o reads must at is

pub works_on_recovered : (words : List (List ℕ)) (command : CommandLine) (files : Files) (o : Outcome) → command_of words ≡ Ok command → must_recover command.applet ≡ true → fault_of_intent (files intent_name) ≡ None
    → IsOutcome (command_of words) files o → IsOutcomeOverRecoveredFiles command (unstaged_files files) o
works_on_recovered words command files o reads must at is =
    subst (λ (work : Files). IsOutcomeOverRecoveredFiles command work o) (work_is (effect_of command.applet) files (recovers command.applet ∙ must)) (unless_refused_at None words command files o reads must at is)

pub leaves_recovered : HaveRoot → HaveIdle → (words : List (List ℕ)) (command : CommandLine) (files : Files) (o : Outcome) → command_of words ≡ Ok command → must_recover command.applet ≡ true → fault_of_intent (files intent_name) ≡ None
    → IsOutcome (command_of words) files o → o.commits ≡ false → o.files ≡ unstaged_files files
leaves_recovered rooted idle words command files o reads must at is nothing =
    over_idle rooted idle command (unstaged_files files) o (works_on_recovered words command files o reads must at is) nothing

-- ---- of each other command

pub reads_alone : (words : List (List ℕ)) (command : CommandLine) → command_of words ≡ Ok command → must_recover command.applet ≡ false → IsTrue (do_arguments_neither_recover_nor_write (command_of words))
reads_alone words command reads must = subst (λ (r : Result CommandLine ℕ). IsTrue (do_arguments_neither_recover_nor_write r)) (sym reads) (others_read command.applet must)
