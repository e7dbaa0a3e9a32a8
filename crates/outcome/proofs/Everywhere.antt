-- An outcome of arguments alone is the same over all files.
use Rattle.std.proofs.Common.{◌≡◌, ℕ, true, false, List, Option, Some, None, Ok, Err, refl, sym, subst, ◌∙◌}
use Rattle.std.specs.Prelude.{if◌then◌else◌}
use Rattle.std.proofs.lemmas.Bool.{false≢true}
use Rattle.base_core.specs.Files.{Files}
use Rattle.base_core.specs.declared.cause.Cause.{Cause}
use Rattle.command_core.specs.Command.{CommandLine}
use Rattle.command_core.specs.declared.command.Applet.{Applet}
use Rattle.command_core.specs.declared.command.Applet.TheVariants.{Mkpkg, Version}
use Rattle.make_core.specs.make_info.Reads.{Reads}
use Rattle.report_core.specs.declared.refusal.Refusal.{Refusal}
use Rattle.tell_core.specs.path_clashes.Clash.{NamePair}
use Rattle.outcome.specs.Commands.{IsOutcomeOverRecoveredFiles, IsOutcomeUnlessBadIntent, effect_outcome, outcome_from_arguments_alone, reads_in}
use Rattle.outcome.specs.Effect.{Effect, Changes, Computes, Makes, OnlyReadsFiles, AsksRoot, does_neither_recover_nor_write, effect_of, ignores_files}
use Rattle.outcome.specs.Given.{AreNamesListedForApplet, Given, IsFirstClashForChangeElseNone, IsListingChoiceAndClashFor, IsPreferredChoiceForChangeElseNone}
use Rattle.outcome.specs.Outcome.{Outcome, just_report_unless_refusal, outcome_without_commit}
use Rattle.outcome.specs.Version.{invalid_version_lines, version_order_report, version_refusal}
use Rattle.outcome.specs.Work.{files_recovered_if_needed}
use Rattle.outcome.proofs.Looking.{no_fault, same_files}
use Rattle.outcome.proofs.Worded.{SameEverywhere}

-- an outcome as it is over other files
abbrev over : Files → Outcome → Outcome
over others o = outcome_without_commit o.refusal o.out others

unless_same : (files others : Files) (refusal : Option Refusal) (report : List ℕ) → over others (just_report_unless_refusal files refusal report) ≡ just_report_unless_refusal others refusal report
unless_same files others None report = refl
unless_same files others (Some refusal) report = refl

computed_same : (applet : Applet) (command : CommandLine) (files others : Files) → over others (outcome_from_arguments_alone applet command files) ≡ outcome_from_arguments_alone applet command others
computed_same Version command files others =
    elim command.flags.test as (λ b. over others (if b then just_report_unless_refusal files (version_refusal command.operands) (version_order_report command.operands) else outcome_without_commit (version_refusal command.operands) (invalid_version_lines command.operands) files) ≡ (if b then just_report_unless_refusal others (version_refusal command.operands) (version_order_report command.operands) else outcome_without_commit (version_refusal command.operands) (invalid_version_lines command.operands) others)) [
      | true ↦ unless_same files others (version_refusal command.operands) (version_order_report command.operands)
      | false ↦ refl
    ]
computed_same other command files others = refl

effect_same : (effect : Effect) (applet : Applet) (command : CommandLine) (given : Given) (files others : Files) → ignores_files effect ≡ true → over others (effect_outcome effect applet command given (reads_in files) files) ≡ effect_outcome effect applet command given (reads_in others) others
effect_same Computes applet command given files others ignores = computed_same applet command files others
effect_same OnlyReadsFiles applet command given files others ignores = absurd (false≢true ignores)
effect_same AsksRoot applet command given files others ignores = absurd (false≢true ignores)
effect_same Makes applet command given files others ignores = absurd (false≢true ignores)
effect_same Changes applet command given files others ignores = absurd (false≢true ignores)

-- ---- nothing is listed or chosen

names_same : (applet : Applet) (command : CommandLine) (files others : Files) (names : List (List ℕ)) → ignores_files (effect_of applet) ≡ true → AreNamesListedForApplet applet command files names → AreNamesListedForApplet applet command others names
names_same Mkpkg command files others names ignores are = absurd (false≢true ignores)
names_same other command files others names ignores are = are

choice_same : (effect : Effect) (command : CommandLine) (read other : Reads) (chosen : Option (List ℕ)) → ignores_files effect ≡ true → IsPreferredChoiceForChangeElseNone effect command read chosen → IsPreferredChoiceForChangeElseNone effect command other chosen
choice_same Changes command read other chosen ignores is = absurd (false≢true ignores)
choice_same effect command read other chosen ignores is = is

clash_same : (effect : Effect) (command : CommandLine) (files others : Files) (chosen : Option (List ℕ)) (clash : Option NamePair) → ignores_files effect ≡ true
    → IsFirstClashForChangeElseNone effect command (reads_in files) files chosen clash → IsFirstClashForChangeElseNone effect command (reads_in others) others chosen clash
clash_same Changes command files others chosen clash ignores is = absurd (false≢true ignores)
clash_same effect command files others chosen clash ignores is = is

-- ---- by the arguments

only_reads : (effect : Effect) → ignores_files effect ≡ true → does_neither_recover_nor_write effect ≡ true
only_reads Computes ignores = refl
only_reads OnlyReadsFiles ignores = refl
only_reads AsksRoot ignores = ignores
only_reads Makes ignores = ignores
only_reads Changes ignores = ignores

pub same_everywhere : SameEverywhere
same_everywhere (Err place) files others o ignores is = λ i. over others (is i)
same_everywhere (Ok command) files others o ignores is =
    let effect = effect_of command.applet in
    let reads : does_neither_recover_nor_write effect ≡ true = only_reads effect ignores in
    let recovered : IsOutcomeOverRecoveredFiles command (files_recovered_if_needed effect files) o = subst (λ (f : Option Cause). IsOutcomeUnlessBadIntent f command files o) (no_fault effect files reads) is in
    let here : IsOutcomeOverRecoveredFiles command files o = subst (λ (work : Files). IsOutcomeOverRecoveredFiles command work o) (same_files effect files reads) recovered in
    let given = here.0 in
    let are : IsListingChoiceAndClashFor command (reads_in others) others given = record {
      names = names_same command.applet command files others given.names ignores here.1.names;
      chosen = choice_same effect command (reads_in files) (reads_in others) given.chosen ignores here.1.chosen;
      clash = clash_same effect command files others given.chosen given.clash ignores here.1.clash;
    } in
    let there : IsOutcomeOverRecoveredFiles command others (over others o) = (given, are, (λ i. over others (here.2 i)) ∙ effect_same effect command.applet command given files others ignores) in
    subst (λ (f : Option Cause). IsOutcomeUnlessBadIntent f command others (over others o)) (sym (no_fault effect others reads))
    (subst (λ (work : Files). IsOutcomeOverRecoveredFiles command work (over others o)) (sym (same_files effect others reads)) there)
