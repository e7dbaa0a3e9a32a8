-- Only a bad intent is refused as one.
use Rattle.std.proofs.Common.{◌≡◌, ◌⊎◌, inl, inr, ◌∙◌, ℕ, Bool, true, false, List, Option, Some, None, Result, Ok, Err, refl, sym, ap, subst}
use Rattle.std.specs.Prelude.{if◌then◌else◌}
use Rattle.std.proofs.lemmas.Bool.{false≢true}
use Rattle.gen_core.specs.adb_schema.Reserved.{is_reserved}
use Rattle.base_core.specs.Files.{Files}
use Rattle.base_core.specs.declared.cause.Cause.{Cause}
use Rattle.engine_core.specs.change_outcome.ChangeOutcome.{ChangeDone}
use Rattle.command_core.specs.Command.{CommandLine}
use Rattle.command_core.specs.declared.command.Applet.{Applet}
use Rattle.command_core.specs.declared.command.Applet.TheVariants.{Demo, Mkndx, Mkpkg}
use Rattle.engine_core.specs.Changed.{InputsAndReplacement, change_of_selected}
use Rattle.tell_core.specs.declared.info.reporting.ReportAndRefusal.{ReportAndRefusal}
use Rattle.make_core.specs.make_info.Output.{output_name}
use Rattle.make_core.specs.make_info.Reads.{Reads}
use Rattle.make_core.specs.make_info.declared.fault.MakeFault.{MakeFault}
use Rattle.make_core.specs.make_info.declared.fault.MakeFault.TheVariants.{FileMissing as NoFile, FileBad as BadFile, InfoBad as BadInfo, TooLarge, Disk, Memory}
use Rattle.report_core.specs.declared.refusal.Refusal.{Refusal}
use Rattle.report_core.specs.declared.refusal.Refusal.TheVariants.{IntentBad, Reserved, Unsatisfied}
use Rattle.tell_core.specs.ReportForCommand.{report_for_command}
use Rattle.words_core.specs.Grammar.{command_of}
use Rattle.outcome.specs.ChangeEnd.{IsChangeEnd, IsEndOfSelectedChange, is_input_refusal, is_refusal_after_choice}
use Rattle.outcome.specs.Commands.{IsOutcomeWithoutDemo, IsOutcomeOverRecoveredFiles, IsOutcomeUnlessBadIntent, effect_outcome, reads_in}
use Rattle.outcome.specs.Effect.{Effect, Computes, OnlyReadsFiles, AsksRoot, Makes, Changes, does_recover, effect_of_arguments, effect_of}
use Rattle.outcome.specs.Given.{Given}
use Rattle.outcome.specs.Make.{make_outcome, outcome_unless_output_reserved}
use Rattle.outcome.specs.Outcome.{Outcome, just_refusal}
use Rattle.outcome.specs.OutcomeOfReport.{outcome_of_report}
use Rattle.outcome.specs.Words.{IsOutcome, IsOutcomeOfAppletIncludingRecovery}
use Rattle.outcome.specs.Work.{recovery_fault, files_recovered_if_needed}
use Rattle.outcome.proofs.Applets.{report_is}

-- it tells something else than a bad intent
abbrev IsOther : Refusal → Type 0
IsOther refusal = (cause : Cause) → refusal ≡ IntentBad cause → ⊥

abbrev NamesNoIntent : Outcome → Type 0
NamesNoIntent o = (cause : Cause) → o.refusal ≡ Some (IntentBad cause) → ⊥

pub some_same : (a b : Refusal) → Some a ≡ Some b → a ≡ b
some_same a b is = cc

refused_other : (files : Files) (refusal : Refusal) → IsOther refusal → NamesNoIntent (just_refusal files refusal)
refused_other files refusal other cause is = other cause (some_same refusal (IntentBad cause) is)

-- ---- a change

input_other : (refusal : Refusal) → is_input_refusal refusal ≡ true → IsOther refusal
input_other refusal stated cause is = false≢true (sym (ap is_input_refusal is) ∙ stated)

package_other : (refusal : Refusal) → is_refusal_after_choice refusal ≡ true → IsOther refusal
package_other refusal stated cause is = false≢true (sym (ap is_refusal_after_choice is) ∙ stated)

end_other : (command : CommandLine) (files : Files) (s : InputsAndReplacement) (o : Outcome) (result : Result ChangeDone Refusal) → IsEndOfSelectedChange command files s result o → NamesNoIntent o
end_other command files s o (Ok done) reported = subst NamesNoIntent (sym reported.outcome) (λ cause is. cc (is))
end_other command files s o (Err refusal) (stated, is) = subst NamesNoIntent (sym is) (refused_other files refusal (package_other refusal stated))

change_other : (command : CommandLine) (files : Files) (o : Outcome) → IsChangeEnd command files o → NamesNoIntent o
change_other command files o (inl r) = subst NamesNoIntent (sym r.outcome) (refused_other files r.refusal (input_other r.refusal r.stated))
change_other command files o (inr (inl none)) = subst NamesNoIntent (sym none.outcome) (refused_other files Unsatisfied (λ cause is. cc (is)))
change_other command files o (inr (inr takes)) = end_other command files takes.selected o (change_of_selected command (reads_in files) files takes.clash takes.selected) takes.end

-- ---- what is made

reserved_by : (files : Files) (name : List ℕ) (otherwise : Outcome) (b : Bool) → NamesNoIntent otherwise → NamesNoIntent (if b then just_refusal files (Reserved name) else otherwise)
reserved_by files name otherwise true other = refused_other files (Reserved name) (λ cause is. cc (is))
reserved_by files name otherwise false other = other

reserved_other : (files : Files) (output : Option (List ℕ)) (otherwise : Outcome) → NamesNoIntent otherwise → NamesNoIntent (outcome_unless_output_reserved files output otherwise)
reserved_other files None otherwise other = other
reserved_other files (Some name) otherwise other = reserved_by files name otherwise (is_reserved name) other

made_other : (output : Option (List ℕ)) (report : List ℕ) (files : Files) (made : Result (List ℕ) MakeFault) → NamesNoIntent (make_outcome files output report made)
made_other output report files (Ok bytes) = reserved_other files output _ (λ cause is. cc (is))
made_other output report files (Err (NoFile place)) = refused_other files _ (λ cause is. cc (is))
made_other output report files (Err (BadFile place fault)) = refused_other files _ (λ cause is. cc (is))
made_other output report files (Err (BadInfo place)) = refused_other files _ (λ cause is. cc (is))
made_other output report files (Err (TooLarge bytes values)) = reserved_other files output _ (refused_other files _ (λ cause is. cc (is)))
made_other output report files (Err Disk) = λ cause is. cc (is)
made_other output report files (Err Memory) = λ cause is. cc (is)

maker_other : (applet : Applet) (command : CommandLine) (given : Given) (read : Reads) (files : Files) → effect_of applet ≡ Makes → NamesNoIntent (effect_outcome (effect_of applet) applet command given read files)
maker_other Mkpkg command given read files makes = made_other (output_name command) _ files _
maker_other Mkndx command given read files makes = made_other (output_name command) _ files _
maker_other other command given read files makes = absurd (cc (makes))

-- ---- a report

module _ (refused : (c : CommandLine) (read : Reads) (refusal : Refusal) → report_for_command c read ≡ Err refusal → is_input_refusal refusal ≡ true)
    (following_refusal : (c : CommandLine) (read : Reads) (done : ReportAndRefusal) (refusal : Refusal) → report_for_command c read ≡ Ok done → done.following_refusal ≡ Some refusal → is_input_refusal refusal ≡ true) where
  report_other : (command : CommandLine) (read : Reads) (files : Files) (told : Result ReportAndRefusal Refusal) → report_for_command command read ≡ told → NamesNoIntent (outcome_of_report files told)
  report_other command read files (Ok done) is = λ cause beside. input_other (IntentBad cause) (following_refusal command read done (IntentBad cause) is beside) cause refl
  report_other command read files (Err refusal) is = refused_other files refusal (input_other refusal (refused command read refusal is))

  -- ---- by the words

  module _ (ends : (command : CommandLine) (files : Files) (o : Outcome) → effect_of command.applet ≡ Changes → IsOutcomeOverRecoveredFiles command files o → IsChangeEnd command files o) where
    over_other : (command : CommandLine) (files : Files) (o : Outcome) (effect : Effect) → effect_of command.applet ≡ effect → does_recover effect ≡ true → IsOutcomeOverRecoveredFiles command files o → NamesNoIntent o
    over_other command files o Computes at recovers over = absurd (false≢true recovers)
    over_other command files o OnlyReadsFiles at recovers over = absurd (false≢true recovers)
    over_other command files o AsksRoot at recovers (given, are, is) =
        subst NamesNoIntent (report_is command.applet command given (reads_in files) files at ∙ sym is) (report_other command (reads_in files) files (report_for_command command (reads_in files)) refl)
    over_other command files o Makes at recovers (given, are, is) = subst NamesNoIntent (sym is) (maker_other command.applet command given (reads_in files) files at)
    over_other command files o Changes at recovers over = change_other command files o (ends command files o at over)

    same_cause : (a b : Cause) → IntentBad a ≡ IntentBad b → a ≡ b
    same_cause a b is = cc

    unless_other : (command : CommandLine) (files : Files) (o : Outcome) (cause : Cause) (fault : Option Cause) → does_recover (effect_of command.applet) ≡ true → IsOutcomeUnlessBadIntent fault command files o
        → o.refusal ≡ Some (IntentBad cause) → fault ≡ Some cause
    unless_other command files o cause (Some bad) recovers is refusal =
        ap (λ (c : Cause). Some c) (same_cause bad cause (some_same (IntentBad bad) (IntentBad cause) (sym (ap (λ (p : Outcome). p.refusal) is) ∙ refusal)))
    unless_other command files o cause None recovers over refusal =
        absurd (over_other command (files_recovered_if_needed (effect_of command.applet) files) o (effect_of command.applet) refl recovers over cause refusal)

    -- `demo` does not recover
    no_demo : (applet : Applet) (command : CommandLine) (files : Files) (o : Outcome) → does_recover (effect_of applet) ≡ true → IsOutcomeOfAppletIncludingRecovery applet command files o → IsOutcomeWithoutDemo (Ok command) files o
    no_demo Demo command files o recovers one = absurd (false≢true recovers)
    no_demo other command files o recovers one = one

    by_command : (read : Result CommandLine ℕ) (files : Files) (o : Outcome) (cause : Cause) → does_recover (effect_of_arguments read) ≡ true → IsOutcome read files o → o.refusal ≡ Some (IntentBad cause)
        → recovery_fault (effect_of_arguments read) files ≡ Some cause
    by_command (Ok command) files o cause recovers one refusal =
        unless_other command files o cause (recovery_fault (effect_of command.applet) files) recovers (no_demo command.applet command files o recovers one) refusal
    by_command (Err place) files o cause recovers one refusal = absurd (false≢true recovers)

    pub refused_bad : (words : List (List ℕ)) (files : Files) (o : Outcome) (cause : Cause) → does_recover (effect_of_arguments (command_of words)) ≡ true → IsOutcome (command_of words) files o → o.refusal ≡ Some (IntentBad cause)
        → recovery_fault (effect_of_arguments (command_of words)) files ≡ Some cause
    refused_bad words = by_command (command_of words)
