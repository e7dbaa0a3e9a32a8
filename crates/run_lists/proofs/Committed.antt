-- An outcome that commits leaves no intent, neither a good nor a bad one.
use Rattle.std.proofs.Common.{◌≡◌, ◌∙◌, ℕ, Bool, true, false, List, [], length, Option, Some, None, Result, Ok, Err, refl, sym, ap, subst}
use Rattle.std.specs.Prelude.{if◌then◌else◌, IsTrue}
use Rattle.std.specs.Str.{bytes_eq}
use Rattle.std.proofs.lemmas.Bool.{false≢true}
use Rattle.apk_front.specs.adb_schema.Reserved.{is_reserved}
use Rattle.base_core.specs.Files.{Files}
use Rattle.base_core.specs.declared.cause.Cause.{Cause}
use Rattle.base_core.proofs.NameParts.{other_bytes}
use Rattle.apk_front.specs.change_inputs.Chains.{and_then}
use Rattle.apk_front.specs.change_inputs.Inputs.{Inputs}
use Rattle.apk_front.specs.change_outcome.ChangeOutcome.{ChangeDone, ChangeWishes, change_or_refusal}
use Rattle.command_core.specs.Command.{CommandLine}
use Rattle.command_core.specs.declared.command.Applet.{Applet}
use Rattle.command_core.specs.declared.command.Applet.TheVariants.{Demo, Mkndx, Mkpkg}
use Rattle.apk_front.specs.engine_core.Changed.{InputsAndReplacement, change_of_selected, change_of_command, selected_from_reads_by_choice, simulated_change}
use Rattle.apk_front.specs.engine_core.Wishes.{wishes_of}
use Rattle.apk_front.specs.journal_core.Recovery.{intent_name}
use Rattle.apk_front.specs.journal_core.Replacing.{files_after_replacement, scratch_name_of}
use Rattle.apk_front.specs.journal_core.Staged.{unstaged_files}
use Rattle.apk_front.specs.make_core.Index.{made_index}
use Rattle.apk_front.specs.make_info.Output.{output_name}
use Rattle.apk_front.specs.make_info.Reads.{Reads}
use Rattle.apk_front.specs.make_info.declared.fault.MakeFault.{MakeFault}
use Rattle.apk_front.specs.make_info.declared.fault.MakeFault.TheVariants.{FileMissing as NoFile, FileBad as BadFile, InfoBad as BadInfo, TooLarge, Disk, Memory}
use Rattle.apk_front.specs.make_core.Making.{made_package}
use Rattle.apk_front.specs.package_changes.Changes.{Replacement}
use Rattle.apk_front.specs.path_clashes.Clash.{NamePair}
use Rattle.report_core.specs.declared.refusal.Refusal.{Refusal}
use Rattle.report_core.specs.declared.refusal.Refusal.TheVariants.{Reserved}
use Rattle.apk_front.specs.words_core.Grammar.{command_of}
use Rattle.apk_front.proofs.outcome.Applets.{change_is}
use Rattle.apk_front.proofs.outcome.NextRoom.{intent_gone}
use Rattle.apk_front.proofs.outcome.Recovered.{ReadSound}
use Rattle.apk_front.specs.outcome.Changing.{change_outcome}
use Rattle.apk_front.specs.outcome.Commands.{IsOutcomeWithoutDemo, IsOutcomeUnlessBadIntent, effect_outcome, reads_in}
use Rattle.apk_front.specs.outcome.Effect.{Effect, Computes, OnlyReadsFiles, AsksRoot, Makes, Changes, effect_of_arguments, effect_of, do_arguments_neither_recover_nor_write}
use Rattle.apk_front.specs.outcome.Given.{Given}
use Rattle.apk_front.specs.outcome.Make.{files_with_output, index_report_line, make_outcome, outcome_unless_output_reserved}
use Rattle.apk_front.specs.outcome.Outcome.{Outcome, commit_report, just_refusal}
use Rattle.apk_front.specs.outcome.Words.{IsOutcome, IsOutcomeOfAppletIncludingRecovery}
use Rattle.apk_front.specs.outcome.Work.{recovery_fault, files_recovered_if_needed}
use Rattle.run_lists.proofs.BadIntent.{only_reads}
use Rattle.apk_front.proofs.journal_commit.Suffix.{intent_is_no_scratch}

abbrev pub BringsNoIntent : Type 0
BringsNoIntent = (inputs : Inputs) (r : Replacement) (wishes : ChangeWishes) (read : Reads) (clash : Option NamePair) (files : Files) (done : ChangeDone)
    → change_or_refusal inputs r wishes read clash files ≡ Ok done → files intent_name ≡ None → done.files intent_name ≡ None

abbrev Brings : Outcome → Type 0
Brings o = o.commits ≡ true → o.files intent_name ≡ None

-- ---- a change

module _ (gone : BringsNoIntent) where
  selected_none : (command : CommandLine) (read : Reads) (files : Files) (clash : Option NamePair) (s : InputsAndReplacement) (done : ChangeDone)
      → (simulate : Bool) → (if simulate then Ok (simulated_change s.replacement (wishes_of command) files) else change_or_refusal s.inputs s.replacement (wishes_of command) read clash files) ≡ Ok done
      → files intent_name ≡ None → done.files intent_name ≡ None
  selected_none command read files clash s done true is absent = subst (λ (f : Files). f intent_name ≡ None) (ap (λ (r : Result ChangeDone Refusal). files_or r) is) absent
    where
      files_or : Result ChangeDone Refusal → Files
      files_or (Ok d) = d.files
      files_or (Err refusal) = files
  selected_none command read files clash s done false is absent = gone s.inputs s.replacement (wishes_of command) read clash files done is absent

  by_selected : (command : CommandLine) (read : Reads) (files : Files) (clash : Option NamePair) (selected : Result InputsAndReplacement Refusal) (done : ChangeDone)
      → and_then selected (change_of_selected command read files clash) ≡ Ok done → files intent_name ≡ None → done.files intent_name ≡ None
  by_selected command read files clash (Ok s) done is absent = selected_none command read files clash s done command.flags.simulate is absent
  by_selected command read files clash (Err refusal) done is absent = cc

  changed_none : (command : CommandLine) (read : Reads) (files : Files) (chosen : Option (List ℕ)) (clash : Option NamePair) (done : ChangeDone)
      → change_of_command command read files chosen clash ≡ Ok done → files intent_name ≡ None → done.files intent_name ≡ None
  unfolding change_of_command
  changed_none command read files chosen clash done is absent = by_selected command read files clash (selected_from_reads_by_choice command read chosen) done is absent

  change_none : (command : CommandLine) (files : Files) (chosen : Option (List ℕ)) (clash : Option NamePair) (result : Result ChangeDone Refusal)
      → change_of_command command (reads_in files) files chosen clash ≡ result → files intent_name ≡ None → Brings (change_outcome files result)
  change_none command files chosen clash (Ok done) is absent commits = changed_none command (reads_in files) files chosen clash done is absent
  change_none command files chosen clash (Err refusal) is absent commits = absent

-- ---- what is made

not_reserved : (name : List ℕ) → is_reserved name ≡ false → intent_name ≡ name → ⊥
not_reserved name free is = false≢true (sym free ∙ ap is_reserved (sym is))

with_other : (name bytes : List ℕ) (files : Files) → is_reserved name ≡ false → files_after_replacement name bytes files intent_name ≡ files intent_name
with_other name bytes files free =
    ap (λ (b : Bool). if b then Some bytes else (if bytes_eq intent_name (scratch_name_of name) then None else files intent_name)) (other_bytes intent_name name (not_reserved name free))
    ∙ ap (λ (b : Bool). if b then None else files intent_name) (other_bytes intent_name (scratch_name_of name) (intent_is_no_scratch name))

made_by : (name bytes report : List ℕ) (files : Files) → files intent_name ≡ None → (b : Bool) → is_reserved name ≡ b
    → Brings (if b then just_refusal files (Reserved name) else commit_report (files_with_output (Some name) bytes files) report)
made_by name bytes report files none true is commits = absurd (false≢true commits)
made_by name bytes report files none false is commits = with_other name bytes files is ∙ none

made_unless : (output : Option (List ℕ)) (bytes report : List ℕ) (files : Files) → files intent_name ≡ None → Brings (outcome_unless_output_reserved files output (commit_report (files_with_output output bytes files) report))
made_unless None bytes report files none commits = none
made_unless (Some name) bytes report files none commits = made_by name bytes report files none (is_reserved name) refl commits

refused_by : (name : List ℕ) (files : Files) (refusal : Refusal) (b : Bool) → Brings (if b then just_refusal files (Reserved name) else just_refusal files refusal)
refused_by name files refusal true commits = absurd (false≢true commits)
refused_by name files refusal false commits = absurd (false≢true commits)

refused_unless : (output : Option (List ℕ)) (files : Files) (refusal : Refusal) → Brings (outcome_unless_output_reserved files output (just_refusal files refusal))
refused_unless None files refusal commits = absurd (false≢true commits)
refused_unless (Some name) files refusal commits = refused_by name files refusal (is_reserved name) commits

made_none : (output : Option (List ℕ)) (report : List ℕ) (files : Files) → files intent_name ≡ None → (made : Result (List ℕ) MakeFault) → Brings (make_outcome files output report made)
made_none output report files none (Ok bytes) commits = made_unless output bytes report files none commits
made_none output report files none (Err (NoFile place)) commits = absurd (false≢true commits)
made_none output report files none (Err (BadFile place cause)) commits = absurd (false≢true commits)
made_none output report files none (Err (BadInfo place)) commits = absurd (false≢true commits)
made_none output report files none (Err (TooLarge bytes values)) commits = refused_unless output files _ commits
made_none output report files none (Err Disk) commits = absurd (false≢true commits)
made_none output report files none (Err Memory) commits = absurd (false≢true commits)

maker_none : (applet : Applet) (command : CommandLine) (given : Given) (files : Files) → effect_of applet ≡ Makes → files intent_name ≡ None → Brings (effect_outcome (effect_of applet) applet command given (reads_in files) files)
maker_none Mkpkg command given files makes none = made_none (output_name command) [] files none (made_package command given.names (reads_in files))
maker_none Mkndx command given files makes none = made_none (output_name command) (index_report_line (length command.operands)) files none (made_index command (reads_in files))
maker_none other command given files makes none = absurd (cc (makes))

-- ---- by the words

no_demo : (applet : Applet) (command : CommandLine) (files : Files) (o : Outcome) → (effect_of applet ≡ Computes → ⊥) → IsOutcomeOfAppletIncludingRecovery applet command files o → IsOutcomeWithoutDemo (Ok command) files o
no_demo Demo command files o works is = absurd (works refl)
no_demo other command files o works is = is

-- each outcome that commits
abbrev pub CommitsNoIntent : Type 0
CommitsNoIntent = (words : List (List ℕ)) (files : Files) (o : Outcome) → IsOutcome (command_of words) files o → o.commits ≡ true → o.files intent_name ≡ None

module _ (gone : BringsNoIntent) (sound : ReadSound) where
  makes_none : (fault : Option Cause) (command : CommandLine) (files : Files) (o : Outcome) → effect_of command.applet ≡ Makes → recovery_fault (effect_of command.applet) files ≡ fault → IsOutcomeUnlessBadIntent fault command files o → Brings o
  makes_none (Some cause) command files o makes at is commits = absurd (false≢true (sym (ap (λ (p : Outcome). p.commits) is) ∙ commits))
  makes_none None command files o makes at (given, are, is) commits =
      let work : files_recovered_if_needed (effect_of command.applet) files ≡ unstaged_files files = ap (λ (e : Effect). files_recovered_if_needed e files) makes in
      let good = subst (λ (e : Effect). recovery_fault e files ≡ None) makes at in
      let absent = ap (λ (f : Files). f intent_name) work ∙ intent_gone sound files (files intent_name) refl good in
      subst Brings (sym is) (maker_none command.applet command given (files_recovered_if_needed (effect_of command.applet) files) makes absent) commits

  changes_none : (fault : Option Cause) (command : CommandLine) (files : Files) (o : Outcome) → effect_of command.applet ≡ Changes → recovery_fault (effect_of command.applet) files ≡ fault → IsOutcomeUnlessBadIntent fault command files o → Brings o
  changes_none (Some cause) command files o changes at is commits = absurd (false≢true (sym (ap (λ (p : Outcome). p.commits) is) ∙ commits))
  changes_none None command files o changes at (given, are, is) commits =
      let work : files_recovered_if_needed (effect_of command.applet) files ≡ unstaged_files files = ap (λ (e : Effect). files_recovered_if_needed e files) changes in
      let good = subst (λ (e : Effect). recovery_fault e files ≡ None) changes at in
      let absent = ap (λ (f : Files). f intent_name) work ∙ intent_gone sound files (files intent_name) refl good in
      let here = files_recovered_if_needed (effect_of command.applet) files in
      subst Brings (change_is command.applet command given (reads_in here) here changes ∙ sym is)
      (change_none gone command here given.chosen given.clash (change_of_command command (reads_in here) here given.chosen given.clash) refl absent) commits

  by_command : (read : Result CommandLine ℕ) (files : Files) (o : Outcome) (effect : Effect) → effect_of_arguments read ≡ effect → (effect ≡ Computes → ⊥) → (effect ≡ OnlyReadsFiles → ⊥) → (effect ≡ AsksRoot → ⊥) → IsOutcome read files o → Brings o
  by_command (Err place) files o effect is works reads tells one = absurd (works (sym is))
  by_command (Ok command) files o Computes is works reads tells one = absurd (works refl)
  by_command (Ok command) files o OnlyReadsFiles is works reads tells one = absurd (reads refl)
  by_command (Ok command) files o AsksRoot is works reads tells one = absurd (tells refl)
  by_command (Ok command) files o Makes is works reads tells one =
      makes_none (recovery_fault (effect_of command.applet) files) command files o is refl (no_demo command.applet command files o (λ computes. works (sym is ∙ computes)) one)
  by_command (Ok command) files o Changes is works reads tells one =
      changes_none (recovery_fault (effect_of command.applet) files) command files o is refl (no_demo command.applet command files o (λ computes. works (sym is ∙ computes)) one)

  module _ (reading : (words : List (List ℕ)) (files : Files) (o : Outcome) → IsTrue (do_arguments_neither_recover_nor_write (command_of words)) → IsOutcome (command_of words) files o → o.commits ≡ false)
      (telling : (words : List (List ℕ)) (files : Files) (o : Outcome) → effect_of_arguments (command_of words) ≡ AsksRoot → IsOutcome (command_of words) files o → o.commits ≡ false) where
    pub committed_none : CommitsNoIntent
    committed_none words files o one commits = by (effect_of_arguments (command_of words)) refl
      where
        by : (effect : Effect) → effect_of_arguments (command_of words) ≡ effect → o.files intent_name ≡ None
        by Computes is = absurd (false≢true (sym (reading words files o (only_reads (command_of words) Computes is refl) one) ∙ commits))
        by OnlyReadsFiles is = absurd (false≢true (sym (reading words files o (only_reads (command_of words) OnlyReadsFiles is refl) one) ∙ commits))
        by AsksRoot is = absurd (false≢true (sym (telling words files o is one) ∙ commits))
        by Makes is = by_command (command_of words) files o Makes is (λ e. cc (e)) (λ e. cc (e)) (λ e. cc (e)) one commits
        by Changes is = by_command (command_of words) files o Changes is (λ e. cc (e)) (λ e. cc (e)) (λ e. cc (e)) one commits
