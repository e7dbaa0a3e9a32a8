-- A command that only reports: its verdict is that of its outcome, and the run leaves the tree as it is.
use Rattle.std.proofs.Common.{◌≡◌, ◌⊎◌, inl, inr, false, [], ◌∷◌, None, Result, Ok, Err, refl, sym, ap, subst, ◌∙◌}
use Rattle.std.specs.Prelude.{IfOk, IsErrOf, OnOk}
use Rattle.base_core.specs.Calls.{IfObservable}
use Rattle.base_core.specs.Faults.{Counts, CountsNewFaultWithCause, CountsNoNewFaultOrLackOfMemory}
use Rattle.base_core.specs.Files.{Files, no_names}
use Rattle.base_core.specs.Read.{OnlyReads}
use Rattle.base_core.specs.Tree.{TreeState, files_of}
use Rattle.base_core.specs.declared.tree.TreeFault.{TreeFault}
use Rattle.base_core.specs.declared.tree.TreeFault.TheVariants as Trees
use Rattle.tell_core.specs.change_inputs.Answers.{AgreesUnlessDiskOrMemory}
use Rattle.tell_core.specs.change_inputs.declared.root.Refused.{Refused}
use Rattle.tell_core.specs.change_inputs.declared.root.Refused.TheVariants.{Disk, Memory, Refusal as IsRefused}
use Rattle.command_core.specs.Command.{CommandLine}
use Rattle.command_core.specs.declared.command.Applet.{Applet}
use Rattle.command_core.specs.declared.command.Applet.TheVariants.{Audit, Info, List as ListApplet, Manifest, Mkpkg, Policy, Search}
use Rattle.tell_core.specs.ReportForCommand.{report_for_command}
use Rattle.tell_core.specs.declared.info.reporting.ReportAndRefusal.{ReportAndRefusal}
use Rattle.make_core.specs.make_info.Reads.{Reads}
use Rattle.make_core.specs.package_files.Runs.{HoldsOfSomeReadsOfTree}
use Rattle.report_core.specs.declared.refusal.Refusal.{Refusal}
use Rattle.outcome.proofs.Applets.{report_is, told_commits, told_files}
use Rattle.outcome.specs.Commands.{IsPossibleOutcomeAfterRecovery, reads_in}
use Rattle.outcome.specs.Effect.{AsksRoot, Effect, effect_of, output_name_for_effect}
use Rattle.outcome.specs.Given.{IsPreferredChoiceForChangeElseNone, IsFirstClashForChangeElseNone, IsListingChoiceAndClashFor, AreNamesListedForApplet, IsPossibleListingChoiceAndClash, ArePossibleNamesListedForApplet, IsPossibleFirstClashForChangeElseNone, no_listing_choice_or_clash}
use Rattle.outcome.specs.Outcome.{Outcome}
use Rattle.outcome.specs.OutcomeOfReport.{outcome_of_report}
use Rattle.apk_front.specs.Runs.{IfNothingStaged, IsRunAfterRecovery}
use Rattle.apk_front.specs.Told.{IsVerdictOnReport}
use Rattle.apk_front.specs.Verdicts.{Reports, ReportsOneOfOutcomes}
use Rattle.apk_front.specs.declared.answer.Verdict.{Verdict}
use Rattle.apk_front.proofs.Carried.{Ones, RoomFor}
use Rattle.apk_front.proofs.Runs.{History, Judged, Leaves, ok_always, run_idle}

abbrev pub Answered : Type 0
Answered = Result ReportAndRefusal Refused

abbrev pub Wanted : Type 0
Wanted = Result ReportAndRefusal Refusal

abbrev pub IsToldBy : CommandLine → History → Answered → Type 0
IsToldBy command old answer = HoldsOfSomeReadsOfTree old (λ read. AgreesUnlessDiskOrMemory (λ done. done) answer (report_for_command command read))

-- ---- nothing is given

tells_listed : (applet : Applet) (command : CommandLine) (files : Files) → effect_of applet ≡ AsksRoot → AreNamesListedForApplet applet command files []
tells_listed Mkpkg command files tells = absurd (cc (tells))
tells_listed other command files tells = refl

are_given : (command : CommandLine) (read : Reads) (files : Files) → effect_of command.applet ≡ AsksRoot → IsListingChoiceAndClashFor command read files no_listing_choice_or_clash
are_given command read files tells = record {
  names = tells_listed command.applet command files tells;
  chosen = subst (λ (e : Effect). IsPreferredChoiceForChangeElseNone e command read None) (sym tells) refl;
  clash = subst (λ (e : Effect). IsFirstClashForChangeElseNone e command read files None None) (sym tells) refl;
}

tells_some : (applet : Applet) (command : CommandLine) → effect_of applet ≡ AsksRoot → ArePossibleNamesListedForApplet applet command []
tells_some Mkpkg command tells = absurd (cc (tells))
tells_some other command tells = refl

may_be_given : (command : CommandLine) (read : Reads) (files : Files) → effect_of command.applet ≡ AsksRoot → IsPossibleListingChoiceAndClash command read files no_listing_choice_or_clash
may_be_given command read files tells = record {
  names = tells_some command.applet command tells;
  chosen = subst (λ (e : Effect). IsPreferredChoiceForChangeElseNone e command read None) (sym tells) refl;
  clash = subst (λ (e : Effect). IsPossibleFirstClashForChangeElseNone e command read files None None) (sym tells) refl;
}

-- ---- what was answered as wanted is reported so

reports_wanted : (answer : Answered) (verdict : Verdict) (files : Files) (wanted : Wanted) → AgreesUnlessDiskOrMemory (λ done. done) answer wanted → IsVerdictOnReport answer (Ok verdict) → Reports verdict (outcome_of_report files wanted)
reports_wanted (Ok done) verdict files wanted agrees told =
    subst (λ (w : Wanted). Reports verdict (outcome_of_report files w)) (sym agrees) (ap (λ (o : Outcome). record o { commits = false }) (told files))
reports_wanted (Err (IsRefused refusal)) verdict files wanted agrees told =
    subst (λ (w : Wanted). Reports verdict (outcome_of_report files w)) (sym agrees) (ap (λ (o : Outcome). record o { commits = false }) (told files))
reports_wanted (Err Disk) verdict files wanted agrees told = absurd (cc (told))
reports_wanted (Err Memory) verdict files wanted agrees told = absurd (cc (told))

same_reads : (v : TreeState) (rest : History) (P : Reads → Type 0) (e : HoldsOfSomeReadsOfTree (v ∷ rest) P) → e.read ≡ reads_in (files_of v)
same_reads v rest P e i n name = e.observed n name i

module _ (command : CommandLine) (tells : effect_of command.applet ≡ AsksRoot) where
  pub report_found : (old : History) (answer : Answered) (judged : Judged) → IsVerdictOnReport answer judged → IsToldBy command old answer → IfOk judged (λ verdict. IfNothingStaged old (λ v. ReportsOneOfOutcomes (Ones command v) verdict))
  report_found old answer (Err e) told by = tt
  report_found [] answer (Ok verdict) told by = tt
  report_found (v ∷ rest) answer (Ok verdict) told by = λ nothing. (
    outcome_of_report (files_of v) (report_for_command command (reads_in (files_of v))),
    (no_listing_choice_or_clash, are_given command (reads_in (files_of v)) (files_of v) tells, report_is command.applet command no_listing_choice_or_clash (reads_in (files_of v)) (files_of v) tells),
    reports_wanted answer verdict (files_of v) (report_for_command command (reads_in (files_of v)))
        (subst (λ (read : Reads). AgreesUnlessDiskOrMemory (λ done. done) answer (report_for_command command read)) (same_reads v rest (λ read. AgreesUnlessDiskOrMemory (λ done. done) answer (report_for_command command read)) by) by.is) told,
  )

  pub report_read : (old : History) (answer : Answered) (judged : Judged) → IsVerdictOnReport answer judged → IsToldBy command old answer → IfOk judged (ReportsOneOfOutcomes (IsPossibleOutcomeAfterRecovery command))
  report_read old answer (Err e) told by = tt
  report_read old answer (Ok verdict) told by = (
    outcome_of_report no_names (report_for_command command by.read),
    (no_listing_choice_or_clash, by.read, no_names, may_be_given command by.read no_names tells, inl (report_is command.applet command no_listing_choice_or_clash by.read no_names tells)),
    reports_wanted answer verdict no_names (report_for_command command by.read) by.is told,
  )

  -- ---- nothing is written

  leaves : (v : TreeState) (o : Outcome) → Ones command v o → Leaves (files_of v) o
  leaves v o (given, are, is) =
      let files : Files = files_of v in
      subst (Leaves files) (report_is command.applet command given (reads_in files) files tells ∙ sym is)
      (told_files files (report_for_command command (reads_in files)), told_commits files (report_for_command command (reads_in files)))

  pub report_run : (old now : History) (judged : Judged) → now ≡ old → IfNothingStaged old (λ v. IsRunAfterRecovery (Ones command v) (effect_of command.applet) (output_name_for_effect (effect_of command.applet) command) judged v old now)
  report_run [] now judged same = tt
  report_run (v ∷ rest) now judged same = λ nothing.
      run_idle (Ones command v) (effect_of command.applet) (output_name_for_effect (effect_of command.applet) command) judged v rest now same
      (λ o one. ok_always (Leaves (files_of v) o) judged (leaves v o one))

  pub report_proper : (old : History) (P : Type 0) → IfObservable old (λ v. P) → IfNothingStaged old (λ v. RoomFor (Ones command v) (effect_of command.applet) (output_name_for_effect (effect_of command.applet) command) (files_of v) → P)
  report_proper [] P p = tt
  report_proper (v ∷ rest) P p = λ nothing room. p

-- ---- the counts

-- an error that is judged is that of the engine
told_error : (answer : Answered) (e : TreeFault) → IsVerdictOnReport answer (Err e) → ((e ≡ Trees.Disk) × (answer ≡ Err Disk)) ⊎ ((e ≡ Trees.Memory) × (answer ≡ Err Memory))
told_error (Ok done) e told = absurd told
told_error (Err (IsRefused refusal)) e told = absurd told
told_error (Err Disk) e told = inl (cc (told), refl)
told_error (Err Memory) e told = inr (cc (told), refl)

pub report_disk : (answer : Answered) (judged : Judged) (old now : History) (a b : Counts) → IsVerdictOnReport answer judged → OnlyReads Disk old now a b answer → IsErrOf judged Trees.Disk → CountsNewFaultWithCause a b
report_disk answer (Ok verdict) old now a b told tree none = absurd (cc (none))
report_disk answer (Err e) old now a b told tree none =
    let e_is : e ≡ Trees.Disk = cc in
    elim (told_error answer e told) as (λ _. CountsNewFaultWithCause a b) [ inl disk ↦ tree.disk disk.1 | inr memory ↦ absurd (let same : Trees.Memory ≡ Trees.Disk = sym memory.0 ∙ e_is in cc) ]

pub report_kept : (answer : Answered) (judged : Judged) (old now : History) (a b : Counts) → IsVerdictOnReport answer judged → OnlyReads Disk old now a b answer → OnOk judged (CountsNoNewFaultOrLackOfMemory a b)
report_kept answer (Err e) old now a b told tree = tt
report_kept (Ok done) (Ok verdict) old now a b told tree = tree.kept
report_kept (Err (IsRefused refusal)) (Ok verdict) old now a b told tree = tree.others (λ is. cc (is))
report_kept (Err Disk) (Ok verdict) old now a b told tree = absurd (cc (told))
report_kept (Err Memory) (Ok verdict) old now a b told tree = absurd (cc (told))

pub report_memory : (answer : Answered) (judged : Judged) (old now : History) (a b : Counts) → IsVerdictOnReport answer judged → OnlyReads Disk old now a b answer → IsErrOf judged Trees.Memory → CountsNoNewFaultOrLackOfMemory a b
report_memory answer (Ok verdict) old now a b told tree none = absurd (cc (none))
report_memory answer (Err e) old now a b told tree none =
    let e_is : e ≡ Trees.Memory = cc in
    elim (told_error answer e told) as (λ _. CountsNoNewFaultOrLackOfMemory a b) [
      | inl disk ↦ absurd (let same : Trees.Disk ≡ Trees.Memory = sym disk.0 ∙ e_is in cc)
      | inr memory ↦ not_disk answer memory.1 tree
    ]
  where
    not_disk : (answer : Answered) → answer ≡ Err Memory → OnlyReads Disk old now a b answer → CountsNoNewFaultOrLackOfMemory a b
    not_disk answer is tree = (subst (λ (r : Answered). OnlyReads Disk old now a b r) is tree).others (λ same. cc (same))

-- ---- the applets

pub tell_applet : (command : CommandLine) (applet : Applet) → applet ≡ command.applet → (applet ≡ Info) ⊎ ((applet ≡ Audit) ⊎ ((applet ≡ Manifest) ⊎ ((applet ≡ ListApplet) ⊎ ((applet ≡ Search) ⊎ (applet ≡ Policy))))) → effect_of command.applet ≡ AsksRoot
tell_applet command applet same (inl is) = ap effect_of (sym same ∙ is)
tell_applet command applet same (inr (inl is)) = ap effect_of (sym same ∙ is)
tell_applet command applet same (inr (inr (inl is))) = ap effect_of (sym same ∙ is)
tell_applet command applet same (inr (inr (inr (inl is)))) = ap effect_of (sym same ∙ is)
tell_applet command applet same (inr (inr (inr (inr (inl is))))) = ap effect_of (sym same ∙ is)
tell_applet command applet same (inr (inr (inr (inr (inr is))))) = ap effect_of (sym same ∙ is)
