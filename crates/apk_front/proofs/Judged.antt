-- What was judged and shown is the answer.
use Rattle.std.proofs.Common.{◌≡◌, ◌⊎◌, inl, inr, ℕ, List, [], ◌∷◌, Option, None, true, false, Result, Ok, Err, OnOk, IfOk, IsErrOf, IsTrue, MatchResult, refl, sym, ap, subst, ◌∙◌}
use Rattle.base_core.specs.Calls.{IfObservable}
use Rattle.base_core.specs.Faults.{Counts, CountsNewFaultWithCause, CountsNoNewFaultOrLackOfMemory}
use Rattle.base_core.specs.Files.{Files, no_names}
use Rattle.base_core.specs.Sink.{SinkBeforeAndAfter, SinkFailedWithCause, SinkBytesGrowBy, SinkBytesGrowByPrefixOf}
use Rattle.base_core.specs.Tree.{TreeState, files_of}
use Rattle.base_core.specs.declared.tree.TreeFault.{TreeFault}
use Rattle.base_core.specs.declared.tree.TreeFault.TheVariants.{Disk, Memory as NoMemory}
use Rattle.report_core.specs.declared.refusal.Refusal.TheVariants.{Usage}
use Rattle.command_core.specs.Command.{CommandLine}
use Rattle.words_core.specs.Faults.{IsWordsFault}
use Rattle.words_core.specs.Grammar.{command_of}
use Rattle.words_core.specs.declared.read.WordsFault.{WordsFault}
use Rattle.words_core.specs.declared.read.WordsFault.TheVariants.{Usage as WrongWord}
use Rattle.command_core.specs.declared.command.Applet.{Applet}
use Rattle.command_core.specs.declared.command.Applet.TheVariants.{Mkpkg, Version}
use Rattle.command_core.specs.declared.command.Flags.{Flags}
use Rattle.command_core.specs.declared.operands.Operand.{Operand}
use Rattle.make_core.specs.make_info.Reads.{Reads}
use Rattle.outcome.specs.Outcome.{Outcome, just_refusal}
use Rattle.outcome.specs.Words.{IsPossibleOutcome, IsOutcome}
use Rattle.outcome.specs.Version.{version}
use Rattle.outcome.specs.Commands.{IsOutcomeWithoutDemo, IsOutcomeOverRecoveredFiles, IsOutcomeUnlessBadIntent, effect_outcome, reads_in}
use Rattle.outcome.specs.Given.{IsPreferredChoiceForChangeElseNone, IsFirstClashForChangeElseNone, IsListingChoiceAndClashFor, AreNamesListedForApplet, IsPossibleListingChoiceAndClash, ArePossibleNamesListedForApplet, IsPossibleFirstClashForChangeElseNone, no_listing_choice_or_clash}
use Rattle.outcome.specs.Effect.{Effect, Computes, OnlyReadsFiles, AsksRoot, Makes, Changes, does_neither_recover_nor_write, does_recover, ignores_files, effect_of_arguments, effect_of, output, depends_only_on_arguments}
use Rattle.outcome.specs.Work.{recovery_fault, files_recovered_if_needed}
use Rattle.base_core.specs.declared.cause.Cause.{Cause}
use Rattle.apk_front.specs.Answers.{IsAnswerOfSomeOutcomeOrFailure, LeavesFiles, LeavesAnyFiles, AnswerTellsWhetherTreeOrSinkFailed, IsFaultless, AnswersOutcomeUnlessMemory, IsAnsweredInFull, DidNotFail, FailedWithBytesToPrint, answer_for_refusal}
use Rattle.apk_front.specs.Runs.{IsRunWithRecovery}
use Rattle.apk_front.specs.Verdicts.{as_outcome, IsPrinted, IsVerdictPrinted, Reports, ReportsOneOfOutcomes, read_only_outcome}
use Rattle.apk_front.proofs.Printing.{either_failed}
use Rattle.apk_front.specs.declared.answer.Answer.{Answer}
use Rattle.apk_front.specs.declared.answer.Answer.TheVariants.{Ok as Good, Refused, TreeFault as TreeFailed, OutFault, Memory}
use Rattle.apk_front.specs.declared.answer.Verdict.{Verdict}

-- ---- the words and the outcome

pub usage_over : (words : List (List ℕ)) (place : ℕ) (files : Files) → command_of words ≡ Err place → IsOutcome (command_of words) files (just_refusal files (Usage place))
usage_over words place files is = subst (λ (r : Result CommandLine ℕ). IsOutcome r files (just_refusal files (Usage place))) (sym is) refl

-- an applet that only reads lists and chooses nothing
no_listing : (applet : Applet) (command : CommandLine) (files : Files) → does_neither_recover_nor_write (effect_of applet) ≡ true → AreNamesListedForApplet applet command files []
no_listing Mkpkg command files reads = cc
no_listing other command files reads = refl

no_listing_by_some : (applet : Applet) (command : CommandLine) → does_neither_recover_nor_write (effect_of applet) ≡ true → ArePossibleNamesListedForApplet applet command []
no_listing_by_some Mkpkg command reads = cc
no_listing_by_some other command reads = refl

no_choice : (effect : Effect) (command : CommandLine) (read : Reads) → does_neither_recover_nor_write effect ≡ true → IsPreferredChoiceForChangeElseNone effect command read None
no_choice Changes command read reads = cc
no_choice other command read reads = refl

no_clash : (effect : Effect) (command : CommandLine) (read : Reads) (files : Files) → does_neither_recover_nor_write effect ≡ true → IsFirstClashForChangeElseNone effect command read files None None
no_clash Changes command read files reads = cc
no_clash other command read files reads = refl

no_clash_by_some : (effect : Effect) (command : CommandLine) (read : Reads) (files : Files) → does_neither_recover_nor_write effect ≡ true → IsPossibleFirstClashForChangeElseNone effect command read files None None
no_clash_by_some Changes command read files reads = absurd (cc)
no_clash_by_some other command read files reads = refl

pub none_given : (command : CommandLine) (read : Reads) (files : Files) → does_neither_recover_nor_write (effect_of command.applet) ≡ true → IsListingChoiceAndClashFor command read files no_listing_choice_or_clash
none_given command read files reads = record {
  names = no_listing command.applet command files reads;
  chosen = no_choice (effect_of command.applet) command read reads;
  clash = no_clash (effect_of command.applet) command read files reads;
}

pub none_by_some : (command : CommandLine) (read : Reads) (files : Files) → does_neither_recover_nor_write (effect_of command.applet) ≡ true → IsPossibleListingChoiceAndClash command read files no_listing_choice_or_clash
none_by_some command read files reads = record {
  names = no_listing_by_some command.applet command reads;
  chosen = no_choice (effect_of command.applet) command read reads;
  clash = no_clash_by_some (effect_of command.applet) command read files reads;
}

pub words_read : (effect : Effect) → ignores_files effect ≡ true → does_neither_recover_nor_write effect ≡ true
words_read Computes rests = refl
words_read OnlyReadsFiles rests = refl
words_read AsksRoot rests = cc
words_read Makes rests = cc
words_read Changes rests = cc

-- ---- a command that does not recover

pub reads_without : (effect : Effect) → does_neither_recover_nor_write effect ≡ true → does_recover effect ≡ false
reads_without Computes reads = refl
reads_without OnlyReadsFiles reads = refl
reads_without AsksRoot reads = cc
reads_without Makes reads = cc
reads_without Changes reads = cc

pub fault_without : (effect : Effect) (files : Files) → does_recover effect ≡ false → recovery_fault effect files ≡ None
fault_without Computes files none = refl
fault_without OnlyReadsFiles files none = refl
fault_without AsksRoot files none = cc
fault_without Makes files none = cc
fault_without Changes files none = cc

pub work_without : (effect : Effect) (files : Files) → does_recover effect ≡ false → files_recovered_if_needed effect files ≡ files
work_without Computes files none = refl
work_without OnlyReadsFiles files none = refl
work_without AsksRoot files none = cc
work_without Makes files none = cc
work_without Changes files none = cc

pub of_over : (command : CommandLine) (files : Files) (o : Outcome) → does_recover (effect_of command.applet) ≡ false → IsOutcomeOverRecoveredFiles command files o → IsOutcomeWithoutDemo (Ok command) files o
of_over command files o none over =
    subst (λ (fault : Option Cause). IsOutcomeUnlessBadIntent fault command files o) (sym (fault_without (effect_of command.applet) files none))
    (subst (λ (f : Files). IsOutcomeOverRecoveredFiles command f o) (sym (work_without (effect_of command.applet) files none)) over)

pub over_of : (command : CommandLine) (files : Files) (o : Outcome) → does_recover (effect_of command.applet) ≡ false → IsOutcomeWithoutDemo (Ok command) files o → IsOutcomeOverRecoveredFiles command files o
over_of command files o none of =
    subst (λ (f : Files). IsOutcomeOverRecoveredFiles command f o) (work_without (effect_of command.applet) files none)
    (subst (λ (fault : Option Cause). IsOutcomeUnlessBadIntent fault command files o) (fault_without (effect_of command.applet) files none) of)

pub ran_over : (command : CommandLine) (files : Files) (o : Outcome) → does_neither_recover_nor_write (effect_of command.applet) ≡ true → o ≡ read_only_outcome command (reads_in files) files → IsOutcomeWithoutDemo (Ok command) files o
ran_over command files o reads ran = of_over command files o (reads_without (effect_of command.applet) reads) (no_listing_choice_or_clash, none_given command (reads_in files) files reads, ran)

pub usage_verdict : (words : List (List ℕ)) (p q : ℕ) (fault : WordsFault) (verdict : Verdict) → p ≡ q → fault ≡ WrongWord q → IsWordsFault fault (command_of words)
    → ((files : Files) → as_outcome files verdict ≡ just_refusal files (Usage p)) → (files : Files) → IsOutcome (command_of words) files (as_outcome files verdict)
usage_verdict words p q fault verdict same is of is_shown files =
    let read : command_of words ≡ Err q = subst (λ (f : WordsFault). IsWordsFault f (command_of words)) is of in
    subst (IsOutcome (command_of words) files) (sym (is_shown files ∙ ap (λ (n : ℕ). just_refusal files (Usage n)) same)) (usage_over words q files read)

pub all_observable : (h : List TreeState) (P : TreeState → Type 0) → ((v : TreeState) → P v) → IfObservable h P
all_observable [] P all = tt
all_observable (v ∷ h) P all = all v

-- ---- the outcome and the answer

abbrev pub Judged : Type 0
Judged = Result Verdict TreeFault

printed_one : (IsOne Leaves : Outcome → Type 0) (tree_failed : Type 0) (o : Outcome) (answer : Answer) (out err : SinkBeforeAndAfter) → IsOne o → Leaves o → IsPrinted o answer out err → IsAnswerOfSomeOutcomeOrFailure IsOne Leaves tree_failed answer out err
printed_one IsOne Leaves tree_failed o Good out err is leaves printed = (o, is, printed, leaves)
printed_one IsOne Leaves tree_failed o (Refused refusal) out err is leaves printed = (o, is, printed, leaves)
printed_one IsOne Leaves tree_failed o OutFault out err is leaves printed = (o, is, printed, leaves)
printed_one IsOne Leaves tree_failed o TreeFailed out err is leaves printed = absurd printed
printed_one IsOne Leaves tree_failed o Memory out err is leaves printed = absurd printed

printed_answer : (words : List (List ℕ)) (files : Files) (Leaves : Outcome → Type 0) (tree_failed : Type 0) (o : Outcome) (answer : Answer) (out err : SinkBeforeAndAfter) → IsOutcome (command_of words) files o → Leaves o → IsPrinted o answer out err → IsAnswerOfSomeOutcomeOrFailure (IsOutcome (command_of words) files) Leaves tree_failed answer out err
printed_answer words files Leaves tree_failed o answer out err is leaves printed = printed_one (IsOutcome (command_of words) files) Leaves tree_failed o answer out err is leaves printed

-- printing looks at the refusal and the texts alone

stated_alike : (a b : Outcome) (answer : Answer) (out err : SinkBeforeAndAfter) → a.refusal ≡ b.refusal → a.out ≡ b.out → a.err ≡ b.err → IsAnsweredInFull a answer out err → IsAnsweredInFull b answer out err
stated_alike a b answer out err refusal report line p = record {
  same = p.same ∙ ap answer_for_refusal refusal;
  out_gets = subst (λ (t : List ℕ). SinkBytesGrowBy out t) report p.out_gets;
  err_gets = subst (λ (t : List ℕ). SinkBytesGrowBy err t) line p.err_gets;
  out_kept = p.out_kept;
  err_kept = p.err_kept;
}

which_alike : (a b : Outcome) (out err : SinkBeforeAndAfter) → a.out ≡ b.out → a.err ≡ b.err → (FailedWithBytesToPrint out a.out × SinkBytesGrowBy err [] × DidNotFail err) ⊎ (FailedWithBytesToPrint err a.err × SinkBytesGrowBy out a.out × DidNotFail out)
    → (FailedWithBytesToPrint out b.out × SinkBytesGrowBy err [] × DidNotFail err) ⊎ (FailedWithBytesToPrint err b.err × SinkBytesGrowBy out b.out × DidNotFail out)
which_alike a b out err report line (inl (failed, gets, kept)) = inl (subst (λ (t : List ℕ). FailedWithBytesToPrint out t) report failed, gets, kept)
which_alike a b out err report line (inr (failed, gets, kept)) = inr (subst (λ (t : List ℕ). FailedWithBytesToPrint err t) line failed, subst (λ (t : List ℕ). SinkBytesGrowBy out t) report gets, kept)

printed_alike : (a b : Outcome) (answer : Answer) (out err : SinkBeforeAndAfter) → a.refusal ≡ b.refusal → a.out ≡ b.out → a.err ≡ b.err → IsPrinted a answer out err → IsPrinted b answer out err
printed_alike a b Good out err refusal report line p = stated_alike a b Good out err refusal report line p
printed_alike a b (Refused r) out err refusal report line p = stated_alike a b (Refused r) out err refusal report line p
printed_alike a b OutFault out err refusal report line p = record {
  which = which_alike a b out err report line p.which;
  out_gets = subst (λ (t : List ℕ). SinkBytesGrowByPrefixOf out t) report p.out_gets;
  err_gets = subst (λ (t : List ℕ). SinkBytesGrowByPrefixOf err t) line p.err_gets;
}
printed_alike a b TreeFailed out err refusal report line p = absurd p
printed_alike a b Memory out err refusal report line p = absurd p

reported_printed : (verdict : Verdict) (o : Outcome) (answer : Answer) (out err : SinkBeforeAndAfter) → Reports verdict o → IsPrinted (as_outcome o.files verdict) answer out err → IsPrinted o answer out err
reported_printed verdict o answer out err reports printed =
    printed_alike (as_outcome o.files verdict) o answer out err (ap (λ (x : Outcome). x.refusal) reports) (ap (λ (x : Outcome). x.out) reports) (ap (λ (x : Outcome). x.err) reports) printed

-- what stands for one outcome
reported_answer : (IsOne Leaves : Outcome → Type 0) (tree_failed : Type 0) (verdict : Verdict) (answer : Answer) (out err : SinkBeforeAndAfter) → ReportsOneOfOutcomes IsOne verdict → ((o : Outcome) → IsOne o → Leaves o)
    → ((files : Files) → IsPrinted (as_outcome files verdict) answer out err) → IsAnswerOfSomeOutcomeOrFailure IsOne Leaves tree_failed answer out err
reported_answer IsOne Leaves tree_failed verdict answer out err (o, is, reports) leaves is_shown =
    printed_one IsOne Leaves tree_failed o answer out err is (leaves o is) (reported_printed verdict o answer out err reports (is_shown o.files))

judged_answer : (IsOne Leaves : Outcome → Type 0) (tree_failed : Type 0) (judged : Judged) (answer : Answer) (out err : SinkBeforeAndAfter)
    → IfOk judged (ReportsOneOfOutcomes IsOne) → ((o : Outcome) → IsOne o → OnOk judged (Leaves o)) → (IsErrOf judged Disk → tree_failed) → IsVerdictPrinted judged answer out err
    → IsAnswerOfSomeOutcomeOrFailure IsOne Leaves tree_failed answer out err
judged_answer IsOne Leaves tree_failed (Ok verdict) answer out err found leaves disk is_shown = reported_answer IsOne Leaves tree_failed verdict answer out err found leaves is_shown
judged_answer IsOne Leaves tree_failed (Err Disk) answer out err found leaves disk is_shown =
    subst (λ (a : Answer). IsAnswerOfSomeOutcomeOrFailure IsOne Leaves tree_failed a out err) (sym is_shown.0) (disk refl, is_shown.1)
judged_answer IsOne Leaves tree_failed (Err NoMemory) answer out err found leaves disk is_shown =
    subst (λ (a : Answer). IsAnswerOfSomeOutcomeOrFailure IsOne Leaves tree_failed a out err) (sym is_shown.0) is_shown.1

pub found_at : (v : TreeState) (rest : List TreeState) (judged : Judged) (P : Verdict → TreeState → Type 0) → IfOk judged (λ verdict. IfObservable (v ∷ rest) (P verdict)) → IfOk judged (λ verdict. P verdict v)
found_at v rest (Ok verdict) P found = found
found_at v rest (Err e) P found = found

-- the runs of a command line
abbrev pub Runs : List (List ℕ) → Judged → List TreeState → List TreeState → Type 0
Runs words judged old now = IfObservable old (λ v. IsRunWithRecovery (IsOutcome (command_of words) (files_of v)) (effect_of_arguments (command_of words)) (output words) judged v old now)

pub answered : (words : List (List ℕ)) (old now : List TreeState) (tree_failed : Type 0) (judged : Judged) (answer : Answer) (out err : SinkBeforeAndAfter)
    → IfOk judged (λ verdict. IfObservable old (λ v. ReportsOneOfOutcomes (IsOutcome (command_of words) (files_of v)) verdict)) → Runs words judged old now → (IsErrOf judged Disk → tree_failed) → IsVerdictPrinted judged answer out err
    → IfObservable old (λ v. IsAnswerOfSomeOutcomeOrFailure (IsOutcome (command_of words) (files_of v)) (LeavesFiles now) tree_failed answer out err)
answered words [] now tree_failed judged answer out err found run disk is_shown = tt
answered words (v ∷ rest) now tree_failed judged answer out err found run disk is_shown =
    judged_answer (IsOutcome (command_of words) (files_of v)) (LeavesFiles now) tree_failed judged answer out err (found_at v rest judged (λ verdict w. ReportsOneOfOutcomes (IsOutcome (command_of words) (files_of w)) verdict) found)
    (λ o is. run.leaves o is) disk is_shown

-- ---- no count rose

not_failed : (outcome : Outcome) (before after : Counts) (out err : SinkBeforeAndAfter) → IsFaultless before after out err → FailedWithBytesToPrint out outcome.out ⊎ FailedWithBytesToPrint err outcome.err → ⊥
not_failed outcome before after out err faultless (inl failed) = faultless.out_sink failed.failed.fault
not_failed outcome before after out err faultless (inr failed) = faultless.err_sink failed.failed.fault

complete_by : (words : List (List ℕ)) (files : Files) (Leaves : Outcome → Type 0) (before after : Counts) (answer : Answer) (out err : SinkBeforeAndAfter)
    → IsAnswerOfSomeOutcomeOrFailure (IsOutcome (command_of words) files) Leaves (CountsNewFaultWithCause before after) answer out err → IsFaultless before after out err → AnswersOutcomeUnlessMemory words files answer
complete_by words files Leaves before after Good out err (o, is, stated, leaves) faultless = inr (o, is, stated.same)
complete_by words files Leaves before after (Refused refusal) out err (o, is, stated, leaves) faultless = inr (o, is, stated.same)
complete_by words files Leaves before after OutFault out err (o, is, fault, leaves) faultless = absurd (not_failed o before after out err faultless (either_failed fault.which))
complete_by words files Leaves before after TreeFailed out err (cause, fault) faultless = absurd (faultless.tree cause.fault)
complete_by words files Leaves before after Memory out err fault faultless = inl refl

pub completed : (words : List (List ℕ)) (old now : List TreeState) (before after : Counts) (answer : Answer) (out err : SinkBeforeAndAfter)
    → IfObservable old (λ v. IsAnswerOfSomeOutcomeOrFailure (IsOutcome (command_of words) (files_of v)) (LeavesFiles now) (CountsNewFaultWithCause before after) answer out err)
    → IfObservable old (λ v. IsFaultless before after out err → AnswersOutcomeUnlessMemory words (files_of v) answer)
completed words [] now before after answer out err answered = tt
completed words (v ∷ rest) now before after answer out err answered = λ faultless. complete_by words (files_of v) (LeavesFiles now) before after answer out err answered faultless

-- ---- for every tree

pub answered_by_words : (words : List (List ℕ)) (judged : Judged) (answer : Answer) (out err : SinkBeforeAndAfter)
    → (IsTrue (depends_only_on_arguments (command_of words)) → MatchResult judged (λ verdict. (files : Files) → IsOutcome (command_of words) files (as_outcome files verdict)) (λ fault. fault ≡ NoMemory)) → IsVerdictPrinted judged answer out err
    → IsTrue (depends_only_on_arguments (command_of words)) → IsAnswerOfSomeOutcomeOrFailure (IsOutcome (command_of words) no_names) LeavesAnyFiles ⊥ answer out err
answered_by_words words (Ok verdict) answer out err by_words is_shown rests =
    printed_answer words no_names LeavesAnyFiles ⊥ (as_outcome no_names verdict) answer out err (by_words rests no_names) tt (is_shown no_names)
answered_by_words words (Err Disk) answer out err by_words is_shown rests = absurd (let e : Disk ≡ NoMemory = by_words rests in cc)
answered_by_words words (Err NoMemory) answer out err by_words is_shown rests =
    subst (λ (a : Answer). IsAnswerOfSomeOutcomeOrFailure (IsOutcome (command_of words) no_names) LeavesAnyFiles ⊥ a out err) (sym is_shown.0) is_shown.1

-- ---- by what was found

pub usage_found : (words : List (List ℕ)) (p q : ℕ) (fault : WordsFault) (verdict : Verdict) → p ≡ q → fault ≡ WrongWord q → IsWordsFault fault (command_of words)
    → ((files : Files) → as_outcome files verdict ≡ just_refusal files (Usage p)) → ReportsOneOfOutcomes (IsPossibleOutcome (command_of words)) verdict
usage_found words p q fault verdict same is of is_shown =
    let read : command_of words ≡ Err q = subst (λ (f : WordsFault). IsWordsFault f (command_of words)) is of in
    (as_outcome no_names verdict, subst (λ (r : Result CommandLine ℕ). IsPossibleOutcome r (as_outcome no_names verdict)) (sym read) (is_shown no_names ∙ ap (λ (n : ℕ). just_refusal no_names (Usage n)) same), refl)

pub ran_version : (command : CommandLine) (applet : Applet) (flags : Flags) (operands : List Operand) (verdict : Verdict) → applet ≡ command.applet → applet ≡ Version → flags ≡ command.flags → operands ≡ command.operands
    → ((files : Files) → as_outcome files verdict ≡ version files flags operands) → (read : ℕ → List ℕ → Option (List ℕ)) (files : Files) → as_outcome files verdict ≡ read_only_outcome command read files
ran_version command applet flags operands verdict same is flags_same operands_same printed read files =
    printed files ∙ ap (λ (f : Flags). version files f operands) flags_same ∙ ap (λ (o : List Operand). version files command.flags o) operands_same
    ∙ sym (ap (λ (a : Applet). effect_outcome (effect_of a) a command no_listing_choice_or_clash read files) (sym same ∙ is))

pub answered_by_reads : (words : List (List ℕ)) (tree_failed : Type 0) (judged : Judged) (answer : Answer) (out err : SinkBeforeAndAfter)
    → IfOk judged (ReportsOneOfOutcomes (IsPossibleOutcome (command_of words))) → (IsErrOf judged Disk → tree_failed) → IsVerdictPrinted judged answer out err
    → IsAnswerOfSomeOutcomeOrFailure (IsPossibleOutcome (command_of words)) LeavesAnyFiles tree_failed answer out err
answered_by_reads words tree_failed judged answer out err found disk is_shown =
    judged_answer (IsPossibleOutcome (command_of words)) LeavesAnyFiles tree_failed judged answer out err found (λ o is. any_ok judged) disk is_shown
  where
    any_ok : (j : Judged) → OnOk j (Unit {0})
    any_ok (Ok verdict) = tt
    any_ok (Err e) = tt

-- ---- causes

which_failed : (o : Outcome) (out err : SinkBeforeAndAfter) → (FailedWithBytesToPrint out o.out × SinkBytesGrowBy err [] × DidNotFail err) ⊎ (FailedWithBytesToPrint err o.err × SinkBytesGrowBy out o.out × DidNotFail out)
    → (SinkFailedWithCause out × DidNotFail err) ⊎ (SinkFailedWithCause err × DidNotFail out)
which_failed o out err (inl (failed, gets, kept)) = inl (failed.failed, kept)
which_failed o out err (inr (failed, gets, kept)) = inr (failed.failed, kept)

printed_causes : (before after : Counts) (o : Outcome) (answer : Answer) (out err : SinkBeforeAndAfter) → CountsNoNewFaultOrLackOfMemory before after → IsPrinted o answer out err → AnswerTellsWhetherTreeOrSinkFailed answer before after out err
printed_causes before after o Good out err kept printed = (kept, printed.out_kept, printed.err_kept)
printed_causes before after o (Refused refusal) out err kept printed = (kept, printed.out_kept, printed.err_kept)
printed_causes before after o OutFault out err kept printed = (kept, which_failed o out err printed.which)
printed_causes before after o TreeFailed out err kept printed = absurd printed
printed_causes before after o Memory out err kept printed = absurd printed

pub caused : (before after : Counts) (judged : Judged) (answer : Answer) (out err : SinkBeforeAndAfter) → OnOk judged (CountsNoNewFaultOrLackOfMemory before after) → (IsErrOf judged Disk → CountsNewFaultWithCause before after)
    → (IsErrOf judged NoMemory → CountsNoNewFaultOrLackOfMemory before after) → IsVerdictPrinted judged answer out err → AnswerTellsWhetherTreeOrSinkFailed answer before after out err
caused before after (Ok verdict) answer out err kept disk memory is_shown = printed_causes before after (as_outcome no_names verdict) answer out err kept (is_shown no_names)
caused before after (Err Disk) answer out err kept disk memory is_shown = subst (λ (a : Answer). AnswerTellsWhetherTreeOrSinkFailed a before after out err) (sym is_shown.0) (disk refl, is_shown.1)
caused before after (Err NoMemory) answer out err kept disk memory is_shown = subst (λ (a : Answer). AnswerTellsWhetherTreeOrSinkFailed a before after out err) (sym is_shown.0) (memory refl, is_shown.1)
