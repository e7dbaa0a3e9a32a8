-- `demo`, and all other commands.
use Rattle.std.proofs.Common.{◌≡◌, ℕ, suc, ◌+◌, true, false, List, [], ◌∷◌, Option, Some, None, IsSome, is_some, Result, Ok, Err, refl, sym, ap, subst, ◌∙◌}
use Rattle.std.specs.Prelude.{IfOk, IsTrue, MatchResult}
use Rattle.std.proofs.lemmas.Bool.{false≢true}
use Rattle.base_core.specs.Calls.{IfObservable}
use Rattle.base_core.specs.Files.{Files, no_names, put_name}
use Rattle.base_core.specs.Tree.{TreeState, files_of}
use Rattle.base_core.specs.declared.tree.TreeFault.TheVariants.{Disk, Memory as NoMemory}
use Rattle.command_core.specs.Command.{CommandLine}
use Rattle.command_core.specs.declared.command.Applet.{Applet}
use Rattle.command_core.specs.declared.command.Applet.TheVariants.{Demo}
use Rattle.command_core.specs.declared.operands.Operand.{Operand}
use Rattle.outcome.specs.DemoCount.{demo_count}
use Rattle.outcome.specs.DemoLines.{add_words, demo_repositories, mkndx_words, mkpkg_words}
use Rattle.outcome.specs.DemoReport.{demo_line_of_count_and_add_report}
use Rattle.outcome.proofs.DemoLengths.{plus_one}
use Rattle.outcome.specs.Commands.{IsPossibleOutcomeWithoutDemo, IsOutcomeWithoutDemo, reads_in}
use Rattle.outcome.specs.Demo.{IsDemoOutcomeAfterIndexingByPackageCount, IsDemoOutcomeAfterInstallingByPackageCount, IsDemoOutcomeAfterPackagingByPackageCount, IsDemoOutcomeByPackageCount, IsOutcomeOfNextRunAloneOrEarlierRefusal, IsOutcomeOfNextRunAloneOrBeforeIfRefused, outcome_before_demo_with_repositories_file, with_file_packed_in_demo_package}
use Rattle.outcome.specs.Effect.{does_recover, ignores_files, effect_of, output_name_for_effect}
use Rattle.outcome.specs.Outcome.{Outcome, just_refusal, just_report, just_report_unless_refusal}
use Rattle.outcome.specs.Words.{IsPossibleOutcome, IsPossibleOutcomeOfAppletIncludingRecovery, IsOutcome, IsOutcomeOfAppletIncludingRecovery}
use Rattle.report_core.specs.declared.refusal.Refusal.{Refusal}
use Rattle.report_core.specs.declared.refusal.Refusal.TheVariants.{Usage}
use Rattle.root_names.specs.RootNames.{repositories_name}
use Rattle.tree_memory.specs.Memory.{history_of, tree_state}
use Rattle.tree_memory.specs.declared.tree.MemoryTree.{MemoryTree}
use Rattle.words_core.specs.Faults.{IsWordsFault}
use Rattle.words_core.specs.Grammar.{command_of}
use Rattle.words_core.specs.declared.read.WordsFault.{WordsFault}
use Rattle.words_core.specs.declared.read.WordsFault.TheVariants.{Usage as WrongWord}
use Rattle.apk_front.specs.DemoRuns.{IsRunToOutcome}
use Rattle.apk_front.specs.Moments.{RecoversAndFindsValidIntent, AreRecoveryAndOutcomePathsFree}
use Rattle.apk_front.specs.Runs.{IsRunWithRecovery}
use Rattle.apk_front.specs.Verdicts.{Reports, ReportsOneOfOutcomes, as_outcome, read_only_outcome}
use Rattle.apk_front.specs.declared.answer.Verdict.{Verdict}
use Rattle.apk_front.proofs.AfterRecovery.{LeavesAll, whole_idle}
use Rattle.apk_front.proofs.Judged.{ran_over, words_read}
use Rattle.apk_front.proofs.Runs.{History, Judged, Leaves, ok_always}

-- ---- a command other than `demo`

-- what holds of its outcomes
but_demo : (P : (Files → Outcome → Type 0) → Type 0) (applet : Applet) (command : CommandLine) → (applet ≡ Demo → ⊥)
    → P (λ files o. IsOutcomeWithoutDemo (Ok command) files o) → P (λ files o. IsOutcomeOfAppletIncludingRecovery applet command files o)
but_demo P Demo command never h = absurd (never refl)
but_demo P other command never h = h

found_but_demo : (P : (Outcome → Type 0) → Type 0) (applet : Applet) (command : CommandLine) → (applet ≡ Demo → ⊥)
    → P (λ o. IsPossibleOutcomeWithoutDemo command o) → P (λ o. IsPossibleOutcomeOfAppletIncludingRecovery applet command o)
found_but_demo P Demo command never h = absurd (never refl)
found_but_demo P other command never h = h

-- so it is where the applet is read from the command
never_demo : (command : CommandLine) (applet : Applet) → applet ≡ command.applet → (applet ≡ Demo → ⊥) → command.applet ≡ Demo → ⊥
never_demo command applet same never is = never (same ∙ is)

pub other_found : (command : CommandLine) (applet : Applet) (judged : Judged) (old : History) → applet ≡ command.applet → (applet ≡ Demo → ⊥)
    → IfOk judged (λ verdict. IfObservable old (λ v. ReportsOneOfOutcomes (IsOutcomeWithoutDemo (Ok command) (files_of v)) verdict))
    → IfOk judged (λ verdict. IfObservable old (λ v. ReportsOneOfOutcomes (IsOutcome (Ok command) (files_of v)) verdict))
other_found command applet judged old same never found =
    but_demo (λ Is. IfOk judged (λ verdict. IfObservable old (λ v. ReportsOneOfOutcomes (Is (files_of v)) verdict))) command.applet command (never_demo command applet same never) found

pub other_by_reads : (command : CommandLine) (applet : Applet) (judged : Judged) → applet ≡ command.applet → (applet ≡ Demo → ⊥)
    → IfOk judged (λ verdict. ReportsOneOfOutcomes (IsPossibleOutcomeWithoutDemo command) verdict) → IfOk judged (λ verdict. ReportsOneOfOutcomes (IsPossibleOutcome (Ok command)) verdict)
other_by_reads command applet judged same never found =
    found_but_demo (λ Is. IfOk judged (λ verdict. ReportsOneOfOutcomes Is verdict)) command.applet command (never_demo command applet same never) found

ran_on_words : (command : CommandLine) (judged : Judged) → IsTrue (ignores_files (effect_of command.applet))
    → MatchResult judged (λ verdict. (files : Files) → as_outcome files verdict ≡ read_only_outcome command (reads_in files) files) (λ fault. fault ≡ NoMemory)
    → MatchResult judged (λ verdict. (files : Files) → IsOutcomeWithoutDemo (Ok command) files (as_outcome files verdict)) (λ fault. fault ≡ NoMemory)
ran_on_words command (Ok verdict) rests ran = λ files. ran_over command files (as_outcome files verdict) (words_read (effect_of command.applet) rests) (ran files)
ran_on_words command (Err fault) rests ran = ran

pub other_by_words : (command : CommandLine) (applet : Applet) (judged : Judged) → applet ≡ command.applet → (applet ≡ Demo → ⊥)
    → (IsTrue (ignores_files (effect_of command.applet)) → MatchResult judged (λ verdict. (files : Files) → as_outcome files verdict ≡ read_only_outcome command (reads_in files) files) (λ fault. fault ≡ NoMemory))
    → IsTrue (ignores_files (effect_of command.applet)) → MatchResult judged (λ verdict. (files : Files) → IsOutcome (Ok command) files (as_outcome files verdict)) (λ fault. fault ≡ NoMemory)
other_by_words command applet judged same never ran rests =
    but_demo (λ Is. MatchResult judged (λ verdict. (files : Files) → Is files (as_outcome files verdict)) (λ fault. fault ≡ NoMemory)) command.applet command (never_demo command applet same never) (ran_on_words command judged rests (ran rests))

pub other_run : (command : CommandLine) (applet : Applet) (judged : Judged) (old now : History) → applet ≡ command.applet → (applet ≡ Demo → ⊥)
    → IfObservable old (λ v. IsRunWithRecovery (IsOutcomeWithoutDemo (Ok command) (files_of v)) (effect_of command.applet) (output_name_for_effect (effect_of command.applet) command) judged v old now)
    → IfObservable old (λ v. IsRunWithRecovery (IsOutcome (Ok command) (files_of v)) (effect_of command.applet) (output_name_for_effect (effect_of command.applet) command) judged v old now)
other_run command applet judged old now same never run =
    but_demo (λ Is. IfObservable old (λ v. IsRunWithRecovery (Is (files_of v)) (effect_of command.applet) (output_name_for_effect (effect_of command.applet) command) judged v old now)) command.applet command (never_demo command applet same never) run

pub other_proper : (command : CommandLine) (applet : Applet) (old : History) (P : Type 0) → applet ≡ command.applet → (applet ≡ Demo → ⊥)
    → IfObservable old (λ v. AreRecoveryAndOutcomePathsFree (effect_of command.applet) (output_name_for_effect (effect_of command.applet) command) (IsOutcomeWithoutDemo (Ok command) (files_of v)) (files_of v) → P)
    → IfObservable old (λ v. AreRecoveryAndOutcomePathsFree (effect_of command.applet) (output_name_for_effect (effect_of command.applet) command) (IsOutcome (Ok command) (files_of v)) (files_of v) → P)
other_proper command applet old P same never proper =
    but_demo (λ Is. IfObservable old (λ v. AreRecoveryAndOutcomePathsFree (effect_of command.applet) (output_name_for_effect (effect_of command.applet) command) (Is (files_of v)) (files_of v) → P)) command.applet command (never_demo command applet same never) proper

-- ---- `demo`

-- what its function says
abbrev pub IsDemoJudged : List Operand → Judged → Type 0
IsDemoJudged operands judged = MatchResult judged (λ verdict. (files : Files) → IsDemoOutcomeByPackageCount (demo_count operands) files (as_outcome files verdict)) (λ fault. fault ≡ NoMemory)

demo_by : (command : CommandLine) (applet : Applet) (operands : List Operand) (files : Files) (o : Outcome) → applet ≡ command.applet → applet ≡ Demo → operands ≡ command.operands → IsDemoOutcomeByPackageCount (demo_count operands) files o → IsOutcome (Ok command) files o
demo_by command applet operands files o same is of one =
    subst (λ (a : Applet). IsOutcomeOfAppletIncludingRecovery a command files o) (sym is ∙ same) (subst (λ (os : List Operand). IsDemoOutcomeByPackageCount (demo_count os) files o) of one)

pub demo_by_words : (command : CommandLine) (applet : Applet) (operands : List Operand) (judged : Judged) → applet ≡ command.applet → applet ≡ Demo → operands ≡ command.operands → IsDemoJudged operands judged
    → MatchResult judged (λ verdict. (files : Files) → IsOutcome (Ok command) files (as_outcome files verdict)) (λ fault. fault ≡ NoMemory)
demo_by_words command applet operands (Ok verdict) same is of one = λ files. demo_by command applet operands files (as_outcome files verdict) same is of (one files)
demo_by_words command applet operands (Err fault) same is of one = one

pub demo_found : (command : CommandLine) (applet : Applet) (operands : List Operand) (judged : Judged) (old : History) → applet ≡ command.applet → applet ≡ Demo → operands ≡ command.operands → IsDemoJudged operands judged
    → IfOk judged (λ verdict. IfObservable old (λ v. ReportsOneOfOutcomes (IsOutcome (Ok command) (files_of v)) verdict))
demo_found command applet operands (Err fault) old same is of one = tt
demo_found command applet operands (Ok verdict) [] same is of one = tt
demo_found command applet operands (Ok verdict) (v ∷ old) same is of one =
    (as_outcome (files_of v) verdict, demo_by command applet operands (files_of v) (as_outcome (files_of v) verdict) same is of (one (files_of v)), refl)

pub demo_by_reads : (command : CommandLine) (applet : Applet) (operands : List Operand) (judged : Judged) → applet ≡ command.applet → applet ≡ Demo → operands ≡ command.operands → IsDemoJudged operands judged
    → IfOk judged (λ verdict. ReportsOneOfOutcomes (IsPossibleOutcome (Ok command)) verdict)
demo_by_reads command applet operands (Err fault) same is of one = tt
demo_by_reads command applet operands (Ok verdict) same is of one = (
  as_outcome no_names verdict,
  subst (λ (a : Applet). IsPossibleOutcomeOfAppletIncludingRecovery a command (as_outcome no_names verdict)) (sym is ∙ same)
      (subst (λ (os : List Operand). IsDemoOutcomeByPackageCount (demo_count os) no_names (as_outcome no_names verdict)) of (one no_names)),
  refl,
)

unless_leaves : (files : Files) (refusal : Option Refusal) (report : List ℕ) → Leaves files (just_report_unless_refusal files refusal report)
unless_leaves files None report = (refl, refl)
unless_leaves files (Some refusal) report = (refl, refl)

demo_leaves : (applet : Applet) (command : CommandLine) (files : Files) (o : Outcome) → applet ≡ Demo → IsOutcomeOfAppletIncludingRecovery applet command files o → Leaves files o
demo_leaves Demo command files o demo (last, is_last, is) = subst (Leaves files) (sym is) (unless_leaves files last.refusal (demo_line_of_count_and_add_report (demo_count command.operands) last.out))
demo_leaves other command files o demo is = cc

no_recovery : (applet : Applet) (v : TreeState) → applet ≡ Demo → RecoversAndFindsValidIntent (effect_of applet) v → ⊥
no_recovery applet v demo can = false≢true (subst (λ (a : Applet). does_recover (effect_of a) ≡ true) demo can.0)

pub demo_run : (command : CommandLine) (applet : Applet) (judged : Judged) (old : History) → applet ≡ command.applet → applet ≡ Demo
    → IfObservable old (λ v. IsRunWithRecovery (IsOutcome (Ok command) (files_of v)) (effect_of command.applet) (output_name_for_effect (effect_of command.applet) command) judged v old old)
demo_run command applet judged [] same is = tt
demo_run command applet judged (v ∷ rest) same is =
    whole_idle (IsOutcome (Ok command) (files_of v)) (effect_of command.applet) (output_name_for_effect (effect_of command.applet) command) judged v rest (v ∷ rest) refl
    (λ o one. ok_always (LeavesAll (effect_of command.applet) v o) judged
    (demo_leaves command.applet command (files_of v) o (sym same ∙ is) one, no_recovery command.applet v (sym same ∙ is)))

pub never_disk : (judged : Judged) (operands : List Operand) → IsDemoJudged operands judged → judged ≡ Err Disk → ⊥
never_disk (Ok verdict) operands one is = cc
never_disk (Err fault) operands one is =
    let same : fault ≡ Disk = cc in
    let e : NoMemory ≡ Disk = sym one ∙ same in
    cc

-- ---- a run in its tree

pub ran_to : (words : List (List ℕ)) (command : CommandLine) (old new : MemoryTree) (judged : Judged) → command_of words ≡ Ok command
    → IfOk judged (λ verdict. ReportsOneOfOutcomes (IsOutcomeWithoutDemo (Ok command) (files_of (tree_state old))) verdict)
    → IsRunWithRecovery (IsOutcomeWithoutDemo (Ok command) (files_of (tree_state old))) (effect_of command.applet) (output_name_for_effect (effect_of command.applet) command) judged (tree_state old) (history_of old) (history_of new)
    → IfOk judged (λ verdict. IsRunToOutcome (IsOutcomeWithoutDemo (command_of words) (files_of (tree_state old))) verdict new)
ran_to words command old new (Err fault) is found run = tt
ran_to words command old new (Ok verdict) is (o, one, reports) run =
    (o, subst (λ (r : Result CommandLine ℕ). IsOutcomeWithoutDemo r (files_of (tree_state old)) o) (sym is) one, reports, run.leaves o one)

pub refused_to : (words : List (List ℕ)) (p q : ℕ) (fault : WordsFault) (tree : MemoryTree) (verdict : Verdict) → p ≡ q → fault ≡ WrongWord q → IsWordsFault fault (command_of words)
    → ((files : Files) → as_outcome files verdict ≡ just_refusal files (Usage p)) → IsRunToOutcome (IsOutcomeWithoutDemo (command_of words) (files_of (tree_state tree))) verdict tree
refused_to words p q fault tree verdict same is of is_shown =
    let files = files_of (tree_state tree) in
    let read : command_of words ≡ Err q = subst (λ (f : WordsFault). IsWordsFault f (command_of words)) is of in
    (as_outcome files verdict, subst (λ (r : Result CommandLine ℕ). IsOutcomeWithoutDemo r files (as_outcome files verdict)) (sym read) (is_shown files ∙ ap (λ (n : ℕ). just_refusal files (Usage n)) same), refl, refl)

-- ---- behind another

-- what a run behind another leads to
abbrev pub CountsOnlyRise : List (List ℕ) → (Files → Files) → Verdict → MemoryTree → Verdict → MemoryTree → Type 0
CountsOnlyRise words change last old verdict new =
    (before : Outcome) → Reports last before → files_of (tree_state old) ≡ before.files → IsRunToOutcome (IsOutcomeOfNextRunAloneOrEarlierRefusal words (change before.files) before) verdict new

stays : (refusal : Option Refusal) (words : List (List ℕ)) (files : Files) (before : Outcome) → IsSome refusal → IsOutcomeOfNextRunAloneOrBeforeIfRefused refusal words files before before
stays None words files before some = cc
stays (Some refusal) words files before some = refl

pub after_refused : (words : List (List ℕ)) (change : Files → Files) (last : Verdict) (tree : MemoryTree) → IsSome last.refusal → CountsOnlyRise words change last tree last tree
after_refused words change last tree some = λ before reports files.
    (before, stays before.refusal words (change before.files) before (subst (λ (r : Option Refusal). IsSome r) (ap (λ (o : Outcome). o.refusal) reports) some), reports, files)

moves : (refusal : Option Refusal) (words : List (List ℕ)) (files : Files) (before o : Outcome) → (is_some refusal ≡ false) → IsOutcomeWithoutDemo (command_of words) files o → IsOutcomeOfNextRunAloneOrBeforeIfRefused refusal words files before o
moves None words files before o none one = one
moves (Some refusal) words files before o none one = cc

pub behind_run : (words : List (List ℕ)) (change : Files → Files) (last : Verdict) (old : MemoryTree) (judged : Judged) (new : MemoryTree) → is_some last.refusal ≡ false
    → IfOk judged (λ verdict. IsRunToOutcome (IsOutcomeWithoutDemo (command_of words) (change (files_of (tree_state old)))) verdict new)
    → IfOk judged (λ verdict. CountsOnlyRise words change last old verdict new)
behind_run words change last old (Err fault) new none ran = tt
behind_run words change last old (Ok verdict) new none (o, one, reported, files) = λ before reports same. (
  o,
  moves before.refusal words (change before.files) before o (ap (λ (p : Outcome). is_some p.refusal) (sym reports) ∙ none)
      (subst (λ (f : Files). IsOutcomeWithoutDemo (command_of words) (change f) o) same one),
  reported,
  files,
)

-- ---- all runs

pub start_to : (tree : MemoryTree) (verdict : Verdict) → ((files : Files) → as_outcome files verdict ≡ just_report files []) → files_of (tree_state tree) ≡ outcome_before_demo_with_repositories_file.files → IsRunToOutcome (IsDemoOutcomeAfterPackagingByPackageCount 0) verdict tree
start_to tree verdict shown files = (outcome_before_demo_with_repositories_file, refl, shown outcome_before_demo_with_repositories_file.files, files)

next_at : (i : ℕ) (last verdict : Verdict) (old new : MemoryTree) → IsRunToOutcome (IsDemoOutcomeAfterPackagingByPackageCount i) last old → CountsOnlyRise (mkpkg_words (suc i)) (with_file_packed_in_demo_package (suc i)) last old verdict new → IsRunToOutcome (IsDemoOutcomeAfterPackagingByPackageCount (suc i)) verdict new
next_at i last verdict old new (before, is, reports, files) on =
    let (o, one, reported, after) = on before reports files in
    (o, (before, is, one), reported, after)

pub next_to : (i : ℕ) (last verdict : Verdict) (old new : MemoryTree) → IsRunToOutcome (IsDemoOutcomeAfterPackagingByPackageCount i) last old → CountsOnlyRise (mkpkg_words (i + 1)) (with_file_packed_in_demo_package (i + 1)) last old verdict new → IsRunToOutcome (IsDemoOutcomeAfterPackagingByPackageCount (i + 1)) verdict new
next_to i last verdict old new one =
    subst (λ k. CountsOnlyRise (mkpkg_words k) (with_file_packed_in_demo_package k) last old verdict new → IsRunToOutcome (IsDemoOutcomeAfterPackagingByPackageCount k) verdict new) (sym (plus_one i)) (next_at i last verdict old new one)

pub index_to : (n : ℕ) (last verdict : Verdict) (old new : MemoryTree) → IsRunToOutcome (IsDemoOutcomeAfterPackagingByPackageCount n) last old → CountsOnlyRise (mkndx_words n) (λ files. files) last old verdict new → IsRunToOutcome (IsDemoOutcomeAfterIndexingByPackageCount n) verdict new
index_to n last verdict old new (before, is, reports, files) on =
    let (o, one, reported, after) = on before reports files in
    (o, (before, is, one), reported, after)

pub add_to : (n : ℕ) (last : Verdict) (old new : MemoryTree) (judged : Judged) → IsRunToOutcome (IsDemoOutcomeAfterIndexingByPackageCount n) last old → IfOk judged (λ verdict. CountsOnlyRise (add_words n) (λ files. files) last old verdict new) → IfOk judged (λ verdict. IsRunToOutcome (IsDemoOutcomeAfterInstallingByPackageCount n) verdict new)
add_to n last old new (Err fault) one on = tt
add_to n last old new (Ok verdict) (before, is, reports, files) on =
    let (o, one, reported, after) = on before reports files in
    (o, (before, is, one), reported, after)

-- ---- what is told

pub told_demo : (n : ℕ) (last : Verdict) (tree : MemoryTree) (judged : Judged) → IsRunToOutcome (IsDemoOutcomeAfterInstallingByPackageCount n) last tree
    → MatchResult judged (λ verdict. (files : Files) → as_outcome files verdict ≡ just_report_unless_refusal files last.refusal (demo_line_of_count_and_add_report n last.report)) (λ fault. fault ≡ NoMemory)
    → MatchResult judged (λ verdict. (files : Files) → IsDemoOutcomeByPackageCount n files (as_outcome files verdict)) (λ fault. fault ≡ NoMemory)
told_demo n last tree (Err fault) one shown = shown
told_demo n last tree (Ok verdict) (o, is, reports, files) shown = λ files. (
  o,
  is,
  shown files ∙ ap (λ (r : Option Refusal). just_report_unless_refusal files r (demo_line_of_count_and_add_report n last.report)) (ap (λ (p : Outcome). p.refusal) reports)
      ∙ ap (λ (t : List ℕ). just_report_unless_refusal files o.refusal (demo_line_of_count_and_add_report n t)) (ap (λ (p : Outcome). p.out) reports),
)

-- words and files by which a run is named
pub package_to : (words more : List (List ℕ)) (files at : Files) (new : MemoryTree) (judged : Judged) → words ≡ more → files ≡ at
    → IfOk judged (λ verdict. IsRunToOutcome (IsOutcomeWithoutDemo (command_of words) files) verdict new) → IfOk judged (λ verdict. IsRunToOutcome (IsOutcomeWithoutDemo (command_of more) at) verdict new)
package_to words more files at new judged same_words same_files ran =
    subst (λ (w : List (List ℕ)). IfOk judged (λ verdict. IsRunToOutcome (IsOutcomeWithoutDemo (command_of w) at) verdict new)) same_words
    (subst (λ (f : Files). IfOk judged (λ verdict. IsRunToOutcome (IsOutcomeWithoutDemo (command_of words) f) verdict new)) same_files ran)

-- ---- what stands there before

pub put_to : (files new : Files) (name at bytes text : List ℕ) → new ≡ put_name files name bytes → name ≡ at → bytes ≡ text → new ≡ put_name files at text
put_to files new name at bytes text is same_name same_text = is ∙ (ap (λ (n : List ℕ). put_name files n bytes) same_name ∙ ap (λ (t : List ℕ). put_name files at t) same_text)

pub start_files : (files new : Files) (bytes : List ℕ) → new ≡ put_name files repositories_name bytes → files ≡ no_names → bytes ≡ demo_repositories → new ≡ outcome_before_demo_with_repositories_file.files
start_files files new bytes is none same =
    is ∙ (ap (λ (f : Files). put_name f repositories_name bytes) none ∙ ap (λ (b : List ℕ). put_name {X = List ℕ} no_names repositories_name b) same)

-- ---- the index, and the installation

pub install_to : (n : ℕ) (packaged indexed : Verdict) (first second third : MemoryTree) (index add : List (List ℕ)) (judged : Judged) → IsRunToOutcome (IsDemoOutcomeAfterPackagingByPackageCount n) packaged first
    → index ≡ mkndx_words n → CountsOnlyRise index (λ files. files) packaged first indexed second → add ≡ add_words n → IfOk judged (λ verdict. CountsOnlyRise add (λ files. files) indexed second verdict third)
    → IfOk judged (λ verdict. IsRunToOutcome (IsDemoOutcomeAfterInstallingByPackageCount n) verdict third)
install_to n packaged indexed first second third index add judged one is_index on_index is_add on_add =
    add_to n indexed second third judged
    (index_to n packaged indexed first second one (subst (λ (w : List (List ℕ)). CountsOnlyRise w (λ files. files) packaged first indexed second) is_index on_index))
    (subst (λ (w : List (List ℕ)). IfOk judged (λ verdict. CountsOnlyRise w (λ files. files) indexed second verdict third)) is_add on_add)
