-- Runs of a change that is made, joined to those by what is selected.
use Rattle.std.proofs.Common.{◌≡◌, ◌∙◌, ◌≤◌, ℕ, Bool, true, false, List, All, Option, Result, Ok, Err, length, refl, sym, ap, subst, arith}
use Rattle.std.specs.Prelude.{if◌then◌else◌, nat_lt}
use Rattle.std.proofs.lemmas.Bool.{ltb-false}
use Rattle.change_outcome.specs.Answered.{DenotesUnlessDisk}
use Rattle.change_outcome.specs.Arrivals.{AreMembersFoundFromOldPackagesAndReads, arrivals_seen, members_by_packages_before_and_reads}
use Rattle.change_outcome.specs.declared.arrivals.Arrivals.{Arrivals}
use Rattle.change_outcome.specs.declared.arrivals.MemberRead.{MemberRead}
use Rattle.adb_view.specs.Plain.{Plain}
use Rattle.base_core.specs.Faults.{Counts}
use Rattle.base_core.specs.Files.{Files}
use Rattle.base_core.specs.Tree.{IsWellFormed, TreeState}
use Rattle.change_report.specs.change_inputs.Candidates.{candidates_of, root_pool}
use Rattle.change_report.specs.change_inputs.Chains.{and_then}
use Rattle.change_report.specs.change_inputs.Inputs.{Inputs}
use Rattle.change_report.specs.change_inputs.declared.root.Refused.{Refused}
use Rattle.change_report.specs.change_inputs.declared.root.Refused.TheVariants.{Disk, Memory, Refusal as IsRefused}
use Rattle.change_report.specs.change_outcome.ChangeOutcome.{ChangeDone, ChangeWishes, IsFirstClashUnlessMembersRefusedAmong, members_after_change, change_or_refusal, change_with_members, packages_before_and_after_with_purge, touched_paths, change_done_unless_over_writer_limits}
use Rattle.change_report.specs.change_outcome.Triggers.{unless_trigger_due}
use Rattle.change_report.specs.change_outcome.MembersAfter.{MemberFound, found_members, members_after}
use Rattle.command_core.specs.Command.{CommandLine}
use Rattle.command_core.specs.declared.command.Flags.{Flags}
use Rattle.change_report.specs.db_core.Seen.{members_of, packages_of}
use Rattle.change_report.specs.db_core.declared.members.TheConstants.{MOST_MEMBERS}
use Rattle.dep_core.specs.Repositories.{Repository}
use Rattle.change_report.specs.make_info.Reads.{Reads}
use Rattle.change_report.specs.package_files.Runs.{AreReadsOfTreeIfObservable, HoldsOfSomeReadsOfTree}
use Rattle.change_report.specs.package_changes.Changes.{Replacement}
use Rattle.change_report.specs.package_changes.Placed.{candidates_at, names_with_change_and_old_and_pool_place, replacement_of}
use Rattle.change_report.specs.package_changes.Seen.{placed_names_seen, placed_replacement_from_parts}
use Rattle.change_report.specs.package_changes.declared.placed.PlacedNames.{PlacedNames}
use Rattle.change_report.specs.path_clashes.Clash.{NamePair}
use Rattle.change_report.specs.candidate_core.Rank.{SelectionProblem}
use Rattle.change_report.specs.candidate_core.declared.candidate_list.TheConstants.{MOST_CANDIDATES}
use Rattle.report_core.specs.declared.refusal.Refusal.{Refusal}
use Rattle.engine_core.specs.ChangeRun.{IsEndOfRunOfWantedChange}
use Rattle.engine_core.specs.Changed.{IsFirstClashOrNoneIfRefusedAmong, IsFirstClashOrNoneIfSimulatedAmong, change_of_selected, simulated_change}
use Rattle.engine_core.specs.Preparing.{HasReadAddedPackages, ArePackagesFoundByReads, ArePackagesReadForSelection, IsArrived, IsPlanOfPackages, IsPlanned, IsRootRead, inputs_of_packages, inputs_of_plan, replacement_of_packages, replacement_of_plan, wishes_of_packages, wishes_of_plan}
use Rattle.engine_core.specs.Runs.{IsRunOnSelection}
use Rattle.engine_core.specs.Selecting.{pool_of_inputs_unless_too_many_candidates}
use Rattle.engine_core.specs.SelectionSeen.{HasDatabaseOfInputs, inputs_of_selection, replacement_seen, selection_seen, wishes_of_selection}
use Rattle.engine_core.specs.declared.choosing.Selection.{Selection}
use Rattle.engine_core.specs.declared.packages.ReadPackages.{ReadPackages}
use Rattle.engine_core.specs.declared.planning.Plan.{Plan}
use Rattle.engine_core.specs.Runs.{IsRunOnFoundPackages}
use Rattle.engine_core.proofs.Early.{HaveClash, IsOnlyRead, comes_to_refusal, files_seen, selected_failure, some_reads}
use Rattle.engine_core.proofs.Carries.{part_fails}
use Rattle.engine_core.proofs.Found.{has_arrived, planned_step, planned_step_run, triggers_are}
use Rattle.engine_core.specs.Plans.{IsPlanFrom}
use Rattle.engine_core.specs.Rendering.{IsRefusedForOverflow}
use Rattle.engine_core.specs.declared.rendering.NewRecords.{NewRecords}
use Rattle.change_report.specs.Due.{planned_paths}
use Rattle.change_report.specs.change_inputs.Answers.{Agrees}
use Rattle.engine_core.proofs.WholeRuns.{run_after_reads}

-- a pool that is not refused holds no more than members can be
few_by : (b : Bool) (n : ℕ) (e : Refusal) (made pool : SelectionProblem) → nat_lt 65536 n ≡ b → n ≡ length made.candidates → (if b then Err e else Ok made) ≡ Ok pool → length pool.candidates ≤ 65536
few_by true n e made pool more is same = absurd (cc (same))
few_by false n e made pool more is same = subst (λ (p : SelectionProblem). length p.candidates ≤ 65536) (ap pool_or same) (let most = ltb-false 65536 n more in omega (arith, most, is))
  where
    pool_or : Result SelectionProblem Refusal → SelectionProblem
    pool_or (Ok p) = p
    pool_or (Err refusal) = made

pub few_candidates : (command : CommandLine) (inputs : Inputs) (pool : SelectionProblem) → pool_of_inputs_unless_too_many_candidates command inputs ≡ Ok pool → length pool.candidates ≤ MOST_MEMBERS
unfolding root_pool
few_candidates command inputs pool is = few_by (nat_lt MOST_CANDIDATES (length (candidates_of inputs))) (length (candidates_of inputs)) _ _ pool refl refl is

-- ---- the packages are read

module _ (s : Selection) (database : HasDatabaseOfInputs s) where
  abbrev inputs : Inputs
  inputs = inputs_of_selection s

  abbrev wishes : ChangeWishes
  wishes = wishes_of_selection s

  abbrev placed : Replacement
  placed = replacement_of (placed_replacement_from_parts s.db s.pool s.trace s.again)

  placed_is : placed ≡ replacement_seen s
  placed_is = λ i. record { before = database i; selected = candidates_at s.pool s.trace; again = s.again }

  members_are : (read : Reads) (repositories : List Repository) (flags : Flags) → repositories ≡ inputs.root.repositories → flags ≡ s.command.now.flags
      → members_after placed read repositories flags.no_scripts ≡ members_after_change inputs (replacement_seen s) wishes read
  members_are read repositories flags are is = λ i. members_after (placed_is i) read (are i) (is i).no_scripts

  -- memory has run out
  pub not_read : (old : List TreeState) → HoldsOfSomeReadsOfTree old (λ read. DenotesUnlessDisk {A = ReadPackages} (ArePackagesReadForSelection old s) (Err Memory) (members_after_change inputs (replacement_seen s) wishes read))
  not_read old = let (read, observed) = some_reads old in record { read = read; observed = observed; is = tt }

  module _ (old : List TreeState) (repositories : List Repository) (are : repositories ≡ inputs.root.repositories) (flags : Flags) (is_flags : flags ≡ s.command.now.flags) where
    -- a package that comes is refused
    pub read_refused : (fault : Refused)
        → HoldsOfSomeReadsOfTree old (λ read. DenotesUnlessDisk (λ (a : Arrivals) (found : List MemberFound). AreMembersFoundFromOldPackagesAndReads old (packages_of s.db) (arrivals_seen a) found) (Err fault) (members_after placed read repositories flags.no_scripts))
        → HoldsOfSomeReadsOfTree old (λ read. DenotesUnlessDisk {A = ReadPackages} (ArePackagesReadForSelection old s) (Err fault) (members_after_change inputs (replacement_seen s) wishes read))
    read_refused (IsRefused refusal) explained =
        record { read = explained.read; observed = explained.observed; is = sym (members_are explained.read repositories flags are is_flags) ∙ explained.is }
    read_refused Disk explained = record { read = explained.read; observed = explained.observed; is = tt }
    read_refused Memory explained = record { read = explained.read; observed = explained.observed; is = tt }

    -- the packages that come are read
    pub read_all : (a : ReadPackages) → a.selection.now ≡ s → placed_names_seen a.names ≡ names_with_change_and_old_and_pool_place (placed_replacement_from_parts s.db s.pool s.trace s.again)
        → HoldsOfSomeReadsOfTree old (λ read. DenotesUnlessDisk (λ (b : Arrivals) (found : List MemberFound). AreMembersFoundFromOldPackagesAndReads old (packages_of s.db) (arrivals_seen b) found) (Ok a.arrivals) (members_after placed read repositories flags.no_scripts))
        → HoldsOfSomeReadsOfTree old (λ read. DenotesUnlessDisk (ArePackagesReadForSelection old s) (Ok a) (members_after_change inputs (replacement_seen s) wishes read))
    read_all a same named explained = record {
      read = explained.read;
      observed = explained.observed;
      is = (
        explained.is.0,
        sym (members_are explained.read repositories flags are is_flags) ∙ explained.is.1,
        record {
          selection = same;
          placed = subst (λ (t : Selection). placed_names_seen a.names ≡ names_with_change_and_old_and_pool_place (placed_replacement_from_parts t.db t.pool t.trace t.again)) (sym same) named;
          read = subst (λ (t : Selection). AreMembersFoundFromOldPackagesAndReads old (packages_of t.db) (arrivals_seen a.arrivals) explained.is.0) (sym same) explained.is.2;
        },
      );
    }

-- ---- the run by what is selected

-- what `read_packages` explains
abbrev pub Read : List TreeState → Selection → Result ReadPackages Refused → Type 0
Read old s result = HoldsOfSomeReadsOfTree old (λ read. DenotesUnlessDisk (ArePackagesReadForSelection old s) result (members_after_change (inputs_of_selection s) (replacement_seen s) (wishes_of_selection s) read))

module _ (s : Selection) (real : s.command.now.flags.simulate ≡ false) where
  change_is : (read : Reads) (files : Files) (clash : Option NamePair) → change_of_selected s.command.now read files clash (selection_seen s) ≡ change_or_refusal (inputs_of_selection s) (replacement_seen s) (wishes_of_selection s) read clash files
  change_is read files clash =
      ap (λ (b : Bool). if b then Ok (simulated_change (replacement_seen s) (wishes_of_selection s) files) else change_or_refusal (inputs_of_selection s) (replacement_seen s) (wishes_of_selection s) read clash files) real

  by_found : (read : Reads) (files : Files) (clash : Option NamePair) (members : Result (List MemberFound) Refusal) → members_after_change (inputs_of_selection s) (replacement_seen s) (wishes_of_selection s) read ≡ members
      → change_of_selected s.command.now read files clash (selection_seen s) ≡ and_then members (change_with_members (inputs_of_selection s) (replacement_seen s) (wishes_of_selection s) clash files)
  unfolding change_or_refusal
  by_found read files clash members is =
      change_is read files clash ∙ ap (λ (m : Result (List MemberFound) Refusal). and_then m (change_with_members (inputs_of_selection s) (replacement_seen s) (wishes_of_selection s) clash files)) is

  clash_is : (read : Reads) (found : List MemberFound) (files present_files : Files) (clash : Option NamePair) → members_after_change (inputs_of_selection s) (replacement_seen s) (wishes_of_selection s) read ≡ Ok found
      → IsFirstClashUnlessMembersRefusedAmong (inputs_of_selection s) (wishes_of_selection s) files present_files (Ok found) clash → IsFirstClashOrNoneIfRefusedAmong s.command.now read files present_files (Ok (selection_seen s)) clash
  clash_is read found files present_files clash is here =
      subst (λ (b : Bool). IsFirstClashOrNoneIfSimulatedAmong b (wishes_of_selection s) read files present_files (selection_seen s) clash) (sym real)
      (subst (λ (m : Result (List MemberFound) Refusal). IsFirstClashUnlessMembersRefusedAmong (inputs_of_selection s) (wishes_of_selection s) files present_files m clash) (sym is) here)

  module _ (old mid : List TreeState) (before between : Counts) (quiet : IsOnlyRead old mid before between) where
    -- a package that comes is refused
    pub unarrived : HaveClash → All IsWellFormed old → (fault : Refused) → Read old s (Err fault) → IsRunOnSelection s.command.now (Ok (selection_seen s)) old mid before between (Err fault)
    unarrived have whole (IsRefused refusal) explained =
        let read = explained.read in
        let seen = files_seen have s.command.now (Ok (selection_seen s)) old read whole in
        record {
          read = read;
          observed = explained.observed;
          files = seen.files;
          there = seen.there;
          present_files = seen.files;
          stand = seen.there;
          clash = seen.clash;
          is_clash = seen.is_clash;
          comes = comes_to_refusal _ _ old mid before between quiet refusal (by_found read seen.files seen.clash (Err refusal) explained.is);
        }
    unarrived have whole Disk explained = selected_failure s.command.now (Ok (selection_seen s)) old mid before between have whole quiet Disk tt
    unarrived have whole Memory explained = selected_failure s.command.now (Ok (selection_seen s)) old mid before between have whole quiet Memory tt

    found_run : (read : Reads) (found : List MemberFound) (now : List TreeState) (after : Counts) (result : Result (List ℕ) Refused) → AreReadsOfTreeIfObservable old read
        → members_after_change (inputs_of_selection s) (replacement_seen s) (wishes_of_selection s) read ≡ Ok found
        → IsRunOnFoundPackages (inputs_of_selection s) (replacement_seen s) (wishes_of_selection s) found mid now between after result
        → IsRunOnSelection s.command.now (Ok (selection_seen s)) old now before after result
    found_run read found now after result observed found_is run =
        run_after_reads s.command.now (Ok (selection_seen s)) old mid now before between after result quiet (record {
          read = read;
          observed = subst (λ (h : List TreeState). AreReadsOfTreeIfObservable h read) (sym quiet.same) observed;
          files = run.files;
          there = run.there;
          present_files = run.present_files;
          stand = run.stand;
          clash = run.clash;
          is_clash = clash_is read found run.files run.present_files run.clash found_is run.is_clash;
          comes = subst (λ (p : Result (List MemberFound) Refusal). IsEndOfRunOfWantedChange p (change_of_selected s.command.now read run.files run.clash (selection_seen s)) mid now between after result) (sym found_is)
              (subst (λ (w : Result ChangeDone Refusal). IsEndOfRunOfWantedChange (Ok found) w mid now between after result) (sym (by_found read run.files run.clash (Ok found) found_is)) run.comes);
        })

    -- the packages that come are read
    module _ (database : HasDatabaseOfInputs s) (root : IsRootRead old (inputs_of_selection s)) (a : ReadPackages) (explained : Read old s (Ok a)) where
      pub found_by_reads : ArePackagesFoundByReads mid a explained.read explained.is.0
      found_by_reads = record {
        arrivals = subst (λ (h : List TreeState). HasReadAddedPackages h a explained.is.0) (sym quiet.same) (record {
          database = subst HasDatabaseOfInputs (sym explained.is.2.selection) database;
          placed = explained.is.2.placed;
          read = explained.is.2.read;
          root = subst (λ (t : Selection). IsRootRead old (inputs_of_selection t)) (sym explained.is.2.selection) root;
        });
        is = subst (λ (t : Selection). members_after_change (inputs_of_selection t) (replacement_seen t) (wishes_of_selection t) explained.read ≡ Ok explained.is.0) (sym explained.is.2.selection) explained.is.1;
      }

      pub arrived_run : (now : List TreeState) (after : Counts) (result : Result (List ℕ) Refused)
          → (ArePackagesFoundByReads mid a explained.read explained.is.0 → IsRunOnFoundPackages (inputs_of_packages a) (replacement_of_packages a) (wishes_of_packages a) explained.is.0 mid now between after result)
          → IsRunOnSelection s.command.now (Ok (selection_seen s)) old now before after result
      arrived_run now after result run =
          found_run explained.read explained.is.0 now after result explained.observed explained.is.1
          (subst (λ (t : Selection). IsRunOnFoundPackages (inputs_of_selection t) (replacement_seen t) (wishes_of_selection t) explained.is.0 mid now between after result) explained.is.2.selection (run found_by_reads))

-- ---- the run by the plan

-- the law that packages that were read are those that are found
abbrev pub HaveMembers : Type 0
HaveMembers = (history : List TreeState) (before : List Plain) (reads : List MemberRead) (found : List MemberFound) → AreMembersFoundFromOldPackagesAndReads history before reads found → members_by_packages_before_and_reads before reads ≡ found_members found

module _ (law : HaveMembers) (old mid : List TreeState) (before between : Counts) (quiet : IsOnlyRead old mid before between) (a : ReadPackages) (p : Plan) (plan : IsPlanOfPackages old a p) (read : Reads) (found : List MemberFound) (are : ArePackagesFoundByReads old a read found) where
  arrivals_of_plan : HasReadAddedPackages old p.packages.now found
  arrivals_of_plan = subst (λ (b : ReadPackages). HasReadAddedPackages old b found) (sym plan.packages) are.arrivals

  plan_arrived : IsArrived old p.packages.now p.members found
  plan_arrived = has_arrived old p.packages.now p.members found (plan.members ∙ law _ _ _ found arrivals_of_plan.read) arrivals_of_plan

  pub plan_is : IsPlanned mid p found plan.files.lists.files
  plan_is = planned_step old mid p found plan.files quiet.same plan_arrived

  pub plan_run : (now : List TreeState) (after : Counts) (result : Result (List ℕ) Refused)
      → ((files : Files) → IsPlanned mid p found files → IsEndOfRunOfWantedChange (Ok found) (change_done_unless_over_writer_limits (inputs_of_plan p) (replacement_of_plan p) (wishes_of_plan p) found files) mid now between after result)
      → IsRunOnFoundPackages (inputs_of_packages a) (replacement_of_packages a) (wishes_of_packages a) found old now before after result
  plan_run now after result comes =
      subst (λ (b : ReadPackages). IsRunOnFoundPackages (inputs_of_packages b) (replacement_of_packages b) (wishes_of_packages b) found old now before after result) plan.packages
      (planned_step_run old mid now before between after p found result
      (λ files planned.
      subst (λ (w : Result ChangeDone Refusal). IsEndOfRunOfWantedChange (Ok found) w mid now between after result)
      (sym (ap (λ (t : Result Bool Refusal). and_then t (λ allowed. change_done_unless_over_writer_limits (inputs_of_plan p) (replacement_of_plan p) (wishes_of_plan p) found files)) (allowed files planned)))
      (comes files planned))
      plan.files quiet plan_arrived)
    where
      allowed : (files : Files) → IsPlanned mid p found files → unless_trigger_due (wishes_of_plan p).no_scripts (touched_paths (packages_before_and_after_with_purge (inputs_of_plan p) (wishes_of_plan p) found) files) (found_members found) ≡ Ok true
      allowed files planned = sym (triggers_are mid p found files planned) ∙ plan.triggers

-- ---- a trigger is due

-- a part that agrees with a definition does not end by an I/O error
pub no_disk : {A B : Type 0} (view : A → B) (wanted : Result B Refusal) (fault : Refused) → Agrees view (Err fault) wanted → fault ≡ Disk → ⊥
no_disk view wanted (IsRefused refusal) told is = cc
no_disk view wanted Disk told is = told
no_disk view wanted Memory told is = cc

pub untriggered : HaveMembers → (old mid : List TreeState) (before between : Counts) → IsOnlyRead old mid before between → (p : Plan) → IsPlanFrom old (wishes_of_plan p).purge p.packages.now.selection.now.db p.members p.files
    → members_of p.members ≡ members_by_packages_before_and_reads (packages_of p.packages.now.selection.now.db) (arrivals_seen p.packages.now.arrivals) → (found : List MemberFound) → HasReadAddedPackages old p.packages.now found
    → (fault : Refused) (flags : Flags) → flags ≡ p.packages.now.selection.now.command.now.flags
    → Agrees {A = Unit {0}} (λ _. true) (Err fault) (unless_trigger_due flags.no_scripts (planned_paths p.files) (members_of p.members))
    → IsRunOnFoundPackages (inputs_of_plan p) (replacement_of_plan p) (wishes_of_plan p) found old mid before between (Err fault)
untriggered law old mid before between quiet p files members found arrivals fault flags is_flags told =
    planned_step_run old mid mid before between between p found (Err fault)
    (λ fs planned.
    part_fails {A = Unit {0}} {B = Bool} (Ok found) (unless_trigger_due (wishes_of_plan p).no_scripts (touched_paths (packages_before_and_after_with_purge (inputs_of_plan p) (wishes_of_plan p) found) fs) (found_members found))
    (unless_trigger_due flags.no_scripts (planned_paths p.files) (members_of p.members)) (λ allowed. change_done_unless_over_writer_limits (inputs_of_plan p) (replacement_of_plan p) (wishes_of_plan p) found fs) (λ _. true) mid between fault
    ((λ i. unless_trigger_due (is_flags i).no_scripts (planned_paths p.files) (members_of p.members)) ∙ triggers_are mid p found fs planned) told)
    files quiet (has_arrived old p.packages.now p.members found (members ∙ law _ _ _ found arrivals.read) arrivals)

-- nor does the rendering
pub large_no_disk : (history : List TreeState) (p : Plan) (found : List MemberFound) {files : Files} → IsPlanned history p found files → (records : NewRecords) (fault : Refused) → IsRefusedForOverflow p records fault → fault ≡ Disk → ⊥
large_no_disk history p found {files} planned records fault large is = no_disk {A = Bool} (λ _. true) _ fault (large history found files planned) is
