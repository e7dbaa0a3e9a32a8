-- What a change comes to that is carried through.
use Rattle.std.proofs.Common.{◌≡◌, inl, inr, ◌∙◌, ◌<◌, ◌^◌, ◌+◌, ℕ, zero, suc, arith, Bool, true, false, List, [], ◌∷◌, ◌++◌, length, map, All, Contains, Option, Some, None, Result, Ok, Err, refl, sym, ap, subst, true≢false, Bor}
use Rattle.std.specs.Prelude.{◌==◌, ◌||◌, not, is_some, slice_get}
use Rattle.std.proofs.lemmas.Bool.{ne_eqb}
use Rattle.std.proofs.lemmas.List.{length-map}
use Rattle.std.specs.Option.{option_copied}
use Rattle.std.specs.Str.{bytes_eq}
use Rattle.change_outcome.specs.adb_write.Canonical.{ByteAndValueCounts, counts_after_values, counts_at_first_overflow}
use Rattle.journal_staging.specs.adb_schema.Reserved.{is_reserved}
use Rattle.base_core.specs.Listed.{AreSortedDistinctTexts}
use Rattle.base_core.specs.Name.{IsName}
use Rattle.base_core.proofs.Rising.{IsIn, rises_from_pairs}
use Rattle.base_core.specs.Calls.{IfObservable}
use Rattle.base_core.specs.Faults.{Counts}
use Rattle.base_core.specs.Files.{Files}
use Rattle.base_core.specs.Tree.{TreeState, files_of}
use Rattle.change_report.specs.own_core.FileChange.{FileChange}
use Rattle.change_report.specs.own_core.FilesAfter.{DatabaseAndWorldAfter, listing_bytes}
use Rattle.change_report.specs.own_core.PlanLists.{FileWrite, file_writes_of, first_reserved_added_path_in_byte_order, sorted_distinct_names}
use Rattle.change_report.specs.change_inputs.Answers.{Agrees}
use Rattle.change_report.specs.change_inputs.Chains.{and_then}
use Rattle.change_report.specs.change_inputs.Inputs.{Inputs}
use Rattle.change_report.specs.change_inputs.declared.root.Refused.{Refused}
use Rattle.change_report.specs.change_inputs.declared.root.Refused.TheVariants.{Disk, Memory, Refusal as IsRefused}
use Rattle.change_report.specs.change_outcome.Premises.{OldAndAddedPackagesListNoReservedPath, AreDatabaseAndWorldReadFromFiles}
use Rattle.change_report.proofs.change_outcome.ChangeLeads.{leads}
use Rattle.change_report.proofs.change_outcome.ChangeNames.{change_names}
use Rattle.change_report.proofs.change_outcome.FreeNames.{name_of_any, none_of, once_rising}
use Rattle.change_report.specs.journal_intent.FreeNames.{HaveNoRepeats}
use Rattle.change_report.specs.journal_intent.Intent.{AreDistinctNamesAllowedInIntent, Intent}
use Rattle.engine_core.proofs.Once.{once_both}
use Rattle.change_report.proofs.change_outcome.Leading.{acted_is}
use Rattle.change_report.proofs.change_outcome.Room.{room}
use Rattle.change_report.specs.change_outcome.ChangeOutcome.{ChangeDone, ChangeWishes, intent_of_change, bytes_or_empty_under, change_done, has_actions, packages_before_and_after_with_purge, is_absent_or_different, name_if_needed, database_and_world_after_change, or_result_too_large, unless_overflow, change_done_unless_over_writer_limits, names_of_written_database_and_world}
use Rattle.change_report.specs.change_outcome.MembersAfter.{MemberFound, found_package_contents, found_members}
use Rattle.change_report.specs.journal_core.Recovery.{files_after_actions, intent_name}
use Rattle.change_report.specs.journal_core.Staged.{AreIntentAndStagedPathsFree, HasEmptyStageAndFreeJournalPaths, HasNoStagedNames, Staging, action_count, new_stage_of_removals_and_writes, files_with_staged}
use Rattle.change_report.specs.journal_intent.IntentValue.{intent_of_lists, value_of_intent}
use Rattle.change_report.specs.own_core.NamesAfter.{name_change}
use Rattle.change_report.specs.db_core.Members.{Member, is_added, member_name}
use Rattle.change_report.specs.db_core.Seen.{members_of}
use Rattle.change_report.specs.db_core.NewDatabase.{database_of}
use Rattle.change_report.specs.file_owners.Owners.{owned_flags_of}
use Rattle.change_report.specs.file_owners.Replaces.{package_version_text}
use Rattle.change_report.specs.own_core.Planned.{IsOfAddedFile, IsUnreservedName, written_names}
use Rattle.change_report.specs.path_clashes.Clash.{HasNoClash}
use Rattle.change_report.specs.own_core.WritesSeen.{writes_in}
use Rattle.change_report.specs.package_changes.Changes.{Replacement}
use Rattle.base_core.specs.declared.cause.Cause.{Cause}
use Rattle.report_core.specs.declared.refusal.Refusal.{Refusal}
use Rattle.report_core.specs.declared.refusal.Refusal.TheVariants.{PackageBad}
use Rattle.root_names.specs.RootNames.{database_name, text_database_name, world_name}
use Rattle.journal_staging.specs.Carried.{IsCarriedTo}
use Rattle.journal_staging.specs.Sources.{EachDenotes}
use Rattle.journal_staging.specs.Spoiled.{HasSpoiledFile, IsSpoiledAt, IsFileWithOnlyContentsSpoiled}
use Rattle.journal_staging.specs.package_verifier.Tested.{IsTestedOf}
use Rattle.journal_staging.specs.package_verifier.declared.package.TestedPackage.{TestedPackage}
use Rattle.journal_staging.specs.declared.writes.Source.{Source}
use Rattle.journal_staging.specs.declared.writes.Source.TheVariants.{Bytes, File, Link}
use Rattle.journal_staging.specs.declared.writes.StageFault.{StageFault}
use Rattle.journal_staging.specs.declared.writes.StageFault.TheVariants as Stages
use Rattle.journal_staging.specs.declared.writes.StagedWrite.{StagedWrite}
use Rattle.engine_core.specs.Committing.{IsReadyToCommit, IsRefusedPackage, result_of_ready}
use Rattle.engine_core.specs.Rendering.{IsRefusedForOverflow, IsRendered, IsStageOf, removals_of_plan}
use Rattle.engine_core.specs.ChangeRun.{IsEndOfRunOfWantedChange, DoesCommit, IsUnchangedOrCommit, report_of_result}
use Rattle.engine_core.specs.Preparing.{AreRecordWrites, AreNewRecordsOf, IsPlanned, bytes_if, inputs_of_plan, replacement_of_plan, wishes_of_plan}
use Rattle.engine_core.specs.Writing.{HasBytes, IsWriteOfRecord, IsSourceOfWrite, IsWriteOfChange, package_at, database_and_world_names, name_of_write}
use Rattle.engine_core.specs.declared.planning.Plan.{Plan}
use Rattle.engine_core.specs.declared.rendering.NewRecords.{NewRecords}
use Rattle.engine_core.specs.declared.rendering.Rendered.{Rendered}
use Rattle.engine_core.specs.declared.writes.RecordWrites.{RecordWrites}
use Rattle.engine_core.proofs.Early.{comes_to_failure, comes_to_idle, comes_to_refusal, if_told, nothing_read}
use Rattle.engine_core.proofs.Sources.{FilesAreRead, all_at, all_stand}
use Rattle.engine_core.proofs.SpoiledPackages.{found_spoiled}

-- ---- limits of the writer

fits : {A : Type 0} (o : Option ByteAndValueCounts) (a : A) → unless_overflow o true ≡ Ok true → unless_overflow o a ≡ Ok a
fits None a is = refl
fits (Some counts) a is = absurd (cc)

too_large : {A : Type 0} (o : Option ByteAndValueCounts) (a : A) (refusal : Refusal) → unless_overflow o true ≡ Err refusal → unless_overflow o a ≡ Err refusal
too_large None a refusal is = absurd (cc)
too_large (Some counts) a refusal is = let same : _ ≡ refusal = cc in ap Err same

some_copied : (o : Option (Bor (List ℕ))) (b : Bool) (bytes : List ℕ) → option_copied o ≡ bytes_if b bytes → is_some o ≡ b
some_copied None true bytes is = absurd (cc)
some_copied None false bytes is = refl
some_copied (Some x) true bytes is = refl
some_copied (Some x) false bytes is = absurd (cc)

-- the result of a change that is prepared except for the journal entry, with these bytes of the database
abbrev pub ready_change : Inputs → Replacement → ChangeWishes → List MemberFound → Files → List ℕ → Result ChangeDone Refusal
ready_change inputs r wishes found files database =
    let records = database_and_world_after_change inputs database in
    let actions = intent_of_change inputs (packages_before_and_after_with_purge inputs wishes found) files records in
    unless_overflow (counts_at_first_overflow (value_of_intent actions)) (change_done inputs r wishes found files records)

-- ---- what is made ready

pub record IsMadeReady (history : List TreeState) (p : Plan) (found : List MemberFound) (files : Files) (records : NewRecords)
    (rw : RecordWrites) (writes : List StagedWrite) (removals : List (List ℕ)) : Type 0 where
  pub plan : IsPlanned history p found files
  pub own : AreNewRecordsOf (inputs_of_plan p) records
  pub which : AreRecordWrites (inputs_of_plan p) records rw
  pub names : map name_of_write writes ≡ sorted_distinct_names (written_names p.files ++ database_and_world_names rw)
  pub each : All (IsWriteOfChange (members_of p.members) (package_at p.packages.now.arrivals) (writes_in p.files.writes) rw) writes
  pub removed : removals ≡ sorted_distinct_names (p.files.removals ++ name_if_needed (inputs_of_plan p).root.database.from_text text_database_name)

-- what is rendered is made ready
pub made_ready : (history : List TreeState) (p : Plan) (r : Rendered) (ready : IsReadyToCommit history p r)
    → IsMadeReady history p ready.found ready.files ready.records ready.rendered.written.of_records r.writes.items (removals_of_plan p)
made_ready history p r ready = record {
  plan = ready.planned;
  own = ready.own;
  which = ready.rendered.written.which;
  names = ready.rendered.written.names;
  each = ready.rendered.written.each;
  removed = refl;
}

-- ---- names stand once

all_in : (P : List ℕ → Type 0) (xs : List (List ℕ)) → All P xs → (q : List ℕ) → IsIn q xs → P q
all_in P [] all q here = absurd here
all_in P (x ∷ xs) all q (inl is) = subst P (sym is) (all 0 x (omega arith))
all_in P (x ∷ xs) all q (inr more) = all_in P xs (λ k d below. all (suc k) d (omega (arith, below))) q more

pub once_reserved : (names more : List (List ℕ)) → All IsUnreservedName names → AreSortedDistinctTexts names → HaveNoRepeats more → ((q : List ℕ) → IsIn q more → is_reserved q ≡ true) → HaveNoRepeats (names ++ more)
once_reserved names more listed rise once reserved =
    once_both names more (once_rising names (rises_from_pairs names rise)) once
    (λ q at. none_of q more (λ here. true≢false (sym (reserved q here) ∙ (all_in IsUnreservedName names listed q (name_of_any q names at)).unreserved)))

pub text_once : (b : Bool) → HaveNoRepeats (name_if_needed b text_database_name)
text_once true = (refl, tt)
text_once false = tt

pub text_reserved : (b : Bool) (q : List ℕ) → IsIn q (name_if_needed b text_database_name) → is_reserved q ≡ true
text_reserved true q (inl is) = ap is_reserved is
text_reserved true q (inr here) = absurd here
text_reserved false q here = absurd here

two_once : (a b : Bool) → HaveNoRepeats (name_if_needed a database_name ++ name_if_needed b world_name)
two_once true true = (refl, (refl, tt))
two_once true false = (refl, tt)
two_once false true = (refl, tt)
two_once false false = tt

world_reserved : (b : Bool) (q : List ℕ) → IsIn q (name_if_needed b world_name) → is_reserved q ≡ true
world_reserved true q (inl is) = ap is_reserved is
world_reserved true q (inr here) = absurd here
world_reserved false q here = absurd here

two_reserved : (a b : Bool) (q : List ℕ) → IsIn q (name_if_needed a database_name ++ name_if_needed b world_name) → is_reserved q ≡ true
two_reserved true b q (inl is) = ap is_reserved is
two_reserved true b q (inr here) = world_reserved b q here
two_reserved false b q here = world_reserved b q here

records_once : (inputs : Inputs) (records : DatabaseAndWorldAfter) → HaveNoRepeats (names_of_written_database_and_world inputs records)
records_once inputs records = two_once (is_absent_or_different inputs.root.database.file records.database) (not (bytes_eq inputs.root.world_text records.world))

records_are_reserved : (inputs : Inputs) (records : DatabaseAndWorldAfter) (q : List ℕ) → IsIn q (names_of_written_database_and_world inputs records) → is_reserved q ≡ true
records_are_reserved inputs records q here = two_reserved (is_absent_or_different inputs.root.database.file records.database) (not (bytes_eq inputs.root.world_text records.world)) q here

-- of the plan alone
module _ (history : List TreeState) (p : Plan) (found : List MemberFound) (files : Files) (plan : IsPlanned history p found files) where
  pub no_reserved : OldAndAddedPackagesListNoReservedPath (packages_before_and_after_with_purge (inputs_of_plan p) (wishes_of_plan p) found)
  no_reserved = record { before = plan.unreserved; coming = sym (ap first_reserved_added_path_in_byte_order plan.arrived.members) ∙ plan.owners.allowed }

  module _ (records : NewRecords) (own : AreNewRecordsOf (inputs_of_plan p) records) (rw : RecordWrites) (which : AreRecordWrites (inputs_of_plan p) records rw) where
    pub record_names_are : database_and_world_names rw ≡ names_of_written_database_and_world (inputs_of_plan p) (database_and_world_after_change (inputs_of_plan p) records.database.items)
    record_names_are =
        let inputs = inputs_of_plan p in
        let named = which.database_name ∙ own.database_name in
        let world_named = which.world_name ∙ own.world_name in
        let database = some_copied rw.database _ records.database.items which.database in
        let world = some_copied rw.world _ records.world which.world ∙ ap (λ (w : List ℕ). not (bytes_eq inputs.root.world_text w)) own.world in
        λ i. name_if_needed (database i) (named i) ++ name_if_needed (world i) (world_named i)

    pub written_once : HaveNoRepeats (written_names p.files ++ database_and_world_names rw)
    written_once =
        once_reserved (written_names p.files) (database_and_world_names rw) plan.names.writes plan.names.writes_rise
        (subst HaveNoRepeats (sym record_names_are) (records_once (inputs_of_plan p) (database_and_world_after_change (inputs_of_plan p) records.database.items)))
        (λ q here. records_are_reserved (inputs_of_plan p) (database_and_world_after_change (inputs_of_plan p) records.database.items) q (subst (λ (ns : List (List ℕ)). IsIn q ns) record_names_are here))

    pub write_names_are : written_names p.files ++ database_and_world_names rw
        ≡ map (λ w. w.name) (file_writes_of (packages_before_and_after_with_purge (inputs_of_plan p) (wishes_of_plan p) found) files) ++ names_of_written_database_and_world (inputs_of_plan p) (database_and_world_after_change (inputs_of_plan p) records.database.items)
    write_names_are = let lists = plan.lists.writes in λ i. map (λ w. w.name) (lists i) ++ record_names_are i

contained : {X : Type 0} (P : X → Type 0) (xs : List X) (x : X) → All P xs → Contains xs x → P x
contained P xs x all (k, less, is) = subst P is (all k x less)

-- the package of a file that is written comes, and it is the one that is spoiled
module _ (history : List TreeState) (p : Plan) (found : List MemberFound) (files : Files) (plan : IsPlanned history p found files)
    (writes : List StagedWrite) (rw : RecordWrites) (each : All (IsWriteOfChange (members_of p.members) (package_at p.packages.now.arrivals) (writes_in p.files.writes) rw) writes) (member : ℕ) (cause : Cause) where
  given_no_file : (bytes : List ℕ) (s : Source) → HasBytes bytes s → IsSpoiledAt member cause s → ⊥
  given_no_file bytes (Bytes own) has is = is
  given_no_file bytes (Link target) has is = is
  given_no_file bytes (File f) has is = has

  record_no_file : (name : List ℕ) (opt : Option (Bor (List ℕ))) (w : StagedWrite) → IsWriteOfRecord name opt w → IsSpoiledAt member cause w.source → ⊥
  record_no_file name None w is at = is
  record_no_file name (Some bytes) w is at = given_no_file bytes.now w.source is.source at

  abbrev Spoiled : ℕ → Type 0
  Spoiled place = (pkg : TestedPackage) × (package_at p.packages.now.arrivals place ≡ Some pkg)
      × ((name tested : List ℕ) → IsTestedOf name tested pkg → (file : List ℕ) × IsFileWithOnlyContentsSpoiled tested file cause)

  planned_at : (w : FileWrite) (s : Source) → IsSourceOfWrite (members_of p.members) (package_at p.packages.now.arrivals) w s → IsSpoiledAt member cause s → (w.member ≡ member) × Spoiled w.member
  planned_at w (Bytes own) source at = absurd at
  planned_at w (Link target) source at = absurd at
  planned_at w (File f) source at = (sym source.1.member ∙ at.0, (f.package.now, source.1.read, at.1))

  abbrev ComesSpoiled : Type 0
  ComesSpoiled = (m : Member) × (slice_get (members_of p.members) member ≡ Some m) × (is_added m ≡ true) × Spoiled member

  by_write : (w : StagedWrite) → IsWriteOfChange (members_of p.members) (package_at p.packages.now.arrivals) (writes_in p.files.writes) rw w → IsSpoiledAt member cause w.source → ComesSpoiled
  by_write w (inl f) at =
      let of = contained (IsOfAddedFile (members_of p.members)) (writes_in p.files.writes) f.file plan.sources f.planned_file in
      let (here, spoiled) = planned_at f.file w.source f.source at in
      (of.member, subst (λ (n : ℕ). slice_get (members_of p.members) n ≡ Some of.member) here of.at, of.comes, subst Spoiled here spoiled)
  by_write w (inr (inl r)) at = absurd (record_no_file rw.database_name.now rw.database w r at)
  by_write w (inr (inr r)) at = absurd (record_no_file rw.world_name.now rw.world w r at)

  pub file_comes : HasSpoiledFile member cause writes → ComesSpoiled
  file_comes has =
      by_write has.write
      (all_at (IsWriteOfChange (members_of p.members) (package_at p.packages.now.arrivals) (writes_in p.files.writes) rw) writes has.number has.write each has.at) has.is

module _ (history : List TreeState) (p : Plan) (found : List MemberFound) (files : Files) (own : NewRecords)
    (rw : RecordWrites) (writes : List StagedWrite) (removals : List (List ℕ)) (ready : IsMadeReady history p found files own rw writes removals) where
  abbrev inputs : Inputs
  inputs = inputs_of_plan p

  abbrev change : FileChange
  change = packages_before_and_after_with_purge inputs (wishes_of_plan p) found

  abbrev records : DatabaseAndWorldAfter
  records = database_and_world_after_change inputs own.database.items

  abbrev actions : Intent
  actions = intent_of_change inputs change files records

  abbrev done : ChangeDone
  done = change_done inputs (replacement_of_plan p) (wishes_of_plan p) found files records

  abbrev wanted : Result ChangeDone Refusal
  wanted = ready_change inputs (replacement_of_plan p) (wishes_of_plan p) found files own.database.items

  pub written_is : map name_of_write writes ≡ actions.writes
  written_is = ready.names ∙ ap sorted_distinct_names (write_names_are history p found files ready.plan own ready.own rw ready.which)

  pub removed_is : removals ≡ actions.removals
  removed_is = ready.removed ∙ ap (λ (names : List (List ℕ)). sorted_distinct_names (names ++ name_if_needed inputs.root.database.from_text text_database_name)) ready.plan.lists.removals

  free : OldAndAddedPackagesListNoReservedPath change
  free = no_reserved history p found files ready.plan

  pub may_be_changed : (names : List (List ℕ)) → names ≡ map name_of_write writes → All IsName removals → All IsName names → AreDistinctNamesAllowedInIntent (removals ++ names)
  may_be_changed names names_is gone wrote =
      let named : AreDistinctNamesAllowedInIntent (actions.removals ++ actions.writes) =
      change_names inputs change files records free (subst (All IsName) removed_is gone) (subst (All IsName) (names_is ∙ written_is) wrote) in
      subst AreDistinctNamesAllowedInIntent (λ i. sym removed_is i ++ sym (names_is ∙ written_is) i) named

  -- ---- the intent

  pub overflow_is : counts_at_first_overflow (value_of_intent (intent_of_lists removals (map name_of_write writes))) ≡ counts_at_first_overflow (value_of_intent actions)
  overflow_is = λ i. counts_at_first_overflow (value_of_intent (intent_of_lists (removed_is i) (written_is i)))

  pub ready_fits : unless_overflow (counts_at_first_overflow (value_of_intent (intent_of_lists removals (map name_of_write writes)))) true ≡ Ok true → wanted ≡ Ok done
  ready_fits is = fits (counts_at_first_overflow (value_of_intent actions)) done (ap (λ (o : Option ByteAndValueCounts). unless_overflow o true) (sym overflow_is) ∙ is)

  pub commits_is : has_actions (record { removals = removals; writes = map name_of_write writes }) ≡ done.commits
  commits_is = λ i. has_actions (record { removals = removed_is i; writes = written_is i })

  -- ---- where the tree shows its files

  module _ (few : length (map name_of_write writes) < 2 ^ 63) (stage : Staging) (is_new : stage ≡ new_stage_of_removals_and_writes removals (map name_of_write writes)) where
    acted : (v : TreeState) → files ≡ files_of v → AreDatabaseAndWorldReadFromFiles (files_of v) inputs.root → HasNoStagedNames (files_of v)
        → files_after_actions stage.intent (files_with_staged 1 (map (bytes_or_empty_under done.files) (map name_of_write writes)) (files_of v)) ≡ done.files
    acted v told root empty =
        let of_files : files_after_actions actions (files_with_staged 1 (map (bytes_or_empty_under done.files) actions.writes) files) ≡ done.files =
        acted_is actions.removals actions.writes files done.files
        (leads inputs change (listing_bytes (found_package_contents found)) own.database.items files (subst (λ (f : Files). AreDatabaseAndWorldReadFromFiles f inputs.root) (sym told) root) free
        (subst HasNoStagedNames (sym told) empty) (subst (λ (names : List (List ℕ)). length names < 2 ^ 63) written_is few)) in
        (λ i. files_after_actions (is_new i).intent (files_with_staged 1 (map (bytes_or_empty_under done.files) (map name_of_write writes)) (sym told i)))
        ∙ ((λ i. files_after_actions (intent_of_lists (removed_is i) (written_is i)) (files_with_staged 1 (map (bytes_or_empty_under done.files) (written_is i)) files))
        ∙ of_files)

    located : (v : TreeState) (earlier : List TreeState) → FilesAreRead (v ∷ earlier) found (package_at p.packages.now.arrivals) → files ≡ files_of v → AreDatabaseAndWorldReadFromFiles (files_of v) inputs.root
        → EachDenotes (files_of v) writes (map (bytes_or_empty_under done.files) (map name_of_write writes))
    located v earlier read told root =
        all_stand inputs change found own rw (package_at p.packages.now.arrivals) ready.own ready.which free v earlier read files (subst (λ (f : Files). AreDatabaseAndWorldReadFromFiles f inputs.root) (sym told) root) writes
        (subst (λ (ms : List Member). All (IsWriteOfChange ms (package_at p.packages.now.arrivals) (file_writes_of change files) rw) writes) ready.plan.arrived.members
        (subst (λ (ws : List FileWrite). All (IsWriteOfChange (members_of p.members) (package_at p.packages.now.arrivals) ws rw) writes) ready.plan.lists.writes ready.each))

    -- what holds of the run by its contents and the files that it leads to holds by those of the change
    pub where_shown : (ws : List StagedWrite) → ws ≡ writes → (P : TreeState → Files → Type 0) → FilesAreRead history found (package_at p.packages.now.arrivals)
        → IfObservable history (λ v. (contents : List (List ℕ)) → v.names intent_name ≡ None → HasNoStagedNames (files_of v) → EachDenotes (files_of v) ws contents → P v (files_after_actions stage.intent (files_with_staged 1 contents (files_of v))))
        → IfObservable history (λ v. v.names intent_name ≡ None → HasNoStagedNames (files_of v) → P v done.files)
    where_shown ws ws_is P read run =
        by history refl read
        (subst (λ (ws : List StagedWrite). IfObservable history (λ v. (contents : List (List ℕ)) → v.names intent_name ≡ None → HasNoStagedNames (files_of v) → EachDenotes (files_of v) ws contents → P v (files_after_actions stage.intent (files_with_staged 1 contents (files_of v))))) ws_is run)
        ready.plan.told ready.plan.arrived.read.root
      where
        by : (h : List TreeState) → h ≡ history → FilesAreRead h found (package_at p.packages.now.arrivals)
            → IfObservable h (λ v. (contents : List (List ℕ)) → v.names intent_name ≡ None → HasNoStagedNames (files_of v) → EachDenotes (files_of v) writes contents → P v (files_after_actions stage.intent (files_with_staged 1 contents (files_of v))))
            → IfObservable h (λ v. files ≡ files_of v) → IfObservable h (λ v. AreDatabaseAndWorldReadFromFiles (files_of v) inputs.root)
            → IfObservable h (λ v. v.names intent_name ≡ None → HasNoStagedNames (files_of v) → P v done.files)
        by [] same read run told root = tt
        by (v ∷ earlier) same read run told root = λ absent empty.
            subst (P v) (acted v told root empty) (run (map (bytes_or_empty_under done.files) (map name_of_write writes)) absent empty (located v earlier read told root))

    -- files that leave room leave it after the change
    pub room_after : IfObservable history (λ v. HasEmptyStageAndFreeJournalPaths (files_of v) → AreIntentAndStagedPathsFree done.files)
    room_after = by history ready.plan.told ready.plan.no_clash
      where
        by : (h : List TreeState) → IfObservable h (λ v. files ≡ files_of v) → IfObservable h (λ v. HasNoClash (name_change change files) files)
            → IfObservable h (λ v. HasEmptyStageAndFreeJournalPaths (files_of v) → AreIntentAndStagedPathsFree done.files)
        by [] told apart = tt
        by (v ∷ earlier) told apart = λ stage.
            (room change (listing_bytes (found_package_contents found)) records files free.coming (subst HasEmptyStageAndFreeJournalPaths (sym told) stage) apart).beside

    -- no call is a misuse where there is room
    pub proper_shown : (ws : List StagedWrite) → ws ≡ writes → (before after : ℕ) → FilesAreRead history found (package_at p.packages.now.arrivals)
        → IfObservable history (λ v. (contents : List (List ℕ)) → v.names intent_name ≡ None → HasNoStagedNames (files_of v) → EachDenotes (files_of v) ws contents → AreIntentAndStagedPathsFree (files_of v)
        → AreIntentAndStagedPathsFree (files_after_actions stage.intent (files_with_staged 1 contents (files_of v))) → after ≡ before)
        → IfObservable history (λ v. v.names intent_name ≡ None → HasNoStagedNames (files_of v) → HasEmptyStageAndFreeJournalPaths (files_of v) → after ≡ before)
    proper_shown ws ws_is before after read proper = both history (where_shown ws ws_is (λ v left. AreIntentAndStagedPathsFree (files_of v) → AreIntentAndStagedPathsFree left → after ≡ before) read proper) room_after
      where
        both : (h : List TreeState) → IfObservable h (λ v. v.names intent_name ≡ None → HasNoStagedNames (files_of v) → AreIntentAndStagedPathsFree (files_of v) → AreIntentAndStagedPathsFree done.files → after ≡ before)
            → IfObservable h (λ v. HasEmptyStageAndFreeJournalPaths (files_of v) → AreIntentAndStagedPathsFree done.files) → IfObservable h (λ v. v.names intent_name ≡ None → HasNoStagedNames (files_of v) → HasEmptyStageAndFreeJournalPaths (files_of v) → after ≡ before)
        both [] proper has = tt
        both (v ∷ earlier) proper has = λ absent empty stage. proper absent empty stage.beside (has stage)

  -- ---- nothing is carried through

  pub idle_comes : wanted ≡ Ok done → done.commits ≡ false → (counts : Counts) (report : List ℕ) → report ≡ done.report → IsEndOfRunOfWantedChange (Ok found) wanted history history counts counts (Ok report)
  idle_comes is idle counts report told = comes_to_idle (Ok found) wanted history history counts counts (nothing_read history counts) done report is idle told

  -- ---- what comes of the run

  module _ (is : wanted ≡ Ok done) (commits : done.commits ≡ true) (now : List TreeState) (before after : Counts)
      (proper : IfObservable history (λ v. v.names intent_name ≡ None → HasNoStagedNames (files_of v) → HasEmptyStageAndFreeJournalPaths (files_of v) → after.misuses ≡ before.misuses)) where
    proper_where : IfObservable history (λ v. v.names intent_name ≡ None → HasNoStagedNames (files_of v) → (DoesCommit wanted → HasEmptyStageAndFreeJournalPaths (files_of v)) → after.misuses ≡ before.misuses)
    proper_where = if_told history _ _ proper (λ v same absent empty has. same absent empty (has (subst DoesCommit (sym is) commits)))

    abbrev Carried : Result (Unit {0}) StageFault → Type 0
    Carried r = IfObservable history (λ v. v.names intent_name ≡ None → HasNoStagedNames (files_of v) → IsCarriedTo {A = Unit {0}} done.files v history now r)

    pub done_comes : Carried (Ok tt) → (report : List ℕ) → report ≡ done.report → IsEndOfRunOfWantedChange (Ok found) wanted history now before after (Ok report)
    done_comes run report told = record {
      told = inl (ap report_of_result is ∙ ap Ok (sym told));
      run = if_told history _ _ run (λ v carried absent empty.
          inr (record { done = done; is = is; commits = commits; run = (carried absent empty).run; ok = (carried absent empty).ok; err = tt }));
      proper = proper_where;
    }

    pub disk_comes : (fault : StageFault) → fault ≡ Stages.Disk → Carried (Err fault) → IsEndOfRunOfWantedChange (Ok found) wanted history now before after (Err Disk)
    disk_comes fault is_disk run = record {
      told = inl tt;
      run = if_told history _ _ run (λ v carried absent empty.
          inr (record { done = done; is = is; commits = commits; run = (carried absent empty).run; ok = tt; err = refl }));
      proper = proper_where;
    }

    module _ (member : ℕ) (cause : Cause) (has : HasSpoiledFile member cause writes) (fault : StageFault) (is_bad : fault ≡ Stages.Bad member cause) (run : Carried (Err fault)) where
      unseen : IfObservable history (λ v. v.names intent_name ≡ None → HasNoStagedNames (files_of v) → ⊥)
      unseen = if_told history _ _ run (λ v carried absent empty. never (sym is_bad ∙ (carried absent empty).err))
        where
          never : Stages.Bad member cause ≡ Stages.Disk → ⊥
          never e = cc

      run_where : (result : Result (List ℕ) Refused) → IfObservable history (λ v. v.names intent_name ≡ None → HasNoStagedNames (files_of v) → IsUnchangedOrCommit wanted v history now result)
      run_where result = if_told history _ _ unseen (λ v never absent empty. absurd (never absent empty))

      pub bad_comes : (refused : Refused) → IsRefusedPackage (members_of p.members) member cause refused → IsEndOfRunOfWantedChange (Ok found) wanted history now before after (Err refused)
      bad_comes (IsRefused refusal) bad =
          let (m, at, told) = bad in
          let coming = file_comes history p found files ready.plan writes rw ready.each member cause has in
          let place : slice_get (found_members found) member ≡ Some m = subst (λ (ms : List Member). slice_get ms member ≡ Some m) ready.plan.arrived.members at in
          let spoiled = found_spoiled history _ _ found member m coming.3.0 cause ready.plan.arrived.read.read place coming.3.1 coming.3.2 in
          record {
            told = inr (record {
              unseen = unseen;
              commits = subst DoesCommit (sym is) commits;
              refusal = refusal;
              spoiled = record {
                found = found;
                are = refl;
                one = spoiled.one;
                among = spoiled.among;
                tested = spoiled.tested;
                read = spoiled.read;
                file = spoiled.file;
                cause = cause;
                spoiled = spoiled.spoiled;
                is = told ∙ (λ i. PackageBad (member_name (sym spoiled.is i)) (package_version_text (sym spoiled.is i).pkg) cause);
              };
              is = refl;
            });
            run = run_where (Err (IsRefused refusal));
            proper = proper_where;
          }
      bad_comes Disk bad = absurd bad
      bad_comes Memory bad = record { told = inl tt; run = run_where (Err Memory); proper = proper_where }

pub few_writes : (stage : Staging) (removals names writes : List (List ℕ)) → stage ≡ new_stage_of_removals_and_writes removals names → names ≡ writes → action_count stage.intent < 2 ^ 63 → length writes < 2 ^ 63
few_writes stage removals names writes is same few =
    let both : length removals + length names < 2 ^ 63 = subst (λ (s : Staging). action_count s.intent < 2 ^ 63) is few in
    subst (λ (ns : List (List ℕ)). length ns < 2 ^ 63) same (less (length removals) (length names) (2 ^ 63) both)
  where
    less : (a b n : ℕ) → a + b < n → b < n
    less a b n h = omega (arith, h)

pub within_length : {X : Type 0} (xs : List X) (i : ℕ) (x : X) → slice_get xs i ≡ Some x → i < length xs
within_length [] i x at = absurd (cc)
within_length (y ∷ ys) zero x at = omega arith
within_length (y ∷ ys) (suc i) x at = let less = within_length ys i x at in omega (arith, less)

-- ---- a part that is refused

pub part_fails : {A B : Type 0} (packages : Result (List MemberFound) Refusal) (part other : Result B Refusal) (next : B → Result ChangeDone Refusal) (view : A → B) (history : List TreeState) (counts : Counts) (fault : Refused) → other ≡ part
    → Agrees view (Err fault) other → IsEndOfRunOfWantedChange packages (and_then part next) history history counts counts (Err fault)
part_fails {A} {B} packages part other next view history counts (IsRefused refusal) same told =
    comes_to_refusal packages (and_then part next) history history counts counts (nothing_read history counts) refusal (ap (λ (p : Result B Refusal). and_then p next) (sym same ∙ told))
part_fails packages part other next view history counts Disk same told = absurd told
part_fails packages part other next view history counts Memory same told = comes_to_failure packages (and_then part next) history history counts counts (nothing_read history counts) Memory tt

-- a rendered change is not refused any more
pub ready_is : (history : List TreeState) (p : Plan) (r : Rendered) (ready : IsReadyToCommit history p r)
    → ready_change (inputs_of_plan p) (replacement_of_plan p) (wishes_of_plan p) ready.found ready.files ready.records.database.items ≡ Ok (result_of_ready ready)
ready_is history p r ready =
    ready_fits history p ready.found ready.files ready.records ready.rendered.written.of_records r.writes.items (removals_of_plan p) (made_ready history p r ready) ready.rendered.fits

-- ---- the journal entry

-- a journal entry that is too large, by the names that are removed and written
pub entry_large : {A : Type 0} (view : A → Bool) (history : List TreeState) (p : Plan) (found : List MemberFound) (files : Files) (made : NewRecords) (rw : RecordWrites) (writes : List StagedWrite) (removals : List (List ℕ))
    → IsMadeReady history p found files made rw writes removals → (fault : Refused)
    → Agrees view (Err fault) (unless_overflow (counts_at_first_overflow (value_of_intent (intent_of_lists removals (map name_of_write writes)))) true)
    → Agrees {A = Bool} {B = Bool} (λ _. true) (Err fault) (unless_overflow (counts_at_first_overflow (value_of_intent (intent_of_change (inputs_of_plan p) (packages_before_and_after_with_purge (inputs_of_plan p) (wishes_of_plan p) found) files (database_and_world_after_change (inputs_of_plan p) made.database.items)))) true)
entry_large view history p found files made rw writes removals ready (IsRefused refusal) told =
    ap (λ (o : Option ByteAndValueCounts). unless_overflow o true) (sym (overflow_is history p found files made rw writes removals ready)) ∙ told
entry_large view history p found files made rw writes removals ready Disk told = told
entry_large view history p found files made rw writes removals ready Memory told = tt

-- the same, by names that are equal
pub same_told : {A B : Type 0} (view : A → Bool) (other : B → Bool) (fault : Refused) (removals writes gone wrote : List (List ℕ)) → removals ≡ gone → writes ≡ wrote
    → Agrees view (Err fault) (unless_overflow (counts_at_first_overflow (value_of_intent (intent_of_lists removals writes))) true)
    → Agrees other (Err fault) (unless_overflow (counts_at_first_overflow (value_of_intent (intent_of_lists gone wrote))) true)
same_told view other (IsRefused refusal) removals writes gone wrote gone_is wrote_is told =
    (λ i. unless_overflow (counts_at_first_overflow (value_of_intent (intent_of_lists (sym gone_is i) (sym wrote_is i)))) true) ∙ told
same_told view other Disk removals writes gone wrote gone_is wrote_is told = told
same_told view other Memory removals writes gone wrote gone_is wrote_is told = tt

pub not_idle : (removals writes gone wrote : List (List ℕ)) (idle b : Bool) → removals ≡ gone → writes ≡ wrote → idle ≡ not (has_actions (record { removals = removals; writes = writes })) → idle ≡ b
    → has_actions (record { removals = gone; writes = wrote }) ≡ not b
not_idle removals writes gone wrote idle b gone_is wrote_is is by =
    (λ i. has_actions (record { removals = sym gone_is i; writes = sym wrote_is i }))
    ∙ (twice (has_actions (record { removals = removals; writes = writes })) ∙ ap not (sym is ∙ by))
  where
    twice : (t : Bool) → t ≡ not (not t)
    twice true = refl
    twice false = refl

some_length : (name : List ℕ) (names : List (List ℕ)) → (length (name ∷ names) == 0) ≡ false
some_length name names = ne_eqb (length (name ∷ names)) 0 (λ e. absurd (omega arith))

-- that of a change that does nothing would fit
pub idle_fits : (removals writes : List (List ℕ)) → has_actions (record { removals = removals; writes = writes }) ≡ false
    → unless_overflow (counts_at_first_overflow (value_of_intent (intent_of_lists removals writes))) true ≡ Ok true
unfolding counts_after_values
idle_fits [] [] is = refl
idle_fits (name ∷ removals) writes is =
    let some : has_actions (record { removals = name ∷ removals; writes = writes }) ≡ true = ap (λ (b : Bool). not b || not (length writes == 0)) (some_length name removals) in
    absurd (true≢false (sym some ∙ is))
idle_fits [] (name ∷ writes) is =
    let some : has_actions (record { removals = []; writes = name ∷ writes }) ≡ true = ap (λ (b : Bool). not b) (some_length name writes) in
    absurd (true≢false (sym some ∙ is))

-- ---- a rendered change is committed

pub stage_of : (o : Option Staging) (stage : Staging) (removals writes : List (List ℕ)) → o ≡ Some stage → IsStageOf removals writes o
    → (has_actions (record { removals = removals; writes = writes }) ≡ true) × (stage ≡ new_stage_of_removals_and_writes removals writes)
stage_of o stage removals writes is of = subst (IsStageOf removals writes) is of

pub new_stage_is : (stage : Staging) (removals writes : List (List ℕ)) → stage ≡ new_stage_of_removals_and_writes removals writes → stage ≡ new_stage_of_removals_and_writes stage.intent.removals stage.intent.writes
new_stage_is stage removals writes is = is ∙ sym (λ i. new_stage_of_removals_and_writes (is i).intent.removals (is i).intent.writes)

pub same_length : (stage : Staging) (removals : List (List ℕ)) (ws writes : List StagedWrite) → stage ≡ new_stage_of_removals_and_writes removals (map name_of_write writes) → ws ≡ writes → length ws ≡ length stage.intent.writes
same_length stage removals ws writes is same = ap length same ∙ (sym (length-map writes name_of_write) ∙ sym (ap (λ (s : Staging). length s.intent.writes) is))

module _ (history : List TreeState) (p : Plan) (r : Rendered) (ready : IsReadyToCommit history p r) where
  abbrev of_records : RecordWrites
  of_records = ready.rendered.written.of_records

  made : IsMadeReady history p ready.found ready.files ready.records of_records r.writes.items (removals_of_plan p)
  made = made_ready history p r ready

  abbrev Ends : List TreeState → Counts → Counts → Result (List ℕ) Refused → Type 0
  Ends now before after result = IsEndOfRunOfWantedChange (Ok ready.found) (Ok (result_of_ready ready)) history now before after result

  ends : (now : List TreeState) (before after : Counts) (result : Result (List ℕ) Refused)
      → IsEndOfRunOfWantedChange (Ok ready.found) (ready_change (inputs_of_plan p) (replacement_of_plan p) (wishes_of_plan p) ready.found ready.files ready.records.database.items) history now before after result
      → Ends now before after result
  ends now before after result comes = subst (λ (w : Result ChangeDone Refusal). IsEndOfRunOfWantedChange (Ok ready.found) w history now before after result) (ready_is history p r ready) comes

  -- nothing is done
  pub nothing_done : r.stage ≡ None → (counts : Counts) → Ends history counts counts (Ok r.report)
  nothing_done is counts =
      let idle : has_actions (record { removals = removals_of_plan p; writes = map name_of_write r.writes.items }) ≡ false = subst (IsStageOf (removals_of_plan p) (map name_of_write r.writes.items)) is ready.rendered.stage in
      ends history counts counts (Ok r.report)
      (idle_comes history p ready.found ready.files ready.records of_records r.writes.items (removals_of_plan p) made (ready_is history p r ready)
      (sym (commits_is history p ready.found ready.files ready.records of_records r.writes.items (removals_of_plan p) made) ∙ idle) counts r.report (ready.rendered.report history ready.found ready.files ready.planned))

  -- a file of a package that comes is spoiled
  pub bad_member : (member : ℕ) (cause : Cause) → HasSpoiledFile member cause r.writes.items → member < length (members_of p.members)
  bad_member member cause has =
      let coming = file_comes history p ready.found ready.files ready.planned r.writes.items of_records ready.rendered.written.each member cause has in
      within_length _ member coming.0 coming.1

  -- the stage is carried out
  module _ (law : FilesAreRead history ready.found (package_at p.packages.now.arrivals))
      (stage : Staging) (staged : r.stage ≡ Some stage) (few : action_count stage.intent < 2 ^ 63) (ws : List StagedWrite) (ws_is : ws ≡ r.writes.items) (now : List TreeState) (before after : Counts) (res : Result (Unit {0}) StageFault)
      (run : IfObservable history (λ v. (contents : List (List ℕ)) → v.names intent_name ≡ None → HasNoStagedNames (files_of v) → EachDenotes (files_of v) ws contents
      → IsCarriedTo {A = Unit {0}} (files_after_actions stage.intent (files_with_staged 1 contents (files_of v))) v history now res))
      (proper : IfObservable history (λ v. (contents : List (List ℕ)) → v.names intent_name ≡ None → HasNoStagedNames (files_of v) → EachDenotes (files_of v) ws contents → AreIntentAndStagedPathsFree (files_of v)
      → AreIntentAndStagedPathsFree (files_after_actions stage.intent (files_with_staged 1 contents (files_of v))) → after.misuses ≡ before.misuses)) where
    of_stage : (has_actions (record { removals = removals_of_plan p; writes = map name_of_write r.writes.items }) ≡ true) × (stage ≡ new_stage_of_removals_and_writes (removals_of_plan p) (map name_of_write r.writes.items))
    of_stage = stage_of r.stage stage (removals_of_plan p) (map name_of_write r.writes.items) staged ready.rendered.stage

    few_names : length (map name_of_write r.writes.items) < 2 ^ 63
    few_names = few_writes stage (removals_of_plan p) (map name_of_write r.writes.items) (map name_of_write r.writes.items) of_stage.1 refl few

    commits : (result_of_ready ready).commits ≡ true
    commits = sym (commits_is history p ready.found ready.files ready.records of_records r.writes.items (removals_of_plan p) made) ∙ of_stage.0

    carried : IfObservable history (λ v. v.names intent_name ≡ None → HasNoStagedNames (files_of v) → IsCarriedTo {A = Unit {0}} (result_of_ready ready).files v history now res)
    carried =
        where_shown history p ready.found ready.files ready.records of_records r.writes.items (removals_of_plan p) made few_names stage of_stage.1 ws ws_is (λ v left. IsCarriedTo {A = Unit {0}} left v history now res) law run

    no_misuse : IfObservable history (λ v. v.names intent_name ≡ None → HasNoStagedNames (files_of v) → HasEmptyStageAndFreeJournalPaths (files_of v) → after.misuses ≡ before.misuses)
    no_misuse =
        proper_shown history p ready.found ready.files ready.records of_records r.writes.items (removals_of_plan p) made few_names stage of_stage.1 ws ws_is before.misuses after.misuses law proper

    pub ends_well : res ≡ Ok tt → Ends now before after (Ok r.report)
    ends_well is =
        ends now before after (Ok r.report)
        (done_comes history p ready.found ready.files ready.records of_records r.writes.items (removals_of_plan p) made (ready_is history p r ready) commits now before after no_misuse
        (subst (λ (x : Result (Unit {0}) StageFault). IfObservable history (λ v. v.names intent_name ≡ None → HasNoStagedNames (files_of v) → IsCarriedTo {A = Unit {0}} (result_of_ready ready).files v history now x)) is carried)
        r.report (ready.rendered.report history ready.found ready.files ready.planned))

    pub ends_by_disk : (fault : StageFault) → fault ≡ Stages.Disk → res ≡ Err fault → Ends now before after (Err Disk)
    ends_by_disk fault is_disk is =
        ends now before after (Err Disk)
        (disk_comes history p ready.found ready.files ready.records of_records r.writes.items (removals_of_plan p) made (ready_is history p r ready) commits now before after no_misuse fault is_disk
        (subst (λ (x : Result (Unit {0}) StageFault). IfObservable history (λ v. v.names intent_name ≡ None → HasNoStagedNames (files_of v) → IsCarriedTo {A = Unit {0}} (result_of_ready ready).files v history now x)) is carried))

    pub ends_by_bad : (member : ℕ) (cause : Cause) → HasSpoiledFile member cause r.writes.items → (fault : StageFault) → fault ≡ Stages.Bad member cause → res ≡ Err fault → (refused : Refused)
        → IsRefusedPackage (members_of p.members) member cause refused → Ends now before after (Err refused)
    ends_by_bad member cause has fault is_bad is refused bad =
        ends now before after (Err refused)
        (bad_comes history p ready.found ready.files ready.records of_records r.writes.items (removals_of_plan p) made (ready_is history p r ready) commits now before after no_misuse member cause has fault is_bad
        (subst (λ (x : Result (Unit {0}) StageFault). IfObservable history (λ v. v.names intent_name ≡ None → HasNoStagedNames (files_of v) → IsCarriedTo {A = Unit {0}} (result_of_ready ready).files v history now x)) is carried)
        refused bad)

-- a journal entry that is too large is refused
entry_refused : (packages : Result (List MemberFound) Refusal) (overflow : Option ByteAndValueCounts) (ends : ChangeDone) (history : List TreeState) (counts : Counts) (fault : Refused)
    → Agrees {A = Bool} {B = Bool} (λ _. true) (Err fault) (unless_overflow overflow true) → IsEndOfRunOfWantedChange packages (unless_overflow overflow ends) history history counts counts (Err fault)
entry_refused packages overflow ends history counts (IsRefused refusal) told =
    comes_to_refusal packages (unless_overflow overflow ends) history history counts counts (nothing_read history counts) refusal (too_large overflow ends refusal told)
entry_refused packages overflow ends history counts Disk told = absurd told
entry_refused packages overflow ends history counts Memory told = comes_to_failure packages (unless_overflow overflow ends) history history counts counts (nothing_read history counts) Memory tt

-- ---- what is left after the tests of a plan

module _ (history : List TreeState) (p : Plan) (found : List MemberFound) (files : Files) (plan : IsPlanned history p found files) where
  database_is : or_result_too_large (database_of (members_of p.members) p.files.owned) ≡ or_result_too_large (database_of (found_members found) (owned_flags_of (found_members found)))
  database_is = let owned = plan.owners.owned ∙ ap owned_flags_of plan.arrived.members in λ i. or_result_too_large (database_of (plan.arrived.members i) (owned i))

  -- the database is too large
  pub large_database : (counts : Counts) (fault : Refused) → Agrees {A = NewRecords} (λ r. r.database.items) (Err fault) (or_result_too_large (database_of (members_of p.members) p.files.owned))
      → IsEndOfRunOfWantedChange (Ok found) (change_done_unless_over_writer_limits (inputs_of_plan p) (replacement_of_plan p) (wishes_of_plan p) found files) history history counts counts (Err fault)
  large_database counts fault told =
      part_fails {A = NewRecords} {B = List ℕ} (Ok found) (or_result_too_large (database_of (found_members found) (owned_flags_of (found_members found)))) (or_result_too_large (database_of (members_of p.members) p.files.owned))
      (ready_change (inputs_of_plan p) (replacement_of_plan p) (wishes_of_plan p) found files) (λ r. r.database.items) history counts fault database_is told

  -- the database is made
  module _ (records : NewRecords) (told : or_result_too_large (database_of (members_of p.members) p.files.owned) ≡ Ok records.database.items) where
    pub made_database : change_done_unless_over_writer_limits (inputs_of_plan p) (replacement_of_plan p) (wishes_of_plan p) found files ≡ ready_change (inputs_of_plan p) (replacement_of_plan p) (wishes_of_plan p) found files records.database.items
    made_database = ap (λ (part : Result (List ℕ) Refusal). and_then part (ready_change (inputs_of_plan p) (replacement_of_plan p) (wishes_of_plan p) found files)) (sym database_is ∙ told)

    -- the journal entry is too large
    pub large_entry : (counts : Counts) (fault : Refused) → IsRefusedForOverflow p records fault
        → IsEndOfRunOfWantedChange (Ok found) (change_done_unless_over_writer_limits (inputs_of_plan p) (replacement_of_plan p) (wishes_of_plan p) found files) history history counts counts (Err fault)
    large_entry counts fault large =
        subst (λ (w : Result ChangeDone Refusal). IsEndOfRunOfWantedChange (Ok found) w history history counts counts (Err fault)) (sym made_database)
        (entry_refused (Ok found)
        (counts_at_first_overflow (value_of_intent (intent_of_change (inputs_of_plan p) (packages_before_and_after_with_purge (inputs_of_plan p) (wishes_of_plan p) found) files (database_and_world_after_change (inputs_of_plan p) records.database.items))))
        (change_done (inputs_of_plan p) (replacement_of_plan p) (wishes_of_plan p) found files (database_and_world_after_change (inputs_of_plan p) records.database.items)) history counts fault (large history found files plan))

    -- the journal entry fits
    pub entry_fits : (own : AreNewRecordsOf (inputs_of_plan p) records) (r : Rendered) → IsRendered p records r
        → change_done_unless_over_writer_limits (inputs_of_plan p) (replacement_of_plan p) (wishes_of_plan p) found files
        ≡ Ok (change_done (inputs_of_plan p) (replacement_of_plan p) (wishes_of_plan p) found files (database_and_world_after_change (inputs_of_plan p) records.database.items))
    entry_fits own r rendered =
        let ready : IsReadyToCommit history p r = record { found = found; files = files; planned = plan; records = records; own = own; rendered = rendered } in
        made_database ∙ ready_is history p r ready
