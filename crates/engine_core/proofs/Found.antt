-- Runs by the packages that are found, and by the plan of their files.
use Rattle.std.proofs.Common.{◌≡◌, inl, ℕ, false, List, [], ◌∷◌, All, Option, Some, None, Result, Ok, Err, refl, sym, ap, subst, ◌∙◌}
use Rattle.std.specs.Prelude.{◌++◌, IsSome, map, option_map, slice_get}
use Rattle.std.specs.Option.{option_map_or}
use Rattle.std.proofs.lemmas.List.Elements.{All-head}
use Rattle.std.proofs.lemmas.Option.{same_Some}
use Rattle.journal_staging.specs.adb_schema.Reserved.{is_reserved}
use Rattle.adb_view.specs.Plain.{Plain}
use Rattle.base_core.specs.Calls.{IfObservable}
use Rattle.base_core.specs.Faults.{Counts}
use Rattle.base_core.specs.Files.{Files, HasOnlyNamesAmong, no_names}
use Rattle.base_core.specs.Tree.{IsWellFormed, TreeState, bytes_of_file_number, files_of}
use Rattle.change_report.specs.Due.{planned_paths}
use Rattle.change_report.specs.own_core.FileChange.{FileChange, old_listings}
use Rattle.change_report.specs.own_core.NamesAfter.{name_change}
use Rattle.change_report.specs.own_core.PlanLists.{first_reserved_added_path_in_byte_order}
use Rattle.change_report.specs.change_inputs.Answers.{IsDiskOrMemoryFailure}
use Rattle.change_report.specs.change_inputs.Chains.{and_then}
use Rattle.change_report.specs.change_inputs.Inputs.{Inputs}
use Rattle.change_report.specs.change_inputs.declared.root.Refused.{Refused}
use Rattle.change_report.specs.change_inputs.declared.root.Refused.TheVariants as Commands
use Rattle.change_report.specs.change_outcome.ChangeOutcome.{ChangeDone, ChangeWishes, IsFirstClashUnlessMembersRefused, members_after_change, change_with_members, packages_before_and_after_with_purge, member_name_at_place, touched_paths, unless_clash, unless_contested, unless_reserved_path, change_done_unless_over_writer_limits}
use Rattle.change_report.specs.change_outcome.MembersAfter.{MemberFound, found_members}
use Rattle.change_report.specs.change_outcome.Triggers.{unless_trigger_due}
use Rattle.change_report.specs.db_core.Members.{Member, listings_of_members, member_name, member_of_kept}
use Rattle.change_report.specs.db_core.Seen.{members_of, packages_of}
use Rattle.change_report.specs.db_core.declared.members.Members.{Members}
use Rattle.change_report.specs.file_owners.Owners.{first_contested_member_path_in_byte_order}
use Rattle.change_report.specs.make_info.Reads.{Reads}
use Rattle.change_report.specs.own_core.Planned.{ArePlanLists, HasDisjointUnreservedNames, HasSources, IsClashBySome, IsPlanForMembersAlone, IsPlanOverSomeFiles, IsRefusalForMembersAlone, IsRefusalOverFiles, MayBeRefusalOf, file_change_between, member_name_at}
use Rattle.change_report.specs.own_core.declared.fault.PlanFault.{PlanFault}
use Rattle.change_report.specs.own_core.declared.planning.FilePlan.{FilePlan}
use Rattle.change_report.specs.own_core.declared.fault.PlanFault.TheVariants as Plans
use Rattle.change_report.specs.package_changes.Changes.{Replacement}
use Rattle.change_report.specs.path_claims.Claims.{ContestedPath}
use Rattle.change_report.specs.path_clashes.Clash.{HasNoClash, NamePair}
use Rattle.change_report.specs.path_clashes.FirstClash.{IsFirstClashOrNone, IsFirstClashOverSomeFiles}
use Rattle.report_core.specs.declared.refusal.Refusal.{Refusal}
use Rattle.report_core.specs.declared.refusal.Refusal.TheVariants.{Owned, PathClash, Reserved}
use Rattle.engine_core.specs.ChangeRun.{IsEndOfRunOfWantedChange}
use Rattle.engine_core.specs.Preparing.{HasReadAddedPackages, IsArrived, IsPlanned, inputs_of_packages, replacement_of_packages, inputs_of_plan, replacement_of_plan, wishes_of_plan}
use Rattle.engine_core.specs.Plans.{HasNoPlan, IsPlanFrom, IsRefusalOfPlanFault}
use Rattle.engine_core.specs.declared.packages.ReadPackages.{ReadPackages}
use Rattle.engine_core.specs.declared.planning.Plan.{Plan}
use Rattle.engine_core.specs.Runs.{IsRunOnFoundPackages}
use Rattle.engine_core.proofs.Early.{HaveClash, IsOnlyRead, comes_to_failure, comes_to_refusal, nothing_within}
use Rattle.engine_core.proofs.WholeRuns.{comes_after_reads}

-- ---- the files of a history

abbrev files_now : List TreeState → Files
files_now [] = no_names
files_now (v ∷ earlier) = files_of v

there_now : (h : List TreeState) → IfObservable h (λ v. files_now h ≡ files_of v)
there_now [] = tt
there_now (v ∷ earlier) = refl

within_files : (v : TreeState) (names : List (List ℕ)) → HasOnlyNamesAmong names v.names → HasOnlyNamesAmong names (files_of v)
within_files v names within q is = within q (by_number (v.names q) is)
  where
    by_number : (n : Option ℕ) → IsSome (bytes_of_file_number v.files n) → IsSome n
    by_number None is = is
    by_number (Some n) is = refl

-- ---- some first clash

record ClashSeen (inputs : Inputs) (wishes : ChangeWishes) (found : List MemberFound) (old : List TreeState) : Type 0 where
  pub clash : Option NamePair
  pub is_clash : IsFirstClashUnlessMembersRefused inputs wishes (files_now old) (Ok found) clash

-- by some files, and among some, the first clash; where the history tells its files both are these
record ClashTold (change : FileChange) (old : List TreeState) (clash : Option NamePair) : Type 0 where
  pub files : Files
  pub there : IfObservable old (λ v. files ≡ files_of v)
  pub present_files : Files
  pub stand : IfObservable old (λ v. present_files ≡ files_of v)
  pub is_clash : IsFirstClashOrNone (name_change change files) present_files clash

clash_told : (change : FileChange) (old : List TreeState) (clash : Option NamePair) → IsClashBySome change old clash → IfObservable old (λ v. IsFirstClashOrNone (name_change change (files_of v)) (files_of v) clash) → ClashTold change old clash
clash_told change [] clash some told = record { files = some.files; there = tt; present_files = some.may.0; stand = tt; is_clash = some.may.1 }
clash_told change (v ∷ earlier) clash some told = record { files = files_of v; there = refl; present_files = files_of v; stand = refl; is_clash = told }

-- the same by files that are given
none_told : (change : FileChange) (files : Files) (old : List TreeState) → IfObservable old (λ v. files ≡ files_of v) → IsFirstClashOverSomeFiles (name_change change files) None → IfObservable old (λ v. HasNoClash (name_change change files) files)
    → (present_files : Files) × IfObservable old (λ v. present_files ≡ files_of v) × IsFirstClashOrNone (name_change change files) present_files None
none_told change files [] there may told = (may.0, tt, may.1)
none_told change files (v ∷ earlier) there may told = (files, there, told)

module _ (have : HaveClash) (inputs : Inputs) (r : Replacement) (wishes : ChangeWishes) (read : Reads) (found : List MemberFound) (is_found : members_after_change inputs r wishes read ≡ Ok found) where
  clash_seen : (old : List TreeState) → All IsWellFormed old → ClashSeen inputs wishes found old
  clash_seen [] whole =
      let c = have.exists inputs r wishes read [] no_names nothing_within in
      record { clash = c.0; is_clash = subst (λ (f : Result (List MemberFound) Refusal). IsFirstClashUnlessMembersRefused inputs wishes no_names f c.0) is_found c.1 }
  clash_seen (v ∷ earlier) whole =
      let finite = (All-head IsWellFormed v earlier whole).finite v.names (inl refl) in
      let c = have.exists inputs r wishes read finite.0 (files_of v) (within_files v finite.0 finite.1) in
      record { clash = c.0; is_clash = subst (λ (f : Result (List MemberFound) Refusal). IsFirstClashUnlessMembersRefused inputs wishes (files_of v) f c.0) is_found c.1 }

  module _ (old now : List TreeState) (before after : Counts) (whole : All IsWellFormed old) (quiet : IsOnlyRead old now before after) where
    found_by : (result : Result (List ℕ) Refused) → ((clash : Option NamePair) → IsEndOfRunOfWantedChange (Ok found) (change_with_members inputs r wishes clash (files_now old) found) old now before after result)
        → IsRunOnFoundPackages inputs r wishes found old now before after result
    found_by result comes =
        let seen = clash_seen old whole in
        record { files = files_now old; there = there_now old; present_files = files_now old; stand = there_now old; clash = seen.clash; is_clash = seen.is_clash; comes = comes seen.clash }

    pub found_failure : (fault : Refused) → IsDiskOrMemoryFailure fault → IsRunOnFoundPackages inputs r wishes found old now before after (Err fault)
    found_failure fault is = found_by (Err fault) (λ clash. comes_to_failure _ _ old now before after quiet fault is)

    -- ---- no plan

    reserved_path : (path : List ℕ) → first_reserved_added_path_in_byte_order (found_members found) ≡ Some path → IsRunOnFoundPackages inputs r wishes found old now before after (Err (Commands.Refusal (Reserved path)))
    reserved_path path is = found_by _ (λ clash. comes_to_refusal _ _ old now before after quiet (Reserved path)
        (ap (λ (o : Option (List ℕ)). unless_reserved_path o (unless_clash clash (unless_contested (found_members found) (first_contested_member_path_in_byte_order (found_members found))
        (and_then (unless_trigger_due wishes.no_scripts (touched_paths (packages_before_and_after_with_purge inputs wishes found) (files_now old)) (found_members found)) (λ allowed. change_done_unless_over_writer_limits inputs r wishes found (files_now old)))))) is))

    by_clash : (result : Result (List ℕ) Refused) (clash : Option NamePair) → (told : ClashTold (packages_before_and_after_with_purge inputs wishes found) old clash)
        → IsEndOfRunOfWantedChange (Ok found) (change_with_members inputs r wishes clash told.files found) old now before after result → IsRunOnFoundPackages inputs r wishes found old now before after result
    by_clash result clash told comes =
        record { files = told.files; there = told.there; present_files = told.present_files; stand = told.stand; clash = clash; is_clash = told.is_clash; comes = comes }

    path_clash : (path other : List ℕ) → first_reserved_added_path_in_byte_order (found_members found) ≡ None → ClashTold (packages_before_and_after_with_purge inputs wishes found) old (Some (record { path = path; other = other }))
        → IsRunOnFoundPackages inputs r wishes found old now before after (Err (Commands.Refusal (PathClash path other)))
    path_clash path other none told =
        let pair : NamePair = record { path = path; other = other } in
        by_clash _ (Some pair) told
        (comes_to_refusal _ _ old now before after quiet (PathClash path other)
        (ap (λ (o : Option (List ℕ)). unless_reserved_path o (unless_clash (Some pair) (unless_contested (found_members found) (first_contested_member_path_in_byte_order (found_members found))
        (and_then (unless_trigger_due wishes.no_scripts (touched_paths (packages_before_and_after_with_purge inputs wishes found) told.files) (found_members found)) (λ allowed. change_done_unless_over_writer_limits inputs r wishes found told.files)))))
        none))

    named : (place : ℕ) (name : List ℕ) → member_name_at (found_members found) place ≡ Some name → member_name_at_place (found_members found) place ≡ name
    named place name is = by (slice_get (found_members found) place) is
      where
        by : (o : Option Member) → option_map member_name o ≡ Some name → option_map_or member_name o [] ≡ name
        by None e = absurd (cc (e))
        by (Some m) e = same_Some (member_name m) name e

    owned_path : (path first second : List ℕ) → IsRefusalForMembersAlone (found_members found) (Plans.Owned path first second) → ClashTold (packages_before_and_after_with_purge inputs wishes found) old None
        → IsRunOnFoundPackages inputs r wishes found old now before after (Err (Commands.Refusal (Owned path first second)))
    owned_path path first second (none, contest) told =
        let contested : Option ContestedPath = first_contested_member_path_in_byte_order (found_members found) in
        let rest = and_then (unless_trigger_due wishes.no_scripts (touched_paths (packages_before_and_after_with_purge inputs wishes found) told.files) (found_members found)) (λ allowed. change_done_unless_over_writer_limits inputs r wishes found told.files) in
        by_clash _ None told
        (comes_to_refusal _ _ old now before after quiet (Owned path first second)
        (ap (λ (o : Option (List ℕ)). unless_reserved_path o (unless_contested (found_members found) contested rest)) none
        ∙ ap (λ (o : Option ContestedPath). unless_contested (found_members found) o rest) contest.is
        ∙ ((λ i. Err (Owned (sym contest.at i) (named contest.contest.rivals.first first contest.lister i) (named contest.contest.rivals.second second contest.other i))))))

    pub unplanned : (fault : PlanFault) (refused : Refused) → IsRefusalOfPlanFault fault refused → IsRefusalForMembersAlone (found_members found) fault
        → IfObservable old (λ v. IsRefusalOverFiles (packages_before_and_after_with_purge inputs wishes found) (files_of v) fault) → MayBeRefusalOf (packages_before_and_after_with_purge inputs wishes found) old fault → IsRunOnFoundPackages inputs r wishes found old now before after (Err refused)
    unplanned (Plans.Reserved path) refused is cause first may = subst (λ (e : Refused). IsRunOnFoundPackages inputs r wishes found old now before after (Err e)) (sym is) (reserved_path path cause)
    unplanned (Plans.PathClash path other) refused is cause first may = subst (λ (e : Refused). IsRunOnFoundPackages inputs r wishes found old now before after (Err e)) (sym is) (path_clash path other cause (clash_told (packages_before_and_after_with_purge inputs wishes found) old (Some (record { path = path; other = other })) may first))
    unplanned (Plans.Owned path one two) refused is cause first may = subst (λ (e : Refused). IsRunOnFoundPackages inputs r wishes found old now before after (Err e)) (sym is) (owned_path path one two cause (clash_told (packages_before_and_after_with_purge inputs wishes found) old None may first))
    unplanned Plans.Disk refused is cause first may = subst (λ (e : Refused). IsRunOnFoundPackages inputs r wishes found old now before after (Err e)) (sym is) (found_failure Commands.Disk tt)
    unplanned Plans.Memory refused is cause first may = subst (λ (e : Refused). IsRunOnFoundPackages inputs r wishes found old now before after (Err e)) (sym is) (found_failure Commands.Memory tt)

-- ---- a plan

change_is : (history : List TreeState) (a : ReadPackages) (ms : Members) (wishes : ChangeWishes) (found : List MemberFound) → IsArrived history a ms found
    → file_change_between a.selection.now.db ms wishes.purge ≡ packages_before_and_after_with_purge (inputs_of_packages a) wishes found
change_is history a ms wishes found arrived = λ i. record { old = arrived.read.database i; members = arrived.members i; purge = wishes.purge }

-- why there is none, of the packages that are found
pub unplanned_run : HaveClash → (old now : List TreeState) (before after : Counts) (a : ReadPackages) (ms : Members) (wishes : ChangeWishes) (read : Reads) (found : List MemberFound) (fault : PlanFault) (refused : Refused)
    → All IsWellFormed old → IsOnlyRead old now before after → IsArrived old a ms found → members_after_change (inputs_of_packages a) (replacement_of_packages a) wishes read ≡ Ok found
    → IsRefusalOfPlanFault fault refused → IsRefusalForMembersAlone (members_of ms) fault
    → IfObservable old (λ v. IsRefusalOverFiles (file_change_between a.selection.now.db ms wishes.purge) (files_of v) fault)
    → MayBeRefusalOf (file_change_between a.selection.now.db ms wishes.purge) old fault
    → IsRunOnFoundPackages (inputs_of_packages a) (replacement_of_packages a) wishes found old now before after (Err refused)
unplanned_run have old now before after a ms wishes read found fault refused whole quiet arrived is_found is cause first may =
    unplanned have (inputs_of_packages a) (replacement_of_packages a) wishes read found is_found old now before after whole quiet fault refused is
    (subst (λ (ms : List Member). IsRefusalForMembersAlone ms fault) arrived.members cause)
    (subst (λ (c : FileChange). IfObservable old (λ v. IsRefusalOverFiles c (files_of v) fault)) (change_is old a ms wishes found arrived) first)
    (subst (λ (c : FileChange). MayBeRefusalOf c old fault) (change_is old a ms wishes found arrived) may)

-- the same, of the step that plans
pub unplanned_step : HaveClash → (old now : List TreeState) (before after : Counts) (a : ReadPackages) (ms : Members) (wishes : ChangeWishes) (read : Reads) (found : List MemberFound) (refused : Refused)
    → HasNoPlan old wishes.purge a.selection.now.db ms refused → All IsWellFormed old → IsOnlyRead old now before after → IsArrived old a ms found → members_after_change (inputs_of_packages a) (replacement_of_packages a) wishes read ≡ Ok found
    → IsRunOnFoundPackages (inputs_of_packages a) (replacement_of_packages a) wishes found old now before after (Err refused)
unplanned_step have old now before after a ms wishes read found refused why whole quiet arrived is_found =
    unplanned_run have old now before after a ms wishes read found why.fault refused whole quiet arrived is_found why.reported why.cause why.first why.may

pub planned_now : (old mid : List TreeState) → mid ≡ old → (p : Plan) (found : List MemberFound) → IsArrived old p.packages.now p.members found
    → (plan : IsPlanOverSomeFiles (file_change_between p.packages.now.selection.now.db p.members (wishes_of_plan p).purge) old p.files)
    → HasDisjointUnreservedNames p.files → HasSources (members_of p.members) p.files → IsPlanForMembersAlone (members_of p.members) p.files
    → All (λ l. is_reserved l.path ≡ false) (listings_of_members (map member_of_kept (packages_of p.packages.now.selection.now.db)))
    → IsPlanned mid p found plan.files
unfolding old_listings
planned_now old mid same p found arrived plan names sources owners unreserved =
    let is = change_is old p.packages.now p.members (wishes_of_plan p) found arrived in
    subst (λ (h : List TreeState). IsPlanned h p found plan.files) (sym same) (record {
      arrived = arrived;
      told = plan.told;
      lists = subst (λ (c : FileChange). ArePlanLists c plan.files p.files) is plan.lists;
      names = names;
      sources = sources;
      owners = owners;
      no_clash = subst (λ (c : FileChange). IfObservable old (λ v. HasNoClash (name_change c plan.files) plan.files)) is plan.no_clash;
      unreserved = subst (λ (ps : List Plain). All (λ l. is_reserved l.path ≡ false) (listings_of_members (map member_of_kept ps))) arrived.read.database unreserved;
    })

pub planned_run : (old mid now : List TreeState) (before between after : Counts) (a : ReadPackages) (ms : Members) (p : FilePlan) (wishes : ChangeWishes) (found : List MemberFound) (result : Result (List ℕ) Refused)
    → IsOnlyRead old mid before between → IsArrived old a ms found → (plan : IsPlanOverSomeFiles (file_change_between a.selection.now.db ms wishes.purge) old p) → IsPlanForMembersAlone (members_of ms) p
    → IsEndOfRunOfWantedChange (Ok found)
    (and_then (unless_trigger_due wishes.no_scripts (touched_paths (packages_before_and_after_with_purge (inputs_of_packages a) wishes found) plan.files) (found_members found))
    (λ allowed. change_done_unless_over_writer_limits (inputs_of_packages a) (replacement_of_packages a) wishes found plan.files)) mid now between after result
    → IsRunOnFoundPackages (inputs_of_packages a) (replacement_of_packages a) wishes found old now before after result
planned_run old mid now before between after a ms p wishes found result quiet arrived plan owners comes =
    let inputs = inputs_of_packages a in
    let r = replacement_of_packages a in
    let members : List Member = found_members found in
    let rest : Result ChangeDone Refusal = and_then (unless_trigger_due wishes.no_scripts (touched_paths (packages_before_and_after_with_purge inputs wishes found) plan.files) members) (λ allowed. change_done_unless_over_writer_limits inputs r wishes found plan.files) in
    let wanted_is : change_with_members inputs r wishes None plan.files found ≡ rest =
    ap (λ (o : Option (List ℕ)). unless_reserved_path o (unless_contested members (first_contested_member_path_in_byte_order members) rest)) (sym (ap first_reserved_added_path_in_byte_order arrived.members) ∙ owners.allowed)
    ∙ ap (λ (o : Option ContestedPath). unless_contested members o rest) (sym (ap first_contested_member_path_in_byte_order arrived.members) ∙ owners.owners) in
    let none = none_told (packages_before_and_after_with_purge inputs wishes found) plan.files old plan.told
    (subst (λ (c : FileChange). IsFirstClashOverSomeFiles (name_change c plan.files) None) (change_is old a ms wishes found arrived) plan.may_have_none)
    (subst (λ (c : FileChange). IfObservable old (λ v. HasNoClash (name_change c plan.files) plan.files)) (change_is old a ms wishes found arrived) plan.no_clash) in
    record {
      files = plan.files;
      there = plan.told;
      present_files = none.0;
      stand = none.1;
      clash = None;
      is_clash = none.2;
      comes = subst (λ (w : Result ChangeDone Refusal). IsEndOfRunOfWantedChange (Ok found) w old now before after result) (sym wanted_is)
          (comes_after_reads (Ok found) rest old mid now before between after result quiet comes);
    }

-- the same two, of the step that plans
pub planned_step : (old mid : List TreeState) (p : Plan) (found : List MemberFound) → (plan : IsPlanFrom old (wishes_of_plan p).purge p.packages.now.selection.now.db p.members p.files) → mid ≡ old
    → IsArrived old p.packages.now p.members found → IsPlanned mid p found plan.lists.files
planned_step old mid p found plan same arrived =
    planned_now old mid same p found arrived plan.lists plan.names plan.sources plan.owners plan.unreserved

pub planned_step_run : (old mid now : List TreeState) (before between after : Counts) (p : Plan) (found : List MemberFound) (result : Result (List ℕ) Refused)
    → ((files : Files) → IsPlanned mid p found files
    → IsEndOfRunOfWantedChange (Ok found)
    (and_then (unless_trigger_due (wishes_of_plan p).no_scripts (touched_paths (packages_before_and_after_with_purge (inputs_of_plan p) (wishes_of_plan p) found) files) (found_members found))
    (λ allowed. change_done_unless_over_writer_limits (inputs_of_plan p) (replacement_of_plan p) (wishes_of_plan p) found files)) mid now between after result)
    → IsPlanFrom old (wishes_of_plan p).purge p.packages.now.selection.now.db p.members p.files → IsOnlyRead old mid before between → IsArrived old p.packages.now p.members found
    → IsRunOnFoundPackages (inputs_of_plan p) (replacement_of_plan p) (wishes_of_plan p) found old now before after result
planned_step_run old mid now before between after p found result comes plan quiet arrived =
    planned_run old mid now before between after p.packages.now p.members p.files (wishes_of_plan p) found result quiet arrived plan.lists plan.owners
    (comes plan.lists.files (planned_step old mid p found plan quiet.same arrived))

-- the triggers of a planned change are those that the plan's paths have
pub triggers_are : (history : List TreeState) (p : Plan) (found : List MemberFound) (files : Files) → IsPlanned history p found files
    → unless_trigger_due (wishes_of_plan p).no_scripts (planned_paths p.files) (members_of p.members)
    ≡ unless_trigger_due (wishes_of_plan p).no_scripts (touched_paths (packages_before_and_after_with_purge (inputs_of_plan p) (wishes_of_plan p) found) files) (found_members found)
triggers_are history p found files planned =
    λ i. unless_trigger_due (wishes_of_plan p).no_scripts (map (λ w. w.name) (planned.lists.writes i) ++ planned.lists.removals i) (planned.arrived.members i)

-- the packages after a change have arrived
pub has_arrived : (history : List TreeState) (a : ReadPackages) (ms : Members) (found : List MemberFound) → members_of ms ≡ found_members found → HasReadAddedPackages history a found
    → IsArrived history a ms found
has_arrived history a ms found members read = record { read = read; members = members }
