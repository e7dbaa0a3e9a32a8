-- A change that is refused for its packages is refused for a stated fault.
use Rattle.std.proofs.Common.{◌≡◌, ℕ, suc, Bool, true, false, not, List, [], ◌∷◌, Option, Some, None, Result, Ok, Err, refl}
use Rattle.std.specs.Prelude.{if◌then◌else◌, bytes_eq}
use Rattle.adb_view.specs.Plain.{Plain}
use Rattle.make_core.specs.adb_fields.Repeated.{package_name}
use Rattle.gen_core.specs.adb_write.Canonical.{ByteAndValueCounts, counts_at_first_overflow}
use Rattle.base_core.specs.Files.{Files}
use Rattle.base_core.specs.declared.cause.Cause.{Cause}
use Rattle.engine_core.specs.own_core.PlanLists.{first_reserved_added_path_in_byte_order}
use Rattle.tell_core.specs.change_inputs.Chains.{and_then}
use Rattle.tell_core.specs.change_inputs.Inputs.{Inputs}
use Rattle.engine_core.specs.change_outcome.ChangeOutcome.{ChangeDone, ChangeWishes, intent_of_change, change_done, members_after_change, change_or_refusal, change_with_members, packages_before_and_after_with_purge, database_and_world_after_change, touched_paths, unless_clash, unless_contested, or_result_too_large, unless_overflow, unless_reserved_path, change_done_unless_over_writer_limits}
use Rattle.engine_core.specs.change_outcome.MembersAfter.{MemberFound, added_package_by_path, added_member_found, members_after, member_of_name_after, member_of_name_by_change, member_of_name_by_selected, no_member_unless_removal_needs_script, members_of_names_after}
use Rattle.engine_core.specs.change_outcome.PackageFiles.{AddedPackage, first_script_number_of_package, package_file_path_of_candidate, added_package_or_refusal, scripts_of_change, package_unless_other_than_candidate, unless_script_number, package_unless_bad_or_different, unless_script_needed}
use Rattle.engine_core.specs.change_outcome.Triggers.{folders_of_paths, has_due_trigger, unless_trigger_due}
use Rattle.tell_core.specs.db_core.Members.{Member}
use Rattle.engine_core.specs.db_core.NewDatabase.{database_of}
use Rattle.dep_core.specs.Repositories.{Repository}
use Rattle.tell_core.specs.file_owners.Owners.{first_contested_member_path_in_byte_order, owned_flags_of}
use Rattle.engine_core.specs.journal_intent.IntentValue.{intent_of_lists, value_of_intent}
use Rattle.make_core.specs.make_info.Reads.{Reads}
use Rattle.engine_core.specs.package_changes.Changes.{Replacement}
use Rattle.tell_core.specs.path_claims.Claims.{ContestedPath}
use Rattle.tell_core.specs.path_clashes.Clash.{NamePair}
use Rattle.tell_core.specs.candidate_core.Candidates.{Candidate, is_same_id_by_nonempty_prefix}
use Rattle.report_core.specs.Reports.{Change}
use Rattle.report_core.specs.declared.refusal.Refusal.{Refusal}
use Rattle.outcome.proofs.Ends.{HasKnownRefusal, then_stated}
use Rattle.outcome.specs.ChangeEnd.{is_refusal_after_choice}

abbrev IsPackagesResult : {A : Type 0} → Result A Refusal → Type 0
IsPackagesResult r = HasKnownRefusal is_refusal_after_choice r

-- ---- a package that comes

test_stated : {A : Type 0} (test : Bool) (refusal : Refusal) (next : Result A Refusal) → is_refusal_after_choice refusal ≡ true → IsPackagesResult next → IsPackagesResult (if test then Err refusal else next)
test_stated true refusal next stated h = stated
test_stated false refusal next stated h = h

different_stated : (c : Candidate) (pkg : AddedPackage) → IsPackagesResult (package_unless_other_than_candidate c pkg)
different_stated c pkg =
    test_stated (not (is_same_id_by_nonempty_prefix c.id pkg.id)) _ _ refl
    (test_stated (not (bytes_eq c.name (package_name pkg.value))) _ _ refl
    (test_stated _ _ (Ok pkg) refl tt))

bad_stated : (c : Candidate) (cause : Option Cause) (pkg : AddedPackage) → IsPackagesResult (package_unless_bad_or_different c cause pkg)
bad_stated c None pkg = different_stated c pkg
bad_stated c (Some cause) pkg = refl

file_stated : (c : Candidate) (file : Option (List ℕ)) → IsPackagesResult (added_package_or_refusal c file)
file_stated c None = refl
file_stated c (Some file) = bad_stated c _ _

path_stated : (read : Reads) (n : ℕ) (c : Candidate) (path : Option (List ℕ)) → IsPackagesResult (added_package_by_path read n c path)
path_stated read n c None = file_stated c None
path_stated read n c (Some path) = file_stated c (read n path)

number_stated : {A : Type 0} (name : List ℕ) (number : Option ℕ) (a : A) → IsPackagesResult (unless_script_number name number a)
number_stated name None a = tt
number_stated name (Some number) a = refl

script_stated : {A : Type 0} (no_scripts : Bool) (name : List ℕ) (pkg : Plain) (numbers : List ℕ) (a : A) → IsPackagesResult (unless_script_needed no_scripts name pkg numbers a)
script_stated true name pkg numbers a = tt
script_stated false name pkg numbers a = number_stated name (first_script_number_of_package pkg numbers) a

-- ---- each name

goes_stated : (no_scripts : Bool) (name : List ℕ) (change : Change) (before : Option Plain) → IsPackagesResult (no_member_unless_removal_needs_script no_scripts name change before)
goes_stated no_scripts name change None = tt
goes_stated no_scripts name change (Some pkg) = script_stated no_scripts name pkg (scripts_of_change change) None

selected_stated : (read : Reads) (repositories : List Repository) (no_scripts : Bool) (n : ℕ) (name : List ℕ) (change : Change) (before : Option Plain) (selected : Option Candidate)
    → IsPackagesResult (member_of_name_by_selected read repositories no_scripts n name change before selected)
selected_stated read repositories no_scripts n name change before None = goes_stated no_scripts name change before
selected_stated read repositories no_scripts n name change before (Some c) =
    then_stated is_refusal_after_choice (added_package_by_path read n c (package_file_path_of_candidate repositories c)) _ (path_stated read n c (package_file_path_of_candidate repositories c)) (λ pkg.
    script_stated no_scripts name pkg.value (scripts_of_change change) (Some (added_member_found pkg)))

change_stated : (read : Reads) (repositories : List Repository) (no_scripts : Bool) (n : ℕ) (name : List ℕ) (change : Option Change) (before : Option Plain) (selected : Option Candidate)
    → IsPackagesResult (member_of_name_by_change read repositories no_scripts n name change before selected)
change_stated read repositories no_scripts n name None before selected = tt
change_stated read repositories no_scripts n name (Some change) before selected = selected_stated read repositories no_scripts n name change before selected

names_stated : (r : Replacement) (read : Reads) (repositories : List Repository) (no_scripts : Bool) (n : ℕ) (names : List (List ℕ)) → IsPackagesResult (members_of_names_after r read repositories no_scripts n names)
names_stated r read repositories no_scripts n [] = tt
names_stated r read repositories no_scripts n (name ∷ names) =
    then_stated is_refusal_after_choice (member_of_name_after r read repositories no_scripts n name) _ (change_stated read repositories no_scripts n name _ _ _) (λ first.
    then_stated is_refusal_after_choice (members_of_names_after r read repositories no_scripts (suc n) names) _ (names_stated r read repositories no_scripts (suc n) names) (λ others. tt))

members_stated : (r : Replacement) (read : Reads) (repositories : List Repository) (no_scripts : Bool) → IsPackagesResult (members_after r read repositories no_scripts)
unfolding members_after
members_stated r read repositories no_scripts = names_stated r read repositories no_scripts _ _

-- ---- all together

reserved_stated : {A : Type 0} (path : Option (List ℕ)) (next : Result A Refusal) → IsPackagesResult next → IsPackagesResult (unless_reserved_path path next)
reserved_stated None next h = h
reserved_stated (Some path) next h = refl

clash_stated : {A : Type 0} (clash : Option NamePair) (next : Result A Refusal) → IsPackagesResult next → IsPackagesResult (unless_clash clash next)
clash_stated None next h = h
clash_stated (Some pair) next h = refl

contested_stated : {A : Type 0} (members : List Member) (contested : Option ContestedPath) (next : Result A Refusal) → IsPackagesResult next → IsPackagesResult (unless_contested members contested next)
contested_stated members None next h = h
contested_stated members (Some c) next h = refl

trigger_stated : (no_scripts : Bool) (paths : List (List ℕ)) (members : List Member) → IsPackagesResult (unless_trigger_due no_scripts paths members)
trigger_stated true paths members = tt
trigger_stated false paths [] = tt
trigger_stated false paths (m ∷ members) = test_stated (has_due_trigger (folders_of_paths paths) m.pkg) _ (unless_trigger_due false paths members) refl (trigger_stated false paths members)

large_stated : {A : Type 0} (r : Result A ByteAndValueCounts) → IsPackagesResult (or_result_too_large r)
large_stated (Ok a) = tt
large_stated (Err counts) = refl

overflow_stated : {A : Type 0} (counts : Option ByteAndValueCounts) (a : A) → IsPackagesResult (unless_overflow counts a)
overflow_stated None a = tt
overflow_stated (Some counts) a = refl

too_large_stated : (inputs : Inputs) (r : Replacement) (wishes : ChangeWishes) (found : List MemberFound) (files : Files) → IsPackagesResult (change_done_unless_over_writer_limits inputs r wishes found files)
too_large_stated inputs r wishes found files =
    let members = (packages_before_and_after_with_purge inputs wishes found).members in
    then_stated {A = List ℕ} {B = ChangeDone} is_refusal_after_choice (or_result_too_large (database_of members (owned_flags_of members)))
    (λ database.
    let records = database_and_world_after_change inputs database in
    let actions = intent_of_change inputs (packages_before_and_after_with_purge inputs wishes found) files records in
    unless_overflow (counts_at_first_overflow (value_of_intent (intent_of_lists actions.removals actions.writes))) (change_done inputs r wishes found files records))
    (large_stated (database_of members (owned_flags_of members)))
    (λ database.
    let records = database_and_world_after_change inputs database in
    let actions = intent_of_change inputs (packages_before_and_after_with_purge inputs wishes found) files records in
    overflow_stated (counts_at_first_overflow (value_of_intent (intent_of_lists actions.removals actions.writes))) (change_done inputs r wishes found files records))

with_members_stated : (inputs : Inputs) (r : Replacement) (wishes : ChangeWishes) (clash : Option NamePair) (files : Files) (found : List MemberFound) → IsPackagesResult (change_with_members inputs r wishes clash files found)
with_members_stated inputs r wishes clash files found =
    let change = packages_before_and_after_with_purge inputs wishes found in
    let paths = touched_paths change files in
    let rest : IsPackagesResult (and_then (unless_trigger_due wishes.no_scripts paths change.members) (λ is_allowed. change_done_unless_over_writer_limits inputs r wishes found files)) =
    then_stated is_refusal_after_choice (unless_trigger_due wishes.no_scripts paths change.members) (λ is_allowed. change_done_unless_over_writer_limits inputs r wishes found files) (trigger_stated wishes.no_scripts paths change.members) (λ is_allowed. too_large_stated inputs r wishes found files) in
    let owned : Result ChangeDone Refusal = unless_contested change.members (first_contested_member_path_in_byte_order change.members) (and_then (unless_trigger_due wishes.no_scripts paths change.members) (λ is_allowed. change_done_unless_over_writer_limits inputs r wishes found files)) in
    reserved_stated (first_reserved_added_path_in_byte_order change.members) (unless_clash clash owned) (clash_stated clash owned (contested_stated change.members (first_contested_member_path_in_byte_order change.members) (and_then (unless_trigger_due wishes.no_scripts paths change.members) (λ is_allowed. change_done_unless_over_writer_limits inputs r wishes found files)) rest))

pub refusal_stated : (inputs : Inputs) (r : Replacement) (wishes : ChangeWishes) (read : Reads) (clash : Option NamePair) (files : Files) → IsPackagesResult (change_or_refusal inputs r wishes read clash files)
unfolding change_or_refusal
refusal_stated inputs r wishes read clash files =
    then_stated is_refusal_after_choice (members_after_change inputs r wishes read) _ (members_stated r read inputs.root.repositories wishes.no_scripts) (with_members_stated inputs r wishes clash files)
