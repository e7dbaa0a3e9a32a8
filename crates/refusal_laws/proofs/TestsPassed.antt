-- What holds of a change that has passed tests.
use Rattle.std.proofs.Common.{◌≡◌, inl, inr, ◌∙◌, ℕ, Bool, true, false, List, [], ◌∷◌, map, Option, Some, None, Result, Ok, Err, refl, ap, sym, subst, true≢false}
use Rattle.std.specs.Prelude.{if◌then◌else◌}
use Rattle.std.proofs.lemmas.Bool.{and_from}
use Rattle.outcome.specs.adb_fields.FirstPair.{IsIn}
use Rattle.adb_view.specs.Plain.{Plain}
use Rattle.base_core.specs.Files.{Files}
use Rattle.outcome.specs.own_core.FileChange.{FileChange}
use Rattle.outcome.specs.own_core.PlanLists.{first_reserved_added_path_in_byte_order}
use Rattle.outcome.proofs.own_core.InOrder.{in_order}
use Rattle.outcome.specs.change_inputs.Chains.{and_then}
use Rattle.outcome.specs.change_inputs.Inputs.{Inputs}
use Rattle.outcome.specs.change_outcome.ChangeOutcome.{ChangeDone, ChangeWishes, IsFirstClashUnlessMembersRefused, IsFirstClashOfChange, members_after_change, change_or_refusal, change_with_members, packages_before_and_after_with_purge, member_name_at_place, touched_paths, unless_clash, unless_contested, unless_reserved_path, change_done_unless_over_writer_limits}
use Rattle.outcome.specs.change_outcome.MembersAfter.{MemberFound}
use Rattle.outcome.specs.change_outcome.PackageFiles.{has_script_with_number}
use Rattle.report_core.specs.Numbers.{TRIGGER_SCRIPT}
use Rattle.outcome.specs.change_outcome.Triggers.{folders_of_paths, has_due_trigger, is_trigger_due, is_folder_matched_by_pattern, watches_folder, trigger_patterns_of_package, unless_trigger_due}
use Rattle.outcome.specs.db_core.Members.{Member, member_name}
use Rattle.outcome.specs.file_owners.Owners.{first_contested_member_path_in_byte_order}
use Rattle.outcome.specs.make_info.Reads.{Reads}
use Rattle.outcome.specs.package_files.Folders.{folder_of}
use Rattle.outcome.specs.package_changes.Changes.{Replacement}
use Rattle.outcome.specs.path_claims.Claims.{ContestedPath}
use Rattle.outcome.specs.path_clashes.Clash.{NamePair}
use Rattle.report_core.specs.declared.refusal.Refusal.{Refusal}
use Rattle.report_core.specs.declared.refusal.Refusal.TheVariants.{Owned, PathClash, Reserved, TriggerNeeded}
use Rattle.refusal_laws.specs.ChangeFaults.{HasPatternOfTouchedFolder}
use Rattle.refusal_laws.specs.TestsPassed.{AreAddedPathsUnreserved, PassesChangeTestsExceptLimits, HasNoDueTrigger, HasNoReservedOrClashingPath, HasNoReservedClashingOrUnownedPath, HasPassedFileTestsBeforeRefusal}
use Rattle.refusal_laws.proofs.ChangeFaults.{kept_test, large_told, trigger_of}
use Rattle.refusal_laws.proofs.Lists.{and_then_err, and_then_ok, in_any, in_mapped, name_in}
use Rattle.refusal_laws.proofs.Paths.{are_unreserved, have_owners}

-- ---- triggers

is_due_where : (change : FileChange) (files : Files) (pkg : Plain) → has_script_with_number pkg TRIGGER_SCRIPT ≡ true → HasPatternOfTouchedFolder change files pkg → has_due_trigger (folders_of_paths (touched_paths change files)) pkg ≡ true
is_due_where change files pkg has watched =
    let folders : List (List ℕ) = map folder_of (touched_paths change files) in
    let folder : List ℕ = folder_of watched.path in
    in_any (is_trigger_due pkg) (folders_of_paths (touched_paths change files)) folder
    (name_in folder (folders_of_paths (touched_paths change files)) (in_order folder folders (in_mapped folder_of (touched_paths change files) watched.path watched.touched)))
    (and_from (has_script_with_number pkg TRIGGER_SCRIPT) (watches_folder pkg folder) has (in_any (is_folder_matched_by_pattern folder) (trigger_patterns_of_package pkg) watched.pattern watched.is_pattern watched.matched))

none_due : (paths : List (List ℕ)) (members : List Member) (is_allowed : Bool) → unless_trigger_due false paths members ≡ Ok is_allowed → (m : Member) → IsIn m members → has_due_trigger (folders_of_paths paths) m.pkg ≡ true → ⊥
none_due paths [] is_allowed e m here due = here
none_due paths (n ∷ members) is_allowed e m here due = by_test (has_due_trigger (folders_of_paths paths) n.pkg) refl e here (λ rest more. none_due paths members is_allowed rest m more due)
  where
    by_test : (b : Bool) → has_due_trigger (folders_of_paths paths) n.pkg ≡ b → kept_test (if b then Err (TriggerNeeded (member_name n)) else unless_trigger_due false paths members) ≡ Ok is_allowed → IsIn m (n ∷ members)
        → (unless_trigger_due false paths members ≡ Ok is_allowed → IsIn m members → ⊥) → ⊥
    by_test true is e here rest = cc (e)
    by_test false is e (inl same) rest = true≢false (sym due ∙ (ap (λ (k : Member). has_due_trigger (folders_of_paths paths) k.pkg) same ∙ is))
    by_test false is e (inr more) rest = rest e more

no_trigger : (wishes : ChangeWishes) (change : FileChange) (files : Files) (is_allowed : Bool) → unless_trigger_due wishes.no_scripts (touched_paths change files) change.members ≡ Ok is_allowed → HasNoDueTrigger wishes change files
no_trigger wishes change files is_allowed e asked m here has watched =
    none_due (touched_paths change files) change.members is_allowed (ap (λ b. unless_trigger_due b (touched_paths change files) change.members) (sym asked) ∙ e) m here
    (is_due_where change files m.pkg has watched)

-- ---- a change

module _ (inputs : Inputs) (r : Replacement) (wishes : ChangeWishes) (files : Files) (found : List MemberFound) where
  abbrev change : FileChange
  change = packages_before_and_after_with_purge inputs wishes found

  abbrev IsSo : Refusal → Type 0
  IsSo refusal = HasPassedFileTestsBeforeRefusal wishes change files refusal

  abbrev with_triggers : Result ChangeDone Refusal
  with_triggers = and_then (unless_trigger_due wishes.no_scripts (touched_paths change files) change.members) (λ is_allowed. change_done_unless_over_writer_limits inputs r wishes found files)

  -- ---- refused

  trigger_passed : (no_scripts : Bool) (refusal : Refusal) → HasNoReservedClashingOrUnownedPath change files → unless_trigger_due no_scripts (touched_paths change files) change.members ≡ Err refusal → IsSo refusal
  trigger_passed true refusal owners e = absurd (none change.members e)
    where
      none : (members : List Member) → unless_trigger_due true (touched_paths change files) members ≡ Err refusal → ⊥
      none [] e = cc (e)
      none (m ∷ members) e = cc (e)
  trigger_passed false refusal owners e = let due = trigger_of (touched_paths change files) change.members refusal e in subst IsSo due.3 owners

  triggers_passed : (refusal : Refusal) → HasNoReservedClashingOrUnownedPath change files → with_triggers ≡ Err refusal → IsSo refusal
  triggers_passed refusal owners e =
      elim (and_then_err (unless_trigger_due wishes.no_scripts (touched_paths change files) change.members) (λ is_allowed. change_done_unless_over_writer_limits inputs r wishes found files) refusal e) [
        | inl first ↦ trigger_passed wishes.no_scripts refusal owners first
        | inr next ↦ (let told = large_told inputs r wishes files found refusal next.2 in
            subst IsSo told.2 (owners, no_trigger wishes change files next.0 next.1))
      ]

  owners_passed : (o : Option ContestedPath) (refusal : Refusal) → first_contested_member_path_in_byte_order change.members ≡ o → HasNoReservedOrClashingPath change files → unless_contested change.members o with_triggers ≡ Err refusal → IsSo refusal
  owners_passed None refusal is names e = triggers_passed refusal (names, have_owners change.members is) e
  owners_passed (Some c) refusal is names e =
      let same : Owned c.path (member_name_at_place change.members c.rivals.first) (member_name_at_place change.members c.rivals.second) ≡ refusal = cc in
      subst IsSo same names

  clash_passed : (o : Option NamePair) (refusal : Refusal) → IsFirstClashUnlessMembersRefused inputs wishes files (Ok found) o → AreAddedPathsUnreserved change.members
      → unless_clash o (unless_contested change.members (first_contested_member_path_in_byte_order change.members) with_triggers) ≡ Err refusal → IsSo refusal
  clash_passed None refusal is free e = owners_passed (first_contested_member_path_in_byte_order change.members) refusal refl (free, is) e
  clash_passed (Some pair) refusal is free e = let same : PathClash pair.path pair.other ≡ refusal = cc in subst IsSo same free

  pub files_passed : (clash : Option NamePair) (refusal : Refusal) → IsFirstClashUnlessMembersRefused inputs wishes files (Ok found) clash → change_with_members inputs r wishes clash files found ≡ Err refusal → HasPassedFileTestsBeforeRefusal wishes (packages_before_and_after_with_purge inputs wishes found) files refusal
  files_passed clash refusal is e = by_path (first_reserved_added_path_in_byte_order change.members) refl e
    where
      by_path : (o : Option (List ℕ)) → first_reserved_added_path_in_byte_order change.members ≡ o → unless_reserved_path o (unless_clash clash (unless_contested change.members (first_contested_member_path_in_byte_order change.members) with_triggers)) ≡ Err refusal → IsSo refusal
      by_path None none e = clash_passed clash refusal is (are_unreserved change.members none) e
      by_path (Some path) first e = let same : Reserved path ≡ refusal = cc in subst IsSo same tt

  -- ---- made

  owners_made : (o : Option ContestedPath) (done : ChangeDone) → first_contested_member_path_in_byte_order change.members ≡ o → HasNoReservedOrClashingPath change files → unless_contested change.members o with_triggers ≡ Ok done → PassesChangeTestsExceptLimits wishes change files
  owners_made None done is names e =
      let triggers = and_then_ok (unless_trigger_due wishes.no_scripts (touched_paths change files) change.members) (λ is_allowed. change_done_unless_over_writer_limits inputs r wishes found files) done e in
      ((names, have_owners change.members is), no_trigger wishes change files triggers.0 triggers.1)
  owners_made (Some c) done is names e = absurd (cc (e))

  clash_made : (o : Option NamePair) (done : ChangeDone) → IsFirstClashUnlessMembersRefused inputs wishes files (Ok found) o → AreAddedPathsUnreserved change.members
      → unless_clash o (unless_contested change.members (first_contested_member_path_in_byte_order change.members) with_triggers) ≡ Ok done → PassesChangeTestsExceptLimits wishes change files
  clash_made None done is free e = owners_made (first_contested_member_path_in_byte_order change.members) done refl (free, is) e
  clash_made (Some pair) done is free e = absurd (cc (e))

  pub files_made : (clash : Option NamePair) (done : ChangeDone) → IsFirstClashUnlessMembersRefused inputs wishes files (Ok found) clash → change_with_members inputs r wishes clash files found ≡ Ok done → PassesChangeTestsExceptLimits wishes (packages_before_and_after_with_purge inputs wishes found) files
  files_made clash done is e = by_path (first_reserved_added_path_in_byte_order change.members) refl e
    where
      by_path : (o : Option (List ℕ)) → first_reserved_added_path_in_byte_order change.members ≡ o → unless_reserved_path o (unless_clash clash (unless_contested change.members (first_contested_member_path_in_byte_order change.members) with_triggers)) ≡ Ok done → PassesChangeTestsExceptLimits wishes change files
      by_path None none e = clash_made clash done is (are_unreserved change.members none) e
      by_path (Some path) first e = absurd (cc (e))

pub change_passed : (inputs : Inputs) (r : Replacement) (wishes : ChangeWishes) (read : Reads) (clash : Option NamePair) (files : Files) (found : List MemberFound) (refusal : Refusal)
    → members_after_change inputs r wishes read ≡ Ok found → change_or_refusal inputs r wishes read clash files ≡ Err refusal → IsFirstClashOfChange inputs r wishes read files clash → HasPassedFileTestsBeforeRefusal wishes (packages_before_and_after_with_purge inputs wishes found) files refusal
unfolding change_or_refusal
change_passed inputs r wishes read clash files found refusal are e is =
    files_passed inputs r wishes files found clash refusal (subst (λ (m : Result (List MemberFound) Refusal). IsFirstClashUnlessMembersRefused inputs wishes files m clash) are is)
    (ap (λ (m : Result (List MemberFound) Refusal). and_then m (change_with_members inputs r wishes clash files)) (sym are) ∙ e)

pub change_made : (inputs : Inputs) (r : Replacement) (wishes : ChangeWishes) (read : Reads) (clash : Option NamePair) (files : Files) (done : ChangeDone)
    → change_or_refusal inputs r wishes read clash files ≡ Ok done → IsFirstClashOfChange inputs r wishes read files clash
    → (found : List MemberFound) × (members_after_change inputs r wishes read ≡ Ok found) × PassesChangeTestsExceptLimits wishes (packages_before_and_after_with_purge inputs wishes found) files
unfolding change_or_refusal
change_made inputs r wishes read clash files done e is =
    let found = and_then_ok (members_after_change inputs r wishes read) (change_with_members inputs r wishes clash files) done e in
    (found.0, found.1, files_made inputs r wishes files found.0 clash done (subst (λ (m : Result (List MemberFound) Refusal). IsFirstClashUnlessMembersRefused inputs wishes files m clash) found.1 is) found.2)
