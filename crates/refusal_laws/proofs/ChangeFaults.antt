-- A change that is refused for what it would leave is refused for its fault.
use Rattle.std.proofs.Common.{◌≡◌, inl, inr, ◌∙◌, ℕ, Bool, true, false, List, [], ◌∷◌, map, Option, Some, None, Result, Ok, Err, refl, ap, sym, subst}
use Rattle.std.specs.Prelude.{if◌then◌else◌}
use Rattle.std.proofs.lemmas.Bool.{and_parts}
use Rattle.outcome.specs.adb_fields.FirstPair.{IsIn}
use Rattle.adb_view.specs.Plain.{Plain}
use Rattle.outcome.specs.adb_write.Canonical.{ByteAndValueCounts, counts_after_values, empty_layout_counting_root, exceeds_a_limit, counts_at_first_overflow, payload_or_counts_at_overflow}
use Rattle.base_core.specs.Files.{Files}
use Rattle.outcome.specs.own_core.FileChange.{FileChange}
use Rattle.outcome.specs.own_core.PlanLists.{first_reserved_added_path_in_byte_order}
use Rattle.outcome.proofs.own_core.InOrder.{from_order}
use Rattle.outcome.specs.change_inputs.Chains.{and_then}
use Rattle.outcome.specs.change_inputs.Inputs.{Inputs}
use Rattle.outcome.specs.change_outcome.ChangeOutcome.{ChangeDone, ChangeWishes, IsFirstClashUnlessMembersRefused, IsFirstClashOfChange, intent_of_change, change_done, members_after_change, change_or_refusal, change_with_members, packages_before_and_after_with_purge, member_name_at_place, database_and_world_after_change, touched_paths, unless_clash, unless_contested, or_result_too_large, unless_overflow, unless_reserved_path, change_done_unless_over_writer_limits}
use Rattle.outcome.specs.change_outcome.MembersAfter.{MemberFound}
use Rattle.outcome.specs.change_outcome.PackageFiles.{has_script_with_number}
use Rattle.report_core.specs.Numbers.{TRIGGER_SCRIPT}
use Rattle.outcome.specs.change_outcome.Triggers.{folders_of_paths, has_due_trigger, is_trigger_due, is_folder_matched_by_pattern, watches_folder, trigger_patterns_of_package, unless_trigger_due}
use Rattle.outcome.specs.db_core.Members.{Member, member_name}
use Rattle.outcome.specs.db_core.NewDatabase.{database_file_of_payload_unless_too_large, database_of, database_value}
use Rattle.outcome.specs.file_owners.Owners.{first_contested_member_path_in_byte_order, owned_flags_of}
use Rattle.outcome.specs.journal_intent.IntentValue.{intent_of_lists, value_of_intent}
use Rattle.outcome.proofs.journal_intent.Rooted.{payload_large}
use Rattle.outcome.specs.make_info.Reads.{Reads}
use Rattle.outcome.specs.package_files.Folders.{folder_of}
use Rattle.outcome.specs.package_changes.Changes.{Replacement}
use Rattle.outcome.specs.path_claims.Claims.{ContestedPath}
use Rattle.outcome.specs.path_clashes.Clash.{NamePair}
use Rattle.report_core.specs.declared.refusal.Refusal.{Refusal}
use Rattle.report_core.specs.declared.refusal.Refusal.TheVariants.{Owned, PathClash, Reserved, ResultTooLarge, TriggerNeeded}
use Rattle.refusal_laws.specs.ChangeFaults.{IsFaultOfChange, IsFaultOfFiles, IsDatabaseOrIntentTooLargeFirstAtCounts, IsTooLargeFirstAtCounts, IsTriggerDueAndNotSkipped, HasPatternOfTouchedFolder}
use Rattle.refusal_laws.proofs.Lists.{and_then_err, any_in, found_in, in_names, mapped_in}
use Rattle.refusal_laws.proofs.PackageFaults.{members_fault}
use Rattle.refusal_laws.proofs.Paths.{contested_is, first_reserved_is}

-- ---- limits

pub too_large : (v : Plain) (counts : ByteAndValueCounts) → counts_at_first_overflow v ≡ Some counts → IsTooLargeFirstAtCounts v counts.0 counts.1
too_large v counts e = (e, (found_in exceeds_a_limit (counts_after_values v empty_layout_counting_root) counts e).1)

database_err : (members : List Member) (flags : List Bool) (counts : ByteAndValueCounts) → database_of members flags ≡ Err counts → payload_or_counts_at_overflow (database_value members flags) ≡ Err counts
unfolding database_of
database_err members flags counts e = by_written (payload_or_counts_at_overflow (database_value members flags)) refl e
  where
    by_written : (w : Result (List ℕ) ByteAndValueCounts) → payload_or_counts_at_overflow (database_value members flags) ≡ w → database_file_of_payload_unless_too_large w ≡ Err counts → payload_or_counts_at_overflow (database_value members flags) ≡ Err counts
    by_written (Ok payload) is e = absurd (cc (e))
    by_written (Err first) is e = let same : first ≡ counts = cc in is ∙ ap (λ (c : ByteAndValueCounts). Err c) same

large_err : {A : Type 0} (w : Result A ByteAndValueCounts) (refusal : Refusal) → or_result_too_large w ≡ Err refusal → (counts : ByteAndValueCounts) × (w ≡ Err counts) × (ResultTooLarge counts.0 counts.1 ≡ refusal)
large_err (Ok a) refusal e = absurd (cc (e))
large_err (Err counts) refusal e = (counts, refl, (let same : ResultTooLarge counts.0 counts.1 ≡ refusal = cc in same))

large_ok : {A : Type 0} (w : Result A ByteAndValueCounts) (a : A) → or_result_too_large w ≡ Ok a → w ≡ Ok a
large_ok (Ok x) a e = let same : x ≡ a = cc in ap (λ y. Ok y) same
large_ok (Err counts) a e = absurd (cc (e))

overflow_err : {A : Type 0} (o : Option ByteAndValueCounts) (a : A) (refusal : Refusal) → unless_overflow o a ≡ Err refusal → (counts : ByteAndValueCounts) × (o ≡ Some counts) × (ResultTooLarge counts.0 counts.1 ≡ refusal)
overflow_err None a refusal e = absurd (cc (e))
overflow_err (Some counts) a refusal e = (counts, refl, (let same : ResultTooLarge counts.0 counts.1 ≡ refusal = cc in same))

-- ---- triggers

abbrev pub kept_test : Result Bool Refusal → Result Bool Refusal
kept_test r = r

pub trigger_of : (paths : List (List ℕ)) (members : List Member) (refusal : Refusal) → unless_trigger_due false paths members ≡ Err refusal
    → (m : Member) × IsIn m members × (has_due_trigger (folders_of_paths paths) m.pkg ≡ true) × (TriggerNeeded (member_name m) ≡ refusal)
trigger_of paths [] refusal e = absurd (cc (e))
trigger_of paths (m ∷ members) refusal e = by_test (has_due_trigger (folders_of_paths paths) m.pkg) refl e (trigger_of paths members refusal)
  where
    by_test : (b : Bool) → has_due_trigger (folders_of_paths paths) m.pkg ≡ b → kept_test (if b then Err (TriggerNeeded (member_name m)) else unless_trigger_due false paths members) ≡ Err refusal
        → (unless_trigger_due false paths members ≡ Err refusal → (n : Member) × IsIn n members × (has_due_trigger (folders_of_paths paths) n.pkg ≡ true) × (TriggerNeeded (member_name n) ≡ refusal))
        → (n : Member) × IsIn n (m ∷ members) × (has_due_trigger (folders_of_paths paths) n.pkg ≡ true) × (TriggerNeeded (member_name n) ≡ refusal)
    by_test true due e more = (m, inl refl, due, (let same : TriggerNeeded (member_name m) ≡ refusal = cc in same))
    by_test false due e more = let other = more e in (other.0, inr other.1, other.2, other.3)

watches : (change : FileChange) (files : Files) (pkg : Plain) → has_due_trigger (folders_of_paths (touched_paths change files)) pkg ≡ true → (has_script_with_number pkg TRIGGER_SCRIPT ≡ true) × HasPatternOfTouchedFolder change files pkg
watches change files pkg due =
    let folder = any_in (is_trigger_due pkg) (folders_of_paths (touched_paths change files)) due in
    let both = and_parts (has_script_with_number pkg TRIGGER_SCRIPT) (watches_folder pkg folder.0) folder.2 in
    let pattern = any_in (is_folder_matched_by_pattern folder.0) (trigger_patterns_of_package pkg) both.1 in
    let path = mapped_in folder_of (touched_paths change files) folder.0 (from_order folder.0 (map folder_of (touched_paths change files)) (in_names folder.0 (folders_of_paths (touched_paths change files)) folder.1)) in (
      both.0,
      record {
        path = path.0;
        touched = path.1;
        pattern = pattern.0;
        is_pattern = pattern.1;
        matched = ap (λ f. is_folder_matched_by_pattern f pattern.0) (sym path.2) ∙ pattern.2;
      },
    )

trigger_err : (wishes : ChangeWishes) (change : FileChange) (files : Files) (no_scripts : Bool) (refusal : Refusal) → wishes.no_scripts ≡ no_scripts → unless_trigger_due no_scripts (touched_paths change files) change.members ≡ Err refusal
    → (name : List ℕ) × IsTriggerDueAndNotSkipped wishes change files name × (TriggerNeeded name ≡ refusal)
trigger_err wishes change files true refusal asked e = absurd (true_err change.members e)
  where
    true_err : (members : List Member) → unless_trigger_due true (touched_paths change files) members ≡ Err refusal → ⊥
    true_err [] e = cc (e)
    true_err (m ∷ members) e = cc (e)
trigger_err wishes change files false refusal asked e =
    let due = trigger_of (touched_paths change files) change.members refusal e in
    let is = watches change files due.0.pkg due.2 in
    (member_name due.0, record { asked = asked; member = due.0; located = due.1; named = refl; has = is.0; watches = is.1 }, due.3)

-- ---- what it would leave

module _ (inputs : Inputs) (r : Replacement) (wishes : ChangeWishes) (files : Files) (found : List MemberFound) where
  abbrev pub IsSo : Refusal → Type 0
  IsSo refusal = IsFaultOfFiles inputs wishes files found refusal

  abbrev change : FileChange
  change = packages_before_and_after_with_purge inputs wishes found

  -- it tells of counts
  pub large_told : (refusal : Refusal) → change_done_unless_over_writer_limits inputs r wishes found files ≡ Err refusal → (bytes : ℕ) × (values : ℕ) × (ResultTooLarge bytes values ≡ refusal)
  large_told refusal e =
      elim (and_then_err (or_result_too_large (database_of change.members (owned_flags_of change.members))) (λ database.
      unless_overflow (counts_at_first_overflow (value_of_intent (intent_of_lists (intent_of_change inputs change files (database_and_world_after_change inputs database)).removals (intent_of_change inputs change files (database_and_world_after_change inputs database)).writes)))
      (change_done inputs r wishes found files (database_and_world_after_change inputs database))) refusal e) [
        | inl first ↦ (let large = large_err (database_of change.members (owned_flags_of change.members)) refusal first in (large.0.0, large.0.1, large.2))
        | inr next ↦ (let intent : Plain = value_of_intent (intent_of_lists (intent_of_change inputs change files (database_and_world_after_change inputs next.0)).removals (intent_of_change inputs change files (database_and_world_after_change inputs next.0)).writes) in
            let over = overflow_err (counts_at_first_overflow intent) (change_done inputs r wishes found files (database_and_world_after_change inputs next.0)) refusal next.2 in
            (over.0.0, over.0.1, over.2))
      ]

  result_fault : (bytes values : ℕ) (refusal : Refusal) → IsDatabaseOrIntentTooLargeFirstAtCounts inputs change files bytes values → ResultTooLarge bytes values ≡ refusal → IsSo refusal
  result_fault bytes values refusal is same = subst IsSo same is

  large_fault : (refusal : Refusal) → change_done_unless_over_writer_limits inputs r wishes found files ≡ Err refusal → IsSo refusal
  large_fault refusal e =
      elim (and_then_err (or_result_too_large (database_of change.members (owned_flags_of change.members))) (λ database.
      unless_overflow (counts_at_first_overflow (value_of_intent (intent_of_lists (intent_of_change inputs change files (database_and_world_after_change inputs database)).removals (intent_of_change inputs change files (database_and_world_after_change inputs database)).writes)))
      (change_done inputs r wishes found files (database_and_world_after_change inputs database))) refusal e) [
        | inl first ↦ (let large = large_err (database_of change.members (owned_flags_of change.members)) refusal first in
            result_fault large.0.0 large.0.1 refusal
            (inl (too_large (database_value change.members (owned_flags_of change.members)) large.0
            (payload_large (database_value change.members (owned_flags_of change.members)) large.0 (database_err change.members (owned_flags_of change.members) large.0 large.1)))) large.2)
        | inr next ↦ (let intent : Plain = value_of_intent (intent_of_lists (intent_of_change inputs change files (database_and_world_after_change inputs next.0)).removals (intent_of_change inputs change files (database_and_world_after_change inputs next.0)).writes) in
            let over = overflow_err (counts_at_first_overflow intent) (change_done inputs r wishes found files (database_and_world_after_change inputs next.0)) refusal next.2 in
            result_fault over.0.0 over.0.1 refusal
            (inr (record { database = next.0; fits = large_ok (database_of change.members (owned_flags_of change.members)) next.0 next.1; passes = too_large intent over.0 over.1 })) over.2)
      ]

  trigger_fault : (refusal : Refusal) → and_then (unless_trigger_due wishes.no_scripts (touched_paths change files) change.members) (λ is_allowed. change_done_unless_over_writer_limits inputs r wishes found files) ≡ Err refusal → IsSo refusal
  trigger_fault refusal e =
      elim (and_then_err (unless_trigger_due wishes.no_scripts (touched_paths change files) change.members) (λ is_allowed. change_done_unless_over_writer_limits inputs r wishes found files) refusal e) [
        | inl first ↦ (let needed = trigger_err wishes change files wishes.no_scripts refusal refl first in subst IsSo needed.2 needed.1)
        | inr next ↦ large_fault refusal next.2
      ]

  abbrev after_owners : Result ChangeDone Refusal
  after_owners = and_then (unless_trigger_due wishes.no_scripts (touched_paths change files) change.members) (λ is_allowed. change_done_unless_over_writer_limits inputs r wishes found files)

  owned_fault : (o : Option ContestedPath) (refusal : Refusal) → first_contested_member_path_in_byte_order change.members ≡ o → unless_contested change.members o after_owners ≡ Err refusal → IsSo refusal
  owned_fault None refusal is e = trigger_fault refusal e
  owned_fault (Some c) refusal is e =
      let same : Owned c.path (member_name_at_place change.members c.rivals.first) (member_name_at_place change.members c.rivals.second) ≡ refusal = cc in
      subst IsSo same (contested_is change.members c is)

  clash_fault : (o : Option NamePair) (refusal : Refusal) → IsFirstClashUnlessMembersRefused inputs wishes files (Ok found) o → unless_clash o (unless_contested change.members (first_contested_member_path_in_byte_order change.members) after_owners) ≡ Err refusal → IsSo refusal
  clash_fault None refusal is e = owned_fault (first_contested_member_path_in_byte_order change.members) refusal refl e
  clash_fault (Some pair) refusal is e =
      let same : PathClash pair.path pair.other ≡ refusal = cc in
      subst IsSo same is

  pub files_fault : (clash : Option NamePair) (refusal : Refusal) → IsFirstClashUnlessMembersRefused inputs wishes files (Ok found) clash → change_with_members inputs r wishes clash files found ≡ Err refusal → IsFaultOfFiles inputs wishes files found refusal
  files_fault clash refusal is e = by_path (first_reserved_added_path_in_byte_order change.members) refl e
    where
      by_path : (o : Option (List ℕ)) → first_reserved_added_path_in_byte_order change.members ≡ o → unless_reserved_path o (unless_clash clash (unless_contested change.members (first_contested_member_path_in_byte_order change.members) after_owners)) ≡ Err refusal → IsSo refusal
      by_path None none e = clash_fault clash refusal is e
      by_path (Some path) first e =
          let same : Reserved path ≡ refusal = cc in
          subst IsSo same (first_reserved_is change.members path first)

-- ---- a change

pub change_fault : (inputs : Inputs) (r : Replacement) (wishes : ChangeWishes) (read : Reads) (clash : Option NamePair) (files : Files) (refusal : Refusal)
    → change_or_refusal inputs r wishes read clash files ≡ Err refusal → IsFirstClashOfChange inputs r wishes read files clash → IsFaultOfChange inputs r wishes read files refusal
unfolding change_or_refusal
change_fault inputs r wishes read clash files refusal e is =
    elim (and_then_err (members_after_change inputs r wishes read) (change_with_members inputs r wishes clash files) refusal e) [
      | inl first ↦ inl (members_fault inputs r wishes read refusal first)
      | inr next ↦ inr (next.0, next.1, files_fault inputs r wishes files next.0 clash refusal (subst (λ (m : Result (List MemberFound) Refusal). IsFirstClashUnlessMembersRefused inputs wishes files m clash) next.1 is) next.2)
    ]
