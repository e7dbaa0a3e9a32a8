-- The database that a change leaves is read.
use Rattle.std.proofs.Common.{◌≡◌, ◌∙◌, ℕ, Bool, false, List, Some, None, Ok, ap}
use Rattle.make_core.specs.adb_fields.Repeated.{entries_of_field_at_index, list_of}
use Rattle.make_core.specs.adb_schema.SoundContainers.{IsSoundContainerExceptContents}
use Rattle.make_core.specs.adb_schema.Soundness.{container_fault_except_contents, payload_in, root_value_of_payload}
use Rattle.engine_core.specs.adb_sound.Root.{IsValidRootValueOfTable}
use Rattle.adb_view.specs.declared.tables.Which.TheVariants.{Idb}
use Rattle.adb_view.specs.Plain.{Plain}
use Rattle.engine_core.specs.change_inputs.Chains.{unless_cause}
use Rattle.engine_core.specs.change_inputs.Database.{container_database, database_of_packages_file_and_is_text}
use Rattle.engine_core.specs.db_core.Members.{AreMembersInNameOrder, Member, listings_of_members}
use Rattle.engine_core.specs.db_core.OwnedListings.{HaveAtMostOneOwnerForEachPath, owned_listings}
use Rattle.engine_core.specs.db_core.SoundMembers.{AreMembersOfSoundContainers, HaveOneOwnerPerPathAndNoneReserved}
use Rattle.engine_core.specs.db_core.NewDatabase.{database_of, database_value, packages_in_new_database}
use Rattle.engine_core.specs.own_core.PlanLists.{first_reserved_added_path_in_byte_order}
use Rattle.engine_core.specs.file_owners.Owners.{owned_flags_of}
use Rattle.report_core.specs.declared.refusal.Refusal.TheVariants.{DatabaseBad}
use Rattle.definition_laws.specs.roots.RootLeft.{database_of_members}
use Rattle.definition_laws.proofs.roots.Unreserved.{may_be_listed}

-- what the laws of the crates below say
pub record WrittenLaws : Type 0 where
  pub one_owner : (members : List Member) → HaveAtMostOneOwnerForEachPath (owned_listings (listings_of_members members) (owned_flags_of members))
  pub root : (members : List Member) (flags : List Bool) (bytes : List ℕ) → AreMembersOfSoundContainers members → AreMembersInNameOrder members → HaveOneOwnerPerPathAndNoneReserved (owned_listings (listings_of_members members) flags)
      → database_of members flags ≡ Ok bytes → IsValidRootValueOfTable Idb (database_value members flags)
  pub sound : (members : List Member) (flags : List Bool) (bytes : List ℕ) → IsValidRootValueOfTable Idb (database_value members flags) → database_of members flags ≡ Ok bytes → IsSoundContainerExceptContents Idb bytes
  pub packages : (members : List Member) (flags : List Bool) (bytes : List ℕ) → IsValidRootValueOfTable Idb (database_value members flags) → database_of members flags ≡ Ok bytes
      → entries_of_field_at_index 0 (root_value_of_payload Idb (payload_in bytes)) ≡ list_of (packages_in_new_database members flags)

pub database_left : WrittenLaws → (members : List Member) (bytes : List ℕ) → AreMembersOfSoundContainers members → AreMembersInNameOrder members → first_reserved_added_path_in_byte_order members ≡ None → database_of members (owned_flags_of members) ≡ Ok bytes
    → container_database bytes ≡ Ok (database_of_members members bytes)
database_left laws members bytes sound order free written =
    let root : IsValidRootValueOfTable Idb (database_value members (owned_flags_of members)) =
    laws.root members (owned_flags_of members) bytes sound order (may_be_listed members (owned_flags_of members) (laws.one_owner members) sound free) written in
    let passes : container_fault_except_contents Idb bytes ≡ None = laws.sound members (owned_flags_of members) bytes root written in
    ap (λ o. unless_cause DatabaseBad o (database_of_packages_file_and_is_text (entries_of_field_at_index 0 (root_value_of_payload Idb (payload_in bytes))) (Some bytes) false)) passes
    ∙ ap (λ (pkgs : List Plain). Ok (database_of_packages_file_and_is_text pkgs (Some bytes) false)) (laws.packages members (owned_flags_of members) bytes root written)
