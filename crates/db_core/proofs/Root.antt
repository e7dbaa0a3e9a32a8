-- The value of a new database may stand at the root of a container.
use Rattle.std.proofs.Common.{◌≡◌, ℕ, ◌↔◌, Bool, false, List, Option, Some, None, Ok, refl, sym, ◌∙◌}
use Rattle.std.specs.Prelude.{is_some}
use Rattle.std.proofs.lemmas.Bool.{ltb-false, or_parts}
use Rattle.adb_view.specs.Plain.{IsNormal, Plain}
use Rattle.adb_view.specs.declared.tables.Which.{Which}
use Rattle.adb_view.specs.declared.tables.Which.TheVariants.{Idb}
use Rattle.adb_copy.specs.adb_fields.Once.{HasNoForbiddenRepeatedName}
use Rattle.adb_copy.specs.adb_fields.Repeated.{repeated_fault}
use Rattle.adb_sound.specs.adb_schema.SoundValues.{ObeysTextAndNumberRulesOfTable}
use Rattle.adb_sound.specs.adb_schema.Texts.{text_or_number_fault}
use Rattle.adb_sound.specs.adb_write.Canonical.{ByteAndValueCounts, canonical, payload_unless_overflow, counts_at_first_overflow, exceeds_a_limit, payload_or_counts_at_overflow, MOST_BYTES, MOST_VALUES}
use Rattle.adb_sound.specs.adb_write.Size.{payload_size_of, value_count}
use Rattle.adb_sound.specs.Root.{IsValidRootValueOfTable}
use Rattle.db_core.specs.Members.{AreMembersInNameOrder, Member, listings_of_members}
use Rattle.db_core.specs.NewDatabase.{database_file_of_payload_unless_too_large, database_of, database_value}
use Rattle.db_core.specs.OwnedListings.{owned_listings}
use Rattle.db_core.specs.SoundMembers.{AreMembersOfSoundContainers, HaveOneOwnerPerPathAndNoneReserved}
use Rattle.db_core.proofs.RootNames.{names_once}
use Rattle.db_core.proofs.RootParts.{EachIn, database_normal, database_shape, members_enter}
use Rattle.db_core.proofs.RootRules.{rules_kept}
use Rattle.db_core.proofs.SoundPackages.{MayEnter}

-- ---- what is written is within the limits

within_by : (v : Plain) (o : Option ByteAndValueCounts) (bytes : List ℕ) → database_file_of_payload_unless_too_large (payload_unless_overflow (canonical v) o) ≡ Ok bytes → is_some o ≡ false
within_by v None bytes h = refl
within_by v (Some c) bytes h = absurd (cc (h))

within : (members : List Member) (flags : List Bool) (bytes : List ℕ) → database_of members flags ≡ Ok bytes → is_some (counts_at_first_overflow (database_value members flags)) ≡ false
unfolding database_of payload_or_counts_at_overflow
within members flags bytes h = within_by (database_value members flags) (counts_at_first_overflow (database_value members flags)) bytes h

-- ---- what the layers below say

abbrev pub Exact : Type 0
Exact = (v : Plain) → IsNormal v → is_some (counts_at_first_overflow v) ≡ exceeds_a_limit (payload_size_of v, value_count v)

abbrev pub Kept : Type 0
Kept = (which : Which) (v : Plain) → (text_or_number_fault which v ≡ None) ↔ ObeysTextAndNumberRulesOfTable which v

abbrev pub Once : Type 0
Once = (which : Which) (v : Plain) → (repeated_fault which v ≡ None) ↔ HasNoForbiddenRepeatedName which v

pub database_root : Exact → Kept → Once → (members : List Member) (flags : List Bool) (bytes : List ℕ) → AreMembersOfSoundContainers members → AreMembersInNameOrder members → HaveOneOwnerPerPathAndNoneReserved (owned_listings (listings_of_members members) flags)
    → database_of members flags ≡ Ok bytes → IsValidRootValueOfTable Idb (database_value members flags)
database_root exact kept once members flags bytes sound order listed written =
    let v : Plain = database_value members flags in
    let enter : EachIn (λ (m : Member). MayEnter m.pkg) members = members_enter members sound in
    let normal : IsNormal v = database_normal members flags enter in
    let limits = or_parts _ _ (sym (exact v normal) ∙ within members flags bytes written) in
    record {
      normal = normal;
      shaped = database_shape members flags enter;
      fits = ltb-false MOST_BYTES (payload_size_of v) limits.0;
      few = ltb-false MOST_VALUES (value_count v) limits.1;
      texts = (kept Idb v).1 (rules_kept members flags sound listed.free);
      once = (once Idb v).1 (names_once members flags enter order listed.one_owner);
    }
