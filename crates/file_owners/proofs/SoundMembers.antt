-- What members replace are dependencies, and their versions are versions, since they come out of
-- sound containers.
use Rattle.std.proofs.Common.{◌≡◌, inl, inr, ℕ, suc, zero, ◌<◌, Bool, true, false, List, [], ◌∷◌, length, Option, Some, None, refl, sym, subst, arith, true≢false}
use Rattle.std.specs.Prelude.{slice_get}
use Rattle.std.proofs.lemmas.Grind.{not_there}
use Rattle.version_core.specs.Order.{is_version}
use Rattle.adb_view.specs.Plain.{Plain, Plains, none, more}
use Rattle.adb_view.specs.Shaped.{Each}
use Rattle.adb_view.specs.FieldIndexes.{INFO_REPLACES_INDEX, PACKAGE_INFO_INDEX}
use Rattle.adb_view.specs.Values.{count_of, entries_in, entry_at_index, nth}
use Rattle.adb_view.specs.declared.tables.Which.{Which}
use Rattle.adb_view.specs.declared.tables.Which.TheVariants as Tables
use Rattle.path_claims.specs.adb_fields.FirstPair.{IsIn}
use Rattle.path_claims.specs.adb_fields.Repeated.{list_of}
use Rattle.db_core.specs.adb_schema.SoundValues.{ObeysTextAndNumberRulesOfPackage, ObeysTextAndNumberRulesOfDependency}
use Rattle.db_core.proofs.adb_schema.SoundLeaves.{each_at}
use Rattle.db_core.specs.Members.{Member}
use Rattle.db_core.specs.SoundMembers.{AreMembersOfSoundContainers, IsPackageOfSoundContainer}
use Rattle.file_owners.specs.Replaces.{package_version_text}

abbrev replaced_by : Plain → Plains
replaced_by pkg = entries_in (entry_at_index (entry_at_index pkg PACKAGE_INFO_INDEX) INFO_REPLACES_INDEX)

record IsSoundMember (pkg : Plain) : Type 0 where
  pub version : is_version (package_version_text pkg) ≡ true
  pub replaced : Each ObeysTextAndNumberRulesOfDependency (replaced_by pkg)

of_package : (root : Which) (pkg : Plain) → ObeysTextAndNumberRulesOfPackage root pkg → IsSoundMember pkg
of_package root pkg h = record { version = h.info.version; replaced = h.info.replaces }

each_in : (P : Plain → Type 0) (v : Plain) (vs : Plains) → Each P vs → IsIn v (list_of vs) → P v
each_in P v none h here = absurd here
each_in P v (more u us) h (inl is) = subst P (sym is) h.0
each_in P v (more u us) h (inr here) = each_in P v us h.1 here

of_container : (pkg : Plain) (id : Option (List ℕ)) → IsPackageOfSoundContainer pkg id → IsSoundMember pkg
of_container pkg None h = of_package Tables.Idb pkg (each_in (ObeysTextAndNumberRulesOfPackage Tables.Idb) pkg (entries_in (entry_at_index h.database 0)) h.sound.rules h.listed)
of_container pkg (Some id) h = of_package Tables.Package pkg h.sound.rules

-- the package at a place of sound members
member_at : (members : List Member) (i : ℕ) (pkg : Plain) → i < length members → ((m : Member) → slice_get members i ≡ Some m → pkg ≡ m.pkg) → AreMembersOfSoundContainers members → IsSoundMember pkg
member_at [] i pkg within at all = absurd (omega (arith, within))
member_at (m ∷ members) zero pkg within at all = subst IsSoundMember (sym (at m refl)) (of_container m.pkg m.id all.0)
member_at (m ∷ members) (suc i) pkg within at all = member_at members i pkg (omega (arith, within)) (λ n e. at n e) all.1

-- a test that merely holds is passed
is_passed : {P : Type 0} (test : Bool) → ∥ P ∥₁ → (P → test ≡ true) → test ≡ true
is_passed true fact from = refl
is_passed false fact from = absurd (not_there fact (λ p. true≢false (sym (from p))))

each_by : (P : Plain → Type 0) (vs : Plains) → ((k : ℕ) → k < count_of vs → P (nth vs k)) → Each P vs
each_by P none h = tt
each_by P (more v vs) h = (h 0 (omega arith), each_by P vs (λ k less. h (suc k) (omega (arith, less))))

module _ (members : List Member) (i : ℕ) (pkg : Plain) (within : i < length members) (at : (m : Member) → slice_get members i ≡ Some m → pkg ≡ m.pkg) (sound : ∥ AreMembersOfSoundContainers members ∥₁) where
  pub version_sound : is_version (package_version_text pkg) ≡ true
  version_sound = is_passed (is_version (package_version_text pkg)) sound (λ all. (member_at members i pkg within at all).version)

  dependency_sound : (k : ℕ) → k < count_of (replaced_by pkg) → ObeysTextAndNumberRulesOfDependency (nth (replaced_by pkg) k)
  dependency_sound k less =
      let sure : AreMembersOfSoundContainers members → ObeysTextAndNumberRulesOfDependency (nth (replaced_by pkg) k) = λ all. each_at ObeysTextAndNumberRulesOfDependency (replaced_by pkg) k (member_at members i pkg within at all).replaced less in
      record {
        name = is_passed _ sound (λ all. (sure all).name);
        version = is_passed _ sound (λ all. (sure all).version);
        matching = is_passed _ sound (λ all. (sure all).matching);
      }

  pub replaced_sound : Each ObeysTextAndNumberRulesOfDependency (replaced_by pkg)
  replaced_sound = each_by ObeysTextAndNumberRulesOfDependency (replaced_by pkg) dependency_sound
