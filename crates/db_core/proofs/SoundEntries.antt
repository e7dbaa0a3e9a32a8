-- Members come out of sound containers.
use Rattle.std.proofs.Common.{◌≡◌, inl, inr, ℕ, suc, zero, Bool, true, false, List, [], ◌∷◌, ◌++◌, map, length, Option, Some, None, Result, Ok, Err, refl, ap, sym, ◌∙◌, subst}
use Rattle.std.specs.Prelude.{if◌then◌else◌, is_ok, slice_get}
use mathlib.Core.Logic.{∥∥₁_map, ∥∥₁_map₂}
use Rattle.sha2.specs.Sha256.{sha256}
use Rattle.sha2.proofs.Facts256.{length-sha256}
use Rattle.adb_view.specs.Plain.{Plain, IsNormal}
use Rattle.pkg_core.specs.adb_fields.FirstPair.{IsIn}
use Rattle.pkg_core.specs.adb_fields.Repeated.{entries_of_field_at_index}
use Rattle.pkg_core.specs.adb_schema.Rules.{is_digest_length}
use Rattle.pkg_core.specs.adb_schema.SoundContainers.{IsSoundValue}
use Rattle.adb_view.specs.declared.tables.Which.TheVariants.{Idb, Package}
use Rattle.db_core.specs.EntrySeen.{member_of_entry}
use Rattle.db_core.specs.Members.{Member}
use Rattle.db_core.specs.Packages.{packages_of_database_value}
use Rattle.db_core.specs.SoundMembers.{AreMembersOfSoundContainers, IsPackageOfSoundContainer, IsOfSoundDatabase, IsSoundPackageAndDigest, IsSoundDatabaseIfAny}
use Rattle.db_core.proofs.ListedNames.{Kept}

no_some : {X : Type 0} (x : X) → None ≡ Some x → ⊥
no_some x e = absurd (cc)

abbrev value_or : {X : Type 0} → X → Option X → X
value_or d None = d
value_or d (Some x) = x

in_at : (pkgs : List Plain) (i : ℕ) (pkg : Plain) → slice_get pkgs i ≡ Some pkg → IsIn pkg pkgs
in_at [] i pkg at = absurd (no_some pkg at)
in_at (v ∷ vs) zero pkg at = inl (sym (ap (value_or v) at))
in_at (v ∷ vs) (suc i) pkg at = inr (in_at vs i pkg at)

-- ---- one package

listed_sound : (database : Option Plain) (i : ℕ) (pkg : Plain) → slice_get (packages_of_database_value database) i ≡ Some pkg → IsSoundDatabaseIfAny database → IsOfSoundDatabase pkg
listed_sound None i pkg at sound = absurd (no_some pkg at)
listed_sound (Some v) i pkg at sound = record { database = v; sound = sound.0; normal = sound.1; listed = in_at (entries_of_field_at_index 0 v) i pkg at }

pub stays_sound : (database : Option Plain) (i : ℕ) (pkg : Plain) → slice_get (packages_of_database_value database) i ≡ Some pkg → ∥ IsSoundDatabaseIfAny database ∥₁ → ∥ IsPackageOfSoundContainer pkg None ∥₁
stays_sound database i pkg at sound = ∥∥₁_map {B = IsOfSoundDatabase pkg} sound (listed_sound database i pkg at)

pub comes_sound : (pkg value : Plain) (id payload : List ℕ) → pkg ≡ value → id ≡ sha256 payload → IsSoundValue Package value → IsNormal value → ∥ IsPackageOfSoundContainer pkg (Some id) ∥₁
comes_sound pkg value id payload is digest sound normal =
    ∣ subst (λ v. IsSoundPackageAndDigest v id) (sym is) (record { sound = sound; normal = normal; digest = ap is_digest_length (ap length digest ∙ length-sha256 payload) }) ∣₁

-- ---- one more

all_more : (ms : List Member) (m : Member) → AreMembersOfSoundContainers ms → IsPackageOfSoundContainer m.pkg m.id → AreMembersOfSoundContainers (ms ++ m ∷ [])
all_more [] m all one = (one, tt)
all_more (n ∷ ms) m all one = (all.0, all_more ms m all.1 one)

map_more : (es : List Kept) (e : Kept) → map member_of_entry (es ++ e ∷ []) ≡ map member_of_entry es ++ member_of_entry e ∷ []
map_more [] e = refl
map_more (x ∷ es) e = ap (λ ms. member_of_entry x ∷ ms) (map_more es e)

pub sound_more : {A B : Type 0} (r : Result A B) (es new : List Kept) (e : Kept) → new ≡ (if is_ok r then es ++ e ∷ [] else es)
    → ∥ AreMembersOfSoundContainers (map member_of_entry es) ∥₁ → ∥ IsPackageOfSoundContainer (member_of_entry e).pkg (member_of_entry e).id ∥₁ → ∥ AreMembersOfSoundContainers (map member_of_entry new) ∥₁
sound_more (Ok x) es new e is all one =
    subst (λ ms. ∥ AreMembersOfSoundContainers ms ∥₁) (sym (ap (map member_of_entry) is ∙ map_more es e))
    (∥∥₁_map₂ {C = AreMembersOfSoundContainers (map member_of_entry es ++ member_of_entry e ∷ [])} all one (all_more (map member_of_entry es) (member_of_entry e)))
sound_more (Err x) es new e is all one = subst (λ (ks : List Kept). ∥ AreMembersOfSoundContainers (map member_of_entry ks) ∥₁) (sym is) all
