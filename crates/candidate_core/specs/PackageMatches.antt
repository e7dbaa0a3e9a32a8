-- The remembered results for the versions that the dependencies of packages accept. No rule of a
-- document: serves the contracts of `src/package_matches.rt`.
use Rattle.std.specs.Prelude.{◌≡◌, ℕ, List, Some, slice_get}
use Rattle.std.specs.BTreeMap.{BTreeMap, get}
use Rattle.std.specs.Ordering.{nat_cmp, ordering_then}
use Rattle.std.specs.declared.cmp.Ordering.{Ordering}
use Rattle.dep_core.specs.Dependency.{Dependency}
use Rattle.dep_core.specs.Meets.{dependency}
use Rattle.candidate_core.specs.Candidates.{Candidate}
use Rattle.candidate_core.specs.Matches.{AreRememberedMatchesOf}
use Rattle.candidate_core.specs.Packages.{candidates_of_packages}
use Rattle.candidate_core.specs.VersionTexts.{source_text}
use Rattle.candidate_core.specs.declared.matches.KnownMatches.{KnownMatches}
use Rattle.candidate_core.specs.declared.package_matches.PackageDep.{PackageDep}
use Rattle.candidate_core.specs.declared.package_matches.PackageMatches.{PackageMatches}

-- the candidate at the place of the package, if there is one, has the dependency at its index
abbrev pub IsDepOfPackageAt : List Candidate → PackageDep → Type 0
IsDepOfPackageAt candidates held = (c : Candidate) → slice_get candidates held.package ≡ Some c
    → slice_get c.depends held.index ≡ Some (dependency held.dep.now)

-- the order of the versions in dependencies: by the index of the source, the word (32-bit value) of the text
-- there, and the match bits of the operator
abbrev pub wanted_version_cmp : ℕ × ℕ × ℕ → ℕ × ℕ × ℕ → Ordering
wanted_version_cmp one other = ordering_then
    (ordering_then (nat_cmp one.0 other.0) (nat_cmp one.1 other.1)) (nat_cmp one.2 other.2)

-- the remembered results, each set stored by the place of a version's text and by match bits, are right for every
-- dependency with this version and these bits
abbrev pub AreMatchesByVersion :
    (ℕ → ℕ → List ℕ) → BTreeMap (ℕ × ℕ × ℕ) KnownMatches → Type 0
AreMatchesByVersion text by_version =
    (source word bits : ℕ) (known : KnownMatches) (d : Dependency)
    → get wanted_version_cmp by_version (source, word, bits) ≡ Some known
    → d.version ≡ Some (text source word) → d.bits ≡ bits → AreRememberedMatchesOf text d known

-- the packages are these candidates, and the remembered results for the dependencies of packages are right
abbrev pub AreMatchesAmong : List Candidate → PackageMatches → Type 0
AreMatchesAmong candidates matches =
    (candidates_of_packages matches.packages.now ≡ candidates)
    × AreMatchesByVersion (source_text matches.packages.now.sources.items) matches.by_version
