-- The remembered results for the versions that one dependency accepts. No rule of a document: serves
-- the contracts of `src/matches.rt` and `src/versions.rt`.
use Rattle.std.specs.Prelude.{◌≡◌, ℕ, Bool, List, Option, Some}
use Rattle.std.specs.BTreeMap.{get}
use Rattle.std.specs.Ordering.{nat_cmp, ordering_then}
use Rattle.std.specs.declared.cmp.Ordering.{Ordering}
use Rattle.dep_core.specs.Dependency.{Dependency}
use Rattle.dep_core.specs.Meets.{constraint_accepts}
use Rattle.adb_view.specs.Adb.{payload_of}
use Rattle.adb_view.specs.Values.{text_in, value_at}
use Rattle.adb_view.specs.declared.tables.Kind.TheVariants.{Text}
use Rattle.candidate_core.specs.Candidates.{Need, entry, named}
use Rattle.candidate_core.specs.declared.matches.KnownMatches.{KnownMatches}
use Rattle.candidate_core.specs.declared.packages.Source.{Source}

-- whether a dependency accepts a version, or the absence of a version (None)
abbrev pub dependency_accepts : Dependency → Option (List ℕ) → Bool
dependency_accepts d version = constraint_accepts d.version d.bits version

-- the order of the places of two texts, each a source and a word: by the sources, and in one source by the words
abbrev pub text_place_cmp : ℕ × ℕ → ℕ × ℕ → Ordering
text_place_cmp one other = ordering_then (nat_cmp one.0 other.0) (nat_cmp one.1 other.1)

-- this result is remembered for the version that `word` refers to in the source with the index `source`
abbrev pub IsRememberedMatch : KnownMatches → ℕ → ℕ → Bool → Type 0
IsRememberedMatch known source word answer = get text_place_cmp known.answers (source, word) ≡ Some answer

-- each remembered result says rightly whether the dependency accepts the text at its place; `text` gives the text for
-- a source and a word
abbrev pub AreRememberedMatchesOf : (ℕ → ℕ → List ℕ) → Dependency → KnownMatches → Type 0
AreRememberedMatchesOf text d known = (source word : ℕ) (answer : Bool)
    → IsRememberedMatch known source word answer → answer ≡ dependency_accepts d (Some (text source word))

-- The remembered results are right for a need. For a dependency, each says whether the dependency accepts the
-- version. The name of a package whose install-if applies compares no version, so nothing is claimed for it.
abbrev pub AreMatchesFor : (ℕ → ℕ → List ℕ) → Need → KnownMatches → Type 0
AreMatchesFor text (entry d) known = AreRememberedMatchesOf text d known
AreMatchesFor text (named name) known = Unit {0}

-- the function `text` gives, for the index `place`, the texts of this source by their words
abbrev pub GivesTextsOfSource : Source → ℕ → (ℕ → ℕ → List ℕ) → Type 0
GivesTextsOfSource source place text = (word : ℕ)
    → text place word ≡ text_in (value_at (payload_of source.adb) Text word)

-- the results for a need are right, by some function from places to texts, which for the index `place` gives the
-- texts of this source
abbrev pub AreMatchesIn : Source → ℕ → Need → KnownMatches → Type 0
AreMatchesIn source place need known = (text : ℕ → ℕ → List ℕ)
    × GivesTextsOfSource source place text × AreMatchesFor text need known
