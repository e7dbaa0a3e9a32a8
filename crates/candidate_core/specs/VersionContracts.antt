-- What the calls of `src/versions.rt` and `src/matches.rt` require and ensure. No rule of a document:
-- serves the contracts of these calls.
use Rattle.std.specs.Prelude.{◌≡◌, ℕ, Bool, true, List, Option, Some, Result, IfOk, IfSome}
use Rattle.std.specs.declared.alloc.AllocError.{AllocError}
use Rattle.dep_core.specs.Dependency.{Dependency}
use Rattle.adb_schema.specs.SoundValues.{ObeysTextAndNumberRulesOfDependency}
use Rattle.adb_view.specs.Adb.{payload_of}
use Rattle.adb_view.specs.Plain.{Plain}
use Rattle.adb_view.specs.Values.{is_sound, text_in, value_at}
use Rattle.adb_view.specs.declared.tables.Kind.TheVariants.{Obj, Text}
use Rattle.adb_view.specs.declared.tables.Which.TheVariants.{Dep}
use Rattle.candidate_core.specs.Candidates.{Need, dependency_in}
use Rattle.candidate_core.specs.Matches.{AreMatchesFor}
use Rattle.candidate_core.specs.declared.matches.KnownMatches.{KnownMatches}
use Rattle.candidate_core.specs.declared.packages.Source.{Source}
use Rattle.candidate_core.specs.declared.versions.RankedVersion.{RankedVersion}

-- the value that a word refers to in a source, as an entry of a list of dependencies
abbrev pub entry_in_source : Source → ℕ → Plain
entry_in_source source word = value_at (payload_of source.adb) (Obj Dep) word

-- the word is that of an entry of a list of dependencies: it can be read as a dependency. If the texts of the source
-- obey their rules, so do those of the entry
pub record IsDependencyEntryWordOf (source : Source) (word : ℕ) : Type 0 where
  -- the word refers to a sound value of the kind dependency
  pub sound : is_sound (payload_of source.adb) (Obj Dep) word ≡ true
  -- if the texts of the source are known to obey their rules, the entry is a dependency
  pub texts : source.has_sound_texts ≡ true
      → ObeysTextAndNumberRulesOfDependency (entry_in_source source word)

-- the word is that of an entry which denotes the dependency `d`
pub record IsDependencyWordOf (source : Source) (word : ℕ) (d : Dependency) : Type 0 where
  -- the word refers to a sound value of the kind dependency
  pub sound : is_sound (payload_of source.adb) (Obj Dep) word ≡ true
  -- the value that the word refers to denotes the dependency
  pub found : Some d ≡ dependency_in (entry_in_source source word)

-- `ranked` has the version `expected`, and the index `place` of its source `origin`. A version that is not absent is
-- the text that the word refers to in the source.
pub record IsVersionReadFrom (origin : Source) (place : ℕ) (expected : Option (List ℕ))
    (ranked : RankedVersion) : Type 0 where
  -- the version is the expected one
  pub version : ranked.version ≡ expected
  -- the source that is stored with the version is the one at this index
  pub source : ranked.source ≡ place
  -- a version that is not absent is the text that the word refers to in the source
  pub text : IfSome ranked.version (λ version. version
      ≡ text_in (value_at (payload_of origin.adb) Text ranked.word))

-- Unless memory runs out, the answer is `expected`, and the remembered results for the need, `old` before the call
-- and `new` after it, stay right. This holds for each function from places to texts that *GivesTexts* admits.
abbrev pub AnswersAndRemembers : ((ℕ → ℕ → List ℕ) → Type 0) → Need → Bool → KnownMatches → KnownMatches
    → Result Bool AllocError → Type 0
AnswersAndRemembers GivesTexts need expected old new result = IfOk result (λ answer.
    (text : ℕ → ℕ → List ℕ) → GivesTexts text → AreMatchesFor text need old
    → (answer ≡ expected) × AreMatchesFor text need new)
