-- The words that represent packages. No rule of a document: serves the contracts of `src/packages.rt`
-- and `src/candidate.rt`. A word of a package's information can be read (`docs/formats.md`, "Values"),
-- and if its source is known to be tested its texts obey their rules ("The texts").
use Rattle.std.specs.Prelude.{◌≡◌, ◌<◌, ℕ, true, List, length, Some, slice_get}
use Rattle.adb_view.specs.Adb.{payload_of}
use Rattle.adb_view.specs.Plain.{Plain}
use Rattle.adb_view.specs.Values.{is_sound, value_at}
use Rattle.adb_view.specs.declared.tables.Kind.TheVariants.{Obj}
use Rattle.adb_view.specs.declared.tables.Which.TheVariants.{PkgInfo}
use Rattle.candidate_core.specs.SoundTexts.{HasSoundTexts}
use Rattle.candidate_core.specs.declared.packages.PackageWord.{PackageWord}
use Rattle.candidate_core.specs.declared.packages.Source.{Source}

-- the information of the package that a word refers to in a source
abbrev pub info_in_source : Source → ℕ → Plain
info_in_source source word = value_at (payload_of source.adb) (Obj PkgInfo) word

-- the word is that of a package of the source: it can be read as a package's information, whose texts
-- obey their rules if those of the source do
pub record IsPackageWordOf (source : Source) (word : ℕ) : Type 0 where
  -- the word refers to a sound value of the kind package information
  pub sound : is_sound (payload_of source.adb) (Obj PkgInfo) word ≡ true
  -- if the texts of the source are known to obey their rules, so do those of the package
  pub texts : source.has_sound_texts ≡ true → HasSoundTexts (info_in_source source word)

-- there is a source at the index, and the word is that of a package of it
pub record IsPackageWordAt (sources : List Source) (place word : ℕ) : Type 0 where
  -- the index is below the number of sources
  pub within : place < length sources
  -- the word is that of a package of the source at the index
  pub of_source : (source : Source) → slice_get sources place ≡ Some source
      → IsPackageWordOf source word

-- the stored word of a package is that of a package of the source whose index is stored with it
abbrev pub IsPackageWordAmong : List Source → PackageWord → Type 0
IsPackageWordAmong sources kept = IsPackageWordAt sources kept.source kept.word
