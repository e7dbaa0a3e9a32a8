-- The places of the texts of versions. Serves the contracts of `src/packages.rt`, and in `option_ranks`
-- those of `src/version_ranks.rt`: versions that are read from one place are equal.
use Rattle.std.specs.Prelude.{◌≡◌, ℕ, List, [], Option, Some, None, IfSome, slice_get}
use Rattle.adb_view.specs.Adb.{payload_of}
use Rattle.adb_view.specs.Values.{text_in, value_at}
use Rattle.adb_view.specs.declared.tables.Kind.TheVariants.{Text}
use Rattle.candidate_core.specs.declared.packages.Source.{Source}
use Rattle.candidate_core.specs.declared.versions.RankedVersion.{RankedVersion}

-- the text that a word refers to in a source; empty if there is no source
abbrev pub text_in_source : Option Source → ℕ → List ℕ
text_in_source None word = []
text_in_source (Some source) word = text_in (value_at (payload_of source.adb) Text word)

-- the text that a word refers to in the source with the index `place`
abbrev pub source_text : List Source → ℕ → ℕ → List ℕ
source_text sources place word = text_in_source (slice_get sources place) word

-- the version, if there is one, is the text that the function `text` gives for its source and its word
abbrev pub HasVersionTextFrom : (ℕ → ℕ → List ℕ) → RankedVersion → Type 0
HasVersionTextFrom text ranked = IfSome ranked.version (λ version. version ≡ text ranked.source ranked.word)
