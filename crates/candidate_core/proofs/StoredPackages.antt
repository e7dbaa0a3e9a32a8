-- What is known of the package at a place of a list, and of its source.
use Rattle.std.proofs.Common.{◌≡◌, ℕ, ◌<◌, List, length, vec_len, get_or, ap, sym, subst, ◌∙◌}
use Rattle.std.specs.Prelude.{Option, Some, slice_get}
use Rattle.std.proofs.lemmas.List.{length-map}
use Rattle.std.proofs.lemmas.Option.{slice_get_within}
use Rattle.candidate_core.specs.Candidates.{Candidate}
use Rattle.candidate_core.specs.Matches.{GivesTextsOfSource}
use Rattle.candidate_core.specs.PackageWords.{IsPackageWordAmong, IsPackageWordAt, IsPackageWordOf}
use Rattle.candidate_core.specs.Packages.{candidate_among, candidate_in_source, candidates_of_packages}
use Rattle.candidate_core.specs.VersionTexts.{source_text, text_in_source}
use Rattle.candidate_core.specs.declared.packages.Packages.{Packages}
use Rattle.candidate_core.specs.declared.packages.PackageWord.{PackageWord}
use Rattle.candidate_core.specs.declared.packages.Source.{Source}
use Rattle.candidate_core.proofs.PackageLists.{get_mapped}
use Rattle.candidate_core.proofs.Steps.{get_at}

-- a place below the number of candidates is below the number of stored packages
pub listed_for : (own : Packages) (k : ℕ) → k < length (candidates_of_packages own) → k < length own.words.items
listed_for own k h = subst (λ (n : ℕ). k < n) (length-map own.words.items (candidate_among own.sources.items)) h

-- the same, where the number of stored packages is that of the `Vec`
pub stored_for : (own : Packages) (k : ℕ) → k < length (candidates_of_packages own) → k < vec_len own.words
stored_for own k h = subst (λ (n : ℕ). k < n) (sym own.words.ok.0) (listed_for own k h)

-- one option has one value
pub one_value : {X : Type 0} (o : Option X) (a b : X) → o ≡ Some a → o ≡ Some b → a ≡ b
one_value o a b h g = cc

-- the package `kept` is stored at the place `k`
module _ (own : Packages) (k : ℕ) (kept : PackageWord) (within : k < vec_len own.words) (is : kept ≡ get_or own.words.items k kept) where
  listed : k < length own.words.items
  listed = subst (λ (n : ℕ). k < n) own.words.ok.0 within

  -- the stored word is that of a package
  pub word_there : IsPackageWordAmong own.sources.items kept
  word_there = subst (IsPackageWordAmong own.sources.items) (sym is) (own.sound k kept listed)

  -- the index of the package's source is below the number of sources
  pub source_within : kept.source < vec_len own.sources
  source_within = subst (λ (n : ℕ). kept.source < n) (sym own.sources.ok.0) word_there.within

  -- `source` is the source at this index
  module _ (source : Source) (from : source ≡ get_or own.sources.items kept.source source) where
    source_there : slice_get own.sources.items kept.source ≡ Some source
    source_there = get_at own.sources.items kept.source source word_there.within ∙ ap Some (sym from)

    -- the stored word is that of a package of the source
    pub word_of_source : IsPackageWordOf source kept.word
    word_of_source = word_there.of_source source source_there

    -- the function that gives the texts of all sources gives those of this one
    pub texts_of_source : GivesTextsOfSource source kept.source (source_text own.sources.items)
    texts_of_source word = ap (λ (o : Option Source). text_in_source o word) source_there

    -- the candidate at the place is that of the stored word in the source
    pub candidate_there : slice_get (candidates_of_packages own) k ≡ Some (candidate_in_source (Some source) kept.word kept.installed)
    candidate_there =
        get_mapped (candidate_among own.sources.items) own.words.items k kept (get_at own.words.items k kept listed ∙ ap Some (sym is))
        ∙ ap (λ (o : Option Source). Some (candidate_in_source o kept.word kept.installed)) source_there

    -- a candidate at the place is that of the stored word in the source
    pub is_candidate : (d : Candidate) → slice_get (candidates_of_packages own) k ≡ Some d → candidate_in_source (Some source) kept.word kept.installed ≡ d
    is_candidate d at = one_value (slice_get (candidates_of_packages own) k) (candidate_in_source (Some source) kept.word kept.installed) d candidate_there at

-- a word of the source at an index is that of a package there
pub word_at : (sources : List Source) (place word : ℕ) (source : Source) → slice_get sources place ≡ Some source → IsPackageWordOf source word → IsPackageWordAt sources place word
word_at sources place word source at h = record {
  within = slice_get_within sources place source at;
  of_source = λ other there. subst (λ (s : Source). IsPackageWordOf s word) (one_value (slice_get sources place) source other at there) h;
}
