-- The candidates that a query prints, in the order of queries. The rule is in `docs/commands.md`, "Queries".
use Rattle.std.specs.Prelude.{ℕ, Bool, List, [], Option, unwrap_or, slice_get}
use Rattle.std.specs.List.{filter_map}
use Rattle.std.specs.Option.{option_cmp}
use Rattle.std.specs.Ordering.{nat_cmp, on, then_cmp}
use Rattle.std.specs.declared.cmp.Ordering.{Ordering}
use Rattle.pool_core.specs.candidate_core.Candidates.{Candidate}
use Rattle.pool_core.specs.candidate_core.Options.{places_passing_counted_from}
use Rattle.pool_core.specs.candidate_core.Rank.{bytes_cmp, greater_version_first_cmp}
use Rattle.base_core.specs.Sorted.{sorted_by}

-- the text of a version, as it is printed; empty if there is none, and no candidate of a tested
-- container lacks one
abbrev pub printed_version : Option (List ℕ) → List ℕ
printed_version version = unwrap_or version []

-- the order of two candidates. The name that is less in byte order comes first, then the greater version. Of equal
-- versions, the text that is less in byte order comes first
abbrev pub name_then_greater_version_first_cmp : Candidate → Candidate → Ordering
name_then_greater_version_first_cmp =
    then_cmp (on (λ (c : Candidate). c.name) bytes_cmp)
    (then_cmp (on (λ (c : Candidate). c.version) greater_version_first_cmp)
    (on (λ (c : Candidate). c.version) (option_cmp bytes_cmp)))

-- the order of two places in a list of candidates: by the candidates at these places; if these are equal in order,
-- the earlier place comes first
abbrev pub candidate_places_cmp : List Candidate → ℕ → ℕ → Ordering
candidate_places_cmp candidates =
    then_cmp (on (slice_get candidates) (option_cmp name_then_greater_version_first_cmp)) nat_cmp

-- the places, counted from 0, of the candidates that pass a test, in the order of queries
abbrev pub sorted_places_passing : (Candidate → Bool) → List Candidate → List ℕ
sorted_places_passing test candidates =
    sorted_by (candidate_places_cmp candidates) (places_passing_counted_from 0 test candidates)

-- the candidates that pass a test, in the order of queries
abbrev pub sorted_candidates_passing : (Candidate → Bool) → List Candidate → List Candidate
sorted_candidates_passing test candidates =
    filter_map (slice_get candidates) (sorted_places_passing test candidates)
