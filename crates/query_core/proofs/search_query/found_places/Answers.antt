use Rattle.std.proofs.Common.{◌≡◌, ◌∙◌, ◌++◌, ◌∷◌, [], Bool, List, ℕ, ap, sym}
use Rattle.std.specs.Prelude.{Some, if◌then◌else◌, slice_get}
use Rattle.pool_core.specs.candidate_core.Candidates.{Candidate}
use Rattle.query_core.specs.Search.{is_search_candidate}
use Rattle.query_core.proofs.SelectedPlaces.{places_next}
use Rattle.query_core.proofs.search_query.found_places.Goals as goal

pub loop-number-preserved : goal.loop-number-preserved
loop-number-preserved c =
    let test : Candidate → Bool = is_search_candidate c.args.patterns.now in
    let cs : List Candidate = c.args.pool.now.candidates in
    let n : ℕ = c.loop-number.number in
    let d : Candidate = c.details-details.result in
    let before : List ℕ = c.loop-number.places.items in
    let at : slice_get cs n ≡ Some d = ap (slice_get cs) (sym c.in_ok-place.ensures) ∙ c.details-details.ensures in
    places_next test cs n d before _ at c.loop-number.invariant
    (c.in_ok-push_if.ensures
    ∙ (ap (λ (b : Bool). before ++ (if b then c.in_ok-place.place ∷ [] else [])) c.is_search_candidate.ensures
    ∙ ap (λ (k : ℕ). before ++ (if test d then k ∷ [] else [])) c.in_ok-place.ensures))
