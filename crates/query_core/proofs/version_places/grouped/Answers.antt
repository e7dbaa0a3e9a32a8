use Rattle.std.proofs.Common.{◌≡◌, ◌∙◌, ◌-◌, ◌++◌, ◌∷◌, [], All, List, ℕ, append-nil, append_assoc, ap, drop, get_or, map, subst, sym, take, arith}
use Rattle.std.specs.Prelude.{Option, Some, slice_get}
use Rattle.std.specs.List.{filter, list_any}
use Rattle.std.proofs.lemmas.List.{map-append}
use Rattle.std.proofs.lemmas.List.Elements.{All-push}
use Rattle.pool_core.specs.candidate_core.Candidates.{Candidate}
use Rattle.pool_core.proofs.candidate_core.Steps.{get_at}
use Rattle.pool_core.specs.option_ranks.Ranking.{Ranking}
use Rattle.pool_core.proofs.option_ranks.RankedOptions.{place_of}
use Rattle.query_core.specs.Order.{sorted_places_passing}
use Rattle.query_core.specs.Policy.{has_own_name_and_version_text, has_own_name, versions_except_those_repeated_later}
use Rattle.query_core.specs.QueryRanking.{AreInQueryOrder}
use Rattle.query_core.specs.VersionPlaces.{ListsPlacesOfVersion, VersionPlaces}
use Rattle.query_core.proofs.Gathered.{candidates_of}
use Rattle.query_core.proofs.Grouping.{apart_after, first_of_run, next_version, run_is, run_within, says_same, version_of, versions_are}
use Rattle.query_core.proofs.LineParts.{nothing_left}
use Rattle.query_core.proofs.QueryOrder.{none_read}
use Rattle.query_core.proofs.version_places.grouped.Goals as goal

pub placed_version-requires-clause-within : goal.placed_version-requires-clause-within
placed_version-requires-clause-within c =
    let cs : List Candidate = c.args.pool.now.candidates in
    let name : List ℕ = c.args.name.now in
    let rs : List Ranking = c.as_slice-rankings.result.now in
    let ordered : AreInQueryOrder cs c.args.ordered.now.key rs = subst (AreInQueryOrder cs c.args.ordered.now.key) (sym c.as_slice-rankings.ensures.value) c.requires.versions in
    let places : map place_of rs ≡ sorted_places_passing (has_own_name name) cs = ap (map place_of) c.as_slice-rankings.ensures.value ∙ c.requires.places in
    let start : ℕ = c.loop-start.start in
    let end : ℕ = c.end_of_version-end.result in
    let s : Ranking = get_or rs start none_read in
    let first : slice_get rs start ≡ Some s = get_at rs start none_read (omega arith) in
    let found = c.end_of_version-end.ensures in
    run_within c.order_is_total.ensures cs name rs ordered.read places c.args.ordered.now.key ordered start end s found.after found.within first found.one found.other c.loop-start.invariant.apart

pub loop-start-preserved : goal.loop-start-preserved
loop-start-preserved c =
    let cs : List Candidate = c.args.pool.now.candidates in
    let name : List ℕ = c.args.name.now in
    let rs : List Ranking = c.as_slice-rankings.result.now in
    let ordered : AreInQueryOrder cs c.args.ordered.now.key rs = subst (AreInQueryOrder cs c.args.ordered.now.key) (sym c.as_slice-rankings.ensures.value) c.requires.versions in
    let places : map place_of rs ≡ sorted_places_passing (has_own_name name) cs = ap (map place_of) c.as_slice-rankings.ensures.value ∙ c.requires.places in
    let start : ℕ = c.loop-start.start in
    let end : ℕ = c.end_of_version-end.result in
    let s : Ranking = get_or rs start none_read in
    let first : slice_get rs start ≡ Some s = get_at rs start none_read (omega arith) in
    let found = c.end_of_version-end.ensures in
    let v : VersionPlaces = c.in_ok-placed_version.field-0 in
    let vs : List VersionPlaces = c.loop-start.versions.items in
    let of_first = first_of_run c.order_is_total.ensures cs name rs ordered.read places c.args.ordered.now.key ordered start end s found.after found.within first found.one found.other c.loop-start.invariant.apart in
    let version : v.version ≡ version_of s = c.in_ok-placed_version.ensures.version of_first.0 of_first.1.0 ∙ of_first.1.1 in
    let says : ListsPlacesOfVersion cs name v = says_same (filter (has_own_name_and_version_text name v.version) cs) (candidates_of cs (take (end - start) (drop start rs))) v
    (λ q. ap (λ (w : Option (List ℕ)). list_any q (filter (has_own_name_and_version_text name w) cs)) version ∙ run_is c.order_is_total.ensures cs name rs ordered.read places c.args.ordered.now.key ordered start end s found.after found.within first found.one found.other c.loop-start.invariant.apart q)
    c.in_ok-placed_version.ensures.places in
    let text : VersionPlaces → Option (List ℕ) = λ (w : VersionPlaces). w.version in
    let later : List (Option (List ℕ)) = versions_except_those_repeated_later (map version_of (drop end rs)) in
    record {
      same = c.loop-start.invariant.same;
      within = found.within;
      versions = ap (λ (ws : List VersionPlaces). map text ws ++ later) c.in_ok-push.ensures.items
          ∙ (ap (λ (ts : List (Option (List ℕ))). ts ++ later) (map-append text vs (v ∷ []))
          ∙ (append_assoc (map text vs) (v.version ∷ []) later
          ∙ (ap (λ (w : Option (List ℕ)). map text vs ++ (w ∷ later)) version
          ∙ (ap (λ (ts : List (Option (List ℕ))). map text vs ++ ts) (sym (next_version c.order_is_total.ensures cs name rs ordered.read places c.args.ordered.now.key ordered start end s found.after found.within first found.one found.other c.loop-start.invariant.apart)) ∙ c.loop-start.invariant.versions))));
      places = subst (λ (ws : List VersionPlaces). All (ListsPlacesOfVersion cs name) ws) (sym c.in_ok-push.ensures.items) (All-push (ListsPlacesOfVersion cs name) vs v c.loop-start.invariant.places says);
      apart = apart_after c.order_is_total.ensures cs name rs ordered.read places c.args.ordered.now.key ordered start end s found.after found.within first found.one found.other c.loop-start.invariant.apart;
    }

pub returns-clause-versions : goal.returns-clause-versions
returns-clause-versions c =
    let cs : List Candidate = c.args.pool.now.candidates in
    let name : List ℕ = c.args.name.now in
    let rs : List Ranking = c.as_slice-rankings.result.now in
    let ordered : AreInQueryOrder cs c.args.ordered.now.key rs = subst (AreInQueryOrder cs c.args.ordered.now.key) (sym c.as_slice-rankings.ensures.value) c.requires.versions in
    let places : map place_of rs ≡ sorted_places_passing (has_own_name name) cs = ap (map place_of) c.as_slice-rankings.ensures.value ∙ c.requires.places in
    let text : VersionPlaces → Option (List ℕ) = λ (w : VersionPlaces). w.version in
    let vs : List VersionPlaces = c.loop-start.versions.items in
    let none : drop c.loop-start.start rs ≡ [] = nothing_left rs c.loop-start.start (omega arith) in
    sym (append-nil (map text vs))
    ∙ (ap (λ (qs : List Ranking). map text vs ++ versions_except_those_repeated_later (map version_of qs)) (sym none)
    ∙ (c.loop-start.invariant.versions ∙ sym (versions_are c.order_is_total.ensures cs name rs ordered.read places)))
