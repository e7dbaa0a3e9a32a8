use Rattle.std.proofs.Common.{◌≡◌, ◌∙◌, ◌++◌, ◌≤◌, List, ℕ, length, take, ap, sym, arith}
use Rattle.std.specs.Prelude.{Some, option_to_list, slice_get, ◌||◌}
use Rattle.std.specs.List.{list_any}
use Rattle.std.proofs.lemmas.List.{take_all}
use Rattle.pool_core.specs.candidate_core.Candidates.{Candidate}
use Rattle.pool_core.proofs.candidate_core.Steps.{get_at}
use Rattle.pool_core.specs.option_ranks.Ranking.{Ranking}
use Rattle.query_core.proofs.Gathered.{candidates_of, first_is, gathered, installed_more, numbers_more}
use Rattle.query_core.proofs.RisingLines.{numbers_of}
use Rattle.query_core.proofs.version_places.placed_version.Goals as goal

pub loop-i-preserved : goal.loop-i-preserved
loop-i-preserved c =
    let cs : List Candidate = c.args.pool.now.candidates in
    let rs : List Ranking = c.args.rankings.now in
    let i : ℕ = c.loop-i.i in
    let r : Ranking = c.index-rankings-i.result in
    let d : Candidate = c.details-details.result in
    let at : slice_get rs i ≡ Some r = get_at rs i r (omega arith) ∙ ap Some (sym c.index-rankings-i.is) in
    let there : slice_get cs r.place ≡ Some d = ap (λ (q : Ranking). slice_get cs q.place) (sym c.ranking.view_is) ∙ c.details-details.ensures in
    record {
      installed = ap (λ b. c.loop-i.is_installed || b) c.is_installed-is_installed.ensures ∙ installed_more cs rs i r d c.loop-i.is_installed at there c.loop-i.invariant.installed;
      numbers = numbers_more cs rs i r d c.loop-i.repositories.items _ at there c.loop-i.invariant.numbers (c.in_ok-push_repository.ensures ∙ ap (λ o. c.loop-i.repositories.items ++ option_to_list o) c.repo.ensures);
    }

pub returns-clause-places : goal.returns-clause-places
returns-clause-places c =
    let cs : List Candidate = c.args.pool.now.candidates in
    let rs : List Ranking = c.args.rankings.now in
    let past : length rs ≤ c.loop-i.i = omega arith in
    let all : take c.loop-i.i rs ≡ rs = take_all c.loop-i.i rs past in
    gathered (candidates_of cs rs) c.version.result c.loop-i.is_installed c.loop-i.repositories.items c.sort.new.self.items
    (c.loop-i.invariant.installed ∙ ap (λ (qs : List Ranking). list_any (λ (k : Candidate). k.installed) (candidates_of cs qs)) all)
    (c.loop-i.invariant.numbers ∙ ap (λ (qs : List Ranking). numbers_of (candidates_of cs qs)) all)
    c.in_ok-sort.ensures.permutation c.in_ok-sort.ensures.sorted

pub returns-clause-version : goal.returns-clause-version
returns-clause-version c = λ candidate first.
    let cs : List Candidate = c.args.pool.now.candidates in
    let rs : List Ranking = c.args.rankings.now in
    let r : Ranking = c.index-rankings-0.result in
    let at : slice_get rs 0 ≡ Some r = get_at rs 0 r (omega arith) ∙ ap Some (sym c.index-rankings-0.is) in
    let there : slice_get cs r.place ≡ Some c.details.result = ap (λ (q : Ranking). slice_get cs q.place) (sym c.first.view_is) ∙ c.details.ensures in
    c.version.ensures ∙ ap (λ (k : Candidate). k.version) (first_is cs rs r c.details.result candidate at there first)
