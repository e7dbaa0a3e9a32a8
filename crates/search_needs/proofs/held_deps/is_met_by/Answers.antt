use Rattle.std.proofs.Common.{◌≡◌, ◌<◌, List, ℕ, length, ap, sym, subst, arith}
use Rattle.std.specs.Prelude.{Some, slice_get}
use Rattle.dep_core.specs.Meets.{dependency}
use Rattle.search_tables.specs.candidate_core.Candidates.{Candidate, meets_dependency}
use Rattle.search_tables.specs.candidate_core.PackageMatches.{AreMatchesAmong, IsDepOfPackageAt}
use Rattle.search_tables.specs.candidate_core.Packages.{candidates_of_packages}
use Rattle.search_tables.proofs.candidate_core.NamedVersions.{matches_among, own_matches, told_at}
use Rattle.search_tables.proofs.candidate_core.Steps.{on_ok}
use Rattle.search_tables.proofs.candidate_core.WantedVersions.{if_ok_map}
use Rattle.search_needs.proofs.held_deps.is_met_by.Goals as goal

pub meets-requires-clause-within : goal.meets-requires-clause-within
meets-requires-clause-within c =
    let own : candidates_of_packages c.args.matches.now.packages.now ≡ c.args.pool.now.candidates = c.requires.matches.0 in
    omega (arith, ap length own)

pub meets-requires-clause-held : goal.meets-requires-clause-held
meets-requires-clause-held c = subst (λ (cs : List Candidate). IsDepOfPackageAt cs c.args.held.now) (sym c.requires.matches.0) c.requires.held

pub returns-clause-meets : goal.returns-clause-meets
returns-clause-meets c =
    let d = dependency c.args.held.now.dep.now in
    let cs : List Candidate = c.args.pool.now.candidates in
    let within : c.args.id < length cs = omega (arith, c.id.view_is) in
    if_ok_map _ _ (λ answer h. told_at (meets_dependency d) cs c.args.id answer within (λ one at.
    h one (subst (λ (z : List Candidate). slice_get z c.id.inside.place ≡ Some one) (sym c.requires.matches.0) (subst (λ (n : ℕ). slice_get cs n ≡ Some one) (sym c.id.view_is) at))))
    c.meets.result c.meets.ensures.meets

pub meets-requires-clause-matches : goal.meets-requires-clause-matches
meets-requires-clause-matches c = own_matches c.args.pool.now.candidates c.args.matches.now c.requires.matches

pub returns-clause-matches : goal.returns-clause-matches
returns-clause-matches c =
    on_ok c.meets.result (AreMatchesAmong (candidates_of_packages c.args.matches.now.packages.now) c.meets.new.self) (AreMatchesAmong c.args.pool.now.candidates c.meets.new.self)
    (matches_among c.args.pool.now.candidates c.args.matches.now c.meets.new.self c.requires.matches) c.meets.ensures.matches
