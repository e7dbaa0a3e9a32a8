use Rattle.std.proofs.Common.{◌≡◌, ◌<◌, ◌∙◌, ℕ, List, length, sym, subst}
use Rattle.std.specs.Prelude.{None, Option, Some, slice_get}
use Rattle.search_needs.specs.candidate_core.Candidates.{Candidate}
use Rattle.search_needs.specs.candidate_core.Packages.{candidates_of_packages}
use Rattle.search_needs.proofs.candidate_core.NamedVersions.{matches_among, own_matches}
use Rattle.search_choices.specs.Choices.{choices_of, pool_of}
use Rattle.search_needs.specs.search_tables.Conflicts.{AreConflictsOf}
use Rattle.search_needs.proofs.search_tables.Excluders.{found_against, found_occupant, match_both, none_against}
use Rattle.search_needs.proofs.search_tables.Places.{there_is}
use Rattle.search_choices.proofs.choices.Choices.excluder_at.Goals as goal

pub choice_against-requires-clause-within : goal.choice_against-requires-clause-within
choice_against-requires-clause-within c =
    subst (λ (cs : List Candidate). c.args.id < length cs) (sym c.requires.matches.0) (there_is (pool_of c.args.self.now).candidates c.args.id c.args.details.now c.requires.candidate.here).0

pub choice_against-requires-clause-listed : goal.choice_against-requires-clause-listed
choice_against-requires-clause-listed c = subst (λ (cs : List Candidate). AreConflictsOf cs c.args.self.now.conflicts.by_name) (sym c.requires.matches.0) c.requires.choices.conflicts

pub choice_against-requires-clause-matches : goal.choice_against-requires-clause-matches
choice_against-requires-clause-matches c = own_matches (pool_of c.args.self.now).candidates c.args.matches.now c.requires.matches

pub returns-in-Some : goal.returns-in-Some
returns-in-Some c =
    let at : slice_get (candidates_of_packages c.args.matches.now.packages.now) c.args.id ≡ Some c.args.details.now = subst (λ (cs : List Candidate). slice_get cs c.args.id ≡ Some c.args.details.now) (sym c.requires.matches.0) c.requires.candidate.here in
    record {
      found = found_against (pool_of c.args.self.now) (choices_of c.args.self.now) c.args.id c.args.details.now c.args.self.now.conflicts c.args.name.now c.in-Some.excluder c.requires.choices.listed c.requires.candidate.here c.requires.candidate.once
          (sym c.in-Some.is ∙ c.in_ok-against.ensures.found c.args.details.now at);
      matches = matches_among (pool_of c.args.self.now).candidates c.args.matches.now c.choice_against.new.matches c.requires.matches c.in_ok-against.ensures.matches;
    }

pub returns-in-None : goal.returns-in-None
returns-in-None c =
    let pool = pool_of c.args.self.now in
    let t : List ℕ = choices_of c.args.self.now in
    let at : slice_get (candidates_of_packages c.args.matches.now.packages.now) c.args.id ≡ Some c.args.details.now = subst (λ (cs : List Candidate). slice_get cs c.args.id ≡ Some c.args.details.now) (sym c.requires.matches.0) c.requires.candidate.here in
    let free = none_against pool t c.args.id c.args.details.now c.args.self.now.conflicts c.args.name.now c.requires.choices.listed
    (λ k e. let bad : ◌≡◌ {A = Option ℕ} None (Some k) = sym c.in-None.is ∙ (c.in_ok-against.ensures.found c.args.details.now at ∙ e) in absurd (cc)) in
    record {
      found = match_both c.occupant_at.result _ _ _ _ (λ none. (free, none))
          (λ k found. found_occupant pool t c.args.id c.args.details.now c.args.name.now k c.requires.candidate.here c.requires.candidate.once (c.requires.occupied found.0) found.1 found.2)
          c.occupant_at.ensures;
      matches = matches_among pool.candidates c.args.matches.now c.choice_against.new.matches c.requires.matches c.in_ok-against.ensures.matches;
    }
