use Rattle.std.proofs.Common.{◌≡◌, ◌∙◌, ℕ, sym, subst}
use Rattle.std.specs.Prelude.{Some, slice_get}
use Rattle.dep_core.specs.Dependency.{Dependency}
use Rattle.dep_core.specs.Meets.{dependency}
use Rattle.search_needs.specs.candidate_core.Candidates.{Candidate}
use Rattle.search_needs.proofs.candidate_core.WantedVersions.{if_ok_map}
use Rattle.search_choices.specs.Choices.{choices_of, pool_of}
use Rattle.search_needs.proofs.search_tables.Excluders.{found_meeting, match_both}
use Rattle.search_needs.proofs.search_tables.Places.{there_is}
use Rattle.search_choices.proofs.choices.Choices.excluder_meeting_one.Goals as goal

pub choice_meeting_own-requires-clause-held : goal.choice_meeting_own-requires-clause-held
choice_meeting_own-requires-clause-held c = λ one at.
    let here : slice_get (pool_of c.args.self.now).candidates c.id.inside.place ≡ Some c.args.details.now =
    subst (λ (n : ℕ). slice_get (pool_of c.args.self.now).candidates n ≡ Some c.args.details.now) (sym c.id.view_is) c.requires.candidate.here in
    let both : Some c.args.details.now ≡ Some one = sym here ∙ at in
    let same : c.args.details.now ≡ one = cc in
    subst (λ (k : Candidate). slice_get k.depends c.args.index ≡ Some (dependency c.args.dep.now)) same c.requires.depends

pub returns : goal.returns
returns c =
    let d : Dependency = dependency c.args.dep.now in
    let has = (there_is c.args.details.now.depends c.args.index d c.requires.depends).1 in
    record {
      found = if_ok_map _ _ (λ found h. match_both found _ _ _ _ (λ none conflict. none)
          (λ k met. found_meeting (pool_of c.args.self.now) (choices_of c.args.self.now) c.args.id c.args.details.now d k c.requires.candidate.here c.requires.candidate.once has c.if-not-dep.false met.0 met.1) h)
          c.choice_meeting_own.result c.choice_meeting_own.ensures.found;
      matches = c.choice_meeting_own.ensures.matches;
    }
