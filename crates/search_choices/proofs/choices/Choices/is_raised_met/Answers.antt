use Rattle.std.proofs.Common.{◌≡◌, ◌∙◌, [], ℕ, List, ap, sym, subst}
use Rattle.std.specs.Prelude.{Option, Some, slice_get}
use Rattle.std.specs.Option.{option_map_or}
use Rattle.dep_core.specs.Dependency.{Dependency}
use Rattle.dep_core.specs.Meets.{dependency}
use Rattle.search_needs.specs.candidate_core.Candidates.{Candidate, entry}
use Rattle.search_needs.proofs.candidate_core.WantedVersions.{if_ok_map}
use Rattle.search_choices.specs.Choices.{choices_of, pool_of}
use Rattle.search_needs.specs.search_tables.Queue.{RaisedDepValue}
use Rattle.search_needs.specs.search_tables.Selection.{depends_at, is_met}
use Rattle.search_choices.proofs.choices.Choices.is_raised_met.Goals as goal

pub returns-in-None-clause-met : goal.returns-in-None-clause-met
returns-in-None-clause-met c =
    c.is_met_by_latest_or_other.ensures ∙ ap (λ (d : Dependency). is_met (pool_of c.args.self.now) (choices_of c.args.self.now) (entry d)) c.dep-dep.ensures

pub is_held_met-requires-clause-held : goal.is_held_met-requires-clause-held
is_held_met-requires-clause-held c = λ one at.
    let cs : List Candidate = (pool_of c.args.self.now).candidates in
    let r : RaisedDepValue = c.args.raised.now in
    let d : Dependency = dependency c.dep-dep.result.now in
    let there : slice_get cs c.in-Some.choice ≡ Some one = subst (λ (n : ℕ). slice_get cs n ≡ Some one) c.choice.view_is at in
    let has : slice_get (depends_at (pool_of c.args.self.now) c.in-Some.choice) r.2 ≡ Some d = c.requires.raised c.in-Some.choice (sym c.in-Some.ensures) ∙ ap Some (sym c.dep-dep.ensures) in
    let deps : depends_at (pool_of c.args.self.now) c.in-Some.choice ≡ one.depends = ap (λ (o : Option Candidate). option_map_or (λ (k : Candidate). k.depends) o []) there in
    subst (λ (n : ℕ). slice_get one.depends n ≡ Some d) (sym c.index.ensures) (subst (λ (ds : List Dependency). slice_get ds r.2 ≡ Some d) deps has)

pub returns-in-Some-clause-met : goal.returns-in-Some-clause-met
returns-in-Some-clause-met c =
    if_ok_map _ _ (λ met h. h ∙ ap (λ (d : Dependency). is_met (pool_of c.args.self.now) (choices_of c.args.self.now) (entry d)) c.dep-dep.ensures)
    c.is_held_met.result c.is_held_met.ensures.met
