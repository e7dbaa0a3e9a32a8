use Rattle.std.proofs.Common.{◌≡◌, ◌∙◌, ◌++◌, [], ℕ, List, sym, subst, ap}
use Rattle.std.specs.Prelude.{Option, Some}
use Rattle.std.specs.Option.{option_map_or}
use Rattle.dep_core.specs.Dependency.{Dependency}
use Rattle.search_needs.specs.candidate_core.Candidates.{Candidate}
use Rattle.search_needs.specs.candidate_core.Rank.{candidate_at}
use Rattle.search_choices.specs.Choices.{pool_of}
use Rattle.search_needs.specs.search_tables.Conflicts.{conflicts_among, conflicts_of_name_in}
use Rattle.search_needs.specs.search_tables.Selection.{depends_at}
use Rattle.search_needs.proofs.search_tables.ConflictTables.{among_more}
use Rattle.search_choices.proofs.choices.Choices.take_conflicts_away.Goals as goal

pub returns-in-Some-at-clause-listed : goal.returns-in-Some-at-clause-listed
returns-in-Some-at-clause-listed c = λ rest last e.
    let pool = pool_of c.args.self.now in
    let found : Some c.in-Some.id ≡ Some last = c.in-Some.ensures rest last e in
    let same : c.in-Some.id ≡ last = cc in
    let here : candidate_at pool last ≡ Some c.in-Some-at.details = subst (λ (k : ℕ). candidate_at pool k ≡ Some c.in-Some-at.details) same (sym c.in-Some-at.ensures) in
    let deps : depends_at pool last ≡ c.depends.result = ap (λ (o : Option Candidate). option_map_or (λ (k : Candidate). k.depends) o []) here ∙ sym c.depends.ensures in
    c.pop_all.ensures.conflicts last (conflicts_among pool rest)
    (λ name. c.requires name ∙ (ap (λ (t : List ℕ). conflicts_among pool t name) e ∙ (among_more pool rest last name
    ∙ ap (λ (z : List Dependency). conflicts_among pool rest name ++ conflicts_of_name_in name last z) deps)))

pub returns-in-Some-at-clause-conflicts : goal.returns-in-Some-at-clause-conflicts
returns-in-Some-at-clause-conflicts c = c.pop_all.ensures.listed
