use Rattle.std.proofs.Common.{◌≡◌, ◌∙◌, ℕ, ap, sym, subst}
use Rattle.std.specs.Prelude.{Some, slice_get}
use Rattle.dep_core.specs.Meets.{dependency}
use Rattle.pool_core.specs.candidate_core.Candidates.{meets_dependency}
use Rattle.pool_core.specs.candidate_core.Packages.{candidates_of_packages}
use Rattle.pool_core.proofs.candidate_core.WantedVersions.{if_ok_map}
use Rattle.search_tables.specs.Conflicts.{IsConflictOf, ListedConflictValue}
use Rattle.search_tables.specs.declared.conflicts.ListedConflict.TheInside.{Inside}
use Rattle.search_tables.proofs.conflicts.ListedConflict.is_met_by.Goals as goal

abbrev value : Inside → ListedConflictValue
value listed = (listed.by, dependency listed.dep, listed.index)

pub meets-requires-clause-held : goal.meets-requires-clause-held
meets-requires-clause-held c =
    subst (λ (listed : ListedConflictValue). IsConflictOf (candidates_of_packages c.args.matches.now.packages.now) listed) (sym (ap value c.self-inside.view_is ∙ c.self.view_is)) c.requires.listed

pub returns-clause-meets : goal.returns-clause-meets
returns-clause-meets c =
    if_ok_map _ _ (λ answer h one at.
    h one (subst (λ (n : ℕ). slice_get (candidates_of_packages c.args.matches.now.packages.now) n ≡ Some one) (sym c.id.view_is) at)
    ∙ ap (λ (listed : ListedConflictValue). meets_dependency listed.1 one) (ap value c.self-inside.view_is ∙ c.self.view_is))
    c.meets.result c.meets.ensures.meets
