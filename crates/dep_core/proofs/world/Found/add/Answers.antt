-- The map gains an entry under its name, as the list of its entries does.
use Rattle.std.proofs.Common.{◌≡◌, true, sym, ◌∙◌, ap, subst}
use Rattle.std.specs.Prelude.{is_some}
use Rattle.std.specs.Map.{values_of}
use Rattle.dep_core.specs.Dependency.{Dependency}
use Rattle.dep_core.specs.DependencyText.{is_dependency}
use Rattle.dep_core.specs.Found.{IsKeyedByName}
use Rattle.dep_core.specs.World.{IsWorldSortedByName, has_dependency_named, world_with_dependency_put_in_name_order}
use Rattle.dep_core.proofs.ByName.{values-insert, by_name-insert, some-found, not-moved}
use Rattle.dep_core.proofs.Worlds.{IsWorldSortedByName-world_with_dependency_put_in_name_order}
use Rattle.dep_core.proofs.world.Found.add.Goals as goal

pub returns-clause-new : goal.returns-clause-new
returns-clause-new c =
    not-moved _ _ _ c.is_none.ensures (ap is_some c.in_ok-old.ensures.old ∙ (some-found c.self.inside.by_name.entries c.args.dep.now.name c.self.invariant.0 ∙ ap (λ ds. has_dependency_named c.args.dep.now.name.now ds) c.self.view_is))

pub returns-clause-added : goal.returns-clause-added
returns-clause-added c =
    let same_name : c.args.dep.now.name.now ≡ c.in_ok-entry.entry.name = sym (ap (λ (d : Dependency). d.name) c.in_ok-entry.ensures.value) in
    ap values_of c.in_ok-old.ensures.entries
    ∙ (values-insert c.self.inside.by_name.entries c.args.dep.now.name c.in_ok-entry.entry same_name c.self.invariant.0 ∙ (λ i. world_with_dependency_put_in_name_order (c.in_ok-entry.ensures.value i) (c.self.view_is i)))

pub invariant_of-self-2 : goal.invariant_of-self-2
invariant_of-self-2 c =
    let same_name : c.args.dep.now.name.now ≡ c.in_ok-entry.entry.name = sym (ap (λ (d : Dependency). d.name) c.in_ok-entry.ensures.value) in
    let good : is_dependency c.in_ok-entry.entry ≡ true =
    ap is_dependency c.in_ok-entry.ensures.value ∙ c.in_ok-entry.ensures.grammar in
    let gained : values_of c.insert.new.self.entries ≡ world_with_dependency_put_in_name_order c.in_ok-entry.entry (values_of c.self.inside.by_name.entries) =
    ap values_of c.in_ok-old.ensures.entries ∙ values-insert c.self.inside.by_name.entries c.args.dep.now.name c.in_ok-entry.entry same_name c.self.invariant.0 in (
      subst IsKeyedByName (sym c.in_ok-old.ensures.entries) (by_name-insert c.self.inside.by_name.entries c.args.dep.now.name c.in_ok-entry.entry same_name c.self.invariant.0),
      subst IsWorldSortedByName (sym gained) (IsWorldSortedByName-world_with_dependency_put_in_name_order c.in_ok-entry.entry (values_of c.self.inside.by_name.entries) good c.self.invariant.1),
    )
