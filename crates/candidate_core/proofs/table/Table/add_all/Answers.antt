use Rattle.std.proofs.Common.{◌≡◌, ◌∙◌, List, ℕ, Bool, ap}
use Rattle.std.specs.Prelude.{not, ◌&&◌}
use Rattle.std.specs.List.{list_any}
use Rattle.std.specs.Str.{bytes_eq}
use Rattle.dep_core.specs.Dependency.{Dependency}
use Rattle.candidate_core.specs.Table.{places_of_name, with_place_if_added}
use Rattle.candidate_core.proofs.Steps.{on_ok}
use Rattle.candidate_core.proofs.TableAdding.{add_both}
use Rattle.candidate_core.proofs.table.Table.add_all.Goals as goal

pub returns : goal.returns
returns c = on_ok c.add_provided.result _ _ (λ added name.
    let own : Bool = bytes_eq name c.args.details.now.name in
    let test : Dependency → Bool = λ (p : Dependency). not p.conflict && bytes_eq name p.name in
    let start : List ℕ = places_of_name c.args.self.now name in
    let first : places_of_name c.add.new.self name ≡ with_place_if_added own start c.args.id = c.in_ok-add.ensures name ∙ ap (λ (n : List ℕ). with_place_if_added (bytes_eq name n) start c.args.id) c.name.ensures in
    let second : places_of_name c.add_provided.new.self name ≡ with_place_if_added (list_any test c.args.details.now.provides) (places_of_name c.add.new.self name) c.args.id =
    added name ∙ ap (λ (ds : List Dependency). with_place_if_added (list_any test ds) (places_of_name c.add.new.self name) c.args.id) c.provides.ensures in
    second ∙ (ap (λ (z : List ℕ). with_place_if_added (list_any test c.args.details.now.provides) z c.args.id) first ∙ add_both own (list_any test c.args.details.now.provides) start c.args.id))
    c.add_provided.ensures
