use Rattle.std.proofs.Common.{◌≡◌, take, List, ℕ}
use Rattle.std.specs.Prelude.{not, ◌&&◌}
use Rattle.std.specs.List.{list_any}
use Rattle.dep_core.specs.Dependency.{Dependency}
use Rattle.std.specs.Str.{bytes_eq}
use Rattle.candidate_core.specs.Table.{places_of_name, with_place_if_added}
use Rattle.candidate_core.proofs.table.Table.add_provided.Given as goal

abbrev pub invariant-loop-i : goal.invariant-loop-i
invariant-loop-i l = (name : List ℕ) → places_of_name l.self name ≡ with_place_if_added (list_any (λ (p : Dependency). not p.conflict && bytes_eq name p.name) (take l.i l.provides)) (places_of_name l.initial.self name) l.id
