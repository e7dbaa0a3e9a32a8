use Rattle.std.proofs.Common.{List, take, ◌+◌}
use Rattle.std.specs.Prelude.{not, ◌&&◌}
use Rattle.std.specs.Str.{bytes_eq}
use Rattle.dep_core.specs.Dependency.{Dependency}
use Rattle.dep_core.specs.Meets.{dependency}
use Rattle.candidate_core.specs.Table.{places_of_name}
use Rattle.candidate_core.proofs.Steps.{take_one_more}
use Rattle.candidate_core.proofs.TableAdding.{add_more}
use Rattle.candidate_core.proofs.table.Table.add_provided.Goals as goal

pub loop-i-preserved : goal.loop-i-preserved
loop-i-preserved c = λ name.
    let provides : List Dependency = c.args.provides.now in
    add_more (λ (p : Dependency). not p.conflict && bytes_eq name p.name) (take c.loop-i.i provides) (take (c.loop-i.i + 1) provides) (dependency c.get.result)
    (places_of_name c.args.self.now name) (places_of_name c.loop-i.self name) (places_of_name c.add_entry.new.self name) c.args.id
    (take_one_more provides c.loop-i.i (dependency c.get.result) c.get.ensures) (c.loop-i.invariant name) (c.in_ok-add_entry.ensures name)
