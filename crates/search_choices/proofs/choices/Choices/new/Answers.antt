use Rattle.std.proofs.Common.{◌∙◌, ◌++◌, [], List, ap, refl}
use Rattle.std.specs.Prelude.{None}
use Rattle.dep_core.specs.Dependency.{Dependency}
use Rattle.search_needs.specs.search_tables.Queue.{RaisedDepValue, raised_deps}
use Rattle.search_choices.proofs.Consistency.{consistent_start}
use Rattle.search_choices.proofs.choices.Choices.new.Goals as goal

pub returns-clause-consistent : goal.returns-clause-consistent
returns-clause-consistent c =
    consistent_start _ c.new-2.ensures
    (c.in_ok-queue_world.ensures ∙ (ap (λ (z : List RaisedDepValue). z ++ raised_deps None c.args.world.now) c.new-queue.ensures.items ∙ ap (λ (d : List Dependency). [] ++ raised_deps None d) c.requires))
    refl refl c.in_ok-install_ifs.ensures c.new-3.ensures c.new-4.ensures.items
