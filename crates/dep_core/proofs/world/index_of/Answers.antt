-- The closure compares the names.
use Rattle.std.proofs.Common.{rules, ◌≡◌}
use Rattle.std.proofs.lemmas.Fn.{always_returns_same}
use Rattle.dep_core.specs.Dependency.{Dependency}
use Rattle.base_core.specs.ByteOrder.{bytes_cmp}
use Rattle.dep_core.proofs.world.index_of.Goals as goal

pub returns-clause-index : goal.returns-clause-index
returns-clause-index c =
    c.binary_search_by.ensures.position (λ (entry : Dependency). bytes_cmp entry.name c.args.name.now)
    (always_returns_same _ (λ a r. r ≡ bytes_cmp a.0.now.name c.args.name.now) _ (λ a r f' k. search rules))
