use Rattle.std.proofs.Common.{◌≡◌, List, [], Ok, refl, sym}
use Rattle.std.proofs.lemmas.Result.{IfOk-at_ok}
use Rattle.dep_core.specs.Dependency.{Dependency}
use Rattle.dep_core.specs.World.{world_of}
use Rattle.change_inputs.proofs.world.empty_world.Goals as goal

-- no text has no entries
no_entries : (w : List Dependency) → world_of [] ≡ Ok w → w ≡ []
unfolding world_of
no_entries w e = sym (IfOk-at_ok (λ (v : List Dependency). [] ≡ v) e refl)

pub returns-in-Ok : goal.returns-in-Ok
returns-in-Ok c = no_entries c.in-Ok.world c.in-Ok.ensures.ok
