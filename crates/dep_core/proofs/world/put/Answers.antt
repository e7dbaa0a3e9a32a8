-- What the search says of the index of the name, and what an edit there leaves.
use Rattle.std.proofs.Common.{refl, sym, subst}
use Rattle.dep_core.specs.World.{IsWorldSortedByName}
use Rattle.dep_core.proofs.Worlds.{IsWorldSortedByName-world_with_dependency_put_in_name_order}
use Rattle.dep_core.proofs.Places.{add-found, add-absent}
use Rattle.dep_core.proofs.world.put.Goals as goal

pub returns-in-Ok : goal.returns-in-Ok
returns-in-Ok c =
    let placed = add-found c.args.entry _ _ _ _ _ c.name.ensures c.deref.ensures.value c.requires.world (c.in-Ok.ensures.within, c.in-Ok.ensures.index) refl in
    record {
      ok = placed;
      err = tt;
      still_world = subst IsWorldSortedByName (sym placed) (IsWorldSortedByName-world_with_dependency_put_in_name_order c.args.entry c.args.entries.now.items c.requires.dependency c.requires.world);
    }

pub returns-in_ok-insert-in-Err : goal.returns-in_ok-insert-in-Err
returns-in_ok-insert-in-Err c =
    let placed = add-absent c.args.entry _ _ _ _ _ c.name.ensures c.deref.ensures.value c.requires.world (c.in-Err.ensures.within, c.in-Err.ensures.index) c.in_ok-insert-in-Err.ensures.items in
    record {
      ok = placed;
      err = tt;
      still_world = subst IsWorldSortedByName (sym placed) (IsWorldSortedByName-world_with_dependency_put_in_name_order c.args.entry c.args.entries.now.items c.requires.dependency c.requires.world);
    }
