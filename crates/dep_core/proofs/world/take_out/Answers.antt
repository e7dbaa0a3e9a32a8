-- What the search says of the index of the name, and what an edit there leaves.
use Rattle.std.proofs.Common.{sym, subst}
use Rattle.dep_core.specs.World.{IsWorldSortedByName}
use Rattle.dep_core.proofs.Worlds.{IsWorldSortedByName-without}
use Rattle.dep_core.proofs.Places.{del-found, del-absent}
use Rattle.dep_core.proofs.world.take_out.Goals as goal

pub returns-in-Ok : goal.returns-in-Ok
returns-in-Ok c =
    let gone = del-found c.args.name.now _ _ _ _ c.deref.ensures.value c.requires (c.in-Ok.ensures.within, c.in-Ok.ensures.index) c.remove.ensures.items in
    record {
      found = sym gone.1;
      rest = gone.0;
      still_world = subst IsWorldSortedByName (sym gone.0) (IsWorldSortedByName-without c.args.name.now c.args.entries.now.items c.requires);
    }

pub returns-in-Err : goal.returns-in-Err
returns-in-Err c =
    let same = del-absent c.args.name.now _ _ _ c.deref.ensures.value c.requires (c.in-Err.ensures.within, c.in-Err.ensures.index) in
    record {
      found = sym same.1;
      rest = sym same.0;
      still_world = c.requires;
    }
