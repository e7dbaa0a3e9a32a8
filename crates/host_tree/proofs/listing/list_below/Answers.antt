use Rattle.host_tree.proofs.listing.list_below.Goals as goal
use Rattle.host_tree.proofs.listing.list_below.Goals.{then-loop-test+in_default, else-loop-test}

pub returns : goal.returns
returns g c =
    c.in_ok-into_names.ensures c.args.folder.now (elim c.loop-test.branch [
      | else-loop-test w ↦ rw w.walk-is c.loop.invariant
      | then-loop-test+in_default w ↦ rw w.walk-is c.loop.invariant
    ])
