use Rattle.change_inputs.specs.IndexFiles.{bytes_of_each}
use Rattle.change_inputs.proofs.IndexSteps.{IsTestedTo}
use Rattle.change_inputs.proofs.index.IndexFiles.test.Given as goal

abbrev pub invariant-loop-i : goal.invariant-loop-i
invariant-loop-i l = IsTestedTo (bytes_of_each l.files.items) l.i
