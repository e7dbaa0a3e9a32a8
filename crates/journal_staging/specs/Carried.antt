-- What `carry_out` ensures, in whose contract this is cited. The rules are in `docs/crash-safety.md`, "A change of
-- several files", what is proved of the whole.
use Rattle.std.specs.Prelude.{◌≡◌, List, Result, OnOk, IfErr}
use Rattle.base_core.specs.Files.{Files}
use Rattle.base_core.specs.Tree.{TreeState}
use Rattle.journal_staging.specs.declared.writes.StageFault.{StageFault}
use Rattle.journal_staging.specs.declared.writes.StageFault.TheVariants.{Disk}
use Rattle.journal_commit.specs.StageRun.{IsRunOfStagedChange, IsStagedChangeComplete}

-- A change that leads to `files` is carried through, or the tree failed on the way. The change begins at the tree
-- `v`, the newest state of the history `old`; `now` is the history since.
pub record IsCarriedTo {A : Type 0} (files : Files) (v : TreeState) (old now : List TreeState)
    (result : Result A StageFault) : Type 0 where
  -- each moment is one of a change that leads to `files`
  pub run : IsRunOfStagedChange files v old now
  -- once Ok is returned, the change is complete
  pub ok : OnOk result (IsStagedChangeComplete files v now)
  -- the only possible error is that of the tree
  pub err : IfErr result (λ fault. fault ≡ Disk)
