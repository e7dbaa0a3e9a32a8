-- The result of a run in the tree of `demo`. Serves the proofs of `demo` in `src/demo.rt`; the rule is
-- in `docs/commands.md`, "`demo N`".
use Rattle.std.specs.Prelude.{◌≡◌}
use Rattle.base_core.specs.Tree.{files_of}
use Rattle.outcome.specs.Outcome.{Outcome}
use Rattle.tree_memory.specs.Memory.{tree_state}
use Rattle.tree_memory.specs.declared.tree.MemoryTree.{MemoryTree}
use Rattle.apk_front.specs.Verdicts.{Reports}
use Rattle.apk_front.specs.declared.answer.Verdict.{Verdict}

-- a verdict reports one of these outcomes, and the tree has its files
abbrev pub IsRunToOutcome : (Outcome → Type 0) → Verdict → MemoryTree → Type 0
IsRunToOutcome IsOne verdict tree =
    (outcome : Outcome)
    × IsOne outcome
    × Reports verdict outcome
    × (files_of (tree_state tree) ≡ outcome.files)
