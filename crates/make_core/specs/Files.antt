-- The files that the operands of `mkndx` name, and what reads of a tree find.
-- No rule of a document: serves the contracts of `src/indexes/index.rt` and `src/commands.rt`.
use Rattle.std.specs.Prelude.{◌≡◌, ℕ, ◌+◌, List, [], ◌∷◌, Some}
use Rattle.base_core.specs.Files.{AreFileBytes}
use Rattle.base_core.specs.Tree.{TreeState, files_of}
use Rattle.command_core.specs.Files.{without_one_leading_dot_slash}
use Rattle.command_core.specs.declared.operands.Operand.{Operand}
use Rattle.make_info.specs.Reads.{Reads}

-- for each operand, the read of its file finds no file, or bytes that a file may have. The operands are
-- read one after the other; the read for the first one has the number `n`
abbrev pub EachOperandReadFindsNoFileOrFileBytes : Reads → ℕ → List Operand → Type 0
EachOperandReadFindsNoFileOrFileBytes read n [] = Unit {0}
EachOperandReadFindsNoFileOrFileBytes read n (o ∷ operands) =
    ((file : List ℕ) → read n (without_one_leading_dot_slash o.text) ≡ Some file → AreFileBytes file)
    × EachOperandReadFindsNoFileOrFileBytes read (n + 1) operands

-- the results of reads of a tree in this state: each finds what the tree has under the name that is read
abbrev pub reads_of : TreeState → Reads
reads_of v n name = files_of v name
