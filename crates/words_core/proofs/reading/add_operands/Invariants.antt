use Rattle.std.proofs.Common.{◌≡◌, ◌+◌, ◌++◌, drop}
use Rattle.words_core.specs.Grammar.{words_as_operands_from_place}
use Rattle.words_core.proofs.reading.add_operands.Given as goal

-- the operands so far, and those that are left
abbrev pub invariant-loop-i : goal.invariant-loop-i
invariant-loop-i l =
    l.initial.operands ++ words_as_operands_from_place (l.before + 1) (drop l.before l.words)
    ≡ l.operands ++ words_as_operands_from_place (l.i + 1) (drop l.i l.words)
