use Rattle.std.proofs.Common.{◌≡◌, length}
use Rattle.dep_core.specs.World.{is_blank, world_with_words, words_between_blanks}
use Rattle.std.specs.List.{slice_split}
use Rattle.dep_core.proofs.Lines.{words_left}
use Rattle.dep_core.proofs.world.Found.add_line.Given as goal

abbrev pub invariant-loop-word : goal.invariant-loop-word
invariant-loop-word l =
    world_with_words l.self (words_left (length l.yielded) (slice_split is_blank l.line)) ≡ world_with_words l.initial.self (words_between_blanks l.line)
