use Rattle.words_core.proofs.read.judge.Goals as goal

pub of-requires : goal.of-requires
of-requires c = c.in_default.ensures.valid
