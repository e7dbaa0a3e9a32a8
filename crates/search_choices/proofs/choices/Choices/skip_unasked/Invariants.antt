use Rattle.std.proofs.Common.{◌≡◌, ◌-◌, vec_len}
use Rattle.search_choices.specs.Choices.{IsConsistent, choices_of, pool_of}
use Rattle.search_choices.proofs.choices.Choices.skip_unasked.Given as goal

abbrev pub invariant-loop-self : goal.invariant-loop-self
invariant-loop-self l = record {
  consistent : IsConsistent l.self;
  pool : pool_of l.self ≡ pool_of l.initial.self;
  choices : choices_of l.self ≡ choices_of l.initial.self;
}

abbrev pub decreases-loop-self : goal.decreases-loop-self
decreases-loop-self l = vec_len l.self.install_ifs.by_name - l.self.asking_cursor
