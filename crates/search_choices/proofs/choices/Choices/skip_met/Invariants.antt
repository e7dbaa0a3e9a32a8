use Rattle.std.proofs.Common.{◌≡◌, ◌-◌, vec_len}
use Rattle.search_needs.specs.candidate_core.PackageMatches.{AreMatchesAmong}
use Rattle.search_choices.specs.Choices.{IsConsistent, choices_of, pool_of}
use Rattle.search_choices.proofs.choices.Choices.skip_met.Given as goal

abbrev pub invariant-met : goal.invariant-met
invariant-met l = record {
  consistent : IsConsistent l.self;
  pool : pool_of l.self ≡ pool_of l.initial.self;
  choices : choices_of l.self ≡ choices_of l.initial.self;
  matches : AreMatchesAmong (pool_of l.initial.self).candidates l.matches;
}

abbrev pub decreases-met : goal.decreases-met
decreases-met l = vec_len l.self.queue - l.self.cursor
