use Rattle.std.proofs.Common.{ℕ, List, sym, subst}
use Rattle.search_needs.specs.candidate_core.Rank.{SelectionProblem}
use Rattle.search_choices.specs.Choices.{choices_of, pool_of}
use Rattle.search_needs.specs.search_tables.Reasons.{IsFrameOf}
use Rattle.search_choices.proofs.Asking.{none_asked}
use Rattle.search_choices.proofs.choices.Choices.frame_asked.Goals as goal

pub returns-in-None-clause-frame : goal.returns-in-None-clause-frame
returns-in-None-clause-frame c = none_asked (pool_of c.args.self.now) (choices_of c.args.self.now) c.requires.met (rw (sym c.in-None.ensures) at c.skip_unasked.ensures.first)

pub returns-in_ok-frame-in-Some-clause-frame : goal.returns-in_ok-frame-in-Some-clause-frame
returns-in_ok-frame-in-Some-clause-frame c =
    subst (λ (p : SelectionProblem). IsFrameOf p (choices_of c.args.self.now) c.in_ok-frame-in-Some.frame) c.skip_unasked.ensures.pool
    (subst (λ (z : List ℕ). IsFrameOf (pool_of c.skip_unasked.new.self) z c.in_ok-frame-in-Some.frame) c.skip_unasked.ensures.choices c.in_ok-frame-in-Some.ensures.frame)
