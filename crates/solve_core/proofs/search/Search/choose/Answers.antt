use Rattle.std.proofs.Common.{◌∙◌, ◌++◌, subst, sym, List, ℕ, [], ◌∷◌, inl, refl}
use Rattle.search_choices.specs.candidate_core.Candidates.{is_eligible}
use Rattle.search_choices.specs.candidate_core.PackageMatches.{AreMatchesAmong}
use Rattle.search_choices.specs.candidate_core.Rank.{SelectionProblem}
use Rattle.search_choices.specs.Choices.{choices_of, pool_of}
use Rattle.search_choices.proofs.search_tables.Theory.{in_right}
use Rattle.search_choices.proofs.search_tables.Marks.{distinct_front}
use Rattle.search_choices.proofs.Consistency.{passing_is_within}
use Rattle.solve_core.proofs.Steps.{searching_more}
use Rattle.search_choices.specs.Choices.{IsSearch}
use Rattle.search_choices.specs.search_tables.Reasons.{FrameValue}
use Rattle.solve_core.proofs.search.Search.choose.Goals as goal

pub returns-clause-underway : goal.returns-clause-underway
returns-clause-underway c = record {
  chosen = subst (λ (z : List (FrameValue × ℕ)). IsSearch c.push.new.self z) (sym c.in_ok-push-2.ensures.items)
      (subst (λ (z : FrameValue × ℕ). IsSearch c.push.new.self (c.args.self.now.turns.items ++ z ∷ [])) (sym c.new.ensures)
      (searching_more c.args.self.now.chosen c.push.new.self c.args.self.now.turns.items c.args.frame c.args.choice
      c.requires.underway.chosen c.requires.choice.taken c.requires.choice.clean c.in_ok-push.ensures.consistent c.push.ensures.pool c.in_ok-push.ensures.choices));
  matches = subst (λ (p : SelectionProblem). AreMatchesAmong p.candidates c.args.self.now.matches) (sym c.push.ensures.pool) c.requires.underway.matches;
  known = c.requires.underway.known ∙ sym c.push.ensures.pool;
}

pub push-requires-clause-within : goal.push-requires-clause-within
push-requires-clause-within c =
    let pool = pool_of c.args.self.now.chosen in
    passing_is_within pool (is_eligible pool.world) c.args.choice (c.requires.choice.clean.1 c.args.choice (in_right c.args.choice (choices_of c.args.self.now.chosen) (c.args.choice ∷ []) (inl refl)))

pub push-requires-clause-once : goal.push-requires-clause-once
push-requires-clause-once c = (distinct_front (choices_of c.args.self.now.chosen) c.args.choice c.requires.choice.clean.0).1
