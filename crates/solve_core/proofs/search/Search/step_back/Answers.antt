use Rattle.std.proofs.Common.{◌≡◌, ◌<◌, ◌^◌, ◌∙◌, ◌∷◌, ◌++◌, [], ℕ, List, length, subst, sym, ap, refl, arith, append_assoc, append-nil}
use Rattle.std.specs.Prelude.{not, filter, ◌==◌}
use Rattle.search_choices.specs.candidate_core.Options.{IsIn}
use Rattle.search_choices.specs.candidate_core.PackageMatches.{AreMatchesAmong}
use Rattle.search_choices.specs.candidate_core.Rank.{SelectionProblem}
use Rattle.search_choices.specs.Choices.{IsSearch, choices_of, pool_of}
use Rattle.search_choices.specs.search_tables.Reasons.{FrameValue, IsReason, IsFrameOf}
use Rattle.search_choices.proofs.search_tables.Places.{empty_list}
use Rattle.solve_core.proofs.Steps.{searching_less, jumped, hit_reason, dead_empty, no_choices}
use Rattle.search_choices.proofs.search_tables.Turns.{passed_over}
use Rattle.solve_core.specs.Measure.{search_measure}
use Rattle.solve_core.proofs.Weights.{back_lighter, few_turns}
use Rattle.solve_core.proofs.search.Search.step_back.Goals as goal

pub loop-turn-init : goal.loop-turn-init
loop-turn-init c = record {
  pool = refl;
  underway = c.requires.underway;
  front = ([], sym (append-nil c.args.self.now.turns.items));
  dead = c.requires.dead;
}

pub loop-turn-preserved : goal.loop-turn-preserved
loop-turn-preserved c =
    let items = c.in-Some.ensures.items in
    let turn : FrameValue × ℕ = c.in-Some.turn in
    let same = sym c.pop-in-Some.ensures.pool in
    let less = searching_less c.loop-turn.self.chosen c.pop-in-Some.new.self c.pop.new.self.items turn.0 turn.1 (subst (λ (z : List (FrameValue × ℕ)). IsSearch c.loop-turn.self.chosen z) items c.loop-turn.invariant.underway.chosen) c.pop-in-Some.ensures.consistent c.pop-in-Some.ensures.pool c.pop-in-Some.ensures.choices in
    let out = rw c.if-has.false at c.has.ensures in
    record {
      pool = c.pop-in-Some.ensures.pool ∙ c.loop-turn.invariant.pool;
      underway = record {
        chosen = less.0;
        matches = subst (λ (p : SelectionProblem). AreMatchesAmong p.candidates c.loop-turn.self.matches) same c.loop-turn.invariant.underway.matches;
        known = c.loop-turn.invariant.underway.known ∙ same;
      };
      front = (turn ∷ c.loop-turn.invariant.front.0, c.loop-turn.invariant.front.1 ∙ (ap (λ (z : List (FrameValue × ℕ)). z ++ c.loop-turn.invariant.front.0) items ∙ append_assoc c.pop.new.self.items (turn ∷ []) c.loop-turn.invariant.front.0));
      dead = record {
        within = jumped c.loop-turn.self.reason (choices_of c.pop-in-Some.new.self) (choices_of c.loop-turn.self.chosen) turn.1 c.loop-turn.invariant.dead.within less.2 (λ h. out (subst (λ (z : ℕ). IsIn z c.loop-turn.self.reason) (sym c.choice.ensures) h));
        dead = subst (λ (p : SelectionProblem). IsReason p c.loop-turn.self.reason) same c.loop-turn.invariant.dead.dead;
      };
    }

pub returns-then-has-clause-found : goal.returns-then-has-clause-found
returns-then-has-clause-found c =
    let turn : FrameValue × ℕ = c.in-Some.turn in
    let pool = pool_of c.pop-in-Some.new.self in
    let rest = choices_of c.pop-in-Some.new.self in
    let same = sym c.pop-in-Some.ensures.pool in
    let less = searching_less c.loop-turn.self.chosen c.pop-in-Some.new.self c.pop.new.self.items turn.0 turn.1 (subst (λ (z : List (FrameValue × ℕ)). IsSearch c.loop-turn.self.chosen z) c.in-Some.ensures.items c.loop-turn.invariant.underway.chosen) c.pop-in-Some.ensures.consistent c.pop-in-Some.ensures.pool c.pop-in-Some.ensures.choices in
    let dead : IsReason pool c.loop-turn.self.reason = subst (λ (p : SelectionProblem). IsReason p c.loop-turn.self.reason) same c.loop-turn.invariant.dead.dead in
    let others : List ℕ = filter (λ id. not (id == turn.1)) c.loop-turn.self.reason in
    let reason = hit_reason pool c.loop-turn.self.reason rest (choices_of c.loop-turn.self.chosen) others turn.1 c.loop-turn.invariant.dead.within less.2 dead refl in (
      record {
        chosen = less.0;
        matches = subst (λ (p : SelectionProblem). AreMatchesAmong p.candidates c.loop-turn.self.matches) same c.loop-turn.invariant.underway.matches;
        known = c.take_back.ensures ∙ (c.loop-turn.invariant.underway.known ∙ same);
      },
      subst (λ (z : FrameValue). IsFrameOf pool rest z) (sym c.in_ok-frame.ensures) (passed_over pool rest turn.0 turn.1 others less.1 reason),
    )

pub returns-then-has-clause-lighter : goal.returns-then-has-clause-lighter
returns-then-has-clause-lighter c = λ spent.
    let turn : FrameValue × ℕ = c.in-Some.turn in
    let rest = c.loop-turn.invariant.front.0 in
    let all : c.args.self.now.turns.items ≡ c.pop.new.self.items ++ turn ∷ rest =
    c.loop-turn.invariant.front.1 ∙ (ap (λ (z : List (FrameValue × ℕ)). z ++ rest) c.in-Some.ensures.items ∙ append_assoc c.pop.new.self.items (turn ∷ []) rest) in
    let same = ap (λ (z : FrameValue). z.1) c.in_ok-frame.ensures in
    let few : length c.pop.new.self.items < 2 ^ 63 = omega (arith, c.pop.new.self.small, c.pop.new.self.ok) in
    subst (λ (z : List (FrameValue × ℕ)). search_measure c.pop.new.self.items c.in_ok-frame.frame < search_measure z spent) (sym all)
    (back_lighter c.pop.new.self.items rest turn.0 c.in_ok-frame.frame spent turn.1 (few_turns (length c.pop.new.self.items) few) same)

pub returns-clause-found : goal.returns-clause-found
returns-clause-found c =
    subst (λ (p : SelectionProblem). IsReason p []) c.loop-turn.invariant.pool
    (dead_empty (pool_of c.loop-turn.self.chosen) c.loop-turn.self.reason (choices_of c.loop-turn.self.chosen) c.loop-turn.invariant.dead.within
    (c.loop-turn.invariant.underway.chosen.choices ∙ no_choices c.loop-turn.self.turns.items (empty_list c.loop-turn.self.turns.items (omega (arith, c.in_default.ensures.cases.0, c.loop-turn.self.turns.ok)))) c.loop-turn.invariant.dead.dead)

pub returns-in_err-frame-clause-pool : goal.returns-in_err-frame-clause-pool
returns-in_err-frame-clause-pool c = c.pop-in-Some.ensures.pool ∙ c.loop-turn.invariant.pool

pub returns-then-has-clause-pool : goal.returns-then-has-clause-pool
returns-then-has-clause-pool c = c.pop-in-Some.ensures.pool ∙ c.loop-turn.invariant.pool

pub returns-clause-pool : goal.returns-clause-pool
returns-clause-pool c = c.loop-turn.invariant.pool
