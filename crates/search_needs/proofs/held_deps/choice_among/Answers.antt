use Rattle.std.proofs.Common.{◌≡◌, ◌∙◌, ◌≤◌, ◌++◌, ◌∷◌, [], ℕ, List, false, take, length, sym, subst, ap, arith}
use Rattle.std.proofs.lemmas.List.{take_more, take_all}
use Rattle.dep_core.specs.Meets.{dependency}
use Rattle.search_tables.specs.candidate_core.Candidates.{entry}
use Rattle.search_tables.specs.candidate_core.Options.{IsIn}
use Rattle.search_tables.specs.candidate_core.Rank.{meets_at}
use Rattle.search_tables.proofs.ListLoops.{in_more}
use Rattle.search_needs.proofs.held_deps.choice_among.Goals as goal

pub loop-id-init : goal.loop-id-init
loop-id-init c = record {
  none = λ k h. absurd h;
  matches = c.requires.matches;
}

pub returns-then-is_met-clause-found : goal.returns-then-is_met-clause-found
returns-then-is_met-clause-found c = rw c.if-is_met.true at c.in_ok-is_met.ensures.met

pub loop-id-preserved : goal.loop-id-preserved
loop-id-preserved c =
    let items : List ℕ = c.args.ids.now in
    let one = take_more items c.loop-id.id-index c.id-item.result (omega arith) ∙ ap (λ (k : ℕ). take c.loop-id.id-index items ++ k ∷ []) (sym c.id-item.is) in
    record {
      none = λ k h. in_more (λ j. IsIn j c.args.choices.now → meets_at c.args.pool.now j (entry (dependency c.args.held.now.dep.now)) ≡ false) (take c.loop-id.id-index items) c.id-item.result (λ j g. c.loop-id.invariant.none j g) (rw c.if-is_met.false at c.in_ok-is_met.ensures.met) k (subst (λ (z : List ℕ). IsIn k z) one h);
      matches = c.in_ok-is_met.ensures.matches;
    }

pub returns-clause-found : goal.returns-clause-found
returns-clause-found c =
    let items : List ℕ = c.args.ids.now in
    let past : length items ≤ c.loop-id.id-index = omega arith in
    λ k h. c.loop-id.invariant.none k (subst (λ (z : List ℕ). IsIn k z) (sym (take_all c.loop-id.id-index items past)) h)
