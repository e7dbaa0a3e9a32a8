use Rattle.std.proofs.Common.{◌≡◌, ℕ, List, length, refl, sym, subst, ap, arith}
use Rattle.std.specs.Prelude.{slice_get}
use Rattle.std.specs.List.{find}
use Rattle.search_needs.specs.candidate_core.PackageMatches.{AreMatchesAmong}
use Rattle.search_needs.specs.candidate_core.Rank.{SelectionProblem}
use Rattle.search_choices.specs.Choices.{choices_of, pool_of}
use Rattle.search_needs.specs.search_tables.Queue.{is_unmet_dep, queue_of}
use Rattle.search_choices.proofs.Consistency.{consistent_on}
use Rattle.search_choices.proofs.choices.Choices.skip_met.Goals as goal

pub is_front_met-requires-clause-matches : goal.is_front_met-requires-clause-matches
is_front_met-requires-clause-matches c = subst (λ (p : SelectionProblem). AreMatchesAmong p.candidates c.met.matches) (sym c.met.invariant.pool) c.met.invariant.matches

pub met-preserved : goal.met-preserved
met-preserved c = record {
  consistent = consistent_on c.met.self _ c.met.invariant.consistent (record { pool = refl; choices = refl; install_ifs = refl }) refl refl refl (rw c.if-branch.true at c.in_ok-is_front_met.ensures.met) c.met.invariant.consistent.unasked;
  pool = c.met.invariant.pool;
  choices = c.met.invariant.choices;
  matches = subst (λ (p : SelectionProblem). AreMatchesAmong p.candidates c.is_front_met.new.matches) c.met.invariant.pool c.in_ok-is_front_met.ensures.matches;
}

pub returns-clause-front : goal.returns-clause-front
returns-clause-front c =
    let at = rw c.if-branch.false at c.in_ok-is_front_met.ensures.met in
    subst (λ (p : SelectionProblem). slice_get c.met.self.queue.items c.met.self.cursor ≡ find (is_unmet_dep p (choices_of c.args.self.now)) (queue_of p (choices_of c.args.self.now))) c.met.invariant.pool
    (subst (λ (t : List ℕ). slice_get c.met.self.queue.items c.met.self.cursor ≡ find (is_unmet_dep (pool_of c.met.self) t) (queue_of (pool_of c.met.self) t)) c.met.invariant.choices at)

pub returns-clause-matches : goal.returns-clause-matches
returns-clause-matches c = subst (λ (p : SelectionProblem). AreMatchesAmong p.candidates c.is_front_met.new.matches) c.met.invariant.pool c.in_ok-is_front_met.ensures.matches

pub met-smaller : goal.met-smaller
met-smaller c =
    let past = rw c.if-branch.true at c.in_ok-is_front_met.ensures.met in
    omega (arith, past.0, ap length c.met.invariant.consistent.queue, c.met.self.queue.ok)
