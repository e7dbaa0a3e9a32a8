use Rattle.std.proofs.Common.{◌∙◌, Bool, sym, refl}
use Rattle.std.specs.Prelude.{not, ◌&&◌}
use Rattle.dep_core.specs.Dependency.{Dependency}
use Rattle.dep_core.specs.Meets.{dependency}
use Rattle.candidate_core.specs.Candidates.{Candidate, meets_dependency}
use Rattle.candidate_core.proofs.LoopTests.{any_at, none_next}
use Rattle.candidate_core.proofs.candidate.any_met_by.Goals as goal
use Rattle.candidate_core.proofs.candidate.any_met_by.Goals.{else-not-dep-via-then-not-dep+else-meets, else-not-dep-via-else-not-dep}

abbrev is_needed : Candidate → Dependency → Bool
is_needed candidate d = not d.conflict && meets_dependency d candidate

pub returns-then-meets : goal.returns-then-meets
returns-then-meets c = sym (any_at (is_needed c.args.candidate.now) c.args.deps.now c.loop-i.i (dependency c.get-dep.result) c.get-dep.ensures (rw (c.if-not-dep.true, sym c.meets.ensures ∙ c.if-meets.true) refl))

pub loop-i-preserved : goal.loop-i-preserved
loop-i-preserved c = none_next (is_needed c.args.candidate.now) c.args.deps.now c.loop-i.i (dependency c.get-dep.result) c.loop-i.invariant c.get-dep.ensures
    (elim c.else-not-dep.branch [
      | else-not-dep-via-then-not-dep+else-meets w ↦ rw (w.if-not-dep.true, sym w.meets.ensures ∙ w.if-meets.false) refl
      | else-not-dep-via-else-not-dep w ↦ rw w.if-not-dep.false refl
    ])
