use Rattle.std.proofs.Common.{◌<◌, ◌∙◌, ℕ, Bool, List, length, ap, sym, subst, arith, below_more}
use Rattle.std.specs.Prelude.{MatchBool, ◌==◌}
use Rattle.dep_core.specs.Dependency.{Dependency}
use Rattle.dep_core.specs.Meets.{dependency}
use Rattle.unmet_world.specs.Refutation.{IsUnmet, want_of_world_entry}
use Rattle.unmet_world.proofs.FirstUnmet.{conflict_unwanted, entry_wanted, past, told_by_options}
use Rattle.unmet_world.proofs.unmet.first_unmet.Goals as goal

pub returns-then-is_empty : goal.returns-then-is_empty
returns-then-is_empty c =
    let d : Dependency = dependency c.entry-dep.result in record {
      unmet = subst (λ (b : Bool). MatchBool b (IsUnmet c.args.pool.now (want_of_world_entry c.loop-index.index)) (IsUnmet c.args.pool.now (want_of_world_entry c.loop-index.index) → ⊥))
          (ap (λ (z : List ℕ). length z == 0) (sym c.in_ok-options.ensures) ∙ (sym c.is_empty.ensures ∙ c.if-is_empty.true))
          (told_by_options c.args.pool.now (want_of_world_entry c.loop-index.index) d (entry_wanted c.args.pool.now c.args.world.now c.loop-index.index d c.requires c.entry-dep.ensures c.if-dep.false));
      first = c.loop-index.invariant;
    }

pub loop-index-preserved-then-dep : goal.loop-index-preserved-then-dep
loop-index-preserved-then-dep c =
    below_more (λ (k : ℕ). IsUnmet c.args.pool.now (want_of_world_entry k) → ⊥) c.loop-index.index c.loop-index.invariant
    (conflict_unwanted c.args.pool.now c.args.world.now c.loop-index.index (dependency c.entry-dep.result) c.requires c.entry-dep.ensures c.if-dep.true)

pub loop-index-preserved : goal.loop-index-preserved
loop-index-preserved c =
    let d : Dependency = dependency c.entry-dep.result in
    below_more (λ (k : ℕ). IsUnmet c.args.pool.now (want_of_world_entry k) → ⊥) c.loop-index.index c.loop-index.invariant
    (subst (λ (b : Bool). MatchBool b (IsUnmet c.args.pool.now (want_of_world_entry c.loop-index.index)) (IsUnmet c.args.pool.now (want_of_world_entry c.loop-index.index) → ⊥))
    (ap (λ (z : List ℕ). length z == 0) (sym c.in_ok-options.ensures) ∙ (sym c.is_empty.ensures ∙ c.if-is_empty.false))
    (told_by_options c.args.pool.now (want_of_world_entry c.loop-index.index) d (entry_wanted c.args.pool.now c.args.world.now c.loop-index.index d c.requires c.entry-dep.ensures c.if-dep.false)))

pub returns : goal.returns
returns c = λ index unmet.
    let there : index < length c.args.pool.now.world = past c.args.pool.now index unmet in
    let seen : index < length c.args.world.now = subst (λ (z : List Dependency). index < length z) (sym c.requires) there in
    c.loop-index.invariant index (omega (arith, c.len-index-end.ensures.value, c.loop-index-test.false)) unmet
