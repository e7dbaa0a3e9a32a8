use Rattle.std.proofs.Common.{ap, refl}
use Rattle.unmet_world.specs.Refutation.{want_of_world_entry}
use Rattle.unmet_world.proofs.FirstUnmet.{alone, found_first, not_found, one_first}
use Rattle.unmet_world.proofs.unmet.why_unmet.Goals as goal

pub returns-in-Some-clause-proof : goal.returns-in-Some-clause-proof
returns-in-Some-clause-proof c =
    alone c.args.pool.now _ c.in-Some.index c.new.ensures.items refl (found_first c.args.pool.now _ c.in-Some.index c.in-Some.is c.in_ok-index.ensures)

pub returns-in-Some-clause-named : goal.returns-in-Some-clause-named
returns-in-Some-clause-named c = λ index first.
    (c.new.ensures.items, ap want_of_world_entry (one_first c.args.pool.now c.in-Some.index index (found_first c.args.pool.now _ c.in-Some.index c.in-Some.is c.in_ok-index.ensures) first))

pub returns-clause-named : goal.returns-clause-named
returns-clause-named c = λ index first. absurd (not_found c.args.pool.now _ c.in_default.is c.in_ok-index.ensures index first.unmet)

pub returns-in_default-2-clause-named : goal.returns-in_default-2-clause-named
returns-in_default-2-clause-named c = λ index first. absurd (not_found c.args.pool.now _ c.in_default.is c.in_ok-index.ensures index first.unmet)

pub returns-then-branch-clause-named : goal.returns-then-branch-clause-named
returns-then-branch-clause-named c = λ index first. absurd (not_found c.args.pool.now _ c.in_default.is c.in_ok-index.ensures index first.unmet)
