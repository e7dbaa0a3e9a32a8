use Rattle.std.proofs.Common.{◌≡◌, ◌≤◌, List, false, length, sym, subst, arith}
use Rattle.std.specs.Prelude.{is_some}
use Rattle.dep_core.specs.Dependency.{Dependency}
use Rattle.dep_core.specs.Meets.{dependency}
use Rattle.search_needs.specs.candidate_core.Options.{IsIn}
use Rattle.search_choices.specs.Choices.{choices_of, pool_of}
use Rattle.search_needs.specs.search_tables.Excluders.{IsNotExcludedAt}
use Rattle.search_needs.proofs.search_tables.Places.{there_is}
use Rattle.search_needs.proofs.search_tables.ListLoops.{each_all, each_on}
use Rattle.search_choices.proofs.choices.Choices.excluder_by_provides.Goals as goal

pub loop-i-init : goal.loop-i-init
loop-i-init c = record {
  free = λ p h. absurd h;
  matches = c.requires.matches;
}

pub excluder_of_entry-requires-clause-provided : goal.excluder_of_entry-requires-clause-provided
excluder_of_entry-requires-clause-provided c =
    subst (λ (z : List Dependency). IsIn (dependency c.get.result) z) c.provides-provides.ensures (there_is c.provides-provides.result c.loop-i.i (dependency c.get.result) c.get.ensures).1

pub loop-i-preserved : goal.loop-i-preserved
loop-i-preserved c =
    let P : Dependency → Type 0 = λ p. p.conflict ≡ false → IsNotExcludedAt (pool_of c.args.self.now) (choices_of c.args.self.now) c.args.details.now p.name (is_some p.version) in
    let one : P (dependency c.get.result) = rw c.in-None.is at c.in_ok-found.ensures.found in
    record {
      free = each_on P c.provides-provides.result c.loop-i.i (dependency c.get.result) c.get.ensures c.loop-i.invariant.free one;
      matches = c.in_ok-found.ensures.matches;
    }

pub returns-in-Some : goal.returns-in-Some
returns-in-Some c = record {
  found = rw c.in-Some.is at c.in_ok-found.ensures.found;
  matches = c.in_ok-found.ensures.matches;
}

pub returns : goal.returns
returns c =
    let P : Dependency → Type 0 = λ p. p.conflict ≡ false → IsNotExcludedAt (pool_of c.args.self.now) (choices_of c.args.self.now) c.args.details.now p.name (is_some p.version) in
    let deps : List Dependency = c.provides-provides.result in
    let past : length deps ≤ c.loop-i.i = omega arith in
    record {
      found = λ p h. each_all P deps c.loop-i.i past c.loop-i.invariant.free p (subst (λ (z : List Dependency). IsIn p z) (sym c.provides-provides.ensures) h);
      matches = c.loop-i.invariant.matches;
    }
