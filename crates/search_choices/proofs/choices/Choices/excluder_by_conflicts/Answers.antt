use Rattle.std.proofs.Common.{◌≡◌, ◌≤◌, List, true, false, length, sym, subst, arith}
use Rattle.std.specs.Prelude.{Some, slice_get}
use Rattle.dep_core.specs.Dependency.{Dependency}
use Rattle.dep_core.specs.Meets.{dependency}
use Rattle.search_needs.specs.candidate_core.Candidates.{entry}
use Rattle.search_needs.specs.candidate_core.Options.{IsIn}
use Rattle.search_choices.specs.Choices.{choices_of, pool_of}
use Rattle.search_needs.specs.search_tables.Selection.{is_met}
use Rattle.search_needs.proofs.search_tables.ListLoops.{each_all, each_on}
use Rattle.search_choices.proofs.choices.Choices.excluder_by_conflicts.Goals as goal

pub loop-i-init : goal.loop-i-init
loop-i-init c = record {
  unmet = λ d h. absurd h;
  matches = c.requires.matches;
}

pub excluder_meeting_one-requires-clause-depends : goal.excluder_meeting_one-requires-clause-depends
excluder_meeting_one-requires-clause-depends c =
    subst (λ (z : List Dependency). slice_get z c.loop-i.i ≡ Some (dependency c.get.result)) c.depends-depends.ensures c.get.ensures

pub loop-i-preserved : goal.loop-i-preserved
loop-i-preserved c =
    let P : Dependency → Type 0 = λ d. d.conflict ≡ true → is_met (pool_of c.args.self.now) (choices_of c.args.self.now) (entry d) ≡ false in
    let one : P (dependency c.get.result) = rw c.in-None.is at c.in_ok-found.ensures.found in
    record {
      unmet = each_on P c.depends-depends.result c.loop-i.i (dependency c.get.result) c.get.ensures c.loop-i.invariant.unmet one;
      matches = c.in_ok-found.ensures.matches;
    }

pub returns-in-Some : goal.returns-in-Some
returns-in-Some c = record {
  found = rw c.in-Some.is at c.in_ok-found.ensures.found;
  matches = c.in_ok-found.ensures.matches;
}

pub returns : goal.returns
returns c =
    let P : Dependency → Type 0 = λ d. d.conflict ≡ true → is_met (pool_of c.args.self.now) (choices_of c.args.self.now) (entry d) ≡ false in
    let deps : List Dependency = c.depends-depends.result in
    let past : length deps ≤ c.loop-i.i = omega arith in
    record {
      found = λ d h. each_all P deps c.loop-i.i past c.loop-i.invariant.unmet d (subst (λ (z : List Dependency). IsIn d z) (sym c.depends-depends.ensures) h);
      matches = c.loop-i.invariant.matches;
    }
