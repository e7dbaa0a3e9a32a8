use Rattle.std.proofs.Common.{◌≡◌, ◌≤◌, ◌+◌, ◌-◌, ◌++◌, ℕ, List, length, take, subst, sym, arith}
use Rattle.std.proofs.lemmas.List.{take_all}
use Rattle.dep_core.specs.Dependency.{Dependency}
use Rattle.dep_core.specs.Meets.{dependency}
use Rattle.search_tables.specs.Conflicts.{conflicts_in, conflicts_of_name_in}
use Rattle.search_tables.proofs.ConflictTables.{front_of_last, nothing_left}
use Rattle.search_tables.proofs.conflicts.Conflicts.pop_all.Goals as goal

pub loop-left-init : goal.loop-left-init
loop-left-init c =
    let deps : List Dependency = c.args.depends.now in
    let all : length deps ≤ c.len-left.result = omega arith in
    record {
      within = omega arith;
      front = λ by front was name. subst (λ (z : List Dependency). conflicts_in c.args.self.now.by_name name ≡ front name ++ conflicts_of_name_in name by z) (sym (take_all c.len-left.result deps all)) (was name);
      listed = λ candidates right. right;
    }

pub get-requires : goal.get-requires
get-requires c = omega (arith, c.loop-left.invariant.within)

pub loop-left-preserved : goal.loop-left-preserved
loop-left-preserved c =
    let deps : List Dependency = c.args.depends.now in
    let at : ℕ = c.loop-left.left - 1 in
    let up : c.loop-left.left ≡ at + 1 = omega arith in
    record {
      within = omega (arith, c.loop-left.invariant.within);
      front = λ by front was. c.take_one_away.ensures.conflicts by (λ name. front name ++ conflicts_of_name_in name by (take at deps))
          (λ name. front_of_last name by deps at (dependency c.get.result) (front name) (conflicts_in c.loop-left.self.by_name name) c.get.ensures
          (subst (λ (k : ℕ). conflicts_in c.loop-left.self.by_name name ≡ front name ++ conflicts_of_name_in name by (take k deps)) up (c.loop-left.invariant.front by front was name)));
      listed = λ candidates right. c.take_one_away.ensures.listed candidates (c.loop-left.invariant.listed candidates right);
    }

pub returns-clause-conflicts : goal.returns-clause-conflicts
returns-clause-conflicts c =
    let deps : List Dependency = c.args.depends.now in
    let none : c.loop-left.left ≡ 0 = omega arith in
    λ by front was name. nothing_left name by deps c.loop-left.left (front name) (conflicts_in c.loop-left.self.by_name name) none (c.loop-left.invariant.front by front was name)
