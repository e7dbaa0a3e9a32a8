use Rattle.std.proofs.Common.{◌≡◌, ◌≤◌, ◌++◌, List, length, subst, sym, arith, append-nil}
use Rattle.std.specs.Prelude.{Some, slice_get}
use Rattle.std.proofs.lemmas.List.{take_all}
use Rattle.dep_core.specs.Dependency.{Dependency}
use Rattle.dep_core.specs.Meets.{dependency}
use Rattle.search_tables.specs.Conflicts.{conflicts_in, conflicts_of_name_in}
use Rattle.search_tables.proofs.ConflictTables.{listed_on}
use Rattle.search_tables.proofs.conflicts.Conflicts.add.Goals as goal

pub loop-i-init : goal.loop-i-init
loop-i-init c = record {
  conflicts = λ name. sym (append-nil (conflicts_in c.args.self.now.by_name name));
  listed = λ candidates has right. right;
}

pub loop-i-preserved : goal.loop-i-preserved
loop-i-preserved c =
    let d : Dependency = dependency c.get.result in
    record {
      conflicts = λ name. listed_on name c.args.by c.args.depends.now c.loop-i.i d (conflicts_in c.args.self.now.by_name name) (conflicts_in c.loop-i.self.by_name name) (conflicts_in c.add_one.new.self.by_name name)
          c.get.ensures (c.loop-i.invariant.conflicts name) (c.in_ok-add_one.ensures.conflicts name);
      listed = λ candidates has right. c.in_ok-add_one.ensures.listed candidates
          (λ one at. subst (λ (ds : List Dependency). slice_get ds c.loop-i.i ≡ Some d) (sym (has one at)) c.get.ensures)
          (c.loop-i.invariant.listed candidates has right);
    }

pub returns-clause-conflicts : goal.returns-clause-conflicts
returns-clause-conflicts c =
    let deps : List Dependency = c.args.depends.now in
    let past : length deps ≤ c.loop-i.i = omega arith in
    λ name. subst (λ (z : List Dependency). conflicts_in c.loop-i.self.by_name name ≡ conflicts_in c.args.self.now.by_name name ++ conflicts_of_name_in name c.args.by z) (take_all c.loop-i.i deps past) (c.loop-i.invariant.conflicts name)

pub returns-clause-listed : goal.returns-clause-listed
returns-clause-listed c = c.loop-i.invariant.listed
