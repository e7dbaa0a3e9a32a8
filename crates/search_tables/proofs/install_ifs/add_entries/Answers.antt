use Rattle.std.proofs.Common.{◌≤◌, ℕ, List, length, arith}
use Rattle.dep_core.specs.Dependency.{Dependency}
use Rattle.dep_core.specs.Meets.{dependency}
use Rattle.pool_core.specs.candidate_core.Options.{AreAllMembersOf, IsIn}
use Rattle.search_tables.specs.NameTable.{items_under_name}
use Rattle.search_tables.proofs.NameTables.{item_there, items_kept, members_on}
use Rattle.search_tables.proofs.ListLoops.{each_all, each_on}
use Rattle.search_tables.proofs.install_ifs.add_entries.Goals as goal

pub loop-i-init : goal.loop-i-init
loop-i-init c = record {
  more = λ name k h. h;
  each = λ d h. absurd h;
}

pub loop-i-preserved : goal.loop-i-preserved
loop-i-preserved c =
    let old : List (List ℕ × List ℕ) = c.loop-i.waiting in
    let new : List (List ℕ × List ℕ) = c.add.new.self in
    let kept : (name : List ℕ) → AreAllMembersOf (items_under_name old name) (items_under_name new name) = items_kept old new c.get.result.name.now c.args.rank c.in_ok-add.ensures in
    let P : Dependency → Type 0 = λ d. IsIn c.args.rank (items_under_name new d.name) in
    record {
      more = members_on c.args.waiting.now old new c.loop-i.invariant.more kept;
      each = each_on P c.args.deps.now c.loop-i.i (dependency c.get.result) c.get.ensures
          (λ d h. kept d.name c.args.rank (c.loop-i.invariant.each d h)) (item_there old new c.get.result.name.now c.args.rank c.in_ok-add.ensures);
    }

pub returns-clause-more : goal.returns-clause-more
returns-clause-more c = c.loop-i.invariant.more

pub returns-clause-each : goal.returns-clause-each
returns-clause-each c =
    let deps : List Dependency = c.args.deps.now in
    let past : length deps ≤ c.loop-i.i = omega arith in
    each_all (λ d. IsIn c.args.rank (items_under_name c.loop-i.waiting d.name)) deps c.loop-i.i past c.loop-i.invariant.each
