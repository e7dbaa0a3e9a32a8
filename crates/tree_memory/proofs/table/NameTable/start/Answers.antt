use Rattle.std.proofs.Common.{List, ◌++◌, ◌∷◌, [], sym, subst, rules}
use Rattle.std.specs.Ordering.{nat_cmp, is_lt}
use Rattle.std.specs.Cmp.Lexicographic.{slice_cmp}
use Rattle.std.proofs.lemmas.List.Sorted.{IsPartitionPoint-from_clause}
use Rattle.tree_memory.specs.Table.{IsSortedNameTable, IsStartOfFolder}
use Rattle.tree_memory.specs.declared.table.NameAndFile.{NameAndFile}
use Rattle.tree_memory.proofs.Folders.{parted, start_from}
use Rattle.tree_memory.proofs.table.NameTable.start.Goals as goal

pub returns : goal.returns
returns c =
    let table = subst IsSortedNameTable (sym c.deref.ensures.value) c.args.self.now.rising in
    let point =
    IsPartitionPoint-from_clause (λ (e : NameAndFile). is_lt (slice_cmp nat_cmp e.name (c.args.folder.now ++ 47 ∷ []))) _ _ c.partition_point.ensures.partitioned (parted c.deref.result.now c.args.folder.now table)
    (λ a r f k. search rules)
    in subst (λ (l : List NameAndFile). IsStartOfFolder l c.partition_point.result c.args.folder.now) c.deref.ensures.value (start_from c.deref.result.now c.partition_point.result c.args.folder.now c.partition_point.ensures.bound point)
