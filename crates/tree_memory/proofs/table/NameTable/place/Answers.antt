use Rattle.std.proofs.Common.{List, IfOk, IfErr, sym, subst, rules}
use Rattle.std.specs.Ordering.{nat_cmp}
use Rattle.std.specs.Cmp.Lexicographic.{slice_cmp}
use Rattle.std.proofs.lemmas.Fn.{always_returns_same}
use Rattle.tree_memory.specs.Table.{IsSortedNameTable, IsNameAtPlace, IsInsertionPlace}
use Rattle.tree_memory.specs.declared.table.NameAndFile.{NameAndFile}
use Rattle.tree_memory.proofs.Placed.{named_from, place_from}
use Rattle.tree_memory.proofs.table.NameTable.place.Goals as goal

pub returns-clause-found : goal.returns-clause-found
returns-clause-found c =
    let found = c.binary_search_by.ensures.position (λ (e : NameAndFile). slice_cmp nat_cmp e.name c.args.name.now) (always_returns_same _ _ _ (λ a r f k. search rules)) in
    subst (λ (l : List NameAndFile). IfOk c.binary_search_by.result (λ i. IsNameAtPlace l i c.args.name.now)) c.deref.ensures.value
    (named_from c.deref.result.now c.args.name.now c.binary_search_by.result c.binary_search_by.ensures.bound found)

pub returns-clause-absent : goal.returns-clause-absent
returns-clause-absent c =
    let found = c.binary_search_by.ensures.position (λ (e : NameAndFile). slice_cmp nat_cmp e.name c.args.name.now) (always_returns_same _ _ _ (λ a r f k. search rules)) in
    let table = subst IsSortedNameTable (sym c.deref.ensures.value) c.args.self.now.rising in
    subst (λ (l : List NameAndFile). IfErr c.binary_search_by.result (λ i. IsInsertionPlace l i c.args.name.now)) c.deref.ensures.value
    (place_from c.deref.result.now c.args.name.now c.binary_search_by.result table c.binary_search_by.ensures.bound found)
