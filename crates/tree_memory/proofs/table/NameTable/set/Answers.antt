use Rattle.std.proofs.Common.{◌≡◌, Bool, true, false, cond, List, ℕ, is_ok, sym, ap, subst, ◌∙◌}
use Rattle.base_core.specs.Files.{put_name}
use Rattle.tree_memory.specs.Table.{IsSortedNameTable, IsNameAtPlace, IsInsertionPlace, lookup}
use Rattle.tree_memory.specs.declared.table.NameAndFile.{NameAndFile}
use Rattle.tree_memory.proofs.Placed.{lookup-set, lookup-insert, table-insert}
use Rattle.tree_memory.proofs.table.NameTable.set.Goals as goal

either_table : (b : Bool) (xs ys : List NameAndFile) → IsSortedNameTable xs → IsSortedNameTable ys → IsSortedNameTable (cond b xs ys)
either_table true xs ys one other = one
either_table false xs ys one other = other

pub invariant_of-self-in-Err : goal.invariant_of-self-in-Err
invariant_of-self-in-Err c =
    let e : NameAndFile = record { name = c.args.name; file = c.args.file } in
    let place = subst (IsInsertionPlace c.args.self.now.entries.items c.in-Err.i) c.as_bytes.ensures.value c.in-Err.ensures.absent in
    let table = table-insert c.args.self.now.entries.items c.in-Err.i e c.args.self.now.rising place in
    record { rising = subst IsSortedNameTable (sym c.insert.ensures.items) (either_table (is_ok c.insert.result) _ _ table c.args.self.now.rising) }

pub returns-in-Ok-clause-ok : goal.returns-in-Ok-clause-ok
returns-in-Ok-clause-ok c q =
    let named : IsNameAtPlace c.args.self.now.entries.items c.in-Ok.i c.as_bytes.result.now = c.in-Ok.ensures.found in
    let located : c.index_mut.result.now.name ≡ c.as_bytes.result.now = ap (λ (e : NameAndFile). e.name) c.index_mut.ensures.value ∙ named.here c.index_mut.result.now in
    let e : NameAndFile = record { name = c.index_mut.result.now.name; file = c.args.file } in
    lookup-set c.args.self.now.entries.items c.in-Ok.i e e c.args.self.now.rising (subst (IsNameAtPlace c.args.self.now.entries.items c.in-Ok.i) (sym located) named) q
    ∙ ap (λ (n : List ℕ). put_name (lookup c.args.self.now.entries.items) n c.args.file q) (located ∙ c.as_bytes.ensures.value)

pub returns-in_ok-insert-in-Err-clause-ok : goal.returns-in_ok-insert-in-Err-clause-ok
returns-in_ok-insert-in-Err-clause-ok c q =
    let e : NameAndFile = record { name = c.args.name; file = c.args.file } in
    let place = subst (IsInsertionPlace c.args.self.now.entries.items c.in-Err.i) c.as_bytes.ensures.value c.in-Err.ensures.absent in
    ap (λ (l : List NameAndFile). lookup l q) c.in_ok-insert-in-Err.ensures.items ∙ lookup-insert c.args.self.now.entries.items c.in-Err.i e place q
