use Rattle.std.proofs.Common.{◌≡◌, sym, subst}
use Rattle.std.proofs.lemmas.Result.{IfOk-weaker}
use Rattle.base_core.specs.Listed.{IsSortedListOfAllNamesInMap}
use Rattle.tree_memory.specs.Stores.{store_state}
use Rattle.tree_memory.specs.Table.{names_of}
use Rattle.tree_memory.proofs.Keeping.{names_listed}
use Rattle.tree_memory.proofs.store.Store.names.Goals as goal

pub returns : goal.returns
returns c =
    let map = (store_state c.args.self.now).names in
    let entries = c.args.self.now.names.entries.items in
    IfOk-weaker c.list.result (λ names. names ≡ names_of entries) (IsSortedListOfAllNamesInMap map) (λ names is. subst (IsSortedListOfAllNamesInMap map) (sym is) (names_listed map entries c.args.self.now.in_step.kept.names c.args.self.now.names.rising)) c.list.ensures
