use Rattle.std.proofs.Common.{IsSome, ℕ, List, sym, subst}
use Rattle.std.proofs.lemmas.Result.{IfOk-weaker}
use Rattle.base_core.specs.Listed.{IsSortedListingOfFolder}
use Rattle.tree_memory.specs.Stores.{store_state}
use Rattle.tree_memory.specs.Table.{AreTableNamesBelow}
use Rattle.tree_memory.proofs.store.Store.list.Goals as goal

pub returns : goal.returns
returns c =
    let v = store_state c.args.self.now in
    let es = c.args.self.now.names.entries.items in
    let kept = c.args.self.now.in_step.kept.names in
    IfOk-weaker c.list_below.result (AreTableNamesBelow es c.as_bytes.result.now) (IsSortedListingOfFolder c.args.folder.now v)
    (λ names is. let below = subst (λ (folder : List ℕ). AreTableNamesBelow es folder names) c.as_bytes.ensures.value is in record {
      rising = below.rising;
      each = λ q. (λ has. let at = (below.each q).0 has in (subst IsSome (sym (kept q)) at.0, at.1), λ (some, under). (below.each q).1 (subst IsSome (kept q) some, under));
    })
    c.list_below.ensures
