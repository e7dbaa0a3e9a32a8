use Rattle.std.proofs.Common.{◌≡◌, [], ◌∷◌, refl}
use Rattle.std.specs.Ordering.{nat_cmp}
use Rattle.std.proofs.lemmas.Iterator.{YieldsList-from_slice}
use Rattle.std.proofs.lemmas.Iterator.Consumers.{YieldsList-at, YieldsList-from_chain}
use Rattle.std.proofs.lemmas.Iterator.Search.{cmp_from_yields_List}
use Rattle.tree_memory.proofs.table.against_folder.Goals as goal

pub returns : goal.returns
returns c =
    cmp_from_yields_List (λ x y. y ≡ x) _ nat_cmp _ c.cmp.ensures.ran (YieldsList-from_slice c.args.name.now (cc))
    (λ it e. YieldsList-at e (YieldsList-from_chain (YieldsList-from_slice c.args.folder.now (cc)) (YieldsList-from_slice (47 ∷ []) c.chain.ensures.second.0) c.chain.ensures.first_done c.chain.ensures.second_done))
    (λ x y. refl)
