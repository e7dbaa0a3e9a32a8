-- Listed names are names below the folder.
use Rattle.std.proofs.Common.{ℕ, List, get_or}
use Rattle.std.specs.Prelude.{All}
use Rattle.std.proofs.lemmas.List.Elements.{Contains-get_or}
use Rattle.base_core.specs.Listed.{AreSortedAndEachBelowFolder, IsSortedListingOfFolder}
use Rattle.base_core.specs.Name.{IsName}
use Rattle.base_core.specs.Tree.{TreeState}

pub names_below : (folder : List ℕ) (v : TreeState) (names : List (List ℕ)) → IsSortedListingOfFolder folder v names → All IsName names → AreSortedAndEachBelowFolder folder names
names_below folder v names listed named = record {
  rising = listed.rising;
  each = λ k d within. record { named = named k d within; below = ((listed.each (get_or names k d)).0 (Contains-get_or names k d within)).1 };
}
