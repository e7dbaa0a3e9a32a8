-- Whether a name has a file that the change does not remove, as the code tells it.
use Rattle.std.proofs.Common.{◌≡◌, ℕ, Bool, true, false, List, length, Option, Some, None, refl, sym, ap, ◌∙◌}
use Rattle.std.specs.Prelude.{not, ◌&&◌, is_some}
use Rattle.std.specs.Option.{option_map}
use Rattle.base_core.specs.Files.{Files}
use Rattle.path_clashes.specs.NearName.{is_name_present}

and_false : (a : Bool) → (a && false) ≡ false
and_false true = refl
and_false false = refl

and_true : (a : Bool) → (a && true) ≡ a
and_true true = refl
and_true false = refl

sized : (file : Option (List ℕ)) → is_some (option_map length file) ≡ is_some file
sized None = refl
sized (Some bytes) = refl

module _ (does_release : List ℕ → Bool) (name shown : List ℕ) (released : Bool) (told : released ≡ does_release shown) (shows : shown ≡ name) where
  -- what the code told of the shown bytes holds of the name
  pub told_of_name : (b : Bool) → released ≡ b → does_release name ≡ b
  told_of_name b is = ap does_release (sym shows) ∙ (sym told ∙ is)

  -- a released name has no file that stays
  pub released_absent : (files : Files) → released ≡ true → false ≡ is_name_present does_release files name
  released_absent files is = sym (ap (λ r. is_some (files name) && not r) (told_of_name true is) ∙ and_false (is_some (files name)))

  -- a name that is not released has a file that stays exactly if it has a size
  pub sized_present : (files : Files) (size : Option ℕ) (found : Bool) → released ≡ false → size ≡ option_map length (files name) → found ≡ is_some size → found ≡ is_name_present does_release files name
  sized_present files size found is long some =
      some ∙ (ap is_some long ∙ (sized (files name) ∙ sym (ap (λ r. is_some (files name) && not r) (told_of_name false is) ∙ and_true (is_some (files name)))))
