-- The name of a folder that was read, and whether it is present after the change, as the code tells it.
use Rattle.std.proofs.Common.{◌≡◌, inl, inr, ℕ, Bool, true, false, List, Option, Some, None, sym, ap, subst, ◌∙◌}
use Rattle.std.specs.Prelude.{IfSome}
use Rattle.std.proofs.lemmas.Bool.{or_from, or_left, or_right}
use Rattle.base_core.specs.Files.{Files}
use Rattle.path_clashes.specs.Clash.{NameChange, is_present_after_change}
use Rattle.path_clashes.specs.NearName.{files_with_only_name, is_name_present, name_if_holds}
use Rattle.path_clashes.proofs.OneName.{after_alone}

module _ (change : NameChange) (folder name : List ℕ) (read : Option (List ℕ)) (is : read ≡ Some name) (value : IfSome read (λ n. n ≡ folder)) where
  -- the name has the folder's bytes
  pub same_name : name ≡ folder
  same_name = subst (λ (o : Option (List ℕ)). IfSome o (λ n. n ≡ folder)) is value

  after_is : (files : Files) → is_present_after_change change files folder ≡ true → Some name ≡ name_if_holds (is_present_after_change change files folder) folder
  after_is files after = ap (λ (l : List ℕ). Some l) same_name ∙ sym (ap (λ b. name_if_holds b folder) after)

  -- a folder that counts as written is present
  pub written_found : (files : Files) → change.counts_as_written folder ≡ true → Some name ≡ name_if_holds (is_present_after_change change files folder) folder
  written_found files counts = after_is files (or_right (is_name_present change.does_release files folder) (change.counts_as_written folder) counts)

  -- a folder with a file that stays is present
  pub file_found : (files : Files) (found : Bool) → found ≡ is_name_present change.does_release files name → found ≡ true → Some name ≡ name_if_holds (is_present_after_change change files folder) folder
  file_found files found told holds =
      after_is files (or_left (is_name_present change.does_release files folder) (change.counts_as_written folder) (ap (is_name_present change.does_release files) (sym same_name) ∙ (sym told ∙ holds)))

  -- any other folder is not present
  pub nothing_found : (files : Files) (found : Bool) → change.counts_as_written folder ≡ false → found ≡ is_name_present change.does_release files name → found ≡ false → None ≡ name_if_holds (is_present_after_change change files folder) folder
  nothing_found files found off told fails =
      sym (ap (λ b. name_if_holds b folder) (or_from (is_name_present change.does_release files folder) (change.counts_as_written folder) (ap (is_name_present change.does_release files) (sym same_name) ∙ (sym told ∙ fails)) off))

  -- with files that have only this name, a folder that counts as written is present
  pub written_alone : change.counts_as_written folder ≡ true → Some name ≡ name_if_holds (is_present_after_change change (files_with_only_name (Some name)) folder) folder
  written_alone counts = after_alone change name folder same_name (inl counts)

  -- with files that have only this name, a folder that is not released is present
  pub file_alone : (found : Bool) → (found ≡ true → change.does_release name ≡ false) → found ≡ true → Some name ≡ name_if_holds (is_present_after_change change (files_with_only_name (Some name)) folder) folder
  file_alone found stays holds = after_alone change name folder same_name (inr (ap change.does_release (sym same_name) ∙ stays holds))
