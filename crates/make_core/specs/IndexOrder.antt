-- The packages of an index, and their order.
-- The rule is in `docs/commands.md`, "`mkndx PACKAGE..`". Serves the law
-- `a_made_index_has_its_packages_in_order`.
use Rattle.std.specs.Prelude.{◌≡◌, ℕ, ◌+◌, List, [], ◌∷◌, map, Some, None}
use Rattle.std.specs.List.Sorted.{IsPermutation, IsSorted}
use Rattle.adb_view.specs.Plain.{Plain}
use Rattle.adb_copy.specs.adb_fields.Repeated.{entries_of_field_at_index}
use Rattle.command_core.specs.Files.{without_one_leading_dot_slash}
use Rattle.command_core.specs.declared.operands.Operand.{Operand}
use Rattle.make_core.specs.Entries.{index_entry_of_package_file}
use Rattle.make_core.specs.EntryOrder.{index_entry_cmp}
use Rattle.make_info.specs.Reads.{Reads}
use Rattle.pkg_core.specs.Whole.{package_fault}
use Rattle.adb_view.specs.FieldIndexes.{INDEX_PACKAGES_INDEX}

-- the entries of an index, one for each package
abbrev pub packages_in : Plain → List Plain
packages_in index = entries_of_field_at_index INDEX_PACKAGES_INDEX index

-- `files` are the bytes that the reads of the operands' files find, in their order. Each passes all tests
-- of a package. The read for the first operand has the number `n`
abbrev pub AreSoundPackages : Reads → ℕ → List Operand → List (List ℕ) → Type 0
AreSoundPackages read n [] [] = Unit {0}
AreSoundPackages read n [] (file ∷ files) = ⊥
AreSoundPackages read n (o ∷ operands) [] = ⊥
AreSoundPackages read n (o ∷ operands) (file ∷ files) =
    (read n (without_one_leading_dot_slash o.text) ≡ Some file) × (package_fault file ≡ None)
    × AreSoundPackages read (n + 1) operands files

-- the index has exactly the entries of the packages that the operands name, in order (*index_entry_cmp*); the
-- order of two equal entries is not defined here. `files` are the operands' files, in their order; reads
-- are numbered from 0
pub record HasSortedEntriesOfOperands (read : Reads) (operands : List Operand) (index : Plain) :
    Type 0 where
  -- the bytes of the operands' files
  pub files : List (List ℕ)
  -- each read of an operand gives its file, which is a sound package
  pub sound : AreSoundPackages read 0 operands files
  -- the entries of the index are those of these packages, in some order
  pub same : IsPermutation (map index_entry_of_package_file files) (packages_in index)
  -- the entries are in the order of their names, versions and ids
  pub sorted : IsSorted index_entry_cmp (packages_in index)
