-- The names below a folder, as a tree lists them, are those of its files.
use Rattle.std.proofs.Common.{◌≡◌, ℕ, Bool, true, false, List, ◌++◌, codes, Option, Some, None, IsSome, refl, sym, subst}
use Rattle.std.specs.Prelude.{if◌then◌else◌, nat_eq}
use Rattle.std.specs.List.{starts_with}
use Rattle.base_core.specs.Listed.{IsSortedListingOfFolder, IsSortedListOfAllNamesInMap}
use Rattle.base_core.specs.Tree.{TreeState, bytes_of_file_number, files_of}
use Rattle.engine_core.proofs.journal_core.Below.{begins, is_below}
use Rattle.outcome.specs.Make.{files_below}

has_bytes : (v : TreeState) (n : Option ℕ) → IsSome n → IsSome (bytes_of_file_number v.files n)
has_bytes v None h = cc
has_bytes v (Some n) h = refl

has_number : (v : TreeState) (n : Option ℕ) → IsSome (bytes_of_file_number v.files n) → IsSome n
has_number v None h = cc
has_number v (Some n) h = refl

pub if_some : (b : Bool) (o : Option (List ℕ)) → IsSome (if b then o else None) → (b ≡ true) × IsSome o
if_some true o h = (refl, h)
if_some false o h = cc

pub listing_of_files : (folder : List ℕ) (v : TreeState) (names : List (List ℕ)) → IsSortedListingOfFolder folder v names → IsSortedListOfAllNamesInMap (files_below folder (files_of v)) names
listing_of_files folder v names listed = record {
  rising = listed.rising;
  each = λ q. (
    λ here.
        let found = (listed.each q).0 here in
        subst (λ (b : Bool). IsSome (if b then files_of v q else None)) (sym (begins folder q found.1)) (has_bytes v (v.names q) found.0),
    λ some.
        let found = if_some (starts_with nat_eq q (folder ++ codes "/")) (files_of v q) some in
        (listed.each q).1 (has_number v (v.names q) found.1, is_below folder q found.0),
  );
}
