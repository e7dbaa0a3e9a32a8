-- No package lists a path that is no name, where each path that it lists is one.
use Rattle.std.proofs.Common.{◌≡◌, ℕ, Bool, true, false, cond, List, [], ◌∷◌, Some, None, refl, sym, ◌∙◌, ap, true≢false}
use Rattle.std.specs.Prelude.{◌||◌, bytes_eq}
use Rattle.std.specs.List.{list_all, list_any}
use Rattle.std.proofs.lemmas.Bool.{and_parts}
use Rattle.std.proofs.lemmas.Slice.Eq.{bytes_eq-Decides}
use Rattle.base_core.specs.Name.{is_name}
use Rattle.adb_view.specs.Plain.{Plain}
use Rattle.candidate_core.specs.adb_fields.Repeated.{paths_of_package_files}
use Rattle.file_owners.specs.db_core.Packages.{lists_only_valid_names}
use Rattle.tell_core.specs.InfoPackages.{path_owner}

not_among : (path : List ℕ) (paths : List (List ℕ)) → is_name path ≡ false → list_all is_name paths ≡ true → list_any (bytes_eq path) paths ≡ false
not_among path [] no_name all = refl
not_among path (p ∷ paths) no_name all =
    go (bytes_eq path p) refl (not_among path paths no_name (and_parts (is_name p) (list_all is_name paths) all).1)
  where
    here : is_name p ≡ true
    here = (and_parts (is_name p) (list_all is_name paths) all).0

    go : (t : Bool) → bytes_eq path p ≡ t → list_any (bytes_eq path) paths ≡ false → (t || list_any (bytes_eq path) paths) ≡ false
    go true e rest = absurd (true≢false (sym here ∙ (ap is_name (sym ((bytes_eq-Decides path p).0 e)) ∙ no_name)))
    go false e rest = rest

pub no_owner : (path : List ℕ) (packages : List Plain) → is_name path ≡ false → list_all lists_only_valid_names packages ≡ true → path_owner packages path ≡ None
no_owner path [] no_name all = refl
no_owner path (pkg ∷ packages) no_name all =
    ap (λ t. cond t (Some pkg) (path_owner packages path)) (not_among path (paths_of_package_files pkg) no_name (and_parts (lists_only_valid_names pkg) (list_all lists_only_valid_names packages) all).0)
    ∙ no_owner path packages no_name (and_parts (lists_only_valid_names pkg) (list_all lists_only_valid_names packages) all).1
