-- The package that lists a path, and the one that has a name.
use Rattle.std.proofs.Common.{◌≡◌, inl, inr, ℕ, Bool, true, false, cond, List, [], ◌∷◌, map, Some, refl, sym, ◌∙◌, ap, subst, true≢false}
use Rattle.std.specs.Prelude.{◌||◌, bytes_eq}
use Rattle.std.specs.List.{find, list_any}
use Rattle.std.proofs.lemmas.Slice.Eq.{bytes_eq-Decides}
use Rattle.adb_view.specs.Plain.{Plain}
use Rattle.candidate_core.specs.adb_fields.FirstPair.{IsIn}
use Rattle.candidate_core.specs.adb_fields.Once.{ShareNoName, AreDistinctNames, IsInOneOf}
use Rattle.candidate_core.specs.adb_fields.Repeated.{package_name, paths_of_package_files}
use Rattle.file_owners.specs.db_core.Packages.{lists_path}
use Rattle.tell_core.specs.InfoPackages.{package_named, path_owner}

-- ---- whether a list has a text

pub listed : (path : List ℕ) (paths : List (List ℕ)) → list_any (bytes_eq path) paths ≡ true → IsIn path paths
listed path [] e = true≢false (sym e)
listed path (p ∷ paths) e = go (bytes_eq path p) refl e (λ rest. listed path paths rest)
  where
    go : (t : Bool) → bytes_eq path p ≡ t → (t || list_any (bytes_eq path) paths) ≡ true → (list_any (bytes_eq path) paths ≡ true → IsIn path paths) → IsIn path (p ∷ paths)
    go true is e later = inl ((bytes_eq-Decides path p).0 is)
    go false is e later = inr (later e)

pub is_listed : (path : List ℕ) (paths : List (List ℕ)) → IsIn path paths → list_any (bytes_eq path) paths ≡ true
is_listed path [] h = absurd h
is_listed path (p ∷ paths) (inl e) = ap (λ t. t || list_any (bytes_eq path) paths) ((bytes_eq-Decides path p).1 e)
is_listed path (p ∷ paths) (inr h) = go (bytes_eq path p) (is_listed path paths h)
  where
    go : (t : Bool) → list_any (bytes_eq path) paths ≡ true → (t || list_any (bytes_eq path) paths) ≡ true
    go true e = refl
    go false e = e

-- ---- what is found

pub found_is : (p : Plain → Bool) (pkg : Plain) (packages : List Plain) → find p packages ≡ Some pkg → IsIn pkg packages × (p pkg ≡ true)
found_is p pkg [] e = absurd cc
found_is p pkg (x ∷ packages) e = go (p x) refl e (λ rest. found_is p pkg packages rest)
  where
    same : x ≡ pkg → p x ≡ true → IsIn pkg (x ∷ packages) × (p pkg ≡ true)
    same is e = (inl (sym is), ap p (sym is) ∙ e)

    go : (t : Bool) → p x ≡ t → cond t (Some x) (find p packages) ≡ Some pkg → (find p packages ≡ Some pkg → IsIn pkg packages × (p pkg ≡ true)) → IsIn pkg (x ∷ packages) × (p pkg ≡ true)
    go true is e later = let x_is : x ≡ pkg = cc in same x_is is
    go false is e later = let rest = later e in (inr rest.0, rest.1)

-- ---- a path

in_one_of : (path : List ℕ) (pkg : Plain) (packages : List Plain) → IsIn pkg packages → IsIn path (paths_of_package_files pkg) → IsInOneOf path (map paths_of_package_files packages)
in_one_of path pkg [] h listed = absurd h
in_one_of path pkg (x ∷ packages) (inl e) listed = inl (subst (λ z. IsIn path (paths_of_package_files z)) e listed)
in_one_of path pkg (x ∷ packages) (inr h) listed = inr (in_one_of path pkg packages h listed)

pub lister_owns : (path : List ℕ) (pkg : Plain) (packages : List Plain) → ShareNoName (map paths_of_package_files packages) → IsIn pkg packages → IsIn path (paths_of_package_files pkg) → path_owner packages path ≡ Some pkg
lister_owns path pkg [] apart h in_paths = absurd h
lister_owns path pkg (x ∷ packages) apart (inl e) in_paths =
    ap (λ t. cond t (Some x) (path_owner packages path)) (is_listed path (paths_of_package_files x) (subst (λ z. IsIn path (paths_of_package_files z)) e in_paths)) ∙ ap (λ z. Some z) (sym e)
lister_owns path pkg (x ∷ packages) apart (inr h) in_paths =
    go (lists_path path x) refl (lister_owns path pkg packages apart.1 h in_paths)
  where
    go : (t : Bool) → lists_path path x ≡ t → path_owner packages path ≡ Some pkg → cond t (Some x) (path_owner packages path) ≡ Some pkg
    go true e later = absurd (apart.0 path (listed path (paths_of_package_files x) e) (in_one_of path pkg packages h in_paths))
    go false e later = later

-- ---- a name

in_names : (pkg : Plain) (packages : List Plain) → IsIn pkg packages → IsIn (package_name pkg) (map package_name packages)
in_names pkg [] h = absurd h
in_names pkg (x ∷ packages) (inl e) = inl (ap package_name e)
in_names pkg (x ∷ packages) (inr h) = inr (in_names pkg packages h)

pub named_is : (pkg : Plain) (packages : List Plain) → AreDistinctNames (map package_name packages) → IsIn pkg packages → package_named packages (package_name pkg) ≡ Some pkg
named_is pkg [] once h = absurd h
named_is pkg (x ∷ packages) once (inl e) =
    ap (λ t. cond t (Some x) (package_named packages (package_name pkg))) ((bytes_eq-Decides (package_name x) (package_name pkg)).1 (ap package_name (sym e))) ∙ ap (λ z. Some z) (sym e)
named_is pkg (x ∷ packages) once (inr h) =
    go (bytes_eq (package_name x) (package_name pkg)) refl (named_is pkg packages once.1 h)
  where
    go : (t : Bool) → bytes_eq (package_name x) (package_name pkg) ≡ t → package_named packages (package_name pkg) ≡ Some pkg
        → cond t (Some x) (package_named packages (package_name pkg)) ≡ Some pkg
    go true e later = absurd (once.0 (subst (λ n. IsIn n (map package_name packages)) (sym ((bytes_eq-Decides (package_name x) (package_name pkg)).0 e)) (in_names pkg packages h)))
    go false e later = later
