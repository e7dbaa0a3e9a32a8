-- The folders of a package are just those that are over a path.
use Rattle.command_core.specs.declared.values.TheConstants.{FILES}
use Rattle.std.proofs.Common.{◌≡◌, inl, inr, ℕ, Bool, true, false, if◌then◌else◌, List, [], ◌∷◌, ◌++◌, length, map, Ok, refl, ap, sym, subst, ◌∙◌}
use Rattle.std.specs.Prelude.{Any, Contains}
use Rattle.std.proofs.lemmas.Bool.{eqb-true}
use Rattle.make_core.specs.adb_fields.FirstPair.{IsIn}
use Rattle.make_core.proofs.adb_fields.Members.{contains-from_in, from-map, in-from_index, in-map}
use Rattle.make_core.specs.adb_fields.Repeated.{folders_in, name_of}
use Rattle.adb_view.specs.Plain.{Plain}
use Rattle.base_core.specs.Files.{IsFolderOf}
use Rattle.command_core.specs.Command.{CommandLine}
use Rattle.command_core.specs.Files.{without_one_leading_dot_slash}
use Rattle.command_core.specs.declared.values.OptionValue.{OptionValue}
use Rattle.make_core.specs.make_info.Reads.{Reads}
use Rattle.make_core.specs.package_files.Folders.{prefixes_before_slashes, all_folders_above, folder_listings_by_tree_names, folders_above, is_slash, folder_listing_by_tree_names, path_relative_to}
use Rattle.make_core.specs.package_files.Package.{SourceFolder}
use Rattle.make_core.specs.package_files.Sources.{AreSortedAndEachBelowFirstFolder, source_folders_of_first_option_only, values_of_letter}
use Rattle.make_core.specs.FilesBelow.{path_joined_to_folder}
use Rattle.make_core.proofs.ListedNames.{AreListed, below_is, listed_in}
use Rattle.make_core.proofs.SoundPackage.{are_listed}
use Rattle.definition_laws.specs.making.MadePackages.{HasJustFoldersAbove, IsAboveOnePath, IsAbovePath}
use Rattle.definition_laws.proofs.making.MadeFrom.{IsMadeFrom, folders_are}
use Rattle.definition_laws.proofs.making.NamesRising.{folder_names_stand, folders_named, listed_names}

-- ---- what stands before a slash

one_more : (b : ℕ) (bs : List ℕ) → ((f : List ℕ) → IsIn f (prefixes_before_slashes bs) → IsFolderOf f bs) → (f : List ℕ) → IsIn f (map (λ folder. b ∷ folder) (prefixes_before_slashes bs)) → IsFolderOf f (b ∷ bs)
one_more b bs further f h =
    let (x, here, is) = from-map (λ folder. b ∷ folder) f (prefixes_before_slashes bs) h in
    let (rest, e) = further x here in
    (rest, ap (λ (xs : List ℕ). b ∷ xs) e ∙ ap (λ (xs : List ℕ). xs ++ 47 ∷ rest) (sym is))

at_byte : (b : ℕ) (bs : List ℕ) (c : Bool) → is_slash b ≡ c → ((f : List ℕ) → IsIn f (prefixes_before_slashes bs) → IsFolderOf f bs)
    → (f : List ℕ) → IsIn f (if c then [] ∷ map (λ folder. b ∷ folder) (prefixes_before_slashes bs) else map (λ folder. b ∷ folder) (prefixes_before_slashes bs)) → IsFolderOf f (b ∷ bs)
at_byte b bs false e further f h = one_more b bs further f h
at_byte b bs true e further f (inl is) = (bs, ap (λ (n : ℕ). n ∷ bs) (eqb-true b 47 e) ∙ ap (λ (xs : List ℕ). xs ++ 47 ∷ bs) (sym is))
at_byte b bs true e further f (inr h) = one_more b bs further f h

before_one : (path f : List ℕ) → IsIn f (prefixes_before_slashes path) → IsFolderOf f path
before_one [] f h = absurd h
before_one (b ∷ bs) f h = at_byte b bs (is_slash b) refl (before_one bs) f h

over_is : (path f : List ℕ) → IsIn f (folders_above path) → IsAbovePath f path
over_is path f (inl is) = inl is
over_is path f (inr h) = inr (before_one path f h)

after_byte : (b : ℕ) (c : Bool) (f : List ℕ) (folders : List (List ℕ)) → IsIn f folders → IsIn (b ∷ f) (if c then [] ∷ map (λ folder. b ∷ folder) folders else map (λ folder. b ∷ folder) folders)
after_byte b true f folders h = inr (in-map (λ folder. b ∷ folder) f folders h)
after_byte b false f folders h = in-map (λ folder. b ∷ folder) f folders h

before_there : (f rest : List ℕ) → IsIn f (prefixes_before_slashes (f ++ 47 ∷ rest))
before_there [] rest = inl refl
before_there (b ∷ f) rest = after_byte b (is_slash b) f (prefixes_before_slashes (f ++ 47 ∷ rest)) (before_there f rest)

over_there : (path f : List ℕ) → IsAbovePath f path → IsIn f (folders_above path)
over_there path f (inl is) = inl is
over_there path f (inr (rest, e)) = inr (subst (λ (p : List ℕ). IsIn f (prefixes_before_slashes p)) (sym e) (before_there f rest))

-- ---- the names of the folders

-- what the names of a package's folders are
pub record AreFolderNames : Type 0 where
  pub over : (paths : List (List ℕ)) (folder : List ℕ) → Contains (all_folders_above paths) folder → Any (λ path. Contains (folders_above path) folder) paths
  pub whole : (paths : List (List ℕ)) (path folder : List ℕ) → Contains paths path → Contains (folders_above path) folder → Contains (all_folders_above paths) folder

in_from : {A : Type 0} (x : A) (xs : List A) → Contains xs x → IsIn x xs
in_from x xs h = in-from_index x x xs h.0 h.1 h.2

module _ (dir : List ℕ) (names : List (List ℕ)) (all : AreListed dir names) (law : AreFolderNames) where
  abbrev paths : List (List ℕ)
  paths = map (path_relative_to dir) names

  over_one : (f : List ℕ) → IsIn f (all_folders_above paths) → IsAboveOnePath dir names f
  over_one f h =
      let found = law.over paths f (contains-from_in f (all_folders_above paths) h) in
      let path : List ℕ = found.1 in
      let here : IsIn path paths = in-from_index path path paths found.0 found.2 found.3 in
      let (name, at, is) = from-map (path_relative_to dir) path names here in
      let listed = listed_in dir names name all at in
      let same : name ≡ path_joined_to_folder dir path = listed.is ∙ ap (path_joined_to_folder dir) (sym is) in
      (path, subst (λ (n : List ℕ). IsIn n names) same at, over_is path f (in_from f (folders_above path) found.4))

  one_over : (f : List ℕ) → IsAboveOnePath dir names f → IsIn f (all_folders_above paths)
  one_over f (path, at, over) =
      let here : IsIn path paths = subst (λ (p : List ℕ). IsIn p paths) (below_is dir path) (in-map (path_relative_to dir) (path_joined_to_folder dir path) names at) in
      in_from f (all_folders_above paths) (law.whole paths path f (contains-from_in path paths here) (contains-from_in f (folders_above path) (over_there path f over)))

  pub names_over : (pkg : Plain) → map name_of (folders_in pkg) ≡ all_folders_above paths → HasJustFoldersAbove dir names pkg
  names_over pkg e f =
      (λ h. over_one f (subst (IsIn f) e h), λ h. subst (IsIn f) (sym e) (one_over f h))

names_read : (read : Reads) (n place : ℕ) (dir : List ℕ) (names : List (List ℕ)) (sources : List SourceFolder) (v : OptionValue) (vs : List OptionValue) → source_folders_of_first_option_only read n (v ∷ vs) names ≡ Ok sources
    → map (λ (s : SourceFolder). s.name) sources ≡ all_folders_above (map (path_relative_to (without_one_leading_dot_slash v.text)) names)
unfolding folder_listings_by_tree_names
names_read read n place dir names sources v vs e =
    let fs : List (List ℕ) = all_folders_above (map (path_relative_to (without_one_leading_dot_slash v.text)) names) in
    listed_names (without_one_leading_dot_slash v.text) names fs sources (folders_named v.place read n (map (folder_listing_by_tree_names (without_one_leading_dot_slash v.text) names) fs) sources e)

pub folders_over_paths : AreFolderNames → (command : CommandLine) (names : List (List ℕ)) (read : Reads) (pkg : Plain) (v : OptionValue) (vs : List OptionValue) → AreSortedAndEachBelowFirstFolder (values_of_letter FILES command.values) names
    → values_of_letter FILES command.values ≡ v ∷ vs → IsMadeFrom command names read pkg → HasJustFoldersAbove (without_one_leading_dot_slash v.text) names pkg
folders_over_paths law command names read pkg v vs below given m =
    let dir : List ℕ = without_one_leading_dot_slash v.text in
    let named : AreSortedAndEachBelowFirstFolder (v ∷ vs) names = subst (λ (l : List OptionValue). AreSortedAndEachBelowFirstFolder l names) given below in
    let read_of : source_folders_of_first_option_only read (length m.scripts) (v ∷ vs) names ≡ Ok m.sources =
    ap (λ (l : List OptionValue). source_folders_of_first_option_only read (length m.scripts) l names) (sym given) ∙ m.sources_read in
    names_over dir names (are_listed dir names named.each) law pkg
    (ap (map name_of) (folders_are command names read pkg m) ∙ (folder_names_stand m.sources ∙ names_read read (length m.scripts) v.place dir names m.sources v vs read_of))
