-- The files that a package holds are those below its folder.
use Rattle.command_core.specs.declared.values.TheConstants.{FILES, TRIGGER}
use Rattle.std.proofs.Common.{◌≡◌, inl, inr, ℕ, ◌^◌, ◌<◌, List, [], ◌∷◌, ◌++◌, length, map, Option, Some, None, Ok, refl, ap, sym, subst, ◌∙◌}
use Rattle.std.specs.Prelude.{All}
use Rattle.std.specs.List.{flat_map}
use Rattle.std.specs.List.Sorted.{IsPermutation}
use Rattle.std.proofs.lemmas.List.{map-append}
use Rattle.std.proofs.lemmas.List.Concat.{flat_map-cons}
use Rattle.std.proofs.lemmas.List.Elements.{All-cons, All-nil}
use Rattle.std.proofs.lemmas.List.Sorted.{IsPermutation-map}
use Rattle.base_core.specs.Files.{Files}
use Rattle.base_core.specs.Listed.{AreSortedAndEachBelowFolder}
use Rattle.adb_copy.specs.adb_fields.FirstPair.{IsIn}
use Rattle.adb_copy.specs.adb_fields.Paths.{path_of}
use Rattle.adb_copy.specs.adb_fields.Repeated.{files_in, folders_in, name_of, paths_of_folder_files}
use Rattle.pkg_core.specs.adb_schema.Soundness.{payload_in, root_value_of_payload}
use Rattle.adb_view.specs.declared.tables.Which.TheVariants.{Package}
use Rattle.adb_view.specs.Plain.{Plain}
use Rattle.command_core.specs.Command.{CommandLine}
use Rattle.command_core.specs.Files.{without_one_leading_dot_slash}
use Rattle.command_core.specs.declared.values.OptionValue.{OptionValue}
use Rattle.make_info.specs.Information.{replaces_priority}
use Rattle.package_files.specs.Folders.{FolderListing, all_folders_above, folder_listings_by_tree_names, last_part_of, folder_listing_by_tree_names, tree_names_in_package_folder, path_relative_to}
use Rattle.make_core.specs.Making.{made_package}
use Rattle.package_files.specs.Package.{SourceFileNameAndBytes, SourceFolder, value_of_file, value_of_folder, kind_of_file}
use Rattle.package_files.specs.Sources.{AreSortedAndEachBelowFirstFolder, source_file_at_place_by_read, source_folder_at_place_by_read, source_folders_of_first_option_only, found_bytes_or_missing, source_folders_at_place_from_read, source_files_at_place_from_read, texts_of, values_of_letter}
use Rattle.pkg_core.specs.Whole.{PackageWithContents}
use Rattle.make_core.specs.FilesBelow.{HasJustNamedFilesBelowFolder, IsFileBelow, path_joined_to_folder}
use Rattle.make_core.proofs.Apart.{Tells}
use Rattle.make_core.proofs.InformationGood.{Needs}
use Rattle.make_core.proofs.ListedNames.{AllOf, AreListed, after_ok, below_is, each_read, filter_in, listed_in, recovered, stands_in}
use Rattle.make_core.proofs.PackageFiles.{files_stand, folder_name_stands, folders_stand, name_stands}
use Rattle.make_core.proofs.Roots.{Exact}
use Rattle.make_core.proofs.SoundPackage.{Holds, IsReadBack, Sizes, are_listed, made_of}

-- ---- what was read

pub found_is : (place : ℕ) (o : Option (List ℕ)) (bytes : List ℕ) → found_bytes_or_missing place o ≡ Ok bytes → o ≡ Some bytes
found_is place None bytes e = absurd (cc (e))
found_is place (Some b) bytes e = let same : b ≡ bytes = cc (e) in ap Some same

module _ (files : Files) where
  -- a file is that of a name, with the bytes that stand there
  abbrev IsRead : List ℕ → SourceFileNameAndBytes → Type 0
  IsRead name file = (file.name ≡ last_part_of name) × (files name ≡ Some file.bytes)

  file_is_read : (place n : ℕ) (name : List ℕ) (file : SourceFileNameAndBytes) → source_file_at_place_by_read place (λ n name. files name) n name ≡ Ok file → IsRead name file
  file_is_read place n name file e =
      let one = after_ok (found_bytes_or_missing place (files name)) (λ bytes. Ok (record { name = last_part_of name; bytes = bytes })) file e in
      let gives = one.gives in
      let same : record { name = last_part_of name; bytes = one.x } ≡ file = cc (gives) in
      (ap (λ (f : SourceFileNameAndBytes). f.name) (sym same), found_is place (files name) one.x one.is ∙ ap (λ (f : SourceFileNameAndBytes). Some f.bytes) same)

  abbrev IsFolderRead : FolderListing → SourceFolder → Type 0
  IsFolderRead l s = (s.name ≡ l.name) × AllOf IsRead l.files s.files

  folder_is_read : (place n : ℕ) (folder : FolderListing) (source : SourceFolder) → source_folder_at_place_by_read place (λ n name. files name) n folder ≡ Ok source → IsFolderRead folder source
  folder_is_read place n folder source e =
      let one = after_ok (source_files_at_place_from_read place (λ n name. files name) n folder.files) (λ fs. Ok (record { name = folder.name; files = fs })) source e in
      let gives = one.gives in
      let same : record { name = folder.name; files = one.x } ≡ source = cc (gives) in
      subst (IsFolderRead folder) same (refl, each_read IsRead (λ name. 1) (source_file_at_place_by_read place (λ n name. files name)) (file_is_read place) n folder.files one.x one.is)

  -- ---- where they stand

  abbrev AreFilesAt : List ℕ → List ℕ → List SourceFileNameAndBytes → Type 0
  AreFilesAt dir folder [] = Unit {0}
  AreFilesAt dir folder (s ∷ ss) = (files (path_joined_to_folder dir (path_of folder s.name)) ≡ Some s.bytes) × AreFilesAt dir folder ss

  abbrev paths_of : SourceFolder → List (List ℕ)
  paths_of s = map (λ (file : SourceFileNameAndBytes). path_of s.name file.name) s.files

  abbrev AreAt : List ℕ → List ℕ → List (List ℕ) → List SourceFileNameAndBytes → Type 0
  AreAt dir folder names sources =
      (map (λ (file : SourceFileNameAndBytes). path_of folder file.name) sources ≡ map (path_relative_to dir) names) × AreFilesAt dir folder sources

  files_at : (dir folder : List ℕ) (names : List (List ℕ)) (sources : List SourceFileNameAndBytes) → ((name : List ℕ) → IsIn name names → name ≡ path_joined_to_folder dir (path_of folder (last_part_of name)))
      → AllOf IsRead names sources → AreAt dir folder names sources
  files_at dir folder [] [] all h = (refl, tt)
  files_at dir folder [] (s ∷ ss) all h = absurd h
  files_at dir folder (n ∷ ns) [] all h = absurd h
  files_at dir folder (n ∷ ns) (s ∷ ss) all h =
      let is : n ≡ path_joined_to_folder dir (path_of folder (last_part_of n)) = all n (inl refl) in
      let whole : path_joined_to_folder dir (path_of folder s.name) ≡ n = ap (λ (part : List ℕ). path_joined_to_folder dir (path_of folder part)) h.0.0 ∙ sym is in
      let path : path_of folder s.name ≡ path_relative_to dir n = sym (below_is dir (path_of folder s.name)) ∙ ap (path_relative_to dir) whole in
      let further = files_at dir folder ns ss (λ m here. all m (inr here)) h.1 in
      ((λ k. path k ∷ further.0 k), (ap files whole ∙ h.0.1, further.1))

  abbrev AreFoldersAt : List ℕ → List SourceFolder → Type 0
  AreFoldersAt dir [] = Unit {0}
  AreFoldersAt dir (s ∷ ss) = AreFilesAt dir s.name s.files × AreFoldersAt dir ss

  folders_at : (dir : List ℕ) (names fs : List (List ℕ)) (sources : List SourceFolder) → AreListed dir names → AllOf IsFolderRead (map (folder_listing_by_tree_names dir names) fs) sources
      → (flat_map paths_of sources ≡ map (path_relative_to dir) (flat_map (λ (l : FolderListing). l.files) (map (folder_listing_by_tree_names dir names) fs))) × AreFoldersAt dir sources
  folders_at dir names [] [] all h = (refl, tt)
  folders_at dir names [] (s ∷ ss) all h = absurd h
  folders_at dir names (f ∷ fs) [] all h = absurd h
  folders_at dir names (f ∷ fs) (s ∷ ss) all h =
      let here : List (List ℕ) = tree_names_in_package_folder dir names f in
      let at = files_at dir f here s.files (λ name is. let both = filter_in (stands_in dir f) name names is in recovered dir f name (listed_in dir names name all both.0) both.1) h.0.1 in
      let one = subst (λ (g : List ℕ). AreAt dir g here s.files) (sym h.0.0) at in
      let further = folders_at dir names fs ss all h.1 in
      let listings : List FolderListing = map (folder_listing_by_tree_names dir names) fs in
      let l : FolderListing = folder_listing_by_tree_names dir names f in (
        flat_map-cons paths_of s ss ∙ (λ k. one.0 k ++ further.0 k)
            ∙ sym (map-append (path_relative_to dir) here (flat_map (λ (m : FolderListing). m.files) listings))
            ∙ ap (map (path_relative_to dir)) (sym (flat_map-cons (λ (m : FolderListing). m.files) l listings)),
        (one.1, further.1),
      )

  -- ---- what the package's value says of them

  file_paths_stand : (folder : List ℕ) (sources : List SourceFileNameAndBytes) → map (λ (file : Plain). path_of folder (name_of file)) (map value_of_file sources) ≡ map (λ (file : SourceFileNameAndBytes). path_of folder file.name) sources
  file_paths_stand folder [] = refl
  file_paths_stand folder (s ∷ ss) = λ k. path_of folder (name_stands s.name (kind_of_file s.bytes) k) ∷ file_paths_stand folder ss k

  paths_stand_under : (s : SourceFolder) → paths_of_folder_files (value_of_folder s) ≡ paths_of s
  paths_stand_under s =
      (λ k. map (λ (file : Plain). path_of (folder_name_stands s k) (name_of file)) (files_stand s k)) ∙ file_paths_stand s.name s.files

  paths_stand : (sources : List SourceFolder) → flat_map paths_of_folder_files (map value_of_folder sources) ≡ flat_map paths_of sources
  paths_stand [] = refl
  paths_stand (s ∷ ss) =
      flat_map-cons paths_of_folder_files (value_of_folder s) (map value_of_folder ss) ∙ (λ k. paths_stand_under s k ++ paths_stand ss k) ∙ sym (flat_map-cons paths_of s ss)

  file_stands : (dir folder : List ℕ) (s : SourceFileNameAndBytes) → files (path_joined_to_folder dir (path_of folder s.name)) ≡ Some s.bytes → IsFileBelow files dir folder (value_of_file s)
  file_stands dir folder s e =
      let name = name_stands s.name (kind_of_file s.bytes) in
      record {
        bytes = s.bytes;
        located = ap (λ (part : List ℕ). files (path_joined_to_folder dir (path_of folder part))) name ∙ e;
        is = ap (λ (part : List ℕ). value_of_file (record { name = part; bytes = s.bytes })) (sym name);
      }

  files_stand_at : (dir folder : List ℕ) (sources : List SourceFileNameAndBytes) → AreFilesAt dir folder sources → All (IsFileBelow files dir folder) (map value_of_file sources)
  files_stand_at dir folder [] h = All-nil (IsFileBelow files dir folder)
  files_stand_at dir folder (s ∷ ss) h = All-cons (IsFileBelow files dir folder) (value_of_file s) (map value_of_file ss) (file_stands dir folder s h.0) (files_stand_at dir folder ss h.1)

  abbrev AreFilesIn : List ℕ → Plain → Type 0
  AreFilesIn dir folder = All (IsFileBelow files dir (name_of folder)) (files_in folder)

  folder_stands_at : (dir : List ℕ) (s : SourceFolder) → AreFilesAt dir s.name s.files → AreFilesIn dir (value_of_folder s)
  folder_stands_at dir s h =
      let P : List ℕ → List Plain → Type 0 = λ name held. All (IsFileBelow files dir name) held in
      subst (λ (name : List ℕ). P name (files_in (value_of_folder s))) (sym (folder_name_stands s))
      (subst (P s.name) (sym (files_stand s)) (files_stand_at dir s.name s.files h))

  folders_stand_at : (dir : List ℕ) (sources : List SourceFolder) → AreFoldersAt dir sources → All (AreFilesIn dir) (map value_of_folder sources)
  folders_stand_at dir [] h = All-nil (AreFilesIn dir)
  folders_stand_at dir (s ∷ ss) h = All-cons (AreFilesIn dir) (value_of_folder s) (map value_of_folder ss) (folder_stands_at dir s h.0) (folders_stand_at dir ss h.1)

-- ---- of a package that is made

-- each name stands in one folder
abbrev pub OneFolder : Type 0
OneFolder = (dir : List ℕ) (names : List (List ℕ)) → IsPermutation names (flat_map (λ (folder : FolderListing). folder.files) (folder_listings_by_tree_names dir names))

read_below : OneFolder → (files : Files) (place n : ℕ) (dir : List ℕ) (names : List (List ℕ)) (sources : List SourceFolder) (pkg : Plain) → AreListed dir names
    → source_folders_at_place_from_read place (λ n name. files name) n (folder_listings_by_tree_names dir names) ≡ Ok sources → folders_in pkg ≡ map value_of_folder sources → HasJustNamedFilesBelowFolder files dir names pkg
unfolding folder_listings_by_tree_names
read_below law files place n dir names sources pkg all e is =
    let fs : List (List ℕ) = all_folders_above (map (path_relative_to dir) names) in
    let listings : List FolderListing = map (folder_listing_by_tree_names dir names) fs in
    let are = each_read (IsFolderRead files) (λ (folder : FolderListing). length folder.files) (source_folder_at_place_by_read place (λ n name. files name)) (folder_is_read files place) n listings sources e in
    let at = folders_at files dir names fs sources all are in
    record {
      paths = subst (IsPermutation (map (path_relative_to dir) names)) (sym (ap (flat_map paths_of_folder_files) is ∙ paths_stand files sources ∙ at.0)) (IsPermutation-map (path_relative_to dir) names (flat_map (λ (folder : FolderListing). folder.files) listings) (law dir names));
      each = subst (All (AreFilesIn files dir)) (sym is) (folders_stand_at files dir sources at.1);
    }

pub made_below : OneFolder → Holds IsReadBack → Sizes → Exact → Needs → Tells → (command : CommandLine) (names : List (List ℕ)) (files : Files) (bytes : List ℕ) (folder : OptionValue) (others : List OptionValue)
    → values_of_letter FILES command.values ≡ folder ∷ others → AreSortedAndEachBelowFolder (without_one_leading_dot_slash folder.text) names → made_package command names (λ n name. files name) ≡ Ok bytes → length bytes < 2 ^ 64
    → HasJustNamedFilesBelowFolder files (without_one_leading_dot_slash folder.text) names (root_value_of_payload Package (payload_in bytes))
made_below law holds sizes exact needs tells command names files bytes folder others given below e short =
    let named : AreSortedAndEachBelowFirstFolder (values_of_letter FILES command.values) names = subst (λ (l : List OptionValue). AreSortedAndEachBelowFirstFolder l names) (sym given) below in
    let made = made_of IsReadBack holds sizes exact needs tells command names (λ n name. files name) bytes named e short in
    let read : source_folders_of_first_option_only (λ n name. files name) (length made.scripts) (folder ∷ others) names ≡ Ok made.sources =
    ap (λ (l : List OptionValue). source_folders_of_first_option_only (λ n name. files name) (length made.scripts) l names) (sym given) ∙ made.sources_read in
    let value = ap (λ (p : PackageWithContents). p.value) made.holds in
    read_below law files folder.place (length made.scripts) (without_one_leading_dot_slash folder.text) names made.sources (root_value_of_payload Package (payload_in bytes)) (are_listed (without_one_leading_dot_slash folder.text) names below.each) read
    (ap folders_in value ∙ folders_stand _ made.sources made.scripts (texts_of (values_of_letter TRIGGER command.values)) (replaces_priority made.items))
