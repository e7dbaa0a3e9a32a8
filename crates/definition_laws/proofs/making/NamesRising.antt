-- The folders of a package and the files of each stand in byte order.
use Rattle.command_core.specs.declared.values.TheConstants.{FILES}
use Rattle.std.proofs.Common.{◌≡◌, inl, inr, ℕ, Bool, true, false, cond, List, [], ◌∷◌, ◌++◌, length, map, Ok, refl, ap, sym, subst, ◌∙◌, arith}
use Rattle.std.specs.Prelude.{All}
use Rattle.std.specs.Cmp.{nat_cmp_is}
use Rattle.std.specs.Ordering.{nat_cmp, ordering_then}
use Rattle.std.specs.declared.cmp.Ordering.{Ordering}
use Rattle.std.specs.declared.cmp.Ordering.TheVariants.{Less, Equal}
use Rattle.std.specs.List.{flat_map}
use Rattle.std.proofs.lemmas.List.Elements.{All-cons, All-nil}
use Rattle.std.proofs.lemmas.List.Kept.{AllPairs-cons}
use Rattle.make_core.specs.adb_fields.FirstPair.{IsIn}
use Rattle.make_core.proofs.adb_fields.Members.{from-map}
use Rattle.make_core.specs.adb_fields.Paths.{path_of}
use Rattle.make_core.specs.adb_fields.Repeated.{files_in, name_of}
use Rattle.adb_view.specs.Plain.{Plain}
use Rattle.base_core.specs.Listed.{AreSortedDistinctTexts}
use Rattle.command_core.specs.Command.{CommandLine}
use Rattle.command_core.specs.Files.{without_one_leading_dot_slash}
use Rattle.command_core.specs.declared.values.OptionValue.{OptionValue}
use Rattle.make_core.specs.make_info.Reads.{Reads}
use Rattle.make_core.specs.package_files.Folders.{FolderListing, all_folders_above, folder_listings_by_tree_names, folders_above, last_part_of, folder_listing_by_tree_names, tree_names_in_package_folder, path_relative_to}
use Rattle.make_core.specs.package_files.Package.{SourceFileNameAndBytes, SourceFolder, kind_of_file, value_of_file, value_of_folder}
use Rattle.make_core.specs.package_files.Sources.{AreSortedAndEachBelowFirstFolder, source_file_at_place_by_read, source_folder_at_place_by_read, source_folders_of_first_option_only, found_bytes_or_missing, source_folders_at_place_from_read, source_files_at_place_from_read, values_of_letter}
use Rattle.make_core.proofs.Apart.{Rises, cmp, in_order_rises, rises_from_pairs}
use Rattle.make_core.proofs.ListedNames.{AllOf, AreListed, after_ok, each_read, filter_in, listed_in, recovered, stands_in}
use Rattle.make_core.proofs.PackageFiles.{files_stand, folder_name_stands, name_stands}
use Rattle.make_core.proofs.SoundPackage.{are_listed}
use Rattle.definition_laws.specs.making.MadePackages.{HasFoldersAndFilesInByteOrder}
use Rattle.definition_laws.proofs.making.MadeFrom.{IsMadeFrom, folders_are}

-- ---- names that rise

all_from_in : {A : Type 0} (P : A → Type 0) (xs : List A) → ((q : A) → IsIn q xs → P q) → All P xs
all_from_in P [] h = All-nil P
all_from_in P (x ∷ xs) h = All-cons P x xs (h x (inl refl)) (all_from_in P xs (λ q here. h q (inr here)))

pub pairs_rise : (xs : List (List ℕ)) → Rises xs → AreSortedDistinctTexts xs
pairs_rise [] r = λ i j d lt below. absurd (omega arith)
pairs_rise (x ∷ xs) r = AllPairs-cons (λ a b. cmp a b ≡ Less) x xs (all_from_in (λ q. cmp x q ≡ Less) xs r.0) (pairs_rise xs r.1)

same_byte : (b : ℕ) → nat_cmp b b ≡ Equal
same_byte b = sym (nat_cmp_is b b Equal refl)

same_front : (front a b : List ℕ) → cmp (front ++ a) (front ++ b) ≡ cmp a b
same_front [] a b = refl
same_front (x ∷ front) a b = ap (λ (o : Ordering). ordering_then o (cmp (front ++ a) (front ++ b))) (same_byte x) ∙ same_front front a b

same_folder : (f a b : List ℕ) → cmp (path_of f a) (path_of f b) ≡ cmp a b
same_folder [] a b = refl
same_folder (x ∷ f) a b = same_front (x ∷ f) (47 ∷ a) (47 ∷ b) ∙ same_front (47 ∷ []) a b

-- ---- the names of a folder's files

part_less : (dir f name z : List ℕ) → name ≡ dir ++ 47 ∷ path_of f (last_part_of name) → z ≡ dir ++ 47 ∷ path_of f (last_part_of z) → cmp name z ≡ Less → cmp (last_part_of name) (last_part_of z) ≡ Less
part_less dir f name z one two less =
    let a : List ℕ = last_part_of name in
    let b : List ℕ = last_part_of z in
    sym (same_folder f a b)
    ∙ (sym (same_front (47 ∷ []) (path_of f a) (path_of f b))
    ∙ (sym (same_front dir (47 ∷ path_of f a) (47 ∷ path_of f b))
    ∙ ((λ k. cmp (sym one k) (sym two k)) ∙ less)))

module _ (dir f : List ℕ) where
  others_later : (name : List ℕ) (names : List (List ℕ)) → name ≡ dir ++ 47 ∷ path_of f (last_part_of name) → AreListed dir names → ((q : List ℕ) → IsIn q names → cmp name q ≡ Less)
      → (q : List ℕ) → IsIn q (map last_part_of (tree_names_in_package_folder dir names f)) → cmp (last_part_of name) q ≡ Less
  others_later name names one all later q h =
      let (z, at, is) = from-map last_part_of q (tree_names_in_package_folder dir names f) h in
      let both = filter_in (stands_in dir f) z names at in
      let two = recovered dir f z (listed_in dir names z all both.0) both.1 in
      subst (λ (p : List ℕ). cmp (last_part_of name) p ≡ Less) (sym is) (part_less dir f name z one two (later z both.0))

  parts_rise : (names : List (List ℕ)) → AreListed dir names → Rises names → Rises (map last_part_of (tree_names_in_package_folder dir names f))
  parts_rise [] all rises = tt
  parts_rise (name ∷ names) all rises = by_folder (stands_in dir f name) refl (parts_rise names all.1 rises.1)
    where
      by_folder : (b : Bool) → stands_in dir f name ≡ b → Rises (map last_part_of (tree_names_in_package_folder dir names f)) → Rises (map last_part_of (cond b (name ∷ tree_names_in_package_folder dir names f) (tree_names_in_package_folder dir names f)))
      by_folder true e further =
          (others_later name names (recovered dir f name (listed_in dir (name ∷ names) name all (inl refl)) e) all.1 rises.0, further)
      by_folder false e further = further

-- ---- the sources that are read of them

abbrev file_names : List SourceFileNameAndBytes → List (List ℕ)
file_names files = map (λ (file : SourceFileNameAndBytes). file.name) files

abbrev IsFileNamed : List ℕ → SourceFileNameAndBytes → Type 0
IsFileNamed name file = file.name ≡ last_part_of name

abbrev IsFolderNamed : FolderListing → SourceFolder → Type 0
IsFolderNamed l s = (s.name ≡ l.name) × (file_names s.files ≡ map last_part_of l.files)

module _ (place : ℕ) (read : Reads) where
  file_named : (n : ℕ) (name : List ℕ) (file : SourceFileNameAndBytes) → source_file_at_place_by_read place read n name ≡ Ok file → IsFileNamed name file
  file_named n name file e =
      let one = after_ok (found_bytes_or_missing place (read n name)) (λ bytes. Ok (record { name = last_part_of name; bytes = bytes })) file e in
      let gives = one.gives in
      let same : record { name = last_part_of name; bytes = one.x } ≡ file = cc (gives) in
      ap (λ (f : SourceFileNameAndBytes). f.name) (sym same)

  names_are : (names : List (List ℕ)) (files : List SourceFileNameAndBytes) → AllOf IsFileNamed names files → file_names files ≡ map last_part_of names
  names_are [] [] h = refl
  names_are [] (file ∷ files) h = absurd h
  names_are (name ∷ names) [] h = absurd h
  names_are (name ∷ names) (file ∷ files) h = λ k. h.0 k ∷ (names_are names files h.1) k

  folder_named : (n : ℕ) (folder : FolderListing) (source : SourceFolder) → source_folder_at_place_by_read place read n folder ≡ Ok source → IsFolderNamed folder source
  folder_named n folder source e =
      let one = after_ok (source_files_at_place_from_read place read n folder.files) (λ files. Ok (record { name = folder.name; files = files })) source e in
      let gives = one.gives in
      let same : record { name = folder.name; files = one.x } ≡ source = cc (gives) in
      subst (IsFolderNamed folder) same (refl, names_are folder.files one.x (each_read IsFileNamed (λ name. 1) (source_file_at_place_by_read place read) file_named n folder.files one.x one.is))

  pub folders_named : (n : ℕ) (folders : List FolderListing) (sources : List SourceFolder) → source_folders_at_place_from_read place read n folders ≡ Ok sources → AllOf IsFolderNamed folders sources
  folders_named n folders sources e =
      each_read IsFolderNamed (λ (folder : FolderListing). length folder.files) (source_folder_at_place_by_read place read) folder_named n folders sources e

-- ---- in the package's value

abbrev names_of : List SourceFolder → List (List ℕ)
names_of sources = map (λ (s : SourceFolder). s.name) sources

pub folder_names_stand : (sources : List SourceFolder) → map name_of (map value_of_folder sources) ≡ names_of sources
folder_names_stand [] = refl
folder_names_stand (s ∷ ss) = λ k. folder_name_stands s k ∷ folder_names_stand ss k

file_names_stand : (files : List SourceFileNameAndBytes) → map name_of (map value_of_file files) ≡ file_names files
file_names_stand [] = refl
file_names_stand (file ∷ files) = λ k. name_stands file.name (kind_of_file file.bytes) k ∷ file_names_stand files k

pub listed_names : (dir : List ℕ) (names fs : List (List ℕ)) (sources : List SourceFolder) → AllOf IsFolderNamed (map (folder_listing_by_tree_names dir names) fs) sources → names_of sources ≡ fs
listed_names dir names [] [] h = refl
listed_names dir names [] (s ∷ ss) h = absurd h
listed_names dir names (f ∷ fs) [] h = absurd h
listed_names dir names (f ∷ fs) (s ∷ ss) h = λ k. h.0.0 k ∷ listed_names dir names fs ss h.1 k

abbrev HasFilesRising : Plain → Type 0
HasFilesRising folder = AreSortedDistinctTexts (map name_of (files_in folder))

files_rise : (dir : List ℕ) (names fs : List (List ℕ)) (sources : List SourceFolder) → AreListed dir names → Rises names → AllOf IsFolderNamed (map (folder_listing_by_tree_names dir names) fs) sources → All HasFilesRising (map value_of_folder sources)
files_rise dir names [] [] all rises h = All-nil HasFilesRising
files_rise dir names [] (s ∷ ss) all rises h = absurd h
files_rise dir names (f ∷ fs) [] all rises h = absurd h
files_rise dir names (f ∷ fs) (s ∷ ss) all rises h =
    All-cons HasFilesRising (value_of_folder s) (map value_of_folder ss)
    (subst AreSortedDistinctTexts (sym (ap (map name_of) (files_stand s) ∙ (file_names_stand s.files ∙ h.0.1))) (pairs_rise _ (parts_rise dir f names all rises)))
    (files_rise dir names fs ss all rises h.1)

abbrev AreInOrder : List SourceFolder → Type 0
AreInOrder sources = AreSortedDistinctTexts (names_of sources) × All HasFilesRising (map value_of_folder sources)

sources_in_order : (read : Reads) (n : ℕ) (values : List OptionValue) (names : List (List ℕ)) (sources : List SourceFolder) → AreSortedAndEachBelowFirstFolder values names → source_folders_of_first_option_only read n values names ≡ Ok sources → AreInOrder sources
unfolding folder_listings_by_tree_names
sources_in_order read n [] names sources below e =
    let same : [] ≡ sources = cc (e) in
    subst AreInOrder same (pairs_rise [] tt, All-nil HasFilesRising)
sources_in_order read n (v ∷ vs) names sources below e =
    let dir : List ℕ = without_one_leading_dot_slash v.text in
    let fs : List (List ℕ) = all_folders_above (map (path_relative_to dir) names) in
    let are = folders_named v.place read n (map (folder_listing_by_tree_names dir names) fs) sources e in (
      subst AreSortedDistinctTexts (sym (listed_names dir names fs sources are)) (pairs_rise fs (in_order_rises (flat_map folders_above (map (path_relative_to dir) names)))),
      files_rise dir names fs sources (are_listed dir names below.each) (rises_from_pairs names below.rising) are,
    )

pub in_byte_order : (command : CommandLine) (names : List (List ℕ)) (read : Reads) (pkg : Plain) → AreSortedAndEachBelowFirstFolder (values_of_letter FILES command.values) names → IsMadeFrom command names read pkg → HasFoldersAndFilesInByteOrder pkg
in_byte_order command names read pkg below m =
    let are = folders_are command names read pkg m in
    let order = sources_in_order read (length m.scripts) (values_of_letter FILES command.values) names m.sources below m.sources_read in
    record {
      folders = subst AreSortedDistinctTexts (sym (ap (map name_of) are ∙ folder_names_stand m.sources)) order.0;
      files = subst (All HasFilesRising) (sym are) order.1;
    }
