-- The folders of names that are listed below a folder, and the files in them, may stand in a package.
use Rattle.std.proofs.Common.{◌≡◌, ◌≢◌, inl, inr, ℕ, ◌+◌, ◌^◌, ◌<◌, Bool, true, false, cond, if◌then◌else◌, List, [], ◌∷◌, ◌++◌, length, drop, map, bytes_eq, filter, Result, Ok, Err, refl, sym, ap, subst, ◌∙◌, append_assoc, arith}
use Rattle.std.specs.Prelude.{sum_by}
use Rattle.std.specs.List.{flat_map}
use Rattle.std.proofs.lemmas.Bool.{eqb-true}
use Rattle.std.proofs.lemmas.List.{drop_at, length-append}
use Rattle.std.proofs.lemmas.List.Sums.{sum_by-cons}
use Rattle.std.proofs.lemmas.Slice.Eq.{bytes_eq-Decides}
use Rattle.base_core.specs.Name.{is_name}
use Rattle.adb_copy.specs.adb_fields.FirstPair.{IsIn}
use Rattle.adb_copy.proofs.adb_fields.Members.{from-flat_map, from-map}
use Rattle.adb_copy.specs.adb_fields.Paths.{path_of}
use Rattle.pkg_core.specs.adb_schema.Rules.{is_valid_file_name_in_folder, is_folder_name}
use Rattle.package_files.specs.Folders.{FolderListing, prefixes_before_slashes, path_relative_to, tree_names_in_package_folder, all_folders_above, folder_of, folder_listings_by_tree_names, folders_above, is_slash, folder_listing_by_tree_names, last_part_of}
use Rattle.package_files.specs.Package.{SourceFileNameAndBytes, SourceFolder, kind_of_file, installed_size, size_of_folder, size_of_kind}
use Rattle.package_files.specs.Sources.{and_then, results_from_read, source_file_at_place_by_read, source_files_at_place_from_read, source_folder_at_place_by_read, source_folders_at_place_from_read, found_bytes_or_missing}
use Rattle.make_info.specs.Reads.{Reads}
use Rattle.make_info.specs.declared.fault.MakeFault.{MakeFault}
use Rattle.make_core.proofs.Apart.{AreApartFiles, IsApart, Rises, folder_names_of, in_order_in, in_order_rises, rises_apart, source_names}
use Rattle.make_core.proofs.NameParts.{folder_good, path_good, same_part, sides}
use Rattle.make_core.proofs.PackageFiles.{AreGoodFiles, AreGoodFolders}

-- names below a folder, each a name
abbrev pub AreListed : List ℕ → List (List ℕ) → Type 0
AreListed dir [] = Unit {0}
AreListed dir (name ∷ names) = ((path : List ℕ) × (name ≡ dir ++ 47 ∷ path) × (is_name name ≡ true)) × AreListed dir names

-- ---- a name and its path

pub below_is : (dir path : List ℕ) → path_relative_to dir (dir ++ 47 ∷ path) ≡ path
below_is dir path =
    ap (drop (length dir + 1)) (sym (append_assoc dir (47 ∷ []) path)) ∙ drop_at (dir ++ 47 ∷ []) path (length dir + 1) (omega (arith, length-append dir (47 ∷ [])))

pub record IsListed (dir name : List ℕ) : Type 0 where
  pub is : name ≡ dir ++ 47 ∷ path_relative_to dir name
  pub named : is_name (path_relative_to dir name) ≡ true

listed_name : (dir name path : List ℕ) → name ≡ dir ++ 47 ∷ path → is_name name ≡ true → IsListed dir name
listed_name dir name path is named =
    let same : path_relative_to dir name ≡ path = ap (path_relative_to dir) is ∙ below_is dir path in
    record {
      is = is ∙ ap (λ (p : List ℕ). dir ++ 47 ∷ p) (sym same);
      named = ap is_name same ∙ (sides dir path (ap is_name (sym is) ∙ named)).1;
    }

pub listed_in : (dir : List ℕ) (names : List (List ℕ)) (name : List ℕ) → AreListed dir names → IsIn name names → IsListed dir name
listed_in dir [] name all h = absurd h
listed_in dir (x ∷ xs) name all (inl is) = subst (IsListed dir) (sym is) (listed_name dir x all.0.0 all.0.1 all.0.2)
listed_in dir (x ∷ xs) name all (inr h) = listed_in dir xs name all.1 h

-- ---- folders

abbrev IsBefore : List ℕ → List ℕ → Type 0
IsBefore path f = (rest : List ℕ) × (path ≡ f ++ 47 ∷ rest)

one_more : (b : ℕ) (bs : List ℕ) → ((f : List ℕ) → IsIn f (prefixes_before_slashes bs) → IsBefore bs f) → (f : List ℕ) → IsIn f (map (λ folder. b ∷ folder) (prefixes_before_slashes bs)) → IsBefore (b ∷ bs) f
one_more b bs further f h =
    let (x, here, is) = from-map (λ folder. b ∷ folder) f (prefixes_before_slashes bs) h in
    let (rest, e) = further x here in
    (rest, ap (λ (xs : List ℕ). b ∷ xs) e ∙ ap (λ (xs : List ℕ). xs ++ 47 ∷ rest) (sym is))

at_byte : (b : ℕ) (bs : List ℕ) (c : Bool) → is_slash b ≡ c → ((f : List ℕ) → IsIn f (prefixes_before_slashes bs) → IsBefore bs f)
    → (f : List ℕ) → IsIn f (if c then [] ∷ map (λ folder. b ∷ folder) (prefixes_before_slashes bs) else map (λ folder. b ∷ folder) (prefixes_before_slashes bs)) → IsBefore (b ∷ bs) f
at_byte b bs false e further f h = one_more b bs further f h
at_byte b bs true e further f (inl is) = (bs, ap (λ (n : ℕ). n ∷ bs) (eqb-true b 47 e) ∙ ap (λ (xs : List ℕ). xs ++ 47 ∷ bs) (sym is))
at_byte b bs true e further f (inr h) = one_more b bs further f h

before_slash : (path f : List ℕ) → IsIn f (prefixes_before_slashes path) → IsBefore path f
before_slash [] f h = absurd h
before_slash (b ∷ bs) f h = at_byte b bs (is_slash b) refl (before_slash bs) f h

over_good : (path f : List ℕ) → is_name path ≡ true → IsIn f (folders_above path) → is_folder_name f ≡ true
over_good path f name (inl is) = ap is_folder_name is
over_good path f name (inr h) = let (rest, e) = before_slash path f h in folder_good f rest (ap is_name (sym e) ∙ name)

pub folder_named : (dir : List ℕ) (names : List (List ℕ)) (f : List ℕ) → AreListed dir names → IsIn f (all_folders_above (map (path_relative_to dir) names)) → is_folder_name f ≡ true
folder_named dir names f all h =
    let (path, at, over) = from-flat_map folders_above f (map (path_relative_to dir) names) (in_order_in f (flat_map folders_above (map (path_relative_to dir) names)) h) in
    let (name, here, is) = from-map (path_relative_to dir) path names at in
    over_good path f (ap is_name is ∙ (listed_in dir names name all here).named) over

-- ---- files

-- the names of a folder's files
abbrev pub AreFileNames : List ℕ → List (List ℕ) → Type 0
AreFileNames f [] = Unit {0}
AreFileNames f (part ∷ parts) = (is_valid_file_name_in_folder f part ≡ true) × AreFileNames f parts

abbrev pub stands_in : List ℕ → List ℕ → List ℕ → Bool
stands_in dir f name = bytes_eq (folder_of (path_relative_to dir name)) f

part_is : (dir name : List ℕ) → IsListed dir name → last_part_of name ≡ last_part_of (path_relative_to dir name)
part_is dir name l = ap last_part_of l.is ∙ same_part dir (path_relative_to dir name)

file_named : (dir f name : List ℕ) → IsListed dir name → stands_in dir f name ≡ true → is_valid_file_name_in_folder f (last_part_of name) ≡ true
file_named dir f name l here =
    let path : List ℕ = path_relative_to dir name in
    let folder : folder_of path ≡ f = (bytes_eq-Decides (folder_of path) f).0 here in
    let part = part_is dir name l in
    (λ k. is_valid_file_name_in_folder (sym folder k) (part k)) ∙ (path_good path l.named).good

pub recovered : (dir f name : List ℕ) → IsListed dir name → stands_in dir f name ≡ true → name ≡ dir ++ 47 ∷ path_of f (last_part_of name)
recovered dir f name l here =
    let path : List ℕ = path_relative_to dir name in
    let folder : folder_of path ≡ f = (bytes_eq-Decides (folder_of path) f).0 here in
    let part = part_is dir name l in
    let whole : path_of f (last_part_of name) ≡ path = (λ k. path_of (sym folder k) (part k)) ∙ (path_good path l.named).is in
    l.is ∙ ap (λ (p : List ℕ). dir ++ 47 ∷ p) (sym whole)

files_named : (dir f : List ℕ) (names : List (List ℕ)) → AreListed dir names → AreFileNames f (map last_part_of (tree_names_in_package_folder dir names f))
files_named dir f [] all = tt
files_named dir f (name ∷ names) all = by_folder (stands_in dir f name) refl (files_named dir f names all.1)
  where
    by_folder : (b : Bool) → stands_in dir f name ≡ b → AreFileNames f (map last_part_of (tree_names_in_package_folder dir names f)) → AreFileNames f (map last_part_of (cond b (name ∷ tree_names_in_package_folder dir names f) (tree_names_in_package_folder dir names f)))
    by_folder true e further = (file_named dir f name (listed_name dir name all.0.0 all.0.1 all.0.2) e, further)
    by_folder false e further = further

pub filter_in : (p : List ℕ → Bool) (z : List ℕ) (xs : List (List ℕ)) → IsIn z (filter p xs) → IsIn z xs × (p z ≡ true)
filter_in p z [] h = absurd h
filter_in p z (x ∷ xs) h = by_test (p x) refl (filter_in p z xs) h
  where
    by_test : (b : Bool) → p x ≡ b → (IsIn z (filter p xs) → IsIn z xs × (p z ≡ true)) → IsIn z (cond b (x ∷ filter p xs) (filter p xs)) → IsIn z (x ∷ xs) × (p z ≡ true)
    by_test true e further (inl is) = (inl is, ap p is ∙ e)
    by_test true e further (inr h) = let both = further h in (inr both.0, both.1)
    by_test false e further h = let both = further h in (inr both.0, both.1)

other_part : (dir f name : List ℕ) (names : List (List ℕ)) → IsListed dir name → AreListed dir names → stands_in dir f name ≡ true → ((q : List ℕ) → IsIn q names → name ≢ q)
    → (q : List ℕ) → IsIn q (map last_part_of (tree_names_in_package_folder dir names f)) → last_part_of name ≢ q
other_part dir f name names l all here apart q h same =
    let (z, at, is) = from-map last_part_of q (tree_names_in_package_folder dir names f) h in
    let both = filter_in (stands_in dir f) z names at in
    let one = recovered dir f name l here in
    let two = recovered dir f z (listed_in dir names z all both.0) both.1 in
    apart z both.0 (one ∙ (ap (λ (p : List ℕ). dir ++ 47 ∷ path_of f p) (same ∙ is) ∙ sym two))

files_apart : (dir f : List ℕ) (names : List (List ℕ)) → AreListed dir names → IsApart names → IsApart (map last_part_of (tree_names_in_package_folder dir names f))
files_apart dir f [] all apart = tt
files_apart dir f (name ∷ names) all apart = by_folder (stands_in dir f name) refl (files_apart dir f names all.1 apart.1)
  where
    by_folder : (b : Bool) → stands_in dir f name ≡ b → IsApart (map last_part_of (tree_names_in_package_folder dir names f)) → IsApart (map last_part_of (cond b (name ∷ tree_names_in_package_folder dir names f) (tree_names_in_package_folder dir names f)))
    by_folder true e further = (other_part dir f name names (listed_name dir name all.0.0 all.0.1 all.0.2) all.1 e apart.0, further)
    by_folder false e further = further

-- ---- what was read of them

pub record IsAfter {A B : Type 0} (r : Result A MakeFault) (next : A → Result B MakeFault) (y : B) : Type 0 where
  pub x : A
  pub is : r ≡ Ok x
  pub gives : next x ≡ Ok y

pub after_ok : {A B : Type 0} (r : Result A MakeFault) (next : A → Result B MakeFault) (y : B) → and_then r next ≡ Ok y → IsAfter r next y
after_ok (Ok x) next y e = record { x = x; is = refl; gives = e }
after_ok (Err f) next y e = absurd (cc (e))

-- one for each, in order
abbrev pub AllOf : {X Y : Type 0} → (X → Y → Type 0) → List X → List Y → Type 0
AllOf R [] [] = Unit {0}
AllOf R [] (y ∷ ys) = ⊥
AllOf R (x ∷ xs) [] = ⊥
AllOf R (x ∷ xs) (y ∷ ys) = R x y × AllOf R xs ys

pub each_read : {X Y : Type 0} (R : X → Y → Type 0) (count : X → ℕ) (of : ℕ → X → Result Y MakeFault) → ((n : ℕ) (x : X) (y : Y) → of n x ≡ Ok y → R x y)
    → (n : ℕ) (xs : List X) (ys : List Y) → results_from_read count of n xs ≡ Ok ys → AllOf R xs ys
each_read R count of h n [] ys e = let same : [] ≡ ys = cc (e) in subst (AllOf R []) same tt
each_read R count of h n (x ∷ xs) ys e =
    let one = after_ok (of n x) (λ y. and_then (results_from_read count of (n + count x) xs) (λ zs. Ok (y ∷ zs))) ys e in
    let two = after_ok (results_from_read count of (n + count x) xs) (λ zs. Ok (one.x ∷ zs)) ys one.gives in
    let gives = two.gives in
    let same : one.x ∷ two.x ≡ ys = cc (gives) in
    subst (AllOf R (x ∷ xs)) same (h n x one.x one.is, each_read R count of h (n + count x) xs two.x two.is)

abbrev IsFileOf : List ℕ → SourceFileNameAndBytes → Type 0
IsFileOf name file = file.name ≡ last_part_of name

file_read : (place : ℕ) (read : Reads) (n : ℕ) (name : List ℕ) (file : SourceFileNameAndBytes) → source_file_at_place_by_read place read n name ≡ Ok file → IsFileOf name file
file_read place read n name file e =
    let one = after_ok (found_bytes_or_missing place (read n name)) (λ bytes. Ok (record { name = last_part_of name; bytes = bytes })) file e in
    let gives = one.gives in
    let same : record { name = last_part_of name; bytes = one.x } ≡ file = cc (gives) in
    ap (λ (f : SourceFileNameAndBytes). f.name) (sym same)

names_read : (names : List (List ℕ)) (files : List SourceFileNameAndBytes) → AllOf IsFileOf names files → source_names files ≡ map last_part_of names
names_read [] [] h = refl
names_read [] (file ∷ files) h = absurd h
names_read (name ∷ names) [] h = absurd h
names_read (name ∷ names) (file ∷ files) h = λ k. h.0 k ∷ (names_read names files h.1) k

-- a folder and its files have their names
abbrev IsFolderOf : FolderListing → SourceFolder → Type 0
IsFolderOf l s = (s.name ≡ l.name) × (source_names s.files ≡ map last_part_of l.files)

folder_read : (place : ℕ) (read : Reads) (n : ℕ) (folder : FolderListing) (source : SourceFolder) → source_folder_at_place_by_read place read n folder ≡ Ok source → IsFolderOf folder source
folder_read place read n folder source e =
    let one = after_ok (source_files_at_place_from_read place read n folder.files) (λ files. Ok (record { name = folder.name; files = files })) source e in
    let gives = one.gives in
    let same : record { name = folder.name; files = one.x } ≡ source = cc (gives) in
    let names = names_read folder.files one.x (each_read IsFileOf (λ name. 1) (source_file_at_place_by_read place read) (file_read place read) n folder.files one.x one.is) in
    subst (IsFolderOf folder) same (refl, names)

abbrev AreOf : List FolderListing → List SourceFolder → Type 0
AreOf folders sources = AllOf IsFolderOf folders sources

folders_read : (place : ℕ) (read : Reads) (n : ℕ) (folders : List FolderListing) (sources : List SourceFolder) → source_folders_at_place_from_read place read n folders ≡ Ok sources → AreOf folders sources
folders_read place read n folders sources e =
    each_read IsFolderOf (λ (folder : FolderListing). length folder.files) (source_folder_at_place_by_read place read) (folder_read place read) n folders sources e

-- ---- so they may stand in a package

abbrev pub AreNamedFolders : List SourceFolder → Type 0
AreNamedFolders [] = Unit {0}
AreNamedFolders (s ∷ ss) = (is_folder_name s.name ≡ true) × AreFileNames s.name (source_names s.files) × AreNamedFolders ss

pub record AreSources (sources : List SourceFolder) : Type 0 where
  pub named : AreNamedFolders sources
  pub apart : IsApart (folder_names_of sources)
  pub files_apart : AreApartFiles sources

module _ (dir : List ℕ) (names : List (List ℕ)) where
  all_named : (fs : List (List ℕ)) (sources : List SourceFolder) → AreListed dir names → ((f : List ℕ) → IsIn f fs → is_folder_name f ≡ true) → AreOf (map (folder_listing_by_tree_names dir names) fs) sources → AreNamedFolders sources
  all_named [] [] all named are = tt
  all_named [] (s ∷ ss) all named are = absurd are
  all_named (f ∷ fs) [] all named are = absurd are
  all_named (f ∷ fs) (s ∷ ss) all named are = (
    ap is_folder_name are.0.0 ∙ named f (inl refl),
    subst (λ (g : List ℕ). AreFileNames g (source_names s.files)) (sym are.0.0) (subst (AreFileNames f) (sym are.0.1) (files_named dir f names all)),
    all_named fs ss all (λ g here. named g (inr here)) are.1,
  )

  all_apart : (fs : List (List ℕ)) (sources : List SourceFolder) → AreListed dir names → IsApart names → AreOf (map (folder_listing_by_tree_names dir names) fs) sources → AreApartFiles sources
  all_apart [] [] all apart are = tt
  all_apart [] (s ∷ ss) all apart are = absurd are
  all_apart (f ∷ fs) [] all apart are = absurd are
  all_apart (f ∷ fs) (s ∷ ss) all apart are = (subst IsApart (sym are.0.1) (files_apart dir f names all apart), all_apart fs ss all apart are.1)

  names_are : (fs : List (List ℕ)) (sources : List SourceFolder) → AreOf (map (folder_listing_by_tree_names dir names) fs) sources → folder_names_of sources ≡ fs
  names_are [] [] are = refl
  names_are [] (s ∷ ss) are = absurd are
  names_are (f ∷ fs) [] are = absurd are
  names_are (f ∷ fs) (s ∷ ss) are = λ k. are.0.0 k ∷ (names_are fs ss are.1) k

  pub sources_good : (place : ℕ) (read : Reads) (n : ℕ) (sources : List SourceFolder) → AreListed dir names → Rises names → source_folders_at_place_from_read place read n (folder_listings_by_tree_names dir names) ≡ Ok sources → AreSources sources
  unfolding folder_listings_by_tree_names
  sources_good place read n sources all rises e =
      let fs : List (List ℕ) = all_folders_above (map (path_relative_to dir) names) in
      let are = folders_read place read n (map (folder_listing_by_tree_names dir names) fs) sources e in
      record {
        named = all_named fs sources all (λ f here. folder_named dir names f all here) are;
        apart = subst IsApart (sym (names_are fs sources are)) (rises_apart fs (in_order_rises (flat_map folders_above (map (path_relative_to dir) names))));
        files_apart = all_apart fs sources all (rises_apart names rises) are;
      }

-- ---- where their sizes are small

abbrev file_size : SourceFileNameAndBytes → ℕ
file_size file = size_of_kind (kind_of_file file.bytes)

files_sized : (f : List ℕ) (files : List SourceFileNameAndBytes) → AreFileNames f (source_names files) → sum_by file_size files < 2 ^ 64 → AreGoodFiles f files
files_sized f [] named small = tt
files_sized f (file ∷ files) named small =
    let sum = sum_by-cons file_size file files in
    (named.0, omega arith, files_sized f files named.1 (omega arith))

pub folders_sized : (sources : List SourceFolder) → AreNamedFolders sources → installed_size sources < 2 ^ 64 → AreGoodFolders sources
folders_sized [] named small = tt
folders_sized (s ∷ ss) named small =
    let sum = sum_by-cons size_of_folder s ss in
    (named.0, files_sized s.name s.files named.1 (omega arith), folders_sized ss named.2 (omega arith))
