-- One more file, and one more folder, behind those that are packed.
use Rattle.std.proofs.Common.{◌≡◌, ℕ, zero, suc, ◌+◌, List, [], ◌∷◌, ◌++◌, length, map, take, drop, get_or, Vec, Bor, refl, sym, ap, ◌∙◌, subst, arith, append_assoc, append-nil, drop-cons, ◌<◌, ◌≤◌, take_all, slice_get, Some, Option, Result, Ok, Err}
use Rattle.std.proofs.lemmas.Option.{get_or_from_slice_get}
use Rattle.std.proofs.lemmas.List.{take-append-drop, take_more, length-map, get_or-map, length-append}
use Rattle.std.proofs.lemmas.Grind.{flat_map-append}
use Rattle.std.specs.declared.alloc.Global.{Global}
use Rattle.adb_sound.specs.pkg_core.Contents.{Contents}
use Rattle.package_files.specs.declared.file.File.{File}
use Rattle.package_files.specs.declared.file.Folder.{Folder}
use Rattle.package_files.specs.Blocks.{contents_block, contents_blocks}
use Rattle.package_files.specs.Package.{SourceFileNameAndBytes, SourceFolder, contents_of_file, contents_of_files, contents_of_folders, kind_of_file}
use Rattle.package_files.specs.Folders.{last_part_of, folder_listing_by_tree_names, all_folders_above, tree_names_in_package_folder, path_relative_to, folder_listings_by_tree_names, FolderListing}
use Rattle.package_files.specs.Packed.{IsFileFrom, AreFilesFrom, IsPackedFile, ArePackedFiles, IsFolderFrom, AreFoldersFrom, IsPackedFolder, ArePackedFolders}
use Rattle.package_files.specs.BorrowedNames.{listings_of, names_borrowed}
use Rattle.package_files.specs.Runs.{AgreesOrIsFault, HoldsOfSomeReadsOfTree}
use Rattle.package_files.specs.Sources.{found_bytes_or_missing, source_file_at_place_by_read, source_files_at_place_from_read, source_folder_at_place_by_read, source_folders_at_place_from_read, and_then}
use Rattle.make_info.specs.Reads.{Reads}
use Rattle.base_core.specs.Tree.{TreeState}
use Rattle.make_info.specs.declared.fault.MakeFault.{MakeFault}
use Rattle.package_files.specs.declared.file.FileKind.{FileKind}
use Rattle.package_files.proofs.ReadLemmas.{RestsOnOwn, fault_of_part, IsSoFar, IsNext, so_far_more, so_far_stops, total, each_rests}

files_more : (files : List File) (sources : List SourceFileNameAndBytes) (file : File) (source : SourceFileNameAndBytes) → AreFilesFrom files sources → IsFileFrom file source → AreFilesFrom (files ++ file ∷ []) (sources ++ source ∷ [])
files_more [] [] file source h i = (i, tt)
files_more [] (s ∷ ss) file source h i = absurd h
files_more (f ∷ fs) [] file source h i = absurd h
files_more (f ∷ fs) (s ∷ ss) file source h i = (h.0, files_more fs ss file source h.1 i)

as_many : (files : List File) (sources : List SourceFileNameAndBytes) → AreFilesFrom files sources → length files ≡ length sources
as_many [] [] h = refl
as_many [] (s ∷ ss) h = absurd h
as_many (f ∷ fs) [] h = absurd h
as_many (f ∷ fs) (s ∷ ss) h = ap suc (as_many fs ss h.1)

contents_more : (folder k m : ℕ) (sources : List SourceFileNameAndBytes) (source : SourceFileNameAndBytes) → m ≡ k + length sources
    → contents_of_files folder k (sources ++ source ∷ []) ≡ contents_of_files folder k sources ++ contents_of_file folder m source.bytes
contents_more folder k m [] source e =
    let same : m ≡ k = omega arith in
    append-nil (contents_of_file folder k source.bytes) ∙ ap (λ (i : ℕ). contents_of_file folder i source.bytes) (sym same)
contents_more folder k m (s ∷ ss) source e =
    ap (λ (l : List Contents). contents_of_file folder k s.bytes ++ l) (contents_more folder (k + 1) m ss source (omega arith))
    ∙ sym (append_assoc (contents_of_file folder k s.bytes) (contents_of_files folder (k + 1) ss) (contents_of_file folder m source.bytes))

blocks_more : (before mid later : List ℕ) (first second whole : List Contents) → mid ≡ before ++ contents_blocks first → later ≡ mid ++ contents_blocks second → whole ≡ first ++ second
    → later ≡ before ++ contents_blocks whole
blocks_more before mid later first second whole a b e =
    b ∙ ap (λ (l : List ℕ). l ++ contents_blocks second) a ∙ append_assoc before (contents_blocks first) (contents_blocks second)
    ∙ ap (λ (l : List ℕ). before ++ l) (sym (flat_map-append contents_block first second)) ∙ ap (λ (l : List Contents). before ++ contents_blocks l) (sym e)

pub packed_none : (folder : ℕ) (blocks : List ℕ) (files : Vec File Global) → files.items ≡ [] → ArePackedFiles folder blocks blocks files []
packed_none folder blocks files e = record {
  are = let P : List File → Type 0 = λ l. AreFilesFrom l [] in subst P (sym e) tt;
  blocks = sym (append-nil blocks);
}

pub packed_more : (folder i : ℕ) (before mid later : List ℕ) (files more_files : Vec File Global) (file : File) (sources : List SourceFileNameAndBytes) (source : SourceFileNameAndBytes)
    → length files.items ≡ i → more_files.items ≡ files.items ++ file ∷ [] → ArePackedFiles folder before mid files sources → IsPackedFile folder (i + 1) mid later file source
    → ArePackedFiles folder before later more_files (sources ++ source ∷ [])
packed_more folder i before mid later files more_files file sources source long e h p = record {
  are = let P : List File → Type 0 = λ l. AreFilesFrom l (sources ++ source ∷ []) in subst P (sym e) (files_more files.items sources file source h.are p.is);
  blocks = blocks_more before mid later (contents_of_files folder 1 sources) (contents_of_file folder (i + 1) source.bytes) (contents_of_files folder 1 (sources ++ source ∷ [])) h.blocks p.blocks
      (contents_more folder 1 (i + 1) sources source (let same = as_many files.items sources h.are in omega arith));
}

-- ---- a list of borrowed names, up to a place and from there on

abbrev pub now_of : List (Bor (List ℕ)) → List (List ℕ)
now_of names = map (λ name. name.now) names

pub names_more : (names : List (Bor (List ℕ))) (i : ℕ) (name : Bor (List ℕ)) → i < length names → name ≡ get_or names i name
    → take (i + 1) (now_of names) ≡ take i (now_of names) ++ name.now ∷ []
names_more names i name lt e =
    let long : length (now_of names) ≡ length names = length-map names (λ n. n.now) in
    let within : i < length (now_of names) = omega arith in
    take_more (now_of names) i [] within
    ∙ ap (λ (n : List ℕ). take i (now_of names) ++ n ∷ []) (get_or-map (λ n. n.now) names i name [] lt ∙ ap (λ (n : Bor (List ℕ)). n.now) (sym e))

pub names_split : (names : List (Bor (List ℕ))) (i : ℕ) (name : Bor (List ℕ)) → i < length names → name ≡ get_or names i name
    → take i (now_of names) ++ name.now ∷ drop (suc i) (now_of names) ≡ now_of names
names_split names i name lt e =
    let long : length (now_of names) ≡ length names = length-map names (λ n. n.now) in
    let within : i < length (now_of names) = omega arith in
    ap (λ (l : List (List ℕ)). take i (now_of names) ++ l)
    (ap (λ (n : List ℕ). n ∷ drop (suc i) (now_of names)) (ap (λ (n : Bor (List ℕ)). n.now) e ∙ sym (get_or-map (λ n. n.now) names i name [] lt)) ∙ sym (drop-cons (now_of names) i [] within))
    ∙ take-append-drop i (now_of names)

-- ---- one file

abbrev pub IsFound : Vec ℕ Global → List ℕ → Type 0
IsFound bytes found = found ≡ bytes.items

pub file_own : (place : ℕ) → RestsOnOwn (λ (name : List ℕ). 1) (source_file_at_place_by_read place)
file_own place f g n name h =
    ap (λ (o : Option (List ℕ)). and_then (found_bytes_or_missing place o) (λ bytes. let file : SourceFileNameAndBytes = record { name = last_part_of name; bytes = bytes } in Ok file)) (h n name (omega arith) (omega arith))

-- what was found stands in the blocks from a place on
abbrev pub IsFoundAt : List ℕ → ℕ → List ℕ → Type 0
IsFoundAt blocks at found = found ≡ drop at blocks

pub file_fault : (folder file : ℕ) (before mid later : List ℕ) (place : ℕ) (read : Reads) (n : ℕ) (name : List ℕ) (fault : MakeFault)
    → AgreesOrIsFault (IsFoundAt mid) (Err fault) (found_bytes_or_missing place (read n name)) → AgreesOrIsFault (IsPackedFile folder file before later) (Err fault) (source_file_at_place_by_read place read n name)
file_fault folder file before mid later place read n name fault h =
    fault_of_part (IsFoundAt mid) (IsPackedFile folder file before later) fault (found_bytes_or_missing place (read n name)) (λ bytes. Ok (record { name = last_part_of name; bytes = bytes })) h

pub packed_file_is : (folder file : ℕ) (before mid later : List ℕ) (place : ℕ) (read : Reads) (n : ℕ) (name : List ℕ) (at : ℕ) (part : Bor (List ℕ)) (kind : FileKind)
    → part.now ≡ last_part_of name → kind ≡ kind_of_file (drop at mid) → later ≡ before ++ contents_blocks (contents_of_file folder file (drop at mid))
    → AgreesOrIsFault (IsFoundAt mid) (Ok at) (found_bytes_or_missing place (read n name)) → AgreesOrIsFault (IsPackedFile folder file before later) (Ok (record { name = part; kind = kind })) (source_file_at_place_by_read place read n name)
packed_file_is folder file before mid later place read n name at part kind p k b h = (
  record { name = last_part_of name; bytes = h.0 },
  ap (λ (r : Result (List ℕ) MakeFault). and_then r (λ bytes. let file : SourceFileNameAndBytes = record { name = last_part_of name; bytes = bytes } in Ok file)) h.1,
  record {
    is = record { name = p; kind = k ∙ ap kind_of_file (sym h.2) };
    blocks = b ∙ ap (λ (l : List ℕ). before ++ contents_blocks (contents_of_file folder file l)) (sym h.2);
  },
)

pub count_more : (xs ys : List File) (x : File) (i : ℕ) → ys ≡ xs ++ x ∷ [] → length xs ≡ i → length ys ≡ i + 1
count_more xs ys x i e h = ap length e ∙ length-append xs (x ∷ []) ∙ ap (λ (n : ℕ). n + 1) h

-- ---- a loop over files

pub files_go_on : (told : List TreeState) (place : ℕ) (names : List (Bor (List ℕ))) (i : ℕ) (name : Bor (List ℕ)) (R R' : List SourceFileNameAndBytes → Type 0) (S : File → SourceFileNameAndBytes → Type 0) (file : File)
    → i < length names → name ≡ get_or names i name → IsSoFar told (λ (name : List ℕ). 1) (source_file_at_place_by_read place) (take i (now_of names)) R → IsNext told (source_file_at_place_by_read place) name.now S (Ok file)
    → ((ys : List SourceFileNameAndBytes) (y : SourceFileNameAndBytes) → R ys → S file y → R' (ys ++ y ∷ [])) → IsSoFar told (λ (name : List ℕ). 1) (source_file_at_place_by_read place) (take (i + 1) (now_of names)) R'
files_go_on told place names i name R R' S file lt e so_far next grows =
    let P : List (List ℕ) → Type 0 = λ xs. IsSoFar told (λ (name : List ℕ). 1) (source_file_at_place_by_read place) xs R' in
    subst P (sym (names_more names i name lt e)) (so_far_more told (λ (name : List ℕ). 1) (source_file_at_place_by_read place) (file_own place) (take i (now_of names)) name.now R R' S file so_far next grows)

pub files_stop : {A : Type 0} (told : List TreeState) (place : ℕ) (names : List (Bor (List ℕ))) (i : ℕ) (name : Bor (List ℕ)) (R : List SourceFileNameAndBytes → Type 0) (S : File → SourceFileNameAndBytes → Type 0) (T : A → List SourceFileNameAndBytes → Type 0) (fault : MakeFault)
    → i < length names → name ≡ get_or names i name → IsSoFar told (λ (name : List ℕ). 1) (source_file_at_place_by_read place) (take i (now_of names)) R → IsNext told (source_file_at_place_by_read place) name.now S (Err fault)
    → (n : ℕ) → HoldsOfSomeReadsOfTree told (λ read. AgreesOrIsFault T (Err fault) (source_files_at_place_from_read place read n (now_of names)))
files_stop {A} told place names i name R S T fault lt e so_far next n =
    let P : List (List ℕ) → Type 0 = λ xs. HoldsOfSomeReadsOfTree told (λ read. AgreesOrIsFault T (Err fault) (source_files_at_place_from_read place read n xs)) in
    subst P (names_split names i name lt e) (so_far_stops told (λ (name : List ℕ). 1) (source_file_at_place_by_read place) (file_own place) (take i (now_of names)) name.now (drop (suc i) (now_of names)) R S T fault so_far next n)

pub names_whole : (names : List (Bor (List ℕ))) (i : ℕ) → length names ≤ i → take i (now_of names) ≡ now_of names
names_whole names i le = take_all i (now_of names) (let long : length (now_of names) ≡ length names = length-map names (λ n. n.now) in omega arith)

-- ---- one folder

total_ones : {X : Type 0} (xs : List X) → total (λ (x : X). 1) xs ≡ length xs
total_ones [] = refl
total_ones (x ∷ xs) = let further = total_ones xs in omega arith

abbrev with_name : List ℕ → List SourceFileNameAndBytes → Result SourceFolder MakeFault
with_name name files = Ok (record { name = name; files = files })

abbrev pub reads_in : FolderListing → ℕ
reads_in folder = length folder.files

pub folder_own : (place : ℕ) → RestsOnOwn reads_in (source_folder_at_place_by_read place)
folder_own place f g n folder h =
    let ones = total_ones folder.files in
    ap (λ (r : Result (List SourceFileNameAndBytes) MakeFault). and_then r (with_name folder.name))
    (each_rests (λ (name : List ℕ). 1) (source_file_at_place_by_read place) (file_own place) f g n folder.files (λ m name lo hi. h m name lo (omega arith)))

pub folder_fault : (position : ℕ) (before later : List ℕ) (place : ℕ) (read : Reads) (n : ℕ) (folder : FolderListing) (fault : MakeFault)
    → AgreesOrIsFault (ArePackedFiles position before later) (Err fault) (source_files_at_place_from_read place read n folder.files) → AgreesOrIsFault (IsPackedFolder position before later) (Err fault) (source_folder_at_place_by_read place read n folder)
folder_fault position before later place read n folder fault h =
    fault_of_part (ArePackedFiles position before later) (IsPackedFolder position before later) fault (source_files_at_place_from_read place read n folder.files) (with_name folder.name) h

pub packed_folder_is : (position : ℕ) (before later : List ℕ) (place : ℕ) (read : Reads) (n : ℕ) (name : Bor (List ℕ)) (names : List (List ℕ)) (files : Vec File Global)
    → AgreesOrIsFault (ArePackedFiles position before later) (Ok files) (source_files_at_place_from_read place read n names)
    → AgreesOrIsFault (IsPackedFolder position before later) (Ok (record { name = name; files = files })) (source_folder_at_place_by_read place read n (record { name = name.now; files = names }))
packed_folder_is position before later place read n name names files h = (
  record { name = name.now; files = h.0 },
  ap (λ (r : Result (List SourceFileNameAndBytes) MakeFault). and_then r (with_name name.now)) h.1,
  record { is = record { name = refl; files = h.2.are }; blocks = h.2.blocks },
)

folders_more : (folders : List Folder) (sources : List SourceFolder) (folder : Folder) (source : SourceFolder) → AreFoldersFrom folders sources → IsFolderFrom folder source
    → AreFoldersFrom (folders ++ folder ∷ []) (sources ++ source ∷ [])
folders_more [] [] folder source h i = (i, tt)
folders_more [] (s ∷ ss) folder source h i = absurd h
folders_more (f ∷ fs) [] folder source h i = absurd h
folders_more (f ∷ fs) (s ∷ ss) folder source h i = (h.0, folders_more fs ss folder source h.1 i)

folders_many : (folders : List Folder) (sources : List SourceFolder) → AreFoldersFrom folders sources → length folders ≡ length sources
folders_many [] [] h = refl
folders_many [] (s ∷ ss) h = absurd h
folders_many (f ∷ fs) [] h = absurd h
folders_many (f ∷ fs) (s ∷ ss) h = ap suc (folders_many fs ss h.1)

all_more : (k m : ℕ) (sources : List SourceFolder) (source : SourceFolder) → m ≡ k + length sources
    → contents_of_folders k (sources ++ source ∷ []) ≡ contents_of_folders k sources ++ contents_of_files m 1 source.files
all_more k m [] source e =
    let same : m ≡ k = omega arith in
    append-nil (contents_of_files k 1 source.files) ∙ ap (λ (i : ℕ). contents_of_files i 1 source.files) (sym same)
all_more k m (s ∷ ss) source e =
    ap (λ (l : List Contents). contents_of_files k 1 s.files ++ l) (all_more (k + 1) m ss source (omega arith))
    ∙ sym (append_assoc (contents_of_files k 1 s.files) (contents_of_folders (k + 1) ss) (contents_of_files m 1 source.files))

pub folders_none : (blocks : List ℕ) (folders : Vec Folder Global) → blocks ≡ [] → folders.items ≡ [] → ArePackedFolders blocks folders []
folders_none blocks folders b e = record {
  are = let P : List Folder → Type 0 = λ l. AreFoldersFrom l [] in subst P (sym e) tt;
  blocks = b;
}

pub folders_packed_more : (i : ℕ) (mid later : List ℕ) (folders more_folders : Vec Folder Global) (folder : Folder) (sources : List SourceFolder) (source : SourceFolder)
    → length folders.items ≡ i → more_folders.items ≡ folders.items ++ folder ∷ [] → ArePackedFolders mid folders sources → IsPackedFolder (i + 1) mid later folder source
    → ArePackedFolders later more_folders (sources ++ source ∷ [])
folders_packed_more i mid later folders more_folders folder sources source long e h p = record {
  are = let P : List Folder → Type 0 = λ l. AreFoldersFrom l (sources ++ source ∷ []) in subst P (sym e) (folders_more folders.items sources folder source h.are p.is);
  blocks = blocks_more [] mid later (contents_of_folders 1 sources) (contents_of_files (i + 1) 1 source.files) (contents_of_folders 1 (sources ++ source ∷ [])) h.blocks p.blocks
      (all_more 1 (i + 1) sources source (let same = folders_many folders.items sources h.are in omega arith));
}

pub folder_count_more : (xs ys : List Folder) (x : Folder) (i : ℕ) → ys ≡ xs ++ x ∷ [] → length xs ≡ i → length ys ≡ i + 1
folder_count_more xs ys x i e h = ap length e ∙ length-append xs (x ∷ []) ∙ ap (λ (n : ℕ). n + 1) h

-- ---- a loop over folders

listed_get : (folders : List (List ℕ)) (files : List (Vec (Bor (List ℕ)) Global)) (i : ℕ) (names : Vec (Bor (List ℕ)) Global) (d : FolderListing) → length files ≡ length folders → i < length folders
    → get_or (listings_of folders files) i d ≡ record { name = get_or folders i []; files = names_borrowed (get_or files i names) }
listed_get [] files i names d e lt = absurd (omega arith)
listed_get (f ∷ fs) [] i names d e lt = absurd (cc)
listed_get (f ∷ fs) (v ∷ vs) zero names d e lt = refl
listed_get (f ∷ fs) (v ∷ vs) (suc i) names d e lt = listed_get fs vs i names d (let same : suc (length vs) ≡ suc (length fs) = e in omega arith) (omega arith)

listed_long : (folders : List (List ℕ)) (files : List (Vec (Bor (List ℕ)) Global)) → length files ≡ length folders → length (listings_of folders files) ≡ length folders
listed_long [] files e = refl
listed_long (f ∷ fs) [] e = absurd (cc)
listed_long (f ∷ fs) (v ∷ vs) e = ap suc (listed_long fs vs (let same : suc (length vs) ≡ suc (length fs) = e in omega arith))

pub listed_here : (folders : List (List ℕ)) (files : List (Vec (Bor (List ℕ)) Global)) (i : ℕ) (folder : List ℕ) (names : Vec (Bor (List ℕ)) Global) (given : List (Bor (List ℕ))) (d : FolderListing)
    → length files ≡ length folders → i < length folders → slice_get folders i ≡ Some folder → names ≡ get_or files i names → given ≡ names.items
    → record { name = folder; files = now_of given } ≡ get_or (listings_of folders files) i d
listed_here folders files i folder names given d long lt here e same =
    let name : get_or folders i [] ≡ folder = get_or_from_slice_get folders i folder [] here in
    let files_is : now_of given ≡ names_borrowed (get_or files i names) = ap now_of same ∙ ap names_borrowed e in
    (λ j. let l : FolderListing = record { name = sym name j; files = files_is j } in l) ∙ sym (listed_get folders files i names d long lt)

pub folders_go_on : (told : List TreeState) (place : ℕ) (all : List FolderListing) (i : ℕ) (one : FolderListing) (R R' : List SourceFolder → Type 0) (S : Folder → SourceFolder → Type 0) (folder : Folder)
    → i < length all → one ≡ get_or all i one → IsSoFar told reads_in (source_folder_at_place_by_read place) (take i all) R → IsNext told (source_folder_at_place_by_read place) one S (Ok folder)
    → ((ys : List SourceFolder) (y : SourceFolder) → R ys → S folder y → R' (ys ++ y ∷ [])) → IsSoFar told reads_in (source_folder_at_place_by_read place) (take (i + 1) all) R'
folders_go_on told place all i one R R' S folder lt e so_far next grows =
    let P : List FolderListing → Type 0 = λ xs. IsSoFar told reads_in (source_folder_at_place_by_read place) xs R' in
    subst P (sym (take_more all i one lt ∙ ap (λ (x : FolderListing). take i all ++ x ∷ []) (sym e)))
    (so_far_more told reads_in (source_folder_at_place_by_read place) (folder_own place) (take i all) one R R' S folder so_far next grows)

pub folders_stop : {A : Type 0} (told : List TreeState) (place : ℕ) (all : List FolderListing) (i : ℕ) (one : FolderListing) (R : List SourceFolder → Type 0) (S : Folder → SourceFolder → Type 0) (T : A → List SourceFolder → Type 0) (fault : MakeFault)
    → i < length all → one ≡ get_or all i one → IsSoFar told reads_in (source_folder_at_place_by_read place) (take i all) R → IsNext told (source_folder_at_place_by_read place) one S (Err fault)
    → (n : ℕ) → HoldsOfSomeReadsOfTree told (λ read. AgreesOrIsFault T (Err fault) (source_folders_at_place_from_read place read n all))
folders_stop {A} told place all i one R S T fault lt e so_far next n =
    let P : List FolderListing → Type 0 = λ xs. HoldsOfSomeReadsOfTree told (λ read. AgreesOrIsFault T (Err fault) (source_folders_at_place_from_read place read n xs)) in
    subst P (ap (λ (l : List FolderListing). take i all ++ l) (ap (λ (x : FolderListing). x ∷ drop (suc i) all) e ∙ sym (drop-cons all i one lt)) ∙ take-append-drop i all)
    (so_far_stops told reads_in (source_folder_at_place_by_read place) (folder_own place) (take i all) one (drop (suc i) all) R S T fault so_far next n)

pub listed_within : (folders : List (List ℕ)) (files : List (Vec (Bor (List ℕ)) Global)) (i : ℕ) → length files ≡ length folders → i < length folders → i < length (listings_of folders files)
listed_within folders files i e lt = let long = listed_long folders files e in omega arith

pub listed_whole : (folders : List (List ℕ)) (files : List (Vec (Bor (List ℕ)) Global)) (i : ℕ) → length files ≡ length folders → length folders ≤ i → take i (listings_of folders files) ≡ listings_of folders files
listed_whole folders files i e le = take_all i (listings_of folders files) (let long = listed_long folders files e in omega arith)

-- ---- the folders of listed names

listed_with : (dir : List ℕ) (names folders : List (List ℕ)) (files : List (Vec (Bor (List ℕ)) Global)) → map names_borrowed files ≡ map (tree_names_in_package_folder dir names) folders
    → listings_of folders files ≡ map (folder_listing_by_tree_names dir names) folders
listed_with dir names [] files e = refl
listed_with dir names (f ∷ fs) [] e = absurd (cc)
listed_with dir names (f ∷ fs) (v ∷ vs) e =
    let here : names_borrowed v ≡ tree_names_in_package_folder dir names f = cc in
    let rest : map names_borrowed vs ≡ map (tree_names_in_package_folder dir names) fs = cc in
    λ j. let l : FolderListing = record { name = f; files = here j } in l ∷ listed_with dir names fs vs rest j

pub listed_folders : (dir : List ℕ) (names folders : List (List ℕ)) (files given : List (Vec (Bor (List ℕ)) Global)) → folders ≡ all_folders_above (map (path_relative_to dir) names)
    → map names_borrowed files ≡ map (tree_names_in_package_folder dir names) folders → given ≡ files → listings_of folders given ≡ folder_listings_by_tree_names dir names
unfolding folder_listings_by_tree_names
listed_folders dir names folders files given e f same =
    ap (listings_of folders) same ∙ listed_with dir names folders files f ∙ ap (map (folder_listing_by_tree_names dir names)) e

pub listed_as_many : (dir : List ℕ) (names folders : List (List ℕ)) (files given : List (Vec (Bor (List ℕ)) Global)) → map names_borrowed files ≡ map (tree_names_in_package_folder dir names) folders → given ≡ files
    → length given ≡ length folders
listed_as_many dir names folders files given f same =
    ap length same ∙ sym (length-map files names_borrowed) ∙ ap length f ∙ length-map folders (tree_names_in_package_folder dir names)
