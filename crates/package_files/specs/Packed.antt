-- Packed folders and files as values of the program, and their plain values.
-- No document has a rule for this: it serves the contracts of `src/packing.rt` and of `make_core`;
-- *Package* defines the same of what was read.
use Rattle.std.specs.Prelude.{◌≡◌, ℕ, List, [], ◌∷◌, ◌++◌, map, sum_by, Vec}
use Rattle.std.specs.declared.alloc.Global.{Global}
use Rattle.adb_view.specs.Plain.{Plain}
use Rattle.package_files.specs.declared.file.File.{File}
use Rattle.package_files.specs.declared.file.Folder.{Folder}
use Rattle.package_files.specs.declared.file.Packing.{Packing}
use Rattle.package_files.specs.Package.{SourceFileNameAndBytes, SourceFolder, kind_of_file, value_of_kind, size_of_kind, folder_with, contents_of_file, contents_of_files, contents_of_folders}
use Rattle.package_files.specs.Blocks.{contents_blocks}

-- the entry of a file that was packed
abbrev pub packed_file : File → Plain
packed_file file = value_of_kind file.name.now file.kind

-- the entry of a folder that was packed, with those of its files
abbrev pub packed_folder : Folder → Plain
packed_folder folder = folder_with folder.name.now (map packed_file folder.files.items)

-- the sum of the sizes of files that were packed
abbrev pub files_size : List File → ℕ
files_size files = sum_by (λ (file : File). size_of_kind file.kind) files

-- the sum of the sizes of all files of folders that were packed
abbrev pub installed_size_of_folders : List Folder → ℕ
installed_size_of_folders folders = sum_by (λ (folder : Folder). files_size folder.files.items) folders

-- the packed file `file` is made of the source file: it has the same name, and the kind that follows from
-- the source's bytes
pub record IsFileFrom (file : File) (source : SourceFileNameAndBytes) : Type 0 where
  -- both have the same name
  pub name : file.name.now ≡ source.name
  -- the kind follows from the bytes of the source
  pub kind : file.kind ≡ kind_of_file source.bytes

-- each packed file is made of the source file at the same place of the other list; both lists have the
-- same length
abbrev pub AreFilesFrom : List File → List SourceFileNameAndBytes → Type 0
AreFilesFrom [] [] = Unit {0}
AreFilesFrom [] (source ∷ sources) = ⊥
AreFilesFrom (file ∷ files) [] = ⊥
AreFilesFrom (file ∷ files) (source ∷ sources) =
    IsFileFrom file source × AreFilesFrom files sources

-- the packed folder `folder` is made of the source folder: it has the same name, and its files are made
-- of the source's files
pub record IsFolderFrom (folder : Folder) (source : SourceFolder) : Type 0 where
  -- both have the same name
  pub name : folder.name.now ≡ source.name
  -- its files are the packed forms of the source's files, in order
  pub files : AreFilesFrom folder.files.items source.files

-- each packed folder is made of the source folder at the same place of the other list; both lists have
-- the same length
abbrev pub AreFoldersFrom : List Folder → List SourceFolder → Type 0
AreFoldersFrom [] [] = Unit {0}
AreFoldersFrom [] (source ∷ sources) = ⊥
AreFoldersFrom (folder ∷ folders) [] = ⊥
AreFoldersFrom (folder ∷ folders) (source ∷ sources) =
    IsFolderFrom folder source × AreFoldersFrom folders sources

-- ---- what is appended to the blocks meanwhile

-- the source file was packed as `file`, at the position `at` of the folder with the position `folder`.
-- Its block of contents was appended to the blocks `before`, which gave the blocks `later`
pub record IsPackedFile (folder at : ℕ) (before later : List ℕ) (file : File)
    (source : SourceFileNameAndBytes) :
    Type 0 where
  -- the packed file is that of the source file
  pub is : IsFileFrom file source
  -- its block of contents was appended to the blocks
  pub blocks : later ≡ before ++ contents_blocks (contents_of_file folder at source.bytes)

-- the source files were packed as `files`, all files of the folder with the position `folder`. Their
-- blocks of contents were appended to the blocks `before`, which gave the blocks `later`
pub record ArePackedFiles (folder : ℕ) (before later : List ℕ) (files : Vec File Global)
    (sources : List SourceFileNameAndBytes) : Type 0 where
  -- the packed files are those of the source files
  pub are : AreFilesFrom files.items sources
  -- their blocks of contents were appended to the blocks
  pub blocks : later ≡ before ++ contents_blocks (contents_of_files folder 1 sources)

-- the source folder was packed as `packed`, at the position `folder` among the folders, counted from 1.
-- The blocks of its files were appended to the blocks `before`, which gave the blocks `later`
pub record IsPackedFolder (folder : ℕ) (before later : List ℕ) (packed : Folder)
    (source : SourceFolder) : Type 0 where
  -- the packed folder is that of the source folder
  pub is : IsFolderFrom packed source
  -- the blocks of its files were appended to the blocks
  pub blocks : later ≡ before ++ contents_blocks (contents_of_files folder 1 source.files)

-- the source folders were packed as `folders`, with positions from 1 on, and `written` has the blocks of
-- their files
pub record ArePackedFolders (written : List ℕ) (folders : Vec Folder Global)
    (sources : List SourceFolder) : Type 0 where
  -- the packed folders are those of the source folders
  pub are : AreFoldersFrom folders.items sources
  -- `written` has the blocks of their files
  pub blocks : written ≡ contents_blocks (contents_of_folders 1 sources)

-- The packing is made of the source folders that were read: its folders are made of them, and its blocks
-- are the blocks of contents of their files, in order.
abbrev pub IsPacking : Packing → List SourceFolder → Type 0
IsPacking packing sources = ArePackedFolders packing.blocks.items packing.folders sources
