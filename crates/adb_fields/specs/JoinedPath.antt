-- The path that a `FilePath` represents. The rule is in `docs/formats.md`, "Schemas" ("The path of a file"); serves the
-- contract of `FilePath::compare`.
use Rattle.std.specs.Prelude.{ℕ, List}
use Rattle.adb_fields.specs.Paths.{path_of}
use Rattle.adb_fields.specs.declared.file_path.FilePath.{FilePath}

-- the path of a file as one text, made of the folder's and the file's name
abbrev pub joined_path : FilePath → List ℕ
joined_path p = path_of p.folder.now p.name.now
