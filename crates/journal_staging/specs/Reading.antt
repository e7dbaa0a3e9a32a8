-- A file of a package that is read while others are staged. It serves the contract of `stage_file` in
-- `src/file.rt`; how pieces are tested is in `docs/formats.md`, "The other blocks".
use Rattle.std.specs.Prelude.{◌≡◌, ℕ, List, Some, length}
use Rattle.base_core.specs.Files.{Files}
use Rattle.package_verifier.specs.package_reader.FileReading.{HasUnreadBytes, package_len_of_file, package_name_of_file}
use Rattle.package_verifier.specs.package_reader.declared.one_file.FilePieces.{FilePieces}

-- among `files` is the package that `file` reads from, and `bytes` are what is still to be read of the file's contents
pub record IsReadingIn (files : Files) (file : FilePieces) (bytes : List ℕ) : Type 0 where
  -- all bytes of the package
  pub pkg : List ℕ
  -- the package is under its name
  pub there : files (package_name_of_file file) ≡ Some pkg
  -- the package has the length that it had when it was tested
  pub long : length pkg ≡ package_len_of_file file
  -- `bytes` are the contents of the file that are not read yet
  pub reading : HasUnreadBytes file pkg bytes
