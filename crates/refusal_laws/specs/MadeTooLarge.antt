-- Why a package that is to be made is too large. The refusal is in `docs/commands.md`, "`mkpkg`", and
-- the limits in `docs/formats.md`, "Canonical layout".
use Rattle.std.specs.Prelude.{◌≡◌, ℕ, List, Ok}
use Rattle.command_core.specs.Command.{CommandLine}
use Rattle.outcome.specs.make_core.ReadBack.{package_with_contents_of_command}
use Rattle.outcome.specs.make_info.Reads.{Reads}
use Rattle.outcome.specs.pkg_core.Whole.{PackageWithContents}
use Rattle.refusal_laws.specs.ChangeFaults.{IsTooLargeFirstAtCounts}

-- the value of the package that `mkpkg` makes exceeds a limit of the writer, first at these numbers of bytes and
-- values. `names` are those of the files below the folder of `-F`
pub record IsPackageToBeMadeTooLargeFirstAtCounts (command : CommandLine) (names : List (List ℕ))
    (read : Reads)
    (bytes values : ℕ) : Type 0 where
  -- the value of the package, with the contents of its files
  pub packed : PackageWithContents
  pub is_packed : package_with_contents_of_command command names read ≡ Ok packed
  -- the value exceeds a limit of the writer, at these numbers of bytes and values
  pub passes : IsTooLargeFirstAtCounts packed.value bytes values
