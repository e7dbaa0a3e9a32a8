-- When a file that a command leaves is a sound container. The rule is in `docs/formats.md`, "Tests of a container". The
-- definition serves the law `what_is_made_is_sound`.
use Rattle.std.specs.Prelude.{◌≡◌, ℕ, ◌<◌, ◌^◌, List, length, Some, None}
use Rattle.base_core.specs.Files.{Files}
use Rattle.make_core.specs.pkg_core.Whole.{container_fault}

-- there is a file under the name; it passes all tests of a container, if it has fewer than 2 ^ 64 bytes
abbrev pub IsSoundFileAt : List ℕ → Files → Type 0
IsSoundFileAt name files =
    (bytes : List ℕ)
    × (files name ≡ Some bytes)
    × (length bytes < 2 ^ 64 → container_fault bytes ≡ None)
