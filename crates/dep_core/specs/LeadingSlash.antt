-- A path below the root may be written with one `/` in front. The rules are in `docs/formats.md`,
-- "Repositories", and `docs/commands.md`, "`info`".
use Rattle.std.specs.Prelude.{ℕ, ◌==◌, if◌then◌else◌, List, [], ◌∷◌}

-- a text without one leading `/` (47)
abbrev pub without_leading_slash : List ℕ → List ℕ
without_leading_slash [] = []
without_leading_slash (b ∷ rest) = if b == 47 then rest else b ∷ rest
