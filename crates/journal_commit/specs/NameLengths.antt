-- The longest name of a file that can be replaced.
-- The rules are in `docs/crash-safety.md`, "A whole file replaced".
use Rattle.std.specs.Prelude.{ℕ}

-- how many bytes the name of a file that is replaced may have at most: its scratch name, which adds `.apk-tmp`, has
-- eight bytes more, and a name has at most 1,024
abbrev pub most_replaceable_name_bytes : ℕ
most_replaceable_name_bytes = 1016
