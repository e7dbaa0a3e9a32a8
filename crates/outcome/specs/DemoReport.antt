-- What `demo` prints. The line is in `docs/commands.md`, "`demo N`".
use Rattle.std.specs.Prelude.{ℕ, ◌-◌, List, ◌++◌, length, take, codes}
use Rattle.std.specs.Fmt.{decimal}
use Rattle.std.specs.List.{after_last}
use Rattle.dep_core.specs.World.{is_line_end}

-- the last line of a report, without its line end
abbrev pub last_line : List ℕ → List ℕ
last_line report = after_last is_line_end (take (length report - 1) report)

-- the line that `demo` prints: how many packages it made, and the last line of `report`, which `add` gave for
-- their installation
abbrev pub demo_line_of_count_and_add_report : ℕ → List ℕ → List ℕ
demo_line_of_count_and_add_report n report =
    codes "demo " ++ decimal n ++ codes ": " ++ last_line report ++ codes "\n"
