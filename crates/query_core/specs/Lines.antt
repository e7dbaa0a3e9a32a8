-- The line of a candidate, by the form of line that a command prints.
-- No rule of a document: serves the contracts of `src/candidates.rt`.
use Rattle.std.specs.Prelude.{ℕ, List, [], ◌++◌, codes}
use Rattle.adb_view.specs.FieldIndexes.{INFO_ARCH_INDEX, INFO_LICENSE_INDEX, INFO_ORIGIN_INDEX}
use Rattle.adb_view.specs.Values.{entry_at_index, text_in}
use Rattle.pool_core.specs.candidate_core.Candidates.{Candidate}
use Rattle.report_core.specs.QueryReports.{installed_mark, search_line, text_between_unless_empty}
use Rattle.query_core.specs.List.{list_line_of_candidate}
use Rattle.query_core.specs.Order.{printed_version}
use Rattle.query_core.specs.declared.candidates.LineForm.{LineForm}
use Rattle.query_core.specs.declared.candidates.LineForm.TheVariants.{Full, Short}

-- what follows name and version in a line of `list`: architecture, origin, license, and the mark of an installed
-- package; an empty text is left out
abbrev pub description_part : Candidate → List ℕ
description_part c =
    text_between_unless_empty (codes " ") (text_in (entry_at_index c.info INFO_ARCH_INDEX)) []
    ++ text_between_unless_empty (codes " {") (text_in (entry_at_index c.info INFO_ORIGIN_INDEX))
    (codes "}")
    ++ text_between_unless_empty (codes " (") (text_in (entry_at_index c.info INFO_LICENSE_INDEX))
    (codes ")")
    ++ installed_mark c.installed

-- the line of a candidate: that of `list` (`Full`), or that of `search` (`Short`)
abbrev pub line_in_form : LineForm → Candidate → List ℕ
line_in_form Full c = list_line_of_candidate c
line_in_form Short c = search_line c.name (printed_version c.version)
