-- What `search` prints (apk(8)). The rule is in `docs/commands.md`, "`search`".
use Rattle.std.specs.Prelude.{ℕ, Bool, not, ◌&&◌, List, ◌∷◌, map, is_some}
use Rattle.std.specs.List.{filter, flat_map, list_any}
use Rattle.pool_core.specs.candidate_core.Candidates.{Candidate}
use Rattle.command_core.specs.declared.operands.Operand.{Operand}
use Rattle.dep_core.specs.Dependency.{Dependency}
use Rattle.report_core.specs.QueryReports.{search_line}
use Rattle.star_patterns.specs.Patterns.{matches_some_part}
use Rattle.query_core.specs.Order.{printed_version, sorted_candidates_passing}

-- the names that the entries of a list of provides give, without the entries that are conflicts
abbrev pub provided_names : List Dependency → List (List ℕ)
provided_names provides =
    map (λ (p : Dependency). p.name) (filter (λ (p : Dependency). not p.conflict) provides)

-- the names of a candidate: its own, and those that it provides
abbrev pub own_and_provided_names : Candidate → List (List ℕ)
own_and_provided_names c = c.name ∷ provided_names c.provides

-- whether one of the patterns matches some part of a name
abbrev pub is_part_of_name_matched_by_some_pattern : List Operand → List ℕ → Bool
is_part_of_name_matched_by_some_pattern patterns name =
    list_any (λ (o : Operand). matches_some_part o.text name) patterns

-- whether `search` prints a candidate: it is from a repository, and a pattern matches some part of one of its names
abbrev pub is_search_candidate : List Operand → Candidate → Bool
is_search_candidate patterns c =
    is_some c.repository && list_any (is_part_of_name_matched_by_some_pattern patterns)
    (own_and_provided_names c)

-- what `search` prints: the lines of the candidates that the patterns find, in the order of queries
abbrev pub search_report : List Candidate → List Operand → List ℕ
search_report candidates patterns =
    flat_map (λ (c : Candidate). search_line c.name (printed_version c.version))
    (sorted_candidates_passing (is_search_candidate patterns) candidates)
