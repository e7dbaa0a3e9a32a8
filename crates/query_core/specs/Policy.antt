-- What `policy` prints (apk(8)). The rule is in `docs/commands.md`, "`policy`".
use Rattle.std.specs.Prelude.{ℕ, ◌+◌, ◌==◌, Bool, false, ◌&&◌, if◌then◌else◌, List, [], ◌∷◌, ◌++◌, map, Option}
use Rattle.std.specs.List.{filter, flat_map, list_any}
use Rattle.std.specs.Option.{option_map_or}
use Rattle.std.specs.Str.{bytes_eq}
use Rattle.pool_core.specs.candidate_core.Candidates.{Candidate, is_same_version}
use Rattle.command_core.specs.declared.operands.Operand.{Operand}
use Rattle.dep_core.specs.Repositories.{Repository}
use Rattle.report_core.specs.QueryReports.{policy_database_line, policy_heading, policy_repository_line, policy_version_heading}
use Rattle.query_core.specs.Order.{printed_version, sorted_candidates_passing}

-- ---- the versions of a name

-- whether a candidate has this name of its own
abbrev pub has_own_name : List ℕ → Candidate → Bool
has_own_name name c = bytes_eq name c.name

-- the versions, with each text only once: of versions with the same text, the last one is left
abbrev pub versions_except_those_repeated_later : List (Option (List ℕ)) → List (Option (List ℕ))
versions_except_those_repeated_later [] = []
versions_except_those_repeated_later (version ∷ versions) =
    if list_any (is_same_version version) versions then versions_except_those_repeated_later versions
    else version ∷ versions_except_those_repeated_later versions

-- the versions of the candidates that have this name of their own, in the order of queries, each text once
abbrev pub sorted_distinct_versions_of_name : List Candidate → List ℕ → List (Option (List ℕ))
sorted_distinct_versions_of_name candidates name =
    versions_except_those_repeated_later
    (map (λ (c : Candidate). c.version) (sorted_candidates_passing (has_own_name name) candidates))

-- ---- where a version is

-- whether a candidate has this name of its own and this text of a version
abbrev pub has_own_name_and_version_text : List ℕ → Option (List ℕ) → Candidate → Bool
has_own_name_and_version_text name version c =
    has_own_name name c && is_same_version version c.version

-- whether a candidate is from the repository with this number, counted from 1
abbrev pub is_of_repository : ℕ → Candidate → Bool
is_of_repository number c = option_map_or (λ repository. repository == number) c.repository false

-- the lines of those repositories that have one of these candidates; the first repository of the list has the number
-- `number`
abbrev pub lines_of_repositories_of_candidates : List Candidate → ℕ → List Repository → List ℕ
lines_of_repositories_of_candidates candidates number [] = []
lines_of_repositories_of_candidates candidates number (r ∷ repositories) =
    (if list_any (is_of_repository number) candidates then policy_repository_line r.tag r.path else [])
    ++ lines_of_repositories_of_candidates candidates (number + 1) repositories

-- the lines that say where these candidates are, which have one name and version. There is a line for the database if
-- one of them is installed, and a line for each repository that has one
abbrev pub policy_origin_lines : List Repository → List Candidate → List ℕ
policy_origin_lines repositories candidates =
    (if list_any (λ (c : Candidate). c.installed) candidates then policy_database_line else [])
    ++ lines_of_repositories_of_candidates candidates 1 repositories

-- ---- the report

-- what `policy` prints of one version of a name: its heading, and the lines that say where it is
abbrev pub version_policy :
    List Candidate → List Repository → List ℕ → Option (List ℕ) → List ℕ
version_policy candidates repositories name version =
    policy_version_heading (printed_version version)
    ++ policy_origin_lines repositories (filter (has_own_name_and_version_text name version) candidates)

-- what `policy` prints of a name: its heading, and each version of the candidates of this name
abbrev pub name_policy : List Candidate → List Repository → List ℕ → List ℕ
name_policy candidates repositories name =
    policy_heading name
    ++ flat_map (version_policy candidates repositories name)
    (sorted_distinct_versions_of_name candidates name)

-- what `policy` prints for the names that are asked for, in the order given
abbrev pub policy_report : List Candidate → List Repository → List Operand → List ℕ
policy_report candidates repositories names =
    flat_map (λ (o : Operand). name_policy candidates repositories o.text) names
