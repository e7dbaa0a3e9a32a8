-- What a query prints, by its command: `list`, `search` or `policy` (apk(8)). The rules are in
-- `docs/commands.md`, in the section of each.
use Rattle.std.specs.Prelude.{ℕ, List, []}
use Rattle.pool_core.specs.candidate_core.Rank.{SelectionProblem}
use Rattle.command_core.specs.Command.{CommandLine}
use Rattle.command_core.specs.declared.command.Applet.{Applet}
use Rattle.command_core.specs.declared.command.Applet.TheVariants.{List as ListApplet, Policy, Search}
use Rattle.dep_core.specs.Repositories.{Repository}
use Rattle.query_core.specs.List.{list_report}
use Rattle.query_core.specs.Policy.{policy_report}
use Rattle.query_core.specs.Search.{search_report}

-- what a query prints of a pool and of repositories, by its applet (`list`, `search` or `policy`); an applet that is
-- no query prints nothing
abbrev pub applet_query : Applet → CommandLine → SelectionProblem → List Repository → List ℕ
applet_query ListApplet command pool repositories =
    list_report pool.candidates command.operands command.flags.installed
applet_query Search command pool repositories = search_report pool.candidates command.operands
applet_query Policy command pool repositories =
    policy_report pool.candidates repositories command.operands
applet_query applet command pool repositories = []

-- what the query of a command line prints of a pool and of repositories
unfoldable pub text_of_query : CommandLine → SelectionProblem → List Repository → List ℕ
text_of_query command pool repositories = applet_query command.applet command pool repositories
