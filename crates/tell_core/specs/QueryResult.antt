-- The results of `list`, `search` and `policy`, by what reads find. The rules are in
-- `docs/commands.md`, under each command's name; the reports are defined in `query_core`.
use Rattle.std.specs.Prelude.{None, Result, Ok}
use Rattle.candidate_core.specs.Rank.{no_names}
use Rattle.change_inputs.specs.Candidates.{root_pool}
use Rattle.change_inputs.specs.Chains.{and_then}
use Rattle.change_inputs.specs.Inputs.{Inputs, inputs_of}
use Rattle.command_core.specs.Command.{CommandLine}
use Rattle.tell_core.specs.Info.{report_and_refusal}
use Rattle.tell_core.specs.declared.info.reporting.ReportAndRefusal.{ReportAndRefusal}
use Rattle.change_inputs.specs.make_info.Reads.{Reads}
use Rattle.query_core.specs.Queries.{text_of_query}
use Rattle.report_core.specs.declared.refusal.Refusal.{Refusal}

-- what `list`, `search` or `policy` reports on the candidates and repositories of these inputs
-- (*no_names* are to be upgraded). Or the refusal of too many candidates
abbrev pub query_report_or_refusal : CommandLine → Inputs → Result ReportAndRefusal Refusal
query_report_or_refusal command inputs =
    and_then (root_pool inputs no_names) (λ pool.
    Ok (report_and_refusal (text_of_query command pool inputs.root.repositories) None))

-- the result of `list`, `search` or `policy`: its report on the inputs that are read. Or the refusal of
-- an input, or of too many candidates
abbrev pub query_result : CommandLine → Reads → Result ReportAndRefusal Refusal
query_result command read = and_then (inputs_of command read) (query_report_or_refusal command)
