use Rattle.std.proofs.Common.{◌∙◌, refl, sym, ap}
use Rattle.change_report.specs.change_inputs.Candidates.{root_pool}
use Rattle.change_report.specs.change_inputs.Seen.{inputs_seen}
use Rattle.change_report.specs.change_inputs.declared.root.Refused.TheVariants.{Memory}
use Rattle.engine_core.specs.SelectionSeen.{IsSelectedFrom}
use Rattle.engine_core.specs.Selecting.{replacement_of_choice}
use Rattle.engine_core.proofs.Pools.{pool_world}
use Rattle.engine_core.proofs.SelectedRuns.{out_of_memory, selection_by, unchosen, unknown_operand_found, with_error, without_pool}
use Rattle.engine_core.proofs.choosing.choose.Goals as goal

pub returns-in_err-again-clause-selected : goal.returns-in_err-again-clause-selected
returns-in_err-again-clause-selected c =
    with_error (IsSelectedFrom c.args.command.now (inputs_seen c.args.loaded.now)) c.from_residual.result Memory c.from_residual.ensures.1
    (out_of_memory c.args.command.now (inputs_seen c.args.loaded.now) c.a_choice_exists.ensures)

pub returns-in_err-pool-clause-selected : goal.returns-in_err-pool-clause-selected
returns-in_err-pool-clause-selected c =
    with_error (IsSelectedFrom c.args.command.now (inputs_seen c.args.loaded.now)) c.from_residual-in_err-pool.result _ c.from_residual-in_err-pool.ensures.1
    (without_pool c.args.command.now (inputs_seen c.args.loaded.now) c.a_choice_exists.ensures _ _ c.names_to_upgrade.ensures c.in_err-pool.ensures)

pub returns-in_err-db-clause-selected : goal.returns-in_err-db-clause-selected
returns-in_err-db-clause-selected c =
    with_error (IsSelectedFrom c.args.command.now (inputs_seen c.args.loaded.now)) c.from_residual-in_err-db.result Memory c.from_residual-in_err-db.ensures.1
    (out_of_memory c.args.command.now (inputs_seen c.args.loaded.now) c.a_choice_exists.ensures)

pub returns-in-Some-clause-selected : goal.returns-in-Some-clause-selected
returns-in-Some-clause-selected c =
    let pool_is = ap (root_pool (inputs_seen c.args.loaded.now)) (sym c.names_to_upgrade.ensures) ∙ c.in_ok-pool.ensures in
    unknown_operand_found c.args.command.now (inputs_seen c.args.loaded.now) c.in_ok-pool.pool pool_is c.a_choice_exists.ensures c.in-Some.place (sym c.unknown_operand.ensures ∙ c.in-Some.is)

pub first_selection-requires : goal.first_selection-requires
first_selection-requires c =
    let pool_is = ap (root_pool (inputs_seen c.args.loaded.now)) (sym c.names_to_upgrade.ensures) ∙ c.in_ok-pool.ensures in
    pool_world c.args.command.now (inputs_seen c.args.loaded.now) c.in_ok-pool.pool pool_is

pub returns-in_err-trace-clause-selected : goal.returns-in_err-trace-clause-selected
returns-in_err-trace-clause-selected c =
    let pool_is = ap (root_pool (inputs_seen c.args.loaded.now)) (sym c.names_to_upgrade.ensures) ∙ c.in_ok-pool.ensures in
    with_error (IsSelectedFrom c.args.command.now (inputs_seen c.args.loaded.now)) c.from_residual-in_err-trace.result _ c.from_residual-in_err-trace.ensures.1
    (unchosen c.args.command.now (inputs_seen c.args.loaded.now) c.in_ok-pool.pool pool_is (sym c.unknown_operand.ensures ∙ c.in_default.is) c.in_err-trace.ensures.0 c.in_err-trace.ensures.1 _ c.in_err-trace.ensures.2)

pub returns-clause-selected : goal.returns-clause-selected
returns-clause-selected c =
    let pool_is = ap (root_pool (inputs_seen c.args.loaded.now)) (sym c.names_to_upgrade.ensures) ∙ c.in_ok-pool.ensures in
    selection_by c.args.command.now (inputs_seen c.args.loaded.now) c.in_ok-pool.pool pool_is (sym c.unknown_operand.ensures ∙ c.in_default.is) c.in_ok-trace.ensures.0 c.in_ok-trace.ensures.1
    (record { command = c.args.command; loaded = c.args.loaded; db = c.in_ok-db.db; pool = c.in_ok-pool.pool; trace = c.in_ok-trace.trace; again = c.in_ok-again.again }) c.in_ok-trace.trace c.in_ok-trace.ensures.2
    (λ i. record { inputs = inputs_seen c.args.loaded.now; replacement = replacement_of_choice (sym c.in_ok-again.ensures i) (inputs_seen c.args.loaded.now) c.in_ok-pool.pool c.in_ok-trace.trace })

pub returns-clause-parts : goal.returns-clause-parts
returns-clause-parts c = record {
  command_is = refl;
  inputs_are = refl;
  database = c.in_ok-db.ensures;
  pool = ap (root_pool (inputs_seen c.args.loaded.now)) (sym c.names_to_upgrade.ensures) ∙ c.in_ok-pool.ensures;
}
