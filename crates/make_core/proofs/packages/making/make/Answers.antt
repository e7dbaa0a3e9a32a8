use Rattle.make_core.proofs.MadeParts.{values_allowed}
use Rattle.make_core.proofs.MadeRuns.{below_as, cut_run, named_as, run_as}
use Rattle.make_core.proofs.packages.making.make.Goals as goal

pub list_names-requires : goal.list_names-requires
list_names-requires g c = values_allowed c.a_command_has_what_its_applet_may_have.ensures.values c.args.command.now _ c.values.ensures.command c.requires c.values.ensures.value

pub returns-in_err-names-clause-made : goal.returns-in_err-names-clause-made
returns-in_err-names-clause-made g c = cut_run _ c.args.command.now c.from_residual.result c.in_err-names.field-0.0 c.from_residual.ensures.1 c.in_err-names.ensures.cut

pub returns-clause-made : goal.returns-clause-made
returns-clause-made g c =
    run_as _ _ c.args.command.now c.in_ok-names.names c.pack.result c.in_ok-names.ensures.tree.same
    (named_as c.args.command.now _ c.in_ok-names.names c.values.ensures.value c.in_ok-names.ensures.order)
    (below_as _ c.args.command.now _ c.in_ok-names.names c.values.ensures.value c.in_ok-names.ensures.names) c.pack.ensures.read
