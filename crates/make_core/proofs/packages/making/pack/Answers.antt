use Rattle.std.proofs.Common.{Ok, Err}
use Rattle.make_core.proofs.MadeParts.{sizes_held, values_allowed}
use Rattle.make_core.proofs.MadeRuns.{both_as, folders_fault, info_fault, package_as, parts_made, quiet_answer, scripts_as, scripts_fault}
use Rattle.package_files.proofs.ReadLemmas.{explained_as, same_fault}
use Rattle.base_core.proofs.ReadAfter.{reading_off, second_reading_failed}
use Rattle.make_core.proofs.packages.making.pack.Goals as goal

pub read_scripts-requires : goal.read_scripts-requires
read_scripts-requires g c = values_allowed c.a_command_has_what_its_applet_may_have.ensures.values c.args.command.now _ c.values-values.ensures.command c.requires c.values-values.ensures.value

pub package-requires : goal.package-requires
package-requires g c = sizes_held c.contents_are_in_their_container.ensures.blocks _ _ _ (c.in_ok-packing.ensures.read 0).is.2

pub returns-in_err-scripts-clause-read : goal.returns-in_err-scripts-clause-read
returns-in_err-scripts-clause-read g c =
    explained_as _ _ _ (scripts_as _ (Err c.in_err-scripts.field-0.0) _ _ c.values-values.ensures.value (c.in_err-scripts.ensures.read 0))
    (λ read e. same_fault _ _ c.from_residual.result _ c.from_residual.ensures.1 (scripts_fault c.args.command.now c.args.names.now read c.in_err-scripts.field-0.0 e))

pub returns-in_err-about-clause-read : goal.returns-in_err-about-clause-read
returns-in_err-about-clause-read g c =
    explained_as _ _ _ (scripts_as _ (Ok c.in_ok-scripts.scripts) _ _ c.values-values.ensures.value (c.in_ok-scripts.ensures.read 0))
    (λ read e. same_fault _ _ c.from_residual-in_err-about.result _ c.from_residual-in_err-about.ensures.1
    (info_fault c.args.command.now c.args.names.now read e.0 c.in_err-about.field-0.0 e.1 c.in_err-about.ensures.err))

pub returns-in_err-packing-clause-read : goal.returns-in_err-packing-clause-read
returns-in_err-packing-clause-read g c =
    explained_as _ _ _ (both_as _ _ c.args.command.now _ c.args.names.now c.in_ok-scripts.scripts (Err c.in_err-packing.field-0.0) c.values-values.ensures.value c.in_ok-scripts.ensures.tree.same (c.in_ok-scripts.ensures.read 0) c.in_err-packing.ensures.read)
    (λ read e. same_fault _ _ c.from_residual-in_err-packing.result _ c.from_residual-in_err-packing.ensures.1
    (folders_fault c.args.command.now c.args.names.now read c.in_ok-scripts.scripts _ c.in_err-packing.field-0.0 c.in_ok-about.ensures.ok e))

pub returns-clause-read : goal.returns-clause-read
returns-clause-read g c =
    explained_as _ _ _ (both_as _ _ c.args.command.now _ c.args.names.now c.in_ok-scripts.scripts (Ok c.in_ok-packing.packing) c.values-values.ensures.value c.in_ok-scripts.ensures.tree.same (c.in_ok-scripts.ensures.read 0) c.in_ok-packing.ensures.read)
    (λ read e. parts_made c.args.command.now c.args.names.now read c.in_ok-scripts.scripts _ c.in_ok-packing.packing c.package.result c.in_ok-about.ensures.ok e
    (package_as c.args.command.now _ c.deref.result.now c.in_ok-scripts.scripts.items c.in_ok-packing.packing c.package.result c.deref.ensures.value c.package.ensures.made))

pub returns-clause-tree : goal.returns-clause-tree
returns-clause-tree g c =
    quiet_answer c.in_ok-packing.packing _ _ _ _ c.package.result
    (c.consecutive_reads_compose.ensures.two _ _ _ _ _ _ _ _ _ c.in_ok-scripts.ensures.tree c.in_ok-packing.ensures.tree) c.package.ensures.disk

pub returns-in_err-scripts-clause-tree : goal.returns-in_err-scripts-clause-tree
returns-in_err-scripts-clause-tree g c = reading_off _ _ _ _ _ _ c.from_residual.result c.from_residual.ensures.1 c.in_err-scripts.ensures.tree

pub returns-in_err-packing-clause-tree : goal.returns-in_err-packing-clause-tree
returns-in_err-packing-clause-tree g c =
    second_reading_failed _ _ _ _ _ _ _ _ _ c.from_residual-in_err-packing.result c.from_residual-in_err-packing.ensures.1 c.in_ok-scripts.ensures.tree c.in_err-packing.ensures.tree
