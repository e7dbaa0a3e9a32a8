use Rattle.command_core.specs.declared.values.TheConstants.{SCRIPT}
use Rattle.std.proofs.Common.{◌≡◌, ◌≤◌, ◌∙◌, ℕ, ap, sym, length, take_all, List, arith}
use Rattle.base_core.proofs.Counting.{readings_none}
use Rattle.base_core.proofs.ReadAfter.{both_readings, reading_as, second_reading_failed}
use Rattle.command_core.specs.declared.values.OptionValue.{OptionValue}
use Rattle.package_files.specs.make_info.declared.fault.MakeFault.TheVariants.{Disk}
use Rattle.make_core.specs.Scripts.{AreScripts}
use Rattle.package_files.specs.Sources.{values_of_letter, script_at, scripts_from_read}
use Rattle.make_core.proofs.MadeParts.{script_name, script_there}
use Rattle.make_core.proofs.MadeRuns.{one_read, script_own, scripts_go_on, scripts_none, scripts_same, scripts_stop}
use Rattle.package_files.proofs.ReadLemmas.{so_far_none, explained, explained_as, same_fault, memory_fault, told_as}
use Rattle.make_core.proofs.Reading.{out_of_memory}
use Rattle.make_core.proofs.WriteLemmas.{given_other}
use Rattle.make_core.proofs.packages.reading.read_scripts.Goals as goal

pub loop-i-init : goal.loop-i-init
loop-i-init g c = record {
  tree = readings_none Disk _ _ 0;
  so_far = so_far_none _ one_read script_at script_own (AreScripts c.new-scripts.result) (scripts_none c.new-scripts.result c.new-scripts.ensures.items);
}

pub loop-i-preserved-then-value-ne-SCRIPT : goal.loop-i-preserved-then-value-ne-SCRIPT
loop-i-preserved-then-value-ne-SCRIPT g c = record {
  tree = c.loop-i.invariant.tree;
  so_far = scripts_same _ _ _ c.loop-i.scripts (given_other SCRIPT c.args.values.now c.loop-i.i c.get-value.result.now c.get-value.ensures c.if-value-ne-SCRIPT.true) c.loop-i.invariant.so_far;
}

pub script_file-requires-clause-script : goal.script_file-requires-clause-script
script_file-requires-clause-script g c =
    let letter : c.get-value.result.now.letter ≡ SCRIPT = omega arith in
    script_there c.args.values.now c.loop-i.i c.get-value.result.now c.requires c.get-value.ensures letter

pub read_script-requires : goal.read_script-requires
read_script-requires g c = script_name c.args.values.now c.loop-i.i c.get-value.result.now _ c.get-value.ensures c.script_file.ensures

pub returns-in_err-script-clause-read : goal.returns-in_err-script-clause-read
returns-in_err-script-clause-read g c = λ n.
    let letter : c.get-value.result.now.letter ≡ SCRIPT = omega arith in
    explained_as _ _ _
    (scripts_stop _ c.args.values.now c.loop-i.i c.get-value.result.now c.get-value.ensures letter c.loop-i.scripts c.in_err-script.field-0.0
    c.loop-i.invariant.so_far (told_as _ _ _ c.loop-i.invariant.tree.same c.in_err-script.ensures.read) n)
    (λ read e. same_fault _ _ c.from_residual.result _ c.from_residual.ensures.1 e)

pub returns-in_err-push_script-clause-read : goal.returns-in_err-push_script-clause-read
returns-in_err-push_script-clause-read g c = λ n. explained _ _ (λ read. memory_fault _ _ _ c.from_residual-in_err-push_script.ensures.1)

pub loop-i-preserved : goal.loop-i-preserved
loop-i-preserved g c =
    let letter : c.get-value.result.now.letter ≡ SCRIPT = omega arith in
    record {
      tree = both_readings {C = ℕ} _ _ _ _ _ _ _ _ _ 0 c.loop-i.invariant.tree c.in_ok-script.ensures.tree;
      so_far = scripts_go_on _ c.args.values.now c.loop-i.i c.get-value.result.now c.get-value.ensures letter c.loop-i.scripts c.push_script.new.scripts c.in_ok-script.script
          c.in_ok-push_script.ensures c.loop-i.invariant.so_far (told_as _ _ _ c.loop-i.invariant.tree.same c.in_ok-script.ensures.read);
    }

pub returns-clause-read : goal.returns-clause-read
returns-clause-read g c = λ n.
    let le : length c.args.values.now ≤ c.loop-i.i = omega arith in
    explained_as _ _ _ (c.loop-i.invariant.so_far n)
    (λ read e. (e.0, ap (λ (vs : List OptionValue). scripts_from_read read n (values_of_letter SCRIPT vs)) (sym (take_all c.loop-i.i c.args.values.now le)) ∙ e.1, e.2))

pub returns-in_err-script-clause-tree : goal.returns-in_err-script-clause-tree
returns-in_err-script-clause-tree g c = second_reading_failed _ _ _ _ _ _ _ _ _ c.from_residual.result c.from_residual.ensures.1 c.loop-i.invariant.tree c.in_err-script.ensures.tree

pub returns-in_err-push_script-clause-tree : goal.returns-in_err-push_script-clause-tree
returns-in_err-push_script-clause-tree g c =
    out_of_memory _ _ _ _ 0 c.from_residual-in_err-push_script.result c.from_residual-in_err-push_script.ensures.1 (both_readings {C = ℕ} _ _ _ _ _ _ _ _ _ 0 c.loop-i.invariant.tree c.in_ok-script.ensures.tree)

pub returns-clause-tree : goal.returns-clause-tree
returns-clause-tree g c = reading_as _ _ _ _ _ _ _ c.loop-i.invariant.tree
