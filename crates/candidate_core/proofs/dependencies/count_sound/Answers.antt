use Rattle.std.proofs.Common.{◌≡◌, ◌∙◌, ℕ, ap, arith, length}
use Rattle.adb_view.specs.Plain.{Plains}
use Rattle.adb_schema.specs.adb_fields.ListValue.{list_value}
use Rattle.adb_schema.specs.Views.{dependency_value}
use Rattle.adb_view.specs.Values.{count_of, entries_in}
use Rattle.dep_core.specs.Meets.{dependency}
use Rattle.candidate_core.proofs.DependencyLists.{all_dependencies, dependencies_to}
use Rattle.candidate_core.proofs.JudgedLists.{none_passed, one_passed}
use Rattle.candidate_core.proofs.dependencies.count_sound.Goals as goal
use Rattle.candidate_core.proofs.dependencies.count_sound.Goals.{in-Some, in_default}

pub loop-i-preserved : goal.loop-i-preserved
loop-i-preserved c =
    let values : Plains = entries_in (list_value c.args.list.now) in
    elim c.match-read_if_sound.branch [
      | in-Some w ↦ (w.count-is ∙ one_passed c.loop-i.i values (dependency_value c.get.result) (dependency w.in-Some.field-0) c.loop-i.count (omega arith) c.get.ensures w.in-Some.ensures c.loop-i.invariant.0, omega (arith, w.count-is, c.loop-i.invariant.1))
      | in_default w ↦ (w.count-is ∙ none_passed c.loop-i.i values (dependency_value c.get.result) c.loop-i.count (omega arith) c.get.ensures w.in_default.ensures c.loop-i.invariant.0, omega (arith, w.count-is, c.loop-i.invariant.1))
    ]

pub returns : goal.returns
returns c =
    let values : Plains = entries_in (list_value c.args.list.now) in
    let last : c.loop-i.i ≡ count_of values = omega arith in
    c.loop-i.invariant.0 ∙ ap length (ap (λ (n : ℕ). dependencies_to n values) last ∙ all_dependencies values)
