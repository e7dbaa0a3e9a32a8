use Rattle.std.proofs.Common.{◌≡◌, ◌∙◌, ℕ, ap, sym, arith, length}
use Rattle.adb_view.specs.Plain.{Plains}
use Rattle.adb_schema.specs.adb_fields.ListValue.{list_value}
use Rattle.adb_schema.specs.Views.{dependency_value}
use Rattle.adb_view.specs.Values.{count_of, entries_in}
use Rattle.dep_core.specs.Meets.{dependency}
use Rattle.candidate_core.specs.Candidates.{dependencies_among_values}
use Rattle.candidate_core.proofs.DependencyLists.{all_dependencies, dependencies_to}
use Rattle.candidate_core.proofs.JudgedLists.{none_passed, one_passed, stands_at}
use Rattle.candidate_core.proofs.dependencies.read_judged.Goals as goal
use Rattle.candidate_core.proofs.dependencies.read_judged.Goals.{in-Some+else-passed-place, in_default}

pub returns-then-passed-place : goal.returns-then-passed-place
returns-then-passed-place c =
    let values : Plains = entries_in (list_value c.args.list.now) in
    stands_at c.loop-i.i values (dependency_value c.get.result) (dependency c.in-Some.dep) c.args.place (omega arith) c.get.ensures c.in-Some.ensures
    (sym c.if-passed-place.true ∙ c.loop-i.invariant.passed)

pub loop-i-preserved : goal.loop-i-preserved
loop-i-preserved c =
    let values : Plains = entries_in (list_value c.args.list.now) in
    elim c.match-read_if_sound.branch [
      | in-Some+else-passed-place w ↦ record {
        passed = w.passed-is ∙ one_passed c.loop-i.i values (dependency_value c.get.result) (dependency w.in-Some.dep) c.loop-i.passed (omega arith) c.get.ensures w.in-Some.ensures c.loop-i.invariant.passed;
        few = omega (arith, w.passed-is, c.loop-i.invariant.few);
        before = omega (arith, w.passed-is, c.loop-i.invariant.before, w.if-passed-place.false);
      }
      | in_default w ↦ record {
        passed = w.passed-is ∙ none_passed c.loop-i.i values (dependency_value c.get.result) c.loop-i.passed (omega arith) c.get.ensures w.in_default.ensures c.loop-i.invariant.passed;
        few = omega (arith, w.passed-is, c.loop-i.invariant.few);
        before = omega (arith, w.passed-is, c.loop-i.invariant.before);
      }
    ]

pub unreachable-requires : goal.unreachable-requires
unreachable-requires c =
    let values : Plains = entries_in (list_value c.args.list.now) in
    let last : c.loop-i.i ≡ count_of values = omega arith in
    let all : c.loop-i.passed ≡ length (dependencies_among_values values) = c.loop-i.invariant.passed ∙ ap length (ap (λ (n : ℕ). dependencies_to n values) last ∙ all_dependencies values) in
    omega (arith, all, c.requires, c.loop-i.invariant.before)
