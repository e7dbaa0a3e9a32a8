use Rattle.std.proofs.Common.{◌≡◌, ◌∙◌, ◌+◌, ◌-◌, List, ap, sym, subst, refl, length, arith}
use Rattle.std.specs.Prelude.{slice_get}
use Rattle.dep_core.specs.Dependency.{Dependency}
use Rattle.adb_schema.specs.SoundValues.{ObeysTextAndNumberRulesOfDependency}
use Rattle.candidate_core.specs.Candidates.{dependency_in}
use Rattle.adb_view.specs.Plain.{Plains}
use Rattle.adb_schema.specs.adb_fields.ListValue.{list_value}
use Rattle.adb_view.specs.Values.{count_of, entries_in, nth}
use Rattle.candidate_core.proofs.JudgedLists.{sound_at, sound_count}
use Rattle.candidate_core.proofs.dependencies.Deps.get.Goals as goal

pub overflow_add-place : goal.overflow_add-place
overflow_add-place c =
    let values : Plains = entries_in (list_value c.self.inside.list) in
    let len : length c.args.self.now ≡ count_of values = sym (ap length c.self.view_is) ∙ sound_count values (c.self.invariant c.if-self.true) in
    omega (arith, len, c.requires, c.len-count.ensures.value, c.len-count.ensures.small)

pub get-requires : goal.get-requires
get-requires c κs =
    let values : Plains = entries_in (list_value c.self.inside.list) in
    let len : length c.args.self.now ≡ count_of values = sym (ap length c.self.view_is) ∙ sound_count values (c.self.invariant c.if-self.true) in
    ((refl, tt), (omega arith, omega (arith, len, c.requires)))

pub read_sound-requires : goal.read_sound-requires
read_sound-requires c =
    let values : Plains = entries_in (list_value c.self.inside.list) in
    let len : length c.args.self.now ≡ count_of values = sym (ap length c.self.view_is) ∙ sound_count values (c.self.invariant c.if-self.true) in
    let e : (c.args.place + 1) - 1 ≡ c.args.place = omega arith in
    subst ObeysTextAndNumberRulesOfDependency (sym (c.get.ensures ∙ ap (nth values) e)) (c.self.invariant c.if-self.true c.args.place (omega (arith, len, c.requires)))

pub returns-then-self : goal.returns-then-self
returns-then-self c =
    let values : Plains = entries_in (list_value c.self.inside.list) in
    let len : length c.args.self.now ≡ count_of values = sym (ap length c.self.view_is) ∙ sound_count values (c.self.invariant c.if-self.true) in
    let e : (c.args.place + 1) - 1 ≡ c.args.place = omega arith in
    ap (λ (ds : List Dependency). slice_get ds c.args.place) (sym c.self.view_is)
    ∙ (sound_at values c.args.place (c.self.invariant c.if-self.true) (omega (arith, len, c.requires))
    ∙ (ap dependency_in (sym (c.get.ensures ∙ ap (nth values) e)) ∙ c.read_sound.ensures))
