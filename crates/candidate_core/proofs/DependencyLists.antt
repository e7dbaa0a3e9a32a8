-- The dependencies of the entries in front of a place.
use Rattle.std.proofs.Common.{◌≡◌, ℕ, zero, suc, ◌+◌, ◌<◌, List, [], ◌++◌, refl, ap, sym, ◌∙◌, arith, Option, Some, None, subst, ◌-◌}
use Rattle.std.specs.List.{cons_option}
use Rattle.std.specs.Prelude.{option_to_list}
use Rattle.adb_view.specs.Plain.{Plain, Plains, none, more}
use Rattle.adb_view.specs.Values.{count_of, nth}
use Rattle.dep_core.specs.Dependency.{Dependency}
use Rattle.candidate_core.specs.Candidates.{dependency_in, dependencies_among_values}

abbrev pub dependencies_to : ℕ → Plains → List Dependency
dependencies_to zero values = []
dependencies_to (suc n) none = []
dependencies_to (suc n) (more value values) = cons_option (dependency_in value) (dependencies_to n values)

cons-append : (d : Option Dependency) (xs ys : List Dependency) → cons_option d (xs ++ ys) ≡ cons_option d xs ++ ys
cons-append None xs ys = refl
cons-append (Some d) xs ys = refl

alone : (d : Option Dependency) → cons_option d [] ≡ option_to_list d
alone None = refl
alone (Some d) = refl

one_more : (n : ℕ) (values : Plains) → n < count_of values → dependencies_to (suc n) values ≡ dependencies_to n values ++ option_to_list (dependency_in (nth values n))
one_more n none h = absurd (omega arith)
one_more zero (more value values) h = alone (dependency_in value)
one_more (suc n) (more value values) h =
    ap (cons_option (dependency_in value)) (one_more n values (omega arith))
    ∙ cons-append (dependency_in value) (dependencies_to n values) (option_to_list (dependency_in (nth values n)))

pub dependencies_step : (n : ℕ) (values : Plains) → n < count_of values → dependencies_to (n + 1) values ≡ dependencies_to n values ++ option_to_list (dependency_in (nth values n))
dependencies_step n values h =
    let e : n + 1 ≡ suc n = omega arith in
    let P : ℕ → Type 0 = λ k. dependencies_to k values ≡ dependencies_to n values ++ option_to_list (dependency_in (nth values n)) in
    subst P (sym e) (one_more n values h)

-- one more dependency, from what the calls of one turn of the loop say
pub read_step : (n : ℕ) (values : Plains) (value : Plain) (found : Option Dependency) (before after : List Dependency) → n < count_of values → value ≡ nth values ((n + 1) - 1) → found ≡ dependency_in value → before ≡ dependencies_to n values → after ≡ before ++ option_to_list found → after ≡ dependencies_to (n + 1) values
read_step n values value found before after h is_value is_found is_before is_after =
    let e : (n + 1) - 1 ≡ n = omega arith in
    let v : value ≡ nth values n = is_value ∙ ap (nth values) e in
    is_after ∙ (ap (λ xs. xs ++ option_to_list found) is_before ∙ (ap (λ d. dependencies_to n values ++ option_to_list d) (is_found ∙ ap dependency_in v) ∙ sym (dependencies_step n values h)))

pub all_dependencies : (values : Plains) → dependencies_to (count_of values) values ≡ dependencies_among_values values
all_dependencies none = refl
all_dependencies (more value values) = ap (cons_option (dependency_in value)) (all_dependencies values)
