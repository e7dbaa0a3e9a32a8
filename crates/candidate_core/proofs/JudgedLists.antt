-- The dependencies among the entries of a list: of one whose entries are judged, and of one if each is
-- known to be a dependency.
use Rattle.std.proofs.Common.{◌≡◌, inl, inr, ℕ, zero, suc, ◌+◌, ◌-◌, ◌<◌, Bool, true, false, List, [], ◌∷◌, ◌++◌, length, length-append, append-nil, refl, ap, sym, subst, ◌∙◌, arith, Option, Some, None}
use Rattle.std.proofs.lemmas.Bool.Decides.{eqb_tells}
use Rattle.std.specs.List.{cons_option}
use Rattle.std.specs.Option.{option_map}
use Rattle.std.specs.Prelude.{is_some, option_to_list, slice_get, ◌&&◌, if◌then◌else◌}
use Rattle.base_core.proofs.Booleans.{both_second, both_first}
use Rattle.adb_view.specs.Plain.{Plain, Plains, none, more}
use Rattle.adb_schema.specs.SoundValues.{ObeysTextAndNumberRulesOfDependency}
use Rattle.adb_view.specs.Values.{count_of, entry_at_index, int_in, nth, text_in}
use Rattle.dep_core.specs.Dependency.{Dependency, is_dependency_name_by_bytes_and_length}
use Rattle.dep_core.specs.Value.{is_match_number, is_version_or_empty}
use Rattle.dep_core.specs.ValueReading.{dependency_of_value}
use Rattle.candidate_core.specs.Candidates.{dependency_in, dependencies_among_values}
use Rattle.candidate_core.proofs.DependencyLists.{dependencies_step, dependencies_to}

-- ---- judged entries

next_is : (n : ℕ) (values : Plains) (value : Plain) (o : Option Dependency) → n < count_of values → value ≡ nth values ((n + 1) - 1) → o ≡ dependency_in value → dependencies_to (n + 1) values ≡ dependencies_to n values ++ option_to_list o
next_is n values value o h at is =
    let e : (n + 1) - 1 ≡ n = omega arith in
    let found : dependency_in (nth values n) ≡ o = sym (is ∙ ap dependency_in (at ∙ ap (nth values) e)) in
    dependencies_step n values h ∙ ap (λ (z : Option Dependency). dependencies_to n values ++ option_to_list z) found

pub one_passed : (n : ℕ) (values : Plains) (value : Plain) (d : Dependency) (count : ℕ) → n < count_of values → value ≡ nth values ((n + 1) - 1) → Some d ≡ dependency_in value → count ≡ length (dependencies_to n values) → count + 1 ≡ length (dependencies_to (n + 1) values)
one_passed n values value d count h at is was =
    let len : length (dependencies_to (n + 1) values) ≡ length (dependencies_to n values) + 1 = ap length (next_is n values value (Some d) h at is) ∙ length-append (dependencies_to n values) (d ∷ []) in
    omega (arith, was, len)

pub none_passed : (n : ℕ) (values : Plains) (value : Plain) (count : ℕ) → n < count_of values → value ≡ nth values ((n + 1) - 1) → None ≡ dependency_in value → count ≡ length (dependencies_to n values) → count ≡ length (dependencies_to (n + 1) values)
none_passed n values value count h at is was =
    was ∙ ap length (sym (next_is n values value None h at is ∙ append-nil (dependencies_to n values)))

behind : (o : Option Dependency) (xs ys : List Dependency) (k : ℕ) (d : Dependency) → slice_get (cons_option o xs) k ≡ Some d → ((j : ℕ) → slice_get xs j ≡ Some d → slice_get ys j ≡ Some d) → slice_get (cons_option o ys) k ≡ Some d
behind None xs ys k d h to = to k h
behind (Some x) xs ys zero d h to = h
behind (Some x) xs ys (suc k) d h to = to k h

abbrev nothing : List Dependency
nothing = []

nothing_at : (k : ℕ) (d : Dependency) (ys : List Dependency) → slice_get nothing k ≡ Some d → slice_get ys k ≡ Some d
nothing_at zero d ys h = absurd (cc)
nothing_at (suc k) d ys h = absurd (cc)

front_get : (n k : ℕ) (values : Plains) (d : Dependency) → slice_get (dependencies_to n values) k ≡ Some d → slice_get (dependencies_among_values values) k ≡ Some d
front_get zero k values d h = nothing_at k d (dependencies_among_values values) h
front_get (suc n) k none d h = nothing_at k d [] h
front_get (suc n) k (more v vs) d h = behind (dependency_in v) (dependencies_to n vs) (dependencies_among_values vs) k d h (λ j g. front_get n j vs d g)

at_end : (xs : List Dependency) (d : Dependency) → slice_get (xs ++ d ∷ []) (length xs) ≡ Some d
at_end [] d = refl
at_end (x ∷ xs) d = at_end xs d

pub stands_at : (n : ℕ) (values : Plains) (value : Plain) (d : Dependency) (place : ℕ) → n < count_of values → value ≡ nth values ((n + 1) - 1) → Some d ≡ dependency_in value → place ≡ length (dependencies_to n values) → slice_get (dependencies_among_values values) place ≡ Some d
stands_at n values value d place h at is was =
    front_get (n + 1) place values d
    (ap (λ (xs : List Dependency). slice_get xs place) (next_is n values value (Some d) h at is)
    ∙ (ap (slice_get (dependencies_to n values ++ d ∷ [])) was ∙ at_end (dependencies_to n values) d))

-- ---- entries that are dependencies

chosen : (b : Bool) (d : Dependency) → is_some (if b then Some d else None) ≡ true → b ≡ true
chosen true d h = refl
chosen false d h = absurd (cc)

-- what is read as a dependency keeps the rules
pub sound_if_some : (v : Plain) → is_some (dependency_in v) ≡ true → ObeysTextAndNumberRulesOfDependency v
unfolding dependency_of_value
sound_if_some v h =
    let all = chosen (is_dependency_name_by_bytes_and_length (text_in (entry_at_index v 0)) && (is_version_or_empty (text_in (entry_at_index v 1)) && is_match_number (int_in (entry_at_index v 2)))) _ h in
    let rest = both_second (is_dependency_name_by_bytes_and_length (text_in (entry_at_index v 0))) _ all in
    record {
      name = both_first (is_dependency_name_by_bytes_and_length (text_in (entry_at_index v 0))) _ all;
      version = both_first (is_version_or_empty (text_in (entry_at_index v 1))) _ rest;
      matching = both_second (is_version_or_empty (text_in (entry_at_index v 1))) _ rest;
    }

some_of : (v : Plain) → ObeysTextAndNumberRulesOfDependency v → is_some (dependency_in v) ≡ true
unfolding dependency_of_value
some_of v s = rw (s.name, s.version, s.matching) refl

one_longer : (o : Option Dependency) (xs : List Dependency) → is_some o ≡ true → length (cons_option o xs) ≡ suc (length xs)
one_longer None xs h = absurd (cc)
one_longer (Some d) xs h = refl

at_front : (o : Option Dependency) (xs : List Dependency) → is_some o ≡ true → slice_get (cons_option o xs) zero ≡ o
at_front None xs h = absurd (cc)
at_front (Some d) xs h = refl

past_front : (o : Option Dependency) (xs : List Dependency) (i : ℕ) → is_some o ≡ true → slice_get (cons_option o xs) (suc i) ≡ slice_get xs i
past_front None xs i h = absurd (cc)
past_front (Some d) xs i h = refl

abbrev pub AreSound : Plains → Type 0
AreSound values = (i : ℕ) → i < count_of values → ObeysTextAndNumberRulesOfDependency (nth values i)

pub sound_count : (values : Plains) → AreSound values → length (dependencies_among_values values) ≡ count_of values
sound_count none s = refl
sound_count (more v vs) s =
    one_longer (dependency_in v) (dependencies_among_values vs) (some_of v (s 0 (omega arith)))
    ∙ ap suc (sound_count vs (λ i h. s (suc i) (omega (arith, h))))

pub sound_at : (values : Plains) (i : ℕ) → AreSound values → i < count_of values → slice_get (dependencies_among_values values) i ≡ dependency_in (nth values i)
sound_at none i s h = absurd (omega (arith, h))
sound_at (more v vs) zero s h = at_front (dependency_in v) (dependencies_among_values vs) (some_of v (s 0 h))
sound_at (more v vs) (suc i) s h =
    past_front (dependency_in v) (dependencies_among_values vs) i (some_of v (s 0 (omega (arith, h))))
    ∙ sound_at vs i (λ j g. s (suc j) (omega (arith, g))) (omega (arith, h))

pub some_mapped : {X Y : Type 0} (f : X → Y) (o : Option X) → is_some o ≡ true → is_some (option_map f o) ≡ true
some_mapped f None h = absurd (cc)
some_mapped f (Some x) h = refl

-- one more entry that was read as a dependency
pub one_more_sound : (list : Plain) (n : ℕ) (value : Plain) → value ≡ entry_at_index list ((n + 1) - 1) → is_some (dependency_in value) ≡ true → ((k : ℕ) → k < n → ObeysTextAndNumberRulesOfDependency (entry_at_index list k)) → (k : ℕ) → k < n + 1 → ObeysTextAndNumberRulesOfDependency (entry_at_index list k)
one_more_sound list n value at is before k h =
    let e : (n + 1) - 1 ≡ n = omega arith in
    let here : ObeysTextAndNumberRulesOfDependency (entry_at_index list n) = subst ObeysTextAndNumberRulesOfDependency (at ∙ ap (entry_at_index list) e) (sound_if_some value is) in
    elim (eqb_tells k n) [
      | inl s ↦ subst (λ (j : ℕ). ObeysTextAndNumberRulesOfDependency (entry_at_index list j)) (sym s.1) here
      | inr s ↦ before k (omega (arith, h, s.1))
    ]
