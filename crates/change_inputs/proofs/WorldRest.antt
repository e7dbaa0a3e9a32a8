-- World without the entries of several names: entry by entry, and name by name.
use Rattle.std.proofs.Common.{◌≡◌, ℕ, ◌+◌, ◌≤◌, Bool, true, false, cond, not, List, [], ◌∷◌, ◌++◌, length, drop, Some, refl, sym, ap, ◌∙◌, subst, append-nil, append_assoc}
use Rattle.std.specs.Prelude.{◌||◌}
use Rattle.std.specs.List.{filter, list_all, list_any, slice_get}
use Rattle.std.specs.List.Sorted.{IsPermutation}
use Rattle.std.specs.Ordering.{match_ordering}
use Rattle.std.specs.Str.{bytes_eq}
use Rattle.std.specs.declared.cmp.Ordering.TheVariants.{Less}
use Rattle.std.proofs.lemmas.Bool.{and_parts}
use Rattle.std.proofs.lemmas.List.{drop_all}
use Rattle.std.proofs.lemmas.List.Sorted.{list_any-IsPermutation}
use Rattle.base_core.specs.ByteOrder.{bytes_cmp}
use Rattle.base_core.proofs.Orderings.{is_less}
use Rattle.command_core.specs.declared.operands.Operand.{Operand}
use Rattle.command_core.proofs.Entries.{left_at}
use Rattle.dep_core.specs.Dependency.{Dependency}
use Rattle.dep_core.specs.DependencyText.{is_dependency}
use Rattle.dep_core.specs.World.{IsWorldSortedByName, is_in_order, world_with_dependency_put_in_name_order, world_without_name}
use Rattle.dep_core.proofs.Worlds.{IsWorldSortedByName-without, cmp-back, is_behind}
use Rattle.dep_core.proofs.WorldText.{behind-at}
use Rattle.change_inputs.specs.World.{operand_texts, world_without_operands}
use Rattle.change_inputs.specs.WorldRest.{world_without_names}

-- ---- name by name

without_none : (w : List Dependency) → world_without_names [] w ≡ w
without_none [] = refl
without_none (d ∷ w) = ap (λ (ds : List Dependency). d ∷ ds) (without_none w)

without_one_more : (name : List ℕ) (names : List (List ℕ)) (w : List Dependency) → world_without_names names (world_without_name name w) ≡ world_without_names (name ∷ names) w
without_one_more name names [] = refl
without_one_more name names (d ∷ w) = by (bytes_eq d.name name) (without_one_more name names w)
  where
    by : (b : Bool) → world_without_names names (world_without_name name w) ≡ world_without_names (name ∷ names) w
        → world_without_names names (cond (not b) (d ∷ world_without_name name w) (world_without_name name w))
        ≡ cond (not (b || list_any (bytes_eq d.name) names)) (d ∷ world_without_names (name ∷ names) w) (world_without_names (name ∷ names) w)
    by true e = e
    by false e = ap (λ (ds : List Dependency). cond (not (list_any (bytes_eq d.name) names)) (d ∷ ds) ds) e

without_operands : (os : List Operand) (w : List Dependency) → world_without_names (operand_texts os) w ≡ world_without_operands os w
without_operands [] w = without_none w
without_operands (o ∷ os) w = sym (without_one_more o.text (operand_texts os) w) ∙ without_operands os (world_without_name o.text w)

-- the order of the names does not matter
without_sorted : (names sorted : List (List ℕ)) (w : List Dependency) → IsPermutation names sorted → world_without_names sorted w ≡ world_without_names names w
without_sorted names sorted [] same = refl
without_sorted names sorted (d ∷ w) same =
    ap (λ (b : Bool). cond (not b) (d ∷ world_without_names sorted w) (world_without_names sorted w)) (sym (list_any-IsPermutation (bytes_eq d.name) names sorted same))
    ∙ ap (λ (ds : List Dependency). cond (not (list_any (bytes_eq d.name) names)) (d ∷ ds) ds) (without_sorted names sorted w same)

pub taken_out : (os : List Operand) (texts sorted : List (List ℕ)) (w rest : List Dependency) → texts ≡ operand_texts os → IsPermutation texts sorted → rest ≡ world_without_names sorted w → rest ≡ world_without_operands os w
taken_out os texts sorted w rest are same is =
    is ∙ without_sorted texts sorted w same ∙ ap (λ (names : List (List ℕ)). world_without_names names w) are ∙ without_operands os w

rest_is_world : (names : List (List ℕ)) (w : List Dependency) → IsWorldSortedByName w → IsWorldSortedByName (world_without_names names w)
rest_is_world [] w h = subst IsWorldSortedByName (sym (without_none w)) h
rest_is_world (name ∷ names) w h =
    subst IsWorldSortedByName (without_one_more name names w) (rest_is_world names (world_without_name name w) (IsWorldSortedByName-without name w h))

-- ---- entry by entry

-- the entry that is after all others is inserted at the end
last_entry : (w : List Dependency) (d : Dependency) (rest : List Dependency) → is_in_order (w ++ (d ∷ rest)) ≡ true → world_with_dependency_put_in_name_order d w ≡ w ++ (d ∷ [])
last_entry [] d rest h = refl
last_entry (e ∷ w) d rest h =
    let parts : (list_all (is_behind e.name) (w ++ (d ∷ rest)) ≡ true) × (is_in_order (w ++ (d ∷ rest)) ≡ true) =
    and_parts (list_all (is_behind e.name) (w ++ (d ∷ rest))) (is_in_order (w ++ (d ∷ rest))) h in
    let before : bytes_cmp e.name d.name ≡ Less = is_less (bytes_cmp e.name d.name) (behind-at (is_behind e.name) w d rest parts.0) in
    ap (λ o. match_ordering o (d ∷ (e ∷ w)) (d ∷ w) (e ∷ world_with_dependency_put_in_name_order d w)) (cmp-back e.name d.name Less before)
    ∙ ap (λ (ds : List Dependency). e ∷ ds) (last_entry w d rest parts.1)

-- the entries found so far, and those that are still to be looked at
abbrev pub IsRestSoFar : List (List ℕ) → List Dependency → ℕ → List Dependency → Type 0
IsRestSoFar names w i rest = rest ++ world_without_names names (drop i w) ≡ world_without_names names w

module _ (names : List (List ℕ)) (w : List Dependency) (i : ℕ) (rest : List Dependency) (so_far : IsRestSoFar names w i rest) where
  looked_at : (d : Dependency) (b : Bool) → slice_get w i ≡ Some d → b ≡ list_any (bytes_eq d.name) names
      → rest ++ cond (not b) (d ∷ world_without_names names (drop (i + 1) w)) (world_without_names names (drop (i + 1) w)) ≡ world_without_names names w
  looked_at d b at is =
      ap (λ (t : Bool). rest ++ cond (not t) (d ∷ world_without_names names (drop (i + 1) w)) (world_without_names names (drop (i + 1) w))) is
      ∙ sym (ap (λ (l : List Dependency). rest ++ world_without_names names l) (left_at w i d at)) ∙ so_far

  pub entry_removed : (d : Dependency) (b : Bool) → slice_get w i ≡ Some d → b ≡ list_any (bytes_eq d.name) names → b ≡ true → IsRestSoFar names w (i + 1) rest
  entry_removed d b at is found =
      sym (ap (λ (t : Bool). rest ++ cond (not t) (d ∷ world_without_names names (drop (i + 1) w)) (world_without_names names (drop (i + 1) w))) found) ∙ looked_at d b at is

  pub entry_kept : (d : Dependency) (b : Bool) (more : List Dependency) → IsWorldSortedByName w → slice_get w i ≡ Some d → b ≡ list_any (bytes_eq d.name) names → b ≡ false → more ≡ world_with_dependency_put_in_name_order d rest
      → IsRestSoFar names w (i + 1) more
  entry_kept d b more is_world at is none added =
      let later : List Dependency = world_without_names names (drop (i + 1) w) in
      let all : rest ++ d ∷ later ≡ world_without_names names w =
      sym (ap (λ (t : Bool). rest ++ cond (not t) (d ∷ later) later) none) ∙ looked_at d b at is in
      let whole : IsWorldSortedByName (rest ++ d ∷ later) = subst IsWorldSortedByName (sym all) (rest_is_world names w is_world) in
      ap (λ (l : List Dependency). l ++ later) (added ∙ last_entry rest d later (and_parts (list_all is_dependency (rest ++ d ∷ later)) (is_in_order (rest ++ d ∷ later)) whole).1)
      ∙ (append_assoc rest (d ∷ []) later ∙ all)

  pub all_looked_at : length w ≤ i → rest ≡ world_without_names names w
  all_looked_at past = sym (append-nil rest) ∙ sym (ap (λ (l : List Dependency). rest ++ world_without_names names l) (drop_all i w past)) ∙ so_far
