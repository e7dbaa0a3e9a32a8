-- Names that world or the database knows, operand by operand.
use Rattle.std.proofs.Common.{◌≡◌, ℕ, ◌+◌, ◌<◌, ◌≤◌, Bool, true, false, cond, List, [], ◌∷◌, Some, None, refl, sym, ap, ◌∙◌, drop, get_or, length, subst, ⊎_elim, arith}
use Rattle.std.proofs.lemmas.Bool.{and_parts, cases_lt}
use Rattle.std.proofs.lemmas.List.{drop_all}
use Rattle.std.proofs.lemmas.Option.{get_or_from_slice_get, slice_get_within}
use Rattle.std.specs.Prelude.{if◌then◌else◌, ◌||◌, is_some, slice_get}
use Rattle.std.specs.List.{list_all, list_any, position_from}
use Rattle.std.specs.declared.cmp.Ordering.TheVariants.{Less, Equal, Greater}
use Rattle.base_core.specs.ByteOrder.{bytes_cmp}
use Rattle.base_core.proofs.Orderings.{is_less, names_total}
use Rattle.command_core.specs.declared.operands.Operand.{Operand}
use Rattle.dep_core.specs.Dependency.{Dependency}
use Rattle.dep_core.specs.DependencyText.{is_dependency}
use Rattle.dep_core.specs.World.{IsWorldSortedByName, has_dependency_named, is_in_order}
use Rattle.dep_core.proofs.Places.{has_dependency_named-at, has_dependency_named-none, in_order_at}
use Rattle.dep_core.proofs.Worlds.{cmp-back}
use Rattle.change_report.proofs.make_info.Left.{left_at}
use Rattle.engine_core.specs.Wishes.{place_of_first_unknown_operand}

pub is_found : {X : Type 0} (p : X → Bool) (n : ℕ) (xs : List X) → is_some (position_from p n xs) ≡ list_any p xs
is_found p n [] = refl
is_found p n (x ∷ xs) = go (p x) (is_found p (n + 1) xs)
  where
    go : (t : Bool) → is_some (position_from p (n + 1) xs) ≡ list_any p xs → is_some (cond t (Some n) (position_from p (n + 1) xs)) ≡ (t || list_any p xs)
    go true r = refl
    go false r = r

-- ---- world, by bisection

-- the entries before `low` are before the name, and those from `high` on are after it
abbrev pub IsNarrowed : List ℕ → List Dependency → ℕ → ℕ → Type 0
IsNarrowed name world low high =
    (low ≤ high) × (high ≤ length world)
    × ((k : ℕ) (d : Dependency) → k < length world → k < low → bytes_cmp (get_or world k d).name name ≡ Less)
    × ((k : ℕ) (d : Dependency) → high ≤ k → k < length world → bytes_cmp (get_or world k d).name name ≡ Greater)

pub not_narrowed : (name : List ℕ) (world : List Dependency) → IsNarrowed name world 0 (length world)
not_narrowed name world = ((omega arith), (omega arith), (λ k d within early. absurd (omega arith)), (λ k d late within. absurd (omega arith)))

pub name_nowhere : (name : List ℕ) (world : List Dependency) (low high : ℕ) → IsNarrowed name world low high → high ≤ low → false ≡ has_dependency_named name world
name_nowhere name world low high narrowed met =
    sym (has_dependency_named-none name world low ((λ k d inside early. narrowed.2 k d (omega (arith, inside)) (omega (arith, early))), (λ k d late inside. narrowed.3 k d (omega (arith, met, late)) (omega (arith, inside)))))

module _ (name : List ℕ) (world : List Dependency) (is_world : IsWorldSortedByName world) (i : ℕ) (d : Dependency) (at : slice_get world i ≡ Some d) where
  within : i < length world
  within = slice_get_within world i d at

  here : (f : Dependency) → get_or world i f ≡ d
  here f = get_or_from_slice_get world i d f at

  in_order : is_in_order world ≡ true
  in_order = (and_parts (list_all is_dependency world) (is_in_order world) is_world).1

  pub name_here : bytes_cmp d.name name ≡ Equal → true ≡ has_dependency_named name world
  name_here same = sym (has_dependency_named-at name world i within (λ f. subst (λ (e : Dependency). bytes_cmp e.name name ≡ Equal) (sym (here f)) same))

  pub name_later : (low high : ℕ) → IsNarrowed name world low high → i < high → bytes_cmp d.name name ≡ Less → IsNarrowed name world (i + 1) high
  name_later low high narrowed below less = ((omega (arith, below)), narrowed.1, early, narrowed.3)
    where
      early : (k : ℕ) (f : Dependency) → k < length world → k < i + 1 → bytes_cmp (get_or world k f).name name ≡ Less
      early k f inside before =
          ⊎_elim
          (λ (lower : k < i). names_total.trans (get_or world k f).name d.name name
          (subst (λ (e : Dependency). bytes_cmp (get_or world k f).name e.name ≡ Less) (here f) (is_less (bytes_cmp (get_or world k f).name (get_or world i f).name) (in_order_at world k i f in_order lower within))) less)
          (λ (not_lower : i ≤ k). subst (λ (n : ℕ). bytes_cmp (get_or world n f).name name ≡ Less) (omega (arith, not_lower, before)) (subst (λ (e : Dependency). bytes_cmp e.name name ≡ Less) (sym (here f)) less))
          (cases_lt k i)

  pub name_earlier : (low high : ℕ) → IsNarrowed name world low high → low ≤ i → bytes_cmp d.name name ≡ Greater → IsNarrowed name world low i
  name_earlier low high narrowed above greater = (above, (omega (arith, within)), narrowed.2, late)
    where
      back : bytes_cmp name d.name ≡ Less
      back = cmp-back d.name name Greater greater

      late : (k : ℕ) (f : Dependency) → i ≤ k → k < length world → bytes_cmp (get_or world k f).name name ≡ Greater
      late k f from inside =
          ⊎_elim
          (λ (higher : i < k). cmp-back name (get_or world k f).name Less (names_total.trans name d.name (get_or world k f).name back
          (subst (λ (e : Dependency). bytes_cmp e.name (get_or world k f).name ≡ Less) (here f) (is_less (bytes_cmp (get_or world i f).name (get_or world k f).name) (in_order_at world i k f in_order higher inside)))))
          (λ (not_higher : k ≤ i). subst (λ (n : ℕ). bytes_cmp (get_or world n f).name name ≡ Greater) (omega (arith, not_higher, from)) (subst (λ (e : Dependency). bytes_cmp e.name name ≡ Greater) (sym (here f)) greater))
          (cases_lt i k)

-- ---- the operands

module _ (is_known : List ℕ → Bool) (operands : List Operand) (i : ℕ) (left : place_of_first_unknown_operand is_known (drop i operands) ≡ place_of_first_unknown_operand is_known operands) where
  first_at : (o : Operand) (b : Bool) → slice_get operands i ≡ Some o → b ≡ is_known o.text
      → (if b then place_of_first_unknown_operand is_known (drop (i + 1) operands) else Some o.place) ≡ place_of_first_unknown_operand is_known operands
  first_at o b at is = ap (λ (t : Bool). if t then place_of_first_unknown_operand is_known (drop (i + 1) operands) else Some o.place) is ∙ sym (ap (place_of_first_unknown_operand is_known) (left_at operands i o at)) ∙ left

  pub unknown_here : (o : Operand) (b : Bool) → slice_get operands i ≡ Some o → b ≡ is_known o.text → b ≡ false → Some o.place ≡ place_of_first_unknown_operand is_known operands
  unknown_here o b at is none = sym (ap (λ (t : Bool). if t then place_of_first_unknown_operand is_known (drop (i + 1) operands) else Some o.place) none) ∙ first_at o b at is

  pub known_here : (o : Operand) (b : Bool) → slice_get operands i ≡ Some o → b ≡ is_known o.text → b ≡ true → place_of_first_unknown_operand is_known (drop (i + 1) operands) ≡ place_of_first_unknown_operand is_known operands
  known_here o b at is known = sym (ap (λ (t : Bool). if t then place_of_first_unknown_operand is_known (drop (i + 1) operands) else Some o.place) known) ∙ first_at o b at is

  pub all_known : length operands ≤ i → None ≡ place_of_first_unknown_operand is_known operands
  all_known past = sym (ap (place_of_first_unknown_operand is_known) (drop_all i operands past)) ∙ left
