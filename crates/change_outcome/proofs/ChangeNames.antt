-- The names of a change are names that a change may have, each once.
use Rattle.std.proofs.Common.{◌≡◌, inl, inr, ◌&&◌, ◌<◌, ℕ, zero, suc, Bool, true, false, List, [], ◌∷◌, ◌++◌, length, get_or, All, AllPairs, refl, sym, subst, arith, true≢false, Less}
use Rattle.std.specs.Prelude.{not}
use Rattle.std.specs.Str.{bytes_eq}
use Rattle.db_core.specs.adb_schema.Reserved.{is_intent_or_stage_name}
use Rattle.db_core.specs.adb_schema.Rules.{is_name_allowed_in_intent}
use Rattle.base_core.specs.Files.{Files}
use Rattle.base_core.specs.Name.{IsName, is_name}
use Rattle.base_core.proofs.Rising.{IsIn, Rises, in_at, order, not_itself}
use Rattle.base_core.proofs.AtName.{other_name}
use Rattle.base_core.proofs.Listed.{in_both}
use Rattle.package_changes.specs.own_core.FileChange.{FileChange}
use Rattle.package_changes.specs.own_core.FilesAfter.{DatabaseAndWorldAfter}
use Rattle.package_changes.proofs.own_core.InOrder.{order_rises}
use Rattle.package_changes.proofs.own_core.Lists.{any_name}
use Rattle.change_inputs.specs.Inputs.{Inputs}
use Rattle.change_outcome.specs.ChangeOutcome.{intent_of_change}
use Rattle.journal_core.specs.journal_intent.Intent.{AreDistinctNamesAllowedInIntent, Intent}
use Rattle.change_outcome.specs.Premises.{OldAndAddedPackagesListNoReservedPath}
use Rattle.change_outcome.proofs.ActionNames.{never_both, removal_outside, write_outside}

-- ---- all of a list

all_by : (P : List ℕ → Type 0) (xs : List (List ℕ)) → ((q : List ℕ) → IsIn q xs → P q) → All P xs
all_by P xs each = λ k d below. each (get_or xs k d) (in_at xs k d below)

in_all : (P : List ℕ → Type 0) (xs : List (List ℕ)) → All P xs → (q : List ℕ) → IsIn q xs → P q
in_all P [] all q here = absurd here
in_all P (x ∷ xs) all q (inl is) = subst P (sym is) (all 0 x (omega arith))
in_all P (x ∷ xs) all q (inr more) = in_all P xs (λ k d below. all (suc k) d (omega (arith, below))) q more

-- ---- each once

abbrev AreApart : List (List ℕ) → Type 0
AreApart [] = Unit {0}
AreApart (x ∷ xs) = ((q : List ℕ) → IsIn q xs → bytes_eq x q ≡ false) × AreApart xs

apart_rising : (xs : List (List ℕ)) → Rises xs → AreApart xs
apart_rising [] rises = tt
apart_rising (x ∷ xs) rises = (λ q here. other_name x q (λ is. not_itself x (subst (λ (y : List ℕ). order x y ≡ Less) (sym is) (rises.0 q here))), apart_rising xs rises.1)

apart_both : (xs ys : List (List ℕ)) → AreApart xs → AreApart ys → ((q : List ℕ) → IsIn q xs → IsIn q ys → ⊥) → AreApart (xs ++ ys)
apart_both [] ys ax ay never = ay
apart_both (x ∷ xs) ys ax ay never = (
  λ q here. elim (in_both q xs ys here) [
    | inl left ↦ ax.0 q left
    | inr right ↦ other_name x q (λ is. never x (inl refl) (subst (λ (y : List ℕ). IsIn y ys) (sym is) right))
  ],
  apart_both xs ys ax.1 ay (λ q here. never q (inr here)),
)

pairs_apart : (xs : List (List ℕ)) → AreApart xs → AllPairs (λ a b. bytes_eq a b ≡ false) xs
pairs_apart [] apart = λ i j d before below. absurd (omega (arith, below))
pairs_apart (x ∷ xs) apart = λ i j d before below. at_pair x xs apart (pairs_apart xs apart.1) i j d before below
  where
    at_pair : (x : List ℕ) (xs : List (List ℕ)) → AreApart (x ∷ xs) → AllPairs (λ a b. bytes_eq a b ≡ false) xs
        → (i j : ℕ) (d : List ℕ) → i < j → j < length (x ∷ xs) → bytes_eq (get_or (x ∷ xs) i d) (get_or (x ∷ xs) j d) ≡ false
    at_pair x xs apart more i zero d before below = absurd (omega (arith, before))
    at_pair x xs apart more zero (suc j) d before below = apart.0 (get_or xs j d) (in_at xs j d (omega (arith, below)))
    at_pair x xs apart more (suc i) (suc j) d before below = more i j d (omega (arith, before)) (omega (arith, below))

-- ---- the names of a change

both_true : (a b : Bool) → a ≡ true → b ≡ false → (a && not b) ≡ true
both_true true true x y = absurd (true≢false y)
both_true true false x y = refl
both_true false b x y = absurd (true≢false (sym x))

module _ (inputs : Inputs) (change : FileChange) (files : Files) (records : DatabaseAndWorldAfter) (free : OldAndAddedPackagesListNoReservedPath change) where
  abbrev actions : Intent
  actions = intent_of_change inputs change files records

  module _ (removals_named : All IsName actions.removals) (writes_named : All IsName actions.writes) where
    one_change_name : (q : List ℕ) → IsIn q (actions.removals ++ actions.writes) → is_name_allowed_in_intent q ≡ true
    one_change_name q here =
        elim (in_both q actions.removals actions.writes here) [
          | inl gone ↦ both_true (is_name q) (is_intent_or_stage_name q) (in_all IsName actions.removals removals_named q gone) (removal_outside inputs change files records free q (any_name q actions.removals gone))
          | inr wrote ↦ both_true (is_name q) (is_intent_or_stage_name q) (in_all IsName actions.writes writes_named q wrote) (write_outside inputs change files records free q (any_name q actions.writes wrote))
        ]

    pub change_names : AreDistinctNamesAllowedInIntent (actions.removals ++ actions.writes)
    change_names = record {
      each = all_by (λ name. is_name_allowed_in_intent name ≡ true) (actions.removals ++ actions.writes) one_change_name;
      once = pairs_apart (actions.removals ++ actions.writes)
          (apart_both actions.removals actions.writes (apart_rising actions.removals (order_rises _)) (apart_rising actions.writes (order_rises _))
          (λ q gone wrote. never_both inputs change files records free q (any_name q actions.writes wrote) (any_name q actions.removals gone)));
    }
