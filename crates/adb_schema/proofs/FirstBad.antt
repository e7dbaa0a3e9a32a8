-- The first leaf that breaks its rule.
use Rattle.std.proofs.Common.{◌≡◌, ℕ, zero, suc, ◌<◌, Bool, true, false, List, [], ◌∷◌, Option, Some, None, refl, arith}
use Rattle.std.specs.Prelude.{slice_get, if◌then◌else◌}
use Rattle.base_core.specs.declared.cause.Cause.{Cause}
use Rattle.base_core.specs.declared.cause.Cause.TheVariants.{BadText}
use Rattle.adb_schema.specs.Texts.{Leaf, keeps_rule, field_number_of_leaf, first_bad_leaf}
use Rattle.adb_schema.specs.FirstBad.{IsFirstBadLeafIfAny}
use Rattle.adb_schema.specs.FirstBad.{IsFirstBadLeaf}

-- one leaf more in front
after_kept : (x : Leaf) (xs : List Leaf) (c : Cause) → keeps_rule x ≡ true → IsFirstBadLeaf xs c → IsFirstBadLeaf (x ∷ xs) c
after_kept x xs c kept f = record {
  i = suc f.i;
  leaf = f.leaf;
  at = f.at;
  broken = f.broken;
  cause = f.cause;
  before = earlier;
}
  where
    earlier : (j : ℕ) → (other : Leaf) → j < suc f.i → slice_get (x ∷ xs) j ≡ Some other → keeps_rule other ≡ true
    earlier zero other lt e = let same : x ≡ other = cc in cc
    earlier (suc j) other lt e = f.before j other (omega arith) e

told : (x : Leaf) (xs : List Leaf) (b : Bool) → keeps_rule x ≡ b → (o : Option Cause) → IsFirstBadLeafIfAny xs o → IsFirstBadLeafIfAny (x ∷ xs) (if b then o else Some (BadText (field_number_of_leaf x)))
told x xs true e None h = rw (e, h) refl
told x xs true e (Some c) h = after_kept x xs c e h
told x xs false e o h = record {
  i = 0;
  leaf = x;
  at = refl;
  broken = e;
  cause = refl;
  before = λ j other lt at. absurd (omega arith);
}

pub tells_first_bad : (all : List Leaf) → IsFirstBadLeafIfAny all (first_bad_leaf all)
tells_first_bad [] = refl
tells_first_bad (x ∷ xs) = told x xs (keeps_rule x) refl (first_bad_leaf xs) (tells_first_bad xs)
