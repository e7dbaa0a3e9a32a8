-- A map from names to the entries of those names, against the list of the entries.
use Rattle.std.proofs.Common.{◌≡◌, ℕ, Bool, true, false, not, cond, List, [], ◌∷◌, Option, Some, Ordering, refl, ap, sym, ◌∙◌}
use Rattle.std.specs.Prelude.{◌||◌, is_some}
use Rattle.std.specs.Borrow.{Bor}
use Rattle.std.specs.BTreeMap.{insert_entry, is_at}
use Rattle.std.specs.Map.{lookup, values_of}
use Rattle.std.specs.Ordering.{nat_cmp, is_eq, match_ordering}
use Rattle.std.specs.Str.{bytes_eq}
use Rattle.std.specs.Cmp.Lexicographic.{slice_cmp, texts_ties, nat_list_eq_equiv}
use Rattle.std.specs.declared.cmp.Ordering.TheVariants.{Less, Equal, Greater}
use Rattle.dep_core.specs.Dependency.{Dependency}
use Rattle.dep_core.specs.Found.{IsKeyedByName}
use Rattle.dep_core.specs.World.{has_dependency_named, world_with_dependency_put_in_name_order}
use Rattle.base_core.specs.ByteOrder.{bytes_cmp}
use Rattle.dep_core.proofs.Worlds.{cmp-equal}

abbrev key_cmp : Bor (List ℕ) → Bor (List ℕ) → Ordering
key_cmp x y = slice_cmp nat_cmp x.now y.now

values-by : (k : Bor (List ℕ)) (v : Dependency) (e : Bor (List ℕ) × Dependency) (rest more : List (Bor (List ℕ) × Dependency)) (others : List Dependency) (o : Ordering) → values_of more ≡ others → values_of (match_ordering o ((k, v) ∷ (e ∷ rest)) ((e.0, v) ∷ rest) (e ∷ more)) ≡ match_ordering o (v ∷ (e.1 ∷ values_of rest)) (v ∷ values_of rest) (e.1 ∷ others)
values-by k v e rest more others Less h = refl
values-by k v e rest more others Equal h = refl
values-by k v e rest more others Greater h = ap (λ ds. e.1 ∷ ds) h

pub values-insert : (es : List (Bor (List ℕ) × Dependency)) (k : Bor (List ℕ)) (v : Dependency) → k.now ≡ v.name → IsKeyedByName es → values_of (insert_entry key_cmp es k v) ≡ world_with_dependency_put_in_name_order v (values_of es)
values-insert [] k v n h = refl
values-insert (e ∷ rest) k v n h =
    values-by k v e rest (insert_entry key_cmp rest k v) (world_with_dependency_put_in_name_order v (values_of rest)) (key_cmp k e.0) (values-insert rest k v n h.1)
    ∙ ap (λ o. match_ordering o (v ∷ (e.1 ∷ values_of rest)) (v ∷ values_of rest) (e.1 ∷ world_with_dependency_put_in_name_order v (values_of rest))) ((λ i. bytes_cmp (n i) (h.0 i)))

by_name-by : (k : Bor (List ℕ)) (v : Dependency) (e : Bor (List ℕ) × Dependency) (rest more : List (Bor (List ℕ) × Dependency)) (o : Ordering) → k.now ≡ v.name → bytes_cmp k.now e.0.now ≡ o → IsKeyedByName (e ∷ rest) → IsKeyedByName more → IsKeyedByName (match_ordering o ((k, v) ∷ (e ∷ rest)) ((e.0, v) ∷ rest) (e ∷ more))
by_name-by k v e rest more Less n c h m = (n, h)
by_name-by k v e rest more Equal n c h m = (sym (cmp-equal k.now e.0.now c) ∙ n, h.1)
by_name-by k v e rest more Greater n c h m = (h.0, m)

pub by_name-insert : (es : List (Bor (List ℕ) × Dependency)) (k : Bor (List ℕ)) (v : Dependency) → k.now ≡ v.name → IsKeyedByName es → IsKeyedByName (insert_entry key_cmp es k v)
by_name-insert [] k v n h = (n, tt)
by_name-insert (e ∷ rest) k v n h =
    by_name-by k v e rest (insert_entry key_cmp rest k v) (key_cmp k e.0) n refl h (by_name-insert rest k v n h.1)

-- the test of a look-up is that of a name
tests_agree : (k a b : List ℕ) → a ≡ b → is_eq (slice_cmp nat_cmp k a) ≡ bytes_eq b k
tests_agree k a b h = sym (texts_ties k a) ∙ (nat_list_eq_equiv.symm k a ∙ ap (λ n. bytes_eq n k) h)

some-by : (a b : Bool) (v : Dependency) (r : Option Dependency) (s : Bool) → a ≡ b → is_some r ≡ s → is_some (cond a (Some v) r) ≡ (b || s)
some-by true b v r s e h = ap (λ t. t || s) e
some-by false b v r s e h = h ∙ ap (λ t. t || s) e

pub some-found : (es : List (Bor (List ℕ) × Dependency)) (k : Bor (List ℕ)) → IsKeyedByName es → is_some (lookup (is_at (key_cmp k)) es) ≡ has_dependency_named k.now (values_of es)
some-found [] k h = refl
some-found (e ∷ rest) k h =
    some-by (is_at (key_cmp k) e.0) (bytes_eq e.1.name k.now) e.1 (lookup (is_at (key_cmp k)) rest) (has_dependency_named k.now (values_of rest)) (tests_agree k.now e.0.now e.1.name h.0) (some-found rest k h.1)

pub not-moved : (a b c : Bool) → a ≡ not b → a ≡ c → b ≡ not c
not-moved a true c n h = ap not (sym n ∙ h)
not-moved a false c n h = ap not (sym n ∙ h)
