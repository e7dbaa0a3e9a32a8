-- The value of an intent is one that its container may hold, and it is read back as the intent.
use Rattle.std.proofs.Common.{◌≡◌, ◌≢◌, inl, inr, ℕ, suc, ◌+◌, ◌≤◌, ◌<◌, true, false, List, [], ◌∷◌, ◌++◌, map, length, refl, sym, ap, subst, ◌∙◌, arith}
use Rattle.std.specs.Prelude.{AllPairs, get_or}
use Rattle.std.specs.List.{All}
use Rattle.std.specs.Str.{bytes_eq}
use Rattle.std.proofs.lemmas.List.Elements.{All-head, All-tail}
use Rattle.base_core.proofs.AtName.{same_name}
use Rattle.adb_view.specs.Plain.{Plain, Plains, none, more, text, blob_or_null, IsNormal, AreNormal, count_of, plains_of_texts}
use Rattle.adb_view.specs.Shaped.{Each, IsBlobOrNull, HasShape}
use Rattle.adb_sound.specs.adb_fields.FirstPair.{IsIn}
use Rattle.adb_sound.specs.adb_fields.Once.{AreDistinctNames, HasNoForbiddenRepeatedName}
use Rattle.adb_sound.specs.adb_fields.Repeated.{list_of}
use Rattle.adb_sound.specs.adb_schema.Rules.{is_name_allowed_in_intent}
use Rattle.adb_sound.specs.adb_schema.SoundValues.{IsNameAllowedInIntent, ObeysTextAndNumberRulesOfTable}
use Rattle.adb_view.specs.Schema.{shape_of}
use Rattle.adb_view.specs.Values.{text_in}
use Rattle.adb_view.specs.declared.tables.Which.TheVariants as Tables
use Rattle.adb_view.specs.declared.tables.Kind.TheVariants as Kinds
use Rattle.adb_view.proofs.ValueEntries.{text_blob}
use Rattle.adb_view.proofs.Normal.{blob_value_normal}
use Rattle.adb_sound.specs.adb_write.Size.{entries_of, value_count}
use Rattle.journal_intent.specs.Intent.{AreDistinctNamesAllowedInIntent, Intent, intent_of_value}
use Rattle.journal_intent.specs.IntentValue.{intent_of_lists, value_of_intent}

-- ---- it is read back

texts_back : (names : List (List ℕ)) → map text_in (list_of (plains_of_texts names)) ≡ names
texts_back [] = refl
texts_back (n ∷ ns) = (λ i. text_blob n i ∷ map text_in (list_of (plains_of_texts ns))) ∙ ap (λ (l : List (List ℕ)). n ∷ l) (texts_back ns)

pub value_back : (removals writes : List (List ℕ)) → intent_of_value (value_of_intent (intent_of_lists removals writes)) ≡ intent_of_lists removals writes
value_back [] [] = refl
value_back (r ∷ rs) [] = λ i. record { removals = texts_back (r ∷ rs) i; writes = [] }
value_back [] (w ∷ ws) = λ i. record { removals = []; writes = texts_back (w ∷ ws) i }
value_back (r ∷ rs) (w ∷ ws) = λ i. record { removals = texts_back (r ∷ rs) i; writes = texts_back (w ∷ ws) i }

-- ---- it is normal

normal_texts : (names : List (List ℕ)) → AreNormal (plains_of_texts names)
unfolding IsNormal
normal_texts [] = tt
normal_texts (n ∷ ns) = (blob_value_normal n, normal_texts ns)

some_more : (v : Plain) (vs : Plains) → more v vs ≢ none
some_more v vs e = subst is_more e tt
  where
    is_more : Plains → Type 0
    is_more none = ⊥
    is_more (more v vs) = Unit {0}

pub value_normal : (removals writes : List (List ℕ)) → IsNormal (value_of_intent (intent_of_lists removals writes))
unfolding IsNormal
value_normal [] [] = tt
value_normal (r ∷ rs) [] = (some_more _ _, refl, ((some_more _ _, normal_texts (r ∷ rs)), tt))
value_normal [] (w ∷ ws) = (some_more _ _, refl, (tt, ((some_more _ _, normal_texts (w ∷ ws)), tt)))
value_normal (r ∷ rs) (w ∷ ws) = (some_more _ _, refl, ((some_more _ _, normal_texts (r ∷ rs)), ((some_more _ _, normal_texts (w ∷ ws)), tt)))

-- ---- it has the shape

blob_shape : (bytes : List ℕ) → IsBlobOrNull (blob_or_null bytes)
blob_shape [] = tt
blob_shape (b ∷ bytes) = tt

texts_shape : (names : List (List ℕ)) → Each (HasShape text) (plains_of_texts names)
unfolding HasShape
texts_shape [] = tt
texts_shape (n ∷ ns) = (blob_shape n, texts_shape ns)

pub value_shape : (removals writes : List (List ℕ)) → HasShape (shape_of (Kinds.Obj Tables.Intent)) (value_of_intent (intent_of_lists removals writes))
unfolding HasShape shape_of
value_shape [] [] = tt
value_shape (r ∷ rs) [] = (texts_shape (r ∷ rs), tt)
value_shape [] (w ∷ ws) = (tt, (texts_shape (w ∷ ws), tt))
value_shape (r ∷ rs) (w ∷ ws) = (texts_shape (r ∷ rs), (texts_shape (w ∷ ws), tt))

-- ---- its texts keep their rules

each_change : (names : List (List ℕ)) → All (λ name. is_name_allowed_in_intent name ≡ true) names → Each IsNameAllowedInIntent (plains_of_texts names)
each_change [] all = tt
each_change (n ∷ ns) all = (ap is_name_allowed_in_intent (text_blob n) ∙ All-head (λ name. is_name_allowed_in_intent name ≡ true) n ns all, each_change ns (All-tail (λ name. is_name_allowed_in_intent name ≡ true) n ns all))

each_left : (xs ys : List (List ℕ)) → All (λ name. is_name_allowed_in_intent name ≡ true) (xs ++ ys) → Each IsNameAllowedInIntent (plains_of_texts xs)
each_left [] ys all = tt
each_left (x ∷ xs) ys all = (ap is_name_allowed_in_intent (text_blob x) ∙ All-head (λ name. is_name_allowed_in_intent name ≡ true) x (xs ++ ys) all, each_left xs ys (All-tail (λ name. is_name_allowed_in_intent name ≡ true) x (xs ++ ys) all))

each_right : (xs ys : List (List ℕ)) → All (λ name. is_name_allowed_in_intent name ≡ true) (xs ++ ys) → Each IsNameAllowedInIntent (plains_of_texts ys)
each_right [] ys all = each_change ys all
each_right (x ∷ xs) ys all = each_right xs ys (All-tail (λ name. is_name_allowed_in_intent name ≡ true) x (xs ++ ys) all)

pub value_rules : (removals writes : List (List ℕ)) → AreDistinctNamesAllowedInIntent (removals ++ writes) → ObeysTextAndNumberRulesOfTable Tables.Intent (value_of_intent (intent_of_lists removals writes))
value_rules [] [] names = record { removals = tt; writes = tt }
value_rules (r ∷ rs) [] names = record { removals = each_left (r ∷ rs) [] names.each; writes = tt }
value_rules [] (w ∷ ws) names = record { removals = tt; writes = each_right [] (w ∷ ws) names.each }
value_rules (r ∷ rs) (w ∷ ws) names = record { removals = each_left (r ∷ rs) (w ∷ ws) names.each; writes = each_right (r ∷ rs) (w ∷ ws) names.each }

-- ---- none stands twice

true_false : true ≡ false → ⊥
true_false e = cc

place_in : (x : List ℕ) (xs : List (List ℕ)) → IsIn x xs → (j : ℕ) × (j < length xs) × (get_or xs j [] ≡ x)
place_in x [] at = absurd at
place_in x (y ∷ ys) (inl is) = (0, omega arith, sym is)
place_in x (y ∷ ys) (inr at) = let rest = place_in x ys at in (suc rest.0, omega (arith, rest.1), rest.2)

pub distinct : (names : List (List ℕ)) → AllPairs (λ a b. bytes_eq a b ≡ false) names → AreDistinctNames names
distinct [] once = tt
distinct (x ∷ xs) once = (λ at. let found = place_in x xs at in true_false (sym (same_name x (get_or xs found.0 []) (sym found.2)) ∙ once 0 (suc found.0) [] (omega arith) (omega (arith, found.1))), distinct xs (λ i j d less within. once (suc i) (suc j) d (omega (arith, less)) (omega (arith, within))))

pub value_once : (removals writes : List (List ℕ)) → AllPairs (λ a b. bytes_eq a b ≡ false) (removals ++ writes) → HasNoForbiddenRepeatedName Tables.Intent (value_of_intent (intent_of_lists removals writes))
value_once removals writes once =
    subst (λ (i : Intent). AreDistinctNames (i.removals ++ i.writes)) (sym (value_back removals writes)) (distinct (removals ++ writes) once)

-- ---- how many names it has at most

count_names : (names : List (List ℕ)) → count_of (plains_of_texts names) ≡ length names
count_names [] = refl
count_names (n ∷ ns) = ap suc (count_names ns)

pub names_few : (removals writes : List (List ℕ)) → length removals + length writes ≤ value_count (value_of_intent (intent_of_lists removals writes))
unfolding entries_of
names_few [] [] = omega arith
names_few (r ∷ rs) [] = let a = count_names rs in omega (arith, a)
names_few [] (w ∷ ws) = let b = count_names ws in omega (arith, b)
names_few (r ∷ rs) (w ∷ ws) = let a = count_names rs in let b = count_names ws in omega (arith, a, b)
