-- The names of a sound intent are free, and each stands once.
use Rattle.std.proofs.Common.{◌≡◌, ◌||◌, inl, inr, ⊎_elim, not, map, ℕ, ◌<◌, ◌+◌, ◌^◌, Bool, true, false, List, [], ◌∷◌, ◌++◌, length, Option, Some, None, refl, ap, sym, subst, ◌∙◌, arith}
use Rattle.std.proofs.lemmas.Bool.{and_parts, not-true, or_from}
use Rattle.std.proofs.lemmas.List.Elements.{All-head, All-tail}
use Rattle.std.specs.List.{All, list_any}
use Rattle.std.specs.Str.{bytes_eq}
use Rattle.base_core.specs.Name.{is_name}
use Rattle.base_core.specs.declared.cause.Cause.{Cause}
use Rattle.base_core.proofs.AtName.{other_name, name_cases}
use Rattle.adb_sound.specs.adb_fields.FirstPair.{IsIn}
use Rattle.adb_sound.specs.adb_fields.Once.{AreDistinctNames}
use Rattle.adb_sound.specs.adb_fields.Repeated.{entries_of_field_at_index, list_of}
use Rattle.adb_sound.specs.adb_schema.Rules.{is_name_allowed_in_intent}
use Rattle.adb_sound.specs.adb_schema.Reserved.{is_at_or_below, is_intent_or_stage_name}
use Rattle.adb_sound.specs.adb_schema.SoundValues.{IsNameAllowedInIntent}
use Rattle.adb_sound.specs.adb_schema.SoundContainers.{IsSoundContainerExceptContents, IsSoundValue}
use Rattle.adb_sound.specs.adb_schema.Soundness.{container_fault_except_contents, payload_in, root_value_of_payload}
use Rattle.adb_view.specs.Values.{entries_in, entry_at_index, text_in}
use Rattle.adb_view.specs.declared.tables.Which.{Which}
use Rattle.adb_view.specs.declared.tables.Which.TheVariants as Tables
use Rattle.adb_view.specs.Plain.{Plain, Plains, none, more}
use Rattle.adb_view.specs.Shaped.{Each}
use Rattle.journal_intent.specs.FreeNames.{AllAreNames, AreFreeNames, HaveNoRepeats, HasFreeNamesAndUnrepeatedWrites, IsFreeName, IsNoneOf, IsOneOf}
use Rattle.journal_intent.specs.Intent.{AreDistinctNamesAllowedInIntent, Intent, intent_of_value, intent_name, intent_unless_fault, is_staged, read_intent, stage_folder, stage_name}
use Rattle.journal_intent.specs.IntentValue.{intent_of_lists}
use Rattle.journal_intent.proofs.ReadIntent.{spelled}
use Rattle.journal_intent.proofs.Spelling.{distinct}

true_false : true ≡ false → ⊥
true_false e = cc

place_is_stage : (k : ℕ) → is_intent_or_stage_name (stage_name k) ≡ true
place_is_stage k = refl

pub or_false : (a b c : Bool) → (a || ((b || c) || false)) ≡ false → c ≡ false
or_false true b c h = absurd (true_false h)
or_false false true c h = absurd (true_false h)
or_false false false true h = absurd (true_false h)
or_false false false false h = refl

not_staged : (name : List ℕ) → is_intent_or_stage_name name ≡ false → is_staged name ≡ false
not_staged name h = or_false (is_at_or_below intent_name name) (bytes_eq name stage_folder) (is_staged name) h

-- ---- a name that a change may have is free

free_of : (name : List ℕ) → is_name_allowed_in_intent name ≡ true → IsFreeName name
free_of name change =
    let parts = and_parts (is_name name) (not (is_intent_or_stage_name name)) change in
    let open_name = not-true (is_intent_or_stage_name name) parts.1 in
    record {
      no_intent = λ is. true_false (sym (ap is_intent_or_stage_name is) ∙ open_name);
      unstaged = not_staged name open_name;
      no_place = λ k is. true_false (sym (place_is_stage k) ∙ sym (ap is_intent_or_stage_name is) ∙ open_name);
    }

frees : (vs : Plains) → Each IsNameAllowedInIntent vs → AreFreeNames (map text_in (list_of vs))
frees none all = tt
frees (more v vs) all = (free_of (text_in v) all.0, frees vs all.1)

-- ---- each stands once

none_of : (name : List ℕ) (names : List (List ℕ)) → (IsIn name names → ⊥) → IsNoneOf name names
none_of name [] out = refl
none_of name (x ∷ xs) out = or_from (bytes_eq name x) (list_any (bytes_eq name) xs) (other_name name x (λ is. out (inl is))) (none_of name xs (λ at. out (inr at)))

one_of : (name : List ℕ) (names : List (List ℕ)) → IsOneOf name names → IsIn name names
one_of name [] is = absurd (true_false (sym is))
one_of name (x ∷ xs) is = ⊎_elim (λ same. inl same) (λ off. inr (one_of name xs (sym (ap (λ b. b || list_any (bytes_eq name) xs) off) ∙ is))) (name_cases name x)

once_of : (names : List (List ℕ)) → AreDistinctNames names → HaveNoRepeats names
once_of [] once = tt
once_of (x ∷ xs) once = (none_of x xs once.0, once_of xs once.1)

once_right : (rs ws : List (List ℕ)) → AreDistinctNames (rs ++ ws) → AreDistinctNames ws
once_right [] ws once = once
once_right (r ∷ rs) ws once = once_right rs ws once.1

in_right : (rs ws : List (List ℕ)) (name : List ℕ) → IsIn name ws → IsIn name (rs ++ ws)
in_right [] ws name at = at
in_right (r ∷ rs) ws name at = inr (in_right rs ws name at)

apart_left : (rs ws : List (List ℕ)) (name : List ℕ) → AreDistinctNames (rs ++ ws) → IsIn name ws → IsNoneOf name rs
apart_left [] ws name once at = refl
apart_left (r ∷ rs) ws name once at =
    or_from (bytes_eq name r) (list_any (bytes_eq name) rs) (other_name name r (λ is. once.0 (subst (λ (x : List ℕ). IsIn x (rs ++ ws)) is (in_right rs ws name at)))) (apart_left rs ws name once.1 at)

-- ---- those of a change that is to be made

frees_all : (names : List (List ℕ)) → All (λ name. is_name_allowed_in_intent name ≡ true) names → AreFreeNames names
frees_all [] all = tt
frees_all (n ∷ ns) all = (free_of n (All-head (λ name. is_name_allowed_in_intent name ≡ true) n ns all), frees_all ns (All-tail (λ name. is_name_allowed_in_intent name ≡ true) n ns all))

frees_left : (xs ys : List (List ℕ)) → AreFreeNames (xs ++ ys) → AreFreeNames xs
frees_left [] ys free = tt
frees_left (x ∷ xs) ys free = (free.0, frees_left xs ys free.1)

frees_right : (xs ys : List (List ℕ)) → AreFreeNames (xs ++ ys) → AreFreeNames ys
frees_right [] ys free = free
frees_right (x ∷ xs) ys free = frees_right xs ys free.1

pub change_names_free : (removals writes : List (List ℕ)) → AreDistinctNamesAllowedInIntent (removals ++ writes) → HasFreeNamesAndUnrepeatedWrites (intent_of_lists removals writes)
change_names_free removals writes names =
    let free = frees_all (removals ++ writes) names.each in
    let once = distinct (removals ++ writes) names.once in
    record {
      removals = frees_left removals writes free;
      writes = frees_right removals writes free;
      once = once_of writes (once_right removals writes once);
      apart = λ name at. apart_left removals writes name once (one_of name writes at);
    }

-- ---- those of a sound container

free_value : (v : Plain) → IsSoundValue Tables.Intent v → HasFreeNamesAndUnrepeatedWrites (intent_of_value v)
free_value v sound =
    let removals : List (List ℕ) = map text_in (entries_of_field_at_index 0 v) in
    let writes : List (List ℕ) = map text_in (entries_of_field_at_index 1 v) in
    record {
      removals = frees (entries_in (entry_at_index v 0)) sound.rules.removals;
      writes = frees (entries_in (entry_at_index v 1)) sound.rules.writes;
      once = once_of writes (once_right removals writes sound.once);
      apart = λ name at. apart_left removals writes name sound.once (one_of name writes at);
    }

abbrev pub SoundValues : Type 0
SoundValues = (which : Which) (file : List ℕ) → IsSoundContainerExceptContents which file → IsSoundValue which (root_value_of_payload which (payload_in file))

free_by : (fault : Option Cause) (v : Plain) (intent : Intent) → (fault ≡ None → IsSoundValue Tables.Intent v) → intent_unless_fault fault v ≡ Some intent → HasFreeNamesAndUnrepeatedWrites intent
free_by None v intent sound is = let same : intent_of_value v ≡ intent = cc in subst HasFreeNamesAndUnrepeatedWrites same (free_value v (sound refl))
free_by (Some c) v intent sound is = absurd (cc)

pub free_intent : SoundValues → (file : List ℕ) (intent : Intent) → read_intent file ≡ Some intent → HasFreeNamesAndUnrepeatedWrites intent
unfolding read_intent
free_intent values file intent is = free_by (container_fault_except_contents Tables.Intent file) (root_value_of_payload Tables.Intent (payload_in file)) intent (values Tables.Intent file) is

-- ---- as it is read

all_named : (vs : Plains) → Each IsNameAllowedInIntent vs → AllAreNames vs
all_named none all = tt
all_named (more v vs) all = ((and_parts (is_name (text_in v)) (not (is_intent_or_stage_name (text_in v))) all.0).0, all_named vs all.1)

module _ (values : SoundValues) (file : List ℕ) (sound : container_fault_except_contents Tables.Intent file ≡ None) where
  abbrev held : Plain
  held = root_value_of_payload Tables.Intent (payload_in file)

  pub removals_named : (list v : Plain) → list ≡ entry_at_index v 0 → v ≡ held → AllAreNames (entries_in list)
  removals_named list v is same = subst (λ (u : Plain). AllAreNames (entries_in u)) (sym (is ∙ ap (λ u. entry_at_index u 0) same)) (all_named (entries_in (entry_at_index held 0)) (values Tables.Intent file sound).rules.removals)

  pub writes_named : (list v : Plain) → list ≡ entry_at_index v 1 → v ≡ held → AllAreNames (entries_in list)
  writes_named list v is same = subst (λ (u : Plain). AllAreNames (entries_in u)) (sym (is ∙ ap (λ u. entry_at_index u 1) same)) (all_named (entries_in (entry_at_index held 1)) (values Tables.Intent file sound).rules.writes)

module _ (file : List ℕ) (sound : container_fault_except_contents Tables.Intent file ≡ None) where
  pub lists_spelled : (removals writes : List (List ℕ)) (a b v : Plain) → removals ≡ map text_in (list_of (entries_in a)) → writes ≡ map text_in (list_of (entries_in b)) → a ≡ entry_at_index v 0 → b ≡ entry_at_index v 1 → v ≡ root_value_of_payload Tables.Intent (payload_in file)
      → read_intent file ≡ Some (record { removals = removals; writes = writes })
  lists_spelled removals writes a b v r w ra wb same =
      spelled file sound
      ∙ ap Some (λ i. record {
        removals = sym (r ∙ ap (λ u. map text_in (list_of (entries_in u))) (ra ∙ ap (λ u. entry_at_index u 0) same)) i;
        writes = sym (w ∙ ap (λ u. map text_in (list_of (entries_in u))) (wb ∙ ap (λ u. entry_at_index u 1) same)) i;
      })

pub few_lists : (removals writes : List (List ℕ)) → length removals < 2 ^ 32 → length writes < 2 ^ 32 → length removals + length writes < 2 ^ 63
few_lists removals writes a b = omega (arith, a, b)
