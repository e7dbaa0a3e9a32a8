-- What a look-up in a table of names finds, before and after an item is added.
use Rattle.std.proofs.Common.{◌≡◌, inl, inr, ℕ, Bool, List, [], ◌∷◌, ◌++◌, refl, sym, subst, ap, ◌∙◌, append-nil}
use Rattle.std.specs.Prelude.{Option, Some, None, Vec, if◌then◌else◌}
use Rattle.std.specs.Global.{Global}
use Rattle.std.specs.Borrow.{Bor}
use Rattle.std.specs.Map.{lookup, set_value}
use Rattle.std.specs.Cmp.Lexicographic.{bytes_decides}
use Rattle.std.specs.Option.{option_map_or}
use Rattle.std.specs.Str.{bytes_eq}
use Rattle.indexmap.specs.IndexMap.{insert_entry}
use Rattle.std.proofs.lemmas.Bool.{cases_Bool}
use Rattle.pool_core.specs.candidate_core.Options.{AreAllMembersOf, IsIn}
use Rattle.pool_core.proofs.candidate_core.TableLookup.{same_name, other_name}
use Rattle.search_tables.specs.NameTable.{items_under_name, names_and_items, without_last}
use Rattle.search_tables.proofs.Theory.{in_left, in_right}

abbrev pub Entries : Type 0 → Type 0
Entries X = List (Bor (List ℕ) × Vec X Global)

abbrev pub is_key : List ℕ → Bor (List ℕ) → Bool
is_key name k = bytes_eq name k.now

abbrev pub items_or_none : {X : Type 0} → Option (Vec X Global) → List X
items_or_none {X} o = option_map_or (λ (v : Vec X Global). v.items) o []

pub looked_up : {X : Type 0} (name : List ℕ) (entries : Entries X) → items_or_none (lookup (is_key name) entries) ≡ items_under_name (names_and_items entries) name
looked_up name [] = refl
looked_up name (e ∷ es) = elim (cases_Bool (bytes_eq name e.0.now)) [
  | inl t ↦ rw t refl
  | inr t ↦ rw t (looked_up name es)
]

-- where the items of a name are replaced
pub items_under_name-set_value : {X : Type 0} (name other : List ℕ) (v old : Vec X Global) (es : Entries X) → lookup (is_key name) es ≡ Some old → items_under_name (names_and_items (set_value (is_key name) es v)) other ≡ (if bytes_eq other name then v.items else items_under_name (names_and_items es) other)
items_under_name-set_value name other v old [] h = absurd (cc)
items_under_name-set_value name other v old (e ∷ es) h = elim (cases_Bool (bytes_eq name e.0.now)) [
  | inl t ↦ elim (cases_Bool (bytes_eq other e.0.now)) [
    | inl g ↦ rw (t, g, same_name name e.0.now other t ∙ g) refl
    | inr g ↦ rw (t, g, same_name name e.0.now other t ∙ g) refl
  ]
  | inr t ↦
      let rest = items_under_name-set_value name other v old es (rw t at h) in
      elim (cases_Bool (bytes_eq other e.0.now)) [
        | inl g ↦ rw (t, g, other_name name e.0.now other t g) refl
        | inr g ↦ rw (t, g) rest
      ]
]

-- where a name is new
pub items_under_name-insert_entry : {X : Type 0} (key : Bor (List ℕ)) (other : List ℕ) (v : Vec X Global) (es : Entries X) → lookup (is_key key.now) es ≡ None → items_under_name (names_and_items (insert_entry (λ (a b : Bor (List ℕ)). bytes_eq a.now b.now) es key v)) other ≡ (if bytes_eq other key.now then v.items else items_under_name (names_and_items es) other)
items_under_name-insert_entry key other v [] h = refl
items_under_name-insert_entry key other v (e ∷ es) h = elim (cases_Bool (bytes_eq key.now e.0.now)) [
  | inl t ↦ let bad : Some e.1 ≡ None = rw t at h in absurd (cc)
  | inr t ↦
      let rest = items_under_name-insert_entry key other v es (rw t at h) in
      elim (cases_Bool (bytes_eq other e.0.now)) [
        | inl g ↦ rw (t, g, other_name key.now e.0.now other t g) refl
        | inr g ↦ rw (t, g) rest
      ]
]

-- the items of a name with one more
pub one_more_item : {X : Type 0} (name other : List ℕ) (item : X) (table : List (List ℕ × List X)) (old new result : List X) → items_under_name table name ≡ old → new ≡ old ++ item ∷ [] → result ≡ (if bytes_eq other name then new else items_under_name table other) → result ≡ items_under_name table other ++ (if bytes_eq other name then item ∷ [] else [])
one_more_item {X} name other item table old new result was is found = elim (cases_Bool (bytes_eq other name)) [
  | inl e ↦
      let same : items_under_name table other ≡ old = ap (items_under_name table) ((bytes_decides other name).0 e) ∙ was in
      let here : result ≡ new = rw e at found in
      rw e (here ∙ (is ∙ ap (λ (z : List X). z ++ item ∷ []) (sym same)))
  | inr e ↦
      let there : result ≡ items_under_name table other = rw e at found in
      rw e (there ∙ sym (append-nil (items_under_name table other)))
]

-- what an addition keeps, and what it brings
pub items_kept : {X : Type 0} (old new : List (List ℕ × List X)) (name : List ℕ) (item : X) → ((other : List ℕ) → items_under_name new other ≡ items_under_name old other ++ (if bytes_eq other name then item ∷ [] else [])) → (other : List ℕ) → AreAllMembersOf (items_under_name old other) (items_under_name new other)
items_kept {X} old new name item is other k h = subst (λ (z : List X). IsIn k z) (sym (is other)) (in_left k (items_under_name old other) (if bytes_eq other name then item ∷ [] else []) h)

pub item_there : {X : Type 0} (old new : List (List ℕ × List X)) (name : List ℕ) (item : X) → ((other : List ℕ) → items_under_name new other ≡ items_under_name old other ++ (if bytes_eq other name then item ∷ [] else [])) → IsIn item (items_under_name new name)
item_there {X} old new name item is =
    let one : IsIn item (if bytes_eq name name then item ∷ [] else []) = rw ((bytes_decides name name).1 refl) (inl refl) in
    subst (λ (z : List X). IsIn item z) (sym (is name)) (in_right item (items_under_name old name) (if bytes_eq name name then item ∷ [] else []) one)

-- nothing is lost over two steps
pub members_on : {X : Type 0} (old mid new : List (List ℕ × List X)) → ((name : List ℕ) → AreAllMembersOf (items_under_name old name) (items_under_name mid name)) → ((name : List ℕ) → AreAllMembersOf (items_under_name mid name) (items_under_name new name)) → (name : List ℕ) → AreAllMembersOf (items_under_name old name) (items_under_name new name)
members_on old mid new first second name k h = second name k (first name k h)

-- the items of a name without the last
pub popped_item : {X : Type 0} (name other : List ℕ) (table : List (List ℕ × List X)) (new result : List X) → new ≡ without_last (items_under_name table name) → result ≡ (if bytes_eq other name then new else items_under_name table other) → result ≡ (if bytes_eq other name then without_last (items_under_name table other) else items_under_name table other)
popped_item {X} name other table new result is found = elim (cases_Bool (bytes_eq other name)) [
  | inl e ↦
      let same : items_under_name table other ≡ items_under_name table name = ap (items_under_name table) ((bytes_decides other name).0 e) in
      let here : result ≡ new = rw e at found in
      rw e (here ∙ (is ∙ ap without_last (sym same)))
  | inr e ↦ let there : result ≡ items_under_name table other = rw e at found in rw e there
]

pub popped_none : {X : Type 0} (name other : List ℕ) (table : List (List ℕ × List X)) (result : List X) → items_under_name table name ≡ [] → result ≡ items_under_name table other → result ≡ (if bytes_eq other name then without_last (items_under_name table other) else items_under_name table other)
popped_none {X} name other table result none is = elim (cases_Bool (bytes_eq other name)) [
  | inl e ↦
      let same : items_under_name table other ≡ [] = ap (items_under_name table) ((bytes_decides other name).0 e) ∙ none in
      rw e (is ∙ (same ∙ ap without_last (sym same)))
  | inr e ↦ rw e is
]
