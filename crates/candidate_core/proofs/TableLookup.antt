-- What look-ups in the table of names find, before and after a write.
use Rattle.std.proofs.Common.{◌≡◌, inl, inr, List, [], ◌∷◌, ℕ, Bool, true, false, Option, map, refl, sym, ap, ◌∙◌}
use Rattle.std.specs.Prelude.{Some, None, unwrap_or, if◌then◌else◌, ◌==◌}
use Rattle.std.specs.Borrow.{Bor}
use Rattle.std.specs.Cmp.Lexicographic.{bytes_decides}
use Rattle.std.specs.Map.{lookup, set_value}
use Rattle.std.specs.Option.{option_map}
use Rattle.std.specs.Str.{bytes_eq}
use Rattle.indexmap.specs.IndexMap.{insert_entry}
use Rattle.std.proofs.lemmas.Bool.{cases_Bool}
use Rattle.candidate_core.specs.Table.{first_entry_under_name, with_place_unless_last, with_place_if_added}

abbrev pub is_key : List ℕ → Bor (List ℕ) → Bool
is_key name k = bytes_eq name k.now

pub same_name : (a b c : List ℕ) → bytes_eq a b ≡ true → bytes_eq c a ≡ bytes_eq c b
same_name a b c h = ap (bytes_eq c) ((bytes_decides a b).0 h)

pub other_name : (a b c : List ℕ) → bytes_eq a b ≡ false → bytes_eq c b ≡ true → bytes_eq c a ≡ false
other_name a b c h e = elim (cases_Bool (bytes_eq c a)) [
  | inl g ↦ let bad : bytes_eq a b ≡ true = (bytes_decides a b).1 (sym ((bytes_decides c a).0 g) ∙ (bytes_decides c b).0 e) in let no : true ≡ false = sym bad ∙ h in absurd (cc)
  | inr g ↦ g
]

-- the entries of a map, each of whose values represents some ids
module _ {X : Type 0} (ids : X → List ℕ) where
  abbrev pub Entries : Type 0
  Entries = List (Bor (List ℕ) × X)

  abbrev pub named : Entries → List (List ℕ × List ℕ)
  named es = map (λ (e : Bor (List ℕ) × X). (e.0.now, ids e.1)) es

  pub looked_up : (name : List ℕ) (es : Entries) → option_map ids (lookup (is_key name) es) ≡ first_entry_under_name (named es) name
  looked_up name [] = refl
  looked_up name (e ∷ es) = elim (cases_Bool (bytes_eq name e.0.now)) [
    | inl t ↦ rw t refl
    | inr t ↦ rw t (looked_up name es)
  ]

  -- where the value of a name is replaced
  pub after_set_value : (name other : List ℕ) (v old : X) (es : Entries) → lookup (is_key name) es ≡ Some old → first_entry_under_name (named (set_value (is_key name) es v)) other ≡ (if bytes_eq other name then Some (ids v) else first_entry_under_name (named es) other)
  after_set_value name other v old [] h = absurd (cc)
  after_set_value name other v old (e ∷ es) h = elim (cases_Bool (bytes_eq name e.0.now)) [
    | inl t ↦ elim (cases_Bool (bytes_eq other e.0.now)) [
      | inl g ↦ rw (t, g, same_name name e.0.now other t ∙ g) refl
      | inr g ↦ rw (t, g, same_name name e.0.now other t ∙ g) refl
    ]
    | inr t ↦
        let rest = after_set_value name other v old es (rw t at h) in
        elim (cases_Bool (bytes_eq other e.0.now)) [
          | inl g ↦ rw (t, g, other_name name e.0.now other t g) refl
          | inr g ↦ rw (t, g) rest
        ]
  ]

  -- where a name is new
  pub after_insert : (key : Bor (List ℕ)) (other : List ℕ) (v : X) (es : Entries) → lookup (is_key key.now) es ≡ None → first_entry_under_name (named (insert_entry (λ (a b : Bor (List ℕ)). bytes_eq a.now b.now) es key v)) other ≡ (if bytes_eq other key.now then Some (ids v) else first_entry_under_name (named es) other)
  after_insert key other v [] h = refl
  after_insert key other v (e ∷ es) h = elim (cases_Bool (bytes_eq key.now e.0.now)) [
    | inl t ↦ let bad : Some e.1 ≡ None = rw t at h in absurd (cc)
    | inr t ↦
        let rest = after_insert key other v es (rw t at h) in
        elim (cases_Bool (bytes_eq other e.0.now)) [
          | inl g ↦ rw (t, g, other_name key.now e.0.now other t g) refl
          | inr g ↦ rw (t, g) rest
        ]
  ]

pub none_mapped : {X Y : Type 0} (f : X → Y) (o : Option X) → option_map f o ≡ None → o ≡ None
none_mapped f None h = refl
none_mapped f (Some x) h = absurd (cc)

-- ---- the ids of a name with one more, where its list and the one that stands alone are found so

abbrev ids_with : Option (List ℕ) → Option (List ℕ) → List ℕ
ids_with all one = unwrap_or all (unwrap_or one [])

module _ (lists singles : List ℕ → Option (List ℕ)) (name other : List ℕ) where
  pub last_in_list : (ids : List ℕ) (id : ℕ) (all : Option (List ℕ)) → lists name ≡ Some ids → all ≡ (if bytes_eq other name then Some (with_place_unless_last ids id) else lists other) → ids_with all (singles other) ≡ with_place_if_added (bytes_eq other name) (ids_with (lists other) (singles other)) id
  last_in_list ids id all was is = elim (cases_Bool (bytes_eq other name)) [
    | inl e ↦
        let here : lists other ≡ Some ids = ap lists ((bytes_decides other name).0 e) ∙ was in
        let now : all ≡ Some (with_place_unless_last ids id) = rw e at is in
        rw (e, now, here) refl
    | inr e ↦ let now : all ≡ lists other = rw e at is in rw (e, now) refl
  ]

  pub same_as_first : (first id : ℕ) → lists name ≡ None → singles name ≡ Some (first ∷ []) → (first == id) ≡ true → ids_with (lists other) (singles other) ≡ with_place_if_added (bytes_eq other name) (ids_with (lists other) (singles other)) id
  same_as_first first id none one same = elim (cases_Bool (bytes_eq other name)) [
    | inl e ↦
        let here : lists other ≡ None = ap lists ((bytes_decides other name).0 e) ∙ none in
        let alone : singles other ≡ Some (first ∷ []) = ap singles ((bytes_decides other name).0 e) ∙ one in
        rw (e, here, alone, same) refl
    | inr e ↦ rw e refl
  ]

  pub second_of_name : (first id : ℕ) (all : Option (List ℕ)) → lists name ≡ None → singles name ≡ Some (first ∷ []) → (first == id) ≡ false → all ≡ (if bytes_eq other name then Some (first ∷ (id ∷ [])) else lists other) → ids_with all (singles other) ≡ with_place_if_added (bytes_eq other name) (ids_with (lists other) (singles other)) id
  second_of_name first id all none one apart is = elim (cases_Bool (bytes_eq other name)) [
    | inl e ↦
        let here : lists other ≡ None = ap lists ((bytes_decides other name).0 e) ∙ none in
        let alone : singles other ≡ Some (first ∷ []) = ap singles ((bytes_decides other name).0 e) ∙ one in
        let now : all ≡ Some (first ∷ (id ∷ [])) = rw e at is in
        rw (e, now, here, alone, apart) refl
    | inr e ↦ let now : all ≡ lists other = rw e at is in rw (e, now) refl
  ]

  pub first_of_name : (id : ℕ) (one : Option (List ℕ)) → lists name ≡ None → singles name ≡ None → one ≡ (if bytes_eq other name then Some (id ∷ []) else singles other) → ids_with (lists other) one ≡ with_place_if_added (bytes_eq other name) (ids_with (lists other) (singles other)) id
  first_of_name id one none nobody is = elim (cases_Bool (bytes_eq other name)) [
    | inl e ↦
        let here : lists other ≡ None = ap lists ((bytes_decides other name).0 e) ∙ none in
        let alone : singles other ≡ None = ap singles ((bytes_decides other name).0 e) ∙ nobody in
        let now : one ≡ Some (id ∷ []) = rw e at is in
        rw (e, now, here, alone) refl
    | inr e ↦ let now : one ≡ singles other = rw e at is in rw (e, now) refl
  ]
