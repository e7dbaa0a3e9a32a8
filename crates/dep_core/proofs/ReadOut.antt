-- A text that is read as a dependency is one of that dependency's texts.
use Rattle.std.proofs.Common.{◌≡◌, ℕ, Bool, true, false, not, cond, eqb, List, [], ◌∷◌, ◌++◌, Option, Some, None, refl, ap, sym, ◌∙◌, subst, append_assoc, append-nil, inl, inr}
use Rattle.std.specs.Prelude.{◌&&◌, is_some, ◌⊎◌}
use Rattle.std.specs.List.{prefix_len, take_while}
use Rattle.std.proofs.lemmas.List.{take-append-drop}
use Rattle.std.proofs.lemmas.Bool.{and_parts, and_from, eqb-true, cases_Bool}
use Rattle.version_core.specs.Order.{is_version}
use Rattle.dep_core.specs.Dependency.{Dependency, dependency_from_parts, is_dependency_name_by_bytes_and_length, is_name_byte, is_tag, is_tag_byte}
use Rattle.dep_core.specs.DependencyText.{IsDependency, is_constraint_or_none, is_tag_or_none, conflict_mark_text, operator_text, tag_text}
use Rattle.dep_core.specs.Reading.{dependency_from_tag_onward, without_leading_bytes, dependency_of, dependency_after_version, is_not_at_sign, is_operator_byte, dependency_from_operator_onward, dependency_after_operator, dependency_from_name_onward, operator_bits, dependency_after_name, dependency_from_version_onward, with_constraint, with_tag}
use Rattle.dep_core.specs.Spelling.{SpellsDependency, SpellsConstraint}
use Rattle.dep_core.proofs.Operators.{operator-is, some-inj}

cond_some : {A : Type 0} (b : Bool) (r : Option A) (d : A) → cond b r None ≡ Some d → (b ≡ true) × (r ≡ Some d)
cond_some true r d h = (refl, h)
cond_some false r d h = (cc)

none-from : {A : Type 0} (o : Option A) → not (is_some o) ≡ true → o ≡ None
none-from None h = refl
none-from (Some x) h = (cc)

some-none : {A : Type 0} {x : A} → Some x ≡ None → ⊥
some-none h = (cc)

front-behind : (p : ℕ → Bool) (text : List ℕ) → take_while p text ++ without_leading_bytes p text ≡ text
front-behind p text = take-append-drop (prefix_len p text) text

abbrev bare : List ℕ → Bool → Option (List ℕ) → Dependency
bare name conflict tag = dependency_from_parts name None 1 conflict tag

-- ---- after the version

ended-out : (b : Dependency) (tail : List ℕ) (d : Dependency) → dependency_after_version b tail ≡ Some d → ((b ≡ d) × (tail ≡ [])) ⊎ ((tag : List ℕ) × (b.tag ≡ None) × (is_tag tag ≡ true) × (with_tag b tag ≡ d) × (tail ≡ 64 ∷ tag))
unfolding dependency_after_version
ended-out b [] d h = inl (some-inj h, refl)
ended-out b (e ∷ tag) d h =
    let found = cond_some (eqb e 64 && (not (is_some b.tag) && is_tag tag)) (Some (with_tag b tag)) d h in
    let parts = and_parts (eqb e 64) (not (is_some b.tag) && is_tag tag) found.0 in
    let both = and_parts (not (is_some b.tag)) (is_tag tag) parts.1 in
    inr (tag, none-from b.tag both.0, both.1, some-inj found.1, ap (λ c. c ∷ tag) (eqb-true e 64 parts.0))

-- ---- after the name and its tag

-- what the text after the name and its tag adds
record IsLimited (name : List ℕ) (conflict : Bool) (tag : Option (List ℕ)) (text : List ℕ) (d : Dependency) : Type 0 where
  same_name : d.name ≡ name
  same_conflict : d.conflict ≡ conflict
  good : IsDependency d
  limit : List ℕ
  spelled : SpellsConstraint limit d.version d.bits
  placed : ((d.tag ≡ tag) × (text ≡ limit)) ⊎ ((tag ≡ None) × (text ≡ limit ++ tag_text d.tag))

good-by : (name : List ℕ) (conflict : Bool) (tag version : Option (List ℕ)) (bits : ℕ) → is_dependency_name_by_bytes_and_length name ≡ true → is_constraint_or_none version bits ≡ true → is_tag_or_none tag ≡ true → IsDependency (dependency_from_parts name version bits conflict tag)
good-by name conflict tag version bits n l t =
    and_from (is_dependency_name_by_bytes_and_length name && is_constraint_or_none version bits) (is_tag_or_none tag) (and_from (is_dependency_name_by_bytes_and_length name) (is_constraint_or_none version bits) n l) t

versioned-out : (name : List ℕ) (conflict : Bool) (tag : Option (List ℕ)) (bits : ℕ) (op rest text : List ℕ) (d : Dependency) → is_dependency_name_by_bytes_and_length name ≡ true → is_tag_or_none tag ≡ true → operator_bits op ≡ Some bits → op ++ rest ≡ text → dependency_from_version_onward (bare name conflict tag) bits rest ≡ Some d → IsLimited name conflict tag text d
unfolding dependency_from_version_onward
versioned-out name conflict tag bits op rest text d n t o e h =
    let v : List ℕ = take_while is_not_at_sign rest in
    let tail : List ℕ = without_leading_bytes is_not_at_sign rest in
    let found : (is_version v ≡ true) × (dependency_after_version (with_constraint (bare name conflict tag) v bits) tail ≡ Some d) =
    cond_some (is_version v) (dependency_after_version (with_constraint (bare name conflict tag) v bits) tail) d h in
    let limited_well : is_constraint_or_none (Some v) bits ≡ true = and_from (is_version v) (is_some (operator_text bits)) found.0 (operator-is op bits o).2 in
    let whole : text ≡ (op ++ v) ++ tail =
    sym e ∙ (ap (λ r. op ++ r) (sym (front-behind is_not_at_sign rest)) ∙ sym (append_assoc op v tail)) in
    let P : Dependency → Type 0 = λ x. IsLimited name conflict tag text x in
    elim (ended-out (with_constraint (bare name conflict tag) v bits) tail d found.1) [
      | inl s ↦ subst P s.0 (record {
        same_name = refl;
        same_conflict = refl;
        good = good-by name conflict tag (Some v) bits n limited_well t;
        limit = op ++ v;
        spelled = (op, o, refl);
        placed = inl (refl, whole ∙ (ap (λ r. (op ++ v) ++ r) s.1 ∙ append-nil (op ++ v)));
      })
      | inr s ↦ subst P s.3 (record {
        same_name = refl;
        same_conflict = refl;
        good = good-by name conflict (Some s.0) (Some v) bits n limited_well s.2;
        limit = op ++ v;
        spelled = (op, o, refl);
        placed = inr (s.1, whole ∙ ap (λ r. (op ++ v) ++ r) s.4);
      })
    ]

limited-by-out : (name : List ℕ) (conflict : Bool) (tag : Option (List ℕ)) (r : Option ℕ) (op rest text : List ℕ) (d : Dependency) → is_dependency_name_by_bytes_and_length name ≡ true → is_tag_or_none tag ≡ true → operator_bits op ≡ r → op ++ rest ≡ text → dependency_after_operator (bare name conflict tag) r rest ≡ Some d → IsLimited name conflict tag text d
limited-by-out name conflict tag None op rest text d n t o e h = (cc)
limited-by-out name conflict tag (Some bits) op rest text d n t o e h = versioned-out name conflict tag bits op rest text d n t o e h

limited-out : (name : List ℕ) (conflict : Bool) (tag : Option (List ℕ)) (text : List ℕ) (d : Dependency) → is_dependency_name_by_bytes_and_length name ≡ true → is_tag_or_none tag ≡ true → dependency_from_operator_onward (bare name conflict tag) text ≡ Some d → IsLimited name conflict tag text d
unfolding dependency_from_operator_onward
limited-out name conflict tag [] d n t h =
    let P : Dependency → Type 0 = λ x. IsLimited name conflict tag [] x in
    subst P (some-inj h) (record {
      same_name = refl;
      same_conflict = refl;
      good = good-by name conflict tag None 1 n refl t;
      limit = [];
      spelled = refl;
      placed = inl (refl, refl);
    })
limited-out name conflict tag (c ∷ rest) d n t h =
    limited-by-out name conflict tag (operator_bits (take_while is_operator_byte (c ∷ rest))) (take_while is_operator_byte (c ∷ rest)) (without_leading_bytes is_operator_byte (c ∷ rest)) (c ∷ rest) d n t refl (front-behind is_operator_byte (c ∷ rest)) h

-- ---- after the name

-- what the text after the name adds
record IsTagged (name : List ℕ) (conflict : Bool) (text : List ℕ) (d : Dependency) : Type 0 where
  same_name : d.name ≡ name
  same_conflict : d.conflict ≡ conflict
  good : IsDependency d
  limit : List ℕ
  spelled : SpellsConstraint limit d.version d.bits
  placed : (text ≡ tag_text d.tag ++ limit) ⊎ (text ≡ limit ++ tag_text d.tag)

dependency_from_tag_onward-out : (name : List ℕ) (conflict : Bool) (c : ℕ) (rest : List ℕ) (d : Dependency) → is_dependency_name_by_bytes_and_length name ≡ true → c ≡ 64 → dependency_from_tag_onward (bare name conflict None) rest ≡ Some d → IsTagged name conflict (c ∷ rest) d
unfolding dependency_from_tag_onward
dependency_from_tag_onward-out name conflict c rest d n e h =
    let tag : List ℕ = take_while is_tag_byte rest in
    let tail : List ℕ = without_leading_bytes is_tag_byte rest in
    let found : (is_tag tag ≡ true) × (dependency_from_operator_onward (bare name conflict (Some tag)) tail ≡ Some d) =
    cond_some (is_tag tag) (dependency_from_operator_onward (bare name conflict (Some tag)) tail) d h in
    let out : IsLimited name conflict (Some tag) tail d = limited-out name conflict (Some tag) tail d n found.0 found.1 in
    let whole : c ∷ rest ≡ 64 ∷ (tag ++ tail) = (λ i. e i ∷ sym (front-behind is_tag_byte rest) i) in
    record {
      same_name = out.same_name;
      same_conflict = out.same_conflict;
      good = out.good;
      limit = out.limit;
      spelled = out.spelled;
      placed = elim out.placed [
        | inl p ↦ inl (whole ∙ (ap (λ t. 64 ∷ (tag ++ t)) p.1 ∙ ap (λ t. tag_text t ++ out.limit) (sym p.0)))
        | inr p ↦ absurd (some-none p.0)
      ];
    }

limited-tagged : (name : List ℕ) (conflict : Bool) (text : List ℕ) (d : Dependency) → IsLimited name conflict None text d → IsTagged name conflict text d
limited-tagged name conflict text d out = record {
  same_name = out.same_name;
  same_conflict = out.same_conflict;
  good = out.good;
  limit = out.limit;
  spelled = out.spelled;
  placed = elim out.placed [
    | inl p ↦ inl (p.1 ∙ ap (λ t. tag_text t ++ out.limit) (sym p.0))
    | inr p ↦ inr p.1
  ];
}

tagged-out : (name : List ℕ) (conflict : Bool) (text : List ℕ) (d : Dependency) → is_dependency_name_by_bytes_and_length name ≡ true → dependency_after_name (bare name conflict None) text ≡ Some d → IsTagged name conflict text d
unfolding dependency_after_name
tagged-out name conflict [] d n h =
    let P : Dependency → Type 0 = λ x. IsTagged name conflict [] x in
    subst P (some-inj h) (record {
      same_name = refl;
      same_conflict = refl;
      good = good-by name conflict None None 1 n refl refl;
      limit = [];
      spelled = refl;
      placed = inl refl;
    })
tagged-out name conflict (c ∷ rest) d n h =
    elim (cases_Bool (eqb c 64)) [
      | inl e ↦ dependency_from_tag_onward-out name conflict c rest d n (eqb-true c 64 e) (sym (ap (λ b. cond b (dependency_from_tag_onward (bare name conflict None) rest) (dependency_from_operator_onward (bare name conflict None) (c ∷ rest))) e) ∙ h)
      | inr e ↦ limited-tagged name conflict (c ∷ rest) d (limited-out name conflict None (c ∷ rest) d n refl (sym (ap (λ b. cond b (dependency_from_tag_onward (bare name conflict None) rest) (dependency_from_operator_onward (bare name conflict None) (c ∷ rest))) e) ∙ h))
    ]

-- ---- the name, and the mark before it

named-out : (conflict : Bool) (text : List ℕ) (d : Dependency) (whole : List ℕ) → conflict_mark_text conflict ++ text ≡ whole → dependency_from_name_onward conflict text ≡ Some d → SpellsDependency whole d
unfolding dependency_from_name_onward
named-out conflict text d whole e h =
    let name : List ℕ = take_while is_name_byte text in
    let rest : List ℕ = without_leading_bytes is_name_byte text in
    let found : (is_dependency_name_by_bytes_and_length name ≡ true) × (dependency_after_name (bare name conflict None) rest ≡ Some d) =
    cond_some (is_dependency_name_by_bytes_and_length name) (dependency_after_name (bare name conflict None) rest) d h in
    let out : IsTagged name conflict rest d = tagged-out name conflict rest d found.0 found.1 in
    let front : whole ≡ conflict_mark_text d.conflict ++ (d.name ++ rest) =
    sym e ∙ (ap (λ t. conflict_mark_text conflict ++ t) (sym (front-behind is_name_byte text)) ∙ (λ i. conflict_mark_text (sym out.same_conflict i) ++ (sym out.same_name i ++ rest))) in (
      out.good,
      (
        out.limit,
        out.spelled,
        elim out.placed [
          | inl p ↦ inl (front ∙ ap (λ t. conflict_mark_text d.conflict ++ (d.name ++ t)) p)
          | inr p ↦ inr (front ∙ ap (λ t. conflict_mark_text d.conflict ++ (d.name ++ t)) p)
        ],
      ),
    )

pub read-out : (text : List ℕ) (d : Dependency) → dependency_of text ≡ Some d → SpellsDependency text d
unfolding dependency_of
read-out [] d h = absurd (some-none (sym h))
read-out (b ∷ rest) d h =
    elim (cases_Bool (eqb b 33)) [
      | inl e ↦ named-out true rest d (b ∷ rest) (ap (λ c. c ∷ rest) (sym (eqb-true b 33 e))) (sym (ap (λ x. cond x (dependency_from_name_onward true rest) (dependency_from_name_onward false (b ∷ rest))) e) ∙ h)
      | inr e ↦ named-out false (b ∷ rest) d (b ∷ rest) refl (sym (ap (λ x. cond x (dependency_from_name_onward true rest) (dependency_from_name_onward false (b ∷ rest))) e) ∙ h)
    ]
