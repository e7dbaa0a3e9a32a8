-- A value of `-I` offends exactly when it is not taken.
use Rattle.std.proofs.Common.{◌≡◌, ◌≢◌, inl, inr, ℕ, Bool, true, false, not, ◌&&◌, ◌||◌, List, [], ◌∷◌, Option, Some, None, option_and_then, refl, ap, sym, ◌∙◌}
use Rattle.std.specs.Prelude.{is_some}
use Rattle.std.specs.List.{list_any}
use Rattle.std.proofs.lemmas.Slice.Eq.{bytes_eq-Decides}
use Rattle.std.proofs.lemmas.Bool.{or_parts}
use Rattle.make_core.specs.adb_fields.FirstPair.{IsIn}
use Rattle.command_core.specs.declared.values.OptionValue.{OptionValue}
use Rattle.dep_core.specs.Dependency.{Dependency}
use Rattle.dep_core.specs.Reading.{dependency_of}
use Rattle.dep_core.specs.Spelling.{SpellsDependency}
use Rattle.make_core.specs.make_info.declared.field.Field.{Field}
use Rattle.make_core.specs.make_info.declared.field.Field.TheVariants as Fields
use Rattle.make_core.specs.make_info.Fields.{TextNumberOrDependency, field_word, kind_of_field, may_repeat, values_by_kind}
use Rattle.make_core.specs.make_info.FieldTexts.{FieldText, field_text_in, has_text_for_field_whatever_letter, is_same_field, is_field_text_for_field}
use Rattle.make_core.specs.make_info.Information.{items_of_text, offends, gives_single_field_again, items_followed_by_values_of_field}
use Rattle.make_core.proofs.make_info.Reading.{same_field}
use Rattle.definition_laws.specs.making.OptionGrammar.{IsGivenFor, IsAcceptedInfoOption, is_list_field, option_text}
use Rattle.definition_laws.proofs.making.FieldValues.{says_from, says_to}
use Rattle.definition_laws.proofs.making.OptionTexts.{given, text_is}

list_is : (f : Field) → may_repeat (kind_of_field f) ≡ is_list_field f
list_is Fields.Name = refl
list_is Fields.Version = refl
list_is Fields.Description = refl
list_is Fields.Arch = refl
list_is Fields.License = refl
list_is Fields.Origin = refl
list_is Fields.Maintainer = refl
list_is Fields.Url = refl
list_is Fields.RepoCommit = refl
list_is Fields.BuildTime = refl
list_is Fields.ProviderPriority = refl
list_is Fields.ReplacesPriority = refl
list_is Fields.Depends = refl
list_is Fields.Provides = refl
list_is Fields.Replaces = refl
list_is Fields.InstallIf = refl
list_is Fields.Recommends = refl
list_is Fields.Tags = refl

-- ---- whether an option is for a field

for_is : (f : Field) (v : OptionValue) → has_text_for_field_whatever_letter f v ≡ true → IsGivenFor f v
for_is f v e = by_text (field_text_in v.text) refl e
  where
    by_text : (o : Option FieldText) → field_text_in v.text ≡ o → is_field_text_for_field f o ≡ true → IsGivenFor f v
    by_text None is e = absurd (cc (e))
    by_text (Some g) is e = (g.value, text_is v.text g is ∙ ap (λ (h : Field). option_text h g.value) (same_field g.field f e))

for_given : (f : Field) (v : OptionValue) → IsGivenFor f v → has_text_for_field_whatever_letter f v ≡ true
for_given f v (value, e) =
    ap (is_field_text_for_field f) (ap field_text_in e ∙ given f value) ∙ (bytes_eq-Decides (field_word f) (field_word f)).1 refl

none_before : (f : Field) (before : List OptionValue) → list_any (has_text_for_field_whatever_letter f) before ≡ false → (other : OptionValue) → IsIn other before → IsGivenFor f other → ⊥
none_before f [] e other h g = h
none_before f (v ∷ vs) e other (inl is) g =
    let no = (or_parts (has_text_for_field_whatever_letter f v) (list_any (has_text_for_field_whatever_letter f) vs) e).0 in
    let yes = ap (has_text_for_field_whatever_letter f) (sym is) ∙ for_given f other g in
    cc (no, yes)
none_before f (v ∷ vs) e other (inr h) g = none_before f vs (or_parts (has_text_for_field_whatever_letter f v) (list_any (has_text_for_field_whatever_letter f) vs) e).1 other h g

none_given : (f : Field) (before : List OptionValue) → ((other : OptionValue) → IsIn other before → IsGivenFor f other → ⊥) → list_any (has_text_for_field_whatever_letter f) before ≡ false
none_given f [] none = refl
none_given f (v ∷ vs) none = by_test (has_text_for_field_whatever_letter f v) refl (none_given f vs (λ o h g. none o (inr h) g))
  where
    by_test : (b : Bool) → has_text_for_field_whatever_letter f v ≡ b → list_any (has_text_for_field_whatever_letter f) vs ≡ false → (b || list_any (has_text_for_field_whatever_letter f) vs) ≡ false
    by_test true e further = absurd (none v (inl refl) (for_is f v e))
    by_test false e further = further

-- ---- the three tests

abbrev offends_given : Bool → List OptionValue → Option FieldText → Bool
offends_given too_long before o =
    not (is_some (option_and_then items_of_text o)) || (gives_single_field_again before o || (too_long && is_field_text_for_field Fields.Version o))

some_said : (f : Field) (o : Option (List TextNumberOrDependency)) → not (is_some (items_followed_by_values_of_field [] f o)) ≡ false → (said : List TextNumberOrDependency) × (o ≡ Some said)
some_said f None e = absurd (cc (e))
some_said f (Some said) e = (said, refl)

said_some : (f : Field) (o : Option (List TextNumberOrDependency)) (said : List TextNumberOrDependency) → o ≡ Some said → not (is_some (items_followed_by_values_of_field [] f o)) ≡ false
said_some f o said e = ap (λ (x : Option (List TextNumberOrDependency)). not (is_some (items_followed_by_values_of_field [] f x))) e

single_any : (l a : Bool) → (not l && a) ≡ false → l ≡ false → a ≡ false
single_any true a e is = absurd (cc (is))
single_any false a e is = e

any_single : (l a : Bool) → (l ≡ false → a ≡ false) → (not l && a) ≡ false
any_single true a h = refl
any_single false a h = h refl

version_apart : (t : Bool) (f : Field) → (t && is_same_field f Fields.Version) ≡ false → t ≡ true → f ≢ Fields.Version
version_apart true f e is same =
    let yes : is_same_field f Fields.Version ≡ true = ap (λ (g : Field). is_same_field g Fields.Version) same in
    cc (e, yes)
version_apart false f e is same = absurd (cc (is))

apart_version : (t : Bool) (f : Field) → (t ≡ true → f ≢ Fields.Version) → (t && is_same_field f Fields.Version) ≡ false
apart_version false f h = refl
apart_version true f h = by_test (is_same_field f Fields.Version) refl
  where
    by_test : (b : Bool) → is_same_field f Fields.Version ≡ b → b ≡ false
    by_test true e = absurd (h refl (same_field f Fields.Version e))
    by_test false e = refl

all_false : (a b c : Bool) → a ≡ false → b ≡ false → c ≡ false → (a || (b || c)) ≡ false
all_false a b c ea eb ec = λ k. ea k || (eb k || ec k)

module _ (spelled : (t : List ℕ) (d : Dependency) → dependency_of t ≡ Some d → SpellsDependency t d) (read : (t : List ℕ) (d : Dependency) → SpellsDependency t d → dependency_of t ≡ Some d) where
  taken_by : (too_long : Bool) (before : List OptionValue) (v : OptionValue) (o : Option FieldText) → field_text_in v.text ≡ o → offends_given too_long before o ≡ false → IsAcceptedInfoOption too_long before v
  taken_by too_long before v None is e = absurd (cc (e))
  taken_by too_long before v (Some g) is e =
      let f : Field = g.field in
      let one = or_parts (not (is_some (items_of_text g))) (gives_single_field_again before (Some g) || (too_long && is_same_field f Fields.Version)) e in
      let two = or_parts (gives_single_field_again before (Some g)) (too_long && is_same_field f Fields.Version) one.1 in
      let said = some_said f (values_by_kind (kind_of_field f) g.value) one.0 in
      record {
        field = f;
        value = g.value;
        given = text_is v.text g is;
        said = said.0;
        allowed = says_to spelled read f g.value said.0 said.1;
        first = λ single other h for. none_before f before (single_any (may_repeat (kind_of_field f)) (list_any (has_text_for_field_whatever_letter f) before) two.0 (list_is f ∙ single)) other h for;
        short = version_apart too_long f two.1;
      }

  pub taken : (too_long : Bool) (before : List OptionValue) (v : OptionValue) → offends too_long before v ≡ false → IsAcceptedInfoOption too_long before v
  taken too_long before v e = taken_by too_long before v (field_text_in v.text) refl e

  pub not_offended : (too_long : Bool) (before : List OptionValue) (v : OptionValue) → IsAcceptedInfoOption too_long before v → offends too_long before v ≡ false
  not_offended too_long before v t =
      let f : Field = t.field in
      let g : Option FieldText = Some (record { field = f; value = t.value }) in
      let is : field_text_in v.text ≡ g = ap field_text_in t.given ∙ given f t.value in
      ap (offends_given too_long before) is
      ∙ all_false (not (is_some (items_followed_by_values_of_field [] f (values_by_kind (kind_of_field f) t.value)))) (not (may_repeat (kind_of_field f)) && list_any (has_text_for_field_whatever_letter f) before) (too_long && is_same_field f Fields.Version)
      (said_some f (values_by_kind (kind_of_field f) t.value) t.said (says_from spelled read f t.value t.said t.allowed))
      (any_single (may_repeat (kind_of_field f)) (list_any (has_text_for_field_whatever_letter f) before) (λ single. none_given f before (t.first (sym (list_is f) ∙ single))))
      (apart_version too_long f t.short)
