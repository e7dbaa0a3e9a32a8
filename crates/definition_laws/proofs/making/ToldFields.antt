-- A package tells of each field what the options of its command say.
use Rattle.std.proofs.Common.{◌≡◌, inl, inr, ℕ, Bool, true, false, cond, not, ◌||◌, if◌then◌else◌, List, [], ◌∷◌, ◌++◌, map, Option, Some, None, option_and_then, Ok, Err, refl, ap, sym, subst, ◌∙◌}
use Rattle.std.specs.Prelude.{is_some, unwrap_or}
use Rattle.std.specs.List.{filter, find}
use Rattle.std.proofs.lemmas.List.Concat.{flat_map-cons}
use Rattle.std.proofs.lemmas.Slice.Eq.{bytes_eq-Decides}
use Rattle.make_core.specs.adb_fields.Repeated.{list_of}
use Rattle.adb_view.specs.Values.{entries_in}
use Rattle.adb_view.specs.declared.tables.Which.TheVariants.{PkgInfo}
use Rattle.adb_view.proofs.ValueEntries.{entries_arr, nth_obj}
use Rattle.adb_view.specs.Plain.{Plain, more}
use Rattle.command_core.specs.declared.values.OptionValue.{OptionValue}
use Rattle.dep_core.specs.Dependency.{Dependency}
use Rattle.dep_core.specs.Reading.{dependency_of}
use Rattle.dep_core.specs.Spelling.{SpellsDependency}
use Rattle.make_core.specs.make_info.declared.field.Field.{Field}
use Rattle.make_core.specs.make_info.declared.field.Field.TheVariants as Fields
use Rattle.make_core.specs.make_info.Fields.{TextNumberOrDependency, text, number, need, field_word, kind_of_field, values_by_kind}
use Rattle.make_core.specs.make_info.FieldTexts.{FieldText, field_text_in, is_same_field, is_output_default_and_too_long, values_of_info_options}
use Rattle.make_core.specs.make_info.Information.{FieldWithValue, items_of_valid_options, first_offence_place_by_output_length_after, field_with_value, information_fields_with_installed_size, information_with_missing_reported_at_place, information_value_with_installed_size, is_item_for, item_value_or_null, items_of_option, items_of_text, lacks_name_or_version, number_in, offends, plain_value, plain_values_of_field, replaces_priority, unless_offence, value_of_list_field, value_of_single_field, items_followed_by_values_of_field}
use Rattle.make_core.specs.make_info.Values.{number_or_null}
use Rattle.make_core.proofs.make_info.Reading.{same_field}
use Rattle.definition_laws.specs.making.NamedFields.{field_named}
use Rattle.definition_laws.specs.making.OptionGrammar.{IsGivenFor, FieldTextGivesValues, option_text}
use Rattle.definition_laws.specs.making.SaidOfFields.{OptionsGiveFieldValues, OptionGivesFieldValues, HasAllValues, HasFirstValue, HasValuesOfField}
use Rattle.definition_laws.proofs.making.FieldValues.{says_to}
use Rattle.definition_laws.proofs.making.OptionTexts.{given, text_is}

-- ---- the values of a field among items

abbrev pub values_for : Field → List FieldWithValue → List TextNumberOrDependency
values_for f items = map (λ (i : FieldWithValue). i.value) (filter (is_item_for f) items)

values_append : (f : Field) (xs ys : List FieldWithValue) → values_for f (xs ++ ys) ≡ values_for f xs ++ values_for f ys
values_append f [] ys = refl
values_append f (x ∷ xs) ys = by_test (is_item_for f x) (values_append f xs ys)
  where
    by_test : (b : Bool) → values_for f (xs ++ ys) ≡ values_for f xs ++ values_for f ys
        → map (λ (i : FieldWithValue). i.value) (cond b (x ∷ filter (is_item_for f) (xs ++ ys)) (filter (is_item_for f) (xs ++ ys)))
        ≡ map (λ (i : FieldWithValue). i.value) (cond b (x ∷ filter (is_item_for f) xs) (filter (is_item_for f) xs)) ++ values_for f ys
    by_test true e = ap (λ (l : List TextNumberOrDependency). x.value ∷ l) e
    by_test false e = e

own_values : (f g : Field) (said : List TextNumberOrDependency) → is_same_field g f ≡ true → values_for f (map (field_with_value g) said) ≡ said
own_values f g [] e = refl
own_values f g (x ∷ xs) e =
    ap (λ (b : Bool). map (λ (i : FieldWithValue). i.value) (cond b (field_with_value g x ∷ filter (is_item_for f) (map (field_with_value g) xs)) (filter (is_item_for f) (map (field_with_value g) xs)))) e
    ∙ ap (λ (l : List TextNumberOrDependency). x ∷ l) (own_values f g xs e)

other_values : (f g : Field) (said : List TextNumberOrDependency) → is_same_field g f ≡ false → values_for f (map (field_with_value g) said) ≡ []
other_values f g [] e = refl
other_values f g (x ∷ xs) e =
    ap (λ (b : Bool). map (λ (i : FieldWithValue). i.value) (cond b (field_with_value g x ∷ filter (is_item_for f) (map (field_with_value g) xs)) (filter (is_item_for f) (map (field_with_value g) xs)))) e
    ∙ other_values f g xs e

-- ---- what the options say

module _ (spelled : (t : List ℕ) (d : Dependency) → dependency_of t ≡ Some d → SpellsDependency t d) (read : (t : List ℕ) (d : Dependency) → SpellsDependency t d → dependency_of t ≡ Some d) where
  said_by_text : (f : Field) (v : OptionValue) (g : FieldText) (o : Option (List TextNumberOrDependency)) (items : List FieldWithValue) → field_text_in v.text ≡ Some g → values_by_kind (kind_of_field g.field) g.value ≡ o
      → items_followed_by_values_of_field [] g.field o ≡ Some items → OptionGivesFieldValues f v (values_for f items)
  said_by_text f v g None items is kind e = absurd (cc (e))
  said_by_text f v g (Some said) items is kind e = by_field (is_same_field g.field f) refl
    where
      by_field : (b : Bool) → is_same_field g.field f ≡ b → OptionGivesFieldValues f v (values_for f items)
      by_field true s =
          let same : map (field_with_value g.field) said ≡ items = cc (e) in
          let field : g.field ≡ f = same_field g.field f s in
          let says : FieldTextGivesValues f g.value said = subst (λ (h : Field). FieldTextGivesValues h g.value said) field (says_to spelled read g.field g.value said kind) in
          let all : said ≡ values_for f items = sym (own_values f g.field said s) ∙ ap (values_for f) same in
          inl (g.value, text_is v.text g is ∙ ap (λ (h : Field). option_text h g.value) field, subst (FieldTextGivesValues f g.value) all says)
      by_field false s =
          let same : map (field_with_value g.field) said ≡ items = cc (e) in
          inr (other, ap (values_for f) (sym same) ∙ other_values f g.field said s)
        where
          some_field : (a b : FieldText) → Some a ≡ Some b → a.field ≡ b.field
          some_field a b e = let same : a ≡ b = cc (e) in ap (λ (x : FieldText). x.field) same

          other : IsGivenFor f v → ⊥
          other (value, t) =
              let again : Some g ≡ Some (record { field = f; value = value }) = sym is ∙ (ap field_text_in t ∙ given f value) in
              let field : g.field ≡ f = some_field g (record { field = f; value = value }) again in
              let yes : is_same_field g.field f ≡ true = ap (λ (h : Field). is_same_field h f) field ∙ (bytes_eq-Decides (field_word f) (field_word f)).1 refl in
              cc (s, yes)

  said_by_option : (f : Field) (v : OptionValue) (o : Option FieldText) (items : List FieldWithValue) → field_text_in v.text ≡ o → option_and_then items_of_text o ≡ Some items → OptionGivesFieldValues f v (values_for f items)
  said_by_option f v None items is e = absurd (cc (e))
  said_by_option f v (Some g) items is e = said_by_text f v g (values_by_kind (kind_of_field g.field) g.value) items is refl e

  some_items : (o : Option (List FieldWithValue)) → is_some o ≡ true → (items : List FieldWithValue) × (o ≡ Some items)
  some_items None e = absurd (cc (e))
  some_items (Some items) e = (items, refl)

  allowed_first : (a b : Bool) → (not a || b) ≡ false → a ≡ true
  allowed_first true b e = refl
  allowed_first false b e = absurd (cc (e))

  pub say_of_field : (f : Field) (too_long : Bool) (before told : List OptionValue) → first_offence_place_by_output_length_after too_long before told ≡ None → OptionsGiveFieldValues f told (values_for f (items_of_valid_options told))
  say_of_field f too_long before [] e = refl
  say_of_field f too_long before (v ∷ vs) e = by_offence (offends too_long before v) refl e (say_of_field f too_long (before ++ v ∷ []) vs)
    where
      by_offence : (b : Bool) → offends too_long before v ≡ b → (if b then Some v.place else first_offence_place_by_output_length_after too_long (before ++ v ∷ []) vs) ≡ None
          → (first_offence_place_by_output_length_after too_long (before ++ v ∷ []) vs ≡ None → OptionsGiveFieldValues f vs (values_for f (items_of_valid_options vs))) → OptionsGiveFieldValues f (v ∷ vs) (values_for f (items_of_valid_options (v ∷ vs)))
      by_offence true o e further = absurd (cc (e))
      by_offence false o e further =
          let one = some_items (items_of_option v) (allowed_first (is_some (items_of_option v)) _ o) in
          let here : unwrap_or (items_of_option v) [] ≡ one.0 = ap (λ (x : Option (List FieldWithValue)). unwrap_or x []) one.1 in
          let whole : items_of_valid_options (v ∷ vs) ≡ one.0 ++ items_of_valid_options vs = flat_map-cons (λ (u : OptionValue). unwrap_or (items_of_option u) []) v vs ∙ ap (λ (l : List FieldWithValue). l ++ items_of_valid_options vs) here in
          (values_for f one.0, values_for f (items_of_valid_options vs), said_by_option f v (field_text_in v.text) one.0 refl one.1, further e, ap (values_for f) whole ∙ values_append f one.0 (items_of_valid_options vs))

-- ---- how an information tells it

told_list : (f : Field) (items : List FieldWithValue) → list_of (plain_values_of_field f items) ≡ map plain_value (values_for f items)
told_list f [] = refl
told_list f (x ∷ xs) = by_test (is_item_for f x) (told_list f xs)
  where
    by_test : (b : Bool) → list_of (plain_values_of_field f xs) ≡ map plain_value (values_for f xs)
        → list_of (if b then more (plain_value x.value) (plain_values_of_field f xs) else plain_values_of_field f xs)
        ≡ map plain_value (map (λ (i : FieldWithValue). i.value) (cond b (x ∷ filter (is_item_for f) xs) (filter (is_item_for f) xs)))
    by_test true e = ap (λ (l : List Plain). plain_value x.value ∷ l) e
    by_test false e = e

tells_all : (f : Field) (items : List FieldWithValue) (v : Plain) → v ≡ value_of_list_field f items → HasAllValues (values_for f items) v
tells_all f items v e =
    ap (λ (u : Plain). list_of (entries_in u)) e ∙ (ap list_of (entries_arr (plain_values_of_field f items)) ∙ told_list f items)

told_first : (f : Field) (items : List FieldWithValue) → HasFirstValue (values_for f items) (item_value_or_null (find (is_item_for f) items))
told_first f [] = refl
told_first f (x ∷ xs) = by_test (is_item_for f x) (told_first f xs)
  where
    by_test : (b : Bool) → HasFirstValue (values_for f xs) (item_value_or_null (find (is_item_for f) xs))
        → HasFirstValue (map (λ (i : FieldWithValue). i.value) (cond b (x ∷ filter (is_item_for f) xs) (filter (is_item_for f) xs))) (item_value_or_null (cond b (Some x) (find (is_item_for f) xs)))
    by_test true e = refl
    by_test false e = e

tells_first : (f : Field) (items : List FieldWithValue) (v : Plain) → v ≡ value_of_single_field f items → HasFirstValue (values_for f items) v
tells_first f items v e = subst (HasFirstValue (values_for f items)) (sym e) (told_first f items)

abbrev field_at : Field → List FieldWithValue → ℕ → Plain
field_at f items size = field_named PkgInfo (field_word f) (information_value_with_installed_size items size)

pub told_info : (f : Field) (items : List FieldWithValue) (size : ℕ) → (f ≡ Fields.ReplacesPriority → ⊥) → HasValuesOfField f (values_for f items) (field_at f items size)
unfolding information_value_with_installed_size
told_info Fields.Name items size other = tells_first Fields.Name items _ (nth_obj (information_fields_with_installed_size items size) 0)
told_info Fields.Version items size other = tells_first Fields.Version items _ (nth_obj (information_fields_with_installed_size items size) 1)
told_info Fields.Description items size other = tells_first Fields.Description items _ (nth_obj (information_fields_with_installed_size items size) 3)
told_info Fields.Arch items size other = tells_first Fields.Arch items _ (nth_obj (information_fields_with_installed_size items size) 4)
told_info Fields.License items size other = tells_first Fields.License items _ (nth_obj (information_fields_with_installed_size items size) 5)
told_info Fields.Origin items size other = tells_first Fields.Origin items _ (nth_obj (information_fields_with_installed_size items size) 6)
told_info Fields.Maintainer items size other = tells_first Fields.Maintainer items _ (nth_obj (information_fields_with_installed_size items size) 7)
told_info Fields.Url items size other = tells_first Fields.Url items _ (nth_obj (information_fields_with_installed_size items size) 8)
told_info Fields.RepoCommit items size other = tells_first Fields.RepoCommit items _ (nth_obj (information_fields_with_installed_size items size) 9)
told_info Fields.BuildTime items size other = tells_first Fields.BuildTime items _ (nth_obj (information_fields_with_installed_size items size) 10)
told_info Fields.ProviderPriority items size other = tells_first Fields.ProviderPriority items _ (nth_obj (information_fields_with_installed_size items size) 13)
told_info Fields.ReplacesPriority items size other = absurd (other refl)
told_info Fields.Depends items size other = tells_all Fields.Depends items _ (nth_obj (information_fields_with_installed_size items size) 14)
told_info Fields.Provides items size other = tells_all Fields.Provides items _ (nth_obj (information_fields_with_installed_size items size) 15)
told_info Fields.Replaces items size other = tells_all Fields.Replaces items _ (nth_obj (information_fields_with_installed_size items size) 16)
told_info Fields.InstallIf items size other = tells_all Fields.InstallIf items _ (nth_obj (information_fields_with_installed_size items size) 17)
told_info Fields.Recommends items size other = tells_all Fields.Recommends items _ (nth_obj (information_fields_with_installed_size items size) 18)
told_info Fields.Tags items size other = tells_all Fields.Tags items _ (nth_obj (information_fields_with_installed_size items size) 20)

-- ---- the priority in replacing

-- each value of the field is a number
abbrev AreNumbers : List TextNumberOrDependency → Type 0
AreNumbers [] = Unit {0}
AreNumbers (text bytes ∷ said) = ⊥
AreNumbers (number n ∷ said) = AreNumbers said
AreNumbers (need d ∷ said) = ⊥

numbers_append : (xs ys : List TextNumberOrDependency) → AreNumbers xs → AreNumbers ys → AreNumbers (xs ++ ys)
numbers_append [] ys a b = b
numbers_append (text bytes ∷ xs) ys a b = absurd a
numbers_append (number n ∷ xs) ys a b = numbers_append xs ys a b
numbers_append (need d ∷ xs) ys a b = absurd a

one_number : (v : OptionValue) (said : List TextNumberOrDependency) → OptionGivesFieldValues Fields.ReplacesPriority v said → AreNumbers said
one_number v said (inl (value, t, (n, spells, e))) = subst AreNumbers (sym e) tt
one_number v said (inr (other, e)) = subst AreNumbers (sym e) tt

all_numbers : (told : List OptionValue) (said : List TextNumberOrDependency) → OptionsGiveFieldValues Fields.ReplacesPriority told said → AreNumbers said
all_numbers [] said e = subst AreNumbers (sym e) tt
all_numbers (v ∷ vs) said (here, further, one, rest, e) =
    subst AreNumbers (sym e) (numbers_append here further (one_number v here one) (all_numbers vs further rest))

first_number : (f : Field) (items : List FieldWithValue) → AreNumbers (values_for f items) → number_or_null (option_and_then (λ (item : FieldWithValue). number_in item.value) (find (is_item_for f) items)) ≡ item_value_or_null (find (is_item_for f) items)
first_number f [] all = refl
first_number f (x ∷ xs) all = by_test (is_item_for f x) all (first_number f xs)
  where
    own : (y : TextNumberOrDependency) (said : List TextNumberOrDependency) → AreNumbers (y ∷ said) → number_or_null (number_in y) ≡ plain_value y
    own (text bytes) said a = absurd a
    own (number n) said a = refl
    own (need d) said a = absurd a

    by_test : (b : Bool) → AreNumbers (map (λ (i : FieldWithValue). i.value) (cond b (x ∷ filter (is_item_for f) xs) (filter (is_item_for f) xs)))
        → (AreNumbers (values_for f xs) → number_or_null (option_and_then (λ (item : FieldWithValue). number_in item.value) (find (is_item_for f) xs)) ≡ item_value_or_null (find (is_item_for f) xs))
        → number_or_null (option_and_then (λ (item : FieldWithValue). number_in item.value) (cond b (Some x) (find (is_item_for f) xs))) ≡ item_value_or_null (cond b (Some x) (find (is_item_for f) xs))
    by_test true a further = own x.value (values_for f xs) a
    by_test false a further = further a

pub told_priority : (told : List OptionValue) (items : List FieldWithValue) → OptionsGiveFieldValues Fields.ReplacesPriority told (values_for Fields.ReplacesPriority items) → (v : Plain) → v ≡ number_or_null (replaces_priority items)
    → HasValuesOfField Fields.ReplacesPriority (values_for Fields.ReplacesPriority items) v
told_priority told items say v e =
    tells_first Fields.ReplacesPriority items v (e ∙ first_number Fields.ReplacesPriority items (all_numbers told (values_for Fields.ReplacesPriority items) say))

-- ---- the information of a command

pub record AreItemsOf (too_long : Bool) (told : List OptionValue) (items : List FieldWithValue) : Type 0 where
  pub none : first_offence_place_by_output_length_after too_long [] told ≡ None
  pub all : items ≡ items_of_valid_options told

items_by : (too_long : Bool) (told : List OptionValue) (behind : ℕ) (items : List FieldWithValue) (o : Option ℕ) (lacks : Bool) → first_offence_place_by_output_length_after too_long [] told ≡ o
    → unless_offence o (if lacks then Err behind else Ok (items_of_valid_options told)) ≡ Ok items → AreItemsOf too_long told items
items_by too_long told behind items (Some place) lacks is e = absurd (cc (e))
items_by too_long told behind items None true is e = absurd (cc (e))
items_by too_long told behind items None false is e = let same : items_of_valid_options told ≡ items = cc (e) in record { none = is; all = sym same }

pub items_of : (values : List OptionValue) (behind : ℕ) (items : List FieldWithValue) → information_with_missing_reported_at_place values behind ≡ Ok items → AreItemsOf (is_output_default_and_too_long values) (values_of_info_options values) items
unfolding information_with_missing_reported_at_place
items_of values behind items e =
    items_by (is_output_default_and_too_long values) (values_of_info_options values) behind items (first_offence_place_by_output_length_after (is_output_default_and_too_long values) [] (values_of_info_options values)) (lacks_name_or_version (values_of_info_options values)) refl e
