-- The value of an information may stand in a package.
use Rattle.std.proofs.Common.{◌≡◌, ◌⊎◌, inl, inr, ℕ, ◌^◌, ◌<◌, Bool, true, false, cond, not, ◌&&◌, ◌||◌, nat_lt, if◌then◌else◌, List, [], ◌∷◌, ◌++◌, map, Option, Some, None, option_and_then, Ok, Err, refl, ap, sym, subst, ◌∙◌, arith}
use Rattle.std.specs.Prelude.{is_some, unwrap_or}
use Rattle.std.specs.List.{find, list_any}
use Rattle.std.proofs.lemmas.Bool.{and_parts, ltb-true, or_right, or_cases, or_left}
use Rattle.std.proofs.lemmas.List.Concat.{flat_map-cons}
use Rattle.std.proofs.lemmas.List.Folds.{list_any-append}
use Rattle.version_core.specs.Order.{is_version}
use Rattle.dep_core.specs.Dependency.{Dependency, is_dependency_name_by_bytes_and_length, is_package_name}
use Rattle.dep_core.specs.DependencyText.{IsDependency}
use Rattle.dep_core.specs.Reading.{dependency_of}
use Rattle.dep_core.specs.Spelling.{SpellsDependency}
use Rattle.dep_core.specs.Value.{DepValue, dep_value, is_match_number, is_version_or_empty}
use Rattle.dep_core.specs.ValueReading.{dependency_of_value}
use Rattle.command_core.specs.declared.values.OptionValue.{OptionValue}
use Rattle.adb_view.specs.Plain.{Plain, null, Plains, none, more, text as text_shape, hash, number as number_shape, array, blob_or_null, trimmed_object_or_null}
use Rattle.adb_view.specs.Shaped.{Each}
use Rattle.adb_view.specs.Schema.{shape_of, shapes_of, table}
use Rattle.pkg_core.specs.adb_schema.Texts.{Surroundings, is_allowed_number_of_field, surroundings_of_fields, is_allowed_text_of_field}
use Rattle.adb_view.specs.declared.tables.Which.TheVariants.{Dep, PkgInfo}
use Rattle.adb_view.specs.declared.tables.Kind.TheVariants.{Obj}
use Rattle.make_info.specs.declared.field.Field.{Field}
use Rattle.make_info.specs.declared.field.Field.TheVariants as Fields
use Rattle.make_info.specs.declared.field.Kind.{Kind}
use Rattle.make_info.specs.declared.field.Kind.TheVariants as Kinds
use Rattle.make_info.specs.Fields.{TextNumberOrDependency, text, number, need, kind_of_field, values_by_kind, text_value_if, dependency_if_untagged}
use Rattle.make_info.specs.FieldTexts.{FieldText, field_text_in, values_of_info_options, has_text_for_field_whatever_letter, is_field_text_for_field, is_same_field, is_output_default_and_too_long}
use Rattle.make_info.specs.Information.{FieldWithValue, items_of_valid_options, first_offence_place_by_output_length_after, information_fields_with_installed_size, information_value_with_installed_size, information_with_missing_reported_at_place, is_item_for, field_with_value, item_value_or_null, items_of_text, items_of_option, lacks_name_or_version, value_of_list_field, dependency_object, number_in, offends, replaces_priority, plain_value, value_of_single_field, unless_offence, plain_values_of_field, items_followed_by_values_of_field}
use Rattle.make_info.specs.Values.{number_or_null}
use Rattle.make_info.proofs.OutputFacts.{no_offence}
use Rattle.make_core.proofs.GoodValues.{IsGood, arr_good, hash_good, null_number, number_good, obj_good, text_good}
use Rattle.make_core.proofs.PackageFiles.{around_folder, size_good}
use Rattle.make_core.proofs.SaidGood.{AreSaidAs, IsNeed, IsSaidAs, said_good, same_kind}

-- what the layer of dependencies says of them
pub record Needs : Type 0 where
  pub spelled : (t : List ℕ) (d : Dependency) → dependency_of t ≡ Some d → SpellsDependency t d
  pub back : (d : Dependency) → IsDependency d → d.tag ≡ None → dependency_of_value (dep_value d).name (dep_value d).version (unwrap_or (dep_value d).matching 0) ≡ Some d

-- ---- items

abbrev pub AreItems : List FieldWithValue → Type 0
AreItems [] = Unit {0}
AreItems (item ∷ items) = IsSaidAs (kind_of_field item.field) item.value × AreItems items

items_append : (xs ys : List FieldWithValue) → AreItems xs → AreItems ys → AreItems (xs ++ ys)
items_append [] ys a b = b
items_append (x ∷ xs) ys a b = (a.0, items_append xs ys a.1 b)

items_said : (f : Field) (ss : List TextNumberOrDependency) → AreSaidAs (kind_of_field f) ss → AreItems (map (field_with_value f) ss)
items_said f [] h = tt
items_said f (s ∷ ss) h = (h.0, items_said f ss h.1)

with_good : (f : Field) (o : Option (List TextNumberOrDependency)) (items : List FieldWithValue) → ((ss : List TextNumberOrDependency) → o ≡ Some ss → AreSaidAs (kind_of_field f) ss) → items_followed_by_values_of_field [] f o ≡ Some items → AreItems items
with_good f None items h e = absurd (cc (e))
with_good f (Some ss) items h e = let same : map (field_with_value f) ss ≡ items = cc (e) in subst AreItems same (items_said f ss (h ss refl))

given_good : (o : Option FieldText) (items : List FieldWithValue) → option_and_then items_of_text o ≡ Some items → AreItems items
given_good None items e = absurd (cc (e))
given_good (Some g) items e = with_good g.field (values_by_kind (kind_of_field g.field) g.value) items (λ ss is. said_good (kind_of_field g.field) g.value ss is) e

or_none_good : (o : Option (List FieldWithValue)) → ((items : List FieldWithValue) → o ≡ Some items → AreItems items) → AreItems (unwrap_or o [])
or_none_good None h = tt
or_none_good (Some items) h = h items refl

abbrev said_by : OptionValue → List FieldWithValue
said_by v = unwrap_or (items_of_option v) []

all_good : (told : List OptionValue) → AreItems (items_of_valid_options told)
all_good [] = tt
all_good (v ∷ vs) =
    subst AreItems (sym (flat_map-cons said_by v vs)) (items_append (said_by v) (items_of_valid_options vs) (or_none_good (items_of_option v) (λ items is. given_good (field_text_in v.text) items is)) (all_good vs))

-- ---- the name and the version are among them

abbrev AreAllowed : List OptionValue → Type 0
AreAllowed [] = Unit {0}
AreAllowed (v ∷ vs) = (is_some (items_of_option v) ≡ true) × AreAllowed vs

allowed : (too_long : Bool) (before told : List OptionValue) → first_offence_place_by_output_length_after too_long before told ≡ None → AreAllowed told
allowed too_long before [] e = tt
allowed too_long before (v ∷ vs) e = by_offence (offends too_long before v) refl (allowed too_long (before ++ v ∷ []) vs) e
  where
    by_offence : (b : Bool) → offends too_long before v ≡ b → (first_offence_place_by_output_length_after too_long (before ++ v ∷ []) vs ≡ None → AreAllowed vs)
        → (if b then Some v.place else first_offence_place_by_output_length_after too_long (before ++ v ∷ []) vs) ≡ None → AreAllowed (v ∷ vs)
    by_offence true is further k = absurd (cc (k))
    by_offence false is further k = (no_offence (is_some (items_of_option v)) _ is, further k)

-- each value of the field says a thing of it
abbrev SaysOne : Kind → Type 0
SaysOne k = (value : List ℕ) (ss : List TextNumberOrDependency) → values_by_kind k value ≡ Some ss → (s : TextNumberOrDependency) × (ts : List TextNumberOrDependency) × (ss ≡ s ∷ ts)

if_one : (b : Bool) (value : List ℕ) (ss : List TextNumberOrDependency) → text_value_if b value ≡ Some ss → (s : TextNumberOrDependency) × (ts : List TextNumberOrDependency) × (ss ≡ s ∷ ts)
if_one true value ss e = (text value, [], cc (e))
if_one false value ss e = absurd (cc (e))

name_says : SaysOne Kinds.PackageName
name_says value ss e = if_one (is_package_name value) value ss e

version_says : SaysOne Kinds.PackageVersion
version_says value ss e = if_one (is_version value) value ss e

among_first : (f : Field) (g : FieldText) (ss : List TextNumberOrDependency) → is_same_field g.field f ≡ true → (s : TextNumberOrDependency) × (ts : List TextNumberOrDependency) × (ss ≡ s ∷ ts) → list_any (is_item_for f) (map (field_with_value g.field) ss) ≡ true
among_first f g ss is (s, ts, e) = ap (λ (xs : List TextNumberOrDependency). list_any (is_item_for f) (map (field_with_value g.field) xs)) e ∙ ap (λ b. b || list_any (is_item_for f) (map (field_with_value g.field) ts)) is

among_given : (f : Field) (g : FieldText) (o : Option (List TextNumberOrDependency)) → is_same_field g.field f ≡ true → ((ss : List TextNumberOrDependency) → o ≡ Some ss → (s : TextNumberOrDependency) × (ts : List TextNumberOrDependency) × (ss ≡ s ∷ ts))
    → is_some (items_followed_by_values_of_field [] g.field o) ≡ true → list_any (is_item_for f) (unwrap_or (items_followed_by_values_of_field [] g.field o) []) ≡ true
among_given f g None is says some = absurd (cc (some))
among_given f g (Some ss) is says some = among_first f g ss is (says ss refl)

among_by : (f : Field) (o : Option FieldText) → SaysOne (kind_of_field f) → is_field_text_for_field f o ≡ true → is_some (option_and_then items_of_text o) ≡ true → list_any (is_item_for f) (unwrap_or (option_and_then items_of_text o) []) ≡ true
among_by f None says is some = absurd (cc (is))
among_by f (Some g) says is some =
    let kind = same_kind g.field f is in
    among_given f g (values_by_kind (kind_of_field g.field) g.value) is (λ ss e. says g.value ss (ap (λ (k : Kind). values_by_kind k g.value) (sym kind) ∙ e)) some

among : (f : Field) (told : List OptionValue) → SaysOne (kind_of_field f) → AreAllowed told → list_any (has_text_for_field_whatever_letter f) told ≡ true → list_any (is_item_for f) (items_of_valid_options told) ≡ true
among f [] says ok e = absurd (cc (e))
among f (v ∷ vs) says ok e =
    ap (list_any (is_item_for f)) (flat_map-cons said_by v vs)
    ∙ (list_any-append (is_item_for f) (said_by v) (items_of_valid_options vs) ∙ by_side (or_cases (has_text_for_field_whatever_letter f v) (list_any (has_text_for_field_whatever_letter f) vs) e) (among f vs says ok.1))
  where
    by_side : (has_text_for_field_whatever_letter f v ≡ true) ⊎ (list_any (has_text_for_field_whatever_letter f) vs ≡ true) → (list_any (has_text_for_field_whatever_letter f) vs ≡ true → list_any (is_item_for f) (items_of_valid_options vs) ≡ true) → (list_any (is_item_for f) (said_by v) || list_any (is_item_for f) (items_of_valid_options vs)) ≡ true
    by_side (inl here) further = or_left _ _ (among_by f (field_text_in v.text) says here ok.0)
    by_side (inr there) further = or_right (list_any (is_item_for f) (said_by v)) _ (further there)

pub record IsInformation (items : List FieldWithValue) : Type 0 where
  pub good : AreItems items
  pub name : list_any (is_item_for Fields.Name) items ≡ true
  pub version : list_any (is_item_for Fields.Version) items ≡ true

neither_lacks : (a b : Bool) → (not a || not b) ≡ false → (a ≡ true) × (b ≡ true)
neither_lacks true true e = (refl, refl)
neither_lacks true false e = absurd (cc (e))
neither_lacks false b e = absurd (cc (e))

information_by : (told : List OptionValue) (o : Option ℕ) (b : Bool) (behind : ℕ) (items : List FieldWithValue) → (o ≡ None → AreAllowed told) → lacks_name_or_version told ≡ b
    → unless_offence o (if b then Err behind else Ok (items_of_valid_options told)) ≡ Ok items → IsInformation items
information_by told (Some place) b behind items ok is e = absurd (cc (e))
information_by told None true behind items ok is e = absurd (cc (e))
information_by told None false behind items ok is e =
    let same : items_of_valid_options told ≡ items = cc (e) in
    let both = neither_lacks (list_any (has_text_for_field_whatever_letter Fields.Name) told) (list_any (has_text_for_field_whatever_letter Fields.Version) told) is in
    subst IsInformation same (record {
      good = all_good told;
      name = among Fields.Name told name_says (ok refl) both.0;
      version = among Fields.Version told version_says (ok refl) both.1;
    })

pub information_good : (values : List OptionValue) (behind : ℕ) (items : List FieldWithValue) → information_with_missing_reported_at_place values behind ≡ Ok items → IsInformation items
unfolding information_with_missing_reported_at_place
information_good values behind items e =
    information_by (values_of_info_options values) (first_offence_place_by_output_length_after (is_output_default_and_too_long values) [] (values_of_info_options values)) (lacks_name_or_version (values_of_info_options values)) behind items (λ k. allowed (is_output_default_and_too_long values) [] (values_of_info_options values) k) refl e

-- ---- what is found of a field

abbrev IsFound : Field → Option FieldWithValue → Type 0
IsFound f None = Unit {0}
IsFound f (Some item) = IsSaidAs (kind_of_field f) item.value

found : (f : Field) (items : List FieldWithValue) → AreItems items → IsFound f (find (is_item_for f) items)
found f [] h = tt
found f (item ∷ items) h = by_field (is_item_for f item) refl (found f items h.1)
  where
    by_field : (b : Bool) → is_item_for f item ≡ b → IsFound f (find (is_item_for f) items) → IsFound f (cond b (Some item) (find (is_item_for f) items))
    by_field true is further = subst (λ (k : Kind). IsSaidAs k item.value) (same_kind item.field f is) h.0
    by_field false is further = further

there : (f : Field) (items : List FieldWithValue) → list_any (is_item_for f) items ≡ true → is_some (find (is_item_for f) items) ≡ true
there f [] e = absurd (cc (e))
there f (item ∷ items) e = by_field (is_item_for f item) (there f items) e
  where
    by_field : (b : Bool) → (list_any (is_item_for f) items ≡ true → is_some (find (is_item_for f) items) ≡ true) → (b || list_any (is_item_for f) items) ≡ true → is_some (cond b (Some item) (find (is_item_for f) items)) ≡ true
    by_field true further k = refl
    by_field false further k = further k

single_by : (P : Plain → Type 0) (f : Field) (o : Option FieldWithValue) → IsFound f o → P null → ((s : TextNumberOrDependency) → IsSaidAs (kind_of_field f) s → P (plain_value s)) → P (item_value_or_null o)
single_by P f None h lacking good = lacking
single_by P f (Some item) h lacking good = good item.value h

single_good : (P : Plain → Type 0) (f : Field) (items : List FieldWithValue) → AreItems items → P null → ((s : TextNumberOrDependency) → IsSaidAs (kind_of_field f) s → P (plain_value s)) → P (value_of_single_field f items)
single_good P f items h lacking good = single_by P f (find (is_item_for f) items) (found f items h) lacking good

given_by_some : (P : Plain → Type 0) (f : Field) (o : Option FieldWithValue) → IsFound f o → is_some o ≡ true → ((s : TextNumberOrDependency) → IsSaidAs (kind_of_field f) s → P (plain_value s)) → P (item_value_or_null o)
given_by_some P f None h some good = absurd (cc (some))
given_by_some P f (Some item) h some good = good item.value h

given_single : (P : Plain → Type 0) (f : Field) (items : List FieldWithValue) → AreItems items → list_any (is_item_for f) items ≡ true → ((s : TextNumberOrDependency) → IsSaidAs (kind_of_field f) s → P (plain_value s)) → P (value_of_single_field f items)
given_single P f items h any good = given_by_some P f (find (is_item_for f) items) (found f items h) (there f items any) good

values_good : (P : Plain → Type 0) (f : Field) (items : List FieldWithValue) → AreItems items → ((s : TextNumberOrDependency) → IsSaidAs (kind_of_field f) s → P (plain_value s)) → Each P (plain_values_of_field f items)
values_good P f [] h good = tt
values_good P f (item ∷ items) h good = by_field (is_item_for f item) refl (values_good P f items h.1 good)
  where
    by_field : (b : Bool) → is_item_for f item ≡ b → Each P (plain_values_of_field f items) → Each P (if b then more (plain_value item.value) (plain_values_of_field f items) else plain_values_of_field f items)
    by_field true is further = (good item.value (subst (λ (k : Kind). IsSaidAs k item.value) (same_kind item.field f is) h.0), further)
    by_field false is further = further

-- ---- the values of what is said

name_good : (a : Surroundings) (s : TextNumberOrDependency) → IsSaidAs Kinds.PackageName s → IsGood text_shape 301 a (plain_value s)
unfolding is_allowed_text_of_field
name_good a (text b) h = text_good 301 a b h
name_good a (number n) h = absurd h
name_good a (need d) h = absurd h

version_good : (a : Surroundings) (s : TextNumberOrDependency) → IsSaidAs Kinds.PackageVersion s → IsGood text_shape 302 a (plain_value s)
unfolding is_allowed_text_of_field
version_good a (text b) h = text_good 302 a b h
version_good a (number n) h = absurd h
version_good a (need d) h = absurd h

abbrev IsFree : ℕ → Type 0
IsFree place = (a : Surroundings) (b : List ℕ) → is_allowed_text_of_field place a b ≡ true

any_text : (place : ℕ) (a : Surroundings) → IsFree place → (s : TextNumberOrDependency) → IsSaidAs Kinds.AnyText s → IsGood text_shape place a (plain_value s)
any_text place a free (text b) h = text_good place a b (free a b)
any_text place a free (number n) h = absurd h
any_text place a free (need d) h = absurd h

tag_text : (place : ℕ) (a : Surroundings) → IsFree place → (s : TextNumberOrDependency) → IsSaidAs Kinds.Texts s → IsGood text_shape place a (plain_value s)
tag_text place a free (text b) h = text_good place a b (free a b)
tag_text place a free (number n) h = absurd h
tag_text place a free (need d) h = absurd h

hex_bytes : (place : ℕ) (a : Surroundings) → IsFree place → (s : TextNumberOrDependency) → IsSaidAs Kinds.HexDigits s → IsGood hash place a (plain_value s)
hex_bytes place a free (text b) h = hash_good place a b (free a b)
hex_bytes place a free (number n) h = absurd h
hex_bytes place a free (need d) h = absurd h

any_number : (place : ℕ) (a : Surroundings) → ((n : ℕ) → is_allowed_number_of_field place n ≡ true) → (s : TextNumberOrDependency) → IsSaidAs Kinds.Number s → IsGood number_shape place a (plain_value s)
any_number place a free (text b) h = absurd h
any_number place a free (number n) h = number_good place a n h (free n)
any_number place a free (need d) h = absurd h

small_matching : (n : ℕ) → is_match_number n ≡ true → n < 2 ^ 64
small_matching n e = let lt = ltb-true n 32 (and_parts (nat_lt n 32) _ e).0 in omega arith

matching_good : (a : Surroundings) (o : Option ℕ) → is_match_number (unwrap_or o 0) ≡ true → IsGood number_shape 103 a (number_or_null o)
matching_good a None e = null_number 103 a e
matching_good a (Some n) e = number_good 103 a n (small_matching n e) e

if_some : (b : Bool) (x y : Dependency) → (if b then Some x else None) ≡ Some y → b ≡ true
if_some true x y e = refl
if_some false x y e = absurd (cc (e))

need_parts : (name version : List ℕ) (m : ℕ) (d : Dependency) → dependency_of_value name version m ≡ Some d → (is_dependency_name_by_bytes_and_length name && (is_version_or_empty version && is_match_number m)) ≡ true
unfolding dependency_of_value
need_parts name version m d e = if_some _ _ d e

need_good : Needs → (place : ℕ) (a : Surroundings) (d : Dependency) → IsNeed d → IsGood (shape_of (Obj Dep)) place a (dependency_object (dep_value d))
unfolding shape_of is_allowed_text_of_field
need_good needs place a d (part, is, dependency_if_untagged) =
    let v : DepValue = dep_value d in
    let all = and_parts (is_dependency_name_by_bytes_and_length v.name) (is_version_or_empty v.version && is_match_number (unwrap_or v.matching 0)) (need_parts v.name v.version (unwrap_or v.matching 0) d (needs.back d (needs.spelled part d is).0 dependency_if_untagged)) in
    let both = and_parts (is_version_or_empty v.version) (is_match_number (unwrap_or v.matching 0)) all.1 in
    let vs : Plains = more (blob_or_null v.name) (more (blob_or_null v.version) (more (number_or_null v.matching) none)) in
    let inside : Surroundings = surroundings_of_fields 1 a (trimmed_object_or_null vs) in
    obj_good 1 (shapes_of (table Dep)) place a inside vs refl (text_good 101 inside v.name all.0, (text_good 102 inside v.version both.0, (matching_good inside v.matching both.1, tt)))

a_need : Needs → (place : ℕ) (a : Surroundings) (s : TextNumberOrDependency) → IsSaidAs Kinds.Dependencies s → IsGood (shape_of (Obj Dep)) place a (plain_value s)
a_need needs place a (text b) h = absurd h
a_need needs place a (number n) h = absurd h
a_need needs place a (need d) h = need_good needs place a d h

-- ---- all of them

module _ (needs : Needs) (items : List FieldWithValue) (is : IsInformation items) where
  text_at : (place : ℕ) (a : Surroundings) (f : Field) → kind_of_field f ≡ Kinds.AnyText → IsFree place → IsGood text_shape place a (value_of_single_field f items)
  text_at place a f k free =
      single_good (IsGood text_shape place a) f items is.good (text_good place a [] (free a [])) (λ s h. any_text place a free s (subst (λ (kind : Kind). IsSaidAs kind s) k h))

  number_at : (place : ℕ) (a : Surroundings) (f : Field) → kind_of_field f ≡ Kinds.Number → ((n : ℕ) → is_allowed_number_of_field place n ≡ true) → IsGood number_shape place a (value_of_single_field f items)
  number_at place a f k free =
      single_good (IsGood number_shape place a) f items is.good (null_number place a (free 0)) (λ s h. any_number place a free s (subst (λ (kind : Kind). IsSaidAs kind s) k h))

  needs_at : (place : ℕ) (a : Surroundings) (f : Field) → kind_of_field f ≡ Kinds.Dependencies → IsGood (array (shape_of (Obj Dep))) place a (value_of_list_field f items)
  needs_at place a f k =
      arr_good (shape_of (Obj Dep)) place a (plain_values_of_field f items)
      (values_good (IsGood (shape_of (Obj Dep)) place a) f items is.good (λ s h. a_need needs place a s (subst (λ (kind : Kind). IsSaidAs kind s) k h)))

  pub info_good : (size : ℕ) → size < 2 ^ 64 → IsGood (shape_of (Obj PkgInfo)) 701 around_folder (information_value_with_installed_size items size)
  unfolding shape_of is_allowed_text_of_field information_value_with_installed_size
  info_good size small =
      let a : Surroundings = surroundings_of_fields 3 around_folder (trimmed_object_or_null (information_fields_with_installed_size items size)) in
      obj_good 3 (shapes_of (table PkgInfo)) 701 around_folder a (information_fields_with_installed_size items size) refl (
        given_single (IsGood text_shape 301 a) Fields.Name items is.good is.name (name_good a),
        (
          given_single (IsGood text_shape 302 a) Fields.Version items is.good is.version (version_good a),
          (
            hash_good 303 a [] refl,
            (
              text_at 304 a Fields.Description refl (λ b x. refl),
              (
                text_at 305 a Fields.Arch refl (λ b x. refl),
                (
                  text_at 306 a Fields.License refl (λ b x. refl),
                  (
                    text_at 307 a Fields.Origin refl (λ b x. refl),
                    (
                      text_at 308 a Fields.Maintainer refl (λ b x. refl),
                      (
                        text_at 309 a Fields.Url refl (λ b x. refl),
                        (
                          single_good (IsGood hash 310 a) Fields.RepoCommit items is.good (hash_good 310 a [] refl) (hex_bytes 310 a (λ b x. refl)),
                          (
                            number_at 311 a Fields.BuildTime refl (λ n. refl),
                            (
                              size_good 312 a size small (λ n. refl),
                              (
                                null_number 313 a refl,
                                (
                                  number_at 314 a Fields.ProviderPriority refl (λ n. refl),
                                  (
                                    needs_at 315 a Fields.Depends refl,
                                    (
                                      needs_at 316 a Fields.Provides refl,
                                      (
                                        needs_at 317 a Fields.Replaces refl,
                                        (
                                          needs_at 318 a Fields.InstallIf refl,
                                          (
                                            needs_at 319 a Fields.Recommends refl,
                                            (
                                              null_number 320 a refl,
                                              (
                                                arr_good text_shape 321 a (plain_values_of_field Fields.Tags items) (values_good (IsGood text_shape 321 a) Fields.Tags items is.good (tag_text 321 a (λ b x. refl))),
                                                (null_number 322 a refl, tt),
                                              ),
                                            ),
                                          ),
                                        ),
                                      ),
                                    ),
                                  ),
                                ),
                              ),
                            ),
                          ),
                        ),
                      ),
                    ),
                  ),
                ),
              ),
            ),
          ),
        ),
      )

  priority_by : (o : Option FieldWithValue) → IsFound Fields.ReplacesPriority o → IsGood number_shape 705 around_folder (number_or_null (option_and_then (λ (item : FieldWithValue). number_in item.value) o))
  priority_by None h = null_number 705 around_folder refl
  priority_by (Some item) h = by_said item.value h
    where
      by_said : (s : TextNumberOrDependency) → IsSaidAs Kinds.Number s → IsGood number_shape 705 around_folder (number_or_null (number_in s))
      by_said (text b) h = absurd h
      by_said (number n) h = number_good 705 around_folder n h refl
      by_said (need d) h = absurd h

  pub priority_good : IsGood number_shape 705 around_folder (number_or_null (replaces_priority items))
  priority_good = priority_by (find (is_item_for Fields.ReplacesPriority) items) (found Fields.ReplacesPriority items is.good)
