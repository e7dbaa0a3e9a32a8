-- The values of `-I` that were read, and what they said.
use Rattle.std.proofs.Common.{◌≡◌, ℕ, Bool, true, false, not, cond, List, [], ◌∷◌, ◌++◌, map, Option, Some, None, Result, Ok, Err, refl, sym, ◌∙◌, ap, append-nil, append_assoc}
use Rattle.std.specs.Prelude.{◌&&◌, ◌||◌, is_some, unwrap_or}
use Rattle.std.specs.List.{find, list_any}
use Rattle.std.specs.Option.{option_and_then, option_map, option_or}
use Rattle.std.specs.Cmp.Lexicographic.{bytes_decides}
use Rattle.std.proofs.lemmas.List.Concat.{flat_map-append}
use Rattle.std.proofs.lemmas.List.Folds.{find-append, list_any-append}
use Rattle.hex.specs.Hex.{decode_of}
use Rattle.hex.specs.declared.error.FromHexError.{FromHexError}
use Rattle.std.proofs.Math.Bool.{or-false}
use Rattle.dep_core.specs.Dependency.{is_package_name}
use Rattle.version_core.specs.Order.{is_version}
use Rattle.command_core.specs.declared.values.OptionValue.{OptionValue}
use Rattle.make_info.specs.declared.field.Field.{Field}
use Rattle.make_info.specs.declared.field.Field.TheVariants as Fields
use Rattle.make_info.specs.declared.field.Kind.{Kind}
use Rattle.make_info.specs.declared.field.Kind.TheVariants as Kinds
use Rattle.make_info.specs.Fields.{TextNumberOrDependency, text, number, field_values_of_decoded_hex, field_word, fields, may_repeat, kind_of_field, field_among, decimal_number_without_leading_zeros, values_by_kind, text_value_if}
use Rattle.make_info.specs.FieldTexts.{FieldText, field_text_in, values_of_info_options, has_text_for_field_whatever_letter, is_field_text_for_field, is_same_field, is_output_default_and_too_long}
use Rattle.make_info.specs.Information.{FieldWithValue, items_of_valid_options, first_offence_place_by_output_length_after, information_with_missing_reported_at_place, is_item_for, gives_single_field_again, field_with_value, items_of_text, items_of_option, lacks_name_or_version, offends, unless_offence, items_followed_by_values_of_field}
use Rattle.make_info.specs.Reading.{has_no_name_or_version, items_with_option_text, items_with_text}

-- ---- fields are told apart by their words

named : (f : Field) → field_among fields (field_word f) ≡ Some f
named Fields.Name = refl
named Fields.Version = refl
named Fields.Description = refl
named Fields.Arch = refl
named Fields.License = refl
named Fields.Origin = refl
named Fields.Maintainer = refl
named Fields.Url = refl
named Fields.RepoCommit = refl
named Fields.BuildTime = refl
named Fields.ProviderPriority = refl
named Fields.ReplacesPriority = refl
named Fields.Depends = refl
named Fields.Provides = refl
named Fields.Replaces = refl
named Fields.InstallIf = refl
named Fields.Recommends = refl
named Fields.Tags = refl

some_same : (f g : Field) → Some f ≡ Some g → f ≡ g
some_same f g h = cc

pub same_field : (f g : Field) → is_same_field f g ≡ true → f ≡ g
same_field f g h =
    some_same f g (sym (named f) ∙ (ap (field_among fields) ((bytes_decides (field_word f) (field_word g)).0 h) ∙ named g))

-- ---- a single field says one thing

abbrev IsOne : List TextNumberOrDependency → Type 0
IsOne said = (x : TextNumberOrDependency) × (said ≡ x ∷ [])

one_text : (b : Bool) (value : List ℕ) (said : List TextNumberOrDependency) → text_value_if b value ≡ Some said → IsOne said
one_text true value said h = (text value, cc)
one_text false value said h = cc

one_bytes : (r : Result (List ℕ) FromHexError) (said : List TextNumberOrDependency) → field_values_of_decoded_hex r ≡ Some said → IsOne said
one_bytes (Ok bytes) said h = (text bytes, cc)
one_bytes (Err e) said h = cc

one_number : (n : Option ℕ) (said : List TextNumberOrDependency) → option_map (λ n. number n ∷ []) n ≡ Some said → IsOne said
one_number (Some n) said h = (number n, cc)
one_number None said h = cc

one_said : (k : Kind) (value : List ℕ) (said : List TextNumberOrDependency) → may_repeat k ≡ false → values_by_kind k value ≡ Some said → IsOne said
one_said Kinds.PackageName value said k h = one_text (is_package_name value) value said h
one_said Kinds.PackageVersion value said k h = one_text (is_version value) value said h
one_said Kinds.AnyText value said k h = one_text true value said h
one_said Kinds.HexDigits value said k h = one_bytes (decode_of value) said h
one_said Kinds.Number value said k h = one_number (decimal_number_without_leading_zeros value) said h
one_said Kinds.Dependencies value said k h = cc
one_said Kinds.Texts value said k h = cc

not_found : (f g : Field) (said : List TextNumberOrDependency) → is_same_field g f ≡ false → is_some (find (is_item_for f) (map (field_with_value g) said)) ≡ false
not_found f g [] h = refl
not_found f g (x ∷ said) h =
    ap (λ b. is_some (cond b (Some (field_with_value g x)) (find (is_item_for f) (map (field_with_value g) said)))) h ∙ not_found f g said h

found_one : (f g : Field) (said : List TextNumberOrDependency) → IsOne said → is_same_field g f ≡ true → is_some (find (is_item_for f) (map (field_with_value g) said)) ≡ true
found_one f g said one h =
    ap (λ s. is_some (find (is_item_for f) (map (field_with_value g) s))) one.1 ∙ ap (λ b. is_some (cond b (Some (field_with_value g one.0)) None)) h

-- whether a field is among what one value of a field says
among : (f g : Field) (value : List ℕ) (said : List TextNumberOrDependency) (b : Bool) → is_same_field g f ≡ b → may_repeat (kind_of_field f) ≡ false → values_by_kind (kind_of_field g) value ≡ Some said → is_some (find (is_item_for f) (map (field_with_value g) said)) ≡ b
among f g value said true h k s =
    found_one f g said (one_said (kind_of_field g) value said (ap (λ x. may_repeat (kind_of_field x)) (same_field g f h) ∙ k) s) h
among f g value said false h k s = not_found f g said h

-- ---- a value offends exactly when it is not taken

abbrev pub IsFresh : List OptionValue → List FieldWithValue → Type 0
IsFresh done said = (f : Field) → may_repeat (kind_of_field f) ≡ false → is_some (find (is_item_for f) said) ≡ list_any (has_text_for_field_whatever_letter f) done

abbrev offends_given : Bool → List OptionValue → Option FieldText → Bool
offends_given too_long done given =
    not (is_some (option_and_then items_of_text given)) || (gives_single_field_again done given || (too_long && is_field_text_for_field Fields.Version given))

by_parts : (x l d h : Bool) (s : Option (List TextNumberOrDependency)) (f : Field) (before : List FieldWithValue) → (l ≡ false → h ≡ d) → (not (is_some (items_followed_by_values_of_field [] f s)) || ((not l && d) || x)) ≡ not (is_some (cond x None (cond (not l && h) None (items_followed_by_values_of_field before f s))))
by_parts true l d h None f before same = refl
by_parts false true d h None f before same = refl
by_parts false false d true None f before same = refl
by_parts false false d false None f before same = refl
by_parts true true d h (Some s) f before same = refl
by_parts true false true h (Some s) f before same = refl
by_parts true false false h (Some s) f before same = refl
by_parts false true d h (Some s) f before same = refl
by_parts false false true h (Some s) f before same =
    ap (λ b. not (is_some (cond b None (items_followed_by_values_of_field before f (Some s))))) (sym (same refl))
by_parts false false false h (Some s) f before same =
    ap (λ b. not (is_some (cond b None (items_followed_by_values_of_field before f (Some s))))) (sym (same refl))

judged_given : (too_long : Bool) (done : List OptionValue) (said : List FieldWithValue) (given : Option FieldText) → IsFresh done said → offends_given too_long done given ≡ not (is_some (items_with_text too_long said given))
judged_given too_long done said None fresh = refl
judged_given too_long done said (Some g) fresh =
    by_parts (too_long && is_same_field g.field Fields.Version) (may_repeat (kind_of_field g.field)) (list_any (has_text_for_field_whatever_letter g.field) done) (is_some (find (is_item_for g.field) said)) (values_by_kind (kind_of_field g.field) g.value) g.field said (fresh g.field)

judged : (too_long : Bool) (done : List OptionValue) (said : List FieldWithValue) (v : OptionValue) → IsFresh done said → offends too_long done v ≡ not (is_some (items_with_option_text too_long said v.text))
unfolding items_with_option_text
judged too_long done said v fresh = judged_given too_long done said (field_text_in v.text) fresh

-- ---- what a value that is taken says

abbrev SaysAs : List FieldWithValue → List FieldWithValue → List OptionValue → Option FieldText → Type 0
SaysAs said new done given =
    (new ≡ said ++ unwrap_or (option_and_then items_of_text given) [])
    × ((f : Field) → may_repeat (kind_of_field f) ≡ false → is_some (find (is_item_for f) (unwrap_or (option_and_then items_of_text given) [])) ≡ is_field_text_for_field f given)

by_taking : (x y : Bool) (g : FieldText) (s : Option (List TextNumberOrDependency)) (said new : List FieldWithValue) (done : List OptionValue) → values_by_kind (kind_of_field g.field) g.value ≡ s → Some new ≡ cond x None (cond y None (items_followed_by_values_of_field said g.field s)) → (new ≡ said ++ unwrap_or (items_followed_by_values_of_field [] g.field s) []) × ((f : Field) → may_repeat (kind_of_field f) ≡ false → is_some (find (is_item_for f) (unwrap_or (items_followed_by_values_of_field [] g.field s) [])) ≡ is_same_field g.field f)
by_taking true y g s said new done e h = cc
by_taking false true g s said new done e h = cc
by_taking false false g None said new done e h = cc
by_taking false false g (Some xs) said new done e h =
    (cc, λ f k. among f g.field g.value xs (is_same_field g.field f) refl k e)

says_given : (too_long : Bool) (done : List OptionValue) (said new : List FieldWithValue) (given : Option FieldText) → Some new ≡ items_with_text too_long said given → SaysAs said new done given
says_given too_long done said new None h = cc
says_given too_long done said new (Some g) h =
    by_taking (too_long && is_same_field g.field Fields.Version) (not (may_repeat (kind_of_field g.field)) && is_some (find (is_item_for g.field) said)) g (values_by_kind (kind_of_field g.field) g.value) said new done refl h

says : (too_long : Bool) (done : List OptionValue) (said new : List FieldWithValue) (v : OptionValue) → Some new ≡ items_with_option_text too_long said v.text → SaysAs said new done (field_text_in v.text)
unfolding items_with_option_text
says too_long done said new v h = says_given too_long done said new (field_text_in v.text) h

-- ---- the values one after the other

-- the first values were taken, and said this
pub record IsReadTo (too_long : Bool) (told rest : List OptionValue) (said : List FieldWithValue) : Type 0 where
  pub done : List OptionValue
  pub whole : done ++ rest ≡ told
  pub first : first_offence_place_by_output_length_after too_long done rest ≡ first_offence_place_by_output_length_after too_long [] told
  pub all : said ≡ items_of_valid_options done
  pub fresh : IsFresh done said

pub nothing_read : (too_long : Bool) (told : List OptionValue) → IsReadTo too_long told told []
nothing_read too_long told = record { done = []; whole = refl; first = refl; all = refl; fresh = λ f k. refl }

some_or : (a b : Option FieldWithValue) → is_some (option_or a b) ≡ (is_some a || is_some b)
some_or (Some x) b = refl
some_or None b = refl

pub one_taken : (too_long : Bool) (told rest : List OptionValue) (v : OptionValue) (said new : List FieldWithValue) → IsReadTo too_long told (v ∷ rest) said → Some new ≡ items_with_option_text too_long said v.text → IsReadTo too_long told rest new
one_taken too_long told rest v said new r h =
    let more : SaysAs said new r.done (field_text_in v.text) = says too_long r.done said new v h in
    let items : List FieldWithValue = unwrap_or (items_of_option v) [] in
    let good : offends too_long r.done v ≡ false = judged too_long r.done said v r.fresh ∙ ap (λ o. not (is_some o)) (sym h) in
    record {
      done = r.done ++ v ∷ [];
      whole = append_assoc r.done (v ∷ []) rest ∙ r.whole;
      first = sym (ap (λ b. cond b (Some v.place) (first_offence_place_by_output_length_after too_long (r.done ++ v ∷ []) rest)) good) ∙ r.first;
      all = more.0 ∙ (ap (λ s. s ++ items) r.all ∙ (ap (λ s. items_of_valid_options r.done ++ s) (sym (append-nil items)) ∙ sym (flat_map-append (λ (v : OptionValue). unwrap_or (items_of_option v) []) r.done (v ∷ []))));
      fresh = λ f k.
          ap (λ s. is_some (find (is_item_for f) s)) more.0
          ∙ (ap is_some (find-append (is_item_for f) said items)
          ∙ (some_or (find (is_item_for f) said) (find (is_item_for f) items)
          ∙ (ap (λ b. b || is_some (find (is_item_for f) items)) (r.fresh f k)
          ∙ (ap (λ b. list_any (has_text_for_field_whatever_letter f) r.done || b) (more.1 f k ∙ sym (or-false (has_text_for_field_whatever_letter f v)))
          ∙ sym (list_any-append (has_text_for_field_whatever_letter f) r.done (v ∷ []))))));
    }

pub one_refused : (too_long : Bool) (told rest : List OptionValue) (v : OptionValue) (said : List FieldWithValue) → IsReadTo too_long told (v ∷ rest) said → None ≡ items_with_option_text too_long said v.text → first_offence_place_by_output_length_after too_long [] told ≡ Some v.place
one_refused too_long told rest v said r h =
    let bad : offends too_long r.done v ≡ true = judged too_long r.done said v r.fresh ∙ ap (λ o. not (is_some o)) (sym h) in
    sym r.first ∙ ap (λ b. cond b (Some v.place) (first_offence_place_by_output_length_after too_long (r.done ++ v ∷ []) rest)) bad

-- ---- the information of all values

pub refused_at : (values : List OptionValue) (behind : ℕ) (too_long : Bool) (place : ℕ) → too_long ≡ is_output_default_and_too_long values → first_offence_place_by_output_length_after too_long [] (values_of_info_options values) ≡ Some place → information_with_missing_reported_at_place values behind ≡ Err place
unfolding information_with_missing_reported_at_place
refused_at values behind too_long place e h =
    let told = values_of_info_options values in
    ap (λ t. unless_offence (first_offence_place_by_output_length_after t [] told) (cond (lacks_name_or_version told) (Err behind) (Ok (items_of_valid_options told)))) (sym e)
    ∙ ap (λ o. unless_offence o (cond (lacks_name_or_version told) (Err behind) (Ok (items_of_valid_options told)))) h

all_read : (values : List OptionValue) (behind : ℕ) (too_long : Bool) (said : List FieldWithValue) → too_long ≡ is_output_default_and_too_long values → IsReadTo too_long (values_of_info_options values) [] said → information_with_missing_reported_at_place values behind ≡ cond (has_no_name_or_version said) (Err behind) (Ok said)
unfolding information_with_missing_reported_at_place
all_read values behind too_long said e r =
    let told = values_of_info_options values in
    let done : r.done ≡ told = sym (append-nil r.done) ∙ r.whole in
    let named : is_some (find (is_item_for Fields.Name) said) ≡ list_any (has_text_for_field_whatever_letter Fields.Name) told = r.fresh Fields.Name refl ∙ ap (list_any (has_text_for_field_whatever_letter Fields.Name)) done in
    let versioned : is_some (find (is_item_for Fields.Version) said) ≡ list_any (has_text_for_field_whatever_letter Fields.Version) told = r.fresh Fields.Version refl ∙ ap (list_any (has_text_for_field_whatever_letter Fields.Version)) done in
    let lacking : lacks_name_or_version told ≡ has_no_name_or_version said = ap (λ b. not b || not (list_any (has_text_for_field_whatever_letter Fields.Version) told)) (sym named) ∙ ap (λ b. not (is_some (find (is_item_for Fields.Name) said)) || not b) (sym versioned) in
    ap (λ t. unless_offence (first_offence_place_by_output_length_after t [] told) (cond (lacks_name_or_version told) (Err behind) (Ok (items_of_valid_options told)))) (sym e)
    ∙ (ap (λ o. unless_offence o (cond (lacks_name_or_version told) (Err behind) (Ok (items_of_valid_options told)))) (sym r.first)
    ∙ (ap (λ b. cond b (Err behind) (Ok (items_of_valid_options told))) lacking
    ∙ ap (λ s. cond (has_no_name_or_version said) (Err behind) (Ok s)) (ap items_of_valid_options (sym done) ∙ sym r.all)))

pub lacking_at : (values : List OptionValue) (behind : ℕ) (too_long : Bool) (said : List FieldWithValue) → too_long ≡ is_output_default_and_too_long values → IsReadTo too_long (values_of_info_options values) [] said → has_no_name_or_version said ≡ true → information_with_missing_reported_at_place values behind ≡ Err behind
lacking_at values behind too_long said e r l =
    all_read values behind too_long said e r ∙ ap (λ b. cond b (Err behind) (Ok said)) l

pub read_whole : (values : List OptionValue) (behind : ℕ) (too_long : Bool) (said : List FieldWithValue) → too_long ≡ is_output_default_and_too_long values → IsReadTo too_long (values_of_info_options values) [] said → has_no_name_or_version said ≡ false → information_with_missing_reported_at_place values behind ≡ Ok said
read_whole values behind too_long said e r l =
    all_read values behind too_long said e r ∙ ap (λ b. cond b (Err behind) (Ok said)) l
