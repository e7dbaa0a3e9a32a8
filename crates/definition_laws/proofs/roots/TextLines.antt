-- What the lines of a text database say makes normal values of the shapes of their fields.
use Rattle.std.proofs.Common.{◌≡◌, ℕ, ◌<◌, ◌^◌, Bool, true, false, List, [], ◌∷◌, Option, Some, None, Result, Ok, Err, refl, arith}
use Rattle.std.specs.Prelude.{IfSome, ◌==◌, ◌&&◌, if◌then◌else◌, is_some, nat_lt, option_map, option_and_then, unwrap_or}
use Rattle.std.proofs.lemmas.Bool.{and_parts, ltb-true}
use Rattle.adb_view.specs.Schema.{shape_of}
use Rattle.adb_view.specs.declared.tables.Kind.TheVariants.{Obj}
use Rattle.adb_view.specs.declared.tables.Which.TheVariants as Tables
use Rattle.adb_view.specs.Plain.{Plain, Shape, Fields, null, int, blob_or_null, number as number_shape, text as text_shape, hash as hash_shape, array, object, no_fields, field, IsNormal, AreNormal}
use Rattle.adb_view.specs.Shaped.{Each, HasShape, HaveShapes}
use Rattle.adb_view.proofs.FoundShapes.{arr_value_shape, blob_value_text, obj_value_shape}
use Rattle.adb_view.proofs.Normal.{arr_normal, blob_value_normal, obj_normal}
use Rattle.engine_core.proofs.db_core.RootParts.{EachIn}
use Rattle.dep_core.specs.Dependency.{Dependency, is_dependency_name_by_bytes_and_length}
use Rattle.dep_core.specs.DependencyText.{IsDependency, is_constraint_or_none, is_tag_or_none, operator_text}
use Rattle.dep_core.specs.Reading.{dependency_of}
use Rattle.dep_core.specs.Value.{match_number_of}
use Rattle.dep_core.proofs.Operators.{each_operator}
use Rattle.dep_core.proofs.ReadOut.{read-out}
use Rattle.version_core.specs.Order.{is_version}
use Rattle.dep_core.specs.Dependency.{is_package_name}
use Rattle.command_core.specs.Operands.{is_decimal_without_leading_zeros}
use Rattle.hex.specs.Hex.{decode_of as hex_bytes}
use Rattle.hex.specs.declared.error.FromHexError.{FromHexError}
use Rattle.std.specs.Str.Parse.{digits_value}
use Rattle.make_core.specs.make_info.Fields.{TextNumberOrDependency, need, dependency_value_and_others, decimal_number_without_leading_zeros, dependency_if_untagged, untagged_dependency_in, dependency_values_of_parts, nonempty_parts_between_spaces, text_value_if}
use Rattle.make_core.specs.make_info.Information.{plain_value}
use Rattle.make_core.specs.make_info.Values.{number_or_null, plains_of_list}
use Rattle.engine_core.specs.v2_core.Database.{array_or_null_of_list, trimmed_object_or_null_of_list}
use Rattle.engine_core.specs.v2_core.Records.{InfoLine, info_line_from_parts}
use Rattle.engine_core.specs.v2_core.Accesses.{Access, access_from_parts, access_in, before_colon, after_colon, is_uid_or_gid, is_octal, octal_number}
use Rattle.engine_core.specs.v2_core.InfoFields.{field_of_letter, grammar_of}
use Rattle.engine_core.specs.v2_core.InfoValues.{commit_values, list_of_one_number_value, list_of_one_text_value, sha1_in_text, values_under_grammar}
use Rattle.engine_core.specs.v2_core.Lines.{RecordLine, info_line, folder_line, folder_access_line, file_line, file_access_line, file_hash_line, other_line, file_line_if_one_part, folder_line_if_path, info_line_or_skipped_if_no_field, record_line_or_skipped_if_letter_unknown, record_line_of}
use Rattle.engine_core.specs.v2_core.declared.field.Grammar.{Grammar}
use Rattle.engine_core.specs.v2_core.declared.field.Grammar.TheVariants as Grammars
use Rattle.engine_core.specs.v2_core.declared.field.InfoField.{InfoField}
use Rattle.make_core.specs.adb_schema.Rules.{is_folder_name, is_one_part}

-- ---- values that fit a field

abbrev pub IsFit : Shape → Plain → Type 0
IsFit s v = IsNormal v × HasShape s v

pub null_fit : (s : Shape) → IsFit s null
unfolding IsNormal HasShape
null_fit number_shape = (tt, tt)
null_fit text_shape = (tt, tt)
null_fit hash_shape = (tt, tt)
null_fit (array s) = (tt, tt)
null_fit (object n fs) = (tt, tt)

pub text_fit : (b : List ℕ) → IsFit text_shape (blob_or_null b)
text_fit b = (blob_value_normal b, blob_value_text b)

pub hash_fit : (b : List ℕ) → IsFit hash_shape (blob_or_null b)
unfolding HasShape
hash_fit [] = (blob_value_normal [], tt)
hash_fit (x ∷ b) = (blob_value_normal (x ∷ b), tt)

pub int_fit : (n : ℕ) → n < 2 ^ 64 → IsFit number_shape (int n)
unfolding IsNormal HasShape
int_fit n small = (small, tt)

abbrev pub HaveFit : Fields → List Plain → Type 0
HaveFit no_fields [] = Unit {0}
HaveFit no_fields (v ∷ vs) = ⊥
HaveFit (field name s fs) [] = Unit {0}
HaveFit (field name s fs) (v ∷ vs) = IsFit s v × HaveFit fs vs

have_shapes : (fs : Fields) (vs : List Plain) → HaveFit fs vs → HaveShapes fs (plains_of_list vs)
unfolding HasShape
have_shapes no_fields [] h = tt
have_shapes no_fields (v ∷ vs) h = absurd h
have_shapes (field name s fs) [] h = tt
have_shapes (field name s fs) (v ∷ vs) h = (h.0.1, have_shapes fs vs h.1)

have_normal : (fs : Fields) (vs : List Plain) → HaveFit fs vs → AreNormal (plains_of_list vs)
unfolding IsNormal
have_normal no_fields [] h = tt
have_normal no_fields (v ∷ vs) h = absurd h
have_normal (field name s fs) [] h = tt
have_normal (field name s fs) (v ∷ vs) h = (h.0.0, have_normal fs vs h.1)

pub object_fit : (n : ℕ) (fs : Fields) (vs : List Plain) → HaveFit fs vs → IsFit (object n fs) (trimmed_object_or_null_of_list vs)
object_fit n fs vs h = (obj_normal (plains_of_list vs) (have_normal fs vs h), obj_value_shape n fs (plains_of_list vs) (have_shapes fs vs h))

each_shape : (s : Shape) (vs : List Plain) → EachIn (IsFit s) vs → Each (HasShape s) (plains_of_list vs)
each_shape s [] h = tt
each_shape s (v ∷ vs) h = (h.0.1, each_shape s vs h.1)

each_normal : (s : Shape) (vs : List Plain) → EachIn (IsFit s) vs → AreNormal (plains_of_list vs)
unfolding IsNormal
each_normal s [] h = tt
each_normal s (v ∷ vs) h = (h.0.0, each_normal s vs h.1)

pub array_fit : (s : Shape) (vs : List Plain) → EachIn (IsFit s) vs → IsFit (array s) (array_or_null_of_list vs)
array_fit s vs h = (arr_normal (plains_of_list vs) (each_normal s vs h), arr_value_shape s (plains_of_list vs) (each_shape s vs h))

-- ---- a dependency

abbrev IsSmallIfAny : Option ℕ → Type 0
IsSmallIfAny None = Unit {0}
IsSmallIfAny (Some n) = n < 2 ^ 64

small_bits : (bits : ℕ) → is_some (operator_text bits) ≡ true → bits < 16
small_bits bits e =
    each_operator (λ n. n < 16) (omega arith) (omega arith) (omega arith) (omega arith) (omega arith) (omega arith) (omega arith) (omega arith) bits e

small_matching : (version : Option (List ℕ)) (bits : ℕ) (conflict : Bool) → is_constraint_or_none version bits ≡ true → IsSmallIfAny (match_number_of version bits conflict)
small_matching None bits true h = (omega arith)
small_matching None bits false h = tt
small_matching (Some version) bits true h =
    let small = small_bits bits (and_parts (is_version version) (is_some (operator_text bits)) h).1 in omega (arith, small)
small_matching (Some version) bits false h = by_test (bits == 1)
  where
    by_test : (b : Bool) → IsSmallIfAny (if b then None else Some bits)
    by_test true = tt
    by_test false = let small = small_bits bits (and_parts (is_version version) (is_some (operator_text bits)) h).1 in omega (arith, small)

matching_fit : (o : Option ℕ) → IsSmallIfAny o → IsFit number_shape (number_or_null o)
matching_fit None h = null_fit number_shape
matching_fit (Some n) h = int_fit n h

need_fit : (d : Dependency) → IsDependency d → IsFit (shape_of (Obj Tables.Dep)) (plain_value (need d))
unfolding shape_of
need_fit d h =
    let parts = and_parts (is_dependency_name_by_bytes_and_length d.name && is_constraint_or_none d.version d.bits) (is_tag_or_none d.tag) h in
    let limit = and_parts (is_dependency_name_by_bytes_and_length d.name) (is_constraint_or_none d.version d.bits) parts.0 in
    object_fit 1 _ (blob_or_null d.name ∷ blob_or_null (unwrap_or d.version []) ∷ number_or_null (match_number_of d.version d.bits d.conflict) ∷ [])
    (text_fit d.name, (text_fit (unwrap_or d.version []), (matching_fit (match_number_of d.version d.bits d.conflict) (small_matching d.version d.bits d.conflict limit.1), tt)))

-- ---- what a line says of a field

abbrev pub shape_for : Grammar → Shape
shape_for Grammars.Sha1Text = hash_shape
shape_for Grammars.PackageName = text_shape
shape_for Grammars.PackageVersion = text_shape
shape_for Grammars.AnyText = text_shape
shape_for Grammars.Number = number_shape
shape_for Grammars.Commit = hash_shape
shape_for Grammars.Dependencies = shape_of (Obj Tables.Dep)

abbrev pub IsOfGrammar : Grammar → TextNumberOrDependency → Type 0
IsOfGrammar g x = IsFit (shape_for g) (plain_value x)

abbrev pub IsGoodLine : InfoLine → Type 0
IsGoodLine line = EachIn (IsOfGrammar (grammar_of line.field)) line.values

pub map_some : {A B : Type 0} (P : A → Type 0) (Q : B → Type 0) (f : A → B) (o : Option A) → ((a : A) → P a → Q (f a)) → IfSome o P → IfSome (option_map f o) Q
map_some P Q f None h g = tt
map_some P Q f (Some a) h g = h a g

pub if_each : {A : Type 0} (P : A → Type 0) (b : Bool) (x y : A) → P x → P y → P (if b then x else y)
if_each P true x y h g = h
if_each P false x y h g = g

any : {A : Type 0} (P : A → Type 0) (o : Option A) → ((a : A) → P a) → IfSome o P
any P None h = tt
any P (Some a) h = h a

text_good : (b : Bool) (value : List ℕ) → IfSome (text_value_if b value) (EachIn (λ x. IsFit text_shape (plain_value x)))
text_good true value = (text_fit value, tt)
text_good false value = tt

number_good : (value : List ℕ) → IfSome (decimal_number_without_leading_zeros value) (λ n. n < 2 ^ 64)
number_good value = by_test (is_decimal_without_leading_zeros value) (nat_lt (digits_value 10 value) (2 ^ 64)) refl
  where
    by_test : (a b : Bool) → nat_lt (digits_value 10 value) (2 ^ 64) ≡ b → IfSome (if a && b then Some (digits_value 10 value) else None) (λ n. n < 2 ^ 64)
    by_test true true e = ltb-true (digits_value 10 value) (2 ^ 64) e
    by_test true false e = tt
    by_test false b e = tt

commit_good : (r : Result (List ℕ) FromHexError) → EachIn (IsOfGrammar Grammars.Commit) (commit_values r)
commit_good (Ok bytes) = (hash_fit bytes, tt)
commit_good (Err e) = tt

untagged_good : (d : Dependency) → IsDependency d → IfSome (dependency_if_untagged d) IsDependency
untagged_good d h = by_tag (is_some d.tag)
  where
    by_tag : (b : Bool) → IfSome (if b then None else Some d) IsDependency
    by_tag true = tt
    by_tag false = h

need_good : (part : List ℕ) → IfSome (untagged_dependency_in part) IsDependency
need_good part = by_read (dependency_of part) refl
  where
    by_read : (o : Option Dependency) → dependency_of part ≡ o → IfSome (option_and_then dependency_if_untagged o) IsDependency
    by_read None e = tt
    by_read (Some d) e = untagged_good d (read-out part d e).0

needs_good : (parts : List (List ℕ)) → IfSome (dependency_values_of_parts parts) (EachIn (IsOfGrammar Grammars.Dependencies))
needs_good [] = tt
needs_good (part ∷ parts) = both (untagged_dependency_in part) (dependency_values_of_parts parts) (need_good part) (needs_good parts)
  where
    both : (d : Option Dependency) (others : Option (List TextNumberOrDependency)) → IfSome d IsDependency → IfSome others (EachIn (IsOfGrammar Grammars.Dependencies))
        → IfSome (dependency_value_and_others d others) (EachIn (IsOfGrammar Grammars.Dependencies))
    both None others h g = tt
    both (Some d) None h g = tt
    both (Some d) (Some others) h g = (need_fit d h, g)

values_good : (g : Grammar) (value : List ℕ) → IfSome (values_under_grammar g value) (EachIn (IsOfGrammar g))
values_good Grammars.Sha1Text value =
    map_some (λ b. IsFit hash_shape (blob_or_null b)) (EachIn (IsOfGrammar Grammars.Sha1Text)) list_of_one_text_value (sha1_in_text value) (λ b h. (h, tt)) (any (λ b. IsFit hash_shape (blob_or_null b)) (sha1_in_text value) hash_fit)
values_good Grammars.PackageName value = text_good (is_package_name value) value
values_good Grammars.PackageVersion value = text_good (is_version value) value
values_good Grammars.AnyText value = text_good true value
values_good Grammars.Number value =
    map_some (λ n. n < 2 ^ 64) (EachIn (IsOfGrammar Grammars.Number)) list_of_one_number_value (decimal_number_without_leading_zeros value) (λ n h. (int_fit n h, tt)) (number_good value)
values_good Grammars.Commit value = commit_good (hex_bytes value)
values_good Grammars.Dependencies value = needs_good (nonempty_parts_between_spaces value)

-- ---- whose a file or a folder is

abbrev pub IsGoodAccess : Access → Type 0
IsGoodAccess a = a.mode < 2 ^ 64

octal_good : (digits : List ℕ) → IfSome (octal_number digits) (λ n. n < 2 ^ 64)
octal_good digits = by_test (is_octal digits) (nat_lt (digits_value 8 digits) (2 ^ 64)) refl
  where
    by_test : (a b : Bool) → nat_lt (digits_value 8 digits) (2 ^ 64) ≡ b → IfSome (if a && b then Some (digits_value 8 digits) else None) (λ n. n < 2 ^ 64)
    by_test true true e = ltb-true (digits_value 8 digits) (2 ^ 64) e
    by_test true false e = tt
    by_test false b e = tt

access_good : (value : List ℕ) → IfSome (access_in value) IsGoodAccess
access_good value =
    if_each (λ o. IfSome o IsGoodAccess) (is_uid_or_gid (before_colon value) && is_uid_or_gid (before_colon (after_colon value))) _ None
    (map_some (λ n. n < 2 ^ 64) IsGoodAccess (access_from_parts (before_colon value) (before_colon (after_colon value))) (octal_number (before_colon (after_colon (after_colon value)))) (λ n h. h)
    (octal_good (before_colon (after_colon (after_colon value))))) tt

-- ---- a line

abbrev pub IsGoodRecordLine : RecordLine → Type 0
IsGoodRecordLine (info_line f values) = IsGoodLine (info_line_from_parts f values)
IsGoodRecordLine (folder_line name) = Unit {0}
IsGoodRecordLine (folder_access_line a) = IsGoodAccess a
IsGoodRecordLine (file_line name) = Unit {0}
IsGoodRecordLine (file_access_line a) = IsGoodAccess a
IsGoodRecordLine (file_hash_line hash) = Unit {0}
IsGoodRecordLine other_line = Unit {0}

abbrev IsGoodIfAny : Option RecordLine → Type 0
IsGoodIfAny o = IfSome o IsGoodRecordLine

info_good : (f : Option InfoField) (value : List ℕ) → IsGoodIfAny (info_line_or_skipped_if_no_field f value)
info_good None value = tt
info_good (Some f) value =
    map_some (EachIn (IsOfGrammar (grammar_of f))) IsGoodRecordLine (info_line f) (values_under_grammar (grammar_of f) value) (λ values h. h) (values_good (grammar_of f) value)

-- what the letters F, M, R, a and Z say, and each other one
abbrev line_by_other : ℕ → List ℕ → Option RecordLine
line_by_other letter value = info_line_or_skipped_if_no_field (field_of_letter letter) value

abbrev line_by_hash : ℕ → List ℕ → Option RecordLine
line_by_hash letter value = if letter == 90 then option_map file_hash_line (sha1_in_text value) else line_by_other letter value

abbrev line_by_file_access : ℕ → List ℕ → Option RecordLine
line_by_file_access letter value = if letter == 97 then option_map file_access_line (access_in value) else line_by_hash letter value

abbrev line_by_file : ℕ → List ℕ → Option RecordLine
line_by_file letter value = if letter == 82 then file_line_if_one_part value else line_by_file_access letter value

abbrev line_by_folder_access : ℕ → List ℕ → Option RecordLine
line_by_folder_access letter value = if letter == 77 then option_map folder_access_line (access_in value) else line_by_file letter value

by_letter_good : (letter : ℕ) (value : List ℕ) → IsGoodIfAny (record_line_or_skipped_if_letter_unknown letter value)
unfolding record_line_or_skipped_if_letter_unknown
by_letter_good letter value =
    if_each IsGoodIfAny (letter == 70) (folder_line_if_path value) (line_by_folder_access letter value) (if_each IsGoodIfAny (is_folder_name value) (Some (folder_line value)) None tt tt)
    (if_each IsGoodIfAny (letter == 77) (option_map folder_access_line (access_in value)) (line_by_file letter value) (map_some IsGoodAccess IsGoodRecordLine folder_access_line (access_in value) (λ a h. h) (access_good value))
    (if_each IsGoodIfAny (letter == 82) (file_line_if_one_part value) (line_by_file_access letter value) (if_each IsGoodIfAny (is_one_part value) (Some (file_line value)) None tt tt)
    (if_each IsGoodIfAny (letter == 97) (option_map file_access_line (access_in value)) (line_by_hash letter value) (map_some IsGoodAccess IsGoodRecordLine file_access_line (access_in value) (λ a h. h) (access_good value))
    (if_each IsGoodIfAny (letter == 90) (option_map file_hash_line (sha1_in_text value)) (line_by_other letter value) (map_some (λ b. Unit {0}) IsGoodRecordLine file_hash_line (sha1_in_text value) (λ b h. tt) (any (λ b. Unit {0}) (sha1_in_text value) (λ b. tt)))
    (info_good (field_of_letter letter) value)))))

pub line_good : (line : List ℕ) → IsGoodIfAny (record_line_of line)
line_good [] = tt
line_good (letter ∷ []) = tt
line_good (letter ∷ mark ∷ value) = if_each IsGoodIfAny (mark == 58) (record_line_or_skipped_if_letter_unknown letter value) None (by_letter_good letter value) tt
