-- The records of a text database make a normal value that has the shape of an installed database.
use Rattle.std.proofs.Common.{◌≡◌, ◌∙◌, ℕ, ◌+◌, Bool, true, false, List, [], ◌∷◌, ◌++◌, length, map, Option, Some, None, Result, Ok, Err, refl, sym, ap, subst}
use Rattle.std.specs.Prelude.{IfSome, ◌==◌, ◌&&◌, not, if◌then◌else◌, is_some, option_map, option_and_then}
use Rattle.std.specs.List.{find, flat_map}
use Rattle.std.specs.Option.{option_map_or}
use Rattle.std.proofs.lemmas.Bool.{eqb-true}
use Rattle.adb_view.specs.Schema.{shape_of}
use Rattle.adb_view.specs.declared.tables.Kind.TheVariants.{Obj}
use Rattle.adb_view.specs.declared.tables.Which.TheVariants as Tables
use Rattle.adb_view.specs.Plain.{Plain, Shape, null, int, blob_or_null, number as number_shape, hash as hash_shape, array}
use Rattle.engine_core.proofs.db_core.RootParts.{EachIn}
use Rattle.dep_core.specs.World.{lines_of}
use Rattle.make_core.specs.make_info.Fields.{TextNumberOrDependency}
use Rattle.make_core.specs.make_info.Information.{plain_value}
use Rattle.engine_core.specs.v2_core.Database.{array_or_null_of_list, array_of_field_values, listed_access_value, listed_file_value, listed_folder_value, listed_hash_value, record_info_value, record_value, value_of_single_line_field, value_of_first_or_null, value_of_line, database_value_of_records, values_if_line_of_field}
use Rattle.engine_core.specs.v2_core.Reading.{records_from_record_end, records_from_unfinished_record, records_of, records_followed_by, record_with_text_line}
use Rattle.engine_core.specs.v2_core.Records.{InfoLine, ListedFile, ListedFolder, Record, empty_record, listed_file_from_parts, file_with_access, file_with_hash, listed_folder_from_parts, folder_with_access, folder_with_file, folder_with_files, folder_with_last_file_changed, has_line_of_field, info_line_from_parts, is_line_of_field, lacks_name_or_version_line, record_if_both_parts, with_info_line, list_with_last_changed, with_path_line, with_record_line}
use Rattle.engine_core.specs.v2_core.Accesses.{Access}
use Rattle.engine_core.specs.v2_core.InfoFields.{is_list_info_field, grammar_of, info_field_among, info_fields, letter_of}
use Rattle.engine_core.specs.v2_core.Lines.{RecordLine, info_line, folder_line, folder_access_line, file_line, file_access_line, file_hash_line, other_line, record_line_of}
use Rattle.engine_core.specs.v2_core.declared.field.Grammar.{Grammar}
use Rattle.engine_core.specs.v2_core.declared.field.InfoField.{InfoField}
use Rattle.engine_core.specs.v2_core.declared.field.InfoField.TheVariants as InfoFields
use Rattle.definition_laws.proofs.roots.TextLines.{IsFit, IsGoodAccess, IsGoodLine, IsGoodRecordLine, IsOfGrammar, array_fit, hash_fit, if_each, int_fit, line_good, map_some, null_fit, object_fit, shape_for, text_fit}

-- ---- what is said so far

abbrev pub IsGoodAccessIfAny : Option Access → Type 0
IsGoodAccessIfAny None = Unit {0}
IsGoodAccessIfAny (Some a) = IsGoodAccess a

abbrev pub IsGoodFile : ListedFile → Type 0
IsGoodFile file = IsGoodAccessIfAny file.access

abbrev pub IsGoodFolder : ListedFolder → Type 0
IsGoodFolder folder = IsGoodAccessIfAny folder.access × EachIn IsGoodFile folder.files

abbrev pub IsGoodRecord : Record → Type 0
IsGoodRecord r = EachIn IsGoodLine r.info × EachIn IsGoodFolder r.folders

each_behind : {A : Type 0} (P : A → Type 0) (xs : List A) (x : A) → EachIn P xs → P x → EachIn P (xs ++ x ∷ [])
each_behind P [] x h g = (g, tt)
each_behind P (y ∷ xs) x h g = (h.0, each_behind P xs x h.1 g)

last_good : {A : Type 0} (P : A → Type 0) (change : A → Option A) → ((a : A) → P a → IfSome (change a) P) → (xs : List A) → EachIn P xs → IfSome (list_with_last_changed change xs) (EachIn P)
last_good P change f [] h = tt
last_good P change f (x ∷ []) h = map_some P (EachIn P) (λ y. y ∷ []) (change x) (λ y g. (g, tt)) (f x h.0)
last_good P change f (x ∷ y ∷ rest) h = map_some (EachIn P) (EachIn P) (λ rest. x ∷ rest) (list_with_last_changed change (y ∷ rest)) (λ ys g. (h.0, g)) (last_good P change f (y ∷ rest) h.1)

file_access_good : (a : Access) → IsGoodAccess a → (file : ListedFile) → IsGoodFile file → IfSome (file_with_access a file) IsGoodFile
file_access_good a h file g = if_each (λ o. IfSome o IsGoodFile) (is_some file.access) None (Some (listed_file_from_parts file.name (Some a) file.hash)) tt h

file_hash_good : (hash : List ℕ) (file : ListedFile) → IsGoodFile file → IfSome (file_with_hash hash file) IsGoodFile
file_hash_good hash file g = if_each (λ o. IfSome o IsGoodFile) (is_some file.hash) None (Some (listed_file_from_parts file.name file.access (Some hash))) tt g

folder_access_good : (a : Access) → IsGoodAccess a → (folder : ListedFolder) → IsGoodFolder folder → IfSome (folder_with_access a folder) IsGoodFolder
folder_access_good a h folder g = if_each (λ o. IfSome o IsGoodFolder) (is_some folder.access) None (Some (listed_folder_from_parts folder.name (Some a) folder.files)) tt (h, g.1)

folder_file_good : (name : List ℕ) (folder : ListedFolder) → IsGoodFolder folder → IfSome (folder_with_file name folder) IsGoodFolder
folder_file_good name folder g = (g.0, each_behind IsGoodFile folder.files (listed_file_from_parts name None None) g.1 tt)

folder_last_good : (change : ListedFile → Option ListedFile) → ((file : ListedFile) → IsGoodFile file → IfSome (change file) IsGoodFile) → (folder : ListedFolder) → IsGoodFolder folder → IfSome (folder_with_last_file_changed change folder) IsGoodFolder
folder_last_good change f folder g =
    map_some (EachIn IsGoodFile) IsGoodFolder (folder_with_files folder) (list_with_last_changed change folder.files) (λ files h. (g.0, h)) (last_good IsGoodFile change f folder.files g.1)

paths_good : (line : RecordLine) (folders : List ListedFolder) → IsGoodRecordLine line → EachIn IsGoodFolder folders → IfSome (with_path_line line folders) (EachIn IsGoodFolder)
paths_good (info_line f values) folders h g = g
paths_good (folder_line name) folders h g = each_behind IsGoodFolder folders (listed_folder_from_parts name None []) g (tt, tt)
paths_good (folder_access_line a) folders h g = last_good IsGoodFolder (folder_with_access a) (folder_access_good a h) folders g
paths_good (file_line name) folders h g = last_good IsGoodFolder (folder_with_file name) (folder_file_good name) folders g
paths_good (file_access_line a) folders h g = last_good IsGoodFolder (folder_with_last_file_changed (file_with_access a)) (folder_last_good (file_with_access a) (file_access_good a h)) folders g
paths_good (file_hash_line hash) folders h g = last_good IsGoodFolder (folder_with_last_file_changed (file_with_hash hash)) (folder_last_good (file_with_hash hash) (file_hash_good hash)) folders g
paths_good other_line folders h g = g

infos_good : (line : RecordLine) (info : List InfoLine) → IsGoodRecordLine line → EachIn IsGoodLine info → IfSome (with_info_line line info) (EachIn IsGoodLine)
infos_good (info_line f values) info h g =
    if_each (λ o. IfSome o (EachIn IsGoodLine)) (not (is_list_info_field f) && has_line_of_field f info) None (Some (info ++ info_line_from_parts f values ∷ [])) tt (each_behind IsGoodLine info (info_line_from_parts f values) g h)
infos_good (folder_line name) info h g = g
infos_good (folder_access_line a) info h g = g
infos_good (file_line name) info h g = g
infos_good (file_access_line a) info h g = g
infos_good (file_hash_line hash) info h g = g
infos_good other_line info h g = g

parts_good : (info : Option (List InfoLine)) (folders : Option (List ListedFolder)) → IfSome info (EachIn IsGoodLine) → IfSome folders (EachIn IsGoodFolder) → IfSome (record_if_both_parts info folders) IsGoodRecord
parts_good None folders h g = tt
parts_good (Some info) None h g = tt
parts_good (Some info) (Some folders) h g = (h, g)

next_good : (r : Record) (line : Option RecordLine) → IsGoodRecord r → IfSome line IsGoodRecordLine → IfSome (option_and_then (with_record_line r) line) IsGoodRecord
next_good r None h g = tt
next_good r (Some line) h g = parts_good (with_info_line line r.info) (with_path_line line r.folders) (infos_good line r.info g h.0) (paths_good line r.folders g h.1)

-- ---- all records

abbrev pub AreGoodIfRead : Result (List Record) ℕ → Type 0
AreGoodIfRead (Ok records) = EachIn IsGoodRecord records
AreGoodIfRead (Err line) = Unit {0}

joined_good : (r : Record) (others : Result (List Record) ℕ) → IsGoodRecord r → AreGoodIfRead others → AreGoodIfRead (records_followed_by (r ∷ []) others)
joined_good r (Ok others) h g = (h, g)
joined_good r (Err line) h g = tt

end_good : (lines : ℕ) (r : Record) (others : Result (List Record) ℕ) → IsGoodRecord r → AreGoodIfRead others → AreGoodIfRead (records_from_record_end lines r others)
end_good lines r others h g =
    if_each AreGoodIfRead r.has_line _ others (if_each AreGoodIfRead (lacks_name_or_version_line r.info) (Err lines) (records_followed_by (r ∷ []) others) tt (joined_good r others h g)) g

from_good : (lines : List (List ℕ)) (before : ℕ) (r : Record) → IsGoodRecord r → AreGoodIfRead (records_from_unfinished_record before r lines)
from_good [] before r h = end_good before r (Ok []) h tt
from_good (line ∷ lines) before r h =
    if_each AreGoodIfRead (length line == 0) (records_from_record_end before r (records_from_unfinished_record (before + 1) empty_record lines)) _
    (end_good before r (records_from_unfinished_record (before + 1) empty_record lines) h (from_good lines (before + 1) empty_record (tt, tt)))
    (by_next (record_with_text_line r line) (next_good r (record_line_of line) h (line_good line)) (from_good lines (before + 1)))
  where
    by_next : (o : Option Record) → IfSome o IsGoodRecord → ((next : Record) → IsGoodRecord next → AreGoodIfRead (records_from_unfinished_record (before + 1) next lines))
        → AreGoodIfRead (option_map_or (λ next. records_from_unfinished_record (before + 1) next lines) o (Err (before + 1)))
    by_next None h f = tt
    by_next (Some next) h f = f next h

pub records_good : (text : List ℕ) → AreGoodIfRead (records_of text)
unfolding records_of
records_good text = from_good (lines_of text) 0 empty_record (tt, tt)

-- ---- the information

-- two fields with one letter have one grammar
grammar_by_letter : ℕ → Option Grammar
grammar_by_letter letter = option_map grammar_of (info_field_among info_fields letter)

by_letter : (f : InfoField) → grammar_by_letter (letter_of f) ≡ Some (grammar_of f)
unfolding grammar_by_letter
by_letter InfoFields.Hashes = refl
by_letter InfoFields.Name = refl
by_letter InfoFields.Version = refl
by_letter InfoFields.Arch = refl
by_letter InfoFields.Description = refl
by_letter InfoFields.Url = refl
by_letter InfoFields.License = refl
by_letter InfoFields.Origin = refl
by_letter InfoFields.Maintainer = refl
by_letter InfoFields.InstalledSize = refl
by_letter InfoFields.BuildTime = refl
by_letter InfoFields.ProviderPriority = refl
by_letter InfoFields.ReplacesPriority = refl
by_letter InfoFields.RepoCommit = refl
by_letter InfoFields.Depends = refl
by_letter InfoFields.Provides = refl
by_letter InfoFields.Replaces = refl
by_letter InfoFields.InstallIf = refl

some_same : {X : Type 0} (x y : X) → Some x ≡ Some y → x ≡ y
some_same x y e = (cc)

same_grammar : (f : InfoField) (line : InfoLine) → is_line_of_field f line ≡ true → grammar_of line.field ≡ grammar_of f
same_grammar f line e =
    some_same (grammar_of line.field) (grammar_of f)
    (sym (by_letter line.field) ∙ (ap grammar_by_letter (eqb-true (letter_of line.field) (letter_of f) e) ∙ by_letter f))

first_fit : (g : Grammar) (values : List TextNumberOrDependency) → EachIn (IsOfGrammar g) values → IsFit (shape_for g) (value_of_first_or_null values)
first_fit g [] h = null_fit (shape_for g)
first_fit g (v ∷ vs) h = h.0

line_fit : (f : InfoField) (line : InfoLine) → is_line_of_field f line ≡ true → IsGoodLine line → EachIn (IsOfGrammar (grammar_of f)) line.values
line_fit f line e h = subst (λ (g : Grammar). EachIn (IsOfGrammar g) line.values) (same_grammar f line e) h

single_fit : (f : InfoField) (info : List InfoLine) → EachIn IsGoodLine info → IsFit (shape_for (grammar_of f)) (value_of_single_line_field f info)
single_fit f [] h = null_fit (shape_for (grammar_of f))
single_fit f (line ∷ info) h = by_test (is_line_of_field f line) refl (single_fit f info h.1)
  where
    by_test : (b : Bool) → is_line_of_field f line ≡ b → IsFit (shape_for (grammar_of f)) (value_of_line (find (is_line_of_field f) info))
        → IsFit (shape_for (grammar_of f)) (value_of_line (if b then Some line else find (is_line_of_field f) info))
    by_test true e rest = first_fit (grammar_of f) line.values (line_fit f line e h.0)
    by_test false e rest = rest

each_append : {A : Type 0} (P : A → Type 0) (xs ys : List A) → EachIn P xs → EachIn P ys → EachIn P (xs ++ ys)
each_append P [] ys h g = g
each_append P (x ∷ xs) ys h g = (h.0, each_append P xs ys h.1 g)

each_plain : (g : Grammar) (values : List TextNumberOrDependency) → EachIn (IsOfGrammar g) values → EachIn (IsFit (shape_for g)) (map plain_value values)
each_plain g [] h = tt
each_plain g (v ∷ vs) h = (h.0, each_plain g vs h.1)

all_values : (f : InfoField) (info : List InfoLine) → EachIn IsGoodLine info → EachIn (IsOfGrammar (grammar_of f)) (flat_map (values_if_line_of_field f) info)
all_values f [] h = tt
all_values f (line ∷ info) h =
    each_append (IsOfGrammar (grammar_of f)) (values_if_line_of_field f line) (flat_map (values_if_line_of_field f) info) (by_test (is_line_of_field f line) refl) (all_values f info h.1)
  where
    by_test : (b : Bool) → is_line_of_field f line ≡ b → EachIn (IsOfGrammar (grammar_of f)) (if b then line.values else [])
    by_test true e = line_fit f line e h.0
    by_test false e = tt

joined_fit : (f : InfoField) (info : List InfoLine) → EachIn IsGoodLine info → IsFit (array (shape_for (grammar_of f))) (array_of_field_values f info)
joined_fit f info h = array_fit (shape_for (grammar_of f)) (map plain_value (flat_map (values_if_line_of_field f) info)) (each_plain (grammar_of f) (flat_map (values_if_line_of_field f) info) (all_values f info h))

info_fit : (info : List InfoLine) → EachIn IsGoodLine info → IsFit (shape_of (Obj Tables.PkgInfo)) (record_info_value info)
unfolding shape_of record_info_value
info_fit info h =
    object_fit 3 _
    (value_of_single_line_field InfoFields.Name info ∷ value_of_single_line_field InfoFields.Version info ∷ value_of_single_line_field InfoFields.Hashes info ∷ value_of_single_line_field InfoFields.Description info ∷ value_of_single_line_field InfoFields.Arch info ∷ value_of_single_line_field InfoFields.License info ∷ value_of_single_line_field InfoFields.Origin info ∷ value_of_single_line_field InfoFields.Maintainer info ∷ value_of_single_line_field InfoFields.Url info ∷ value_of_single_line_field InfoFields.RepoCommit info ∷ value_of_single_line_field InfoFields.BuildTime info ∷ value_of_single_line_field InfoFields.InstalledSize info ∷ null ∷ value_of_single_line_field InfoFields.ProviderPriority info ∷ array_of_field_values InfoFields.Depends info ∷ array_of_field_values InfoFields.Provides info ∷ array_of_field_values InfoFields.Replaces info ∷ array_of_field_values InfoFields.InstallIf info ∷ []) (
      single_fit InfoFields.Name info h,
      (
        single_fit InfoFields.Version info h,
        (
          single_fit InfoFields.Hashes info h,
          (
            single_fit InfoFields.Description info h,
            (
              single_fit InfoFields.Arch info h,
              (
                single_fit InfoFields.License info h,
                (
                  single_fit InfoFields.Origin info h,
                  (
                    single_fit InfoFields.Maintainer info h,
                    (
                      single_fit InfoFields.Url info h,
                      (
                        single_fit InfoFields.RepoCommit info h,
                        (
                          single_fit InfoFields.BuildTime info h,
                          (
                            single_fit InfoFields.InstalledSize info h,
                            (
                              null_fit number_shape,
                              (
                                single_fit InfoFields.ProviderPriority info h,
                                (
                                  joined_fit InfoFields.Depends info h,
                                  (joined_fit InfoFields.Provides info h, (joined_fit InfoFields.Replaces info h, (joined_fit InfoFields.InstallIf info h, tt))),
                                ),
                              ),
                            ),
                          ),
                        ),
                      ),
                    ),
                  ),
                ),
              ),
            ),
          ),
        ),
      ),
    )

-- ---- folders, files and packages

access_fit : (a : Option Access) → IsGoodAccessIfAny a → IsFit (shape_of (Obj Tables.Acl)) (listed_access_value a)
unfolding shape_of
access_fit None h = null_fit _
access_fit (Some a) h = object_fit 2 _ (int a.mode ∷ blob_or_null a.user ∷ blob_or_null a.group ∷ []) (int_fit a.mode h, (text_fit a.user, (text_fit a.group, tt)))

hash_value_fit : (hash : Option (List ℕ)) → IsFit hash_shape (listed_hash_value hash)
hash_value_fit None = null_fit hash_shape
hash_value_fit (Some hash) = hash_fit hash

file_fit : (file : ListedFile) → IsGoodFile file → IsFit (shape_of (Obj Tables.File)) (listed_file_value file)
unfolding shape_of
file_fit file h =
    object_fit 4 _ (blob_or_null file.name ∷ listed_access_value file.access ∷ null ∷ null ∷ listed_hash_value file.hash ∷ [])
    (text_fit file.name, (access_fit file.access h, (null_fit number_shape, (null_fit number_shape, (hash_value_fit file.hash, tt)))))

map_fit : {A : Type 0} (P : A → Type 0) (s : Shape) (f : A → Plain) → ((a : A) → P a → IsFit s (f a)) → (xs : List A) → EachIn P xs → EachIn (IsFit s) (map f xs)
map_fit P s f g [] h = tt
map_fit P s f g (x ∷ xs) h = (g x h.0, map_fit P s f g xs h.1)

folder_fit : (folder : ListedFolder) → IsGoodFolder folder → IsFit (shape_of (Obj Tables.Dir)) (listed_folder_value folder)
unfolding shape_of
folder_fit folder h =
    object_fit 5 _ (blob_or_null folder.name ∷ listed_access_value folder.access ∷ array_or_null_of_list (map listed_file_value folder.files) ∷ [])
    (text_fit folder.name, (access_fit folder.access h.0, (array_fit (shape_of (Obj Tables.File)) (map listed_file_value folder.files) (map_fit IsGoodFile (shape_of (Obj Tables.File)) listed_file_value file_fit folder.files h.1), tt)))

record_fit : (r : Record) → IsGoodRecord r → IsFit (shape_of (Obj Tables.Package)) (record_value r)
unfolding shape_of
record_fit r h =
    object_fit 7 _ (record_info_value r.info ∷ array_or_null_of_list (map listed_folder_value r.folders) ∷ null ∷ null ∷ value_of_single_line_field InfoFields.ReplacesPriority r.info ∷ []) (
      info_fit r.info h.0,
      (
        array_fit (shape_of (Obj Tables.Dir)) (map listed_folder_value r.folders) (map_fit IsGoodFolder (shape_of (Obj Tables.Dir)) listed_folder_value folder_fit r.folders h.1),
        (null_fit _, (null_fit _, (single_fit InfoFields.ReplacesPriority r.info h.0, tt))),
      ),
    )

pub records_fit : (records : List Record) → EachIn IsGoodRecord records → IsFit (shape_of (Obj Tables.Idb)) (database_value_of_records records)
unfolding shape_of
records_fit records h = object_fit 9 _ (array_or_null_of_list (map record_value records) ∷ []) (array_fit (shape_of (Obj Tables.Package)) (map record_value records) (map_fit IsGoodRecord (shape_of (Obj Tables.Package)) record_value record_fit records h), tt)
