-- Which lines are dropped, and what no letter gives.
use Rattle.std.proofs.Common.{◌≡◌, inl, inr, ◌∙◌, ℕ, Bool, true, false, cond, not, List, [], ◌∷◌, map, Option, Some, None, refl, ap, sym, subst}
use Rattle.std.specs.Prelude.{codes, ◌==◌, if◌then◌else◌, option_map}
use Rattle.std.proofs.lemmas.Bool.{eqb-true}
use Rattle.change_outcome.specs.adb_fields.Repeated.{list_of}
use Rattle.adb_view.specs.Plain.{Plain, null}
use Rattle.adb_view.specs.Values.{entries_in}
use Rattle.adb_view.proofs.ValueEntries.{entries_arr, nth_obj}
use Rattle.change_outcome.specs.make_info.Values.{plains_of_list}
use Rattle.change_outcome.specs.v2_core.InfoFields.{field_of_letter, grammar_of, info_field_among, info_fields, letter_of}
use Rattle.change_outcome.specs.v2_core.InfoValues.{sha1_in_text, values_under_grammar}
use Rattle.change_outcome.specs.v2_core.Lines.{RecordLine, info_line, folder_line, folder_access_line, file_line, file_access_line, file_hash_line, other_line, folder_line_if_path, file_line_if_one_part, info_line_or_skipped_if_no_field, record_line_or_skipped_if_letter_unknown, record_line_of}
use Rattle.change_outcome.specs.v2_core.Accesses.{access_in}
use Rattle.change_outcome.specs.v2_core.declared.field.InfoField.{InfoField}
use Rattle.change_outcome.specs.v2_core.declared.field.InfoField.TheVariants as Letters
use Rattle.change_outcome.specs.v2_core.Database.{record_value}
use Rattle.change_outcome.specs.v2_core.Records.{Record}
use Rattle.tell_core.specs.adb_schema.Rules.{is_folder_name, is_one_part}
use Rattle.adb_view.specs.Plain.{Plains}
use Rattle.adb_view.specs.declared.tables.Which.TheVariants.{Package, PkgInfo}
use Rattle.definition_laws.specs.making.NamedFields.{field_named}
use Rattle.change_outcome.specs.v2_core.Database.{array_or_null_of_list}
use Rattle.definition_laws.proofs.answers.LetterValues.{by_letter}
use Rattle.std.proofs.Common.{◌↔◌}
use Rattle.std.proofs.lemmas.Bool.{ne_eqb}
use Rattle.base_core.specs.Lists.{IsIn}
use Rattle.adb_view.specs.declared.tables.Which.TheVariants.{File, Idb}
use Rattle.definition_laws.specs.making.NamedFields.{entries_of_field_named}
use Rattle.change_outcome.specs.v2_core.Database.{listed_access_value, listed_file_value, listed_hash_value, database_value_of_records}
use Rattle.change_outcome.specs.v2_core.Records.{ListedFile}
use Rattle.adb_view.specs.Plain.{blob_or_null}
use Rattle.definition_laws.specs.answers.TextLetters.{BeginsWithUnlistedLetterAndColon, known_line_letters}
use Rattle.make_core.proofs.PackageFiles.{list-plains}
use Rattle.definition_laws.proofs.answers.RecordFields.{in_info, of_info, package_parts}

-- ---- a listed letter

abbrev NotDropped : Option RecordLine → Type 0
NotDropped o = o ≡ Some other_line → ⊥

kept_by : (b : Bool) (l : RecordLine) → NotDropped (Some l) → NotDropped (if b then Some l else None)
kept_by true l never e = never e
kept_by false l never e = absurd cc

kept_left_over_paths_of : {A : Type 0} (line : A → RecordLine) → ((a : A) → NotDropped (Some (line a))) → (o : Option A) → NotDropped (option_map line o)
kept_left_over_paths_of line never None e = absurd cc
kept_left_over_paths_of line never (Some a) e = never a e

of_field : (f : InfoField) (value : List ℕ) → NotDropped (record_line_or_skipped_if_letter_unknown (letter_of f) value)
of_field f value e =
    kept_left_over_paths_of (info_line f) (λ v e. absurd cc) (values_under_grammar (grammar_of f) value) (sym (by_letter f value) ∙ e)

folder_kept : (value : List ℕ) → NotDropped (record_line_or_skipped_if_letter_unknown 70 value)
unfolding record_line_or_skipped_if_letter_unknown
folder_kept value = kept_by (is_folder_name value) (folder_line value) (λ e. absurd cc)

folder_access_kept : (value : List ℕ) → NotDropped (record_line_or_skipped_if_letter_unknown 77 value)
unfolding record_line_or_skipped_if_letter_unknown
folder_access_kept value = kept_left_over_paths_of folder_access_line (λ a e. absurd cc) (access_in value)

file_kept : (value : List ℕ) → NotDropped (record_line_or_skipped_if_letter_unknown 82 value)
unfolding record_line_or_skipped_if_letter_unknown
file_kept value = kept_by (is_one_part value) (file_line value) (λ e. absurd cc)

file_access_kept : (value : List ℕ) → NotDropped (record_line_or_skipped_if_letter_unknown 97 value)
unfolding record_line_or_skipped_if_letter_unknown
file_access_kept value = kept_left_over_paths_of file_access_line (λ a e. absurd cc) (access_in value)

file_hash_kept : (value : List ℕ) → NotDropped (record_line_or_skipped_if_letter_unknown 90 value)
unfolding record_line_or_skipped_if_letter_unknown
file_hash_kept value = kept_left_over_paths_of file_hash_line (λ a e. absurd cc) (sha1_in_text value)

listed_kept : (value : List ℕ) (letter n : ℕ) → NotDropped (record_line_or_skipped_if_letter_unknown n value) → letter ≡ n → NotDropped (record_line_or_skipped_if_letter_unknown letter value)
listed_kept value letter n kept same e = kept (ap (λ (m : ℕ). record_line_or_skipped_if_letter_unknown m value) (sym same) ∙ e)

is_kept : (letter : ℕ) (value : List ℕ) → IsIn letter known_line_letters → NotDropped (record_line_or_skipped_if_letter_unknown letter value)
is_kept letter value (inl same) = listed_kept value letter 67 (of_field Letters.Hashes value) same
is_kept letter value (inr (inl same)) = listed_kept value letter 80 (of_field Letters.Name value) same
is_kept letter value (inr (inr (inl same))) = listed_kept value letter 86 (of_field Letters.Version value) same
is_kept letter value (inr (inr (inr (inl same)))) = listed_kept value letter 65 (of_field Letters.Arch value) same
is_kept letter value (inr (inr (inr (inr (inl same))))) = listed_kept value letter 84 (of_field Letters.Description value) same
is_kept letter value (inr (inr (inr (inr (inr (inl same)))))) = listed_kept value letter 85 (of_field Letters.Url value) same
is_kept letter value (inr (inr (inr (inr (inr (inr (inl same))))))) = listed_kept value letter 76 (of_field Letters.License value) same
is_kept letter value (inr (inr (inr (inr (inr (inr (inr (inl same)))))))) = listed_kept value letter 111 (of_field Letters.Origin value) same
is_kept letter value (inr (inr (inr (inr (inr (inr (inr (inr (inl same))))))))) = listed_kept value letter 109 (of_field Letters.Maintainer value) same
is_kept letter value (inr (inr (inr (inr (inr (inr (inr (inr (inr (inl same)))))))))) = listed_kept value letter 73 (of_field Letters.InstalledSize value) same
is_kept letter value (inr (inr (inr (inr (inr (inr (inr (inr (inr (inr (inl same))))))))))) = listed_kept value letter 116 (of_field Letters.BuildTime value) same
is_kept letter value (inr (inr (inr (inr (inr (inr (inr (inr (inr (inr (inr (inl same)))))))))))) = listed_kept value letter 107 (of_field Letters.ProviderPriority value) same
is_kept letter value (inr (inr (inr (inr (inr (inr (inr (inr (inr (inr (inr (inr (inl same))))))))))))) = listed_kept value letter 113 (of_field Letters.ReplacesPriority value) same
is_kept letter value (inr (inr (inr (inr (inr (inr (inr (inr (inr (inr (inr (inr (inr (inl same)))))))))))))) = listed_kept value letter 99 (of_field Letters.RepoCommit value) same
is_kept letter value (inr (inr (inr (inr (inr (inr (inr (inr (inr (inr (inr (inr (inr (inr (inl same))))))))))))))) = listed_kept value letter 68 (of_field Letters.Depends value) same
is_kept letter value (inr (inr (inr (inr (inr (inr (inr (inr (inr (inr (inr (inr (inr (inr (inr (inl same)))))))))))))))) = listed_kept value letter 112 (of_field Letters.Provides value) same
is_kept letter value (inr (inr (inr (inr (inr (inr (inr (inr (inr (inr (inr (inr (inr (inr (inr (inr (inl same))))))))))))))))) = listed_kept value letter 114 (of_field Letters.Replaces value) same
is_kept letter value (inr (inr (inr (inr (inr (inr (inr (inr (inr (inr (inr (inr (inr (inr (inr (inr (inr (inl same)))))))))))))))))) = listed_kept value letter 105 (of_field Letters.InstallIf value) same
is_kept letter value (inr (inr (inr (inr (inr (inr (inr (inr (inr (inr (inr (inr (inr (inr (inr (inr (inr (inr (inl same))))))))))))))))))) = listed_kept value letter 70 (folder_kept value) same
is_kept letter value (inr (inr (inr (inr (inr (inr (inr (inr (inr (inr (inr (inr (inr (inr (inr (inr (inr (inr (inr (inl same)))))))))))))))))))) = listed_kept value letter 77 (folder_access_kept value) same
is_kept letter value (inr (inr (inr (inr (inr (inr (inr (inr (inr (inr (inr (inr (inr (inr (inr (inr (inr (inr (inr (inr (inl same))))))))))))))))))))) = listed_kept value letter 82 (file_kept value) same
is_kept letter value (inr (inr (inr (inr (inr (inr (inr (inr (inr (inr (inr (inr (inr (inr (inr (inr (inr (inr (inr (inr (inr (inl same)))))))))))))))))))))) = listed_kept value letter 97 (file_access_kept value) same
is_kept letter value (inr (inr (inr (inr (inr (inr (inr (inr (inr (inr (inr (inr (inr (inr (inr (inr (inr (inr (inr (inr (inr (inr (inl same))))))))))))))))))))))) = listed_kept value letter 90 (file_hash_kept value) same
is_kept letter value (inr (inr (inr (inr (inr (inr (inr (inr (inr (inr (inr (inr (inr (inr (inr (inr (inr (inr (inr (inr (inr (inr (inr (none)))))))))))))))))))))))) = absurd none

-- ---- a letter that is not listed

-- the letter of a field is listed
field_listed : (f : InfoField) → IsIn (letter_of f) known_line_letters
field_listed Letters.Hashes = inl refl
field_listed Letters.Name = inr (inl refl)
field_listed Letters.Version = inr (inr (inl refl))
field_listed Letters.Arch = inr (inr (inr (inl refl)))
field_listed Letters.Description = inr (inr (inr (inr (inl refl))))
field_listed Letters.Url = inr (inr (inr (inr (inr (inl refl)))))
field_listed Letters.License = inr (inr (inr (inr (inr (inr (inl refl))))))
field_listed Letters.Origin = inr (inr (inr (inr (inr (inr (inr (inl refl)))))))
field_listed Letters.Maintainer = inr (inr (inr (inr (inr (inr (inr (inr (inl refl))))))))
field_listed Letters.InstalledSize = inr (inr (inr (inr (inr (inr (inr (inr (inr (inl refl)))))))))
field_listed Letters.BuildTime = inr (inr (inr (inr (inr (inr (inr (inr (inr (inr (inl refl))))))))))
field_listed Letters.ProviderPriority = inr (inr (inr (inr (inr (inr (inr (inr (inr (inr (inr (inl refl)))))))))))
field_listed Letters.ReplacesPriority = inr (inr (inr (inr (inr (inr (inr (inr (inr (inr (inr (inr (inl refl))))))))))))
field_listed Letters.RepoCommit = inr (inr (inr (inr (inr (inr (inr (inr (inr (inr (inr (inr (inr (inl refl)))))))))))))
field_listed Letters.Depends = inr (inr (inr (inr (inr (inr (inr (inr (inr (inr (inr (inr (inr (inr (inl refl))))))))))))))
field_listed Letters.Provides = inr (inr (inr (inr (inr (inr (inr (inr (inr (inr (inr (inr (inr (inr (inr (inl refl)))))))))))))))
field_listed Letters.Replaces = inr (inr (inr (inr (inr (inr (inr (inr (inr (inr (inr (inr (inr (inr (inr (inr (inl refl))))))))))))))))
field_listed Letters.InstallIf = inr (inr (inr (inr (inr (inr (inr (inr (inr (inr (inr (inr (inr (inr (inr (inr (inr (inl refl)))))))))))))))))

no_field : (among : List InfoField) (letter : ℕ) → (IsIn letter known_line_letters → ⊥) → info_field_among among letter ≡ None
no_field [] letter unlisted = refl
no_field (f ∷ fs) letter unlisted =
    ap (λ (b : Bool). cond b (Some f) (info_field_among fs letter)) (ne_eqb (letter_of f) letter (λ same. unlisted (subst (λ (n : ℕ). IsIn n known_line_letters) same (field_listed f))))
    ∙ no_field fs letter unlisted

skip : (b : Bool) (o next : Option RecordLine) → b ≡ false → (if b then o else next) ≡ next
skip b o next e = ap (λ (c : Bool). if c then o else next) e

apart : (letter n : ℕ) → (IsIn letter known_line_letters → ⊥) → IsIn n known_line_letters → (letter == n) ≡ false
apart letter n unlisted listed = ne_eqb letter n (λ same. unlisted (subst (λ (m : ℕ). IsIn m known_line_letters) (sym same) listed))

dropped : (letter : ℕ) (value : List ℕ) → (IsIn letter known_line_letters → ⊥) → record_line_or_skipped_if_letter_unknown letter value ≡ Some other_line
unfolding record_line_or_skipped_if_letter_unknown field_of_letter
dropped letter value unlisted =
    skip (letter == 70) (folder_line_if_path value) _ (apart letter 70 unlisted (inr (inr (inr (inr (inr (inr (inr (inr (inr (inr (inr (inr (inr (inr (inr (inr (inr (inr (inl refl))))))))))))))))))))
    ∙ skip (letter == 77) (option_map folder_access_line (access_in value)) _ (apart letter 77 unlisted (inr (inr (inr (inr (inr (inr (inr (inr (inr (inr (inr (inr (inr (inr (inr (inr (inr (inr (inr (inl refl)))))))))))))))))))))
    ∙ skip (letter == 82) (file_line_if_one_part value) _ (apart letter 82 unlisted (inr (inr (inr (inr (inr (inr (inr (inr (inr (inr (inr (inr (inr (inr (inr (inr (inr (inr (inr (inr (inl refl))))))))))))))))))))))
    ∙ skip (letter == 97) (option_map file_access_line (access_in value)) _ (apart letter 97 unlisted (inr (inr (inr (inr (inr (inr (inr (inr (inr (inr (inr (inr (inr (inr (inr (inr (inr (inr (inr (inr (inr (inl refl)))))))))))))))))))))))
    ∙ skip (letter == 90) (option_map file_hash_line (sha1_in_text value)) _ (apart letter 90 unlisted (inr (inr (inr (inr (inr (inr (inr (inr (inr (inr (inr (inr (inr (inr (inr (inr (inr (inr (inr (inr (inr (inr (inl refl))))))))))))))))))))))))
    ∙ ap (λ (o : Option InfoField). info_line_or_skipped_if_no_field o value) (no_field info_fields letter unlisted)

-- ---- both ways

marked : (mark : ℕ) (o : Option RecordLine) (b : Bool) → (mark == 58) ≡ b → (if b then o else None) ≡ Some other_line → (mark ≡ 58) × (o ≡ Some other_line)
marked mark o true t e = (eqb-true mark 58 t, e)
marked mark o false t e = absurd cc

is_other : (line : List ℕ) → record_line_of line ≡ Some other_line → BeginsWithUnlistedLetterAndColon line
is_other [] e = absurd cc
is_other (letter ∷ []) e = absurd cc
is_other (letter ∷ mark ∷ value) e =
    let (is, by) = marked mark (record_line_or_skipped_if_letter_unknown letter value) (mark == 58) refl e in
    record {
      letter = letter;
      value = value;
      line_is = ap (λ (m : ℕ). letter ∷ m ∷ value) is;
      unlisted = λ listed. is_kept letter value listed by;
    }

other_is : (line : List ℕ) → BeginsWithUnlistedLetterAndColon line → record_line_of line ≡ Some other_line
other_is line o = ap record_line_of o.line_is ∙ dropped o.letter o.value o.unlisted

pub dropped_exactly : (line : List ℕ) → (record_line_of line ≡ Some other_line) ↔ BeginsWithUnlistedLetterAndColon line
dropped_exactly line = (is_other line, other_is line)

-- ---- what no letter gives

pub no_scripts : (r : Record) → (field_named Package (codes "scripts") (record_value r) ≡ null) × (field_named Package (codes "triggers") (record_value r) ≡ null)
no_scripts r = (nth_obj (package_parts r) 2, nth_obj (package_parts r) 3)

pub no_info : (r : Record) → (let info = field_named Package (codes "info") (record_value r) in
    (field_named PkgInfo (codes "file-size") info ≡ null) × (field_named PkgInfo (codes "recommends") info ≡ null)
    × (field_named PkgInfo (codes "layer") info ≡ null) × (field_named PkgInfo (codes "tags") info ≡ null))
no_info r = (
  of_info r (codes "file-size") null (in_info r.info 12),
  of_info r (codes "recommends") null (in_info r.info 18),
  of_info r (codes "layer") null (in_info r.info 19),
  of_info r (codes "tags") null (in_info r.info 20),
)

abbrev pub file_parts : ListedFile → Plains
file_parts f =
    plains_of_list (blob_or_null f.name ∷ listed_access_value f.access ∷ null ∷ null ∷ listed_hash_value f.hash ∷ [])

pub no_size : (f : ListedFile) → (let file = listed_file_value f in
    (field_named File (codes "size") file ≡ null) × (field_named File (codes "mtime") file ≡ null) × (field_named File (codes "target") file ≡ null))
no_size f = (nth_obj (file_parts f) 2, nth_obj (file_parts f) 3, nth_obj (file_parts f) 5)

pub packages_are : (records : List Record) → entries_of_field_named Idb (codes "packages") (database_value_of_records records) ≡ map record_value records
packages_are records =
    ap (λ (v : Plain). list_of (entries_in v)) (nth_obj (plains_of_list (array_or_null_of_list (map record_value records) ∷ [])) 0)
    ∙ ap list_of (entries_arr (plains_of_list (map record_value records)))
    ∙ list-plains (map record_value records)
