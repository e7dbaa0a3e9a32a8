-- Lines before the one that is told begin a text that is read.
use Rattle.std.proofs.Common.{◌≡◌, ℕ, zero, suc, ◌+◌, ◌<◌, Bool, true, false, not, cond, eqb, List, [], ◌∷◌, ◌++◌, length, take, Option, Some, None, Ok, Err, refl, sym, ◌∙◌, ap, arith}
use Rattle.std.specs.Prelude.{◌&&◌, ◌||◌}
use Rattle.std.specs.Option.{option_and_then, option_map}
use Rattle.std.proofs.lemmas.List.Folds.{list_any-append}
use Rattle.dep_core.specs.Dependency.{is_package_name}
use Rattle.version_core.specs.Order.{is_version, tokens}
use Rattle.version_core.specs.Token.{later_component_lexeme_by_digits, next_lexeme, number_lexeme_by_digits}
use Rattle.make_info.specs.Fields.{TextNumberOrDependency, text, text_value_if}
use Rattle.v2_core.specs.InfoFields.{field_of_letter, is_list_info_field}
use Rattle.v2_core.specs.Lines.{info_line, record_line_or_skipped_if_letter_unknown, record_line_of}
use Rattle.v2_core.specs.declared.field.InfoField.{InfoField}
use Rattle.v2_core.specs.declared.field.InfoField.TheVariants as Fields
use Rattle.v2_core.specs.Reading.{records_from_unfinished_record, records_followed_by, record_with_text_line}
use Rattle.v2_core.specs.Records.{InfoLine, Record, empty_record, has_line_of_field, info_line_from_parts, is_line_of_field, lacks_name_or_version_line, record_from_parts, record_if_both_parts, with_record_line}
use Rattle.v2_core.proofs.FirstBad.{err_is, same_number}
use Rattle.v2_core.proofs.RecordEnds.{bad_end, good_end, none_ends}
use Rattle.v2_core.proofs.TextLines.{at_bad_line, at_empty_line, at_good_line, not_zero}

-- some lines more are read behind a record that began
pub record Completed (n : ℕ) (r : Record) (front : List (List ℕ)) : Type 0 where
  pub more : List (List ℕ)
  pub records : List Record
  pub is_read : records_from_unfinished_record n r (front ++ more) ≡ Ok records

-- ---- a name and a version are added if they are lacking

name_line : (name : List ℕ) → is_package_name name ≡ true → record_line_of (80 ∷ 58 ∷ name) ≡ Some (info_line Fields.Name (text name ∷ []))
unfolding record_line_or_skipped_if_letter_unknown field_of_letter
name_line name h = ap (λ b. option_map (info_line Fields.Name) (text_value_if b name)) h

version_line : (version : List ℕ) → is_version version ≡ true → record_line_of (86 ∷ 58 ∷ version) ≡ Some (info_line Fields.Version (text version ∷ []))
unfolding record_line_or_skipped_if_letter_unknown field_of_letter
version_line version h = ap (λ b. option_map (info_line Fields.Version) (text_value_if b version)) h

with_one : (r : Record) (f : InfoField) (values : List TextNumberOrDependency) → is_list_info_field f ≡ false → has_line_of_field f r.info ≡ false → with_record_line r (info_line f values) ≡ Some (record_from_parts true (r.info ++ info_line_from_parts f values ∷ []) r.folders)
with_one r f values once new =
    ap (λ b. record_if_both_parts (cond (not b && has_line_of_field f r.info) None (Some (r.info ++ info_line_from_parts f values ∷ []))) (Some r.folders)) once
    ∙ ap (λ b. record_if_both_parts (cond b None (Some (r.info ++ info_line_from_parts f values ∷ []))) (Some r.folders)) new

or_true : (a b : Bool) → b ≡ true → (a || (b || false)) ≡ true
or_true true b h = refl
or_true false true h = refl
or_true false false h = h

has_new : (f : InfoField) (info : List InfoLine) (line : InfoLine) → is_line_of_field f line ≡ true → has_line_of_field f (info ++ line ∷ []) ≡ true
has_new f info line h = list_any-append (is_line_of_field f) info (line ∷ []) ∙ or_true (has_line_of_field f info) (is_line_of_field f line) h

or_false : (a b : Bool) → b ≡ false → (a || (b || false)) ≡ a
or_false true b h = refl
or_false false false h = refl
or_false false true h = h

has_same : (f : InfoField) (info : List InfoLine) (line : InfoLine) → is_line_of_field f line ≡ false → has_line_of_field f (info ++ line ∷ []) ≡ has_line_of_field f info
has_same f info line h = list_any-append (is_line_of_field f) info (line ∷ []) ∙ or_false (has_line_of_field f info) (is_line_of_field f line) h

completed_after : (n : ℕ) (r s : Record) (x : List ℕ) → eqb (length x) 0 ≡ false → record_with_text_line r x ≡ Some s → Completed (n + 1) s [] → Completed n r []
completed_after n r s x e t c = record {
  more = x ∷ c.more;
  records = c.records;
  is_read = at_good_line n r s x c.more e t ∙ c.is_read;
}

completed_end : (n : ℕ) (r : Record) (line : Bool) → r.has_line ≡ line → lacks_name_or_version_line r.info ≡ false → Completed n r []
completed_end n r false a b = record { more = []; records = []; is_read = none_ends n r (Ok []) a }
completed_end n r true a b = record { more = []; records = r ∷ []; is_read = good_end n r (Ok []) a b }

lacks_none : (info : List InfoLine) → has_line_of_field Fields.Name info ≡ true → has_line_of_field Fields.Version info ≡ true → lacks_name_or_version_line info ≡ false
lacks_none info a b =
    ap (λ x. not x || not (has_line_of_field Fields.Version info)) a ∙ ap (λ x. not true || not x) b

completed_named : (version : List ℕ) → is_version version ≡ true → (n : ℕ) (r : Record) (b : Bool) → has_line_of_field Fields.Name r.info ≡ true → has_line_of_field Fields.Version r.info ≡ b → Completed n r []
completed_named version good n r true a h = completed_end n r r.has_line refl (lacks_none r.info a h)
completed_named version good n r false a h =
    let line : InfoLine = info_line_from_parts Fields.Version (text version ∷ []) in
    let s : Record = record_from_parts true (r.info ++ line ∷ []) r.folders in
    completed_after n r s (86 ∷ 58 ∷ version) (not_zero 86 (58 ∷ version))
    (ap (option_and_then (with_record_line r)) (version_line version good) ∙ with_one r Fields.Version (text version ∷ []) refl h)
    (completed_end (n + 1) s true refl (lacks_none s.info (has_same Fields.Name r.info line refl ∙ a) (has_new Fields.Version r.info line refl)))

completed_by : (name version : List ℕ) → is_package_name name ≡ true → is_version version ≡ true → (n : ℕ) (r : Record) (b : Bool) → has_line_of_field Fields.Name r.info ≡ b → Completed n r []
completed_by name version named good n r true h =
    completed_named version good n r (has_line_of_field Fields.Version r.info) h refl
completed_by name version named good n r false h =
    let line : InfoLine = info_line_from_parts Fields.Name (text name ∷ []) in
    let s : Record = record_from_parts true (r.info ++ line ∷ []) r.folders in
    completed_after n r s (80 ∷ 58 ∷ name) (not_zero 80 (58 ∷ name))
    (ap (option_and_then (with_record_line r)) (name_line name named) ∙ with_one r Fields.Name (text name ∷ []) refl h)
    (completed_named version good (n + 1) s (has_line_of_field Fields.Version s.info) (has_new Fields.Name r.info line refl) refl)

-- ---- before the line that is told

-- whatever began is completed to a text
abbrev AreCompleted : Type 0
AreCompleted = (n : ℕ) (r : Record) → Completed n r []

begins_after : (n : ℕ) (r s : Record) (x : List ℕ) (front : List (List ℕ)) → ((others : List (List ℕ)) (records : List Record) → records_from_unfinished_record (n + 1) s others ≡ Ok records → (found : List Record) × (records_from_unfinished_record n r (x ∷ others) ≡ Ok found)) → Completed (n + 1) s front → Completed n r (x ∷ front)
begins_after n r s x front step c =
    let found = step (front ++ c.more) c.records c.is_read in
    record { more = c.more; records = found.0; is_read = found.1 }

begins_empty : (n : ℕ) (r : Record) (x : List ℕ) (lines : List (List ℕ)) (m k : ℕ) (line lacks : Bool) → eqb (length x) 0 ≡ true → r.has_line ≡ line → lacks_name_or_version_line r.info ≡ lacks → n + suc k < m → records_from_unfinished_record n r (x ∷ lines) ≡ Err m → (records_from_unfinished_record (n + 1) empty_record lines ≡ Err m → Completed (n + 1) empty_record (take k lines)) → Completed n r (x ∷ take k lines)
begins_empty n r x lines m k false lacks e a b l h on =
    begins_after n r empty_record x (take k lines)
    (λ others records read. (records, at_empty_line n r x others e ∙ (none_ends n r (records_from_unfinished_record (n + 1) empty_record others) a ∙ read)))
    (on (sym (none_ends n r (records_from_unfinished_record (n + 1) empty_record lines) a) ∙ (sym (at_empty_line n r x lines e) ∙ h)))
begins_empty n r x lines m k true true e a b l h on =
    let p : n ≡ m = same_number n m (sym (bad_end n r (records_from_unfinished_record (n + 1) empty_record lines) a b) ∙ (sym (at_empty_line n r x lines e) ∙ h)) in
    absurd (omega (arith, p, l))
begins_empty n r x lines m k true false e a b l h on =
    begins_after n r empty_record x (take k lines)
    (λ others records read. (r ∷ records, at_empty_line n r x others e ∙ (good_end n r (records_from_unfinished_record (n + 1) empty_record others) a b ∙ ap (records_followed_by (r ∷ [])) read)))
    (on (err_is (r ∷ []) (records_from_unfinished_record (n + 1) empty_record lines) m (sym (good_end n r (records_from_unfinished_record (n + 1) empty_record lines) a b) ∙ (sym (at_empty_line n r x lines e) ∙ h))))

begins_line : (n : ℕ) (r : Record) (x : List ℕ) (lines : List (List ℕ)) (m k : ℕ) (o : Option Record) → eqb (length x) 0 ≡ false → record_with_text_line r x ≡ o → n + suc k < m → records_from_unfinished_record n r (x ∷ lines) ≡ Err m → ((s : Record) → records_from_unfinished_record (n + 1) s lines ≡ Err m → Completed (n + 1) s (take k lines)) → Completed n r (x ∷ take k lines)
begins_line n r x lines m k None e t l h on =
    let p : n + 1 ≡ m = same_number (n + 1) m (sym (at_bad_line n r x lines e t) ∙ h) in
    absurd (omega (arith, p, l))
begins_line n r x lines m k (Some s) e t l h on =
    begins_after n r s x (take k lines)
    (λ others records read. (records, at_good_line n r s x others e t ∙ read))
    (on s (sym (at_good_line n r s x lines e t) ∙ h))

begins_by : (n : ℕ) (r : Record) (x : List ℕ) (lines : List (List ℕ)) (m k : ℕ) (b : Bool) → eqb (length x) 0 ≡ b → n + suc k < m → records_from_unfinished_record n r (x ∷ lines) ≡ Err m → ((s : Record) → records_from_unfinished_record (n + 1) s lines ≡ Err m → Completed (n + 1) s (take k lines)) → Completed n r (x ∷ take k lines)
begins_by n r x lines m k true e l h on =
    begins_empty n r x lines m k r.has_line (lacks_name_or_version_line r.info) e refl refl l h (on empty_record)
begins_by n r x lines m k false e l h on = begins_line n r x lines m k (record_with_text_line r x) e refl l h on

begins : AreCompleted → (n : ℕ) (r : Record) (lines : List (List ℕ)) (m k : ℕ) → records_from_unfinished_record n r lines ≡ Err m → n + k < m → Completed n r (take k lines)
begins all n r lines m zero h l = all n r
begins all n r [] m (suc k) h l = all n r
begins all n r (x ∷ lines) m (suc k) h l =
    begins_by n r x lines m k (eqb (length x) 0) refl l h
    (λ s told. begins all (n + 1) s lines m k told (omega (arith, l)))

-- `a` may be a package's name
named : is_package_name (97 ∷ []) ≡ true
named = refl

-- `1` is a version
versioned : is_version (49 ∷ []) ≡ true
unfolding is_version tokens number_lexeme_by_digits next_lexeme later_component_lexeme_by_digits
versioned = refl

-- fewer lines than up to the one that is told begin a text
pub begins_text : (n : ℕ) (r : Record) (lines : List (List ℕ)) (m k : ℕ) → records_from_unfinished_record n r lines ≡ Err m → n + k < m → Completed n r (take k lines)
begins_text =
    begins (λ n r. completed_by (97 ∷ []) (49 ∷ []) named versioned n r (has_line_of_field Fields.Name r.info) refl)
