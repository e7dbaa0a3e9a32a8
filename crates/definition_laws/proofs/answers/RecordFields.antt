-- The fields of the package of a record.
use Rattle.std.proofs.Common.{◌≡◌, ◌∙◌, ℕ, Bool, true, false, cond, not, List, [], ◌∷◌, ◌++◌, map, Option, Some, None, refl, ap, sym, subst, append_assoc, append-nil}
use Rattle.std.specs.Prelude.{codes, ◌==◌, ◌&&◌, ◌||◌, if◌then◌else◌}
use Rattle.std.specs.List.{find, flat_map}
use Rattle.std.specs.Option.{option_and_then}
use Rattle.std.proofs.lemmas.Bool.{eqb-true}
use Rattle.change_outcome.specs.adb_fields.Repeated.{list_of}
use Rattle.adb_view.specs.Plain.{Plain, null}
use Rattle.adb_view.specs.Values.{entries_in, entry_at_index, nth}
use Rattle.adb_view.proofs.ValueEntries.{entries_arr, nth_obj}
use Rattle.dep_core.specs.Dependency.{Dependency}
use Rattle.dep_core.specs.Reading.{dependency_of}
use Rattle.dep_core.specs.Spelling.{SpellsDependency}
use Rattle.change_outcome.specs.make_info.Fields.{TextNumberOrDependency}
use Rattle.change_outcome.specs.make_info.Information.{plain_value}
use Rattle.change_outcome.specs.make_info.Values.{plains_of_list}
use Rattle.make_core.proofs.PackageFiles.{list-plains}
use Rattle.definition_laws.specs.making.SaidOfFields.{HasAllValues, HasValuesAsList, HasFirstValue}
use Rattle.change_outcome.specs.v2_core.InfoFields.{is_list_info_field, field_of_letter, letter_of}
use Rattle.change_outcome.specs.v2_core.Lines.{RecordLine, info_line, folder_line, folder_access_line, file_line, file_access_line, file_hash_line, other_line, record_line_of}
use Rattle.change_outcome.specs.v2_core.declared.field.InfoField.{InfoField}
use Rattle.change_outcome.specs.v2_core.declared.field.InfoField.TheVariants as Letters
use Rattle.change_outcome.specs.v2_core.Database.{array_of_field_values, record_info_value, record_value, value_of_single_line_field, value_of_first_or_null, value_of_line, values_if_line_of_field}
use Rattle.change_outcome.specs.v2_core.Reading.{record_with_text_line}
use Rattle.change_outcome.specs.v2_core.Records.{InfoLine, ListedFolder, Record, has_line_of_field, info_line_from_parts, is_line_of_field, record_if_both_parts, with_info_values, with_info_line, with_path_line, with_record_line}
use Rattle.definition_laws.specs.answers.TextLetters.{LinesGiveFieldValues, HasFieldValuesOfLinesWithItsLetter, is_list_letter, letter_value_in_package, record_with_lines}
use Rattle.std.proofs.lemmas.Bool.{eq-eqb}
use Rattle.adb_view.specs.Plain.{Plains}
use Rattle.adb_view.specs.declared.tables.Which.TheVariants.{Package, PkgInfo}
use Rattle.definition_laws.specs.making.NamedFields.{field_named}
use Rattle.change_outcome.specs.v2_core.Database.{array_or_null_of_list, listed_folder_value}
use Rattle.std.specs.Option.{option_or}
use Rattle.std.proofs.lemmas.Grind.{flat_map-append}
use Rattle.std.proofs.lemmas.List.Folds.{find-append}
use Rattle.change_outcome.specs.v2_core.Records.{record_from_parts, empty_record}
use Rattle.definition_laws.proofs.answers.LetterLines.{given, infos, one_line, other_values, own_values, values_of}

-- ---- a line that was accepted

-- a line that was accepted
pub record Accepted (r next : Record) (line : List ℕ) : Type 0 where
  pub meaning : RecordLine
  pub means : record_line_of line ≡ Some meaning
  pub info : with_info_line meaning r.info ≡ Some next.info
  pub folders : with_path_line meaning r.folders ≡ Some next.folders

parts_of_record : (info : Option (List InfoLine)) (folders : Option (List ListedFolder)) (next : Record) → record_if_both_parts info folders ≡ Some next → (info ≡ Some next.info) × (folders ≡ Some next.folders)
parts_of_record None folders next e = absurd cc
parts_of_record (Some info) None next e = absurd cc
parts_of_record (Some info) (Some folders) next e =
    let same : record_from_parts true info folders ≡ next = cc in
    (ap (λ (r : Record). Some r.info) same, ap (λ (r : Record). Some r.folders) same)

accepted_by : (r next : Record) (line : List ℕ) (o : Option RecordLine) → record_line_of line ≡ o → option_and_then (with_record_line r) o ≡ Some next → Accepted r next line
accepted_by r next line None is e = absurd cc
accepted_by r next line (Some l) is e =
    let t = parts_of_record (with_info_line l r.info) (with_path_line l r.folders) next e in
    record { meaning = l; means = is; info = t.0; folders = t.1 }

pub accepted : (r next : Record) (line : List ℕ) → record_with_text_line r line ≡ Some next → Accepted r next line
accepted r next line e = accepted_by r next line (record_line_of line) refl e

-- ---- the information after more lines

info_more : (l : RecordLine) (info more : List InfoLine) → with_info_line l info ≡ Some more → more ≡ info ++ infos (Some l)
info_more (info_line g v) info more e = go (not (is_list_info_field g) && has_line_of_field g info) e
  where
    go : (b : Bool) → (if b then None else Some (info ++ info_line_from_parts g v ∷ [])) ≡ Some more → more ≡ info ++ infos (Some (info_line g v))
    go true e = absurd cc
    go false e = let same : info ++ info_line_from_parts g v ∷ [] ≡ more = cc in sym same
info_more (folder_line name) info more e = let same : info ≡ more = cc in sym same ∙ sym (append-nil info)
info_more (folder_access_line a) info more e = let same : info ≡ more = cc in sym same ∙ sym (append-nil info)
info_more (file_line name) info more e = let same : info ≡ more = cc in sym same ∙ sym (append-nil info)
info_more (file_access_line a) info more e = let same : info ≡ more = cc in sym same ∙ sym (append-nil info)
info_more (file_hash_line hash) info more e = let same : info ≡ more = cc in sym same ∙ sym (append-nil info)
info_more other_line info more e = let same : info ≡ more = cc in sym same ∙ sym (append-nil info)

values_more : (f : InfoField) (r next : Record) (line : List ℕ) → Accepted r next line → values_of f next.info ≡ values_of f r.info ++ given f line
values_more f r next line a =
    ap (values_of f) (info_more a.meaning r.info next.info a.info)
    ∙ flat_map-append (values_if_line_of_field f) r.info (infos (Some a.meaning))
    ∙ ap (λ (o : Option RecordLine). values_of f r.info ++ values_of f (infos o)) (sym a.means)

values_after : (f : InfoField) (lines : List (List ℕ)) (r s : Record) → record_with_lines r lines ≡ Some s → values_of f s.info ≡ values_of f r.info ++ flat_map (given f) lines
values_after f [] r s e =
    let same : r ≡ s = cc in
    ap (λ (x : Record). values_of f x.info) (sym same) ∙ sym (append-nil (values_of f r.info))
values_after f (line ∷ lines) r s e = go (record_with_text_line r line) refl e (λ next. values_after f lines next s)
  where
    go : (o : Option Record) → record_with_text_line r line ≡ o → option_and_then (λ next. record_with_lines next lines) o ≡ Some s
        → ((next : Record) → record_with_lines next lines ≡ Some s → values_of f s.info ≡ values_of f next.info ++ flat_map (given f) lines)
        → values_of f s.info ≡ values_of f r.info ++ flat_map (given f) (line ∷ lines)
    go None is e more = absurd cc
    go (Some next) is e more =
        more next e
        ∙ ap (λ (v : List TextNumberOrDependency). v ++ flat_map (given f) lines) (values_more f r next line (accepted r next line is))
        ∙ append_assoc (values_of f r.info) (given f line) (flat_map (given f) lines)

module _ (spelled : (t : List ℕ) (d : Dependency) → dependency_of t ≡ Some d → SpellsDependency t d) (read : (t : List ℕ) (d : Dependency) → SpellsDependency t d → dependency_of t ≡ Some d) where
  say_lines : (f : InfoField) (lines : List (List ℕ)) (r s : Record) → record_with_lines r lines ≡ Some s → LinesGiveFieldValues f lines (flat_map (given f) lines)
  say_lines f [] r s e = refl
  say_lines f (line ∷ lines) r s e = go (record_with_text_line r line) refl e (λ next. say_lines f lines next s)
    where
      go : (o : Option Record) → record_with_text_line r line ≡ o → option_and_then (λ next. record_with_lines next lines) o ≡ Some s
          → ((next : Record) → record_with_lines next lines ≡ Some s → LinesGiveFieldValues f lines (flat_map (given f) lines)) → LinesGiveFieldValues f (line ∷ lines) (flat_map (given f) (line ∷ lines))
      go None is e more = absurd cc
      go (Some next) is e more =
          let a = accepted r next line is in
          (given f line, flat_map (given f) lines, one_line spelled read f line a.meaning a.means, more next e, refl)

-- ---- a field that has one line at most

no_values : (f : InfoField) (info : List InfoLine) → has_line_of_field f info ≡ false → (values_of f info ≡ []) × (find (is_line_of_field f) info ≡ None)
no_values f [] e = (refl, refl)
no_values f (l ∷ ls) e = go (is_line_of_field f l) refl e (no_values f ls)
  where
    go : (b : Bool) → is_line_of_field f l ≡ b → (b || has_line_of_field f ls) ≡ false → (has_line_of_field f ls ≡ false → (values_of f ls ≡ []) × (find (is_line_of_field f) ls ≡ None))
        → ((if b then l.values else []) ++ values_of f ls ≡ []) × (cond b (Some l) (find (is_line_of_field f) ls) ≡ None)
    go true t e more = absurd cc
    go false t e more = more e

known : (f : InfoField) → field_of_letter (letter_of f) ≡ Some f
unfolding field_of_letter
known Letters.Hashes = refl
known Letters.Name = refl
known Letters.Version = refl
known Letters.Arch = refl
known Letters.Description = refl
known Letters.Url = refl
known Letters.License = refl
known Letters.Origin = refl
known Letters.Maintainer = refl
known Letters.InstalledSize = refl
known Letters.BuildTime = refl
known Letters.ProviderPriority = refl
known Letters.ReplacesPriority = refl
known Letters.RepoCommit = refl
known Letters.Depends = refl
known Letters.Provides = refl
known Letters.Replaces = refl
known Letters.InstallIf = refl

same_letter : (g f : InfoField) → letter_of g ≡ letter_of f → g ≡ f
same_letter g f e =
    let both : Some g ≡ Some f = sym (known g) ∙ ap field_of_letter e ∙ known f in
    cc

Tells : InfoField → List InfoLine → Type 0
Tells f info = HasFirstValue (values_of f info) (value_of_single_line_field f info)

first_tells : (values : List TextNumberOrDependency) → HasFirstValue values (value_of_first_or_null values)
first_tells [] = refl
first_tells (v ∷ vs) = refl

with_own : (f : InfoField) (v : List TextNumberOrDependency) (info more : List InfoLine) (has : Bool) → is_list_info_field f ≡ false → has_line_of_field f info ≡ has
    → (if not (is_list_info_field f) && has then None else Some (info ++ info_line_from_parts f v ∷ [])) ≡ Some more → Tells f more
unfolding Tells
with_own f v info more true once is e =
    let none : None ≡ Some more = sym (ap (λ (b : Bool). if not b && true then None else Some (info ++ info_line_from_parts f v ∷ [])) once) ∙ e in
    absurd cc
with_own f v info more false once is e =
    let one : Some (info ++ info_line_from_parts f v ∷ []) ≡ Some more = sym (ap (λ (b : Bool). if not b && false then None else Some (info ++ info_line_from_parts f v ∷ [])) once) ∙ e in
    let same : info ++ info_line_from_parts f v ∷ [] ≡ more = cc in
    let before = no_values f info is in
    let values : values_of f (info ++ info_line_from_parts f v ∷ []) ≡ v =
    flat_map-append (values_if_line_of_field f) info (info_line_from_parts f v ∷ []) ∙ ap (λ (x : List TextNumberOrDependency). x ++ values_of f (info_line_from_parts f v ∷ [])) before.0 ∙ own_values f v in
    let found : find (is_line_of_field f) (info ++ info_line_from_parts f v ∷ []) ≡ Some (info_line_from_parts f v) =
    find-append (is_line_of_field f) info (info_line_from_parts f v ∷ [])
    ∙ ap (λ (o : Option InfoLine). option_or o (find (is_line_of_field f) (info_line_from_parts f v ∷ []))) before.1
    ∙ ap (λ (b : Bool). cond b (Some (info_line_from_parts f v)) None) (own_line f) in
    subst (λ (i : List InfoLine). HasFirstValue (values_of f i) (value_of_single_line_field f i)) same
    (subst (λ (x : List TextNumberOrDependency). HasFirstValue x (value_of_single_line_field f (info ++ info_line_from_parts f v ∷ []))) (sym values)
    (subst (λ (o : Option InfoLine). HasFirstValue v (value_of_line o)) (sym found) (first_tells v)))
  where
    own_line : (f : InfoField) → (letter_of f == letter_of f) ≡ true
    own_line f = eq-eqb (letter_of f) (letter_of f) refl

or_nothing : (o : Option InfoLine) → option_or o None ≡ o
or_nothing None = refl
or_nothing (Some l) = refl

with_other : (f g : InfoField) (v : List TextNumberOrDependency) (info more : List InfoLine) → (letter_of g == letter_of f) ≡ false → more ≡ info ++ info_line_from_parts g v ∷ [] → Tells f info → Tells f more
unfolding Tells
with_other f g v info more other is tells =
    let values : values_of f (info ++ info_line_from_parts g v ∷ []) ≡ values_of f info =
    flat_map-append (values_if_line_of_field f) info (info_line_from_parts g v ∷ []) ∙ ap (λ (x : List TextNumberOrDependency). values_of f info ++ x) (other_values f g v other) ∙ append-nil (values_of f info) in
    let found : find (is_line_of_field f) (info ++ info_line_from_parts g v ∷ []) ≡ find (is_line_of_field f) info =
    find-append (is_line_of_field f) info (info_line_from_parts g v ∷ [])
    ∙ ap (λ (b : Bool). option_or (find (is_line_of_field f) info) (cond b (Some (info_line_from_parts g v)) None)) other
    ∙ or_nothing (find (is_line_of_field f) info) in
    subst (λ (i : List InfoLine). HasFirstValue (values_of f i) (value_of_single_line_field f i)) (sym is)
    (subst (λ (x : List TextNumberOrDependency). HasFirstValue x (value_of_single_line_field f (info ++ info_line_from_parts g v ∷ []))) (sym values)
    (subst (λ (o : Option InfoLine). HasFirstValue (values_of f info) (value_of_line o)) (sym found) tells))

with_line : (f : InfoField) (l : RecordLine) (info more : List InfoLine) → is_list_info_field f ≡ false → with_info_line l info ≡ Some more → Tells f info → Tells f more
unfolding Tells
with_line f (info_line g v) info more once e tells = go (letter_of g == letter_of f) refl
  where
    go : (b : Bool) → (letter_of g == letter_of f) ≡ b → Tells f more
    go true t =
        let same : g ≡ f = same_letter g f (eqb-true (letter_of g) (letter_of f) t) in
        with_own f v info more (has_line_of_field f info) once refl (subst (λ (x : InfoField). with_info_values x v info ≡ Some more) same e)
    go false t = with_other f g v info more t (info_more (info_line g v) info more e) tells
with_line f (folder_line name) info more once e tells = let same : info ≡ more = cc in subst (Tells f) same tells
with_line f (folder_access_line a) info more once e tells = let same : info ≡ more = cc in subst (Tells f) same tells
with_line f (file_line name) info more once e tells = let same : info ≡ more = cc in subst (Tells f) same tells
with_line f (file_access_line a) info more once e tells = let same : info ≡ more = cc in subst (Tells f) same tells
with_line f (file_hash_line hash) info more once e tells = let same : info ≡ more = cc in subst (Tells f) same tells
with_line f other_line info more once e tells = let same : info ≡ more = cc in subst (Tells f) same tells

tells_after : (f : InfoField) (lines : List (List ℕ)) (r s : Record) → is_list_info_field f ≡ false → record_with_lines r lines ≡ Some s → Tells f r.info → Tells f s.info
tells_after f [] r s once e tells = let same : r ≡ s = cc in subst (λ (x : Record). Tells f x.info) same tells
tells_after f (line ∷ lines) r s once e tells = go (record_with_text_line r line) refl e (λ next. tells_after f lines next s once)
  where
    go : (o : Option Record) → record_with_text_line r line ≡ o → option_and_then (λ next. record_with_lines next lines) o ≡ Some s → ((next : Record) → record_with_lines next lines ≡ Some s → Tells f next.info → Tells f s.info) → Tells f s.info
    go None is e more = absurd cc
    go (Some next) is e more =
        let a = accepted r next line is in
        more next e (with_line f a.meaning r.info next.info once a.info tells)

-- ---- the fields of the package

abbrev info_parts : List InfoLine → Plains
info_parts info =
    plains_of_list
    (value_of_single_line_field Letters.Name info ∷ value_of_single_line_field Letters.Version info ∷ value_of_single_line_field Letters.Hashes info
    ∷ value_of_single_line_field Letters.Description info ∷ value_of_single_line_field Letters.Arch info ∷ value_of_single_line_field Letters.License info
    ∷ value_of_single_line_field Letters.Origin info ∷ value_of_single_line_field Letters.Maintainer info ∷ value_of_single_line_field Letters.Url info
    ∷ value_of_single_line_field Letters.RepoCommit info ∷ value_of_single_line_field Letters.BuildTime info ∷ value_of_single_line_field Letters.InstalledSize info
    ∷ null ∷ value_of_single_line_field Letters.ProviderPriority info ∷ array_of_field_values Letters.Depends info ∷ array_of_field_values Letters.Provides info
    ∷ array_of_field_values Letters.Replaces info ∷ array_of_field_values Letters.InstallIf info ∷ [])

abbrev pub package_parts : Record → Plains
package_parts r =
    plains_of_list
    (record_info_value r.info ∷ array_or_null_of_list (map listed_folder_value r.folders) ∷ null ∷ null
    ∷ value_of_single_line_field Letters.ReplacesPriority r.info ∷ [])

pub info_is : (r : Record) → field_named Package (codes "info") (record_value r) ≡ record_info_value r.info
info_is r = nth_obj (package_parts r) 0

pub in_info : (info : List InfoLine) (i : ℕ) → entry_at_index (record_info_value info) i ≡ nth (info_parts info) i
unfolding record_info_value
in_info info i = nth_obj (info_parts info) i

pub of_info : (r : Record) (name : List ℕ) (v : Plain) → field_named PkgInfo name (record_info_value r.info) ≡ v → field_named PkgInfo name (field_named Package (codes "info") (record_value r)) ≡ v
of_info r name v e = ap (field_named PkgInfo name) (info_is r) ∙ e

tells_single : (f : InfoField) (info : List InfoLine) (v : Plain) → v ≡ value_of_single_line_field f info → Tells f info → HasFirstValue (values_of f info) v
unfolding Tells
tells_single f info v e tells = subst (HasFirstValue (values_of f info)) (sym e) tells

tells_joined : (f : InfoField) (info : List InfoLine) (v : Plain) → v ≡ array_of_field_values f info → HasAllValues (values_of f info) v
tells_joined f info v e =
    ap (λ (u : Plain). list_of (entries_in u)) e
    ∙ ap list_of (entries_arr (plains_of_list (map plain_value (values_of f info))))
    ∙ list-plains (map plain_value (values_of f info))

package_tells : (f : InfoField) (r : Record) → (is_list_info_field f ≡ false → Tells f r.info) → HasValuesAsList (is_list_letter f) (values_of f r.info) (letter_value_in_package f (record_value r))
package_tells Letters.Hashes r tells = tells_single Letters.Hashes r.info _ (of_info r (codes "hashes") _ (in_info r.info 2)) (tells refl)
package_tells Letters.Name r tells = tells_single Letters.Name r.info _ (of_info r (codes "name") _ (in_info r.info 0)) (tells refl)
package_tells Letters.Version r tells = tells_single Letters.Version r.info _ (of_info r (codes "version") _ (in_info r.info 1)) (tells refl)
package_tells Letters.Arch r tells = tells_single Letters.Arch r.info _ (of_info r (codes "arch") _ (in_info r.info 4)) (tells refl)
package_tells Letters.Description r tells = tells_single Letters.Description r.info _ (of_info r (codes "description") _ (in_info r.info 3)) (tells refl)
package_tells Letters.Url r tells = tells_single Letters.Url r.info _ (of_info r (codes "url") _ (in_info r.info 8)) (tells refl)
package_tells Letters.License r tells = tells_single Letters.License r.info _ (of_info r (codes "license") _ (in_info r.info 5)) (tells refl)
package_tells Letters.Origin r tells = tells_single Letters.Origin r.info _ (of_info r (codes "origin") _ (in_info r.info 6)) (tells refl)
package_tells Letters.Maintainer r tells = tells_single Letters.Maintainer r.info _ (of_info r (codes "maintainer") _ (in_info r.info 7)) (tells refl)
package_tells Letters.InstalledSize r tells = tells_single Letters.InstalledSize r.info _ (of_info r (codes "installed-size") _ (in_info r.info 11)) (tells refl)
package_tells Letters.BuildTime r tells = tells_single Letters.BuildTime r.info _ (of_info r (codes "build-time") _ (in_info r.info 10)) (tells refl)
package_tells Letters.ProviderPriority r tells = tells_single Letters.ProviderPriority r.info _ (of_info r (codes "provider-priority") _ (in_info r.info 13)) (tells refl)
package_tells Letters.ReplacesPriority r tells = tells_single Letters.ReplacesPriority r.info _ (nth_obj (package_parts r) 4) (tells refl)
package_tells Letters.RepoCommit r tells = tells_single Letters.RepoCommit r.info _ (of_info r (codes "repo-commit") _ (in_info r.info 9)) (tells refl)
package_tells Letters.Depends r tells = tells_joined Letters.Depends r.info _ (of_info r (codes "depends") _ (in_info r.info 14))
package_tells Letters.Provides r tells = tells_joined Letters.Provides r.info _ (of_info r (codes "provides") _ (in_info r.info 15))
package_tells Letters.Replaces r tells = tells_joined Letters.Replaces r.info _ (of_info r (codes "replaces") _ (in_info r.info 16))
package_tells Letters.InstallIf r tells = tells_joined Letters.InstallIf r.info _ (of_info r (codes "install-if") _ (in_info r.info 17))

nothing_told : (f : InfoField) → Tells f []
unfolding Tells
nothing_told f = refl

module _ (spelled : (t : List ℕ) (d : Dependency) → dependency_of t ≡ Some d → SpellsDependency t d) (read : (t : List ℕ) (d : Dependency) → SpellsDependency t d → dependency_of t ≡ Some d) where
  pub letters_tell : (lines : List (List ℕ)) (r : Record) (f : InfoField) → record_with_lines empty_record lines ≡ Some r → HasFieldValuesOfLinesWithItsLetter f lines (record_value r)
  letters_tell lines r f e = record {
    said = flat_map (given f) lines;
    say = say_lines spelled read f lines empty_record r e;
    tells = subst (λ (v : List TextNumberOrDependency). HasValuesAsList (is_list_letter f) v (letter_value_in_package f (record_value r)))
        (values_after f lines empty_record r e)
        (package_tells f r (λ once. tells_after f lines empty_record r once e (nothing_told f)));
  }
