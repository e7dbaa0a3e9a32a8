-- No text is bad exactly if each keeps the rule of its field.
use Rattle.std.proofs.Common.{◌≡◌, ℕ, zero, suc, ◌+◌, Bool, true, false, List, ◌++◌, Some, None, refl, sym, ap, ◌∙◌, ◌↔◌, ◌<◌, arith}
use Rattle.std.specs.Prelude.{if◌then◌else◌}
use Rattle.std.proofs.lemmas.Bool.{and_from, and_parts}
use Rattle.base_core.specs.declared.cause.Cause.{Cause}
use Rattle.base_core.specs.declared.cause.Cause.TheVariants.{BadText}
use Rattle.base_core.proofs.Causes.{both_none, none_both}
use Rattle.adb_view.specs.Plain.{Plain, Plains, none, more, Shape, text, hash, Fields, no_fields, field}
use Rattle.adb_view.specs.Shaped.{Each}
use Rattle.adb_view.specs.Values.{nth, count_of, entries_in, entry_at_index, int_in, text_in}
use Rattle.adb_view.specs.Schema.{shape_of, shapes_of, table}
use Rattle.adb_view.specs.declared.tables.Which.{Which}
use Rattle.adb_view.specs.declared.tables.Which.TheVariants as Tables
use Rattle.adb_view.specs.declared.tables.Kind.TheVariants.{Obj, ObjArr, TextArr}
use Rattle.adb_schema.specs.Texts.{Surroundings, Leaf, leaves_of_all_values, leaves, field_leaves, first_bad_leaf, text_or_number_fault, is_allowed_text_of_field, surroundings_of_root, surroundings_of_fields, is_path_unreserved_if_in_database}
use Rattle.dep_core.specs.Value.{is_match_number}
use Rattle.adb_fields.specs.Paths.{path_of}
use Rattle.adb_schema.specs.Rules.{is_valid_file_name_in_folder}
use Rattle.adb_schema.specs.SoundValues.{ObeysTextAndNumberRulesOfDependency, ObeysTextAndNumberRulesOfInformation, ObeysTextAndNumberRulesOfFileInFolder, ObeysTextAndNumberRulesOfFolder, ObeysTextAndNumberRulesOfPackage, ObeysTextAndNumberRulesOfIndex, ObeysTextAndNumberRulesOfIntent, IsNameAllowedInIntent, ObeysTextAndNumberRulesOfTable}
use Rattle.adb_schema.proofs.TextSteps.{first_bad_leaf-append, behind, behind-zero, nth-behind, behind-behind}

abbrev pub Good : List Leaf → Type 0
Good xs = first_bad_leaf xs ≡ None

-- ---- lists of leaves

kept : (b : Bool) (c : Cause) → (if b then None else Some c) ≡ None → b ≡ true
kept true c e = refl
kept false c e = absurd cc

good_if : (b : Bool) (c : Cause) → b ≡ true → (if b then None else Some c) ≡ None
good_if true c e = refl
good_if false c e = absurd cc

good-parts : (xs ys : List Leaf) → Good (xs ++ ys) → Good xs × Good ys
good-parts xs ys h = both_none (first_bad_leaf xs) (first_bad_leaf ys) (sym (first_bad_leaf-append xs ys) ∙ h)

good-append : (xs ys : List Leaf) → Good xs → Good ys → Good (xs ++ ys)
good-append xs ys h k = first_bad_leaf-append xs ys ∙ none_both (first_bad_leaf xs) (first_bad_leaf ys) h k

-- ---- the entries of an array

each_good : (P : Plain → Type 0) (f : Plain → List Leaf) → ((v : Plain) → Good (f v) → P v) → (vs : Plains) → Good (leaves_of_all_values f vs) → Each P vs
each_good P f h none g = tt
each_good P f h (more v vs) g = let (a, b) = good-parts (f v) (leaves_of_all_values f vs) g in (h v a, each_good P f h vs b)

good_each : (P : Plain → Type 0) (f : Plain → List Leaf) → ((v : Plain) → P v → Good (f v)) → (vs : Plains) → Each P vs → Good (leaves_of_all_values f vs)
good_each P f h none g = refl
good_each P f h (more v vs) g = good-append (f v) (leaves_of_all_values f vs) (h v g.0) (good_each P f h vs g.1)

always_each : (f : Plain → List Leaf) → ((v : Plain) → Good (f v)) → (vs : Plains) → Good (leaves_of_all_values f vs)
always_each f h none = refl
always_each f h (more v vs) = good-append (f v) (leaves_of_all_values f vs) (h v) (always_each f h vs)

-- ---- the fields of an object

abbrev pub AreGood : Fields → ℕ → Surroundings → Plains → ℕ → Type 0
AreGood no_fields k a vs i = Unit {0}
AreGood (field n s fs) k a vs i = Good (leaves s k a (nth vs i)) × AreGood fs (k + 1) a vs (suc i)

one_field : (n : List ℕ) (s : Shape) (fs : Fields) (k : ℕ) (a : Surroundings) (vs : Plains)
    → field_leaves (field n s fs) k a vs ≡ leaves s k a (nth vs 0) ++ field_leaves fs (k + 1) a (behind 1 vs)
unfolding field_leaves behind
one_field n s fs k a none = refl
one_field n s fs k a (more v vs) = refl

field_at : (n : List ℕ) (s : Shape) (fs : Fields) (k : ℕ) (a : Surroundings) (vs : Plains) (i : ℕ)
    → field_leaves (field n s fs) k a (behind i vs) ≡ leaves s k a (nth vs i) ++ field_leaves fs (k + 1) a (behind (suc i) vs)
field_at n s fs k a vs i =
    one_field n s fs k a (behind i vs)
    ∙ ap (λ v. leaves s k a v ++ field_leaves fs (k + 1) a (behind 1 (behind i vs))) (nth-behind i vs)
    ∙ ap (λ us. leaves s k a (nth vs i) ++ field_leaves fs (k + 1) a us) (behind-behind i vs)

good_fields_from : (fs : Fields) (k : ℕ) (a : Surroundings) (vs : Plains) (i : ℕ) → Good (field_leaves fs k a (behind i vs)) → AreGood fs k a vs i
good_fields_from no_fields k a vs i g = tt
good_fields_from (field n s fs) k a vs i g =
    let (here, later) = good-parts (leaves s k a (nth vs i)) (field_leaves fs (k + 1) a (behind (suc i) vs)) (ap first_bad_leaf (sym (field_at n s fs k a vs i)) ∙ g) in
    (here, good_fields_from fs (k + 1) a vs (suc i) later)

fields_good_from : (fs : Fields) (k : ℕ) (a : Surroundings) (vs : Plains) (i : ℕ) → AreGood fs k a vs i → Good (field_leaves fs k a (behind i vs))
unfolding field_leaves
fields_good_from no_fields k a vs i g = refl
fields_good_from (field n s fs) k a vs i g =
    ap first_bad_leaf (field_at n s fs k a vs i) ∙ good-append (leaves s k a (nth vs i)) (field_leaves fs (k + 1) a (behind (suc i) vs)) g.0 (fields_good_from fs (k + 1) a vs (suc i) g.1)

good_fields : (fs : Fields) (k : ℕ) (a : Surroundings) (vs : Plains) → Good (field_leaves fs k a vs) → AreGood fs k a vs 0
good_fields fs k a vs g = good_fields_from fs k a vs 0 (ap (λ us. first_bad_leaf (field_leaves fs k a us)) (behind-zero vs) ∙ g)

fields_good : (fs : Fields) (k : ℕ) (a : Surroundings) (vs : Plains) → AreGood fs k a vs 0 → Good (field_leaves fs k a vs)
fields_good fs k a vs g = sym (ap (λ us. first_bad_leaf (field_leaves fs k a us)) (behind-zero vs)) ∙ fields_good_from fs k a vs 0 g

-- ---- texts

text_kept : (k : ℕ) (a : Surroundings) (v : Plain) → Good (leaves text k a v) → is_allowed_text_of_field k a (text_in v) ≡ true
unfolding leaves
text_kept k a v g = kept (is_allowed_text_of_field k a (text_in v)) (BadText k) g

kept_text : (k : ℕ) (a : Surroundings) (v : Plain) → is_allowed_text_of_field k a (text_in v) ≡ true → Good (leaves text k a v)
unfolding leaves
kept_text k a v e = good_if (is_allowed_text_of_field k a (text_in v)) (BadText k) e

hash_kept : (k : ℕ) (a : Surroundings) (v : Plain) → Good (leaves hash k a v) → is_allowed_text_of_field k a (text_in v) ≡ true
unfolding leaves
hash_kept k a v g = kept (is_allowed_text_of_field k a (text_in v)) (BadText k) g

kept_hash : (k : ℕ) (a : Surroundings) (v : Plain) → is_allowed_text_of_field k a (text_in v) ≡ true → Good (leaves hash k a v)
unfolding leaves
kept_hash k a v e = good_if (is_allowed_text_of_field k a (text_in v)) (BadText k) e

-- ---- table by table, from the leaves and back to them

dependency_of : (k : ℕ) (a : Surroundings) (v : Plain) → Good (leaves (shape_of (Obj Tables.Dep)) k a v) → ObeysTextAndNumberRulesOfDependency v
unfolding leaves shape_of is_allowed_text_of_field
dependency_of k a v g =
    let b : Surroundings = surroundings_of_fields 1 a v in
    let h = good_fields (shapes_of (table Tables.Dep)) 101 b (entries_in v) g in
    record {
      name = text_kept 101 b (entry_at_index v 0) h.0;
      version = text_kept 102 b (entry_at_index v 1) h.1.0;
      matching = kept (is_match_number (int_in (entry_at_index v 2))) (BadText 103) h.1.1.0;
    }

of_dependency : (k : ℕ) (a : Surroundings) (v : Plain) → ObeysTextAndNumberRulesOfDependency v → Good (leaves (shape_of (Obj Tables.Dep)) k a v)
unfolding leaves shape_of is_allowed_text_of_field
of_dependency k a v d =
    let b : Surroundings = surroundings_of_fields 1 a v in
    fields_good (shapes_of (table Tables.Dep)) 101 b (entries_in v)
    (kept_text 101 b (entry_at_index v 0) d.name, (kept_text 102 b (entry_at_index v 1) d.version, (good_if (is_match_number (int_in (entry_at_index v 2))) (BadText 103) d.matching, tt)))

dependencies_of : (k : ℕ) (a : Surroundings) (v : Plain) → Good (leaves (shape_of (ObjArr Tables.Dep)) k a v) → Each ObeysTextAndNumberRulesOfDependency (entries_in v)
unfolding leaves shape_of
dependencies_of k a v g = each_good ObeysTextAndNumberRulesOfDependency (leaves (shape_of (Obj Tables.Dep)) k a) (dependency_of k a) (entries_in v) g

of_dependencies : (k : ℕ) (a : Surroundings) (v : Plain) → Each ObeysTextAndNumberRulesOfDependency (entries_in v) → Good (leaves (shape_of (ObjArr Tables.Dep)) k a v)
unfolding leaves shape_of
of_dependencies k a v d = good_each ObeysTextAndNumberRulesOfDependency (leaves (shape_of (Obj Tables.Dep)) k a) (of_dependency k a) (entries_in v) d

-- texts without a rule are never bad
plain_texts : (k : ℕ) (a : Surroundings) (v : Plain) → ((bytes : List ℕ) → is_allowed_text_of_field k a bytes ≡ true) → Good (leaves (shape_of TextArr) k a v)
unfolding leaves shape_of
plain_texts k a v h = always_each (leaves text k a) (λ u. kept_text k a u (h (text_in u))) (entries_in v)

information_of : (k : ℕ) (a : Surroundings) (v : Plain) → Good (leaves (shape_of (Obj Tables.PkgInfo)) k a v) → ObeysTextAndNumberRulesOfInformation a.root v
unfolding leaves shape_of is_allowed_text_of_field
information_of k a v g =
    let b : Surroundings = surroundings_of_fields 3 a v in
    let h = good_fields (shapes_of (table Tables.PkgInfo)) 301 b (entries_in v) g in
    let d = h.1.1.1.1.1.1.1.1.1.1.1.1.1.1 in
    record {
      name = text_kept 301 b (entry_at_index v 0) h.0;
      version = text_kept 302 b (entry_at_index v 1) h.1.0;
      hash = hash_kept 303 b (entry_at_index v 2) h.1.1.0;
      depends = dependencies_of 315 b (entry_at_index v 14) d.0;
      provides = dependencies_of 316 b (entry_at_index v 15) d.1.0;
      replaces = dependencies_of 317 b (entry_at_index v 16) d.1.1.0;
      install_if = dependencies_of 318 b (entry_at_index v 17) d.1.1.1.0;
      recommends = dependencies_of 319 b (entry_at_index v 18) d.1.1.1.1.0;
    }

of_information : (k : ℕ) (a : Surroundings) (v : Plain) → ObeysTextAndNumberRulesOfInformation a.root v → Good (leaves (shape_of (Obj Tables.PkgInfo)) k a v)
unfolding leaves shape_of is_allowed_text_of_field
of_information k a v d =
    let b : Surroundings = surroundings_of_fields 3 a v in
    fields_good (shapes_of (table Tables.PkgInfo)) 301 b (entries_in v)
    (kept_text 301 b (entry_at_index v 0) d.name, (kept_text 302 b (entry_at_index v 1) d.version, (kept_hash 303 b (entry_at_index v 2) d.hash, (refl, (refl, (refl, (refl, (refl, (refl, (refl, (refl, (refl, (refl, (refl, (of_dependencies 315 b (entry_at_index v 14) d.depends, (of_dependencies 316 b (entry_at_index v 15) d.provides, (of_dependencies 317 b (entry_at_index v 16) d.replaces, (of_dependencies 318 b (entry_at_index v 17) d.install_if, (of_dependencies 319 b (entry_at_index v 18) d.recommends, (refl, (plain_texts 321 b (entry_at_index v 20) (λ bytes. refl), (refl, tt))))))))))))))))))))))

rights_good : (k : ℕ) (a : Surroundings) (v : Plain) → Good (leaves (shape_of (Obj Tables.Acl)) k a v)
unfolding leaves shape_of is_allowed_text_of_field
rights_good k a v = fields_good (shapes_of (table Tables.Acl)) 201 (surroundings_of_fields 2 a v) (entries_in v) (refl, (refl, (refl, (plain_texts 204 (surroundings_of_fields 2 a v) (entry_at_index v 3) (λ bytes. refl), tt))))

scripts_good : (k : ℕ) (a : Surroundings) (v : Plain) → Good (leaves (shape_of (Obj Tables.Scripts)) k a v)
unfolding leaves shape_of is_allowed_text_of_field
scripts_good k a v = fields_good (shapes_of (table Tables.Scripts)) 601 (surroundings_of_fields 6 a v) (entries_in v) (refl, (refl, (refl, (refl, (refl, (refl, (refl, tt)))))))

file_of : (k : ℕ) (a : Surroundings) (v : Plain) → Good (leaves (shape_of (Obj Tables.File)) k a v) → ObeysTextAndNumberRulesOfFileInFolder a.root a.folder v
unfolding leaves shape_of is_allowed_text_of_field
file_of k a v g =
    let b : Surroundings = surroundings_of_fields 4 a v in
    let h = good_fields (shapes_of (table Tables.File)) 401 b (entries_in v) g in
    let (name, listed) = and_parts (is_valid_file_name_in_folder a.folder (text_in (entry_at_index v 0))) (is_path_unreserved_if_in_database a.root (path_of a.folder (text_in (entry_at_index v 0)))) (text_kept 401 b (entry_at_index v 0) h.0) in
    record {
      name = name;
      listed = listed;
      hash = hash_kept 405 b (entry_at_index v 4) h.1.1.1.1.0;
      target = text_kept 406 b (entry_at_index v 5) h.1.1.1.1.1.0;
    }

of_file : (k : ℕ) (a : Surroundings) (v : Plain) → ObeysTextAndNumberRulesOfFileInFolder a.root a.folder v → Good (leaves (shape_of (Obj Tables.File)) k a v)
unfolding leaves shape_of is_allowed_text_of_field
of_file k a v d =
    let b : Surroundings = surroundings_of_fields 4 a v in
    let named = and_from (is_valid_file_name_in_folder a.folder (text_in (entry_at_index v 0))) (is_path_unreserved_if_in_database a.root (path_of a.folder (text_in (entry_at_index v 0)))) d.name d.listed in
    fields_good (shapes_of (table Tables.File)) 401 b (entries_in v)
    (kept_text 401 b (entry_at_index v 0) named, (rights_good 402 b (entry_at_index v 1), (refl, (refl, (kept_hash 405 b (entry_at_index v 4) d.hash, (kept_text 406 b (entry_at_index v 5) d.target, (refl, tt)))))))

folder_of : (k : ℕ) (a : Surroundings) (v : Plain) → Good (leaves (shape_of (Obj Tables.Dir)) k a v) → ObeysTextAndNumberRulesOfFolder a.root v
unfolding leaves shape_of is_allowed_text_of_field
folder_of k a v g =
    let b : Surroundings = surroundings_of_fields 5 a v in
    let h = good_fields (shapes_of (table Tables.Dir)) 501 b (entries_in v) g in
    record {
      name = text_kept 501 b (entry_at_index v 0) h.0;
      files = each_good (ObeysTextAndNumberRulesOfFileInFolder b.root b.folder) (leaves (shape_of (Obj Tables.File)) 503 b) (file_of 503 b) (entries_in (entry_at_index v 2)) h.1.1.0;
    }

of_folder : (k : ℕ) (a : Surroundings) (v : Plain) → ObeysTextAndNumberRulesOfFolder a.root v → Good (leaves (shape_of (Obj Tables.Dir)) k a v)
unfolding leaves shape_of is_allowed_text_of_field
of_folder k a v d =
    let b : Surroundings = surroundings_of_fields 5 a v in
    fields_good (shapes_of (table Tables.Dir)) 501 b (entries_in v)
    (kept_text 501 b (entry_at_index v 0) d.name, (rights_good 502 b (entry_at_index v 1), (good_each (ObeysTextAndNumberRulesOfFileInFolder b.root b.folder) (leaves (shape_of (Obj Tables.File)) 503 b) (of_file 503 b) (entries_in (entry_at_index v 2)) d.files, tt)))

package_of : (k : ℕ) (a : Surroundings) (v : Plain) → Good (leaves (shape_of (Obj Tables.Package)) k a v) → ObeysTextAndNumberRulesOfPackage a.root v
unfolding leaves shape_of is_allowed_text_of_field
package_of k a v g =
    let b : Surroundings = surroundings_of_fields 7 a v in
    let h = good_fields (shapes_of (table Tables.Package)) 701 b (entries_in v) g in
    record {
      info = information_of 701 b (entry_at_index v 0) h.0;
      folders = each_good (ObeysTextAndNumberRulesOfFolder b.root) (leaves (shape_of (Obj Tables.Dir)) 702 b) (folder_of 702 b) (entries_in (entry_at_index v 1)) h.1.0;
    }

of_package : (k : ℕ) (a : Surroundings) (v : Plain) → ObeysTextAndNumberRulesOfPackage a.root v → Good (leaves (shape_of (Obj Tables.Package)) k a v)
unfolding leaves shape_of is_allowed_text_of_field
of_package k a v d =
    let b : Surroundings = surroundings_of_fields 7 a v in
    fields_good (shapes_of (table Tables.Package)) 701 b (entries_in v)
    (of_information 701 b (entry_at_index v 0) d.info, (good_each (ObeysTextAndNumberRulesOfFolder b.root) (leaves (shape_of (Obj Tables.Dir)) 702 b) (of_folder 702 b) (entries_in (entry_at_index v 1)) d.folders, (scripts_good 703 b (entry_at_index v 2), (plain_texts 704 b (entry_at_index v 3) (λ bytes. refl), (refl, tt)))))

index_of : (v : Plain) → Good (leaves (shape_of (Obj Tables.Index)) 0 (surroundings_of_root Tables.Index) v) → ObeysTextAndNumberRulesOfIndex v
unfolding leaves shape_of is_allowed_text_of_field
index_of v g =
    let b : Surroundings = surroundings_of_fields 8 (surroundings_of_root Tables.Index) v in
    let h = good_fields (shapes_of (table Tables.Index)) 801 b (entries_in v) g in
    record {
      packages = each_good (ObeysTextAndNumberRulesOfInformation Tables.Index) (leaves (shape_of (Obj Tables.PkgInfo)) 802 b) (information_of 802 b) (entries_in (entry_at_index v 1)) h.1.0;
      pattern = text_kept 803 b (entry_at_index v 2) h.1.1.0;
    }

of_index : (v : Plain) → ObeysTextAndNumberRulesOfIndex v → Good (leaves (shape_of (Obj Tables.Index)) 0 (surroundings_of_root Tables.Index) v)
unfolding leaves shape_of is_allowed_text_of_field
of_index v d =
    let b : Surroundings = surroundings_of_fields 8 (surroundings_of_root Tables.Index) v in
    fields_good (shapes_of (table Tables.Index)) 801 b (entries_in v)
    (refl, (good_each (ObeysTextAndNumberRulesOfInformation Tables.Index) (leaves (shape_of (Obj Tables.PkgInfo)) 802 b) (of_information 802 b) (entries_in (entry_at_index v 1)) d.packages, (kept_text 803 b (entry_at_index v 2) d.pattern, tt)))

database_of : (v : Plain) → Good (leaves (shape_of (Obj Tables.Idb)) 0 (surroundings_of_root Tables.Idb) v) → Each (ObeysTextAndNumberRulesOfPackage Tables.Idb) (entries_in (entry_at_index v 0))
unfolding leaves shape_of is_allowed_text_of_field
database_of v g =
    let b : Surroundings = surroundings_of_fields 9 (surroundings_of_root Tables.Idb) v in
    let h = good_fields (shapes_of (table Tables.Idb)) 901 b (entries_in v) g in
    each_good (ObeysTextAndNumberRulesOfPackage Tables.Idb) (leaves (shape_of (Obj Tables.Package)) 901 b) (package_of 901 b) (entries_in (entry_at_index v 0)) h.0

of_database : (v : Plain) → Each (ObeysTextAndNumberRulesOfPackage Tables.Idb) (entries_in (entry_at_index v 0)) → Good (leaves (shape_of (Obj Tables.Idb)) 0 (surroundings_of_root Tables.Idb) v)
unfolding leaves shape_of is_allowed_text_of_field
of_database v d =
    let b : Surroundings = surroundings_of_fields 9 (surroundings_of_root Tables.Idb) v in
    fields_good (shapes_of (table Tables.Idb)) 901 b (entries_in v)
    (good_each (ObeysTextAndNumberRulesOfPackage Tables.Idb) (leaves (shape_of (Obj Tables.Package)) 901 b) (of_package 901 b) (entries_in (entry_at_index v 0)) d, tt)

intent_of : (v : Plain) → Good (leaves (shape_of (Obj Tables.Intent)) 0 (surroundings_of_root Tables.Intent) v) → ObeysTextAndNumberRulesOfIntent v
unfolding leaves shape_of is_allowed_text_of_field
intent_of v g =
    let b : Surroundings = surroundings_of_fields 10 (surroundings_of_root Tables.Intent) v in
    let h = good_fields (shapes_of (table Tables.Intent)) 1001 b (entries_in v) g in
    record {
      removals = each_good IsNameAllowedInIntent (leaves text 1001 b) (text_kept 1001 b) (entries_in (entry_at_index v 0)) h.0;
      writes = each_good IsNameAllowedInIntent (leaves text 1002 b) (text_kept 1002 b) (entries_in (entry_at_index v 1)) h.1.0;
    }

of_intent : (v : Plain) → ObeysTextAndNumberRulesOfIntent v → Good (leaves (shape_of (Obj Tables.Intent)) 0 (surroundings_of_root Tables.Intent) v)
unfolding leaves shape_of is_allowed_text_of_field
of_intent v d =
    let b : Surroundings = surroundings_of_fields 10 (surroundings_of_root Tables.Intent) v in
    fields_good (shapes_of (table Tables.Intent)) 1001 b (entries_in v)
    (good_each IsNameAllowedInIntent (leaves text 1001 b) (kept_text 1001 b) (entries_in (entry_at_index v 0)) d.removals, (good_each IsNameAllowedInIntent (leaves text 1002 b) (kept_text 1002 b) (entries_in (entry_at_index v 1)) d.writes, tt))

pub rules_kept : (which : Which) (v : Plain) → (text_or_number_fault which v ≡ None) ↔ ObeysTextAndNumberRulesOfTable which v
rules_kept Tables.Dep v = (dependency_of 0 (surroundings_of_root Tables.Dep) v, of_dependency 0 (surroundings_of_root Tables.Dep) v)
rules_kept Tables.Acl v = (λ g. tt, λ d. rights_good 0 (surroundings_of_root Tables.Acl) v)
rules_kept Tables.PkgInfo v = (information_of 0 (surroundings_of_root Tables.PkgInfo) v, of_information 0 (surroundings_of_root Tables.PkgInfo) v)
rules_kept Tables.File v = (file_of 0 (surroundings_of_root Tables.File) v, of_file 0 (surroundings_of_root Tables.File) v)
rules_kept Tables.Dir v = (folder_of 0 (surroundings_of_root Tables.Dir) v, of_folder 0 (surroundings_of_root Tables.Dir) v)
rules_kept Tables.Scripts v = (λ g. tt, λ d. scripts_good 0 (surroundings_of_root Tables.Scripts) v)
rules_kept Tables.Package v = (package_of 0 (surroundings_of_root Tables.Package) v, of_package 0 (surroundings_of_root Tables.Package) v)
rules_kept Tables.Index v = (index_of v, of_index v)
rules_kept Tables.Idb v = (database_of v, of_database v)
rules_kept Tables.Intent v = (intent_of v, of_intent v)

-- ---- the entries of a list

pub each_at : (P : Plain → Type 0) (vs : Plains) (i : ℕ) → Each P vs → i < count_of vs → P (nth vs i)
each_at P none i e lt = absurd (omega arith)
each_at P (more v vs) zero e lt = e.0
each_at P (more v vs) (suc i) e lt = each_at P vs i e.1 (omega arith)
