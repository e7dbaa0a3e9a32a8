-- The files that differ from their records.
use Rattle.std.proofs.Common.{◌≡◌, ◌↔◌, inl, inr, ℕ, suc, Bool, true, false, List, [], ◌∷◌, ◌++◌, Option, Some, None, refl, ap, sym, ◌∙◌, subst, true≢false}
use Rattle.std.specs.Prelude.{IsSomeAnd, if◌then◌else◌}
use Rattle.std.specs.List.{flat_map}
use Rattle.path_clashes.specs.adb_fields.FirstPair.{IsIn}
use Rattle.path_clashes.proofs.adb_fields.Members.{from-flat_map, in-flat_map}
use Rattle.adb_view.specs.Plain.{Plain}
use Rattle.base_core.specs.Files.{Files}
use Rattle.file_guard.specs.AsListed.{is_as_listed}
use Rattle.package_files.specs.make_info.Reads.{Reads}
use Rattle.audit_core.specs.Audit.{FileDifference, audit_report, path_difference_if_any, difference_from_entry, difference_line, differences_from}
use Rattle.audit_core.specs.Differences.{AreAsRecorded, IsDifferenceIn, DiffersFromEntry, IsRecordOfPackages, file_differences}
use Rattle.audit_core.specs.Records.{PathAndEntry, database_records, package_records, record_path_cmp, records_by_path}
use Rattle.audit_core.specs.declared.comparing.Difference.{Difference}
use Rattle.audit_core.specs.declared.comparing.Difference.TheVariants.{Changed, Missing}
use Rattle.audit_core.proofs.SortedRecords.{from_sorted, in_sorted}

-- ---- over files, whatever the numbers of the reads

over_files : (files : Files) (read : Reads) (n : ℕ) (rs : List PathAndEntry) → ((k : ℕ) (name : List ℕ) → read k name ≡ files name)
    → differences_from read n rs ≡ flat_map (λ r. path_difference_if_any r.path (difference_from_entry r.entry (files r.path))) rs
over_files files read n [] same = refl
over_files files read n (r ∷ rs) same =
    ap (λ found. path_difference_if_any r.path (difference_from_entry r.entry found) ++ differences_from read (suc n) rs) (same n r.path)
    ∙ ap (λ ds. path_difference_if_any r.path (difference_from_entry r.entry (files r.path)) ++ ds) (over_files files read (suc n) rs same)

pub report_over : (files : Files) (read : Reads) (first : ℕ) (packages : List Plain) → ((n : ℕ) (name : List ℕ) → read n name ≡ files name)
    → audit_report read first packages ≡ flat_map difference_line (file_differences files packages)
unfolding audit_report file_differences
report_over files read first packages same = ap (flat_map difference_line) (over_files files read first (records_by_path packages) same)

-- ---- records

pub from_records : (packages : List Plain) (r : PathAndEntry) → IsIn r (records_by_path packages) → IsRecordOfPackages packages r
unfolding records_by_path
from_records packages r here =
    let found = from-flat_map package_records r packages (from_sorted record_path_cmp r (database_records packages) here) in
    record { pkg = found.0; installed = found.1; listed = found.2 }

pub in_records : (packages : List Plain) (r : PathAndEntry) → IsRecordOfPackages packages r → IsIn r (records_by_path packages)
unfolding records_by_path
in_records packages r is = in_sorted record_path_cmp r (database_records packages) (in-flat_map package_records r is.pkg packages is.installed is.listed)

-- ---- one file

some_bytes : (entry : Plain) (bytes : List ℕ) (difference : Difference) → difference_from_entry entry (Some bytes) ≡ Some difference → (Changed ≡ difference) × (is_as_listed entry bytes ≡ false)
some_bytes entry bytes difference e = go (is_as_listed entry bytes) refl e
  where
    go : (b : Bool) → is_as_listed entry bytes ≡ b → (if b then None else Some Changed) ≡ Some difference → (Changed ≡ difference) × (is_as_listed entry bytes ≡ false)
    go true is e = absurd (cc)
    go false is e = (cc, is)

is_different : (entry : Plain) (found : Option (List ℕ)) (difference : Difference) → difference_from_entry entry found ≡ Some difference → DiffersFromEntry difference entry found
is_different entry None difference e =
    let is : Missing ≡ difference = cc in subst (λ (d : Difference). DiffersFromEntry d entry None) is refl
is_different entry (Some bytes) difference e =
    let is = some_bytes entry bytes difference e in subst (λ (d : Difference). DiffersFromEntry d entry (Some bytes)) is.0 is.1

makes_difference : (entry : Plain) (found : Option (List ℕ)) (difference : Difference) → DiffersFromEntry difference entry found → difference_from_entry entry found ≡ Some difference
makes_difference entry None Missing is = refl
makes_difference entry (Some bytes) Missing is = absurd (cc)
makes_difference entry None Changed is = absurd is
makes_difference entry (Some bytes) Changed is = ap (λ b. if b then None else Some Changed) is

at_path : (path : List ℕ) (o : Option Difference) (d : FileDifference) → IsIn d (path_difference_if_any path o) → (path ≡ d.path) × (o ≡ Some d.difference)
at_path path None d here = absurd here
at_path path (Some difference) d (inl is) = (sym (ap (λ e. e.path) is), ap (λ e. Some e.difference) (sym is))
at_path path (Some difference) d (inr more) = absurd more

-- ---- each difference is one, and none is left out

pub difference_is : (files : Files) (packages : List Plain) (d : FileDifference) → IsIn d (file_differences files packages) → IsDifferenceIn packages files d
unfolding file_differences
difference_is files packages d here =
    let found = from-flat_map (λ (r : PathAndEntry). path_difference_if_any r.path (difference_from_entry r.entry (files r.path))) d (records_by_path packages) here in
    let r : PathAndEntry = found.0 in
    let at = at_path r.path (difference_from_entry r.entry (files r.path)) d found.2 in
    record {
      entry = r.entry;
      recorded = subst (λ (path : List ℕ). IsRecordOfPackages packages (record { path = path; entry = r.entry })) at.0 (from_records packages r found.1);
      differs = subst (λ (path : List ℕ). DiffersFromEntry d.difference r.entry (files path)) at.0 (is_different r.entry (files r.path) d.difference at.1);
    }

pub is_difference : (files : Files) (packages : List Plain) (d : FileDifference) → IsDifferenceIn packages files d → IsIn d (file_differences files packages)
unfolding file_differences
is_difference files packages d is =
    let r : PathAndEntry = record { path = d.path; entry = is.entry } in
    in-flat_map (λ (r : PathAndEntry). path_difference_if_any r.path (difference_from_entry r.entry (files r.path))) d r (records_by_path packages) (in_records packages r is.recorded)
    (subst (λ (o : Option Difference). IsIn d (path_difference_if_any d.path o)) (sym (makes_difference is.entry (files d.path) d.difference is.differs)) (inl refl))

-- ---- nothing is reported

abbrev is_empty : {X : Type 0} → List X → Bool
is_empty [] = true
is_empty (x ∷ xs) = false

no_lines : (ds : List FileDifference) → flat_map difference_line ds ≡ [] → ds ≡ []
no_lines [] e = refl
no_lines (d ∷ ds) e = absurd (true≢false (sym (ap is_empty e) ∙ not_empty d.difference))
  where
    not_empty : (difference : Difference) → is_empty (difference_line (record { path = d.path; difference = difference }) ++ flat_map difference_line ds) ≡ false
    not_empty Missing = refl
    not_empty Changed = refl

as_recorded : (entry : Plain) (found : Option (List ℕ)) → ((difference : Difference) → DiffersFromEntry difference entry found → ⊥) → IsSomeAnd found (λ bytes. is_as_listed entry bytes ≡ true)
as_recorded entry None none = absurd (none Missing refl)
as_recorded entry (Some bytes) none = go (is_as_listed entry bytes) refl
  where
    go : (b : Bool) → is_as_listed entry bytes ≡ b → is_as_listed entry bytes ≡ true
    go true is = is
    go false is = absurd (none Changed is)

not_different : (entry : Plain) (found : Option (List ℕ)) (difference : Difference) → IsSomeAnd found (λ bytes. is_as_listed entry bytes ≡ true) → DiffersFromEntry difference entry found → ⊥
not_different entry None difference listed is = listed
not_different entry (Some bytes) Missing listed is = absurd (cc)
not_different entry (Some bytes) Changed listed is = true≢false (sym listed ∙ is)

none_in : (ds : List FileDifference) → ((d : FileDifference) → IsIn d ds → ⊥) → ds ≡ []
none_in [] h = refl
none_in (d ∷ ds) h = absurd (h d (inl refl))

pub nothing_reported : (files : Files) (read : Reads) (first : ℕ) (packages : List Plain) → ((n : ℕ) (name : List ℕ) → read n name ≡ files name)
    → (audit_report read first packages ≡ []) ↔ AreAsRecorded packages files
nothing_reported files read first packages same = (
  λ e r is. as_recorded r.entry (files r.path) (λ difference differs.
      subst (IsIn (record { path = r.path; difference = difference })) (no_lines (file_differences files packages) (sym (report_over files read first packages same) ∙ e))
      (is_difference files packages (record { path = r.path; difference = difference }) (record { entry = r.entry; recorded = is; differs = differs }))),
  λ all. report_over files read first packages same
      ∙ ap (flat_map difference_line) (none_in (file_differences files packages) (λ d here.
      (let is = difference_is files packages d here in not_different is.entry (files d.path) d.difference (all (record { path = d.path; entry = is.entry }) is.recorded) is.differs))),
)
