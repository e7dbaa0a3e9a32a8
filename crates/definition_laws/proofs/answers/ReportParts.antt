-- What a report of a change consists of.
use Rattle.std.proofs.Common.{◌≡◌, ◌∙◌, ℕ, ◌+◌, Bool, true, false, List, [], ◌∷◌, ◌++◌, length, map, refl, ap, sym, subst}
use Rattle.std.specs.Prelude.{codes, if◌then◌else◌, sum_by}
use Rattle.std.specs.Fmt.{decimal}
use Rattle.std.specs.List.{flat_map}
use Rattle.std.specs.List.Sorted.{IsSorted}
use Rattle.std.specs.Ordering.{is_gt}
use Rattle.std.specs.declared.cmp.Ordering.{Ordering}
use Rattle.std.proofs.lemmas.Cmp.{nat_list_cmp_total}
use Rattle.std.proofs.lemmas.List.{append_assoc, length-map}
use Rattle.std.proofs.lemmas.List.Sums.{sum_by-cons}
use Rattle.base_core.proofs.Sorting.{sorted_same, sorted_up}
use Rattle.base_core.specs.ByteOrder.{bytes_cmp}
use Rattle.base_core.specs.Files.{Files}
use Rattle.base_core.specs.Sorted.{sorted_by, with_element_inserted}
use Rattle.tell_core.specs.candidate_core.Candidates.{Candidate}
use Rattle.change_outcome.specs.own_core.Fate.{apk_new_ending}
use Rattle.change_outcome.specs.own_core.FileChange.{FileChange}
use Rattle.change_outcome.specs.own_core.PlanLists.{paths_with_apk_new_file, kept_left_over_paths_of}
use Rattle.change_outcome.specs.ChangeOutcome.{ChangeWishes, change_report, member_installed_size, member_sum_line, touched_paths}
use Rattle.change_outcome.specs.ConfigurationLines.{PathWithReportLine, apk_new_file_line, lines_of_apk_new_and_kept_paths, kept_config_line, path_with_line_by, path_with_line_cmp_by_path}
use Rattle.change_outcome.specs.Triggers.{trigger_lines}
use Rattle.change_outcome.specs.db_core.Members.{Member}
use Rattle.change_outcome.specs.package_changes.Changes.{Replacement, changes_of}
use Rattle.change_outcome.specs.package_changes.Report.{candidate_installed_size, selected_sum_line, simulated_report, lines_on_names_that_stay}
use Rattle.report_core.specs.Reports.{change_lines, report_line, report_lines, bytes_and_package_count_text}
use Rattle.definition_laws.specs.answers.KeptNames.{IsEachNameSelectedAtMostOnce}
use Rattle.definition_laws.specs.answers.ReportSections.{ChangedFile, HasSortedConfigurationLines, HasChangeReportSections, HasSimulatedReportSections, IsBytesAndPackageCountLine, IsSumOf, changed_path, changed_file_text, installed_size_in_info, kept, placed_beside, member_info}
use Rattle.definition_laws.proofs.answers.DueLines.{trigger_lines_are}
use Rattle.definition_laws.proofs.answers.Needing.{kept_lines}
use Rattle.definition_laws.proofs.answers.Numbered.{numbered}

-- ---- the sum

summed : {X : Type 0} (size : X → ℕ) (xs : List X) → IsSumOf (map size xs) (sum_by size xs)
summed size [] = refl
summed size (x ∷ xs) = (sum_by size xs, summed size xs, sum_by-cons size x xs)

ended : (sum count : ℕ) → report_line (bytes_and_package_count_text sum count) ≡ codes "OK: " ++ decimal sum ++ codes " bytes in " ++ decimal count ++ codes " packages\n"
ended sum count = append_assoc (codes "OK: " ++ decimal sum ++ codes " bytes in " ++ decimal count) (codes " packages") (codes "\n")

has_sum : {X : Type 0} (size : X → ℕ) (xs : List X) → IsBytesAndPackageCountLine (map size xs) (report_line (bytes_and_package_count_text (sum_by size xs) (length xs)))
has_sum size xs = record {
  sum = sum_by size xs;
  sum_is = summed size xs;
  text_is = ended (sum_by size xs) (length xs)
      ∙ ap (λ (n : ℕ). codes "OK: " ++ decimal (sum_by size xs) ++ codes " bytes in " ++ decimal n ++ codes " packages\n") (sym (length-map xs size));
}

pub simulated_sum : (selected : List Candidate) → IsBytesAndPackageCountLine (map (λ (c : Candidate). installed_size_in_info c.info) selected) (selected_sum_line selected)
simulated_sum selected = has_sum candidate_installed_size selected

pub made_sum : (members : List Member) → IsBytesAndPackageCountLine (map (λ (m : Member). installed_size_in_info (member_info m)) members) (member_sum_line members)
made_sum members = has_sum member_installed_size members

-- ---- configuration

-- an order of values that is that of what is made of them is kept
element_map : {X Y : Type 0} (f : X → Y) (cmp : X → X → Ordering) (by : Y → Y → Ordering) → ((x y : X) → cmp x y ≡ by (f x) (f y)) → (x : X) (ys : List X) → map f (with_element_inserted cmp x ys) ≡ with_element_inserted by (f x) (map f ys)
element_map f cmp by same x [] = refl
element_map f cmp by same x (y ∷ ys) =
    split (is_gt (cmp x y)) (element_map f cmp by same x ys)
    ∙ ap (λ (o : Ordering). if is_gt o then f y ∷ with_element_inserted by (f x) (map f ys) else f x ∷ f y ∷ map f ys) (same x y)
  where
    split : (b : Bool) → map f (with_element_inserted cmp x ys) ≡ with_element_inserted by (f x) (map f ys)
        → map f (if b then y ∷ with_element_inserted cmp x ys else x ∷ y ∷ ys) ≡ (if b then f y ∷ with_element_inserted by (f x) (map f ys) else f x ∷ f y ∷ map f ys)
    split true more = ap (λ (l : List _). f y ∷ l) more
    split false more = refl

sorted_map : {X Y : Type 0} (f : X → Y) (cmp : X → X → Ordering) (by : Y → Y → Ordering) → ((x y : X) → cmp x y ≡ by (f x) (f y)) → (xs : List X) → map f (sorted_by cmp xs) ≡ sorted_by by (map f xs)
sorted_map f cmp by same [] = refl
sorted_map f cmp by same (x ∷ xs) =
    element_map f cmp by same x (sorted_by cmp xs) ∙ ap (with_element_inserted by (f x)) (sorted_map f cmp by same xs)

abbrev changed_cmp : ChangedFile → ChangedFile → Ordering
changed_cmp x y = bytes_cmp (changed_path x) (changed_path y)

abbrev line_of : ChangedFile → PathWithReportLine
line_of (placed_beside path) = path_with_line_by apk_new_file_line path
line_of (kept path) = path_with_line_by kept_config_line path

path_is : (x : ChangedFile) → changed_path x ≡ (line_of x).path
path_is (placed_beside path) = refl
path_is (kept path) = refl

same_order : (x y : ChangedFile) → changed_cmp x y ≡ path_with_line_cmp_by_path (line_of x) (line_of y)
same_order x y = ap (λ (p : List ℕ). bytes_cmp p (changed_path y)) (path_is x) ∙ ap (bytes_cmp (line_of x).path) (path_is y)

abbrev all_changed : List (List ℕ) → List (List ℕ) → List ChangedFile
all_changed aside kept_paths = map placed_beside aside ++ map kept kept_paths

kept_lines_are : (paths : List (List ℕ)) → map line_of (map kept paths) ≡ map (path_with_line_by kept_config_line) paths
kept_lines_are [] = refl
kept_lines_are (path ∷ paths) = ap (λ (l : List PathWithReportLine). path_with_line_by kept_config_line path ∷ l) (kept_lines_are paths)

lines_are : (aside kept_paths : List (List ℕ)) → map line_of (all_changed aside kept_paths) ≡ map (path_with_line_by apk_new_file_line) aside ++ map (path_with_line_by kept_config_line) kept_paths
lines_are [] kept_paths = kept_lines_are kept_paths
lines_are (path ∷ aside) kept_paths = ap (λ (l : List PathWithReportLine). path_with_line_by apk_new_file_line path ∷ l) (lines_are aside kept_paths)

text_of_file : (x : ChangedFile) → (line_of x).line ≡ report_line (changed_file_text x)
text_of_file (placed_beside path) = ap (λ (t : List ℕ). report_line (t ++ path ++ codes " was changed")) (append_assoc path apk_new_ending (codes " installed; "))
text_of_file (kept path) = refl

text_of_files : (xs : List ChangedFile) → flat_map (λ (l : PathWithReportLine). l.line) (map line_of xs) ≡ report_lines (map changed_file_text xs)
text_of_files [] = refl
text_of_files (x ∷ xs) =
    ap (λ (t : List ℕ). t ++ flat_map (λ (l : PathWithReportLine). l.line) (map line_of xs)) (text_of_file x)
    ∙ ap (λ (t : List ℕ). report_line (changed_file_text x) ++ t) (text_of_files xs)

pub configured : (aside kept_paths : List (List ℕ)) → HasSortedConfigurationLines aside kept_paths (lines_of_apk_new_and_kept_paths aside kept_paths)
unfolding lines_of_apk_new_and_kept_paths
configured aside kept_paths =
    let all : List ChangedFile = all_changed aside kept_paths in
    record {
      changed = sorted_by changed_cmp all;
      same = sorted_same changed_cmp all;
      order = subst (IsSorted bytes_cmp) (sym (sorted_map changed_path changed_cmp bytes_cmp (λ x y. refl) all)) (sorted_up bytes_cmp nat_list_cmp_total (map changed_path all));
      text_is =
          sym (ap (λ (l : List PathWithReportLine). flat_map (λ (l : PathWithReportLine). l.line) l)
          (sorted_map line_of changed_cmp path_with_line_cmp_by_path same_order all ∙ ap (sorted_by path_with_line_cmp_by_path) (lines_are aside kept_paths)))
          ∙ text_of_files (sorted_by changed_cmp all);
    }

-- ---- the sections

pub simulated_sections : (r : Replacement) (to_remove : List (List ℕ)) → IsEachNameSelectedAtMostOnce r.selected → HasSimulatedReportSections r to_remove (simulated_report r to_remove)
unfolding simulated_report
simulated_sections r to_remove once = record {
  changes = change_lines (changes_of r);
  numbered = numbered (changes_of r);
  stays = lines_on_names_that_stay r.before r.selected to_remove;
  kept_lines = kept_lines r.before r.selected to_remove once;
  last = selected_sum_line r.selected;
  sum = simulated_sum r.selected;
  text_is = refl;
}

pub made_sections : (r : Replacement) (wishes : ChangeWishes) (change : FileChange) (files : Files) → IsEachNameSelectedAtMostOnce r.selected → HasChangeReportSections r wishes change files (change_report r wishes change files)
made_sections r wishes change files once = record {
  changes = change_lines (changes_of r);
  numbered = numbered (changes_of r);
  stays = lines_on_names_that_stay r.before r.selected wishes.to_remove;
  kept_lines = kept_lines r.before r.selected wishes.to_remove once;
  configuration = lines_of_apk_new_and_kept_paths (paths_with_apk_new_file change files) (kept_left_over_paths_of change files);
  configured = configured (paths_with_apk_new_file change files) (kept_left_over_paths_of change files);
  triggers = trigger_lines (touched_paths change files) change.members;
  due = trigger_lines_are (touched_paths change files) change.members;
  last = member_sum_line change.members;
  sum = made_sum change.members;
  text_is = refl;
}
