-- Patterns one by one, and packages one by one.
use Rattle.std.proofs.Common.{◌≡◌, ℕ, ◌+◌, ◌<◌, ◌≤◌, Bool, true, false, List, [], drop, get_or, length, map, Bor, Some, None, ap, sym, ◌∙◌, arith}
use Rattle.std.specs.Prelude.{◌&&◌, if◌then◌else◌, Err, slice_get}
use Rattle.std.specs.Option.{option_map_or}
use Rattle.std.specs.List.{list_any}
use Rattle.std.proofs.lemmas.List.{drop_all}
use Rattle.adb_view.specs.Plain.{Plain}
use Rattle.adb_view.specs.Values.{count_of, entries_in, entry_at_index, text_in}
use Rattle.change_outcome.specs.adb_fields.Repeated.{list_of}
use Rattle.change_outcome.proofs.adb_fields.NameLists.{count-listed}
use Rattle.change_outcome.proofs.adb_fields.Listed.{next_listed}
use Rattle.change_outcome.specs.db_core.Members.{Member, member_name}
use Rattle.report_core.specs.declared.refusal.Refusal.TheVariants.{TriggerNeeded}
use Rattle.change_outcome.specs.Triggers.{folders_of_paths, has_due_trigger, is_trigger_due, is_folder_matched_by_pattern, watches_folder, unless_trigger_due}
use Rattle.change_outcome.specs.PackageFiles.{has_script_with_number}
use Rattle.report_core.specs.Numbers.{TRIGGER_SCRIPT}
use Rattle.change_report.specs.Due.{refusal_if_trigger_due}
use Rattle.change_report.proofs.Loops.{any_here, any_later, any_mapped, any_none, left_at, made_at}

-- ---- patterns

abbrev pub matches : List ℕ → Plain → Bool
matches folder v = is_folder_matched_by_pattern folder (text_in v)

-- the patterns are those of a package
watched_by : (folder : List ℕ) (pkg patterns : Plain) → patterns ≡ entry_at_index pkg 3 → list_any (matches folder) (list_of (entries_in patterns)) ≡ watches_folder pkg folder
watched_by folder pkg patterns are =
    any_mapped (is_folder_matched_by_pattern folder) text_in (list_of (entries_in patterns))
    ∙ ap (λ z. list_any (is_folder_matched_by_pattern folder) (map text_in (list_of (entries_in z)))) are

pub pattern_matches : (folder : List ℕ) (pkg patterns : Plain) (i : ℕ) (t : Bool) → patterns ≡ entry_at_index pkg 3 → i < count_of (entries_in patterns)
    → t ≡ is_folder_matched_by_pattern folder (text_in (entry_at_index patterns i)) → t ≡ true
    → list_any (matches folder) (drop i (list_of (entries_in patterns))) ≡ list_any (matches folder) (list_of (entries_in patterns))
    → true ≡ watches_folder pkg folder
pattern_matches folder pkg patterns i t are within is e inv =
    any_here (matches folder) (list_of (entries_in patterns)) i (entry_at_index patterns i) t (next_listed (entries_in patterns) i within) is e inv
    ∙ watched_by folder pkg patterns are

pub pattern_fails : (folder : List ℕ) (patterns : Plain) (i : ℕ) (t : Bool) → i < count_of (entries_in patterns)
    → t ≡ is_folder_matched_by_pattern folder (text_in (entry_at_index patterns i)) → t ≡ false
    → list_any (matches folder) (drop i (list_of (entries_in patterns))) ≡ list_any (matches folder) (list_of (entries_in patterns))
    → list_any (matches folder) (drop (i + 1) (list_of (entries_in patterns))) ≡ list_any (matches folder) (list_of (entries_in patterns))
pattern_fails folder patterns i t within is e inv =
    any_later (matches folder) (list_of (entries_in patterns)) i (entry_at_index patterns i) t (next_listed (entries_in patterns) i within) is e inv

pub no_pattern : (folder : List ℕ) (pkg patterns : Plain) (i : ℕ) → patterns ≡ entry_at_index pkg 3 → count_of (entries_in patterns) ≤ i
    → list_any (matches folder) (drop i (list_of (entries_in patterns))) ≡ list_any (matches folder) (list_of (entries_in patterns))
    → false ≡ watches_folder pkg folder
no_pattern folder pkg patterns i are past inv =
    let long : count_of (entries_in patterns) ≡ length (list_of (entries_in patterns)) = count-listed (entries_in patterns) in
    any_none (matches folder) (list_of (entries_in patterns)) i (omega arith) inv ∙ watched_by folder pkg patterns are

-- ---- folders

abbrev pub names_of : List (Bor (List ℕ)) → List (List ℕ)
names_of folders = map (λ (f : Bor (List ℕ)). f.now) folders

due_at : (pkg : Plain) (script t : Bool) (x : List ℕ) → script ≡ has_script_with_number pkg TRIGGER_SCRIPT → script ≡ true → t ≡ watches_folder pkg x → t ≡ is_trigger_due pkg x
due_at pkg script t x is has watched = watched ∙ ap (λ s. s && watches_folder pkg x) (sym has ∙ is)

pub watched_here : (pkg : Plain) (folders : List (Bor (List ℕ))) (i : ℕ) (d : Bor (List ℕ)) (script t : Bool) → t ≡ watches_folder pkg (get_or folders i d).now
    → script ≡ has_script_with_number pkg TRIGGER_SCRIPT → script ≡ true → i < length folders → t ≡ true
    → list_any (is_trigger_due pkg) (drop i (names_of folders)) ≡ list_any (is_trigger_due pkg) (names_of folders)
    → true ≡ list_any (is_trigger_due pkg) (names_of folders)
watched_here pkg folders i d script t watched is has within e inv =
    any_here (is_trigger_due pkg) (names_of folders) i (get_or folders i d).now t (made_at (λ (f : Bor (List ℕ)). f.now) folders i d within)
    (due_at pkg script t (get_or folders i d).now is has watched) e inv

pub not_watched_here : (pkg : Plain) (folders : List (Bor (List ℕ))) (i : ℕ) (d : Bor (List ℕ)) (script t : Bool) → t ≡ watches_folder pkg (get_or folders i d).now
    → script ≡ has_script_with_number pkg TRIGGER_SCRIPT → script ≡ true → i < length folders → t ≡ false
    → list_any (is_trigger_due pkg) (drop i (names_of folders)) ≡ list_any (is_trigger_due pkg) (names_of folders)
    → list_any (is_trigger_due pkg) (drop (i + 1) (names_of folders)) ≡ list_any (is_trigger_due pkg) (names_of folders)
not_watched_here pkg folders i d script t watched is has within e inv =
    any_later (is_trigger_due pkg) (names_of folders) i (get_or folders i d).now t (made_at (λ (f : Bor (List ℕ)). f.now) folders i d within)
    (due_at pkg script t (get_or folders i d).now is has watched) e inv

-- ---- packages

-- by the folders and the value at hand
pub is_due_of : (paths folders : List (List ℕ)) (value pkg : Plain) (t : Bool) → folders ≡ folders_of_paths paths → value ≡ pkg → t ≡ has_due_trigger folders value → t ≡ has_due_trigger (folders_of_paths paths) pkg
is_due_of paths folders value pkg t are same is =
    is ∙ (ap (λ z. has_due_trigger z value) are ∙ ap (has_due_trigger (folders_of_paths paths)) same)

-- a package whose trigger is due, and those behind it
unless_at : (paths : List (List ℕ)) (members : List Member) (i : ℕ) (m : Member) (t : Bool) → slice_get members i ≡ Some m → t ≡ has_due_trigger (folders_of_paths paths) m.pkg
    → unless_trigger_due false paths (drop i members) ≡ (if t then Err (TriggerNeeded (member_name m)) else unless_trigger_due false paths (drop (i + 1) members))
unless_at paths members i m t at is =
    ap (unless_trigger_due false paths) (left_at members i m at)
    ∙ ap (λ s. if s then Err (TriggerNeeded (member_name m)) else unless_trigger_due false paths (drop (i + 1) members)) (sym is)

pub trigger_due : (paths : List (List ℕ)) (members : List Member) (i : ℕ) (m : Member) (t : Bool) → slice_get members i ≡ Some m → t ≡ has_due_trigger (folders_of_paths paths) m.pkg → t ≡ true
    → unless_trigger_due false paths (drop i members) ≡ unless_trigger_due false paths members
    → unless_trigger_due false paths members ≡ refusal_if_trigger_due members (Some i)
trigger_due paths members i m t at is e inv =
    sym inv ∙ (unless_at paths members i m t at is
    ∙ (ap (λ s. if s then Err (TriggerNeeded (member_name m)) else unless_trigger_due false paths (drop (i + 1) members)) e
    ∙ ap (λ o. Err (TriggerNeeded (option_map_or member_name o []))) (sym at)))

pub trigger_not_due : (paths : List (List ℕ)) (members : List Member) (i : ℕ) (m : Member) (t : Bool) → slice_get members i ≡ Some m → t ≡ has_due_trigger (folders_of_paths paths) m.pkg → t ≡ false
    → unless_trigger_due false paths (drop i members) ≡ unless_trigger_due false paths members
    → unless_trigger_due false paths (drop (i + 1) members) ≡ unless_trigger_due false paths members
trigger_not_due paths members i m t at is e inv =
    sym (unless_at paths members i m t at is
    ∙ ap (λ s. if s then Err (TriggerNeeded (member_name m)) else unless_trigger_due false paths (drop (i + 1) members)) e)
    ∙ inv

pub no_trigger_due : (paths : List (List ℕ)) (members : List Member) (i : ℕ) → length members ≤ i
    → unless_trigger_due false paths (drop i members) ≡ unless_trigger_due false paths members
    → unless_trigger_due false paths members ≡ refusal_if_trigger_due members None
no_trigger_due paths members i past inv =
    sym inv ∙ ap (unless_trigger_due false paths) (drop_all i members past)
