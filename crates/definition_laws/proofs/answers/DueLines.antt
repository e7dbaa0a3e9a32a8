-- The lines of due triggers, and what they refuse.
use Rattle.std.proofs.Common.{◌≡◌, inl, inr, ◌↔◌, ◌∙◌, ℕ, Bool, true, false, List, [], ◌∷◌, ◌++◌, map, Ok, Err, refl, ap, sym, subst, true≢false}
use Rattle.std.specs.Prelude.{if◌then◌else◌}
use Rattle.std.specs.List.{filter, flat_map}
use Rattle.std.proofs.lemmas.Grind.{flat_map-append}
use Rattle.base_core.proofs.Rising as rising
use Rattle.base_core.specs.Listed.{AreSortedDistinctTexts}
use Rattle.base_core.specs.Lists.{IsIn}
use Rattle.change_outcome.proofs.own_core.InOrder.{filter_rises, order_rises}
use Rattle.change_outcome.specs.Triggers.{line_saying_trigger_is_due, due_trigger_lines_for_folders, folders_of_paths, has_due_trigger, is_trigger_due, trigger_lines, unless_trigger_due}
use Rattle.change_outcome.specs.db_core.Members.{Member, member_name}
use Rattle.change_outcome.specs.package_files.Folders.{folder_of}
use Rattle.report_core.specs.Reports.{report_line, report_lines, trigger_due_for_folder_text}
use Rattle.report_core.specs.declared.refusal.Refusal.TheVariants.{TriggerNeeded}
use Rattle.definition_laws.specs.answers.DueTriggers.{HasDueTriggerLines, IsTriggerDueFor, IsFirstPackageWithDueTrigger, HasTriggerScriptAndWatchesFolder}
use Rattle.definition_laws.proofs.answers.Tests.{any_passes, in_passing, passes_any, passing_in}
use Rattle.definition_laws.proofs.answers.Watched.{due_is, folders_are}

-- ---- the folders of one package

abbrev due_folders : List (List ℕ) → Member → List (List ℕ)
due_folders paths m = filter (is_trigger_due m.pkg) (folders_of_paths paths)

due_rising : (paths : List (List ℕ)) (m : Member) → AreSortedDistinctTexts (due_folders paths m)
due_rising paths m =
    rising.pairs_from_rises (due_folders paths m) (filter_rises (is_trigger_due m.pkg) (folders_of_paths paths) (order_rises (map folder_of paths)))

due_each : (paths : List (List ℕ)) (m : Member) (folder : List ℕ) → IsIn folder (due_folders paths m) ↔ IsTriggerDueFor paths m folder
due_each paths m folder = (
  λ at.
      let h = in_passing (is_trigger_due m.pkg) (folders_of_paths paths) folder at in
      record { file = (folders_are paths folder).0 h.0; triggered = (due_is m.pkg folder).0 h.1 },
  λ due. passing_in (is_trigger_due m.pkg) (folders_of_paths paths) folder ((folders_are paths folder).1 due.file) ((due_is m.pkg folder).1 due.triggered),
)

-- ---- the text

lines_of_one : (m : Member) (folders : List (List ℕ)) → flat_map (line_saying_trigger_is_due m.pkg) folders ≡ report_lines (map (trigger_due_for_folder_text (member_name m)) folders)
lines_of_one m [] = refl
lines_of_one m (folder ∷ folders) = ap (λ (t : List ℕ). line_saying_trigger_is_due m.pkg folder ++ t) (lines_of_one m folders)

abbrev due_texts : List (List ℕ) → Member → List (List ℕ)
due_texts paths m = map (trigger_due_for_folder_text (member_name m)) (due_folders paths m)

lines_of_all : (paths : List (List ℕ)) (members : List Member)
    → flat_map (λ (m : Member). due_trigger_lines_for_folders (folders_of_paths paths) m.pkg) members ≡ report_lines (flat_map (due_texts paths) members)
lines_of_all paths [] = refl
lines_of_all paths (m ∷ members) =
    ap (λ (t : List ℕ). t ++ flat_map (λ (m : Member). due_trigger_lines_for_folders (folders_of_paths paths) m.pkg) members) (lines_of_one m (due_folders paths m))
    ∙ ap (λ (t : List ℕ). report_lines (due_texts paths m) ++ t) (lines_of_all paths members)
    ∙ sym (flat_map-append report_line (due_texts paths m) (flat_map (due_texts paths) members))

pub trigger_lines_are : (paths : List (List ℕ)) (members : List Member) → HasDueTriggerLines paths members (trigger_lines paths members)
unfolding trigger_lines
trigger_lines_are paths members = record {
  folders = due_folders paths;
  order = due_rising paths;
  each = due_each paths;
  text_is = lines_of_all paths members;
}

-- ---- what they refuse

-- no trigger of a package is due
abbrev NoneDue : List (List ℕ) → Member → Type 0
NoneDue paths m = (folder : List ℕ) → IsTriggerDueFor paths m folder → ⊥

one_due : (paths : List (List ℕ)) (m : Member) → has_due_trigger (folders_of_paths paths) m.pkg ≡ true → (folder : List ℕ) × IsTriggerDueFor paths m folder
one_due paths m e =
    let h = any_passes (is_trigger_due m.pkg) (folders_of_paths paths) e in
    (h.element, record { file = (folders_are paths h.element).0 h.listed; triggered = (due_is m.pkg h.element).0 h.passes })

none_due : (paths : List (List ℕ)) (m : Member) → has_due_trigger (folders_of_paths paths) m.pkg ≡ false → NoneDue paths m
none_due paths m e folder due =
    true≢false
    (sym (passes_any (is_trigger_due m.pkg) (folders_of_paths paths) folder ((folders_are paths folder).1 due.file) ((due_is m.pkg folder).1 due.triggered)) ∙ e)

none_of : (paths : List (List ℕ)) (m n : Member) → n ≡ m → NoneDue paths m → NoneDue paths n
none_of paths m n same none folder due = none folder (record { file = due.file; triggered = moved })
  where
    moved : HasTriggerScriptAndWatchesFolder m.pkg folder
    moved = subst (λ (x : Member). HasTriggerScriptAndWatchesFolder x.pkg folder) same due.triggered

pub accepted : (paths : List (List ℕ)) (members : List Member) → (unless_trigger_due false paths members ≡ Ok true) ↔ ((m : Member) → IsIn m members → NoneDue paths m)
accepted paths [] = (λ e m at. absurd at, λ f. refl)
accepted paths (m ∷ members) = go (has_due_trigger (folders_of_paths paths) m.pkg) refl (accepted paths members)
  where
    go : (b : Bool) → has_due_trigger (folders_of_paths paths) m.pkg ≡ b
        → ((unless_trigger_due false paths members ≡ Ok true) ↔ ((n : Member) → IsIn n members → NoneDue paths n))
        → ((if b then Err (TriggerNeeded (member_name m)) else unless_trigger_due false paths members) ≡ Ok true) ↔ ((n : Member) → IsIn n (m ∷ members) → NoneDue paths n)
    go true is more = (λ e. absurd cc, λ f. let d = one_due paths m is in absurd (f m (inl refl) d.0 d.1))
    go false is more = (
      λ e n at. elim at [ inl same ↦ none_of paths m n same (none_due paths m is) | inr later ↦ more.0 e n later ],
      λ f. more.1 (λ n at. f n (inr at)),
    )

pub named : (paths : List (List ℕ)) (members : List Member) (name : List ℕ) → unless_trigger_due false paths members ≡ Err (TriggerNeeded name) → IsFirstPackageWithDueTrigger paths members name
named paths [] name e = absurd cc
named paths (m ∷ members) name e = go (has_due_trigger (folders_of_paths paths) m.pkg) refl e (named paths members name)
  where
    go : (b : Bool) → has_due_trigger (folders_of_paths paths) m.pkg ≡ b
        → (if b then Err (TriggerNeeded (member_name m)) else unless_trigger_due false paths members) ≡ Err (TriggerNeeded name)
        → (unless_trigger_due false paths members ≡ Err (TriggerNeeded name) → IsFirstPackageWithDueTrigger paths members name) → IsFirstPackageWithDueTrigger paths (m ∷ members) name
    go true is e more =
        let d = one_due paths m is in
        let same : member_name m ≡ name = cc in
        record { front = []; member = m; rest = members; members_are = refl; named = same; folder = d.0; due = d.1; earlier = λ n at. absurd at }
    go false is e more =
        let h = more e in
        record {
          front = m ∷ h.front;
          member = h.member;
          rest = h.rest;
          members_are = ap (λ (ms : List Member). m ∷ ms) h.members_are;
          named = h.named;
          folder = h.folder;
          due = h.due;
          earlier = λ n at. elim at [ inl same ↦ none_of paths m n same (none_due paths m is) | inr later ↦ h.earlier n later ];
        }
