-- Folders that are matched, and triggers that are due.
use Rattle.std.proofs.Common.{◌≡◌, ◌↔◌, ◌∙◌, ℕ, suc, zero, ◌<◌, Bool, true, false, List, [], ◌∷◌, length, map, Some, refl, ap, sym, subst, true≢false, arith}
use Rattle.std.specs.Prelude.{if◌then◌else◌, ◌==◌, codes, slice_get}
use Rattle.std.specs.Str.{bytes_eq}
use Rattle.std.proofs.lemmas.Bool.{eqb-true, and_from, and_parts}
use Rattle.std.proofs.lemmas.Slice.Eq.{bytes_eq-Decides}
use Rattle.adb_view.specs.Plain.{Plain}
use Rattle.base_core.proofs.Rising as rising
use Rattle.base_core.specs.Listed.{AreSortedDistinctTexts}
use Rattle.base_core.specs.Lists.{IsIn}
use Rattle.base_core.specs.Name.{path_parts_of}
use Rattle.change_outcome.proofs.own_core.InOrder.{from_order, in_order, order_rises}
use Rattle.change_outcome.specs.PackageFiles.{has_script_with_number}
use Rattle.change_outcome.specs.Triggers.{do_patterns_match_parts_one_to_one, folders_of_paths, is_trigger_due, is_folder_matched_by_pattern, watches_folder, trigger_patterns_of_package}
use Rattle.dep_core.specs.LeadingSlash.{without_leading_slash}
use Rattle.change_outcome.specs.package_files.Folders.{folder_of}
use Rattle.report_core.specs.Numbers.{TRIGGER_SCRIPT}
use Rattle.change_outcome.specs.star_patterns.Fills.{MatchesByFillingStars}
use Rattle.change_outcome.specs.star_patterns.Patterns.{is_whole_text_matched}
use Rattle.definition_laws.specs.answers.DueTriggers.{HasFileDirectlyInFolder, MatchesFolderByParts, HasTriggerScriptAndWatchesFolder}
use Rattle.definition_laws.proofs.answers.Members.{listed, risen}
use Rattle.definition_laws.proofs.answers.Tests.{any_passes, passes_any, text_in, text_of}

-- what the crate of patterns says of one part
abbrev pub Filled : Type 0
Filled = (pattern text : List ℕ) → (is_whole_text_matched pattern text ≡ true) ↔ MatchesByFillingStars pattern text

abbrev EachFilled : List (List ℕ) → List (List ℕ) → Type 0
EachFilled patterns parts = (i : ℕ) (p part : List ℕ) → slice_get patterns i ≡ Some p → slice_get parts i ≡ Some part → MatchesByFillingStars p part

parts_filled : Filled → (patterns parts : List (List ℕ)) → do_patterns_match_parts_one_to_one patterns parts ≡ true → (length patterns ≡ length parts) × EachFilled patterns parts
parts_filled law [] [] e = (refl, λ i p part is are. absurd cc)
parts_filled law [] (part ∷ parts) e = absurd (true≢false (sym e))
parts_filled law (p ∷ patterns) [] e = absurd (true≢false (sym e))
parts_filled law (p ∷ patterns) (part ∷ parts) e =
    let t = and_parts (is_whole_text_matched p part) (do_patterns_match_parts_one_to_one patterns parts) e in
    let more = parts_filled law patterns parts t.1 in
    (ap suc more.0, at more.1 ((law p part).0 t.0))
  where
    at : EachFilled patterns parts → MatchesByFillingStars p part → EachFilled (p ∷ patterns) (part ∷ parts)
    at more first zero q other is are =
        let one : p ≡ q = cc in
        let two : part ≡ other = cc in
        subst (λ (x : List ℕ). MatchesByFillingStars x other) one (subst (λ (x : List ℕ). MatchesByFillingStars p x) two first)
    at more first (suc i) q other is are = more i q other is are

filled_parts : Filled → (patterns parts : List (List ℕ)) → length patterns ≡ length parts → EachFilled patterns parts → do_patterns_match_parts_one_to_one patterns parts ≡ true
filled_parts law [] [] e each = refl
filled_parts law [] (part ∷ parts) e each = absurd cc
filled_parts law (p ∷ patterns) [] e each = absurd cc
filled_parts law (p ∷ patterns) (part ∷ parts) e each =
    let same : length patterns ≡ length parts = omega arith in
    and_from (is_whole_text_matched p part) (do_patterns_match_parts_one_to_one patterns parts) ((law p part).1 (each zero p part refl refl))
    (filled_parts law patterns parts same (λ i q other is are. each (suc i) q other is are))

above_zero : (n : ℕ) → 0 < n → (n == 0) ≡ false
above_zero n above = go (n == 0) refl
  where
    go : (b : Bool) → (n == 0) ≡ b → b ≡ false
    go true e = absurd (omega (arith, eqb-true n 0 e, above))
    go false e = refl

not_root : (folder pattern : List ℕ) → (folder ≡ [] → ⊥) → is_folder_matched_by_pattern folder pattern ≡ do_patterns_match_parts_one_to_one (path_parts_of (without_leading_slash pattern)) (path_parts_of folder)
unfolding is_folder_matched_by_pattern
not_root [] pattern some = absurd (some refl)
not_root (b ∷ folder) pattern some =
    let test : (length (b ∷ folder) == 0) ≡ false = above_zero (length (b ∷ folder)) (omega arith) in
    ap (λ (t : Bool). if t then bytes_eq pattern (codes "/") else do_patterns_match_parts_one_to_one (path_parts_of (without_leading_slash pattern)) (path_parts_of (b ∷ folder))) test

pub matched_below : Filled → (folder pattern : List ℕ) → (folder ≡ [] → ⊥) → (is_folder_matched_by_pattern folder pattern ≡ true) ↔ MatchesFolderByParts pattern folder
matched_below law folder pattern some = (
  λ e. let t = parts_filled law (path_parts_of (without_leading_slash pattern)) (path_parts_of folder) (sym (not_root folder pattern some) ∙ e) in record { count = t.0; each = t.1 },
  λ f. not_root folder pattern some ∙ filled_parts law (path_parts_of (without_leading_slash pattern)) (path_parts_of folder) f.count f.each,
)

pub matched_root : (pattern : List ℕ) → (is_folder_matched_by_pattern [] pattern ≡ true) ↔ (pattern ≡ codes "/")
unfolding is_folder_matched_by_pattern
matched_root pattern = ((bytes_eq-Decides pattern (codes "/")).0, (bytes_eq-Decides pattern (codes "/")).1)

pub due_is : (pkg : Plain) (folder : List ℕ) → (is_trigger_due pkg folder ≡ true) ↔ HasTriggerScriptAndWatchesFolder pkg folder
due_is pkg folder = (
  λ e.
      let t = and_parts (has_script_with_number pkg TRIGGER_SCRIPT) (watches_folder pkg folder) e in
      let h = any_passes (is_folder_matched_by_pattern folder) (trigger_patterns_of_package pkg) t.1 in
      record { script = t.0; pattern = h.element; watched = h.listed; matched = h.passes },
  λ t. and_from (has_script_with_number pkg TRIGGER_SCRIPT) (watches_folder pkg folder) t.script (passes_any (is_folder_matched_by_pattern folder) (trigger_patterns_of_package pkg) t.pattern t.watched t.matched),
)

pub folders_are : (paths : List (List ℕ)) (folder : List ℕ) → IsIn folder (folders_of_paths paths) ↔ HasFileDirectlyInFolder paths folder
folders_are paths folder = (
  λ at. let t = text_of folder_of paths folder (from_order folder (map folder_of paths) (risen folder _ at)) in record { path = t.element; listed = t.listed; within = t.is },
  λ f. listed folder (folders_of_paths paths) (in_order folder (map folder_of paths) (text_in folder_of paths folder f.path f.listed f.within)),
)

pub folders_rise : (paths : List (List ℕ)) → AreSortedDistinctTexts (folders_of_paths paths)
folders_rise paths = rising.pairs_from_rises (folders_of_paths paths) (order_rises (map folder_of paths))
