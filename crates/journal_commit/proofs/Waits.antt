-- What only waits is not shown.
use Rattle.std.proofs.Common.{◌≡◌, ◌≢◌, ◌||◌, ℕ, true, false, List, ◌∷◌, [], refl, sym, ap, ◌∙◌}
use Rattle.std.specs.List.{list_any}
use Rattle.std.specs.Str.{bytes_eq}
use Rattle.base_core.specs.Tree.{TreeState, files_of}
use Rattle.base_core.proofs.Undone.{read_may_be_left}
use Rattle.base_core.proofs.AtName.{other_name}
use Rattle.journal_core.specs.Kept.{KeepsFilesExcept, KeepsCrashMapsExcept, NamesOutsideJournalAreDurable}
use Rattle.journal_core.specs.Recovery.{intent_name, is_staged, stage_name}
use Rattle.journal_core.specs.journal_intent.FreeNames.{IsNoneOf}
use Rattle.journal_commit.specs.StageRun.{HasSameFilesExceptStaged}

true_false : true ≡ false → ⊥
true_false e = cc

-- a shown name is none that waits
pub shown_off : (place q : List ℕ) → is_staged place ≡ true → is_staged q ≡ false → q ≢ place
shown_off place q waits shown e = true_false (sym waits ∙ sym (ap is_staged e) ∙ shown)

pub none_waiting : (place q : List ℕ) → is_staged place ≡ true → is_staged q ≡ false → IsNoneOf q (place ∷ [])
none_waiting place q waits shown = ap (λ b. b || false) (other_name q place (shown_off place q waits shown))

pub none_entering : (q : List ℕ) → q ≢ intent_name → is_staged q ≡ false → IsNoneOf q (intent_name ∷ stage_name 0 ∷ [])
none_entering q off shown = ap (λ b. b || list_any (bytes_eq q) (stage_name 0 ∷ [])) (other_name q intent_name off) ∙ none_waiting (stage_name 0) q refl shown

pub shown_files : (place : List ℕ) → is_staged place ≡ true → (u w : TreeState) → KeepsFilesExcept (λ q. q ≡ place) u w → HasSameFilesExceptStaged (files_of u) w
shown_files place waits u w keeps q shown = keeps q (shown_off place q waits shown)

-- where no name that is shown is among these, a crash undoes no change of a shown name
pub shown_last : (these : List (List ℕ)) → ((q : List ℕ) → q ≢ intent_name → is_staged q ≡ false → IsNoneOf q these) → (u w : TreeState) → KeepsCrashMapsExcept these u w → NamesOutsideJournalAreDurable u → NamesOutsideJournalAreDurable w
shown_last these none u w keeps last map among q off shown =
    let (was, is_was, same) = keeps map among in
    let (now, is_now, same_now) = keeps w.names (read_may_be_left w) in
    same q (none q off shown) ∙ last was is_was q off shown ∙ sym (same_now q (none q off shown) ∙ last now is_now q off shown)
