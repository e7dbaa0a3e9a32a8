-- Files as a recovery leaves them.
use Rattle.std.proofs.Common.{◌≡◌, inr, ℕ, Bool, true, false, List, Option, Some, None, refl, ap, ◌∙◌}
use Rattle.std.specs.Prelude.{if◌then◌else◌}
use Rattle.base_core.specs.Files.{Files}
use Rattle.apk_front.specs.journal_core.Kept.{IsJournalName}
use Rattle.apk_front.specs.journal_core.Recovery.{Intent, intent_in_file, intent_name, intent_of, is_staged, recovered_files, files_after_intent}
use Rattle.apk_front.specs.journal_core.Staged.{unstaged_files}

-- a name that does not wait is not staged
pub not_staged : (q : List ℕ) → (IsJournalName q → ⊥) → is_staged q ≡ false
not_staged q stays = by (is_staged q) refl
  where
    by : (b : Bool) → is_staged q ≡ b → is_staged q ≡ false
    by true is = absurd (stays (inr is))
    by false is = is

-- where no intent is found a recovery leaves such a name as it is
pub plain_at : (files : Files) (q : List ℕ) → intent_of files ≡ None → is_staged q ≡ false → unstaged_files files q ≡ files q
plain_at files q none shown =
    ap (λ (b : Bool). if b then None else recovered_files files q) shown
    ∙ ap (λ (o : Option Intent). files_after_intent o files q) none

-- behind a recovery none is found
pub none_found : (files : Files) → intent_of (unstaged_files files) ≡ None
none_found files = by (intent_of files) refl
  where
    by : (o : Option Intent) → intent_of files ≡ o → intent_of (unstaged_files files) ≡ None
    by None is = ap (λ (o : Option Intent). intent_in_file (files_after_intent o files intent_name)) is ∙ is
    by (Some intent) is = ap (λ (o : Option Intent). intent_in_file (files_after_intent o files intent_name)) is

-- so a second one leaves the files as they are
pub again_at : (files : Files) (q : List ℕ) → is_staged q ≡ false → unstaged_files (unstaged_files files) q ≡ unstaged_files files q
again_at files q shown = plain_at (unstaged_files files) q (none_found files) shown
