-- Where there is nothing to recover, a recovery leaves the files.
use Rattle.std.proofs.Common.{◌≡◌, inl, inr, ⊎_elim, ℕ, Bool, true, false, List, Option, None, refl, sym, ap, ◌∙◌}
use Rattle.std.specs.Prelude.{if◌then◌else◌}
use Rattle.std.proofs.lemmas.Bool.{false≢true}
use Rattle.base_core.specs.Files.{Files}
use Rattle.base_core.specs.Tree.{TreeState, bytes_of_file_number, files_of}
use Rattle.journal_core.specs.Kept.{IsJournalName}
use Rattle.journal_core.specs.Recovery.{intent_in_file, intent_name, is_staged, recovered_files, files_after_intent}
use Rattle.journal_core.specs.Staged.{unstaged_files}
use Rattle.outcome.specs.Effect.{Effect, Computes, OnlyReadsFiles, AsksRoot, Makes, Changes, does_recover}
use Rattle.outcome.specs.Work.{files_recovered_if_needed}
use Rattle.apk_front.specs.Moments.{HasNothingToRecover, IsStateDuringRecovery}

-- neither an intent is there, nor anything that waits
abbrev NoneWaits : Files → Type 0
NoneWaits files = (q : List ℕ) → IsJournalName q → files q ≡ None

stays : (files : Files) → NoneWaits files → unstaged_files files ≡ files
stays files none i q = by (is_staged q) refl i
  where
    same : recovered_files files ≡ files
    same = ap (λ (o : Option (List ℕ)). files_after_intent (intent_in_file o) files) (none intent_name (inl refl))

    by : (b : Bool) → is_staged q ≡ b → unstaged_files files q ≡ files q
    by true is = ap (λ (b : Bool). if b then None else recovered_files files q) is ∙ sym (none q (inr is))
    by false is = ap (λ (b : Bool). if b then None else recovered_files files q) is ∙ ap (λ (f : Files). f q) same

no_staged_intent : (effect : Effect) (v : TreeState) → does_recover effect ≡ true → HasNothingToRecover effect v → NoneWaits (files_of v)
no_staged_intent effect v recovers (inl not_so) q waits = absurd (false≢true (sym not_so ∙ recovers))
no_staged_intent effect v recovers (inr (absent, empty)) q waits = ap (bytes_of_file_number v.files) (⊎_elim (λ is. ap v.names is ∙ absent) (λ staged. empty q staged) waits)

pub same_files : (effect : Effect) (v w : TreeState) → HasNothingToRecover effect v → (does_recover effect ≡ true) × IsStateDuringRecovery v w → files_of w ≡ files_of v
same_files effect v w nothing (recovers, moment) =
    let before = no_staged_intent effect v recovers nothing in
    let now : NoneWaits (files_of w) = λ q waits. ⊎_elim (λ gone. gone) (λ was. was ∙ before q waits) (moment.waiting q waits) in
    sym (stays (files_of w) now) ∙ moment.reads ∙ stays (files_of v) before

pub same_work : (effect : Effect) (v : TreeState) → HasNothingToRecover effect v → files_recovered_if_needed effect (files_of v) ≡ files_of v
same_work Computes v nothing = refl
same_work OnlyReadsFiles v nothing = refl
same_work AsksRoot v nothing = stays (files_of v) (no_staged_intent AsksRoot v refl nothing)
same_work Makes v nothing = stays (files_of v) (no_staged_intent Makes v refl nothing)
same_work Changes v nothing = stays (files_of v) (no_staged_intent Changes v refl nothing)
