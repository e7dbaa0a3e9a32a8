-- What the tree was asked for before a change is committed, over a recovery and the run after it.
use Rattle.std.proofs.Common.{◌≡◌, ℕ, true, List, [], ◌∷◌, Option, Ok, refl, ap, sym, subst, ◌∙◌}
use Rattle.base_core.specs.Calls.{HoldsNow, IfObservable}
use Rattle.base_core.specs.Crash.{Since}
use Rattle.base_core.specs.Files.{Files}
use Rattle.base_core.specs.Tree.{TreeState, files_of}
use Rattle.command_core.specs.Command.{CommandLine}
use Rattle.command_core.specs.declared.command.Applet.{Applet}
use Rattle.command_core.specs.declared.command.Applet.TheVariants.{Demo, Mkndx, Mkpkg}
use Rattle.journal_core.specs.Staged.{unstaged_files}
use Rattle.outcome.specs.Effect.{Effect, Changes, Makes, AsksRoot, does_neither_recover_nor_write, effect_of_arguments, effect_of}
use Rattle.engine_core.specs.journal_commit.Asked.{TargetsAreAccepted, RecoveryChangesOnlyAcceptedNames}
use Rattle.words_core.specs.Grammar.{command_of}
use Rattle.apk_front.specs.Moments.{EachRecoveryDiffersOnlyInAcceptedNames}
use Rattle.apk_front.proofs.AfterRecovery.{RecoversAs, none_since, since_both}
use Rattle.apk_front.proofs.Behind.{LeavesUnstaged, nothing_waits}
use Rattle.apk_front.proofs.Runs.{History, since_weaker}

module _ (accepts : Option (List ℕ) → List ℕ → Type 0) where
  kept : (v w : TreeState) → RecoversAs v w → RecoveryChangesOnlyAcceptedNames accepts (unstaged_files (files_of v)) w
  kept v w same = λ name differs. absurd (differs (ap (λ (f : Files). f name) same))

  -- nothing is written
  pub asked_idle : (old : History) → EachRecoveryDiffersOnlyInAcceptedNames accepts old old
  asked_idle [] = tt
  asked_idle (v ∷ rest) = none_since (RecoveryChangesOnlyAcceptedNames accepts (unstaged_files (files_of v))) (v ∷ rest) (v ∷ rest) refl

  -- the recovery did not end
  pub asked_unrecovered : (old mid : History) → IfObservable old (λ v. Since (RecoversAs v) old mid) → EachRecoveryDiffersOnlyInAcceptedNames accepts old mid
  asked_unrecovered [] mid reads = tt
  asked_unrecovered (v ∷ rest) mid reads = since_weaker (RecoversAs v) (RecoveryChangesOnlyAcceptedNames accepts (unstaged_files (files_of v))) (v ∷ rest) mid (λ w same. kept v w same) reads

  -- it ended well
  pub asked_behind : (old mid now : History) → IfObservable old (λ v. Since (RecoversAs v) old mid) → IfObservable old (λ v. HoldsNow mid (LeavesUnstaged v)) → TargetsAreAccepted accepts mid now → EachRecoveryDiffersOnlyInAcceptedNames accepts old now
  asked_behind [] mid now reads left run = tt
  asked_behind (v ∷ rest) [] now reads left run = absurd left
  asked_behind (v ∷ rest) (u ∷ more) now reads left run =
      let waits = nothing_waits v u left in
      since_both (RecoversAs v) (RecoveryChangesOnlyAcceptedNames accepts (files_of u)) (RecoveryChangesOnlyAcceptedNames accepts (unstaged_files (files_of v))) (v ∷ rest) (u ∷ more) now (λ w same. kept v w same)
      (λ w promised. subst (λ (f : Files). RecoveryChangesOnlyAcceptedNames accepts f w) left.0 promised) reads (run waits.0 waits.1)

-- ---- only a change asks

applet_effect : (a b : Applet) (effect : Effect) → a ≡ b → effect_of a ≡ effect → effect_of b ≡ effect
applet_effect a b effect same is = ap effect_of (sym same) ∙ is

pub changes_not_mkpkg : (applet : Applet) → applet ≡ Mkpkg → effect_of applet ≡ Changes → ⊥
changes_not_mkpkg applet is changes = let made : effect_of applet ≡ Makes = ap effect_of is in cc (made, changes)

pub changes_not_mkndx : (applet : Applet) → applet ≡ Mkndx → effect_of applet ≡ Changes → ⊥
changes_not_mkndx applet is changes = let made : effect_of applet ≡ Makes = ap effect_of is in cc (made, changes)

pub changes_not_demo : (applet : Applet) → applet ≡ Demo → effect_of applet ≡ Changes → ⊥
changes_not_demo applet is changes = let by : effect_of Demo ≡ Changes = ap effect_of (sym is) ∙ changes in cc (by)

pub changes_not_told : (effect : Effect) → effect ≡ AsksRoot → effect ≡ Changes → ⊥
changes_not_told effect tells changes = cc (tells, changes)

pub changes_not_read : (effect : Effect) → does_neither_recover_nor_write effect ≡ true → effect ≡ Changes → ⊥
changes_not_read effect reads changes = let by : does_neither_recover_nor_write Changes ≡ true = ap does_neither_recover_nor_write (sym changes) ∙ reads in cc (by)

-- ---- by the command that is read

pub asked_by_command : (accepts : Option (List ℕ) → List ℕ → Type 0) (words : List (List ℕ)) (command : CommandLine) (old now : History) → command_of words ≡ Ok command
    → (effect_of command.applet ≡ Changes → EachRecoveryDiffersOnlyInAcceptedNames accepts old now) → effect_of_arguments (command_of words) ≡ Changes → EachRecoveryDiffersOnlyInAcceptedNames accepts old now
asked_by_command accepts words command old now is asked changes = asked (ap effect_of_arguments (sym is) ∙ changes)
