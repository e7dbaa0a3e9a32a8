-- A new file is begun, appended to and finished, each call at the name that it was begun for.
use Rattle.std.proofs.Common.{◌≡◌, ◌∙◌, ℕ, List, [], ◌∷◌, ◌++◌, subst}
use Rattle.base_core.specs.Calls.{IfObservable, HoldsNow}
use Rattle.base_core.specs.Crash.{Since}
use Rattle.journal_core.specs.Filling.{CanAddBothNames, CanAddName, IsNewFileDurablyMoved, IsNewFileReadyToMove}
use Rattle.journal_core.specs.Replacing.{scratch_name_of}
use Rattle.journal_core.proofs.History.{History, observable_at, on_observable}
use Rattle.journal_core.proofs.Maps.{Keeps, maps_more}
use Rattle.journal_commit.proofs.Proper.{fill_proper}
use Rattle.journal_commit.specs.NewFilePieces.{IsNewFile, OnlyScratchHasChanged}

pub only_keeps : (name : List ℕ) (old new : History) → OnlyScratchHasChanged (scratch_name_of name) old new → Keeps (name ∷ scratch_name_of name ∷ []) old new
only_keeps name old new only = maps_more name (scratch_name_of name ∷ []) old new only.others

-- ---- a clause of the file, told of its name

module _ (file name : List ℕ) (same : file ≡ name) (old new : History) where
  pub only_at : ((bytes : List ℕ) (first : History) → IsNewFile (scratch_name_of file) bytes first old → OnlyScratchHasChanged (scratch_name_of file) first new)
      → (bytes : List ℕ) (first : History) → IsNewFile (scratch_name_of name) bytes first old → OnlyScratchHasChanged (scratch_name_of name) first new
  only_at f = subst (λ (n : List ℕ). (bytes : List ℕ) (first : History) → IsNewFile (scratch_name_of n) bytes first old → OnlyScratchHasChanged (scratch_name_of n) first new) same f

  pub appended_at : (piece : List ℕ) → ((bytes : List ℕ) (first : History) → IsNewFile (scratch_name_of file) bytes first old → IsNewFile (scratch_name_of file) (bytes ++ piece) first new)
      → (bytes : List ℕ) (first : History) → IsNewFile (scratch_name_of name) bytes first old → IsNewFile (scratch_name_of name) (bytes ++ piece) first new
  appended_at piece f = subst (λ (n : List ℕ). (bytes : List ℕ) (first : History) → IsNewFile (scratch_name_of n) bytes first old → IsNewFile (scratch_name_of n) (bytes ++ piece) first new) same f

  pub proper_at : (a b : ℕ) → ((bytes : List ℕ) (first : History) → IsNewFile (scratch_name_of file) bytes first old → IfObservable first (λ v. b ≡ a))
      → (bytes : List ℕ) (first : History) → IsNewFile (scratch_name_of name) bytes first old → IfObservable first (λ v. b ≡ a)
  proper_at a b f = subst (λ (n : List ℕ). (bytes : List ℕ) (first : History) → IsNewFile (scratch_name_of n) bytes first old → IfObservable first (λ v. b ≡ a)) same f

  pub moments_at : ((bytes : List ℕ) (first : History) → IsNewFile (scratch_name_of file) bytes first old → IfObservable first (λ v. Since (IsNewFileReadyToMove (scratch_name_of file) file bytes v) first new))
      → (bytes : List ℕ) (first : History) → IsNewFile (scratch_name_of name) bytes first old → IfObservable first (λ v. Since (IsNewFileReadyToMove (scratch_name_of name) name bytes v) first new)
  moments_at f = subst (λ (n : List ℕ). (bytes : List ℕ) (first : History) → IsNewFile (scratch_name_of n) bytes first old
      → IfObservable first (λ v. Since (IsNewFileReadyToMove (scratch_name_of n) n bytes v) first new)) same f

  pub moved_at : ((bytes : List ℕ) (first : History) → IsNewFile (scratch_name_of file) bytes first old → IfObservable first (λ v. HoldsNow new (IsNewFileDurablyMoved (scratch_name_of file) file bytes v)))
      → (bytes : List ℕ) (first : History) → IsNewFile (scratch_name_of name) bytes first old → IfObservable first (λ v. HoldsNow new (IsNewFileDurablyMoved (scratch_name_of name) name bytes v))
  moved_at f = subst (λ (n : List ℕ). (bytes : List ℕ) (first : History) → IsNewFile (scratch_name_of n) bytes first old
      → IfObservable first (λ v. HoldsNow new (IsNewFileDurablyMoved (scratch_name_of n) n bytes v))) same f

  pub keeps_so : ((bytes : List ℕ) (first : History) → IsNewFile (scratch_name_of file) bytes first old → Keeps (file ∷ scratch_name_of file ∷ []) first new)
      → (bytes : List ℕ) (first : History) → IsNewFile (scratch_name_of name) bytes first old → Keeps (name ∷ scratch_name_of name ∷ []) first new
  keeps_so f = subst (λ (n : List ℕ). (bytes : List ℕ) (first : History) → IsNewFile (scratch_name_of n) bytes first old → Keeps (n ∷ scratch_name_of n ∷ []) first new) same f

  pub both_proper_at : (a b : ℕ) → ((bytes : List ℕ) (first : History) → IsNewFile (scratch_name_of file) bytes first old → IfObservable first (λ v. CanAddBothNames (scratch_name_of file) file v → b ≡ a))
      → (bytes : List ℕ) (first : History) → IsNewFile (scratch_name_of name) bytes first old → IfObservable first (λ v. CanAddBothNames (scratch_name_of name) name v → b ≡ a)
  both_proper_at a b f = subst (λ (n : List ℕ). (bytes : List ℕ) (first : History) → IsNewFile (scratch_name_of n) bytes first old → IfObservable first (λ v. CanAddBothNames (scratch_name_of n) n v
      → b ≡ a)) same f

-- ---- no call is a misuse

module _ (name : List ℕ) (old : History) (a b : ℕ) where
  abbrev pub IsProper : ℕ → ℕ → Type 0
  IsProper before now = IfObservable old (λ v. CanAddBothNames (scratch_name_of name) name v → now ≡ before)

  pub begun_proper : IfObservable old (λ v. CanAddName (scratch_name_of name) v → b ≡ a) → IsProper a b
  begun_proper p = on_observable old _ (λ v rest is room. fill_proper (scratch_name_of name) name v old rest is room a b p)

  pub then_proper : (c : ℕ) → IsProper a b → IfObservable old (λ v. c ≡ b) → IsProper a c
  then_proper c first second = on_observable old _ (λ v rest is room. observable_at old v rest is (λ w. c ≡ b) second ∙ observable_at old v rest is (λ w. CanAddBothNames (scratch_name_of name) name w
      → b ≡ a) first room)

  pub both_proper : (c : ℕ) → IsProper a b → IsProper b c → IsProper a c
  both_proper c first second = on_observable old _ (λ v rest is room.
      observable_at old v rest is (λ w. CanAddBothNames (scratch_name_of name) name w → c ≡ b) second room ∙ observable_at old v rest is (λ w. CanAddBothNames (scratch_name_of name) name w → b ≡ a) first room)
