-- Lemmas that several crates need.
use Rattle.std.proofs.Common.{List, ℕ, ◌<◌, length, get_or, ◌≡◌, take, drop, ◌+◌, sym, take-append-drop, ◌∙◌, ap, ◌++◌, ◌∷◌, arith, length-append}
use Rattle.std.proofs.lemmas.List.{drop_more}
use Rattle.std.proofs.Math.Seq.{get_or-append_seam, take-append_seam}
use Rattle.base_core.specs.Files.{IsFolderOf}

pub folder_at : (name : List ℕ) (k : ℕ) → k < length name → get_or name k 0 ≡ 47 → IsFolderOf (take k name) name
folder_at name k within slash =
    (drop (k + 1) name, sym (take-append-drop k name) ∙ ap (λ (l : List ℕ). take k name ++ l) (drop_more name k 0 within ∙ ap (λ x. x ∷ drop (k + 1) name) slash))

pub at_folder : (folder name : List ℕ) → IsFolderOf folder name → (length folder < length name) × (get_or name (length folder) 0 ≡ 47) × (take (length folder) name ≡ folder)
at_folder folder name (rest, is) = (
  omega (arith, ap length is, length-append folder (47 ∷ rest)),
  ap (λ (l : List ℕ). get_or l (length folder) 0) is ∙ get_or-append_seam folder 47 rest 0,
  ap (take (length folder)) is ∙ take-append_seam folder (47 ∷ rest),
)
