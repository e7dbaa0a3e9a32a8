use Rattle.std.proofs.Common.{◌≡◌, ◌≢◌, Some, None, List, ℕ, [], ◌∷◌, ◌++◌, drop, sym, ap, ◌∙◌}
use Rattle.std.proofs.lemmas.Bool.Decides.{Decides-eqb}
use Rattle.std.proofs.lemmas.List.{append_cancel_left}
use Rattle.std.proofs.lemmas.Slice.Eq.{strip_prefix_is, starts_is}
use Rattle.base_core.proofs.name.is_folder_of.Goals as goal

pub returns-in-Some : goal.returns-in-Some
returns-in-Some c =
    let whole : c.args.name.now ≡ c.args.folder.now ++ c.in-Some.rest.now = strip_prefix_is Decides-eqb c.args.name.now c.args.folder.now (Some c.in-Some.rest) c.in-Some.ensures.cases in
    let starts = starts_is Decides-eqb c.in-Some.rest.now (47 ∷ []) c.starts_with.result c.starts_with.ensures.value in (
      λ t. (drop 1 c.in-Some.rest.now, whole ∙ ap (λ (l : List ℕ). c.args.folder.now ++ l) (starts.0 t)),
      λ (rest, is). starts.1 rest (append_cancel_left c.args.folder.now c.in-Some.rest.now (47 ∷ rest) (sym whole ∙ is)),
    )

pub returns-in-None : goal.returns-in-None
returns-in-None c =
    let off : (rest : List ℕ) → c.args.name.now ≢ c.args.folder.now ++ rest = strip_prefix_is Decides-eqb c.args.name.now c.args.folder.now None c.in-None.ensures.cases in
    (λ t. absurd (cc), λ (rest, is). absurd (off (47 ∷ rest) is))
