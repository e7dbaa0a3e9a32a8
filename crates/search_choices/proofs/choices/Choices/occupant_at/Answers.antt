use Rattle.std.proofs.Common.{◌≡◌, ◌∙◌, true, false, sym}
use Rattle.search_needs.proofs.search_tables.Excluders.{match_both}
use Rattle.search_choices.proofs.choices.Choices.occupant_at.Goals as goal

pub returns-then-is_occupied : goal.returns-then-is_occupied
returns-then-is_occupied c =
    match_both c.occupant.result _ _ _ _ (λ none occupied. none) (λ k found. (c.if-is_occupied.true, found.0, found.1)) c.occupant.ensures

pub returns : goal.returns
returns c = λ occupied. let bad : false ≡ true = sym c.if-is_occupied.false ∙ occupied in absurd (cc)
