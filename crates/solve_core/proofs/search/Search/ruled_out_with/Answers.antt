use Rattle.std.proofs.Common.{◌≡◌, ℕ, List, subst, sym, ◌∙◌, arith, []}
use Rattle.std.proofs.lemmas.Bool.Decides.{nat_tests}
use Rattle.search_choices.specs.Choices.{pool_of, choices_of}
use Rattle.std.specs.Prelude.{Some, slice_get}
use Rattle.search_choices.specs.search_tables.Reasons.{FrameValue, choices_of_turns}
use Rattle.search_choices.proofs.search_tables.Turns.{passed_before, reason_as}
use Rattle.solve_core.proofs.search.Search.ruled_out_with.Goals as goal

pub returns : goal.returns
returns c =
    let same : c.option.result ≡ c.args.id = grind (arith, nat_tests) in
    reason_as (pool_of c.args.self.now.chosen) (choices_of_turns c.args.self.now.turns.items) (choices_of c.args.self.now.chosen) _ _ _ _
    (passed_before (pool_of c.args.self.now.chosen) [] c.args.self.now.turns.items c.in_ok-hint.hint.turn c.in_ok-hint.hint.place c.in_ok-turn.turn.now c.in_ok-ruled_out.ruled_out.now c.requires.chosen.taken (subst (λ (z : List (FrameValue × ℕ)). slice_get z c.in_ok-hint.hint.turn ≡ Some c.in_ok-turn.turn.now) c.as_slice.ensures.value c.in_ok-turn.ensures) c.in_ok-ruled_out.ensures)
    (sym c.requires.chosen.choices) (sym c.option.ensures ∙ same) (sym c.others.ensures)
