use Rattle.std.proofs.Common.{◌∙◌, ◌++◌, None, Some, ap, false, refl, sym}
use Rattle.std.specs.Option.{option_map_or}
use Rattle.star_patterns.specs.Ends.{matches_some_suffix}
use Rattle.star_patterns.proofs.FirstStar.{first_star, piece_missing, piece_taken}
use Rattle.star_patterns.proofs.pattern.last_piece.Goals as goal

pub returns-in_err-left-clause-answer : goal.returns-in_err-left-clause-answer
returns-in_err-left-clause-answer c = λ tail.
    c.loop-at.invariant tail
    ∙ (piece_missing c.loop-at.wanted.now c.loop-at.left.now _ tail c.in-Some.at
    (first_star c.loop-at.wanted.now (Some c.in-Some.at) c.in-Some.ensures.found) refl
    (λ others none. c.after_first.ensures others none
    ∙ ap (λ o. option_map_or (λ rest. matches_some_suffix others rest.now) o false) c.in_err-left.was)
    ∙ ap (λ o. option_map_or (λ last. matches_some_suffix (last.piece.now ++ tail) last.text.now) o false) (sym c.from_residual.ensures))

pub loop-at-preserved : goal.loop-at-preserved
loop-at-preserved c = λ tail.
    c.loop-at.invariant tail
    ∙ piece_taken c.loop-at.wanted.now c.loop-at.left.now _ c.after-wanted.result.now c.in_ok-left.left.now tail c.in-Some.at
    (first_star c.loop-at.wanted.now (Some c.in-Some.at) c.in-Some.ensures.found) refl c.after-wanted.ensures
    (λ others none. c.after_first.ensures others none
    ∙ ap (λ o. option_map_or (λ rest. matches_some_suffix others rest.now) o false) c.in_ok-left.was)

pub returns-clause-piece : goal.returns-clause-piece
returns-clause-piece c = first_star c.loop-at.wanted.now None c.in_default.ensures.found
