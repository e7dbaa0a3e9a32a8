use Rattle.std.proofs.Common.{◌∙◌, [], ap, sym}
use Rattle.std.proofs.lemmas.Bool.Decides.{Decides-eqb}
use Rattle.std.proofs.lemmas.List.{append-nil}
use Rattle.std.proofs.lemmas.Slice.Eq.{ends_is}
use Rattle.star_patterns.specs.Ends.{matches_some_suffix}
use Rattle.star_patterns.proofs.Pieces.{last_piece}
use Rattle.star_patterns.proofs.pattern.matches_end.Goals as goal

pub returns-in-Some : goal.returns-in-Some
returns-in-Some c =
    let piece = c.in-Some.last.piece.now in
    let left = c.in-Some.last.text.now in
    last_piece piece left c.ends_with.result c.in-Some.ensures.piece
    (ends_is Decides-eqb left piece c.ends_with.result c.ends_with.ensures.value)
    ∙ (ap (λ z. matches_some_suffix z left) (sym (append-nil piece))
    ∙ (sym (c.in-Some.ensures.answer [])
    ∙ ap (λ z. matches_some_suffix z c.args.text.now) (append-nil c.args.pattern.now)))

pub returns-in-None : goal.returns-in-None
returns-in-None c =
    sym (c.in-None.ensures.answer [])
    ∙ ap (λ z. matches_some_suffix z c.args.text.now) (append-nil c.args.pattern.now)
