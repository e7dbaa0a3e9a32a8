use Rattle.std.proofs.Common.{◌∙◌, Some, None, refl, sym}
use Rattle.std.proofs.lemmas.Bool.Decides.{Decides-eqb}
use Rattle.std.proofs.lemmas.Slice.Eq.{strip_prefix_is}
use Rattle.star_patterns.proofs.FirstStar.{first_star, front_missing, front_taken}
use Rattle.star_patterns.proofs.Pieces.{literal}
use Rattle.star_patterns.proofs.pattern.matches.Goals as goal

pub returns-in_default : goal.returns-in_default
returns-in_default c =
    c.eq.ensures
    ∙ sym (literal c.args.pattern.now c.args.text.now (first_star c.args.pattern.now None c.in_default.ensures.found))

pub returns-in-Some-strip_prefix : goal.returns-in-Some-strip_prefix
returns-in-Some-strip_prefix c =
    c.matches_end.ensures
    ∙ front_taken c.args.pattern.now c.args.text.now c.in-Some-strip_prefix.left.now _ c.after.result.now c.in-Some.at
    (first_star c.args.pattern.now (Some c.in-Some.at) c.in-Some.ensures.found) refl c.after.ensures
    (strip_prefix_is Decides-eqb c.args.text.now _ (Some c.in-Some-strip_prefix.left) c.in-Some-strip_prefix.ensures.cases)

pub returns-in-None : goal.returns-in-None
returns-in-None c =
    front_missing c.args.pattern.now c.args.text.now _ c.in-Some.at
    (first_star c.args.pattern.now (Some c.in-Some.at) c.in-Some.ensures.found) refl
    (strip_prefix_is Decides-eqb c.args.text.now _ None c.in-None.ensures.cases)
