use Rattle.std.proofs.Common.{◌≡◌, ◌∙◌, ◌∷◌, Bor, List, None, Option, Some, [], false, refl, sym, ℕ}
use Rattle.std.specs.Prelude.{is_some}
use Rattle.std.specs.Option.{option_map_or}
use Rattle.star_patterns.specs.Ends.{matches_some_suffix}
use Rattle.star_patterns.proofs.Pieces.{empty_end}
use Rattle.star_patterns.proofs.pattern.matches_within.Goals as goal

-- the empty pattern matches an end of what is left, if anything is left
left_matched : (o : Option (Bor (List ℕ))) → is_some o ≡ option_map_or (λ rest. matches_some_suffix [] rest.now) o false
left_matched None = refl
left_matched (Some rest) = sym (empty_end rest.now)

pub returns-in-Some : goal.returns-in-Some
returns-in-Some c =
    c.is_some.ensures
    ∙ (left_matched c.after_first.result
    ∙ (sym (c.after_first.ensures [] c.in-Some.ensures.piece)
    ∙ sym (c.in-Some.ensures.answer (42 ∷ []))))

pub returns-in-None : goal.returns-in-None
returns-in-None c = sym (c.in-None.ensures.answer (42 ∷ []))
