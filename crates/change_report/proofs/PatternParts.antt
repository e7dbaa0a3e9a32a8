-- A pattern and a folder, part by part.
use Rattle.std.proofs.Common.{◌≡◌, ℕ, suc, Bool, true, false, List, [], ◌∷◌, length, refl, ap, arith}
use Rattle.std.specs.Prelude.{◌&&◌}
use Rattle.std.specs.List.{list_all, zip}
use Rattle.change_outcome.specs.Triggers.{do_patterns_match_parts_one_to_one}
use Rattle.change_outcome.specs.star_patterns.Patterns.{is_whole_text_matched}

pub zipped : (patterns parts : List (List ℕ)) → length patterns ≡ length parts → list_all (λ (p : List ℕ × List ℕ). is_whole_text_matched p.0 p.1) (zip patterns parts) ≡ do_patterns_match_parts_one_to_one patterns parts
zipped [] [] e = refl
zipped [] (x ∷ parts) e = cc
zipped (p ∷ patterns) [] e = cc
zipped (p ∷ patterns) (x ∷ parts) e =
    let same : length patterns ≡ length parts = omega arith in
    ap (λ t. is_whole_text_matched p x && t) (zipped patterns parts same)

pub unlike : (patterns parts : List (List ℕ)) → (length patterns ≡ length parts → ⊥) → false ≡ do_patterns_match_parts_one_to_one patterns parts
unlike [] [] e = absurd (e refl)
unlike [] (x ∷ parts) e = refl
unlike (p ∷ patterns) [] e = refl
unlike (p ∷ patterns) (x ∷ parts) e = go (is_whole_text_matched p x) (unlike patterns parts (λ same. e (ap suc same)))
  where
    go : (t : Bool) → false ≡ do_patterns_match_parts_one_to_one patterns parts → false ≡ (t && do_patterns_match_parts_one_to_one patterns parts)
    go true later = later
    go false later = refl
