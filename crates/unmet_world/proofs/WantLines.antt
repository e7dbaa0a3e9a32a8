-- The lines of a wanted dependency, as they are added.
use Rattle.std.proofs.Common.{◌≡◌, ◌∙◌, ℕ, Bool, true, false, List, [], ◌∷◌, length, Option, Some, None, Result, Ok, Err, ap, sym}
use Rattle.std.specs.Prelude.{◌==◌, OnOk, if◌then◌else◌}
use Rattle.dep_core.specs.Dependency.{Dependency}
use Rattle.dep_core.specs.Repositories.{Repository}
use Rattle.search_tables.specs.candidate_core.Candidates.{entry}
use Rattle.search_tables.specs.candidate_core.Options.{options_for}
use Rattle.search_tables.specs.candidate_core.Rank.{SelectionProblem}
use Rattle.unmet_world.specs.Lines.{need_lines, needs_text, offers_line_of_name, want_lines, with_text_once, with_texts}
use Rattle.unmet_world.specs.Refutation.{wanted}
use Rattle.unmet_world.specs.declared.refutation.Want.{Want}

module _ (pool : SelectionProblem) (listed : List Dependency) (repositories : List Repository) (want : Want) (old : List (List ℕ)) where
  -- the lines, by the wanted dependency
  abbrev lines_of : Option Dependency → List (List ℕ)
  lines_of o = with_texts old (need_lines pool listed repositories want.owner o)

  -- there is no wanted dependency
  pub no_want : wanted pool want ≡ None → old ≡ with_texts old (want_lines pool listed repositories want)
  no_want none = ap lines_of (sym none)

  module _ (d : Dependency) (line : List ℕ) (lines : List (List ℕ)) (options : List ℕ) where
    -- the lines, by whether no candidate meets the dependency
    abbrev lines_if : Bool → List (List ℕ)
    lines_if none = with_texts (with_text_once old (needs_text pool listed repositories want.owner d)) (if none then offers_line_of_name pool listed d.name ∷ [] else [])

    -- these lines are those of the wanted dependency
    lines_are : (none : Bool) → wanted pool want ≡ Some d → options ≡ options_for pool (entry d) → (length options == 0) ≡ none → lines_if none ≡ with_texts old (want_lines pool listed repositories want)
    lines_are none is are some = ap lines_if (sym (ap (λ (ids : List ℕ). length ids == 0) (sym are) ∙ some)) ∙ ap lines_of (sym is)

    -- a candidate meets it
    pub want_met : wanted pool want ≡ Some d → line ≡ needs_text pool listed repositories want.owner d → lines ≡ with_text_once old line → options ≡ options_for pool (entry d) → (length options == 0) ≡ false → lines ≡ with_texts old (want_lines pool listed repositories want)
    want_met is said added are some = added ∙ (ap (with_text_once old) said ∙ lines_are false is are some)

    -- no candidate meets it, so that another line may be added
    pub want_unmet : {T E : Type 0} (r : Result T E) (offer : List ℕ) (after : List (List ℕ)) → wanted pool want ≡ Some d → line ≡ needs_text pool listed repositories want.owner d → lines ≡ with_text_once old line → options ≡ options_for pool (entry d) → (length options == 0) ≡ true
        → offer ≡ offers_line_of_name pool listed d.name → OnOk r (after ≡ with_text_once lines offer) → OnOk r (after ≡ with_texts old (want_lines pool listed repositories want))
    want_unmet (Ok x) offer after is said added are none shown last =
        last ∙ (ap (λ (l : List (List ℕ)). with_text_once l offer) (added ∙ ap (with_text_once old) said)
        ∙ (ap (with_text_once (with_text_once old (needs_text pool listed repositories want.owner d))) shown ∙ lines_are true is are none))
    want_unmet (Err e) offer after is said added are none shown last = tt
