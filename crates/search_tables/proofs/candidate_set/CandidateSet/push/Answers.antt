use Rattle.std.proofs.Common.{◌≡◌, ◌∙◌, ◌++◌, ◌∷◌, [], ◌<◌, ℕ, List, true, ap, sym, subst, length, arith}
use Rattle.std.specs.Prelude.{slice_set}
use Rattle.pool_core.specs.candidate_core.Options.{IsIn}
use Rattle.search_tables.specs.CandidateSet.{AreMarksOfPlaces}
use Rattle.search_tables.proofs.Marks.{marked_more}
use Rattle.search_tables.proofs.candidate_set.CandidateSet.push.Goals as goal

pub invariant_of-self-2 : goal.invariant_of-self-2
invariant_of-self-2 c =
    let place = c.id.inside.place in
    let ids = c.self.inside.ids.items in
    let is : c.push.new.self.items ≡ ids ++ place ∷ [] = c.in_ok-push.ensures.items ∙ ap (λ (k : ℕ). ids ++ k ∷ []) (sym c.id.view_is) in
    let within : place < length c.grow.new.marks.items = omega (arith, c.in_ok-grow.ensures.room, c.grow.new.marks.ok) in
    subst (λ (z : List ℕ). AreMarksOfPlaces (slice_set c.grow.new.marks.items place true) z) (sym is)
    (marked_more c.self.inside.marks.items c.grow.new.marks.items ids place c.self.invariant c.grow.ensures.same
    (λ h. c.requires (subst (λ (z : List ℕ). IsIn c.args.id z) c.self.view_is (subst (λ (k : ℕ). IsIn k ids) c.id.view_is h))) within)
