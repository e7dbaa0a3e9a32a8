use Rattle.std.proofs.Common.{◌≡◌, ◌∙◌, ◌++◌, ◌∷◌, [], ◌≤◌, ℕ, ap, sym, length, arith}
use Rattle.search_tables.proofs.Marks.{marked_less, marked_within}
use Rattle.search_tables.proofs.candidate_set.CandidateSet.pop.Goals as goal

pub invariant_of-self : goal.invariant_of-self
invariant_of-self c =
    let is : c.self.inside.ids.items ≡ c.pop.new.self.items ++ c.id.inside.place ∷ [] = c.in-Some.ensures.items ∙ ap (λ (k : ℕ). c.pop.new.self.items ++ k ∷ []) (sym c.id.view_is) in
    marked_less c.self.inside.marks.items c.self.inside.ids.items c.pop.new.self.items c.id.inside.place c.self.invariant is

pub invariant_of-self-else-place-len : goal.invariant_of-self-else-place-len
invariant_of-self-else-place-len c =
    let is : c.self.inside.ids.items ≡ c.pop.new.self.items ++ c.id.inside.place ∷ [] = c.in-Some.ensures.items ∙ ap (λ (k : ℕ). c.pop.new.self.items ++ k ∷ []) (sym c.id.view_is) in
    let past : length c.self.inside.marks.items ≤ c.id.inside.place = omega (arith, c.self.inside.marks.ok) in
    absurd (marked_within c.self.inside.marks.items c.self.inside.ids.items c.pop.new.self.items c.id.inside.place c.self.invariant is past)
