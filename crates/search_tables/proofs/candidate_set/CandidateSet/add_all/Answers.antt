use Rattle.std.proofs.Common.{◌≤◌, ◌+◌, ◌∙◌, ◌++◌, ◌∷◌, [], ℕ, List, take, subst, sym, ap, length, arith}
use Rattle.std.proofs.lemmas.List.{take_more, take_all}
use Rattle.search_tables.specs.Reasons.{HasSameMembers}
use Rattle.search_tables.proofs.Members.{same_more}
use Rattle.search_tables.proofs.candidate_set.CandidateSet.add_all.Goals as goal

pub loop-id-preserved : goal.loop-id-preserved
loop-id-preserved c =
    let ids : List ℕ = c.args.ids.now in
    same_more c.add.new.self c.loop-id.self c.args.self.now (take c.loop-id.id-index ids) c.id-item.result (take (c.loop-id.id-index + 1) ids) c.loop-id.invariant c.in_ok-add.ensures
    (take_more ids c.loop-id.id-index c.id-item.result (omega arith) ∙ ap (λ (k : ℕ). take c.loop-id.id-index ids ++ k ∷ []) (sym c.id-item.is))

pub returns : goal.returns
returns c =
    let ids : List ℕ = c.args.ids.now in
    let past : length ids ≤ c.loop-id.id-index = omega arith in
    subst (λ (z : List ℕ). HasSameMembers c.loop-id.self (c.args.self.now ++ z)) (take_all c.loop-id.id-index ids past) c.loop-id.invariant
