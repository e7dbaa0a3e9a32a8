use Rattle.std.proofs.Common.{◌≤◌, ◌+◌, ◌∙◌, ◌++◌, ◌∷◌, [], ℕ, List, take, subst, sym, ap, length, arith}
use Rattle.std.proofs.lemmas.List.{take_more, take_all}
use Rattle.search_choices.specs.Choices.{choices_of}
use Rattle.solve_core.specs.Clauses.{AreAllMembersOfOr}
use Rattle.solve_core.proofs.Resolution.{one_more_member}
use Rattle.solve_core.proofs.clauses.are_others_choices.Goals as goal

pub loop-member-preserved : goal.loop-member-preserved
loop-member-preserved c =
    let members : List ℕ = c.args.members.now in
    one_more_member (take c.loop-member.member-index members) (take (c.loop-member.member-index + 1) members) c.member-item.result c.args.id (choices_of c.args.chosen.now)
    c.loop-member.invariant (c.is_choice_or.ensures c.if-not-is_choice_or.false)
    (take_more members c.loop-member.member-index c.member-item.result (omega arith) ∙ ap (λ (k : ℕ). take c.loop-member.member-index members ++ k ∷ []) (sym c.member-item.is))

pub returns : goal.returns
returns c = λ _.
    let members : List ℕ = c.args.members.now in
    let past : length members ≤ c.loop-member.member-index = omega arith in
    subst (λ (z : List ℕ). AreAllMembersOfOr z c.args.id (choices_of c.args.chosen.now)) (take_all c.loop-member.member-index members past) c.loop-member.invariant
