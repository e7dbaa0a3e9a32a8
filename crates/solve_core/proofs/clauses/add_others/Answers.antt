use Rattle.std.proofs.Common.{◌≤◌, ◌+◌, ◌∙◌, ◌++◌, ◌∷◌, [], ℕ, List, take, subst, sym, ap, length, arith}
use Rattle.std.proofs.lemmas.List.{take_more, take_all}
use Rattle.solve_core.specs.Clauses.{AreAllMembersOfOr}
use Rattle.solve_core.proofs.Resolution.{more_others, one_more_member}
use Rattle.solve_core.proofs.clauses.add_others.Goals as goal

pub loop-id-init : goal.loop-id-init
loop-id-init c = record {
  old = λ o h. h;
  new = λ o h. absurd h;
}

pub loop-id-preserved : goal.loop-id-preserved
loop-id-preserved c =
    let ids : List ℕ = c.args.ids.now in
    let i : ℕ = c.loop-id.id-index in
    let more = c.in_ok-add_unless.ensures.old in
    record {
      old = λ o h. more o (c.loop-id.invariant.old o h);
      new = one_more_member (take i ids) (take (i + 1) ids) c.id-item.result c.args.but c.add_unless.new.list.items
          (more_others (take i ids) c.args.but c.loop-id.list.items c.add_unless.new.list.items more c.loop-id.invariant.new) c.in_ok-add_unless.ensures.new
          (take_more ids i c.id-item.result (omega arith) ∙ ap (λ (k : ℕ). take i ids ++ k ∷ []) (sym c.id-item.is));
    }

pub returns-clause-new : goal.returns-clause-new
returns-clause-new c =
    let ids : List ℕ = c.args.ids.now in
    let past : length ids ≤ c.loop-id.id-index = omega arith in
    subst (λ (z : List ℕ). AreAllMembersOfOr z c.args.but c.loop-id.list.items) (take_all c.loop-id.id-index ids past) c.loop-id.invariant.new
