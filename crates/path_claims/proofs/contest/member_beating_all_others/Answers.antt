use Rattle.std.proofs.Common.{◌≡◌, ℕ, Some, None, ap, sym, ◌∙◌}
use Rattle.std.specs.Prelude.{if◌then◌else◌, Option}
use Rattle.path_claims.proofs.Contests.{none_wins, one_wins}
use Rattle.path_claims.proofs.contest.member_beating_all_others.Goals as goal

pub returns-then-is_empty : goal.returns-then-is_empty
returns-then-is_empty g c = none_wins (g.C.Contest.beats c.args.contest.now) (λ c. c.member) c.args.claims.now (sym c.is_empty.ensures ∙ c.if-is_empty.true)

pub returns-then-is_winner : goal.returns-then-is_winner
returns-then-is_winner g c =
    let e : (if c.is_winner.result then Some c.last_unbeaten_member-left.result else None) ≡ Some c.last_unbeaten_member-left.result = ap (λ b. if b then Some c.last_unbeaten_member-left.result else None) c.if-is_winner.true in
    sym e ∙ one_wins (g.C.Contest.beats c.args.contest.now) c.requires (λ c. c.member) c.args.claims.now _ c.last_unbeaten_member-left.result c.is_winner.result (sym c.is_empty.ensures ∙ c.if-is_empty.false) c.last_unbeaten_member-left.ensures c.is_winner.ensures

pub returns-else-is_winner : goal.returns-else-is_winner
returns-else-is_winner g c =
    let none : Option ℕ = None in
    let e : (if c.is_winner.result then Some c.last_unbeaten_member-left.result else none) ≡ none = ap (λ b. if b then Some c.last_unbeaten_member-left.result else none) c.if-is_winner.false in
    sym e ∙ one_wins (g.C.Contest.beats c.args.contest.now) c.requires (λ c. c.member) c.args.claims.now _ c.last_unbeaten_member-left.result c.is_winner.result (sym c.is_empty.ensures ∙ c.if-is_empty.false) c.last_unbeaten_member-left.ensures c.is_winner.ensures
