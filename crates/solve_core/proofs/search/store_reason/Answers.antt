use Rattle.std.proofs.Common.{◌≤◌, ◌+◌, ◌∙◌, ◌++◌, ◌∷◌, [], ℕ, List, take, subst, sym, ap, length, arith, append-nil}
use Rattle.std.proofs.lemmas.List.{take_more, take_all}
use Rattle.search_choices.specs.search_tables.Reasons.{HasSameMembers, other_members_of_reasons}
use Rattle.search_choices.proofs.search_tables.Members.{same_more_all, others-append}
use Rattle.solve_core.proofs.search.store_reason.Goals as goal

pub loop-ruled_out-init : goal.loop-ruled_out-init
loop-ruled_out-init c =
    subst (λ (z : List ℕ). HasSameMembers c.replace_members.new.members z) (c.by.ensures ∙ sym (append-nil c.args.spent.now.2)) c.in_ok-replace_members.ensures

pub loop-ruled_out-preserved : goal.loop-ruled_out-preserved
loop-ruled_out-preserved c =
    let items : List (ℕ × List ℕ) = c.ruled_out-ruled_out-items.result.now in
    let one = take_more items c.loop-ruled_out.ruled_out-index c.ruled_out-item.result (omega arith) ∙ ap (λ (k : ℕ × List ℕ). take c.loop-ruled_out.ruled_out-index items ++ k ∷ []) (sym c.ruled_out-item.is) in
    same_more_all c.add_all.new.self c.loop-ruled_out.members c.args.spent.now.2 (other_members_of_reasons (take c.loop-ruled_out.ruled_out-index items)) c.others.result.now (other_members_of_reasons (take (c.loop-ruled_out.ruled_out-index + 1) items))
    c.loop-ruled_out.invariant c.in_ok-add_all.ensures
    (ap other_members_of_reasons one ∙ (others-append (take c.loop-ruled_out.ruled_out-index items) c.ruled_out-item.result ∙ ap (λ (z : List ℕ). other_members_of_reasons (take c.loop-ruled_out.ruled_out-index items) ++ z) (sym c.others.ensures)))

pub returns : goal.returns
returns c =
    let items : List (ℕ × List ℕ) = c.ruled_out-ruled_out-items.result.now in
    let past : length items ≤ c.loop-ruled_out.ruled_out-index = omega arith in
    subst (λ (z : List (ℕ × List ℕ)). HasSameMembers c.loop-ruled_out.members (c.args.spent.now.2 ++ other_members_of_reasons z)) (take_all c.loop-ruled_out.ruled_out-index items past ∙ c.ruled_out-ruled_out-items.ensures) c.loop-ruled_out.invariant
