use Rattle.std.proofs.Common.{◌≡◌, ◌∙◌, ◌≤◌, ◌++◌, ◌∷◌, [], ℕ, List, false, take, length, sym, subst, ap, arith}
use Rattle.std.proofs.lemmas.List.{take_more, take_all}
use Rattle.search_tables.specs.candidate_core.Options.{IsIn}
use Rattle.search_tables.specs.candidate_core.Rank.{meets_at}
use Rattle.search_tables.specs.candidate_core.Values.{need_of_ref}
use Rattle.search_tables.proofs.ListLoops.{in_more}
use Rattle.search_needs.proofs.needs.choice_among.Goals as goal

pub loop-id-preserved : goal.loop-id-preserved
loop-id-preserved c =
    let items : List ℕ = c.args.ids.now in
    let one = take_more items c.loop-id.id-index c.id-item.result (omega arith) ∙ ap (λ (k : ℕ). take c.loop-id.id-index items ++ k ∷ []) (sym c.id-item.is) in
    λ k h. in_more (λ j. IsIn j c.args.choices.now → meets_at c.args.pool.now j (need_of_ref c.args.need.now) ≡ false) (take c.loop-id.id-index items) c.id-item.result (λ j g. c.loop-id.invariant j g) (rw c.if-is_choice_meeting.false at c.is_choice_meeting.ensures) k (subst (λ (z : List ℕ). IsIn k z) one h)

pub returns : goal.returns
returns c =
    let items : List ℕ = c.args.ids.now in
    let past : length items ≤ c.loop-id.id-index = omega arith in
    λ k h. c.loop-id.invariant k (subst (λ (z : List ℕ). IsIn k z) (sym (take_all c.loop-id.id-index items past)) h)
