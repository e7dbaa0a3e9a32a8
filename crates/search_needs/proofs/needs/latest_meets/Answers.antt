use Rattle.std.proofs.Common.{◌∙◌, sym}
use Rattle.search_tables.specs.candidate_core.Rank.{meets_at}
use Rattle.search_tables.specs.candidate_core.Values.{need_of_ref}
use Rattle.search_tables.proofs.Places.{there_is}
use Rattle.search_tables.proofs.Satisfying.{one_any}
use Rattle.search_needs.proofs.needs.latest_meets.Goals as goal

pub returns-in-Some : goal.returns-in-Some
returns-in-Some c = λ h.
    one_any (λ k. meets_at c.args.pool.now k (need_of_ref c.args.need.now)) c.args.choices.now c.in-Some.id.now
    (there_is c.args.choices.now _ c.in-Some.id.now (sym c.in-Some.ensures.value)).1 (sym c.meets.ensures ∙ h)
