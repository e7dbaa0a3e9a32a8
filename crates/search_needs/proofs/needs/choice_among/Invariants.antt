use Rattle.std.proofs.Common.{◌≡◌, ℕ, take, false}
use Rattle.search_tables.specs.candidate_core.Options.{IsIn}
use Rattle.search_tables.specs.candidate_core.Rank.{meets_at}
use Rattle.search_tables.specs.candidate_core.Values.{need_of_ref}
use Rattle.search_needs.proofs.needs.choice_among.Given as goal

abbrev pub invariant-loop-id : goal.invariant-loop-id
invariant-loop-id l = (k : ℕ) → IsIn k (take l.id-index l.ids) → IsIn k l.choices → meets_at l.pool k (need_of_ref l.need) ≡ false
