use Rattle.std.proofs.Common.{◌≡◌, ℕ, take, false}
use Rattle.search_tables.specs.candidate_core.Options.{IsIn}
use Rattle.search_tables.specs.candidate_core.Candidates.{occupies_name}
use Rattle.search_tables.specs.candidate_core.Rank.{candidate_at_passes}
use Rattle.search_needs.proofs.needs.occupant_among.Given as goal

abbrev pub invariant-loop-id : goal.invariant-loop-id
invariant-loop-id l = (k : ℕ) → IsIn k (take l.id-index l.ids) → IsIn k l.choices → candidate_at_passes l.pool (occupies_name l.name) k ≡ false
