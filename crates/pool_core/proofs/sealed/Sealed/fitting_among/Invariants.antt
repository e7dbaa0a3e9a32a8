-- The places so far that fit, and what is kept of versions is right.
use Rattle.std.proofs.Common.{◌≡◌, ℕ, take}
use Rattle.std.specs.List.{filter}
use Rattle.option_ranks.specs.candidate_core.Matches.{AreMatchesFor}
use Rattle.option_ranks.specs.candidate_core.Options.{is_eligible_for_need}
use Rattle.option_ranks.specs.candidate_core.Rank.{candidate_at_passes}
use Rattle.option_ranks.specs.candidate_core.Values.{need_of_ref}
use Rattle.option_ranks.specs.candidate_core.VersionTexts.{source_text}
use Rattle.pool_core.proofs.sealed.Sealed.fitting_among.Given as goal

abbrev pub invariant-loop-id : goal.invariant-loop-id
invariant-loop-id l = record {
  ids : l.ids.items ≡ filter (λ (k : ℕ). candidate_at_passes l.self (is_eligible_for_need l.self (need_of_ref l.need)) k) (take l.id-index l.places);
  known : AreMatchesFor (source_text l.packages.sources.items) (need_of_ref l.need) l.known;
}
