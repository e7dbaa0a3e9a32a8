-- The marks so far, and what is kept of versions is right.
use Rattle.std.proofs.Common.{◌≡◌, take}
use Rattle.dep_core.specs.Meets.{dependency}
use Rattle.pool_core.specs.Marks.{affects}
use Rattle.option_ranks.specs.candidate_core.Matches.{AreRememberedMatchesOf}
use Rattle.option_ranks.specs.candidate_core.Packages.{candidates_of_packages}
use Rattle.option_ranks.specs.candidate_core.VersionTexts.{source_text}
use Rattle.pool_core.proofs.MarksThroughTable.{marks_among}
use Rattle.pool_core.proofs.marks.mark_among.Given as goal

abbrev pub invariant-loop-id : goal.invariant-loop-id
invariant-loop-id l = record {
  marks : l.marks.items ≡ marks_among (affects l.effect (dependency l.entry)) (take l.id-index l.ids) l.initial.marks.items (candidates_of_packages l.packages);
  known : AreRememberedMatchesOf (source_text l.packages.sources.items) (dependency l.entry) l.known;
}
