use Rattle.std.proofs.Common.{◌≡◌, ◌∙◌, List, ℕ, Bool, ap, sym, arith}
use Rattle.option_ranks.specs.candidate_core.Options.{options_for, rank_order_of}
use Rattle.option_ranks.specs.candidate_core.Rank.{is_better}
use Rattle.option_ranks.specs.candidate_core.Values.{need_of_ref}
use Rattle.option_ranks.specs.candidate_core.VersionTexts.{source_text}
use Rattle.option_ranks.proofs.candidate_core.WantedVersions.{known_of_nothing}
use Rattle.option_ranks.proofs.RankedOptions.{few_ranked}
use Rattle.pool_core.proofs.sealed.Sealed.options_among.Goals as goal

pub fitting-requires : goal.fitting-requires
fitting-requires c = record {
  own = c.requires;
  known = known_of_nothing (source_text c.args.packages.now.sources.items) (need_of_ref c.args.need.now) c.new-known.result c.new-known.ensures;
}

pub returns-then-len-lt2 : goal.returns-then-len-lt2
unfolding options_for
returns-then-len-lt2 c =
    let better : ℕ → ℕ → Bool = is_better c.args.self.now (need_of_ref c.args.need.now) in
    let ids : List ℕ = c.in_ok-ids.ids.items in
    let few : rank_order_of better ids ≡ ids = few_ranked better ids (omega arith) in
    c.of.ensures ∙ (sym few ∙ ap (rank_order_of better) c.in_ok-ids.ensures.places)
