use Rattle.std.proofs.Common.{◌≡◌, ◌∙◌, ◌+◌, ◌≤◌, ◌<◌, ℕ, Bool, cond, List, length, take, get_or, ap, sym, arith}
use Rattle.std.specs.List.{filter}
use Rattle.std.specs.Ordering.{is_lt}
use Rattle.std.proofs.lemmas.List.{take_all}
use Rattle.std.proofs.lemmas.List.Filters.{length-filter_more}
use Rattle.option_ranks.specs.Ranking.{version_order}
use Rattle.candidate_core.specs.declared.versions.RankedVersion.{RankedVersion}
use Rattle.option_ranks.proofs.CountedRanks.{counted_in}
use Rattle.option_ranks.proofs.version_ranks.rank_among.Goals as goal
use Rattle.option_ranks.proofs.version_ranks.rank_among.Goals.{then-is_lt, else-is_lt}

pub loop-i-preserved : goal.loop-i-preserved
loop-i-preserved c =
    let vs : List RankedVersion = c.args.versions.now in
    let i : ℕ = c.loop-i.i in
    let comes : RankedVersion → Bool = λ v. is_lt (version_order c.args.kind v.version c.args.version.now) in
    let x : RankedVersion = c.index-versions-i.result in
    let here : i < length vs = omega arith in
    let more = length-filter_more comes vs i x here in
    let test : comes (get_or vs i x) ≡ c.is_lt.result = sym (c.is_lt.ensures ∙ ap is_lt c.compare_versions.ensures) in
    elim c.if-is_lt.branch [
      | then-is_lt w ↦
          let one : length (filter comes (take (i + 1) vs)) ≡ length (filter comes (take i vs)) + 1 = more ∙ ap (λ (b : Bool). length (filter comes (take i vs)) + cond b 1 0) (test ∙ w.if-is_lt.true) in
          record {
            count = omega (arith, w.rank-is, c.loop-i.invariant.count, one);
            few = omega (arith, w.rank-is, c.loop-i.invariant.few);
          }
      | else-is_lt w ↦
          let none : length (filter comes (take (i + 1) vs)) ≡ length (filter comes (take i vs)) + 0 = more ∙ ap (λ (b : Bool). length (filter comes (take i vs)) + cond b 1 0) (test ∙ w.if-is_lt.false) in
          record {
            count = omega (arith, w.rank-is, c.loop-i.invariant.count, none);
            few = omega (arith, w.rank-is, c.loop-i.invariant.few);
          }
    ]

pub returns : goal.returns
returns c =
    let vs : List RankedVersion = c.args.versions.now in
    let comes : RankedVersion → Bool = λ v. is_lt (version_order c.args.kind v.version c.args.version.now) in
    let past : length vs ≤ c.loop-i.i = omega arith in
    c.loop-i.invariant.count
    ∙ (ap (λ (xs : List RankedVersion). length (filter comes xs)) (take_all c.loop-i.i vs past)
    ∙ counted_in (λ (v : RankedVersion). v.version) (λ one. is_lt (version_order c.args.kind one c.args.version.now)) vs)
