use Rattle.std.proofs.Common.{◌≡◌, ◌∙◌, ◌-◌, ◌≤◌, ◌<◌, ℕ, List, length, set, ap, sym, arith}
use Rattle.std.specs.Prelude.{Some, slice_get}
use Rattle.option_ranks.specs.VersionRanks.{rank_among, version_with_rank, version_with_rank_among, versions_in}
use Rattle.candidate_core.specs.declared.versions.RankedVersion.{RankedVersion}
use Rattle.candidate_core.specs.declared.versions.VersionKind.{VersionKind}
use Rattle.option_ranks.proofs.ListedVersions.{rank_of_equal, rank_of_first}
use Rattle.option_ranks.proofs.RankOrder.{order_of_kind}
use Rattle.option_ranks.proofs.RankedVersions.{first_all, first_here, first_length, one_more_changed}
use Rattle.candidate_core.proofs.Steps.{get_at}
use Rattle.option_ranks.proofs.version_ranks.rank_sorted.Goals as goal
use Rattle.option_ranks.proofs.version_ranks.rank_sorted.Goals.{then-equals_the_one_before, else-equals_the_one_before}

pub loop-i-preserved : goal.loop-i-preserved
loop-i-preserved c =
    let kind : VersionKind = c.args.kind in
    let old : List RankedVersion = c.args.versions.now.items in
    let f : RankedVersion → RankedVersion = version_with_rank_among kind (versions_in old) in
    let i : ℕ = c.loop-i.i in
    let now : List RankedVersion = c.loop-i.versions.items in
    let x : RankedVersion = c.index_mut.result.now in
    let total = order_of_kind c.order_is_total.ensures kind in
    let len : length now ≡ length old = ap length c.loop-i.invariant ∙ first_length f i old in
    let here : i < length now = omega (arith, len, c.len-i-end.ensures, c.loop-i-test.true) in
    let within : i < length old = omega (arith, len, here) in
    let at_now : slice_get now i ≡ Some x = get_at now i x here ∙ ap Some (sym c.index_mut.ensures.value) in
    let at : slice_get old i ≡ Some x = sym (first_here f i old) ∙ (ap (λ (zs : List RankedVersion). slice_get zs i) (sym c.loop-i.invariant) ∙ at_now) in
    let seen_x : slice_get c.deref.result.now i ≡ Some x = ap (λ (zs : List RankedVersion). slice_get zs i) c.deref.ensures.value ∙ at_now in
    let rank : c.if-equals_the_one_before.rank ≡ rank_among kind (versions_in old) x.version =
    elim c.if-equals_the_one_before.branch [
      | then-equals_the_one_before w ↦
          let one : RankedVersion = w.index.result.now in
          let low : 0 < i = c.equals_the_one_before.ensures.first w.if-equals_the_one_before.true in
          let one_now : slice_get now (i - 1) ≡ Some one = get_at now (i - 1) one (omega (arith, here, low)) ∙ ap Some (sym w.index.ensures) in
          let seen : slice_get c.deref.result.now (i - 1) ≡ Some one = ap (λ (zs : List RankedVersion). slice_get zs (i - 1)) c.deref.ensures.value ∙ one_now in
          w.rank-is
          ∙ rank_of_equal kind total old i x within one low (ap (λ (zs : List RankedVersion). slice_get zs (i - 1)) (sym c.loop-i.invariant) ∙ one_now)
          (sym (c.equals_the_one_before.ensures.equal low one x seen seen_x) ∙ w.if-equals_the_one_before.true)
      | else-equals_the_one_before w ↦
          w.rank-is
          ∙ rank_of_first kind total old i x within c.requires at
          (λ low one h.
          let seen : slice_get c.deref.result.now (i - 1) ≡ Some one = ap (λ (zs : List RankedVersion). slice_get zs (i - 1)) c.deref.ensures.value ∙ (ap (λ (zs : List RankedVersion). slice_get zs (i - 1)) c.loop-i.invariant ∙ h) in
          sym (c.equals_the_one_before.ensures.equal low one x seen seen_x) ∙ w.if-equals_the_one_before.false)
    ] in
    one_more_changed f i old _ x c.set_own_rank.new.version at (c.set_own_rank.ensures ∙ ap (λ (n : ℕ). version_with_rank n x) rank)
    (ap (λ (zs : List RankedVersion). set zs i c.set_own_rank.new.version) c.loop-i.invariant)

pub returns : goal.returns
returns c =
    let old : List RankedVersion = c.args.versions.now.items in
    let f : RankedVersion → RankedVersion = version_with_rank_among c.args.kind (versions_in old) in
    let past : length old ≤ c.loop-i.i = omega (arith, c.len-i-end.ensures, c.loop-i-test.false) in
    c.loop-i.invariant ∙ first_all f c.loop-i.i old past
