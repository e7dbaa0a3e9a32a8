use Rattle.std.proofs.Common.{◌≡◌, ◌<◌, ◌∙◌, ℕ, List, ap, sym, arith, length}
use Rattle.std.specs.Prelude.{Some, slice_get}
use Rattle.pool_core.proofs.candidate_core.Steps.{get_at}
use Rattle.search_tables.proofs.Places.{there_is}
use Rattle.search_tables.proofs.ByteOrder.{entries_more}
use Rattle.search_tables.proofs.install_ifs.InstallIfs.new.Goals as goal

pub loop-rank-preserved : goal.loop-rank-preserved
loop-rank-preserved c =
    let by_name : List ℕ = c.in_ok-by_name.by_name.items in
    let within : c.loop-rank.rank < length by_name = omega (arith, c.loop-rank-test.true, c.len-rank-end.ensures, c.in_ok-by_name.by_name.ok) in
    let here : slice_get by_name c.loop-rank.rank ≡ Some c.index.result.now = get_at by_name c.loop-rank.rank c.index.result.now within ∙ ap Some (sym c.index.ensures) in
    entries_more c.args.pool.now by_name c.loop-rank.waiting c.add_install_if.new.waiting c.loop-rank.rank c.index.result.now c.loop-rank.invariant here c.in_ok-add_install_if.ensures.more c.in_ok-add_install_if.ensures.each

pub returns : goal.returns
returns c =
    let by_name : List ℕ = c.in_ok-by_name.by_name.items in
    record {
      those = c.in_ok-by_name.ensures.those;
      each = c.in_ok-by_name.ensures.each;
      rising = c.in_ok-by_name.ensures.rising;
      entries = λ rank k d here h.
          let within = (there_is by_name rank k here).0 in
          let low : rank < c.loop-rank.rank = omega (arith, within, c.in_ok-by_name.by_name.ok) in
          c.loop-rank.invariant rank k d low here h;
    }
