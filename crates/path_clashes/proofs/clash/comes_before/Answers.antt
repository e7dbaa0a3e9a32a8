use Rattle.std.proofs.Common.{◌≡◌, ◌∙◌, ap, sym}
use Rattle.std.specs.Ordering.{is_lt, ordering_then}
use Rattle.base_core.specs.ByteOrder.{bytes_cmp}
use Rattle.path_clashes.specs.ClashSeen.{clash_seen}
use Rattle.path_clashes.proofs.PairOrder.{precedes_pair_is}
use Rattle.path_clashes.proofs.clash.comes_before.Goals as goal

pub returns : goal.returns
returns c =
    let by_path : c.cmp-by_path.result ≡ bytes_cmp c.args.one.now.path c.args.other.now.path =
    c.cmp-by_path.ensures ∙ (λ i. bytes_cmp (c.as_bytes.ensures.value i) (c.as_bytes-2.ensures.value i)) in
    let by_other : c.cmp-by_other.result ≡ bytes_cmp c.args.one.now.other c.args.other.now.other =
    c.cmp-by_other.ensures ∙ (λ i. bytes_cmp (c.as_bytes-3.ensures.value i) (c.as_bytes-4.ensures.value i)) in
    c.is_lt.ensures
    ∙ (ap is_lt (c.then.ensures ∙ (λ i. ordering_then (by_path i) (by_other i))) ∙ sym (precedes_pair_is (clash_seen c.args.one.now) (clash_seen c.args.other.now)))
