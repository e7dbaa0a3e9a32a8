use Rattle.std.proofs.Common.{◌+◌, length, sym, arith}
use Rattle.std.proofs.lemmas.Result.{IfOk-at_ok}
use Rattle.words_core.proofs.KindsKept.{IsSite, site_known}
use Rattle.words_core.proofs.reading.read_start.Goals as goal

pub read_early-requires-clause-low : goal.read_early-requires-clause-low
read_early-requires-clause-low c =
    let site : IsSite c.in_ok-site.site (1 + length c.args.words.now) = IfOk-at_ok (λ s. IsSite s (1 + length c.args.words.now)) (sym c.in_ok-site.ensures.site) (site_known 1 (1 + length c.args.words.now) c.args.words.now (omega arith) (omega arith)) in
    site.low

pub read_early-requires-clause-high : goal.read_early-requires-clause-high
read_early-requires-clause-high c =
    let site : IsSite c.in_ok-site.site (1 + length c.args.words.now) = IfOk-at_ok (λ s. IsSite s (1 + length c.args.words.now)) (sym c.in_ok-site.ensures.site) (site_known 1 (1 + length c.args.words.now) c.args.words.now (omega arith) (omega arith)) in
    omega (arith, site.read)
