-- One more piece.
use Rattle.std.proofs.Common.{◌≡◌, ◌≤◌, ◌+◌, ℕ, List, drop, length, length-append, length-drop, take, Ok, sym, subst, arith}
use Rattle.std.proofs.lemmas.List.{length-take-le}
use Rattle.base_core.specs.Calls.{IfObservable}
use Rattle.base_core.specs.Tree.{TreeState, CanRead}
use Rattle.base_core.proofs.Counting.{readings_two}
use Rattle.file_guard.proofs.Fronts.{HasRead, can_read_piece, further, read_again, read_once}
use Rattle.file_guard.proofs.compare.compare_present.Goals as goal

pub loop-at-preserved : goal.loop-at-preserved
loop-at-preserved g c =
    let few : c.min-len.result ≤ 65536 = omega (arith, c.min-len.ensures) in
    let within : c.loop-at.at + c.min-len.result ≤ c.args.size = omega (arith, c.loop-at.invariant.within, c.min-len.ensures) in
    let len : length (take c.min-len.result c.loop-at.piece) ≡ c.min-len.result =
    length-take-le c.min-len.result c.loop-at.piece (omega (arith, few, c.loop-at.invariant.whole)) in
    let allowed = can_read_piece (g.T.Tree.history c.args.tree.now) c.args.name.now c.args.size c.loop-at.at (length (take c.min-len.result c.loop-at.piece)) c.requires (omega arith) in
    let allowed_here =
    subst (λ (history : List TreeState). IfObservable history (CanRead c.args.name.now c.loop-at.at (length (take c.min-len.result c.loop-at.piece))))
    (sym c.loop-at.invariant.tree.same) allowed in
    let one_more = read_once (record {}) _ (g.T.Tree.history c.loop-at.tree) (g.T.Tree.history c.read_at.new.self) (g.T.Tree.counts c.loop-at.tree) (g.T.Tree.counts c.read_at.new.self)
    (Ok c.in_ok-read_at.field-0) c.in_ok-read_at.ensures.same c.in_ok-read_at.ensures.counts allowed_here in
    record {
      within = within;
      whole = omega (arith, few, c.loop-at.invariant.whole, length-append c.read_at.new.into (drop c.min-len.result c.loop-at.piece), c.read_at.auto.into, len, length-drop c.min-len.result c.loop-at.piece);
      tree = readings_two (record {}) (g.T.Tree.history c.args.tree.now) (g.T.Tree.history c.loop-at.tree) (g.T.Tree.history c.read_at.new.self)
          (g.T.Tree.counts c.args.tree.now) (g.T.Tree.counts c.loop-at.tree) (g.T.Tree.counts c.read_at.new.self) 0 (Ok 0) c.loop-at.invariant.tree
          (read_again (record {}) _ _ _ _ _ 0 one_more);
      has_read = subst (λ (n : ℕ). HasRead (g.T.Tree.history c.args.tree.now) c.args.name.now c.take-for_new.result c.take-for_old.result c.args.new c.args.old (c.loop-at.at + n)) len
          (further _ _ _ c.loop-at.for_new c.loop-at.for_old c.take-for_new.result c.take-for_old.result c.args.new c.args.old c.loop-at.at (length (take c.min-len.result c.loop-at.piece)) c.read_at.new.into
          c.loop-at.invariant.tree.same c.take-for_new.ensures c.take-for_old.ensures c.in_ok-read_at.ensures.value c.loop-at.invariant.has_read);
    }
