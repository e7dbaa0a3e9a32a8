use Rattle.std.proofs.Common.{◌≡◌, ◌∙◌, List, ℕ, Some, ap, sym, false}
use Rattle.std.specs.Prelude.{not}
use Rattle.path_clashes.proofs.Below.{fails_here, passes_here}
use Rattle.path_clashes.proofs.near.first_to_stay.Goals as goal

pub returns-then-not-does_release : goal.returns-then-not-does_release
returns-then-not-does_release g c =
    let stays : g.G.IsReleased.does_release c.args.let_go.now c.get-name.result.now ≡ false =
    sym (c.does_release.ensures ∙ ap (g.G.IsReleased.does_release c.args.let_go.now) c.as_bytes.ensures.value) ∙ c.if-not-does_release.true in
    ap (λ (l : List ℕ). Some l) c.in_ok-copy.ensures
    ∙ passes_here (λ name. not (g.G.IsReleased.does_release c.args.let_go.now name)) c.args.names.now c.loop-i.i c.get-name.result.now c.get-name.ensures (ap not stays) c.loop-i.invariant

pub loop-i-preserved : goal.loop-i-preserved
loop-i-preserved g c =
    fails_here (λ name. not (g.G.IsReleased.does_release c.args.let_go.now name)) c.args.names.now c.loop-i.i c.get-name.result.now c.get-name.ensures
    (ap not (sym (c.does_release.ensures ∙ ap (g.G.IsReleased.does_release c.args.let_go.now) c.as_bytes.ensures.value) ∙ c.if-not-does_release.false)) c.loop-i.invariant
