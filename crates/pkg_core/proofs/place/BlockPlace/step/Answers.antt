-- The block holds no contents.
use Rattle.std.proofs.Common.{ap, sym, ◌∙◌}
use Rattle.pkg_core.specs.Places.{pieces_at}
use Rattle.pkg_core.specs.declared.place.BlockPlace.{BlockPlace}
use Rattle.pkg_core.proofs.Placed.{other_kind, passed}
use Rattle.pkg_core.proofs.place.BlockPlace.step.Goals as goal

pub returns-in-Adb-clause-step : goal.returns-in-Adb-clause-step
returns-in-Adb-clause-step c = λ file long step positions.
    let fits = rw c.in-Some.is at c.requires.fits in
    let framed = rw c.in-Some.is at step in
    passed c.args.self.now c.in-Some.frame file long fits framed (other_kind c.in-Some.frame.kind c.in-Adb.is)
    ∙ ap (λ (p : BlockPlace). pieces_at p file) (sym c.pass.ensures)
