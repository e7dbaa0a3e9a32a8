-- The block holds contents.
use Rattle.std.proofs.Common.{◌≤◌, [], ap, sym, ◌∙◌, arith}
use Rattle.pkg_core.specs.Places.{payload_at, pieces_at}
use Rattle.pkg_core.specs.Taking.{pieces_in}
use Rattle.pkg_core.specs.declared.place.BlockPlace.{BlockPlace}
use Rattle.pkg_core.specs.Contents.{contents_from_block_payload}
use Rattle.pkg_core.proofs.Placed.{further, opened, payload_len, too_short}
use Rattle.pkg_core.proofs.place.BlockPlace.open.Goals as goal

pub returns-then-frame-clause-step : goal.returns-then-frame-clause-step
returns-then-frame-clause-step c = λ file long step positions. too_short c.args.self.now c.args.frame file long c.requires.fits step c.requires.kind c.if-frame.true

pub returns-in-Err-clause-step : goal.returns-in-Err-clause-step
returns-in-Err-clause-step c = λ file long step positions.
    let enough : 8 ≤ c.args.frame.payload_len = omega (arith, c.if-frame.false) in
    let place = c.args.self.now in
    opened place c.args.frame file long c.requires.fits step c.requires.kind enough
    ∙ c.in-Err.ensures.opened (payload_at c.args.frame place file) (further place c.args.frame file) (payload_len place c.args.frame file long c.requires.fits) (positions enough)

pub returns-in-Ok-clause-step : goal.returns-in-Ok-clause-step
returns-in-Ok-clause-step c = λ file long step positions.
    let enough : 8 ≤ c.args.frame.payload_len = omega (arith, c.if-frame.false) in
    let place = c.args.self.now in
    let is = c.in-Ok.ensures.opened (payload_at c.args.frame place file) (further place c.args.frame file) (payload_len place c.args.frame file long c.requires.fits) (positions enough) in (
      opened place c.args.frame file long c.requires.fits step c.requires.kind enough
          ∙ (is.0 ∙ ap (λ (p : BlockPlace). pieces_in c.in-Ok.file [] (contents_from_block_payload (payload_at c.args.frame place file)) (pieces_at p file)) (sym c.pass.ensures)),
      is.1,
      is.2,
    )
