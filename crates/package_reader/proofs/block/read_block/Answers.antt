-- The header that was seen, and the positions after it, are the witness.
use Rattle.std.proofs.Common.{◌≡◌, ◌-◌, ◌+◌, ◌≤◌, ℕ, List, [], ◌++◌, length, drop, ap, sym, subst, ◌∙◌, arith, rules}
use Rattle.std.specs.Prelude.{IfSome}
use Rattle.std.proofs.lemmas.List.{length-drop}
use Rattle.adb_block.specs.Frames.{IsFrameOrEndOfBlockResult, head_len}
use Rattle.pkg_core.specs.Seen.{HasBytesAtOffset, tree_fault}
use Rattle.pkg_core.specs.Places.{block_step_at}
use Rattle.pkg_core.proofs.SeenBytes.{has_front, reads_err, reads_failed, reads_in_a_row, reads_ok, reads_bad}
use Rattle.package_reader.specs.declared.piece.PieceFault.TheVariants.{Disk as DiskFault, Bad}
use Rattle.package_reader.proofs.BlockSeen.{block_failed, block_seen, fits_in, head_in, in_block, not_ok, nothing_seen, positions_in, read_bad, read_failed}
use Rattle.package_reader.proofs.block.read_block.Goals as goal

pub returns-in_err-head-clause-block : goal.returns-in_err-head-clause-block
returns-in_err-head-clause-block g c =
    let place = c.args.place.now in
    ([], nothing_seen _ _ place.len place.at c.requires, not_ok _ _ _ c.from_residual.ensures.1, λ file long has. read_failed place file _ c.from_residual.ensures.1)

pub returns-in_err-head-clause-tree : goal.returns-in_err-head-clause-tree
returns-in_err-head-clause-tree g c =
    let place = c.args.place.now in
    let fits : place.at + (place.len - place.at) ≤ place.len = omega (arith, c.requires) in
    reads_failed _ _ DiskFault _ _ _ _ c.in_err-head.field-0.0 _ c.from_residual.ensures.1 (c.in_err-head.ensures.tree place.len fits)

pub returns-in_err-framing-clause-block : goal.returns-in_err-framing-clause-block
returns-in_err-framing-clause-block g c =
    let place = c.args.place.now in
    let head = c.in_ok-head.head in (
      head,
      head_in _ _ head place.len place.at c.requires c.in_ok-head.ensures.holds (c.in_ok-head.ensures.seen place.len),
      not_ok _ _ _ c.from_residual-in_err-framing.ensures.1,
      λ file long has.
          let left : length (drop place.at file) ≡ place.len - place.at = length-drop place.at file ∙ ap (λ (n : ℕ). n - place.at) long in
          let step = subst (λ r. IsFrameOrEndOfBlockResult r (drop place.at file) (block_step_at place file)) c.in_err-framing.was (c.frame_of.ensures.exact (drop place.at file) left (subst (λ (xs : List ℕ). HasBytesAtOffset file place.at xs) (sym c.bytes.ensures) has)) in
          read_bad place file c.in_err-framing.field-0.0 _ c.from_residual-in_err-framing.ensures.1 (block_failed place file c.in_err-framing.field-0.0 step),
    )

pub returns-in_err-positions-clause-tree : goal.returns-in_err-positions-clause-tree
returns-in_err-positions-clause-tree g c =
    let place = c.args.place.now in
    let fits : place.at + (place.len - place.at) ≤ place.len = omega (arith, c.requires) in
    reads_in_a_row _ _ tree_fault DiskFault _ _ _ _ _ _ _ _ (c.in_ok-head.ensures.tree place.len fits) (reads_err _ _ DiskFault _ _ _ _ c.in_err-positions.field-0.0 _ c.from_residual-in_err-positions.ensures.1 (c.in_err-positions.ensures.tree place.len c.requires (fits_in c.in_ok-framing.framing place.at place.len c.requires c.in_ok-framing.ensures.fits)))

pub returns-clause-block : goal.returns-clause-block
returns-clause-block g c =
    let place = c.args.place.now in
    let head = c.in_ok-head.head in
    let framing = c.in_ok-framing.framing in
    let positions = c.in_ok-positions.positions in
    let p = c.in_ok-positions.ensures.seen in
    let is = subst (λ (xs : List ℕ). IfSome framing (λ frame. frame.head_len ≡ head_len xs)) c.bytes.ensures c.in_ok-framing.ensures.len in
    let same = (c.in_ok-head.ensures.tree place.len (omega (arith, c.requires))).same in (
      head ++ p.0,
      block_seen _ _ _ head positions p.0 place.len place.at framing same c.requires c.in_ok-head.ensures.holds c.in_ok-head.ensures.short is c.in_ok-framing.ensures.fits (c.in_ok-head.ensures.seen place.len) p.1 p.2,
      in_block head positions p.0 (place.len - place.at) framing c.in_ok-head.ensures.holds c.in_ok-head.ensures.short is c.in_ok-framing.ensures.fits (search rules) p.1,
      λ file long has.
          let left : length (drop place.at file) ≡ place.len - place.at = length-drop place.at file ∙ ap (λ (n : ℕ). n - place.at) long in
          let step = subst (λ r. IsFrameOrEndOfBlockResult r (drop place.at file) (block_step_at place file)) c.in_ok-framing.was (c.frame_of.ensures.exact (drop place.at file) left (subst (λ (xs : List ℕ). HasBytesAtOffset file place.at xs) (sym c.bytes.ensures) (has_front file place.at head p.0 has))) in
          (step, positions_in place file head positions p.0 (place.len - place.at) framing c.in_ok-head.ensures.holds c.in_ok-head.ensures.short is c.in_ok-framing.ensures.fits (search rules) p.1 has),
    )

pub returns-clause-tree : goal.returns-clause-tree
returns-clause-tree g c =
    let place = c.args.place.now in
    let fits : place.at + (place.len - place.at) ≤ place.len = omega (arith, c.requires) in
    reads_in_a_row _ _ tree_fault DiskFault _ _ _ _ _ _ _ _ (c.in_ok-head.ensures.tree place.len fits) (reads_ok _ _ DiskFault _ _ _ _ c.in_ok-positions.positions _ (c.in_ok-positions.ensures.tree place.len c.requires (fits_in c.in_ok-framing.framing place.at place.len c.requires c.in_ok-framing.ensures.fits)))

pub returns-in_err-head-clause-fits : goal.returns-in_err-head-clause-fits
returns-in_err-head-clause-fits g c = not_ok _ _ _ c.from_residual.ensures.1

pub returns-in_err-head-clause-small : goal.returns-in_err-head-clause-small
returns-in_err-head-clause-small g c = not_ok _ _ _ c.from_residual.ensures.1

pub returns-in_err-framing-clause-fits : goal.returns-in_err-framing-clause-fits
returns-in_err-framing-clause-fits g c = not_ok _ _ _ c.from_residual-in_err-framing.ensures.1

pub returns-in_err-framing-clause-small : goal.returns-in_err-framing-clause-small
returns-in_err-framing-clause-small g c = not_ok _ _ _ c.from_residual-in_err-framing.ensures.1

pub returns-in_err-positions-clause-fits : goal.returns-in_err-positions-clause-fits
returns-in_err-positions-clause-fits g c = not_ok _ _ _ c.from_residual-in_err-positions.ensures.1

pub returns-in_err-positions-clause-small : goal.returns-in_err-positions-clause-small
returns-in_err-positions-clause-small g c = not_ok _ _ _ c.from_residual-in_err-positions.ensures.1

pub returns-in_err-framing-clause-tree : goal.returns-in_err-framing-clause-tree
returns-in_err-framing-clause-tree g c =
    let place = c.args.place.now in
    let fits : place.at + (place.len - place.at) ≤ place.len = omega (arith, c.requires) in
    reads_bad _ _ tree_fault DiskFault _ _ _ _ _ (Bad c.in_err-framing.field-0.0) _ c.from_residual-in_err-framing.ensures.1 (λ e. (cc)) (c.in_ok-head.ensures.tree place.len fits)
