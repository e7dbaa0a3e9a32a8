use Rattle.std.proofs.Common.{◌∙◌, ◌<◌, length, arith}
use Rattle.package_files.proofs.FolderLemmas.{over_slash, over_other}
use Rattle.package_files.proofs.folders.FolderNames.add_over.Goals as goal
use Rattle.package_files.proofs.folders.FolderNames.add_over.Goals.{then-b-eq47+in_ok-add-2, else-b-eq47}

pub loop-i-preserved : goal.loop-i-preserved
loop-i-preserved c =
    let lt : c.loop-i.i < length c.args.path.now = omega arith in
    elim c.if-b-eq47.branch [ then-b-eq47+in_ok-add-2 w ↦ over_slash _ _ _ _ _ lt w.if-b-eq47.true c.loop-i.invariant (w.self-is ∙ w.in_ok-add-2.ensures) | else-b-eq47 w ↦ over_other _ _ _ _ _ lt w.if-b-eq47.false c.loop-i.invariant w.self-is ]
