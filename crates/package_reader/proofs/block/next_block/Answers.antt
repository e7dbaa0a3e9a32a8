-- The contents of a file begin after the header and the positions.
use Rattle.std.proofs.Common.{◌≡◌, None, Ok, length, subst, refl}
use Rattle.std.specs.Prelude.{IfSome}
use Rattle.pkg_core.specs.Places.{HasWholeFileLeft, IsStepResult, IsWalkAfterStep}
use Rattle.pkg_core.specs.declared.place.Step.{Step}
use Rattle.pkg_core.specs.declared.place.Step.TheVariants.{End as EndStep}
use Rattle.package_reader.proofs.BlockStepped.{ends, opened_ends, opens, opens_within, passed_ends, passes, walks_on}
use Rattle.pkg_core.proofs.SeenBytes.{reads_err, reads_ok, reads_bad}
use Rattle.package_reader.specs.declared.piece.PieceFault.TheVariants.{Disk as DiskFault, Bad}
use Rattle.package_reader.proofs.BlockSeen.{not_ok}
use Rattle.package_reader.proofs.FilesFound.{next_failed}
use Rattle.package_reader.proofs.block.next_block.Goals as goal

pub file_at-requires : goal.file_at-requires
file_at-requires g c =
    let framing = c.in_ok-read.read.framing in
    let ended = subst (λ (s : Step). framing ≡ None → s ≡ EndStep) c.in-Ok-Opened.field-0-is c.in-Ok-Opened.ensures.ended in
    let left = subst (λ (s : Step). IfSome framing (λ frame. HasWholeFileLeft frame s)) c.in-Ok-Opened.field-0-is c.in-Ok-Opened.ensures.left in
    opens_within framing c.args.place.now.at c.in-Ok-Opened.file ended c.in_ok-read.ensures.small left

pub returns-in-Ok-End-clause-block : goal.returns-in-Ok-End-clause-block
returns-in-Ok-End-clause-block g c =
    let place = c.args.place.now in
    let framing = c.in_ok-read.read.framing in
    let b = c.in_ok-read.ensures.block in (
      b.0,
      b.1,
      tt,
      λ file long has.
          let read = b.3 file long has in
          ends framing place c.step.new.self file (subst (λ (s : Step). IsStepResult framing place file (Ok s) c.step.new.self) c.in-Ok-End.field-0-is (c.in-Ok-End.ensures.step file long read.0 read.1)),
    )

pub returns-in-Ok-Passed-clause-block : goal.returns-in-Ok-Passed-clause-block
returns-in-Ok-Passed-clause-block g c =
    let place = c.args.place.now in
    let framing = c.in_ok-read.read.framing in
    let ended = subst (λ (s : Step). framing ≡ None → s ≡ EndStep) c.in-Ok-Passed.field-0-is c.in-Ok-Passed.ensures.ended in
    let b = c.in_ok-read.ensures.block in (
      b.0,
      b.1,
      passed_ends framing place.at _ (length b.0) _ ended b.2 c.in-Ok-Passed.ensures.behind,
      λ file long has.
          let read = b.3 file long has in
          passes framing place c.step.new.self file (subst (λ (s : Step). IsStepResult framing place file (Ok s) c.step.new.self) c.in-Ok-Passed.field-0-is (c.in-Ok-Passed.ensures.step file long read.0 read.1)),
    )

pub returns-in-Ok-Opened-clause-block : goal.returns-in-Ok-Opened-clause-block
returns-in-Ok-Opened-clause-block g c =
    let place = c.args.place.now in
    let framing = c.in_ok-read.read.framing in
    let ended = subst (λ (s : Step). framing ≡ None → s ≡ EndStep) c.in-Ok-Opened.field-0-is c.in-Ok-Opened.ensures.ended in
    let left = subst (λ (s : Step). IfSome framing (λ frame. HasWholeFileLeft frame s)) c.in-Ok-Opened.field-0-is c.in-Ok-Opened.ensures.left in
    let b = c.in_ok-read.ensures.block in (
      b.0,
      b.1,
      opened_ends framing c.in-Ok-Opened.file place.at _ (length b.0) ended b.2 c.file_at.ensures.at,
      λ file long has.
          let read = b.3 file long has in
          let step = subst (λ (s : Step). IsStepResult framing place file (Ok s) c.step.new.self) c.in-Ok-Opened.field-0-is (c.in-Ok-Opened.ensures.step file long read.0 read.1) in
          opens place c.step.new.self framing file c.file_at.result c.in-Ok-Opened.file c.file_at.ensures.file c.file_at.ensures.at left step,
    )

pub returns-in-Ok-Opened-clause-walk : goal.returns-in-Ok-Opened-clause-walk
returns-in-Ok-Opened-clause-walk g c =
    walks_on c.args.place.now.walk c.step.new.self.walk c.in-Ok-Opened.file c.file_at.result c.file_at.ensures.file (subst (λ (s : Step). IsWalkAfterStep c.args.place.now.walk s c.step.new.self.walk) c.in-Ok-Opened.field-0-is c.in-Ok-Opened.ensures.walk)

pub returns-in_err-read-clause-block : goal.returns-in_err-read-clause-block
returns-in_err-read-clause-block g c =
    let b = c.in_err-read.ensures.block in
    let fault = c.in_err-read.field-0.0 in
    let is = c.from_residual.ensures.1 in
    (b.0, b.1, not_ok _ _ fault is, λ file long has. next_failed c.args.place.now _ file fault _ is (b.3 file long has))

pub returns-in-Err-clause-block : goal.returns-in-Err-clause-block
returns-in-Err-clause-block g c =
    let b = c.in_ok-read.ensures.block in (
      b.0,
      b.1,
      tt,
      λ file long has.
          let read = b.3 file long has in
          c.in-Err.ensures.step file long read.0 read.1,
    )

pub returns-in_err-read-clause-walk : goal.returns-in_err-read-clause-walk
returns-in_err-read-clause-walk g c = not_ok _ _ c.in_err-read.field-0.0 c.from_residual.ensures.1

pub returns-in_err-read-clause-further : goal.returns-in_err-read-clause-further
returns-in_err-read-clause-further g c = not_ok _ _ c.in_err-read.field-0.0 c.from_residual.ensures.1

pub returns-in_err-read-clause-tree : goal.returns-in_err-read-clause-tree
returns-in_err-read-clause-tree g c = reads_err _ _ DiskFault _ _ _ _ c.in_err-read.field-0.0 _ c.from_residual.ensures.1 c.in_err-read.ensures.tree

pub returns-in-Ok-End-clause-tree : goal.returns-in-Ok-End-clause-tree
returns-in-Ok-End-clause-tree g c = reads_ok _ _ DiskFault _ _ _ _ _ _ c.in_ok-read.ensures.tree

pub returns-in-Ok-Passed-clause-tree : goal.returns-in-Ok-Passed-clause-tree
returns-in-Ok-Passed-clause-tree g c = reads_ok _ _ DiskFault _ _ _ _ _ _ c.in_ok-read.ensures.tree

pub returns-in-Ok-Opened-clause-tree : goal.returns-in-Ok-Opened-clause-tree
returns-in-Ok-Opened-clause-tree g c = reads_ok _ _ DiskFault _ _ _ _ _ _ c.in_ok-read.ensures.tree

pub returns-in-Err-clause-tree : goal.returns-in-Err-clause-tree
returns-in-Err-clause-tree g c = reads_bad _ _ DiskFault DiskFault _ _ _ _ _ (Bad c.in-Err.cause) _ refl (λ e. (cc)) c.in_ok-read.ensures.tree
