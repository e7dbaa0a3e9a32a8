-- At the place after those of the files before it.
use Rattle.std.proofs.Common.{◌<◌, length, slice_index_or, sym, ◌∙◌, arith}
use Rattle.package_verifier.proofs.FileOrder.{offset_at_end, offset_off, offset_there, other_file, other_folder}
use Rattle.package_verifier.proofs.places.offset_of.Goals as goal

pub returns-then-i-places : goal.returns-then-i-places
returns-then-i-places c = λ order. offset_at_end c.args.folder c.args.file c.args.places.now c.count_before-i.result order (c.count_before-i.ensures.point order) c.if-i-places.true

pub returns-then-place-folder : goal.returns-then-place-folder
returns-then-place-folder c = λ order.
    let within = c.count_before-i.ensures.within in
    let ps = c.args.places.now in
    let n = c.count_before-i.result in
    offset_off c.args.folder c.args.file ps n (record { folder = 0; file = 0; at = 0 }) order (c.count_before-i.ensures.point order) (omega (arith, within, c.if-i-places.false)) (other_folder c.args.folder c.args.file (slice_index_or ps n (record { folder = 0; file = 0; at = 0 })) c.if-place-folder.true)

pub returns-then-place-file : goal.returns-then-place-file
returns-then-place-file c = λ order.
    let within = c.count_before-i.ensures.within in
    let ps = c.args.places.now in
    let n = c.count_before-i.result in
    offset_off c.args.folder c.args.file ps n (record { folder = 0; file = 0; at = 0 }) order (c.count_before-i.ensures.point order) (omega (arith, within, c.if-i-places.false)) (other_file c.args.folder c.args.file (slice_index_or ps n (record { folder = 0; file = 0; at = 0 })) c.if-place-file.true)

pub returns : goal.returns
returns c = λ order.
    let within = c.count_before-i.ensures.within in
    offset_there c.args.folder c.args.file c.args.places.now c.count_before-i.result (record { folder = 0; file = 0; at = 0 }) order (omega (arith, within, c.if-i-places.false)) c.if-place-folder.false c.if-place-file.false
