use Rattle.std.proofs.Common.{true, refl}
use Rattle.std.specs.Vec.{vec_len}
use Rattle.v2_core.specs.Records.{folder_with_file}
use Rattle.v2_core.proofs.LastElement.{last_by}
use Rattle.v2_core.proofs.record.add_file.Goals as goal

pub returns : goal.returns
returns c =
    last_by (folder_with_file c.args.name.now) c.args.folders.now.items _ (vec_len c.args.folders.now) true _ c.add_file.new.self _ c.args.folders.now.ok.0 (c.in-Some.ensures.variant.0 refl) c.in-Some.ensures.value c.in_ok-add_file.ensures refl
