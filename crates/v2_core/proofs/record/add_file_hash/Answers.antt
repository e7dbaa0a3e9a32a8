use Rattle.std.proofs.Common.{refl}
use Rattle.std.specs.Vec.{vec_len}
use Rattle.v2_core.specs.Records.{file_with_hash, folder_with_last_file_changed}
use Rattle.v2_core.proofs.LastElement.{last_by}
use Rattle.v2_core.proofs.record.add_file_hash.Goals as goal

pub returns-in-Some : goal.returns-in-Some
returns-in-Some c =
    last_by (folder_with_last_file_changed (file_with_hash c.args.hash.items)) c.args.folders.now.items _ (vec_len c.args.folders.now) c.add_file_hash.result _ c.add_file_hash.new.self _ c.args.folders.now.ok.0 (c.in-Some.ensures.variant.0 refl) c.in-Some.ensures.value c.add_file_hash.ensures refl
