use Rattle.std.proofs.Common.{refl}
use Rattle.std.specs.Vec.{vec_len}
use Rattle.v2_core.specs.Records.{file_with_access, folder_with_last_file_changed}
use Rattle.v2_core.specs.Accesses.{access_view}
use Rattle.v2_core.proofs.LastElement.{last_by}
use Rattle.v2_core.proofs.record.add_file_access.Goals as goal

pub returns-in-Some : goal.returns-in-Some
returns-in-Some c =
    last_by (folder_with_last_file_changed (file_with_access (access_view c.args.access))) c.args.folders.now.items _ (vec_len c.args.folders.now) c.add_file_access.result _ c.add_file_access.new.self _ c.args.folders.now.ok.0 (c.in-Some.ensures.variant.0 refl) c.in-Some.ensures.value c.add_file_access.ensures refl
