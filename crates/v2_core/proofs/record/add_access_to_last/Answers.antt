use Rattle.std.proofs.Common.{refl}
use Rattle.std.specs.Vec.{vec_len}
use Rattle.v2_core.specs.Records.{file_with_access}
use Rattle.v2_core.specs.Accesses.{access_view}
use Rattle.v2_core.proofs.LastElement.{last_by}
use Rattle.v2_core.proofs.record.add_access_to_last.Goals as goal

pub returns-in-Some : goal.returns-in-Some
returns-in-Some c =
    last_by (file_with_access (access_view c.args.access)) c.args.files.now.items _ (vec_len c.args.files.now) c.add_access.result _ c.add_access.new.self _ c.args.files.now.ok.0 (c.in-Some.ensures.variant.0 refl) c.in-Some.ensures.value c.add_access.ensures refl
