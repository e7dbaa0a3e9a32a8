use Rattle.dep_core.proofs.Spelled.{read-spelled}
use Rattle.dep_core.proofs.laws.spelled_texts_are_read.Goals as goal

pub returns : goal.returns
returns c = read-spelled (record { bytes = c.versions_have_version_bytes.ensures.bytes; first = c.versions_have_version_bytes.ensures.first })
