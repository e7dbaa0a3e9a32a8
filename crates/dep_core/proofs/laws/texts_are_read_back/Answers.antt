use Rattle.dep_core.proofs.Spelled.{read-written, written-spelled}
use Rattle.dep_core.proofs.laws.texts_are_read_back.Goals as goal

pub returns : goal.returns
returns c = record { spelled = written-spelled; read = read-written (record { bytes = c.versions_have_version_bytes.ensures.bytes; first = c.versions_have_version_bytes.ensures.first }) }
