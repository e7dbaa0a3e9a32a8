use Rattle.dep_core.proofs.WorldText.{text-read_back}
use Rattle.dep_core.proofs.laws.worlds_are_read_back.Goals as goal

pub returns : goal.returns
returns c = text-read_back (record { bytes = c.versions_have_version_bytes.ensures.bytes; first = c.versions_have_version_bytes.ensures.first })
