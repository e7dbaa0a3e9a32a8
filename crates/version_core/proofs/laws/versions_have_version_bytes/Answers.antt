use Rattle.version_core.proofs.VersionBytes.{version-bytes, version-first}
use Rattle.version_core.proofs.laws.versions_have_version_bytes.Goals as goal

pub returns-clause-bytes : goal.returns-clause-bytes
returns-clause-bytes c = version-bytes

pub returns-clause-first : goal.returns-clause-first
returns-clause-first c = version-first
