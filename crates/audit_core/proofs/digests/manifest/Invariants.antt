-- What is reported so far, with what is left, is the manifest.
use Rattle.db_core.specs.Seen.{packages_of}
use Rattle.audit_core.proofs.ManifestSteps.{IsManifestTo}
use Rattle.audit_core.proofs.digests.manifest.Given as goal

abbrev pub invariant-loop-i : goal.invariant-loop-i
invariant-loop-i l = IsManifestTo (packages_of l.db) l.names l.i l.report.items
