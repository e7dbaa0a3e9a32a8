-- Whether a run only reads below its root. The rule is in `docs/crash-safety.md`, "What the host's tree
-- does": one run writes, or any number read.
use Rattle.std.specs.Prelude.{Bool, true, false}
use Rattle.apk_front.specs.declared.judge.RootAccess.{RootAccess}
use Rattle.apk_front.specs.declared.judge.RootAccess.TheVariants.{Read, Write}

-- what a run may do below its root, by whether its command only reads
abbrev pub root_access_if_read_only : Bool → RootAccess
root_access_if_read_only true = Read
root_access_if_read_only false = Write
