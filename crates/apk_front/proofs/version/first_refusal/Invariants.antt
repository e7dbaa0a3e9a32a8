use Rattle.std.proofs.Common.{◌≡◌, drop}
use Rattle.outcome.specs.Version.{version_refusal}
use Rattle.apk_front.proofs.version.first_refusal.Given as goal

-- the first that is no version is among those that are left
abbrev pub invariant-loop-i : goal.invariant-loop-i
invariant-loop-i l = version_refusal l.operands ≡ version_refusal (drop l.i l.operands)
