use Rattle.std.proofs.Common.{◌≡◌, drop}
use Rattle.hint_core.specs.Warnings.{has_repository_with_tag}
use Rattle.hint_core.proofs.warning.has_repository_with_tag.Given as goal

-- one of the repositories that are left has the tag, or none has
abbrev pub invariant-loop-i : goal.invariant-loop-i
invariant-loop-i l = has_repository_with_tag l.repos l.tag ≡ has_repository_with_tag (drop l.i l.repos) l.tag
