-- No entry so far has the tag.
use Rattle.std.proofs.Common.{◌≡◌, false, take}
use Rattle.std.specs.List.{list_any}
use Rattle.std.specs.Option.{option_map_or}
use Rattle.std.specs.Str.{bytes_eq}
use Rattle.dep_core.specs.Dependency.{Dependency}
use Rattle.unmet_world.proofs.texts.is_tag_used_in_world.Given as goal

abbrev pub invariant-loop-i : goal.invariant-loop-i
invariant-loop-i l = list_any (λ (d : Dependency). option_map_or (bytes_eq l.tag) d.tag false) (take l.i l.world) ≡ false
