use Rattle.std.proofs.Common.{◌∙◌, Bool, false, sym}
use Rattle.std.specs.Option.{option_map_or}
use Rattle.std.specs.Str.{bytes_eq}
use Rattle.dep_core.specs.Dependency.{Dependency}
use Rattle.dep_core.specs.Meets.{dependency}
use Rattle.search_tables.proofs.candidate_core.LoopTests.{any_at, none_next}
use Rattle.unmet_world.proofs.texts.is_tag_used_in_world.Goals as goal

pub returns-then-has_tag : goal.returns-then-has_tag
returns-then-has_tag c =
    let test : Dependency → Bool = λ (d : Dependency). option_map_or (bytes_eq c.args.tag.now) d.tag false in
    sym (any_at test c.args.world.now c.loop-i.i (dependency c.entry.result) c.entry.ensures (sym c.has_tag.ensures ∙ c.if-has_tag.true))

pub loop-i-preserved : goal.loop-i-preserved
loop-i-preserved c =
    let test : Dependency → Bool = λ (d : Dependency). option_map_or (bytes_eq c.args.tag.now) d.tag false in
    none_next test c.args.world.now c.loop-i.i (dependency c.entry.result) c.loop-i.invariant c.entry.ensures (sym c.has_tag.ensures ∙ c.if-has_tag.false)
