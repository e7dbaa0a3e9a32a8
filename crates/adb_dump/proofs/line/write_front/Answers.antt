use Rattle.std.proofs.Common.{ℕ, List, ◌++◌, drop, ap, ◌∙◌}
use Rattle.std.proofs.lemmas.List.{take_rest}
use Rattle.adb_dump.proofs.Pieces.{front_end}
use Rattle.adb_dump.proofs.Puts.{any_told, on_ok_then}
use Rattle.adb_dump.proofs.line.write_front.Goals as goal

pub returns-then-levels-le-FRONT_LEVELS : goal.returns-then-levels-le-FRONT_LEVELS
returns-then-levels-le-FRONT_LEVELS g c =
    on_ok_then _ _ _ (λ put. any_told (g.O.Out.holds) _ _ _ _ (take_rest c.args.front.now _ ∙ front_end c.args.front.now c.levels-levels.result c.if-levels-le-FRONT_LEVELS.true c.requires.spaces ∙ ap (λ (m : List ℕ). m ++ drop 16 c.args.front.now) c.levels-levels.ensures) put) c.put.ensures
