use Rattle.std.proofs.Common.{◌≡◌, ◌≤◌, ℕ, List, Option, ap, sym, subst, ◌∙◌, ◌++◌, ◌∷◌}
use Rattle.std.specs.Borrow.{Bor}
use Rattle.std.specs.Prelude.{option_copied}
use Rattle.adb_dump.specs.Dump.{Line}
use Rattle.adb_dump.specs.Margin.{margin}
use Rattle.gen_core.specs.Cursors.{CursorState, block_at, line_of_block, lines_at_cursor}
use Rattle.gen_core.specs.Generated.{whole_lines_and_rest}
use Rattle.gen_core.proofs.TextLines.{levels_read}
use Rattle.gen_core.proofs.Blocks.{first_of_block}
use Rattle.gen_core.proofs.cursor.Cursor.at_depth.Goals as goal

pub returns-in-Some : goal.returns-in-Some
returns-in-Some c =
    let levels = c.self.inside.levels in
    let rest = c.self.inside.rest.now in
    let line = c.in-Some.line.now in
    let lines : c.args.self.now.lines ≡ (margin levels ++ line) ∷ (whole_lines_and_rest rest).0 =
    ap (λ (s : CursorState). s.lines) (sym c.self.view_is) ∙ ap (λ (o : Option (Bor (List ℕ))). lines_at_cursor levels (option_copied o) rest) c.in-Some.is in
    let within : levels ≤ c.args.depth = subst (λ (s : CursorState). s.levels ≤ c.args.depth) (sym c.self.view_is) c.requires in
    c.without_levels.ensures ∙ sym (levels_read levels c.args.depth line within)
    ∙ sym (first_of_block c.args.depth (margin levels ++ line) (whole_lines_and_rest rest).0)
    ∙ sym (ap (λ (ls : List Line). line_of_block (block_at c.args.depth ls).0) lines)
