use Rattle.std.proofs.Common.{◌-◌, Bool, length, take, sym, ap, ◌∙◌, arith}
use Rattle.std.specs.Prelude.{◌&&◌}
use Rattle.std.specs.List.{list_all}
use Rattle.adb_dump.specs.Dump.{is_printable}
use Rattle.adb_dump.proofs.Pieces.{window_told, windows_cover}
use Rattle.adb_dump.proofs.line.are_ends_printable.Goals as goal

pub returns : goal.returns
returns c =
    let text = c.args.text.now in
    let last = length text - c.args.len in
    (λ i. c.is_window_printable.ensures i && c.is_window_printable-2.ensures i)
    ∙ ap (λ (end : Bool). list_all is_printable (take c.args.len text) && end) (window_told is_printable text last c.args.len)
    ∙ sym (windows_cover is_printable text last c.args.len (omega (arith, c.requires.all)) (omega (arith, c.requires.within)))
