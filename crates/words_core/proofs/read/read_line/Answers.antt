use Rattle.std.proofs.Common.{◌+◌, length, sym, ◌∙◌, subst, arith}
use Rattle.words_core.specs.Steps.{IsSoundReading}
use Rattle.words_core.proofs.KindsKept.{IsPlain, start_known}
use Rattle.words_core.proofs.GivenKept.{from_kept}
use Rattle.words_core.proofs.read.read_line.Goals as goal

pub read_after_applet-requires : goal.read_after_applet-requires
read_after_applet-requires c =
    let known : IsPlain c.in-Ok.start (1 + length c.args.words.now) = start_known c.args.words.now c.in-Ok.start (sym c.read_start.ensures ∙ c.in-Ok.is) in
    omega (arith, known.read)

pub judge-requires : goal.judge-requires
judge-requires c =
    subst (λ r. IsSoundReading c.in-Ok.start.applet r) (sym c.in_ok-reading.ensures)
    (from_kept c.in-Ok.start (1 + length c.args.words.now) c.args.words.now
    (start_known c.args.words.now c.in-Ok.start (sym c.read_start.ensures ∙ c.in-Ok.is)))
