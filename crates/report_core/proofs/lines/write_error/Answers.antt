use Rattle.std.proofs.Common.{codes, ap}
use Rattle.std.proofs.lemmas.Result.{err_from_is_err_and}
use Rattle.report_core.specs.Texts.{error_line}
use Rattle.report_core.proofs.Behind.{done_by, three, cut_in_the_first, cut_in_the_second, writes_same}
use Rattle.report_core.proofs.lines.write_error.Goals as goal

pub returns-in_err-write_all : goal.returns-in_err-write_all
returns-in_err-write_all g c =
    let p = err_from_is_err_and c.from_residual.result c.from_residual.ensures.1 in
    rw p.1 (writes_same _ _ _ _ (ap error_line c.sentence_of-sentence.ensures) (cut_in_the_first (codes "ERROR: ") _ (codes "\n") _ _ _
    (record { ok = tt; err = c.in_err-write_all.ensures.err; cause = c.in_err-write_all.ensures.cause })))

pub returns-in_err-write_sentence : goal.returns-in_err-write_sentence
returns-in_err-write_sentence g c =
    let p = err_from_is_err_and c.from_residual-in_err-write_sentence.result c.from_residual-in_err-write_sentence.ensures.1 in
    rw p.1 (writes_same _ _ _ _ (ap error_line c.sentence_of-sentence.ensures) (cut_in_the_second (codes "ERROR: ") _ (codes "\n") _ _ _ _ _ _ _ _
    (record { added = c.in_ok-write_all.ensures.ok; goes_on = c.in_ok-write_all.ensures.cause.goes_on; kept = c.in_ok-write_all.ensures.cause.kept; proper = c.in_ok-write_all.ensures.cause.proper })
    c.in_err-write_sentence.ensures))

pub returns : goal.returns
returns g c = writes_same _ _ _ _ (ap error_line c.sentence_of-sentence.ensures) (three (codes "ERROR: ") _ (codes "\n") _ _ _ _ _ _ _ _ _
    (record { added = c.in_ok-write_all.ensures.ok; goes_on = c.in_ok-write_all.ensures.cause.goes_on; kept = c.in_ok-write_all.ensures.cause.kept; proper = c.in_ok-write_all.ensures.cause.proper })
    (done_by _ _ _ c.in_ok-write_sentence.ensures)
    (record { ok = c.write_all-2.ensures.ok; err = c.write_all-2.ensures.err; cause = c.write_all-2.ensures.cause }))
