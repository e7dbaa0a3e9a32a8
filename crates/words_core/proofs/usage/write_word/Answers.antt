use Rattle.std.proofs.Common.{ap, take}
use Rattle.std.proofs.lemmas.Result.{err_from_is_err_and}
use Rattle.report_core.proofs.Behind.{done_by, three, cut_in_the_first, cut_in_the_second, writes_same}
use Rattle.words_core.specs.Usage.{most_shown_bytes, shown_bytes, closing_quote_of_shown_word, text_before_shown_word}
use Rattle.words_core.proofs.usage.write_word.Goals as goal

pub returns-in_err-write_front : goal.returns-in_err-write_front
returns-in_err-write_front g c =
    let p = err_from_is_err_and c.from_residual.result c.from_residual.ensures.1 in
    rw p.1 (cut_in_the_first (text_before_shown_word c.args.place) (shown_bytes (take most_shown_bytes c.args.word.now)) (closing_quote_of_shown_word c.args.word.now) _ _ _ c.in_err-write_front.ensures)

pub returns-in_err-write_shown : goal.returns-in_err-write_shown
returns-in_err-write_shown g c =
    let p = err_from_is_err_and c.from_residual-in_err-write_shown.result c.from_residual-in_err-write_shown.ensures.1 in
    rw p.1 (cut_in_the_second (text_before_shown_word c.args.place) (shown_bytes (take most_shown_bytes c.args.word.now)) (closing_quote_of_shown_word c.args.word.now) _ _ _ _ _ _ _ _
    (done_by _ _ _ c.in_ok-write_front.ensures)
    (writes_same _ _ _ _ (ap shown_bytes c.shown_part.ensures) c.in_err-write_shown.ensures))

pub returns : goal.returns
returns g c = three (text_before_shown_word c.args.place) (shown_bytes (take most_shown_bytes c.args.word.now)) (closing_quote_of_shown_word c.args.word.now) _ _ _ _ _ _ _ _ _
    (done_by _ _ _ c.in_ok-write_front.ensures)
    (done_by _ _ _ (writes_same _ _ _ _ (ap shown_bytes c.shown_part.ensures) c.in_ok-write_shown.ensures))
    (writes_same _ _ _ _ c.closing_quote_of_shown_word.ensures (record { ok = c.write_all.ensures.ok; err = c.write_all.ensures.err; cause = c.write_all.ensures.cause }))
