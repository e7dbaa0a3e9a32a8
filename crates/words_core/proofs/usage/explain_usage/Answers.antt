use Rattle.std.proofs.Common.{◌-◌, ◌∙◌, ap, codes}
use Rattle.std.specs.List.{slice_get}
use Rattle.std.proofs.lemmas.Result.{err_from_is_err_and}
use Rattle.report_core.proofs.Behind.{done_by, three, cut_in_the_first, cut_in_the_second, writes_same}
use Rattle.words_core.specs.Usage.{end_of_usage_hint, shown_word_with_place, texts_joined, usage_reason}
use Rattle.words_core.proofs.usage.explain_usage.Goals as goal

pub returns-in_err-write_all : goal.returns-in_err-write_all
returns-in_err-write_all g c =
    let p = err_from_is_err_and c.from_residual.result c.from_residual.ensures.1 in
    rw p.1 (cut_in_the_first (codes "apk: ") (shown_word_with_place c.args.place (slice_get c.args.words.now (c.args.place - 1))) (texts_joined (end_of_usage_hint c.args.words.now (usage_reason c.args.words.now c.args.place))) _ _ _ (record { ok = tt; err = c.in_err-write_all.ensures.err; cause = c.in_err-write_all.ensures.cause }))

pub returns-in_err-write_place : goal.returns-in_err-write_place
returns-in_err-write_place g c =
    let p = err_from_is_err_and c.from_residual-in_err-write_place.result c.from_residual-in_err-write_place.ensures.1 in
    rw p.1 (cut_in_the_second (codes "apk: ") (shown_word_with_place c.args.place (slice_get c.args.words.now (c.args.place - 1))) (texts_joined (end_of_usage_hint c.args.words.now (usage_reason c.args.words.now c.args.place))) _ _ _ _ _ _ _ _
    (record { added = c.in_ok-write_all.ensures.ok; goes_on = c.in_ok-write_all.ensures.cause.goes_on; kept = c.in_ok-write_all.ensures.cause.kept; proper = c.in_ok-write_all.ensures.cause.proper })
    c.in_err-write_place.ensures)

pub returns : goal.returns
returns g c = three (codes "apk: ") (shown_word_with_place c.args.place (slice_get c.args.words.now (c.args.place - 1))) (texts_joined (end_of_usage_hint c.args.words.now (usage_reason c.args.words.now c.args.place))) _ _ _ _ _ _ _ _ _
    (record { added = c.in_ok-write_all.ensures.ok; goes_on = c.in_ok-write_all.ensures.cause.goes_on; kept = c.in_ok-write_all.ensures.cause.kept; proper = c.in_ok-write_all.ensures.cause.proper })
    (done_by _ _ _ c.in_ok-write_place.ensures)
    (writes_same _ _ _ _ (ap texts_joined (c.end_of_usage_hint.ensures ∙ ap (end_of_usage_hint c.args.words.now) c.usage_reason.ensures)) c.write_texts.ensures)
