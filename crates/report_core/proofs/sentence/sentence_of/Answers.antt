use Rattle.std.proofs.Common.{ap, sym, ◌∙◌, ◌++◌, codes, decimal}
use Rattle.report_core.specs.Texts.{refusal_text, package_field_value_text_by_number}
use Rattle.report_core.proofs.Behind.{differs_text, clash_text, ended}
use Rattle.report_core.proofs.sentence.sentence_of.Goals as goal

pub returns-in-IndexMissing : goal.returns-in-IndexMissing
returns-in-IndexMissing c = c.plain-in-IndexMissing.ensures ∙ c.three-in-IndexMissing.ensures ∙ ended (codes "repository " ++ decimal c.in-IndexMissing.repository) (codes ": ") (codes "no such index") ∙ ap refusal_text (sym c.in-IndexMissing.is)

pub returns-in-TooMany : goal.returns-in-TooMany
returns-in-TooMany c = c.plain-in-TooMany.ensures ∙ c.two-in-TooMany.ensures ∙ ap refusal_text (sym c.in-TooMany.is)

pub returns-in-PackageDiffers : goal.returns-in-PackageDiffers
returns-in-PackageDiffers c = c.plain-in-PackageDiffers.ensures ∙ c.seven.ensures ∙ differs_text _ _ _ _ _ _ _ _ c.as_bytes-in-PackageDiffers.ensures c.as_bytes-in-PackageDiffers-2.ensures
    (c.field_piece.ensures ∙ ap (package_field_value_text_by_number c.in-PackageDiffers.field) c.as_bytes-in-PackageDiffers-3.ensures)
    (c.field_piece-in-PackageDiffers.ensures ∙ ap (package_field_value_text_by_number c.in-PackageDiffers.field) c.as_bytes-in-PackageDiffers-4.ensures) ∙ ap refusal_text (sym c.in-PackageDiffers.is)

pub returns-in-PathClash : goal.returns-in-PathClash
returns-in-PathClash c = c.plain-in-PathClash.ensures ∙ c.three-in-PathClash.ensures ∙ clash_text _ _ _ _ c.as_bytes-in-PathClash.ensures.value c.as_bytes-in-PathClash-2.ensures.value ∙ ap refusal_text (sym c.in-PathClash.is)
