use Rattle.std.proofs.Common.{List, ℕ, refl, ap, ◌∙◌, arith}
use Rattle.adb_values.specs.Drafts.{draft_with}
use Rattle.adb_values.proofs.Lists.{closed, left_more, list_given}
use Rattle.adb_view.specs.Plain.{array_or_null, blob_or_null, plains_of_texts}
use Rattle.journal_intent.proofs.container.write_names.Goals as goal

pub loop-i-preserved : goal.loop-i-preserved
loop-i-preserved c =
    left_more plains_of_texts blob_or_null c.args.names.now _ (λ name names. refl) c.loop-i.i c.get.result.now _ _ c.get.ensures c.loop-i.invariant
    (c.in_ok-blob.ensures.ok ∙ ap (λ (b : List ℕ). draft_with (blob_or_null b) c.loop-i.draft) c.as_bytes.ensures.value)

pub returns : goal.returns
returns c =
    closed array_or_null (plains_of_texts c.args.names.now) c.args.draft.now _ _ c.close_array.result c.close_array.ensures.ok
    (list_given plains_of_texts c.args.names.now refl c.loop-i.i _ _ _ (omega arith) c.loop-i.invariant c.in_ok-open_list.ensures.ok)
