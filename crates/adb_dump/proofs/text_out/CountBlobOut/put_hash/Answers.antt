use Rattle.std.proofs.Common.{◌∙◌, refl}
use Rattle.adb_dump.proofs.Lengths.{hash_counts, lengths_stay}
use Rattle.adb_dump.proofs.text_out.CountBlobOut.put_hash.Goals as goal

pub returns : goal.returns
returns c p before was =
    (hash_counts _ _ _ _ before c.args.hash.now c.in_ok-add.ensures.len c.in_ok-add-2.ensures.len refl was.0, lengths_stay p _ _ (c.in_ok-add-2.ensures.lens ∙ c.in_ok-add.ensures.lens) was.1)
