use Rattle.std.proofs.Common.{◌∙◌, take, ap, sym, arith}
use Rattle.root_names.proofs.FolderPrefixes.{prefix_at_other, prefix_at_slash}
use Rattle.root_names.proofs.beside_index.path_up_to_last_slash.Goals as goal
use Rattle.root_names.proofs.beside_index.path_up_to_last_slash.Goals.{then-byte-eq47, else-byte-eq47}

pub loop-i-preserved : goal.loop-i-preserved
loop-i-preserved c =
    let path = c.args.path.now in
    let i = c.loop-i.i in
    elim c.if-byte-eq47.branch [
      | then-byte-eq47 w ↦ record {
        within = omega arith;
        prefix = prefix_at_slash path i 0 c.loop-i-test.true w.if-byte-eq47.true ∙ ap (λ n. take n path) (sym w.end-is);
      }
      | else-byte-eq47 w ↦ record {
        within = omega arith;
        prefix = prefix_at_other path i 0 c.loop-i-test.true w.if-byte-eq47.false ∙ (c.loop-i.invariant.prefix ∙ ap (λ n. take n path) (sym w.end-is));
      }
    ]
