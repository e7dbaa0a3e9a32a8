use Rattle.std.proofs.Common.{◌∙◌, ◌∷◌, ◌+◌, List, ℕ, Bor, drop, map, ap, sym, arith}
use Rattle.package_files.specs.Folders.{folder_of}
use Rattle.change_report.proofs.Loops.{all_told, made_from, made_none, pushed}
use Rattle.change_report.proofs.due.push_removed_folders.Goals as goal

pub returns : goal.returns
returns c =
    all_told _ _ _ (made_none folder_of c.args.removals.now c.loop-i.i (omega (arith, c.len-i-end.ensures, c.loop-i-test.false))) c.loop-i.invariant

pub loop-i-preserved : goal.loop-i-preserved
loop-i-preserved c =
    pushed (λ (f : Bor (List ℕ)). f.now) c.loop-i.folders.items _ _ _ (drop (c.loop-i.i + 1) (map folder_of c.args.removals.now)) _
    c.in_ok-push.ensures.items
    (made_from folder_of c.args.removals.now c.loop-i.i c.get.result.now c.get.ensures
    ∙ ap (λ z. z ∷ drop (c.loop-i.i + 1) (map folder_of c.args.removals.now)) (sym (c.folder_of.ensures ∙ ap folder_of c.as_bytes.ensures.value)))
    c.loop-i.invariant
