use Rattle.std.proofs.Common.{◌∙◌, ◌∷◌, ◌+◌, List, ℕ, Bor, drop, map, ap, sym, arith}
use Rattle.own_core.specs.PlanLists.{FileWrite}
use Rattle.package_files.specs.Folders.{folder_of}
use Rattle.own_core.specs.WritesSeen.{writes_in}
use Rattle.std.proofs.lemmas.List.{length-map}
use Rattle.change_report.proofs.Loops.{all_told, get_mapped, made_from, made_none, pushed}
use Rattle.change_report.proofs.due.push_written_folders.Goals as goal

pub returns : goal.returns
returns c =
    all_told _ _ _ (made_none folder_of (map (λ (w : FileWrite). w.name) (writes_in c.args.writes.now)) c.loop-i.i
    (omega (arith, length-map (writes_in c.args.writes.now) (λ (w : FileWrite). w.name), c.len-i-end.ensures, c.loop-i-test.false))) c.loop-i.invariant

pub loop-i-preserved : goal.loop-i-preserved
loop-i-preserved c =
    pushed (λ (f : Bor (List ℕ)). f.now) c.loop-i.folders.items _ _ _ (drop (c.loop-i.i + 1) (map folder_of (map (λ (w : FileWrite). w.name) (writes_in c.args.writes.now)))) _
    c.in_ok-push.ensures.items
    (made_from folder_of (map (λ (w : FileWrite). w.name) (writes_in c.args.writes.now)) c.loop-i.i c.get.result.now.name
    (get_mapped (λ (w : FileWrite). w.name) (writes_in c.args.writes.now) c.loop-i.i _ c.get.ensures)
    ∙ ap (λ z. z ∷ drop (c.loop-i.i + 1) (map folder_of (map (λ (w : FileWrite). w.name) (writes_in c.args.writes.now)))) (sym (c.folder_of.ensures ∙ ap folder_of c.as_bytes.ensures.value)))
    c.loop-i.invariant
