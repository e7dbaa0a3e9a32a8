use Rattle.std.proofs.Common.{◌≤◌, ◌<◌, ◌∙◌, List, ℕ, Bool, false, length, take, get_or, ap, arith}
use Rattle.std.proofs.lemmas.List.{take_all}
use Rattle.option_ranks.specs.candidate_core.Candidates.{Candidate}
use Rattle.option_ranks.specs.candidate_core.PositiveInstallIfs.{places_marked_with_install_if}
use Rattle.option_ranks.specs.candidate_core.Packages.{candidates_of_packages}
use Rattle.option_ranks.proofs.candidate_core.Steps.{marked_step, get_at}
use Rattle.pool_core.proofs.world_marks.install_ifs_among.Goals as goal

pub loop-place-preserved : goal.loop-place-preserved
loop-place-preserved c =
    let i : ℕ = c.loop-place.place in
    let cs : List Candidate = candidates_of_packages c.args.packages.now in
    let ms : List Bool = c.args.eligible.now in
    let one : Candidate = c.get.result in
    let here : i < length cs = omega arith in
    let mark_here : i < length ms = omega (arith, c.requires.marked) in
    marked_step i ms cs (get_or ms i false) one c.loop-place.ids.items c.push_if_marked.new.ids.items
    (get_at ms i false mark_here) c.get.ensures c.loop-place.invariant c.in_ok-push_if_marked.ensures

pub returns : goal.returns
returns c =
    let past : length (candidates_of_packages c.args.packages.now) ≤ c.loop-place.place = omega arith in
    let past_marks : length c.args.eligible.now ≤ c.loop-place.place = omega (arith, c.requires.marked) in
    c.loop-place.invariant ∙ (ap (λ (ms : List Bool). places_marked_with_install_if 0 ms (take c.loop-place.place (candidates_of_packages c.args.packages.now))) (take_all c.loop-place.place c.args.eligible.now past_marks) ∙ ap (λ (cs : List Candidate). places_marked_with_install_if 0 c.args.eligible.now cs) (take_all c.loop-place.place (candidates_of_packages c.args.packages.now) past))
