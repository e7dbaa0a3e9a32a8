use Rattle.std.proofs.Common.{◌+◌, List, ℕ, Bor, Bool, arith, drop, map, ap}
use Rattle.std.specs.List.{filter, flat_map}
use Rattle.std.proofs.lemmas.List.{drop_all}
use Rattle.own_core.specs.db_core.Seen.{packages_of}
use Rattle.package_changes.specs.Placed.{candidates_at}
use Rattle.package_changes.specs.Report.{lines_on_name_that_stays, was_installed}
use Rattle.package_changes.proofs.Lists.{all_told, told}
use Rattle.package_changes.proofs.ReportLines.{lines_at}
use Rattle.package_changes.proofs.stays.push_lines_of_names.Goals as goal

pub loop-name-preserved : goal.loop-name-preserved
loop-name-preserved c =
    let lines : List ℕ → List ℕ = lines_on_name_that_stays (candidates_at c.args.pool.now c.args.trace.now) in
    let was : List ℕ → Bool = was_installed (packages_of c.args.db.now) in
    told _ _ _ _ (flat_map lines (filter was (map (λ (n : Bor (List ℕ)). n.now) (drop (c.loop-name.name-index + 1) c.args.names.now)))) _
    c.in_ok-push_lines_of_name.ensures (lines_at lines was c.args.names.now c.loop-name.name-index _ (omega arith)) c.loop-name.invariant

pub returns : goal.returns
returns c =
    let lines : List ℕ → List ℕ = lines_on_name_that_stays (candidates_at c.args.pool.now c.args.trace.now) in
    let was : List ℕ → Bool = was_installed (packages_of c.args.db.now) in
    all_told _ _ _ (ap (λ z. flat_map lines (filter was (map (λ (n : Bor (List ℕ)). n.now) z))) (drop_all c.loop-name.name-index c.args.names.now (omega arith))) c.loop-name.invariant
