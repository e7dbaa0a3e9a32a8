use Rattle.std.proofs.Common.{◌∙◌, List, ℕ, Some, None, Ok, ap, arith, sym}
use Rattle.std.specs.List.{find}
use Rattle.db_core.specs.Packages.{is_package_named}
use Rattle.db_core.specs.Seen.{packages_of}
use Rattle.audit_core.proofs.ManifestSteps.{all_reported, nothing_yet, package_at, refused_at, reported_package}
use Rattle.audit_core.proofs.digests.manifest.Goals as goal

pub loop-i-init : goal.loop-i-init
loop-i-init c = nothing_yet (packages_of c.args.db.now) c.args.names.now _ c.new-report.ensures.items

pub returns-in-None : goal.returns-in-None
returns-in-None c =
    let packages = packages_of c.args.db.now in
    refused_at packages c.args.names.now c.loop-i.i c.get-operand.result.now c.loop-i.report.items c.get-operand.ensures
    (ap (λ (text : List ℕ). find (is_package_named text) packages) (sym c.as_bytes.ensures) ∙ sym (package_at packages c.as_bytes.result.now None c.in-None.ensures.found)) c.loop-i.invariant

pub loop-i-preserved : goal.loop-i-preserved
loop-i-preserved c =
    let packages = packages_of c.args.db.now in
    reported_package packages c.args.names.now c.loop-i.i c.get-operand.result.now c.loop-i.report.items _ c.in-Some.place c.get-operand.ensures c.in-Some.ensures.within
    (package_at packages c.as_bytes.result.now (Some c.in-Some.place) c.in-Some.ensures.found ∙ ap (λ (text : List ℕ). find (is_package_named text) packages) c.as_bytes.ensures)
    c.in_ok-push_package-in-Some.ensures c.loop-i.invariant

pub returns : goal.returns
returns c =
    ap Ok c.from_vec.ensures
    ∙ all_reported (packages_of c.args.db.now) c.args.names.now c.loop-i.i c.loop-i.report.items (omega (arith, c.len-i-end.ensures, c.loop-i-test.false, c.loop-i.auto.i-end)) c.loop-i.invariant
