use Rattle.std.proofs.Common.{◌≡◌, ◌∙◌, true, List, ℕ, Bool, sym, ap, subst}
use Rattle.std.specs.Prelude.{Some, slice_get}
use Rattle.std.proofs.Math.ListN.{set}
use Rattle.dep_core.specs.Meets.{dependency}
use Rattle.option_ranks.specs.candidate_core.Candidates.{Candidate}
use Rattle.pool_core.specs.Marks.{affects}
use Rattle.option_ranks.specs.candidate_core.Packages.{candidates_of_packages}
use Rattle.pool_core.proofs.MarksThroughTable.{with_mark_set_at-failed, with_mark_set_at-passed}
use Rattle.pool_core.proofs.marks.mark_one.Goals as goal

pub returns-then-not-is_affected-clause-marks : goal.returns-then-not-is_affected-clause-marks
returns-then-not-is_affected-clause-marks c =
    let cs : List Candidate = candidates_of_packages c.args.packages.now in
    let one : Candidate = c.get-one.result in
    let there : slice_get cs c.args.id ≡ Some one = subst (λ (n : ℕ). slice_get cs n ≡ Some one) c.id.view_is c.get-one.ensures in
    sym (with_mark_set_at-failed (affects c.args.effect (dependency c.args.entry.now)) c.args.id c.args.marks.now.items cs one there (sym c.in_ok-is_affected.ensures.affects ∙ c.if-not-is_affected.true))

pub returns-clause-marks : goal.returns-clause-marks
returns-clause-marks c =
    let cs : List Candidate = candidates_of_packages c.args.packages.now in
    let ms : List Bool = c.args.marks.now.items in
    let one : Candidate = c.get-one.result in
    let there : slice_get cs c.args.id ≡ Some one = subst (λ (n : ℕ). slice_get cs n ≡ Some one) c.id.view_is c.get-one.ensures in
    ap (λ (n : ℕ). set ms n true) c.id.view_is ∙ sym (with_mark_set_at-passed (affects c.args.effect (dependency c.args.entry.now)) c.args.id ms cs one there (sym c.in_ok-is_affected.ensures.affects ∙ c.if-not-is_affected.false) c.requires.each)
