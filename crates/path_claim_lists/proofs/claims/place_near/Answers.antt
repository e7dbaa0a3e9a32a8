use Rattle.std.proofs.Common.{◌<◌, ◌-◌, true, false, sym, ap, ◌∙◌, length, arith}
use Rattle.std.specs.Ordering.{is_lt}
use Rattle.path_claims.specs.adb_fields.JoinedPath.{joined_path}
use Rattle.path_claims.specs.declared.claim.Claim.{Claim}
use Rattle.path_claim_lists.proofs.PathOrder.{IsBefore, before_any, place_by}
use Rattle.path_claim_lists.proofs.claims.place_near.Goals.{else-guess-gt0-via-then-guess-gt0+else-not-is_lt, else-guess-gt0-via-else-guess-gt0, else-guess-claims-2-via-then-guess-claims-2+else-is_lt, else-guess-claims-2-via-else-guess-claims-2}
use Rattle.path_claim_lists.proofs.claims.place_near.Goals as goal

pub returns-clause-place : goal.returns-clause-place
returns-clause-place c =
    let low : (d : Claim) → 0 < c.args.guess → IsBefore c.args.claims.now (joined_path c.args.path.now) (c.args.guess - 1) d true =
    elim c.else-guess-gt0.branch [
      | else-guess-gt0-via-then-guess-gt0+else-not-is_lt w ↦ λ d some.
          before_any c.args.claims.now (joined_path c.args.path.now) (c.args.guess - 1) d _ true (omega (arith, some, c.if-guess-claims.false))
          (sym (w.is_lt.ensures ∙ ap is_lt w.compare.ensures) ∙ w.if-not-is_lt.false)
      | else-guess-gt0-via-else-guess-gt0 w ↦ λ d some. absurd (omega (arith, some, w.if-guess-gt0.false))
    ] in
    let high : (d : Claim) → c.args.guess < length c.args.claims.now → IsBefore c.args.claims.now (joined_path c.args.path.now) c.args.guess d false =
    elim c.else-guess-claims-2.branch [
      | else-guess-claims-2-via-then-guess-claims-2+else-is_lt w ↦ λ d within.
          before_any c.args.claims.now (joined_path c.args.path.now) c.args.guess d _ false within
          (sym (w.is_lt-then-guess-claims-2.ensures ∙ ap is_lt w.compare-then-guess-claims-2.ensures) ∙ w.if-is_lt.false)
      | else-guess-claims-2-via-else-guess-claims-2 w ↦ λ d within. absurd (omega (arith, within, w.if-guess-claims-2.false))
    ] in
    place_by c.args.claims.now (joined_path c.args.path.now) c.args.guess c.requires c.if-guess-claims.false low high
