use Rattle.std.proofs.Common.{◌≡◌, ◌∙◌, ℕ, Bool, true, false, List, map, refl, ap, sym}
use Rattle.std.specs.Prelude.{◌&&◌, ◌||◌, not, is_some}
use Rattle.std.specs.List.{find}
use Rattle.path_claim_lists.specs.path_claims.Claims.{is_claim_of_path}
use Rattle.path_claim_lists.specs.path_claims.Seen.{claim_seen}
use Rattle.path_claim_lists.specs.path_claims.declared.claim.Claim.{Claim}
use Rattle.own_core.proofs.ChangeClaims.{found_or_not}
use Rattle.own_core.proofs.clashes.ReleasedPathsIsReleased.does_release.Goals as goal
use Rattle.own_core.proofs.clashes.ReleasedPathsIsReleased.does_release.Goals.{then-is_none-via-then-is_none, then-is_none-via-else-is_none+then-is_some}

-- whether one of the claims has the path
abbrev listed : List Claim → List ℕ → Bool
listed claims name = is_some (find (is_claim_of_path name) (map claim_seen claims))

-- a name that was not listed is not released
not_listed : (before after kept : Bool) → before ≡ false → false ≡ (before && not (after || kept))
not_listed before after kept e = sym (ap (λ b. b && not (after || kept)) e)

-- a name that is listed after the change is not released
still_listed : (before after kept : Bool) → after ≡ true → false ≡ (before && not (after || kept))
still_listed true after kept e = sym (ap (λ b. not (b || kept)) e)
still_listed false after kept e = refl

-- a name that was listed and is no more is released unless it is kept
no_more_listed : (before after kept free : Bool) → before ≡ true → after ≡ false → kept ≡ not free → free ≡ (before && not (after || kept))
no_more_listed before after kept true b a k = sym (λ j. b j && not (a j || k j))
no_more_listed before after kept false b a k = sym (λ j. b j && not (a j || k j))

pub returns-then-is_none : goal.returns-then-is_none
returns-then-is_none c = elim c.then-is_none.branch [
  | then-is_none-via-then-is_none w ↦
      not_listed (listed c.args.self.now.before.now c.args.name.now) (listed c.args.self.now.after.now c.args.name.now) (listed c.args.self.now.kept.now c.args.name.now)
      (sym (found_or_not c.args.self.now.before.now c.args.name.now c.find_claim.result c.find_claim.ensures.within c.find_claim.ensures.found) ∙ c.is_none.ensures ∙ ap not w.if-is_none.true)
  | then-is_none-via-else-is_none+then-is_some w ↦
      still_listed (listed c.args.self.now.before.now c.args.name.now) (listed c.args.self.now.after.now c.args.name.now) (listed c.args.self.now.kept.now c.args.name.now)
      (sym (found_or_not c.args.self.now.after.now c.args.name.now w.find_claim-else-is_none.result w.find_claim-else-is_none.ensures.within w.find_claim-else-is_none.ensures.found) ∙ sym w.is_some.ensures ∙ w.if-is_some.true)
]

pub returns : goal.returns
returns c =
    no_more_listed (listed c.args.self.now.before.now c.args.name.now) (listed c.args.self.now.after.now c.args.name.now) (listed c.args.self.now.kept.now c.args.name.now) c.is_none-2.result
    (sym (found_or_not c.args.self.now.before.now c.args.name.now c.find_claim.result c.find_claim.ensures.within c.find_claim.ensures.found) ∙ c.is_none.ensures ∙ ap not c.if-is_none.false)
    (sym (found_or_not c.args.self.now.after.now c.args.name.now c.find_claim-else-is_none.result c.find_claim-else-is_none.ensures.within c.find_claim-else-is_none.ensures.found) ∙ sym c.is_some.ensures ∙ c.if-is_some.false)
    (sym (found_or_not c.args.self.now.kept.now c.args.name.now c.find_claim-2.result c.find_claim-2.ensures.within c.find_claim-2.ensures.found) ∙ c.is_none-2.ensures)
