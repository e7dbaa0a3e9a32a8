use Rattle.std.proofs.Common.{ℕ, List, sym, subst}
use Rattle.std.proofs.lemmas.List.Elements.{All-set}
use Rattle.version_core.specs.Overlapping.{IsSafeSkip}
use Rattle.version_core.specs.declared.overlapping.Leap.{Leap}
use Rattle.version_core.proofs.overlapping.OverlappingVersions.remember.Goals as goal

pub invariant_of-self : goal.invariant_of-self
invariant_of-self c =
    All-set (λ (leap : Leap). IsSafeSkip c.self.inside.bytes.now leap.from leap.to) c.self.inside.leaps.items _ (record { from = c.args.from; to = c.args.to })
    (subst (λ (bytes : List ℕ). IsSafeSkip bytes c.args.from c.args.to) (sym c.self.view_is) c.requires) c.self.invariant
