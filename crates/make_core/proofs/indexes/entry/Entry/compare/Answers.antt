use Rattle.std.proofs.Common.{sym, ◌∙◌}
use Rattle.version_core.specs.Order.{version_cmp}
use Rattle.make_core.proofs.IndexOrdering.{name_decides, name_leaves, first_decides, first_leaves}
use Rattle.make_core.proofs.indexes.entry.Entry.compare.Goals as goal

pub returns-then-is_ne : goal.returns-then-is_ne
returns-then-is_ne c = name_decides _ _ _ _ _ _ _ _ c.args.self.now.keyed c.args.other.now.keyed _ c.cmp-order.ensures (sym c.is_ne.ensures ∙ c.if-is_ne.true)

pub returns-then-is_ne-2 : goal.returns-then-is_ne-2
returns-then-is_ne-2 c =
    name_leaves _ _ _ _ _ _ _ _ c.args.self.now.keyed c.args.other.now.keyed _ c.cmp-order.ensures _ (sym c.is_ne.ensures ∙ c.if-is_ne.false)
    (first_decides _ _ _ (c.compare_versions-order.ensures ∙ (λ j. version_cmp (c.deref.ensures.value j) (c.deref-2.ensures.value j))) (sym c.is_ne-2.ensures ∙ c.if-is_ne-2.true))

pub returns-then-is_ne-3 : goal.returns-then-is_ne-3
returns-then-is_ne-3 c =
    name_leaves _ _ _ _ _ _ _ _ c.args.self.now.keyed c.args.other.now.keyed _ c.cmp-order.ensures _ (sym c.is_ne.ensures ∙ c.if-is_ne.false)
    (first_leaves c.compare_versions-order.result _ _ _ (c.compare_versions-order.ensures ∙ (λ j. version_cmp (c.deref.ensures.value j) (c.deref-2.ensures.value j))) (sym c.is_ne-2.ensures ∙ c.if-is_ne-2.false)
    (first_decides _ _ _ c.cmp-order-2.ensures (sym c.is_ne-3.ensures ∙ c.if-is_ne-3.true)))

pub returns : goal.returns
returns c =
    name_leaves _ _ _ _ _ _ _ _ c.args.self.now.keyed c.args.other.now.keyed _ c.cmp-order.ensures _ (sym c.is_ne.ensures ∙ c.if-is_ne.false)
    (first_leaves c.compare_versions-order.result _ _ _ (c.compare_versions-order.ensures ∙ (λ j. version_cmp (c.deref.ensures.value j) (c.deref-2.ensures.value j))) (sym c.is_ne-2.ensures ∙ c.if-is_ne-2.false)
    (first_leaves c.cmp-order-2.result _ _ _ c.cmp-order-2.ensures (sym c.is_ne-3.ensures ∙ c.if-is_ne-3.false) c.cmp.ensures))
