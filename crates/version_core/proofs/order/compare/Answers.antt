use Rattle.std.proofs.Common.{arith, subst, sym, ◌∙◌}
use Rattle.std.specs.Cmp.Lexicographic.{slice_cmp}
use Rattle.version_core.specs.Order.{token_cmp}
use Rattle.version_core.specs.Reading.{AreEqualUpToMark, AreEqualUpToParting, AreEqualUpToPlaceInHash, hash_cmp}
use Rattle.version_core.proofs.EqualFront.{cmp_from_hash, cmp_from_mark, cmp_whole, mark_before, mark_within}
use Rattle.version_core.proofs.order.compare.Goals as goal

pub tokens_from_mark-requires : goal.tokens_from_mark-requires
tokens_from_mark-requires c =
    let parted : AreEqualUpToMark c.args.left.now c.args.right.now c.in-AtMark.at = subst (AreEqualUpToParting c.args.left.now c.args.right.now) c.in-AtMark.is c.parting_of.ensures in
    omega (arith, mark_within c.args.left.now parted.len c.in-AtMark.at parted.last)

pub tokens_from_mark-requires-in-AtMark : goal.tokens_from_mark-requires-in-AtMark
tokens_from_mark-requires-in-AtMark c =
    let parted : AreEqualUpToMark c.args.left.now c.args.right.now c.in-AtMark.at = subst (AreEqualUpToParting c.args.left.now c.args.right.now) c.in-AtMark.is c.parting_of.ensures in
    omega (arith, mark_before c.args.left.now parted.len c.in-AtMark.at parted.last, parted.equal.within.1)

pub behind-requires : goal.behind-requires
behind-requires c =
    let parted : AreEqualUpToPlaceInHash c.args.left.now c.args.right.now c.in-InHash.len = subst (AreEqualUpToParting c.args.left.now c.args.right.now) c.in-InHash.is c.parting_of.ensures in
    parted.equal.within.0

pub behind-requires-in-InHash : goal.behind-requires-in-InHash
behind-requires-in-InHash c =
    let parted : AreEqualUpToPlaceInHash c.args.left.now c.args.right.now c.in-InHash.len = subst (AreEqualUpToParting c.args.left.now c.args.right.now) c.in-InHash.is c.parting_of.ensures in
    parted.equal.within.1

pub returns-in-AtFront : goal.returns-in-AtFront
returns-in-AtFront c =
    c.compare_tokens.ensures
    ∙ (λ i. slice_cmp token_cmp (c.of.ensures i) (c.of-in-AtFront.ensures i))
    ∙ cmp_whole c.args.left.now c.args.right.now

pub returns-in-AtMark : goal.returns-in-AtMark
returns-in-AtMark c =
    let parted : AreEqualUpToMark c.args.left.now c.args.right.now c.in-AtMark.at = subst (AreEqualUpToParting c.args.left.now c.args.right.now) c.in-AtMark.is c.parting_of.ensures in
    c.compare_tokens-in-AtMark.ensures
    ∙ (λ i. slice_cmp token_cmp (c.tokens_from_mark.ensures i) (c.tokens_from_mark-in-AtMark.ensures i))
    ∙ sym (cmp_from_mark c.args.left.now c.args.right.now parted.len c.in-AtMark.at parted.equal parted.last c.requires.left c.requires.right)

pub returns-in-InHash : goal.returns-in-InHash
returns-in-InHash c =
    let len = c.in-InHash.len in
    let parted : AreEqualUpToPlaceInHash c.args.left.now c.args.right.now len = subst (AreEqualUpToParting c.args.left.now c.args.right.now) c.in-InHash.is c.parting_of.ensures in
    c.compare_within_hash.ensures
    ∙ (λ i. hash_cmp (c.behind.ensures i) (c.behind-in-InHash.ensures i))
    ∙ sym (cmp_from_hash c.args.left.now c.args.right.now len parted.at parted.equal parted.last c.requires.left c.requires.right (mark_within c.args.left.now len parted.at parted.last) parted.tilde)
