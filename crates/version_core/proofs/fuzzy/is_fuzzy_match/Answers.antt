use Rattle.std.proofs.Common.{arith, subst, sym, ◌∙◌}
use Rattle.version_core.specs.Matching.{are_wanted_tokens_met_by}
use Rattle.version_core.specs.Reading.{AreEqualUpToMark, AreEqualUpToParting, AreEqualUpToPlaceInHash, hash_fits}
use Rattle.version_core.proofs.EqualFront.{fit_from_hash, fit_from_mark, fit_whole, mark_before, mark_within}
use Rattle.version_core.proofs.fuzzy.is_fuzzy_match.Goals as goal

pub tokens_from_mark-requires : goal.tokens_from_mark-requires
tokens_from_mark-requires c =
    let parted : AreEqualUpToMark c.args.wanted.now c.args.found.now c.in-AtMark.at = subst (AreEqualUpToParting c.args.wanted.now c.args.found.now) c.in-AtMark.is c.parting_of.ensures in
    omega (arith, mark_within c.args.wanted.now parted.len c.in-AtMark.at parted.last)

pub tokens_from_mark-requires-in-AtMark : goal.tokens_from_mark-requires-in-AtMark
tokens_from_mark-requires-in-AtMark c =
    let parted : AreEqualUpToMark c.args.wanted.now c.args.found.now c.in-AtMark.at = subst (AreEqualUpToParting c.args.wanted.now c.args.found.now) c.in-AtMark.is c.parting_of.ensures in
    omega (arith, mark_before c.args.wanted.now parted.len c.in-AtMark.at parted.last, parted.equal.within.1)

pub behind-requires : goal.behind-requires
behind-requires c =
    let parted : AreEqualUpToPlaceInHash c.args.wanted.now c.args.found.now c.in-InHash.len = subst (AreEqualUpToParting c.args.wanted.now c.args.found.now) c.in-InHash.is c.parting_of.ensures in
    parted.equal.within.0

pub behind-requires-in-InHash : goal.behind-requires-in-InHash
behind-requires-in-InHash c =
    let parted : AreEqualUpToPlaceInHash c.args.wanted.now c.args.found.now c.in-InHash.len = subst (AreEqualUpToParting c.args.wanted.now c.args.found.now) c.in-InHash.is c.parting_of.ensures in
    parted.equal.within.1

pub returns-in-AtFront : goal.returns-in-AtFront
returns-in-AtFront c =
    c.are_wanted_tokens_met_by.ensures
    ∙ (λ i. are_wanted_tokens_met_by (c.of.ensures i) (c.of-in-AtFront.ensures i))
    ∙ fit_whole c.args.wanted.now c.args.found.now

pub returns-in-AtMark : goal.returns-in-AtMark
returns-in-AtMark c =
    let parted : AreEqualUpToMark c.args.wanted.now c.args.found.now c.in-AtMark.at = subst (AreEqualUpToParting c.args.wanted.now c.args.found.now) c.in-AtMark.is c.parting_of.ensures in
    c.are_wanted_tokens_met_by-in-AtMark.ensures
    ∙ (λ i. are_wanted_tokens_met_by (c.tokens_from_mark.ensures i) (c.tokens_from_mark-in-AtMark.ensures i))
    ∙ sym (fit_from_mark c.args.wanted.now c.args.found.now parted.len c.in-AtMark.at parted.equal parted.last c.requires.wanted c.requires.found)

pub returns-in-InHash : goal.returns-in-InHash
returns-in-InHash c =
    let len = c.in-InHash.len in
    let parted : AreEqualUpToPlaceInHash c.args.wanted.now c.args.found.now len = subst (AreEqualUpToParting c.args.wanted.now c.args.found.now) c.in-InHash.is c.parting_of.ensures in
    c.fits_within_hash.ensures
    ∙ (λ i. hash_fits (c.behind.ensures i) (c.behind-in-InHash.ensures i))
    ∙ sym (fit_from_hash c.args.wanted.now c.args.found.now len parted.at parted.equal parted.last c.requires.wanted c.requires.found (mark_within c.args.wanted.now len parted.at parted.last) parted.tilde)
