use Rattle.std.proofs.Common.{◌≡◌, Bool, true, false, ◌&&◌, ℕ, List, length, ap, sym, ◌∙◌, Some}
use Rattle.std.specs.Ordering.{is_eq, nat_cmp}
use Rattle.std.specs.Cmp.Lexicographic.{slice_cmp}
use Rattle.version_core.specs.declared.token.Class.TheVariants.{Hash}
use Rattle.version_core.specs.Matching.{are_wanted_tokens_met_by}
use Rattle.version_core.specs.Order.{tokens_after_class_skipping_bytes}
use Rattle.version_core.specs.Token.{leading_hex_digits}
use Rattle.version_core.proofs.Orders.{not_equal, tied}
use Rattle.version_core.proofs.fuzzy.fits_within_hash.Goals as goal

abbrev fit_after : List ℕ → List ℕ → Bool
fit_after wanted found =
    are_wanted_tokens_met_by (tokens_after_class_skipping_bytes (Some Hash) (length (leading_hex_digits wanted)) wanted) (tokens_after_class_skipping_bytes (Some Hash) (length (leading_hex_digits found)) found)

pub returns-then-is_ne : goal.returns-then-is_ne
returns-then-is_ne c =
    let wanted : List ℕ = c.args.wanted.now in
    let found : List ℕ = c.args.found.now in
    let apart : is_eq (slice_cmp nat_cmp (leading_hex_digits found) (leading_hex_digits wanted)) ≡ false =
    ap is_eq (sym c.compare_hex_digits.ensures) ∙ not_equal c.compare_hex_digits.result (sym c.is_ne.ensures ∙ c.if-is_ne.true) in
    sym (ap (λ b. b && fit_after wanted found) apart)

pub returns : goal.returns
returns c =
    let wanted : List ℕ = c.args.wanted.now in
    let found : List ℕ = c.args.found.now in
    let equal : is_eq (slice_cmp nat_cmp (leading_hex_digits found) (leading_hex_digits wanted)) ≡ true =
    ap is_eq (sym c.compare_hex_digits.ensures ∙ tied c.compare_hex_digits.result (sym c.is_ne.ensures ∙ c.if-is_ne.false)) in
    c.are_wanted_tokens_met_by.ensures
    ∙ (λ i. are_wanted_tokens_met_by (c.behind.ensures i) (c.behind-2.ensures i))
    ∙ sym (ap (λ b. b && fit_after wanted found) equal)
