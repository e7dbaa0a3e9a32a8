-- The names of the waiting files.
use Rattle.std.proofs.Common.{◌≡◌, ◌≢◌, ℕ, ◌<◌, ◌^◌, true, List, drop, get_or, decimal, refl, sym, ap, ◌∙◌, arith}
use Rattle.std.specs.Str.Parse.{digits_value}
use Rattle.std.proofs.lemmas.Fmt.{decimal_is_IsNumeral}
use Rattle.journal_intent.specs.Intent.{intent_name, is_staged, stage_name}

pub stage_names_apart : (j k : ℕ) → j < 2 ^ 64 → k < 2 ^ 64 → stage_name j ≡ stage_name k → j ≡ k
stage_names_apart j k small_j small_k is =
    let same : decimal j ≡ decimal k = ap (drop 14) is in
    sym (decimal_is_IsNumeral j small_j).1 ∙ ap (digits_value 10) same ∙ (decimal_is_IsNumeral k small_k).1

pub stage_name_staged : (k : ℕ) → is_staged (stage_name k) ≡ true
stage_name_staged k = refl

pub stage_name_no_intent : (k : ℕ) → stage_name k ≢ intent_name
stage_name_no_intent k is = let same : 115 ≡ 105 = ap (λ (name : List ℕ). get_or name 8 0) is in absurd (omega (arith, same))
