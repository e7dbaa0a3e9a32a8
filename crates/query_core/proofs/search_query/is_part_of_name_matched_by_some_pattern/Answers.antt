use Rattle.std.proofs.Common.{◌≡◌, ◌∙◌, Bool, List, ℕ, ap, sym}
use Rattle.pool_core.proofs.candidate_core.LoopTests.{any_at, none_next}
use Rattle.command_core.specs.declared.operands.Operand.{Operand}
use Rattle.star_patterns.specs.Patterns.{matches_some_part}
use Rattle.query_core.proofs.search_query.is_part_of_name_matched_by_some_pattern.Goals as goal

pub returns-then-matches_within : goal.returns-then-matches_within
returns-then-matches_within c =
    let name : List ℕ = c.args.name.now in
    let passes : Operand → Bool = λ (o : Operand). matches_some_part o.text name in
    let answer : c.matches_within.result ≡ passes c.get.result.now = c.matches_within.ensures ∙ ap (λ (text : List ℕ). matches_some_part text name) c.as_bytes.ensures in
    sym (any_at passes c.args.patterns.now c.loop-i.i c.get.result.now c.get.ensures (sym answer ∙ c.if-matches_within.true))

pub loop-i-preserved : goal.loop-i-preserved
loop-i-preserved c =
    let name : List ℕ = c.args.name.now in
    let passes : Operand → Bool = λ (o : Operand). matches_some_part o.text name in
    let answer : c.matches_within.result ≡ passes c.get.result.now = c.matches_within.ensures ∙ ap (λ (text : List ℕ). matches_some_part text name) c.as_bytes.ensures in
    none_next passes c.args.patterns.now c.loop-i.i c.get.result.now c.loop-i.invariant c.get.ensures (sym answer ∙ c.if-matches_within.false)
