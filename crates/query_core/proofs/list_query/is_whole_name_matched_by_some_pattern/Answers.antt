use Rattle.std.proofs.Common.{◌≡◌, ◌∙◌, Bool, List, ℕ, ap, sym}
use Rattle.pool_core.proofs.candidate_core.LoopTests.{any_at, none_next}
use Rattle.command_core.specs.declared.operands.Operand.{Operand}
use Rattle.star_patterns.specs.Patterns.{is_whole_text_matched}
use Rattle.query_core.proofs.list_query.is_whole_name_matched_by_some_pattern.Goals as goal

pub returns-then-matches : goal.returns-then-matches
returns-then-matches c =
    let name : List ℕ = c.args.name.now in
    let passes : Operand → Bool = λ (o : Operand). is_whole_text_matched o.text name in
    let answer : c.matches.result ≡ passes c.get.result.now = c.matches.ensures ∙ ap (λ (text : List ℕ). is_whole_text_matched text name) c.as_bytes.ensures in
    sym (any_at passes c.args.patterns.now c.loop-i.i c.get.result.now c.get.ensures (sym answer ∙ c.if-matches.true))

pub loop-i-preserved : goal.loop-i-preserved
loop-i-preserved c =
    let name : List ℕ = c.args.name.now in
    let passes : Operand → Bool = λ (o : Operand). is_whole_text_matched o.text name in
    let answer : c.matches.result ≡ passes c.get.result.now = c.matches.ensures ∙ ap (λ (text : List ℕ). is_whole_text_matched text name) c.as_bytes.ensures in
    none_next passes c.args.patterns.now c.loop-i.i c.get.result.now c.loop-i.invariant c.get.ensures (sym answer ∙ c.if-matches.false)
