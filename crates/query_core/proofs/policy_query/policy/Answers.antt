use Rattle.std.proofs.Common.{◌∙◌, ◌≤◌, ◌++◌, ◌∷◌, [], List, ℕ, length, take, ap, sym, arith, append-nil}
use Rattle.std.proofs.lemmas.List.{take_all}
use Rattle.std.proofs.lemmas.Grind.{flat_map-append}
use Rattle.pool_core.proofs.candidate_core.Steps.{take_one_more}
use Rattle.command_core.specs.declared.operands.Operand.{Operand}
use Rattle.query_core.specs.Policy.{name_policy, policy_report}
use Rattle.query_core.proofs.policy_query.policy.Goals as goal

pub loop-i-preserved : goal.loop-i-preserved
loop-i-preserved c =
    let cs = c.args.pool.now.candidates in
    let repositories = c.args.repositories.now in
    let names : List Operand = c.args.names.now in
    let o : Operand = c.get.result.now in
    let each = λ (p : Operand). name_policy cs repositories p.text in
    let before : List Operand = take c.loop-i.i names in
    c.in_ok-add_name.ensures
    ∙ (ap (λ (lines : List ℕ). lines ++ name_policy cs repositories c.as_bytes-name.result.now) c.loop-i.invariant
    ∙ (ap (λ (name : List ℕ). policy_report cs repositories before ++ name_policy cs repositories name) c.as_bytes-name.ensures
    ∙ (ap (λ (lines : List ℕ). policy_report cs repositories before ++ lines) (sym (append-nil (each o)))
    ∙ (sym (flat_map-append each before (o ∷ [])) ∙ ap (policy_report cs repositories) (sym (take_one_more names c.loop-i.i o c.get.ensures))))))

pub returns : goal.returns
returns c =
    let past : length c.args.names.now ≤ c.loop-i.i = omega arith in
    c.from_vec.ensures ∙ (c.loop-i.invariant ∙ ap (policy_report c.args.pool.now.candidates c.args.repositories.now) (take_all c.loop-i.i c.args.names.now past))
