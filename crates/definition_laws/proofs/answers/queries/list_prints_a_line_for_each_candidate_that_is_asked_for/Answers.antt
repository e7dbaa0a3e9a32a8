use Rattle.definition_laws.proofs.answers.QueryLines.{listed}
use Rattle.definition_laws.proofs.answers.queries.list_prints_a_line_for_each_candidate_that_is_asked_for.Goals as goal

pub returns : goal.returns
returns c =
    listed c.a_query_selects_what_passes_its_test.ensures.those c.a_query_selects_what_passes_its_test.ensures.each c.a_query_selects_what_passes_its_test.ensures.order
    c.list_prints_what_is_asked_for.ensures
