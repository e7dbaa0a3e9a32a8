use Rattle.engine_core.proofs.PlanSteps.{plan_read, refused_read}
use Rattle.engine_core.proofs.planning.plan_files.Goals as goal

pub returns-in-Ok-clause-plan : goal.returns-in-Ok-clause-plan
returns-in-Ok-clause-plan g c = record {
  lists = c.in-Ok.ensures.plan;
  names = c.in-Ok.ensures.names;
  sources = c.in-Ok.ensures.sources;
  owners = c.in-Ok.ensures.lists;
  unreserved = c.no_listed_path_is_reserved.ensures;
}

pub returns-in-Ok-clause-tree : goal.returns-in-Ok-clause-tree
returns-in-Ok-clause-tree g c = plan_read _ _ _ _ c.in-Ok.plan c.in-Ok.ensures.tree

pub returns-in-Err-clause-refused : goal.returns-in-Err-clause-refused
returns-in-Err-clause-refused g c = record {
  fault = c.in-Err.fault;
  reported = c.refused_plan.ensures;
  cause = c.in-Err.ensures.cause;
  first = c.in-Err.ensures.refusal;
  may = c.in-Err.ensures.may;
}

pub returns-in-Err-clause-tree : goal.returns-in-Err-clause-tree
returns-in-Err-clause-tree g c = refused_read _ _ _ _ c.in-Err.fault c.refused_plan.result c.refused_plan.ensures c.in-Err.ensures.tree
