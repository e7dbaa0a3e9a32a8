use Rattle.version_core.proofs.order.parting_of.Goals as goal

pub returns-then-left-at-eq126 : goal.returns-then-left-at-eq126
returns-then-left-at-eq126 c = record {
  at = c.in-Some.at;
  equal = c.equal_len-len.ensures;
  last = c.in-Some.ensures.some;
  tilde = c.if-left-at-eq126.true;
}

pub returns : goal.returns
returns c = record {
  len = c.equal_len-len.result;
  equal = c.equal_len-len.ensures;
  last = c.in-Some.ensures.some;
}
