use Rattle.search_needs.proofs.RaiserLists.{pushed_more, pushed_within}
use Rattle.search_needs.proofs.needs.push_met.Goals as goal

pub returns-in_ok-push-in-Some-clause-within : goal.returns-in_ok-push-in-Some-clause-within
returns-in_ok-push-in-Some-clause-within c = pushed_within c.args.pool.now c.args.by.now.items c.push.new.self.items c.args.choices.now c.in-Some.id c.in_ok-push-in-Some.ensures.items c.in-Some.ensures.0

pub returns-in_ok-push-in-Some-clause-more : goal.returns-in_ok-push-in-Some-clause-more
returns-in_ok-push-in-Some-clause-more c = pushed_more c.args.pool.now c.args.by.now.items c.push.new.self.items c.in-Some.id c.in_ok-push-in-Some.ensures.items
