use Rattle.apk_front.proofs.Demos.{ran_to, refused_to}
use Rattle.apk_front.proofs.demo.run_words.Goals as goal

pub returns-in-Ok : goal.returns-in-Ok
returns-in-Ok c = ran_to c.args.words.now _ c.args.tree.now c.run.new.tree c.run.result c.in-Ok.ensures.ok c.run.ensures.run.found c.run.ensures.run.tree

pub returns-in-Err-Usage : goal.returns-in-Err-Usage
returns-in-Err-Usage c = refused_to c.args.words.now _ _ _ c.args.tree.now c.refused.result c.in-Err-Usage.place-is c.in-Err-Usage.field-0-is c.in-Err-Usage.ensures.usage c.refused.ensures
