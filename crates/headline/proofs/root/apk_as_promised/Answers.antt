use Rattle.run_lists.proofs.Called.{called}
use Rattle.headline.proofs.Promised.{of_call}
use Rattle.headline.proofs.root.apk_as_promised.Goals as goal

pub returns-clause-promised : goal.returns-clause-promised
returns-clause-promised g c =
    of_call c.the_sentence_holds.ensures (record {
      words = c.args.words.now;
      old = _;
      now = _;
      before = _;
      after = _;
      out = _;
      err = _;
      answer = c.apk.result;
    }) (called c.a_run_is_safe_after_any_events.ensures.safe c.a_run_is_safe_after_any_events.ensures.atomic _
    c.apk.ensures.same c.apk.ensures.stated c.apk.ensures.idle c.apk.ensures.bad_intent c.apk.ensures.reads c.apk.ensures.last c.apk.ensures.left c.apk.ensures.crash c.apk.ensures.is_durable c.apk.ensures.settled c.apk.ensures.durable_state)

pub returns-clause-complete : goal.returns-clause-complete
returns-clause-complete g c = c.apk.ensures.complete

pub returns-clause-every_tree : goal.returns-clause-every_tree
returns-clause-every_tree g c = c.apk.ensures.every_tree

pub returns-clause-found : goal.returns-clause-found
returns-clause-found g c = c.apk.ensures.found

pub returns-clause-asked : goal.returns-clause-asked
returns-clause-asked g c = c.apk.ensures.promised

pub returns-clause-causes : goal.returns-clause-causes
returns-clause-causes g c = c.apk.ensures.causes

pub returns-clause-tree_counts : goal.returns-clause-tree_counts
returns-clause-tree_counts g c = c.apk.ensures.tree_counts

pub returns-clause-out_counts : goal.returns-clause-out_counts
returns-clause-out_counts g c = c.apk.ensures.out_counts

pub returns-clause-err_counts : goal.returns-clause-err_counts
returns-clause-err_counts g c = c.apk.ensures.err_counts

pub returns-clause-memory : goal.returns-clause-memory
returns-clause-memory g c = c.apk.ensures.memory

pub returns-clause-proper : goal.returns-clause-proper
returns-clause-proper g c = c.apk.ensures.proper

pub returns-clause-unless_memory : goal.returns-clause-unless_memory
returns-clause-unless_memory g c = c.apk.ensures.unless_memory

pub returns-clause-untouched : goal.returns-clause-untouched
returns-clause-untouched g c = c.apk.ensures.untouched

pub returns-clause-same : goal.returns-clause-same
returns-clause-same g c = c.apk.ensures.same
