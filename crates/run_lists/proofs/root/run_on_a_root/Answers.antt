use Rattle.run_lists.proofs.Called.{called}
use Rattle.run_lists.proofs.root.run_on_a_root.Goals as goal

pub returns : goal.returns
returns g c =
    called c.a_run_is_safe_after_any_events.ensures.safe c.a_run_is_safe_after_any_events.ensures.atomic (record {
      words = c.args.words.now;
      old = _;
      now = _;
      before = _;
      after = _;
      out = _;
      err = _;
      answer = c.apk.result;
    }) c.apk.ensures.same c.apk.ensures.stated c.apk.ensures.idle c.apk.ensures.bad_intent c.apk.ensures.reads c.apk.ensures.last c.apk.ensures.left c.apk.ensures.crash c.apk.ensures.is_durable c.apk.ensures.settled c.apk.ensures.durable_state
