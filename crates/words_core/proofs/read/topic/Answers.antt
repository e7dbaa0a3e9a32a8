use Rattle.std.proofs.Common.{◌+◌, length, sym, ◌∙◌, arith}
use Rattle.std.proofs.lemmas.Result.{IfOk-at_ok}
use Rattle.words_core.proofs.AskedLaws.{topic_is}
use Rattle.words_core.proofs.KindsKept.{IsSite, site_known}
use Rattle.words_core.proofs.read.topic.Goals as goal

pub overflow_sub-site : goal.overflow_sub-site
overflow_sub-site c =
    let site : IsSite c.in-Ok.site (1 + length c.args.words.now) = IfOk-at_ok (λ s. IsSite s (1 + length c.args.words.now)) (sym c.find_applet.ensures.site ∙ c.in-Ok.is) (site_known 1 (1 + length c.args.words.now) c.args.words.now (omega arith) (omega arith)) in
    site.low

pub place_after_word-requires : goal.place_after_word-requires
place_after_word-requires c =
    let site : IsSite c.in-Ok.site (1 + length c.args.words.now) = IfOk-at_ok (λ s. IsSite s (1 + length c.args.words.now)) (sym c.find_applet.ensures.site ∙ c.in-Ok.is) (site_known 1 (1 + length c.args.words.now) c.args.words.now (omega arith) (omega arith)) in
    omega (arith, site.read, c.find_applet.ensures.few)

pub returns-clause-ok : goal.returns-clause-ok
returns-clause-ok c =
    let site : IsSite c.in-Ok.site (1 + length c.args.words.now) = IfOk-at_ok (λ s. IsSite s (1 + length c.args.words.now)) (sym c.find_applet.ensures.site ∙ c.in-Ok.is) (site_known 1 (1 + length c.args.words.now) c.args.words.now (omega arith) (omega arith)) in
    topic_is c.args.words.now c.in-Ok.site _ _ c.place_after_word.result c.applet_word.result.now (sym c.find_applet.ensures.site ∙ c.in-Ok.is) c.new-operands.ensures c.in_ok-push.ensures.ok c.place_after_word.ensures site.low c.applet_word.ensures
