use Rattle.outcome.proofs.RefusedCommits.{refused_commits}
use Rattle.apk_front.proofs.Carried.{bad_by, crash_by, idle_by, last_by, left_by, durable_by, reads_by, rest_by, settled_by}
use Rattle.apk_front.proofs.Judged.{answered, completed, answered_by_reads, answered_by_words, caused}
use Rattle.apk_front.proofs.Unplanned.{ends_unless_memory}
use Rattle.apk_front.proofs.Named.{memory_named}
use Rattle.apk_front.proofs.front.apk.Goals as goal

pub returns-clause-stated : goal.returns-clause-stated
returns-clause-stated g c =
    answered _ _ _ _ c.judge-judged.result _ _ _ c.judge-judged.ensures.run.found c.judge-judged.ensures.run.tree c.judge-judged.ensures.run.counts.disk c.show.ensures.shown

pub returns-clause-complete : goal.returns-clause-complete
returns-clause-complete g c =
    completed _ _ (g.T.Tree.history c.judge-judged.new.tree) _ _ _ _ _
    (answered _ _ _ _ c.judge-judged.result _ _ _ c.judge-judged.ensures.run.found c.judge-judged.ensures.run.tree c.judge-judged.ensures.run.counts.disk c.show.ensures.shown)

pub returns-clause-every_tree : goal.returns-clause-every_tree
returns-clause-every_tree g c = answered_by_words _ c.judge-judged.result _ _ _ (λ only. (c.judge-judged.ensures.by_arguments only).by_words) c.show.ensures.shown

pub returns-clause-causes : goal.returns-clause-causes
returns-clause-causes g c =
    caused _ _ c.judge-judged.result _ _ _ c.judge-judged.ensures.run.counts.kept c.judge-judged.ensures.run.counts.disk c.judge-judged.ensures.run.counts.memory c.show.ensures.shown

pub returns-clause-found : goal.returns-clause-found
returns-clause-found g c = answered_by_reads _ _ c.judge-judged.result _ _ _ c.judge-judged.ensures.run.by_reads c.judge-judged.ensures.run.counts.disk c.show.ensures.shown

pub returns-clause-idle : goal.returns-clause-idle
returns-clause-idle g c =
    idle_by refused_commits c.args.words.now c.judge-judged.result c.show.result _ _ _ _ c.show.ensures.shown c.judge-judged.ensures.run.found c.judge-judged.ensures.run.tree

pub returns-clause-left : goal.returns-clause-left
returns-clause-left g c =
    left_by refused_commits c.args.words.now c.judge-judged.result c.show.result _ _ _ _ c.show.ensures.shown c.judge-judged.ensures.run.found c.judge-judged.ensures.run.tree

pub returns-clause-bad_intent : goal.returns-clause-bad_intent
returns-clause-bad_intent g c = bad_by c.args.words.now c.judge-judged.result _ _ c.judge-judged.ensures.run.tree

pub returns-clause-last : goal.returns-clause-last
returns-clause-last g c = last_by c.args.words.now c.judge-judged.result _ _ c.judge-judged.ensures.run.tree

pub returns-clause-durable_state : goal.returns-clause-durable_state
returns-clause-durable_state g c =
    rest_by c.args.words.now c.judge-judged.result c.show.result _ _ _ _ c.show.ensures.shown c.judge-judged.ensures.run.found c.judge-judged.ensures.run.tree

pub returns-clause-reads : goal.returns-clause-reads
returns-clause-reads g c = reads_by c.args.words.now c.judge-judged.result _ _ c.judge-judged.ensures.run.tree

pub returns-clause-crash : goal.returns-clause-crash
returns-clause-crash g c = crash_by c.args.words.now c.judge-judged.result _ _ c.judge-judged.ensures.run.tree

pub returns-clause-is_durable : goal.returns-clause-is_durable
returns-clause-is_durable g c = durable_by c.args.words.now c.judge-judged.result _ _ c.judge-judged.ensures.run.tree

pub returns-clause-settled : goal.returns-clause-settled
returns-clause-settled g c =
    settled_by c.args.words.now c.judge-judged.result c.show.result _ _ _ _ c.show.ensures.shown c.judge-judged.ensures.run.found c.judge-judged.ensures.run.tree

pub returns-clause-unless_memory : goal.returns-clause-unless_memory
returns-clause-unless_memory g c =
    ends_unless_memory _ _ _ (g.T.Tree.history c.judge-judged.new.tree) _ _ _ _ _
    (answered _ _ _ _ c.judge-judged.result _ _ _ c.judge-judged.ensures.run.found c.judge-judged.ensures.run.tree c.judge-judged.ensures.run.counts.disk c.show.ensures.shown)
    c.judge-judged.ensures.run.proper c.show.ensures.out_counts c.show.ensures.err_counts

pub returns-clause-memory : goal.returns-clause-memory
returns-clause-memory g c = memory_named c.judge-judged.result c.show.result _ _ _ c.show.ensures.shown c.judge-judged.ensures.named

pub returns-clause-proper : goal.returns-clause-proper
returns-clause-proper g c = c.judge-judged.ensures.run.proper

pub returns-clause-promised : goal.returns-clause-promised
returns-clause-promised g c = c.judge-judged.ensures.run.promised

pub returns-clause-tree_counts : goal.returns-clause-tree_counts
returns-clause-tree_counts g c = c.judge-judged.ensures.run.counts.goes_on

pub returns-clause-untouched : goal.returns-clause-untouched
returns-clause-untouched g c = λ only. (c.judge-judged.ensures.by_arguments only).untouched
