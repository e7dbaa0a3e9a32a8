use Rattle.std.proofs.Common.{◌∙◌, ap, sym}
use Rattle.journal_core.specs.Replacing.{scratch_name_of}
use Rattle.journal_commit.proofs.Finish.{counted_at, cut_moments, cut_others, cut_proper, finish_moments, finish_moved, finish_others}
use Rattle.journal_commit.proofs.Finish.{finish_proper, keeps_at, lasts_at, moved_by, renames_at, settles_at, sync_at}
use Rattle.journal_commit.proofs.new_file.NewFile.finish.Goals as goal

pub settle-requires : goal.settle-requires
settle-requires g c = λ is. c.requires (sym c.self.view_is ∙ is)

pub returns-in_err-sync_file-clause-moments : goal.returns-in_err-sync_file-clause-moments
returns-in_err-sync_file-clause-moments g c = λ bytes first was.
    cut_moments c.args.self.now bytes first _ was _ c.sync_file.result (sync_at _ _ _ _ c.sync_file.result (c.self.invariant ∙ ap scratch_name_of c.self.view_is) c.sync_file.ensures.moves)

pub returns-in_err-sync_file-clause-others : goal.returns-in_err-sync_file-clause-others
returns-in_err-sync_file-clause-others g c = λ bytes first was.
    cut_others c.args.self.now bytes first _ was _ c.sync_file.result (sync_at _ _ _ _ c.sync_file.result (c.self.invariant ∙ ap scratch_name_of c.self.view_is) c.sync_file.ensures.moves)

pub returns-in_err-sync_file-clause-proper : goal.returns-in_err-sync_file-clause-proper
returns-in_err-sync_file-clause-proper g c = λ bytes first was.
    cut_proper c.args.self.now bytes first _ was c.sync_file.result _ _ (counted_at _ _ _ _ _ c.sync_file.result (c.self.invariant ∙ ap scratch_name_of c.self.view_is) c.sync_file.ensures.counts)

pub returns-clause-moments : goal.returns-clause-moments
returns-clause-moments g c = λ bytes first was.
    finish_moments c.args.self.now bytes first _ was _ _ _ (sync_at _ _ _ _ _ (c.self.invariant ∙ ap scratch_name_of c.self.view_is) c.in_ok-sync_file.ensures.moves)
    (settles_at _ _ c.args.self.now (c.self.invariant ∙ ap scratch_name_of c.self.view_is) c.self.view_is _ _ c.settle.ensures.moments)

pub returns-clause-moved : goal.returns-clause-moved
returns-clause-moved g c = moved_by c.settle.result c.args.self.now _ _ (λ bytes first was.
    finish_moved c.args.self.now bytes first _ was _ _ _ (sync_at _ _ _ _ _ (c.self.invariant ∙ ap scratch_name_of c.self.view_is) c.in_ok-sync_file.ensures.moves) c.settle.result
    (settles_at _ _ c.args.self.now (c.self.invariant ∙ ap scratch_name_of c.self.view_is) c.self.view_is _ _ c.settle.ensures.moments)
    (lasts_at _ _ c.args.self.now (c.self.invariant ∙ ap scratch_name_of c.self.view_is) c.self.view_is _ _ c.settle.result c.settle.ensures.settled))

pub returns-clause-others : goal.returns-clause-others
returns-clause-others g c = λ bytes first was.
    finish_others c.args.self.now bytes first _ was _ _ _ (sync_at _ _ _ _ _ (c.self.invariant ∙ ap scratch_name_of c.self.view_is) c.in_ok-sync_file.ensures.moves)
    (keeps_at _ _ c.args.self.now (c.self.invariant ∙ ap scratch_name_of c.self.view_is) c.self.view_is _ _ c.settle.ensures.others)

pub returns-clause-proper : goal.returns-clause-proper
returns-clause-proper g c = λ bytes first was.
    finish_proper c.args.self.now bytes first _ was _ (g.T.Tree.history c.settle.new.tree) _ (sync_at _ _ _ _ _ (c.self.invariant ∙ ap scratch_name_of c.self.view_is) c.in_ok-sync_file.ensures.moves)
    (g.T.Tree.counts c.args.tree.now) (g.T.Tree.counts c.sync_file.new.tree) (g.T.Tree.counts c.settle.new.tree)
    (counted_at _ _ _ _ _ _ (c.self.invariant ∙ ap scratch_name_of c.self.view_is) c.in_ok-sync_file.ensures.counts)
    (renames_at _ _ c.args.self.now (c.self.invariant ∙ ap scratch_name_of c.self.view_is) c.self.view_is _ (g.T.Tree.history c.settle.new.tree) _ _ c.settle.ensures.proper)
