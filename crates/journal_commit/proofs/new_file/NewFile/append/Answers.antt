use Rattle.std.proofs.Common.{◌∙◌, ap}
use Rattle.journal_core.specs.Replacing.{scratch_name_of}
use Rattle.journal_core.proofs.Images.{crash_laws}
use Rattle.journal_commit.proofs.Finish.{append_at, counted_at}
use Rattle.journal_commit.proofs.NewFilePieces.{appended_called, appended_only, named_proper}
use Rattle.journal_commit.proofs.new_file.NewFile.append.Goals as goal

pub returns-clause-appended : goal.returns-clause-appended
returns-clause-appended g c = λ bytes first was.
    appended_called crash_laws (scratch_name_of c.args.self.now) bytes first _ _ was c.args.piece.now c.append.result
    (append_at _ _ c.args.piece.now _ _ c.append.result (c.self.invariant ∙ ap scratch_name_of c.self.view_is) c.append.ensures.moves)

pub returns-clause-only : goal.returns-clause-only
returns-clause-only g c = λ bytes first was.
    appended_only crash_laws (scratch_name_of c.args.self.now) bytes first _ _ was c.args.piece.now c.append.result
    (append_at _ _ c.args.piece.now _ _ c.append.result (c.self.invariant ∙ ap scratch_name_of c.self.view_is) c.append.ensures.moves)

pub returns-clause-proper : goal.returns-clause-proper
returns-clause-proper g c = λ bytes first was.
    named_proper crash_laws (scratch_name_of c.args.self.now) bytes first _ (g.T.Tree.history c.append.new.tree) was c.append.result _ _
    (counted_at _ _ _ _ _ c.append.result (c.self.invariant ∙ ap scratch_name_of c.self.view_is) c.append.ensures.counts)
