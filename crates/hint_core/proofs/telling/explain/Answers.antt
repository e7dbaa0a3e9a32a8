use Rattle.std.proofs.Common.{◌∙◌, sym, ap, subst}
use Rattle.std.proofs.lemmas.Result.{err_from_is_err_and}
use Rattle.base_core.specs.Read.{bytes_in}
use Rattle.base_core.proofs.Counting.{readings_none}
use Rattle.hint_core.specs.declared.telling.HintFault.TheVariants.{Disk}
use Rattle.hint_core.specs.Hints.{hints_by_words_and_subject_file, subject_file, subject_of}
use Rattle.hint_core.specs.Lines.{hint_lines}
use Rattle.hint_core.specs.Told.{IsFoundForSubject}
use Rattle.hint_core.proofs.Steps.{behind_reading, found_now, is_found_now, silent, tells_none, tells_nothing, tells_same, told_all}
use Rattle.hint_core.proofs.ReadSteps.{hint_out_of_memory_first, hint_read_failed}
use Rattle.hint_core.proofs.telling.explain.Goals as goal

pub returns-in_err-is_explained-clause-told : goal.returns-in_err-is_explained-clause-told
returns-in_err-is_explained-clause-told g c =
    let p = err_from_is_err_and c.from_residual.result c.from_residual.ensures.1 in
    let file = subject_file (subject_of c.args.refusal.now) in
    (found_now (g.T.Tree.history c.args.tree.now) file, is_found_now (g.T.Tree.history c.args.tree.now) file, rw p.1 (tells_nothing _ _ _ _ _))

pub returns-in_err-is_explained-clause-tree : goal.returns-in_err-is_explained-clause-tree
returns-in_err-is_explained-clause-tree g c = hint_out_of_memory_first _ _ c.from_residual.result c.from_residual.ensures.1

pub returns-then-not-branch-clause-told : goal.returns-then-not-branch-clause-told
returns-then-not-branch-clause-told g c =
    let file = subject_file (subject_of c.args.refusal.now) in
    let found = found_now (g.T.Tree.history c.args.tree.now) file in (
      found,
      is_found_now (g.T.Tree.history c.args.tree.now) file,
      tells_none _ _ _ _ _ (silent c.args.words.now c.args.refusal.now found (sym c.in_ok-is_explained.ensures ∙ c.if-not-branch.true)),
    )

pub returns-then-not-branch-clause-tree : goal.returns-then-not-branch-clause-tree
returns-then-not-branch-clause-tree g c = readings_none Disk _ _ _

pub returns-in_err-found-clause-told : goal.returns-in_err-found-clause-told
returns-in_err-found-clause-told g c =
    let p = err_from_is_err_and c.from_residual-in_err-found.result c.from_residual-in_err-found.ensures.1 in
    let file = subject_file (subject_of c.args.refusal.now) in
    (found_now (g.T.Tree.history c.args.tree.now) file, is_found_now (g.T.Tree.history c.args.tree.now) file, rw p.1 (tells_nothing _ _ _ _ _))

pub returns-in_err-found-clause-tree : goal.returns-in_err-found-clause-tree
returns-in_err-found-clause-tree g c = hint_read_failed _ _ _ _ _ c.from_residual-in_err-found.result c.from_residual-in_err-found.ensures.1 c.in_err-found.ensures.tree

pub returns-clause-told : goal.returns-clause-told
returns-clause-told g c =
    let words = c.args.words.now in
    let refusal = c.args.refusal.now in
    let found = bytes_in c.in_ok-found.found in (
      found,
      subst (λ subject. IsFoundForSubject (g.T.Tree.history c.args.tree.now) subject found) c.subject_of.ensures c.in_ok-found.ensures.found,
      tells_same _ _ _ _ (ap (λ file. hint_lines (hints_by_words_and_subject_file words refusal file)) c.bytes_of.ensures
          ∙ sym (told_all words refusal found (sym c.in_ok-is_explained.ensures ∙ c.if-not-branch.false))) c.tell.ensures.told,
    )

pub returns-clause-tree : goal.returns-clause-tree
returns-clause-tree g c = behind_reading _ _ _ _ _ _ c.tell.ensures.failed c.in_ok-found.ensures.tree
