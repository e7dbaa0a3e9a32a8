use Rattle.std.proofs.Common.{ℕ, ap, ◌∙◌}
use Rattle.std.specs.Prelude.{Vec}
use Rattle.std.specs.declared.alloc.Global.{Global}
use Rattle.adb_values.specs.LastList.{last_word}
use Rattle.adb_values.proofs.Finished.{finish_small, finishes}
use Rattle.adb_values.proofs.draft.Draft.finish.Goals as goal

pub returns-clause-written : goal.returns-clause-written
returns-clause-written c = λ v is.
    let s = c.self.inside in
    finishes (λ (p : Vec ℕ Global). p.items) v s.writer s.words.items s.starts.items c.last_word-root.result c.finish.result (c.self.view_is ∙ is)
    (c.last_word-root.ensures ∙ ap last_word c.deref.ensures.value) c.finish.ensures

pub returns-clause-short : goal.returns-clause-short
returns-clause-short c = λ v is.
    let s = c.self.inside in
    finish_small (λ (p : Vec ℕ Global). p.items) v c.finish.result
    (finishes (λ (p : Vec ℕ Global). p.items) v s.writer s.words.items s.starts.items c.last_word-root.result c.finish.result (c.self.view_is ∙ is)
    (c.last_word-root.ensures ∙ ap last_word c.deref.ensures.value) c.finish.ensures)
