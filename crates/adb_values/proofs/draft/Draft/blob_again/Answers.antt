use Rattle.std.proofs.Common.{◌≡◌, ℕ, sym, subst}
use Rattle.adb_view.specs.Plain.{blob_or_null}
use Rattle.adb_write.specs.Again.{IsWordOfBlob}
use Rattle.adb_values.specs.Drafts.{DraftState, draft_from_parts, draft_with}
use Rattle.adb_values.proofs.Taken.{takes}
use Rattle.adb_values.proofs.Words.{written_again}
use Rattle.adb_values.proofs.draft.Draft.blob_again.Goals as goal

pub returns-clause-ok : goal.returns-clause-ok
returns-clause-ok c = λ bytes has.
    let s = c.self.inside in
    let word : ℕ = c.word_unless_over-word.result in
    let is : IsWordOfBlob s.writer bytes c.args.word = subst (λ (d : DraftState). IsWordOfBlob d.writing bytes c.args.word) (sym c.self.view_is) has.is in
    subst (λ (d : DraftState). draft_from_parts s.writer c.push.new.self.items s.starts.items ≡ draft_with (blob_or_null bytes) d) c.self.view_is
    (takes (blob_or_null bytes) s.writer s.writer s.words.items c.push.new.self.items s.starts.items word (written_again bytes c.args.word word s.writer is c.word_unless_over-word.ensures.within c.word_unless_over-word.ensures.over) c.in_ok-push.ensures.items)
