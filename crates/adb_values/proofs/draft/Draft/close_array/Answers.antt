use Rattle.std.proofs.Common.{◌≡◌, ℕ, ◌-◌, List, length, take, drop, ap, ◌∙◌}
use Rattle.adb_view.specs.Plain.{array_or_null}
use Rattle.adb_values.specs.Drafts.{DraftState, draft_from_parts}
use Rattle.adb_values.proofs.Closed.{closes, tail_is}
use Rattle.adb_values.proofs.Words.{call_whole}
use Rattle.adb_write.proofs.Kept.{arr_keeps}
use Rattle.adb_write.specs.Writing.{arr_call}
use Rattle.adb_values.proofs.draft.Draft.close_array.Goals as goal

pub returns-clause-ok : goal.returns-clause-ok
returns-clause-ok c = λ vs before is.
    let s = c.self.inside in
    let ws : List ℕ = c.reserve.new.self.items in
    let ss : List ℕ = s.starts.items in
    let start : ℕ = c.last_open_list_start-start.result in
    let old : DraftState = draft_from_parts s.writer ws ss in
    let same : old ≡ c.args.self.now = ap (λ (l : List ℕ). draft_from_parts s.writer l ss) c.reserve.ensures.items ∙ c.self.view_is in
    let lists : c.pop.new.self.items ≡ take (length ss - 1) ss = c.pop.ensures.rest ∙ ap (λ (k : ℕ). take (k - 1) ss) s.starts.ok.0 in
    closes (array_or_null vs) vs before old _ c.in_ok-word.word start c.arr.new.self c.replace_from.new.words.items c.pop.new.self.items
    (same ∙ is) c.last_open_list_start-start.ensures.is (tail_is c.deref.result.now ws start c.deref.ensures.value) (c.in_ok-word.ensures.written vs before.writing) c.replace_from.ensures lists

pub invariant_of-self-3 : goal.invariant_of-self-3
invariant_of-self-3 c =
    let w = c.self.inside.writer in
    let p : List ℕ = c.deref.result.now in
    let tail : List ℕ = take (length p - c.last_open_list_start-start.result) (drop c.last_open_list_start-start.result p) in
    call_whole c.in_ok-word.word w c.arr.new.self (arr_call tail w) (arr_keeps tail w c.self.invariant) c.in_ok-word.ensures.ok
