-- Each part of the line is the next one, and each word among them is added.
use Rattle.std.proofs.Common.{◌≡◌, length, Some, None, sym, ◌∙◌, ap, cond, rules, arith}
use Rattle.std.specs.List.{slice_split}
use Rattle.std.specs.Option.{option_and_then}
use Rattle.std.specs.Slice.Iter.{split_rest, split_done, split_callee}
use Rattle.std.proofs.lemmas.Iterator.Splits.{YieldsList-from_slice_split}
use Rattle.std.proofs.lemmas.Iterator.Consumers.{YieldsList-turn, YieldsList-end}
use Rattle.std.proofs.lemmas.List.{length_push}
use Rattle.dep_core.specs.Reading.{dependency_of}
use Rattle.dep_core.specs.World.{is_blank, world_with_new_dependency, world_with_words}
use Rattle.dep_core.proofs.Lines.{words_left, no_word, one_word, no_words_left}
use Rattle.dep_core.proofs.world.Found.add_line.Goals as goal

pub loop-word-preserved-then-is_empty : goal.loop-word-preserved-then-is_empty
loop-word-preserved-then-is_empty c =
    let again = c.into_iter-word-iterator.ensures.into_iter_gives in
    let t = YieldsList-turn (YieldsList-from_slice_split _ is_blank c.args.line.now (ap split_rest again ∙ c.split-word-items.ensures.rest) (ap split_done again ∙ c.split-word-items.ensures.done) (ap split_callee again ∙ c.split-word-items.ensures.closure) (λ x b q k. search rules)) c.loop-word.yielded _ c.loop-word.yielded_by _ _ c.in-Some.word c.in-Some.is c.next.ensures.steps in
    no_word c.loop-word.self (slice_split is_blank c.args.line.now) (length c.loop-word.yielded) _ c.in-Some.word.now _ t (sym c.is_empty.ensures ∙ c.if-is_empty.true) (length_push c.loop-word.yielded c.in-Some.word) c.loop-word.invariant

pub returns-then-not-branch : goal.returns-then-not-branch
returns-then-not-branch c =
    let again = c.into_iter-word-iterator.ensures.into_iter_gives in
    let t = YieldsList-turn (YieldsList-from_slice_split _ is_blank c.args.line.now (ap split_rest again ∙ c.split-word-items.ensures.rest) (ap split_done again ∙ c.split-word-items.ensures.done) (ap split_callee again ∙ c.split-word-items.ensures.closure) (λ x b q k. search rules)) c.loop-word.yielded _ c.loop-word.yielded_by _ _ c.in-Some.word c.in-Some.is c.next.ensures.steps in
    let bad : option_and_then (world_with_new_dependency c.loop-word.self) (dependency_of c.in-Some.word.now) ≡ None =
    c.in_ok-add_word.ensures ∙ ap (λ b. cond b (Some c.add_word.new.self) None) c.if-not-branch.true in
    sym c.loop-word.invariant ∙ one_word c.loop-word.self (slice_split is_blank c.args.line.now) (length c.loop-word.yielded) c.in-Some.word.now None t (sym c.is_empty.ensures ∙ c.if-is_empty.false) bad

pub loop-word-preserved : goal.loop-word-preserved
loop-word-preserved c =
    let again = c.into_iter-word-iterator.ensures.into_iter_gives in
    let t = YieldsList-turn (YieldsList-from_slice_split _ is_blank c.args.line.now (ap split_rest again ∙ c.split-word-items.ensures.rest) (ap split_done again ∙ c.split-word-items.ensures.done) (ap split_callee again ∙ c.split-word-items.ensures.closure) (λ x b q k. search rules)) c.loop-word.yielded _ c.loop-word.yielded_by _ _ c.in-Some.word c.in-Some.is c.next.ensures.steps in
    let good : option_and_then (world_with_new_dependency c.loop-word.self) (dependency_of c.in-Some.word.now) ≡ Some c.add_word.new.self =
    c.in_ok-add_word.ensures ∙ ap (λ b. cond b (Some c.add_word.new.self) None) c.if-not-branch.false in
    ap (λ n. world_with_words c.add_word.new.self (words_left n (slice_split is_blank c.args.line.now))) (length_push c.loop-word.yielded c.in-Some.word)
    ∙ (sym (one_word c.loop-word.self (slice_split is_blank c.args.line.now) (length c.loop-word.yielded) c.in-Some.word.now (Some c.add_word.new.self) t (sym c.is_empty.ensures ∙ c.if-is_empty.false) good) ∙ c.loop-word.invariant)

pub returns : goal.returns
returns c =
    let again = c.into_iter-word-iterator.ensures.into_iter_gives in
    let t = YieldsList-end (YieldsList-from_slice_split _ is_blank c.args.line.now (ap split_rest again ∙ c.split-word-items.ensures.rest) (ap split_done again ∙ c.split-word-items.ensures.done) (ap split_callee again ∙ c.split-word-items.ensures.closure) (λ x b q k. search rules)) c.loop-word.yielded _ c.loop-word.yielded_by _ _ c.in-None.is c.next.ensures.steps in
    sym c.loop-word.invariant ∙ no_words_left c.loop-word.self (slice_split is_blank c.args.line.now) (length c.loop-word.yielded) (omega (arith, t.1))
