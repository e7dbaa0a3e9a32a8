use Rattle.std.proofs.Common.{◌≡◌, ℕ, ◌+◌, true, false, List, drop, sym, ap, subst, ◌∙◌}
use Rattle.std.specs.List.{concat}
use Rattle.adb_write.specs.Canonical.{Item, WrittenItem, apart, exceeds_a_limit}
use Rattle.adb_write.specs.Writing.{Writing, is_past_limit, call, writing_from_parts}
use Rattle.adb_write.specs.Items.{item_of}
use Rattle.adb_write.specs.WordPages.{pages_of}
use Rattle.adb_write.specs.WriterState.{items_of_locators, IsWordOfEqualItem}
use Rattle.adb_write.proofs.WriterSteps.{repeat_past, repeat_word}
use Rattle.adb_write.proofs.writer.Writer.repeat.Goals as goal

pub returns-then-exceeds_a_limit : goal.returns-then-exceeds_a_limit
returns-then-exceeds_a_limit c =
    let s = c.self.inside in
    let i : Item = item_of c.args.parts.now in
    let body : List ℕ = drop 8 s.store.payload.items in
    let items : List WrittenItem = items_of_locators (concat (pages_of s.store.words)) in
    let fine : exceeds_a_limit (s.counts.bytes, s.counts.values) ≡ false = subst (λ (x : Writing). is_past_limit x ≡ false) (sym c.self.view_is) c.requires.fine in
    let found : IsWordOfEqualItem i (writing_from_parts body items s.counts.bytes s.counts.values) c.args.word = subst (λ (x : Writing). IsWordOfEqualItem i x c.args.word) (sym c.self.view_is) c.requires.found in
    let count : s.counts.values + c.entries.result ≡ s.counts.values + i.entries = ap (λ (k : ℕ). s.counts.values + k) c.entries.ensures.value in
    let past : exceeds_a_limit (s.counts.bytes, s.counts.values + i.entries) ≡ true = rw (sym count) (sym c.exceeds_a_limit.ensures ∙ c.if-exceeds_a_limit.true) in
    rw (c.of.ensures, count) (subst (λ (x : Writing). ◌≡◌ {A = ℕ × Writing} (0, writing_from_parts body items s.counts.bytes (s.counts.values + i.entries)) (call (apart i) x)) c.self.view_is (sym (repeat_past i body items s.counts.bytes s.counts.values c.args.word fine (c.self.invariant.agree fine) found past)))

pub returns : goal.returns
returns c =
    let s = c.self.inside in
    let i : Item = item_of c.args.parts.now in
    let body : List ℕ = drop 8 s.store.payload.items in
    let items : List WrittenItem = items_of_locators (concat (pages_of s.store.words)) in
    let fine : exceeds_a_limit (s.counts.bytes, s.counts.values) ≡ false = subst (λ (x : Writing). is_past_limit x ≡ false) (sym c.self.view_is) c.requires.fine in
    let found : IsWordOfEqualItem i (writing_from_parts body items s.counts.bytes s.counts.values) c.args.word = subst (λ (x : Writing). IsWordOfEqualItem i x c.args.word) (sym c.self.view_is) c.requires.found in
    let count : s.counts.values + c.entries.result ≡ s.counts.values + i.entries = ap (λ (k : ℕ). s.counts.values + k) c.entries.ensures.value in
    let fits : exceeds_a_limit (s.counts.bytes, s.counts.values + i.entries) ≡ false = rw (sym count) (sym c.exceeds_a_limit.ensures ∙ c.if-exceeds_a_limit.false) in
    rw count (subst (λ (x : Writing). ◌≡◌ {A = ℕ × Writing} (c.args.word, writing_from_parts body items s.counts.bytes (s.counts.values + i.entries)) (call (apart i) x)) c.self.view_is (sym (repeat_word i body items s.counts.bytes s.counts.values c.args.word fine (c.self.invariant.agree fine) found fits)))
