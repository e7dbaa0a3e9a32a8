-- A payload of few visits has few texts: those of an intent are counted in 32 bits.
use Rattle.std.proofs.Common.{◌≡◌, ℕ, suc, ◌+◌, ◌<◌, ◌≤◌, true, List, [], ◌∷◌, ◌++◌, length, get_or, None, Result, Ok, Err, refl, ap, sym, ◌∙◌, subst, arith, length-append, ◌^◌}
use Rattle.std.specs.Prelude.{is_none, is_some, ◌↔◌}
use Rattle.std.specs.Result.{result_ok}
use Rattle.base_core.specs.declared.cause.Cause.{Cause}
use Rattle.base_core.proofs.Causes.{none_of}
use Rattle.adb_view.specs.Plain.{Plain, Shape, text, array, plain_of}
use Rattle.adb_view.specs.Readers.{run_entries_of_kind_in_payload_at_word, ARRAY, OBJECT}
use Rattle.adb_view.specs.Visits.{visits, field_visits, visits_of_all_words, or_empty, MOST_VALUES}
use Rattle.adb_view.specs.Schema.{shape_of, shapes_of, table}
use Rattle.adb_view.specs.Walk.{shape_fault}
use Rattle.adb_view.specs.Values.{is_sound, value_at, entry_at_index, entries_in, count_of}
use Rattle.adb_view.specs.declared.tables.Kind.TheVariants.{Obj, TextArr, Text}
use Rattle.adb_view.specs.declared.tables.Which.{Which}
use Rattle.adb_view.specs.declared.tables.Which.TheVariants.{Intent}
use Rattle.adb_view.specs.Head.{root_word_of_payload}
use Rattle.adb_fields.proofs.FieldReads.{object_read_of, field_read, texts_sound, texts_value, texts_run, entry_count}

run-found : (p : List ℕ) (w : ℕ) (r : Result (List ℕ) Cause) → is_sound p TextArr w ≡ true → run_entries_of_kind_in_payload_at_word ARRAY p w ≡ r → (ws : List ℕ) × (run_entries_of_kind_in_payload_at_word ARRAY p w ≡ Ok ws)
run-found p w (Ok ws) h e = (ws, e)
run-found p w (Err c) h e = absurd (texts_run p w h (ap result_ok e))

each-one : (p : List ℕ) (ws : List ℕ) → length (visits_of_all_words (visits p text) ws) ≡ length ws
unfolding visits
each-one p [] = refl
each-one p (w ∷ ws) = ap suc (each-one p ws)

texts-visited : (p : List ℕ) (w : ℕ) (ws : List ℕ) → run_entries_of_kind_in_payload_at_word ARRAY p w ≡ Ok ws → length ws < length (visits p (array text) w)
unfolding visits
texts-visited p w ws e =
    let n : length (visits_of_all_words (visits p text) (or_empty (run_entries_of_kind_in_payload_at_word ARRAY p w))) ≡ length ws = ap (λ (r : Result (List ℕ) Cause). length (visits_of_all_words (visits p text) (or_empty r))) e ∙ each-one p ws in
    omega arith

null-run : (p ws : List ℕ) → run_entries_of_kind_in_payload_at_word ARRAY p 0 ≡ Ok ws → length ws ≡ 0
unfolding run_entries_of_kind_in_payload_at_word
null-run p ws e = let f : ws ≡ [] = (cc) in ap length f

-- the two arrays of an intent's run
both-visited : (p : List ℕ) (ws one two : List ℕ) → run_entries_of_kind_in_payload_at_word ARRAY p (get_or ws 0 0) ≡ Ok one → run_entries_of_kind_in_payload_at_word ARRAY p (get_or ws 1 0) ≡ Ok two → length one + length two ≤ length (field_visits p (shapes_of (table Intent)) ws)
unfolding visits field_visits shape_of
both-visited p [] one two e f = let a = null-run p one e in let b = null-run p two f in omega arith
both-visited p (x ∷ []) one two e f =
    let a = texts-visited p x one e in
    let b = null-run p two f in
    let c = length-append (visits p (array text) x) [] in
    omega arith
both-visited p (x ∷ y ∷ ws) one two e f =
    let a = texts-visited p x one e in
    let b = texts-visited p y two f in
    let c = length-append (visits p (array text) x) (visits p (array text) y ++ []) in
    let d = length-append (visits p (array text) y) [] in
    omega arith

intent-visits : (p : List ℕ) (w : ℕ) (ws : List ℕ) → run_entries_of_kind_in_payload_at_word OBJECT p w ≡ Ok ws → length (visits p (shape_of (Obj Intent)) w) ≡ suc (length (field_visits p (shapes_of (table Intent)) ws))
unfolding visits shape_of
intent-visits p w ws e = ap (λ (r : Result (List ℕ) Cause). suc (length (field_visits p (shapes_of (table Intent)) (or_empty r)))) e

field-count : (p : List ℕ) (w : ℕ) (v : Plain) (ws : List ℕ) → is_sound p TextArr w ≡ true → value_at p TextArr w ≡ v → run_entries_of_kind_in_payload_at_word ARRAY p w ≡ Ok ws → count_of (entries_in v) ≡ length ws
field-count p w v ws h e r =
    sym (entry_count p Text ws (texts_sound p w ws h r) ∙ ap (λ (u : Plain). count_of (entries_in u)) (texts_value p w ws h r ∙ e))

-- `values_of_few_visits_have_no_fault` says so
abbrev pub FewVisits : Type 0
FewVisits = (p : List ℕ) (s : Shape) (w : ℕ) → (shape_fault p s w ≡ None) ↔ ((is_some (plain_of p s w) ≡ true) × (length (visits p s w) ≤ MOST_VALUES))

pub intent_few : FewVisits → (p : List ℕ) (w : ℕ) → is_sound p (Obj Intent) w ≡ true → is_none (shape_fault p (shape_of (Obj Intent)) w) ≡ true → count_of (entries_in (entry_at_index (value_at p (Obj Intent) w) 0)) + count_of (entries_in (entry_at_index (value_at p (Obj Intent) w) 1)) ≤ MOST_VALUES
intent_few visited p w h few =
    let (ws, read) = object_read_of p Intent w h in
    let one = field_read p Intent w ws 0 TextArr h read.run refl in
    let two = field_read p Intent w ws 1 TextArr h read.run refl in
    let (a, run_a) = run-found p (get_or ws 0 0) (run_entries_of_kind_in_payload_at_word ARRAY p (get_or ws 0 0)) one.sound refl in
    let (b, run_b) = run-found p (get_or ws 1 0) (run_entries_of_kind_in_payload_at_word ARRAY p (get_or ws 1 0)) two.sound refl in
    let m = field-count p (get_or ws 0 0) _ a one.sound one.value run_a in
    let n = field-count p (get_or ws 1 0) _ b two.sound two.value run_b in
    let c = both-visited p ws a b run_a run_b in
    let d = intent-visits p w ws read.run in
    let l = ((visited p (shape_of (Obj Intent)) w).0 (none_of (shape_fault p (shape_of (Obj Intent)) w) few)).1 in
    omega arith

-- the same of a payload that was walked as an intent
pub intent_fits : FewVisits → (p q : List ℕ) (which : Which) (w : ℕ) → p ≡ q → w ≡ root_word_of_payload p → which ≡ Intent → is_sound q (Obj which) (root_word_of_payload q) ≡ true → is_none (shape_fault q (shape_of (Obj which)) (root_word_of_payload q)) ≡ true → count_of (entries_in (entry_at_index (value_at p (Obj Intent) w) 0)) + count_of (entries_in (entry_at_index (value_at p (Obj Intent) w) 1)) < 2 ^ 32
intent_fits visited p q which w same root is sound few =
    let at : w ≡ root_word_of_payload q = root ∙ ap root_word_of_payload same in
    let S : Which → Type 0 = λ x. is_sound q (Obj x) (root_word_of_payload q) ≡ true in
    let F : Which → Type 0 = λ x. is_none (shape_fault q (shape_of (Obj x)) (root_word_of_payload q)) ≡ true in
    let l = intent_few visited q (root_word_of_payload q) (subst S is sound) (subst F is few) in
    let G : List ℕ → ℕ → Type 0 = λ b r. count_of (entries_in (entry_at_index (value_at b (Obj Intent) r) 0)) + count_of (entries_in (entry_at_index (value_at b (Obj Intent) r) 1)) < 2 ^ 32 in
    let here : G q (root_word_of_payload q) = omega arith in
    subst (λ (b : List ℕ). G b w) (sym same) (subst (λ (r : ℕ). G q r) (sym at) here)
