-- Which names are ignored.
use Rattle.std.proofs.Common.{◌≡◌, ℕ, Bool, true, false, ◌||◌, List, [], ◌∷◌, Option, Some, None, Result, Ok, Err, refl, sym, subst, ◌∙◌, arith}
use Rattle.std.specs.Prelude.{IsTrue, if◌then◌else◌}
use Rattle.std.specs.Str.{bytes_eq}
use Rattle.std.proofs.lemmas.Bool.{false≢true, or_right, or_left}
use Rattle.std.proofs.lemmas.Slice.Eq.{bytes_eq-Decides}
use Rattle.apk_front.specs.Moments.{IgnoresOutputScratchNameButNotIntent, ignored_except_output_and_scratch}
use Rattle.apk_front.specs.declared.answer.Answer.{Answer}
use Rattle.apk_front.specs.declared.answer.Answer.TheVariants.{Ok as Done, Refused, TreeFault, OutFault, Memory}
use Rattle.apk_front.proofs.journal_commit.Suffix.{intent_is_no_scratch}
use Rattle.command_core.specs.Command.{CommandLine}
use Rattle.apk_front.specs.journal_core.Recovery.{intent_name}
use Rattle.apk_front.specs.journal_core.Replacing.{scratch_name_of}
use Rattle.apk_front.specs.outcome.Effect.{Effect, Computes, OnlyReadsFiles, AsksRoot, Makes, Changes, does_neither_recover_nor_write, effect_of_arguments, effect_of, output, output_name_of_arguments, output_name_for_effect, do_arguments_neither_recover_nor_write}
use Rattle.run_lists.specs.Events.{Crashes, Edits, Ends, RootEvent, HasNoUnfinishedOutputOrTouchSinceSync, Run, Stops, Touches, ignored_after, ignored_after_answer, names_of_others_outside_journal, nothing_ignored, ignored_with_all_touched, ignored_with_scratch, touched_outside_journal_or_ignored}
use Rattle.run_lists.proofs.Facts.{AreMore, Ignored}
use Rattle.run_lists.proofs.Touched.{intent_off}

-- ---- the intent is never ignored

neither : (a b : Bool) → (a ≡ true → ⊥) → b ≡ false → (a || b) ≡ false
neither true b off is = absurd (off refl)
neither false b off is = is

pub scratch_hides : (o : Option (List ℕ)) (ignored : Ignored) → ignored intent_name ≡ false → ignored_with_scratch o ignored intent_name ≡ false
scratch_hides None ignored off = off
scratch_hides (Some name) ignored off =
    neither (bytes_eq intent_name (scratch_name_of name)) (ignored intent_name) (λ is. intent_is_no_scratch name ((bytes_eq-Decides intent_name (scratch_name_of name)).0 is)) off

pub hides : (o : Option (List ℕ)) (ignored : Ignored) → ignored intent_name ≡ false → IgnoresOutputScratchNameButNotIntent o (ignored_with_scratch o ignored)
hides None ignored off = tt
hides (Some name) ignored off = record {
  scratch = or_left (bytes_eq (scratch_name_of name) (scratch_name_of name)) (ignored (scratch_name_of name)) ((bytes_eq-Decides (scratch_name_of name) (scratch_name_of name)).1 refl);
  intent = scratch_hides (Some name) ignored off;
}

either_off : (a b : Bool) → b ≡ false → (if a then false else b) ≡ false
either_off true b off = refl
either_off false b off = off

but_hides : (o : Option (List ℕ)) (ignored : Ignored) → ignored intent_name ≡ false → ignored_except_output_and_scratch o ignored intent_name ≡ false
but_hides None ignored off = off
but_hides (Some name) ignored off = either_off (bytes_eq intent_name name || bytes_eq intent_name (scratch_name_of name)) (ignored intent_name) off

by_hides : (answer : Answer) (run : Run) (ignored : Ignored) → ignored intent_name ≡ false → ignored_after_answer answer run ignored intent_name ≡ false
by_hides Done run ignored off = but_hides (output run.words) ignored off
by_hides (Refused r) run ignored off = off
by_hides TreeFault run ignored off = scratch_hides (output run.words) ignored off
by_hides OutFault run ignored off = off
by_hides Memory run ignored off = off

pub touched_hides : (theirs ignored : Ignored) → ignored intent_name ≡ false → touched_outside_journal_or_ignored theirs ignored intent_name ≡ false
touched_hides theirs ignored off = neither (names_of_others_outside_journal theirs intent_name) (ignored intent_name) (λ is. false≢true (sym (intent_off theirs) ∙ is)) off

pub all_touched_hides : (events : List RootEvent) (ignored : Ignored) → ignored intent_name ≡ false → ignored_with_all_touched events ignored intent_name ≡ false
all_touched_hides [] ignored off = off
all_touched_hides (Ends run ∷ earlier) ignored off = all_touched_hides earlier ignored off
all_touched_hides (Stops run ∷ earlier) ignored off = all_touched_hides earlier ignored off
all_touched_hides (Crashes ∷ earlier) ignored off = all_touched_hides earlier ignored off
all_touched_hides (Edits ∷ earlier) ignored off = all_touched_hides earlier ignored off
all_touched_hides (Touches theirs ∷ earlier) ignored off = touched_hides theirs (ignored_with_all_touched earlier ignored) (all_touched_hides earlier ignored off)

pub after_hides : (ignored : Ignored) → ignored intent_name ≡ false → (events : List RootEvent) → ignored_after ignored events intent_name ≡ false
after_hides ignored off [] = off
after_hides ignored off (Ends run ∷ earlier) = by_hides run.answer run (ignored_after ignored earlier) (after_hides ignored off earlier)
after_hides ignored off (Stops run ∷ earlier) = scratch_hides (output run.words) (ignored_after ignored earlier) (after_hides ignored off earlier)
after_hides ignored off (Crashes ∷ earlier) = refl
after_hides ignored off (Edits ∷ earlier) = refl
after_hides ignored off (Touches theirs ∷ earlier) = touched_hides theirs (ignored_after ignored earlier) (after_hides ignored off earlier)

-- ---- more and fewer

pub touched_more : (theirs ignored : Ignored) → AreMore ignored (touched_outside_journal_or_ignored theirs ignored)
touched_more theirs ignored q is = or_right (names_of_others_outside_journal theirs q) (ignored q) is

pub all_touched_more : (events : List RootEvent) (ignored : Ignored) → AreMore ignored (ignored_with_all_touched events ignored)
all_touched_more [] ignored q is = is
all_touched_more (Ends run ∷ earlier) ignored q is = all_touched_more earlier ignored q is
all_touched_more (Stops run ∷ earlier) ignored q is = all_touched_more earlier ignored q is
all_touched_more (Crashes ∷ earlier) ignored q is = all_touched_more earlier ignored q is
all_touched_more (Edits ∷ earlier) ignored q is = all_touched_more earlier ignored q is
all_touched_more (Touches theirs ∷ earlier) ignored q is = touched_more theirs (ignored_with_all_touched earlier ignored) q (all_touched_more earlier ignored q is)

pub scratch_more : (o : Option (List ℕ)) (ignored : Ignored) → AreMore ignored (ignored_with_scratch o ignored)
scratch_more None ignored q is = is
scratch_more (Some name) ignored q is = or_right (bytes_eq q (scratch_name_of name)) (ignored q) is

less : (a b : Bool) → (if a then false else b) ≡ true → b ≡ true
less true b is = absurd (false≢true is)
less false b is = is

pub but_fewer : (o : Option (List ℕ)) (ignored : Ignored) → AreMore (ignored_except_output_and_scratch o ignored) ignored
but_fewer None ignored q is = is
but_fewer (Some name) ignored q is = less (bytes_eq q name || bytes_eq q (scratch_name_of name)) (ignored q) is

same_less : (a b c : Bool) → (if a || b then false else (b || c)) ≡ true → (if a || b then false else c) ≡ true
same_less true b c is = is
same_less false true c is = is
same_less false false c is = is

pub but_same : (o : Option (List ℕ)) (ignored : Ignored) → AreMore (ignored_except_output_and_scratch o (ignored_with_scratch o ignored)) (ignored_except_output_and_scratch o ignored)
but_same None ignored q is = is
but_same (Some name) ignored q is = same_less (bytes_eq q name) (bytes_eq q (scratch_name_of name)) (ignored q) is

-- ---- an ordinary root

but_off : (o : Option (List ℕ)) (ignored : Ignored) (q : List ℕ) → ignored q ≡ false → ignored_except_output_and_scratch o ignored q ≡ false
but_off None ignored q off = off
but_off (Some name) ignored q off = either_off (bytes_eq q name || bytes_eq q (scratch_name_of name)) (ignored q) off

scratch_off : (o : Option (List ℕ)) (ignored : Ignored) (q : List ℕ) → o ≡ None → ignored q ≡ false → ignored_with_scratch o ignored q ≡ false
scratch_off o ignored q none off = subst (λ (p : Option (List ℕ)). ignored_with_scratch p ignored q ≡ false) (sym none) off

by_off : (answer : Answer) (run : Run) (ignored : Ignored) (q : List ℕ) → (answer ≡ TreeFault → output run.words ≡ None) → ignored q ≡ false → ignored_after_answer answer run ignored q ≡ false
by_off Done run ignored q fault off = but_off (output run.words) ignored q off
by_off (Refused r) run ignored q fault off = off
by_off TreeFault run ignored q fault off = scratch_off (output run.words) ignored q (fault refl) off
by_off OutFault run ignored q fault off = off
by_off Memory run ignored q fault off = off

pub none_ignored : (events : List RootEvent) (q : List ℕ) → HasNoUnfinishedOutputOrTouchSinceSync events → ignored_after nothing_ignored events q ≡ false
none_ignored [] q written = refl
none_ignored (Ends run ∷ earlier) q (fault, before) = by_off run.answer run (ignored_after nothing_ignored earlier) q fault (none_ignored earlier q before)
none_ignored (Stops run ∷ earlier) q (none, before) = scratch_off (output run.words) (ignored_after nothing_ignored earlier) q none (none_ignored earlier q before)
none_ignored (Crashes ∷ earlier) q written = refl
none_ignored (Edits ∷ earlier) q written = refl
none_ignored (Touches theirs ∷ earlier) q none = absurd none

-- ---- commands with an output make

effect_makes : (effect : Effect) (command : CommandLine) (name : List ℕ) → output_name_for_effect effect command ≡ Some name → effect ≡ Makes
effect_makes Computes command name is = cc
effect_makes OnlyReadsFiles command name is = cc
effect_makes AsksRoot command name is = cc
effect_makes Makes command name is = refl
effect_makes Changes command name is = cc

pub output_makes : (command : Result CommandLine ℕ) (name : List ℕ) → output_name_of_arguments command ≡ Some name → effect_of_arguments command ≡ Makes
output_makes (Ok command) name is = effect_makes (effect_of command.applet) command name is
output_makes (Err place) name is = cc

reader_effect : (effect : Effect) (command : CommandLine) → IsTrue (does_neither_recover_nor_write effect) → output_name_for_effect effect command ≡ None
reader_effect Computes command reads = refl
reader_effect OnlyReadsFiles command reads = refl
reader_effect AsksRoot command reads = absurd (false≢true reads)
reader_effect Makes command reads = absurd (false≢true reads)
reader_effect Changes command reads = absurd (false≢true reads)

-- a command that only reads has none
pub reader_output : (command : Result CommandLine ℕ) → IsTrue (do_arguments_neither_recover_nor_write command) → output_name_of_arguments command ≡ None
reader_output (Ok command) reads = reader_effect (effect_of command.applet) command reads
reader_output (Err place) reads = refl
