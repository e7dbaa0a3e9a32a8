-- Where the intent is bad no run writes anything.
use Rattle.std.proofs.Common.{◌≡◌, ℕ, List, [], ◌∷◌, Option, Result, Ok, Err, refl, sym, ap, subst, ◌∙◌}
use Rattle.std.specs.Prelude.{IsSome, IsTrue}
use Rattle.std.proofs.lemmas.List.Elements.{All-nil}
use Rattle.base_core.specs.Crash.{Since}
use Rattle.base_core.specs.Files.{Files}
use Rattle.base_core.specs.Tree.{TreeState, files_of}
use Rattle.base_core.specs.declared.cause.Cause.{Cause}
use Rattle.command_core.specs.Command.{CommandLine}
use Rattle.apk_front.specs.journal_core.Recovery.{intent_name}
use Rattle.apk_front.specs.outcome.Effect.{Effect, Computes, OnlyReadsFiles, AsksRoot, Makes, Changes, does_neither_recover_nor_write, effect_of_arguments, do_arguments_neither_recover_nor_write}
use Rattle.apk_front.specs.outcome.Work.{fault_of_intent, recovery_fault}
use Rattle.apk_front.specs.words_core.Grammar.{command_of}
use Rattle.run_lists.specs.Events.{Crashes, Edits, Ends, RootEvent, IsRunFrom, IsTransition, Run, Stops, Touches}
use Rattle.run_lists.specs.Reading.{HasBadIntent, ReachesOnlyByRunsWith, IsUnrestrictedRun, IsRunWith}
use Rattle.run_lists.proofs.AtMoments.{at_last, at_moment, now_at}

fault_is_found : (files : Files) → HasBadIntent files → IsSome (fault_of_intent (files intent_name))
fault_is_found files (cause, (file, there, bad)) =
    subst (λ (o : Option Cause). IsSome o) (sym (ap fault_of_intent there ∙ bad)) refl

pub only_reads : (read : Result CommandLine ℕ) (effect : Effect) → effect_of_arguments read ≡ effect → IsTrue (does_neither_recover_nor_write effect) → IsTrue (do_arguments_neither_recover_nor_write read)
only_reads (Ok command) effect is reads = subst (λ (e : Effect). IsTrue (does_neither_recover_nor_write e)) (sym is) reads
only_reads (Err place) effect is reads = refl

pub nothing_written : (v : TreeState) (run : Run) → IsRunFrom v run → HasBadIntent (files_of v) → run.now ≡ run.old
nothing_written v run is_run bad = by (effect_of_arguments (command_of run.words)) refl
  where
    fault : (effect : Effect) → effect_of_arguments (command_of run.words) ≡ effect → IsSome (recovery_fault effect (files_of v)) → run.now ≡ run.old
    fault effect is some = is_run.bad_intent (subst (λ (e : Effect). IsSome (recovery_fault e (files_of v))) (sym is) some)

    by : (effect : Effect) → effect_of_arguments (command_of run.words) ≡ effect → run.now ≡ run.old
    by Computes is = is_run.same (only_reads (command_of run.words) Computes is refl)
    by OnlyReadsFiles is = is_run.same (only_reads (command_of run.words) OnlyReadsFiles is refl)
    by AsksRoot is = fault AsksRoot is (fault_is_found (files_of v) bad)
    by Makes is = fault Makes is (fault_is_found (files_of v) bad)
    by Changes is = fault Changes is (fault_is_found (files_of v) bad)

abbrev Is : TreeState → TreeState → Type 0
Is v w = w ≡ v

none_made : (v : TreeState) (run : Run) → run.now ≡ run.old → Since (Is v) run.old run.now
none_made v run same = record { added = []; is = same; each = All-nil (Is v) }

led_same : (v w : TreeState) (event : RootEvent) → HasBadIntent (files_of v) → IsRunWith IsUnrestrictedRun v event w → IsTransition v event w → w ≡ v
led_same v w (Ends run) bad any (is_run, ends) =
    now_at run.now (Is v) w (at_last (Is v) run.old run.now v is_run.begins refl (none_made v run (nothing_written v run is_run bad))) ends
led_same v w (Stops run) bad (any, moment) (is_run, stop) =
    at_moment (Is v) run v w is_run.begins refl (none_made v run (nothing_written v run is_run bad)) moment
led_same v w Crashes bad any leads = absurd any
led_same v w Edits bad any leads = absurd any
led_same v w (Touches theirs) bad any leads = absurd any

pub seen_same : (first w : TreeState) (events : List RootEvent) → HasBadIntent (files_of first) → ReachesOnlyByRunsWith IsUnrestrictedRun first events w → w ≡ first
seen_same first w [] bad is = is
seen_same first w (event ∷ earlier) bad (v, seen, any, leads) =
    let before = seen_same first v earlier bad seen in
    led_same v w event (subst (λ (u : TreeState). HasBadIntent (files_of u)) (sym before) bad) any leads ∙ before
