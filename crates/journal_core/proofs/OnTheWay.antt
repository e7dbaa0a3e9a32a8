-- How moments on the way to files join.
use Rattle.std.proofs.Common.{◌≡◌, inl, inr, ℕ, ◌≤◌, Bool, List, [], ◌∷◌, ◌++◌, None, refl, sym, ap, ◌∙◌, append_assoc, arith}
use Rattle.std.specs.List.{All}
use Rattle.std.proofs.lemmas.List.Elements.{All-head, All-tail}
use Rattle.base_core.specs.Files.{Files}
use Rattle.base_core.specs.Tree.{TreeState, files_of}
use Rattle.base_core.specs.Crash.{Since}
use Rattle.base_core.specs.Restart.{EachMoment, SinceGivenEarlierAddedMoments}
use Rattle.journal_core.specs.Quiet.{StateIsUnchanged}
use Rattle.journal_core.specs.Recovery.{EachCrashLeavesStateOf, intent_name}
use Rattle.journal_core.specs.Staged.{HasMomentOfIntentFileNumberedAtLeastForFiles, IsOldUntilCommit, HasStagedContents, IsHistoryThatPublishesIntentForFiles, new_stage_of_removals_and_writes}
use Rattle.journal_core.proofs.Compose.{quiet_then, settled_quiet}
use Rattle.journal_core.proofs.Images.{quiet_on}

pub nothing_staged : (removals writes : List (List ℕ)) (v : TreeState) → files_of v intent_name ≡ None → HasStagedContents (new_stage_of_removals_and_writes removals writes) [] None (files_of v) v
nothing_staged removals writes v none = record { count = refl; absent = none; reads = refl; synced = λ k n from until at. absurd (omega (arith, from, until)); alone = tt; gone = tt }

-- a file that was made later, at one of these moments
published_among : (ignored : List ℕ → Bool) (files : Files) (a b : ℕ) (moments first : List TreeState) → a ≤ b → HasMomentOfIntentFileNumberedAtLeastForFiles ignored files b moments → HasMomentOfIntentFileNumberedAtLeastForFiles ignored files a (moments ++ first)
published_among ignored files a b [] first less published = absurd published
published_among ignored files a b (v ∷ moments) first less (inl (n, there, made, same)) = inl (n, there, omega (arith, less, made), same)
published_among ignored files a b (v ∷ moments) first less (inr published) = inr (published_among ignored files a b moments first less published)

pub way_before : (ignored : List ℕ → Bool) (files : Files) (start v w : TreeState) (earlier first : List TreeState) → StateIsUnchanged ignored start v → IsOldUntilCommit ignored files v earlier w → IsOldUntilCommit ignored files start (earlier ++ first) w
way_before ignored files start v w earlier first is_unchanged way = record {
  is_durable = way.is_durable;
  old_or_new = quiet_then ignored start v w files is_unchanged.quiet way.old_or_new;
  unpublished = λ unled. quiet_on ignored start v w is_unchanged.quiet (way.unpublished (λ published. unled (published_among ignored files start.made v.made (w ∷ earlier) first is_unchanged.made published)));
  made = (let a = is_unchanged.made in let b = way.made in omega (arith, a, b));
}

-- ---- behind a publishing

published_more : (ignored : List ℕ → Bool) (files : Files) (made : ℕ) (more first : List TreeState) → HasMomentOfIntentFileNumberedAtLeastForFiles ignored files made first → HasMomentOfIntentFileNumberedAtLeastForFiles ignored files made (more ++ first)
published_more ignored files made [] first published = published
published_more ignored files made (w ∷ more) first published = inr (published_more ignored files made more first published)

module _ (ignored : List ℕ → Bool) (files : Files) (start v : TreeState) (settled : EachCrashLeavesStateOf ignored files v) (later : start.made ≤ v.made) where
  behind : (earlier : List TreeState) (w : TreeState) → HasMomentOfIntentFileNumberedAtLeastForFiles ignored files start.made earlier → StateIsUnchanged ignored v w → IsOldUntilCommit ignored files start earlier w
  behind earlier w led is_unchanged = record {
    is_durable = is_unchanged.is_durable;
    old_or_new = λ image is. inr (settled_quiet ignored files v w settled is_unchanged.quiet image is);
    unpublished = λ unled. absurd (unled (inr led));
    made = (let more = is_unchanged.made in omega (arith, later, more));
  }

  each_behind : (added first : List TreeState) → HasMomentOfIntentFileNumberedAtLeastForFiles ignored files start.made first → All (StateIsUnchanged ignored v) added → EachMoment (IsOldUntilCommit ignored files start) first → EachMoment (IsOldUntilCommit ignored files start) (added ++ first)
  each_behind [] first led all so_far = so_far
  each_behind (w ∷ added) first led all so_far = (behind (added ++ first) w (published_more ignored files start.made added first led) (All-head (StateIsUnchanged ignored v) w added all), each_behind added first led (All-tail (StateIsUnchanged ignored v) w added all) so_far)

  pub way_after : (old mid new : List TreeState) → IsHistoryThatPublishesIntentForFiles ignored files start old mid → Since (StateIsUnchanged ignored v) mid new → SinceGivenEarlierAddedMoments (IsOldUntilCommit ignored files start) old new
  way_after old mid new published is_unchanged = record {
    added = is_unchanged.added ++ published.added;
    is = is_unchanged.is ∙ ap (λ (l : List TreeState). is_unchanged.added ++ l) published.is ∙ sym (append_assoc is_unchanged.added published.added old);
    each = each_behind is_unchanged.added published.added published.published is_unchanged.each published.each;
  }
