-- What others leave who change files under their names and do not sync them.
use Rattle.std.proofs.Common.{◌≡◌, inl, inr, ℕ, Bool, true, false, ◌||◌, List, Option, Some, None, refl, sym, ap, subst, ◌∙◌}
use Rattle.std.specs.Prelude.{if◌then◌else◌}
use Rattle.std.specs.Str.{bytes_eq}
use Rattle.std.proofs.lemmas.Bool.{false≢true}
use Rattle.std.proofs.lemmas.Slice.Eq.{bytes_eq-Decides}
use Rattle.base_core.specs.Crash.{CrashMayLeaveBytesOfFileNumber}
use Rattle.base_core.specs.Undone.{IsDurable}
use Rattle.base_core.specs.Files.{Files, NameMap}
use Rattle.base_core.specs.Tree.{File, TreeState, bytes_of_file_number, files_under_map}
use Rattle.base_core.proofs.Left.{may_leave_as_read}
use Rattle.apk_front.proofs.journal_intent.StageNames.{stage_name_staged}
use Rattle.apk_front.specs.journal_core.Quiet.{EachCrashLeavesOld}
use Rattle.apk_front.specs.journal_core.Recovery.{Intent, IsStagedNameOf, StateDependsOn, intent_in_file, intent_name, intent_of, is_staged}
use Rattle.apk_front.proofs.journal_core.Agree.{state_agree}
use Rattle.run_lists.specs.Events.{HaveSameFilesExceptTheirs, IsChangeByOthers, names_of_others_outside_journal, touched_outside_journal_or_ignored}
use Rattle.run_lists.proofs.Facts.{Ignored}

-- ---- the names

off_first : (a b c : Bool) → a ≡ true → (if a || b then false else c) ≡ false
off_first true b c is = refl
off_first false b c is = absurd (false≢true is)

off_second : (a b c : Bool) → b ≡ true → (if a || b then false else c) ≡ false
off_second true b c is = refl
off_second false true c is = refl
off_second false false c is = absurd (false≢true is)

pub intent_off : (theirs : Ignored) → names_of_others_outside_journal theirs intent_name ≡ false
intent_off theirs = off_first (bytes_eq intent_name intent_name) (is_staged intent_name) (theirs intent_name) ((bytes_eq-Decides intent_name intent_name).1 refl)

staged_off : (theirs : Ignored) (q : List ℕ) → is_staged q ≡ true → names_of_others_outside_journal theirs q ≡ false
staged_off theirs q is = off_second (bytes_eq q intent_name) (is_staged q) (theirs q) is

parts : (a b c : Bool) → (a || (b || c)) ≡ false → (b ≡ false) × ((a || c) ≡ false)
parts true b c is = absurd (false≢true (sym is))
parts false true c is = absurd (false≢true (sym is))
parts false false c is = (refl, is)

place_staged : (o : Option Intent) (q : List ℕ) → IsStagedNameOf o q → is_staged q ≡ true
place_staged None q at = absurd at
place_staged (Some intent) q (k, low, high, is) = ap is_staged is ∙ stage_name_staged k

-- ---- the files

same_left : (f g : ℕ → File) (o : Option ℕ) (bytes : Option (List ℕ)) → ((n : ℕ) → o ≡ Some n → g n ≡ f n) → CrashMayLeaveBytesOfFileNumber g o bytes → CrashMayLeaveBytesOfFileNumber f o bytes
same_left f g None bytes same is = is
same_left f g (Some n) None same is = is
same_left f g (Some n) (Some bytes) same is = subst (λ (file : File). (file.synced ≡ true → bytes ≡ file.bytes)) (same n refl) is

same_bytes : (f g : ℕ → File) (o : Option ℕ) → ((n : ℕ) → o ≡ Some n → g n ≡ f n) → bytes_of_file_number g o ≡ bytes_of_file_number f o
same_bytes f g None same = refl
same_bytes f g (Some n) same = ap (λ (file : File). Some file.bytes) (same n refl)

module _ (theirs : Ignored) (v w : TreeState) (touch : IsChangeByOthers theirs v w) (ignored : Ignored) where
  abbrev Names : Ignored
  Names = touched_outside_journal_or_ignored theirs ignored

  counts : (files : Files) (q : List ℕ) → StateDependsOn Names files q → names_of_others_outside_journal theirs q ≡ false
  counts files q (inl is) = ap (names_of_others_outside_journal theirs) is ∙ intent_off theirs
  counts files q (inr (inl shown)) = (parts (is_staged q) (names_of_others_outside_journal theirs q) (ignored q) shown).0
  counts files q (inr (inr place)) = staged_off theirs q (place_staged (intent_of files) q place)

  -- the files that a crash might have left before
  abbrev old_files : NameMap → Files → Files
  old_files was image q = if names_of_others_outside_journal theirs q then bytes_of_file_number v.files (was q) else image q

  old_left : (was map : NameMap) (image : Files) → HaveSameFilesExceptTheirs theirs v was w map → ((q : List ℕ) → CrashMayLeaveBytesOfFileNumber w.files (map q) (image q)) → (q : List ℕ) → CrashMayLeaveBytesOfFileNumber v.files (was q) (old_files was image q)
  old_left was map image same by q = at (names_of_others_outside_journal theirs q) refl
    where
      at : (b : Bool) → names_of_others_outside_journal theirs q ≡ b → CrashMayLeaveBytesOfFileNumber v.files (was q) (if b then bytes_of_file_number v.files (was q) else image q)
      at true is = may_leave_as_read v.files (was q)
      at false is =
          let both = same q is in
          same_left v.files w.files (was q) (image q) both.1 (subst (λ (o : Option ℕ). CrashMayLeaveBytesOfFileNumber w.files o (image q)) both.0 (by q))

  pub touch_quiet : EachCrashLeavesOld Names v w
  touch_quiet image (map, among, by) =
      let at = touch map among in (
        old_files at.0 image,
        (at.0, at.1, old_left at.0 map image at.2 by),
        state_agree Names image (old_files at.0 image)
            (λ q rests. sym (ap (λ (b : Bool). (if b then bytes_of_file_number v.files (at.0 q) else image q)) (counts image q rests))),
      )

  rested : (was map : NameMap) → HaveSameFilesExceptTheirs theirs v was w map → (q : List ℕ) → StateDependsOn Names (files_under_map w map) q → StateDependsOn ignored (files_under_map v was) q
  rested was map same q (inl is) = inl is
  rested was map same q (inr (inl shown)) = inr (inl (parts (is_staged q) (names_of_others_outside_journal theirs q) (ignored q) shown).1)
  rested was map same q (inr (inr place)) =
      let both = same intent_name (intent_off theirs) in
      let at : files_under_map w map intent_name ≡ files_under_map v was intent_name = ap (bytes_of_file_number w.files) both.0 ∙ same_bytes v.files w.files (was intent_name) both.1 in
      inr (inr (subst (λ (o : Option Intent). IsStagedNameOf o q) (ap intent_in_file at) place))

  pub touch_durable : IsDurable (StateDependsOn ignored) v → IsDurable (StateDependsOn Names) w
  touch_durable is_durable = record {
    each = λ map among q n rests is.
        let at = touch map among in
        let both = at.2 q (counts (files_under_map w map) q rests) in
        let was : at.0 q ≡ Some n = sym both.0 ∙ is in
        ap (λ (file : File). file.synced) (both.1 n was) ∙ is_durable.each at.0 at.1 q n (rested at.0 map at.2 q rests) was;
  }
