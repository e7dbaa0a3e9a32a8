-- A state inside a call leaves what the moment leaves that it is torn from.
use Rattle.std.proofs.Common.{◌≡◌, inl, inr, ℕ, true, List, Option, Some, None, refl, ap, subst, ◌∙◌}
use Rattle.base_core.specs.Crash.{CrashMayLeaveBytesOfFileNumber}
use Rattle.base_core.specs.Files.{Files, NameMap}
use Rattle.base_core.specs.Tree.{File, TreeState, bytes_of_file_number, files_under_map}
use Rattle.base_core.specs.Undone.{IsDurable, CrashOfMapsMayLeaveMap, IsCrashImage, IsCrashMap}
use Rattle.apk_front.specs.journal_core.Quiet.{EachCrashLeavesOld}
use Rattle.apk_front.specs.journal_core.Recovery.{Intent, IsStagedNameOf, StateDependsOn, intent_in_file, intent_name, intent_of}
use Rattle.run_lists.specs.Events.{DiffersOnlyInUnsyncedBytes}
use Rattle.run_lists.specs.Recovered.{EachCrashLeavesNoBadIntent}
use Rattle.run_lists.proofs.Facts.{Ignored}

pub torn_self : (m : TreeState) → DiffersOnlyInUnsyncedBytes m m
torn_self m = record { names = refl; older = refl; made = refl; synced = λ n. refl; bytes = λ n is. refl }

torn_leaves : (f g : ℕ → File) → ((n : ℕ) → (g n).synced ≡ (f n).synced) → ((n : ℕ) → (f n).synced ≡ true → (g n).bytes ≡ (f n).bytes) → (at : Option ℕ) (bytes : Option (List ℕ)) → CrashMayLeaveBytesOfFileNumber g at bytes → CrashMayLeaveBytesOfFileNumber f at bytes
torn_leaves f g synced same None bytes is = is
torn_leaves f g synced same (Some n) None is = is
torn_leaves f g synced same (Some n) (Some bytes) is = λ durable. is (synced n ∙ durable) ∙ same n durable

module _ (m w : TreeState) (torn : DiffersOnlyInUnsyncedBytes m w) where
  torn_map : (map : NameMap) → IsCrashMap w map → IsCrashMap m map
  torn_map map left = subst (λ (older : List NameMap). CrashOfMapsMayLeaveMap m.names older map) torn.older (subst (λ (names : NameMap). CrashOfMapsMayLeaveMap names w.older map) torn.names left)

  pub torn_image : (image : Files) → IsCrashImage w image → IsCrashImage m image
  torn_image image (map, among, by) = (map, torn_map map among, λ q. torn_leaves m.files w.files torn.synced torn.bytes (map q) (image q) (by q))

  module _ (ignored : Ignored) where
    pub torn_quiet : (v : TreeState) → EachCrashLeavesOld ignored v m → EachCrashLeavesOld ignored v w
    torn_quiet v quiet image is = quiet image (torn_image image is)

    module _ (is_durable : IsDurable (StateDependsOn ignored) m) where
      same_intent : (map : NameMap) → IsCrashMap m map → intent_of (files_under_map w map) ≡ intent_of (files_under_map m map)
      same_intent map among = ap intent_in_file (by (map intent_name) refl)
        where
          by : (o : Option ℕ) → map intent_name ≡ o → bytes_of_file_number w.files o ≡ bytes_of_file_number m.files o
          by None is = refl
          by (Some n) is = ap (λ (bytes : List ℕ). Some bytes) (torn.bytes n (is_durable.each map among intent_name n (inl refl) is))

      rests : (map : NameMap) → IsCrashMap m map → (q : List ℕ) → StateDependsOn ignored (files_under_map w map) q → StateDependsOn ignored (files_under_map m map) q
      rests map among q (inl is) = inl is
      rests map among q (inr (inl shown)) = inr (inl shown)
      rests map among q (inr (inr place)) = inr (inr (subst (λ (o : Option Intent). IsStagedNameOf o q) (same_intent map among) place))

      pub torn_durable : IsDurable (StateDependsOn ignored) w
      torn_durable = record { each = λ map among q n on is. torn.synced n ∙ is_durable.each map (torn_map map among) q n (rests map (torn_map map among) q on) is }

  pub torn_good : EachCrashLeavesNoBadIntent m → EachCrashLeavesNoBadIntent w
  torn_good good image is bad = good image (torn_image image is) bad
