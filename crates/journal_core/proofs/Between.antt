-- What a stage has made of the tree, over one call.
use Rattle.std.proofs.Common.{◌≡◌, ◌≢◌, ◌⊎◌, inl, inr, ⊎_elim, ℕ, suc, ◌+◌, ◌≤◌, ◌<◌, ◌^◌, Bool, true, false, List, [], ◌∷◌, ◌++◌, length, Option, None, Some, IsSome, refl, sym, ap, subst, ◌∙◌, arith}
use Rattle.std.proofs.Math.Nat.{eq-or-lt_of_le}
use Rattle.std.specs.Str.{bytes_eq}
use Rattle.base_core.specs.Files.{Files, NameMap, put_name}
use Rattle.base_core.specs.Tree.{TreeState, File, IsWellFormed, bytes_of_file_number, files_of, with_file_changed, after_create, after_append, after_sync, after_sync_names, HasName}
use Rattle.base_core.specs.Undone.{IsDurable}
use Rattle.journal_core.specs.Recovery.{StateDependsOn, intent_name, stage_name}
use Rattle.journal_core.specs.Quiet.{StateIsUnchanged}
use Rattle.journal_core.specs.Kept.{IsAbsentAfterEachCrash}
use Rattle.journal_core.specs.Staged.{Staging, HasNoOtherIntent, HasStagedContents, files_with_staged}
use Rattle.base_core.proofs.Undone.{read_may_be_left}
use Rattle.base_core.proofs.AtName.{name_cases, off_name}
use Rattle.journal_core.proofs.Changes.{gone_created, gone_synced}
use Rattle.journal_intent.proofs.AtName.{put_name-at, put_name-off}
use Rattle.journal_intent.proofs.StageNames.{stage_names_apart, stage_name_no_intent}
use Rattle.journal_core.proofs.Steps.{set_file-at, file_at-set_file, made_later, create_others}
use Rattle.journal_core.proofs.Waiting.{off_gone, still_created, alone_created, still_changed, alone_changed, others_changed, read_changed}
use Rattle.journal_core.proofs.Images.{CrashLaws}

pub staged_off : (contents : List (List ℕ)) (k : ℕ) (F : Files) (q : List ℕ) → ((j : ℕ) → k ≤ j → q ≢ stage_name j) → files_with_staged k contents F q ≡ F q
staged_off [] k F q off = refl
staged_off (b ∷ bs) k F q off = staged_off bs (k + 1) (put_name F (stage_name k) b) q (λ j le. off j (omega (arith, le))) ∙ put_name-off F (stage_name k) b q (off k (omega arith))

staged_more : (contents : List (List ℕ)) (k : ℕ) (b : List ℕ) (base : Files) → files_with_staged k (contents ++ b ∷ []) base ≡ put_name (files_with_staged k contents base) (stage_name (k + length contents)) b
staged_more [] k b base = ap (λ n. put_name base (stage_name n) b) (omega arith)
staged_more (c ∷ contents) k b base = staged_more contents (k + 1) b (put_name base (stage_name k) c) ∙ ap (λ n. put_name (files_with_staged (k + 1) contents (put_name base (stage_name k) c)) (stage_name n) b) (omega arith)

-- the name that the code uses
pub name_of_next : (name : List ℕ) (staged count : ℕ) → name ≡ stage_name (staged + 1) → count ≡ staged → name ≡ stage_name (1 + count)
name_of_next name staged count is same = is ∙ ap stage_name (omega (arith, same))

pub few_next : (staged count most : ℕ) → count ≡ staged → staged < most → most < 2 ^ 63 → 1 + count < 2 ^ 64
few_next staged count most same below few = omega (arith, same, below, few)

pub no_intent_read : (stage : Staging) (contents : List (List ℕ)) (base : Files) (v : TreeState) → HasStagedContents stage contents None base v → files_of v intent_name ≡ None
no_intent_read stage contents base v staged = ap (λ (F : Files). F intent_name) staged.reads ∙ staged_off contents 1 base intent_name (λ j le e. stage_name_no_intent j (sym e)) ∙ staged.absent

-- once a file is staged, no crash restores an intent
pub gone_once : (stage : Staging) (contents : List (List ℕ)) (base : Files) (v : TreeState) (k : ℕ) → HasStagedContents stage contents None base v → stage.staged ≡ suc k → IsAbsentAfterEachCrash intent_name v
gone_once stage [] base v k staged some = absurd (let none = staged.count in omega (arith, none, some))
gone_once stage (bytes ∷ contents) base v k staged some = staged.gone

other_more : (contents : List (List ℕ)) (bytes : List ℕ) (v : TreeState) → IsAbsentAfterEachCrash intent_name v → HasNoOtherIntent (contents ++ bytes ∷ []) None v
other_more [] bytes v gone = gone
other_more (c ∷ contents) bytes v gone = gone

unread : (files : ℕ → File) (o : Option ℕ) → bytes_of_file_number files o ≡ None → o ≡ None
unread files None is = refl
unread files (Some n) is = absurd (cc)

-- the names are synced
pub gone_once_synced : (stage : Staging) (contents : List (List ℕ)) (base : Files) (v : TreeState) → HasStagedContents stage contents None base v → IsAbsentAfterEachCrash intent_name (after_sync_names v)
gone_once_synced stage contents base v staged = gone_synced intent_name v (unread v.files (v.names intent_name) (no_intent_read stage contents base v staged))

pub staged_synced : (stage : Staging) (contents : List (List ℕ)) (base : Files) (v : TreeState) → HasStagedContents stage contents None base v → HasStagedContents stage contents None base (after_sync_names v)
staged_synced stage contents base v staged = record {
  count = staged.count;
  absent = staged.absent;
  reads = staged.reads;
  synced = staged.synced;
  alone = tt;
  gone = by contents (gone_once_synced stage contents base v staged);
}
  where
    by : (cs : List (List ℕ)) → IsAbsentAfterEachCrash intent_name (after_sync_names v) → HasNoOtherIntent cs None (after_sync_names v)
    by [] away = tt
    by (c ∷ cs) away = away

-- ---- a file is begun

module _ (laws : CrashLaws) (stage : Staging) (contents : List (List ℕ)) (base : Files) (v : TreeState) (few : 1 + length contents < 2 ^ 64) (staged : HasStagedContents stage contents None base v) (gone : IsAbsentAfterEachCrash intent_name v) (whole : IsWellFormed v) where
  abbrev next : List ℕ
  next = stage_name (1 + length contents)

  still_begun_at : (ignored : List ℕ → Bool) → IsDurable (StateDependsOn ignored) v → StateIsUnchanged ignored v (after_create next v)
  still_begun_at ignored = still_created laws ignored next v (off_gone v (stage_name (1 + length contents)) refl (stage_name_no_intent (1 + length contents)) gone) whole

  created_reads : (q : List ℕ) → files_of (after_create next v) q ≡ put_name (files_of v) next [] q
  created_reads q = at (name_cases q next)
    where
      at : (q ≡ next) ⊎ (bytes_eq q next ≡ false) → files_of (after_create next v) q ≡ put_name (files_of v) next [] q
      at (inl is) = ap (bytes_of_file_number (after_create next v).files) (put_name-at v.names next v.made q is) ∙ ap (λ (f : File). Some f.bytes) (set_file-at v.files v.made _ v.made refl) ∙ sym (put_name-at (files_of v) next [] q is)
      at (inr off) = create_others next v whole q (off_name q next off) ∙ sym (put_name-off (files_of v) next [] q (off_name q next off))

  kept_file : (n : ℕ) → n ≢ v.made → (after_create next v).files n ≡ v.files n
  kept_file n ne = let same : Some ((after_create next v).files n) ≡ Some (v.files n) = file_at-set_file v.files v.made _ (Some n) (λ e. ne (cc)) in cc

  staged_begun_at : (now : Staging) → now.staged ≡ stage.staged → HasStagedContents now contents (Some []) base (after_create next v)
  staged_begun_at now same = record {
    count = staged.count ∙ sym same;
    absent = staged.absent;
    reads = λ i q. (created_reads q ∙ ap (λ (F : Files). put_name F next [] q) staged.reads) i;
    synced = λ k n from below there.
        let at : v.names (stage_name k) ≡ Some n = sym (put_name-off v.names next v.made (stage_name k) (λ e. absurd (omega (arith, below, stage_names_apart k (1 + length contents) (omega (arith, below, few)) few e)))) ∙ there in
        ap (λ (f : File). f.synced) (kept_file n (λ e. made_later v whole v.names (read_may_be_left v) (stage_name k) (at ∙ ap Some e))) ∙ staged.synced k n from below at;
    alone = alone_created next v (off_gone v (stage_name (1 + length contents)) refl (stage_name_no_intent (1 + length contents)) gone) whole;
    gone = gone_created intent_name next v (λ e. stage_name_no_intent (1 + length contents) (sym e)) gone;
  }

  module _ (name : List ℕ) (is : name ≡ next) where
    pub still_begun : (ignored : List ℕ → Bool) → IsDurable (StateDependsOn ignored) v → StateIsUnchanged ignored v (after_create name v)
    still_begun ignored is_durable = subst (λ (n : List ℕ). StateIsUnchanged ignored v (after_create n v)) (sym is) (still_begun_at ignored is_durable)

    pub staged_begun : (now : Staging) → now.staged ≡ stage.staged → HasStagedContents now contents (Some []) base (after_create name v)
    staged_begun now same = subst (λ (n : List ℕ). HasStagedContents now contents (Some []) base (after_create n v)) (sym is) (staged_begun_at now same)

    pub others_begun : (q : List ℕ) → q ≢ name → files_of (after_create name v) q ≡ files_of v q
    others_begun = create_others name v whole

-- ---- it grows, and is synced

module _ (laws : CrashLaws) (stage : Staging) (contents : List (List ℕ)) (so_far : List ℕ) (base : Files) (v : TreeState) (few : 1 + length contents < 2 ^ 64) (staged : HasStagedContents stage contents (Some so_far) base v) where
  abbrev place : List ℕ
  place = stage_name (1 + length contents)

  bytes_now : (v.files staged.alone.number).bytes ≡ so_far
  bytes_now =
      let e : Some (v.files staged.alone.number).bytes ≡ Some so_far = sym (ap (bytes_of_file_number v.files) staged.alone.there) ∙ ap (λ (F : Files). F place) staged.reads ∙ put_name-at (files_with_staged 1 contents base) place so_far place refl in
      cc

  module _ (change : File → File) where
    abbrev w : TreeState
    w = with_file_changed change v (v.names place)

    pub still_grown_at : (ignored : List ℕ → Bool) → IsDurable (StateDependsOn ignored) v → StateIsUnchanged ignored v w
    still_grown_at ignored = still_changed laws place refl (stage_name_no_intent (1 + length contents)) change v staged.alone ignored

    grown_others : (q : List ℕ) → q ≢ place → files_of w q ≡ files_of v q
    grown_others = others_changed laws place refl (stage_name_no_intent (1 + length contents)) change v staged.alone

    module _ (now : Staging) (bytes : List ℕ) (same : (change (v.files staged.alone.number)).bytes ≡ bytes) where
      grown_reads : (q : List ℕ) → files_of w q ≡ put_name (files_with_staged 1 contents base) place bytes q
      grown_reads q = at (name_cases q place)
        where
          at : (q ≡ place) ⊎ (bytes_eq q place ≡ false) → files_of w q ≡ put_name (files_with_staged 1 contents base) place bytes q
          at (inl is) =
              ap (files_of w) is ∙ read_changed laws place refl (stage_name_no_intent (1 + length contents)) change v staged.alone
              ∙ ap Some same ∙ sym (put_name-at (files_with_staged 1 contents base) place bytes q is)
          at (inr off) =
              grown_others q (off_name q place off) ∙ ap (λ (F : Files). F q) staged.reads
              ∙ put_name-off (files_with_staged 1 contents base) place so_far q (off_name q place off) ∙ sym (put_name-off (files_with_staged 1 contents base) place bytes q (off_name q place off))

      w_at : w ≡ with_file_changed change v (Some staged.alone.number)
      w_at = ap (with_file_changed change v) staged.alone.there

      other_number : (k n : ℕ) → k < 1 + length contents → v.names (stage_name k) ≡ Some n → n ≢ staged.alone.number
      other_number k n below there e =
          let here = staged.alone.alone v.names (read_may_be_left v) (stage_name k) (there ∙ ap Some e) in
          let equal = stage_names_apart k (1 + length contents) (omega (arith, below, few)) few here in
          absurd (omega (arith, below, equal))

      kept_number : (n : ℕ) → n ≢ staged.alone.number → w.files n ≡ v.files n
      kept_number n ne =
          let here : Some ((with_file_changed change v (Some staged.alone.number)).files n) ≡ Some (v.files n) = file_at-set_file v.files staged.alone.number _ (Some n) (λ e. ne (cc)) in
          ap (λ (u : TreeState). u.files n) w_at ∙ cc

      same_names : w.names ≡ v.names
      same_names = ap (λ (u : TreeState). u.names) w_at

      still_gone : IsAbsentAfterEachCrash intent_name w
      still_gone = subst (IsAbsentAfterEachCrash intent_name) (sym w_at) staged.gone

      synced_before : (k n : ℕ) → 1 ≤ k → k < 1 + length contents → w.names (stage_name k) ≡ Some n → (w.files n).synced ≡ true
      synced_before k n from below there =
          let at : v.names (stage_name k) ≡ Some n = sym (ap (λ (m : NameMap). m (stage_name k)) same_names) ∙ there in
          ap (λ (f : File). f.synced) (kept_number n (other_number k n below at)) ∙ staged.synced k n from below at

      staged_grown_at : now.staged ≡ stage.staged → HasStagedContents now contents (Some bytes) base w
      staged_grown_at kept = record {
        count = staged.count ∙ sym kept;
        absent = staged.absent;
        reads = λ i q. grown_reads q i;
        synced = synced_before;
        alone = alone_changed laws place refl (stage_name_no_intent (1 + length contents)) change v staged.alone;
        gone = still_gone;
      }

      count_more : (cs : List (List ℕ)) → length (cs ++ bytes ∷ []) ≡ length cs + 1
      count_more [] = refl
      count_more (x ∷ cs) = let e = count_more cs in omega (arith, e)

      synced_here : (change (v.files staged.alone.number)).synced ≡ true → (n : ℕ) → w.names place ≡ Some n → (w.files n).synced ≡ true
      synced_here flag n there =
          let e : Some n ≡ Some staged.alone.number = sym there ∙ ap (λ (m : NameMap). m place) same_names ∙ staged.alone.there in
          let n_is : n ≡ staged.alone.number = cc in
          ap (λ (u : TreeState). (u.files n).synced) w_at ∙ ap (λ (f : File). f.synced) (set_file-at v.files staged.alone.number (change (v.files staged.alone.number)) n n_is) ∙ flag

      staged_ended_at : now.staged ≡ stage.staged + 1 → (change (v.files staged.alone.number)).synced ≡ true → HasStagedContents now (contents ++ bytes ∷ []) None base w
      staged_ended_at more flag = record {
        count = count_more contents ∙ ap (λ n. n + 1) staged.count ∙ sym more;
        absent = staged.absent;
        reads = λ i q. (grown_reads q ∙ ap (λ (F : Files). F q) (sym (staged_more contents 1 bytes base))) i;
        synced = λ k n from below there. by_place k n from (less k below) there;
        alone = tt;
        gone = other_more contents bytes w still_gone;
      }
        where
          less : (k : ℕ) → k < 1 + length (contents ++ bytes ∷ []) → (k < 1 + length contents) ⊎ (k ≡ 1 + length contents)
          less k below = let e = count_more contents in ⊎_elim (λ is. inr is) (λ lt. inl lt) (eq-or-lt_of_le (omega (arith, e, below)))

          by_place : (k n : ℕ) → 1 ≤ k → (k < 1 + length contents) ⊎ (k ≡ 1 + length contents) → w.names (stage_name k) ≡ Some n → (w.files n).synced ≡ true
          by_place k n from (inl below) there = synced_before k n from below there
          by_place k n from (inr is) there = synced_here flag n (sym (ap (λ j. w.names (stage_name j)) is) ∙ there)

  module _ (name : List ℕ) (is : name ≡ place) where
    -- more bytes, also where that failed
    pub still_grown : (change : File → File) (ignored : List ℕ → Bool) → IsDurable (StateDependsOn ignored) v → StateIsUnchanged ignored v (with_file_changed change v (v.names name))
    still_grown change ignored is_durable = subst (λ (n : List ℕ). StateIsUnchanged ignored v (with_file_changed change v (v.names n))) (sym is) (still_grown_at change ignored is_durable)

    pub others_grown : (change : File → File) (q : List ℕ) → q ≢ name → files_of (with_file_changed change v (v.names name)) q ≡ files_of v q
    others_grown change q ne = subst (λ (n : List ℕ). files_of (with_file_changed change v (v.names n)) q ≡ files_of v q) (sym is) (grown_others change q (λ e. ne (e ∙ sym is)))

    pub staged_grown : (now : Staging) (piece : List ℕ) → now.staged ≡ stage.staged → HasStagedContents now contents (Some (so_far ++ piece)) base (after_append name piece v)
    staged_grown now piece kept = subst (λ (n : List ℕ). HasStagedContents now contents (Some (so_far ++ piece)) base (after_append n piece v)) (sym is)
        (staged_grown_at (λ f. record { bytes = f.bytes ++ piece; synced = false }) now (so_far ++ piece) (ap (λ (b : List ℕ). b ++ piece) bytes_now) kept)

    pub staged_ended : (now : Staging) → now.staged ≡ stage.staged + 1 → HasStagedContents now (contents ++ so_far ∷ []) None base (after_sync name v)
    staged_ended now more = subst (λ (n : List ℕ). HasStagedContents now (contents ++ so_far ∷ []) None base (after_sync n v)) (sym is)
        (staged_ended_at (λ f. record { bytes = f.bytes; synced = true }) now so_far bytes_now more refl)

    -- the bytes as read stay where only the flag changes
    pub same_read : (flag : Bool) → files_of (with_file_changed (λ f. record { bytes = f.bytes; synced = flag }) v (v.names name)) ≡ files_of v
    same_read flag = subst (λ (n : List ℕ). files_of (with_file_changed (λ f. record { bytes = f.bytes; synced = flag }) v (v.names n)) ≡ files_of v) (sym is)
        (λ i q. (grown_reads (λ f. record { bytes = f.bytes; synced = flag }) stage so_far bytes_now q ∙ ap (λ (F : Files). F q) (sym staged.reads)) i)

    pub has_name : HasName name v
    has_name = subst (λ (n : List ℕ). IsSome (v.names n)) (sym is) (some staged.alone.there)
      where
        some : v.names place ≡ Some staged.alone.number → IsSome (v.names place)
        some there = subst IsSome (sym there) refl
