-- The writes are staged one after another.
use Rattle.std.proofs.Common.{◌≡◌, ℕ, zero, suc, ◌+◌, ◌<◌, ◌≤◌, List, [], ◌∷◌, ◌++◌, Some, None, refl, sym, ap, subst, ◌∙◌, arith, length, take, take_all}
use Rattle.std.specs.Prelude.{slice_get, slice_index_or}
use Rattle.base_core.specs.Files.{Files}
use Rattle.base_core.specs.Tree.{TreeState, files_of}
use Rattle.journal_commit.specs.journal_core.Staged.{AreIntentAndStagedPathsFree, Staging}
use Rattle.journal_commit.proofs.journal_core.History.{History}
use Rattle.journal_staging.specs.Sources.{MayDenote, EachMayDenote, EachDenotes, DenotesBytes}
use Rattle.journal_staging.specs.declared.writes.StagedWrite.{StagedWrite}
use Rattle.journal_commit.specs.StageRun.{IsRunThatStagedAndBeganFiles, IsStagingRun}

-- so many of the writes have their files
abbrev pub AreStagedOn : Staging → Staging → List StagedWrite → ℕ → History → History → Type 0
AreStagedOn start stage writes count old now =
    (contents : List (List ℕ)) (v : TreeState) (first : List TreeState) → IsRunThatStagedAndBeganFiles start [] None v first old
    → EachDenotes (files_of v) writes contents → IsRunThatStagedAndBeganFiles stage (take count contents) None v first now

abbrev pub AreProperOn : Staging → List StagedWrite → History → ℕ → ℕ → Type 0
AreProperOn start writes old before now =
    (contents : List (List ℕ)) (v : TreeState) (first : List TreeState) → IsRunThatStagedAndBeganFiles start [] None v first old
    → EachDenotes (files_of v) writes contents → AreIntentAndStagedPathsFree (files_of v) → now ≡ before

take_next : {A : Type 0} (xs : List A) (i : ℕ) (x : A) → slice_get xs i ≡ Some x → take (i + 1) xs ≡ take i xs ++ x ∷ []
take_next [] i x e = cc
take_next (y ∷ xs) zero x e = cc
take_next (y ∷ xs) (suc i) x e =
    let next : suc i + 1 ≡ suc (i + 1) = omega arith in
    ap (λ (n : ℕ). take n (y ∷ xs)) next ∙ ap (λ l. y ∷ l) (take_next xs i x e)

pub item_at : (ws : List StagedWrite) (i : ℕ) (w : StagedWrite) → i < length ws → w ≡ slice_index_or ws i w → slice_get ws i ≡ Some w
item_at [] i w less is = absurd (omega (arith, less))
item_at (x ∷ ws) zero w less is = ap Some (sym is)
item_at (x ∷ ws) (suc i) w less is = item_at ws i w (omega (arith, less)) is

some_at : (xs : List (List ℕ)) (i : ℕ) → i < length xs → (x : List ℕ) × (slice_get xs i ≡ Some x)
some_at [] i less = absurd (omega (arith, less))
some_at (x ∷ xs) zero less = (x, refl)
some_at (x ∷ xs) (suc i) less = some_at xs i (omega (arith, less))

within : (ws : List StagedWrite) (i : ℕ) (w : StagedWrite) → slice_get ws i ≡ Some w → i < length ws
within [] i w e = cc
within (x ∷ ws) zero w e = omega arith
within (x ∷ ws) (suc i) w e = let more = within ws i w e in omega (arith, more)

-- the bytes of the next write
pub bytes_next : (files : Files) (writes : List StagedWrite) (contents : List (List ℕ)) (i : ℕ) (w : StagedWrite) → slice_get writes i ≡ Some w → EachDenotes files writes contents
    → (bytes : List ℕ) × (slice_get contents i ≡ Some bytes) × DenotesBytes files w.source bytes
bytes_next files writes contents i w at stand =
    let found = some_at contents i (let less = within writes i w at in let same = stand.same in omega (arith, less, same)) in
    (found.0, found.1, stand.each i w found.0 at found.1)

module _ (start stage next : Staging) (writes : List StagedWrite) (i : ℕ) (w : StagedWrite) (at : slice_get writes i ≡ Some w) (old now later : History) (so_far : AreStagedOn start stage writes i old now) where
  pub each_more : ((contents : List (List ℕ)) (v : TreeState) (first : List TreeState) (bytes : List ℕ) → IsRunThatStagedAndBeganFiles stage contents None v first now → DenotesBytes (files_of v) w.source bytes → IsRunThatStagedAndBeganFiles next (contents ++ bytes ∷ []) None v first later)
      → AreStagedOn start next writes (i + 1) old later
  each_more staged contents v first staging stand =
      let (bytes, is, source) = bytes_next (files_of v) writes contents i w at stand in
      subst (λ (l : List (List ℕ)). IsRunThatStagedAndBeganFiles next l None v first later) (sym (take_next contents i bytes is)) (staged (take i contents) v first bytes (so_far contents v first staging stand) source)

  pub each_proper : (before between after : ℕ) → AreProperOn start writes old before between
      → ((contents : List (List ℕ)) (v : TreeState) (first : List TreeState) (bytes : List ℕ) → IsRunThatStagedAndBeganFiles stage contents None v first now → DenotesBytes (files_of v) w.source bytes → AreIntentAndStagedPathsFree (files_of v) → after ≡ between)
      → AreProperOn start writes old before after
  each_proper before between after proper one contents v first staging stand room =
      let (bytes, is, source) = bytes_next (files_of v) writes contents i w at stand in
      one (take i contents) v first bytes (so_far contents v first staging stand) source room ∙ proper contents v first staging stand room

  pub each_good : (P : Type 0) → ((contents : List (List ℕ)) (v : TreeState) (first : List TreeState) (bytes : List ℕ) → IsRunThatStagedAndBeganFiles stage contents None v first now → DenotesBytes (files_of v) w.source bytes → P)
      → (contents : List (List ℕ)) (v : TreeState) (first : List TreeState) → IsRunThatStagedAndBeganFiles start [] None v first old → EachDenotes (files_of v) writes contents → P
  each_good P good contents v first staging stand =
      let (bytes, is, source) = bytes_next (files_of v) writes contents i w at stand in
      good (take i contents) v first bytes (so_far contents v first staging stand) source

pub none_staged : (start : Staging) (writes : List StagedWrite) (old : History) → AreStagedOn start start writes 0 old old
none_staged start writes old contents v first staging stand = staging

pub all_staged : (start stage : Staging) (writes : List StagedWrite) (i : ℕ) (old now : History) → length writes ≤ i → AreStagedOn start stage writes i old now
    → (contents : List (List ℕ)) (v : TreeState) (first : List TreeState) → IsRunThatStagedAndBeganFiles start [] None v first old → EachDenotes (files_of v) writes contents → IsRunThatStagedAndBeganFiles stage contents None v first now
all_staged start stage writes i old now past staged contents v first staging stand =
    let same = stand.same in
    subst (λ (l : List (List ℕ)). IsRunThatStagedAndBeganFiles stage l None v first now) (take_all i contents (omega (arith, past, same))) (staged contents v first staging stand)

-- ---- whatever the packages hold

-- so many of the writes have files with bytes that their sources may stand for
abbrev pub AreListedOn : Staging → Staging → List StagedWrite → ℕ → History → History → Type 0
AreListedOn start stage writes count old now =
    (v : TreeState) (first : List TreeState) → IsRunThatStagedAndBeganFiles start [] None v first old
    → (contents : List (List ℕ)) × EachMayDenote (take count writes) contents × IsRunThatStagedAndBeganFiles stage contents None v first now

may_more : (ws : List StagedWrite) (contents : List (List ℕ)) (w : StagedWrite) (bytes : List ℕ) → EachMayDenote ws contents → MayDenote w.source bytes → EachMayDenote (ws ++ w ∷ []) (contents ++ bytes ∷ [])
may_more [] [] w bytes may is = (is, tt)
may_more [] (own ∷ contents) w bytes may is = absurd may
may_more (x ∷ ws) [] w bytes may is = absurd may
may_more (x ∷ ws) (own ∷ contents) w bytes may is = (may.0, may_more ws contents w bytes may.1 is)

pub none_listed : (start : Staging) (writes : List StagedWrite) (old : History) → AreListedOn start start writes 0 old old
none_listed start writes old v first staging = ([], tt, staging)

pub listed_next : (start stage next : Staging) (writes : List StagedWrite) (i : ℕ) (w : StagedWrite) (old now later : History) → slice_get writes i ≡ Some w → AreListedOn start stage writes i old now
    → ((contents : List (List ℕ)) (v : TreeState) (first : List TreeState) → IsRunThatStagedAndBeganFiles stage contents None v first now → (bytes : List ℕ) × MayDenote w.source bytes × IsRunThatStagedAndBeganFiles next (contents ++ bytes ∷ []) None v first later)
    → AreListedOn start next writes (i + 1) old later
listed_next start stage next writes i w old now later at listed one v first staging =
    let so_far = listed v first staging in
    let found = one so_far.0 v first so_far.2 in (
      so_far.0 ++ found.0 ∷ [],
      subst (λ (ws : List StagedWrite). EachMayDenote ws (so_far.0 ++ found.0 ∷ [])) (sym (take_next writes i w at)) (may_more (take i writes) so_far.0 w found.0 so_far.1 found.1),
      found.2,
    )

-- only what waits has changed, whatever comes next
pub listed_run : (start stage : Staging) (writes : List StagedWrite) (i : ℕ) (old now later : History) → AreListedOn start stage writes i old now
    → ((contents : List (List ℕ)) (v : TreeState) (first : List TreeState) → IsRunThatStagedAndBeganFiles stage contents None v first now → IsStagingRun v first later)
    → (v : TreeState) (first : List TreeState) → IsRunThatStagedAndBeganFiles start [] None v first old → IsStagingRun v first later
listed_run start stage writes i old now later listed run v first staging =
    let found = listed v first staging in
    run found.0 v first found.2

pub all_listed : (start stage : Staging) (writes : List StagedWrite) (i : ℕ) (old now : History) → length writes ≤ i → AreListedOn start stage writes i old now
    → (v : TreeState) (first : List TreeState) → IsRunThatStagedAndBeganFiles start [] None v first old → (contents : List (List ℕ)) × EachMayDenote writes contents × IsRunThatStagedAndBeganFiles stage contents None v first now
all_listed start stage writes i old now past listed v first staging =
    let found = listed v first staging in
    (found.0, subst (λ (ws : List StagedWrite). EachMayDenote ws found.0) (take_all i writes past) found.1, found.2)
