-- Loops that only read a tree, and gather what they find over its files.
use Rattle.std.proofs.Common.{◌≡◌, ℕ, suc, List, [], ◌∷◌, ◌++◌, length, Option, Ok, refl, ap}
use Rattle.base_core.specs.Faults.{Counts}
use Rattle.base_core.specs.Read.{OnlyReads}
use Rattle.base_core.specs.Tree.{TreeState}
use Rattle.base_core.proofs.Counting.{readings_two}
use Rattle.path_claim_lists.specs.path_claims.Claims.{PathClaim}
use Rattle.own_core.specs.Found.{AreAnswersByFiles, IsByFile}

any_answer : {A B E : Type 0} (disk : E) (h0 h1 : List TreeState) (a b : Counts) (x : A) (y : B) → OnlyReads disk h0 h1 a b (Ok x) → OnlyReads disk h0 h1 a b (Ok y)
any_answer disk h0 h1 a b x y h = record {
  same = h.same;
  goes_on = h.goes_on;
  disk = λ off. absurd (cc);
  kept = h.kept;
  others = tt;
  proper = h.proper;
}

pub reads_on : {A B E : Type 0} (disk : E) (h0 h1 h2 : List TreeState) (a b c : Counts) (x : A) (y : B) → OnlyReads disk h0 h1 a b (Ok x) → OnlyReads disk h1 h2 b c (Ok y) → OnlyReads disk h0 h2 a c (Ok x)
reads_on disk h0 h1 h2 a b c x y h k = any_answer disk h0 h2 a c y x (readings_two disk h0 h1 h2 a b c x (Ok y) h k)

-- ---- what was found so far, and one answer more

pub found_after : {Y : Type 0} (said : PathClaim → Option (List ℕ) → Y) (h : List TreeState) (cs : List PathClaim) (ys : List Y) (c : PathClaim) (y : Y)
    → AreAnswersByFiles said h cs ys → IsByFile said h c y → AreAnswersByFiles said h (cs ++ c ∷ []) (ys ++ y ∷ [])
found_after said h [] [] c y are is = (is, tt)
found_after said h [] (z ∷ ys) c y are is = absurd are
found_after said h (d ∷ cs) [] c y are is = absurd are
found_after said h (d ∷ cs) (z ∷ ys) c y are is = (are.0, found_after said h cs ys c y are.1 is)

pub found_len : {Y : Type 0} (said : PathClaim → Option (List ℕ) → Y) (h : List TreeState) (cs : List PathClaim) (ys : List Y) → AreAnswersByFiles said h cs ys → length ys ≡ length cs
found_len said h [] [] are = refl
found_len said h [] (y ∷ ys) are = absurd are
found_len said h (c ∷ cs) [] are = absurd are
found_len said h (c ∷ cs) (y ∷ ys) are = ap suc (found_len said h cs ys are.1)
