-- What writes to the list of packages do to the candidates that they are.
use Rattle.std.proofs.Common.{◌≡◌, All, ℕ, zero, suc, ◌<◌, Bool, true, List, [], ◌∷◌, ◌++◌, length, length-append, map, get_or, refl, ap, sym, subst, ◌∙◌, arith}
use Rattle.std.specs.Prelude.{Option, Some, None, Result, Ok, Err, is_ok, if◌then◌else◌, slice_get}
use Rattle.std.proofs.lemmas.List.Elements.{All-append}
use Rattle.std.proofs.Math.ListN.{set}
use Rattle.candidate_core.specs.Candidates.{Candidate, as_installed}
use Rattle.candidate_core.specs.PackageWords.{IsPackageWordAmong}
use Rattle.candidate_core.specs.Packages.{candidate_among, candidate_in_source, marked_installed_at}
use Rattle.candidate_core.specs.declared.packages.PackageWord.{PackageWord}
use Rattle.candidate_core.specs.declared.packages.Source.{Source}

still_there : (xs : List Source) (x : Source) (i : ℕ) → i < length xs → slice_get (xs ++ x ∷ []) i ≡ slice_get xs i
still_there [] x i h = absurd (omega (arith, h))
still_there (y ∷ xs) x zero h = refl
still_there (y ∷ xs) x (suc i) h = still_there xs x i (omega (arith, h))

-- a further source changes no candidate
pub with_source : (ss : List Source) (s : Source) (ws : List PackageWord) → All (IsPackageWordAmong ss) ws → map (candidate_among (ss ++ s ∷ [])) ws ≡ map (candidate_among ss) ws
with_source ss s [] all = refl
with_source ss s (w ∷ ws) all =
    let here : candidate_among (ss ++ s ∷ []) w ≡ candidate_among ss w = ap (λ (o : Option Source). candidate_in_source o w.word w.installed) (still_there ss s w.source ((all 0 w (omega arith)).within)) in
    ap (λ (c : Candidate). c ∷ map (candidate_among (ss ++ s ∷ [])) ws) here
    ∙ ap (λ (cs : List Candidate). candidate_among ss w ∷ cs) (with_source ss s ws (λ i d h. all (suc i) d (omega (arith, h))))

-- a stored word is that of a package also after a further source
still_word : (ss : List Source) (s : Source) (w : PackageWord) → IsPackageWordAmong ss w → IsPackageWordAmong (ss ++ s ∷ []) w
still_word ss s w h = record {
  within = omega (arith, length-append ss (s ∷ []), h.within);
  of_source = λ o at. h.of_source o (sym (still_there ss s w.source h.within) ∙ at);
}

-- the stored words are those of packages also after a source was pushed, or was not
pub words_with_source : {A B : Type 0} (r : Result A B) (ss new : List Source) (s : Source) (ws : List PackageWord) → new ≡ (if is_ok r then ss ++ s ∷ [] else ss) → All (IsPackageWordAmong ss) ws → All (IsPackageWordAmong new) ws
words_with_source (Ok x) ss new s ws is all = λ k d h. subst (λ (z : List Source). IsPackageWordAmong z (get_or ws k d)) (sym is) (still_word ss s (get_or ws k d) (all k d h))
words_with_source (Err x) ss new s ws is all = λ k d h. subst (λ (z : List Source). IsPackageWordAmong z (get_or ws k d)) (sym is) (all k d h)

alone : (ss : List Source) (w : PackageWord) → IsPackageWordAmong ss w → All (IsPackageWordAmong ss) (w ∷ [])
alone ss w h zero d within = h
alone ss w h (suc k) d within = absurd (omega (arith, within))

-- the stored words are those of packages also after such a word was pushed, or was not
pub words_with_word : {A B : Type 0} (r : Result A B) (ss : List Source) (ws new : List PackageWord) (w : PackageWord) → new ≡ (if is_ok r then ws ++ w ∷ [] else ws) → IsPackageWordAmong ss w → All (IsPackageWordAmong ss) ws → All (IsPackageWordAmong ss) new
words_with_word (Ok x) ss ws new w is h all = subst (All (IsPackageWordAmong ss)) (sym is) (All-append (IsPackageWordAmong ss) ws (w ∷ []) all (alone ss w h))
words_with_word (Err x) ss ws new w is h all = subst (All (IsPackageWordAmong ss)) (sym is) all

-- the last element of a list is at the place that is the length of what is before it
pub last_there : {X : Type 0} (xs : List X) (x : X) → slice_get (xs ++ x ∷ []) (length xs) ≡ Some x
last_there [] x = refl
last_there (y ∷ xs) x = last_there xs x

marked_there : (o : Option Source) (word : ℕ) (installed : Bool) → candidate_in_source o word true ≡ as_installed (candidate_in_source o word installed)
marked_there None word installed = refl
marked_there (Some s) word installed = refl

abbrev pub set_mark : PackageWord → PackageWord
set_mark w = record { word = w.word; source = w.source; installed = true }

pub marked_word : (ss : List Source) (ws : List PackageWord) (k : ℕ) (w : PackageWord) → k < length ws → w ≡ get_or ws k w → map (candidate_among ss) (set ws k (set_mark w)) ≡ marked_installed_at k (map (candidate_among ss) ws)
marked_word ss [] k w h e = absurd (omega (arith, h))
marked_word ss (y ∷ ws) zero w h e =
    ap (λ (c : Candidate). c ∷ map (candidate_among ss) ws)
    (ap (λ (z : PackageWord). candidate_among ss (set_mark z)) e ∙ marked_there (slice_get ss y.source) y.word y.installed)
marked_word ss (y ∷ ws) (suc k) w h e = ap (λ (cs : List Candidate). candidate_among ss y ∷ cs) (marked_word ss ws k w (omega (arith, h)) e)

pub get_mapped : {X Y : Type 0} (f : X → Y) (xs : List X) (k : ℕ) (x : X) → slice_get xs k ≡ Some x → slice_get (map f xs) k ≡ Some (f x)
get_mapped f [] zero x h = absurd (cc)
get_mapped f [] (suc k) x h = absurd (cc)
get_mapped f (y ∷ xs) zero x h = let s : y ≡ x = cc in ap (λ z. Some (f z)) s
get_mapped f (y ∷ xs) (suc k) x h = get_mapped f xs k x h
