-- Words in byte order: whether a word is one of them, and what is marked by them.
use Rattle.std.proofs.Common.{◌≡◌, ⊎_elim, ◌<◌, ◌+◌, ◌++◌, Bor, Bool, true, false, List, [], ◌∷◌, length, take, get_or, map, Result, Ok, Err, refl, sym, ap, subst, ◌∙◌, arith, is_ok}
use Rattle.std.specs.Prelude.{ℕ, ◌&&◌, not, slice_get, Some}
use Rattle.std.specs.List.{All, HoldsAt, list_any}
use Rattle.std.specs.List.Sorted.{IsBinarySearchResult, IsPartitionPoint, IsPermutation, IsSearchInRange, IsSorted}
use Rattle.std.specs.Ordering.{is_eq, ordering_reverse}
use Rattle.std.specs.declared.cmp.Ordering.{Ordering}
use Rattle.std.specs.declared.cmp.Ordering.TheVariants.{Less, Equal, Greater}
use Rattle.std.specs.Str.{bytes_eq}
use Rattle.std.proofs.lemmas.Bool.{cases_lt}
use Rattle.std.proofs.lemmas.Cmp.{nat_list_cmp_total}
use Rattle.std.proofs.lemmas.List.{map-append, take_more}
use Rattle.std.proofs.lemmas.List.Folds.{list_any_at, list_any_none}
use Rattle.std.proofs.lemmas.List.Sorted.{IsPermutation-map, list_any-IsPermutation, searchable_from_sorted}
use Rattle.std.proofs.lemmas.Map.Text.{is_eq-slice_cmp}
use Rattle.std.proofs.lemmas.Option.{get_or_from_slice_get, slice_get_within}
use Rattle.option_ranks.specs.candidate_core.Candidates.{Candidate}
use Rattle.option_ranks.specs.candidate_core.Rank.{bytes_cmp, is_kept_installed, listed_names}
use Rattle.option_ranks.proofs.candidate_core.Anyone.{any_map}

-- ---- the binary search

eq_by : (a word : List ℕ) (o : Ordering) → bytes_cmp a word ≡ o → bytes_eq word a ≡ is_eq (ordering_reverse o)
eq_by a word o is = sym (is_eq-slice_cmp word a) ∙ ap is_eq (nat_list_cmp_total.antisymm word a ∙ ap ordering_reverse is)

found_at : (xs : List (Bor (List ℕ))) (word : List ℕ) (i : ℕ) → i < length xs → HoldsAt (λ (x : Bor (List ℕ)). bytes_cmp x.now word ≡ Equal) xs i → list_any (λ (x : Bor (List ℕ)). bytes_eq word x.now) xs ≡ true
found_at [] word i within here = absurd (omega arith)
found_at (x ∷ xs) word i within here =
    list_any_at (λ (y : Bor (List ℕ)). bytes_eq word y.now) (x ∷ xs) i x within (eq_by (get_or (x ∷ xs) i x).now word Equal (here x))

found_nowhere : (xs : List (Bor (List ℕ))) (word : List ℕ) (i : ℕ) → IsPartitionPoint (λ (x : Bor (List ℕ)). bytes_cmp x.now word ≡ Less) (λ (x : Bor (List ℕ)). bytes_cmp x.now word ≡ Greater) xs i → list_any (λ (x : Bor (List ℕ)). bytes_eq word x.now) xs ≡ false
found_nowhere xs word i point = list_any_none (λ (x : Bor (List ℕ)). bytes_eq word x.now) xs each
  where
    each : All (λ (x : Bor (List ℕ)). bytes_eq word x.now ≡ false) xs
    each k d within =
        ⊎_elim (λ early. eq_by (get_or xs k d).now word Less (point.0 k d (omega arith) early)) (λ late. eq_by (get_or xs k d).now word Greater (point.1 k d late within))
        (cases_lt k i)

searched : (xs : List (Bor (List ℕ))) (word : List ℕ) (r : Result ℕ ℕ) → IsSorted (λ (a b : Bor (List ℕ)). bytes_cmp a.now b.now) xs → IsSearchInRange r (length xs)
    → IsBinarySearchResult (λ (x : Bor (List ℕ)). bytes_cmp x.now word) xs r → is_ok r ≡ list_any (λ (x : Bor (List ℕ)). bytes_eq word x.now) xs
searched xs word (Ok i) up bound found = sym (found_at xs word i bound found)
searched xs word (Err i) up bound found =
    sym (found_nowhere xs word i (found (searchable_from_sorted nat_list_cmp_total (λ (x : Bor (List ℕ)). x.now) xs word up)))

pub searched_words : (ds xs : List (Bor (List ℕ))) (word : List ℕ) (r : Result ℕ ℕ) → ds ≡ xs → IsSorted (λ (a b : Bor (List ℕ)). bytes_cmp a.now b.now) xs → IsSearchInRange r (length ds)
    → IsBinarySearchResult (λ (x : Bor (List ℕ)). bytes_cmp x.now word) ds r → is_ok r ≡ list_any (bytes_eq word) (map (λ x. x.now) xs)
searched_words ds xs word r e up bound found =
    searched xs word r up (subst (λ (l : List (Bor (List ℕ))). IsSearchInRange r (length l)) e bound) (subst (λ (l : List (Bor (List ℕ))). IsBinarySearchResult (λ (x : Bor (List ℕ)). bytes_cmp x.now word) l r) e found)
    ∙ sym (any_map (bytes_eq word) (λ (x : Bor (List ℕ)). x.now) xs)

-- ---- the words in order

pub one_word_more : (before after : List (Bor (List ℕ))) (x : Bor (List ℕ)) (words : List (List ℕ)) (i : ℕ) → after ≡ before ++ x ∷ [] → slice_get words i ≡ Some x.now → map (λ w. w.now) before ≡ take i words → map (λ w. w.now) after ≡ take (i + 1) words
one_word_more before after x words i is there so_far =
    ap (map (λ (w : Bor (List ℕ)). w.now)) is
    ∙ (map-append (λ (w : Bor (List ℕ)). w.now) before (x ∷ [])
    ∙ (ap (λ (zs : List (List ℕ)). zs ++ x.now ∷ []) so_far
    ∙ sym (take_more words i [] (slice_get_within words i x.now there) ∙ ap (λ (w : List ℕ). take i words ++ w ∷ []) (get_or_from_slice_get words i x.now [] there))))

pub sorted_words : (words : List (List ℕ)) (before after : List (Bor (List ℕ))) → map (λ x. x.now) before ≡ words → IsPermutation before after → IsPermutation words (map (λ x. x.now) after)
sorted_words words before after is moved =
    subst (λ (ws : List (List ℕ)). IsPermutation ws (map (λ (x : Bor (List ℕ)). x.now) after)) is (IsPermutation-map (λ (x : Bor (List ℕ)). x.now) before after moved)

-- ---- marks

-- the order of the names does not matter
pub kept_by_sorted : (names sorted : List (List ℕ)) (cs : List Candidate) → IsPermutation names sorted → map (is_kept_installed (listed_names sorted)) cs ≡ map (is_kept_installed (listed_names names)) cs
kept_by_sorted names sorted [] same = refl
kept_by_sorted names sorted (c ∷ cs) same =
    ap (λ (b : Bool). (c.installed && not b) ∷ map (is_kept_installed (listed_names sorted)) cs) (sym (list_any-IsPermutation (bytes_eq c.name) names sorted same))
    ∙ ap (λ (ms : List Bool). is_kept_installed (listed_names names) c ∷ ms) (kept_by_sorted names sorted cs same)
