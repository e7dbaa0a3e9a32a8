-- What is gathered of the candidates of a version, one more at a time.
use Rattle.std.proofs.Common.{◌≡◌, inl, inr, ℕ, ◌+◌, Bool, false, List, [], ◌∷◌, ◌++◌, take, refl, sym, ap, subst, ◌∙◌}
use Rattle.std.specs.Prelude.{Option, Some, None, option_to_list, slice_get, ◌||◌}
use Rattle.std.specs.List.{cons_option, filter_map, list_any}
use Rattle.std.specs.List.Sorted.{IsPermutation, IsSorted}
use Rattle.std.specs.Ordering.{is_lt, nat_cmp}
use Rattle.std.proofs.lemmas.Cmp.{nat_cmp_total}
use Rattle.std.proofs.lemmas.List.Elements.{filter_map-append}
use Rattle.std.proofs.lemmas.List.Sorted.{IsPermutation-sym}
use Rattle.std.proofs.lemmas.Map.Keys.{ge_from_not_lt}
use Rattle.base_core.proofs.Sorting.{Each, Rises, ranks, rises_sorted}
use Rattle.pool_core.specs.candidate_core.Candidates.{Candidate}
use Rattle.pool_core.specs.candidate_core.Options.{IsIn}
use Rattle.pool_core.proofs.candidate_core.Steps.{any_snoc, take_one_more}
use Rattle.pool_core.specs.option_ranks.Ranking.{Ranking}
use Rattle.pool_core.specs.option_ranks.declared.rank.VersionKey.{VersionKey}
use Rattle.query_core.specs.QueryRanking.{have_same_version}
use Rattle.pool_core.proofs.option_ranks.MovedMembers.{moved_member}
use Rattle.query_core.specs.VersionPlaces.{AreNonDecreasing, ListsPlacesOf, version_places_from_parts}
use Rattle.query_core.proofs.RisingLines.{has_number, numbered, numbers_of}

-- the candidates of rankings
abbrev pub candidates_of : List Candidate → List Ranking → List Candidate
candidates_of cs rs = filter_map (λ (r : Ranking). slice_get cs r.place) rs

one_more : (cs : List Candidate) (rs : List Ranking) (i : ℕ) (r : Ranking) (d : Candidate) → slice_get rs i ≡ Some r → slice_get cs r.place ≡ Some d → candidates_of cs (take (i + 1) rs) ≡ candidates_of cs (take i rs) ++ d ∷ []
one_more cs rs i r d h e =
    ap (candidates_of cs) (take_one_more rs i r h)
    ∙ (filter_map-append (λ (q : Ranking). slice_get cs q.place) (take i rs) (r ∷ []) ∙ ap (λ (o : Option Candidate). candidates_of cs (take i rs) ++ cons_option o []) e)

pub installed_more : (cs : List Candidate) (rs : List Ranking) (i : ℕ) (r : Ranking) (d : Candidate) (before : Bool) → slice_get rs i ≡ Some r → slice_get cs r.place ≡ Some d → before ≡ list_any (λ (c : Candidate). c.installed) (candidates_of cs (take i rs)) → (before || d.installed) ≡ list_any (λ (c : Candidate). c.installed) (candidates_of cs (take (i + 1) rs))
installed_more cs rs i r d before h e was =
    ap (λ (b : Bool). b || d.installed) was
    ∙ (sym (any_snoc (λ (c : Candidate). c.installed) (candidates_of cs (take i rs)) d) ∙ ap (list_any (λ (c : Candidate). c.installed)) (sym (one_more cs rs i r d h e)))

-- the first candidate is that of the first ranking
pub first_is : (cs : List Candidate) (rs : List Ranking) (r : Ranking) (d c : Candidate) → slice_get rs 0 ≡ Some r → slice_get cs r.place ≡ Some d → slice_get (candidates_of cs rs) 0 ≡ Some c → d ≡ c
first_is cs [] r d c h e s = absurd (cc)
first_is cs (q ∷ rs) r d c h e s =
    let same : q ≡ r = cc in
    let at : slice_get cs q.place ≡ Some d = ap (λ (z : Ranking). slice_get cs z.place) same ∙ e in
    let both : Some d ≡ Some c = rw at at s in
    cc

-- what the key says of two rankings, it says of the rankings at these places
pub same_at : (key : VersionKey) (rs : List Ranking) (i j : ℕ) (x y a b : Ranking) (is : Bool) → slice_get rs i ≡ Some x → slice_get rs j ≡ Some y → have_same_version key x y ≡ is → slice_get rs i ≡ Some a → slice_get rs j ≡ Some b → have_same_version key a b ≡ is
same_at key rs i j x y a b is at_x at_y h at_a at_b =
    let first : a ≡ x = cc in
    let second : b ≡ y = cc in
    (λ k. have_same_version key (first k) (second k)) ∙ h

single : (o : Option ℕ) → option_to_list o ≡ cons_option o []
single None = refl
single (Some n) = refl

pub numbers_more : (cs : List Candidate) (rs : List Ranking) (i : ℕ) (r : Ranking) (d : Candidate) (before after : List ℕ) → slice_get rs i ≡ Some r → slice_get cs r.place ≡ Some d → before ≡ numbers_of (candidates_of cs (take i rs)) → after ≡ before ++ option_to_list d.repository → after ≡ numbers_of (candidates_of cs (take (i + 1) rs))
numbers_more cs rs i r d before after h e was is =
    is
    ∙ (ap (λ (ns : List ℕ). ns ++ option_to_list d.repository) was
    ∙ (ap (λ (ns : List ℕ). numbers_of (candidates_of cs (take i rs)) ++ ns) (single d.repository)
    ∙ (sym (filter_map-append (λ (c : Candidate). c.repository) (candidates_of cs (take i rs)) (d ∷ [])) ∙ ap numbers_of (sym (one_more cs rs i r d h e)))))

-- ---- sorted numbers

pub each_in : {X : Type 0} (P : X → Type 0) (xs : List X) (x : X) → Each P xs → IsIn x xs → P x
each_in P [] x all h = absurd h
each_in P (y ∷ xs) x all (inl e) = subst P (sym e) all.0
each_in P (y ∷ xs) x all (inr h) = each_in P xs x all.1 h

never_fall : (ns : List ℕ) → Rises (λ m n. is_lt (nat_cmp m n)) (ranks nat_cmp nat_cmp_total) ns → AreNonDecreasing ns
never_fall [] h = tt
never_fall (n ∷ ns) h = ((λ m g. ge_from_not_lt m n (each_in (λ (k : ℕ). is_lt (nat_cmp k n) ≡ false) ns m h.0 g)), never_fall ns h.1)

pub gathered : (those : List Candidate) (version : Option (List ℕ)) (is_installed : Bool) (numbers sorted : List ℕ) → is_installed ≡ list_any (λ (c : Candidate). c.installed) those → numbers ≡ numbers_of those → IsPermutation numbers sorted → IsSorted nat_cmp sorted → ListsPlacesOf those (version_places_from_parts version is_installed sorted)
gathered those version is_installed numbers sorted installed is moved up = record {
  installed = sym installed;
  order = never_fall sorted (rises_sorted (λ m n. is_lt (nat_cmp m n)) (ranks nat_cmp nat_cmp_total) sorted up);
  each = λ n h. numbered n those (subst (λ (ns : List ℕ). IsIn n ns) is (moved_member sorted numbers n (IsPermutation-sym numbers sorted moved) h));
  all = λ n h. moved_member numbers sorted n moved (subst (λ (ns : List ℕ). IsIn n ns) (sym is) (has_number n those h));
}
