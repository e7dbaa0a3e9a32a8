-- The writes of the program are the change's.
use Rattle.std.proofs.Common.{◌≡◌, ◌⊎◌, inl, inr, ℕ, Bool, true, false, cond, List, [], ◌∷◌, ◌++◌, length, map, Option, Some, None, refl, ap, sym, ◌∙◌, subst, true≢false, Less}
use Rattle.std.specs.Prelude.{◌&&◌, ◌||◌, option_map, option_and_then, bytes_eq, is_some, if◌then◌else◌, not, nat_le}
use Rattle.std.specs.Cmp.{IsTotalOrder}
use Rattle.std.specs.Cmp.Lexicographic.{bytes_decides}
use Rattle.std.specs.List.{cons_option, filter, filter_map, find}
use Rattle.std.specs.Ordering.{is_gt, is_lt}
use Rattle.std.proofs.lemmas.Cmp.{nat_list_cmp_total, on_total}
use Rattle.base_core.specs.Files.{Files}
use Rattle.base_core.proofs.Rising as Names
use Rattle.base_core.specs.ByteOrder.{bytes_cmp}
use Rattle.base_core.specs.Sorted.{sorted_by, with_element_inserted}
use Rattle.base_core.proofs.Sorting as Sorting
use Rattle.base_core.proofs.Sorting.{Each, sort_seen, sorted_up, stable}
use Rattle.file_owners.specs.db_core.Members.{Listing}
use Rattle.path_claim_lists.specs.path_claims.Claims.{PathClaim, claim_cmp, is_claim_of_path}
use Rattle.path_claim_lists.proofs.Firsts.{found_in, paths}
use Rattle.path_claim_lists.proofs.Lists.{found_is}
use Rattle.path_claim_lists.proofs.PathOrder.{behind, less_apart}
use Rattle.file_owners.specs.Owners.{claims_in}
use Rattle.own_core.specs.Fate as Fates
use Rattle.own_core.specs.Fate.{agrees_with_old_entry, apk_new_name, fate_with_file_found, fate_of, goes_aside, goes_in, gives_way, is_as_old_entry_lists, is_protected_path}
use Rattle.file_guard.specs.AsListed.{is_as_listed}
use Rattle.own_core.specs.FileChange.{FileChange, added_owner_listing, is_listed_after_change, old_file_entry}
use Rattle.own_core.specs.FilesAfter.{if_written_as_apk_new, if_written_in_place, listing_written_as_apk_new_beside, path_of_apk_new_name, listing_written_under_name, listing_written_in_place}
use Rattle.std.specs.Option.{option_or}
use Rattle.base_core.proofs.Orderings.{is_less}
use Rattle.base_core.proofs.Listed.{in_both}
use Rattle.own_core.specs.NamesAfter.{added_paths}
use Rattle.own_core.specs.PlanLists.{FileWrite, file_writes_of, sorted_distinct_names, file_write_under_name}
use Rattle.own_core.proofs.InOrder.{from_with, in_sorted, from_sorted}
use Rattle.own_core.proofs.ComingFiles.{no_owner}
use Rattle.own_core.specs.ClaimEntries.{claim_entry, is_of_added_owner}
use Rattle.own_core.specs.Fates.{claim_fate, are_equal_fates}
use Rattle.own_core.specs.WritesSeen.{apk_new_write, claim_write, write_of_claim_under, write_cmp}
use Rattle.own_core.proofs.Endings.{found_front, front_of}
use Rattle.own_core.proofs.Listings.{GoTogether, IsClaimFor}
use Rattle.own_core.proofs.Meaning.{in_coming_paths, in_is, is_there, laid_is, same_fate, there_is, together, with_fate}
use Rattle.own_core.proofs.NamesOnce.{kept_rises, not_below, same_names}

-- ---- lists of different names

abbrev pub Distinct : List (List ℕ) → Type 0
Distinct [] = Unit {0}
Distinct (x ∷ xs) = (Names.IsIn x xs → ⊥) × Distinct xs

distinct_with : (x : List ℕ) (ys : List (List ℕ)) → (Names.IsIn x ys → ⊥) → Distinct ys → Distinct (with_element_inserted bytes_cmp x ys)
distinct_with x [] n d = (λ here. here, tt)
distinct_with x (y ∷ ys) n d = go (is_gt (bytes_cmp x y)) (distinct_with x ys (λ here. n (inr here)) d.1)
  where
    go : (b : Bool) → Distinct (with_element_inserted bytes_cmp x ys) → Distinct (if b then y ∷ with_element_inserted bytes_cmp x ys else x ∷ y ∷ ys)
    go true rest = (λ here. elim (from_with y x ys here) [ inl is ↦ n (inl (sym is)) | inr old ↦ d.0 old ], rest)
    go false rest = (n, d)

distinct_sorted : (xs : List (List ℕ)) → Distinct xs → Distinct (sorted_by bytes_cmp xs)
distinct_sorted [] d = tt
distinct_sorted (x ∷ xs) d = distinct_with x (sorted_by bytes_cmp xs) (λ here. d.0 (from_sorted x xs here)) (distinct_sorted xs d.1)

strictly : (xs : List (List ℕ)) → Sorting.Rises (λ x y. is_lt (bytes_cmp x y)) (Sorting.ranks bytes_cmp nat_list_cmp_total) xs → Distinct xs → Names.Rises xs
strictly [] up d = tt
strictly (x ∷ xs) up d = (λ q here. is_less (bytes_cmp x q) (behind q x (not_below x xs up.0 q here) (apart q here)), strictly xs up.1 d.1)
  where
    apart : (q : List ℕ) → Names.IsIn q xs → bytes_eq q x ≡ false
    apart q here = go (bytes_eq q x) refl
      where
        go : (b : Bool) → bytes_eq q x ≡ b → b ≡ false
        go true e = absurd (d.0 (subst (λ z. Names.IsIn z xs) ((bytes_decides q x).0 e) here))
        go false e = refl

pub sorted_rises : (xs : List (List ℕ)) → Distinct xs → Names.Rises (sorted_by bytes_cmp xs)
sorted_rises xs d = strictly (sorted_by bytes_cmp xs) (Sorting.rises_in_order bytes_cmp nat_list_cmp_total xs) (distinct_sorted xs d)

abbrev pub write_names : List FileWrite → List (List ℕ)
write_names ws = map (λ w. w.name) ws

pub writes_total : IsTotalOrder write_cmp
writes_total = on_total (λ w. w.name) nat_list_cmp_total

pub names_sorted : (ws : List FileWrite) → write_names (sorted_by write_cmp ws) ≡ sorted_by bytes_cmp (write_names ws)
names_sorted ws = sort_seen (λ w. w.name) bytes_cmp nat_list_cmp_total ws (sorted_by write_cmp ws) (sorted_up write_cmp writes_total ws) (stable write_cmp writes_total ws)

-- ---- each element of a sorted list

each_with : (P : FileWrite → Type 0) (x : FileWrite) (ys : List FileWrite) → P x → Each P ys → Each P (with_element_inserted write_cmp x ys)
each_with P x [] px h = (px, tt)
each_with P x (y ∷ ys) px h = go (is_gt (write_cmp x y)) (each_with P x ys px h.1)
  where
    go : (b : Bool) → Each P (with_element_inserted write_cmp x ys) → Each P (if b then y ∷ with_element_inserted write_cmp x ys else x ∷ y ∷ ys)
    go true rest = (h.0, rest)
    go false rest = (px, h)

each_sorted : (P : FileWrite → Type 0) (xs : List FileWrite) → Each P xs → Each P (sorted_by write_cmp xs)
each_sorted P [] h = tt
each_sorted P (x ∷ xs) h = each_with P x (sorted_by write_cmp xs) h.0 (each_sorted P xs h.1)

-- ---- a list by a function of names

by_names : (f : List ℕ → Option FileWrite) (ws : List FileWrite) → Each (λ w. f w.name ≡ Some w) ws → filter_map f (write_names ws) ≡ ws
by_names f [] h = refl
by_names f (w ∷ ws) h = (λ j. cons_option (h.0 j) (by_names f ws h.1 j))

those_only : (f : List ℕ → Option FileWrite) (xs : List (List ℕ)) → filter_map f (filter (λ q. is_some (f q)) xs) ≡ filter_map f xs
those_only f [] = refl
those_only f (x ∷ xs) = go (f x) refl (those_only f xs)
  where
    go : (o : Option FileWrite) → f x ≡ o → filter_map f (filter (λ q. is_some (f q)) xs) ≡ filter_map f xs
        → filter_map f (cond (is_some o) (x ∷ filter (λ q. is_some (f q)) xs) (filter (λ q. is_some (f q)) xs)) ≡ cons_option o (filter_map f xs)
    go None e rest = rest
    go (Some w) e rest = (λ j. cons_option (e j) (rest j))

-- ---- the names of the writes

names_of_in : (cs : List PathClaim) → write_names (map claim_write cs) ≡ paths cs
names_of_in [] = refl
names_of_in (c ∷ cs) = ap (λ r. c.path ∷ r) (names_of_in cs)

names_of_beside : (cs : List PathClaim) → write_names (map apk_new_write cs) ≡ map apk_new_name (paths cs)
names_of_beside [] = refl
names_of_beside (c ∷ cs) = ap (λ r. apk_new_name c.path ∷ r) (names_of_beside cs)

names_both : (xs ys : List FileWrite) → write_names (xs ++ ys) ≡ write_names xs ++ write_names ys
names_both [] ys = refl
names_both (x ∷ xs) ys = ap (λ r. x.name ∷ r) (names_both xs ys)

both_in : (q : List ℕ) (xs ys : List (List ℕ)) → Names.IsIn q xs ⊎ Names.IsIn q ys → Names.IsIn q (xs ++ ys)
both_in q [] ys (inl a) = absurd a
both_in q [] ys (inr b) = b
both_in q (x ∷ xs) ys (inl (inl is)) = inl is
both_in q (x ∷ xs) ys (inl (inr old)) = inr (both_in q xs ys (inl old))
both_in q (x ∷ xs) ys (inr b) = inr (both_in q xs ys (inr b))

in_aside : (q : List ℕ) (xs : List (List ℕ)) → Names.IsIn q (map apk_new_name xs) → (p : List ℕ) × (q ≡ apk_new_name p) × Names.IsIn p xs
in_aside q [] here = absurd here
in_aside q (x ∷ xs) (inl is) = (x, is, inl refl)
in_aside q (x ∷ xs) (inr old) = let f = in_aside q xs old in (f.0, f.1, inr f.2)

aside_in : (p : List ℕ) (xs : List (List ℕ)) → Names.IsIn p xs → Names.IsIn (apk_new_name p) (map apk_new_name xs)
aside_in p [] here = here
aside_in p (x ∷ xs) (inl is) = inl (ap apk_new_name is)
aside_in p (x ∷ xs) (inr old) = inr (aside_in p xs old)

-- a name beside is that of one path
one_aside : (p q : List ℕ) → apk_new_name p ≡ apk_new_name q → p ≡ q
one_aside p q e = let same : Some p ≡ Some q = sym (front_of p) ∙ (ap path_of_apk_new_name e ∙ front_of q) in cc

rising_apart : (xs : List (List ℕ)) → Names.Rises xs → Distinct xs
rising_apart [] r = tt
rising_apart (x ∷ xs) r = (λ here. itself x (r.0 x here), rising_apart xs r.1)
  where
    itself : (x : List ℕ) → bytes_cmp x x ≡ Less → ⊥
    itself x less = true≢false (sym (ap is_lt less) ∙ (Sorting.ranks bytes_cmp nat_list_cmp_total).one_way x x (ap is_lt less))

aside_apart : (xs : List (List ℕ)) → Distinct xs → Distinct (map apk_new_name xs)
aside_apart [] d = tt
aside_apart (x ∷ xs) d = (λ here. (let f = in_aside (apk_new_name x) xs here in d.0 (subst (λ p. Names.IsIn p xs) (sym (one_aside x f.0 f.1)) f.2)), aside_apart xs d.1)

pub both_apart : (xs ys : List (List ℕ)) → Distinct xs → Distinct ys → ((q : List ℕ) → Names.IsIn q xs → Names.IsIn q ys → ⊥) → Distinct (xs ++ ys)
both_apart [] ys d e n = e
both_apart (x ∷ xs) ys d e n = (λ here. elim (in_both x xs ys here) [ inl a ↦ d.0 a | inr b ↦ n x (inl refl) b ], both_apart xs ys d.1 e (λ q a b. n q (inr a) b))

-- over any tree: claimed paths and names beside that are not
pub writes_rise : (change : FileChange) (ins asides : List PathClaim) → Names.Rises (paths ins) → Names.Rises (paths asides)
    → ((q : List ℕ) → Names.IsIn q (paths ins) → is_listed_after_change change q ≡ true) → ((q : List ℕ) → Names.IsIn q (paths asides) → is_listed_after_change change (apk_new_name q) ≡ false)
    → Names.Rises (write_names (sorted_by write_cmp (map claim_write ins ++ map apk_new_write asides)))
writes_rise change ins asides a b claimed free =
    subst Names.Rises (sym (names_sorted (map claim_write ins ++ map apk_new_write asides)))
    (sorted_rises (write_names (map claim_write ins ++ map apk_new_write asides))
    (subst Distinct (sym (names_both (map claim_write ins) (map apk_new_write asides) ∙ (λ j. names_of_in ins j ++ names_of_beside asides j)))
    (both_apart (paths ins) (map apk_new_name (paths asides)) (rising_apart (paths ins) a) (aside_apart (paths asides) (rising_apart (paths asides) b)) apart)))
  where
    apart : (q : List ℕ) → Names.IsIn q (paths ins) → Names.IsIn q (map apk_new_name (paths asides)) → ⊥
    apart q here there =
        let f = in_aside q (paths asides) there in
        true≢false (sym (claimed q here) ∙ (ap (is_listed_after_change change) f.1 ∙ free f.0 f.2))

-- ---- over the files of the tree

each_to : {X : Type 0} (P Q : X → Type 0) → ((x : X) → P x → Q x) → (xs : List X) → Each P xs → Each Q xs
each_to P Q f [] h = tt
each_to P Q f (x ∷ xs) h = (f x h.0, each_to P Q f xs h.1)

each_two : {X : Type 0} (P Q R : X → Type 0) → ((x : X) → P x → Q x → R x) → (xs : List X) → Each P xs → Each Q xs → Each R xs
each_two P Q R f [] h k = tt
each_two P Q R f (x ∷ xs) h k = (f x h.0 k.0, each_two P Q R f xs h.1 k.1)

each_own : (cs : List PathClaim) → Each (λ d. Names.IsIn d.path (paths cs)) cs
each_own [] = tt
each_own (c ∷ cs) = (inl refl, each_to (λ d. Names.IsIn d.path (paths cs)) (λ d. Names.IsIn d.path (paths (c ∷ cs))) (λ d here. inr here) cs (each_own cs))

pub each_finds_itself : (cs : List PathClaim) → Names.Rises (paths cs) → Each (λ c. find (is_claim_of_path c.path) cs ≡ Some c) cs
each_finds_itself [] r = tt
each_finds_itself (c ∷ cs) r = (
  ap (λ b. cond b (Some c) (find (is_claim_of_path c.path) cs)) ((bytes_decides c.path c.path).1 refl),
  each_two (λ d. find (is_claim_of_path d.path) cs ≡ Some d) (λ d. Names.IsIn d.path (paths cs)) (λ d. find (is_claim_of_path d.path) (c ∷ cs) ≡ Some d) past cs (each_finds_itself cs r.1) (each_own cs),
)
  where
    past : (d : PathClaim) → find (is_claim_of_path d.path) cs ≡ Some d → Names.IsIn d.path (paths cs) → find (is_claim_of_path d.path) (c ∷ cs) ≡ Some d
    past d f here = ap (λ b. cond b (Some c) (find (is_claim_of_path d.path) cs)) (less_apart c.path d.path (ap is_lt (r.0 d.path here))) ∙ f

each_passing : (P : PathClaim → Type 0) (t : PathClaim → Bool) (xs : List PathClaim) → Each P xs → Each (λ c. P c × (t c ≡ true)) (filter t xs)
each_passing P t [] h = tt
each_passing P t (x ∷ xs) h = go (t x) refl (each_passing P t xs h.1)
  where
    go : (b : Bool) → t x ≡ b → Each (λ c. P c × (t c ≡ true)) (filter t xs) → Each (λ c. P c × (t c ≡ true)) (cond b (x ∷ filter t xs) (filter t xs))
    go true e rest = ((h.0, e), rest)
    go false e rest = rest

each_written : (P : PathClaim → Type 0) (Q : FileWrite → Type 0) (g : PathClaim → FileWrite) → ((c : PathClaim) → P c → Q (g c)) → (cs : List PathClaim) → Each P cs → Each Q (map g cs)
each_written P Q g f [] h = tt
each_written P Q g f (c ∷ cs) h = (f c h.0, each_written P Q g f cs h.1)

each_joined : (P : FileWrite → Type 0) (xs ys : List FileWrite) → Each P xs → Each P ys → Each P (xs ++ ys)
each_joined P [] ys h k = k
each_joined P (x ∷ xs) ys h k = (h.0, each_joined P xs ys h.1 k)

is_in : (f : Fates.AddedFileFate) → are_equal_fates goes_in f ≡ true → f ≡ goes_in
is_in goes_in h = refl
is_in gives_way h = absurd (true≢false (sym h))
is_in goes_aside h = absurd (true≢false (sym h))

pub is_aside : (f : Fates.AddedFileFate) → are_equal_fates goes_aside f ≡ true → f ≡ goes_aside
is_aside goes_in h = absurd (true≢false (sym h))
is_aside gives_way h = absurd (true≢false (sym h))
is_aside goes_aside h = refl

-- a file goes aside only if nobody lists the name beside
pub free_beside : (change : FileChange) (files : Files) (c : PathClaim) → are_equal_fates goes_aside (claim_fate change c (files c.path)) ≡ true → is_listed_after_change change (apk_new_name c.path) ≡ false
free_beside change files c h = by_file (files c.path) h
  where
    third : (a b d : Bool) → are_equal_fates goes_aside (if a && (b && not d) then goes_aside else gives_way) ≡ true → d ≡ false
    third true true true h = absurd (true≢false (sym h))
    third true true false h = refl
    third true false d h = absurd (true≢false (sym h))
    third false b d h = absurd (true≢false (sym h))

    by_test : (t a b d : Bool) → are_equal_fates goes_aside (if t then goes_in else (if a && (b && not d) then goes_aside else gives_way)) ≡ true → d ≡ false
    by_test true a b d h = absurd (true≢false (sym h))
    by_test false a b d h = third a b d h

    by_file : (o : Option (List ℕ)) → are_equal_fates goes_aside (fate_with_file_found change c.path (claim_entry change.members c) o) ≡ true → is_listed_after_change change (apk_new_name c.path) ≡ false
    by_file None h = absurd (true≢false (sym h))
    by_file (Some bytes) h =
        by_test (not (is_protected_path c.path) || (is_as_listed (claim_entry change.members c) bytes || is_as_old_entry_lists (old_file_entry change c.path) bytes))
        (not (agrees_with_old_entry (old_file_entry change c.path) (claim_entry change.members c))) (nat_le (length (apk_new_name c.path)) 1024) (is_listed_after_change change (apk_new_name c.path)) h

module _ (change : FileChange) (files : Files) (coming : List PathClaim) (up : Names.Rises (paths coming))
    (each : (q : List ℕ) → find (is_claim_of_path q) coming ≡ find (is_claim_of_path q) (filter (is_of_added_owner change.members) (sorted_by claim_cmp (claims_in change.members)))) where
  abbrev ins : List PathClaim
  ins = with_fate change files coming up each goes_in

  abbrev asides : List PathClaim
  asides = with_fate change files coming up each goes_aside

  abbrev as_written : List ℕ → Option FileWrite
  as_written name = option_map (file_write_under_name name) (listing_written_under_name change files name)

  same_write : (name : List ℕ) (l : Listing) (c : PathClaim) → IsClaimFor l c → file_write_under_name name l ≡ write_of_claim_under name c
  same_write name l c h = (λ j. record { name = name; member = sym h.member j; folder = sym h.folder j; file = sym h.file j })

  owner_claim : (c : PathClaim) → find (is_claim_of_path c.path) coming ≡ Some c → GoTogether (added_owner_listing change c.path) (Some c)
  owner_claim c f = subst (GoTogether (added_owner_listing change c.path)) f (together change files coming up each c.path)

  in_as_written : (c : PathClaim) → (find (is_claim_of_path c.path) coming ≡ Some c) × (are_equal_fates goes_in (claim_fate change c (files c.path)) ≡ true) → as_written c.path ≡ Some (claim_write c)
  unfolding listing_written_under_name
  in_as_written c h = go (added_owner_listing change c.path) refl (owner_claim c h.0)
    where
      go : (a : Option Listing) → added_owner_listing change c.path ≡ a → GoTogether a (Some c)
          → option_map (file_write_under_name c.path) (option_or (option_and_then (λ l. if_written_in_place l (fate_of change files l)) a) (option_and_then (listing_written_as_apk_new_beside change files) (path_of_apk_new_name c.path))) ≡ Some (claim_write c)
      go None e k = absurd k
      go (Some l) e k =
          ap (λ f. option_map (file_write_under_name c.path) (option_or (if_written_in_place l f) (option_and_then (listing_written_as_apk_new_beside change files) (path_of_apk_new_name c.path)))) (sym (same_fate change files c.path l c e k) ∙ is_in (claim_fate change c (files c.path)) h.1)
          ∙ ap Some (same_write c.path l c k)

  aside_as_written : (c : PathClaim) → (find (is_claim_of_path c.path) coming ≡ Some c) × (are_equal_fates goes_aside (claim_fate change c (files c.path)) ≡ true) → as_written (apk_new_name c.path) ≡ Some (apk_new_write c)
  unfolding listing_written_under_name
  aside_as_written c h =
      (λ j. option_map (file_write_under_name (apk_new_name c.path)) (option_or (option_and_then (λ l. if_written_in_place l (fate_of change files l)) (no_owner change (apk_new_name c.path) (free_beside change files c h.1) j)) (option_and_then (listing_written_as_apk_new_beside change files) (front_of c.path j))))
      ∙ go (added_owner_listing change c.path) refl (owner_claim c h.0)
    where
      go : (a : Option Listing) → added_owner_listing change c.path ≡ a → GoTogether a (Some c)
          → option_map (file_write_under_name (apk_new_name c.path)) (option_and_then (λ l. if_written_as_apk_new l (fate_of change files l)) a) ≡ Some (apk_new_write c)
      go None e k = absurd k
      go (Some l) e k =
          ap (λ f. option_map (file_write_under_name (apk_new_name c.path)) (if_written_as_apk_new l f)) (sym (same_fate change files c.path l c e k) ∙ is_aside (claim_fate change c (files c.path)) h.1)
          ∙ ap Some (same_write (apk_new_name c.path) l c k)

  abbrev pub all_writes : List FileWrite
  all_writes = map claim_write ins ++ map apk_new_write asides

  all_as_written : Each (λ w. as_written w.name ≡ Some w) all_writes
  all_as_written = each_joined (λ w. as_written w.name ≡ Some w) (map claim_write ins) (map apk_new_write asides)
      (each_written (λ c. (find (is_claim_of_path c.path) coming ≡ Some c) × (are_equal_fates goes_in (claim_fate change c (files c.path)) ≡ true)) (λ w. as_written w.name ≡ Some w) claim_write in_as_written ins
      (each_passing (λ c. find (is_claim_of_path c.path) coming ≡ Some c) (λ c. are_equal_fates goes_in (claim_fate change c (files c.path))) coming (each_finds_itself coming up)))
      (each_written (λ c. (find (is_claim_of_path c.path) coming ≡ Some c) × (are_equal_fates goes_aside (claim_fate change c (files c.path)) ≡ true)) (λ w. as_written w.name ≡ Some w) apk_new_write aside_as_written asides
      (each_passing (λ c. find (is_claim_of_path c.path) coming ≡ Some c) (λ c. are_equal_fates goes_aside (claim_fate change c (files c.path))) coming (each_finds_itself coming up)))

  claimed_in : (q : List ℕ) → Names.IsIn q (paths ins) → is_listed_after_change change q ≡ true
  claimed_in q here = go (is_listed_after_change change q) refl
    where
      comes : is_some (added_owner_listing change q) ≡ true
      comes = by_owner (added_owner_listing change q) (in_is change files coming up each q ∙ is_there ins q here)
        where
          by_owner : (a : Option Listing) → is_some (option_and_then (λ l. if_written_in_place l (fate_of change files l)) a) ≡ true → is_some a ≡ true
          by_owner None h = h
          by_owner (Some l) h = refl

      go : (b : Bool) → is_listed_after_change change q ≡ b → b ≡ true
      go true e = refl
      go false e = absurd (true≢false (sym comes ∙ ap is_some (no_owner change q e)))

  free_in : (q : List ℕ) → Names.IsIn q (paths asides) → is_listed_after_change change (apk_new_name q) ≡ false
  free_in q here =
      let f = found_in asides q here in
      let t = found_is (is_claim_of_path q) (λ c. (find (is_claim_of_path c.path) coming ≡ Some c) × (are_equal_fates goes_aside (claim_fate change c (files c.path)) ≡ true)) asides f.0
      (each_passing (λ c. find (is_claim_of_path c.path) coming ≡ Some c) (λ c. are_equal_fates goes_aside (claim_fate change c (files c.path))) coming (each_finds_itself coming up)) f.1 in
      ap (λ p. is_listed_after_change change (apk_new_name p)) (sym ((bytes_decides f.0.path q).0 t.1)) ∙ free_beside change files f.0 t.0.1

  in_write_names : (q : List ℕ) → Names.IsIn q (paths ins) ⊎ Names.IsIn q (map apk_new_name (paths asides)) → Names.IsIn q (write_names (sorted_by write_cmp all_writes))
  in_write_names q h =
      subst (Names.IsIn q) (sym (names_sorted all_writes))
      (in_sorted q (write_names all_writes)
      (subst (Names.IsIn q) (sym (names_both (map claim_write ins) (map apk_new_write asides) ∙ (λ j. names_of_in ins j ++ names_of_beside asides j))) (both_in q (paths ins) (map apk_new_name (paths asides)) h)))

  of_write_names : (q : List ℕ) → Names.IsIn q (write_names (sorted_by write_cmp all_writes)) → Names.IsIn q (paths ins) ⊎ Names.IsIn q (map apk_new_name (paths asides))
  of_write_names q here =
      in_both q (paths ins) (map apk_new_name (paths asides))
      (subst (Names.IsIn q) (names_both (map claim_write ins) (map apk_new_write asides) ∙ (λ j. names_of_in ins j ++ names_of_beside asides j))
      (from_sorted q (write_names all_writes) (subst (Names.IsIn q) (names_sorted all_writes) here)))

  abbrev places : List (List ℕ)
  places = added_paths change.members ++ map apk_new_name (added_paths change.members)

  mapped_some : (name : List ℕ) (o : Option Listing) → is_some (option_map (file_write_under_name name) o) ≡ is_some o
  mapped_some name None = refl
  mapped_some name (Some l) = refl

  there : (q : List ℕ) → Names.IsIn q (write_names (sorted_by write_cmp all_writes)) → Names.IsIn q places × (is_some (as_written q) ≡ true)
  there q here = (
    elim (of_write_names q here) [
      | inl a ↦ both_in q (added_paths change.members) (map apk_new_name (added_paths change.members)) (inl (in_coming_paths change q (comes_in q a)))
      | inr b ↦ (let f = in_aside q (paths asides) b in
          both_in q (added_paths change.members) (map apk_new_name (added_paths change.members))
          (inr (subst (λ z. Names.IsIn z (map apk_new_name (added_paths change.members))) (sym f.1) (aside_in f.0 (added_paths change.members) (in_coming_paths change f.0 (comes_aside f.0 f.2))))))
    ],
    written q here,
  )
    where
      comes_in : (q : List ℕ) → Names.IsIn q (paths ins) → is_some (added_owner_listing change q) ≡ true
      comes_in q a = by_owner (added_owner_listing change q) (in_is change files coming up each q ∙ is_there ins q a)
        where
          by_owner : (a : Option Listing) → is_some (option_and_then (λ l. if_written_in_place l (fate_of change files l)) a) ≡ true → is_some a ≡ true
          by_owner None h = h
          by_owner (Some l) h = refl

      comes_aside : (q : List ℕ) → Names.IsIn q (paths asides) → is_some (added_owner_listing change q) ≡ true
      comes_aside q a = by_owner (added_owner_listing change q) (laid_is change files coming up each q ∙ is_there asides q a)
        where
          by_owner : (a : Option Listing) → is_some (option_and_then (λ l. if_written_as_apk_new l (fate_of change files l)) a) ≡ true → is_some a ≡ true
          by_owner None h = h
          by_owner (Some l) h = refl

      written : (q : List ℕ) → Names.IsIn q (write_names (sorted_by write_cmp all_writes)) → is_some (as_written q) ≡ true
      written q here = by_each (sorted_by write_cmp all_writes) (each_sorted (λ w. as_written w.name ≡ Some w) all_writes all_as_written) here
        where
          by_each : (ws : List FileWrite) → Each (λ w. as_written w.name ≡ Some w) ws → Names.IsIn q (write_names ws) → is_some (as_written q) ≡ true
          by_each [] h here = absurd here
          by_each (w ∷ ws) h (inl is) = ap (λ z. is_some (as_written z)) is ∙ ap is_some h.0
          by_each (w ∷ ws) h (inr old) = by_each ws h.1 old

  back : (q : List ℕ) → Names.IsIn q places → is_some (as_written q) ≡ true → Names.IsIn q (write_names (sorted_by write_cmp all_writes))
  unfolding listing_written_under_name
  back q here t = in_write_names q (by_in (is_some (listing_written_in_place change files q)) refl)
    where
      w : is_some (option_or (listing_written_in_place change files q) (option_and_then (listing_written_as_apk_new_beside change files) (path_of_apk_new_name q))) ≡ true
      w = sym (mapped_some q (option_or (listing_written_in_place change files q) (option_and_then (listing_written_as_apk_new_beside change files) (path_of_apk_new_name q)))) ∙ t

      skip : (a b : Option Listing) → is_some a ≡ false → is_some (option_or a b) ≡ true → is_some b ≡ true
      skip None b e h = h
      skip (Some l) b e h = absurd (true≢false e)

      by_front : (p : Option (List ℕ)) → path_of_apk_new_name q ≡ p → is_some (option_and_then (listing_written_as_apk_new_beside change files) p) ≡ true → Names.IsIn q (map apk_new_name (paths asides))
      by_front None e h = absurd (true≢false (sym h))
      by_front (Some p) e h =
          subst (λ z. Names.IsIn z (map apk_new_name (paths asides))) (sym (found_front q p e)) (aside_in p (paths asides) (there_is asides p (sym (laid_is change files coming up each p) ∙ h)))

      by_in : (b : Bool) → is_some (listing_written_in_place change files q) ≡ b → Names.IsIn q (paths ins) ⊎ Names.IsIn q (map apk_new_name (paths asides))
      by_in true e = inl (there_is ins q (sym (in_is change files coming up each q) ∙ e))
      by_in false e = inr (by_front (path_of_apk_new_name q) refl (skip (listing_written_in_place change files q) (option_and_then (listing_written_as_apk_new_beside change files) (path_of_apk_new_name q)) e w))

  pub writes_are : sorted_by write_cmp all_writes ≡ file_writes_of change files
  unfolding file_writes_of
  writes_are =
      let rises = writes_rise change ins asides (kept_rises (λ c. are_equal_fates goes_in (claim_fate change c (files c.path))) coming up) (kept_rises (λ c. are_equal_fates goes_aside (claim_fate change c (files c.path))) coming up) claimed_in free_in in
      sym (by_names as_written (sorted_by write_cmp all_writes) (each_sorted (λ w. as_written w.name ≡ Some w) all_writes all_as_written))
      ∙ (ap (filter_map as_written) (same_names (λ q. is_some (as_written q)) (write_names (sorted_by write_cmp all_writes)) places rises there back)
      ∙ those_only as_written (sorted_distinct_names places))
