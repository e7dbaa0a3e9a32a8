-- The walk finds the winner, if there is one.
use Rattle.std.proofs.Common.{◌≡◌, ℕ, suc, zero, ◌+◌, ◌-◌, ◌<◌, ◌≤◌, Bool, true, false, cond, List, [], ◌∷◌, length, map, drop, take, Option, Some, None, refl, ap, sym, ◌∙◌, subst, arith, true≢false, inl, inr}
use Rattle.std.specs.Prelude.{◌||◌, ◌&&◌, ◌⊎◌, ◌==◌, if◌then◌else◌, not, option_map, slice_index_or}
use Rattle.std.specs.List.{find, list_any}
use Rattle.std.proofs.lemmas.List.{take_all}
use borrow.Author.Tests.{eqb-true}
use Rattle.base_core.proofs.Numbers.{not_first}
use Rattle.path_claims.specs.Contest.{are_all_others_beaten_by, first_with_unbeaten_rival, rivals_of, member_beating_all_others, IsAsymmetric}
use Rattle.path_claims.specs.LeftOver.{last_unbeaten_member}

abbrev pub Among : ℕ → List ℕ → Type 0
Among x [] = ⊥
Among x (y ∷ ys) = (x ≡ y) ⊎ Among x ys

abbrev value_or : ℕ → Option ℕ → ℕ
value_or d None = d
value_or d (Some v) = v

abbrev is_one : Option ℕ → Bool
is_one None = false
is_one (Some v) = true

found : (p : ℕ → Bool) (xs : List ℕ) (x : ℕ) → find p xs ≡ Some x → (p x ≡ true) × Among x xs
found p [] x h = absurd (true≢false (sym (ap is_one h)))
found p (y ∷ ys) x h = go (found p ys x) (p y) refl h
  where
    go : (find p ys ≡ Some x → (p x ≡ true) × Among x ys) → (b : Bool) → p y ≡ b → cond b (Some y) (find p ys) ≡ Some x → (p x ≡ true) × Among x (y ∷ ys)
    go rest true e q = let is : y ≡ x = ap (value_or y) q in (subst (λ v. p v ≡ true) is e, inl (sym is))
    go rest false e q = ((rest q).0, inr (rest q).1)

none_found : (p : ℕ → Bool) (xs : List ℕ) (x : ℕ) → find p xs ≡ None → Among x xs → p x ≡ false
none_found p [] x h a = absurd a
none_found p (y ∷ ys) x h a = go (none_found p ys x) (p y) refl h a
  where
    go : (find p ys ≡ None → Among x ys → p x ≡ false) → (b : Bool) → p y ≡ b → cond b (Some y) (find p ys) ≡ None → Among x (y ∷ ys) → p x ≡ false
    go rest true e q a = absurd (true≢false (ap is_one q))
    go rest false e q (inl r) = ap p r ∙ e
    go rest false e q (inr r) = rest q r

module _ (beats : ℕ → ℕ → Bool) (one_way : IsAsymmetric beats) where
  beaten : (x : ℕ) (all : List ℕ) (y : ℕ) → are_all_others_beaten_by beats all x ≡ true → Among y all → ((x == y) || beats x y) ≡ true
  beaten x [] y w h = absurd h
  beaten x (z ∷ zs) y w (inl e) = subst (λ v. ((x == v) || beats x v) ≡ true) (sym e) (first ((x == z) || beats x z) (are_all_others_beaten_by beats zs x) w)
    where
      first : (a b : Bool) → (a && b) ≡ true → a ≡ true
      first true b h = refl
      first false b h = absurd (true≢false (sym h))
  beaten x (z ∷ zs) y w (inr h) = beaten x zs y (second ((x == z) || beats x z) (are_all_others_beaten_by beats zs x) w) h
    where
      second : (a b : Bool) → (a && b) ≡ true → b ≡ true
      second true b h = h
      second false b h = absurd (true≢false (sym h))

  same_or_beats : (x y : ℕ) → ((x == y) || beats x y) ≡ true → (x ≡ y) ⊎ (beats x y ≡ true)
  same_or_beats x y h = go (x == y) refl h
    where
      go : (b : Bool) → (x == y) ≡ b → (b || beats x y) ≡ true → (x ≡ y) ⊎ (beats x y ≡ true)
      go true e q = inl (eqb-true x y e)
      go false e q = inr q

  not_itself : (x : ℕ) → beats x x ≡ true → ⊥
  not_itself x h = true≢false (sym h ∙ one_way x x h)

  -- a winner of all is never passed over
  stays_left : (all : List ℕ) (x : ℕ) → are_all_others_beaten_by beats all x ≡ true → (c : ℕ) (rest : List ℕ)
      → ((y : ℕ) → Among y (c ∷ rest) → Among y all) → Among x (c ∷ rest) → last_unbeaten_member beats c rest ≡ x
  stays_left all x w c [] within (inl e) = sym e
  stays_left all x w c [] within (inr h) = absurd h
  stays_left all x w c (y ∷ ys) within here =
      go (stays_left all x w c ys (λ z a. within z (skip z a))) (stays_left all x w y ys (λ z a. within z (inr a))) (beats c y) refl here
    where
      skip : (z : ℕ) → Among z (c ∷ ys) → Among z (c ∷ y ∷ ys)
      skip z (inl q) = inl q
      skip z (inr q) = inr (inr q)

      go : (Among x (c ∷ ys) → last_unbeaten_member beats c ys ≡ x) → (Among x (y ∷ ys) → last_unbeaten_member beats y ys ≡ x) → (b : Bool) → beats c y ≡ b → Among x (c ∷ y ∷ ys) → (if b then last_unbeaten_member beats c ys else last_unbeaten_member beats y ys) ≡ x
      go stay next true e (inl h) = stay (inl h)
      go stay next true e (inr (inl h)) = stay (inl (by_winner (same_or_beats x c (beaten x all c w (within c (inl refl))))))
        where
          -- x is y, which c beats
          by_winner : (x ≡ c) ⊎ (beats x c ≡ true) → x ≡ c
          by_winner (inl q) = q
          by_winner (inr q) = absurd (true≢false (sym q ∙ subst (λ v. beats v c ≡ false) (sym h) (one_way c y e)))
      go stay next true e (inr (inr h)) = stay (inr h)
      go stay next false e (inl h) = next (inl (by_winner (same_or_beats x y (beaten x all y w (within y (inr (inl refl)))))))
        where
          -- x is c, which does not beat y
          by_winner : (x ≡ y) ⊎ (beats x y ≡ true) → x ≡ y
          by_winner (inl q) = q
          by_winner (inr q) = absurd (true≢false (sym q ∙ subst (λ v. beats v y ≡ false) (sym h) e))
      go stay next false e (inr h) = next h

  left_among : (c : ℕ) (rest : List ℕ) → Among (last_unbeaten_member beats c rest) (c ∷ rest)
  left_among c [] = inl refl
  left_among c (y ∷ ys) = go (beats c y) (left_among c ys) (left_among y ys)
    where
      go : (b : Bool) → Among (last_unbeaten_member beats c ys) (c ∷ ys) → Among (last_unbeaten_member beats y ys) (y ∷ ys) → Among (if b then last_unbeaten_member beats c ys else last_unbeaten_member beats y ys) (c ∷ y ∷ ys)
      go true (inl q) n = inl q
      go true (inr q) n = inr (inr q)
      go false q n = inr n

  -- the one that is left is the winner if it wins, and else there is none
  winner_is : (c : ℕ) (rest : List ℕ)
      → member_beating_all_others beats (c ∷ rest) ≡ (if are_all_others_beaten_by beats (c ∷ rest) (last_unbeaten_member beats c rest) then Some (last_unbeaten_member beats c rest) else None)
  unfolding member_beating_all_others
  winner_is c rest = go (find (are_all_others_beaten_by beats (c ∷ rest)) (c ∷ rest)) refl
    where
      go : (o : Option ℕ) → find (are_all_others_beaten_by beats (c ∷ rest)) (c ∷ rest) ≡ o → o ≡ (if are_all_others_beaten_by beats (c ∷ rest) (last_unbeaten_member beats c rest) then Some (last_unbeaten_member beats c rest) else None)
      go None e = sym (ap (λ b. if b then Some (last_unbeaten_member beats c rest) else None) (none_found (are_all_others_beaten_by beats (c ∷ rest)) (c ∷ rest) (last_unbeaten_member beats c rest) e (left_among c rest)))
      go (Some x) e =
          let f = found (are_all_others_beaten_by beats (c ∷ rest)) (c ∷ rest) x e in
          let is : last_unbeaten_member beats c rest ≡ x = stays_left (c ∷ rest) x f.0 c rest (λ y a. a) f.1 in
          sym (subst (λ l. (if are_all_others_beaten_by beats (c ∷ rest) l then Some l else None) ≡ Some x) (sym is) (ap (λ b. if b then Some x else None) f.0))

  pub winner_by : (c : ℕ) (rest : List ℕ) (left : ℕ) (b : Bool) → left ≡ last_unbeaten_member beats c rest → b ≡ are_all_others_beaten_by beats (c ∷ rest) left
      → (if b then Some left else None) ≡ member_beating_all_others beats (c ∷ rest)
  winner_by c rest left b l w =
      ap (λ x. if x then Some left else None) w
      ∙ ((λ j. if are_all_others_beaten_by beats (c ∷ rest) (l j) then Some (l j) else None) ∙ sym (winner_is c rest))

-- ---- no two owners

is_among : (members : List ℕ) (x : ℕ) → list_any (λ z. x == z) members ≡ true → Among x members
is_among [] x h = absurd (true≢false (sym h))
is_among (z ∷ zs) x h = go (x == z) refl (is_among zs x)
  where
    go : (b : Bool) → (x == z) ≡ b → (list_any (λ z. x == z) zs ≡ true → Among x zs) → Among x (z ∷ zs)
    go true e f = inl (eqb-true x z e)
    go false e f = inr (f (sym (ap (λ b. b || list_any (λ z. x == z) zs) e) ∙ h))

pub one_owner : (beats : ℕ → ℕ → Bool) → IsAsymmetric beats → (members : List ℕ) (x y : ℕ) → list_any (λ z. x == z) members ≡ true → list_any (λ z. y == z) members ≡ true
    → are_all_others_beaten_by beats members x ≡ true → are_all_others_beaten_by beats members y ≡ true → x ≡ y
one_owner beats w members x y h k p q =
    go (same_or_beats beats w x y (beaten beats w x members y p (is_among members y k))) (same_or_beats beats w y x (beaten beats w y members x q (is_among members x h)))
  where
    go : (x ≡ y) ⊎ (beats x y ≡ true) → (y ≡ x) ⊎ (beats y x ≡ true) → x ≡ y
    go (inl e) t = e
    go (inr e) (inl f) = sym f
    go (inr e) (inr f) = absurd (true≢false (sym f ∙ w x y e))

-- ---- over what is seen of a list

pub none_wins : {X : Type 0} (beats : ℕ → ℕ → Bool) (f : X → ℕ) (xs : List X) → (length xs == 0) ≡ true → None ≡ member_beating_all_others beats (map f xs)
unfolding member_beating_all_others
none_wins beats f [] h = refl
none_wins beats f (x ∷ xs) h = absurd (not_first (length xs) (eqb-true _ _ h))

pub one_wins : {X : Type 0} (beats : ℕ → ℕ → Bool) → IsAsymmetric beats → (f : X → ℕ) (xs : List X) (d : X) (left : ℕ) (b : Bool) → (length xs == 0) ≡ false
    → left ≡ last_unbeaten_member beats (f (slice_index_or xs 0 d)) (map f (take (length xs - 1) (drop 1 xs))) → b ≡ are_all_others_beaten_by beats (map f xs) left
    → (if b then Some left else None) ≡ member_beating_all_others beats (map f xs)
one_wins beats w f [] d left b h l t = absurd (true≢false h)
one_wins beats w f (x ∷ xs) d left b h l t =
    winner_by beats w (f x) (map f xs) left b (l ∙ ap (λ r. last_unbeaten_member beats (f x) (map f r)) (take_all (length (x ∷ xs) - 1) xs (omega arith))) t

-- ---- the first that passes

pub find_here : {X : Type 0} (f : X → ℕ) (p : ℕ → Bool) (xs : List X) (i : ℕ) (d : X) → i < length xs → p (f (slice_index_or xs i d)) ≡ true
    → find p (map f (drop i xs)) ≡ Some (f (slice_index_or xs i d))
find_here f p [] i d l h = absurd (omega arith)
find_here f p (x ∷ xs) zero d l h = ap (λ b. cond b (Some (f x)) (find p (map f xs))) h
find_here f p (x ∷ xs) (suc i) d l h = find_here f p xs i d (omega arith) h

pub find_past : {X : Type 0} (f : X → ℕ) (p : ℕ → Bool) (xs : List X) (i : ℕ) → length xs ≤ i → find p (map f (drop i xs)) ≡ None
find_past f p [] zero l = refl
find_past f p [] (suc i) l = refl
find_past f p (x ∷ xs) zero l = absurd (omega arith)
find_past f p (x ∷ xs) (suc i) l = find_past f p xs i (omega arith)

pub no_rivals : {X : Type 0} (beats : ℕ → ℕ → Bool) (f : X → ℕ) (xs : List X) → (length xs == 0) ≡ true → None ≡ first_with_unbeaten_rival beats (map f xs)
unfolding first_with_unbeaten_rival
no_rivals beats f [] h = refl
no_rivals beats f (x ∷ xs) h = absurd (not_first (length xs) (eqb-true _ _ h))

abbrev pub test : (ℕ → ℕ → Bool) → ℕ → ℕ → Bool
test beats x y = not ((x == y) || beats x y)

pub two_rivals : {X : Type 0} (beats : ℕ → ℕ → Bool) (f : X → ℕ) (xs : List X) (d : X) (o : Option ℕ) → (length xs == 0) ≡ false
    → find (test beats (f (slice_index_or xs 0 d))) (map f xs) ≡ o
    → option_map (rivals_of (f (slice_index_or xs 0 d))) o ≡ first_with_unbeaten_rival beats (map f xs)
unfolding first_with_unbeaten_rival
two_rivals beats f [] d o h e = absurd (true≢false h)
two_rivals beats f (x ∷ xs) d o h e = ap (option_map (rivals_of (f x))) (sym e)

-- ---- the test whether a member beats all others, claim by claim

-- if one claim's member is another and not beaten, not all others are beaten
pub unbeaten_here : {X : Type 0} (beats : ℕ → ℕ → Bool) (f : X → ℕ) (one : ℕ) (xs : List X) (i : ℕ) (d : X) → i < length xs → ((one == f (slice_index_or xs i d)) || beats one (f (slice_index_or xs i d))) ≡ false
    → are_all_others_beaten_by beats (map f (drop i xs)) one ≡ false
unbeaten_here beats f one [] i d l h = absurd (omega arith)
unbeaten_here beats f one (x ∷ xs) zero d l h = ap (λ b. b && are_all_others_beaten_by beats (map f xs) one) h
unbeaten_here beats f one (x ∷ xs) (suc i) d l h = unbeaten_here beats f one xs i d (omega arith) h

-- if one claim's member is the same or beaten, the claims after it decide
beaten_here : {X : Type 0} (beats : ℕ → ℕ → Bool) (f : X → ℕ) (one : ℕ) (xs : List X) (i : ℕ) (d : X) → i < length xs → ((one == f (slice_index_or xs i d)) || beats one (f (slice_index_or xs i d))) ≡ true
    → are_all_others_beaten_by beats (map f (drop i xs)) one ≡ are_all_others_beaten_by beats (map f (drop (suc i) xs)) one
beaten_here beats f one [] i d l h = absurd (omega arith)
beaten_here beats f one (x ∷ xs) zero d l h = ap (λ b. b && are_all_others_beaten_by beats (map f xs) one) h
beaten_here beats f one (x ∷ xs) (suc i) d l h = beaten_here beats f one xs i d (omega arith) h

-- the same, with the index after it as the loop counts it
pub beaten_next : {X : Type 0} (beats : ℕ → ℕ → Bool) (f : X → ℕ) (one : ℕ) (xs : List X) (i : ℕ) (d : X) → i < length xs → ((one == f (slice_index_or xs i d)) || beats one (f (slice_index_or xs i d))) ≡ true
    → are_all_others_beaten_by beats (map f (drop (i + 1) xs)) one ≡ are_all_others_beaten_by beats (map f (drop i xs)) one
beaten_next beats f one xs i d l h =
    let next : i + 1 ≡ suc i = omega arith in
    ap (λ (n : ℕ). are_all_others_beaten_by beats (map f (drop n xs)) one) next ∙ sym (beaten_here beats f one xs i d l h)
