-- One more element of a list, as a loop over it goes on.
use Rattle.std.proofs.Common.{◌≡◌, inl, inr, ℕ, zero, suc, ◌+◌, ◌≤◌, ◌<◌, Bool, List, [], ◌∷◌, ◌++◌, length, take, map, get_or, refl, sym, subst, ap, ◌∙◌, arith}
use Rattle.std.specs.Prelude.{Result, Ok, Err, OnOk, IfErr, IfOk, slice_get, Some, if◌then◌else◌, ◌&&◌, ◌||◌, ◌==◌, not}
use Rattle.std.specs.List.{filter, list_all, list_any}
use Rattle.std.proofs.lemmas.List.{length-map}
use Rattle.std.proofs.lemmas.Bool.{cases_Bool}
use Rattle.candidate_core.specs.Candidates.{Candidate}
use Rattle.candidate_core.specs.Options.{IsIn}
use Rattle.candidate_core.specs.Values.{IsPoolFault}
use Rattle.candidate_core.specs.declared.candidate_list.PoolFault.{PoolFault}
use Rattle.candidate_core.specs.declared.candidate_list.PoolFault.TheVariants.{TooMany, Memory}
use Rattle.candidate_core.specs.PositiveInstallIfs.{has_positive_install_if, places_marked_with_install_if}
use Rattle.candidate_core.proofs.Anyone.{all_map}

take_next : {X : Type 0} (xs : List X) (i : ℕ) (x : X) → slice_get xs i ≡ Some x → take (suc i) xs ≡ take i xs ++ x ∷ []
take_next [] zero x h = absurd (cc)
take_next [] (suc i) x h = absurd (cc)
take_next {X} (y ∷ xs) zero x h = let s : y ≡ x = cc in ap (λ (z : X). z ∷ []) s
take_next {X} (y ∷ xs) (suc i) x h = ap (λ (z : List X). y ∷ z) (take_next xs i x h)

pub take_one_more : {X : Type 0} (xs : List X) (i : ℕ) (x : X) → slice_get xs i ≡ Some x → take (i + 1) xs ≡ take i xs ++ x ∷ []
take_one_more {X} xs i x h =
    let z : i + 1 ≡ suc i = omega arith in
    subst (λ (k : ℕ). take k xs ≡ take i xs ++ x ∷ []) (sym z) (take_next xs i x h)

pub filter_snoc : {X : Type 0} (p : X → Bool) (xs : List X) (x : X) → filter p (xs ++ x ∷ []) ≡ filter p xs ++ (if p x then x ∷ [] else [])
filter_snoc p [] x = elim (cases_Bool (p x)) [ inl e ↦ rw e refl | inr e ↦ rw e refl ]
filter_snoc {X} p (y ∷ xs) x = elim (cases_Bool (p y)) [
  | inl e ↦ rw e (ap (λ (z : List X). y ∷ z) (filter_snoc p xs x))
  | inr e ↦ rw e (filter_snoc p xs x)
]

pub filter_step : {X : Type 0} (p : X → Bool) (xs : List X) (i : ℕ) (x : X) (before after : List X) → slice_get xs i ≡ Some x → before ≡ filter p (take i xs) → after ≡ before ++ (if p x then x ∷ [] else []) → after ≡ filter p (take (i + 1) xs)
filter_step {X} p xs i x before after h was is =
    is ∙ (ap (λ (z : List X). z ++ (if p x then x ∷ [] else [])) was ∙ (sym (filter_snoc p (take i xs) x) ∙ ap (filter p) (sym (take_one_more xs i x h))))

pub any_snoc : {X : Type 0} (p : X → Bool) (xs : List X) (x : X) → list_any p (xs ++ x ∷ []) ≡ (list_any p xs || p x)
any_snoc p [] x = elim (cases_Bool (p x)) [ inl e ↦ rw e refl | inr e ↦ rw e refl ]
any_snoc p (y ∷ xs) x = elim (cases_Bool (p y)) [ inl e ↦ rw e refl | inr e ↦ rw e (any_snoc p xs x) ]

marked_next : (n i : ℕ) (ms : List Bool) (cs : List Candidate) (m : Bool) (c : Candidate) → slice_get ms i ≡ Some m → slice_get cs i ≡ Some c → places_marked_with_install_if n (take (suc i) ms) (take (suc i) cs) ≡ places_marked_with_install_if n (take i ms) (take i cs) ++ (if m && has_positive_install_if c then (n + i) ∷ [] else [])
marked_next n zero [] cs m c h g = absurd (cc)
marked_next n (suc i) [] cs m c h g = absurd (cc)
marked_next n zero (l ∷ ms) [] m c h g = absurd (cc)
marked_next n (suc i) (l ∷ ms) [] m c h g = absurd (cc)
marked_next n zero (l ∷ ms) (d ∷ cs) m c h g =
    let s : l ≡ m = cc in
    let t : d ≡ c = cc in
    let z : n ≡ n + 0 = omega arith in
    subst (λ (b : Bool). (if l && has_positive_install_if d then n ∷ [] else []) ≡ (if b && has_positive_install_if c then (n + 0) ∷ [] else [])) s
    (subst (λ (k : Candidate). (if l && has_positive_install_if d then n ∷ [] else []) ≡ (if l && has_positive_install_if k then (n + 0) ∷ [] else [])) t
    (ap (λ (k : ℕ). if l && has_positive_install_if d then k ∷ [] else []) z))
marked_next n (suc i) (l ∷ ms) (d ∷ cs) m c h g =
    let z : suc n + i ≡ n + suc i = omega arith in
    let rest : places_marked_with_install_if (suc n) (take (suc i) ms) (take (suc i) cs) ≡ places_marked_with_install_if (suc n) (take i ms) (take i cs) ++ (if m && has_positive_install_if c then (n + suc i) ∷ [] else []) =
    subst (λ (k : ℕ). places_marked_with_install_if (suc n) (take (suc i) ms) (take (suc i) cs) ≡ places_marked_with_install_if (suc n) (take i ms) (take i cs) ++ (if m && has_positive_install_if c then k ∷ [] else [])) z (marked_next (suc n) i ms cs m c h g) in
    elim (cases_Bool (l && has_positive_install_if d)) [
      | inl e ↦ rw e (ap (λ (z : List ℕ). n ∷ z) rest)
      | inr e ↦ rw e rest
    ]

pub marked_step : (i : ℕ) (ms : List Bool) (cs : List Candidate) (m : Bool) (c : Candidate) (before after : List ℕ) → slice_get ms i ≡ Some m → slice_get cs i ≡ Some c → before ≡ places_marked_with_install_if 0 (take i ms) (take i cs) → after ≡ before ++ (if m && has_positive_install_if c then i ∷ [] else []) → after ≡ places_marked_with_install_if 0 (take (i + 1) ms) (take (i + 1) cs)
marked_step i ms cs m c before after h g was is =
    let z : i + 1 ≡ suc i = omega arith in
    let o : 0 + i ≡ i = omega arith in
    let next : places_marked_with_install_if 0 (take (suc i) ms) (take (suc i) cs) ≡ places_marked_with_install_if 0 (take i ms) (take i cs) ++ (if m && has_positive_install_if c then i ∷ [] else []) =
    subst (λ (k : ℕ). places_marked_with_install_if 0 (take (suc i) ms) (take (suc i) cs) ≡ places_marked_with_install_if 0 (take i ms) (take i cs) ++ (if m && has_positive_install_if c then k ∷ [] else [])) o (marked_next 0 i ms cs m c h g) in
    is ∙ (ap (λ (x : List ℕ). x ++ (if m && has_positive_install_if c then i ∷ [] else [])) was ∙ (sym next ∙ ap (λ (k : ℕ). places_marked_with_install_if 0 (take k ms) (take k cs)) (sym z)))

-- some, all of which pass a test, whatever they represent
pub some_and_all : {X Y : Type 0} (p : Y → Bool) (f : X → Y) (xs : List X) (ys : List Y) → map f xs ≡ ys → (not (length xs == 0) && list_all (λ x. p (f x)) xs) ≡ (not (length ys == 0) && list_all p ys)
some_and_all {X} {Y} p f xs ys e =
    subst (λ (z : List Y). (not (length xs == 0) && list_all (λ x. p (f x)) xs) ≡ (not (length z == 0) && list_all p z)) e
    (rw (length-map xs f, all_map p f xs) refl)

-- what is at a place
pub get_at : {X : Type 0} (xs : List X) (i : ℕ) (d : X) → i < length xs → slice_get xs i ≡ Some (get_or xs i d)
get_at [] i d h = absurd (omega arith)
get_at (x ∷ xs) zero d h = refl
get_at (x ∷ xs) (suc i) d h = get_at xs i d (omega arith)

pub member_at : (xs : List ℕ) (i x : ℕ) → i < length xs → x ≡ get_or xs i x → IsIn x xs
member_at [] i x h e = absurd (omega arith)
member_at (y ∷ xs) zero x h e = inl e
member_at (y ∷ xs) (suc i) x h e = inr (member_at xs i x (omega arith) e)

-- ---- what is known of a result

pub on_ok : {X E : Type 0} (r : Result X E) (P Q : Type 0) → (P → Q) → OnOk r P → OnOk r Q
on_ok (Ok x) P Q to h = to h
on_ok (Err e) P Q to h = h

pub if_err : {X E : Type 0} (r : Result X E) (P Q : E → Type 0) → ((e : E) → P e → Q e) → IfErr r P → IfErr r Q
if_err (Ok x) P Q to h = h
if_err (Err e) P Q to h = to e h

-- a longer list is refused for the same fault
pub fault_more : (fault : PoolFault) (m n : ℕ) → m ≤ n → IsPoolFault fault m → IsPoolFault fault n
fault_more (TooMany count) m n h f = (omega (arith, f.0), f.1)
fault_more Memory m n h f = tt

pub if_ok : {X E : Type 0} (r : Result X E) (P Q : X → Type 0) → ((x : X) → P x → Q x) → IfOk r P → IfOk r Q
if_ok (Ok x) P Q to h = to x h
if_ok (Err e) P Q to h = h
