-- One member more, behind the others.
use Rattle.std.proofs.Common.{◌≡◌, ◌⊎◌, inl, inr, ℕ, suc, zero, ◌<◌, ◌≤◌, true, List, [], ◌∷◌, ◌++◌, map, length, length-append, Option, Result, Ok, Err, refl, ap, sym, ◌∙◌, subst, arith, Less}
use Rattle.std.specs.Prelude.{get_or, if◌then◌else◌, is_ok}
use Rattle.std.proofs.lemmas.Cmp.{nat_list_cmp_total}
use Rattle.std.proofs.lemmas.List.{length-map}
use Rattle.base_core.specs.Listed.{AreSortedDistinctTexts}
use Rattle.base_core.proofs.Rising.{IsIn, Rises, pairs_from_rises, rises_from_pairs}
use Rattle.base_core.specs.ByteOrder.{bytes_cmp, precedes}
use Rattle.base_core.proofs.Orderings.{is_less}
use Rattle.db_core.specs.EntrySeen.{member_of_entry}
use Rattle.db_core.specs.Members.{AreMembersInNameOrder, Member, is_after_members, member_name}

-- as is_after_members, of names
abbrev pub IsBehind : List ℕ → List (List ℕ) → Type 0
IsBehind name [] = Unit {0}
IsBehind name (x ∷ []) = bytes_cmp x name ≡ Less
IsBehind name (x ∷ y ∷ names) = IsBehind name (y ∷ names)

all_before : (name : List ℕ) (names : List (List ℕ)) → Rises names → IsBehind name names → (q : List ℕ) → IsIn q names → bytes_cmp q name ≡ Less
all_before name [] rises behind q h = absurd h
all_before name (x ∷ []) rises behind q (inl e) = subst (λ r. bytes_cmp r name ≡ Less) (sym e) behind
all_before name (x ∷ []) rises behind q (inr h) = absurd h
all_before name (x ∷ y ∷ names) rises behind q (inl e) =
    let last : bytes_cmp y name ≡ Less = all_before name (y ∷ names) rises.1 behind y (inl refl) in
    subst (λ r. bytes_cmp r name ≡ Less) (sym e) (nat_list_cmp_total.trans x y name (rises.0 y (inl refl)) last)
all_before name (x ∷ y ∷ names) rises behind q (inr h) = all_before name (y ∷ names) rises.1 behind q h

in_more : (name q : List ℕ) (names : List (List ℕ)) → IsIn q (names ++ name ∷ []) → IsIn q names ⊎ (q ≡ name)
in_more name q [] (inl e) = inr e
in_more name q [] (inr h) = absurd h
in_more name q (x ∷ names) (inl e) = inl (inl e)
in_more name q (x ∷ names) (inr h) = elim (in_more name q names h) [ inl found ↦ inl (inr found) | inr e ↦ inr e ]

rises_more : (name : List ℕ) (names : List (List ℕ)) → Rises names → ((q : List ℕ) → IsIn q names → bytes_cmp q name ≡ Less) → Rises (names ++ name ∷ [])
rises_more name [] rises before = (λ q h. absurd h, tt)
rises_more name (x ∷ names) rises before = (
  λ q h. elim (in_more name q names h) [
    | inl found ↦ rises.0 q found
    | inr e ↦ subst (λ r. bytes_cmp x r ≡ Less) (sym e) (before x (inl refl))
  ],
  rises_more name names rises.1 (λ q h. before q (inr h)),
)

names_more : (members : List Member) (m : Member) → map member_name (members ++ m ∷ []) ≡ map member_name members ++ member_name m ∷ []
names_more [] m = refl
names_more (x ∷ members) m = ap (λ names. member_name x ∷ names) (names_more members m)

after_names : (name : List ℕ) (members : List Member) → is_after_members name members ≡ true → IsBehind name (map member_name members)
after_names name [] h = tt
after_names name (m ∷ []) h = is_less (bytes_cmp (member_name m) name) h
after_names name (m ∷ n ∷ members) h = after_names name (n ∷ members) h

pub in_order_more : (members : List Member) (m : Member) → AreMembersInNameOrder members → is_after_members (member_name m) members ≡ true → AreMembersInNameOrder (members ++ m ∷ [])
in_order_more members m rising behind =
    let rises : Rises (map member_name members) = rises_from_pairs _ rising in
    subst AreSortedDistinctTexts (sym (names_more members m))
    (pairs_from_rises _ (rises_more (member_name m) (map member_name members) rises (all_before (member_name m) (map member_name members) rises (after_names (member_name m) members behind))))

-- ---- as the program keeps them

abbrev pub Kept : Type 0
Kept = List ℕ × ℕ × Option (List ℕ)

abbrev pub kept_names : List Kept → List (List ℕ)
kept_names es = map (λ e. member_name (member_of_entry e)) es

names_are : (es : List Kept) → kept_names es ≡ map member_name (map member_of_entry es)
names_are [] = refl
names_are (e ∷ es) = ap (λ names. member_name (member_of_entry e) ∷ names) (names_are es)

members_more : (es : List Kept) (e : Kept) → map member_of_entry (es ++ e ∷ []) ≡ map member_of_entry es ++ member_of_entry e ∷ []
members_more [] e = refl
members_more (x ∷ es) e = ap (λ ms. member_of_entry x ∷ ms) (members_more es e)

pub members_in_order : (es : List Kept) → AreSortedDistinctTexts (kept_names es) → AreMembersInNameOrder (map member_of_entry es)
members_in_order es h = subst AreSortedDistinctTexts (names_are es) h

pub kept_more : {A B : Type 0} (r : Result A B) (es new : List Kept) (e : Kept) → new ≡ (if is_ok r then es ++ e ∷ [] else es) → AreSortedDistinctTexts (kept_names es)
    → is_after_members (member_name (member_of_entry e)) (map member_of_entry es) ≡ true → AreSortedDistinctTexts (kept_names new)
kept_more (Ok x) es new e is h behind =
    let ordered : AreMembersInNameOrder (map member_of_entry es ++ member_of_entry e ∷ []) = in_order_more (map member_of_entry es) (member_of_entry e) (members_in_order es h) behind in
    subst AreSortedDistinctTexts (sym (ap kept_names is ∙ names_are (es ++ e ∷ []))) (subst AreMembersInNameOrder (sym (members_more es e)) ordered)
kept_more (Err x) es new e is h behind = subst AreSortedDistinctTexts (sym (ap kept_names is)) h

pub few_more : {A B : Type 0} (r : Result A B) (es new : List Kept) (e : Kept) (most : ℕ) → new ≡ (if is_ok r then es ++ e ∷ [] else es) → length es ≤ most
    → length (map member_of_entry es) < most → length new ≤ most
few_more (Ok x) es new e most is h few = omega (arith, ap length is, length-append es (e ∷ []), length-map es member_of_entry, few)
few_more (Err x) es new e most is h few = omega (arith, ap length is, h)

-- the last one decides
pub last_decides : (name : List ℕ) (es : List Kept) (e : Kept) (k : ℕ) → suc k ≡ length (map member_of_entry es) → e ≡ get_or es k e → precedes (member_name (member_of_entry e)) name ≡ is_after_members name (map member_of_entry es)
last_decides name [] e k h at = absurd (omega (arith, h))
last_decides name (x ∷ []) e zero h at = ap (λ (z : Kept). precedes (member_name (member_of_entry z)) name) at
last_decides name (x ∷ []) e (suc k) h at = absurd (omega (arith, h))
last_decides name (x ∷ y ∷ es) e zero h at = absurd (omega (arith, h))
last_decides name (x ∷ y ∷ es) e (suc k) h at = last_decides name (y ∷ es) e k (omega (arith, h)) at
