-- Going over lists for the first of their pairs.
use Rattle.std.proofs.Common.{◌≡◌, ℕ, suc, zero, ◌+◌, ◌<◌, ◌≤◌, true, List, [], ◌∷◌, ◌++◌, map, length, get_or, drop, Option, None, refl, ap, sym, ◌∙◌, subst, arith, append-nil, inl, inr}
use Rattle.std.specs.List.{flat_map}
use Rattle.adb_view.specs.Plain.{Plain, null}
use Rattle.adb_view.specs.Values.{value_at}
use Rattle.adb_fields.specs.Fields.{are_all_sound}
use Rattle.adb_fields.specs.declared.pairs.Pair.{Pair}
use Rattle.adb_fields.specs.Pairs.{NameWithPosition, least_pair, lesser_pair}
use Rattle.adb_fields.specs.FirstPair.{IsLeastPairIfAny}
use Rattle.adb_fields.specs.FirstPair.{IsPairOfEqualNames}
use Rattle.adb_fields.specs.FirstPair.{IsIn}
use Rattle.adb_view.specs.declared.tables.Which.TheVariants as Tables
use Rattle.adb_view.specs.FieldIndexes.{DIR_NAME_INDEX, FILE_NAME_INDEX}
use Rattle.adb_fields.specs.Repeated.{place_in_causes_of_field_at_index, numbered_from, least_positions_of_name_twice_in_list, least_positions_of_name_twice_in_one_list, repeated_cause, name_of, folders_in, files_in, fault_of_repeats_within_one_of_packages}
use Rattle.adb_fields.specs.FirstPair.{ArePositionsOfNameTwiceInOneList}
use Rattle.std.specs.Option.{option_or}
use Rattle.adb_fields.specs.NamedTexts.{plains_of_array_words}
use Rattle.adb_view.specs.declared.tables.Kind.{Kind}
use Rattle.adb_fields.proofs.NameLists.{plain_count, plain_is}
use Rattle.adb_fields.proofs.FirstPair.{Either, alike, lesser_pair-first, least_pair_of_equal_names-first, lesser_pair-assoc, lesser_pair-none}

more_firsts : (g : Plain → Option Pair) (values : List Plain) (i : ℕ) → i < length values → least_pair (map g (drop i values)) ≡ lesser_pair (g (get_or values i null)) (least_pair (map g (drop (i + 1) values)))
more_firsts g [] i h = absurd (omega arith)
more_firsts g (v ∷ vs) zero h = refl
more_firsts g (v ∷ vs) (suc i) h =
    let e : suc i + 1 ≡ suc (i + 1) = omega arith in
    let P : ℕ → Type 0 = λ n. least_pair (map g (drop i vs)) ≡ lesser_pair (g (get_or vs i null)) (least_pair (map g (drop n (v ∷ vs)))) in
    subst P (sym e) (more_firsts g vs i (omega arith))

no_firsts : (g : Plain → Option Pair) (values : List Plain) (i : ℕ) → length values ≤ i → least_pair (map g (drop i values)) ≡ None
no_firsts g [] zero h = refl
no_firsts g [] (suc i) h = refl
no_firsts g (v ∷ vs) zero h = absurd (omega arith)
no_firsts g (v ∷ vs) (suc i) h = no_firsts g vs i (omega arith)

-- a step of a loop that keeps the first pair
pub one_first : (p : List ℕ) (kind : Kind) (g : Plain → Option Pair) (ws : List ℕ) (i w : ℕ) (first pair next all : Option Pair) → are_all_sound p kind ws ≡ true → i < length ws → w ≡ get_or ws i 0 → pair ≡ g (value_at p kind w) → next ≡ lesser_pair first pair → lesser_pair first (least_pair (map g (drop i (plains_of_array_words p kind ws)))) ≡ all → lesser_pair next (least_pair (map g (drop (i + 1) (plains_of_array_words p kind ws)))) ≡ all
one_first p kind g ws i w first pair next all sound lt word e n so =
    let c : length (plains_of_array_words p kind ws) ≡ length ws = plain_count p kind ws sound in
    let here : value_at p kind w ≡ get_or (plains_of_array_words p kind ws) i null = ap (value_at p kind) word ∙ plain_is p kind ws i sound lt in
    let left : Option Pair = least_pair (map g (drop (i + 1) (plains_of_array_words p kind ws))) in
    ap (λ o. lesser_pair o left) (n ∙ ap (lesser_pair first) (e ∙ ap g here))
    ∙ (lesser_pair-assoc first (g (get_or (plains_of_array_words p kind ws) i null)) left
    ∙ (ap (lesser_pair first) (sym (more_firsts g (plains_of_array_words p kind ws) i (omega arith))) ∙ so))

pub no_first : (p : List ℕ) (kind : Kind) (g : Plain → Option Pair) (ws : List ℕ) (i : ℕ) (first all : Option Pair) → are_all_sound p kind ws ≡ true → length ws ≤ i → lesser_pair first (least_pair (map g (drop i (plains_of_array_words p kind ws)))) ≡ all → first ≡ all
no_first p kind g ws i first all sound past so =
    let c : length (plains_of_array_words p kind ws) ≡ length ws = plain_count p kind ws sound in
    sym (lesser_pair-none first) ∙ (ap (lesser_pair first) (sym (no_firsts g (plains_of_array_words p kind ws) i (omega arith))) ∙ so)

-- ---- one list for each value, and several

pub one_each : (f : Plain → List (List ℕ)) (values : List Plain) → least_pair (map (λ v. least_positions_of_name_twice_in_list (f v)) values) ≡ least_positions_of_name_twice_in_one_list (map f values)
one_each f [] = refl
one_each f (v ∷ vs) = ap (lesser_pair (least_positions_of_name_twice_in_list (f v))) (one_each f vs)

least_pair-append : (xs ys : List (Option Pair)) → least_pair (xs ++ ys) ≡ lesser_pair (least_pair xs) (least_pair ys)
least_pair-append [] ys = refl
least_pair-append (x ∷ xs) ys = ap (lesser_pair x) (least_pair-append xs ys) ∙ sym (lesser_pair-assoc x (least_pair xs) (least_pair ys))

least_positions_of_name_twice_in_one_list-append : (xs ys : List (List (List ℕ))) → least_positions_of_name_twice_in_one_list (xs ++ ys) ≡ lesser_pair (least_positions_of_name_twice_in_one_list xs) (least_positions_of_name_twice_in_one_list ys)
least_positions_of_name_twice_in_one_list-append [] ys = refl
least_positions_of_name_twice_in_one_list-append (x ∷ xs) ys = ap (lesser_pair (least_positions_of_name_twice_in_list x)) (least_positions_of_name_twice_in_one_list-append xs ys) ∙ sym (lesser_pair-assoc (least_positions_of_name_twice_in_list x) (least_positions_of_name_twice_in_one_list xs) (least_positions_of_name_twice_in_one_list ys))

pub several_each : (f : Plain → List (List (List ℕ))) (values : List Plain) → least_pair (map (λ v. least_positions_of_name_twice_in_one_list (f v)) values) ≡ least_positions_of_name_twice_in_one_list (flat_map f values)
several_each f [] = refl
several_each f (v ∷ vs) = ap (lesser_pair (least_positions_of_name_twice_in_one_list (f v))) (several_each f vs) ∙ sym (least_positions_of_name_twice_in_one_list-append (f v) (flat_map f vs))

-- of one list alone
pub alone : (names : List (List ℕ)) → least_positions_of_name_twice_in_list names ≡ least_positions_of_name_twice_in_one_list (names ∷ [])
alone names = sym (lesser_pair-none (least_positions_of_name_twice_in_list names))

pub alone_several : (lists : List (List (List ℕ))) → least_positions_of_name_twice_in_one_list lists ≡ least_positions_of_name_twice_in_one_list (lists ++ [])
alone_several lists = ap least_positions_of_name_twice_in_one_list (sym (append-nil lists))

-- ---- names after names

pub numbered-append : (n : ℕ) (xs ys : List (List ℕ)) → numbered_from n (xs ++ ys) ≡ numbered_from n xs ++ numbered_from (n + length xs) ys
numbered-append n [] ys = (let e : n ≡ n + 0 = omega arith in ap (λ k. numbered_from k ys) e)
numbered-append n (x ∷ xs) ys =
    let e : n + 1 + length xs ≡ n + suc (length xs) = omega arith in
    ap (λ rest. record { name = x; position = n } ∷ rest) (numbered-append (n + 1) xs ys ∙ ap (λ k. numbered_from (n + 1) xs ++ numbered_from k ys) e)

pub texts_after : (a b : List (List ℕ)) (one two : List NameWithPosition) (m : ℕ) → one ≡ numbered_from 1 a → m ≡ length a → two ≡ one ++ numbered_from (m + 1) b → two ≡ numbered_from 1 (a ++ b)
texts_after a b one two m e l h =
    let f : m + 1 ≡ 1 + length a = omega arith in
    h ∙ ((λ i. e i ++ numbered_from (f i) b) ∙ sym (numbered-append 1 a b))

-- ---- kind after kind

pub one_package : (pkg : Plain) → option_or (repeated_cause (place_in_causes_of_field_at_index Tables.Dir DIR_NAME_INDEX) (least_positions_of_name_twice_in_list (map name_of (folders_in pkg)))) (repeated_cause (place_in_causes_of_field_at_index Tables.File FILE_NAME_INDEX) (least_positions_of_name_twice_in_one_list (map (λ folder. map name_of (files_in folder)) (folders_in pkg)))) ≡ fault_of_repeats_within_one_of_packages (pkg ∷ [])
one_package pkg = λ i. option_or (repeated_cause (place_in_causes_of_field_at_index Tables.Dir DIR_NAME_INDEX) (alone (map name_of (folders_in pkg)) i)) (repeated_cause (place_in_causes_of_field_at_index Tables.File FILE_NAME_INDEX) (alone_several (map (λ folder. map name_of (files_in folder)) (folders_in pkg)) i))

-- ---- what is reported of several lists is the first pair of all

from-here : (names : List (List ℕ)) (others : List (List (List ℕ))) (p : Pair) → Either (IsPairOfEqualNames (numbered_from 1 names)) (ArePositionsOfNameTwiceInOneList others) p → ArePositionsOfNameTwiceInOneList (names ∷ others) p
from-here names others p (inl k) = record { names = names; names_in = inl refl; is_pair = k }
from-here names others p (inr k) = record { names = k.names; names_in = inr k.names_in; is_pair = k.is_pair }

here-by : (names : List (List ℕ)) (others : List (List (List ℕ))) (p : Pair) (found : List (List ℕ)) → IsIn found (names ∷ others) → IsPairOfEqualNames (numbered_from 1 found) p → Either (IsPairOfEqualNames (numbered_from 1 names)) (ArePositionsOfNameTwiceInOneList others) p
here-by names others p found (inl e) k = let P : List (List ℕ) → Type 0 = λ l. IsPairOfEqualNames (numbered_from 1 l) p in inl (subst P e k)
here-by names others p found (inr h) k = inr (record { names = found; names_in = h; is_pair = k })

pub least_positions_of_name_twice_in_one_list-first : (lists : List (List (List ℕ))) → IsLeastPairIfAny (ArePositionsOfNameTwiceInOneList lists) (least_positions_of_name_twice_in_one_list lists)
least_positions_of_name_twice_in_one_list-first [] = λ p k. k.names_in
least_positions_of_name_twice_in_one_list-first (names ∷ others) =
    alike (Either (IsPairOfEqualNames (numbered_from 1 names)) (ArePositionsOfNameTwiceInOneList others)) (ArePositionsOfNameTwiceInOneList (names ∷ others)) (least_positions_of_name_twice_in_one_list (names ∷ others)) (from-here names others) (λ p k. here-by names others p k.names k.names_in k.is_pair)
    (lesser_pair-first (IsPairOfEqualNames (numbered_from 1 names)) (ArePositionsOfNameTwiceInOneList others) (least_positions_of_name_twice_in_list names) (least_positions_of_name_twice_in_one_list others) (least_pair_of_equal_names-first (numbered_from 1 names)) (least_positions_of_name_twice_in_one_list-first others))
