-- The bytes of an item, appended piece by piece: zeros, the number with which the item begins, and its content.
use Rattle.std.proofs.Common.{◌≡◌, ℕ, ◌-◌, ◌≤◌, List, [], ◌++◌, length, take, drop, replicate, Result, Ok, Err, refl, sym, ap, ◌∙◌, append_assoc, arith}
use Rattle.std.specs.Prelude.{if◌then◌else◌}
use Rattle.std.specs.Result.{IsErrAnd, OnOk, is_ok}
use Rattle.std.specs.Int.{w64, to_le_bytes}
use Rattle.std.proofs.lemmas.List.{append-nil, take-append-drop, take_all, take_at}

-- the zeros are behind the bytes before
pub zeros_behind : (o x : List ℕ) (at n : ℕ) → length o ≤ at → n ≡ length o → x ≡ take at o ++ replicate (at - n) 0 → x ≡ o ++ replicate (at - length o) 0
zeros_behind o x at n le len is = is ∙ ap (λ (f : List ℕ). f ++ replicate (at - n) 0) (take_all at o le) ∙ ap (λ (k : ℕ). o ++ replicate (at - k) 0) len

-- zeros, the number and the content make the item
pub item_behind : (o x y bytes written content rest : List ℕ) (at n k number align : ℕ) → length o ≤ at → n ≡ length o → x ≡ take at o ++ replicate (at - n) 0 → y ≡ x ++ take k written → k ≡ align → written ≡ to_le_bytes w64 number
    → bytes ≡ take align (to_le_bytes w64 number) ++ content → content ≡ rest → y ++ rest ≡ o ++ (replicate (at - length o) 0 ++ bytes)
item_behind o x y bytes written content rest at n k number align le len is front width number_is whole same =
    let zeros : List ℕ = replicate (at - length o) 0 in
    let head : List ℕ = take align (to_le_bytes w64 number) in
    let head_is : take k written ≡ head = ap (λ (i : ℕ). take i written) width ∙ ap (take align) number_is in
    let there : y ≡ (o ++ zeros) ++ head = front ∙ ap (λ (f : List ℕ). f ++ take k written) (zeros_behind o x at n le len is) ∙ ap (λ (h : List ℕ). (o ++ zeros) ++ h) head_is in
    ap (λ (f : List ℕ). f ++ rest) there ∙ append_assoc (o ++ zeros) head rest ∙ append_assoc o zeros (head ++ rest) ∙ ap (λ (b : List ℕ). o ++ (zeros ++ (head ++ b))) (sym same) ∙ ap (λ (b : List ℕ). o ++ (zeros ++ b)) (sym whole)

-- the bytes before are unchanged by what is appended
pub before_kept : (o x y zeros rest : List ℕ) → x ≡ o ++ zeros → y ≡ x ++ rest → take (length o) y ≡ o
before_kept o x y zeros rest is more =
    ap (take (length o)) (more ∙ ap (λ (f : List ℕ). f ++ rest) is ∙ append_assoc o zeros rest) ∙ take_at o (zeros ++ rest) (length o) refl

-- the same of a call that appends only on Ok
pub before_kept_by : {A E : Type 0} (r : Result A E) (o w x y zeros head rest : List ℕ) → w ≡ o ++ zeros → x ≡ w ++ head → y ≡ (if is_ok r then x ++ rest else x) → take (length o) y ≡ o
before_kept_by (Ok a) o w x y zeros head rest is more e = before_kept o w y zeros (head ++ rest) is (e ∙ ap (λ (f : List ℕ). f ++ rest) more ∙ append_assoc w head rest)
before_kept_by (Err a) o w x y zeros head rest is more e = before_kept o w y zeros head is (e ∙ more)

-- what a call appends on Ok
pub appended_by : {A E : Type 0} (r : Result A E) (x y rest all : List ℕ) → y ≡ (if is_ok r then x ++ rest else x) → x ++ rest ≡ all → OnOk r (y ≡ all)
appended_by (Ok a) x y rest all e is = e ∙ is
appended_by (Err a) x y rest all e is = tt

-- the same of a call that says it on Ok alone
pub appended_on_ok : {A E : Type 0} (r : Result A E) (x y rest all : List ℕ) → OnOk r (y ≡ x ++ rest) → x ++ rest ≡ all → OnOk r (y ≡ all)
appended_on_ok (Ok a) x y rest all e is = e ∙ is
appended_on_ok (Err a) x y rest all e is = tt

-- the same of a call that keeps what is there before it
pub before_kept_again : (o w x y zeros head : List ℕ) → w ≡ o ++ zeros → x ≡ w ++ head → take (length x) y ≡ x → take (length o) y ≡ o
before_kept_again o w x y zeros head is more e =
    let rest : List ℕ = drop (length x) y in
    before_kept o w y zeros (head ++ rest) is (sym (take-append-drop (length x) y) ∙ ap (λ (f : List ℕ). f ++ rest) (e ∙ more) ∙ append_assoc w head rest)

-- the same of a call that appends nothing
pub before_kept_alone : (o w x zeros : List ℕ) → w ≡ o ++ zeros → x ≡ w → take (length o) x ≡ o
before_kept_alone o w x zeros is same = before_kept o w x zeros [] is (same ∙ sym (append-nil w))

-- bytes that a call leaves as they were
pub same_kept : (o x : List ℕ) → x ≡ o → take (length o) x ≡ o
same_kept o x same = ap (take (length o)) same ∙ take_all (length o) o (omega arith)

-- an error says nothing of Ok
pub not_ok : {A E : Type 0} (r : Result A E) (fault : E) (P : Type 0) → IsErrAnd r (λ e. e ≡ fault) → OnOk r P
not_ok (Ok a) fault P is = absurd is
not_ok (Err e) fault P is = tt
