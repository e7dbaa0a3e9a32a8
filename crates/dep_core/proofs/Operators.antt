-- The operators and their bits.
use Rattle.std.proofs.Common.{◌≡◌, ℕ, Bool, true, false, cond, eqb, List, [], ◌∷◌, Option, Some, None, refl, ap, sym, codes, subst}
use Rattle.std.specs.Prelude.{is_some, nat_lt, unwrap_or}
use Rattle.std.specs.List.{list_all}
use Rattle.std.specs.Str.{bytes_eq}
use Rattle.std.specs.Cmp.Lexicographic.{bytes_decides}
use Rattle.std.proofs.lemmas.Bool.{eqb-true, false≢true}
use Rattle.dep_core.specs.DependencyText.{operator_text}
use Rattle.dep_core.specs.Reading.{is_operator_byte, operator_bits}

abbrev pub begins_as_operator : List ℕ → Bool
begins_as_operator [] = false
begins_as_operator (b ∷ rest) = is_operator_byte b

-- what holds of an operator and its bits
abbrev pub IsOperator : List ℕ → ℕ → Type 0
IsOperator op bits =
    (list_all is_operator_byte op ≡ true) × (begins_as_operator op ≡ true) × (is_some (operator_text bits) ≡ true)

pub some-inj : {A : Type 0} {a b : A} → Some a ≡ Some b → a ≡ b
some-inj {A} {a} {b} h = ap (λ o. unwrap_or o a) h

-- one row of the table
row : (test : Bool) (op text : List ℕ) (n bits : ℕ) (rest : Option ℕ) → test ≡ bytes_eq op text → IsOperator text n → cond test (Some n) rest ≡ Some bits → (rest ≡ Some bits → IsOperator op bits) → IsOperator op bits
row true op text n bits rest t known h more =
    let same : op ≡ text = (bytes_decides op text).0 (sym t) in
    let P : List ℕ → Type 0 = λ o. IsOperator o n in
    let Q : ℕ → Type 0 = λ m. IsOperator op m in
    subst Q (some-inj h) (subst P (sym same) known)
row false op text n bits rest t known h more = more h

none_left : (op : List ℕ) (bits : ℕ) → None ≡ Some bits → IsOperator op bits
none_left op bits h = (cc)

pub operator-is : (op : List ℕ) (bits : ℕ) → operator_bits op ≡ Some bits → IsOperator op bits
operator-is op bits h =
    row (bytes_eq op (codes "=")) op (codes "=") 1 bits _ refl (refl, refl, refl) h
    (λ h. row (bytes_eq op (codes "<")) op (codes "<") 2 bits _ refl (refl, refl, refl) h
    (λ h. row (bytes_eq op (codes "<=")) op (codes "<=") 3 bits _ refl (refl, refl, refl) h
    (λ h. row (bytes_eq op (codes ">")) op (codes ">") 4 bits _ refl (refl, refl, refl) h
    (λ h. row (bytes_eq op (codes ">=")) op (codes ">=") 5 bits _ refl (refl, refl, refl) h
    (λ h. row (bytes_eq op (codes "~")) op (codes "~") 9 bits _ refl (refl, refl, refl) h
    (λ h. row (bytes_eq op (codes "<~")) op (codes "<~") 11 bits _ refl (refl, refl, refl) h
    (λ h. row (bytes_eq op (codes ">~")) op (codes ">~") 13 bits _ refl (refl, refl, refl) h
    (λ h. row (bytes_eq op (codes "=~")) op (codes "=~") 9 bits _ refl (refl, refl, refl) h
    (λ h. row (bytes_eq op (codes "~=")) op (codes "~=") 9 bits _ refl (refl, refl, refl) h
    (none_left op bits))))))))))

-- ---- the bits that have an operator

bits-row : (P : ℕ → Type 0) (test : Bool) (n bits : ℕ) (text : List ℕ) (rest : Option (List ℕ)) → test ≡ eqb n bits → P n → is_some (cond test (Some text) rest) ≡ true → (is_some rest ≡ true → P bits) → P bits
bits-row P true n bits text rest t known h more = subst P (eqb-true n bits (sym t)) known
bits-row P false n bits text rest t known h more = more h

no_bits : (P : ℕ → Type 0) (bits : ℕ) → false ≡ true → P bits
no_bits P bits h = absurd (false≢true h)

-- what holds of the bits of each operator holds of bits that have one
pub each_operator : (P : ℕ → Type 0) → P 1 → P 2 → P 3 → P 4 → P 5 → P 9 → P 11 → P 13 → (bits : ℕ) → is_some (operator_text bits) ≡ true → P bits
each_operator P p1 p2 p3 p4 p5 p9 p11 p13 bits h =
    bits-row P (eqb 1 bits) 1 bits (codes "=") _ refl p1 h
    (λ h. bits-row P (eqb 2 bits) 2 bits (codes "<") _ refl p2 h
    (λ h. bits-row P (eqb 3 bits) 3 bits (codes "<=") _ refl p3 h
    (λ h. bits-row P (eqb 4 bits) 4 bits (codes ">") _ refl p4 h
    (λ h. bits-row P (eqb 5 bits) 5 bits (codes ">=") _ refl p5 h
    (λ h. bits-row P (eqb 9 bits) 9 bits (codes "~") _ refl p9 h
    (λ h. bits-row P (eqb 11 bits) 11 bits (codes "<~") _ refl p11 h
    (λ h. bits-row P (eqb 13 bits) 13 bits (codes ">~") _ refl p13 h
    (no_bits P bits))))))))

-- the text of an operator is read as its bits
pub text-read : (bits : ℕ) → is_some (operator_text bits) ≡ true → operator_bits (unwrap_or (operator_text bits) []) ≡ Some bits
text-read bits h =
    let P : ℕ → Type 0 = λ n. operator_bits (unwrap_or (operator_text n) []) ≡ Some n in
    each_operator P refl refl refl refl refl refl refl refl bits h

-- the text of an operator has no blank
pub text-visible : (bits : ℕ) → is_some (operator_text bits) ≡ true → list_all (nat_lt 32) (unwrap_or (operator_text bits) []) ≡ true
text-visible bits h =
    let P : ℕ → Type 0 = λ n. list_all (nat_lt 32) (unwrap_or (operator_text n) []) ≡ true in
    each_operator P refl refl refl refl refl refl refl refl bits h
