-- Which test of a header fails.
use Rattle.std.proofs.Common.{◌≡◌, inl, inr, ℕ, Bool, true, false, not, ◌||◌, nat_lt, if◌then◌else◌, List, ◌++◌, length, take, drop, codes, bytes_eq, Ok, Err, refl, ap, sym, ◌∙◌}
use Rattle.std.proofs.lemmas.Bool.{ltb-false, ltb-true, not-true, or_right, not-false, or_left}
use Rattle.std.proofs.lemmas.List.{take-append-drop, take_at}
use Rattle.std.proofs.lemmas.Slice.Eq.{bytes_eq-Decides}
use Rattle.adb_block.specs.Header.{schema_of_header, is_four_byte_mark_of_compressed_file, word_at}
use Rattle.base_core.specs.declared.Cause.{Cause}
use Rattle.base_core.specs.declared.Cause.TheVariants.{NotAdb, Compressed, Truncated}
use Rattle.definition_laws.specs.containers.HeaderFaults.{BeginsAs, IsCompressedFile, IsHeaderFault, BeginsAsNoContainer}

front_is : (mark file : List ℕ) → bytes_eq (take 4 file) mark ≡ true → BeginsAs mark file
front_is mark file e =
    let front : take 4 file ≡ mark = (bytes_eq-Decides (take 4 file) mark).0 e in
    (drop 4 file, sym (take-append-drop 4 file) ∙ ap (λ (xs : List ℕ). xs ++ drop 4 file) front)

front_of : (mark file : List ℕ) → length mark ≡ 4 → BeginsAs mark file → bytes_eq (take 4 file) mark ≡ true
front_of mark file four (rest, e) =
    let front : take 4 file ≡ mark = ap (take 4) e ∙ take_at mark rest 4 four in
    (bytes_eq-Decides (take 4 file) mark).1 front

either_is : (a b : Bool) (file : List ℕ) → bytes_eq (take 4 file) (codes "ADBd") ≡ a → bytes_eq (take 4 file) (codes "ADBc") ≡ b → (a || b) ≡ true → IsCompressedFile file
either_is true b file ea eb e = inl (front_is (codes "ADBd") file ea)
either_is false true file ea eb e = inr (front_is (codes "ADBc") file eb)
either_is false false file ea eb e = absurd (cc (e))

none_compressed : (file : List ℕ) → is_four_byte_mark_of_compressed_file (take 4 file) ≡ false → IsCompressedFile file → ⊥
none_compressed file e (inl h) =
    let yes = or_left (bytes_eq (take 4 file) (codes "ADBd")) (bytes_eq (take 4 file) (codes "ADBc")) (front_of (codes "ADBd") file refl h) in
    cc (e, yes)
none_compressed file e (inr h) =
    let yes = or_right (bytes_eq (take 4 file) (codes "ADBd")) (bytes_eq (take 4 file) (codes "ADBc")) (front_of (codes "ADBc") file refl h) in
    cc (e, yes)

by_tests : (file : List ℕ) (c : Cause) (short compressed other cut : Bool) → nat_lt (length file) 4 ≡ short → is_four_byte_mark_of_compressed_file (take 4 file) ≡ compressed → not (bytes_eq (take 4 file) (codes "ADB.")) ≡ other → nat_lt (length file) 8 ≡ cut
    → (if short then Err (Truncated 0) else (if compressed then Err Compressed else (if other then Err NotAdb else (if cut then Err (Truncated 0) else Ok (word_at 4 file))))) ≡ Err c → IsHeaderFault file c
by_tests file c true compressed other cut es ec eo et e =
    let same : Truncated 0 ≡ c = cc (e) in
    inl (ltb-true (length file) 4 es, sym same)
by_tests file c false true other cut es ec eo et e =
    let same : Compressed ≡ c = cc (e) in
    inr (inl (either_is (bytes_eq (take 4 file) (codes "ADBd")) (bytes_eq (take 4 file) (codes "ADBc")) file refl refl ec, sym same))
by_tests file c false false true cut es ec eo et e =
    let same : NotAdb ≡ c = cc (e) in
    let no : bytes_eq (take 4 file) (codes "ADB.") ≡ false = not-true (bytes_eq (take 4 file) (codes "ADB.")) eo in
    let unknown : BeginsAsNoContainer file = (none_compressed file ec, λ h. let yes = front_of (codes "ADB.") file refl h in cc (no, yes)) in
    inr (inr (inl (ltb-false (length file) 4 es, unknown, sym same)))
by_tests file c false false false true es ec eo et e =
    let same : Truncated 0 ≡ c = cc (e) in
    inr (inr (inr (front_is (codes "ADB.") file (not-false (bytes_eq (take 4 file) (codes "ADB.")) eo), ltb-true (length file) 8 et, sym same)))
by_tests file c false false false false es ec eo et e = absurd (cc (e))

pub header_told : (file : List ℕ) (c : Cause) → schema_of_header file ≡ Err c → IsHeaderFault file c
unfolding schema_of_header
header_told file c e =
    by_tests file c (nat_lt (length file) 4) (is_four_byte_mark_of_compressed_file (take 4 file)) (not (bytes_eq (take 4 file) (codes "ADB."))) (nat_lt (length file) 8) refl refl refl refl e
