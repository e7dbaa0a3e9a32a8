-- The numbers of a payload, read from the bytes that are found for them.
use Rattle.std.proofs.Common.{◌≡◌, ℕ, ◌+◌, ◌<◌, ◌≤◌, Bool, true, false, cond, leb, List, length, get_or, take, drop, Some, None, option_map, refl, sym, ap, subst, ◌∙◌, arith}
use Rattle.std.specs.Int.{w8, byte_len, from_le_bytes}
use Rattle.std.proofs.lemmas.Bool.{leb-true}
use Rattle.std.proofs.lemmas.List.{length-take-le, length-drop}
use Rattle.adb_view.specs.Bytes.{bytes_at_with_len, number_at}
use Rattle.adb_view.specs.Width.{width_of}
use Rattle.adb_view.specs.declared.words.Width.{Width}

found_by : (bytes : List ℕ) (at len : ℕ) (x : List ℕ) (b : Bool) → leb (at + len) (length bytes) ≡ b → cond b (Some (take len (drop at bytes))) None ≡ Some x → length x ≡ len
found_by bytes at len x true t e =
    let within : at + len ≤ length bytes = leb-true _ _ t in
    let is : take len (drop at bytes) ≡ x = (cc) in
    sym (ap length is) ∙ length-take-le len (drop at bytes) (omega (arith, within, length-drop at bytes))
found_by bytes at len x false t e = absurd (cc)

-- bytes that are found are as many as were asked for
pub found_len : (bytes : List ℕ) (at len : ℕ) (x : List ℕ) → bytes_at_with_len bytes at len ≡ Some x → length x ≡ len
found_len bytes at len x e = found_by bytes at len x (leb (at + len) (length bytes)) refl e

-- an index below the width of a number is that of a byte found for it
pub byte_within : (k : ℕ) (width v : Width) (bytes : List ℕ) (at n : ℕ) (x : List ℕ) → width ≡ v → n ≡ byte_len (width_of width) → bytes_at_with_len bytes at n ≡ Some x → k < byte_len (width_of v) → k < length x
byte_within k width v bytes at n x is len found lt =
    let all : length x ≡ byte_len (width_of v) = found_len bytes at n x found ∙ len ∙ ap (λ (u : Width). byte_len (width_of u)) is in
    subst (λ (m : ℕ). k < m) (sym all) lt

-- a number is that of the bytes found for it
pub number_read : (width v : Width) (bytes : List ℕ) (at n : ℕ) (x : List ℕ) (m : ℕ) → width ≡ v → n ≡ byte_len (width_of width) → bytes_at_with_len bytes at n ≡ Some x → m ≡ from_le_bytes (width_of v) x → Some m ≡ number_at (width_of width) bytes at
number_read width v bytes at n x m is len found e =
    let all : bytes_at_with_len bytes at (byte_len (width_of width)) ≡ Some x = ap (bytes_at_with_len bytes at) (sym len) ∙ found in
    ap Some (e ∙ ap (λ (u : Width). from_le_bytes (width_of u) x) (sym is)) ∙ sym (ap (option_map (from_le_bytes (width_of width))) all)

-- a number of one byte is this byte
pub one_byte : (x : List ℕ) → get_or x 0 0 ≡ from_le_bytes w8 x
one_byte x = omega arith
