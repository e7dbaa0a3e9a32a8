-- The container around a payload, made in new memory or in that of the payload.
use Rattle.std.proofs.Common.{◌≡◌, ℕ, ◌+◌, ◌-◌, ◌<◌, ◌≤◌, codes, List, [], ◌∷◌, ◌++◌, length, take, drop, replicate, Result, refl, sym, ap, ◌∙◌, append_assoc, arith}
use Rattle.std.specs.Result.{IsOk}
use Rattle.std.specs.List.{flat_map}
use Rattle.std.specs.Int.{w32, to_le_bytes}
use Rattle.std.proofs.lemmas.List.{append-nil, drop_at, take_at, take_all, length-append, length-replicate}
use Rattle.std.proofs.lemmas.List.Concat.{flat_map-cons}
use Rattle.adb_block.specs.BlockWithoutOffset.{padding_of}
use Rattle.adb_block.specs.Written.{block_bytes, head_bytes}
use Rattle.adb_block.specs.declared.block.BlockKind.TheVariants.{Adb}
use Rattle.adb_write.specs.File.{adb_block_of_payload, file_of}

-- the parts of the container of a payload
file_is : (schema : ℕ) (p h : List ℕ) → h ≡ head_bytes Adb (length p) → file_of schema p ≡ codes "ADB." ++ (to_le_bytes w32 schema ++ (h ++ (p ++ replicate (padding_of (length h + length p)) 0)))
file_is schema p h e =
    let one : flat_map block_bytes (adb_block_of_payload p ∷ []) ≡ block_bytes (adb_block_of_payload p) = flat_map-cons block_bytes (adb_block_of_payload p) [] ∙ append-nil (block_bytes (adb_block_of_payload p)) in
    ap (λ (x : List ℕ). codes "ADB." ++ (to_le_bytes w32 schema ++ x)) one
    ∙ ap (λ (x : List ℕ). codes "ADB." ++ (to_le_bytes w32 schema ++ (x ++ (p ++ replicate (padding_of (length x + length p)) 0)))) (sym e)

-- the length of the container of a payload
file_len : (schema : ℕ) (p h : List ℕ) → h ≡ head_bytes Adb (length p) → length (file_of schema p) ≡ 8 + (length h + (length p + padding_of (length h + length p)))
file_len schema p h e =
    let zeros : List ℕ = replicate (padding_of (length h + length p)) 0 in
    ap length (file_is schema p h e) ∙ omega (arith, length-append h (p ++ zeros), length-append p zeros, length-replicate {A = ℕ} (padding_of (length h + length p)) 0)

-- the header is appended to the payload, and then rotated to the front
pub rotated : (p a s h f1 f2 f3 f4 : List ℕ) (k n : ℕ) → length a ≡ 4 → length s ≡ 4 → f1 ≡ p ++ a → f2 ≡ f1 ++ s → f3 ≡ f2 ++ h → k ≡ 8 + length h → n ≡ length f3 → f4 ≡ drop (n - k) f3 ++ take (n - k) f3 → f4 ≡ (a ++ (s ++ h)) ++ p
rotated p a s h f1 f2 f3 f4 k n four four' e1 e2 e3 is all e4 =
    let m : List ℕ = a ++ (s ++ h) in
    let front : f2 ≡ (p ++ a) ++ s = e2 ∙ ap (λ (f : List ℕ). f ++ s) e1 in
    let whole : f3 ≡ p ++ m = e3 ∙ ap (λ (f : List ℕ). f ++ h) front ∙ append_assoc (p ++ a) s h ∙ append_assoc p a (s ++ h) in
    let len : n - k ≡ length p = omega (arith, is, all, ap length whole, length-append p m, length-append a (s ++ h), length-append s h) in
    let parts : f4 ≡ drop (length p) f3 ++ take (length p) f3 = e4 ∙ ap (λ (i : ℕ). drop i f3 ++ take i f3) len in
    parts ∙ ap (λ (f : List ℕ). drop (length p) f ++ take (length p) f) whole ∙ ap (λ (f : List ℕ). f ++ take (length p) (p ++ m)) (drop_at p m (length p) refl) ∙ ap (λ (f : List ℕ). m ++ f) (take_at p m (length p) refl)

-- the parts before the zeros are appended one after the other
pub in_order : (p a s h f0 f1 f2 f3 f4 : List ℕ) → f0 ≡ [] → f1 ≡ f0 ++ a → f2 ≡ f1 ++ s → f3 ≡ f2 ++ h → f4 ≡ f3 ++ p → f4 ≡ (a ++ (s ++ h)) ++ p
in_order p a s h f0 f1 f2 f3 f4 e0 e1 e2 e3 e4 =
    let mark : f1 ≡ a = e1 ∙ ap (λ (f : List ℕ). f ++ a) e0 in
    let front : f3 ≡ a ++ (s ++ h) = e3 ∙ ap (λ (f : List ℕ). f ++ h) (e2 ∙ ap (λ (f : List ℕ). f ++ s) mark) ∙ append_assoc a s h in
    e4 ∙ ap (λ (f : List ℕ). f ++ p) front

-- with zeros behind the payload, the container is whole
pub padded : (schema : ℕ) (p h f4 f5 : List ℕ) (len n pad : ℕ) → h ≡ head_bytes Adb (length p) → f4 ≡ (codes "ADB." ++ (to_le_bytes w32 schema ++ h)) ++ p → n ≡ length f4 → len ≡ 8 + length h + length p + pad → pad ≡ padding_of (length h + length p)
    → f5 ≡ take len f4 ++ replicate (len - n) 0 → f5 ≡ file_of schema p
padded schema p h f4 f5 len n pad e e4 len4 len5 zeros e5 =
    let a : List ℕ = codes "ADB." in
    let s : List ℕ = to_le_bytes w32 schema in
    let all : length f4 ≡ 8 + length h + length p = ap length e4 ∙ omega (arith, length-append (a ++ (s ++ h)) p, length-append h p) in
    let rest : len - n ≡ padding_of (length h + length p) = omega (arith, all, len4, len5, zeros) in
    e5 ∙ ap (λ (f : List ℕ). f ++ replicate (len - n) 0) (take_all len f4 (omega (arith, all, len5)) ∙ e4) ∙ ap (λ (k : ℕ). ((a ++ (s ++ h)) ++ p) ++ replicate k 0) rest
    ∙ append_assoc (a ++ (s ++ h)) p (replicate (padding_of (length h + length p)) 0) ∙ append_assoc a (s ++ h) (p ++ replicate (padding_of (length h + length p)) 0)
    ∙ ap (λ (f : List ℕ). a ++ f) (append_assoc s h (p ++ replicate (padding_of (length h + length p)) 0)) ∙ sym (file_is schema p h e)

-- The four lemmas below: a call that failed for lack of memory had less memory than the container needs.

-- the call that appends the four bytes `ADB.`
pub no_room_for_mark : {A E : Type 0} (r : Result A E) (schema : ℕ) (p h : List ℕ) (room n : ℕ) → h ≡ head_bytes Adb (length p) → n ≡ length p → room < n + 4 → length (file_of schema p) ≤ room → IsOk r
no_room_for_mark r schema p h room n e len full le =
    let all = file_len schema p h e in
    absurd (omega (arith, all, len, full, le))

-- the call that appends the schema
pub no_room_for_schema : {A E : Type 0} (r : Result A E) (schema : ℕ) (p h : List ℕ) (room cap n n1 s : ℕ) → h ≡ head_bytes Adb (length p) → n ≡ length p → room ≤ cap → n1 ≡ n + 4 → s ≡ 4 → cap < n1 + s → length (file_of schema p) ≤ room → IsOk r
no_room_for_schema r schema p h room cap n n1 s e len grown one four full le =
    let all = file_len schema p h e in
    absurd (omega (arith, all, len, grown, one, four, full, le))

-- the call that appends the header of the block
pub no_room_for_head : {A E : Type 0} (r : Result A E) (schema : ℕ) (p h : List ℕ) (room cap cap' n n1 n2 s : ℕ) → h ≡ head_bytes Adb (length p) → n ≡ length p → room ≤ cap → cap ≤ cap' → n1 ≡ n + 4 → s ≡ 4 → n2 ≡ n1 + s → cap' < n2 + length h → length (file_of schema p) ≤ room → IsOk r
no_room_for_head r schema p h room cap cap' n n1 n2 s e len grown grown' one four two full le =
    let all = file_len schema p h e in
    absurd (omega (arith, all, len, grown, grown', one, four, two, full, le))

-- the call that appends the zeros
pub no_room_for_zeros : {A E : Type 0} (r : Result A E) (schema : ℕ) (p h : List ℕ) (room cap cap' cap'' c total pad : ℕ) → h ≡ head_bytes Adb (length p) → room ≤ cap → cap ≤ cap' → cap' ≤ cap'' → c ≡ cap'' → total ≡ 8 + length h + length p + pad → pad ≡ padding_of (length h + length p) → c < total
    → length (file_of schema p) ≤ room → IsOk r
no_room_for_zeros r schema p h room cap cap' cap'' c total pad e g g' g'' same sum zeros full le =
    let all = file_len schema p h e in
    absurd (omega (arith, all, g, g', g'', same, sum, zeros, full, le))
