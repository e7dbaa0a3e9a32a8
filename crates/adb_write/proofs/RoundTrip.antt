-- The value of a canonical payload is the value.
use Rattle.std.proofs.Common.{◌≡◌, ◌≢◌, ◌⊎◌, ℕ, zero, suc, ◌+◌, ◌*◌, ◌^◌, ◌<◌, ◌≤◌, Bool, true, false, cond, eqb, leb, ltb, List, [], ◌∷◌, ◌++◌, length, take, drop, replicate, Option, Some, None, option_map, option_and_then, Ok, refl, sym, ap, subst, ◌∙◌, append_assoc, arith, inl, inr, lit<, eq-eqb, le_trans}
use Rattle.std.specs.Prelude.{find}
use Rattle.std.specs.List.{flat_map, AllByRecursion}
use Rattle.std.specs.Int.{Width, w8, w16, w32, w64, byte_len, from_le_bytes, to_le_bytes}
use Rattle.std.proofs.lemmas.Bool.{cases_lt, leb-true, le-leb, lt-ltb, le-ltb, ne_eqb}
use Rattle.std.proofs.lemmas.List.{append-nil, take_at, drop_at, length-append, length-drop, length-replicate, take-append-le, drop-append-le}
use Rattle.adb_view.specs.Bytes.{bytes_at_with_len, number_at, words}
use Rattle.adb_view.specs.Plain.{IsNormal, AreNormal, Plain, null, int, blob, arr, obj, Plains, none, more, without_last_nulls, blob_or_null, array_or_null, object_or_null, trimmed_object_or_null, Shape, number, text, hash, array, object, Fields, no_fields, field, null_plain_if_null_word, option_of_ok_value, plains_of_all_words, plain_of, plains_of, root_value_with_shape}
use Rattle.adb_view.specs.Head.{root_word_of_payload}
use Rattle.adb_view.specs.Readers.{kind_number_of_word, low_28_bits, or_outside_cause, length_prefixed_bytes_at, run_entries_at_with_word_count, run_entries_at, int_of, blob_of, run_entries_of_kind_in_payload_at_word, ARRAY, OBJECT}
use Rattle.adb_write.specs.Canonical.{padding_to_alignment_from_offset, Item, WrittenItem, Cell, in_place, apart, int_cell, blob_cell, array_or_object_cell, run_bytes_with_leading_count, prepend_unless_last_null, words_without_last_nulls, Layout, empty_layout_counting_root, payload_end_offset, is_equal_item, word_of_written_item, word_and_layout_with_new_item, word_and_layout_with_reused_or_new_item, word_and_layout_with_item, word_and_layout_with_cell, word_and_layout_with_array_or_object, write, write_all, payload_with_root_word_in_head, canonical, MOST_BYTES}
use Rattle.adb_view.specs.Shaped.{Each, HasShape, HaveShapes}
use Rattle.adb_view.proofs.Normal.{trimmed-more}
use Rattle.adb_write.specs.Denotes.{Holds, HoldAll, IsWordOf}
use Rattle.adb_write.proofs.Found.{find-passes, equal_kind, equal_bytes, equal_within, equal_stands}
use Rattle.adb_write.proofs.Placed.{Stands, Stands-append, wide8, wide16, wide32, wide64, number_stands, counted_stands, run_stands, words_len, place, placed_stands, word_kind, word_low}

chosen : {A : Type 0} (b : Bool) (x y z : A) → cond b x y ≡ z → ((b ≡ true) × (x ≡ z)) ⊎ ((b ≡ false) × (y ≡ z))
chosen true x y z e = inl (refl, e)
chosen false x y z e = inr (refl, e)

-- ---- more bytes at the end change nothing that was read

bytes_at_with_len-append : (p q : List ℕ) (at n : ℕ) (x : List ℕ) → bytes_at_with_len p at n ≡ Some x → bytes_at_with_len (p ++ q) at n ≡ Some x
bytes_at_with_len-append p q at n x e =
    elim (chosen (leb (at + n) (length p)) _ _ _ e) [
      | inl (t, s) ↦
          let le : at + n ≤ length p = leb-true _ _ t in
          let more : leb (at + n) (length (p ++ q)) ≡ true = le-leb _ _ (omega (arith, length-append p q)) in
          rw (more, drop-append-le at p q (omega arith), take-append-le n (drop at p) q (omega (arith, length-drop at p))) s
      | inr (t, s) ↦ absurd cc
    ]

some_map : {A B : Type 0} (f : A → B) (o : Option A) (y : B) → option_map f o ≡ Some y → (x : A) × (o ≡ Some x) × (f x ≡ y)
some_map f (Some x) y e = (x, refl, cc)
some_map f None y e = absurd cc

some_then : {A B : Type 0} (f : A → Option B) (o : Option A) (y : B) → option_and_then f o ≡ Some y → (x : A) × (o ≡ Some x) × (f x ≡ Some y)
some_then f (Some x) y e = (x, refl, e)
some_then f None y e = absurd cc

number_at-append : (w : Width) (p q : List ℕ) (at n : ℕ) → number_at w p at ≡ Some n → number_at w (p ++ q) at ≡ Some n
number_at-append w p q at n e =
    let (x, is, y) = some_map (from_le_bytes w) (bytes_at_with_len p at (byte_len w)) n e in
    ap (option_map (from_le_bytes w)) (bytes_at_with_len-append p q at (byte_len w) x is) ∙ ap Some y

length_prefixed_bytes_at-append : (w : Width) (p q : List ℕ) (at : ℕ) (b : List ℕ) → length_prefixed_bytes_at w p at ≡ Some b → length_prefixed_bytes_at w (p ++ q) at ≡ Some b
length_prefixed_bytes_at-append w p q at b e =
    let (n, is, y) = some_then (λ len. bytes_at_with_len p (at + byte_len w) len) (number_at w p at) b e in
    ap (option_and_then (λ len. bytes_at_with_len (p ++ q) (at + byte_len w) len)) (number_at-append w p q at n is) ∙ bytes_at_with_len-append p q (at + byte_len w) n b y

run_entries_at_with_word_count-append : (p q : List ℕ) (at n : ℕ) (ws : List ℕ) → run_entries_at_with_word_count p at n ≡ Some ws → run_entries_at_with_word_count (p ++ q) at n ≡ Some ws
run_entries_at_with_word_count-append p q at zero ws e = absurd cc
run_entries_at_with_word_count-append p q at (suc n) ws e =
    let (x, is, y) = some_map (words n) (bytes_at_with_len p (at + 4) (4 * n)) ws e in
    ap (option_map (words n)) (bytes_at_with_len-append p q (at + 4) (4 * n) x is) ∙ ap Some y

run_entries_at-append : (p q : List ℕ) (at : ℕ) (ws : List ℕ) → run_entries_at p at ≡ Some ws → run_entries_at (p ++ q) at ≡ Some ws
run_entries_at-append p q at ws e =
    let (n, is, y) = some_then (run_entries_at_with_word_count p at) (number_at w32 p at) ws e in
    ap (option_and_then (run_entries_at_with_word_count (p ++ q) at)) (number_at-append w32 p q at n is) ∙ run_entries_at_with_word_count-append p q at n ws y

inside_ok : {A : Type 0} (w : ℕ) (o : Option A) (x : A) → or_outside_cause w o ≡ Ok x → o ≡ Some x
inside_ok w (Some y) x e = cc
inside_ok w None x e = absurd cc

inside-append : {A : Type 0} (w : ℕ) (o o' : Option A) (x : A) → ((y : A) → o ≡ Some y → o' ≡ Some y) → or_outside_cause w o ≡ Ok x → or_outside_cause w o' ≡ Ok x
inside-append w o o' x h e = ap (or_outside_cause w) (h x (inside_ok w o x e))

-- one test of a reader, the same on both sides
test_same : {A : Type 0} (b : Bool) (x x' y y' : A) (z : A) → (x ≡ z → x' ≡ z) → (y ≡ z → y' ≡ z) → cond b x y ≡ z → cond b x' y' ≡ z
test_same true x x' y y' z f g e = f e
test_same false x x' y y' z f g e = g e

int_of-append : (p q : List ℕ) (w n : ℕ) → int_of p w ≡ Ok n → int_of (p ++ q) w ≡ Ok n
unfolding int_of
int_of-append p q w n e =
    test_same (eqb w 0) _ _ _ _ (Ok n) (λ e. e) (
    test_same (eqb (kind_number_of_word w) 1) _ _ _ _ (Ok n) (λ e. e) (
    test_same (eqb (kind_number_of_word w) 2) _ _ _ _ (Ok n) (inside-append w _ _ n (λ y. number_at-append w32 p q (low_28_bits w) y)) (
    test_same (eqb (kind_number_of_word w) 3) _ _ _ _ (Ok n) (inside-append w _ _ n (λ y. number_at-append w64 p q (low_28_bits w) y)) (λ e. e)))) e

blob_of-append : (p q : List ℕ) (w : ℕ) (b : List ℕ) → blob_of p w ≡ Ok b → blob_of (p ++ q) w ≡ Ok b
unfolding blob_of
blob_of-append p q w b e =
    test_same (eqb w 0) _ _ _ _ (Ok b) (λ e. e) (
    test_same (eqb (kind_number_of_word w) 8) _ _ _ _ (Ok b) (inside-append w _ _ b (λ y. length_prefixed_bytes_at-append w8 p q (low_28_bits w) y)) (
    test_same (eqb (kind_number_of_word w) 9) _ _ _ _ (Ok b) (inside-append w _ _ b (λ y. length_prefixed_bytes_at-append w16 p q (low_28_bits w) y)) (
    test_same (eqb (kind_number_of_word w) 10) _ _ _ _ (Ok b) (inside-append w _ _ b (λ y. length_prefixed_bytes_at-append w32 p q (low_28_bits w) y)) (λ e. e)))) e

run_entries_of_kind_in_payload_at_word-append : (kind : ℕ) (p q : List ℕ) (w : ℕ) (ws : List ℕ) → run_entries_of_kind_in_payload_at_word kind p w ≡ Ok ws → run_entries_of_kind_in_payload_at_word kind (p ++ q) w ≡ Ok ws
unfolding run_entries_of_kind_in_payload_at_word
run_entries_of_kind_in_payload_at_word-append kind p q w ws e =
    test_same (eqb w 0) _ _ _ _ (Ok ws) (λ e. e) (
    test_same (eqb (kind_number_of_word w) kind) _ _ _ _ (Ok ws) (inside-append w _ _ ws (λ y. run_entries_at-append p q (low_28_bits w) y)) (λ e. e)) e

mutual
  unfolding Holds

  pub Holds-append : (p q : List ℕ) (v : Plain) (w : ℕ) → Holds p v w → Holds (p ++ q) v w
  Holds-append p q null w h = h
  Holds-append p q (int n) w h = (h.0, int_of-append p q w n h.1)
  Holds-append p q (blob b) w h = (h.0, blob_of-append p q w b h.1)
  Holds-append p q (arr vs) w (ne, ws, is, all) = (ne, ws, run_entries_of_kind_in_payload_at_word-append ARRAY p q w ws is, HoldAll-append p q vs ws all)
  Holds-append p q (obj vs) w (ne, ws, is, all) = (ne, ws, run_entries_of_kind_in_payload_at_word-append OBJECT p q w ws is, HoldAll-append p q vs ws all)

  pub HoldAll-append : (p q : List ℕ) (vs : Plains) (ws : List ℕ) → HoldAll p vs ws → HoldAll (p ++ q) vs ws
  HoldAll-append p q none [] h = tt
  HoldAll-append p q none (w ∷ ws) h = h
  HoldAll-append p q (more v vs) [] h = h
  HoldAll-append p q (more v vs) (w ∷ ws) h = (Holds-append p q v w h.0, HoldAll-append p q vs ws h.1)

-- ---- a word that holds a normal value of the shape has it as its plain value

unless_not_null : (w : ℕ) (v : Option Plain) → w ≢ 0 → null_plain_if_null_word w v ≡ v
unless_not_null w v ne = let t : eqb w 0 ≡ false = ne_eqb w 0 ne in rw t refl

pub blob_or_null-is : (b : List ℕ) → b ≢ [] → blob_or_null b ≡ blob b
blob_or_null-is [] ne = absurd (ne refl)
blob_or_null-is (x ∷ xs) ne = refl

array_or_null-is : (vs : Plains) → vs ≢ none → array_or_null vs ≡ arr vs
array_or_null-is none ne = absurd (ne refl)
array_or_null-is (more v vs) ne = refl

object_or_null-is : (vs : Plains) → vs ≢ none → object_or_null vs ≡ obj vs
object_or_null-is none ne = absurd (ne refl)
object_or_null-is (more v vs) ne = refl

each_is : (p : List ℕ) (f : ℕ → Option Plain) (P : Plain → Type 0) → ((v : Plain) (w : ℕ) → IsNormal v → P v → Holds p v w → f w ≡ Some v) → (vs : Plains) (ws : List ℕ) → AreNormal vs → Each P vs → HoldAll p vs ws → plains_of_all_words f ws ≡ Some vs
unfolding IsNormal Holds
each_is p f P h none [] n s a = refl
each_is p f P h none (w ∷ ws) n s a = absurd a
each_is p f P h (more v vs) [] n s a = absurd a
each_is p f P h (more v vs) (w ∷ ws) n s a = rw (h v w n.0 s.0 a.0, each_is p f P h vs ws n.1 s.1 a.1) refl

mutual
  unfolding plain_of HasShape IsNormal Holds

  pub plain_of-Holds : (p : List ℕ) (s : Shape) (v : Plain) (w : ℕ) → IsNormal v → HasShape s v → Holds p v w → plain_of p s w ≡ Some v
  plain_of-Holds p number null w n s h = rw h refl
  plain_of-Holds p number (int k) w n s h = unless_not_null w _ h.0 ∙ rw h.1 refl
  plain_of-Holds p number (blob b) w n s h = absurd s
  plain_of-Holds p number (arr vs) w n s h = absurd s
  plain_of-Holds p number (obj vs) w n s h = absurd s
  plain_of-Holds p text null w n s h = rw h refl
  plain_of-Holds p text (int k) w n s h = absurd s
  plain_of-Holds p text (blob b) w n s h = unless_not_null w _ h.0 ∙ rw h.1 (ap Some (blob_or_null-is b n))
  plain_of-Holds p text (arr vs) w n s h = absurd s
  plain_of-Holds p text (obj vs) w n s h = absurd s
  plain_of-Holds p hash null w n s h = rw h refl
  plain_of-Holds p hash (int k) w n s h = absurd s
  plain_of-Holds p hash (blob b) w n s h = unless_not_null w _ h.0 ∙ rw h.1 (ap Some (blob_or_null-is b n))
  plain_of-Holds p hash (arr vs) w n s h = absurd s
  plain_of-Holds p hash (obj vs) w n s h = absurd s
  plain_of-Holds p (array t) null w n s h = rw h refl
  plain_of-Holds p (array t) (int k) w n s h = absurd s
  plain_of-Holds p (array t) (blob b) w n s h = absurd s
  plain_of-Holds p (array t) (arr vs) w n s (ne, ws, is, all) =
      unless_not_null w _ ne ∙ ap (option_of_ok_value (λ us. option_map array_or_null (plains_of_all_words (plain_of p t) us))) is
      ∙ ap (option_map array_or_null) (each_is p (plain_of p t) (HasShape t) (plain_of-Holds p t) vs ws n.1 s all) ∙ ap Some (array_or_null-is vs n.0)
  plain_of-Holds p (array t) (obj vs) w n s h = absurd s
  plain_of-Holds p (object which fs) null w n s h = rw h refl
  plain_of-Holds p (object which fs) (int k) w n s h = absurd s
  plain_of-Holds p (object which fs) (blob b) w n s h = absurd s
  plain_of-Holds p (object which fs) (arr vs) w n s h = absurd s
  plain_of-Holds p (object which fs) (obj vs) w n s (ne, ws, is, all) =
      unless_not_null w _ ne ∙ ap (option_of_ok_value (λ us. option_map trimmed_object_or_null (plains_of p fs us))) is
      ∙ ap (option_map trimmed_object_or_null) (plains_of-Holds p fs vs ws n.2 s all) ∙ ap (λ us. Some (object_or_null us)) n.1 ∙ ap Some (object_or_null-is vs n.0)

  pub plains_of-Holds : (p : List ℕ) (fs : Fields) (vs : Plains) (ws : List ℕ) → AreNormal vs → HaveShapes fs vs → HoldAll p vs ws → plains_of p fs ws ≡ Some vs
  plains_of-Holds p no_fields none [] n s a = refl
  plains_of-Holds p no_fields none (w ∷ ws) n s a = absurd a
  plains_of-Holds p no_fields (more v vs) ws n s a = absurd s
  plains_of-Holds p (field name t fs) none [] n s a = refl
  plains_of-Holds p (field name t fs) none (w ∷ ws) n s a = absurd a
  plains_of-Holds p (field name t fs) (more v vs) [] n s a = absurd a
  plains_of-Holds p (field name t fs) (more v vs) (w ∷ ws) n s a =
      rw (plain_of-Holds p t v w n.0 s.0 a.0, plains_of-Holds p fs vs ws n.1 s.1 a.1) refl

-- ---- writing only adds

pub record Grows (out later : Layout) : Type 0 where
  pub more : List ℕ
  pub is : later.body ≡ out.body ++ more

Grows-refl : (out : Layout) → Grows out out
Grows-refl out = record { more = []; is = sym (append-nil out.body) }

Grows-then : (a b c : Layout) → Grows a b → Grows b c → Grows a c
Grows-then a b c p q = record { more = p.more ++ q.more; is = q.is ∙ ap (λ (x : List ℕ). x ++ q.more) p.is ∙ append_assoc a.body p.more q.more }

pub Grows-here : (a b : Layout) → Grows a b → payload_end_offset a ≤ payload_end_offset b
Grows-here a b g = omega (arith, ap length g.is, length-append a.body g.more)

unless-grows : (found : Option WrittenItem) (i : Item) (out : Layout) → Grows out (word_and_layout_with_reused_or_new_item found i out).1
unless-grows None i out = record { more = replicate (padding_to_alignment_from_offset i.align (payload_end_offset out)) 0 ++ i.bytes; is = refl }
unless-grows (Some there) i out = record { more = []; is = sym (append-nil out.body) }

pub stored-grows : (c : Cell) (out : Layout) → Grows out (word_and_layout_with_cell c out).1
stored-grows (in_place w) out = Grows-refl out
stored-grows (apart i) out = unless-grows (find (is_equal_item out.body i) out.items) i out

pub word_and_layout_with_array_or_object-grows : (kind : ℕ) (ws : List ℕ) (out : Layout) → Grows out (word_and_layout_with_array_or_object kind ws out).1
word_and_layout_with_array_or_object-grows kind ws out = stored-grows (array_or_object_cell kind ws) out

mutual
  unfolding write

  pub write-grows : (v : Plain) (out : Layout) → Grows out (write v out).1
  write-grows null out = Grows-refl out
  write-grows (int n) out = stored-grows (int_cell n) out
  write-grows (blob b) out = stored-grows (blob_cell b) out
  write-grows (arr vs) out = Grows-then _ _ _ (write_all-grows vs out) (word_and_layout_with_array_or_object-grows ARRAY (write_all vs out).0 (write_all vs out).1)
  write-grows (obj vs) out = Grows-then _ _ _ (write_all-grows vs out) (word_and_layout_with_array_or_object-grows OBJECT (words_without_last_nulls (write_all vs out).0) (write_all vs out).1)

  pub write_all-grows : (vs : Plains) (out : Layout) → Grows out (write_all vs out).1
  write_all-grows none out = Grows-refl out
  write_all-grows (more v vs) out = Grows-then _ _ _ (write-grows v out) (write_all-grows vs (write v out).1)

-- what a word held it holds on
pub Grows-Holds : (a b : Layout) (root : ℕ) (v : Plain) (w : ℕ) → Grows a b → Holds (payload_with_root_word_in_head root a) v w → Holds (payload_with_root_word_in_head root b) v w
Grows-Holds a b root v w g h =
    subst (λ (x : List ℕ). Holds x v w) (append_assoc (0 ∷ 0 ∷ 0 ∷ 0 ∷ to_le_bytes w32 root) a.body g.more ∙ ap (λ (x : List ℕ). 0 ∷ 0 ∷ 0 ∷ 0 ∷ (to_le_bytes w32 root ++ x)) (sym g.is)) (Holds-append (payload_with_root_word_in_head root a) g.more v w h)

pub Grows-HoldAll : (a b : Layout) (root : ℕ) (vs : Plains) (ws : List ℕ) → Grows a b → HoldAll (payload_with_root_word_in_head root a) vs ws → HoldAll (payload_with_root_word_in_head root b) vs ws
Grows-HoldAll a b root vs ws g h =
    subst (λ (x : List ℕ). HoldAll x vs ws) (append_assoc (0 ∷ 0 ∷ 0 ∷ 0 ∷ to_le_bytes w32 root) a.body g.more ∙ ap (λ (x : List ℕ). 0 ∷ 0 ∷ 0 ∷ 0 ∷ (to_le_bytes w32 root ++ x)) (sym g.is)) (HoldAll-append (payload_with_root_word_in_head root a) g.more vs ws h)

-- ---- a placed item's word leads to it

pub record Leads (p : List ℕ) (i : Item) (w : ℕ) : Type 0 where
  pub nonzero : w ≢ 0
  pub small : w < 2 ^ 32
  pub kind_is : kind_number_of_word w ≡ i.kind
  pub located : (back : List ℕ) × Stands p (low_28_bits w) (i.bytes ++ back)

new_leads : (i : Item) (out : Layout) (root : ℕ) → 0 < i.kind → i.kind < 15 → payload_end_offset (word_and_layout_with_new_item i out).1 ≤ MOST_BYTES → Leads (payload_with_root_word_in_head root (word_and_layout_with_new_item i out).1) i (word_and_layout_with_new_item i out).0
new_leads i out root pos few fits =
    let zeros : List ℕ = replicate (padding_to_alignment_from_offset i.align (payload_end_offset out)) 0 in
    let total = length-append out.body (zeros ++ i.bytes) in
    let mid = length-append zeros i.bytes in
    let len : length zeros ≡ padding_to_alignment_from_offset i.align (payload_end_offset out) = length-replicate {A = ℕ} (padding_to_alignment_from_offset i.align (payload_end_offset out)) 0 in
    let at : place i out < 2 ^ 28 = omega arith in
    record {
      nonzero = λ e. absurd (omega arith);
      small = omega arith;
      kind_is = word_kind i.kind (place i out) at;
      located = ([], rw (word_low i.kind (place i out) at, append-nil) (placed_stands i out root));
    }

-- a written item's word leads to each item that is equal to it
found_leads : (i : Item) (out : Layout) (root : ℕ) (there : WrittenItem) → 0 < i.kind → i.kind < 15 → 0 < length i.bytes → payload_end_offset out ≤ MOST_BYTES → is_equal_item out.body i there ≡ true
    → Leads (payload_with_root_word_in_head root out) i (word_of_written_item there)
found_leads i out root there pos few some fits e =
    let kind = equal_kind out.body i there e in
    let within = equal_within out.body there.offset i.bytes some (equal_bytes out.body i there e) in
    let at : 8 + there.offset < 2 ^ 28 = omega arith in
    record {
      nonzero = λ z. absurd (omega arith);
      small = omega arith;
      kind_is = word_kind there.kind (8 + there.offset) at ∙ kind;
      located = (drop (length i.bytes) (drop there.offset out.body), rw (word_low there.kind (8 + there.offset) at) (equal_stands out i there root some e));
    }

pub placed_leads : (i : Item) (out : Layout) (root : ℕ) → 0 < i.kind → i.kind < 15 → 0 < length i.bytes → payload_end_offset (word_and_layout_with_item i out).1 ≤ MOST_BYTES → Leads (payload_with_root_word_in_head root (word_and_layout_with_item i out).1) i (word_and_layout_with_item i out).0
placed_leads i out root pos few some fits = go (find (is_equal_item out.body i) out.items) refl fits
  where
    go : (found : Option WrittenItem) → find (is_equal_item out.body i) out.items ≡ found → payload_end_offset (word_and_layout_with_reused_or_new_item found i out).1 ≤ MOST_BYTES
        → Leads (payload_with_root_word_in_head root (word_and_layout_with_reused_or_new_item found i out).1) i (word_and_layout_with_reused_or_new_item found i out).0
    go None is within = new_leads i out root pos few within
    go (Some there) is within = found_leads i out root there pos few some within (find-passes (is_equal_item out.body i) out.items there is)

-- more bytes at the end change nothing
pub Leads-append : (p q : List ℕ) (i : Item) (w : ℕ) → Leads p i w → Leads (p ++ q) i w
Leads-append p q i w l =
    let (back, s) = l.located in
    record { nonzero = l.nonzero; small = l.small; kind_is = l.kind_is; located = (back ++ q, subst (Stands (p ++ q) (low_28_bits w)) (append_assoc i.bytes back q) (Stands-append p q (low_28_bits w) (i.bytes ++ back) s)) }

pub int_of-32 : (p : List ℕ) (w n : ℕ) → n < 2 ^ 32 → Leads p (record { kind = 2; align = 4; bytes = to_le_bytes w32 n; entries = 0 }) w → int_of p w ≡ Ok n
unfolding int_of
int_of-32 p w n lt l =
    let t0 : eqb w 0 ≡ false = ne_eqb w 0 l.nonzero in
    rw (t0, l.kind_is, number_stands w32 (2 ^ 32) wide32 p (low_28_bits w) n l.located.0 lt l.located.1) refl

pub int_of-64 : (p : List ℕ) (w n : ℕ) → n < 2 ^ 64 → Leads p (record { kind = 3; align = 8; bytes = to_le_bytes w64 n; entries = 0 }) w → int_of p w ≡ Ok n
unfolding int_of
int_of-64 p w n lt l =
    let t0 : eqb w 0 ≡ false = ne_eqb w 0 l.nonzero in
    rw (t0, l.kind_is, number_stands w64 (2 ^ 64) wide64 p (low_28_bits w) n l.located.0 lt l.located.1) refl

int_of-short : (p : List ℕ) (n : ℕ) → n < 2 ^ 28 → int_of p (2 ^ 28 + n) ≡ Ok n
unfolding int_of
int_of-short p n lt =
    let t0 : eqb (2 ^ 28 + n) 0 ≡ false = ne_eqb (2 ^ 28 + n) 0 (λ e. absurd (omega arith)) in
    let t1 : kind_number_of_word (2 ^ 28 + n) ≡ 1 = omega arith in
    let t2 : low_28_bits (2 ^ 28 + n) ≡ n = omega arith in
    rw (t0, t1, t2) refl

pub blob_of-8 : (p : List ℕ) (w : ℕ) (b : List ℕ) → length b < 2 ^ 8 → Leads p (record { kind = 8; align = 1; bytes = to_le_bytes w8 (length b) ++ b; entries = 0 }) w → blob_of p w ≡ Ok b
unfolding blob_of
blob_of-8 p w b lt l = let t0 : eqb w 0 ≡ false = ne_eqb w 0 l.nonzero in rw (t0, l.kind_is, counted_stands w8 (2 ^ 8) wide8 p (low_28_bits w) b l.located.0 lt l.located.1) refl

pub blob_of-16 : (p : List ℕ) (w : ℕ) (b : List ℕ) → length b < 2 ^ 16 → Leads p (record { kind = 9; align = 2; bytes = to_le_bytes w16 (length b) ++ b; entries = 0 }) w → blob_of p w ≡ Ok b
unfolding blob_of
blob_of-16 p w b lt l = let t0 : eqb w 0 ≡ false = ne_eqb w 0 l.nonzero in rw (t0, l.kind_is, counted_stands w16 (2 ^ 16) wide16 p (low_28_bits w) b l.located.0 lt l.located.1) refl

pub blob_of-32 : (p : List ℕ) (w : ℕ) (b : List ℕ) → length b < 2 ^ 32 → Leads p (record { kind = 10; align = 4; bytes = to_le_bytes w32 (length b) ++ b; entries = 0 }) w → blob_of p w ≡ Ok b
unfolding blob_of
blob_of-32 p w b lt l = let t0 : eqb w 0 ≡ false = ne_eqb w 0 l.nonzero in rw (t0, l.kind_is, counted_stands w32 (2 ^ 32) wide32 p (low_28_bits w) b l.located.0 lt l.located.1) refl

pub run_entries_of_kind_in_payload_at_word-placed : (kind : ℕ) (p : List ℕ) (w : ℕ) (ws : List ℕ) → AllByRecursion (λ w. w < 2 ^ 32) ws → suc (length ws) < 2 ^ 32 → Leads p (record { kind = kind; align = 4; bytes = run_bytes_with_leading_count ws; entries = length ws }) w → run_entries_of_kind_in_payload_at_word kind p w ≡ Ok ws
unfolding run_entries_of_kind_in_payload_at_word
run_entries_of_kind_in_payload_at_word-placed kind p w ws small few l =
    let t0 : eqb w 0 ≡ false = ne_eqb w 0 l.nonzero in
    let t1 : eqb (kind_number_of_word w) kind ≡ true = eq-eqb _ _ l.kind_is in
    rw (t0, t1, run_stands p (low_28_bits w) ws l.located.0 small few l.located.1) refl

-- ---- each kind of cell

-- an item has room in a payload; a value that its word holds whole needs none
abbrev pub Fits : Cell → Layout → Type 0
Fits (in_place word) out = Unit {0}
Fits (apart i) out = payload_end_offset (word_and_layout_with_item i out).1 ≤ MOST_BYTES

fits_here : (c : Cell) (out : Layout) → payload_end_offset (word_and_layout_with_cell c out).1 ≤ MOST_BYTES → Fits c out
fits_here (in_place word) out h = tt
fits_here (apart i) out h = h

-- the word of a step is one of this value
abbrev pub Made : Plain → ℕ × Layout → Type 0
Made v r = IsWordOf r.1 v r.0

pub int_made : (n : ℕ) (out : Layout) → n < 2 ^ 64 → Fits (int_cell n) out → Made (int n) (word_and_layout_with_cell (int_cell n) out)
unfolding Holds
int_made n out lt =
    let P : Cell → Type 0 = λ c. Fits c out → Made (int n) (word_and_layout_with_cell c out) in
    elim (cases_lt n (2 ^ 28)) [
      | inl a ↦
          let t : ltb n (2 ^ 28) ≡ true = lt-ltb _ _ a in
          let is : int_cell n ≡ in_place (2 ^ 28 + n) = rw t refl in
          subst P (sym is) (λ fits. record { holds = λ root. (λ e. absurd (omega arith), int_of-short (payload_with_root_word_in_head root out) n a); small = omega arith })
      | inr a ↦
          let t : ltb n (2 ^ 28) ≡ false = le-ltb _ _ a in
          elim (cases_lt n (2 ^ 32)) [
            | inl b ↦
                let u : ltb n (2 ^ 32) ≡ true = lt-ltb _ _ b in
                let is : int_cell n ≡ apart (record { kind = 2; align = 4; bytes = to_le_bytes w32 n; entries = 0 }) = rw (t, u) refl in
                subst P (sym is) (λ fits.
                let l : (root : ℕ) → Leads (payload_with_root_word_in_head root (word_and_layout_with_item (record { kind = 2; align = 4; bytes = to_le_bytes w32 n; entries = 0 }) out).1) (record { kind = 2; align = 4; bytes = to_le_bytes w32 n; entries = 0 }) (word_and_layout_with_item (record { kind = 2; align = 4; bytes = to_le_bytes w32 n; entries = 0 }) out).0 = λ root. placed_leads _ out root (lit< tt) (lit< tt) (lit< tt) fits in
                record { holds = λ root. ((l root).nonzero, int_of-32 _ _ n b (l root)); small = (l 0).small })
            | inr b ↦
                let u : ltb n (2 ^ 32) ≡ false = le-ltb _ _ b in
                let is : int_cell n ≡ apart (record { kind = 3; align = 8; bytes = to_le_bytes w64 n; entries = 0 }) = rw (t, u) refl in
                subst P (sym is) (λ fits.
                let l : (root : ℕ) → Leads (payload_with_root_word_in_head root (word_and_layout_with_item (record { kind = 3; align = 8; bytes = to_le_bytes w64 n; entries = 0 }) out).1) (record { kind = 3; align = 8; bytes = to_le_bytes w64 n; entries = 0 }) (word_and_layout_with_item (record { kind = 3; align = 8; bytes = to_le_bytes w64 n; entries = 0 }) out).0 = λ root. placed_leads _ out root (lit< tt) (lit< tt) (lit< tt) fits in
                record { holds = λ root. ((l root).nonzero, int_of-64 _ _ n lt (l root)); small = (l 0).small })
          ]
    ]

-- an item's bytes are in the payload, so there are not too many
pub new_len : (i : Item) (out : Layout) → payload_end_offset out + padding_to_alignment_from_offset i.align (payload_end_offset out) + length i.bytes ≡ payload_end_offset (word_and_layout_with_new_item i out).1
new_len i out =
    let zeros : List ℕ = replicate (padding_to_alignment_from_offset i.align (payload_end_offset out)) 0 in
    omega (arith, length-append out.body (zeros ++ i.bytes), length-append zeros i.bytes, length-replicate {A = ℕ} (padding_to_alignment_from_offset i.align (payload_end_offset out)) 0)

pub item_within : (i : Item) (out : Layout) → 0 < length i.bytes → length i.bytes ≤ payload_end_offset (word_and_layout_with_item i out).1
item_within i out some = go (find (is_equal_item out.body i) out.items) refl
  where
    go : (found : Option WrittenItem) → find (is_equal_item out.body i) out.items ≡ found → length i.bytes ≤ payload_end_offset (word_and_layout_with_reused_or_new_item found i out).1
    go None is = omega (arith, new_len i out)
    go (Some there) is = omega (arith, equal_within out.body there.offset i.bytes some (equal_bytes out.body i there (find-passes (is_equal_item out.body i) out.items there is)))

pub blob_made : (b : List ℕ) (out : Layout) → b ≢ [] → Fits (blob_cell b) out → Made (blob b) (word_and_layout_with_cell (blob_cell b) out)
unfolding Holds
blob_made [] out ne = absurd (ne refl)
blob_made (x ∷ xs) out ne =
    let b : List ℕ = x ∷ xs in
    let P : Cell → Type 0 = λ c. Fits c out → Made (blob b) (word_and_layout_with_cell c out) in
    elim (cases_lt (length b) (2 ^ 8)) [
      | inl a ↦
          let t : ltb (length b) (2 ^ 8) ≡ true = lt-ltb _ _ a in
          let i : Item = record { kind = 8; align = 1; bytes = to_le_bytes w8 (length b) ++ b; entries = 0 } in
          let is : blob_cell b ≡ apart i = rw t refl in
          subst P (sym is) (λ fits.
          let l : (root : ℕ) → Leads (payload_with_root_word_in_head root (word_and_layout_with_item i out).1) i (word_and_layout_with_item i out).0 = λ root. placed_leads i out root (lit< tt) (lit< tt) (omega arith) fits in
          record { holds = λ root. ((l root).nonzero, blob_of-8 _ _ b a (l root)); small = (l 0).small })
      | inr a ↦
          let t : ltb (length b) (2 ^ 8) ≡ false = le-ltb _ _ a in
          elim (cases_lt (length b) (2 ^ 16)) [
            | inl c ↦
                let u : ltb (length b) (2 ^ 16) ≡ true = lt-ltb _ _ c in
                let i : Item = record { kind = 9; align = 2; bytes = to_le_bytes w16 (length b) ++ b; entries = 0 } in
                let is : blob_cell b ≡ apart i = rw (t, u) refl in
                subst P (sym is) (λ fits.
                let l : (root : ℕ) → Leads (payload_with_root_word_in_head root (word_and_layout_with_item i out).1) i (word_and_layout_with_item i out).0 = λ root. placed_leads i out root (lit< tt) (lit< tt) (omega arith) fits in
                record { holds = λ root. ((l root).nonzero, blob_of-16 _ _ b c (l root)); small = (l 0).small })
            | inr c ↦
                let u : ltb (length b) (2 ^ 16) ≡ false = le-ltb _ _ c in
                let i : Item = record { kind = 10; align = 4; bytes = to_le_bytes w32 (length b) ++ b; entries = 0 } in
                let is : blob_cell b ≡ apart i = rw (t, u) refl in
                subst P (sym is) (λ fits.
                let l : (root : ℕ) → Leads (payload_with_root_word_in_head root (word_and_layout_with_item i out).1) i (word_and_layout_with_item i out).0 = λ root. placed_leads i out root (lit< tt) (lit< tt) (omega arith) fits in
                let few : length b < 2 ^ 32 = omega (arith, item_within i out (omega arith), length-append (to_le_bytes w32 (length b)) b) in
                record { holds = λ root. ((l root).nonzero, blob_of-32 _ _ b few (l root)); small = (l 0).small })
          ]
    ]

-- a run, at a kind of arrays or objects
pub record MadeRun (kind : ℕ) (ws : List ℕ) (r : ℕ × Layout) : Type 0 where
  pub nonzero : r.0 ≢ 0
  pub small : r.0 < 2 ^ 32
  pub reads : (root : ℕ) → run_entries_of_kind_in_payload_at_word kind (payload_with_root_word_in_head root r.1) r.0 ≡ Ok ws

pub run_made : (kind : ℕ) (w : ℕ) (ws : List ℕ) (out : Layout) → 0 < kind → kind < 15 → AllByRecursion (λ w. w < 2 ^ 32) (w ∷ ws) → payload_end_offset (word_and_layout_with_array_or_object kind (w ∷ ws) out).1 ≤ MOST_BYTES → MadeRun kind (w ∷ ws) (word_and_layout_with_array_or_object kind (w ∷ ws) out)
run_made kind w ws out pos lt15 small fits =
    let i : Item = record { kind = kind; align = 4; bytes = run_bytes_with_leading_count (w ∷ ws); entries = length (w ∷ ws) } in
    let l : (root : ℕ) → Leads (payload_with_root_word_in_head root (word_and_layout_with_item i out).1) i (word_and_layout_with_item i out).0 = λ root. placed_leads i out root pos lt15 (omega arith) fits in
    let few : suc (length (w ∷ ws)) < 2 ^ 32 = omega (arith, item_within i out (omega arith), length-append (to_le_bytes w32 (suc (length (w ∷ ws)))) (flat_map (to_le_bytes w32) (w ∷ ws)), words_len (w ∷ ws)) in
    record { nonzero = (l 0).nonzero; small = (l 0).small; reads = λ root. run_entries_of_kind_in_payload_at_word-placed kind _ _ (w ∷ ws) small few (l root) }

-- ---- an object's words end as its values do

pub not_null_word : (p : List ℕ) (v : Plain) (w : ℕ) → v ≢ null → Holds p v w → w ≢ 0
unfolding Holds
not_null_word p null w ne h = absurd (ne refl)
not_null_word p (int n) w ne h = h.0
not_null_word p (blob b) w ne h = h.0
not_null_word p (arr vs) w ne h = h.0
not_null_word p (obj vs) w ne h = h.0

prepend_unless_last_null-is : (w : ℕ) (ws : List ℕ) → (ws ≡ [] → w ≢ 0) → prepend_unless_last_null w ws ≡ w ∷ ws
prepend_unless_last_null-is w (v ∷ vs) h = refl
prepend_unless_last_null-is w [] h = let t : eqb w 0 ≡ false = ne_eqb w 0 (h refl) in rw t refl

pub words_stay : (p : List ℕ) (vs : Plains) (ws : List ℕ) → without_last_nulls vs ≡ vs → HoldAll p vs ws → words_without_last_nulls ws ≡ ws
unfolding Holds
words_stay p none [] e h = refl
words_stay p none (w ∷ ws) e h = absurd h
words_stay p (more v vs) [] e h = absurd h
words_stay p (more v vs) (w ∷ ws) e h =
    let t = trimmed-more v vs e in
    ap (prepend_unless_last_null w) (words_stay p vs ws t.0 h.1) ∙ prepend_unless_last_null-is w ws (last vs ws t.1 h.1)
  where
    last : (us : Plains) (xs : List ℕ) → ((us ≡ none) → v ≢ null) → HoldAll p us xs → xs ≡ [] → w ≢ 0
    last none [] n a e = not_null_word p v w (n refl) h.0
    last none (x ∷ xs) n a e = absurd a
    last (more u us) [] n a e = absurd a
    last (more u us) (x ∷ xs) n a e = absurd cc

-- ---- what was written is held

mutual
  unfolding write IsNormal Holds

  pub write-made : (v : Plain) (out : Layout) → IsNormal v → payload_end_offset (write v out).1 ≤ MOST_BYTES → Made v (write v out)
  write-made null out n fits = record { holds = λ root. refl; small = lit< tt }
  write-made (int k) out n fits = int_made k out n (fits_here (int_cell k) out fits)
  write-made (blob b) out n fits = blob_made b out n (fits_here (blob_cell b) out fits)
  write-made (arr none) out n fits = absurd (n.0 refl)
  write-made (arr (more v vs)) out n fits =
      let r = write_all (more v vs) out in
      let g = word_and_layout_with_array_or_object-grows ARRAY r.0 r.1 in
      let all = write_all-made (more v vs) out n.1 (le_trans (Grows-here _ _ g) fits) in
      let run : MadeRun ARRAY r.0 (word_and_layout_with_array_or_object ARRAY r.0 r.1) = run_made ARRAY _ _ r.1 (lit< tt) (lit< tt) all.1 fits in
      record { holds = λ root. (run.nonzero, r.0, run.reads root, Grows-HoldAll _ _ root (more v vs) r.0 g (all.0 root)); small = run.small }
  write-made (obj none) out n fits = absurd (n.0 refl)
  write-made (obj (more v vs)) out n fits =
      let r = write_all (more v vs) out in
      let g = word_and_layout_with_array_or_object-grows OBJECT (words_without_last_nulls r.0) r.1 in
      let all = write_all-made (more v vs) out n.2 (le_trans (Grows-here _ _ g) fits) in
      let stay : words_without_last_nulls r.0 ≡ r.0 = words_stay (payload_with_root_word_in_head 0 r.1) (more v vs) r.0 n.1 (all.0 0) in
      let run : MadeRun OBJECT r.0 (word_and_layout_with_array_or_object OBJECT r.0 r.1) = run_made OBJECT _ _ r.1 (lit< tt) (lit< tt) all.1 (subst (λ (ws : List ℕ). payload_end_offset (word_and_layout_with_array_or_object OBJECT ws r.1).1 ≤ MOST_BYTES) stay fits) in
      subst (λ (ws : List ℕ). Made (obj (more v vs)) (word_and_layout_with_array_or_object OBJECT ws r.1)) (sym stay)
      (record { holds = λ root. (run.nonzero, r.0, run.reads root, Grows-HoldAll _ _ root (more v vs) r.0 (word_and_layout_with_array_or_object-grows OBJECT r.0 r.1) (all.0 root)); small = run.small })

  pub write_all-made : (vs : Plains) (out : Layout) → AreNormal vs → payload_end_offset (write_all vs out).1 ≤ MOST_BYTES → ((root : ℕ) → HoldAll (payload_with_root_word_in_head root (write_all vs out).1) vs (write_all vs out).0) × AllByRecursion (λ w. w < 2 ^ 32) (write_all vs out).0
  write_all-made none out n fits = (λ root. tt, tt)
  write_all-made (more v vs) out n fits =
      let g = write_all-grows vs (write v out).1 in
      let first = write-made v out n.0 (le_trans (Grows-here _ _ g) fits) in
      let others = write_all-made vs (write v out).1 n.1 fits in
      (λ root. (Grows-Holds _ _ root v (write v out).0 g (first.holds root), others.0 root), (first.small, others.1))

-- ---- the law

pub root_again : (root : ℕ) (out : Layout) → root < 2 ^ 32 → root_word_of_payload (payload_with_root_word_in_head root out) ≡ root
root_again root out lt =
    let four : drop 4 (payload_with_root_word_in_head root out) ≡ to_le_bytes w32 root ++ out.body = drop_at (0 ∷ 0 ∷ 0 ∷ 0 ∷ []) (to_le_bytes w32 root ++ out.body) 4 refl in
    ap (λ (x : List ℕ). from_le_bytes w32 (take 4 x)) four ∙ ap (from_le_bytes w32) (take_at (to_le_bytes w32 root) out.body 4 (wide32.len root)) ∙ wide32.again root lt

pub root_value_with_shape-canonical : (s : Shape) (v : Plain) → IsNormal v → HasShape s v → length (canonical v) ≤ MOST_BYTES → root_value_with_shape (canonical v) s ≡ Some v
root_value_with_shape-canonical s v n h fits =
    let r = write v empty_layout_counting_root in
    let made = write-made v empty_layout_counting_root n (omega arith) in
    ap (plain_of (canonical v) s) (root_again r.0 r.1 made.small) ∙ plain_of-Holds (canonical v) s v r.0 n h (made.holds r.0)
