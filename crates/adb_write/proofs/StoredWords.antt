-- What a locator of the pages names is read as it was written, and is found by its key.
use Rattle.std.proofs.Common.{◌≡◌, ℕ, suc, ◌+◌, ◌-◌, ◌*◌, ◌%◌, ◌^◌, ◌<◌, ◌≤◌, Bool, true, false, cond, eqb, ltb, List, [], ◌∷◌, ◌++◌, length, take, drop, Ok, refl, sym, ap, subst, ◌∙◌, arith, inl, inr, ◌⊎◌, take-append-drop, eq-eqb}
use Rattle.std.specs.Prelude.{bytes_eq, reverse}
use Rattle.std.specs.List.{AllByRecursion, flat_map}
use Rattle.std.specs.Int.{w8, w16, w32, w64, to_le_bytes}
use Rattle.std.specs.declared.cmp.Ordering.TheVariants.{Equal}
use Rattle.std.proofs.lemmas.Cmp.{nat_list_cmp_total, tied_itself}
use Rattle.std.proofs.lemmas.Bool.{cases_lt, lt-ltb, le-ltb}
use Rattle.std.proofs.lemmas.List.{length-append, length-drop, take-append-le, drop-append-le, drop-drop, length-map, reverse-reverse}
use Rattle.std.proofs.lemmas.List.Concat.{flat_map-cons}
use Rattle.std.proofs.lemmas.Slice.Eq.{bytes_eq-Decides}
use Rattle.std.proofs.lemmas.Map.Lookups.{exact_bytes}
use Rattle.adb_view.specs.Readers.{kind_number_of_word, low_28_bits, int_of, blob_of, ARRAY, OBJECT}
use Rattle.adb_view.specs.Visits.{or_empty}
use Rattle.adb_write.specs.Canonical.{Item, int_item, blob_item, run_bytes_with_leading_count, is_equal_item, MOST_BYTES}
use Rattle.adb_write.specs.Items.{list_kind, item_of, HasNumbersInRange}
use Rattle.adb_write.specs.declared.item.ListKind.{ListKind}
use Rattle.adb_write.specs.declared.item.ListKind.TheVariants.{Array, Object}
use Rattle.adb_write.specs.declared.item.Parts.{Parts}
use Rattle.adb_write.specs.declared.item.Parts.TheVariants.{Int, Blob, List as Listed}
use Rattle.adb_write.specs.Keys.{low_words, comparison_numbers, kind_and_comparison_numbers, key_of, comparison_numbers_at, kind_and_comparison_numbers_at, key_of_locator, single_or_empty, blob_fingerprint, list_fingerprint, fingerprint_of, fingerprint_of_locator, word_of_locator}
use Rattle.adb_write.specs.WriterState.{Stored, stored_int, stored_blob, stored_list, item_of_stored, fingerprint_of_stored, HasNumbersThatFit, IsStoredAt, IsStored, written_item}
use Rattle.adb_write.proofs.Rising.{cmp}
use Rattle.adb_write.proofs.Placed.{words_len}
use Rattle.adb_write.proofs.Found.{equal_kind, equal_bytes, equal_within}
use Rattle.adb_write.proofs.RoundTrip.{Leads, int_of-32, int_of-64, blob_of-8, blob_of-16, blob_of-32, run_entries_of_kind_in_payload_at_word-placed}

-- ---- kinds

-- an integer has a kind below 8, a blob one from 8 on and below 13, a list one from 13 on
pub int_kind : (n : ℕ) → ((int_item n).kind ≡ 2) ⊎ ((int_item n).kind ≡ 3)
int_kind n = go (ltb n (2 ^ 32))
  where
    go : (a : Bool) → ((cond {A = Item} a (record { kind = 2; align = 4; bytes = to_le_bytes w32 n; entries = 0 }) (record { kind = 3; align = 8; bytes = to_le_bytes w64 n; entries = 0 })).kind ≡ 2)
        ⊎ ((cond {A = Item} a (record { kind = 2; align = 4; bytes = to_le_bytes w32 n; entries = 0 }) (record { kind = 3; align = 8; bytes = to_le_bytes w64 n; entries = 0 })).kind ≡ 3)
    go true = inl refl
    go false = inr refl

abbrev blob_by : Bool → Bool → List ℕ → Item
blob_by a c b = cond a (record { kind = 8; align = 1; bytes = to_le_bytes w8 (length b) ++ b; entries = 0 }) (cond c (record { kind = 9; align = 2; bytes = to_le_bytes w16 (length b) ++ b; entries = 0 }) (record { kind = 10; align = 4; bytes = to_le_bytes w32 (length b) ++ b; entries = 0 }))

pub blob_kind : (b : List ℕ) → (8 ≤ (blob_item b).kind) × ((blob_item b).kind ≤ 10)
blob_kind b = go (ltb (length b) (2 ^ 8)) (ltb (length b) (2 ^ 16))
  where
    go : (a c : Bool) → (8 ≤ (blob_by a c b).kind) × ((blob_by a c b).kind ≤ 10)
    go true c = (omega arith, omega arith)
    go false true = (omega arith, omega arith)
    go false false = (omega arith, omega arith)

pub list_kinds : (kind : ListKind) → 13 ≤ list_kind kind
list_kinds Array = omega arith
list_kinds Object = omega arith

-- ---- reading

abbrev pub content_of_stored : Stored → List ℕ
content_of_stored (stored_int n) = n ∷ []
content_of_stored (stored_blob b) = b
content_of_stored (stored_list kind ws) = reverse ws

-- a word leads to this in a payload
read_int : (p : List ℕ) (w n : ℕ) → n < 2 ^ 64 → Leads p (int_item n) w → int_of p w ≡ Ok n
read_int p w n small =
    elim (cases_lt n (2 ^ 32)) [
      | inl a ↦ let t : ltb n (2 ^ 32) ≡ true = lt-ltb _ _ a in subst (λ (b : Bool). Leads p (cond b (record { kind = 2; align = 4; bytes = to_le_bytes w32 n; entries = 0 }) (record { kind = 3; align = 8; bytes = to_le_bytes w64 n; entries = 0 })) w → int_of p w ≡ Ok n) (sym t) (int_of-32 p w n a)
      | inr a ↦ let t : ltb n (2 ^ 32) ≡ false = le-ltb _ _ a in subst (λ (b : Bool). Leads p (cond b (record { kind = 2; align = 4; bytes = to_le_bytes w32 n; entries = 0 }) (record { kind = 3; align = 8; bytes = to_le_bytes w64 n; entries = 0 })) w → int_of p w ≡ Ok n) (sym t) (int_of-64 p w n small)
    ]

read_blob : (p : List ℕ) (w : ℕ) (b : List ℕ) → length b < 2 ^ 32 → Leads p (blob_item b) w → blob_of p w ≡ Ok b
read_blob p w b small =
    elim (cases_lt (length b) (2 ^ 8)) [
      | inl a ↦ let t : ltb (length b) (2 ^ 8) ≡ true = lt-ltb _ _ a in subst (λ (x : Bool). Leads p (blob_by x (ltb (length b) (2 ^ 16)) b) w → blob_of p w ≡ Ok b) (sym t) (blob_of-8 p w b a)
      | inr a ↦
          let t : ltb (length b) (2 ^ 8) ≡ false = le-ltb _ _ a in
          elim (cases_lt (length b) (2 ^ 16)) [
            | inl c ↦ let u : ltb (length b) (2 ^ 16) ≡ true = lt-ltb _ _ c in subst (λ (x : Bool). Leads p (blob_by x (ltb (length b) (2 ^ 16)) b) w → blob_of p w ≡ Ok b) (sym t) (subst (λ (y : Bool). Leads p (blob_by false y b) w → blob_of p w ≡ Ok b) (sym u) (blob_of-16 p w b c))
            | inr c ↦ let u : ltb (length b) (2 ^ 16) ≡ false = le-ltb _ _ c in subst (λ (x : Bool). Leads p (blob_by x (ltb (length b) (2 ^ 16)) b) w → blob_of p w ≡ Ok b) (sym t) (subst (λ (y : Bool). Leads p (blob_by false y b) w → blob_of p w ≡ Ok b) (sym u) (blob_of-32 p w b small))
          ]
    ]

pub read_content : (p : List ℕ) (w : ℕ) (s : Stored) → HasNumbersThatFit s → Leads p (item_of_stored s) w → comparison_numbers_at (item_of_stored s).kind p w ≡ content_of_stored s
read_content p w (stored_int n) small l =
    elim (int_kind n) [
      | inl k ↦ rw k (ap single_or_empty (read_int p w n small l))
      | inr k ↦ rw k (ap single_or_empty (read_int p w n small l))
    ]
read_content p w (stored_blob b) small l =
    let k = blob_kind b in
    let t : ltb (blob_item b).kind 8 ≡ false = le-ltb _ _ k.0 in
    let u : ltb (blob_item b).kind 13 ≡ true = lt-ltb _ _ (omega arith) in
    rw (t, u) (ap or_empty (read_blob p w b small l))
read_content p w (stored_list Array ws) small l = ap (λ r. reverse (or_empty r)) (run_entries_of_kind_in_payload_at_word-placed ARRAY p w ws small.0 small.1 l)
read_content p w (stored_list Object ws) small l = ap (λ r. reverse (or_empty r)) (run_entries_of_kind_in_payload_at_word-placed OBJECT p w ws small.0 small.1 l)

-- ---- what a word of the pages leads to

pub item_few : (s : Stored) → (item_of_stored s).kind < 15
item_few (stored_int n) = elim (int_kind n) [ inl k ↦ omega arith | inr k ↦ omega arith ]
item_few (stored_blob b) = omega (arith, (blob_kind b).1)
item_few (stored_list Array ws) = omega arith
item_few (stored_list Object ws) = omega arith

pub int_some : (n : ℕ) → 0 < length (int_item n).bytes
int_some n = go (ltb n (2 ^ 32))
  where
    go : (a : Bool) → 0 < length (cond {A = Item} a (record { kind = 2; align = 4; bytes = to_le_bytes w32 n; entries = 0 }) (record { kind = 3; align = 8; bytes = to_le_bytes w64 n; entries = 0 })).bytes
    go true = omega arith
    go false = omega arith

pub blob_long : (b : List ℕ) → length b < length (blob_item b).bytes
blob_long b = go (ltb (length b) (2 ^ 8)) (ltb (length b) (2 ^ 16))
  where
    go : (a c : Bool) → length b < length (blob_by a c b).bytes
    go true c = omega (arith, length-append (to_le_bytes w8 (length b)) b)
    go false true = omega (arith, length-append (to_le_bytes w16 (length b)) b)
    go false false = omega (arith, length-append (to_le_bytes w32 (length b)) b)

pub run_long : (ws : List ℕ) → length (run_bytes_with_leading_count ws) ≡ 4 + 4 * length ws
run_long ws = omega (arith, length-append (to_le_bytes w32 (suc (length ws))) (flat_map (to_le_bytes w32) ws), words_len ws)

pub item_some : (s : Stored) → 0 < length (item_of_stored s).bytes
item_some (stored_int n) = int_some n
item_some (stored_blob b) = omega (arith, blob_long b)
item_some (stored_list kind ws) = omega (arith, run_long ws)

placed_ends : (p : List ℕ) (what : Stored) (w : ℕ) → IsStoredAt p what w → low_28_bits w + length (item_of_stored what).bytes ≤ length p
placed_ends p what w s = equal_within p (low_28_bits w) (item_of_stored what).bytes (item_some what) s.there

pub stored_ends : (p : List ℕ) (l : ℕ) → (s : IsStored p l) → low_28_bits (word_of_locator l) + length (item_of_stored s.what).bytes ≤ length p
stored_ends p l s = placed_ends p s.what (word_of_locator l) s.stored

placed_leads : (p : List ℕ) (what : Stored) (w : ℕ) → IsStoredAt p what w → Leads p (item_of_stored what) w
placed_leads p what w s =
    let bytes : List ℕ = (item_of_stored what).bytes in
    let ends = placed_ends p what w s in
    let few = item_few what in
    record {
      nonzero = λ z. absurd (omega (arith, s.behind_head));
      small = omega (arith, s.kind);
      kind_is = s.kind;
      located = (
        drop (length bytes) (drop (low_28_bits w) p),
        record {
          inside = omega arith;
          is = sym (take-append-drop (length bytes) (drop (low_28_bits w) p)) ∙ ap (λ (x : List ℕ). x ++ drop (length bytes) (drop (low_28_bits w) p)) s.there;
        },
      );
    }

placed_key : (p : List ℕ) (what : Stored) (w : ℕ) → IsStoredAt p what w → kind_and_comparison_numbers_at p w ≡ (item_of_stored what).kind ∷ content_of_stored what
placed_key p what w s =
    ap (λ (k : ℕ). k ∷ comparison_numbers_at k p w) s.kind ∙ ap (λ (c : List ℕ). (item_of_stored what).kind ∷ c) (read_content p w what s.small (placed_leads p what w s))

stored_key : (p : List ℕ) (l : ℕ) → (s : IsStored p l) → key_of_locator p l ≡ fingerprint_of_stored s.what ∷ (item_of_stored s.what).kind ∷ content_of_stored s.what
stored_key p l s =
    ap (λ (f : ℕ). f ∷ kind_and_comparison_numbers_at p (word_of_locator l)) s.fingerprint ∙ ap (λ (c : List ℕ). fingerprint_of_stored s.what ∷ c) (placed_key p s.what (word_of_locator l) s.stored)

-- more bytes at the end change nothing
placed_more : (p q : List ℕ) (what : Stored) (w : ℕ) → IsStoredAt p what w → IsStoredAt (p ++ q) what w
placed_more p q what w s =
    let bytes : List ℕ = (item_of_stored what).bytes in
    let ends = placed_ends p what w s in
    record {
      small = s.small;
      kind = s.kind;
      behind_head = s.behind_head;
      there = ap (take (length bytes)) (drop-append-le (low_28_bits w) p q (omega arith)) ∙ take-append-le (length bytes) (drop (low_28_bits w) p) q (omega (arith, length-drop (low_28_bits w) p)) ∙ s.there;
    }

pub stored_more : (p q : List ℕ) (l : ℕ) → IsStored p l → IsStored (p ++ q) l
stored_more p q l s = record { what = s.what; fingerprint = s.fingerprint; stored = placed_more p q s.what (word_of_locator l) s.stored }

pub key_more : (p q : List ℕ) (w : ℕ) → IsStored p w → key_of_locator (p ++ q) w ≡ key_of_locator p w
unfolding stored_more
key_more p q w s = stored_key (p ++ q) w (stored_more p q w s) ∙ sym (stored_key p w s)

-- ---- the items of the program

abbrev pub stored_of : Parts → Stored
stored_of (Int n) = stored_int n
stored_of (Blob b) = stored_blob b.now
stored_of (Listed kind ws) = stored_list kind (low_words ws.now)

low_word : (w : ℕ) → to_le_bytes w32 (w % 2 ^ 32) ≡ to_le_bytes w32 w
low_word w = four _ _ _ _ _ _ _ _ (omega arith) (omega arith) (omega arith) (omega arith)
  where
    four : (a b c d e f g h : ℕ) → a ≡ e → b ≡ f → c ≡ g → d ≡ h → a ∷ b ∷ c ∷ d ∷ [] ≡ e ∷ f ∷ g ∷ h ∷ []
    four a b c d e f g h i j k l = rw (i, j, k, l) refl

low_flat : (ws : List ℕ) → flat_map (to_le_bytes w32) (low_words ws) ≡ flat_map (to_le_bytes w32) ws
low_flat [] = refl
low_flat (w ∷ ws) =
    flat_map-cons (to_le_bytes w32) (w % 2 ^ 32) (low_words ws) ∙ ap (λ (x : List ℕ). x ++ flat_map (to_le_bytes w32) (low_words ws)) (low_word w)
    ∙ ap (λ (x : List ℕ). to_le_bytes w32 w ++ x) (low_flat ws) ∙ sym (flat_map-cons (to_le_bytes w32) w ws)

pub low_run : (ws : List ℕ) → run_bytes_with_leading_count (low_words ws) ≡ run_bytes_with_leading_count ws
low_run ws =
    ap (λ (n : ℕ). to_le_bytes w32 (suc n) ++ flat_map (to_le_bytes w32) (low_words ws)) (length-map ws (λ w. w % 2 ^ 32))
    ∙ ap (λ (x : List ℕ). to_le_bytes w32 (suc (length ws)) ++ x) (low_flat ws)

pub parts_kind : (parts : Parts) → (item_of_stored (stored_of parts)).kind ≡ (item_of parts).kind
parts_kind (Int n) = refl
parts_kind (Blob b) = refl
parts_kind (Listed kind ws) = refl

pub parts_bytes : (parts : Parts) → (item_of_stored (stored_of parts)).bytes ≡ (item_of parts).bytes
parts_bytes (Int n) = refl
parts_bytes (Blob b) = refl
parts_bytes (Listed kind ws) = low_run ws.now

pub parts_content : (parts : Parts) → content_of_stored (stored_of parts) ≡ comparison_numbers parts
parts_content (Int n) = refl
parts_content (Blob b) = refl
parts_content (Listed kind ws) = refl

low_small : (ws : List ℕ) → AllByRecursion (λ w. w < 2 ^ 32) (low_words ws)
low_small [] = tt
low_small (w ∷ ws) = (omega arith, low_small ws)

pub parts_small : (parts : Parts) → HasNumbersInRange parts → length (item_of parts).bytes ≤ MOST_BYTES → HasNumbersThatFit (stored_of parts)
parts_small (Int n) room few = room
parts_small (Blob b) room few = omega (arith, blob_long b.now)
parts_small (Listed kind ws) room few = (low_small ws.now, omega (arith, run_long ws.now, length-map ws.now (λ w. w % 2 ^ 32)))

pub parts_some : (parts : Parts) → 0 < length (item_of parts).bytes
parts_some parts = subst (λ (b : List ℕ). 0 < length b) (parts_bytes parts) (item_some (stored_of parts))

-- the fingerprint of what is stored is that of the item
parts_fingerprint : (parts : Parts) → fingerprint_of_stored (stored_of parts) ≡ fingerprint_of parts
parts_fingerprint (Int n) = refl
parts_fingerprint (Blob b) = refl
parts_fingerprint (Listed kind ws) = refl

-- a word of this kind, at whose offset the bytes stand
parts_placed : (p : List ℕ) (w : ℕ) (parts : Parts) → HasNumbersThatFit (stored_of parts) → kind_number_of_word w ≡ (item_of parts).kind → 8 ≤ low_28_bits w → take (length (item_of parts).bytes) (drop (low_28_bits w) p) ≡ (item_of parts).bytes → IsStoredAt p (stored_of parts) w
parts_placed p w parts small kind head there = record {
  small = small;
  kind = kind ∙ sym (parts_kind parts);
  behind_head = head;
  there = subst (λ (b : List ℕ). take (length b) (drop (low_28_bits w) p) ≡ b) (sym (parts_bytes parts)) there;
}

pub parts_stored : (p : List ℕ) (l : ℕ) (parts : Parts) → HasNumbersThatFit (stored_of parts) → fingerprint_of_locator l ≡ fingerprint_of parts → kind_number_of_word (word_of_locator l) ≡ (item_of parts).kind → 8 ≤ low_28_bits (word_of_locator l)
    → take (length (item_of parts).bytes) (drop (low_28_bits (word_of_locator l)) p) ≡ (item_of parts).bytes → IsStored p l
parts_stored p l parts small print kind head there =
    record { what = stored_of parts; fingerprint = print ∙ sym (parts_fingerprint parts); stored = parts_placed p (word_of_locator l) parts small kind head there }

parts_content_key : (p : List ℕ) (w : ℕ) (parts : Parts) → HasNumbersThatFit (stored_of parts) → kind_number_of_word w ≡ (item_of parts).kind → 8 ≤ low_28_bits w → take (length (item_of parts).bytes) (drop (low_28_bits w) p) ≡ (item_of parts).bytes → kind_and_comparison_numbers_at p w ≡ kind_and_comparison_numbers parts
parts_content_key p w parts small kind head there =
    placed_key p (stored_of parts) w (parts_placed p w parts small kind head there)
    ∙ ap (λ (k : ℕ). k ∷ content_of_stored (stored_of parts)) (parts_kind parts) ∙ ap (λ (c : List ℕ). (item_of parts).kind ∷ c) (parts_content parts)

pub parts_key : (p : List ℕ) (l : ℕ) (parts : Parts) → HasNumbersThatFit (stored_of parts) → fingerprint_of_locator l ≡ fingerprint_of parts → kind_number_of_word (word_of_locator l) ≡ (item_of parts).kind → 8 ≤ low_28_bits (word_of_locator l)
    → take (length (item_of parts).bytes) (drop (low_28_bits (word_of_locator l)) p) ≡ (item_of parts).bytes → key_of_locator p l ≡ key_of parts
parts_key p l parts small print kind head there =
    ap (λ (f : ℕ). f ∷ kind_and_comparison_numbers_at p (word_of_locator l)) print ∙ ap (λ (c : List ℕ). fingerprint_of parts ∷ c) (parts_content_key p (word_of_locator l) parts small kind head there)

-- ---- equal items have one key, and the other way round

same_fingerprint : (parts : Parts) (s : Stored) → (item_of parts).kind ≡ (item_of_stored s).kind → comparison_numbers parts ≡ content_of_stored s → fingerprint_of parts ≡ fingerprint_of_stored s
same_fingerprint (Int n) (stored_int m) k c = let same : n ≡ m = cc in ap (λ (x : ℕ). x % 2 ^ 32) same
same_fingerprint (Int n) (stored_blob b) k c = absurd (elim (int_kind n) [ inl i ↦ omega (arith, (blob_kind b).0) | inr i ↦ omega (arith, (blob_kind b).0) ])
same_fingerprint (Int n) (stored_list kind ws) k c = absurd (elim (int_kind n) [ inl i ↦ omega (arith, list_kinds kind) | inr i ↦ omega (arith, list_kinds kind) ])
same_fingerprint (Blob b) (stored_int m) k c = absurd (elim (int_kind m) [ inl i ↦ omega (arith, (blob_kind b.now).0) | inr i ↦ omega (arith, (blob_kind b.now).0) ])
same_fingerprint (Blob b) (stored_blob x) k c = ap blob_fingerprint c
same_fingerprint (Blob b) (stored_list kind ws) k c = absurd (omega (arith, list_kinds kind, (blob_kind b.now).1))
same_fingerprint (Listed kind ws) (stored_int m) k c = absurd (elim (int_kind m) [ inl i ↦ omega (arith, list_kinds kind) | inr i ↦ omega (arith, list_kinds kind) ])
same_fingerprint (Listed kind ws) (stored_blob x) k c = absurd (omega (arith, list_kinds kind, (blob_kind x).1))
same_fingerprint (Listed kind ws) (stored_list other vs) k c =
    let same : low_words ws.now ≡ vs = sym (reverse-reverse (low_words ws.now)) ∙ (ap reverse c ∙ reverse-reverse vs) in
    ap list_fingerprint same

there_is : (p : List ℕ) (w : ℕ) → 8 ≤ low_28_bits w → drop (low_28_bits w - 8) (drop 8 p) ≡ drop (low_28_bits w) p
there_is p w head = drop-drop (low_28_bits w - 8) 8 p ∙ ap (λ (k : ℕ). drop k p) (omega arith)

pub equal_key : (p : List ℕ) (l : ℕ) (parts : Parts) → IsStored p l → HasNumbersInRange parts → length p ≤ MOST_BYTES → is_equal_item (drop 8 p) (item_of parts) (written_item l) ≡ true → cmp (key_of parts) (key_of_locator p l) ≡ Equal
equal_key p l parts s room few e =
    let w : ℕ = word_of_locator l in
    let head = s.stored.behind_head in
    let bytes = equal_bytes (drop 8 p) (item_of parts) (written_item l) e in
    let there : take (length (item_of parts).bytes) (drop (low_28_bits w) p) ≡ (item_of parts).bytes = ap (take (length (item_of parts).bytes)) (sym (there_is p w head)) ∙ bytes in
    let ends = equal_within p (low_28_bits w) (item_of parts).bytes (parts_some parts) there in
    let small = parts_small parts room (omega arith) in
    let kind : kind_number_of_word w ≡ (item_of parts).kind = equal_kind (drop 8 p) (item_of parts) (written_item l) e in
    let same : kind_and_comparison_numbers parts ≡ (item_of_stored s.what).kind ∷ content_of_stored s.what = sym (parts_content_key p w parts small kind head there) ∙ placed_key p s.what w s.stored in
    let kinds : (item_of parts).kind ≡ (item_of_stored s.what).kind = cc in
    let contents : comparison_numbers parts ≡ content_of_stored s.what = cc in
    let print : fingerprint_of_locator l ≡ fingerprint_of parts = s.fingerprint ∙ sym (same_fingerprint parts s.what kinds contents) in
    ap (cmp (key_of parts)) (parts_key p l parts small print kind head there) ∙ tied_itself nat_list_cmp_total (key_of parts)

same_bytes : (parts : Parts) (s : Stored) → (item_of parts).kind ≡ (item_of_stored s).kind → comparison_numbers parts ≡ content_of_stored s → (item_of parts).bytes ≡ (item_of_stored s).bytes
same_bytes (Int n) (stored_int m) k c = let same : n ≡ m = cc in ap (λ (x : ℕ). (int_item x).bytes) same
same_bytes (Int n) (stored_blob b) k c = absurd (elim (int_kind n) [ inl i ↦ omega (arith, (blob_kind b).0) | inr i ↦ omega (arith, (blob_kind b).0) ])
same_bytes (Int n) (stored_list kind ws) k c = absurd (elim (int_kind n) [ inl i ↦ omega (arith, list_kinds kind) | inr i ↦ omega (arith, list_kinds kind) ])
same_bytes (Blob b) (stored_int m) k c = absurd (elim (int_kind m) [ inl i ↦ omega (arith, (blob_kind b.now).0) | inr i ↦ omega (arith, (blob_kind b.now).0) ])
same_bytes (Blob b) (stored_blob x) k c = ap (λ (y : List ℕ). (blob_item y).bytes) c
same_bytes (Blob b) (stored_list kind ws) k c = absurd (omega (arith, list_kinds kind, (blob_kind b.now).1))
same_bytes (Listed kind ws) (stored_int m) k c = absurd (elim (int_kind m) [ inl i ↦ omega (arith, list_kinds kind) | inr i ↦ omega (arith, list_kinds kind) ])
same_bytes (Listed kind ws) (stored_blob x) k c = absurd (omega (arith, list_kinds kind, (blob_kind x).1))
same_bytes (Listed kind ws) (stored_list other vs) k c =
    let same : low_words ws.now ≡ vs = sym (reverse-reverse (low_words ws.now)) ∙ (ap reverse c ∙ reverse-reverse vs) in
    sym (low_run ws.now) ∙ ap run_bytes_with_leading_count same

pub key_equal : (p : List ℕ) (l : ℕ) (parts : Parts) → IsStored p l → cmp (key_of parts) (key_of_locator p l) ≡ Equal → is_equal_item (drop 8 p) (item_of parts) (written_item l) ≡ true
key_equal p l parts s e =
    let w : ℕ = word_of_locator l in
    let same : fingerprint_of parts ∷ (item_of parts).kind ∷ comparison_numbers parts ≡ fingerprint_of_stored s.what ∷ (item_of_stored s.what).kind ∷ content_of_stored s.what = exact_bytes (key_of parts) (key_of_locator p l) e ∙ stored_key p l s in
    let kinds : (item_of parts).kind ≡ (item_of_stored s.what).kind = cc in
    let contents : comparison_numbers parts ≡ content_of_stored s.what = cc in
    let bytes : (item_of parts).bytes ≡ (item_of_stored s.what).bytes = same_bytes parts s.what kinds contents in
    let there : take (length (item_of parts).bytes) (drop (low_28_bits w - 8) (drop 8 p)) ≡ (item_of parts).bytes =
    ap (take (length (item_of parts).bytes)) (there_is p w s.stored.behind_head) ∙ ap (λ (b : List ℕ). take (length b) (drop (low_28_bits w) p)) bytes ∙ s.stored.there ∙ sym bytes in
    let a : eqb (kind_number_of_word w) (item_of parts).kind ≡ true = eq-eqb _ _ (s.stored.kind ∙ sym kinds) in
    let b : bytes_eq (take (length (item_of parts).bytes) (drop (low_28_bits w - 8) (drop 8 p))) (item_of parts).bytes ≡ true = (bytes_eq-Decides _ _).1 there in
    rw (a, b) refl
