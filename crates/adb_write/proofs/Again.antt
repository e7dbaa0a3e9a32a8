-- What was written is found again, whatever was written since.
use Rattle.std.proofs.Common.{◌≡◌, ℕ, suc, ◌+◌, ◌^◌, ◌<◌, ◌≤◌, Bool, true, false, cond, eqb, ltb, List, [], ◌∷◌, ◌++◌, length, take, drop, replicate, Option, Some, None, refl, sym, ap, subst, ◌∙◌, append_assoc, arith, inl, inr, eq-eqb, le_trans}
use Rattle.std.specs.Prelude.{find, bytes_eq, ◌&&◌}
use Rattle.std.specs.List.{flat_map, AllByRecursion}
use Rattle.std.specs.Int.{w8, w16, w32, w64, from_le_bytes, to_le_bytes}
use Rattle.std.proofs.lemmas.Bool.{cases_lt, lt-ltb, le-ltb}
use Rattle.std.proofs.lemmas.List.{take_at, drop_at, length-append, length-drop, length-replicate, take-append-le, drop-append-le, take-take, take_all}
use Rattle.std.proofs.lemmas.Slice.Eq.{bytes_eq-Decides}
use Rattle.adb_view.specs.Plain.{Plain, null, int, blob, arr, obj, Plains, none, more, IsNormal, AreNormal, count_of}
use Rattle.adb_view.specs.Readers.{ARRAY, OBJECT}
use Rattle.adb_write.specs.Canonical.{padding_to_alignment_from_offset, Item, WrittenItem, Cell, in_place, apart, int_item, int_cell, blob_item, blob_cell, run_bytes_with_leading_count, array_or_object_item, array_or_object_cell, words_without_last_nulls, Layout, empty_layout_counting_root, payload_end_offset, is_equal_item, word_of_written_item, word_and_layout_with_new_item, word_and_layout_with_reused_or_new_item, word_and_layout_with_item, word_and_layout_with_cell, word_and_layout_with_array_or_object, write, write_all, payload_with_root_word_in_head, MOST_BYTES}
use Rattle.adb_write.specs.Again.{len_of_length_field, HasLengthInFront, IsItemInBytes, HasItemsInBytes, item_len_from_front}
use Rattle.adb_write.specs.Size.{entries_of, entries_of_all, with_value_count_raised}
use Rattle.adb_write.proofs.Found.{equal_kind, equal_bytes, equal_within}
use Rattle.adb_write.proofs.Placed.{wide8, wide16, wide32, wide64}
use Rattle.adb_write.proofs.RoundTrip.{Grows-here, word_and_layout_with_array_or_object-grows, write-grows, write_all-grows, write_all-made, words_stay, item_within}
use Rattle.adb_write.proofs.StoredWords.{blob_long, run_long}
use Rattle.adb_write.proofs.Overflow.{entries_in, int_entries, blob_entries, run_entries, words_count}

-- ---- an item tells its length in its front

abbrev pub IsFramedCell : Cell → Type 0
IsFramedCell (in_place w) = Unit {0}
IsFramedCell (apart i) = HasLengthInFront i

-- two items of one kind that are at one place are equal
same_bytes : (i j : Item) (x : List ℕ) → HasLengthInFront i → HasLengthInFront j → i.kind ≡ j.kind → take (length i.bytes) x ≡ i.bytes → take (length j.bytes) x ≡ j.bytes → i.bytes ≡ j.bytes
same_bytes i j x f g kind a b =
    let front : take (len_of_length_field i.kind) i.bytes ≡ take (len_of_length_field j.kind) j.bytes =
    ap (take (len_of_length_field i.kind)) (sym a) ∙ take-take (len_of_length_field i.kind) (length i.bytes) x f.long ∙ ap (λ (k : ℕ). take (len_of_length_field k) x) kind ∙ sym (take-take (len_of_length_field j.kind) (length j.bytes) x g.long) ∙ ap (take (len_of_length_field j.kind)) b in
    let len : length i.bytes ≡ length j.bytes = f.len ∙ ap (λ (k : ℕ). item_len_from_front k (take (len_of_length_field i.kind) i.bytes)) kind ∙ ap (item_len_from_front j.kind) front ∙ sym g.len in
    sym a ∙ ap (λ (n : ℕ). take n x) len ∙ b

-- ---- each item is framed

int_framed : (n : ℕ) → HasLengthInFront (int_item n)
int_framed n = go (ltb n (2 ^ 32))
  where
    go : (a : Bool) → HasLengthInFront (cond a (record { kind = 2; align = 4; bytes = to_le_bytes w32 n; entries = 0 }) (record { kind = 3; align = 8; bytes = to_le_bytes w64 n; entries = 0 }))
    go true = record { some = omega (arith, wide32.len n); long = omega (arith, wide32.len n); len = wide32.len n }
    go false = record { some = omega (arith, wide64.len n); long = omega (arith, wide64.len n); len = wide64.len n }

pub blob_framed : (b : List ℕ) → length b < 2 ^ 32 → HasLengthInFront (blob_item b)
blob_framed b few =
    elim (cases_lt (length b) (2 ^ 8)) [
      | inl a ↦
          let t : ltb (length b) (2 ^ 8) ≡ true = lt-ltb _ _ a in
          let i : Item = record { kind = 8; align = 1; bytes = to_le_bytes w8 (length b) ++ b; entries = 0 } in
          let is : blob_item b ≡ i = rw t refl in
          let total = length-append (to_le_bytes w8 (length b)) b in
          let front : from_le_bytes w8 (take 1 (to_le_bytes w8 (length b) ++ b)) ≡ length b = ap (from_le_bytes w8) (take_at (to_le_bytes w8 (length b)) b 1 (wide8.len (length b))) ∙ wide8.again (length b) a in
          subst HasLengthInFront (sym is) (record { some = omega (arith, total, wide8.len (length b)); long = omega (arith, total, wide8.len (length b)); len = omega (arith, total, wide8.len (length b), front) })
      | inr a ↦
          let t : ltb (length b) (2 ^ 8) ≡ false = le-ltb _ _ a in
          elim (cases_lt (length b) (2 ^ 16)) [
            | inl c ↦
                let u : ltb (length b) (2 ^ 16) ≡ true = lt-ltb _ _ c in
                let i : Item = record { kind = 9; align = 2; bytes = to_le_bytes w16 (length b) ++ b; entries = 0 } in
                let is : blob_item b ≡ i = rw (t, u) refl in
                let total = length-append (to_le_bytes w16 (length b)) b in
                let front : from_le_bytes w16 (take 2 (to_le_bytes w16 (length b) ++ b)) ≡ length b = ap (from_le_bytes w16) (take_at (to_le_bytes w16 (length b)) b 2 (wide16.len (length b))) ∙ wide16.again (length b) c in
                subst HasLengthInFront (sym is) (record { some = omega (arith, total, wide16.len (length b)); long = omega (arith, total, wide16.len (length b)); len = omega (arith, total, wide16.len (length b), front) })
            | inr c ↦
                let u : ltb (length b) (2 ^ 16) ≡ false = le-ltb _ _ c in
                let i : Item = record { kind = 10; align = 4; bytes = to_le_bytes w32 (length b) ++ b; entries = 0 } in
                let is : blob_item b ≡ i = rw (t, u) refl in
                let total = length-append (to_le_bytes w32 (length b)) b in
                let front : from_le_bytes w32 (take 4 (to_le_bytes w32 (length b) ++ b)) ≡ length b = ap (from_le_bytes w32) (take_at (to_le_bytes w32 (length b)) b 4 (wide32.len (length b))) ∙ wide32.again (length b) few in
                subst HasLengthInFront (sym is) (record { some = omega (arith, total, wide32.len (length b)); long = omega (arith, total, wide32.len (length b)); len = omega (arith, total, wide32.len (length b), front) })
          ]
    ]

run_front : (ws : List ℕ) → suc (length ws) < 2 ^ 32 → from_le_bytes w32 (take 4 (run_bytes_with_leading_count ws)) ≡ suc (length ws)
run_front ws few = ap (from_le_bytes w32) (take_at (to_le_bytes w32 (suc (length ws))) (flat_map (to_le_bytes w32) ws) 4 (wide32.len (suc (length ws)))) ∙ wide32.again (suc (length ws)) few

array_framed : (ws : List ℕ) → suc (length ws) < 2 ^ 32 → HasLengthInFront (array_or_object_item ARRAY ws)
array_framed ws few = record { some = omega (arith, run_long ws); long = omega (arith, run_long ws); len = omega (arith, run_long ws, run_front ws few) }

object_framed : (ws : List ℕ) → suc (length ws) < 2 ^ 32 → HasLengthInFront (array_or_object_item OBJECT ws)
object_framed ws few = record { some = omega (arith, run_long ws); long = omega (arith, run_long ws); len = omega (arith, run_long ws, run_front ws few) }

-- ---- and so is each cell that fits

pub int_cell_framed : (n : ℕ) → IsFramedCell (int_cell n)
int_cell_framed n = go (ltb n (2 ^ 28))
  where
    go : (a : Bool) → IsFramedCell (cond a (in_place (2 ^ 28 + n)) (apart (int_item n)))
    go true = tt
    go false = int_framed n

pub blob_cell_framed : (b : List ℕ) (out : Layout) → payload_end_offset (word_and_layout_with_cell (blob_cell b) out).1 ≤ MOST_BYTES → IsFramedCell (blob_cell b)
blob_cell_framed [] out fits = tt
blob_cell_framed (x ∷ xs) out fits =
    let long = blob_long (x ∷ xs) in
    blob_framed (x ∷ xs) (omega (arith, item_within (blob_item (x ∷ xs)) out (omega arith)))

pub array_cell_framed : (ws : List ℕ) (out : Layout) → payload_end_offset (word_and_layout_with_array_or_object ARRAY ws out).1 ≤ MOST_BYTES → IsFramedCell (array_or_object_cell ARRAY ws)
array_cell_framed [] out fits = tt
array_cell_framed (w ∷ ws) out fits =
    let long = run_long (w ∷ ws) in
    array_framed (w ∷ ws) (omega (arith, item_within (array_or_object_item ARRAY (w ∷ ws)) out (omega arith)))

pub object_cell_framed : (ws : List ℕ) (out : Layout) → payload_end_offset (word_and_layout_with_array_or_object OBJECT ws out).1 ≤ MOST_BYTES → IsFramedCell (array_or_object_cell OBJECT ws)
object_cell_framed [] out fits = tt
object_cell_framed (w ∷ ws) out fits =
    let long = run_long (w ∷ ws) in
    object_framed (w ∷ ws) (omega (arith, item_within (array_or_object_item OBJECT (w ∷ ws)) out (omega arith)))

-- ---- what a written item is stays the same where more is written

is_equal : (body : List ℕ) (i : Item) (x : WrittenItem) → x.kind ≡ i.kind → take (length i.bytes) (drop x.offset body) ≡ i.bytes → is_equal_item body i x ≡ true
is_equal body i x kind bytes =
    let a : eqb x.kind i.kind ≡ true = eq-eqb _ _ kind in
    let b : bytes_eq (take (length i.bytes) (drop x.offset body)) i.bytes ≡ true = (bytes_eq-Decides _ _).1 bytes in
    rw (a, b) refl

equal_more : (body q : List ℕ) (i : Item) (x : WrittenItem) → 0 < length i.bytes → is_equal_item body i x ≡ true → is_equal_item (body ++ q) i x ≡ true
equal_more body q i x some e =
    let bytes = equal_bytes body i x e in
    let within = equal_within body x.offset i.bytes some bytes in
    is_equal (body ++ q) i x (equal_kind body i x e)
    (ap (take (length i.bytes)) (drop-append-le x.offset body q (omega arith)) ∙ take-append-le (length i.bytes) (drop x.offset body) q (omega (arith, length-drop x.offset body)) ∙ bytes)

there_more : (body q : List ℕ) (x : WrittenItem) → IsItemInBytes body x → IsItemInBytes (body ++ q) x
there_more body q x t = record { what = t.what; framed = t.framed; equal = equal_more body q t.what x t.framed.some t.equal }

-- items that are equal to one written item have one kind and the same bytes
one_item : (body : List ℕ) (i j : Item) (x : WrittenItem) → HasLengthInFront i → HasLengthInFront j → is_equal_item body i x ≡ true → is_equal_item body j x ≡ true → (i.kind ≡ j.kind) × (i.bytes ≡ j.bytes)
one_item body i j x f g a b =
    let kind : i.kind ≡ j.kind = sym (equal_kind body i x a) ∙ equal_kind body j x b in
    (kind, same_bytes i j (drop x.offset body) f g kind (equal_bytes body i x a) (equal_bytes body j x b))

same_test : (body : List ℕ) (i j : Item) (x : WrittenItem) → i.kind ≡ j.kind → i.bytes ≡ j.bytes → is_equal_item body i x ≡ is_equal_item body j x
same_test body i j x kind bytes =
    ap (λ (k : ℕ). eqb x.kind k && bytes_eq (take (length i.bytes) (drop x.offset body)) i.bytes) kind
    ∙ ap (λ (b : List ℕ). eqb x.kind j.kind && bytes_eq (take (length b) (drop x.offset body)) b) bytes

equal_stays : (body q : List ℕ) (i : Item) (x : WrittenItem) → HasLengthInFront i → IsItemInBytes body x → is_equal_item body i x ≡ is_equal_item (body ++ q) i x
equal_stays body q i x f t = go (is_equal_item body i x) (is_equal_item (body ++ q) i x) refl refl
  where
    go : (a b : Bool) → is_equal_item body i x ≡ a → is_equal_item (body ++ q) i x ≡ b → a ≡ b
    go true b e h = sym (equal_more body q i x f.some e) ∙ h
    go false false e h = refl
    go false true e h =
        let same = one_item (body ++ q) i t.what x f t.framed h (equal_more body q t.what x t.framed.some t.equal) in
        let yes : is_equal_item body i x ≡ true = same_test body i t.what x same.0 same.1 ∙ t.equal in
        sym e ∙ yes

-- ---- finding

find_same : {A : Type 0} (f g : A → Bool) (xs : List A) → AllByRecursion (λ x. f x ≡ g x) xs → find f xs ≡ find g xs
find_same f g [] h = refl
find_same f g (x ∷ xs) h = ap (λ (b : Bool). cond b (Some x) (find f xs)) h.0 ∙ ap (cond (g x) (Some x)) (find_same f g xs h.1)

all_from : {A : Type 0} (P Q : A → Type 0) → ((x : A) → P x → Q x) → (xs : List A) → AllByRecursion P xs → AllByRecursion Q xs
all_from P Q f [] h = tt
all_from P Q f (x ∷ xs) h = (f x h.0, all_from P Q f xs h.1)

-- what is found in the one is the same in the other
pub record Keeps (out later : Layout) : Type 0 where
  pub found : (i : Item) (x : WrittenItem) → HasLengthInFront i → find (is_equal_item out.body i) out.items ≡ Some x → find (is_equal_item later.body i) later.items ≡ Some x

keeps_itself : (out : Layout) → Keeps out out
keeps_itself out = record { found = λ i x f e. e }

keeps_then : (a b c : Layout) → Keeps a b → Keeps b c → Keeps a c
keeps_then a b c p q = record { found = λ i x f e. q.found i x f (p.found i x f e) }

-- ---- one item more

abbrev added : Item → Layout → List ℕ
added i out = replicate (padding_to_alignment_from_offset i.align (payload_end_offset out)) 0 ++ i.bytes

abbrev new_item : Item → Layout → WrittenItem
new_item i out = record { kind = i.kind; offset = length out.body + padding_to_alignment_from_offset i.align (payload_end_offset out) }

new_equal : (i : Item) (out : Layout) → is_equal_item (out.body ++ added i out) i (new_item i out) ≡ true
new_equal i out =
    let zeros : List ℕ = replicate (padding_to_alignment_from_offset i.align (payload_end_offset out)) 0 in
    let at : length (out.body ++ zeros) ≡ length out.body + padding_to_alignment_from_offset i.align (payload_end_offset out) = omega (arith, length-append out.body zeros, length-replicate {A = ℕ} (padding_to_alignment_from_offset i.align (payload_end_offset out)) 0) in
    is_equal (out.body ++ added i out) i (new_item i out) refl
    (ap (λ (x : List ℕ). take (length i.bytes) (drop (length out.body + padding_to_alignment_from_offset i.align (payload_end_offset out)) x)) (sym (append_assoc out.body zeros i.bytes))
    ∙ ap (take (length i.bytes)) (drop_at (out.body ++ zeros) i.bytes (length out.body + padding_to_alignment_from_offset i.align (payload_end_offset out)) at) ∙ take_all (length i.bytes) i.bytes (omega arith))

new_whole : (i : Item) (out : Layout) → HasLengthInFront i → HasItemsInBytes out → HasItemsInBytes (word_and_layout_with_new_item i out).1
new_whole i out f w = record {
  all = (
    record { what = i; framed = f; equal = new_equal i out },
    all_from (IsItemInBytes out.body) (IsItemInBytes (out.body ++ added i out)) (there_more out.body (added i out)) out.items w.all,
  );
}

new_keeps : (i : Item) (out : Layout) → HasLengthInFront i → HasItemsInBytes out → find (is_equal_item out.body i) out.items ≡ None → Keeps out (word_and_layout_with_new_item i out).1
new_keeps i out f w absent = record { found = λ j x g e. go j x g e (is_equal_item (out.body ++ added i out) j (new_item i out)) refl }
  where
    go : (j : Item) (x : WrittenItem) → HasLengthInFront j → find (is_equal_item out.body j) out.items ≡ Some x → (b : Bool) → is_equal_item (out.body ++ added i out) j (new_item i out) ≡ b
        → cond b (Some (new_item i out)) (find (is_equal_item (out.body ++ added i out) j) out.items) ≡ Some x
    go j x g e true h =
        let same = one_item (out.body ++ added i out) i j (new_item i out) f g (new_equal i out) h in
        let no : None ≡ Some x = sym absent ∙ find_same (is_equal_item out.body i) (is_equal_item out.body j) out.items (all_from (IsItemInBytes out.body) (λ y. is_equal_item out.body i y ≡ is_equal_item out.body j y) (λ y t. same_test out.body i j y same.0 same.1) out.items w.all) ∙ e in
        absurd cc
    go j x g e false h =
        sym (find_same (is_equal_item out.body j) (is_equal_item (out.body ++ added i out) j) out.items (all_from (IsItemInBytes out.body) (λ y. is_equal_item out.body j y ≡ is_equal_item (out.body ++ added i out) j y) (λ y t. equal_stays out.body (added i out) j y g t) out.items w.all)) ∙ e

-- ---- one value more

pub record Stays (out later : Layout) : Type 0 where
  pub whole : HasItemsInBytes later
  pub keeps : Keeps out later

put_item_stays : (i : Item) (out : Layout) → HasLengthInFront i → HasItemsInBytes out → Stays out (word_and_layout_with_item i out).1
put_item_stays i out f w = go (find (is_equal_item out.body i) out.items) refl
  where
    go : (found : Option WrittenItem) → find (is_equal_item out.body i) out.items ≡ found → Stays out (word_and_layout_with_reused_or_new_item found i out).1
    go None e = record { whole = new_whole i out f w; keeps = new_keeps i out f w e }
    go (Some there) e = record { whole = record { all = w.all }; keeps = record { found = λ j x g h. h } }

pub put_cell_stays : (c : Cell) (out : Layout) → IsFramedCell c → HasItemsInBytes out → Stays out (word_and_layout_with_cell c out).1
put_cell_stays (in_place word) out f w = record { whole = w; keeps = keeps_itself out }
put_cell_stays (apart i) out f w = put_item_stays i out f w

-- the item is found if it was put
pub record IsFoundAgain (i : Item) (r : ℕ × Layout) : Type 0 where
  pub item : WrittenItem
  pub is : find (is_equal_item r.1.body i) r.1.items ≡ Some item
  pub word : word_of_written_item item ≡ r.0

pub put_item_found : (i : Item) (out : Layout) → IsFoundAgain i (word_and_layout_with_item i out)
put_item_found i out = go (find (is_equal_item out.body i) out.items) refl
  where
    go : (found : Option WrittenItem) → find (is_equal_item out.body i) out.items ≡ found → IsFoundAgain i (word_and_layout_with_reused_or_new_item found i out)
    go None e =
        let t = new_equal i out in
        record { item = new_item i out; is = ap (λ (b : Bool). cond b (Some (new_item i out)) (find (is_equal_item (out.body ++ added i out) i) out.items)) t; word = omega arith }
    go (Some there) e = record { item = there; is = e; word = refl }

-- ---- a value that was written is found again

with_none : (out : Layout) → out ≡ with_value_count_raised 0 out
with_none out = ap (λ (n : ℕ). record out { values = n }) (omega arith)

with_both : (m n : ℕ) (out : Layout) → with_value_count_raised n (with_value_count_raised m out) ≡ with_value_count_raised (n + m) out
with_both m n out = ap (λ (k : ℕ). record out { values = k }) (omega arith)

cell_again : (c : Cell) (out later : Layout) → IsFramedCell c → Keeps (word_and_layout_with_cell c out).1 later → word_and_layout_with_cell c later ≡ ((word_and_layout_with_cell c out).0, with_value_count_raised (entries_in c) later)
cell_again (in_place word) out later f k = ap (λ (l : Layout). (word, l)) (with_none later)
cell_again (apart i) out later f k =
    let found = put_item_found i out in
    ap (λ (o : Option WrittenItem). word_and_layout_with_reused_or_new_item o i later) (k.found i found.item f found.is) ∙ ap (λ (word : ℕ). (word, with_value_count_raised i.entries later)) found.word

-- the entries of a cell, as a value counts them
cell_counts : (c : Cell) (out later : Layout) (n : ℕ) → entries_in c ≡ n → IsFramedCell c → Keeps (word_and_layout_with_cell c out).1 later → word_and_layout_with_cell c later ≡ ((word_and_layout_with_cell c out).0, with_value_count_raised n later)
cell_counts c out later n e f k = cell_again c out later f k ∙ ap (λ (m : ℕ). ((word_and_layout_with_cell c out).0, with_value_count_raised m later)) e

mutual
  unfolding write

  write_stays : (v : Plain) (out : Layout) → HasItemsInBytes out → payload_end_offset (write v out).1 ≤ MOST_BYTES → Stays out (write v out).1
  write_stays null out w fits = record { whole = w; keeps = keeps_itself out }
  write_stays (int n) out w fits = put_cell_stays (int_cell n) out (int_cell_framed n) w
  write_stays (blob b) out w fits = put_cell_stays (blob_cell b) out (blob_cell_framed b out fits) w
  write_stays (arr vs) out w fits =
      let r = write_all vs out in
      let s = write_all_stays vs out w (le_trans (Grows-here _ _ (word_and_layout_with_array_or_object-grows ARRAY r.0 r.1)) fits) in
      let t = put_cell_stays (array_or_object_cell ARRAY r.0) r.1 (array_cell_framed r.0 r.1 fits) s.whole in
      record { whole = t.whole; keeps = keeps_then out r.1 (word_and_layout_with_array_or_object ARRAY r.0 r.1).1 s.keeps t.keeps }
  write_stays (obj vs) out w fits =
      let r = write_all vs out in
      let s = write_all_stays vs out w (le_trans (Grows-here _ _ (word_and_layout_with_array_or_object-grows OBJECT (words_without_last_nulls r.0) r.1)) fits) in
      let t = put_cell_stays (array_or_object_cell OBJECT (words_without_last_nulls r.0)) r.1 (object_cell_framed (words_without_last_nulls r.0) r.1 fits) s.whole in
      record { whole = t.whole; keeps = keeps_then out r.1 (word_and_layout_with_array_or_object OBJECT (words_without_last_nulls r.0) r.1).1 s.keeps t.keeps }

  write_all_stays : (vs : Plains) (out : Layout) → HasItemsInBytes out → payload_end_offset (write_all vs out).1 ≤ MOST_BYTES → Stays out (write_all vs out).1
  write_all_stays none out w fits = record { whole = w; keeps = keeps_itself out }
  write_all_stays (more v vs) out w fits =
      let s = write_stays v out w (le_trans (Grows-here _ _ (write_all-grows vs (write v out).1)) fits) in
      let t = write_all_stays vs (write v out).1 s.whole fits in
      record { whole = t.whole; keeps = keeps_then out (write v out).1 (write_all vs (write v out).1).1 s.keeps t.keeps }

mutual
  unfolding write IsNormal entries_of

  write_again : (v : Plain) (out later : Layout) → IsNormal v → HasItemsInBytes out → payload_end_offset (write v out).1 ≤ MOST_BYTES → Keeps (write v out).1 later → write v later ≡ ((write v out).0, with_value_count_raised (entries_of v) later)
  write_again null out later n w fits k = ap (λ (l : Layout). (0, l)) (with_none later)
  write_again (int m) out later n w fits k = cell_counts (int_cell m) out later 0 (int_entries m) (int_cell_framed m) k
  write_again (blob b) out later n w fits k = cell_counts (blob_cell b) out later 0 (blob_entries b) (blob_cell_framed b out fits) k
  write_again (arr vs) out later n w fits k =
      let r = write_all vs out in
      let within = le_trans (Grows-here _ _ (word_and_layout_with_array_or_object-grows ARRAY r.0 r.1)) fits in
      let s = write_all_stays vs out w within in
      let f = array_cell_framed r.0 r.1 fits in
      let t = put_cell_stays (array_or_object_cell ARRAY r.0) r.1 f s.whole in
      let all = write_all_again vs out later n.1 w within (keeps_then r.1 (word_and_layout_with_array_or_object ARRAY r.0 r.1).1 later t.keeps k) in
      let further : Layout = with_value_count_raised (entries_of_all vs) later in
      ap (λ (q : List ℕ × Layout). word_and_layout_with_array_or_object ARRAY q.0 q.1) all
      ∙ cell_counts (array_or_object_cell ARRAY r.0) r.1 further (count_of vs) (run_entries ARRAY r.0 ∙ words_count vs out) f (record { found = k.found })
      ∙ ap (λ (l : Layout). ((word_and_layout_with_array_or_object ARRAY r.0 r.1).0, l)) (with_both (entries_of_all vs) (count_of vs) later)
  write_again (obj vs) out later n w fits k =
      let r = write_all vs out in
      let within = le_trans (Grows-here _ _ (word_and_layout_with_array_or_object-grows OBJECT (words_without_last_nulls r.0) r.1)) fits in
      let s = write_all_stays vs out w within in
      let made = write_all-made vs out n.2 within in
      let stay : words_without_last_nulls r.0 ≡ r.0 = words_stay (payload_with_root_word_in_head 0 r.1) vs r.0 n.1 (made.0 0) in
      let f = object_cell_framed (words_without_last_nulls r.0) r.1 fits in
      let t = put_cell_stays (array_or_object_cell OBJECT (words_without_last_nulls r.0)) r.1 f s.whole in
      let all = write_all_again vs out later n.2 w within (keeps_then r.1 (word_and_layout_with_array_or_object OBJECT (words_without_last_nulls r.0) r.1).1 later t.keeps k) in
      let further : Layout = with_value_count_raised (entries_of_all vs) later in
      ap (λ (q : List ℕ × Layout). word_and_layout_with_array_or_object OBJECT (words_without_last_nulls q.0) q.1) all
      ∙ cell_counts (array_or_object_cell OBJECT (words_without_last_nulls r.0)) r.1 further (count_of vs) (run_entries OBJECT (words_without_last_nulls r.0) ∙ ap length stay ∙ words_count vs out) f (record { found = k.found })
      ∙ ap (λ (l : Layout). ((word_and_layout_with_array_or_object OBJECT (words_without_last_nulls r.0) r.1).0, l)) (with_both (entries_of_all vs) (count_of vs) later)

  write_all_again : (vs : Plains) (out later : Layout) → AreNormal vs → HasItemsInBytes out → payload_end_offset (write_all vs out).1 ≤ MOST_BYTES → Keeps (write_all vs out).1 later → write_all vs later ≡ ((write_all vs out).0, with_value_count_raised (entries_of_all vs) later)
  write_all_again none out later n w fits k = ap (λ (l : Layout). ([], l)) (with_none later)
  write_all_again (more v vs) out later n w fits k =
      let within = le_trans (Grows-here _ _ (write_all-grows vs (write v out).1)) fits in
      let s = write_stays v out w within in
      let t = write_all_stays vs (write v out).1 s.whole fits in
      let first = write_again v out later n.0 w within (keeps_then (write v out).1 (write_all vs (write v out).1).1 later t.keeps k) in
      let further : Layout = with_value_count_raised (entries_of v) later in
      let others = write_all_again vs (write v out).1 further n.1 s.whole fits (record { found = k.found }) in
      ap (λ (q : ℕ × Layout). (q.0 ∷ (write_all vs q.1).0, (write_all vs q.1).1)) first
      ∙ ap (λ (q : List ℕ × Layout). ((write v out).0 ∷ q.0, q.1)) others
      ∙ ap (λ (l : Layout). ((write v out).0 ∷ (write_all vs (write v out).1).0, l)) (with_both (entries_of v) (entries_of_all vs) later ∙ ap (λ (m : ℕ). with_value_count_raised m later) (omega arith))

-- ---- the law

pub nothing_whole : HasItemsInBytes empty_layout_counting_root
nothing_whole = record { all = tt }

pub stored_once : (before v since : Plain) → IsNormal v → payload_end_offset (write since (write v (write before empty_layout_counting_root).1).1).1 ≤ MOST_BYTES
    → write v (write since (write v (write before empty_layout_counting_root).1).1).1 ≡ ((write v (write before empty_layout_counting_root).1).0, with_value_count_raised (entries_of v) (write since (write v (write before empty_layout_counting_root).1).1).1)
stored_once before v since n fits =
    let a : Layout = (write before empty_layout_counting_root).1 in
    let b : Layout = (write v a).1 in
    let fits_b : payload_end_offset b ≤ MOST_BYTES = le_trans (Grows-here _ _ (write-grows since b)) fits in
    let fits_a : payload_end_offset a ≤ MOST_BYTES = le_trans (Grows-here _ _ (write-grows v a)) fits_b in
    let s = write_stays before empty_layout_counting_root nothing_whole fits_a in
    let t = write_stays v a s.whole fits_b in
    let u = write_stays since b t.whole fits in
    write_again v a (write since b).1 n s.whole fits_b u.keeps
