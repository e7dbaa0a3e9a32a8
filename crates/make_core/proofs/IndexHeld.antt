-- An entry in a payload of its own.
use Rattle.std.proofs.Common.{◌≡◌, ℕ, suc, zero, ◌+◌, ◌<◌, ◌≤◌, ◌^◌, true, List, [], ◌++◌, length, Option, Some, None, Result, Ok, Err, refl, ap, sym, subst, ◌∙◌, arith, length-append, get_or}
use Rattle.std.specs.Prelude.{is_some, is_none, unwrap_or, nat_lt, IfSome, All, if◌then◌else◌, Vec}
use Rattle.std.proofs.lemmas.Bool.{ltb-false, le-ltb}
use Rattle.base_core.specs.declared.cause.Cause.TheVariants.{Truncated}
use Rattle.std.specs.Int.{w32, to_le_bytes}
use Rattle.adb_view.specs.Head.{payload_head_fault, root_word_of_payload}
use Rattle.adb_view.specs.Plain.{Plain, null, int, blob, arr, obj, Plains, none, more, Shape, plain_of, root_value_with_shape, IsNormal, AreNormal}
use Rattle.adb_view.specs.Shaped.{HasShape}
use Rattle.adb_copy.specs.adb_write.Canonical.{Layout, write, empty_layout_counting_root, payload_with_root_word_in_head, canonical, exceeds_a_limit, counts_at_first_overflow, payload_unless_overflow, payload_or_counts_at_overflow, ByteAndValueCounts, MOST_BYTES}
use Rattle.adb_copy.specs.adb_write.Size.{payload_size_of, value_count}
use Rattle.adb_view.specs.Schema.{shape_of}
use Rattle.adb_view.specs.Values.{is_sound, value_at, nth, entry_at_index, text_in}
use Rattle.pkg_core.specs.adb_schema.SoundValues.{ObeysTextAndNumberRulesOfPackage}
use Rattle.pkg_core.specs.adb_schema.Soundness.{root_value_of_payload, payload_in, container_fault_except_contents}
use Rattle.pkg_core.specs.adb_schema.SoundContainers.{IsSoundValue}
use Rattle.adb_view.specs.declared.tables.Which.{Which}
use Rattle.adb_view.specs.declared.tables.Which.TheVariants as Tables
use Rattle.adb_view.specs.declared.tables.Kind.{Kind}
use Rattle.adb_view.specs.declared.tables.Kind.TheVariants as Kinds
use Rattle.pkg_core.specs.Whole.{payload_sha256_of_package_file}
use Rattle.make_core.specs.Entries.{index_entry_of_package_file}
use Rattle.adb_copy.specs.Zeros.{info_without_zeros_with_id_and_file_size}
use Rattle.make_core.specs.Kept.{HoldsEntry, IsEntryWithKeys, copy_of_entry}
use Rattle.version_core.specs.Order.{is_version}
use Rattle.std.proofs.lemmas.List.{get_or_default}
use Rattle.make_core.proofs.IndexAgain.{entry_again, entry_id, entry_name, entry_normal, entry_shape, entry_version}
use Rattle.sha2.specs.Sha256.{sha256}
use Rattle.std.specs.declared.alloc.Global.{Global}
use Rattle.base_core.proofs.Booleans.{neither_first}
use Rattle.adb_copy.proofs.Shapes.{FoundShapes, info_of_package, value_shape}
use Rattle.make_core.proofs.IndexSound.{payload_all}

-- ---- what was written within the limits

err_ok : {A B : Type 0} (a : A) (b : B) → Err a ≡ Ok b → ⊥
err_ok {A} {B} a b e = subst is_err e tt
  where
    is_err : Result B A → Type 0
    is_err (Ok x) = ⊥
    is_err (Err x) = Unit {0}

ok_in : List ℕ → Result (List ℕ) ByteAndValueCounts → List ℕ
ok_in d (Ok x) = x
ok_in d (Err c) = d

pub written_is : (v : Plain) (p : List ℕ) → payload_or_counts_at_overflow v ≡ Ok p → (p ≡ canonical v) × (counts_at_first_overflow v ≡ None)
unfolding payload_or_counts_at_overflow ok_in
written_is v p h = go (counts_at_first_overflow v) refl
  where
    go : (o : Option ByteAndValueCounts) → counts_at_first_overflow v ≡ o → (p ≡ canonical v) × (counts_at_first_overflow v ≡ None)
    go None e = (ap (ok_in []) (sym h ∙ ap (payload_unless_overflow (canonical v)) e), e)
    go (Some c) e = absurd (err_ok c p (sym (ap (payload_unless_overflow (canonical v)) e) ∙ h))

within : (v : Plain) → (is_some (counts_at_first_overflow v) ≡ exceeds_a_limit (payload_size_of v, value_count v)) → counts_at_first_overflow v ≡ None → payload_size_of v ≤ MOST_BYTES
within v law e = ltb-false MOST_BYTES (payload_size_of v) (neither_first (nat_lt MOST_BYTES (payload_size_of v)) _ (sym law ∙ ap is_some e))

-- ---- it is read back

head_good : (root : ℕ) (out : Layout) → payload_head_fault (payload_with_root_word_in_head root out) ≡ None
head_good root out = ap (λ b. if b then Some (Truncated 0) else None) (le-ltb (length (payload_with_root_word_in_head root out)) 8 (omega (arith, long)))
  where
    long : length (to_le_bytes w32 root ++ out.body) ≡ 4 + length out.body
    long = length-append (to_le_bytes w32 root) out.body

sound_of : (p : List ℕ) (k : Kind) (w : ℕ) (v : Plain) → plain_of p (shape_of k) w ≡ Some v → is_sound p k w ≡ true
unfolding is_sound
sound_of p k w v h = ap is_some h

value_of_plain : (p : List ℕ) (k : Kind) (w : ℕ) (v : Plain) → plain_of p (shape_of k) w ≡ Some v → value_at p k w ≡ v
unfolding value_at
value_of_plain p k w v h = ap (λ o. unwrap_or o null) h

module _
    (read_back : (shape : Shape) (v : Plain) → IsNormal v → HasShape shape v → payload_size_of v ≤ MOST_BYTES → root_value_with_shape (canonical v) shape ≡ Some v)
    (overflows : (v : Plain) → IsNormal v → is_some (counts_at_first_overflow v) ≡ exceeds_a_limit (payload_size_of v, value_count v))
    (normal : (payload : List ℕ) → All (λ b. b < 256) payload → (shape : Shape) (word : ℕ) → IfSome (plain_of payload shape word) IsNormal) where
  value_normal : (p : List ℕ) (k : Kind) (w : ℕ) → All (λ b. b < 256) p → IsNormal (value_at p k w)
  unfolding value_at IsNormal
  value_normal p k w h = go (plain_of p (shape_of k) w) (normal p h (shape_of k) w)
    where
      go : (o : Option Plain) → IfSome o IsNormal → IsNormal (unwrap_or o null)
      go None g = tt
      go (Some v) g = g

  nth_normal : (vs : Plains) (i : ℕ) → AreNormal vs → IsNormal (nth vs i)
  unfolding IsNormal
  nth_normal none i h = tt
  nth_normal (more v vs) zero h = h.0
  nth_normal (more v vs) (suc i) h = nth_normal vs i h.1

  entry_in_normal : (v : Plain) (i : ℕ) → IsNormal v → IsNormal (entry_at_index v i)
  unfolding IsNormal
  entry_in_normal null i h = tt
  entry_in_normal (int n) i h = tt
  entry_in_normal (blob b) i h = tt
  entry_in_normal (arr vs) i h = nth_normal vs i h.1
  entry_in_normal (obj vs) i h = nth_normal vs i h.2

  pub holds : (info : Plain) (id : List ℕ) (len : ℕ) (p : List ℕ) → IsNormal info → HasShape (shape_of (Kinds.Obj Tables.PkgInfo)) info → len < 2 ^ 64 → payload_or_counts_at_overflow (info_without_zeros_with_id_and_file_size info id len) ≡ Ok p → HoldsEntry p (info_without_zeros_with_id_and_file_size info id len)
  holds info id len p good shaped small made =
      let e : Plain = info_without_zeros_with_id_and_file_size info id len in
      let n : IsNormal e = entry_normal info id len good small in
      let is : p ≡ canonical e = (written_is e p made).0 in
      let back : root_value_with_shape (canonical e) (shape_of (Kinds.Obj Tables.PkgInfo)) ≡ Some e = read_back (shape_of (Kinds.Obj Tables.PkgInfo)) e n (entry_shape info id len shaped) (within e (overflows e n) (written_is e p made).1) in
      subst (λ q. HoldsEntry q e) (sym is) (record {
        head = ap is_none (head_good (write e empty_layout_counting_root).0 (write e empty_layout_counting_root).1);
        sound = sound_of (canonical e) (Kinds.Obj Tables.PkgInfo) (root_word_of_payload (canonical e)) e back;
        value = ap copy_of_entry (value_of_plain (canonical e) (Kinds.Obj Tables.PkgInfo) (root_word_of_payload (canonical e)) e back) ∙ entry_again info id len;
      })

-- the info of a package has the shape of one
package_info_shape : FoundShapes → (payload : List ℕ) → HasShape (shape_of (Kinds.Obj Tables.PkgInfo)) (entry_at_index (root_value_of_payload Tables.Package payload) 0)
package_info_shape shapes payload = info_of_package (root_value_of_payload Tables.Package payload) (value_shape shapes payload (Kinds.Obj Tables.Package) (root_word_of_payload payload))

-- what a law of `adb_schema` says
abbrev pub SoundContainers : Type 0
SoundContainers = (which : Which) (file : List ℕ) → container_fault_except_contents which file ≡ None → IsSoundValue which (root_value_of_payload which (payload_in file))

package_version : SoundContainers → (file : List ℕ) → container_fault_except_contents Tables.Package file ≡ None → is_version (text_in (entry_at_index (entry_at_index (root_value_of_payload Tables.Package (payload_in file)) 0) 1)) ≡ true
package_version containers file sound =
    let held : ObeysTextAndNumberRulesOfPackage Tables.Package (root_value_of_payload Tables.Package (payload_in file)) = (containers Tables.Package file sound).rules in
    let info = held.info in
    info.version

-- ---- what an entry is ordered by

pub keyed_of : SoundContainers → (file name version id : List ℕ) (info : Plain) → info ≡ entry_at_index (root_value_of_payload Tables.Package (payload_in file)) 0 → name ≡ text_in (entry_at_index info 0) → version ≡ text_in (entry_at_index info 1) → id ≡ payload_sha256_of_package_file file → container_fault_except_contents Tables.Package file ≡ None → IsEntryWithKeys name version id (index_entry_of_package_file file)
keyed_of containers file name version id info is e0 e1 e2 sound =
    let here : Plain = entry_at_index (root_value_of_payload Tables.Package (payload_in file)) 0 in
    let v : version ≡ text_in (entry_at_index here 1) = e1 ∙ ap (λ i. text_in (entry_at_index i 1)) is in
    record {
      by_name = e0 ∙ (ap (λ i. text_in (entry_at_index i 0)) is ∙ sym (entry_name here (payload_sha256_of_package_file file) (length file)));
      by_version = v ∙ sym (entry_version here (payload_sha256_of_package_file file) (length file));
      by_id = e2 ∙ sym (entry_id here (payload_sha256_of_package_file file) (length file));
      sound = ap is_version v ∙ package_version containers file sound;
    }

pub if_some : {T : Type 0} (P Q : T → Type 0) (o : Option T) → ((x : T) → P x → Q x) → IfSome o P → IfSome o Q
if_some P Q None f h = h
if_some P Q (Some x) f h = f x h

pub bytes_all : (xs : List ℕ) → ((i : ℕ) → get_or xs i 0 < 256) → All (λ b. b < 256) xs
bytes_all xs h k d l = subst (λ n. n < 256) (get_or_default xs k 0 d l) (h k)

pub holds_found : FoundShapes →
    ((shape : Shape) (v : Plain) → IsNormal v → HasShape shape v → payload_size_of v ≤ MOST_BYTES → root_value_with_shape (canonical v) shape ≡ Some v)
    → ((v : Plain) → IsNormal v → is_some (counts_at_first_overflow v) ≡ exceeds_a_limit (payload_size_of v, value_count v))
    → ((payload : List ℕ) → All (λ b. b < 256) payload → (shape : Shape) (word : ℕ) → IfSome (plain_of payload shape word) IsNormal)
    → (file : List ℕ) (value : Plain) (payload : List ℕ) → value ≡ root_value_of_payload Tables.Package (payload_in file) → payload ≡ payload_in file → All (λ b. b < 256) file → length file < 2 ^ 64
    → (found : Option (Vec ℕ Global)) → IfSome found (λ own. payload_or_counts_at_overflow (info_without_zeros_with_id_and_file_size (entry_at_index value 0) (sha256 payload) (length file)) ≡ Ok own.items) → IfSome found (λ own. HoldsEntry own.items (index_entry_of_package_file file))
holds_found shapes read_back overflows normal file value payload is_value is_payload bytes small found h =
    let info : Plain = entry_at_index (root_value_of_payload Tables.Package (payload_in file)) 0 in
    let value_is_normal : IsNormal (root_value_of_payload Tables.Package (payload_in file)) = value_normal read_back overflows normal (payload_in file) (Kinds.Obj Tables.Package) (root_word_of_payload (payload_in file)) (payload_all (λ b. b < 256) file bytes) in
    if_some _ _ found (λ own made. holds read_back overflows normal info (payload_sha256_of_package_file file) (length file) own.items
    (entry_in_normal read_back overflows normal (root_value_of_payload Tables.Package (payload_in file)) 0 value_is_normal)
    (package_info_shape shapes (payload_in file)) small
    ((λ j. payload_or_counts_at_overflow (info_without_zeros_with_id_and_file_size (entry_at_index (sym is_value j) 0) (sha256 (sym is_payload j)) (length file))) ∙ made)) h

-- ---- the entry of any package

pub entry_of_shape : FoundShapes → (file : List ℕ) → HasShape (shape_of (Kinds.Obj Tables.PkgInfo)) (index_entry_of_package_file file)
entry_of_shape shapes file = entry_shape (entry_at_index (root_value_of_payload Tables.Package (payload_in file)) 0) (payload_sha256_of_package_file file) (length file) (package_info_shape shapes (payload_in file))

pub entry_of_version : SoundContainers → (file : List ℕ) → container_fault_except_contents Tables.Package file ≡ None → is_version (text_in (entry_at_index (index_entry_of_package_file file) 1)) ≡ true
entry_of_version containers file sound = ap is_version (entry_version (entry_at_index (root_value_of_payload Tables.Package (payload_in file)) 0) (payload_sha256_of_package_file file) (length file)) ∙ package_version containers file sound

all_normal : ((payload : List ℕ) → All (λ b. b < 256) payload → (shape : Shape) (word : ℕ) → IfSome (plain_of payload shape word) IsNormal) → (p : List ℕ) (k : Kind) (w : ℕ) → All (λ b. b < 256) p → IsNormal (value_at p k w)
unfolding value_at IsNormal
all_normal normal p k w h = go (plain_of p (shape_of k) w) (normal p h (shape_of k) w)
  where
    go : (o : Option Plain) → IfSome o IsNormal → IsNormal (unwrap_or o null)
    go None g = tt
    go (Some v) g = g

nth_is_normal : (vs : Plains) (i : ℕ) → AreNormal vs → IsNormal (nth vs i)
unfolding IsNormal
nth_is_normal none i h = tt
nth_is_normal (more v vs) zero h = h.0
nth_is_normal (more v vs) (suc i) h = nth_is_normal vs i h.1

in_normal : (v : Plain) (i : ℕ) → IsNormal v → IsNormal (entry_at_index v i)
unfolding IsNormal
in_normal null i h = tt
in_normal (int n) i h = tt
in_normal (blob b) i h = tt
in_normal (arr vs) i h = nth_is_normal vs i h.1
in_normal (obj vs) i h = nth_is_normal vs i h.2

pub entry_of_normal : ((payload : List ℕ) → All (λ b. b < 256) payload → (shape : Shape) (word : ℕ) → IfSome (plain_of payload shape word) IsNormal) → (file : List ℕ) → All (λ b. b < 256) file → length file < 2 ^ 64 → IsNormal (index_entry_of_package_file file)
entry_of_normal normal file bytes small =
    entry_normal (entry_at_index (root_value_of_payload Tables.Package (payload_in file)) 0) (payload_sha256_of_package_file file) (length file)
    (in_normal (root_value_of_payload Tables.Package (payload_in file)) 0 (all_normal normal (payload_in file) (Kinds.Obj Tables.Package) (root_word_of_payload (payload_in file)) (payload_all (λ b. b < 256) file bytes))) small
