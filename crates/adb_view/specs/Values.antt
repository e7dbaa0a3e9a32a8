-- The plain value of a word that is known to have one, and the fields and entries of plain values. Most contracts on
-- containers use them. The rule is in `docs/formats.md`, "Values".
use Rattle.std.specs.Prelude.{ℕ, zero, suc, Bool, List, [], is_some, Option, unwrap_or, option_map, slice_get}
use Rattle.adb_view.specs.Plain.{Plain, null, int, blob, arr, obj, Plains, none, more, plain_of}
pub use Rattle.adb_view.specs.Plain.{count_of}
use Rattle.adb_view.specs.Schema.{table, shape_of}
use Rattle.adb_view.specs.declared.tables.Which.{Which}
use Rattle.adb_view.specs.declared.tables.Kind.{Kind}

-- whether the word `w` of the payload `p` has a plain value when it is read by the kind `k`
unfoldable pub is_sound : List ℕ → Kind → ℕ → Bool
is_sound p k w = is_some (plain_of p (shape_of k) w)

-- the plain value of the word `w` of the payload `p`, read by the kind `k`; Null if the word has none
unfoldable pub value_at : List ℕ → Kind → ℕ → Plain
value_at p k w = unwrap_or (plain_of p (shape_of k) w) null

-- the value with this index, which counts from 0; Null past the last value
abbrev pub nth : Plains → ℕ → Plain
nth none i = null
nth (more v vs) zero = v
nth (more v vs) (suc i) = nth vs i

-- the entries of an array, or the fields of an object. Any other value has none, so *entry_at_index* gives Null for it
abbrev pub entries_in : Plain → Plains
entries_in null = none
entries_in (int n) = none
entries_in (blob b) = none
entries_in (arr vs) = vs
entries_in (obj vs) = vs

-- the field of an object, or the entry of an array, with the index i, which counts from 0; Null if there is none
abbrev pub entry_at_index : Plain → ℕ → Plain
entry_at_index v i = nth (entries_in v) i

-- the integer of a value; 0 for Null, and for a value that is no integer
abbrev pub int_in : Plain → ℕ
int_in null = 0
int_in (int n) = n
int_in (blob b) = 0
int_in (arr vs) = 0
int_in (obj vs) = 0

-- the bytes of a value; none for Null, and for a value that is no blob
abbrev pub text_in : Plain → List ℕ
text_in null = []
text_in (int n) = []
text_in (blob b) = b
text_in (arr vs) = []
text_in (obj vs) = []

-- the kind of the field with this index in a table, if there is such a field
abbrev pub kind_at : Which → ℕ → Option Kind
kind_at which i = option_map (λ f. f.kind) (slice_get (table which) i)
