-- What a sound word's readers answer, in terms of its plain value.
use Rattle.std.proofs.Common.{◌≡◌, ℕ, zero, suc, ◌<◌, Bool, true, false, eqb, List, [], ◌∷◌, length, get_or, Option, Some, None, option_map, Result, Ok, Err, refl, sym, ap, subst, ◌∙◌, arith, inl, inr, ◌⊎◌}
use Rattle.std.specs.Prelude.{is_some, slice_get}
use Rattle.std.specs.Result.{result_ok}
use Rattle.std.proofs.lemmas.Bool.{eqb-true}
use Rattle.adb_view.specs.Plain.{Plain, null, int, Plains, none, more, without_last_nulls, Shape, number, text, hash, array, object, blob_or_null, object_or_null, trimmed_object_or_null, array_or_null, null_plain_if_null_word, option_of_ok_value, plains_if_first_and_rest, plains_of_all_words, plain_of, plains_of}
use Rattle.adb_view.specs.Readers.{int_of, blob_of, run_entries_of_kind_in_payload_at_word, ARRAY, OBJECT}
use Rattle.adb_view.specs.Schema.{table, shape_of, shapes_of, table_number}
use Rattle.adb_fields.specs.Fields.{AreFieldsOf, are_all_sound, values_at, array_at}
use Rattle.adb_view.specs.Values.{is_sound, value_at, kind_at, nth, count_of, entries_in, entry_at_index, int_in, text_in}
use Rattle.adb_view.proofs.ValueEntries.{entries_arr, nth_trimmed, text_blob}
use Rattle.adb_view.specs.Shapes.{object_shape, objects_shape, texts_shape, int_shape, text_shape, hash_shape}
use Rattle.base_core.specs.declared.cause.Cause.{Cause}
use Rattle.adb_view.specs.declared.tables.Which.{Which}
use Rattle.adb_view.specs.declared.tables.Kind.{Kind}
use Rattle.adb_view.specs.declared.tables.Kind.TheVariants.{Int, Text, Hash, Obj, TextArr, ObjArr}
use Rattle.adb_view.specs.declared.tables.Field.{Field}
use Rattle.adb_view.proofs.Found.{run_entries_of_kind_in_payload_at_word-null, int_of-null, blob_of-null}

-- what was read, whatever it is shown as
pub read_ok : {A : Type 0} (r : Result A Cause) (x : A) → result_ok r ≡ Some x → r ≡ Ok x
read_ok (Ok y) x e = cc
read_ok (Err c) x e = absurd cc

some_is : {A : Type 0} (o : Option A) → is_some o ≡ true → (x : A) × (o ≡ Some x)
some_is (Some x) e = (x, refl)
some_is None e = absurd cc

-- NULL or not
pub null_or_not : (w : ℕ) → (w ≡ 0) ⊎ (eqb w 0 ≡ false)
null_or_not w = go (eqb w 0) refl
  where
    go : (b : Bool) → eqb w 0 ≡ b → (w ≡ 0) ⊎ (eqb w 0 ≡ false)
    go true e = inl (eqb-true _ _ e)
    go false e = inr e

found_is : {A : Type 0} (f : A → Option Plain) (r : Result A Cause) (v : Plain) → option_of_ok_value f r ≡ Some v → (x : A) × (r ≡ Ok x) × (f x ≡ Some v)
found_is f (Ok x) v e = (x, refl, e)
found_is f (Err c) v e = absurd cc

-- ---- integers and texts

number_value : (p : List ℕ) (w : ℕ) (v : Plain) → plain_of p number w ≡ Some v → int_of p w ≡ Ok (int_in v)
unfolding plain_of
number_value p w v e =
    elim (null_or_not w) [
      | inl z ↦
          let null_is : plain_of p number w ≡ Some null = rw z refl in
          let same : v ≡ null = cc in
          rw (z, same) (int_of-null p)
      | inr t ↦
          let g : null_plain_if_null_word w (option_of_ok_value (λ n. Some (int n)) (int_of p w)) ≡ option_of_ok_value (λ n. Some (int n)) (int_of p w) = rw t refl in
          let (n, ok, is) = found_is (λ n. Some (int n)) (int_of p w) v (sym g ∙ e) in
          let same : v ≡ int n = cc in
          rw same ok
    ]

blob_shape_value : (p : List ℕ) (w : ℕ) (v : Plain) → null_plain_if_null_word w (option_of_ok_value (λ b. Some (blob_or_null b)) (blob_of p w)) ≡ Some v → blob_of p w ≡ Ok (text_in v)
blob_shape_value p w v e =
    elim (null_or_not w) [
      | inl z ↦
          let null_is : null_plain_if_null_word w (option_of_ok_value (λ b. Some (blob_or_null b)) (blob_of p w)) ≡ Some null = rw z refl in
          let same : v ≡ null = cc in
          rw (z, same) (blob_of-null p)
      | inr t ↦
          let g : null_plain_if_null_word w (option_of_ok_value (λ b. Some (blob_or_null b)) (blob_of p w)) ≡ option_of_ok_value (λ b. Some (blob_or_null b)) (blob_of p w) = rw t refl in
          let (b, ok, is) = found_is (λ b. Some (blob_or_null b)) (blob_of p w) v (sym g ∙ e) in
          let same : v ≡ blob_or_null b = cc in
          rw (same, text_blob b) ok
    ]

value_is : (p : List ℕ) (k : Kind) (w : ℕ) → is_sound p k w ≡ true → plain_of p (shape_of k) w ≡ Some (value_at p k w)
unfolding is_sound value_at
value_is p k w h = let (v, e) = some_is (plain_of p (shape_of k) w) h in rw e refl

-- a sound integer, text or hash is read
pub int_read_of : (p : List ℕ) (w : ℕ) → is_sound p Int w ≡ true → int_of p w ≡ Ok (int_in (value_at p Int w))
int_read_of p w h = number_value p w _ (ap (λ s. plain_of p s w) (sym int_shape) ∙ value_is p Int w h)

pub text_read_of : (p : List ℕ) (w : ℕ) → is_sound p Text w ≡ true → blob_of p w ≡ Ok (text_in (value_at p Text w))
unfolding plain_of
text_read_of p w h = blob_shape_value p w _ (ap (λ s. plain_of p s w) (sym text_shape) ∙ value_is p Text w h)

pub hash_read_of : (p : List ℕ) (w : ℕ) → is_sound p Hash w ≡ true → blob_of p w ≡ Ok (text_in (value_at p Hash w))
unfolding plain_of
hash_read_of p w h = blob_shape_value p w _ (ap (λ s. plain_of p s w) (sym hash_shape) ∙ value_is p Hash w h)

-- ---- fields

entry_at_index-object_or_null : (vs : Plains) (i : ℕ) → entry_at_index (object_or_null vs) i ≡ nth vs i
entry_at_index-object_or_null none i = refl
entry_at_index-object_or_null (more v vs) i = refl

null_plain : (p : List ℕ) (s : Shape) → plain_of p s 0 ≡ Some null
unfolding plain_of
null_plain p number = refl
null_plain p text = refl
null_plain p hash = refl
null_plain p (array s) = refl
null_plain p (object which fs) = refl

pub then_more_is : (v : Option Plain) (vs : Option Plains) (us : Plains) → plains_if_first_and_rest v vs ≡ Some us → (u : Plain) × (more_us : Plains) × (v ≡ Some u) × (vs ≡ Some more_us) × (us ≡ more u more_us)
then_more_is (Some v) (Some vs) us e = (v, vs, refl, refl, cc)
then_more_is (Some v) None us e = absurd cc
then_more_is None vs us e = absurd cc

-- the field's word has the field's value
fields_value : (p : List ℕ) (fs : List Field) (ws : List ℕ) (vs : Plains) (i : ℕ) (d : Field) → plains_of p (shapes_of fs) ws ≡ Some vs → i < length fs → plain_of p (shape_of (get_or fs i d).kind) (get_or ws i 0) ≡ Some (nth vs i)
unfolding plains_of
fields_value p [] ws vs i d e lt = absurd (omega arith)
fields_value p (f ∷ fs) [] vs i d e lt = let same : vs ≡ none = cc in rw same (null_plain p (shape_of (get_or (f ∷ fs) i d).kind))
fields_value p (f ∷ fs) (w ∷ ws) vs zero d e lt =
    let (u, us, one, others, is) = then_more_is (plain_of p (shape_of f.kind) w) (plains_of p (shapes_of fs) ws) vs e in
    rw is one
fields_value p (f ∷ fs) (w ∷ ws) vs (suc i) d e lt =
    let (u, us, one, others, is) = then_more_is (plain_of p (shape_of f.kind) w) (plains_of p (shapes_of fs) ws) vs e in
    rw is (fields_value p fs ws us i d others (omega arith))

some_map : {A B : Type 0} (f : A → B) (o : Option A) (y : B) → option_map f o ≡ Some y → (x : A) × (o ≡ Some x) × (f x ≡ y)
some_map f (Some x) y e = (x, refl, cc)
some_map f None y e = absurd cc

-- what a sound object's run has
pub record ObjectRead (p : List ℕ) (which : Which) (w : ℕ) (ws : List ℕ) : Type 0 where
  pub run : run_entries_of_kind_in_payload_at_word OBJECT p w ≡ Ok ws
  pub fields : (i : ℕ) (d : Field) → i < length (table which) → plain_of p (shape_of (get_or (table which) i d).kind) (get_or ws i 0) ≡ Some (entry_at_index (value_at p (Obj which) w) i)

object_value : (p : List ℕ) (which : Which) (w : ℕ) (v : Plain) → plain_of p (object (table_number which) (shapes_of (table which))) w ≡ Some v → value_at p (Obj which) w ≡ v → (ws : List ℕ) × ObjectRead p which w ws
unfolding plain_of
object_value p which w v e at =
    elim (null_or_not w) [
      | inl z ↦
          let null_is : plain_of p (object (table_number which) (shapes_of (table which))) w ≡ Some null = rw z refl in
          let same : v ≡ null = cc in
          ([], record { run = rw z (run_entries_of_kind_in_payload_at_word-null OBJECT p); fields = λ i d lt. rw (at, same) (null_plain p (shape_of (get_or (table which) i d).kind)) })
      | inr t ↦
          let g : null_plain_if_null_word w (option_of_ok_value (λ ws. option_map trimmed_object_or_null (plains_of p (shapes_of (table which)) ws)) (run_entries_of_kind_in_payload_at_word OBJECT p w)) ≡ option_of_ok_value (λ ws. option_map trimmed_object_or_null (plains_of p (shapes_of (table which)) ws)) (run_entries_of_kind_in_payload_at_word OBJECT p w) = rw t refl in
          let (ws, ok, is) = found_is (λ ws. option_map trimmed_object_or_null (plains_of p (shapes_of (table which)) ws)) (run_entries_of_kind_in_payload_at_word OBJECT p w) v (sym g ∙ e) in
          let (vs, some, made) = some_map trimmed_object_or_null (plains_of p (shapes_of (table which)) ws) v is in (
            ws,
            record {
              run = ok;
              fields = λ i d lt.
                  let one = fields_value p (table which) ws vs i d some lt in
                  let two : nth vs i ≡ entry_at_index (value_at p (Obj which) w) i = sym (ap (λ u. entry_at_index u i) (at ∙ sym made) ∙ entry_at_index-object_or_null (without_last_nulls vs) i ∙ nth_trimmed vs i) in
                  one ∙ ap Some two;
            },
          )
    ]

pub object_read_of : (p : List ℕ) (which : Which) (w : ℕ) → is_sound p (Obj which) w ≡ true → (ws : List ℕ) × ObjectRead p which w ws
object_read_of p which w h = object_value p which w (value_at p (Obj which) w) (ap (λ s. plain_of p s w) (sym (object_shape which)) ∙ value_is p (Obj which) w h) refl

-- so the field is sound, and its value is the field of the value
pub field_is : (p : List ℕ) (which : Which) (w : ℕ) (ws : List ℕ) (i : ℕ) (d : Field) → is_sound p (Obj which) w ≡ true → run_entries_of_kind_in_payload_at_word OBJECT p w ≡ Ok ws → i < length (table which)
    → (is_sound p (get_or (table which) i d).kind (get_or ws i 0) ≡ true) × (value_at p (get_or (table which) i d).kind (get_or ws i 0) ≡ entry_at_index (value_at p (Obj which) w) i)
unfolding is_sound value_at
field_is p which w ws i d h run lt =
    let (us, r) = object_read_of p which w h in
    let same : us ≡ ws = cc (r.run, run) in
    let is : plain_of p (shape_of (get_or (table which) i d).kind) (get_or ws i 0) ≡ Some (entry_at_index (value_at p (Obj which) w) i) = subst (λ (xs : List ℕ). plain_of p (shape_of (get_or (table which) i d).kind) (get_or xs i 0) ≡ Some (entry_at_index (value_at p (Obj which) w) i)) same (r.fields i d lt) in
    (rw is refl, rw is refl)

-- the same where the kind is known
kind_found : (fs : List Field) (i : ℕ) (k : Kind) → option_map (λ f. f.kind) (slice_get fs i) ≡ Some k → (d : Field) × (i < length fs) × ((get_or fs i d).kind ≡ k)
kind_found [] i k e = absurd cc
kind_found (f ∷ fs) zero k e = (f, omega arith, cc)
kind_found (f ∷ fs) (suc i) k e = let (d, lt, is) = kind_found fs i k e in (d, omega arith, is)

pub record FieldRead (p : List ℕ) (which : Which) (w : ℕ) (i : ℕ) (k : Kind) (word : ℕ) : Type 0 where
  pub sound : is_sound p k word ≡ true
  pub value : value_at p k word ≡ entry_at_index (value_at p (Obj which) w) i

pub field_read : (p : List ℕ) (which : Which) (w : ℕ) (ws : List ℕ) (i : ℕ) (k : Kind) → is_sound p (Obj which) w ≡ true → run_entries_of_kind_in_payload_at_word OBJECT p w ≡ Ok ws → kind_at which i ≡ Some k → FieldRead p which w i k (get_or ws i 0)
field_read p which w ws i k h run e =
    let (d, lt, is) = kind_found (table which) i k e in
    let r = field_is p which w ws i d h run lt in
    subst (λ (x : Kind). FieldRead p which w i x (get_or ws i 0)) is (record { sound = r.0; value = r.1 })

pub fields_read : (p : List ℕ) (which : Which) (w : ℕ) (ws : List ℕ) → is_sound p (Obj which) w ≡ true → run_entries_of_kind_in_payload_at_word OBJECT p w ≡ Ok ws → AreFieldsOf p which w ws
fields_read p which w ws h run i k e = let r = field_read p which w ws i k h run e in (r.sound, r.value)

-- a sound object has a run
pub object_runs : (p : List ℕ) (which : Which) (w : ℕ) → is_sound p (Obj which) w ≡ true → result_ok (run_entries_of_kind_in_payload_at_word OBJECT p w) ≡ None → ⊥
object_runs p which w h e = let (ws, r) = object_read_of p which w h in let run = ap result_ok r.run in cc

pub text_reads : (p : List ℕ) (w : ℕ) → is_sound p Text w ≡ true → result_ok (blob_of p w) ≡ None → ⊥
text_reads p w h e = let r = ap result_ok (text_read_of p w h) in cc

pub int_reads : (p : List ℕ) (w : ℕ) → is_sound p Int w ≡ true → result_ok (int_of p w) ≡ None → ⊥
int_reads p w h e = let r = ap result_ok (int_read_of p w h) in cc

pub hash_reads : (p : List ℕ) (w : ℕ) → is_sound p Hash w ≡ true → result_ok (blob_of p w) ≡ None → ⊥
hash_reads p w h e = let r = ap result_ok (hash_read_of p w h) in cc

-- ---- arrays

array_shape_value : (p : List ℕ) (s : Shape) (w : ℕ) (v : Plain) → plain_of p (array s) w ≡ Some v → (ws : List ℕ) × (vs : Plains) × (run_entries_of_kind_in_payload_at_word ARRAY p w ≡ Ok ws) × (plains_of_all_words (plain_of p s) ws ≡ Some vs) × (array_or_null vs ≡ v)
unfolding plain_of
array_shape_value p s w v e =
    elim (null_or_not w) [
      | inl z ↦
          let null_is : plain_of p (array s) w ≡ Some null = rw z refl in
          let same : null ≡ v = cc in
          ([], none, rw z (run_entries_of_kind_in_payload_at_word-null ARRAY p), refl, same)
      | inr t ↦
          let g : null_plain_if_null_word w (option_of_ok_value (λ ws. option_map array_or_null (plains_of_all_words (plain_of p s) ws)) (run_entries_of_kind_in_payload_at_word ARRAY p w)) ≡ option_of_ok_value (λ ws. option_map array_or_null (plains_of_all_words (plain_of p s) ws)) (run_entries_of_kind_in_payload_at_word ARRAY p w) = rw t refl in
          let (ws, ok, is) = found_is (λ ws. option_map array_or_null (plains_of_all_words (plain_of p s) ws)) (run_entries_of_kind_in_payload_at_word ARRAY p w) v (sym g ∙ e) in
          let (vs, some, made) = some_map array_or_null (plains_of_all_words (plain_of p s) ws) v is in
          (ws, vs, ok, some, made)
    ]

-- what a sound array's run has
pub record ArrayRead (p : List ℕ) (k inner : Kind) (w : ℕ) (ws : List ℕ) : Type 0 where
  pub sound : are_all_sound p inner ws ≡ true
  pub value : array_at p inner ws ≡ value_at p k w

array_read_of : (p : List ℕ) (k inner : Kind) (w : ℕ) → shape_of k ≡ array (shape_of inner) → is_sound p k w ≡ true → (ws : List ℕ) × (run_entries_of_kind_in_payload_at_word ARRAY p w ≡ Ok ws) × ArrayRead p k inner w ws
unfolding are_all_sound values_at
array_read_of p k inner w is h =
    let (ws, vs, run, each, made) = array_shape_value p (shape_of inner) w (value_at p k w) (ap (λ s. plain_of p s w) (sym is) ∙ value_is p k w h) in
    (ws, run, record { sound = rw each refl; value = rw each made })

array_read : (p : List ℕ) (k inner : Kind) (w : ℕ) (ws : List ℕ) → shape_of k ≡ array (shape_of inner) → is_sound p k w ≡ true → run_entries_of_kind_in_payload_at_word ARRAY p w ≡ Ok ws → ArrayRead p k inner w ws
array_read p k inner w ws is h run =
    let (us, ok, r) = array_read_of p k inner w is h in
    let same : us ≡ ws = cc (ok, run) in
    subst (λ (xs : List ℕ). ArrayRead p k inner w xs) same r

pub texts_sound : (p : List ℕ) (w : ℕ) (ws : List ℕ) → is_sound p TextArr w ≡ true → run_entries_of_kind_in_payload_at_word ARRAY p w ≡ Ok ws → are_all_sound p Text ws ≡ true
texts_sound p w ws h run = (array_read p TextArr Text w ws texts_shape h run).sound

pub texts_value : (p : List ℕ) (w : ℕ) (ws : List ℕ) → is_sound p TextArr w ≡ true → run_entries_of_kind_in_payload_at_word ARRAY p w ≡ Ok ws → array_at p Text ws ≡ value_at p TextArr w
texts_value p w ws h run = (array_read p TextArr Text w ws texts_shape h run).value

pub texts_run : (p : List ℕ) (w : ℕ) → is_sound p TextArr w ≡ true → result_ok (run_entries_of_kind_in_payload_at_word ARRAY p w) ≡ None → ⊥
texts_run p w h e = let (ws, run, r) = array_read_of p TextArr Text w texts_shape h in let read = ap result_ok run in cc

pub objects_sound : (p : List ℕ) (which : Which) (w : ℕ) (ws : List ℕ) → is_sound p (ObjArr which) w ≡ true → run_entries_of_kind_in_payload_at_word ARRAY p w ≡ Ok ws → are_all_sound p (Obj which) ws ≡ true
objects_sound p which w ws h run = (array_read p (ObjArr which) (Obj which) w ws (objects_shape which) h run).sound

pub objects_value : (p : List ℕ) (which : Which) (w : ℕ) (ws : List ℕ) → is_sound p (ObjArr which) w ≡ true → run_entries_of_kind_in_payload_at_word ARRAY p w ≡ Ok ws → array_at p (Obj which) ws ≡ value_at p (ObjArr which) w
objects_value p which w ws h run = (array_read p (ObjArr which) (Obj which) w ws (objects_shape which) h run).value

pub objects_run : (p : List ℕ) (which : Which) (w : ℕ) → is_sound p (ObjArr which) w ≡ true → result_ok (run_entries_of_kind_in_payload_at_word ARRAY p w) ≡ None → ⊥
objects_run p which w h e = let (ws, run, r) = array_read_of p (ObjArr which) (Obj which) w (objects_shape which) h in let read = ap result_ok run in cc

-- ---- entries

each_found : (f : ℕ → Option Plain) (ws : List ℕ) (vs : Plains) (i : ℕ) → plains_of_all_words f ws ≡ Some vs → i < length ws → f (get_or ws i 0) ≡ Some (nth vs i)
each_found f [] vs i e lt = absurd (omega arith)
each_found f (w ∷ ws) vs zero e lt = let (u, us, one, others, is) = then_more_is (f w) (plains_of_all_words f ws) vs e in rw is one
each_found f (w ∷ ws) vs (suc i) e lt =
    let (u, us, one, others, is) = then_more_is (f w) (plains_of_all_words f ws) vs e in rw is (each_found f ws us i others (omega arith))

each_count : (f : ℕ → Option Plain) (ws : List ℕ) (vs : Plains) → plains_of_all_words f ws ≡ Some vs → length ws ≡ count_of vs
each_count f [] vs e = let same : vs ≡ none = cc in rw same refl
each_count f (w ∷ ws) vs e =
    let (u, us, one, others, is) = then_more_is (f w) (plains_of_all_words f ws) vs e in rw is (ap suc (each_count f ws us others))

values_are : (p : List ℕ) (k : Kind) (ws : List ℕ) → are_all_sound p k ws ≡ true → plains_of_all_words (plain_of p (shape_of k)) ws ≡ Some (values_at p k ws)
unfolding are_all_sound values_at
values_are p k ws h = let (vs, e) = some_is (plains_of_all_words (plain_of p (shape_of k)) ws) h in rw e refl

-- each word of a sound array is sound, and has the value of the entry
pub entry_sound : (p : List ℕ) (k : Kind) (ws : List ℕ) (i : ℕ) → are_all_sound p k ws ≡ true → i < length ws → is_sound p k (get_or ws i 0) ≡ true
unfolding is_sound
entry_sound p k ws i h lt = rw (each_found (plain_of p (shape_of k)) ws (values_at p k ws) i (values_are p k ws h) lt) refl

pub entry_value : (p : List ℕ) (k : Kind) (ws : List ℕ) (i : ℕ) → are_all_sound p k ws ≡ true → i < length ws → value_at p k (get_or ws i 0) ≡ entry_at_index (array_at p k ws) i
unfolding value_at
entry_value p k ws i h lt =
    rw (each_found (plain_of p (shape_of k)) ws (values_at p k ws) i (values_are p k ws h) lt) (ap (λ vs. nth vs i) (sym (entries_arr (values_at p k ws))))

pub entry_count : (p : List ℕ) (k : Kind) (ws : List ℕ) → are_all_sound p k ws ≡ true → length ws ≡ count_of (entries_in (array_at p k ws))
entry_count p k ws h = each_count (plain_of p (shape_of k)) ws (values_at p k ws) (values_are p k ws h) ∙ ap count_of (sym (entries_arr (values_at p k ws)))

-- a text's value is its bytes
text_is : (p : List ℕ) (w : ℕ) (v : Plain) → null_plain_if_null_word w (option_of_ok_value (λ b. Some (blob_or_null b)) (blob_of p w)) ≡ Some v → blob_or_null (text_in v) ≡ v
text_is p w v e =
    elim (null_or_not w) [
      | inl z ↦
          let null_is : null_plain_if_null_word w (option_of_ok_value (λ b. Some (blob_or_null b)) (blob_of p w)) ≡ Some null = rw z refl in
          let same : v ≡ null = cc in
          rw same refl
      | inr t ↦
          let g : null_plain_if_null_word w (option_of_ok_value (λ b. Some (blob_or_null b)) (blob_of p w)) ≡ option_of_ok_value (λ b. Some (blob_or_null b)) (blob_of p w) = rw t refl in
          let (b, ok, is) = found_is (λ b. Some (blob_or_null b)) (blob_of p w) v (sym g ∙ e) in
          let same : v ≡ blob_or_null b = cc in
          rw (same, text_blob b) refl
    ]

pub text_shown : (p : List ℕ) (w : ℕ) (b : List ℕ) → is_sound p Text w ≡ true → b ≡ text_in (value_at p Text w) → blob_or_null b ≡ value_at p Text w
unfolding plain_of
text_shown p w b h is = ap blob_or_null is ∙ text_is p w (value_at p Text w) (ap (λ s. plain_of p s w) (sym text_shape) ∙ value_is p Text w h)
