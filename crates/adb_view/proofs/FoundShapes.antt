-- Each plain value that is found has the shape under which it was looked for.
use Rattle.std.proofs.Common.{ℕ, Bool, true, false, cond, eqb, List, [], ◌∷◌, Option, Some, None, option_map, Result, Ok, Err}
use Rattle.std.specs.Prelude.{IfSome}
use Rattle.adb_view.specs.Plain.{Plain, null, int, blob, arr, obj, Plains, none, more, Shape, number, text, hash, array, object, Fields, no_fields, field, blob_or_null, array_or_null, object_or_null, prepend_plain_unless_last_null, without_last_nulls, trimmed_object_or_null, null_plain_if_null_word, option_of_ok_value, plains_if_first_and_rest, plains_of_all_words, plain_of, plains_of}
use Rattle.adb_view.specs.Readers.{int_of, blob_of, run_entries_of_kind_in_payload_at_word, ARRAY, OBJECT}
use Rattle.adb_view.specs.Shaped.{Each, HasShape, HaveShapes}
use Rattle.base_core.specs.declared.cause.Cause.{Cause}

-- whatever a value is, if each way to read it gives such
pub null_plain_if_null_word-all : (P : Plain → Type 0) (w : ℕ) (v : Option Plain) → P null → IfSome v P → IfSome (null_plain_if_null_word w v) P
null_plain_if_null_word-all P w v h k = go (eqb w 0)
  where
    go : (b : Bool) → IfSome (cond b (Some null) v) P
    go true = h
    go false = k

pub mapped : (P : Plain → Type 0) (Q : Plains → Type 0) (f : Plains → Plain) → ((vs : Plains) → Q vs → P (f vs)) → (o : Option Plains) → IfSome o Q → IfSome (option_map f o) P
mapped P Q f h None k = tt
mapped P Q f h (Some vs) k = h vs k

pub run_found : (P : Plain → Type 0) (g : List ℕ → Option Plain) → ((ws : List ℕ) → IfSome (g ws) P) → (r : Result (List ℕ) Cause) → IfSome (option_of_ok_value g r) P
run_found P g h (Ok ws) = h ws
run_found P g h (Err c) = tt

-- ---- shapes

pub shape_null : (s : Shape) → HasShape s null
unfolding HasShape
shape_null number = tt
shape_null text = tt
shape_null hash = tt
shape_null (array s) = tt
shape_null (object n fs) = tt

int_shape : (r : Result ℕ Cause) → IfSome (option_of_ok_value (λ n. Some (int n)) r) (HasShape number)
unfolding HasShape
int_shape (Ok n) = tt
int_shape (Err c) = tt

pub blob_value_text : (b : List ℕ) → HasShape text (blob_or_null b)
unfolding HasShape
blob_value_text [] = tt
blob_value_text (c ∷ cs) = tt

pub blob_value_hash : (b : List ℕ) → HasShape hash (blob_or_null b)
unfolding HasShape
blob_value_hash [] = tt
blob_value_hash (c ∷ cs) = tt

text_shape : (r : Result (List ℕ) Cause) → IfSome (option_of_ok_value (λ b. Some (blob_or_null b)) r) (HasShape text)
text_shape (Ok b) = blob_value_text b
text_shape (Err c) = tt

hash_shape : (r : Result (List ℕ) Cause) → IfSome (option_of_ok_value (λ b. Some (blob_or_null b)) r) (HasShape hash)
hash_shape (Ok b) = blob_value_hash b
hash_shape (Err c) = tt

pub arr_value_shape : (s : Shape) (vs : Plains) → Each (HasShape s) vs → HasShape (array s) (array_or_null vs)
unfolding HasShape
arr_value_shape s none h = tt
arr_value_shape s (more v vs) h = h

pub shapes_none : (fs : Fields) → HaveShapes fs none
unfolding HasShape
shapes_none no_fields = tt
shapes_none (field name s fs) = tt

keep_shape : (name : List ℕ) (s : Shape) (fs : Fields) (v : Plain) (vs : Plains) → HasShape s v → HaveShapes fs vs → HaveShapes (field name s fs) (prepend_plain_unless_last_null v vs)
unfolding HasShape
keep_shape name s fs null none h hs = tt
keep_shape name s fs null (more v vs) h hs = (h, hs)
keep_shape name s fs (int n) vs h hs = (h, hs)
keep_shape name s fs (blob b) vs h hs = (h, hs)
keep_shape name s fs (arr us) vs h hs = (h, hs)
keep_shape name s fs (obj us) vs h hs = (h, hs)

pub trimmed_shapes : (fs : Fields) (vs : Plains) → HaveShapes fs vs → HaveShapes fs (without_last_nulls vs)
unfolding HasShape
trimmed_shapes no_fields none h = h
trimmed_shapes no_fields (more v vs) h = absurd h
trimmed_shapes (field name s fs) none h = tt
trimmed_shapes (field name s fs) (more v vs) h = keep_shape name s fs v (without_last_nulls vs) h.0 (trimmed_shapes fs vs h.1)

obj_of_shape : (n : ℕ) (fs : Fields) (vs : Plains) → HaveShapes fs vs → HasShape (object n fs) (object_or_null vs)
unfolding HasShape
obj_of_shape n fs none h = tt
obj_of_shape n fs (more v vs) h = h

pub obj_value_shape : (n : ℕ) (fs : Fields) (vs : Plains) → HaveShapes fs vs → HasShape (object n fs) (trimmed_object_or_null vs)
obj_value_shape n fs vs h = obj_of_shape n fs (without_last_nulls vs) (trimmed_shapes fs vs h)

both_found : (P : Plain → Type 0) (v : Option Plain) (vs : Option Plains) → IfSome v P → IfSome vs (Each P) → IfSome (plains_if_first_and_rest v vs) (Each P)
both_found P (Some v) (Some vs) h hs = (h, hs)
both_found P (Some v) None h hs = tt
both_found P None vs h hs = tt

pub each_found : (P : Plain → Type 0) (f : ℕ → Option Plain) → ((w : ℕ) → IfSome (f w) P) → (ws : List ℕ) → IfSome (plains_of_all_words f ws) (Each P)
each_found P f h [] = tt
each_found P f h (w ∷ ws) = both_found P (f w) (plains_of_all_words f ws) (h w) (each_found P f h ws)

fields_more : (name : List ℕ) (s : Shape) (fs : Fields) (v : Option Plain) (vs : Option Plains) → IfSome v (HasShape s) → IfSome vs (HaveShapes fs) → IfSome (plains_if_first_and_rest v vs) (HaveShapes (field name s fs))
unfolding HasShape
fields_more name s fs (Some v) (Some vs) h hs = (h, hs)
fields_more name s fs (Some v) None h hs = tt
fields_more name s fs None vs h hs = tt

mutual
  unfolding plain_of

  pub plain_shape : (p : List ℕ) (s : Shape) (w : ℕ) → IfSome (plain_of p s w) (HasShape s)
  plain_shape p number w = null_plain_if_null_word-all (HasShape number) w _ (shape_null number) (int_shape (int_of p w))
  plain_shape p text w = null_plain_if_null_word-all (HasShape text) w _ (shape_null text) (text_shape (blob_of p w))
  plain_shape p hash w = null_plain_if_null_word-all (HasShape hash) w _ (shape_null hash) (hash_shape (blob_of p w))
  plain_shape p (array s) w =
      null_plain_if_null_word-all (HasShape (array s)) w _ (shape_null (array s)) (run_found (HasShape (array s)) (λ ws. option_map array_or_null (plains_of_all_words (plain_of p s) ws)) (λ ws. mapped (HasShape (array s)) (Each (HasShape s)) array_or_null (arr_value_shape s) (plains_of_all_words (plain_of p s) ws) (each_found (HasShape s) (plain_of p s) (plain_shape p s) ws)) (run_entries_of_kind_in_payload_at_word ARRAY p w))
  plain_shape p (object n fs) w =
      null_plain_if_null_word-all (HasShape (object n fs)) w _ (shape_null (object n fs)) (run_found (HasShape (object n fs)) (λ ws. option_map trimmed_object_or_null (plains_of p fs ws)) (λ ws. mapped (HasShape (object n fs)) (HaveShapes fs) trimmed_object_or_null (obj_value_shape n fs) (plains_of p fs ws) (plains_shape p fs ws)) (run_entries_of_kind_in_payload_at_word OBJECT p w))

  pub plains_shape : (p : List ℕ) (fs : Fields) (ws : List ℕ) → IfSome (plains_of p fs ws) (HaveShapes fs)
  plains_shape p no_fields ws = shapes_none no_fields
  plains_shape p (field name s fs) [] = shapes_none (field name s fs)
  plains_shape p (field name s fs) (w ∷ ws) = fields_more name s fs (plain_of p s w) (plains_of p fs ws) (plain_shape p s w) (plains_shape p fs ws)
