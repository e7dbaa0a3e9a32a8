-- Steps of the text walk, as the code makes them.
use Rattle.std.proofs.Common.{◌≡◌, ℕ, zero, suc, ◌+◌, ◌*◌, ◌<◌, ◌≤◌, Bool, true, false, List, [], ◌∷◌, ◌++◌, length, get_or, ◌-◌, drop, Option, Some, None, option_map, refl, sym, ap, subst, ◌∙◌, arith, lit<}
use Rattle.std.specs.Prelude.{is_some, slice_get, if◌then◌else◌, Result, IfOk}
use Rattle.std.specs.Option.{option_or}
use Rattle.std.proofs.lemmas.List.{drop_more, drop_all}
use Rattle.base_core.specs.declared.cause.Cause.{Cause}
use Rattle.base_core.specs.declared.cause.Cause.TheVariants.{BadText}
use Rattle.adb_view.specs.Plain.{Plain, Plains, none, more, plains_if_first_and_rest, plains_of_all_words, plain_of}
use Rattle.adb_view.specs.Schema.{table_number, table, shape_of, shapes_of}
use Rattle.adb_fields.specs.Fields.{IsFieldOf, are_all_sound, values_at, array_at}
use Rattle.adb_view.specs.Values.{is_sound, value_at, entries_in, nth, int_in, text_in}
use Rattle.adb_view.specs.Rank.{rank, rank_of_all}
use Rattle.adb_view.proofs.ValueEntries.{entries_arr}
use Rattle.adb_view.proofs.WalkSteps.{field_rank}
use Rattle.adb_schema.specs.TextWalk.{IsSameWordAsPrevious, bad_text_at}
use Rattle.adb_schema.specs.Texts.{Surroundings, Leaf, number_leaf, text_leaf, keeps_rule, field_number_of_leaf, leaves_of_all_values, leaves, field_leaves, surroundings_of_fields, first_bad_leaf}
use Rattle.adb_view.specs.Shapes.{object_shape, objects_shape, texts_shape, int_shape, text_shape, hash_shape}
use Rattle.adb_view.specs.declared.tables.Which.{Which}
use Rattle.adb_view.specs.declared.tables.Which.TheVariants.{Dep, Acl, PkgInfo, File, Dir, Scripts, Package, Index, Idb, Intent}
use Rattle.adb_view.specs.declared.tables.Kind.{Kind}
use Rattle.adb_view.specs.declared.tables.Kind.TheVariants.{Int, Text, Hash, Obj, TextArr, ObjArr}
use Rattle.adb_view.specs.declared.tables.Field.{Field}

-- ---- the leaves of a value, by its kind

pub int_leaves : (field_place_in_causes : ℕ) (a : Surroundings) (v : Plain) → leaves (shape_of Int) field_place_in_causes a v ≡ number_leaf field_place_in_causes (int_in v) ∷ []
unfolding leaves
int_leaves field_place_in_causes a v = ap (λ s. leaves s field_place_in_causes a v) int_shape

pub text_leaves : (field_place_in_causes : ℕ) (a : Surroundings) (v : Plain) → leaves (shape_of Text) field_place_in_causes a v ≡ text_leaf field_place_in_causes a (text_in v) ∷ []
unfolding leaves
text_leaves field_place_in_causes a v = ap (λ s. leaves s field_place_in_causes a v) text_shape

pub hash_leaves : (field_place_in_causes : ℕ) (a : Surroundings) (v : Plain) → leaves (shape_of Hash) field_place_in_causes a v ≡ text_leaf field_place_in_causes a (text_in v) ∷ []
unfolding leaves
hash_leaves field_place_in_causes a v = ap (λ s. leaves s field_place_in_causes a v) hash_shape

pub texts_leaves : (field_place_in_causes : ℕ) (a : Surroundings) (v : Plain) → leaves (shape_of TextArr) field_place_in_causes a v ≡ leaves_of_all_values (leaves (shape_of Text) field_place_in_causes a) (entries_in v)
unfolding leaves
texts_leaves field_place_in_causes a v = ap (λ s. leaves s field_place_in_causes a v) texts_shape

pub objects_leaves : (which : Which) (field_place_in_causes : ℕ) (a : Surroundings) (v : Plain) → leaves (shape_of (ObjArr which)) field_place_in_causes a v ≡ leaves_of_all_values (leaves (shape_of (Obj which)) field_place_in_causes a) (entries_in v)
unfolding leaves
objects_leaves which field_place_in_causes a v = ap (λ s. leaves s field_place_in_causes a v) (objects_shape which)

pub object_leaves : (which : Which) (field_place_in_causes : ℕ) (a : Surroundings) (v : Plain) → leaves (shape_of (Obj which)) field_place_in_causes a v ≡ field_leaves (shapes_of (table which)) (100 * table_number which + 1) (surroundings_of_fields (table_number which) a v) (entries_in v)
unfolding leaves
object_leaves which field_place_in_causes a v = ap (λ s. leaves s field_place_in_causes a v) (object_shape which)

-- ---- the first bad leaf of two lists

pub first_bad_leaf-append : (xs ys : List Leaf) → first_bad_leaf (xs ++ ys) ≡ option_or (first_bad_leaf xs) (first_bad_leaf ys)
first_bad_leaf-append [] ys = refl
first_bad_leaf-append (x ∷ xs) ys = go (keeps_rule x) (first_bad_leaf-append xs ys)
  where
    go : (b : Bool) → first_bad_leaf (xs ++ ys) ≡ option_or (first_bad_leaf xs) (first_bad_leaf ys)
        → (if b then first_bad_leaf (xs ++ ys) else Some (BadText (field_number_of_leaf x))) ≡ option_or (if b then first_bad_leaf xs else Some (BadText (field_number_of_leaf x))) (first_bad_leaf ys)
    go true h = h
    go false h = refl

pub behind_good : (xs ys : List Leaf) → first_bad_leaf xs ≡ None → first_bad_leaf (xs ++ ys) ≡ first_bad_leaf ys
behind_good xs ys e = first_bad_leaf-append xs ys ∙ ap (λ o. option_or o (first_bad_leaf ys)) e

after_bad : (xs ys : List Leaf) (c : Cause) → first_bad_leaf xs ≡ Some c → first_bad_leaf (xs ++ ys) ≡ Some c
after_bad xs ys c e = first_bad_leaf-append xs ys ∙ ap (λ o. option_or o (first_bad_leaf ys)) e

-- ---- the entries of an array

some_is : {A : Type 0} (o : Option A) → is_some o ≡ true → (x : A) × (o ≡ Some x)
some_is (Some x) e = (x, refl)
some_is None e = absurd cc

-- ---- over the entries

pub record OneMore (p : List ℕ) (k : Kind) (w : ℕ) (ws : List ℕ) : Type 0 where
  pub first : is_sound p k w ≡ true
  pub others : are_all_sound p k ws ≡ true
  pub values : values_at p k (w ∷ ws) ≡ more (value_at p k w) (values_at p k ws)

one_more : (p : List ℕ) (k : Kind) (w : ℕ) (ws : List ℕ) (v : Plain) (us : Plains) → plain_of p (shape_of k) w ≡ Some v → plains_of_all_words (plain_of p (shape_of k)) ws ≡ Some us → OneMore p k w ws
unfolding are_all_sound values_at is_sound value_at
one_more p k w ws v us first behind = record { first = rw first refl; others = rw behind refl; values = rw (first, behind) refl }

both : (o : Option Plain) (os : Option Plains) → is_some (plains_if_first_and_rest o os) ≡ true → ((v : Plain) × (o ≡ Some v)) × ((us : Plains) × (os ≡ Some us))
both (Some v) (Some us) e = ((v, refl), (us, refl))
both (Some v) None e = absurd cc
both None os e = absurd cc

pub are_sound-cons : (p : List ℕ) (k : Kind) (w : ℕ) (ws : List ℕ) → are_all_sound p k (w ∷ ws) ≡ true → OneMore p k w ws
unfolding are_all_sound
are_sound-cons p k w ws h =
    let (one, others) = both (plain_of p (shape_of k) w) (plains_of_all_words (plain_of p (shape_of k)) ws) h in
    one_more p k w ws one.0 others.0 one.1 others.1

-- what is left at i
pub at_entry : (p : List ℕ) (k : Kind) (ws : List ℕ) (i : ℕ) → i < length ws → are_all_sound p k (drop i ws) ≡ true → OneMore p k (get_or ws i 0) (drop (i + 1) ws)
at_entry p k ws i lt h = are_sound-cons p k (get_or ws i 0) (drop (i + 1) ws) (ap (are_all_sound p k) (sym (drop_more ws i 0 lt)) ∙ h)

values_here : (p : List ℕ) (k : Kind) (ws : List ℕ) (i : ℕ) → i < length ws → are_all_sound p k (drop i ws) ≡ true → values_at p k (drop i ws) ≡ more (value_at p k (get_or ws i 0)) (values_at p k (drop (i + 1) ws))
values_here p k ws i lt h = let r = at_entry p k ws i lt h in ap (values_at p k) (drop_more ws i 0 lt) ∙ r.values

pub entries_more : (p : List ℕ) (k : Kind) (f : Plain → List Leaf) (ws : List ℕ) (i : ℕ) → i < length ws → are_all_sound p k (drop i ws) ≡ true → first_bad_leaf (f (value_at p k (get_or ws i 0))) ≡ None
    → first_bad_leaf (leaves_of_all_values f (values_at p k (drop i ws))) ≡ first_bad_leaf (leaves_of_all_values f (values_at p k (drop (i + 1) ws)))
entries_more p k f ws i lt h good =
    ap (λ vs. first_bad_leaf (leaves_of_all_values f vs)) (values_here p k ws i lt h) ∙ behind_good (f (value_at p k (get_or ws i 0))) (leaves_of_all_values f (values_at p k (drop (i + 1) ws))) good

pub entries_stop : (p : List ℕ) (k : Kind) (f : Plain → List Leaf) (ws : List ℕ) (i : ℕ) (c : Cause) → i < length ws → are_all_sound p k (drop i ws) ≡ true → first_bad_leaf (f (value_at p k (get_or ws i 0))) ≡ Some c
    → first_bad_leaf (leaves_of_all_values f (values_at p k (drop i ws))) ≡ Some c
entries_stop p k f ws i c lt h bad =
    ap (λ vs. first_bad_leaf (leaves_of_all_values f vs)) (values_here p k ws i lt h) ∙ after_bad (f (value_at p k (get_or ws i 0))) (leaves_of_all_values f (values_at p k (drop (i + 1) ws))) c bad

pub entries_end : (p : List ℕ) (k : Kind) (f : Plain → List Leaf) (ws : List ℕ) (i : ℕ) → length ws ≤ i → first_bad_leaf (leaves_of_all_values f (values_at p k (drop i ws))) ≡ None
unfolding values_at
entries_end p k f ws i le = rw (drop_all i ws le) refl

-- ---- over the fields

unfoldable pub behind : ℕ → Plains → Plains
behind zero vs = vs
behind (suc i) none = none
behind (suc i) (more v vs) = behind i vs

pub behind-zero : (vs : Plains) → behind 0 vs ≡ vs
unfolding behind
behind-zero vs = refl

pub nth-behind : (i : ℕ) (vs : Plains) → nth (behind i vs) 0 ≡ nth vs i
unfolding behind
nth-behind zero none = refl
nth-behind zero (more v vs) = refl
nth-behind (suc i) none = refl
nth-behind (suc i) (more v vs) = nth-behind i vs

pub behind-behind : (i : ℕ) (vs : Plains) → behind 1 (behind i vs) ≡ behind (suc i) vs
unfolding behind
behind-behind zero vs = refl
behind-behind (suc i) none = refl
behind-behind (suc i) (more v vs) = behind-behind i vs

pub one_field : (f : Field) (fs : List Field) (field_place_in_causes : ℕ) (a : Surroundings) (vs : Plains)
    → field_leaves (shapes_of (f ∷ fs)) field_place_in_causes a vs ≡ leaves (shape_of f.kind) field_place_in_causes a (nth vs 0) ++ field_leaves (shapes_of fs) (field_place_in_causes + 1) a (behind 1 vs)
unfolding field_leaves behind
one_field f fs field_place_in_causes a none = refl
one_field f fs field_place_in_causes a (more v vs) = refl

field_here : (fs : List Field) (field_place_in_causes : ℕ) (a : Surroundings) (vs : Plains) (i : ℕ) (d : Field) → i < length fs
    → field_leaves (shapes_of (drop i fs)) field_place_in_causes a (behind i vs) ≡ leaves (shape_of (get_or fs i d).kind) field_place_in_causes a (nth vs i) ++ field_leaves (shapes_of (drop (i + 1) fs)) (field_place_in_causes + 1) a (behind (i + 1) vs)
field_here fs field_place_in_causes a vs i d lt =
    ap (λ gs. field_leaves (shapes_of gs) field_place_in_causes a (behind i vs)) (drop_more fs i d lt)
    ∙ one_field (get_or fs i d) (drop (i + 1) fs) field_place_in_causes a (behind i vs)
    ∙ ap (λ v. leaves (shape_of (get_or fs i d).kind) field_place_in_causes a v ++ field_leaves (shapes_of (drop (i + 1) fs)) (field_place_in_causes + 1) a (behind 1 (behind i vs))) (nth-behind i vs)
    ∙ ap (λ us. leaves (shape_of (get_or fs i d).kind) field_place_in_causes a (nth vs i) ++ field_leaves (shapes_of (drop (i + 1) fs)) (field_place_in_causes + 1) a us) (behind-behind i vs ∙ ap (λ (j : ℕ). behind j vs) (omega arith))

pub fields_more : (fs : List Field) (field_place_in_causes : ℕ) (a : Surroundings) (vs : Plains) (i : ℕ) (d : Field) → i < length fs → first_bad_leaf (leaves (shape_of (get_or fs i d).kind) field_place_in_causes a (nth vs i)) ≡ None
    → first_bad_leaf (field_leaves (shapes_of (drop i fs)) field_place_in_causes a (behind i vs)) ≡ first_bad_leaf (field_leaves (shapes_of (drop (i + 1) fs)) (field_place_in_causes + 1) a (behind (i + 1) vs))
fields_more fs field_place_in_causes a vs i d lt good =
    ap first_bad_leaf (field_here fs field_place_in_causes a vs i d lt) ∙ behind_good (leaves (shape_of (get_or fs i d).kind) field_place_in_causes a (nth vs i)) (field_leaves (shapes_of (drop (i + 1) fs)) (field_place_in_causes + 1) a (behind (i + 1) vs)) good

pub fields_stop : (fs : List Field) (field_place_in_causes : ℕ) (a : Surroundings) (vs : Plains) (i : ℕ) (d : Field) (c : Cause) → i < length fs → first_bad_leaf (leaves (shape_of (get_or fs i d).kind) field_place_in_causes a (nth vs i)) ≡ Some c
    → first_bad_leaf (field_leaves (shapes_of (drop i fs)) field_place_in_causes a (behind i vs)) ≡ Some c
fields_stop fs field_place_in_causes a vs i d c lt bad =
    ap first_bad_leaf (field_here fs field_place_in_causes a vs i d lt) ∙ after_bad (leaves (shape_of (get_or fs i d).kind) field_place_in_causes a (nth vs i)) (field_leaves (shapes_of (drop (i + 1) fs)) (field_place_in_causes + 1) a (behind (i + 1) vs)) c bad

pub fields_end : (fs : List Field) (field_place_in_causes : ℕ) (a : Surroundings) (vs : Plains) (i : ℕ) → length fs ≤ i → first_bad_leaf (field_leaves (shapes_of (drop i fs)) field_place_in_causes a vs) ≡ None
unfolding field_leaves
fields_end fs field_place_in_causes a vs i le = rw (drop_all i fs le) refl

-- the kind of the field at i
pub kind_here : (fs : List Field) (i : ℕ) (d : Field) → i < length fs → option_map (λ f. f.kind) (slice_get fs i) ≡ Some (get_or fs i d).kind
kind_here [] i d lt = absurd (omega arith)
kind_here (f ∷ fs) zero d lt = refl
kind_here (f ∷ fs) (suc i) d lt = kind_here fs i d (omega arith)

pub table_small : (w : Which) → length (table w) < 23
table_small Dep = lit< tt
table_small Acl = lit< tt
table_small PkgInfo = lit< tt
table_small File = lit< tt
table_small Dir = lit< tt
table_small Scripts = lit< tt
table_small Package = lit< tt
table_small Index = lit< tt
table_small Idb = lit< tt
table_small Intent = lit< tt

-- ---- the same of the words that the code reads

pub entry_sound : (p : List ℕ) (k : Kind) (ws : List ℕ) (i word : ℕ) → i < length ws → are_all_sound p k (drop i ws) ≡ true → word ≡ get_or ws i 0 → is_sound p k word ≡ true
entry_sound p k ws i word lt h e = let r = at_entry p k ws i lt h in ap (is_sound p k) e ∙ r.first

pub others_sound : (p : List ℕ) (k : Kind) (ws : List ℕ) (i : ℕ) → i < length ws → are_all_sound p k (drop i ws) ≡ true → are_all_sound p k (drop (i + 1) ws) ≡ true
others_sound p k ws i lt h = let r = at_entry p k ws i lt h in r.others

pub entry_good : (p : List ℕ) (k : Kind) (f : Plain → List Leaf) (ws : List ℕ) (i word : ℕ) → i < length ws → are_all_sound p k (drop i ws) ≡ true → word ≡ get_or ws i 0 → None ≡ first_bad_leaf (f (value_at p k word))
    → first_bad_leaf (leaves_of_all_values f (values_at p k (drop i ws))) ≡ first_bad_leaf (leaves_of_all_values f (values_at p k (drop (i + 1) ws)))
entry_good p k f ws i word lt h e good = entries_more p k f ws i lt h (ap (λ (w : ℕ). first_bad_leaf (f (value_at p k w))) (sym e) ∙ sym good)

pub entry_bad : (p : List ℕ) (k : Kind) (f : Plain → List Leaf) (ws : List ℕ) (i word : ℕ) (c : Cause) → i < length ws → are_all_sound p k (drop i ws) ≡ true → word ≡ get_or ws i 0 → Some c ≡ first_bad_leaf (f (value_at p k word))
    → first_bad_leaf (leaves_of_all_values f (values_at p k (drop i ws))) ≡ Some c
entry_bad p k f ws i word c lt h e bad = entries_stop p k f ws i c lt h (ap (λ (w : ℕ). first_bad_leaf (f (value_at p k w))) (sym e) ∙ sym bad)

-- ---- entries that are the same word as the one before

pub before_good : (bad : ℕ → Option Cause) (ws : List ℕ) (i : ℕ) → IsSameWordAsPrevious ws i → ((j : ℕ) → i ≡ suc j → None ≡ bad (get_or ws j 0)) → None ≡ bad (get_or ws i 0)
before_good bad ws zero same before = let behind = same.behind in absurd (omega arith)
before_good bad ws (suc j) same before =
    let one : suc j - 1 ≡ j = omega arith in
    before j refl ∙ ap (λ (k : ℕ). bad (get_or ws k 0)) (sym one) ∙ ap bad (sym same.same)

pub after_good : (bad : ℕ → Option Cause) (ws : List ℕ) (i word : ℕ) → word ≡ get_or ws i 0 → None ≡ bad word → (j : ℕ) → i + 1 ≡ suc j → None ≡ bad (get_or ws j 0)
after_good bad ws i word e good j next =
    let here : i ≡ j = omega arith in
    good ∙ ap bad e ∙ ap (λ (k : ℕ). bad (get_or ws k 0)) here

-- ---- fields

pub field_sound : (p : List ℕ) (which : Which) (w i word : ℕ) (d : Field) → i < length (table which) → IsFieldOf p which w i word → is_sound p (get_or (table which) i d).kind word ≡ true
field_sound p which w i word d lt is = (is (get_or (table which) i d).kind (kind_here (table which) i d lt)).0

field_value : (p : List ℕ) (which : Which) (w i word : ℕ) (d : Field) → i < length (table which) → IsFieldOf p which w i word → value_at p (get_or (table which) i d).kind word ≡ nth (entries_in (value_at p (Obj which) w)) i
field_value p which w i word d lt is = (is (get_or (table which) i d).kind (kind_here (table which) i d lt)).1

pub field_good : (p : List ℕ) (which : Which) (w i word : ℕ) (d : Field) (field_place_in_causes : ℕ) (a : Surroundings) → i < length (table which) → IsFieldOf p which w i word
    → None ≡ first_bad_leaf (leaves (shape_of (get_or (table which) i d).kind) field_place_in_causes a (value_at p (get_or (table which) i d).kind word))
    → first_bad_leaf (field_leaves (shapes_of (drop i (table which))) field_place_in_causes a (behind i (entries_in (value_at p (Obj which) w)))) ≡ first_bad_leaf (field_leaves (shapes_of (drop (i + 1) (table which))) (field_place_in_causes + 1) a (behind (i + 1) (entries_in (value_at p (Obj which) w))))
field_good p which w i word d field_place_in_causes a lt is good =
    fields_more (table which) field_place_in_causes a (entries_in (value_at p (Obj which) w)) i d lt
    (ap (λ v. first_bad_leaf (leaves (shape_of (get_or (table which) i d).kind) field_place_in_causes a v)) (sym (field_value p which w i word d lt is)) ∙ sym good)

pub field_bad : (p : List ℕ) (which : Which) (w i word : ℕ) (d : Field) (field_place_in_causes : ℕ) (a : Surroundings) (c : Cause) → i < length (table which) → IsFieldOf p which w i word
    → Some c ≡ first_bad_leaf (leaves (shape_of (get_or (table which) i d).kind) field_place_in_causes a (value_at p (get_or (table which) i d).kind word))
    → first_bad_leaf (field_leaves (shapes_of (drop i (table which))) field_place_in_causes a (behind i (entries_in (value_at p (Obj which) w)))) ≡ Some c
field_bad p which w i word d field_place_in_causes a c lt is bad =
    fields_stop (table which) field_place_in_causes a (entries_in (value_at p (Obj which) w)) i d c lt
    (ap (λ v. first_bad_leaf (leaves (shape_of (get_or (table which) i d).kind) field_place_in_causes a v)) (sym (field_value p which w i word d lt is)) ∙ sym bad)

-- the same of a list of fields that is the table's

pub field_sound_of : (p : List ℕ) (which : Which) (w i word : ℕ) (d : Field) (fs : List Field) → fs ≡ table which → i < length fs → IsFieldOf p which w i word → is_sound p (get_or fs i d).kind word ≡ true
field_sound_of p which w i word d fs e lt is =
    subst (λ (gs : List Field). i < length gs → is_sound p (get_or gs i d).kind word ≡ true) (sym e) (λ lt. field_sound p which w i word d lt is) lt

pub field_below : (which : Which) (i : ℕ) (d : Field) (fs : List Field) → fs ≡ table which → i < length fs → rank (get_or fs i d).kind ≤ rank_of_all (table which)
field_below which i d fs e lt =
    subst (λ (gs : List Field). i < length gs → rank (get_or gs i d).kind ≤ rank_of_all (table which)) (sym e) (λ lt. field_rank (table which) i d lt) lt

pub field_good_of : (p : List ℕ) (which : Which) (w i word : ℕ) (d : Field) (field_place_in_causes : ℕ) (a : Surroundings) (fs : List Field) → fs ≡ table which → i < length fs → IsFieldOf p which w i word
    → None ≡ first_bad_leaf (leaves (shape_of (get_or fs i d).kind) field_place_in_causes a (value_at p (get_or fs i d).kind word))
    → first_bad_leaf (field_leaves (shapes_of (drop i (table which))) field_place_in_causes a (behind i (entries_in (value_at p (Obj which) w)))) ≡ first_bad_leaf (field_leaves (shapes_of (drop (i + 1) (table which))) (field_place_in_causes + 1) a (behind (i + 1) (entries_in (value_at p (Obj which) w))))
field_good_of p which w i word d field_place_in_causes a fs e lt is good =
    subst
    (λ (gs : List Field). i < length gs → None ≡ first_bad_leaf (leaves (shape_of (get_or gs i d).kind) field_place_in_causes a (value_at p (get_or gs i d).kind word)) → first_bad_leaf (field_leaves (shapes_of (drop i (table which))) field_place_in_causes a (behind i (entries_in (value_at p (Obj which) w)))) ≡ first_bad_leaf (field_leaves (shapes_of (drop (i + 1) (table which))) (field_place_in_causes + 1) a (behind (i + 1) (entries_in (value_at p (Obj which) w)))))
    (sym e) (λ lt good. field_good p which w i word d field_place_in_causes a lt is good) lt good

pub field_bad_of : (p : List ℕ) (which : Which) (w i word : ℕ) (d : Field) (field_place_in_causes : ℕ) (a : Surroundings) (c : Cause) (fs : List Field) → fs ≡ table which → i < length fs → IsFieldOf p which w i word
    → Some c ≡ first_bad_leaf (leaves (shape_of (get_or fs i d).kind) field_place_in_causes a (value_at p (get_or fs i d).kind word))
    → first_bad_leaf (field_leaves (shapes_of (drop i (table which))) field_place_in_causes a (behind i (entries_in (value_at p (Obj which) w)))) ≡ Some c
field_bad_of p which w i word d field_place_in_causes a c fs e lt is bad =
    subst
    (λ (gs : List Field). i < length gs → Some c ≡ first_bad_leaf (leaves (shape_of (get_or gs i d).kind) field_place_in_causes a (value_at p (get_or gs i d).kind word)) → first_bad_leaf (field_leaves (shapes_of (drop i (table which))) field_place_in_causes a (behind i (entries_in (value_at p (Obj which) w)))) ≡ Some c)
    (sym e) (λ lt bad. field_bad p which w i word d field_place_in_causes a c lt is bad) lt bad

-- ---- a value, by its kind

at_kind : (p : List ℕ) (k j : Kind) (field_place_in_causes : ℕ) (a : Surroundings) (w : ℕ) → k ≡ j → first_bad_leaf (leaves (shape_of j) field_place_in_causes a (value_at p j w)) ≡ first_bad_leaf (leaves (shape_of k) field_place_in_causes a (value_at p k w))
at_kind p k j field_place_in_causes a w e = sym (ap (λ (x : Kind). first_bad_leaf (leaves (shape_of x) field_place_in_causes a (value_at p x w))) e)

-- what is answered, if memory sufficed
along : {E : Type 0} (r : Result (Option ℕ) E) (x y : Option Cause) → x ≡ y → IfOk r (λ o. bad_text_at o ≡ x) → IfOk r (λ o. bad_text_at o ≡ y)
along r x y e h = subst (λ (z : Option Cause). IfOk r (λ o. bad_text_at o ≡ z)) e h

-- a hash is read as a text is
pub hash_is_text : (p : List ℕ) (w : ℕ) → value_at p Hash w ≡ value_at p Text w
unfolding value_at plain_of shape_of
hash_is_text p w = refl

pub int_done : (p : List ℕ) (k : Kind) (field_place_in_causes : ℕ) (a : Surroundings) (w n : ℕ) (o : Option Cause) → k ≡ Int → n ≡ int_in (value_at p Int w) → o ≡ first_bad_leaf (number_leaf field_place_in_causes n ∷ []) → o ≡ first_bad_leaf (leaves (shape_of k) field_place_in_causes a (value_at p k w))
int_done p k field_place_in_causes a w n o is read e =
    e ∙ ap (λ (m : ℕ). first_bad_leaf (number_leaf field_place_in_causes m ∷ [])) read ∙ ap first_bad_leaf (sym (int_leaves field_place_in_causes a (value_at p Int w))) ∙ at_kind p k Int field_place_in_causes a w is

pub text_done : (p : List ℕ) (k : Kind) (field_place_in_causes : ℕ) (a : Surroundings) (w : ℕ) (bs : List ℕ) {E : Type 0} (r : Result (Option ℕ) E) → k ≡ Text → bs ≡ text_in (value_at p Text w) → IfOk r (λ o. bad_text_at o ≡ first_bad_leaf (text_leaf field_place_in_causes a bs ∷ [])) → IfOk r (λ o. bad_text_at o ≡ first_bad_leaf (leaves (shape_of k) field_place_in_causes a (value_at p k w)))
text_done p k field_place_in_causes a w bs r is read e =
    along r _ _ (ap (λ (b : List ℕ). first_bad_leaf (text_leaf field_place_in_causes a b ∷ [])) read ∙ ap first_bad_leaf (sym (text_leaves field_place_in_causes a (value_at p Text w))) ∙ at_kind p k Text field_place_in_causes a w is) e

pub hash_done : (p : List ℕ) (k : Kind) (field_place_in_causes : ℕ) (a : Surroundings) (w : ℕ) (bs : List ℕ) {E : Type 0} (r : Result (Option ℕ) E) → k ≡ Hash → bs ≡ text_in (value_at p Hash w) → IfOk r (λ o. bad_text_at o ≡ first_bad_leaf (text_leaf field_place_in_causes a bs ∷ [])) → IfOk r (λ o. bad_text_at o ≡ first_bad_leaf (leaves (shape_of k) field_place_in_causes a (value_at p k w)))
hash_done p k field_place_in_causes a w bs r is read e =
    along r _ _ (ap (λ (b : List ℕ). first_bad_leaf (text_leaf field_place_in_causes a b ∷ [])) read ∙ ap first_bad_leaf (sym (hash_leaves field_place_in_causes a (value_at p Hash w))) ∙ at_kind p k Hash field_place_in_causes a w is) e

pub texts_done : (p : List ℕ) (k : Kind) (field_place_in_causes : ℕ) (a : Surroundings) (w : ℕ) (ws : List ℕ) {E : Type 0} (r : Result (Option ℕ) E) → k ≡ TextArr → array_at p Text ws ≡ value_at p TextArr w → IfOk r (λ o. bad_text_at o ≡ first_bad_leaf (leaves_of_all_values (leaves (shape_of Text) field_place_in_causes a) (values_at p Text ws)))
    → IfOk r (λ o. bad_text_at o ≡ first_bad_leaf (leaves (shape_of k) field_place_in_causes a (value_at p k w)))
texts_done p k field_place_in_causes a w ws r is read e =
    along r _ _ (ap (λ vs. first_bad_leaf (leaves_of_all_values (leaves (shape_of Text) field_place_in_causes a) vs)) (sym (entries_arr (values_at p Text ws)) ∙ ap entries_in read) ∙ ap first_bad_leaf (sym (texts_leaves field_place_in_causes a (value_at p TextArr w))) ∙ at_kind p k TextArr field_place_in_causes a w is) e

pub objects_done : (p : List ℕ) (k : Kind) (which : Which) (field_place_in_causes : ℕ) (a : Surroundings) (w : ℕ) (ws : List ℕ) {E : Type 0} (r : Result (Option ℕ) E) → k ≡ ObjArr which → array_at p (Obj which) ws ≡ value_at p (ObjArr which) w
    → IfOk r (λ o. bad_text_at o ≡ first_bad_leaf (leaves_of_all_values (leaves (shape_of (Obj which)) field_place_in_causes a) (values_at p (Obj which) ws))) → IfOk r (λ o. bad_text_at o ≡ first_bad_leaf (leaves (shape_of k) field_place_in_causes a (value_at p k w)))
objects_done p k which field_place_in_causes a w ws r is read e =
    along r _ _ (ap (λ vs. first_bad_leaf (leaves_of_all_values (leaves (shape_of (Obj which)) field_place_in_causes a) vs)) (sym (entries_arr (values_at p (Obj which) ws)) ∙ ap entries_in read) ∙ ap first_bad_leaf (sym (objects_leaves which field_place_in_causes a (value_at p (ObjArr which) w))) ∙ at_kind p k (ObjArr which) field_place_in_causes a w is) e

pub object_done : (p : List ℕ) (k : Kind) (which : Which) (field_place_in_causes : ℕ) (a inside : Surroundings) (w : ℕ) {E : Type 0} (r : Result (Option ℕ) E) → k ≡ Obj which → inside ≡ surroundings_of_fields (table_number which) a (value_at p (Obj which) w)
    → IfOk r (λ o. bad_text_at o ≡ first_bad_leaf (field_leaves (shapes_of (table which)) (100 * table_number which + 1) inside (entries_in (value_at p (Obj which) w)))) → IfOk r (λ o. bad_text_at o ≡ first_bad_leaf (leaves (shape_of k) field_place_in_causes a (value_at p k w)))
object_done p k which field_place_in_causes a inside w r is made e =
    along r _ _ (ap (λ (b : Surroundings). first_bad_leaf (field_leaves (shapes_of (table which)) (100 * table_number which + 1) b (entries_in (value_at p (Obj which) w)))) made
    ∙ ap first_bad_leaf (sym (object_leaves which field_place_in_causes a (value_at p (Obj which) w))) ∙ at_kind p k (Obj which) field_place_in_causes a w is) e
