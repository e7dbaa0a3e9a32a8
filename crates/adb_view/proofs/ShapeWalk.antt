-- The walk that counts reports the first faulty visit.
use Rattle.std.proofs.Common.{◌≡◌, ℕ, zero, suc, ◌+◌, ◌<◌, Bool, true, false, cond, ltb, List, [], ◌∷◌, ◌++◌, length, Option, Some, None, Result, Ok, Err, refl, sym, ap, subst, ◌∙◌, arith, inl, inr, ◌⊎◌, zero-add, ◌≤◌, lit≤, ◌↔◌}
use Rattle.std.proofs.lemmas.Bool.{ltb-false, le-ltb, and_parts}
use Rattle.std.specs.Prelude.{is_some, is_none, slice_get}
use Rattle.std.specs.Option.{option_or}
use Rattle.std.specs.Result.{result_err}
use Rattle.adb_view.specs.Plain.{Shape, number, text, hash, array, object, Fields, no_fields, field, plain_of, plains_of}
use Rattle.adb_view.specs.Readers.{run_entries_of_kind_in_payload_at_word, ARRAY, OBJECT}
use Rattle.adb_view.specs.Visits.{Visit, or_empty, visits_of_all_words, visits, field_visits, word_fault_under_shape, is_sound_visit, MOST_VALUES}
use Rattle.adb_view.specs.Schema.{shape_of}
use Rattle.adb_view.specs.Values.{is_sound}
use Rattle.adb_view.specs.declared.tables.Kind.{Kind}
use Rattle.adb_view.specs.Walk.{visit_fault, first_fault_of_numbered_visits, shape_fault}
use Rattle.adb_view.specs.CountedWalk.{fields_walk}
use Rattle.adb_view.specs.CountedWalk.{walk}
use Rattle.adb_view.specs.CountedWalk.{walk_each_word}
use Rattle.adb_view.specs.CountedWalk.{walk_visit}
use Rattle.adb_view.specs.CountedWalk.{ok_unless}
use Rattle.base_core.specs.Lists.{and_then}
use Rattle.adb_view.specs.FirstFault.{IsFirstFaultOfVisits}
use Rattle.std.specs.List.{list_all}
use Rattle.base_core.specs.declared.cause.Cause.{Cause}
use Rattle.base_core.proofs.Causes.{both_none, none_of}

-- a plain value is found if each visit is sound: `value_is_found_where_visits_are_sound` says both
abbrev pub WordsFound : Type 0
WordsFound = (p : List ℕ) (s : Shape) (w : ℕ) → is_some (plain_of p s w) ≡ list_all (is_sound_visit p) (visits p s w)

abbrev pub FieldsFound : Type 0
FieldsFound = (p : List ℕ) (fs : Fields) (ws : List ℕ) → is_some (plains_of p fs ws) ≡ list_all (is_sound_visit p) (field_visits p fs ws)

chosen : {A : Type 0} (b : Bool) (x y z : A) → cond b x y ≡ z → ((b ≡ true) × (x ≡ z)) ⊎ ((b ≡ false) × (y ≡ z))
chosen true x y z e = inl (refl, e)
chosen false x y z e = inr (refl, e)

-- going over a list of visits, after n others
abbrev pub counted : List ℕ → ℕ → List Visit → Result ℕ Cause
counted p n [] = Ok n
counted p n (v ∷ vs) = and_then (walk_visit p n v.shape v.word) (λ m. counted p m vs)

bind_assoc : {A B C : Type 0} (r : Result A Cause) (f : A → Result B Cause) (g : B → Result C Cause) → (and_then (and_then r f) g) ≡ (and_then r (λ x. and_then (f x) g))
bind_assoc (Ok x) f g = refl
bind_assoc (Err c) f g = refl

bind_same : {A B : Type 0} (r : Result A Cause) (f g : A → Result B Cause) → ((x : A) → f x ≡ g x) → (and_then r f) ≡ (and_then r g)
bind_same (Ok x) f g h = h x
bind_same (Err c) f g h = refl

counted-append : (p : List ℕ) (n : ℕ) (us vs : List Visit) → counted p n (us ++ vs) ≡ (and_then (counted p n us) (λ m. counted p m vs))
counted-append p n [] vs = refl
counted-append p n (u ∷ us) vs =
    bind_same (walk_visit p n u.shape u.word) _ _ (λ m. counted-append p m us vs) ∙ sym (bind_assoc (walk_visit p n u.shape u.word) (λ m. counted p m us) (λ m. counted p m vs))

bind_ok : {A : Type 0} (r : Result A Cause) → (and_then r (λ x. Ok x)) ≡ r
bind_ok (Ok x) = refl
bind_ok (Err c) = refl

walk_each_word-counted : (p : List ℕ) (f : ℕ → ℕ → Result ℕ Cause) (g : ℕ → List Visit) → ((n w : ℕ) → f n w ≡ counted p n (g w)) → (n : ℕ) (ws : List ℕ) → walk_each_word f n ws ≡ counted p n (visits_of_all_words g ws)
walk_each_word-counted p f g h n [] = refl
walk_each_word-counted p f g h n (w ∷ ws) =
    ap (λ r. and_then r (λ m. walk_each_word f m ws)) (h n w) ∙ bind_same (counted p n (g w)) _ _ (λ m. walk_each_word-counted p f g h m ws) ∙ sym (counted-append p n (g w) (visits_of_all_words g ws))

mutual
  unfolding walk visits

  -- the walk goes over the visits
  pub walk-counted : (p : List ℕ) (s : Shape) (n w : ℕ) → walk p s n w ≡ counted p n (visits p s w)
  walk-counted p number n w = sym (bind_ok (walk_visit p n number w))
  walk-counted p text n w = sym (bind_ok (walk_visit p n text w))
  walk-counted p hash n w = sym (bind_ok (walk_visit p n hash w))
  walk-counted p (array s) n w = bind_same (walk_visit p n (array s) w) _ _ (λ m. walk_each_word-counted p (walk p s) (visits p s) (walk-counted p s) m (or_empty (run_entries_of_kind_in_payload_at_word ARRAY p w)))
  walk-counted p (object which fs) n w = bind_same (walk_visit p n (object which fs) w) _ _ (λ m. fields_walk-counted p fs m (or_empty (run_entries_of_kind_in_payload_at_word OBJECT p w)))

  pub fields_walk-counted : (p : List ℕ) (fs : Fields) (n : ℕ) (ws : List ℕ) → fields_walk p fs n ws ≡ counted p n (field_visits p fs ws)
  fields_walk-counted p no_fields n ws = refl
  fields_walk-counted p (field name s fs) n [] = refl
  fields_walk-counted p (field name s fs) n (w ∷ ws) =
      ap (λ r. and_then r (λ m. fields_walk p fs m ws)) (walk-counted p s n w) ∙ bind_same (counted p n (visits p s w)) _ _ (λ m. fields_walk-counted p fs m ws) ∙ sym (counted-append p n (visits p s w) (field_visits p fs ws))

-- going over them gives the first fault, and else how many there were
result_err-bind : (n : ℕ) (o : Option Cause) (f : ℕ → Result ℕ Cause) → result_err (and_then (ok_unless n o) f) ≡ option_or o (result_err (f n))
result_err-bind n None f = refl
result_err-bind n (Some c) f = refl

counted-fault : (p : List ℕ) (n : ℕ) (vs : List Visit) → result_err (counted p n vs) ≡ first_fault_of_numbered_visits p (n + 1) vs
counted-fault p n [] = refl
counted-fault p n (v ∷ vs) =
    result_err-bind (n + 1) (visit_fault p (n + 1) v) (λ m. counted p m vs) ∙ ap (option_or (visit_fault p (n + 1) v)) (counted-fault p (n + 1) vs)

pub walk-fault : (p : List ℕ) (s : Shape) (w : ℕ) → result_err (walk p s 0 w) ≡ shape_fault p s w
walk-fault p s w = ap result_err (walk-counted p s 0 w) ∙ counted-fault p 0 (visits p s w)

-- ---- in the subject's words: the first visit that is faulty

option_or_cases : (a b : Option Cause) (c : Cause) → option_or a b ≡ Some c → (a ≡ Some c) ⊎ ((a ≡ None) × (b ≡ Some c))
option_or_cases None b c e = inr (refl, e)
option_or_cases (Some d) b c e = inl e

some_cause : Option Cause → Type 0
some_cause o = (c : Cause) × (o ≡ Some c)

-- the same with the first visit's number
pub record FirstFaultFrom (p : List ℕ) (n : ℕ) (vs : List Visit) (c : Cause) : Type 0 where
  pub i : ℕ
  pub v : Visit
  pub at : slice_get vs i ≡ Some v
  pub fault : visit_fault p (i + n) v ≡ Some c
  pub before : (j : ℕ) (u : Visit) → j < i → slice_get vs j ≡ Some u → visit_fault p (j + n) u ≡ None

first_is : (p : List ℕ) (n : ℕ) (vs : List Visit) (c : Cause) → first_fault_of_numbered_visits p n vs ≡ Some c → FirstFaultFrom p n vs c
first_is p n [] c e = absurd cc
first_is p n (v ∷ vs) c e =
    elim (option_or_cases (visit_fault p n v) (first_fault_of_numbered_visits p (n + 1) vs) c e) [
      | inl here ↦ record { i = 0; v = v; at = refl; fault = rw zero-add here; before = λ j u lt. absurd (omega arith) }
      | inr later ↦
          let r = first_is p (n + 1) vs c later.1 in
          let same : (j : ℕ) → j + (n + 1) ≡ suc j + n = λ j. omega arith in
          record {
            i = suc r.i;
            v = r.v;
            at = r.at;
            fault = subst (λ (k : ℕ). visit_fault p k r.v ≡ Some c) (same r.i) r.fault;
            before = earlier p n v vs r.i later.0 (λ j u lt g. subst (λ (k : ℕ). visit_fault p k u ≡ None) (same j) (r.before j u lt g));
          }
    ]
  where
    earlier : (p : List ℕ) (n : ℕ) (v : Visit) (vs : List Visit) (i : ℕ) → visit_fault p n v ≡ None → ((j : ℕ) (u : Visit) → j < i → slice_get vs j ≡ Some u → visit_fault p (suc j + n) u ≡ None)
        → (j : ℕ) (u : Visit) → j < suc i → slice_get (v ∷ vs) j ≡ Some u → visit_fault p (j + n) u ≡ None
    earlier p n v vs i here more zero u lt g =
        let same : v ≡ u = cc in
        rw zero-add (subst (λ (x : Visit). visit_fault p n x ≡ None) same here)
    earlier p n v vs i here more (suc j) u lt g = more j u (omega arith) g

pub shape_fault-first : (p : List ℕ) (s : Shape) (w : ℕ) (c : Cause) → shape_fault p s w ≡ Some c → IsFirstFaultOfVisits p (visits p s w) c
shape_fault-first p s w c e =
    let r = first_is p 1 (visits p s w) c e in
    record { i = r.i; v = r.v; at = r.at; fault = r.fault; before = r.before }

-- if no visit has a fault, each was counted
ok_unless-some : (n m : ℕ) (o : Option Cause) → ok_unless n o ≡ Ok m → (o ≡ None) × (n ≡ m)
ok_unless-some n m None e = (refl, cc)
ok_unless-some n m (Some c) e = absurd cc

pub bind_is_ok : {A B : Type 0} (r : Result A Cause) (f : A → Result B Cause) (y : B) → (and_then r f) ≡ Ok y → (x : A) × (r ≡ Ok x) × (f x ≡ Ok y)
bind_is_ok (Ok x) f y e = (x, refl, e)
bind_is_ok (Err c) f y e = absurd cc

counted-length : (p : List ℕ) (n m : ℕ) (vs : List Visit) → counted p n vs ≡ Ok m → n + length vs ≡ m
counted-length p n m [] e = let same : n ≡ m = cc in omega arith
counted-length p n m (v ∷ vs) e =
    let b = bind_is_ok (walk_visit p n v.shape v.word) (λ k. counted p k vs) m e in
    let one = ok_unless-some (n + 1) b.0 _ b.1 in
    let more = counted-length p b.0 m vs b.2 in
    let count = one.1 in
    omega arith

pub walk-count : (p : List ℕ) (s : Shape) (n m w : ℕ) → walk p s n w ≡ Ok m → n + length (visits p s w) ≡ m
walk-count p s n m w e = counted-length p n m (visits p s w) (sym (walk-counted p s n w) ∙ e)

-- and then each visit's reader succeeds, so the plain value is found
fault_free : (p : List ℕ) (n : ℕ) (v : Visit) → visit_fault p n v ≡ None → is_none (word_fault_under_shape p v.shape v.word) ≡ true
fault_free p n v e =
    elim (chosen (ltb MOST_VALUES n) _ _ _ e) [ inl x ↦ absurd (let y = x.1 in cc) | inr x ↦ rw x.1 refl ]

counted-sound : (p : List ℕ) (n m : ℕ) (vs : List Visit) → counted p n vs ≡ Ok m → list_all (is_sound_visit p) vs ≡ true
counted-sound p n m [] e = refl
counted-sound p n m (v ∷ vs) e =
    let b = bind_is_ok (walk_visit p n v.shape v.word) (λ k. counted p k vs) m e in
    let one = ok_unless-some (n + 1) b.0 _ b.1 in
    rw (fault_free p (n + 1) v one.0, counted-sound p b.0 m vs b.2) refl

pub walk-found : WordsFound → (p : List ℕ) (s : Shape) (n m w : ℕ) → walk p s n w ≡ Ok m → is_some (plain_of p s w) ≡ true
walk-found found p s n m w e = found p s w ∙ counted-sound p n m (visits p s w) (sym (walk-counted p s n w) ∙ e)

-- ---- the same as the code meets them

pub walk_refused : (p : List ℕ) (s : Shape) (w : ℕ) (c : Cause) → walk p s 0 w ≡ Err c → Some c ≡ shape_fault p s w
walk_refused p s w c e = sym (ap result_err e) ∙ walk-fault p s w

pub walk_passed : (p : List ℕ) (s : Shape) (w n : ℕ) → walk p s 0 w ≡ Ok n → None ≡ shape_fault p s w
walk_passed p s w n e = sym (ap result_err e) ∙ walk-fault p s w

pub walk_sound : WordsFound → (p : List ℕ) (k : Kind) (w n : ℕ) → walk p (shape_of k) 0 w ≡ Ok n → is_sound p k w ≡ true
unfolding is_sound
walk_sound found p k w n e = walk-found found p (shape_of k) 0 n w e

-- ---- laws

at_start : (p : List ℕ) (n : ℕ) (v : Visit) (c : Cause) → visit_fault p (0 + n) v ≡ Some c → visit_fault p n v ≡ Some c
at_start p n v c e = subst (λ (k : ℕ). visit_fault p k v ≡ Some c) (omega arith) e

none_at_start : (p : List ℕ) (n : ℕ) (v : Visit) → visit_fault p (0 + n) v ≡ None → visit_fault p n v ≡ None
none_at_start p n v e = subst (λ (k : ℕ). visit_fault p k v ≡ None) (omega arith) e

first_back : (p : List ℕ) (n : ℕ) (vs : List Visit) (c : Cause) (i : ℕ) (v : Visit) → slice_get vs i ≡ Some v → visit_fault p (i + n) v ≡ Some c
    → ((j : ℕ) (u : Visit) → j < i → slice_get vs j ≡ Some u → visit_fault p (j + n) u ≡ None) → first_fault_of_numbered_visits p n vs ≡ Some c
first_back p n [] c i v at fault before = absurd cc
first_back p n (u ∷ us) c zero v at fault before =
    let same : v ≡ u = cc in
    let here : visit_fault p n u ≡ Some c = subst (λ (x : Visit). visit_fault p n x ≡ Some c) same (at_start p n v c fault) in
    rw here refl
first_back p n (u ∷ us) c (suc i) v at fault before =
    let moved : (j : ℕ) → suc j + n ≡ j + (n + 1) = λ j. omega arith in
    let here : visit_fault p n u ≡ None = none_at_start p n u (before 0 u (omega arith) refl) in
    let later = first_back p (n + 1) us c i v at (subst (λ (k : ℕ). visit_fault p k v ≡ Some c) (moved i) fault) (λ j x lt g. subst (λ (k : ℕ). visit_fault p k x ≡ None) (moved j) (before (suc j) x (omega arith) g)) in
    rw here later

pub reported : (p : List ℕ) (s : Shape) (w : ℕ) (c : Cause) → (shape_fault p s w ≡ Some c) ↔ IsFirstFaultOfVisits p (visits p s w) c
reported p s w c = (shape_fault-first p s w c, λ first. first_back p 1 (visits p s w) c first.i first.v first.at first.fault first.before)

visit_counted : (p : List ℕ) (n : ℕ) (v : Visit) → visit_fault p n v ≡ None → n ≤ MOST_VALUES
visit_counted p n v e =
    elim (chosen (ltb MOST_VALUES n) _ _ _ e) [ inl x ↦ absurd (let y = x.1 in cc) | inr x ↦ ltb-false _ _ x.0 ]

none_few : (p : List ℕ) (n : ℕ) (vs : List Visit) → first_fault_of_numbered_visits p n vs ≡ None → n ≤ MOST_VALUES + 1 → n + length vs ≤ MOST_VALUES + 1
none_few p n [] e le = omega arith
none_few p n (v ∷ vs) e le =
    let (here, later) = both_none _ _ e in
    let few = visit_counted p n v here in
    let more = none_few p (n + 1) vs later (omega arith) in
    omega arith

none_sound : (p : List ℕ) (n : ℕ) (vs : List Visit) → first_fault_of_numbered_visits p n vs ≡ None → list_all (is_sound_visit p) vs ≡ true
none_sound p n [] e = refl
none_sound p n (v ∷ vs) e =
    let (here, later) = both_none _ _ e in
    rw (fault_free p n v here, none_sound p (n + 1) vs later) refl

few_none : (p : List ℕ) (n : ℕ) (vs : List Visit) → list_all (is_sound_visit p) vs ≡ true → n + length vs ≤ MOST_VALUES + 1 → first_fault_of_numbered_visits p n vs ≡ None
few_none p n [] e le = refl
few_none p n (v ∷ vs) e le =
    let parts = and_parts (is_sound_visit p v) (list_all (is_sound_visit p) vs) e in
    let t : ltb MOST_VALUES n ≡ false = le-ltb _ _ (omega (arith, le)) in
    let none_here = none_of (word_fault_under_shape p v.shape v.word) parts.0 in
    rw (t, none_here) (few_none p (n + 1) vs parts.1 (omega (arith, le)))

pub none_reported : WordsFound → (p : List ℕ) (s : Shape) (w : ℕ) → (shape_fault p s w ≡ None) ↔ ((is_some (plain_of p s w) ≡ true) × (length (visits p s w) ≤ MOST_VALUES))
none_reported found p s w = (
  λ e. let few = none_few p 1 (visits p s w) e (lit≤ tt) in (found p s w ∙ none_sound p 1 (visits p s w) e, omega arith),
  λ h. let (some, few) = h in few_none p 1 (visits p s w) (sym (found p s w) ∙ some) (omega arith),
)

-- the same of an object's entries

pub fields_fault : (p : List ℕ) (fs : Fields) (n : ℕ) (ws : List ℕ) → result_err (fields_walk p fs n ws) ≡ first_fault_of_numbered_visits p (n + 1) (field_visits p fs ws)
fields_fault p fs n ws = ap result_err (fields_walk-counted p fs n ws) ∙ counted-fault p n (field_visits p fs ws)

pub fields_counted : (p : List ℕ) (fs : Fields) (n m : ℕ) (ws : List ℕ) → fields_walk p fs n ws ≡ Ok m → m ≡ n + length (field_visits p fs ws)
fields_counted p fs n m ws e = sym (counted-length p n m (field_visits p fs ws) (sym (fields_walk-counted p fs n ws) ∙ e))

pub fields_found : FieldsFound → (p : List ℕ) (fs : Fields) (n m : ℕ) (ws : List ℕ) → fields_walk p fs n ws ≡ Ok m → is_some (plains_of p fs ws) ≡ true
fields_found found p fs n m ws e = found p fs ws ∙ counted-sound p n m (field_visits p fs ws) (sym (fields_walk-counted p fs n ws) ∙ e)

pub walk_few : (p : List ℕ) (s : Shape) (w n : ℕ) → walk p s 0 w ≡ Ok n → is_none (shape_fault p s w) ≡ true
walk_few p s w n e = ap is_none (sym (walk_passed p s w n e))
