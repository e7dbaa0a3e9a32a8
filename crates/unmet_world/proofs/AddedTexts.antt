-- Texts that are added one after another.
use Rattle.std.proofs.Common.{◌≡◌, ℕ, zero, suc, ◌+◌, ◌<◌, Bool, true, false, List, [], ◌∷◌, ◌++◌, map, take, refl, sym, ap, ◌∙◌, append_assoc, append-nil, arith}
use Rattle.std.specs.Prelude.{Some, None, Result, Ok, Err, OnOk, slice_get, codes, if◌then◌else◌}
use Rattle.std.specs.Result.{is_ok}
use Rattle.std.specs.List.{flat_map}
use Rattle.std.proofs.lemmas.List.{map-append}
use Rattle.search_tables.proofs.candidate_core.Steps.{take_one_more}
use Rattle.dep_core.specs.Dependency.{Dependency}
use Rattle.dep_core.specs.DependencyText.{dep_text}
use Rattle.unmet_world.specs.Refutation.{if_positive}
use Rattle.unmet_world.specs.Lines.{entry_origin_text, joined_texts, with_text_once, with_texts, world_lines, world_lines_of}

pub with_texts-append : (so_far xs ys : List (List ℕ)) → with_texts so_far (xs ++ ys) ≡ with_texts (with_texts so_far xs) ys
with_texts-append so_far [] ys = refl
with_texts-append so_far (x ∷ xs) ys = with_texts-append (with_text_once so_far x) xs ys

pub flat_map-append : {X Y : Type 0} (f : X → List Y) (xs ys : List X) → flat_map f (xs ++ ys) ≡ flat_map f xs ++ flat_map f ys
flat_map-append f [] ys = refl
flat_map-append f (x ∷ xs) ys = ap (λ z. f x ++ z) (flat_map-append f xs ys) ∙ sym (append_assoc (f x) (flat_map f xs) (flat_map f ys))

-- one more element
pub flat_next : {X Y : Type 0} (f : X → List Y) (xs : List X) (i : ℕ) (x : X) → slice_get xs i ≡ Some x → flat_map f (take (i + 1) xs) ≡ flat_map f (take i xs) ++ f x
flat_next f xs i x at =
    ap (flat_map f) (take_one_more xs i x at) ∙ (flat_map-append f (take i xs) (x ∷ []) ∙ ap (λ z. flat_map f (take i xs) ++ z) (append-nil (f x)))

-- the texts of one more element
pub texts_next : {X : Type 0} (f : X → List (List ℕ)) (xs : List X) (i : ℕ) (x : X) (first before after : List (List ℕ)) → slice_get xs i ≡ Some x → before ≡ with_texts first (flat_map f (take i xs)) → after ≡ with_texts before (f x) → after ≡ with_texts first (flat_map f (take (i + 1) xs))
texts_next f xs i x first before after at was is =
    is ∙ (ap (λ z. with_texts z (f x)) was ∙ (sym (with_texts-append first (flat_map f (take i xs)) (f x)) ∙ ap (with_texts first) (sym (flat_next f xs i x at))))

-- the same, by the elements so far
pub texts_step : {X : Type 0} (f : X → List (List ℕ)) (so_far more : List X) (x : X) (first before after : List (List ℕ)) → more ≡ so_far ++ x ∷ [] → before ≡ with_texts first (flat_map f so_far) → after ≡ with_texts before (f x) → after ≡ with_texts first (flat_map f more)
texts_step f so_far more x first before after one was is =
    is ∙ (ap (λ z. with_texts z (f x)) was ∙ (sym (with_texts-append first (flat_map f so_far) (f x)) ∙ ap (with_texts first) (sym (ap (flat_map f) one ∙ (flat_map-append f so_far (x ∷ []) ∙ ap (λ z. flat_map f so_far ++ z) (append-nil (f x)))))))

-- the texts of all elements, behind those of another list
pub texts_of_all : {X : Type 0} (f : X → List (List ℕ)) (xs all : List X) (none others first after : List (List ℕ)) → after ≡ with_texts first (flat_map f xs) → xs ≡ all → first ≡ with_texts none others → none ≡ [] → after ≡ with_texts (with_texts [] others) (flat_map f all)
texts_of_all f xs all none others first after is same front empty =
    is ∙ (ap (λ z. with_texts first (flat_map f z)) same ∙ ap (λ z. with_texts z (flat_map f all)) (front ∙ ap (λ z. with_texts z others) empty))

-- the text of one more element
pub mapped_next : {X : Type 0} (f : X → List ℕ) (xs : List X) (i : ℕ) (x : X) (before after : List (List ℕ)) → slice_get xs i ≡ Some x → before ≡ with_texts [] (map f (take i xs)) → after ≡ with_text_once before (f x) → after ≡ with_texts [] (map f (take (i + 1) xs))
mapped_next f xs i x before after at was is =
    is ∙ (ap (λ z. with_text_once z (f x)) was ∙ (sym (with_texts-append [] (map f (take i xs)) (f x ∷ [])) ∙ ap (with_texts []) (sym (ap (map f) (take_one_more xs i x at) ∙ map-append f (take i xs) (x ∷ [])))))

-- bytes of one more element
pub bytes_next : {X : Type 0} (f : X → List ℕ) (xs : List X) (i : ℕ) (x : X) (first before after : List ℕ) → slice_get xs i ≡ Some x → before ≡ first ++ flat_map f (take i xs) → after ≡ before ++ f x → after ≡ first ++ flat_map f (take (i + 1) xs)
bytes_next f xs i x first before after at was is =
    is ∙ (ap (λ z. z ++ f x) was ∙ (append_assoc first (flat_map f (take i xs)) (f x) ∙ ap (λ z. first ++ z) (sym (flat_next f xs i x at))))

-- ---- texts with commas between them

joined_more : (y : List ℕ) (ys : List (List ℕ)) (x : List ℕ) → joined_texts ((y ∷ ys) ++ x ∷ []) ≡ joined_texts (y ∷ ys) ++ (codes ", " ++ x)
joined_more y [] x = append_assoc y (codes ", ") x
joined_more y (z ∷ zs) x =
    ap (λ (k : List ℕ). (y ++ codes ", ") ++ k) (joined_more z zs x) ∙ sym (append_assoc (y ++ codes ", ") (joined_texts (z ∷ zs)) (codes ", " ++ x))

-- the first text
pub joined_first : (texts : List (List ℕ)) (i : ℕ) (x first before after : List ℕ) → slice_get texts i ≡ Some x → i ≡ 0 → before ≡ first ++ joined_texts (take i texts) → after ≡ before ++ x → after ≡ first ++ joined_texts (take (i + 1) texts)
joined_first texts zero x first before after at none was is =
    is ∙ (ap (λ (k : List ℕ). k ++ x) (was ∙ append-nil first) ∙ ap (λ (k : List (List ℕ)). first ++ joined_texts k) (sym (take_one_more texts zero x at)))
joined_first texts (suc i) x first before after at none was is = absurd (cc)

-- a text behind others
pub joined_next : (texts : List (List ℕ)) (i : ℕ) (x first before comma after : List ℕ) → slice_get texts i ≡ Some x → 0 < i → before ≡ first ++ joined_texts (take i texts) → comma ≡ before ++ codes ", " → after ≡ comma ++ x → after ≡ first ++ joined_texts (take (i + 1) texts)
joined_next [] i x first before comma after at some was between is = absurd (cc)
joined_next (y ∷ ys) zero x first before comma after at some was between is = absurd (omega arith)
joined_next (y ∷ ys) (suc i) x first before comma after at some was between is =
    let front : List (List ℕ) = take (suc i) (y ∷ ys) in
    let one : comma ≡ first ++ (joined_texts front ++ codes ", ") = between ∙ (ap (λ (k : List ℕ). k ++ codes ", ") was ∙ append_assoc first (joined_texts front) (codes ", ")) in
    let two : after ≡ first ++ ((joined_texts front ++ codes ", ") ++ x) = is ∙ (ap (λ (k : List ℕ). k ++ x) one ∙ append_assoc first (joined_texts front ++ codes ", ") x) in
    two ∙ (ap (λ (k : List ℕ). first ++ k) (append_assoc (joined_texts front) (codes ", ") x ∙ (sym (joined_more y (take i ys) x) ∙ ap joined_texts (sym (take_one_more (y ∷ ys) (suc i) x at)))))

-- ---- entries of world

-- the line of an entry that is no conflict
pub line_of : (listed : List Dependency) (d : Dependency) (line : List ℕ) → d.conflict ≡ false → line ≡ entry_origin_text listed d ++ codes " needs " ++ dep_text d → world_lines_of listed (if_positive (Some d)) ≡ line ∷ []
line_of listed d line is e = by d.conflict is
  where
    by : (b : Bool) → b ≡ false → world_lines_of listed (if b then None else Some d) ≡ line ∷ []
    by true h = absurd (cc)
    by false h = ap (λ z. z ∷ []) (sym e)

pub no_line_of : (listed : List Dependency) (d : Dependency) → d.conflict ≡ true → world_lines_of listed (if_positive (Some d)) ≡ []
no_line_of listed d is = by d.conflict is
  where
    by : (b : Bool) → b ≡ true → world_lines_of listed (if b then None else Some d) ≡ []
    by true h = refl
    by false h = absurd (cc)

pub entry_next : (listed world : List Dependency) (i : ℕ) (d : Dependency) (before after : List (List ℕ)) → slice_get world i ≡ Some d → before ≡ world_lines listed (take i world) → after ≡ before ++ world_lines_of listed (if_positive (Some d)) → after ≡ world_lines listed (take (i + 1) world)
entry_next listed world i d before after at was is =
    is ∙ (ap (λ z. z ++ world_lines_of listed (if_positive (Some d))) was ∙ sym (flat_next (λ (e : Dependency). world_lines_of listed (if_positive (Some e))) world i d at))

-- three texts that are added in turn, of which the last may fail
pub three_added : {T E : Type 0} (r : Result T E) (t0 t1 t2 t3 a b c : List ℕ) → t1 ≡ t0 ++ a → t2 ≡ t1 ++ b → t3 ≡ (if is_ok r then t2 ++ c else t2) → OnOk r (t3 ≡ t0 ++ ((a ++ b) ++ c))
three_added (Ok x) t0 t1 t2 t3 a b c e1 e2 e3 =
    e3 ∙ (ap (λ z. z ++ c) (e2 ∙ (ap (λ z. z ++ b) e1 ∙ append_assoc t0 a b)) ∙ append_assoc t0 (a ++ b) c)
three_added (Err e) t0 t1 t2 t3 a b c e1 e2 e3 = tt
