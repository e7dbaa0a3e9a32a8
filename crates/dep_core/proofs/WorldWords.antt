-- The world of a text has the dependencies that its words are.
use Rattle.std.proofs.Common.{◌≡◌, ℕ, ◌+◌, ◌<◌, suc, Bool, true, false, not, cond, List, [], ◌∷◌, ◌++◌, length, take, arith, add-one, Option, Some, None, Result, Ok, Err, Ordering, refl, ap, sym, ◌∙◌, subst, append-nil}
use Rattle.std.specs.Prelude.{◌||◌, is_some, is_ok, map}
use Rattle.std.specs.List.{flat_map, list_all}
use Rattle.std.specs.List.Sorted.{IsPermutation}
use Rattle.std.specs.Option.{option_and_then}
use Rattle.std.specs.Result.{result_ok}
use Rattle.std.specs.Ordering.{is_eq, match_ordering}
use Rattle.std.specs.Str.{bytes_eq}
use Rattle.std.specs.Cmp.Lexicographic.{texts_ties, nat_list_eq_equiv}
use Rattle.std.specs.declared.cmp.Ordering.TheVariants.{Less, Equal, Greater}
use Rattle.std.proofs.lemmas.Bool.{and_parts, and_from, or_parts, not-true, not_from_false}
use Rattle.std.proofs.lemmas.List.Sorted.{IsPermutation-refl, IsPermutation-sym, IsPermutation-trans, IsPermutation-cons, IsPermutation-middle, IsPermutation-append_right}
use Rattle.dep_core.specs.Dependency.{Dependency}
use Rattle.dep_core.specs.Reading.{dependency_of}
use Rattle.dep_core.specs.World.{IsWorldSortedByName, has_dependency_named, lines_of, or_bad_line, world_with_dependency_put_in_name_order, world_with_lines, world_with_new_dependency, world_with_words, words_between_blanks, world_of}
use Rattle.base_core.specs.ByteOrder.{bytes_cmp}
use Rattle.base_core.proofs.Booleans.{or_swap}
use Rattle.dep_core.specs.Entries.{IsFirstBadLineOfWorldText, IsSortedWorldOfTextWithoutRepeatedNames, have_different_names, words_in}
use Rattle.dep_core.proofs.Operators.{some-inj}
use Rattle.dep_core.proofs.ReadOut.{read-out}
use Rattle.dep_core.proofs.Worlds.{IsWorldSortedByName-world_with_dependency_put_in_name_order, cmp-back}

-- ---- lines and words

append-by : (o : Option (List Dependency)) (front back : List (List ℕ)) → ((w : List Dependency) → world_with_words w (front ++ back) ≡ option_and_then (λ m. world_with_words m back) (world_with_words w front)) → option_and_then (λ m. world_with_words m (front ++ back)) o ≡ option_and_then (λ m. world_with_words m back) (option_and_then (λ m. world_with_words m front) o)
append-by None front back h = refl
append-by (Some w) front back h = h w

words-append : (front back : List (List ℕ)) (w : List Dependency) → world_with_words w (front ++ back) ≡ option_and_then (λ m. world_with_words m back) (world_with_words w front)
words-append [] back w = refl
words-append (x ∷ front) back w =
    append-by (option_and_then (world_with_new_dependency w) (dependency_of x)) front back (words-append front back)

line-by : (o : Option (List Dependency)) (k : ℕ) (lines : List (List ℕ)) → ((w : List Dependency) → result_ok (world_with_lines w (k + 1) lines) ≡ world_with_words w (flat_map words_between_blanks lines)) → result_ok (or_bad_line k (λ m. world_with_lines m (k + 1) lines) o) ≡ option_and_then (λ m. world_with_words m (flat_map words_between_blanks lines)) o
line-by None k lines h = refl
line-by (Some w) k lines h = h w

-- the lines are a world where their words are one
lines-words : (lines : List (List ℕ)) (k : ℕ) (w : List Dependency) → result_ok (world_with_lines w k lines) ≡ world_with_words w (flat_map words_between_blanks lines)
lines-words [] k w = refl
lines-words (line ∷ lines) k w =
    line-by (world_with_words w (words_between_blanks line)) k lines (lines-words lines (k + 1))
    ∙ sym (words-append (words_between_blanks line) (flat_map words_between_blanks lines) w)

-- ---- an entry of a new name

not-tied : (d e : Dependency) → bytes_eq e.name d.name ≡ false → bytes_cmp d.name e.name ≡ Equal → false ≡ true
not-tied d e h t = sym h ∙ (texts_ties e.name d.name ∙ ap is_eq (cmp-back d.name e.name Equal t))

no_truth : {A : Type 0} → false ≡ true → A
no_truth h = (cc)

name-by : (d e : Dependency) (rest more : List Dependency) (n : List ℕ) (o : Ordering) → bytes_cmp d.name e.name ≡ o → bytes_eq e.name d.name ≡ false → has_dependency_named n more ≡ (bytes_eq d.name n || has_dependency_named n rest) → has_dependency_named n (match_ordering o (d ∷ (e ∷ rest)) (d ∷ rest) (e ∷ more)) ≡ (bytes_eq d.name n || has_dependency_named n (e ∷ rest))
name-by d e rest more n Less t h m = refl
name-by d e rest more n Equal t h m = no_truth (not-tied d e h t)
name-by d e rest more n Greater t h m = ap (λ b. bytes_eq e.name n || b) m ∙ or_swap (bytes_eq e.name n) (bytes_eq d.name n) (has_dependency_named n rest)

has_dependency_named-world_with_dependency_put_in_name_order : (d : Dependency) (w : List Dependency) (n : List ℕ) → has_dependency_named d.name w ≡ false → has_dependency_named n (world_with_dependency_put_in_name_order d w) ≡ (bytes_eq d.name n || has_dependency_named n w)
has_dependency_named-world_with_dependency_put_in_name_order d [] n h = refl
has_dependency_named-world_with_dependency_put_in_name_order d (e ∷ rest) n h =
    let parts : (bytes_eq e.name d.name ≡ false) × (has_dependency_named d.name rest ≡ false) = or_parts (bytes_eq e.name d.name) (has_dependency_named d.name rest) h in
    name-by d e rest (world_with_dependency_put_in_name_order d rest) n (bytes_cmp d.name e.name) refl parts.0 (has_dependency_named-world_with_dependency_put_in_name_order d rest n parts.1)

moved-by : (d e : Dependency) (rest more : List Dependency) (o : Ordering) → bytes_cmp d.name e.name ≡ o → bytes_eq e.name d.name ≡ false → IsPermutation (d ∷ rest) more → IsPermutation (d ∷ (e ∷ rest)) (match_ordering o (d ∷ (e ∷ rest)) (d ∷ rest) (e ∷ more))
moved-by d e rest more Less t h m = IsPermutation-refl (d ∷ (e ∷ rest))
moved-by d e rest more Equal t h m = no_truth (not-tied d e h t)
moved-by d e rest more Greater t h m =
    IsPermutation-trans (d ∷ (e ∷ rest)) (e ∷ (d ∷ rest)) (e ∷ more) (IsPermutation-sym (e ∷ (d ∷ rest)) (d ∷ (e ∷ rest)) (IsPermutation-middle (e ∷ []) d rest)) (IsPermutation-cons e (d ∷ rest) more m)

moved : (d : Dependency) (w : List Dependency) → has_dependency_named d.name w ≡ false → IsPermutation (d ∷ w) (world_with_dependency_put_in_name_order d w)
moved d [] h = IsPermutation-refl (d ∷ [])
moved d (e ∷ rest) h =
    let parts : (bytes_eq e.name d.name ≡ false) × (has_dependency_named d.name rest ≡ false) = or_parts (bytes_eq e.name d.name) (has_dependency_named d.name rest) h in
    moved-by d e rest (world_with_dependency_put_in_name_order d rest) (bytes_cmp d.name e.name) refl parts.0 (moved d rest parts.1)

-- whether each name is new to a world
abbrev are_new : List Dependency → List Dependency → Bool
are_new w ds = list_all (λ (d : Dependency). not (has_dependency_named d.name w)) ds

new-parts : (d : Dependency) (w ds : List Dependency) → has_dependency_named d.name w ≡ false → are_new (world_with_dependency_put_in_name_order d w) ds ≡ true → (has_dependency_named d.name ds ≡ false) × (are_new w ds ≡ true)
new-parts d w [] h n = (refl, refl)
new-parts d w (e ∷ ds) h n =
    let parts : (not (has_dependency_named e.name (world_with_dependency_put_in_name_order d w)) ≡ true) × (are_new (world_with_dependency_put_in_name_order d w) ds ≡ true) =
    and_parts (not (has_dependency_named e.name (world_with_dependency_put_in_name_order d w))) (are_new (world_with_dependency_put_in_name_order d w) ds) n in
    let both : (bytes_eq d.name e.name ≡ false) × (has_dependency_named e.name w ≡ false) =
    or_parts (bytes_eq d.name e.name) (has_dependency_named e.name w) (sym (has_dependency_named-world_with_dependency_put_in_name_order d w e.name h) ∙ not-true (has_dependency_named e.name (world_with_dependency_put_in_name_order d w)) parts.0) in
    let more : (has_dependency_named d.name ds ≡ false) × (are_new w ds ≡ true) = new-parts d w ds h parts.1 in (
      ap (λ b. b || has_dependency_named d.name ds) (nat_list_eq_equiv.symm e.name d.name ∙ both.0) ∙ more.0,
      and_from (not (has_dependency_named e.name w)) (are_new w ds) (not_from_false (has_dependency_named e.name w) both.1) more.1,
    )

new-joined : (d : Dependency) (w ds : List Dependency) → has_dependency_named d.name w ≡ false → has_dependency_named d.name ds ≡ false → are_new w ds ≡ true → are_new (world_with_dependency_put_in_name_order d w) ds ≡ true
new-joined d w [] h a n = refl
new-joined d w (e ∷ ds) h a n =
    let apart : (bytes_eq e.name d.name ≡ false) × (has_dependency_named d.name ds ≡ false) = or_parts (bytes_eq e.name d.name) (has_dependency_named d.name ds) a in
    let parts : (not (has_dependency_named e.name w) ≡ true) × (are_new w ds ≡ true) = and_parts (not (has_dependency_named e.name w)) (are_new w ds) n in
    let absent : has_dependency_named e.name (world_with_dependency_put_in_name_order d w) ≡ false =
    has_dependency_named-world_with_dependency_put_in_name_order d w e.name h ∙ (ap (λ b. b || has_dependency_named e.name w) (nat_list_eq_equiv.symm d.name e.name ∙ apart.0) ∙ not-true (has_dependency_named e.name w) parts.0) in
    and_from (not (has_dependency_named e.name (world_with_dependency_put_in_name_order d w))) (are_new (world_with_dependency_put_in_name_order d w) ds) (not_from_false (has_dependency_named e.name (world_with_dependency_put_in_name_order d w)) absent) (new-joined d w ds h apart.1 parts.1)

-- ---- what the words are

record AreRead (words : List (List ℕ)) (w v : List Dependency) : Type 0 where
  entries : List Dependency
  read : map dependency_of words ≡ map Some entries
  apart : have_different_names entries ≡ true
  fresh : are_new w entries ≡ true
  same : IsPermutation (entries ++ w) v
  kept : IsWorldSortedByName w → IsWorldSortedByName v

one-more : (x : List ℕ) (words : List (List ℕ)) (d : Dependency) (w v : List Dependency) → dependency_of x ≡ Some d → has_dependency_named d.name w ≡ false → AreRead words (world_with_dependency_put_in_name_order d w) v → AreRead (x ∷ words) w v
one-more x words d w v r h out =
    let parts : (has_dependency_named d.name out.entries ≡ false) × (are_new w out.entries ≡ true) = new-parts d w out.entries h out.fresh in
    record {
      entries = d ∷ out.entries;
      read = (λ i. r i ∷ out.read i);
      apart = and_from (not (has_dependency_named d.name out.entries)) (have_different_names out.entries) (not_from_false (has_dependency_named d.name out.entries) parts.0) out.apart;
      fresh = and_from (not (has_dependency_named d.name w)) (are_new w out.entries) (not_from_false (has_dependency_named d.name w) h) parts.1;
      same = IsPermutation-trans (d ∷ (out.entries ++ w)) (out.entries ++ (d ∷ w)) v (IsPermutation-sym (out.entries ++ (d ∷ w)) (d ∷ (out.entries ++ w)) (IsPermutation-middle out.entries d w)) (IsPermutation-trans (out.entries ++ (d ∷ w)) (out.entries ++ world_with_dependency_put_in_name_order d w) v (IsPermutation-append_right out.entries (d ∷ w) (world_with_dependency_put_in_name_order d w) (moved d w h)) out.same);
      kept = (λ world. out.kept (IsWorldSortedByName-world_with_dependency_put_in_name_order d w (read-out x d r).0 world));
    }

new-by : (x : List ℕ) (words : List (List ℕ)) (d : Dependency) (w v : List Dependency) (b : Bool) → dependency_of x ≡ Some d → has_dependency_named d.name w ≡ b → option_and_then (λ m. world_with_words m words) (cond b None (Some (world_with_dependency_put_in_name_order d w))) ≡ Some v → ((u : List Dependency) → world_with_words u words ≡ Some v → AreRead words u v) → AreRead (x ∷ words) w v
new-by x words d w v true r e h more = (cc)
new-by x words d w v false r e h more = one-more x words d w v r e (more (world_with_dependency_put_in_name_order d w) h)

read-by : (x : List ℕ) (words : List (List ℕ)) (o : Option Dependency) (w v : List Dependency) → dependency_of x ≡ o → option_and_then (λ m. world_with_words m words) (option_and_then (world_with_new_dependency w) o) ≡ Some v → ((u : List Dependency) → world_with_words u words ≡ Some v → AreRead words u v) → AreRead (x ∷ words) w v
read-by x words None w v r h more = (cc)
read-by x words (Some d) w v r h more = new-by x words d w v (has_dependency_named d.name w) r refl h more

words-read : (words : List (List ℕ)) (v w : List Dependency) → world_with_words w words ≡ Some v → AreRead words w v
words-read [] v w h = record {
  entries = [];
  read = refl;
  apart = refl;
  fresh = refl;
  same = (let P : List Dependency → Type 0 = λ u. IsPermutation w u in subst P (some-inj h) (IsPermutation-refl w));
  kept = (λ world. subst IsWorldSortedByName (some-inj h) world);
}
words-read (x ∷ words) v w h = read-by x words (dependency_of x) w v refl h (words-read words v)

words-good : (words : List (List ℕ)) (ds w : List Dependency) → map dependency_of words ≡ map Some ds → have_different_names ds ≡ true → are_new w ds ≡ true → is_some (world_with_words w words) ≡ true
words-good [] ds w r a n = refl
words-good (x ∷ words) [] w r a n = (cc)
words-good (x ∷ words) (d ∷ ds) w r a n =
    let first : dependency_of x ≡ Some d = cc in
    let others : map dependency_of words ≡ map Some ds = cc in
    let apart : (not (has_dependency_named d.name ds) ≡ true) × (have_different_names ds ≡ true) = and_parts (not (has_dependency_named d.name ds)) (have_different_names ds) a in
    let fresh : (not (has_dependency_named d.name w) ≡ true) × (are_new w ds ≡ true) = and_parts (not (has_dependency_named d.name w)) (are_new w ds) n in
    let absent : has_dependency_named d.name w ≡ false = not-true (has_dependency_named d.name w) fresh.0 in
    ap (λ o. is_some (option_and_then (λ m. world_with_words m words) (option_and_then (world_with_new_dependency w) o))) first
    ∙ (ap (λ b. is_some (option_and_then (λ m. world_with_words m words) (cond b None (Some (world_with_dependency_put_in_name_order d w))))) absent
    ∙ words-good words ds (world_with_dependency_put_in_name_order d w) others apart.1 (new-joined d w ds absent (not-true (has_dependency_named d.name ds) apart.0) fresh.1))

-- ---- the whole text

pub world-words : (text : List ℕ) (world : List Dependency) → world_of text ≡ Ok world → IsSortedWorldOfTextWithoutRepeatedNames text world
unfolding world_of
world-words text world h =
    let out : AreRead (words_in text) [] world = words-read (words_in text) world [] (sym (lines-words (lines_of text) 1 []) ∙ ap result_ok h) in
    let P : List Dependency → Type 0 = λ ds. IsPermutation ds world in
    record { entries = out.entries; read = out.read; apart = out.apart; same = subst P (append-nil out.entries) out.same; in_order = out.kept refl }

ok-by : (r : Result (List Dependency) ℕ) → is_some (result_ok r) ≡ true → is_ok r ≡ true
ok-by (Ok w) h = refl
ok-by (Err line) h = (cc)

none_taken : (ds : List Dependency) → are_new [] ds ≡ true
none_taken [] = refl
none_taken (d ∷ ds) = none_taken ds

pub words-world : (text : List ℕ) (ds : List Dependency) → map dependency_of (words_in text) ≡ map Some ds → have_different_names ds ≡ true → is_ok (world_of text) ≡ true
unfolding world_of
words-world text ds r a =
    ok-by (world_with_lines [] 1 (lines_of text)) (ap is_some (lines-words (lines_of text) 1 []) ∙ words-good (words_in text) ds [] r a (none_taken ds))

-- ---- the first bad line

record IsBadAt (w : List Dependency) (k : ℕ) (lines : List (List ℕ)) (line : ℕ) : Type 0 where
  before : ℕ
  number : line ≡ before + k
  within : before < length lines
  good_before : is_ok (world_with_lines w k (take before lines)) ≡ true
  bad_with : is_ok (world_with_lines w k (take (suc before) lines)) ≡ false

bad-by : (w : List Dependency) (k : ℕ) (text : List ℕ) (lines : List (List ℕ)) (line : ℕ) (o : Option (List Dependency)) → world_with_words w (words_between_blanks text) ≡ o → or_bad_line k (λ m. world_with_lines m (k + 1) lines) o ≡ Err line → ((u : List Dependency) → world_with_lines u (k + 1) lines ≡ Err line → IsBadAt u (k + 1) lines line) → IsBadAt w k (text ∷ lines) line
bad-by w k text lines line None e h more = record {
  before = 0;
  number = (let same : k ≡ line = cc in omega arith);
  within = omega arith;
  good_before = refl;
  bad_with = ap (λ o. is_ok (or_bad_line k (λ m. world_with_lines m (k + 1) []) o)) e;
}
bad-by w k text lines line (Some u) e h more =
    let out : IsBadAt u (k + 1) lines line = more u h in
    record {
      before = suc out.before;
      number = omega (arith, out.number);
      within = omega (arith, out.within);
      good_before = ap (λ o. is_ok (or_bad_line k (λ m. world_with_lines m (k + 1) (take out.before lines)) o)) e ∙ out.good_before;
      bad_with = ap (λ o. is_ok (or_bad_line k (λ m. world_with_lines m (k + 1) (take (suc out.before) lines)) o)) e ∙ out.bad_with;
    }

bad-at : (lines : List (List ℕ)) (w : List Dependency) (k line : ℕ) → world_with_lines w k lines ≡ Err line → IsBadAt w k lines line
bad-at [] w k line h = (cc)
bad-at (text ∷ lines) w k line h =
    bad-by w k text lines line (world_with_words w (words_between_blanks text)) refl h (λ u. bad-at lines u (k + 1) line)

pub first-bad_line : (text : List ℕ) (line : ℕ) → world_of text ≡ Err line → IsFirstBadLineOfWorldText text line
unfolding world_of
first-bad_line text line h =
    let out : IsBadAt [] 1 (lines_of text) line = bad-at (lines_of text) [] 1 line h in
    record {
      before = out.before;
      number = out.number;
      within = out.within;
      good_before = out.good_before;
      bad_with = ap (λ n. is_ok (world_with_lines [] 1 (take n (lines_of text)))) (add-one out.before) ∙ out.bad_with;
    }
