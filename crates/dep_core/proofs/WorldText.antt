-- The text that a world is written as is read as that world.
use Rattle.std.proofs.Common.{◌≡◌, ℕ, ◌+◌, ◌<◌, ◌≤◌, Bool, true, false, cond, List, [], ◌∷◌, ◌++◌, length, get_or, drop, Option, Some, None, Result, Ok, Err, refl, ap, sym, ◌∙◌, arith, subst, append_assoc, append-nil}
use Rattle.std.specs.Prelude.{◌&&◌, ◌||◌, IfOk, is_some, nat_lt, nat_le, unwrap_or}
use Rattle.std.specs.List.{All, filter, list_all}
use Rattle.std.specs.Option.{option_and_then}
use Rattle.std.specs.Ordering.{is_eq, match_ordering}
use Rattle.std.specs.Cmp.Lexicographic.{texts_ties}
use Rattle.std.specs.declared.cmp.Ordering.TheVariants.{Less}
use Rattle.std.proofs.lemmas.Bool.{and_parts}
use Rattle.std.proofs.lemmas.Bool.Decides.{nat_tests}
use Rattle.std.proofs.lemmas.List.{drop_all, drop_more}
use Rattle.std.proofs.lemmas.List.Sums.{AllPass-from_list_all}
use Rattle.std.proofs.lemmas.List.Splits.{slice_split_none, slice_split_at}
use Rattle.version_core.specs.Order.{is_version}
use Rattle.dep_core.specs.Dependency.{Dependency, is_dependency_name_by_bytes_and_length, is_name_byte, is_tag_byte}
use Rattle.dep_core.specs.DependencyText.{IsDependency, dep_text, is_dependency, is_constraint_or_none, is_tag_or_none, constraint_text, conflict_mark_text, operator_text, tag_text}
use Rattle.dep_core.specs.World.{IsWorldSortedByName, has_dependency_named, is_blank, is_in_order, is_line_end, lines_of, or_bad_line, world_with_dependency_put_in_name_order, world_with_lines, world_with_new_dependency, world_with_words, words_between_blanks, world_of, world_text}
use Rattle.base_core.specs.ByteOrder.{bytes_cmp}
use Rattle.base_core.proofs.Orderings.{is_less}
use Rattle.dep_core.proofs.Lines.{is_word}
use Rattle.dep_core.proofs.Operators.{text-visible}
use Rattle.dep_core.proofs.Spelled.{read-written}
use Rattle.dep_core.proofs.Versions.{Versions}
use Rattle.version_core.specs.Grammar.{is_version_byte}
use Rattle.version_core.proofs.VersionBytes.{all-imp, all-append}
use Rattle.dep_core.proofs.Worlds.{is_behind, cmp-back}

-- ---- the bytes of a dependency's text are neither blanks nor line ends

abbrev is_visible : ℕ → Bool
is_visible b = nat_lt 32 b

name_visible : (b : ℕ) → is_name_byte b ≡ true → is_visible b ≡ true
name_visible b h = grind (arith, nat_tests)

tag_visible : (b : ℕ) → is_tag_byte b ≡ true → is_visible b ≡ true
tag_visible b h = grind (arith, nat_tests)

version_visible : (b : ℕ) → is_version_byte b ≡ true → is_visible b ≡ true
version_visible b h = grind (arith, nat_tests)

visible_ends_no_line : (b : ℕ) → is_visible b ≡ true → is_line_end b ≡ false
visible_ends_no_line b h = grind (arith, nat_tests)

visible_is_no_blank : (b : ℕ) → is_visible b ≡ true → is_blank b ≡ false
visible_is_no_blank b h = grind (arith, nat_tests)

mark-visible : (conflict : Bool) → list_all is_visible (conflict_mark_text conflict) ≡ true
mark-visible true = refl
mark-visible false = refl

tag-visible : (tag : Option (List ℕ)) → is_tag_or_none tag ≡ true → list_all is_visible (tag_text tag) ≡ true
tag-visible None h = refl
tag-visible (Some tag) h =
    all-imp is_tag_byte is_visible tag_visible tag (and_parts (nat_lt 0 (length tag)) (list_all is_tag_byte tag) h).1

limit-visible : Versions → (version : Option (List ℕ)) (bits : ℕ) → is_constraint_or_none version bits ≡ true → list_all is_visible (constraint_text version bits) ≡ true
limit-visible spelled None bits g = refl
limit-visible spelled (Some v) bits g =
    let parts : (is_version v ≡ true) × (is_some (operator_text bits) ≡ true) = and_parts (is_version v) (is_some (operator_text bits)) g in
    all-append is_visible (unwrap_or (operator_text bits) []) v (text-visible bits parts.1) (all-imp is_version_byte is_visible version_visible v (spelled.bytes v parts.0))

text-is_visible : Versions → (d : Dependency) → IsDependency d → list_all is_visible (dep_text d) ≡ true
text-is_visible spelled d g =
    let good = and_parts (is_dependency_name_by_bytes_and_length d.name && is_constraint_or_none d.version d.bits) (is_tag_or_none d.tag) g in
    let both = and_parts (is_dependency_name_by_bytes_and_length d.name) (is_constraint_or_none d.version d.bits) good.0 in
    let name = and_parts (nat_lt 0 (length d.name) && nat_le (length d.name) 255) (list_all is_name_byte d.name) both.0 in
    all-append is_visible (conflict_mark_text d.conflict) _ (mark-visible d.conflict) (all-append is_visible d.name _ (all-imp is_name_byte is_visible name_visible d.name name.1) (all-append is_visible (tag_text d.tag) (constraint_text d.version d.bits) (tag-visible d.tag good.1) (limit-visible spelled d.version d.bits both.1)))

some_bytes : (b : ℕ) (rest : List ℕ) → is_word (b ∷ rest) ≡ true
some_bytes b rest = grind (arith, nat_tests)

front-word : (name rest : List ℕ) → is_dependency_name_by_bytes_and_length name ≡ true → is_word (name ++ rest) ≡ true
front-word [] rest h = (cc)
front-word (b ∷ name) rest h = some_bytes b (name ++ rest)

text-word : (conflict : Bool) (name rest : List ℕ) → is_dependency_name_by_bytes_and_length name ≡ true → is_word (conflict_mark_text conflict ++ (name ++ rest)) ≡ true
text-word true name rest h = some_bytes 33 (name ++ rest)
text-word false name rest h = front-word name rest h

-- ---- a line for each entry

no_line_end : (text : List ℕ) → list_all is_visible text ≡ true → All (λ b. is_line_end b ≡ false) text
no_line_end text h = λ k d l. visible_ends_no_line (get_or text k d) (AllPass-from_list_all is_visible text h k d l)

no_blank : (text : List ℕ) → list_all is_visible text ≡ true → All (λ b. is_blank b ≡ false) text
no_blank text h = λ k d l. visible_is_no_blank (get_or text k d) (AllPass-from_list_all is_visible text h k d l)

one-word : (text : List ℕ) → list_all is_visible text ≡ true → is_word text ≡ true → words_between_blanks text ≡ text ∷ []
one-word text v w =
    ap (filter is_word) (slice_split_none is_blank text (no_blank text v)) ∙ ap (λ b. cond b (text ∷ []) []) w

-- ---- the last entry in order

pub behind-at : (P : Dependency → Bool) (w : List Dependency) (d : Dependency) (rest : List Dependency) → list_all P (w ++ (d ∷ rest)) ≡ true → P d ≡ true
behind-at P [] d rest h = (and_parts (P d) (list_all P rest) h).0
behind-at P (e ∷ w) d rest h = behind-at P w d rest (and_parts (P e) (list_all P (w ++ (d ∷ rest))) h).1

last-new : (w : List Dependency) (d : Dependency) (rest : List Dependency) → is_in_order (w ++ (d ∷ rest)) ≡ true → (has_dependency_named d.name w ≡ false) × (world_with_dependency_put_in_name_order d w ≡ w ++ (d ∷ []))
last-new [] d rest h = (refl, refl)
last-new (e ∷ w) d rest h =
    let parts : (list_all (is_behind e.name) (w ++ (d ∷ rest)) ≡ true) × (is_in_order (w ++ (d ∷ rest)) ≡ true) =
    and_parts (list_all (is_behind e.name) (w ++ (d ∷ rest))) (is_in_order (w ++ (d ∷ rest))) h in
    let more : (has_dependency_named d.name w ≡ false) × (world_with_dependency_put_in_name_order d w ≡ w ++ (d ∷ [])) = last-new w d rest parts.1 in
    let before : bytes_cmp e.name d.name ≡ Less = is_less (bytes_cmp e.name d.name) (behind-at (is_behind e.name) w d rest parts.0) in (
      (ap (λ b. b || has_dependency_named d.name w) (texts_ties e.name d.name ∙ ap is_eq before) ∙ more.0),
      (ap (λ o. match_ordering o (d ∷ (e ∷ w)) (d ∷ w) (e ∷ world_with_dependency_put_in_name_order d w)) (cmp-back e.name d.name Less before) ∙ ap (λ ds. e ∷ ds) more.1),
    )

-- ---- the whole text

one-line : Versions → (w : List Dependency) (d : Dependency) (rest : List Dependency) → IsDependency d → is_in_order (w ++ (d ∷ rest)) ≡ true → world_with_words w (words_between_blanks (dep_text d)) ≡ Some (w ++ (d ∷ []))
one-line spelled w d rest g h =
    let good = and_parts (is_dependency_name_by_bytes_and_length d.name && is_constraint_or_none d.version d.bits) (is_tag_or_none d.tag) g in
    let named = (and_parts (is_dependency_name_by_bytes_and_length d.name) (is_constraint_or_none d.version d.bits) good.0).0 in
    let new : (has_dependency_named d.name w ≡ false) × (world_with_dependency_put_in_name_order d w ≡ w ++ (d ∷ [])) = last-new w d rest h in
    ap (world_with_words w) (one-word (dep_text d) (text-is_visible spelled d g) (text-word d.conflict d.name (tag_text d.tag ++ constraint_text d.version d.bits) named))
    ∙ (ap (λ o. option_and_then (λ more. Some more) (option_and_then (world_with_new_dependency w) o)) (read-written spelled d g)
    ∙ (λ i. option_and_then (λ more. Some more) (cond (new.0 i) None (Some (new.1 i)))))

lines-read : Versions → (rest w : List Dependency) (k : ℕ) → list_all is_dependency rest ≡ true → is_in_order (w ++ rest) ≡ true → world_with_lines w k (lines_of (world_text rest)) ≡ Ok (w ++ rest)
lines-read spelled [] w k g h = ap Ok (sym (append-nil w))
lines-read spelled (d ∷ rest) w k g h =
    let parts : (is_dependency d ≡ true) × (list_all is_dependency rest ≡ true) = and_parts (is_dependency d) (list_all is_dependency rest) g in
    let P : List Dependency → Type 0 = λ ds. is_in_order ds ≡ true in
    ap (world_with_lines w k) (slice_split_at is_line_end (dep_text d) 10 (world_text rest) (no_line_end (dep_text d) (text-is_visible spelled d parts.0)) refl)
    ∙ (ap (or_bad_line k (λ more. world_with_lines more (k + 1) (lines_of (world_text rest)))) (one-line spelled w d rest parts.0 h)
    ∙ (lines-read spelled rest (w ++ (d ∷ [])) (k + 1) parts.1 (subst P (sym (append_assoc w (d ∷ []) rest)) h) ∙ ap Ok (append_assoc w (d ∷ []) rest)))

pub text-read_back : Versions → (world : List Dependency) → IsWorldSortedByName world → world_of (world_text world) ≡ Ok world
unfolding world_of
text-read_back spelled world h =
    let parts : (list_all is_dependency world ≡ true) × (is_in_order world ≡ true) = and_parts (list_all is_dependency world) (is_in_order world) h in
    lines-read spelled world [] 1 parts.0 parts.1

-- a line for one more entry is appended
pub text_more : (es : List Dependency) (i : ℕ) (d : Dependency) (x y z : List ℕ) → i < length es → d ≡ get_or es i d → y ≡ x ++ dep_text d → z ≡ y ++ 10 ∷ [] → x ++ world_text (drop i es) ≡ world_text es → z ++ world_text (drop (i + 1) es) ≡ world_text es
text_more es i d x y z lt is line end before =
    let rest : List ℕ = world_text (drop (i + 1) es) in
    let here : d ∷ drop (i + 1) es ≡ drop i es = ap (λ (e : Dependency). e ∷ drop (i + 1) es) is ∙ sym (drop_more es i d lt) in
    ap (λ (t : List ℕ). t ++ rest) (end ∙ ap (λ (t : List ℕ). t ++ 10 ∷ []) line) ∙ append_assoc (x ++ dep_text d) (10 ∷ []) rest ∙ append_assoc x (dep_text d) (10 ∷ rest) ∙ ap (λ (ds : List Dependency). x ++ world_text ds) here ∙ before

-- behind the last entry the text is whole
pub text_whole : (es : List Dependency) (i : ℕ) (x : List ℕ) → length es ≤ i → x ++ world_text (drop i es) ≡ world_text es → x ≡ world_text es
text_whole es i x le before = sym (append-nil x) ∙ ap (λ (ds : List Dependency). x ++ world_text ds) (sym (drop_all i es le)) ∙ before

-- a text made of some bytes is any text that equals them
pub text_made : {E : Type 0} (r : Result (List ℕ) E) (x y : List ℕ) → x ≡ y → IfOk r (λ t. t ≡ x) → IfOk r (λ t. t ≡ y)
text_made (Ok t) x y same is = is ∙ same
text_made (Err e) x y same is = tt
