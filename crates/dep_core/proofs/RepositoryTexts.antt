-- The text of repositories is read as these repositories.
use Rattle.std.proofs.Common.{◌≡◌, ℕ, ◌+◌, ◌-◌, ◌<◌, Bool, true, false, not, cond, eqb, List, [], ◌∷◌, ◌++◌, length, get_or, Option, Some, None, Ok, refl, ap, sym, ◌∙◌, arith, append_assoc}
use Rattle.std.specs.Prelude.{◌&&◌, nat_lt, nat_le, reverse}
use Rattle.std.specs.List.{All, list_all, list_any, prefix_len, suffix_len, take_while}
use Rattle.std.specs.Option.{option_map}
use Rattle.std.specs.Str.{is_utf8}
use Rattle.std.proofs.lemmas.Bool.{and_parts, eqb-true, ltb-true, not-true}
use Rattle.std.proofs.lemmas.Bool.Decides.{nat_tests}
use Rattle.std.proofs.lemmas.List.{length-reverse, reverse-append, take_all}
use Rattle.std.proofs.lemmas.List.Folds.{prefix_len-append}
use Rattle.std.proofs.lemmas.List.Sums.{AllPass-from_list_all}
use Rattle.std.proofs.lemmas.List.Splits.{slice_split_at}
use Rattle.version_core.proofs.VersionBytes.{all-imp, all-append}
use Rattle.base_core.specs.Name.{is_name, is_path_part, path_parts_of}
use Rattle.dep_core.specs.Dependency.{is_tag, is_tag_byte}
use Rattle.dep_core.specs.DependencyText.{is_tag_or_none}
use Rattle.dep_core.specs.Reading.{without_leading_bytes}
use Rattle.dep_core.specs.Repositories.{Repository, repository_at_path, with_repositories_of_line, begins_with_blank, is_trimmed_line_empty_or_comment, singleton, repositories_from, repositories_of, repositories_on_line, repository, repository_of, repository_after_at_sign, without_outer_blanks, without_trailing_blanks}
use Rattle.dep_core.specs.RepositoryText.{is_path_writable_in_line, is_repository_writable_as_line, repositories_text, tag_prefix}
use Rattle.dep_core.specs.World.{is_blank, is_line_end, lines_of}
use Rattle.dep_core.proofs.Spelled.{run, past_run}

-- ---- no line end in a line

abbrev is_in_line : ℕ → Bool
is_in_line b = not (is_line_end b)

tag_in_line : (b : ℕ) → is_tag_byte b ≡ true → is_in_line b ≡ true
tag_in_line b h = grind (arith, nat_tests)

front-in_line : (tag : Option (List ℕ)) → is_tag_or_none tag ≡ true → list_all is_in_line (tag_prefix tag) ≡ true
front-in_line None h = refl
front-in_line (Some tag) h =
    all-append is_in_line tag (32 ∷ []) (all-imp is_tag_byte is_in_line tag_in_line tag (and_parts (nat_lt 0 (length tag)) (list_all is_tag_byte tag) h).1) refl

no_line_end : (text : List ℕ) → list_all is_in_line text ≡ true → All (λ b. is_line_end b ≡ false) text
no_line_end text h = λ k d l. not-true (is_line_end (get_or text k d)) (AllPass-from_list_all is_in_line text h k d l)

-- ---- no blank after a line

reverse-long : (xs : List ℕ) → 0 < length xs → eqb 0 (length (reverse xs)) ≡ false
reverse-long xs h = grind (arith, nat_tests, length-reverse xs)

suffix-by : (p : ℕ → Bool) (back front : List ℕ) → eqb 0 (length back) ≡ false → prefix_len p back ≡ 0 → prefix_len p (back ++ front) ≡ 0
suffix-by p back front l h =
    prefix_len-append p back front
    ∙ ((λ i. cond (eqb (h i) (length back)) (length back + prefix_len p front) (h i)) ∙ ap (λ b. cond b (length back + prefix_len p front) 0) l)

suffix-none : (front back : List ℕ) → 0 < length back → suffix_len is_blank back ≡ 0 → suffix_len is_blank (front ++ back) ≡ 0
suffix-none front back l h =
    ap (prefix_len is_blank) (reverse-append front back) ∙ suffix-by is_blank (reverse back) (reverse front) (reverse-long back l) h

nothing_cut : (text : List ℕ) → suffix_len is_blank text ≡ 0 → without_trailing_blanks text ≡ text
nothing_cut text h = take_all (length text - suffix_len is_blank text) text (omega arith)

name-long : (path : List ℕ) → is_name path ≡ true → 0 < length path
unfolding is_name
name-long path h =
    let a = and_parts _ (list_all is_path_part (path_parts_of path)) h in
    let b = and_parts _ (is_utf8 path) a.0 in
    let c = and_parts _ (not (list_any (λ b. eqb b 0) path)) b.0 in
    let d : (nat_lt 0 (length path) ≡ true) × (nat_le (length path) 1024 ≡ true) = and_parts (nat_lt 0 (length path)) (nat_le (length path) 1024) c.0 in
    ltb-true 0 (length path) d.0

whole_line : (tag : Option (List ℕ)) (path : List ℕ) → is_name path ≡ true → suffix_len is_blank path ≡ 0 → without_outer_blanks (tag_prefix tag ++ (47 ∷ path)) ≡ tag_prefix tag ++ (47 ∷ path)
whole_line None path n s = nothing_cut (47 ∷ path) (suffix-none (47 ∷ []) path (name-long path n) s)
whole_line (Some tag) path n s =
    nothing_cut ((64 ∷ (tag ++ (32 ∷ []))) ++ (47 ∷ path)) (ap (suffix_len is_blank) (sym (append_assoc (64 ∷ (tag ++ (32 ∷ []))) (47 ∷ []) path)) ∙ suffix-none ((64 ∷ (tag ++ (32 ∷ []))) ++ (47 ∷ [])) path (name-long path n) s)

-- ---- one line

path-read : (tag : Option (List ℕ)) (path : List ℕ) → is_name path ≡ true → repository_at_path tag (47 ∷ path) ≡ Some (repository tag path)
path-read tag path n = ap (λ b. cond b (Some (repository tag path)) None) n

tagged-read : (tag path : List ℕ) → is_tag tag ≡ true → is_name path ≡ true → repository_after_at_sign (tag ++ (32 ∷ (47 ∷ path))) ≡ Some (repository (Some tag) path)
unfolding repository_after_at_sign
tagged-read tag path t n =
    let bytes : list_all is_tag_byte tag ≡ true = (and_parts (nat_lt 0 (length tag)) (list_all is_tag_byte tag) t).1 in
    let first : take_while is_tag_byte (tag ++ (32 ∷ (47 ∷ path))) ≡ tag = run is_tag_byte tag (32 ∷ (47 ∷ path)) bytes refl in
    let rest : without_leading_bytes is_tag_byte (tag ++ (32 ∷ (47 ∷ path))) ≡ 32 ∷ (47 ∷ path) = past_run is_tag_byte tag (32 ∷ (47 ∷ path)) bytes refl in
    (λ i. cond (is_tag (first i) && begins_with_blank (rest i)) (repository_at_path (Some (first i)) (without_leading_bytes is_blank (rest i))) None)
    ∙ (ap (λ b. cond (b && true) (repository_at_path (Some tag) (47 ∷ path)) None) t ∙ path-read (Some tag) path n)

line-read : (tag : Option (List ℕ)) (path : List ℕ) → is_tag_or_none tag ≡ true → is_name path ≡ true → repository_of (tag_prefix tag ++ (47 ∷ path)) ≡ Some (repository tag path)
unfolding repository_of
line-read None path t n = path-read None path n
line-read (Some tag) path t n =
    ap repository_after_at_sign (append_assoc tag (32 ∷ []) (47 ∷ path)) ∙ tagged-read tag path t n

is_no_comment : (tag : Option (List ℕ)) (path : List ℕ) → is_trimmed_line_empty_or_comment (tag_prefix tag ++ (47 ∷ path)) ≡ false
is_no_comment None path = refl
is_no_comment (Some tag) path = refl

on-line : (tag : Option (List ℕ)) (path : List ℕ) → is_tag_or_none tag ≡ true → is_name path ≡ true → suffix_len is_blank path ≡ 0 → repositories_on_line (tag_prefix tag ++ (47 ∷ path)) ≡ Some (repository tag path ∷ [])
on-line tag path t n s =
    (λ i. cond (is_trimmed_line_empty_or_comment (whole_line tag path n s i)) (Some []) (option_map singleton (repository_of (whole_line tag path n s i))))
    ∙ (ap (λ b. cond b (Some []) (option_map singleton (repository_of (tag_prefix tag ++ (47 ∷ path))))) (is_no_comment tag path)
    ∙ ap (option_map singleton) (line-read tag path t n))

-- ---- the whole text

lines-read : (rs : List Repository) (k : ℕ) → list_all is_repository_writable_as_line rs ≡ true → repositories_from k (lines_of (repositories_text rs)) ≡ Ok rs
lines-read [] k h = refl
lines-read (r ∷ rs) k h =
    let parts : (is_repository_writable_as_line r ≡ true) × (list_all is_repository_writable_as_line rs ≡ true) = and_parts (is_repository_writable_as_line r) (list_all is_repository_writable_as_line rs) h in
    let both : (is_tag_or_none r.tag ≡ true) × (is_path_writable_in_line r.path ≡ true) = and_parts (is_tag_or_none r.tag) (is_path_writable_in_line r.path) parts.0 in
    let path = and_parts (is_name r.path) (list_all is_in_line r.path && eqb (suffix_len is_blank r.path) 0) both.1 in
    let ends : (list_all is_in_line r.path ≡ true) × (eqb (suffix_len is_blank r.path) 0 ≡ true) = and_parts (list_all is_in_line r.path) (eqb (suffix_len is_blank r.path) 0) path.1 in
    let in_line : list_all is_in_line (tag_prefix r.tag ++ (47 ∷ r.path)) ≡ true =
    all-append is_in_line (tag_prefix r.tag) (47 ∷ r.path) (front-in_line r.tag both.0) ends.0 in
    ap (repositories_from k) (slice_split_at is_line_end (tag_prefix r.tag ++ (47 ∷ r.path)) 10 (repositories_text rs) (no_line_end (tag_prefix r.tag ++ (47 ∷ r.path)) in_line) refl)
    ∙ (λ i. with_repositories_of_line k (on-line r.tag r.path both.0 path.0 (eqb-true (suffix_len is_blank r.path) 0 ends.1) i) (lines-read rs (k + 1) parts.1 i))

pub repositories-read : (rs : List Repository) → list_all is_repository_writable_as_line rs ≡ true → repositories_of (repositories_text rs) ≡ Ok rs
unfolding repositories_of
repositories-read rs h = lines-read rs 1 h
