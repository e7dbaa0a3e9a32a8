-- Each hint is so.
use Rattle.std.proofs.Common.{◌≡◌, ◌≢◌, ◌∙◌, ◌+◌, ◌-◌, ◌/◌, ◌%◌, ◌≤◌, ℕ, Bool, zero, suc, true, false, cond, eqb, List, [], ◌∷◌, ◌++◌, length, Option, Some, None, Result, Ok, Err, refl, sym, ap, arith, inl, inr}
use Rattle.std.specs.List.{onto_first, slice_get, slice_split}
use Rattle.std.specs.Prelude.{is_some}
use Rattle.std.specs.Option.{option_map}
use Rattle.std.proofs.lemmas.Bool.{eq-eqb, eqb-true, false≢true}
use Rattle.std.proofs.lemmas.Option.{none-some, same_Some}
use Rattle.adb_view.specs.Schema.{table, table_number}
use Rattle.adb_view.specs.declared.tables.Field.{Field}
use Rattle.adb_view.specs.declared.tables.Which.{Which}
use Rattle.adb_view.specs.declared.tables.Which.TheVariants as Tables
use Rattle.base_core.specs.declared.cause.Cause.{Cause}
use Rattle.base_core.specs.declared.cause.Cause.TheVariants.{BadText, BlockOrder, CompatVersion, Compressed, DataOrder, DataSize, HashDiffers, NotAdb, Outside, Repeated, TextLine, TooLarge, Truncated, WrongKind, WrongSchema}
use Rattle.dep_core.specs.Repositories.{Repository, is_trimmed_line_empty_or_comment, repositories_from, repositories_of, repositories_on_line, repository_of, singleton, with_repositories_of_line, without_outer_blanks}
use Rattle.dep_core.specs.World.{is_line_end, lines_of}
use Rattle.pkg_core.specs.adb_schema.Soundness.{header_schema_if_root_table}
use Rattle.pkg_core.specs.Whole.{table_of_schema}
use Rattle.pkg_core.specs.adb_schema.declared.read.TheConstants.{IDB_WORD, INDEX_WORD, INTENT_WORD, PACKAGE_WORD}
use Rattle.report_core.specs.declared.refusal.Refusal.{Refusal}
use Rattle.report_core.specs.declared.refusal.Refusal.TheVariants.{DatabaseBad, FileBad, IndexBad, IntentBad, PackageBad}
use Rattle.words_core.specs.Grammar.{command_of}
use Rattle.hint_core.specs.declared.find.PathAlone.TheVariants.{Path}
use Rattle.hint_core.specs.declared.find.RepositoryLine.{RepositoryLine}
use Rattle.hint_core.specs.declared.hint.Hint.TheVariants as Hinted
use Rattle.hint_core.specs.declared.hint.HintFile.{HintFile}
use Rattle.hint_core.specs.declared.hint.Subject.{Subject}
use Rattle.hint_core.specs.declared.hint.Subject.TheVariants.{Word, Information, Line, Database, AbsentDatabase}
use Rattle.hint_core.specs.declared.hint.Subject.TheVariants as Subjects
use Rattle.hint_core.specs.Hints.{absent_database_hint, absent_file_hint, absent_package_hint, asks_for_owner, cause_hint, cause_of, field_hint, field_hint_if_found, line_hint_if_found, repository_hint_if_found, schema_hint_if_found, file_cause_hint, hint_of_cause, information_hint, is_fix, not_installed_hint, subject_hint, subject_of, table_numbered, word_hint}
use Rattle.hint_core.specs.Repositories.{repository_from_line, path_alone, repository_at, repository_line_from_parts}
use Rattle.hint_core.specs.Truths.{RepositoryHasPath, IsHintTrueBySubjectFile, NamesFieldPlace}

-- ---- lines, each without a line end

-- each of these lines is the one line of itself
abbrev pub AreAlone : List (List ℕ) → Type 0
AreAlone [] = Unit {0}
AreAlone (x ∷ xs) = (slice_split is_line_end x ≡ x ∷ []) × AreAlone xs

onto_alone : (x : ℕ) (lines : List (List ℕ)) → is_line_end x ≡ false → AreAlone lines → AreAlone (onto_first x lines)
onto_alone x [] n h = (rw n refl, tt)
onto_alone x (line ∷ lines) n h = (ap (λ b. cond b ([] ∷ slice_split is_line_end line) (onto_first x (slice_split is_line_end line))) n ∙ ap (onto_first x) h.0, h.1)

pub lines_alone : (text : List ℕ) → AreAlone (slice_split is_line_end text)
lines_alone [] = (refl, tt)
lines_alone (x ∷ text) =
    elim (is_line_end x) as (λ b. is_line_end x ≡ b → AreAlone (cond b ([] ∷ slice_split is_line_end text) (onto_first x (slice_split is_line_end text)))) [
      | true ↦ λ e. (refl, lines_alone text)
      | false ↦ λ e. onto_alone x (slice_split is_line_end text) e (lines_alone text)
    ] refl

read_alone : (line : List ℕ) → slice_split is_line_end line ≡ line ∷ [] → repositories_of line ≡ with_repositories_of_line 1 (repositories_on_line line) (Ok [])
unfolding repositories_of
read_alone line alone = ap (repositories_from 1) alone

-- ---- the repository of a number

-- a line between others: what it names is nothing, one repository, or bad
data OnLine (line : List ℕ) : Type 0 where
  skipped : repositories_on_line line ≡ Some [] → OnLine line
  named : (found : Repository) → repositories_on_line line ≡ Some (found ∷ []) → OnLine line
  bad : repositories_on_line line ≡ None → OnLine line

on_line_is : (line : List ℕ) → OnLine line
on_line_is line =
    elim (is_trimmed_line_empty_or_comment (without_outer_blanks line)) as (λ b. is_trimmed_line_empty_or_comment (without_outer_blanks line) ≡ b → OnLine line) [
      | true ↦ λ e. skipped (rw e refl)
      | false ↦ λ e. elim (repository_of (without_outer_blanks line)) as (λ o. repository_of (without_outer_blanks line) ≡ o → OnLine line) [
        | None ↦ λ r. bad (rw e (ap (option_map singleton) r))
        | Some found ↦ λ r. named found (rw e (ap (option_map singleton) r))
      ] refl
    ] refl

-- the line of a repository, of lines the first of which has a number, and what it names alone
record IsNamed (line : ℕ) (lines : List (List ℕ)) (r : RepositoryLine) : Type 0 where
  within : line ≤ r.line
  alone : List ℕ
  found : Repository
  more : List Repository
  at : slice_get lines (r.line - line) ≡ Some alone
  named : repositories_of alone ≡ Ok (found ∷ more)
  path : found.path ≡ r.path

named_later : (line : ℕ) (text : List ℕ) (rest : List (List ℕ)) (r : RepositoryLine) → IsNamed (line + 1) rest r → IsNamed line (text ∷ rest) r
named_later line text rest r n =
    let step : r.line - line ≡ suc (r.line - (line + 1)) = omega (arith, n.within) in
    record { within = omega (arith, n.within); alone = n.alone; found = n.found; more = n.more; at = ap (slice_get (text ∷ rest)) step ∙ n.at; named = n.named; path = n.path }

named_here : (line : ℕ) (text : List ℕ) (rest : List (List ℕ)) (found : Repository) (more : List Repository) (r : RepositoryLine) → repositories_of text ≡ Ok (found ∷ more) → repository_line_from_parts line found.path ≡ r → IsNamed line (text ∷ rest) r
named_here line text rest found more r alone is =
    let same : line ≡ r.line = ap (λ (x : RepositoryLine). x.line) is in
    let none : r.line - line ≡ 0 = omega (arith, same) in
    record { within = omega (arith, same); alone = text; found = found; more = more; at = ap (slice_get (text ∷ rest)) none; named = alone; path = ap (λ (x : RepositoryLine). x.path) is }

named_at : (number line : ℕ) (lines : List (List ℕ)) (r : RepositoryLine) → repository_at number line lines ≡ Some r → IsNamed line lines r
named_at number line [] r e = absurd (none-some r e)
named_at number line (text ∷ rest) r e =
    elim (repositories_of text) as (λ o. repositories_of text ≡ o → repository_from_line (path_alone o) number line (λ left. repository_at left (line + 1) rest) ≡ Some r → IsNamed line (text ∷ rest) r) [
      | Err at ↦ λ o h. absurd (none-some r h)
      | Ok [] ↦ λ o h. named_later line text rest r (named_at number (line + 1) rest r h)
      | Ok (found ∷ more) ↦ λ o h. elim (eqb number 1) as (λ b. cond b (Some (repository_line_from_parts line found.path)) (repository_at (number - 1) (line + 1) rest) ≡ Some r → IsNamed line (text ∷ rest) r) [
        | true ↦ λ k. named_here line text rest found more r o (same_Some _ _ k)
        | false ↦ λ k. named_later line text rest r (named_at (number - 1) (line + 1) rest r k)
      ] h
    ] refl e

-- no repository has the number 0
never : (line : ℕ) (lines : List (List ℕ)) (r : RepositoryLine) → repository_at 0 line lines ≡ Some r → ⊥
never line [] r e = none-some r e
never line (text ∷ rest) r e =
    elim (repositories_of text) as (λ o. repository_from_line (path_alone o) 0 line (λ left. repository_at left (line + 1) rest) ≡ Some r → ⊥) [
      | Err at ↦ λ h. none-some r h
      | Ok [] ↦ λ h. never (line + 1) rest r h
      | Ok (found ∷ more) ↦ λ h. never (line + 1) rest r h
    ] e

-- what is left of the repositories behind those of a line
record IsBehind (found rs : List Repository) (rest : Result (List Repository) ℕ) : Type 0 where
  others : List Repository
  are : rest ≡ Ok others
  joined : found ++ others ≡ rs

behind : (k : ℕ) (found : List Repository) (rest : Result (List Repository) ℕ) (rs : List Repository) → with_repositories_of_line k (Some found) rest ≡ Ok rs → IsBehind found rs rest
behind k found (Ok others) rs h = record { others = others; are = refl; joined = cc }
behind k found (Err at) rs h = absurd cc

abbrev path_at : List Repository → ℕ → Option (List ℕ)
path_at rs i = option_map (λ (found : Repository). found.path) (slice_get rs i)

one_before : (number line : ℕ) (found : Repository) (others : List Repository) (rest : List (List ℕ)) (r : RepositoryLine) → eqb number 1 ≡ false → repository_at (number - 1) (line + 1) rest ≡ Some r → path_at others (number - 1 - 1) ≡ Some r.path → path_at (found ∷ others) (number - 1) ≡ Some r.path
one_before zero line found others rest r e h is = absurd (never (line + 1) rest r h)
one_before (suc zero) line found others rest r e h is = absurd (false≢true (sym e))
one_before (suc (suc n)) line found others rest r e h is =
    let step : suc (suc n) - 1 ≡ suc n = omega arith in
    let less : suc (suc n) - 1 - 1 ≡ n = omega arith in
    ap (path_at (found ∷ others)) step ∙ (ap (path_at others) (sym less) ∙ is)

has_none : (k : ℕ) (rest : Result (List Repository) ℕ) (rs : List Repository) → with_repositories_of_line k None rest ≡ Ok rs → ⊥
has_none k rest rs h = cc

counted : (number line k : ℕ) (lines : List (List ℕ)) → AreAlone lines → (r : RepositoryLine) → repository_at number line lines ≡ Some r → (rs : List Repository) → repositories_from k lines ≡ Ok rs → path_at rs (number - 1) ≡ Some r.path
counted number line k [] a r e rs f = absurd (none-some r e)
counted number line k (text ∷ rest) a r e rs f =
    elim (on_line_is text) [
      | skipped s ↦
          let is : repositories_of text ≡ Ok [] = read_alone text a.0 ∙ ap (λ o. with_repositories_of_line 1 o (Ok [])) s in
          let h : repository_at number (line + 1) rest ≡ Some r = sym (ap (λ o. repository_from_line (path_alone o) number line (λ left. repository_at left (line + 1) rest)) is) ∙ e in
          let b : IsBehind [] rs (repositories_from (k + 1) rest) = behind k [] (repositories_from (k + 1) rest) rs (sym (ap (λ o. with_repositories_of_line k o (repositories_from (k + 1) rest)) s) ∙ f) in
          counted number (line + 1) (k + 1) rest a.1 r h rs (b.are ∙ ap Ok b.joined)
      | named found s ↦
          let is : repositories_of text ≡ Ok (found ∷ []) = read_alone text a.0 ∙ ap (λ o. with_repositories_of_line 1 o (Ok [])) s in
          let h : repository_from_line (Path found.path) number line (λ left. repository_at left (line + 1) rest) ≡ Some r = sym (ap (λ o. repository_from_line (path_alone o) number line (λ left. repository_at left (line + 1) rest)) is) ∙ e in
          let b : IsBehind (found ∷ []) rs (repositories_from (k + 1) rest) = behind k (found ∷ []) (repositories_from (k + 1) rest) rs (sym (ap (λ o. with_repositories_of_line k o (repositories_from (k + 1) rest)) s) ∙ f) in
          ap (λ x. path_at x (number - 1)) (sym b.joined) ∙ elim (eqb number 1) as (λ t. eqb number 1 ≡ t → cond t (Some (repository_line_from_parts line found.path)) (repository_at (number - 1) (line + 1) rest) ≡ Some r → path_at (found ∷ b.others) (number - 1) ≡ Some r.path) [
            | true ↦ λ t y.
                let one : number ≡ 1 = eqb-true number 1 t in
                let none : number - 1 ≡ 0 = omega (arith, one) in
                ap (path_at (found ∷ b.others)) none ∙ ap (option_map (λ (x : RepositoryLine). x.path)) y
            | false ↦ λ t y. one_before number line found b.others rest r t y (counted (number - 1) (line + 1) (k + 1) rest a.1 r y b.others b.are)
          ] refl h
      | bad s ↦ absurd (has_none k (repositories_from (k + 1) rest) rs (sym (ap (λ o. with_repositories_of_line k o (repositories_from (k + 1) rest)) s) ∙ f))
    ]

-- ---- the hints

word_so : (words : List (List ℕ)) (refusal : Refusal) (found : Option (List ℕ)) (place : ℕ) (o : Option (List ℕ)) → subject_of refusal ≡ Word place → slice_get words (place - 1) ≡ o → IsHintTrueBySubjectFile words refusal found (word_hint place o)
word_so words refusal found place (Some word) s h = (inl s, h)
word_so words refusal found place None s h = tt

absent_file_so : (words : List (List ℕ)) (refusal : Refusal) (found : Option (List ℕ)) (place : ℕ) (o : Option (List ℕ)) → subject_of refusal ≡ Subjects.AbsentFile place → slice_get words (place - 1) ≡ o → IsHintTrueBySubjectFile words refusal found (absent_file_hint place o)
absent_file_so words refusal found place (Some word) s h = (s, h)
absent_file_so words refusal found place None s h = tt

not_installed_so : (words : List (List ℕ)) (refusal : Refusal) (found : Option (List ℕ)) (asked : Bool) (place : ℕ) (o : Option (List ℕ)) → subject_of refusal ≡ Subjects.NotInstalled place → asks_for_owner (command_of words) ≡ asked → slice_get words (place - 1) ≡ o → IsHintTrueBySubjectFile words refusal found (not_installed_hint asked place o)
not_installed_so words refusal found true place (Some word) s a h = (s, a, h)
not_installed_so words refusal found true place None s a h = tt
not_installed_so words refusal found false place (Some word) s a h = (inr s, h)
not_installed_so words refusal found false place None s a h = tt

past : (xs : List (List ℕ)) (i : ℕ) → slice_get xs i ≡ None → length xs ≤ i
past [] i h = omega arith
past (x ∷ xs) zero h = absurd (none-some x (sym h))
past (x ∷ xs) (suc i) h = let less = past xs i h in omega (arith, less)

information_so : (words : List (List ℕ)) (refusal : Refusal) (found : Option (List ℕ)) (place : ℕ) (o : Option (List ℕ)) → subject_of refusal ≡ Information place → slice_get words (place - 1) ≡ o → IsHintTrueBySubjectFile words refusal found (information_hint place o)
information_so words refusal found place (Some word) s h = (s, h)
information_so words refusal found place None s h = (s, past words (place - 1) h)

has_path : (text : List ℕ) (number : ℕ) (r : RepositoryLine) → repository_at number 1 (lines_of text) ≡ Some r → RepositoryHasPath text number r.path
unfolding repositories_of
has_path text number r h = λ rs f. counted number 1 1 (lines_of text) (lines_alone text) r h rs f

repository_so : (words : List (List ℕ)) (refusal : Refusal) (text : List ℕ) (number : ℕ) (o : Option RepositoryLine) → subject_of refusal ≡ Subjects.Repository number → repository_at number 1 (lines_of text) ≡ o → IsHintTrueBySubjectFile words refusal (Some text) (repository_hint_if_found number o)
repository_so words refusal text number None s h = tt
repository_so words refusal text number (Some r) s h =
    let n = named_at number 1 (lines_of text) r h in
    (s, text, refl, has_path text number r h, (n.alone, n.found, n.more, n.at, n.named, n.path))

line_so : (words : List (List ℕ)) (refusal : Refusal) (whole : List ℕ) (file : HintFile) (line : ℕ) (o : Option (List ℕ)) → subject_of refusal ≡ Line file line → slice_get (lines_of whole) (line - 1) ≡ o → IsHintTrueBySubjectFile words refusal (Some whole) (line_hint_if_found file line o)
line_so words refusal whole file line None s h = tt
line_so words refusal whole file line (Some text) s h = (s, whole, refl, h)

absent_so : (words : List (List ℕ)) (refusal : Refusal) (found : Option (List ℕ)) → subject_of refusal ≡ AbsentDatabase → IsHintTrueBySubjectFile words refusal found (absent_database_hint (is_some found))
absent_so words refusal (Some file) s = tt
absent_so words refusal None s = (s, refl)

absent_package_so : (words : List (List ℕ)) (refusal : Refusal) (found : Option (List ℕ)) (fixes : Bool) → subject_of refusal ≡ Subjects.AbsentPackage → is_fix (command_of words) ≡ fixes → IsHintTrueBySubjectFile words refusal found (absent_package_hint fixes)
absent_package_so words refusal found true s f = (s, f)
absent_package_so words refusal found false s f = tt

pub subject_so : (words : List (List ℕ)) (refusal : Refusal) (found : Option (List ℕ)) (subject : Subject) → subject_of refusal ≡ subject → IsHintTrueBySubjectFile words refusal found (subject_hint words found subject)
subject_so words refusal found (Word place) s = word_so words refusal found place (slice_get words (place - 1)) s refl
subject_so words refusal found (Information place) s = information_so words refusal found place (slice_get words (place - 1)) s refl
subject_so words refusal None (Subjects.Repository number) s = tt
subject_so words refusal (Some text) (Subjects.Repository number) s = repository_so words refusal text number (repository_at number 1 (lines_of text)) s refl
subject_so words refusal None (Line file line) s = tt
subject_so words refusal (Some whole) (Line file line) s = line_so words refusal whole file line (slice_get (lines_of whole) (line - 1)) s refl
subject_so words refusal found Database s = (s, refl)
subject_so words refusal found AbsentDatabase s = absent_so words refusal found s
subject_so words refusal found Subjects.SharedPath s = s
subject_so words refusal found (Subjects.AbsentFile place) s = absent_file_so words refusal found place (slice_get words (place - 1)) s refl
subject_so words refusal found (Subjects.NotInstalled place) s = not_installed_so words refusal found (asks_for_owner (command_of words)) place (slice_get words (place - 1)) s refl refl
subject_so words refusal found Subjects.Journal s = s
subject_so words refusal found Subjects.Untrusted s = s
subject_so words refusal found Subjects.AbsentPackage s = absent_package_so words refusal found (is_fix (command_of words)) s refl
subject_so words refusal found Subjects.OtherPackage s = s
subject_so words refusal found Subjects.Nothing s = tt

-- ---- the field at a place

numbered : (n k : ℕ) (t which : Which) (rest : Option Which) → table_number t ≡ k → (rest ≡ Some which → table_number which ≡ n) → cond (eqb n k) (Some t) rest ≡ Some which → table_number which ≡ n
numbered n k t which rest s later h =
    elim (eqb n k) as (λ b. eqb n k ≡ b → cond b (Some t) rest ≡ Some which → table_number which ≡ n) [
      | true ↦ λ e y. ap table_number (sym (same_Some _ _ y)) ∙ (s ∙ sym (eqb-true n k e))
      | false ↦ λ e y. later y
    ] refl h

table_is : (n : ℕ) (which : Which) → table_numbered n ≡ Some which → table_number which ≡ n
table_is n which h =
    numbered n 1 Tables.Dep which _ refl
    (numbered n 2 Tables.Acl which _ refl
    (numbered n 3 Tables.PkgInfo which _ refl
    (numbered n 4 Tables.File which _ refl
    (numbered n 5 Tables.Dir which _ refl
    (numbered n 6 Tables.Scripts which _ refl
    (numbered n 7 Tables.Package which _ refl
    (numbered n 8 Tables.Index which _ refl
    (numbered n 9 Tables.Idb which _ refl
    (numbered n 10 Tables.Intent which _ refl (λ e. absurd (none-some which e))))))))))) h

field_so : (words : List (List ℕ)) (refusal : Refusal) (found : Option (List ℕ)) (place : ℕ) (which : Which) (o : Option Field) → NamesFieldPlace refusal place → table_number which ≡ place / 100 → eqb (place % 100) 0 ≡ false → slice_get (table which) (place % 100 - 1) ≡ o → IsHintTrueBySubjectFile words refusal found (field_hint_if_found place which o)
field_so words refusal found place which None p s e h = tt
field_so words refusal found place which (Some field) p s e h =
    let some : place % 100 ≢ 0 = λ none. false≢true (sym e ∙ eq-eqb (place % 100) 0 none) in
    (p, place % 100, omega (arith, s), omega (arith, some), (field, h, refl))

table_so : (words : List (List ℕ)) (refusal : Refusal) (found : Option (List ℕ)) (place : ℕ) (o : Option Which) → NamesFieldPlace refusal place → table_numbered (place / 100) ≡ o → IsHintTrueBySubjectFile words refusal found (field_hint place o)
table_so words refusal found place None p h = tt
table_so words refusal found place (Some which) p h =
    elim (eqb (place % 100) 0) as (λ b. eqb (place % 100) 0 ≡ b → IsHintTrueBySubjectFile words refusal found (cond b Hinted.Nothing (field_hint_if_found place which (slice_get (table which) (place % 100 - 1))))) [
      | true ↦ λ e. tt
      | false ↦ λ e. field_so words refusal found place which _ p (table_is (place / 100) which h) e refl
    ] refl

-- ---- the schema

with_schema : (n k : ℕ) (t which : Which) (rest : Option Which) → header_schema_if_root_table t ≡ Some k → (rest ≡ Some which → header_schema_if_root_table which ≡ Some n) → cond (eqb n k) (Some t) rest ≡ Some which → header_schema_if_root_table which ≡ Some n
with_schema n k t which rest s later h =
    elim (eqb n k) as (λ b. eqb n k ≡ b → cond b (Some t) rest ≡ Some which → header_schema_if_root_table which ≡ Some n) [
      | true ↦ λ e y. ap header_schema_if_root_table (sym (same_Some _ _ y)) ∙ (s ∙ ap Some (sym (eqb-true n k e)))
      | false ↦ λ e y. later y
    ] refl h

schema_is : (n : ℕ) (which : Which) → table_of_schema n ≡ Some which → header_schema_if_root_table which ≡ Some n
schema_is n which h =
    with_schema n PACKAGE_WORD Tables.Package which _ refl
    (with_schema n INDEX_WORD Tables.Index which _ refl
    (with_schema n IDB_WORD Tables.Idb which _ refl
    (with_schema n INTENT_WORD Tables.Intent which _ refl (λ e. absurd (none-some which e))))) h

-- the word of a table is the schema of no other
not_of : (word n : ℕ) (which : Which) → table_of_schema word ≡ Some which → Some word ≡ Some n → table_of_schema n ≡ None → ⊥
not_of word n which known same none = none-some which (sym none ∙ (ap table_of_schema (sym (same_Some _ _ same)) ∙ known))

no_schema : (which : Which) (n : ℕ) → header_schema_if_root_table which ≡ Some n → table_of_schema n ≡ None → ⊥
no_schema Tables.Dep n is none = none-some n is
no_schema Tables.Acl n is none = none-some n is
no_schema Tables.PkgInfo n is none = none-some n is
no_schema Tables.File n is none = none-some n is
no_schema Tables.Dir n is none = none-some n is
no_schema Tables.Scripts n is none = none-some n is
no_schema Tables.Package n is none = not_of PACKAGE_WORD n Tables.Package refl is none
no_schema Tables.Index n is none = not_of INDEX_WORD n Tables.Index refl is none
no_schema Tables.Idb n is none = not_of IDB_WORD n Tables.Idb refl is none
no_schema Tables.Intent n is none = not_of INTENT_WORD n Tables.Intent refl is none

schema_so : (words : List (List ℕ)) (refusal : Refusal) (found : Option (List ℕ)) (schema : ℕ) (o : Option Which) → cause_of refusal ≡ Some (WrongSchema schema) → table_of_schema schema ≡ o → IsHintTrueBySubjectFile words refusal found (schema_hint_if_found o)
schema_so words refusal found schema None c h = (schema, c, λ which is. no_schema which schema is h)
schema_so words refusal found schema (Some which) c h = (schema, c, schema_is schema which h)

-- ---- the cause

hint_so : (words : List (List ℕ)) (refusal : Refusal) (found : Option (List ℕ)) (cause : Cause) → cause_of refusal ≡ Some cause → IsHintTrueBySubjectFile words refusal found (hint_of_cause cause)
hint_so words refusal found (BadText place) c = table_so words refusal found place (table_numbered (place / 100)) (BadText place, c, refl) refl
hint_so words refusal found (Repeated place first second) c = table_so words refusal found place (table_numbered (place / 100)) (Repeated place first second, c, refl) refl
hint_so words refusal found (WrongSchema schema) c = schema_so words refusal found schema (table_of_schema schema) c refl
hint_so words refusal found NotAdb c = tt
hint_so words refusal found Compressed c = tt
hint_so words refusal found (Truncated at) c = tt
hint_so words refusal found (BlockOrder at) c = tt
hint_so words refusal found CompatVersion c = tt
hint_so words refusal found (Outside word) c = tt
hint_so words refusal found (WrongKind word) c = tt
hint_so words refusal found (TooLarge count) c = tt
hint_so words refusal found (DataOrder expected other) c = tt
hint_so words refusal found (DataSize expected other) c = tt
hint_so words refusal found (HashDiffers expected other) c = tt
hint_so words refusal found (TextLine line) c = tt

file_so : (words : List (List ℕ)) (refusal : Refusal) (found : Option (List ℕ)) (cause : Cause) → cause_of refusal ≡ Some cause → IsHintTrueBySubjectFile words refusal found (file_cause_hint cause)
file_so words refusal found NotAdb c = (NotAdb, c, tt)
file_so words refusal found Compressed c = (Compressed, c, tt)
file_so words refusal found (Truncated at) c = (Truncated at, c, tt)
file_so words refusal found (DataSize expected other) c = (DataSize expected other, c, tt)
file_so words refusal found (HashDiffers expected other) c = (HashDiffers expected other, c, tt)
file_so words refusal found cause c = hint_so words refusal found cause c

pub cause_so : (words : List (List ℕ)) (refusal : Refusal) (found : Option (List ℕ)) → IsHintTrueBySubjectFile words refusal found (cause_hint refusal)
cause_so words (IntentBad cause) found = hint_so words (IntentBad cause) found cause refl
cause_so words (DatabaseBad cause) found = hint_so words (DatabaseBad cause) found cause refl
cause_so words (FileBad place cause) found = file_so words (FileBad place cause) found cause refl
cause_so words (IndexBad number cause) found = file_so words (IndexBad number cause) found cause refl
cause_so words (PackageBad name version cause) found = file_so words (PackageBad name version cause) found cause refl
cause_so words refusal found = tt
