-- The questions of entries, and their answers, are those of the entries.
use Rattle.std.proofs.Common.{◌≡◌, ◌⊎◌, inl, inr, ℕ, suc, ◌+◌, ◌-◌, ◌<◌, ◌≤◌, Bool, true, false, cond, List, [], ◌∷◌, All, length, drop, take, Option, Some, None, refl, ap, sym, ◌∙◌, arith}
use Rattle.std.specs.Prelude.{◌==◌, ◌&&◌, ◌||◌, IfSome, bytes_eq, slice_get}
use Rattle.std.specs.Cmp.Lexicographic.{bytes_decides}
use Rattle.std.specs.List.{list_any}
use Rattle.std.proofs.lemmas.Bool.Decides.{eqb_tells}
use Rattle.std.proofs.lemmas.List.Elements.{All-push}
use Rattle.std.proofs.lemmas.List.Folds.{list_any-append}
use Rattle.std.proofs.Math.Bool.{or-false, or_assoc}
use Rattle.dep_core.specs.ValueReading.{dependency_of_value}
use Rattle.version_core.specs.Order.{is_version}
use Rattle.adb_view.specs.Plain.{Plain, Plains}
use Rattle.path_claims.specs.adb_fields.Repeated.{list_of, package_name}
use Rattle.db_core.specs.adb_schema.Dependencies.{dependency_in}
use Rattle.adb_view.specs.Values.{count_of, entry_at_index, int_in, nth, text_in, value_at}
use Rattle.adb_view.specs.declared.tables.Kind.TheVariants as Kinds
use Rattle.db_core.specs.Members.{Member, is_found_place, member_name}
use Rattle.db_core.proofs.AnyOf.{any_step, past_end}
use Rattle.file_owners.specs.Questions.{AreSameQuestion, IsQuestionIn, entry_of_question, question_names_package, question_names_if_any, with_question}
use Rattle.file_owners.specs.Replaces.{does_replaces_entry_name_package, is_package_met_by_replaces_entry, package_version_text}
use Rattle.file_owners.specs.declared.questions.Question.{Question}
use Rattle.file_owners.proofs.AnyOfFront.{all_at, one_more, passed_in_front, settled, some_at}
use Rattle.file_owners.proofs.NamedPlaces.{other_name}

-- ---- the question of one entry

-- the member at the place that was found for a name has that name
pub named_so : (members : List Member) (place : ℕ) (name : List ℕ) → ((i : ℕ) (m : Member) → slice_get members i ≡ Some m → is_found_place i (Some place) ≡ bytes_eq (member_name m) name)
    → (m : Member) → slice_get members place ≡ Some m → name ≡ member_name m
named_so members place name found m g = sym ((bytes_decides (member_name m) name).0 (sym (found place m g) ∙ itself place))
  where
    itself : (k : ℕ) → (k == k) ≡ true
    itself k = elim (eqb_tells k k) [ inl h ↦ h.0 | inr h ↦ absurd (h.1 refl) ]

-- an entry names no other member than the one that has its name
pub found_asks : (entry : Plain) (members : List Member) (place : ℕ)
    → ((i : ℕ) (m : Member) → slice_get members i ≡ Some m → is_found_place i (Some place) ≡ bytes_eq (member_name m) (text_in (entry_at_index entry 0)))
    → (y : ℕ) (m : Member) → slice_get members y ≡ Some m → ((place == y) && does_replaces_entry_name_package entry m.pkg) ≡ does_replaces_entry_name_package entry m.pkg
found_asks entry members place found y m g = go (eqb_tells place y)
  where
    go : ((place == y) ≡ true) × (place ≡ y) ⊎ ((place == y) ≡ false) × (place ≡ y → ⊥) → ((place == y) && does_replaces_entry_name_package entry m.pkg) ≡ does_replaces_entry_name_package entry m.pkg
    go (inl (e, s)) = ap (λ b. b && does_replaces_entry_name_package entry m.pkg) e
    go (inr (e, n)) = ap (λ b. b && does_replaces_entry_name_package entry m.pkg) e ∙ sym (other_name entry m.pkg (sym (found y m g) ∙ e))

-- ---- the questions of entries

abbrev pub AreAskedSoFar : List ℕ → List Member → List Question → Plains → ℕ → Type 0
AreAskedSoFar payload members questions vs i =
    (y : ℕ) (m : Member) → slice_get members y ≡ Some m
    → (list_any (question_names_package payload y m.pkg) questions || list_any (λ entry. does_replaces_entry_name_package entry m.pkg) (drop i (list_of vs)))
    ≡ list_any (λ entry. does_replaces_entry_name_package entry m.pkg) (list_of vs)

any_with : (payload : List ℕ) (y : ℕ) (pkg : Plain) (old : List Question) (q : Option Question) → list_any (question_names_package payload y pkg) (with_question old q) ≡ (list_any (question_names_package payload y pkg) old || question_names_if_any payload y pkg q)
any_with payload y pkg old None = sym (or-false (list_any (question_names_package payload y pkg) old))
any_with payload y pkg old (Some q) =
    list_any-append (question_names_package payload y pkg) old (q ∷ []) ∙ ap (λ b. list_any (question_names_package payload y pkg) old || b) (or-false (question_names_package payload y pkg q))

pub entry_asked : (payload : List ℕ) (members : List Member) (old new : List Question) (question : Option Question) (vs : Plains) (i : ℕ) (entry : Plain) → i < count_of vs → entry ≡ nth vs i
    → new ≡ with_question old question
    → ((y : ℕ) (m : Member) → slice_get members y ≡ Some m → question_names_if_any payload y m.pkg question ≡ does_replaces_entry_name_package entry m.pkg)
    → AreAskedSoFar payload members old vs i → AreAskedSoFar payload members new vs (i + 1)
entry_asked payload members old new question vs i entry l is grown asked inv y m g =
    let s : i + 1 ≡ suc i = omega arith in
    let p : Plain → Bool = λ entry. does_replaces_entry_name_package entry m.pkg in
    let a : Question → Bool = question_names_package payload y m.pkg in
    let added : list_any a new ≡ (list_any a old || question_names_if_any payload y m.pkg question) = ap (list_any a) grown ∙ any_with payload y m.pkg old question in
    (λ j. added j || list_any p (drop (s j) (list_of vs)))
    ∙ (or_assoc (list_any a old) (question_names_if_any payload y m.pkg question) (list_any p (drop (suc i) (list_of vs)))
    ∙ (ap (λ b. list_any a old || (b || list_any p (drop (suc i) (list_of vs)))) (asked y m g ∙ ap p is)
    ∙ (ap (λ b. list_any a old || b) (sym (any_step p vs i l)) ∙ inv y m g)))

pub all_asked : (payload : List ℕ) (members : List Member) (questions : List Question) (vs : Plains) (i : ℕ) → count_of vs ≤ i → AreAskedSoFar payload members questions vs i
    → (y : ℕ) (m : Member) → slice_get members y ≡ Some m → list_any (question_names_package payload y m.pkg) questions ≡ list_any (λ entry. does_replaces_entry_name_package entry m.pkg) (list_of vs)
all_asked payload members questions vs i l inv y m g =
    let p : Plain → Bool = λ entry. does_replaces_entry_name_package entry m.pkg in
    let a : Question → Bool = question_names_package payload y m.pkg in
    sym (or-false (list_any a questions)) ∙ (ap (λ b. list_any a questions || b) (sym (past_end p vs i l)) ∙ inv y m g)

pub all_with : (P : Question → Type 0) (old : List Question) (q : Option Question) → All P old → IfSome q P → All P (with_question old q)
all_with P old None all h = all
all_with P old (Some q) all h = All-push P old q all h

-- ---- their answers

pub answered : (place y : ℕ) (t named : Bool) → (place ≡ y → t ≡ named) → cond t (place == y) false ≡ ((place == y) && named)
answered place y t named h = go (eqb_tells place y)
  where
    off : (t : Bool) → cond t false false ≡ false
    off true = refl
    off false = refl

    on : (t : Bool) → cond t true false ≡ t
    on true = refl
    on false = refl

    go : ((place == y) ≡ true) × (place ≡ y) ⊎ ((place == y) ≡ false) × (place ≡ y → ⊥) → cond t (place == y) false ≡ ((place == y) && named)
    go (inl (e, s)) = ap (λ b. cond t b false) e ∙ (on t ∙ (h s ∙ sym (ap (λ b. b && named) e)))
    go (inr (e, n)) = ap (λ b. cond t b false) e ∙ (off t ∙ sym (ap (λ b. b && named) e))

-- questions that are the same have one answer: their entries are one dependency
asks_alike : (members : List Member) (payload : List ℕ) (one other : Question) → IsQuestionIn members payload one → IsQuestionIn members payload other → AreSameQuestion one other
    → (y : ℕ) (pkg : Plain) → question_names_package payload y pkg one ≡ question_names_package payload y pkg other
asks_alike members payload one other p q same y pkg =
    let m = some_at members one.place p.within in
    let first : Plain = entry_of_question payload one in
    let second : Plain = entry_of_question payload other in
    let name : text_in (entry_at_index first 0) ≡ text_in (entry_at_index second 0) =
    p.name m.0 m.1 ∙ sym (q.name m.0 (ap (slice_get members) (sym same.place) ∙ m.1)) in
    let version : text_in (entry_at_index first 1) ≡ text_in (entry_at_index second 1) = p.version ∙ (ap (λ (w : ℕ). text_in (value_at payload Kinds.Text w)) same.version ∙ sym q.version) in
    let matching : int_in (entry_at_index first 2) ≡ int_in (entry_at_index second 2) = p.matching ∙ (same.matching ∙ sym q.matching) in
    let dependency : dependency_in first ≡ dependency_in second = λ k. dependency_of_value (name k) (version k) (matching k) in
    λ k. (same.place k == y) && (is_version (package_version_text pkg) && is_package_met_by_replaces_entry (dependency k) (package_name pkg) (package_version_text pkg))

module _ (members : List Member) (payload : List ℕ) (questions : List Question) (i : ℕ) (all : All (IsQuestionIn members payload) questions) (y : ℕ) (m : Member) where
  pub next_answered : (q : Question) (answer : Bool) → slice_get questions i ≡ Some q → answer ≡ question_names_package payload y m.pkg q
      → (list_any (question_names_package payload y m.pkg) (take i questions) || answer) ≡ list_any (question_names_package payload y m.pkg) (take (i + 1) questions)
  next_answered q answer at is =
      ap (λ b. list_any (question_names_package payload y m.pkg) (take i questions) || b) is ∙ sym (one_more (question_names_package payload y m.pkg) questions i q at)

  pub again_answered : 0 < i → i < length questions
      → ((one other : Question) → slice_get questions (i - 1) ≡ Some one → slice_get questions i ≡ Some other → AreSameQuestion one other)
      → (list_any (question_names_package payload y m.pkg) (take i questions) || false) ≡ list_any (question_names_package payload y m.pkg) (take (i + 1) questions)
  again_answered low within same =
      let a : Question → Bool = question_names_package payload y m.pkg in
      let P : Question → Type 0 = IsQuestionIn members payload in
      let one = some_at questions (i - 1) (omega (arith, low, within)) in
      let other = some_at questions i within in
      let alike : a one.0 ≡ a other.0 =
      asks_alike members payload one.0 other.0 (all_at P questions (i - 1) one.0 all one.1) (all_at P questions i other.0 all other.1) (same one.0 other.0 one.1 other.1) y m.pkg in
      settled (list_any a (take i questions)) (a other.0) (λ t. passed_in_front a questions i (i - 1) one.0 (omega (arith, low)) one.1 (alike ∙ t))
      ∙ sym (one_more a questions i other.0 other.1)
