-- What is kept of the versions that a dependency wants, and what that tells of packages.
use Rattle.std.proofs.Common.{◌≡◌, ℕ, ◌+◌, ◌-◌, ◌<◌, Bool, true, false, cond, List, refl, ap, sym, ◌∙◌, arith, true≢false, zero, suc, inl, inr}
use Rattle.std.specs.Prelude.{◌&&◌, ◌||◌, IfOk, IfSome, Option, Some, None, Result, Ok, Err, is_some, option_to_list}
use Rattle.std.specs.BTreeMap.{BTreeMap, get}
use Rattle.std.specs.Cmp.Lexicographic.{bytes_decides}
use Rattle.std.specs.List.{cons_option, list_any}
use Rattle.std.specs.Ordering.{is_eq, nat_cmp, ordering_then}
use Rattle.std.specs.declared.cmp.Ordering.{Ordering}
use Rattle.std.specs.declared.cmp.Ordering.TheVariants.{Less, Equal, Greater}
use Rattle.std.proofs.lemmas.List.Folds.{list_any-append}
use Rattle.std.proofs.Math.Bool.{or-false}
use Rattle.std.proofs.lemmas.Bool.{cases_Bool}
use Rattle.adb_view.specs.Adb.{payload_of}
use Rattle.adb_view.specs.Plain.{Plain, Plains, none, more}
use Rattle.adb_view.specs.Values.{count_of, nth, text_in, value_at}
use Rattle.adb_view.specs.declared.tables.Kind.TheVariants.{Text}
use Rattle.dep_core.specs.Dependency.{Dependency}
use Rattle.dep_core.specs.Meets.{meets}
use Rattle.candidate_core.specs.Candidates.{Need, dependencies_among_values, dependency_in, entry, named}
use Rattle.candidate_core.specs.Matches.{AreMatchesFor, AreRememberedMatchesOf, GivesTextsOfSource, dependency_accepts, text_place_cmp}
use Rattle.candidate_core.specs.VersionTexts.{HasVersionTextFrom}
use Rattle.candidate_core.specs.declared.matches.KnownMatches.{KnownMatches}
use Rattle.candidate_core.specs.declared.packages.Source.{Source}
use Rattle.candidate_core.specs.declared.versions.RankedVersion.{RankedVersion}
use Rattle.candidate_core.proofs.DependencyLists.{dependencies_to}
use Rattle.candidate_core.proofs.ProvidedVersions.{next_of}

pub if_ok_map : {X E : Type 0} (P Q : X → Type 0) → ((x : X) → P x → Q x) → (r : Result X E) → IfOk r P → IfOk r Q
if_ok_map P Q f (Ok x) h = f x h
if_ok_map P Q f (Err e) h = tt

-- ---- one version

pub wanted_by_name : (d : Dependency) (version : Option (List ℕ)) → meets d d.name version ≡ dependency_accepts d version
wanted_by_name d version = ap (λ b. b && dependency_accepts d version) ((bytes_decides d.name d.name).1 refl)

pub some_text : (o : Option (List ℕ)) (t : List ℕ) → is_some o ≡ true → IfSome o (λ v. v ≡ t) → Some t ≡ o
some_text None t e h = absurd (true≢false (sym e))
some_text (Some v) t e h = ap Some (sym h)

pub read_text : (text : ℕ → ℕ → List ℕ) (r : RankedVersion) → is_some r.version ≡ true → HasVersionTextFrom text r → Some (text r.source r.word) ≡ r.version
read_text text r some read = some_text r.version (text r.source r.word) some read

pub text_moved : (o : Option (List ℕ)) (t u : List ℕ) → u ≡ t → IfSome o (λ v. v ≡ t) → IfSome o (λ v. v ≡ u)
text_moved None t u e h = tt
text_moved (Some v) t u e h = h ∙ sym e

-- what is read from a source is read by the function that gives its texts
pub read_by : (text : ℕ → ℕ → List ℕ) (r : RankedVersion) (source : Source) (place : ℕ) → GivesTextsOfSource source place text → r.source ≡ place → IfSome r.version (λ v. v ≡ text_in (value_at (payload_of source.adb) Text r.word)) → HasVersionTextFrom text r
read_by text r source place of is read =
    text_moved r.version (text_in (value_at (payload_of source.adb) Text r.word)) (text r.source r.word) (ap (λ (k : ℕ). text k r.word) is ∙ of r.word) read

pub same_place : (a b : ℕ × ℕ) → is_eq (text_place_cmp a b) ≡ true → (a.0 ≡ b.0) × (a.1 ≡ b.1)
same_place a b h = go (nat_cmp a.0 b.0) refl
  where
    go : (o : Ordering) → nat_cmp a.0 b.0 ≡ o → (a.0 ≡ b.0) × (a.1 ≡ b.1)
    go Less e = absurd (true≢false (sym h ∙ ap (λ (o : Ordering). is_eq (ordering_then o (nat_cmp a.1 b.1))) e))
    go Greater e = absurd (true≢false (sym h ∙ ap (λ (o : Ordering). is_eq (ordering_then o (nat_cmp a.1 b.1))) e))
    go Equal e =
        let word : is_eq (nat_cmp a.1 b.1) ≡ true = sym (ap (λ (o : Ordering). is_eq (ordering_then o (nat_cmp a.1 b.1))) e) ∙ h in
        let source : is_eq (nat_cmp a.0 b.0) ≡ true = ap is_eq e in
        (grind arith, grind arith)

-- one answer more is kept
pub answer_inserted : (d : Dependency) (text : ℕ → ℕ → List ℕ) (old new : BTreeMap (ℕ × ℕ) Bool) (k : ℕ × ℕ) (v : Bool)
    → ((source word : ℕ) (x : Bool) → get text_place_cmp old (source, word) ≡ Some x → x ≡ dependency_accepts d (Some (text source word)))
    → ((q : ℕ × ℕ) → get text_place_cmp new q ≡ cond (is_eq (text_place_cmp k q)) (Some v) (get text_place_cmp old q))
    → v ≡ dependency_accepts d (Some (text k.0 k.1))
    → (source word : ℕ) (x : Bool) → get text_place_cmp new (source, word) ≡ Some x → x ≡ dependency_accepts d (Some (text source word))
answer_inserted d text old new k v known updates has source word x at = go (is_eq (text_place_cmp k (source, word))) refl
  where
    go : (same : Bool) → is_eq (text_place_cmp k (source, word)) ≡ same → x ≡ dependency_accepts d (Some (text source word))
    go true e =
        let key = same_place k (source, word) e in
        let both : ◌≡◌ {A = Option Bool} (Some v) (Some x) = sym (updates (source, word) ∙ ap (λ (b : Bool). cond b (Some v) (get text_place_cmp old (source, word))) e) ∙ at in
        let value : v ≡ x = cc in
        sym value ∙ (has ∙ (ap (λ (s : ℕ). dependency_accepts d (Some (text s k.1))) key.0 ∙ ap (λ (w : ℕ). dependency_accepts d (Some (text source w))) key.1))
    go false e = known source word x (sym (updates (source, word) ∙ ap (λ (b : Bool). cond b (Some v) (get text_place_cmp old (source, word))) e) ∙ at)

-- if nothing is known, all that is known is right
pub known_of_nothing : (text : ℕ → ℕ → List ℕ) (need : Need) (known : KnownMatches) → ((t : ℕ → ℕ → List ℕ) (d : Dependency) → AreRememberedMatchesOf t d known) → AreMatchesFor text need known
known_of_nothing text (entry d) known h = h text d
known_of_nothing text (named name) known h = tt

-- ---- the entries of what a package provides

pub one_entry : (p : Dependency → Bool) (d : Dependency) (o : Option Dependency) (t : Bool) → Some d ≡ o → t ≡ p d → t ≡ list_any p (option_to_list o)
one_entry p d o t e is = is ∙ (sym (or-false (p d)) ∙ ap (λ (z : Option Dependency). list_any p (option_to_list z)) e)

pub no_entry : (p : Dependency → Bool) (o : Option Dependency) → None ≡ o → false ≡ list_any p (option_to_list o)
no_entry p o e = ap (λ (z : Option Dependency). list_any p (option_to_list z)) e

module _ (p : Dependency → Bool) where
  any_in_front : (o : Option Dependency) (xs ys : List Dependency) → (list_any p xs ≡ true → list_any p ys ≡ true) → list_any p (cons_option o xs) ≡ true → list_any p (cons_option o ys) ≡ true
  any_in_front None xs ys to h = to h
  any_in_front (Some x) xs ys to h = elim (cases_Bool (p x)) [
    | inl e ↦ rw e refl
    | inr e ↦ rw e (to (rw e at h))
  ]

  any_to : (n : ℕ) (values : Plains) → list_any p (dependencies_to n values) ≡ true → list_any p (dependencies_among_values values) ≡ true
  any_to zero values h = absurd (true≢false (sym h))
  any_to (suc n) none h = absurd (true≢false (sym h))
  any_to (suc n) (more v vs) h = any_in_front (dependency_in v) (dependencies_to n vs) (dependencies_among_values vs) (any_to n vs) h

  -- one entry more is answered
  pub any_next : (n : ℕ) (values : Plains) (value : Plain) (t : Bool) → n < count_of values → value ≡ nth values ((n + 1) - 1) → t ≡ list_any p (option_to_list (dependency_in value)) → list_any p (dependencies_to n values) ≡ false → list_any p (dependencies_to (n + 1) values) ≡ t
  any_next n values value t h at is before =
      ap (list_any p) (next_of p n values value (dependency_in value) h at refl)
      ∙ (list_any-append p (dependencies_to n values) (option_to_list (dependency_in value))
      ∙ (ap (λ b. b || list_any p (option_to_list (dependency_in value))) before ∙ sym is))

  pub any_of_all : (n : ℕ) (values : Plains) (value : Plain) (t : Bool) → n < count_of values → value ≡ nth values ((n + 1) - 1) → t ≡ list_any p (option_to_list (dependency_in value)) → list_any p (dependencies_to n values) ≡ false → t ≡ true → true ≡ list_any p (dependencies_among_values values)
  any_of_all n values value t h at is before passes = sym (any_to (n + 1) values (any_next n values value t h at is before ∙ passes))
