-- The changes of a report.
use Rattle.std.proofs.Common.{◌≡◌, ◌↔◌, inl, inr, ◌∙◌, ℕ, Bool, true, false, List, [], ◌∷◌, ◌++◌, map, Option, Some, None, refl, ap, sym}
use Rattle.std.specs.List.{cons_option, filter_map, find, list_any}
use Rattle.std.specs.Str.{bytes_eq}
use Rattle.std.specs.declared.cmp.Ordering.{Ordering}
use Rattle.std.specs.declared.cmp.Ordering.TheVariants.{Less, Equal, Greater}
use Rattle.change_outcome.specs.adb_fields.Repeated.{package_name}
use Rattle.adb_view.specs.Plain.{Plain}
use Rattle.base_core.proofs.Rising.{Rises, order, pairs_from_rises}
use Rattle.base_core.specs.Listed.{AreSortedDistinctTexts}
use Rattle.base_core.proofs.Rising as rising
use Rattle.base_core.specs.Lists.{IsIn}
use Rattle.tell_core.specs.candidate_core.Candidates.{Candidate}
use Rattle.change_outcome.proofs.own_core.InOrder.{in_order, order_rises, in_left, in_right}
use Rattle.change_outcome.specs.db_core.Packages.{is_package_named}
use Rattle.tell_core.specs.file_owners.Replaces.{package_version_text}
use Rattle.change_outcome.specs.package_changes.Changes.{Replacement, change_between, change_of_name, changes_of, is_candidate_this_package, is_candidate_named, names_before_and_selected, candidate_version_text, change_by_is_same_and_is_again, version_change, version_text_cmp}
use Rattle.report_core.specs.Reports.{Change, Install, Purge, Reinstall}
use Rattle.definition_laws.specs.answers.WhichChange.{HasInstallChange, HasPurgeChange, IsSelected, WasInstalled, changed_name}
use Rattle.definition_laws.proofs.answers.Members.{found_name, given_in, given_of, listed, missing_name}

-- ---- a change has the name that it is of

named_version : (name old new : List ℕ) (o : Ordering) → changed_name (version_change name old new o) ≡ name
named_version name old new Less = refl
named_version name old new Equal = refl
named_version name old new Greater = refl

named_same : (name : List ℕ) (pkg : Plain) (c : Candidate) (same again : Bool) (change : Change) → change_by_is_same_and_is_again name pkg c same again ≡ Some change → changed_name change ≡ name
named_same name pkg c false again change e =
    let is : version_change name (package_version_text pkg) (candidate_version_text c) (version_text_cmp (package_version_text pkg) (candidate_version_text c)) ≡ change = cc in
    sym (ap changed_name is) ∙ named_version name (package_version_text pkg) (candidate_version_text c) (version_text_cmp (package_version_text pkg) (candidate_version_text c))
named_same name pkg c true true change e = let is : Reinstall name (candidate_version_text c) ≡ change = cc in sym (ap changed_name is)
named_same name pkg c true false change e = absurd cc

named_between : (again : Bool) (name : List ℕ) (old : Option Plain) (new : Option Candidate) (change : Change) → change_between again name old new ≡ Some change → changed_name change ≡ name
named_between again name None None change e = absurd cc
named_between again name None (Some c) change e = let is : Install name (candidate_version_text c) ≡ change = cc in sym (ap changed_name is)
named_between again name (Some pkg) None change e = let is : Purge name (package_version_text pkg) ≡ change = cc in sym (ap changed_name is)
named_between again name (Some pkg) (Some c) change e = named_same name pkg c (is_candidate_this_package pkg c) again change e

named : (r : Replacement) (name : List ℕ) (change : Change) → change_of_name r name ≡ Some change → changed_name change ≡ name
unfolding change_of_name
named r name change e = named_between (list_any (bytes_eq name) r.again) name (find (is_package_named name) r.before) (find (is_candidate_named name) r.selected) change e

-- ---- a name that changes is on a side

on_a_side : (r : Replacement) (name : List ℕ) (change : Change) → change_of_name r name ≡ Some change → rising.IsIn name (names_before_and_selected r)
unfolding change_of_name
on_a_side r name change e = in_order name _ (go (find (is_package_named name) r.before) (find (is_candidate_named name) r.selected) refl refl e)
  where
    go : (old : Option Plain) (new : Option Candidate) → find (is_package_named name) r.before ≡ old → find (is_candidate_named name) r.selected ≡ new
        → change_between (list_any (bytes_eq name) r.again) name old new ≡ Some change
        → rising.IsIn name (map package_name r.before ++ map (λ (c : Candidate). c.name) r.selected)
    go (Some pkg) new is _ e = in_left name (map package_name r.before) _ (found_name package_name name r.before pkg is)
    go None (Some c) _ is e = in_right name (map package_name r.before) _ (found_name (λ (c : Candidate). c.name) name r.selected c is)
    go None None _ _ e = absurd cc

-- ---- the list

pub each_change : (r : Replacement) (change : Change) → IsIn change (changes_of r) ↔ (change_of_name r (changed_name change) ≡ Some change)
unfolding changes_of
each_change r change = (
  λ at.
      let g = given_of (change_of_name r) (names_before_and_selected r) change at in
      ap (change_of_name r) (named r g.from change g.given) ∙ g.given,
  λ e. given_in (change_of_name r) (names_before_and_selected r) (changed_name change) change (listed (changed_name change) (names_before_and_selected r) (on_a_side r (changed_name change) change e)) e,
)

-- the names of what some names give are among these
from_names : (h : List ℕ → Option Change) → ((name : List ℕ) (change : Change) → h name ≡ Some change → changed_name change ≡ name) → (names : List (List ℕ)) (q : List ℕ)
    → rising.IsIn q (map changed_name (filter_map h names)) → rising.IsIn q names
from_names h named [] q at = absurd at
from_names h named (x ∷ names) q at = go (h x) refl (from_names h named names q) at
  where
    go : (o : Option Change) → h x ≡ o → (rising.IsIn q (map changed_name (filter_map h names)) → rising.IsIn q names)
        → rising.IsIn q (map changed_name (cons_option o (filter_map h names))) → rising.IsIn q (x ∷ names)
    go None is later at = inr (later at)
    go (Some change) is later (inl same) = inl (same ∙ named x change is)
    go (Some change) is later (inr more) = inr (later more)

given_rise : (h : List ℕ → Option Change) → ((name : List ℕ) (change : Change) → h name ≡ Some change → changed_name change ≡ name) → (names : List (List ℕ))
    → Rises names → Rises (map changed_name (filter_map h names))
given_rise h named [] rises = tt
given_rise h named (x ∷ names) rises = go (h x) refl (given_rise h named names rises.1)
  where
    go : (o : Option Change) → h x ≡ o → Rises (map changed_name (filter_map h names)) → Rises (map changed_name (cons_option o (filter_map h names)))
    go None is later = later
    go (Some change) is later = (
      λ q at. ap (λ n. order n q) (named x change is) ∙ rises.0 q (from_names h named names q at),
      later,
    )

pub changes_rise : (r : Replacement) → AreSortedDistinctTexts (map changed_name (changes_of r))
unfolding changes_of
changes_rise r =
    pairs_from_rises (map changed_name (filter_map (change_of_name r) (names_before_and_selected r)))
    (given_rise (change_of_name r) (named r) (names_before_and_selected r) (order_rises _))

-- ---- a name on one side, or on none

abbrev Before : Replacement → List ℕ → Type 0
Before r name = IsIn name (map package_name r.before)

abbrev Selected : Replacement → List ℕ → Type 0
Selected r name = IsIn name (map (λ (c : Candidate). c.name) r.selected)

never_same : (name : List ℕ) (pkg : Plain) (c : Candidate) (same again : Bool) (version : List ℕ)
    → (change_by_is_same_and_is_again name pkg c same again ≡ Some (Purge name version) → ⊥) × (change_by_is_same_and_is_again name pkg c same again ≡ Some (Install name version) → ⊥)
never_same name pkg c true true version = (λ e. absurd cc, λ e. absurd cc)
never_same name pkg c true false version = (λ e. absurd cc, λ e. absurd cc)
never_same name pkg c false again version = go (version_text_cmp (package_version_text pkg) (candidate_version_text c))
  where
    go : (o : Ordering) → (Some (version_change name (package_version_text pkg) (candidate_version_text c) o) ≡ Some (Purge name version) → ⊥)
        × (Some (version_change name (package_version_text pkg) (candidate_version_text c) o) ≡ Some (Install name version) → ⊥)
    go Less = (λ e. absurd cc, λ e. absurd cc)
    go Equal = (λ e. absurd cc, λ e. absurd cc)
    go Greater = (λ e. absurd cc, λ e. absurd cc)

record Sides (r : Replacement) (name : List ℕ) (o : Option Change) : Type 0 where
  purge : ((version : List ℕ) × (o ≡ Some (Purge name version))) ↔ (Before r name × (Selected r name → ⊥))
  install : ((version : List ℕ) × (o ≡ Some (Install name version))) ↔ (Selected r name × (Before r name → ⊥))
  absent : (Before r name → ⊥) → (Selected r name → ⊥) → o ≡ None

sides : (r : Replacement) (name : List ℕ) → Sides r name (change_of_name r name)
unfolding change_of_name
sides r name = go (list_any (bytes_eq name) r.again) (find (is_package_named name) r.before) (find (is_candidate_named name) r.selected) refl refl
  where
    was : (pkg : Plain) → find (is_package_named name) r.before ≡ Some pkg → Before r name
    was pkg is = listed name (map package_name r.before) (found_name package_name name r.before pkg is)

    chosen : (c : Candidate) → find (is_candidate_named name) r.selected ≡ Some c → Selected r name
    chosen c is = listed name (map (λ (c : Candidate). c.name) r.selected) (found_name (λ (c : Candidate). c.name) name r.selected c is)

    was_not : find (is_package_named name) r.before ≡ None → Before r name → ⊥
    was_not is = missing_name package_name name r.before is

    not_chosen : find (is_candidate_named name) r.selected ≡ None → Selected r name → ⊥
    not_chosen is = missing_name (λ (c : Candidate). c.name) name r.selected is

    go : (again : Bool) (old : Option Plain) (new : Option Candidate) → find (is_package_named name) r.before ≡ old → find (is_candidate_named name) r.selected ≡ new
        → Sides r name (change_between again name old new)
    go again None None is are = record {
      purge = (λ e. let u = e.1 in absurd cc, λ e. absurd (was_not is e.0));
      install = (λ e. let u = e.1 in absurd cc, λ e. absurd (not_chosen are e.0));
      absent = λ a b. refl;
    }
    go again None (Some c) is are = record {
      purge = (λ e. let u = e.1 in absurd cc, λ e. absurd (was_not is e.0));
      install = (λ e. (chosen c are, was_not is), λ e. (candidate_version_text c, refl));
      absent = λ a b. absurd (b (chosen c are));
    }
    go again (Some pkg) None is are = record {
      purge = (λ e. (was pkg is, not_chosen are), λ e. (package_version_text pkg, refl));
      install = (λ e. let u = e.1 in absurd cc, λ e. absurd (not_chosen are e.0));
      absent = λ a b. absurd (a (was pkg is));
    }
    go again (Some pkg) (Some c) is are = record {
      purge = (λ e. absurd ((never_same name pkg c (is_candidate_this_package pkg c) again e.0).0 e.1), λ e. absurd (e.1 (chosen c are)));
      install = (λ e. absurd ((never_same name pkg c (is_candidate_this_package pkg c) again e.0).1 e.1), λ e. absurd (e.1 (was pkg is)));
      absent = λ a b. absurd (a (was pkg is));
    }

pub purged : (r : Replacement) (name : List ℕ) → HasPurgeChange r name ↔ (WasInstalled r name × (IsSelected r name → ⊥))
purged r name = (sides r name).purge

pub installed : (r : Replacement) (name : List ℕ) → HasInstallChange r name ↔ (IsSelected r name × (WasInstalled r name → ⊥))
installed r name = (sides r name).install

pub absent : (r : Replacement) (name : List ℕ) → (WasInstalled r name → ⊥) → (IsSelected r name → ⊥) → change_of_name r name ≡ None
absent r name = (sides r name).absent

pub purged_version : (r : Replacement) (name : List ℕ) (pkg : Plain) → find (is_package_named name) r.before ≡ Some pkg → find (is_candidate_named name) r.selected ≡ None → change_of_name r name ≡ Some (Purge name (package_version_text pkg))
unfolding change_of_name
purged_version r name pkg is are =
    ap (λ (o : Option Plain). change_between (list_any (bytes_eq name) r.again) name o (find (is_candidate_named name) r.selected)) is
    ∙ ap (change_between (list_any (bytes_eq name) r.again) name (Some pkg)) are

pub installed_version : (r : Replacement) (name : List ℕ) (c : Candidate) → find (is_package_named name) r.before ≡ None → find (is_candidate_named name) r.selected ≡ Some c → change_of_name r name ≡ Some (Install name (candidate_version_text c))
unfolding change_of_name
installed_version r name c is are =
    ap (λ (o : Option Plain). change_between (list_any (bytes_eq name) r.again) name o (find (is_candidate_named name) r.selected)) is
    ∙ ap (change_between (list_any (bytes_eq name) r.again) name None) are
