-- A package that no index has.
use Rattle.std.proofs.Common.{◌≡◌, ◌↔◌, ◌∙◌, ℕ, Bool, true, false, List, Option, Some, None, refl, ap, sym, true≢false}
use Rattle.std.specs.Prelude.{if◌then◌else◌, not, ◌&&◌, ◌||◌, is_some}
use Rattle.std.specs.List.{find, list_any}
use Rattle.std.specs.Str.{bytes_eq}
use Rattle.tell_core.proofs.Listers.{listed, is_listed}
use Rattle.adb_view.specs.Plain.{Plain}
use Rattle.base_core.specs.Lists.{IsIn}
use Rattle.tell_core.specs.candidate_core.Candidates.{Candidate, is_same_id_by_nonempty_prefix}
use Rattle.change_outcome.specs.db_core.Packages.{installed_id}
use Rattle.tell_core.specs.file_owners.Replaces.{package_version_text}
use Rattle.change_outcome.specs.package_changes.Changes.{Replacement, change_between, change_of_name, is_candidate_named, candidate_version_text, change_by_is_same_and_is_again}
use Rattle.report_core.specs.Reports.{Change, Reinstall}
use Rattle.definition_laws.specs.answers.WhichChange.{IsInstalledPackageOfNoRepositorySelected}

-- the change, by whether the name is asked for again
abbrev unless_again : List ℕ → Candidate → Bool → Option Change
unless_again name c again = if again then Some (Reinstall name (candidate_version_text c)) else None

itself : (r : Replacement) (name : List ℕ) (c : Candidate) → IsInstalledPackageOfNoRepositorySelected r name c → change_of_name r name ≡ unless_again name c (list_any (bytes_eq name) r.again)
unfolding change_of_name
itself r name c is =
    let again : Bool = list_any (bytes_eq name) r.again in
    let text : Bool = bytes_eq (package_version_text is.installed) (candidate_version_text c) in
    let id : Bool = is_same_id_by_nonempty_prefix (installed_id is.installed) c.id in
    ap (λ (o : Option Plain). change_between again name o (find (is_candidate_named name) r.selected)) is.before
    ∙ ap (λ (o : Option Candidate). change_between again name (Some is.installed) o) is.selected
    ∙ ap (λ (o : Option ℕ). change_by_is_same_and_is_again name is.installed c (not (is_some o) || (text && id)) again) is.repository

by_again : (name : List ℕ) (c : Candidate) (again : Bool)
    → ((unless_again name c again ≡ Some (Reinstall name (candidate_version_text c))) ↔ (again ≡ true)) × ((unless_again name c again ≡ None) ↔ (again ≡ true → ⊥))
by_again name c true = ((λ e. refl, λ e. refl), (λ e. absurd cc, λ f. absurd (f refl)))
by_again name c false = ((λ e. absurd cc, λ e. absurd (true≢false (sym e))), (λ e b. true≢false (sym b), λ f. refl))

pub again_itself : (r : Replacement) (name : List ℕ) (c : Candidate) → IsInstalledPackageOfNoRepositorySelected r name c → (change_of_name r name ≡ Some (Reinstall name (candidate_version_text c))) ↔ IsIn name r.again
again_itself r name c is =
    let law = (by_again name c (list_any (bytes_eq name) r.again)).0 in
    (λ e. listed name r.again (law.0 (sym (itself r name c is) ∙ e)), λ at. itself r name c is ∙ law.1 (is_listed name r.again at))

pub kept_itself : (r : Replacement) (name : List ℕ) (c : Candidate) → IsInstalledPackageOfNoRepositorySelected r name c → (change_of_name r name ≡ None) ↔ (IsIn name r.again → ⊥)
kept_itself r name c is =
    let law = (by_again name c (list_any (bytes_eq name) r.again)).1 in
    (λ e at. law.0 (sym (itself r name c is) ∙ e) (is_listed name r.again at), λ f. itself r name c is ∙ law.1 (λ b. f (listed name r.again b)))
