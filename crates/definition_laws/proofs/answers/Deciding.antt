-- The order of versions decides the change.
use Rattle.std.proofs.Common.{◌≡◌, ◌↔◌, ◌∙◌, ℕ, Bool, true, false, List, Option, Some, None, refl, ap, sym, true≢false}
use Rattle.std.specs.Prelude.{if◌then◌else◌, not, ◌&&◌, ◌||◌}
use Rattle.std.specs.List.{find, list_any}
use Rattle.std.specs.Option.{option_cmp}
use Rattle.std.specs.Str.{bytes_eq}
use Rattle.std.specs.declared.cmp.Ordering.{Ordering}
use Rattle.std.specs.declared.cmp.Ordering.TheVariants.{Less, Equal, Greater}
use Rattle.std.proofs.lemmas.Cmp.{tied_itself}
use Rattle.std.proofs.lemmas.Slice.Eq.{bytes_eq-Decides}
use Rattle.tell_core.proofs.Listers.{listed, is_listed}
use Rattle.version_core.proofs.OrderLaws.{version_cmp-total}
use Rattle.version_core.specs.Order.{is_version, version_cmp}
use Rattle.adb_view.specs.Plain.{Plain}
use Rattle.tell_core.specs.candidate_core.Candidates.{Candidate, is_same_id_by_nonempty_prefix, version_of_text}
use Rattle.change_outcome.specs.db_core.Packages.{installed_id}
use Rattle.tell_core.specs.file_owners.Replaces.{package_version_text}
use Rattle.change_outcome.specs.package_changes.Changes.{Replacement, change_between, change_of_name, is_candidate_named, candidate_version_text, change_by_is_same_and_is_again, version_change, version_text_cmp}
use Rattle.report_core.specs.Reports.{Change, Downgrade, Reinstall, Replace, Upgrade}
use Rattle.base_core.specs.Lists.{IsIn}
use Rattle.definition_laws.specs.answers.WhichChange.{AreOldAndRepositoryOneWithValidVersions, IsSameVersionAndIdByNonemptyPrefix}

-- the change, by the test of the text, that of the id, whether the name is asked for again, and the order
abbrev decided : List ℕ → List ℕ → List ℕ → Bool → Bool → Bool → Ordering → Option Change
decided name old new text id again order =
    if not (text && id) then Some (version_change name old new order) else if again then Some (Reinstall name new) else None

text_is : (t : List ℕ) → is_version t ≡ true → version_of_text t ≡ Some t
text_is t e = go (is_version t) e
  where
    go : (b : Bool) → b ≡ true → (if b then Some t else None) ≡ Some t
    go true e = refl
    go false e = absurd (true≢false (sym e))

order_is : (old new : List ℕ) → is_version old ≡ true → is_version new ≡ true → version_text_cmp old new ≡ version_cmp old new
order_is old new e f =
    ap (λ (o : Option (List ℕ)). option_cmp version_cmp o (version_of_text new)) (text_is old e)
    ∙ ap (λ (o : Option (List ℕ)). option_cmp version_cmp (Some old) o) (text_is new f)

-- the tests of a name with both versions
record Tests (r : Replacement) (name : List ℕ) (pkg : Plain) (c : Candidate) : Type 0 where
  change : change_of_name r name
      ≡ decided name (package_version_text pkg) (candidate_version_text c) (bytes_eq (package_version_text pkg) (candidate_version_text c))
      (is_same_id_by_nonempty_prefix (installed_id pkg) c.id) (list_any (bytes_eq name) r.again) (version_cmp (package_version_text pkg) (candidate_version_text c))
  tied : bytes_eq (package_version_text pkg) (candidate_version_text c) ≡ true → version_cmp (package_version_text pkg) (candidate_version_text c) ≡ Equal

tests : (r : Replacement) (name : List ℕ) (pkg : Plain) (c : Candidate) → AreOldAndRepositoryOneWithValidVersions r name pkg c → Tests r name pkg c
unfolding change_of_name
tests r name pkg c both =
    let again : Bool = list_any (bytes_eq name) r.again in
    let text : Bool = bytes_eq (package_version_text pkg) (candidate_version_text c) in
    let id : Bool = is_same_id_by_nonempty_prefix (installed_id pkg) c.id in
    record {
      change =
          ap (λ (o : Option Plain). change_between again name o (find (is_candidate_named name) r.selected)) both.before
          ∙ ap (λ (o : Option Candidate). change_between again name (Some pkg) o) both.selected
          ∙ ap (λ (b : Bool). change_by_is_same_and_is_again name pkg c (not b || (text && id)) again) both.repository
          ∙ ap (λ (o : Ordering). decided name (package_version_text pkg) (candidate_version_text c) text id again o)
          (order_is (package_version_text pkg) (candidate_version_text c) both.old both.new);
      tied = λ same.
          ap (version_cmp (package_version_text pkg)) (sym ((bytes_eq-Decides (package_version_text pkg) (candidate_version_text c)).0 same))
          ∙ tied_itself version_cmp-total (package_version_text pkg);
    }

-- ---- each kind, by the tests

is_upgrade : (name old new : List ℕ) (text id again : Bool) (order : Ordering) → (text ≡ true → order ≡ Equal)
    → (decided name old new text id again order ≡ Some (Upgrade name old new)) ↔ (order ≡ Less)
is_upgrade name old new true true true order tied = (λ e. absurd cc, λ e. let t = tied refl in absurd cc)
is_upgrade name old new true true false order tied = (λ e. absurd cc, λ e. let t = tied refl in absurd cc)
is_upgrade name old new true false again Less tied = (λ e. refl, λ e. refl)
is_upgrade name old new true false again Equal tied = (λ e. absurd cc, λ e. absurd cc)
is_upgrade name old new true false again Greater tied = (λ e. absurd cc, λ e. absurd cc)
is_upgrade name old new false id again Less tied = (λ e. refl, λ e. refl)
is_upgrade name old new false id again Equal tied = (λ e. absurd cc, λ e. absurd cc)
is_upgrade name old new false id again Greater tied = (λ e. absurd cc, λ e. absurd cc)

is_downgrade : (name old new : List ℕ) (text id again : Bool) (order : Ordering) → (text ≡ true → order ≡ Equal)
    → (decided name old new text id again order ≡ Some (Downgrade name old new)) ↔ (order ≡ Greater)
is_downgrade name old new true true true order tied = (λ e. absurd cc, λ e. let t = tied refl in absurd cc)
is_downgrade name old new true true false order tied = (λ e. absurd cc, λ e. let t = tied refl in absurd cc)
is_downgrade name old new true false again Less tied = (λ e. absurd cc, λ e. absurd cc)
is_downgrade name old new true false again Equal tied = (λ e. absurd cc, λ e. absurd cc)
is_downgrade name old new true false again Greater tied = (λ e. refl, λ e. refl)
is_downgrade name old new false id again Less tied = (λ e. absurd cc, λ e. absurd cc)
is_downgrade name old new false id again Equal tied = (λ e. absurd cc, λ e. absurd cc)
is_downgrade name old new false id again Greater tied = (λ e. refl, λ e. refl)

-- both tests hold
abbrev Both : Bool → Bool → Type 0
Both text id = (text ≡ true) × (id ≡ true)

is_replace : (name old new : List ℕ) (text id again : Bool) (order : Ordering)
    → (decided name old new text id again order ≡ Some (Replace name old new)) ↔ ((order ≡ Equal) × (Both text id → ⊥))
is_replace name old new true true true order = (λ e. absurd cc, λ e. absurd (e.1 (refl, refl)))
is_replace name old new true true false order = (λ e. absurd cc, λ e. absurd (e.1 (refl, refl)))
is_replace name old new true false again Less = (λ e. absurd cc, λ e. let t = e.0 in absurd cc)
is_replace name old new true false again Equal = (λ e. (refl, λ b. true≢false (sym b.1)), λ e. refl)
is_replace name old new true false again Greater = (λ e. absurd cc, λ e. let t = e.0 in absurd cc)
is_replace name old new false id again Less = (λ e. absurd cc, λ e. let t = e.0 in absurd cc)
is_replace name old new false id again Equal = (λ e. (refl, λ b. true≢false (sym b.0)), λ e. refl)
is_replace name old new false id again Greater = (λ e. absurd cc, λ e. let t = e.0 in absurd cc)

no_version_change : (name old new : List ℕ) (order : Ordering) → Some (version_change name old new order) ≡ Some (Reinstall name new) → ⊥
no_version_change name old new Less e = absurd cc
no_version_change name old new Equal e = absurd cc
no_version_change name old new Greater e = absurd cc

is_reinstall : (name old new : List ℕ) (text id again : Bool) (order : Ordering)
    → (decided name old new text id again order ≡ Some (Reinstall name new)) ↔ (Both text id × (again ≡ true))
is_reinstall name old new true true true order = (λ e. ((refl, refl), refl), λ e. refl)
is_reinstall name old new true true false order = (λ e. absurd cc, λ e. absurd (true≢false (sym e.1)))
is_reinstall name old new true false again order = (λ e. absurd (no_version_change name old new order e), λ e. absurd (true≢false (sym e.0.1)))
is_reinstall name old new false id again order = (λ e. absurd (no_version_change name old new order e), λ e. absurd (true≢false (sym e.0.0)))

is_kept : (name old new : List ℕ) (text id again : Bool) (order : Ordering)
    → (decided name old new text id again order ≡ None) ↔ (Both text id × (again ≡ true → ⊥))
is_kept name old new true true true order = (λ e. absurd cc, λ e. absurd (e.1 refl))
is_kept name old new true true false order = (λ e. ((refl, refl), λ b. true≢false (sym b)), λ e. refl)
is_kept name old new true false again order = (λ e. absurd cc, λ e. absurd (true≢false (sym e.0.1)))
is_kept name old new false id again order = (λ e. absurd cc, λ e. absurd (true≢false (sym e.0.0)))

-- ---- each kind, in the words of the law

abbrev pub Kind : (Replacement → List ℕ → Plain → Candidate → Type 0) → Type 0
Kind P = (r : Replacement) (name : List ℕ) (pkg : Plain) (c : Candidate) → AreOldAndRepositoryOneWithValidVersions r name pkg c → P r name pkg c

pub upgrades : Kind (λ r name pkg c. (change_of_name r name ≡ Some (Upgrade name (package_version_text pkg) (candidate_version_text c))) ↔ (version_cmp (package_version_text pkg) (candidate_version_text c) ≡ Less))
upgrades r name pkg c both =
    let t = tests r name pkg c both in
    let is = is_upgrade name _ _ _ _ _ _ t.tied in
    (λ e. is.0 (sym t.change ∙ e), λ e. t.change ∙ is.1 e)

pub downgrades : Kind (λ r name pkg c. (change_of_name r name ≡ Some (Downgrade name (package_version_text pkg) (candidate_version_text c))) ↔ (version_cmp (package_version_text pkg) (candidate_version_text c) ≡ Greater))
downgrades r name pkg c both =
    let t = tests r name pkg c both in
    let is = is_downgrade name _ _ _ _ _ _ t.tied in
    (λ e. is.0 (sym t.change ∙ e), λ e. t.change ∙ is.1 e)

-- the two tests say that the candidate is the package
very : (pkg : Plain) (c : Candidate) → Both (bytes_eq (package_version_text pkg) (candidate_version_text c)) (is_same_id_by_nonempty_prefix (installed_id pkg) c.id) → IsSameVersionAndIdByNonemptyPrefix pkg c
very pkg c b = ((bytes_eq-Decides (package_version_text pkg) (candidate_version_text c)).0 b.0, b.1)

tested : (pkg : Plain) (c : Candidate) → IsSameVersionAndIdByNonemptyPrefix pkg c → Both (bytes_eq (package_version_text pkg) (candidate_version_text c)) (is_same_id_by_nonempty_prefix (installed_id pkg) c.id)
tested pkg c v = ((bytes_eq-Decides (package_version_text pkg) (candidate_version_text c)).1 v.0, v.1)

pub replaces : Kind (λ r name pkg c. (change_of_name r name ≡ Some (Replace name (package_version_text pkg) (candidate_version_text c)))
    ↔ ((version_cmp (package_version_text pkg) (candidate_version_text c) ≡ Equal) × (IsSameVersionAndIdByNonemptyPrefix pkg c → ⊥)))
replaces r name pkg c both =
    let t = tests r name pkg c both in
    let is = is_replace name (package_version_text pkg) (candidate_version_text c) (bytes_eq (package_version_text pkg) (candidate_version_text c)) (is_same_id_by_nonempty_prefix (installed_id pkg) c.id) (list_any (bytes_eq name) r.again) (version_cmp (package_version_text pkg) (candidate_version_text c)) in
    (λ e. let u = is.0 (sym t.change ∙ e) in (u.0, λ v. u.1 (tested pkg c v)), λ e. t.change ∙ is.1 (e.0, λ b. e.1 (very pkg c b)))

pub reinstalls : Kind (λ r name pkg c. (change_of_name r name ≡ Some (Reinstall name (candidate_version_text c))) ↔ (IsSameVersionAndIdByNonemptyPrefix pkg c × IsIn name r.again))
reinstalls r name pkg c both =
    let t = tests r name pkg c both in
    let is = is_reinstall name (package_version_text pkg) (candidate_version_text c) (bytes_eq (package_version_text pkg) (candidate_version_text c)) (is_same_id_by_nonempty_prefix (installed_id pkg) c.id) (list_any (bytes_eq name) r.again) (version_cmp (package_version_text pkg) (candidate_version_text c)) in
    (λ e. let u = is.0 (sym t.change ∙ e) in (very pkg c u.0, listed name r.again u.1), λ e. t.change ∙ is.1 (tested pkg c e.0, is_listed name r.again e.1))

pub keeps : Kind (λ r name pkg c. (change_of_name r name ≡ None) ↔ (IsSameVersionAndIdByNonemptyPrefix pkg c × (IsIn name r.again → ⊥)))
keeps r name pkg c both =
    let t = tests r name pkg c both in
    let is = is_kept name (package_version_text pkg) (candidate_version_text c) (bytes_eq (package_version_text pkg) (candidate_version_text c)) (is_same_id_by_nonempty_prefix (installed_id pkg) c.id) (list_any (bytes_eq name) r.again) (version_cmp (package_version_text pkg) (candidate_version_text c)) in
    (λ e. let u = is.0 (sym t.change ∙ e) in (very pkg c u.0, λ b. u.1 (is_listed name r.again b)), λ e. t.change ∙ is.1 (tested pkg c e.0, λ b. e.1 (listed name r.again b)))
