-- Which of two packages takes over files.
use Rattle.std.proofs.Common.{◌≡◌, inl, inr, ◌↔◌, ◌∙◌, ℕ, ◌<◌, Bool, true, false, List, Option, Some, None, refl, ap, sym, true≢false}
use Rattle.std.specs.Prelude.{◌==◌, ◌&&◌, ◌||◌, not, nat_lt}
use Rattle.std.specs.List.{list_any}
use Rattle.std.specs.Ordering.{is_lt}
use Rattle.std.specs.Str.{bytes_eq}
use Rattle.std.specs.declared.cmp.Ordering.TheVariants.{Less}
use Rattle.std.proofs.lemmas.Bool.{eq-eqb, lt-ltb, not-true, and_from, and_parts, not_from_false}
use Rattle.std.proofs.lemmas.Slice.Eq.{bytes_eq-Decides}
use Rattle.change_outcome.specs.adb_fields.Repeated.{entries_of_field_at_index, package_name}
use Rattle.tell_core.specs.adb_schema.Dependencies.{dependency_in}
use Rattle.adb_view.specs.FieldIndexes.{INFO_REPLACES_INDEX, PACKAGE_INFO_INDEX}
use Rattle.adb_view.specs.Plain.{Plain}
use Rattle.adb_view.specs.Values.{entry_at_index}
use Rattle.base_core.specs.ByteOrder.{bytes_cmp, precedes}
use Rattle.base_core.proofs.Booleans.{either_true}
use Rattle.dep_core.specs.Dependency.{Dependency}
use Rattle.dep_core.specs.Meets.{constraint_accepts, meets}
use Rattle.tell_core.specs.file_owners.Replaces.{does_replaces_entry_name_package, is_preferred_by_priority_or_later_name, is_package_met_by_replaces_entry, does_first_list_second_in_replaces, replacing_priority, takes_over, package_version_text}
use Rattle.version_core.specs.Order.{is_version}
use Rattle.definition_laws.specs.answers.ReplacesEntries.{HasReplacesEntryForOther}
use Rattle.definition_laws.proofs.answers.Tests.{any_passes, passes_any}

-- ---- by name and version

-- a dependency that is read, and what it accepts
record IsAccepting (entry : Plain) (name version : List ℕ) : Type 0 where
  dependency : Dependency
  read : dependency_in entry ≡ Some dependency
  positive : dependency.conflict ≡ false
  named : dependency.name ≡ name
  wanted : constraint_accepts dependency.version dependency.bits (Some version) ≡ true

accepting : (entry : Plain) (name version : List ℕ) → is_package_met_by_replaces_entry (dependency_in entry) name version ≡ true → IsAccepting entry name version
accepting entry name version e = go (dependency_in entry) refl e
  where
    go : (o : Option Dependency) → dependency_in entry ≡ o → is_package_met_by_replaces_entry o name version ≡ true → IsAccepting entry name version
    go None is e = absurd (true≢false (sym e))
    go (Some d) is e =
        let t = and_parts (not d.conflict) (meets d name (Some version)) e in
        let u = and_parts (bytes_eq d.name name) (constraint_accepts d.version d.bits (Some version)) t.1 in
        record { dependency = d; read = is; positive = not-true d.conflict t.0; named = (bytes_eq-Decides d.name name).0 u.0; wanted = u.1 }

accepted : (entry : Plain) (name version : List ℕ) (d : Dependency) → dependency_in entry ≡ Some d → d.conflict ≡ false → d.name ≡ name → constraint_accepts d.version d.bits (Some version) ≡ true
    → is_package_met_by_replaces_entry (dependency_in entry) name version ≡ true
accepted entry name version d read positive named wanted =
    ap (λ (o : Option Dependency). is_package_met_by_replaces_entry o name version) read
    ∙ and_from (not d.conflict) (meets d name (Some version)) (not_from_false d.conflict positive)
    (and_from (bytes_eq d.name name) (constraint_accepts d.version d.bits (Some version)) ((bytes_eq-Decides d.name name).1 named) wanted)

pub named_in : (x y : Plain) → (does_first_list_second_in_replaces x y ≡ true) ↔ HasReplacesEntryForOther x y
unfolding does_first_list_second_in_replaces
named_in x y = (
  λ e.
      let h = any_passes (λ (entry : Plain). does_replaces_entry_name_package entry y) (entries_of_field_at_index INFO_REPLACES_INDEX (entry_at_index x PACKAGE_INFO_INDEX)) e in
      let t = and_parts (is_version (package_version_text y)) (is_package_met_by_replaces_entry (dependency_in h.element) (package_name y) (package_version_text y)) h.passes in
      let a = accepting h.element (package_name y) (package_version_text y) t.1 in
      record {
        entry = h.element;
        listed = h.listed;
        dependency = a.dependency;
        read = a.read;
        positive = a.positive;
        name = a.named;
        version = t.0;
        wanted = a.wanted;
      },
  λ n.
      passes_any (λ (entry : Plain). does_replaces_entry_name_package entry y) (entries_of_field_at_index INFO_REPLACES_INDEX (entry_at_index x PACKAGE_INFO_INDEX)) n.entry n.listed
      (and_from (is_version (package_version_text y)) (is_package_met_by_replaces_entry (dependency_in n.entry) (package_name y) (package_version_text y)) n.version
      (accepted n.entry (package_name y) (package_version_text y) n.dependency n.read n.positive n.name n.wanted)),
)

-- the test by a name and a version alone
abbrev names_text : Plain → List ℕ → List ℕ → Bool
names_text x name version =
    list_any (λ (entry : Plain). is_version version && is_package_met_by_replaces_entry (dependency_in entry) name version) (entries_of_field_at_index INFO_REPLACES_INDEX (entry_at_index x PACKAGE_INFO_INDEX))

pub own : (x y z : Plain) → package_name y ≡ package_name z → package_version_text y ≡ package_version_text z → does_first_list_second_in_replaces x y ≡ does_first_list_second_in_replaces x z
unfolding does_first_list_second_in_replaces
own x y z name version = ap (λ (n : List ℕ). names_text x n (package_version_text y)) name ∙ ap (names_text x (package_name z)) version

-- ---- who is preferred

pub unnamed : (x y : Plain) → does_first_list_second_in_replaces x y ≡ false → takes_over x y ≡ false
unfolding takes_over
unnamed x y e = ap (λ (b : Bool). b && (not (does_first_list_second_in_replaces y x) || is_preferred_by_priority_or_later_name x y)) e

pub alone : (x y : Plain) → does_first_list_second_in_replaces x y ≡ true → does_first_list_second_in_replaces y x ≡ false → takes_over x y ≡ true
unfolding takes_over
alone x y e f = and_from (does_first_list_second_in_replaces x y) (not (does_first_list_second_in_replaces y x) || is_preferred_by_priority_or_later_name x y) e (either_true (not (does_first_list_second_in_replaces y x)) (is_preferred_by_priority_or_later_name x y) (inl (not_from_false (does_first_list_second_in_replaces y x) f)))

by_preference : (x y : Plain) → does_first_list_second_in_replaces x y ≡ true → is_preferred_by_priority_or_later_name x y ≡ true → takes_over x y ≡ true
unfolding takes_over
by_preference x y e p = and_from (does_first_list_second_in_replaces x y) (not (does_first_list_second_in_replaces y x) || is_preferred_by_priority_or_later_name x y) e (either_true (not (does_first_list_second_in_replaces y x)) (is_preferred_by_priority_or_later_name x y) (inr p))

pub priority : (x y : Plain) → does_first_list_second_in_replaces x y ≡ true → does_first_list_second_in_replaces y x ≡ true → replacing_priority y < replacing_priority x → takes_over x y ≡ true
unfolding is_preferred_by_priority_or_later_name
priority x y e f less =
    by_preference x y e
    (either_true (nat_lt (replacing_priority y) (replacing_priority x)) ((replacing_priority x == replacing_priority y) && precedes (package_name y) (package_name x))
    (inl (lt-ltb (replacing_priority y) (replacing_priority x) less)))

pub later : (x y : Plain) → does_first_list_second_in_replaces x y ≡ true → does_first_list_second_in_replaces y x ≡ true → replacing_priority x ≡ replacing_priority y → bytes_cmp (package_name y) (package_name x) ≡ Less → takes_over x y ≡ true
unfolding is_preferred_by_priority_or_later_name
later x y e f same order =
    by_preference x y e
    (either_true (nat_lt (replacing_priority y) (replacing_priority x)) ((replacing_priority x == replacing_priority y) && precedes (package_name y) (package_name x))
    (inr (and_from (replacing_priority x == replacing_priority y) (precedes (package_name y) (package_name x)) (eq-eqb (replacing_priority x) (replacing_priority y) same) (ap is_lt order))))
