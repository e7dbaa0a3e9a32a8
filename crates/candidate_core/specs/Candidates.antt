-- The packages of which a selection consists, and what each of them meets (apk-package(5),
-- apk-world(5)). The rules are in `docs/selection.md`, "What there is to choose from", and, for
-- install-if and for names that are occupied, "What satisfies world", 3 and 4. The fields are those of
-- `docs/formats.md`, "Schemas", table 3.
use Rattle.std.specs.Prelude.{ℕ, ◌==◌, nat_eq, nat_lt, Bool, true, false, not, ◌&&◌, ◌||◌, if◌then◌else◌, List, [], ◌∷◌, ◌++◌, length, Option, Some, None, is_some}
use Rattle.std.specs.Option.{option_and_then, option_map_or}
use Rattle.std.specs.List.{cons_option, filter, find, list_all, list_any, starts_with}
use Rattle.std.specs.Str.{bytes_eq}
use Rattle.adb_view.specs.Plain.{Plain, Plains, none, more}
use Rattle.adb_view.specs.FieldIndexes.{INFO_DEPENDS_INDEX, INFO_HASHES_INDEX, INFO_INSTALL_IF_INDEX, INFO_NAME_INDEX, INFO_PROVIDER_PRIORITY_INDEX, INFO_PROVIDES_INDEX, INFO_VERSION_INDEX}
use Rattle.adb_view.specs.Values.{entries_in, entry_at_index, int_in, text_in}
use Rattle.version_core.specs.Order.{is_version}
use Rattle.dep_core.specs.Dependency.{Dependency}
use Rattle.dep_core.specs.Meets.{meets}
pub use Rattle.adb_schema.specs.Dependencies.{dependency_in}

-- a package to choose from. `info` is its information in its index, or in the database; the parts from the name to
-- the priority are read from it. The version is None only if the text is no version, which never happens in a tested
-- container. Repositories count from 1; an installed package that no index has is from none
pub record Candidate : Type 0 where
  -- the package's information, as a plain value of its index or of the database
  pub info : Plain
  -- the package's name
  pub name : List ℕ
  -- the text of the package's version; None if the text is no version
  pub version : Option (List ℕ)
  -- the package's id, which may be empty, or a prefix of the whole id
  pub id : List ℕ
  -- the dependencies of the package, its conflicts among them
  pub depends : List Dependency
  -- what the package provides: names, each with or without a version
  pub provides : List Dependency
  -- the install-if of the package: if each of these dependencies is met, the name of the package is needed
  pub install_if : List Dependency
  -- the package's `provider-priority`: the greater is preferred (key 6 of the order of options)
  pub priority : ℕ
  -- the number of the package's repository, counted from 1; None if the package is from no repository
  pub repository : Option ℕ
  -- the tag of this repository; None if there is no repository or no tag
  pub tag : Option (List ℕ)
  -- whether the package is installed
  pub installed : Bool

-- ---- the parts of a package's information

-- the version with this text; None if the text is no version
abbrev pub version_of_text : List ℕ → Option (List ℕ)
version_of_text text = if is_version text then Some text else None

-- the dependencies to which these values of an array refer; a value that is no dependency is left out, and no tested
-- container has one
abbrev pub dependencies_among_values : Plains → List Dependency
dependencies_among_values none = []
dependencies_among_values (more value values) =
    cons_option (dependency_in value) (dependencies_among_values values)

-- the dependencies in the value of one field of a package's information, such as its `depends`
abbrev pub dependencies_in_list_value : Plain → List Dependency
dependencies_in_list_value value = dependencies_among_values (entries_in value)

-- a candidate from its parts, in the order of the fields of *Candidate*
abbrev pub candidate_from_parts :
    Plain → List ℕ → Option (List ℕ) → List ℕ →
    List Dependency → List Dependency → List Dependency →
    ℕ → Option ℕ → Option (List ℕ) → Bool → Candidate
candidate_from_parts info name version id depends provides install_if priority repository tag installed =
    record {
      info = info;
      name = name;
      version = version;
      id = id;
      depends = depends;
      provides = provides;
      install_if = install_if;
      priority = priority;
      repository = repository;
      tag = tag;
      installed = installed;
    }

-- the candidate with this information, of a repository, with the repository's tag, and installed or not
abbrev pub candidate_of : Plain → Option ℕ → Option (List ℕ) → Bool → Candidate
candidate_of info repository tag installed =
    candidate_from_parts info (text_in (entry_at_index info INFO_NAME_INDEX))
    (version_of_text (text_in (entry_at_index info INFO_VERSION_INDEX)))
    (text_in (entry_at_index info INFO_HASHES_INDEX))
    (dependencies_in_list_value (entry_at_index info INFO_DEPENDS_INDEX))
    (dependencies_in_list_value (entry_at_index info INFO_PROVIDES_INDEX))
    (dependencies_in_list_value (entry_at_index info INFO_INSTALL_IF_INDEX))
    (int_in (entry_at_index info INFO_PROVIDER_PRIORITY_INDEX)) repository tag installed

-- ---- the list: the packages of each index, then the installed ones that no index has

-- the candidates of a repository's index, with the repository's number and tag: the packages of the index, in its
-- order, none of them marked as installed yet
abbrev pub candidates_of_index : ℕ → Option (List ℕ) → Plains → List Candidate
candidates_of_index repository tag none = []
candidates_of_index repository tag (more info infos) =
    candidate_of info (Some repository) tag false ∷ candidates_of_index repository tag infos

-- whether two ids are the same: both are nonempty, and the shorter is a prefix of the longer, since an index may
-- store a prefix only
abbrev pub is_same_id_by_nonempty_prefix : List ℕ → List ℕ → Bool
is_same_id_by_nonempty_prefix a b =
    nat_lt 0 (length a)
    && (nat_lt 0 (length b) && (starts_with nat_eq a b || starts_with nat_eq b a))

-- whether two versions have the same text, or both are absent
abbrev pub is_same_version : Option (List ℕ) → Option (List ℕ) → Bool
is_same_version None None = true
is_same_version None (Some b) = false
is_same_version (Some a) None = false
is_same_version (Some a) (Some b) = bytes_eq a b

-- whether the candidate `c` is from a repository and is the same package as `installed`: name, text of the version
-- and id are the same
abbrev pub is_repository_package_same_as_installed : Candidate → Candidate → Bool
is_repository_package_same_as_installed installed c =
    is_some c.repository
    && (bytes_eq c.name installed.name
    && (is_same_version c.version installed.version && is_same_id_by_nonempty_prefix c.id installed.id))

-- the same candidate, marked as installed
abbrev pub as_installed : Candidate → Candidate
as_installed c = record c { installed = true }

-- the list, in which each candidate that is the same package as `installed` is marked as installed
abbrev pub marked_installed_where_same_as : Candidate → List Candidate → List Candidate
marked_installed_where_same_as installed [] = []
marked_installed_where_same_as installed (c ∷ cs) =
    (if is_repository_package_same_as_installed installed c then as_installed c else c)
    ∷ marked_installed_where_same_as installed cs

-- the list after an installed package was added: the candidates that are the same package are marked as installed; if
-- there are none, the installed package is appended as a candidate of its own
abbrev pub with_installed_marked_or_added : List Candidate → Candidate → List Candidate
with_installed_marked_or_added cs installed =
    if list_any (is_repository_package_same_as_installed installed) cs then marked_installed_where_same_as installed cs
    else cs ++ installed ∷ []

-- ---- what a candidate meets

-- what must be met: a dependency, or the name of a package whose install-if applies
pub data Need : Type 0 where
  -- a dependency
  entry : Dependency → Need
  -- the name of a package whose install-if applies
  named : List ℕ → Need

-- the name of a need: that of the dependency, or the name itself
abbrev pub need_name : Need → List ℕ
need_name (entry d) = d.name
need_name (named name) = name

-- whether an entry `p` of provides meets the dependency `d`; an entry that is a conflict provides nothing
abbrev pub is_met_by_provides_entry : Dependency → Dependency → Bool
is_met_by_provides_entry d p = not p.conflict && meets d p.name p.version

-- whether a candidate meets a dependency by its own name and version. It does not matter whether the dependency is a
-- conflict
abbrev pub meets_by_own_name : Dependency → Candidate → Bool
meets_by_own_name d c = meets d c.name c.version

-- whether a candidate meets a dependency by its own name and version, or by an entry of its
-- provides
abbrev pub meets_dependency : Dependency → Candidate → Bool
meets_dependency d c = meets_by_own_name d c || list_any (is_met_by_provides_entry d) c.provides

-- whether a candidate meets a need. The name of a package whose install-if applies is met only by a candidate of that
-- name
abbrev pub meets_dependency_or_has_package_name : Need → Candidate → Bool
meets_dependency_or_has_package_name (entry d) c = meets_dependency d c
meets_dependency_or_has_package_name (named name) c = bytes_eq name c.name

-- the version under which a candidate meets a need: its own, else that of the first entry of its
-- provides that meets the need
abbrev pub version_meeting_need : Need → Candidate → Option (List ℕ)
version_meeting_need (entry d) c =
    if meets_by_own_name d c then c.version
    else option_and_then (λ (p : Dependency). p.version) (find (is_met_by_provides_entry d) c.provides)
version_meeting_need (named name) c = c.version

-- whether a candidate offers a name: it has the name, or an entry of provides with the name that is no
-- conflict
abbrev pub offers_name : List ℕ → Candidate → Bool
offers_name name c =
    bytes_eq name c.name
    || list_any (λ (p : Dependency). not p.conflict && bytes_eq name p.name) c.provides

-- whether an entry `p` of provides occupies the name: `p` has this name and a version, and is no conflict
abbrev pub is_name_occupied_by_provides_entry : List ℕ → Dependency → Bool
is_name_occupied_by_provides_entry name p = not p.conflict && (is_some p.version && bytes_eq name p.name)

-- whether a candidate occupies the name, which only one member of a selection may do: it has the name,
-- or provides it with a version
abbrev pub occupies_name : List ℕ → Candidate → Bool
occupies_name name c = bytes_eq name c.name || list_any (is_name_occupied_by_provides_entry name) c.provides

-- ---- under a world

-- the positive entries of world: those that are no conflicts
abbrev pub positive_entries_of : List Dependency → List Dependency
positive_entries_of world = filter (λ (d : Dependency). not d.conflict) world

-- whether an entry of world uses the tag
abbrev pub is_tag_used_in_world : List Dependency → List ℕ → Bool
is_tag_used_in_world world tag =
    list_any (λ (d : Dependency). option_map_or (bytes_eq tag) d.tag false) world

-- whether a candidate is allowed: it is installed, or from no repository or an untagged one, or from
-- one whose tag an entry of world uses
abbrev pub is_allowed_by_tags_of_world : List Dependency → Candidate → Bool
is_allowed_by_tags_of_world world c =
    c.installed || (not (is_some c.repository) || option_map_or (is_tag_used_in_world world) c.tag true)

-- whether a candidate is barred: it meets a conflict of world
abbrev pub is_barred_by_world : List Dependency → Candidate → Bool
is_barred_by_world world c = list_any (λ (d : Dependency). d.conflict && meets_dependency d c) world

-- whether a candidate may be selected: it is allowed and not barred
abbrev pub is_eligible : List Dependency → Candidate → Bool
is_eligible world c = is_allowed_by_tags_of_world world c && not (is_barred_by_world world c)

-- whether a candidate has an install-if that can apply: the candidate may be selected, and its install-if has an
-- entry and no conflict
abbrev pub is_eligible_with_positive_install_if : List Dependency → Candidate → Bool
is_eligible_with_positive_install_if world c =
    is_eligible world c
    && (not (length c.install_if == 0)
    && list_all (λ (d : Dependency). not d.conflict) c.install_if)
