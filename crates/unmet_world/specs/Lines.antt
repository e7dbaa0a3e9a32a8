-- The lines that explain why nothing can be selected. They are described in `docs/commands.md`, "Why nothing can be
-- selected". In all definitions, `listed` has the entries of the file of world, before the command changes them, and
-- `repositories` those that the root lists.
use Rattle.std.specs.Prelude.{◌≡◌, ℕ, ◌-◌, ◌==◌, nat_lt, nat_eq, Bool, true, false, ◌||◌, if◌then◌else◌, List, [], ◌∷◌, ◌++◌, codes, length, map, take, Option, Some, None, IfSome, MatchOption, slice_get, unwrap_or}
use Rattle.std.specs.Option.{option_map_or}
use Rattle.std.specs.List.{ends_with, find, flat_map, list_any}
use Rattle.std.specs.Str.{bytes_eq}
use Rattle.dep_core.specs.Dependency.{Dependency}
use Rattle.dep_core.specs.DependencyText.{dep_text}
use Rattle.dep_core.specs.Repositories.{Repository}
use Rattle.search_tables.specs.candidate_core.Candidates.{Candidate, entry, is_allowed_by_tags_of_world}
use Rattle.search_tables.specs.candidate_core.Rank.{SelectionProblem, candidate_at}
use Rattle.search_tables.specs.candidate_core.Options.{options_for, places_offering}
use Rattle.hint_core.specs.Lines.{printed_bytes}
use Rattle.unmet_world.specs.declared.refutation.Owner.{Owner}
use Rattle.unmet_world.specs.declared.refutation.Owner.TheVariants.{World, Package}
use Rattle.unmet_world.specs.declared.refutation.Want.{Want}
use Rattle.unmet_world.specs.declared.refutation.Step.{Step}
use Rattle.unmet_world.specs.declared.refutation.Step.TheVariants.{Broken, Excluded, Sure}
use Rattle.unmet_world.specs.declared.refutation.Refutation.{Refutation}
use Rattle.unmet_world.specs.Exclusion.{conflict_between, is_conflict_met_by, shared_name_at_places}
use Rattle.unmet_world.specs.Similar.{similar_name}
use Rattle.unmet_world.specs.Refutation.{IsFirstUnmetOfWorld, IsRefutation, if_positive, wanted, want_of_world_entry}

-- ---- packages

-- where a candidate is from: the path of the repository with this number, counted from 1, or the database
abbrev pub origin_text : List Repository → Option ℕ → List ℕ
origin_text repositories None = codes "installed"
origin_text repositories (Some number) =
    option_map_or (λ (r : Repository). r.path) (slice_get repositories (number - 1)) []

-- a package: `app-2.1-r0`
abbrev pub name_and_version_text : Candidate → List ℕ
name_and_version_text c = c.name ++ codes "-" ++ unwrap_or c.version []

-- a package with where it is from: `app-2.1-r0 (edge/index.adb)`
abbrev pub candidate_text : List Repository → Candidate → List ℕ
candidate_text repositories c =
    name_and_version_text c ++ codes " (" ++ origin_text repositories c.repository ++ codes ")"

-- the text of the candidate at a place, with where it is from; empty if there is none
abbrev pub candidate_text_at : SelectionProblem → List Repository → ℕ → List ℕ
candidate_text_at pool repositories c =
    option_map_or (candidate_text repositories) (candidate_at pool c) []

-- ---- entries of world

-- whether a dependency has this name
abbrev pub is_named : List ℕ → Dependency → Bool
is_named name d = bytes_eq name d.name

-- whether two dependencies have the same text
abbrev pub is_same_text : Dependency → Dependency → Bool
is_same_text d e = bytes_eq (dep_text d) (dep_text e)

-- whether an entry of world is also in `listed`: the first entry there of this name has the same text
abbrev pub is_entry_of_file : List Dependency → Dependency → Bool
is_entry_of_file listed d = option_map_or (is_same_text d) (find (is_named d.name) listed) false

-- where an entry of world is from: its file has it (true), or else the command asks for it
abbrev pub entry_origin : Bool → List ℕ
entry_origin true = codes "etc/apk/world"
entry_origin false = codes "this command"

-- where an entry of world is from, given the entries that the file of world lists
abbrev pub entry_origin_text : List Dependency → Dependency → List ℕ
entry_origin_text listed d = entry_origin (is_entry_of_file listed d)

-- the text that names who has a dependency: the origin of this entry of world, or a candidate with where it is from
abbrev pub dependency_owner_text :
    SelectionProblem → List Dependency → List Repository → Owner → Dependency → List ℕ
dependency_owner_text pool listed repositories World d = entry_origin_text listed d
dependency_owner_text pool listed repositories (Package c) d = candidate_text_at pool repositories c

-- an owner needs a dependency: `etc/apk/world needs app>=2`
abbrev pub needs_text :
    SelectionProblem → List Dependency → List Repository → Owner → Dependency → List ℕ
needs_text pool listed repositories owner d =
    dependency_owner_text pool listed repositories owner d ++ codes " needs " ++ dep_text d

-- ---- what there is of a name

-- the text of the conflict of world that a candidate meets, in parentheses, with its origin; empty if it meets none
abbrev pub world_conflict_text : List Dependency → Option Dependency → List ℕ
world_conflict_text listed None = []
world_conflict_text listed (Some d) =
    codes " (" ++ entry_origin_text listed d ++ codes " has " ++ dep_text d ++ codes ")"

-- why a candidate may not be selected: its tag, which world does not use, or a conflict of world;
-- nothing if it may
abbrev pub world_conflict_reason_text : List Dependency → List Dependency → Candidate → List ℕ
world_conflict_reason_text listed world c =
    if is_allowed_by_tags_of_world world c then
    world_conflict_text listed (find (is_conflict_met_by c) world) else
    codes " (tagged @" ++ unwrap_or c.tag [] ++ codes ")"

-- the text of a candidate that offers `name`: its version, or name and version if it has another name; and why it may
-- not be selected, if it may not
abbrev pub offer_text : List Dependency → List Dependency → List ℕ → Candidate → List ℕ
offer_text listed world name c =
    (if bytes_eq name c.name then unwrap_or c.version [] else name_and_version_text c)
    ++ world_conflict_reason_text listed world c

-- the text of the candidate at a place, which offers `name`; empty if there is none
abbrev pub offer_text_at : SelectionProblem → List Dependency → List ℕ → ℕ → List ℕ
offer_text_at pool listed name c =
    option_map_or (offer_text listed pool.world name) (candidate_at pool c) []

-- a list of texts with one more at its end, unless the list has it
abbrev pub with_text_once : List (List ℕ) → List ℕ → List (List ℕ)
with_text_once texts text = if list_any (bytes_eq text) texts then texts else texts ++ text ∷ []

-- a list of texts with more at its end, each unless the list has it already
abbrev pub with_texts : List (List ℕ) → List (List ℕ) → List (List ℕ)
with_texts texts [] = texts
with_texts texts (text ∷ more) = with_texts (with_text_once texts text) more

-- texts with commas between them
abbrev pub joined_texts : List (List ℕ) → List ℕ
joined_texts [] = []
joined_texts (text ∷ []) = text
joined_texts (text ∷ (next ∷ more)) = text ++ codes ", " ++ joined_texts (next ∷ more)

-- how many candidates that offer a name are shown at most
abbrev pub most_shown_offers : ℕ
most_shown_offers = 16

-- the two dots after the shown candidates, if there are more of them
abbrev pub dots_if : Bool → List ℕ
dots_if true = codes ", .."
dots_if false = []

-- whether a name is like the path of a file of a package: it has a `/` (47), or ends with `.apk`
abbrev pub is_like_file : List ℕ → Bool
is_like_file name = list_any (λ b. b == 47) name || ends_with nat_eq name (codes ".apk")

-- what a line adds on a name that is like the path of a file; empty for another name
abbrev pub note_on_file : List ℕ → List ℕ
note_on_file name =
    if is_like_file name then codes "; a package is given by its name, and not by its file" else []

-- the text that no package has or provides `name`, with the similar name of a package, if there is one
abbrev pub no_package_text : List ℕ → Option (List ℕ) → List ℕ
no_package_text name None = codes "no package" ++ note_on_file name
no_package_text name (Some similar) = codes "no package" ++ codes "; a similar name is " ++ similar

-- the text on the candidates at these places, which offer `name`; without places, it says that no package has the name
abbrev pub offered_text : SelectionProblem → List Dependency → List ℕ → List ℕ → List ℕ
offered_text pool listed name [] = no_package_text name (similar_name name pool.candidates)
offered_text pool listed name (c ∷ cs) =
    codes "only "
    ++ joined_texts (with_texts [] (map (offer_text_at pool listed name) (take most_shown_offers (c ∷ cs))))
    ++ dots_if (nat_lt most_shown_offers (length (c ∷ cs)))

-- the line that says which candidates offer a name: `lib: only 1.0-r0, 1.2-r0`
abbrev pub offers_line_of_name : SelectionProblem → List Dependency → List ℕ → List ℕ
offers_line_of_name pool listed name =
    name ++ codes ": " ++ offered_text pool listed name (places_offering name pool.candidates)

-- ---- steps

-- the line that says which candidates offer the name of a dependency, as a list; empty if a candidate that may be
-- selected meets the dependency
abbrev pub missing_lines : SelectionProblem → List Dependency → Dependency → List (List ℕ)
missing_lines pool listed d =
    if length (options_for pool (entry d)) == 0 then offers_line_of_name pool listed d.name ∷ [] else []

-- the lines of a dependency: who needs it, and, if nothing meets it, which candidates offer its name; none without a
-- dependency
abbrev pub need_lines :
    SelectionProblem → List Dependency → List Repository → Owner → Option Dependency → List (List ℕ)
need_lines pool listed repositories owner None = []
need_lines pool listed repositories owner (Some d) =
    needs_text pool listed repositories owner d ∷ missing_lines pool listed d

-- the lines of a wanted dependency: who needs it, and, if nothing meets it, which candidates offer its name
abbrev pub want_lines :
    SelectionProblem → List Dependency → List Repository → Want → List (List ℕ)
want_lines pool listed repositories want =
    need_lines pool listed repositories want.owner (wanted pool want)

-- the line that says that the candidate at the place `id` is the only one left for a dependency, as a list; empty
-- without a dependency
abbrev pub only_candidate_lines :
    SelectionProblem → List Dependency → List Repository → Owner → ℕ → Option Dependency →
    List (List ℕ)
only_candidate_lines pool listed repositories owner id None = []
only_candidate_lines pool listed repositories owner id (Some d) =
    (needs_text pool listed repositories owner d ++ codes ": only "
    ++ candidate_text_at pool repositories id) ∷ []

-- the text that the candidate at the place `a` has the conflict `d`, which the candidate at the place `b` meets
abbrev pub conflict_text : SelectionProblem → List Repository → ℕ → ℕ → Dependency → List ℕ
conflict_text pool repositories a b d =
    candidate_text_at pool repositories a ++ codes " conflicts with "
    ++ candidate_text_at pool repositories b
    ++ codes ": " ++ dep_text d

-- the text that the candidates at the places `a` and `b` both occupy a name
abbrev pub shared_name_text : SelectionProblem → List Repository → ℕ → ℕ → List ℕ → List ℕ
shared_name_text pool repositories a b name =
    candidate_text_at pool repositories a ++ codes " and " ++ candidate_text_at pool repositories b
    ++ codes " exclude each other: both are " ++ name

-- the line that says by what two candidates exclude each other, as a list: the first of a conflict of `a`, one of `b`,
-- and a name that is there
abbrev pub exclusion_lines :
    SelectionProblem → List Repository → ℕ → ℕ → Option Dependency → Option Dependency →
    Option (List ℕ) → List (List ℕ)
exclusion_lines pool repositories a b (Some d) other name =
    conflict_text pool repositories a b d ∷ []
exclusion_lines pool repositories a b None (Some d) name =
    conflict_text pool repositories b a d ∷ []
exclusion_lines pool repositories a b None None (Some name) =
    shared_name_text pool repositories a b name ∷ []
exclusion_lines pool repositories a b None None None = []

-- the lines that explain a step of a refutation
abbrev pub step_lines :
    SelectionProblem → List Dependency → List Repository → Step → List (List ℕ)
step_lines pool listed repositories (Broken id index) =
    want_lines pool listed repositories (record { owner = Package id; index = index })
step_lines pool listed repositories (Excluded id by) =
    exclusion_lines pool repositories by id (conflict_between pool by id)
    (conflict_between pool id by) (shared_name_at_places pool by id)
step_lines pool listed repositories (Sure id want) =
    only_candidate_lines pool listed repositories want.owner id (wanted pool want)

-- ---- all lines

-- how many lines are printed at most
abbrev pub most_printed_lines : ℕ
most_printed_lines = 10

-- the lines of a refutation, each once: first those of its end, then those of its first ten steps
abbrev pub refutation_lines :
    SelectionProblem → List Dependency → List Repository → Refutation → List (List ℕ)
refutation_lines pool listed repositories r =
    with_texts (with_texts [] (want_lines pool listed repositories r.end))
    (flat_map (step_lines pool listed repositories) (take most_printed_lines r.steps.items))

-- the line of an entry of world, as a list; empty without an entry
abbrev pub world_lines_of : List Dependency → Option Dependency → List (List ℕ)
world_lines_of listed None = []
world_lines_of listed (Some d) =
    (entry_origin_text listed d ++ codes " needs " ++ dep_text d) ∷ []

-- the lines of the entries of world that are no conflicts
abbrev pub world_lines : List Dependency → List Dependency → List (List ℕ)
world_lines listed world =
    flat_map (λ (d : Dependency). world_lines_of listed (if_positive (Some d))) world

-- a line as it is printed: bytes that do not print are escaped
abbrev pub printed_line : List ℕ → List ℕ
printed_line line = codes "apk: " ++ printed_bytes line ++ codes "\n"

-- the text of lines as they are printed; if there are more than ten, the first nine, and two dots instead of the others
abbrev pub text_of_at_most_ten_lines : List (List ℕ) → List ℕ
text_of_at_most_ten_lines lines =
    if nat_lt most_printed_lines (length lines) then
    flat_map printed_line (take (most_printed_lines - 1) lines) ++ printed_line (codes "..") else
    flat_map printed_line lines

-- the lines of a refutation that was found, or else of the entries of world that are no conflicts
abbrev pub explanation_lines :
    SelectionProblem → List Dependency → List Repository → Option Refutation → List (List ℕ)
explanation_lines pool listed repositories None = world_lines listed pool.world
explanation_lines pool listed repositories (Some r) = refutation_lines pool listed repositories r

-- the lines of *explanation_lines*, as they are printed
abbrev pub explanation_text :
    SelectionProblem → List Dependency → List Repository → Option Refutation → List ℕ
explanation_text pool listed repositories found =
    text_of_at_most_ten_lines (explanation_lines pool listed repositories found)

-- a text explains why no selection satisfies the world of a pool: the text is that of a refutation, or, without one,
-- that of the entries of world. `listed` has the entries of the file of world
pub record IsExplanationOfUnmetWorldOfPool (pool : SelectionProblem) (listed : List Dependency)
    (repositories : List Repository) (text : List ℕ) : Type 0 where
  -- the refutation that was found, if one was
  pub found : Option Refutation
  -- it is a valid refutation of this world
  pub refutes : IfSome found (IsRefutation pool)
  -- if no candidate meets some entry of world, the first such entry is the whole refutation, without steps
  pub named :
      (index : ℕ) → IsFirstUnmetOfWorld pool index →
      MatchOption found ⊥ (λ r. (r.steps.items ≡ []) × (r.end ≡ want_of_world_entry index))
  -- the text is that of this refutation, or of the entries of world
  pub says : text ≡ explanation_text pool listed repositories found
