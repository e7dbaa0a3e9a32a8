-- The reserved names: names below a root that no database may list as files, so that no change removes
-- one as a package's file. The rule is in `docs/formats.md`, "The texts", below the table.
use Rattle.std.specs.Prelude.{ℕ, Bool, ◌||◌, List, [], ◌∷◌, ◌++◌, codes, nat_eq}
use Rattle.std.specs.Str.{bytes_eq}
use Rattle.std.specs.List.{list_any, starts_with}

-- whether `path` is the name `top`, or a name below the folder `top`
abbrev pub is_at_or_below : List ℕ → List ℕ → Bool
is_at_or_below top path = bytes_eq path top || starts_with nat_eq path (top ++ codes "/")

-- whether a path is one of these names, or a name below one of them
abbrev pub is_at_or_below_any_of : List (List ℕ) → List ℕ → Bool
is_at_or_below_any_of tops path = list_any (λ top. is_at_or_below top path) tops

-- the names of the journal and of the staging area
abbrev pub journal_and_staging_area_paths : List (List ℕ)
journal_and_staging_area_paths = codes "lib/apk/intent" ∷ codes "lib/apk/stage" ∷ []

-- the reserved names: world, the journal, the staging area, and the folder of the database
abbrev pub reserved_names : List (List ℕ)
reserved_names = codes "etc/apk/world" ∷ codes "lib/apk/intent" ∷ codes "lib/apk/stage" ∷
    codes "lib/apk/db" ∷ []

-- whether a path is the name of the journal or of the staging area, or below one of them
abbrev pub is_intent_or_stage_name : List ℕ → Bool
is_intent_or_stage_name path = is_at_or_below_any_of journal_and_staging_area_paths path

-- whether a path is one of the reserved names, or a name below one of them
abbrev pub is_reserved : List ℕ → Bool
is_reserved path = is_at_or_below_any_of reserved_names path
