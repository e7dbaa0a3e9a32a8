-- The names of the files of a root that `apk` reads and writes (apk(8), apk-world(5)). The
-- rule is in `docs/apk.8.md`, "FILES".
use Rattle.std.specs.Prelude.{ℕ, List, codes}

-- the name of the installed database
abbrev pub database_name : List ℕ
database_name = codes "lib/apk/db/installed.adb"

-- the name of the text database of version 2 of apk-tools, which is taken over if there is no other database
abbrev pub text_database_name : List ℕ
text_database_name = codes "lib/apk/db/installed"

-- the name of world: the dependencies that the user asks for
abbrev pub world_name : List ℕ
world_name = codes "etc/apk/world"

-- the name of the list of repositories, which names the indexes
abbrev pub repositories_name : List ℕ
repositories_name = codes "etc/apk/repositories"
