-- What `demo` runs: a small package of each number is made, then an index of all of them, and then
-- those are added on which no other depends. The rules are in `docs/commands.md`, "`demo N`".
use Rattle.std.specs.Prelude.{ℕ, zero, suc, ◌+◌, ◌*◌, ◌/◌, ◌%◌, nat_lt, List, [], ◌∷◌, ◌++◌, codes, if◌then◌else◌}

-- ---- package i

-- the byte `0` of ASCII, which the other digits follow
abbrev pub digit_zero : ℕ
digit_zero = 48

-- the ASCII code of one decimal digit of i: for the unit 100 that of the hundreds
abbrev pub digit_at_unit_of_number : ℕ → ℕ → ℕ
digit_at_unit_of_number unit i = digit_zero + i / unit % 10

-- the name of package i: `p` and i in five digits
abbrev pub demo_package_name : ℕ → List ℕ
demo_package_name i =
    codes "p"
    ++ (digit_at_unit_of_number 10000 i ∷ digit_at_unit_of_number 1000 i ∷ digit_at_unit_of_number 100 i
    ∷ digit_at_unit_of_number 10 i
    ∷ digit_at_unit_of_number 1 i ∷ [])

-- the version of package i: `1.A-rB`, where A is i modulo 7, and B is i modulo 3
abbrev pub demo_version : ℕ → List ℕ
demo_version i =
    codes "1." ++ (digit_at_unit_of_number 1 (i % 7) ∷ codes "-r"
    ++ (digit_at_unit_of_number 1 (i % 3) ∷ []))

-- the folder with the files of package i
abbrev pub demo_folder : ℕ → List ℕ
demo_folder i = codes "demo/" ++ demo_package_name i

-- the path of the one file that package i is made of
abbrev pub demo_file : ℕ → List ℕ
demo_file i = demo_folder i ++ codes "/usr/share/demo/" ++ demo_package_name i

-- the contents of the one file of package i: its name and a line end
abbrev pub contents_of_demo_file : ℕ → List ℕ
contents_of_demo_file i = demo_package_name i ++ codes "\n"

-- the path of the file of package i, in the folder of the index
abbrev pub demo_package_path : ℕ → List ℕ
demo_package_path i = demo_folder i ++ codes "-" ++ demo_version i ++ codes ".apk"

-- ---- the command lines

-- the words with the dependency of package i: from the second package on, each package depends on the package of
-- half its number, rounded down
abbrev pub depends_words : ℕ → List (List ℕ)
depends_words i =
    if nat_lt i 2 then [] else codes "-I" ∷ (codes "depends:" ++ demo_package_name (i / 2)) ∷ []

-- the words of the command line that makes package i
abbrev pub mkpkg_words : ℕ → List (List ℕ)
mkpkg_words i =
    codes "mkpkg" ∷ codes "-F" ∷ demo_folder i ∷ codes "-o" ∷ demo_package_path i
    ∷ codes "-I" ∷ (codes "name:" ++ demo_package_name i) ∷ codes "-I"
    ∷ (codes "version:" ++ demo_version i)
    ∷ depends_words i

-- the path of the index
abbrev pub demo_index_path : List ℕ
demo_index_path = codes "demo/index.adb"

-- the contents of `etc/apk/repositories`
abbrev pub demo_repositories : List ℕ
demo_repositories = demo_index_path ++ codes "\n"

-- the paths of the packages 1 to n
abbrev pub demo_package_paths : ℕ → List (List ℕ)
demo_package_paths zero = []
demo_package_paths (suc i) = demo_package_paths i ++ (demo_package_path (suc i) ∷ [])

-- the words of the command line that makes the index of n packages
abbrev pub mkndx_words : ℕ → List (List ℕ)
mkndx_words n = codes "mkndx" ∷ codes "-o" ∷ demo_index_path ∷ demo_package_paths n

-- the name of package i, if none of the packages 1 to n depends on it: only packages 2i and 2i + 1 could
abbrev pub name_if_unneeded_by_first_n_at : ℕ → ℕ → List (List ℕ)
name_if_unneeded_by_first_n_at n i = if nat_lt n (2 * i) then demo_package_name i ∷ [] else []

-- the names of those of the packages 1 to the second argument on which none of the packages 1 to n depends
abbrev pub names_unneeded_by_first_n_up_to : ℕ → ℕ → List (List ℕ)
names_unneeded_by_first_n_up_to n zero = []
names_unneeded_by_first_n_up_to n (suc i) =
    names_unneeded_by_first_n_up_to n i ++ name_if_unneeded_by_first_n_at n (suc i)

-- the words of the command line that adds those of n packages on which no other depends
abbrev pub add_words : ℕ → List (List ℕ)
add_words n =
    codes "add" ∷ codes "--initdb" ∷ codes "--allow-untrusted" ∷ names_unneeded_by_first_n_up_to n n
