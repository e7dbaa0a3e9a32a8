-- Cases worked by hand: what a few small packages are made of, and which of them are added.
use Rattle.std.proofs.Common.{◌≡◌, List, ℕ, [], ◌∷◌, codes, refl}
use Rattle.outcome.specs.DemoLines.{add_words, demo_file, contents_of_demo_file, demo_version, mkndx_words, mkpkg_words}

-- 10 is 3 modulo 7, and 1 modulo 3
pub tenth_version : demo_version 10 ≡ codes "1.3-r1"
tenth_version = refl

five_digits : contents_of_demo_file 12345 ≡ codes "p12345\n"
five_digits = refl

pub first_file : demo_file 1 ≡ codes "demo/p00001/usr/share/demo/p00001"
first_file = refl

-- the first needs no other
pub first_words : mkpkg_words 1 ≡ codes "mkpkg" ∷ codes "-F" ∷ codes "demo/p00001" ∷ codes "-o" ∷ codes "demo/p00001-1.1-r1.apk" ∷ codes "-I" ∷ codes "name:p00001" ∷ codes "-I" ∷ codes "version:1.1-r1" ∷ []
first_words = refl

-- half of 3 is rounded down
pub third_words : mkpkg_words 3 ≡ codes "mkpkg" ∷ codes "-F" ∷ codes "demo/p00003" ∷ codes "-o" ∷ codes "demo/p00003-1.3-r0.apk" ∷ codes "-I" ∷ codes "name:p00003" ∷ codes "-I" ∷ codes "version:1.3-r0" ∷ codes "-I" ∷ codes "depends:p00001" ∷ []
third_words = refl

pub index_of_two : mkndx_words 2 ≡ codes "mkndx" ∷ codes "-o" ∷ codes "demo/index.adb" ∷ codes "demo/p00001-1.1-r1.apk" ∷ codes "demo/p00002-1.2-r2.apk" ∷ []
index_of_two = refl

-- 4 needs 2, and 2 and 3 need 1; nobody needs 3 and 4
pub top_of_four : add_words 4 ≡ codes "add" ∷ codes "--initdb" ∷ codes "--allow-untrusted" ∷ codes "p00003" ∷ codes "p00004" ∷ []
top_of_four = refl

-- the fifth needs 2 as well
top_of_five : add_words 5 ≡ codes "add" ∷ codes "--initdb" ∷ codes "--allow-untrusted" ∷ codes "p00003" ∷ codes "p00004" ∷ codes "p00005" ∷ []
top_of_five = refl

top_of_one : add_words 1 ≡ codes "add" ∷ codes "--initdb" ∷ codes "--allow-untrusted" ∷ codes "p00001" ∷ []
top_of_one = refl
