-- What a package brings is as it lists it.
use Rattle.std.proofs.Common.{◌≡◌, ◌⊎◌, inl, inr, ◌∙◌, ℕ, ◌+◌, ◌<◌, ◌≤◌, ◌==◌, Bool, true, false, cond, List, [], ◌∷◌, ◌++◌, length, Contains, Option, Some, None, refl, ap, sym, subst, true≢false, arith}
use Rattle.std.specs.Prelude.{◌&&◌, if◌then◌else◌, is_none}
use Rattle.std.specs.List.{find}
use Rattle.std.proofs.lemmas.Bool.{and_from, and_left, and_right, eqb-true, false_from_ne_true, not-true, not-false}
use Rattle.std.proofs.lemmas.Slice.Eq.{bytes_eq-Decides}
use Rattle.base_core.proofs.Numbers.{same_number}
use Rattle.adb_view.specs.Plain.{Plain}
use Rattle.adb_view.specs.Values.{entry_at_index, int_in}
use Rattle.path_clashes.specs.adb_fields.Repeated.{files_in, folders_in, name_of}
use Rattle.file_guard.specs.adb_schema.Rules.{is_digest_length}
use Rattle.file_guard.specs.adb_schema.Texts.{is_file_with_contents}
use Rattle.file_guard.specs.pkg_core.Contents.{Contents, ExpectedFile, bytes_or_none, expected_files_of_package, expected_files_of_folder, expected_files_of_folders, is_contents_of_file}
use Rattle.file_guard.specs.pkg_core.GoodContents.{MatchEachExpectedSizeAndKnownDigest, HaveValidDigestLengths, MatchesExpectedSizeAndKnownDigest}
use Rattle.file_owners.specs.db_core.Members.{Listing, Member, listings_of_member, listings_of_members_from, listings_from_member_folder_file_places, listings_in_folders_from, listings_of_members}
use Rattle.file_guard.specs.AsListed.{file_hash, file_size, file_target, has_target, is_as_listed, link_file_bytes_of_entry, link_file_bytes_of_target}
use Rattle.file_guard.proofs.Told.{told_hash, told_link}
use Rattle.own_core.specs.FilesAfter.{listing_bytes}
use Rattle.own_core.proofs.Lists.{IsOneOf, one_from_contains}

-- ---- the first one that passes

find_joined : {X : Type 0} (p : X → Bool) (xs ys : List X) → find p xs ≡ None → find p (xs ++ ys) ≡ find p ys
find_joined p [] ys none = refl
find_joined {X} p (x ∷ xs) ys none = by_test (p x) none (find_joined p xs ys)
  where
    by_test : (b : Bool) → cond b (Some x) (find p xs) ≡ None → (find p xs ≡ None → find p (xs ++ ys) ≡ find p ys) → cond b (Some x) (find p (xs ++ ys)) ≡ find p ys
    by_test true none f = absurd (cc)
    by_test false none f = f none

find_in_first : {X : Type 0} (p : X → Bool) (xs ys : List X) (x : X) → find p xs ≡ Some x → find p (xs ++ ys) ≡ Some x
find_in_first p [] ys x found = absurd (cc)
find_in_first {X} p (y ∷ xs) ys x found = by_test (p y) found (find_in_first p xs ys x)
  where
    by_test : (b : Bool) → cond b (Some y) (find p xs) ≡ Some x → (find p xs ≡ Some x → find p (xs ++ ys) ≡ Some x) → cond b (Some y) (find p (xs ++ ys)) ≡ Some x
    by_test true found f = found
    by_test false found f = f found

-- one that there may be, in front of others
passed_over : {X : Type 0} (p : X → Bool) (b : Bool) (x : X) (rest : List X) → p x ≡ false → find p ((if b then x ∷ [] else []) ++ rest) ≡ find p rest
passed_over p true x rest fails = ap (λ (t : Bool). cond t (Some x) (find p rest)) fails
passed_over p false x rest fails = refl

met : {X : Type 0} (p : X → Bool) (b : Bool) (x : X) (rest : List X) → p x ≡ true → find p rest ≡ None → find p ((if b then x ∷ [] else []) ++ rest) ≡ (if b then Some x else None)
met p true x rest passes none = ap (λ (t : Bool). cond t (Some x) (find p rest)) passes
met p false x rest passes none = none

one_of_joined : {X : Type 0} (x : X) (xs ys : List X) → IsOneOf x (xs ++ ys) → IsOneOf x xs ⊎ IsOneOf x ys
one_of_joined x [] ys here = inr here
one_of_joined x (y ∷ xs) ys (inl is) = inl (inl is)
one_of_joined x (y ∷ xs) ys (inr more) = elim (one_of_joined x xs ys more) [ inl first ↦ inl (inr first) | inr second ↦ inr second ]

-- ---- positions

abbrev is_at : ℕ → ℕ → ExpectedFile → Bool
is_at folder file e = (e.folder == folder) && (e.file == file)

apart : (a b : ℕ) → a < b → (b == a) ≡ false
apart a b below = false_from_ne_true (b == a) (λ e. let same = eqb-true b a e in omega (arith, same, below))

after_apart : (a b : ℕ) → a < b → (a == b) ≡ false
after_apart a b below = false_from_ne_true (a == b) (λ e. let same = eqb-true a b e in omega (arith, same, below))

none_in_files : (folder file other i : ℕ) (entries : List Plain) → ((j : ℕ) → i ≤ j → ((other == folder) && (j == file)) ≡ false) → find (is_at folder file) (expected_files_of_folder other i entries) ≡ None
none_in_files folder file other i [] far = refl
none_in_files folder file other i (entry ∷ entries) far =
    passed_over (is_at folder file) (is_file_with_contents entry) (record { folder = other; file = i; size = int_in (entry_at_index entry 2); hash = file_hash entry }) (expected_files_of_folder other (i + 1) entries) (far i (omega arith))
    ∙ none_in_files folder file other (i + 1) entries (λ j le. far j (omega (arith, le)))

none_in_folders : (folder file i : ℕ) (folders : List Plain) → folder < i → find (is_at folder file) (expected_files_of_folders i folders) ≡ None
none_in_folders folder file i [] below = refl
none_in_folders folder file i (f ∷ folders) below =
    find_joined (is_at folder file) (expected_files_of_folder i 1 (files_in f)) (expected_files_of_folders (i + 1) folders)
    (none_in_files folder file i 1 (files_in f) (λ j le. and_left (i == folder) (j == file) (apart folder i below)))
    ∙ none_in_folders folder file (i + 1) folders (omega (arith, below))

-- ---- the file that is expected of an entry

abbrev expected_of : ℕ → ℕ → Plain → ExpectedFile
expected_of folder file entry = record { folder = folder; file = file; size = file_size entry; hash = file_hash entry }

abbrev expected_or_none : ℕ → ℕ → Plain → Option ExpectedFile
expected_or_none folder file entry = if is_file_with_contents entry then Some (expected_of folder file entry) else None

record IsInFolder (m : Member) (place folder i : ℕ) (entries : List Plain) (l : Listing) : Type 0 where
  in_folder : l.folder ≡ folder
  from : i ≤ l.file
  of_member : l.member ≡ m
  at_place : l.place ≡ place
  expected : find (is_at folder l.file) (expected_files_of_folder folder i entries) ≡ expected_or_none folder l.file l.entry

in_folder : (m : Member) (place folder i : ℕ) (above : List ℕ) (entries : List Plain) (l : Listing) → IsOneOf l (listings_from_member_folder_file_places m place folder i above entries) → IsInFolder m place folder i entries l
in_folder m place folder i above [] l here = absurd here
in_folder m place folder i above (entry ∷ entries) l (inl is) =
    subst (λ (l : Listing). IsInFolder m place folder i (entry ∷ entries) l) (sym is)
    record {
      in_folder = refl;
      from = omega arith;
      of_member = refl;
      at_place = refl;
      expected = met (is_at folder i) (is_file_with_contents entry) (expected_of folder i entry) (expected_files_of_folder folder (i + 1) entries)
          (and_from (folder == folder) (i == i) (same_number folder) (same_number i))
          (none_in_files folder i folder (i + 1) entries (λ j le. and_right (folder == folder) (j == i) (apart i j (omega (arith, le)))));
    }
in_folder m place folder i above (entry ∷ entries) l (inr more) =
    let rest = in_folder m place folder (i + 1) above entries l more in
    record {
      in_folder = rest.in_folder;
      from = omega (arith, rest.from);
      of_member = rest.of_member;
      at_place = rest.at_place;
      expected = passed_over (is_at folder l.file) (is_file_with_contents entry) (expected_of folder i entry) (expected_files_of_folder folder (i + 1) entries)
          (and_right (folder == folder) (i == l.file) (after_apart i l.file (omega (arith, rest.from))))
          ∙ rest.expected;
    }

record IsInFolders (m : Member) (place i : ℕ) (folders : List Plain) (l : Listing) : Type 0 where
  from : i ≤ l.folder
  of_member : l.member ≡ m
  at_place : l.place ≡ place
  expected : find (is_at l.folder l.file) (expected_files_of_folders i folders) ≡ expected_or_none l.folder l.file l.entry

first_or_none : (b : Bool) (p : ExpectedFile → Bool) (e : ExpectedFile) (xs ys : List ExpectedFile) → find p xs ≡ (if b then Some e else None) → find p ys ≡ None → find p (xs ++ ys) ≡ (if b then Some e else None)
first_or_none true p e xs ys first none = find_in_first p xs ys e first
first_or_none false p e xs ys first none = find_joined p xs ys first ∙ none

in_folders : (m : Member) (place i : ℕ) (folders : List Plain) (l : Listing) → IsOneOf l (listings_in_folders_from m place i folders) → IsInFolders m place i folders l
in_folders m place i [] l here = absurd here
in_folders m place i (f ∷ folders) l here =
    elim (one_of_joined l (listings_from_member_folder_file_places m place i 1 (name_of f) (files_in f)) (listings_in_folders_from m place (i + 1) folders) here) [
      | inl first ↦ (let there = in_folder m place i 1 (name_of f) (files_in f) l first in
          record {
            from = omega (arith, there.in_folder);
            of_member = there.of_member;
            at_place = there.at_place;
            expected = subst (λ (d : ℕ). find (is_at d l.file) (expected_files_of_folders i (f ∷ folders)) ≡ expected_or_none d l.file l.entry) (sym there.in_folder)
                (first_or_none (is_file_with_contents l.entry) (is_at i l.file) (expected_of i l.file l.entry) (expected_files_of_folder i 1 (files_in f)) (expected_files_of_folders (i + 1) folders)
                there.expected (none_in_folders i l.file (i + 1) folders (omega arith)));
          })
      | inr second ↦ (let there = in_folders m place (i + 1) folders l second in
          record {
            from = omega (arith, there.from);
            of_member = there.of_member;
            at_place = there.at_place;
            expected = find_joined (is_at l.folder l.file) (expected_files_of_folder i 1 (files_in f)) (expected_files_of_folders (i + 1) folders)
                (none_in_files l.folder l.file i 1 (files_in f) (λ j le. and_left (i == l.folder) (j == l.file) (after_apart i l.folder (omega (arith, there.from)))))
                ∙ there.expected;
          })
    ]

expected_in : (place : ℕ) (members : List Member) (l : Listing) → IsOneOf l (listings_of_members_from place members) → find (is_at l.folder l.file) (expected_files_of_package l.member.pkg) ≡ expected_or_none l.folder l.file l.entry
expected_in place [] l here = absurd here
expected_in place (m ∷ members) l here =
    elim (one_of_joined l (listings_of_member place m) (listings_of_members_from (place + 1) members) here) [
      | inl first ↦ (let there = in_folders m place 1 (folders_in m.pkg) l first in
          subst (λ (m : Member). find (is_at l.folder l.file) (expected_files_of_package m.pkg) ≡ expected_or_none l.folder l.file l.entry) (sym there.of_member) there.expected)
      | inr second ↦ expected_in (place + 1) members l second
    ]

expected_file : (members : List Member) (l : Listing) → IsOneOf l (listings_of_members members) → find (is_at l.folder l.file) (expected_files_of_package l.member.pkg) ≡ expected_or_none l.folder l.file l.entry
unfolding listings_of_members
expected_file members l here = expected_in 0 members l here

-- ---- its contents

same_test : (folder file : ℕ) (e : ExpectedFile) (c : Contents) → MatchesExpectedSizeAndKnownDigest e c → is_contents_of_file folder file c ≡ is_at folder file e
same_test folder file e c is =
    ap (λ (d : ℕ). (d == folder) && (c.file == file)) is.folder ∙ ap (λ (f : ℕ). (e.folder == folder) && (f == file)) is.file

found_contents : (folder file : ℕ) (es : List ExpectedFile) (cs : List Contents) → MatchEachExpectedSizeAndKnownDigest es cs → (e : ExpectedFile) → find (is_at folder file) es ≡ Some e
    → (c : Contents) × (find (is_contents_of_file folder file) cs ≡ Some c) × MatchesExpectedSizeAndKnownDigest e c
found_contents folder file [] cs are e found = absurd (cc)
found_contents folder file (x ∷ es) [] are e found = absurd are
found_contents folder file (x ∷ es) (c ∷ cs) are e found = by_test (is_at folder file x) (same_test folder file x c are.0) found (found_contents folder file es cs are.1 e)
  where
    by_test : (b : Bool) → is_contents_of_file folder file c ≡ b → cond b (Some x) (find (is_at folder file) es) ≡ Some e
        → (find (is_at folder file) es ≡ Some e → (c : Contents) × (find (is_contents_of_file folder file) cs ≡ Some c) × MatchesExpectedSizeAndKnownDigest e c)
        → (d : Contents) × (cond (is_contents_of_file folder file c) (Some c) (find (is_contents_of_file folder file) cs) ≡ Some d) × MatchesExpectedSizeAndKnownDigest e d
    by_test true t found f =
        let same : x ≡ e = (cc) in
        (c, ap (λ (b : Bool). cond b (Some c) (find (is_contents_of_file folder file) cs)) t, subst (λ (y : ExpectedFile). MatchesExpectedSizeAndKnownDigest y c) same are.0)
    by_test false t found f =
        let (d, at, is) = f found in
        (d, ap (λ (b : Bool). cond b (Some c) (find (is_contents_of_file folder file) cs)) t ∙ at, is)

no_contents : (folder file : ℕ) (es : List ExpectedFile) (cs : List Contents) → MatchEachExpectedSizeAndKnownDigest es cs → find (is_at folder file) es ≡ None → find (is_contents_of_file folder file) cs ≡ None
no_contents folder file [] [] are none = refl
no_contents folder file [] (c ∷ cs) are none = absurd are
no_contents folder file (x ∷ es) [] are none = absurd are
no_contents folder file (x ∷ es) (c ∷ cs) are none = by_test (is_at folder file x) (same_test folder file x c are.0) none (no_contents folder file es cs are.1)
  where
    by_test : (b : Bool) → is_contents_of_file folder file c ≡ b → cond b (Some x) (find (is_at folder file) es) ≡ None → (find (is_at folder file) es ≡ None → find (is_contents_of_file folder file) cs ≡ None)
        → cond (is_contents_of_file folder file c) (Some c) (find (is_contents_of_file folder file) cs) ≡ None
    by_test true t none f = absurd (cc)
    by_test false t none f = ap (λ (b : Bool). cond b (Some c) (find (is_contents_of_file folder file) cs)) t ∙ f none

digest_found : (p : ExpectedFile → Bool) (es : List ExpectedFile) (e : ExpectedFile) → find p es ≡ Some e → HaveValidDigestLengths es → is_digest_length (length e.hash) ≡ true
digest_found p [] e found have = absurd (cc)
digest_found p (x ∷ es) e found have = by_test (p x) found (λ more. digest_found p es e more have.1)
  where
    by_test : (b : Bool) → cond b (Some x) (find p es) ≡ Some e → (find p es ≡ Some e → is_digest_length (length e.hash) ≡ true) → is_digest_length (length e.hash) ≡ true
    by_test true found f = let same : x ≡ e = (cc) in ap (λ (y : ExpectedFile). is_digest_length (length y.hash)) (sym same) ∙ have.0
    by_test false found f = f found

has_digest : (n : ℕ) → is_digest_length n ≡ true → (n == 0) ≡ false
has_digest n is = false_from_ne_true (n == 0) (λ e. true≢false (sym (sym (ap is_digest_length (eqb-true n 0 e)) ∙ is)))

-- ---- as the laws say it

as_link : (contents : ℕ → List Contents) (l : Listing) → has_target l.entry ≡ true → is_as_listed l.entry (listing_bytes contents l) ≡ true
unfolding listing_bytes
as_link contents l target =
    let bytes : listing_bytes contents l ≡ link_file_bytes_of_entry l.entry =
    ap (λ (b : Bool). if b then link_file_bytes_of_entry l.entry else bytes_or_none (find (is_contents_of_file l.folder l.file) (contents l.place))) target in
    ap (is_as_listed l.entry) bytes
    ∙ (told_link (file_size l.entry) (file_hash l.entry) (file_target l.entry) (link_file_bytes_of_entry l.entry) (not-true (length (file_target l.entry) == 0) target)
    ∙ (bytes_eq-Decides (link_file_bytes_of_entry l.entry) (link_file_bytes_of_target (file_target l.entry))).1 refl)

bytes_found : (contents : ℕ → List Contents) (l : Listing) (found : Option Contents) → has_target l.entry ≡ false → find (is_contents_of_file l.folder l.file) (contents l.place) ≡ found → listing_bytes contents l ≡ bytes_or_none found
unfolding listing_bytes
bytes_found contents l found target is =
    ap (λ (b : Bool). if b then link_file_bytes_of_entry l.entry else bytes_or_none (find (is_contents_of_file l.folder l.file) (contents l.place))) target ∙ ap bytes_or_none is

as_contents : (contents : ℕ → List Contents) (l : Listing) → find (is_at l.folder l.file) (expected_files_of_package l.member.pkg) ≡ Some (expected_of l.folder l.file l.entry)
    → HaveValidDigestLengths (expected_files_of_package l.member.pkg) → MatchEachExpectedSizeAndKnownDigest (expected_files_of_package l.member.pkg) (contents l.place) → has_target l.entry ≡ false → is_as_listed l.entry (listing_bytes contents l) ≡ true
as_contents contents l expected have are target =
    let (c, at, is) = found_contents l.folder l.file (expected_files_of_package l.member.pkg) (contents l.place) are (expected_of l.folder l.file l.entry) expected in
    let digest = digest_found (is_at l.folder l.file) (expected_files_of_package l.member.pkg) (expected_of l.folder l.file l.entry) expected have in
    ap (is_as_listed l.entry) (bytes_found contents l (Some c) target at)
    ∙ (told_hash (file_size l.entry) (file_hash l.entry) (file_target l.entry) c.bytes (not-false (length (file_target l.entry) == 0) target) (has_digest (length (file_hash l.entry)) digest)
    ∙ ap is_none is.hash)

pub brought_as_listed : (contents : ℕ → List Contents) (members : List Member) (l : Listing) → Contains (listings_of_members members) l → HaveValidDigestLengths (expected_files_of_package l.member.pkg)
    → MatchEachExpectedSizeAndKnownDigest (expected_files_of_package l.member.pkg) (contents l.place) → (is_file_with_contents l.entry ≡ false → has_target l.entry ≡ false → is_as_listed l.entry [] ≡ true)
    → is_as_listed l.entry (listing_bytes contents l) ≡ true
brought_as_listed contents members l here have are empty = by_target (has_target l.entry) refl
  where
    expected : find (is_at l.folder l.file) (expected_files_of_package l.member.pkg) ≡ expected_or_none l.folder l.file l.entry
    expected = expected_file members l (one_from_contains (listings_of_members members) l here)

    by_contents : (b : Bool) → is_file_with_contents l.entry ≡ b → has_target l.entry ≡ false → is_as_listed l.entry (listing_bytes contents l) ≡ true
    by_contents true with target =
        as_contents contents l (expected ∙ ap (λ (b : Bool). if b then Some (expected_of l.folder l.file l.entry) else None) with) have are target
    by_contents false with target =
        let none = expected ∙ ap (λ (b : Bool). if b then Some (expected_of l.folder l.file l.entry) else None) with in
        ap (is_as_listed l.entry) (bytes_found contents l None target (no_contents l.folder l.file (expected_files_of_package l.member.pkg) (contents l.place) are none))
        ∙ empty with target

    by_target : (b : Bool) → has_target l.entry ≡ b → is_as_listed l.entry (listing_bytes contents l) ≡ true
    by_target true target = as_link contents l target
    by_target false target = by_contents (is_file_with_contents l.entry) refl target
