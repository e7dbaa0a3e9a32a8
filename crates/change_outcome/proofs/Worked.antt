-- Examples: the folder of a path, and which folders a pattern matches.
use Rattle.std.proofs.Common.{◌≡◌, refl, true, false, ℕ, List, [], ◌∷◌, codes}
use Rattle.adb_view.specs.Plain.{Plains, arr, blob, blob_or_null, more, none, null, obj}
use Rattle.package_changes.specs.own_core.PlanLists.{sorted_distinct_names}
use Rattle.db_core.specs.Members.{Member, member_of_kept}
use Rattle.change_outcome.specs.ConfigurationLines.{lines_of_apk_new_and_kept_paths}
use Rattle.change_inputs.specs.package_files.Folders.{folder_of}
use Rattle.change_outcome.specs.Triggers.{is_folder_matched_by_pattern, trigger_lines}

deep_folder : folder_of (codes "usr/share/man/man1/d") ≡ codes "usr/share/man/man1"
deep_folder = refl

root_folder : folder_of (codes "d") ≡ []
root_folder = refl

star_is_one_part : is_folder_matched_by_pattern (codes "usr/share/man/man1") (codes "/usr/share/man/*") ≡ true
unfolding is_folder_matched_by_pattern
star_is_one_part = refl

star_in_a_part : is_folder_matched_by_pattern (codes "usr/lib/modules-5") (codes "/usr/l*b/m*-*") ≡ true
unfolding is_folder_matched_by_pattern
star_in_a_part = refl

star_is_no_slash : is_folder_matched_by_pattern (codes "usr/share/man/man1") (codes "/usr/share/*") ≡ false
unfolding is_folder_matched_by_pattern
star_is_no_slash = refl

folder_above : is_folder_matched_by_pattern (codes "usr/share") (codes "/usr/share/man") ≡ false
unfolding is_folder_matched_by_pattern
folder_above = refl

root_by_slash : is_folder_matched_by_pattern [] (codes "/") ≡ true
unfolding is_folder_matched_by_pattern
root_by_slash = refl

root_by_star : is_folder_matched_by_pattern [] (codes "*") ≡ false
unfolding is_folder_matched_by_pattern
root_by_star = refl

root_by_nothing : is_folder_matched_by_pattern [] [] ≡ false
unfolding is_folder_matched_by_pattern
root_by_nothing = refl

slash_and_a_folder : is_folder_matched_by_pattern (codes "usr") (codes "/") ≡ false
unfolding is_folder_matched_by_pattern
slash_and_a_folder = refl

two_slashes : is_folder_matched_by_pattern [] (codes "//") ≡ false
unfolding is_folder_matched_by_pattern
two_slashes = refl

no_slash_in_front : is_folder_matched_by_pattern (codes "usr/bin") (codes "usr/bin") ≡ true
unfolding is_folder_matched_by_pattern
no_slash_in_front = refl

slash_at_the_end : is_folder_matched_by_pattern (codes "usr/bin") (codes "/usr/bin/") ≡ false
unfolding is_folder_matched_by_pattern
slash_at_the_end = refl

star_is_nothing : is_folder_matched_by_pattern (codes "usr/lib") (codes "/usr/lib*") ≡ true
unfolding is_folder_matched_by_pattern
star_is_nothing = refl

star_in_front : is_folder_matched_by_pattern (codes "usr/bin") (codes "*/bin") ≡ true
unfolding is_folder_matched_by_pattern
star_in_front = refl

later_place : is_folder_matched_by_pattern (codes "usr/aab") (codes "/usr/*ab") ≡ true
unfolding is_folder_matched_by_pattern
later_place = refl

two_stars : is_folder_matched_by_pattern (codes "usr/a1b2") (codes "/usr/a*b*") ≡ true
unfolding is_folder_matched_by_pattern
two_stars = refl

pieces_in_order : is_folder_matched_by_pattern (codes "usr/b1a2") (codes "/usr/a*b*") ≡ false
unfolding is_folder_matched_by_pattern
pieces_in_order = refl

not_to_the_end : is_folder_matched_by_pattern (codes "usr/aba") (codes "/usr/*ab") ≡ false
unfolding is_folder_matched_by_pattern
not_to_the_end = refl

one_star_is_no_root : is_folder_matched_by_pattern [] (codes "/*") ≡ false
unfolding is_folder_matched_by_pattern
one_star_is_no_root = refl

one_star_is_one_folder : is_folder_matched_by_pattern (codes "usr") (codes "/*") ≡ true
unfolding is_folder_matched_by_pattern
one_star_is_one_folder = refl

folder_below : is_folder_matched_by_pattern (codes "usr/share/man/man1") (codes "/usr/share/man") ≡ false
unfolding is_folder_matched_by_pattern
folder_below = refl

-- ---- the lines of configuration that the user changed

by_path : lines_of_apk_new_and_kept_paths (codes "etc/a" ∷ (codes "etc/c" ∷ [])) (codes "etc/b" ∷ [])
    ≡ codes "etc/a.apk-new installed; etc/a was changed\netc/b kept; it was changed\netc/c.apk-new installed; etc/c was changed\n"
unfolding lines_of_apk_new_and_kept_paths
by_path = refl

-- ---- the lines of due triggers

-- a package with this name, trigger script and patterns
watcher : List ℕ → List ℕ → Plains → Member
watcher name script patterns = member_of_kept
    (obj (more (obj (more (blob name) none)) (more null (more (obj (more (blob_or_null script) none)) (more (arr patterns) none)))))

man : Member
man = watcher (codes "man") (codes "s") (more (blob (codes "/usr/share/man/*")) (more (blob (codes "/usr/*/man/man1")) none))

-- two patterns match the folder of two files
one_line : trigger_lines (codes "usr/share/man/man1/e" ∷ (codes "usr/share/man/man1/d" ∷ [])) (man ∷ []) ≡ codes "man: trigger due for usr/share/man/man1\n"
unfolding trigger_lines is_folder_matched_by_pattern sorted_distinct_names watcher man
one_line = refl

-- packages in their order, and of each the folders in byte order
lines_in_order : trigger_lines (codes "usr/share/man/man5/x" ∷ (codes "d" ∷ (codes "usr/share/man/man1/e" ∷ []))) (man ∷ (watcher (codes "top") (codes "s") (more (blob (codes "/")) none) ∷ []))
    ≡ codes "man: trigger due for usr/share/man/man1\nman: trigger due for usr/share/man/man5\ntop: trigger due for /\n"
unfolding trigger_lines is_folder_matched_by_pattern sorted_distinct_names watcher man
lines_in_order = refl

no_script : trigger_lines (codes "d" ∷ []) (watcher (codes "top") [] (more (blob (codes "/")) none) ∷ []) ≡ []
unfolding trigger_lines is_folder_matched_by_pattern sorted_distinct_names watcher
no_script = refl
