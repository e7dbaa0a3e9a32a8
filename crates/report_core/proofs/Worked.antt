-- Worked reports: what the definitions say of them, by computation.
use Rattle.std.proofs.Common.{◌≡◌, ◌++◌, [], ◌∷◌, codes, refl}
use Rattle.std.specs.Fmt.{digits}
use Rattle.report_core.specs.Reports.{Change, change_lines, contents_section, description_section, depends_section, owner_text, still_needed_text, bytes_and_package_count_text, trigger_due_for_folder_text}

changes : change_lines (Change.Install (codes "hello") (codes "1.2-r0") ∷ (Change.Upgrade (codes "greet") (codes "1.0-r0") (codes "1.1-r0") ∷ (Change.Purge (codes "world") (codes "1-r0") ∷ []))) ≡ codes "(1/3) Installing hello (1.2-r0)\n(2/3) Upgrading greet (1.0-r0 -> 1.1-r0)\n(3/3) Purging world (1-r0)\n"
unfolding digits
changes = refl

other_changes : change_lines (Change.Reinstall (codes "a") (codes "1") ∷ (Change.Downgrade (codes "b") (codes "2") (codes "1") ∷ (Change.Replace (codes "c") (codes "1") (codes "1.0") ∷ []))) ≡ codes "(1/3) Reinstalling a (1)\n(2/3) Downgrading b (2 -> 1)\n(3/3) Replacing c (1 -> 1.0)\n"
unfolding digits
other_changes = refl

stays : still_needed_text (codes "greet") [] ≡ codes "greet stays"
stays = refl

stays_for_others : still_needed_text (codes "greet") (codes "hello" ∷ (codes "world" ∷ [])) ≡ codes "greet stays; required by: hello world"
stays_for_others = refl

trigger : trigger_due_for_folder_text (codes "man") (codes "usr/share/man") ++ trigger_due_for_folder_text (codes "m") [] ≡ codes "man: trigger due for usr/share/manm: trigger due for /"
trigger = refl

sum : bytes_and_package_count_text 1 2 ≡ codes "OK: 1 bytes in 2 packages"
unfolding digits
sum = refl

description : description_section (codes "p") (codes "1-r0") (codes "A p") ≡ codes "p-1-r0 description:\nA p\n\n"
description = refl

contents : contents_section (codes "p") (codes "1") (codes "usr/a" ∷ (codes "usr/b" ∷ [])) ≡ codes "p-1 contains:\nusr/a\nusr/b\n\n"
contents = refl

depends : depends_section (codes "p") (codes "1") [] ≡ codes "p-1 depends on:\n\n"
depends = refl

owner : owner_text (codes "usr/a") (codes "p") (codes "1") ≡ codes "/usr/a is owned by p-1"
owner = refl
