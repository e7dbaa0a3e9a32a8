-- A manifest, line by line and operand by operand.
use Rattle.std.proofs.Common.{◌≡◌, ℕ, suc, ◌+◌, ◌<◌, ◌≤◌, Bool, true, false, cond, List, [], ◌∷◌, ◌++◌, length, drop, Option, Some, None, Result, Ok, Err, refl, ap, sym, ◌∙◌, append_assoc, append-nil, arith}
use Rattle.std.specs.Prelude.{OnOk, codes, slice_get}
use Rattle.std.specs.List.{find, position_from}
use Rattle.std.specs.Option.{option_and_then, option_map_or}
use Rattle.std.proofs.Math.ListN.{drop_of_length-le}
use Rattle.adb_view.specs.Plain.{Plain}
use Rattle.command_core.proofs.Entries.{left_at}
use Rattle.command_core.specs.declared.operands.Operand.{Operand}
use Rattle.db_core.specs.Packages.{is_package_named}
use Rattle.report_core.specs.AuditReports.{digest_and_path_text, digest_with_algorithm_name}
use Rattle.report_core.specs.Reports.{report_line}
use Rattle.report_core.specs.declared.refusal.Refusal.{Refusal}
use Rattle.report_core.specs.declared.refusal.Refusal.TheVariants.{NotInstalled}
use Rattle.audit_core.specs.Manifest.{manifest_of, manifest_with_package_of_operand, package_named_by_operand, package_manifest, manifest_with_lines_before}
use Rattle.audit_core.proofs.RecordSteps.{at_place}

-- ---- a line

four_added : (r0 r1 r2 r3 a b p e : List ℕ) → r1 ≡ r0 ++ a → r2 ≡ r1 ++ b → r3 ≡ r2 ++ (p ++ e) → r3 ≡ r0 ++ (((a ++ b) ++ p) ++ e)
four_added r0 r1 r2 r3 a b p e one two three =
    three
    ∙ (ap (λ z. z ++ (p ++ e)) (two ∙ (ap (λ z. z ++ b) one ∙ append_assoc r0 a b))
    ∙ (append_assoc r0 (a ++ b) (p ++ e)
    ∙ ap (λ z. r0 ++ z) (sym (append_assoc (a ++ b) p e))))

pub line_added : {E : Type 0} (r0 r1 r2 r3 digest path wanted_digest wanted_path : List ℕ) (result : Result (Unit {0}) E) → r1 ≡ r0 ++ digest_with_algorithm_name digest → r2 ≡ r1 ++ codes "  "
    → OnOk result (r3 ≡ r2 ++ report_line path) → digest ≡ wanted_digest → path ≡ wanted_path → OnOk result (r3 ≡ r0 ++ report_line (digest_and_path_text wanted_digest wanted_path))
line_added r0 r1 r2 r3 digest path wanted_digest wanted_path (Err e) one two three d p = tt
line_added r0 r1 r2 r3 digest path wanted_digest wanted_path (Ok x) one two three d p =
    four_added r0 r1 r2 r3 (digest_with_algorithm_name digest) (codes "  ") path (codes "\n") one two three
    ∙ (ap (λ z. r0 ++ report_line (digest_and_path_text z path)) d ∙ ap (λ z. r0 ++ report_line (digest_and_path_text wanted_digest z)) p)

-- ---- operands

abbrev pub all_of : List Plain → List Operand → Result (List ℕ) Refusal
all_of packages operands = manifest_of packages operands

no_lines : (r : Result (List ℕ) Refusal) → r ≡ manifest_with_lines_before [] r
no_lines (Ok xs) = refl
no_lines (Err e) = refl

more_lines : (a b : List ℕ) (r : Result (List ℕ) Refusal) → manifest_with_lines_before a (manifest_with_lines_before b r) ≡ manifest_with_lines_before (a ++ b) r
more_lines a b (Ok xs) = ap Ok (sym (append_assoc a b xs))
more_lines a b (Err e) = refl

-- what is reported so far, and what is left
abbrev pub IsManifestTo : List Plain → List Operand → ℕ → List ℕ → Type 0
IsManifestTo packages operands i report = manifest_of packages operands ≡ manifest_with_lines_before report (manifest_of packages (drop i operands))

pub nothing_yet : (packages : List Plain) (operands : List Operand) (report : List ℕ) → report ≡ [] → IsManifestTo packages operands 0 report
nothing_yet packages operands report is = no_lines (manifest_of packages operands) ∙ ap (λ r. manifest_with_lines_before r (manifest_of packages operands)) (sym is)

first_found : {X : Type 0} (p : X → Bool) (xs ys : List X) (n : ℕ) → ((k : ℕ) → slice_get xs (n + k) ≡ slice_get ys k) → option_and_then (slice_get xs) (position_from p n ys) ≡ find p ys
first_found p xs [] n same = refl
first_found p xs (y ∷ ys) n same = go (p y) (first_found p xs ys (n + 1) (λ k. (let e : n + 1 + k ≡ n + suc k = omega arith in ap (slice_get xs) e ∙ same (suc k))))
  where
    go : (b : Bool) → option_and_then (slice_get xs) (position_from p (n + 1) ys) ≡ find p ys → option_and_then (slice_get xs) (cond b (Some n) (position_from p (n + 1) ys)) ≡ cond b (Some y) (find p ys)
    go true rest = (let e : n ≡ n + 0 = omega arith in ap (slice_get xs) e ∙ same 0)
    go false rest = rest

pub package_at : (packages : List Plain) (text : List ℕ) (place : Option ℕ) → place ≡ position_from (is_package_named text) 0 packages → option_and_then (slice_get packages) place ≡ find (is_package_named text) packages
package_at packages text place is = ap (option_and_then (slice_get packages)) is ∙ first_found (is_package_named text) packages packages 0 (λ k. (let e : 0 + k ≡ k = omega arith in ap (slice_get packages) e))

-- one operand more, whose package is installed
pub reported_package : (packages : List Plain) (operands : List Operand) (i : ℕ) (o : Operand) (report more : List ℕ) (place : ℕ) → slice_get operands i ≡ Some o → place < length packages
    → slice_get packages place ≡ package_named_by_operand packages o → more ≡ report ++ option_map_or package_manifest (slice_get packages place) []
    → IsManifestTo packages operands i report → IsManifestTo packages operands (i + 1) more
reported_package packages operands i o report more place at within is added so_far = go (slice_get packages place) refl (at_place packages place within)
  where
    go : (found : Option Plain) → slice_get packages place ≡ found → (x : Plain) × (slice_get packages place ≡ Some x) → IsManifestTo packages operands (i + 1) more
    go found e (pkg, here) =
        so_far
        ∙ (ap (λ os. manifest_with_lines_before report (manifest_of packages os)) (left_at operands i o at)
        ∙ (ap (λ p. manifest_with_lines_before report (manifest_with_package_of_operand o p (manifest_of packages (drop (i + 1) operands)))) (sym is ∙ here)
        ∙ (more_lines report (package_manifest pkg) (manifest_of packages (drop (i + 1) operands))
        ∙ ap (λ r. manifest_with_lines_before r (manifest_of packages (drop (i + 1) operands))) (sym (added ∙ ap (λ p. report ++ option_map_or package_manifest p []) here)))))

-- an operand whose package is not installed
pub refused_at : (packages : List Plain) (operands : List Operand) (i : ℕ) (o : Operand) (report : List ℕ) → slice_get operands i ≡ Some o → package_named_by_operand packages o ≡ None → IsManifestTo packages operands i report
    → Err (NotInstalled o.place) ≡ manifest_of packages operands
refused_at packages operands i o report at is so_far =
    sym (so_far
    ∙ (ap (λ os. manifest_with_lines_before report (manifest_of packages os)) (left_at operands i o at)
    ∙ ap (λ p. manifest_with_lines_before report (manifest_with_package_of_operand o p (manifest_of packages (drop (i + 1) operands)))) is))

pub all_reported : (packages : List Plain) (operands : List Operand) (i : ℕ) (report : List ℕ) → length operands ≤ i → IsManifestTo packages operands i report → Ok report ≡ manifest_of packages operands
all_reported packages operands i report l so_far =
    sym (so_far ∙ (ap (λ os. manifest_with_lines_before report (manifest_of packages os)) (drop_of_length-le operands l) ∙ ap Ok (append-nil report)))
