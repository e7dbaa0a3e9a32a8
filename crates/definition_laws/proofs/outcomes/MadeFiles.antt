-- What `mkpkg` and `mkndx` answer, and which of two refusals.
use Rattle.std.proofs.Common.{◌≡◌, ◌≢◌, ◌⊎◌, inl, inr, ◌↔◌, ℕ, true, false, List, [], ◌∷◌, ◌++◌, length, drop, Option, Some, None, Result, Ok, Err, refl, sym, subst}
use Rattle.std.specs.Prelude.{codes, nat_eq}
use Rattle.std.specs.List.{list_any, starts_with}
use Rattle.std.specs.Str.{bytes_eq}
use Rattle.std.proofs.lemmas.Bool.{false_from_ne_true, or_cases, or_left, or_right}
use Rattle.std.proofs.lemmas.Bool.Decides.{Decides-eqb}
use Rattle.std.proofs.lemmas.Slice.Eq.{bytes_eq-Decides, starts_is}
use Rattle.outcome.specs.adb_schema.Reserved.{is_at_or_below, is_reserved, reserved_names}
use Rattle.base_core.specs.Files.{Files}
use Rattle.base_core.specs.Lists.{IsIn}
use Rattle.outcome.specs.make_info.declared.fault.MakeFault.{MakeFault}
use Rattle.outcome.specs.make_info.declared.fault.MakeFault.TheVariants.{FileMissing as NoFile, FileBad as BadFile, InfoBad as BadInfo, TooLarge, Disk, Memory}
use Rattle.report_core.specs.declared.refusal.Refusal.{Refusal}
use Rattle.report_core.specs.declared.refusal.Refusal.TheVariants.{FileBad, FileMissing, InfoBad, Reserved, ResultTooLarge}
use Rattle.outcome.specs.Make.{files_with_output, make_outcome, outcome_unless_output_reserved}
use Rattle.outcome.specs.Outcome.{Outcome, commit_report, just_refusal}
use Rattle.definition_laws.specs.outcomes.MadeFiles.{HasOutput, IsMadeOrTooLarge, IsRefusedWith, IsReservedName, IsOutputUnreserved, IsOutputWrittenAndReported, refusal_if_input_fault}

-- ---- reserved names

-- a name is another, or begins with it and a slash
abbrev IsBelow : List ℕ → List ℕ → Type 0
IsBelow top name = (name ≡ top) ⊎ ((rest : List ℕ) × (name ≡ top ++ codes "/" ++ rest))

at_or_below : (top name : List ℕ) → (is_at_or_below top name ≡ true) ↔ IsBelow top name
at_or_below top name =
    let starts = starts_is Decides-eqb name (top ++ codes "/") (starts_with nat_eq name (top ++ codes "/")) refl in (
      λ e. elim (or_cases (bytes_eq name top) (starts_with nat_eq name (top ++ codes "/")) e) [
        | inl same ↦ inl ((bytes_eq-Decides name top).0 same)
        | inr begins ↦ inr (drop (length (top ++ codes "/")) name, starts.0 begins)
      ],
      λ below. elim below [
        | inl same ↦ or_left (bytes_eq name top) (starts_with nat_eq name (top ++ codes "/")) ((bytes_eq-Decides name top).1 same)
        | inr more ↦ or_right (bytes_eq name top) (starts_with nat_eq name (top ++ codes "/")) (starts.1 more.0 more.1)
      ],
    )

-- one of some names is above another
abbrev IsBelowAny : List (List ℕ) → List ℕ → Type 0
IsBelowAny tops name = (top : List ℕ) × IsIn top tops × IsBelow top name

below_any : (tops : List (List ℕ)) (name : List ℕ) → (list_any (λ top. is_at_or_below top name) tops ≡ true) ↔ IsBelowAny tops name
below_any [] name = (λ e. absurd (cc), λ below. absurd below.1)
below_any (top ∷ tops) name =
    let later = below_any tops name in (
      λ e. elim (or_cases (is_at_or_below top name) (list_any (λ (t : List ℕ). is_at_or_below t name) tops) e) [
        | inl here ↦ (top, inl refl, (at_or_below top name).0 here)
        | inr more ↦ let found = later.0 more in (found.0, inr found.1, found.2)
      ],
      λ below. elim below.1 [
        | inl same ↦ or_left (is_at_or_below top name) (list_any (λ (t : List ℕ). is_at_or_below t name) tops) ((at_or_below top name).1 (subst (λ (t : List ℕ). IsBelow t name) same below.2))
        | inr more ↦ or_right (is_at_or_below top name) (list_any (λ (t : List ℕ). is_at_or_below t name) tops) (later.1 (below.0, more, below.2))
      ],
    )

pub reserved : (name : List ℕ) → (is_reserved name ≡ true) ↔ IsReservedName name
reserved name =
    let any = below_any reserved_names name in (
      λ e. let found = any.0 e in record { top = found.0; listed = found.1; below = found.2 },
      λ r. any.1 (r.top, r.listed, r.below),
    )

-- ---- refusals

refused : (files : Files) (refusal : Refusal) → IsRefusedWith refusal files (just_refusal files refusal)
refused files refusal = record { refused = refl; prints = refl; explains = refl; keeps = refl; commits = refl }

refused_by : (files : Files) (refusal other : Refusal) → refusal ≡ other → IsRefusedWith other files (just_refusal files refusal)
refused_by files refusal other same = subst (λ (r : Refusal). IsRefusedWith r files (just_refusal files refusal)) same (refused files refusal)

pub input_first : (files : Files) (output : Option (List ℕ)) (report : List ℕ) (fault : MakeFault) (refusal : Refusal) → refusal_if_input_fault fault ≡ Some refusal → IsRefusedWith refusal files (make_outcome files output report (Err fault))
input_first files output report (NoFile place) refusal is = refused_by files (FileMissing place) refusal cc
input_first files output report (BadFile place cause) refusal is = refused_by files (FileBad place cause) refusal cc
input_first files output report (BadInfo place) refusal is = refused_by files (InfoBad place) refusal cc
input_first files output report (TooLarge bytes values) refusal is = absurd (cc)
input_first files output report Disk refusal is = absurd (cc)
input_first files output report Memory refusal is = absurd (cc)

refused_if : (files : Files) (name : List ℕ) (otherwise : Outcome) → IsReservedName name → IsRefusedWith (Reserved name) files (outcome_unless_output_reserved files (Some name) otherwise)
refused_if files name otherwise is = rw ((reserved name).1 is) (refused files (Reserved name))

pub reserved_first : (files : Files) (name report : List ℕ) (made : Result (List ℕ) MakeFault) → IsReservedName name → IsMadeOrTooLarge made → IsRefusedWith (Reserved name) files (make_outcome files (Some name) report made)
reserved_first files name report made is (inl (bytes, e)) = rw e (refused_if files name (commit_report (files_with_output (Some name) bytes files) report) is)
reserved_first files name report made is (inr (bytes, values, e)) = rw e (refused_if files name (just_refusal files (ResultTooLarge bytes values)) is)

-- an output that is not reserved is as if it were not tested
untested : (files : Files) (output : Option (List ℕ)) (otherwise : Outcome) → IsOutputUnreserved output → outcome_unless_output_reserved files output otherwise ≡ otherwise
untested files None otherwise free = refl
untested files (Some name) otherwise free = rw (false_from_ne_true (is_reserved name) (λ e. free name refl ((reserved name).0 e))) refl

pub too_large : (files : Files) (output : Option (List ℕ)) (report : List ℕ) (bytes values : ℕ) → IsOutputUnreserved output → IsRefusedWith (ResultTooLarge bytes values) files (make_outcome files output report (Err (TooLarge bytes values)))
too_large files output report bytes values free = subst (IsRefusedWith (ResultTooLarge bytes values) files) (sym (untested files output (just_refusal files (ResultTooLarge bytes values)) free)) (refused files (ResultTooLarge bytes values))

-- ---- what is written

apart : (name : List ℕ) → name ++ codes ".apk-tmp" ≢ name
apart [] is = cc
apart (x ∷ name) is = apart name cc

has_output : (files : Files) (output : Option (List ℕ)) (bytes : List ℕ) → HasOutput output bytes files (files_with_output output bytes files)
has_output files None bytes = refl
has_output files (Some name) bytes = record {
  written = rw ((bytes_eq-Decides name name).1 refl) refl;
  scratch = rw (differ (name ++ codes ".apk-tmp") name (apart name), (bytes_eq-Decides (name ++ codes ".apk-tmp") (name ++ codes ".apk-tmp")).1 refl) refl;
  others = λ q no_name no_scratch. rw (differ q name no_name, differ q (name ++ codes ".apk-tmp") no_scratch) refl;
}
  where
    differ : (a b : List ℕ) → a ≢ b → bytes_eq a b ≡ false
    differ a b apart = false_from_ne_true (bytes_eq a b) (λ e. apart ((bytes_eq-Decides a b).0 e))

pub written : (files : Files) (output : Option (List ℕ)) (report bytes : List ℕ) → IsOutputUnreserved output → IsOutputWrittenAndReported output bytes report files (make_outcome files output report (Ok bytes))
written files output report bytes free =
    subst (IsOutputWrittenAndReported output bytes report files) (sym (untested files output (commit_report (files_with_output output bytes files) report) free)) (record {
      accepted = refl;
      prints = refl;
      explains = refl;
      writes = has_output files output bytes;
      commits = refl;
    })
