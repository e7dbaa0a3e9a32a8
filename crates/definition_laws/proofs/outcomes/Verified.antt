-- What `verify` answers.
use Rattle.std.proofs.Common.{◌≡◌, ◌↔◌, ◌∙◌, ℕ, zero, suc, ◌+◌, ◌<◌, true, List, [], ◌∷◌, ◌++◌, map, Option, Some, None, refl, ap, sym, subst, arith}
use Rattle.std.specs.Prelude.{codes, is_some, slice_get}
use Rattle.std.specs.Option.{option_or}
use Rattle.std.proofs.lemmas.List.{append_assoc}
use Rattle.base_core.specs.Files.{Files}
use Rattle.base_core.specs.declared.cause.Cause.{Cause}
use Rattle.command_core.specs.Files.{without_one_leading_dot_slash}
use Rattle.command_core.specs.declared.operands.Operand.{Operand}
use Rattle.definition_laws.proofs.containers.EveryTest.{every_test}
use Rattle.definition_laws.proofs.containers.FirstTests.{any_told}
use Rattle.outcome.specs.make_info.Reads.{Reads}
use Rattle.outcome.specs.Outcome.{just_report_unless_refusal}
use Rattle.outcome.specs.Verify.{file_refusal, sound_lines, refusal_if_file_bad, verify, verify_refusal_from_read_number}
use Rattle.pkg_core.specs.Whole.{container_fault}
use Rattle.report_core.specs.Reports.{report_line, report_lines}
use Rattle.report_core.specs.declared.refusal.Refusal.{Refusal}
use Rattle.report_core.specs.declared.refusal.Refusal.TheVariants.{FileBad, FileMissing}
use Rattle.definition_laws.specs.outcomes.TestedFiles.{AreFilesSound, IsFileRefusal, IsRefusalOfFirstUnsoundFile, IsFoundSound}

-- ---- the outcome of a refusal, or of none

refusal_is : (files : Files) (refusal : Option Refusal) (report : List ℕ) → (just_report_unless_refusal files refusal report).refusal ≡ refusal
refusal_is files None report = refl
refusal_is files (Some r) report = refl

printed_by : (files : Files) (refusal : Option Refusal) (report : List ℕ) → refusal ≡ None → (just_report_unless_refusal files refusal report).out ≡ report
printed_by files refusal report e = ap (λ (o : Option Refusal). (just_report_unless_refusal files o report).out) e

silent_by : (files : Files) (refusal : Option Refusal) (report : List ℕ) → is_some refusal ≡ true → (just_report_unless_refusal files refusal report).out ≡ []
silent_by files None report e = absurd cc
silent_by files (Some r) report e = refl

-- ---- one file

test_none : (place : ℕ) (fault : Option Cause) → refusal_if_file_bad place fault ≡ None → fault ≡ None
test_none place None e = refl
test_none place (Some c) e = absurd cc

sound_found : (place : ℕ) (found : Option (List ℕ)) → file_refusal place found ≡ None → IsFoundSound found
sound_found place None e = absurd cc
sound_found place (Some file) e = record { file = file; is = refl; passes = (every_test file).0 (test_none place (container_fault file) e) }

found_sound : (place : ℕ) (found : Option (List ℕ)) → IsFoundSound found → file_refusal place found ≡ None
found_sound place found s =
    ap (file_refusal place) s.is ∙ ap (refusal_if_file_bad place) ((every_test s.file).1 s.passes)

refusal_of : (place : ℕ) (found : Option (List ℕ)) (refusal : Refusal) → file_refusal place found ≡ Some refusal → IsFileRefusal found place refusal
refusal_of place None refusal e =
    let same : FileMissing place ≡ refusal = cc in
    sym same
refusal_of place (Some file) refusal e = go (container_fault file) refl e
  where
    go : (fault : Option Cause) → container_fault file ≡ fault → refusal_if_file_bad place fault ≡ Some refusal → IsFileRefusal (Some file) place refusal
    go None is e = absurd cc
    go (Some cause) is e =
        let same : FileBad place cause ≡ refusal = cc in
        (cause, any_told file cause is, sym same)

-- ---- all files, the first of which is the read with some number

abbrev AreSoundFrom : Reads → ℕ → List Operand → Type 0
AreSoundFrom read n operands =
    (i : ℕ) (o : Operand) → slice_get operands i ≡ Some o → IsFoundSound (read (n + i) (without_one_leading_dot_slash o.text))

both_none : (a b : Option Refusal) → option_or a b ≡ None → (a ≡ None) × (b ≡ None)
both_none None b e = (refl, e)
both_none (Some r) b e = absurd cc

same_number : (n i : ℕ) → n + suc i ≡ (n + 1) + i
same_number n i = omega arith

no_number : (n : ℕ) → n + 0 ≡ n
no_number n = omega arith

from_zero : (i : ℕ) → 0 + i ≡ i
from_zero i = omega arith

all_sound : (read : Reads) (n : ℕ) (operands : List Operand) → verify_refusal_from_read_number read n operands ≡ None → AreSoundFrom read n operands
all_sound read n [] e i o is = absurd cc
all_sound read n (p ∷ operands) e zero o is =
    let same : p ≡ o = cc in
    let here = sound_found p.place (read n (without_one_leading_dot_slash p.text)) (both_none _ _ e).0 in
    subst (λ (k : ℕ). IsFoundSound (read k (without_one_leading_dot_slash o.text))) (sym (no_number n))
    (subst (λ (q : Operand). IsFoundSound (read n (without_one_leading_dot_slash q.text))) same here)
all_sound read n (p ∷ operands) e (suc i) o is =
    subst (λ (k : ℕ). IsFoundSound (read k (without_one_leading_dot_slash o.text))) (sym (same_number n i))
    (all_sound read (n + 1) operands (both_none _ _ e).1 i o is)

sound_all : (read : Reads) (n : ℕ) (operands : List Operand) → AreSoundFrom read n operands → verify_refusal_from_read_number read n operands ≡ None
sound_all read n [] each = refl
sound_all read n (p ∷ operands) each =
    let here : IsFoundSound (read n (without_one_leading_dot_slash p.text)) = subst (λ (k : ℕ). IsFoundSound (read k (without_one_leading_dot_slash p.text))) (no_number n) (each 0 p refl) in
    ap (λ (o : Option Refusal). option_or o (verify_refusal_from_read_number read (n + 1) operands)) (found_sound p.place (read n (without_one_leading_dot_slash p.text)) here)
    ∙ sound_all read (n + 1) operands (λ i o is. subst (λ (k : ℕ). IsFoundSound (read k (without_one_leading_dot_slash o.text))) (same_number n i) (each (suc i) o is))

pub sound_exactly : (read : Reads) (files : Files) (operands : List Operand) → ((verify read files operands).refusal ≡ None) ↔ AreFilesSound read operands
sound_exactly read files operands = (
  λ e i o is. subst (λ (k : ℕ). IsFoundSound (read k (without_one_leading_dot_slash o.text))) (from_zero i)
      (all_sound read 0 operands (sym (refusal_is files (verify_refusal_from_read_number read 0 operands) (sound_lines operands)) ∙ e) i o is),
  λ each. refusal_is files (verify_refusal_from_read_number read 0 operands) (sound_lines operands)
      ∙ sound_all read 0 operands (λ i o is. subst (λ (k : ℕ). IsFoundSound (read k (without_one_leading_dot_slash o.text))) (sym (from_zero i)) (each i o is)),
)

-- ---- the first refused one

-- the refusal is that of one file, and those before it are sound, by the number of the first read
record IsFirstFrom (read : Reads) (n : ℕ) (operands : List Operand) (refusal : Refusal) : Type 0 where
  number : ℕ
  operand : Operand
  at : slice_get operands number ≡ Some operand
  refused : IsFileRefusal (read (n + number) (without_one_leading_dot_slash operand.text)) operand.place refusal
  earlier : (i : ℕ) → i < number → (o : Operand) → slice_get operands i ≡ Some o → IsFoundSound (read (n + i) (without_one_leading_dot_slash o.text))

first_from : (read : Reads) (n : ℕ) (operands : List Operand) (refusal : Refusal) → verify_refusal_from_read_number read n operands ≡ Some refusal → IsFirstFrom read n operands refusal
first_from read n [] refusal e = absurd cc
first_from read n (p ∷ operands) refusal e =
    go (file_refusal p.place (read n (without_one_leading_dot_slash p.text))) refl e (first_from read (n + 1) operands refusal)
  where
    later : IsFoundSound (read n (without_one_leading_dot_slash p.text)) → (f : IsFirstFrom read (n + 1) operands refusal) → (i : ℕ) → i < suc f.number → (o : Operand) → slice_get (p ∷ operands) i ≡ Some o → IsFoundSound (read (n + i) (without_one_leading_dot_slash o.text))
    later here f zero below o is =
        let same : p ≡ o = cc in
        subst (λ (k : ℕ). IsFoundSound (read k (without_one_leading_dot_slash o.text))) (sym (no_number n))
        (subst (λ (q : Operand). IsFoundSound (read n (without_one_leading_dot_slash q.text))) same here)
    later here f (suc i) below o is =
        subst (λ (k : ℕ). IsFoundSound (read k (without_one_leading_dot_slash o.text))) (sym (same_number n i)) (f.earlier i (omega (arith, below)) o is)

    go : (o : Option Refusal) → file_refusal p.place (read n (without_one_leading_dot_slash p.text)) ≡ o → option_or o (verify_refusal_from_read_number read (n + 1) operands) ≡ Some refusal
        → (verify_refusal_from_read_number read (n + 1) operands ≡ Some refusal → IsFirstFrom read (n + 1) operands refusal) → IsFirstFrom read n (p ∷ operands) refusal
    go (Some r) is e more =
        let same : r ≡ refusal = cc in
        record {
          number = 0;
          operand = p;
          at = refl;
          refused = subst (λ (k : ℕ). IsFileRefusal (read k (without_one_leading_dot_slash p.text)) p.place refusal) (sym (no_number n)) (refusal_of p.place (read n (without_one_leading_dot_slash p.text)) refusal (is ∙ ap Some same));
          earlier = λ i below. absurd (omega (arith, below));
        }
    go None is e more =
        let f = more e in
        record {
          number = suc f.number;
          operand = f.operand;
          at = f.at;
          refused = subst (λ (k : ℕ). IsFileRefusal (read k (without_one_leading_dot_slash f.operand.text)) f.operand.place refusal) (sym (same_number n f.number)) f.refused;
          earlier = later (sound_found p.place (read n (without_one_leading_dot_slash p.text)) is) f;
        }

pub first_unsound : (read : Reads) (files : Files) (operands : List Operand) (refusal : Refusal) → (verify read files operands).refusal ≡ Some refusal → IsRefusalOfFirstUnsoundFile read operands refusal
first_unsound read files operands refusal e =
    let f = first_from read 0 operands refusal (sym (refusal_is files (verify_refusal_from_read_number read 0 operands) (sound_lines operands)) ∙ e) in
    record {
      number = f.number;
      operand = f.operand;
      at = f.at;
      refused = subst (λ (k : ℕ). IsFileRefusal (read k (without_one_leading_dot_slash f.operand.text)) f.operand.place refusal) (from_zero f.number) f.refused;
      earlier = λ i below o is. subst (λ (k : ℕ). IsFoundSound (read k (without_one_leading_dot_slash o.text))) (from_zero i) (f.earlier i below o is);
    }

-- ---- the report

ok_lines : (operands : List Operand) → sound_lines operands ≡ report_lines (map (λ (o : Operand). without_one_leading_dot_slash o.text ++ codes ": OK") operands)
ok_lines [] = refl
ok_lines (o ∷ operands) =
    ap (λ (t : List ℕ). t ++ sound_lines operands) (sym (append_assoc (without_one_leading_dot_slash o.text) (codes ": OK") (codes "\n")))
    ∙ ap (λ (t : List ℕ). report_line (without_one_leading_dot_slash o.text ++ codes ": OK") ++ t) (ok_lines operands)

pub ok_printed : (read : Reads) (files : Files) (operands : List Operand) → (verify read files operands).refusal ≡ None
    → (verify read files operands).out ≡ report_lines (map (λ (o : Operand). without_one_leading_dot_slash o.text ++ codes ": OK") operands)
ok_printed read files operands e =
    printed_by files (verify_refusal_from_read_number read 0 operands) (sound_lines operands) (sym (refusal_is files (verify_refusal_from_read_number read 0 operands) (sound_lines operands)) ∙ e)
    ∙ ok_lines operands

pub nothing_printed : (read : Reads) (files : Files) (operands : List Operand) → is_some (verify read files operands).refusal ≡ true → (verify read files operands).out ≡ []
nothing_printed read files operands e =
    silent_by files (verify_refusal_from_read_number read 0 operands) (sound_lines operands) (ap is_some (sym (refusal_is files (verify_refusal_from_read_number read 0 operands) (sound_lines operands))) ∙ e)
