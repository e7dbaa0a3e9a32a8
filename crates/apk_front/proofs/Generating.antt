-- The container of a dump text, by the operand and by what is found under it.
use Rattle.std.proofs.Common.{◌≡◌, ℕ, List, [], ◌∷◌, Option, Some, None, Result, Ok, Err, sym, ap, subst, ◌∙◌, length}
use Rattle.std.specs.List.{slice_get}
use Rattle.std.specs.Option.{option_map}
use Rattle.make_core.proofs.IndexReads.{operand_name}
use Rattle.base_core.specs.Calls.{IfObservable}
use Rattle.base_core.specs.Files.{Files, no_names}
use Rattle.base_core.specs.Tree.{TreeState, files_of}
use Rattle.command_core.specs.Named.{operand_file}
use Rattle.command_core.specs.declared.operands.Operand.{Operand}
use Rattle.gen_core.specs.Generated.{IsGenFault, generated_file}
use Rattle.gen_core.specs.declared.generate.GenFault.{GenFault}
use Rattle.gen_core.specs.declared.generate.GenFault.TheVariants.{Bad, TooLarge}
use Rattle.make_core.specs.make_info.Reads.{Reads}
use Rattle.outcome.specs.Commands.{reads_in}
use Rattle.outcome.specs.Generate.{adbgen, container_outcome, generate_outcome}
use Rattle.outcome.specs.Outcome.{just_refusal, just_report}
use Rattle.report_core.specs.declared.refusal.Refusal.TheVariants.{FileMissing, ResultTooLarge, TextBad}
use Rattle.apk_front.specs.Verdicts.{as_outcome}
use Rattle.apk_front.specs.declared.answer.Verdict.{Verdict}
use Rattle.apk_front.proofs.Dumping.{one_of}

-- ---- the operand

pub gen_found : (old : List TreeState) (os : List Operand) (o : Operand) (name : List ℕ) (verdict : Verdict) (bytes : Option (List ℕ)) → length os ≡ 1 → slice_get os 0 ≡ Some o → option_map operand_file (slice_get os 0) ≡ Some name
    → ((files : Files) → as_outcome files verdict ≡ generate_outcome files o.place bytes) → IfObservable old (λ v. bytes ≡ files_of v name)
    → IfObservable old (λ v. as_outcome (files_of v) verdict ≡ adbgen (reads_in (files_of v)) (files_of v) os)
gen_found [] os o name verdict bytes n x named is found = tt
gen_found (v ∷ old) os o name verdict bytes n x named is found =
    is (files_of v)
    ∙ ap (generate_outcome (files_of v) o.place) (found ∙ ap (files_of v) (operand_name os 0 o name x named))
    ∙ ap (adbgen (reads_in (files_of v)) (files_of v)) (sym (one_of os o n x))

pub gen_read : (os : List Operand) (o : Operand) (verdict : Verdict) (bytes : Option (List ℕ)) → length os ≡ 1 → slice_get os 0 ≡ Some o
    → ((files : Files) → as_outcome files verdict ≡ generate_outcome files o.place bytes)
    → (read : Reads) × (as_outcome no_names verdict ≡ adbgen read no_names os)
gen_read os o verdict bytes n x is = (λ k name. bytes, is no_names ∙ ap (adbgen (λ k name. bytes) no_names) (sym (one_of os o n x)))

-- ---- what was found

pub gen_missing : (place : ℕ) (bytes : Option (List ℕ)) (verdict : Verdict) → bytes ≡ None → ((files : Files) → as_outcome files verdict ≡ just_refusal files (FileMissing place)) → (files : Files) → as_outcome files verdict ≡ generate_outcome files place bytes
gen_missing place bytes verdict is same_outcome files = same_outcome files ∙ ap (generate_outcome files place) (sym is)

module _ (place : ℕ) (bytes : Option (List ℕ)) (text view : List ℕ) (verdict : Verdict) (is : bytes ≡ Some text) (at : view ≡ text) where
  pub gen_good : (file : List ℕ) → generated_file view ≡ Ok file → ((files : Files) → as_outcome files verdict ≡ just_report files file) → (files : Files) → as_outcome files verdict ≡ generate_outcome files place bytes
  gen_good file good same_outcome files = same_outcome files ∙ (ap (container_outcome files place) (sym good ∙ ap generated_file at) ∙ ap (generate_outcome files place) (sym is))

  pub gen_bad : (p line : ℕ) (why : GenFault) → p ≡ line → why ≡ Bad line → IsGenFault why (generated_file view) → ((files : Files) → as_outcome files verdict ≡ just_refusal files (TextBad place p)) → (files : Files) → as_outcome files verdict ≡ generate_outcome files place bytes
  gen_bad p line why same bad of same_outcome files =
      let fault : generated_file view ≡ Err (Bad line) = subst (λ (f : GenFault). IsGenFault f (generated_file view)) bad of in
      same_outcome files ∙ (ap (λ n. just_refusal files (TextBad place n)) same ∙ (ap (container_outcome files place) (sym fault ∙ ap generated_file at) ∙ ap (generate_outcome files place) (sym is)))

  pub gen_large : (p q count values : ℕ) (why : GenFault) → p ≡ count → q ≡ values → why ≡ TooLarge count values → IsGenFault why (generated_file view) → ((files : Files) → as_outcome files verdict ≡ just_refusal files (ResultTooLarge p q)) → (files : Files) → as_outcome files verdict ≡ generate_outcome files place bytes
  gen_large p q count values why same also large of same_outcome files =
      let fault : generated_file view ≡ Err (TooLarge count values) = subst (λ (f : GenFault). IsGenFault f (generated_file view)) large of in
      same_outcome files
      ∙ ((λ i. just_refusal files (ResultTooLarge (same i) (also i))) ∙ (ap (container_outcome files place) (sym fault ∙ ap generated_file at) ∙ ap (generate_outcome files place) (sym is)))
