-- One script of what was read.
use Rattle.std.proofs.Common.{◌≡◌, ◌∙◌, ℕ, List, Result, Ok, Err, sym, ap, subst}
use Rattle.command_core.specs.Values.{script_type, script_file}
use Rattle.command_core.specs.Files.{without_one_leading_dot_slash}
use Rattle.command_core.specs.declared.values.OptionValue.{OptionValue}
use Rattle.package_files.specs.Package as packages
use Rattle.package_files.specs.Runs.{AgreesOrIsFault}
use Rattle.make_core.specs.Scripts.{IsScript}
use Rattle.package_files.specs.Sources.{and_then, found_bytes_or_missing, script_at}
use Rattle.package_files.specs.make_info.Reads.{Reads}
use Rattle.package_files.specs.make_info.declared.fault.MakeFault.{MakeFault}
use Rattle.make_core.specs.declared.packages.writing.Script.{Script}
use Rattle.package_files.proofs.ReadLemmas.{fault_of_part}
use Rattle.package_files.proofs.PackLemmas.{IsFound}

abbrev pub file_of : OptionValue → List ℕ
file_of v = without_one_leading_dot_slash (script_file v.text)

abbrev pub next_of : OptionValue → List ℕ → Result packages.Script MakeFault
next_of v bytes = Ok (record { field = script_type v.text; bytes = bytes })

pub script_fault : (read : Reads) (n : ℕ) (v : OptionValue) (file : List ℕ) (fault : MakeFault) → file ≡ file_of v
    → AgreesOrIsFault IsFound (Err fault) (found_bytes_or_missing v.place (read n file)) → AgreesOrIsFault IsScript (Err fault) (script_at read n v)
script_fault read n v file fault e h =
    let P : List ℕ → Type 0 = λ name. AgreesOrIsFault IsFound (Err fault) (found_bytes_or_missing v.place (read n name)) in
    fault_of_part IsFound IsScript fault (found_bytes_or_missing v.place (read n (file_of v))) (next_of v) (subst P e h)

pub script_is : (read : Reads) (n : ℕ) (v : OptionValue) (file : List ℕ) (script : Script) → file ≡ file_of v → script.kind.now ≡ script_type v.text
    → AgreesOrIsFault IsFound (Ok script.bytes) (found_bytes_or_missing v.place (read n file)) → AgreesOrIsFault IsScript (Ok script) (script_at read n v)
script_is read n v file script e k h = (
  record { field = script_type v.text; bytes = h.0 },
  ap (λ (r : Result (List ℕ) MakeFault). and_then r (next_of v)) (sym (ap (λ (name : List ℕ). found_bytes_or_missing v.place (read n name)) e) ∙ h.1),
  λ j. let s : packages.Script = record { field = k j; bytes = sym h.2 j } in s,
)
