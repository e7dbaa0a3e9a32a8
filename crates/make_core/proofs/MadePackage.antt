-- What a run that makes a package answers.
use Rattle.command_core.specs.declared.values.TheConstants.{FILES}
use Rattle.std.proofs.Common.{◌≡◌, ℕ, ◌^◌, ◌<◌, List, [], ◌∷◌, length, None, Result, Ok, Err, Vec, IfOk, IfErr, sym, ◌∙◌, ap, arith}
use Rattle.std.specs.declared.alloc.Global.{Global}
use Rattle.base_core.specs.Calls.{IfObservable}
use Rattle.base_core.specs.Tree.{TreeState}
use Rattle.pkg_core.specs.Whole.{container_fault}
use Rattle.command_core.specs.Command.{CommandLine}
use Rattle.make_info.specs.Reads.{Reads}
use Rattle.make_info.specs.declared.fault.MakeFault.{MakeFault}
use Rattle.make_info.specs.declared.fault.MakeFault.TheVariants.{FileMissing, FileBad, InfoBad, TooLarge, Disk, Memory}
use Rattle.make_core.specs.Answers.{IsMadeBySomeReads, IsMadeFromTree, IsMadeOf, IsMakeResult, UnlessDiskOrMemory}
use Rattle.make_core.specs.Making.{made_package}
use Rattle.package_files.specs.Sources.{AreSortedAndEachBelowFirstFolder, values_of_letter}

made_in : (told : List TreeState) (command : CommandLine) (made : Result (List ℕ) MakeFault) → IsMadeOf told command made → IfObservable told (λ v. IsMadeFromTree command v made)
made_in [] command made m = tt
made_in (v ∷ vs) command made m = record {
  names = m.names;
  below = m.below;
  is = ap (λ (read : Reads). made_package command m.names read) (λ j n name. sym (m.reads.observed n name) j) ∙ m.reads.is;
}

made_by_some : (told : List TreeState) (command : CommandLine) (made : Result (List ℕ) MakeFault) → IsMadeOf told command made → IsMadeBySomeReads command made
made_by_some told command made m = record { names = m.names; named = m.named; read = m.reads.read; is = m.reads.is }

refused_as : (fault : MakeFault) (P Q : Result (List ℕ) MakeFault → Type 0) → ((made : Result (List ℕ) MakeFault) → P made → Q made) → UnlessDiskOrMemory fault P → UnlessDiskOrMemory fault Q
refused_as Disk P Q f h = tt
refused_as Memory P Q f h = tt
refused_as (FileMissing p) P Q f h = f (Err (FileMissing p)) h
refused_as (FileBad p c) P Q f h = f (Err (FileBad p c)) h
refused_as (InfoBad p) P Q f h = f (Err (InfoBad p)) h
refused_as (TooLarge b v) P Q f h = f (Err (TooLarge b v)) h

module _ (told : List TreeState) (command : CommandLine) where
  pub run_ok : (r : Result (Vec ℕ Global) MakeFault) → IsMakeResult told command r → IfOk r (λ file. IfObservable told (λ v. IsMadeFromTree command v (Ok file.items)))
  run_ok (Ok file) h = made_in told command (Ok file.items) h
  run_ok (Err fault) h = tt

  pub run_err : (r : Result (Vec ℕ Global) MakeFault) → IsMakeResult told command r → IfErr r (λ fault. UnlessDiskOrMemory fault (λ made. IfObservable told (λ v. IsMadeFromTree command v made)))
  run_err (Ok file) h = tt
  run_err (Err fault) h = refused_as fault (IsMadeOf told command) (λ made. IfObservable told (λ v. IsMadeFromTree command v made)) (made_in told command) h

  pub run_found : (r : Result (Vec ℕ Global) MakeFault) → IsMakeResult told command r → IfOk r (λ file. IsMadeBySomeReads command (Ok file.items))
  run_found (Ok file) h = made_by_some told command (Ok file.items) h
  run_found (Err fault) h = tt

  pub run_found_err : (r : Result (Vec ℕ Global) MakeFault) → IsMakeResult told command r → IfErr r (λ fault. UnlessDiskOrMemory fault (IsMadeBySomeReads command))
  run_found_err (Ok file) h = tt
  run_found_err (Err fault) h = refused_as fault (IsMadeOf told command) (IsMadeBySomeReads command) (made_by_some told command) h

-- ---- what is made is sound

abbrev pub SoundPackage : Type 0
SoundPackage = (command : CommandLine) (names : List (List ℕ)) (read : Reads) (bytes : List ℕ) → AreSortedAndEachBelowFirstFolder (values_of_letter FILES command.values) names
    → made_package command names read ≡ Ok bytes → length bytes < 2 ^ 64 → container_fault bytes ≡ None

pub run_sound : SoundPackage → (told : List TreeState) (command : CommandLine) (r : Result (Vec ℕ Global) MakeFault) → IsMakeResult told command r → IfOk r (λ file. container_fault file.items ≡ None)
run_sound law told command (Ok file) h =
    let same = file.ok in
    let small = file.small in
    let short : length file.items < 2 ^ 64 = omega arith in
    law command h.names h.reads.read file.items h.named h.reads.is short
run_sound law told command (Err fault) h = tt
