-- An index that is made is sound.
use Rattle.std.proofs.Common.{◌≡◌, ℕ, List, None, Result, Ok, Err, Vec, IfOk}
use Rattle.std.specs.declared.alloc.Global.{Global}
use Rattle.pkg_core.specs.Whole.{container_fault}
use Rattle.command_core.specs.Command.{CommandLine}
use Rattle.make_core.specs.Index.{made_index}
use Rattle.make_core.specs.Kept.{AgreesUnlessMemoryOrDisk}
use Rattle.make_core.specs.Files.{EachOperandReadFindsNoFileOrFileBytes}
use Rattle.make_info.specs.Reads.{Reads}
use Rattle.make_info.specs.declared.fault.MakeFault.{MakeFault}

abbrev pub SoundIndex : Type 0
SoundIndex = (command : CommandLine) (read : Reads) (bytes : List ℕ) → EachOperandReadFindsNoFileOrFileBytes read 0 command.operands → made_index command read ≡ Ok bytes → container_fault bytes ≡ None

pub index_sound : SoundIndex → (command : CommandLine) (r : Result (Vec ℕ Global) MakeFault) → (read : Reads) × EachOperandReadFindsNoFileOrFileBytes read 0 command.operands × AgreesUnlessMemoryOrDisk (λ (file : Vec ℕ Global). file.items) r (made_index command read)
    → IfOk r (λ file. container_fault file.items ≡ None)
index_sound law command (Ok file) (read, files, is) = law command read file.items files is
index_sound law command (Err fault) found = tt
