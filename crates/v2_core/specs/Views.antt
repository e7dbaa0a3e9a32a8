-- What the program's values denote.
-- Serves the contracts of `value`, `line`, `record` and `writing`.
use Rattle.std.specs.Prelude.{ℕ, List, [], ◌∷◌, map, Option, option_map, Vec}
use Rattle.std.specs.declared.alloc.Global.{Global}
use Rattle.dep_core.specs.Meets.{dependency}
use Rattle.dep_core.specs.declared.dep.Dep.{Dep}
use Rattle.make_info.specs.Fields.{TextNumberOrDependency, text, number, need}
use Rattle.v2_core.specs.Accesses.{Access, access_view}
use Rattle.v2_core.specs.Lines.{RecordLine, info_line, folder_line, folder_access_line, file_line, file_access_line, file_hash_line, other_line}
use Rattle.v2_core.specs.declared.access.Access.{Access as AccessSlices}
use Rattle.v2_core.specs.declared.line.Line.{Line}
use Rattle.v2_core.specs.declared.line.Line.TheVariants as Lines
use Rattle.v2_core.specs.declared.value.Value.{Value}
use Rattle.v2_core.specs.declared.value.Value.TheVariants.{Text, Bytes, Number, Needs, Nothing}

-- the bytes that a vector holds, such as those of a hash
abbrev pub bytes_view : Vec ℕ Global → List ℕ
bytes_view v = v.items

-- the values of a list of dependencies: each is a value of its own
abbrev pub needs_view : Vec Dep Global → List TextNumberOrDependency
needs_view v = map (λ d. need (dependency d)) v.items

-- the values that the value of a line denotes; a commit that is not hexadecimal denotes none
abbrev pub line_value_view : Value → List TextNumberOrDependency
line_value_view (Text t) = text t.now ∷ []
line_value_view (Bytes b) = text b.items ∷ []
line_value_view (Number n) = number n ∷ []
line_value_view (Needs ds) = needs_view ds
line_value_view Nothing = []

-- the meaning of a line of the program
abbrev pub line_view : Line → RecordLine
line_view (Lines.Info f v) = info_line f (line_value_view v)
line_view (Lines.Folder name) = folder_line name.now
line_view (Lines.FolderAccess a) = folder_access_line (access_view a)
line_view (Lines.File name) = file_line name.now
line_view (Lines.FileAccess a) = file_access_line (access_view a)
line_view (Lines.FileHash bytes) = file_hash_line bytes.items
line_view Lines.Other = other_line

-- the access of a file or a folder, if it is known
abbrev pub access_view_if_any : Option AccessSlices → Option Access
access_view_if_any a = option_map access_view a

-- the hash of a file, if it is known
abbrev pub hash_view : Option (Vec ℕ Global) → Option (List ℕ)
hash_view hash = option_map bytes_view hash
