-- The rules that read only the bytes of a text, and the texts that are known to obey such a rule. The rules
-- are in the table of `docs/formats.md`, "The texts".
use Rattle.std.specs.Prelude.{◌≡◌, ℕ, Bool, true, List}
use Rattle.base_core.specs.Name.{is_name}
use Rattle.version_core.specs.Order.{is_version}
use Rattle.dep_core.specs.Dependency.{is_dependency_name_by_bytes_and_length, is_package_name}
use Rattle.dep_core.specs.Value.{is_version_or_empty}
use Rattle.adb_view.specs.Values.{text_in, value_at}
use Rattle.adb_view.specs.declared.tables.Kind.TheVariants.{Text}
use Rattle.adb_schema.specs.Rules.{is_folder_name, is_one_part, is_link_target_or_none}
use Rattle.adb_schema.specs.declared.judged.TextRule.{TextRule}
use Rattle.adb_schema.specs.declared.judged.TextRule.TheVariants.{DependencyName, PackageName, Version, VersionOrEmpty, Name, FolderName, OnePart, Target}

-- whether a text obeys a rule that reads only its bytes
abbrev pub keeps_text_rule : TextRule → List ℕ → Bool
keeps_text_rule DependencyName bytes = is_dependency_name_by_bytes_and_length bytes
keeps_text_rule PackageName bytes = is_package_name bytes
keeps_text_rule Version bytes = is_version bytes
keeps_text_rule VersionOrEmpty bytes = is_version_or_empty bytes
keeps_text_rule Name bytes = is_name bytes
keeps_text_rule FolderName bytes = is_folder_name bytes
keeps_text_rule OnePart bytes = is_one_part bytes
keeps_text_rule Target bytes = is_link_target_or_none bytes

-- the text of a word in a payload; empty for NULL
abbrev pub text_at : List ℕ → ℕ → List ℕ
text_at payload word = text_in (value_at payload Text word)

-- the text of a word of the payload obeys a rule; `text` is a pair of the rule and the word
abbrev pub KeepsTextRule : List ℕ → TextRule × ℕ → Type 0
KeepsTextRule payload text = keeps_text_rule text.0 (text_at payload text.1) ≡ true
