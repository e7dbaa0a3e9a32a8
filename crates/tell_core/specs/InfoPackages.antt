-- The installed package that an operand means. The rules are in `docs/commands.md`, "`info`"; that no
-- name or path is repeated in a database, in `docs/formats.md`, "Names that stand twice".
use Rattle.std.specs.Prelude.{ℕ, List, Option}
use Rattle.std.specs.List.{find}
use Rattle.adb_view.specs.Plain.{Plain}
use Rattle.file_owners.specs.db_core.Packages.{is_package_named, lists_path}
use Rattle.dep_core.specs.LeadingSlash.{without_leading_slash}
use Rattle.tell_core.specs.declared.info.reporting.Form.{Form}
use Rattle.tell_core.specs.declared.info.reporting.Form.TheVariants.{Owner}

-- the package with this name; None if there is none. No two packages of a database have one name
abbrev pub package_named : List Plain → List ℕ → Option Plain
package_named packages name = find (is_package_named name) packages

-- the package that lists this path; None if there is none. No two packages of a database list one path
abbrev pub path_owner : List Plain → List ℕ → Option Plain
path_owner packages path = find (lists_path path) packages

-- the package that the text of an operand means. In the form *Owner*, the text is a path, with or without one leading
-- `/`; in the other forms it is the name of a package
abbrev pub package_meant_by_operand_text : Form → List Plain → List ℕ → Option Plain
package_meant_by_operand_text Owner packages path = path_owner packages (without_leading_slash path)
package_meant_by_operand_text form packages name = package_named packages name
