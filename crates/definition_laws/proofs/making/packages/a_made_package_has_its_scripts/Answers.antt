use Rattle.command_core.specs.declared.values.TheConstants.{SCRIPT}
use Rattle.std.proofs.Common.{ap, sym, subst}
use Rattle.adb_view.specs.declared.tables.Which.TheVariants.{Scripts}
use Rattle.make_core.specs.package_files.Sources.{values_of_letter}
use Rattle.definition_laws.proofs.making.MadeFrom.{made_from, scripts_are}
use Rattle.definition_laws.proofs.making.ScriptsGiven.{scripts_given}
use Rattle.definition_laws.specs.making.MadePackages.{package_in_container}
use Rattle.definition_laws.specs.making.NamedFields.{field_named}
use Rattle.definition_laws.specs.making.ScriptFiles.{IsScriptOfOptionsOrNull}
use Rattle.definition_laws.proofs.making.packages.a_made_package_has_its_scripts.Goals as goal

pub returns : goal.returns
returns c = λ command names read bytes type made one.
    let m = made_from c.a_made_package_is_read_back.ensures command names read bytes made in
    subst (IsScriptOfOptionsOrNull read (values_of_letter SCRIPT command.values) type) (sym (ap (field_named Scripts type) (scripts_are command names read (package_in_container bytes) m)))
    (scripts_given read (values_of_letter SCRIPT command.values) m.scripts type m.scripts_read one)
