use Rattle.std.proofs.Common.{◌≡◌, drop}
use Rattle.package_files.specs.Package.{script_bytes_of_field}
use Rattle.make_core.specs.Scripts.{scripts_view}
use Rattle.make_core.proofs.packages.writing.script_of.Given as goal

abbrev pub invariant-loop-script : goal.invariant-loop-script
invariant-loop-script l = script_bytes_of_field (scripts_view l.scripts) l.kind ≡ script_bytes_of_field (scripts_view (drop l.script-index l.scripts)) l.kind
