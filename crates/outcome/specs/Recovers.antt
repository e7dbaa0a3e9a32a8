-- Which commands recover first. This list is independent of `Effect`; a law compares the two. The rule
-- is in `docs/commands.md`, "Commands that recover first".
use Rattle.std.specs.Prelude.{Bool, true, false}
use Rattle.command_core.specs.declared.command.Applet.{Applet}
use Rattle.command_core.specs.declared.command.Applet.TheVariants.{Adbdump, Adbgen, Add, Audit, Del, Demo, Fix, Help, Info, List as ListApplet, Manifest, Mkndx, Mkpkg, Policy, ProgramVersion, Search, Upgrade, Verify, Version}

-- whether an applet has to recover first: the applets that report on or change what is installed, and
-- those that make a file below the root
abbrev pub must_recover : Applet → Bool
-- applets that change the installed packages
must_recover Add = true
must_recover Del = true
must_recover Upgrade = true
must_recover Fix = true
-- applets that report on the root
must_recover Info = true
must_recover Audit = true
must_recover Manifest = true
must_recover ListApplet = true
must_recover Search = true
must_recover Policy = true
-- applets that make one file
must_recover Mkpkg = true
must_recover Mkndx = true
-- applets that leave the root as it is, without recovery
must_recover Verify = false
must_recover Adbdump = false
must_recover Adbgen = false
must_recover Version = false
must_recover Demo = false
must_recover Help = false
must_recover ProgramVersion = false
