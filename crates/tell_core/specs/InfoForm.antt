-- The form of `info` that its flags select (apk(8)); at most one is given. The rules are in
-- `docs/commands.md`, "`info`" and "Words", the options of `info`.
use Rattle.std.specs.Prelude.{if◌then◌else◌}
use Rattle.command_core.specs.declared.command.Flags.{Flags}
use Rattle.tell_core.specs.declared.info.reporting.Form.{Form}
use Rattle.tell_core.specs.declared.info.reporting.Form.TheVariants.{Contents, Depends, Description, Installed, Owner}

-- the form of `info` that the flags select; without a flag, the form that prints descriptions
abbrev pub info_form_of_flags : Flags → Form
info_form_of_flags flags =
    if flags.who_owns then Owner else
    if flags.installed then Installed else
    if flags.contents then Contents else
    if flags.depends then Depends else
    Description
