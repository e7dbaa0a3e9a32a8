-- The options of a command line that take no value. The rules are in `docs/commands.md`, "Words", the
-- table of options, the rows without a value.
use Rattle.std.specs.Prelude.{Bool, true, false, List, [], ◌∷◌}
use Rattle.std.specs.List.{list_any}
use Rattle.command_core.specs.declared.command.Flag.{Flag}
use Rattle.command_core.specs.declared.command.Flag.TheVariants.{AllowUntrusted, NoScripts, Initdb, Simulate, Purge, Installed, Contents, Depends, WhoOwns, Test, Check}
use Rattle.command_core.specs.declared.command.Flags.{Flags}

-- no flags
abbrev pub no_flags : Flags
no_flags = record {
  allow_untrusted = false;
  no_scripts = false;
  initdb = false;
  simulate = false;
  purge = false;
  installed = false;
  contents = false;
  depends = false;
  who_owns = false;
  test = false;
  check = false;
}

-- whether a flag is among the flags that were given
abbrev pub has_flag : Flag → Flags → Bool
has_flag AllowUntrusted flags = flags.allow_untrusted
has_flag NoScripts flags = flags.no_scripts
has_flag Initdb flags = flags.initdb
has_flag Simulate flags = flags.simulate
has_flag Purge flags = flags.purge
has_flag Installed flags = flags.installed
has_flag Contents flags = flags.contents
has_flag Depends flags = flags.depends
has_flag WhoOwns flags = flags.who_owns
has_flag Test flags = flags.test
has_flag Check flags = flags.check

-- the flags, with this one given too
abbrev pub with_flag : Flag → Flags → Flags
with_flag AllowUntrusted flags = record flags { allow_untrusted = true }
with_flag NoScripts flags = record flags { no_scripts = true }
with_flag Initdb flags = record flags { initdb = true }
with_flag Simulate flags = record flags { simulate = true }
with_flag Purge flags = record flags { purge = true }
with_flag Installed flags = record flags { installed = true }
with_flag Contents flags = record flags { contents = true }
with_flag Depends flags = record flags { depends = true }
with_flag WhoOwns flags = record flags { who_owns = true }
with_flag Test flags = record flags { test = true }
with_flag Check flags = record flags { check = true }

-- the flags of which each selects the kind of a command (which of its tasks it does): those of `info`, of `list`, and
-- of `version`
abbrev pub command_kind_flags : List Flag
command_kind_flags = Installed ∷ (Contents ∷ (Depends ∷ (WhoOwns ∷ (Test ∷ (Check ∷ [])))))

-- whether a flag that selects the kind of the command was given
abbrev pub has_command_kind_flag : Flags → Bool
has_command_kind_flag flags = list_any (λ flag. has_flag flag flags) command_kind_flags
