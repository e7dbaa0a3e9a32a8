-- What a simulation of a change reports of the change that is made. The rules are in
-- `docs/commands.md`, "`add` and `del`", what is reported: what `--simulate` leaves out.
use Rattle.std.specs.Prelude.{◌≡◌, ℕ, List, ◌++◌}
use Rattle.command_core.specs.Command.{CommandLine}
use Rattle.command_core.specs.Flags.{with_flag}
use Rattle.command_core.specs.declared.command.Flag.TheVariants.{Simulate}
use Rattle.report_core.specs.Reports.{report_line, bytes_and_package_count_text}

-- the command line with the flag `--simulate` added
abbrev pub with_simulation : CommandLine → CommandLine
with_simulation command = record command { flags = with_flag Simulate command.flags }

-- The report of a simulation predicts the report of the change. All lines of the simulation's report except the last
-- one, which is a sum, are the beginning of the change's report. This report ends with a sum of its own.
pub record ReportBeginsWithSimulationExceptLastLine (simulation report : List ℕ) : Type 0 where
  -- the bytes of the lines with which both reports begin
  pub told : List ℕ
  -- the number of bytes in the last line of the simulation's report
  pub bytes : ℕ
  -- the number of packages in this line
  pub packages : ℕ
  -- the report of the simulation is the common lines and the line with these numbers
  pub simulated : simulation ≡ told ++ report_line (bytes_and_package_count_text bytes packages)
  -- the bytes of the lines that only the report of the change has
  pub more : List ℕ
  -- the number of bytes in the last line of the change's report
  pub new_bytes : ℕ
  -- the number of packages in this line
  pub new_packages : ℕ
  -- the report of the change is the common lines, its own lines and the line with these numbers
  pub made : report ≡ told ++ more ++ report_line (bytes_and_package_count_text new_bytes new_packages)
