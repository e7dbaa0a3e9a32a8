-- Which script the refusal of a change names. The rules are in `docs/commands.md`, "`add` and `del`", part "What is
-- refused"; the numbers of scripts are in `docs/formats.md`, "Schemas", table 6. Serves the laws of `src/scripts.rt`.
use Rattle.std.specs.Prelude.{◌≡◌, ◌⊎◌, ◌<◌, ℕ, true, false}
use Rattle.adb_view.specs.Plain.{Plain}
use Rattle.change_outcome.specs.PackageFiles.{has_script_with_number}
use Rattle.report_core.specs.Numbers.{POST_DEINSTALL_SCRIPT, POST_INSTALL_SCRIPT, POST_UPGRADE_SCRIPT, PRE_DEINSTALL_SCRIPT, PRE_INSTALL_SCRIPT, PRE_UPGRADE_SCRIPT}
use Rattle.report_core.specs.Reports.{Change, Downgrade, Install, Purge, Reinstall, Replace, Upgrade}

-- the script with this number is the pre-upgrade or the post-upgrade script
abbrev pub IsUpgradeScript : ℕ → Type 0
IsUpgradeScript n = (n ≡ PRE_UPGRADE_SCRIPT) ⊎ (n ≡ POST_UPGRADE_SCRIPT)

-- the scripts with this number are among those that a change of this kind would run. The change `Replace` installs
-- another package with an equal version
abbrev pub IsScriptNumberRunByChange : Change → ℕ → Type 0
IsScriptNumberRunByChange (Install name version) n = (n ≡ PRE_INSTALL_SCRIPT) ⊎ (n ≡ POST_INSTALL_SCRIPT)
IsScriptNumberRunByChange (Purge name version) n = (n ≡ PRE_DEINSTALL_SCRIPT) ⊎ (n ≡ POST_DEINSTALL_SCRIPT)
IsScriptNumberRunByChange (Reinstall name version) n = IsUpgradeScript n
IsScriptNumberRunByChange (Upgrade name old new) n = IsUpgradeScript n
IsScriptNumberRunByChange (Downgrade name old new) n = IsUpgradeScript n
IsScriptNumberRunByChange (Replace name old new) n = IsUpgradeScript n

-- of the scripts that the package `pkg` has and that the change would run, the one with the number `n` has the smallest
-- number
pub record IsFirstScriptRunByChange (change : Change) (pkg : Plain) (n : ℕ) : Type 0 where
  -- the change runs the script with this number
  pub runs : IsScriptNumberRunByChange change n
  -- the package has this script
  pub present : has_script_with_number pkg n ≡ true
  -- the package has no script with a lesser number that the change runs
  pub first : (m : ℕ) → m < n → IsScriptNumberRunByChange change m → has_script_with_number pkg m ≡ false
