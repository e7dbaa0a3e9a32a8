use Rattle.definition_laws.proofs.answers.Deciding.{downgrades, keeps, reinstalls, replaces, upgrades}
use Rattle.definition_laws.proofs.answers.changes.the_order_of_versions_decides_the_change.Goals as goal

pub returns : goal.returns
returns c = record { upgrade = upgrades; downgrade = downgrades; replace = replaces; reinstall = reinstalls; kept = keeps }
