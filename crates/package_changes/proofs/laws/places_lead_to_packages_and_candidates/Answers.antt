use Rattle.package_changes.proofs.PlacedLaws.{own_candidate, own_change, own_name, own_package}
use Rattle.package_changes.proofs.laws.places_lead_to_packages_and_candidates.Goals as goal

pub returns : goal.returns
returns c = record { name = own_name; change = own_change; old = own_package; new = own_candidate }
