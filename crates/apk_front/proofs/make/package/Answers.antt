use Rattle.outcome.proofs.Listings.{listing_of_files}
use Rattle.apk_front.proofs.Containers.{package_made, package_found}
use Rattle.apk_front.proofs.make.package.Goals as goal

pub returns-clause-made : goal.returns-clause-made
returns-clause-made g c = package_made listing_of_files c.args.command.now _ _ c.mkpkg.ensures.ok c.mkpkg.ensures.err

pub returns-clause-found : goal.returns-clause-found
returns-clause-found g c = package_found c.args.command.now _ c.mkpkg.ensures.found c.mkpkg.ensures.found_err
