use Rattle.std.proofs.Common.{◌≡◌, ◌∙◌, ap, sym, subst}
use Rattle.std.specs.Prelude.{IfSome, is_some, slice_get}
use Rattle.std.specs.Option.{option_and_then}
use Rattle.file_owners.specs.db_core.Packages.{lists_path}
use Rattle.file_owners.specs.db_core.Seen.{packages_of}
use Rattle.tell_core.specs.InfoPackages.{path_owner}
use Rattle.tell_core.proofs.Found.{found_at}
use Rattle.tell_core.proofs.NoName.{no_owner}
use Rattle.tell_core.proofs.info.operands.place_of_owner.Goals as goal

pub returns-in-Some-clause-found : goal.returns-in-Some-clause-found
returns-in-Some-clause-found c =
    let is : c.in-Some.path ≡ c.args.path.now = subst (λ o. IfSome o (λ name. name ≡ c.args.path.now)) c.in-Some.is c.in_ok-path.ensures.value in
    ap (option_and_then (slice_get (packages_of c.args.db.now))) c.owner_of.ensures.found
    ∙ (found_at (lists_path c.in-Some.path) (packages_of c.args.db.now) ∙ ap (path_owner (packages_of c.args.db.now)) is)

pub returns-in-None-clause-found : goal.returns-in-None-clause-found
returns-in-None-clause-found c =
    sym (no_owner c.args.path.now (packages_of c.args.db.now) (sym c.in_ok-path.ensures.when ∙ ap is_some c.in-None.is) c.args.db.now.named)
