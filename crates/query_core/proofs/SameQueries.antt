-- What a query prints is the same under another world.
use Rattle.std.proofs.Common.{◌≡◌, List, refl}
use Rattle.pool_core.specs.candidate_core.Candidates.{Candidate}
use Rattle.pool_core.specs.candidate_core.Rank.{UpgradedNames, selection_problem_from_parts}
use Rattle.command_core.specs.Command.{CommandLine}
use Rattle.command_core.specs.declared.command.Applet.{Applet}
use Rattle.command_core.specs.declared.command.Applet.TheVariants.{Adbdump, Adbgen, Add, Audit, Del, Demo, Fix, Help, Info, Manifest, Mkndx, Mkpkg, Policy, ProgramVersion, Search, Upgrade, Verify, Version, List as ListApplet}
use Rattle.dep_core.specs.Dependency.{Dependency}
use Rattle.dep_core.specs.Repositories.{Repository}
use Rattle.query_core.specs.Queries.{applet_query}

pub same_query : (applet : Applet) (command : CommandLine) (cs : List Candidate) (repositories : List Repository) (one other : List Dependency) (upgraded others : UpgradedNames) → applet_query applet command (selection_problem_from_parts cs one upgraded) repositories ≡ applet_query applet command (selection_problem_from_parts cs other others) repositories
same_query Add command cs repositories one other upgraded others = refl
same_query Del command cs repositories one other upgraded others = refl
same_query Upgrade command cs repositories one other upgraded others = refl
same_query Fix command cs repositories one other upgraded others = refl
same_query Info command cs repositories one other upgraded others = refl
same_query Verify command cs repositories one other upgraded others = refl
same_query Adbdump command cs repositories one other upgraded others = refl
same_query Mkpkg command cs repositories one other upgraded others = refl
same_query Mkndx command cs repositories one other upgraded others = refl
same_query Version command cs repositories one other upgraded others = refl
same_query Demo command cs repositories one other upgraded others = refl
same_query Adbgen command cs repositories one other upgraded others = refl
same_query Audit command cs repositories one other upgraded others = refl
same_query Manifest command cs repositories one other upgraded others = refl
same_query ListApplet command cs repositories one other upgraded others = refl
same_query Search command cs repositories one other upgraded others = refl
same_query Policy command cs repositories one other upgraded others = refl
same_query Help command cs repositories one other upgraded others = refl
same_query ProgramVersion command cs repositories one other upgraded others = refl
