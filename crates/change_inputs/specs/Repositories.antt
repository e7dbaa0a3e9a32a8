-- The repositories of a root, whose indexes are read. The rules are in `docs/formats.md`,
-- "Repositories", and for the permission in `docs/commands.md`, "Words", `--allow-untrusted`.
use Rattle.std.specs.Prelude.{ℕ, Bool, true, false, List, [], ◌∷◌, Result, Ok, Err}
use Rattle.dep_core.specs.Repositories.{Repository, repositories_of}
use Rattle.report_core.specs.declared.refusal.Refusal.{Refusal}
use Rattle.report_core.specs.declared.refusal.Refusal.TheVariants.{RepositoriesBad, Untrusted}
use Rattle.change_inputs.specs.Chains.{and_then, with_error_as_refusal}

-- the repositories, if there are none or `--allow-untrusted` permits them, since signatures are not checked
abbrev pub repositories_if_untrusted_allowed : Bool → List Repository → Result (List Repository) Refusal
repositories_if_untrusted_allowed is_allowed [] = Ok []
repositories_if_untrusted_allowed true (repository ∷ repositories) = Ok (repository ∷ repositories)
repositories_if_untrusted_allowed false (repository ∷ repositories) = Err Untrusted

-- the repositories of a root, given whether `--allow-untrusted` permits them, and the text of their list; or the
-- refusal: of the first bad line, or because they are not permitted
abbrev pub root_repositories : Bool → List ℕ → Result (List Repository) Refusal
root_repositories is_allowed text =
    and_then (with_error_as_refusal RepositoriesBad (repositories_of text))
    (repositories_if_untrusted_allowed is_allowed)
