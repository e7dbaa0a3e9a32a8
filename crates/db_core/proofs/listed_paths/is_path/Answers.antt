use Rattle.std.proofs.Common.{ℕ, List, [], ◌∷◌, ◌++◌, ◌∙◌, ap, sym}
use Rattle.std.specs.Prelude.{bytes_eq}
use Rattle.db_core.proofs.PathParts.{front_differs, front_same, path_below}
use Rattle.db_core.proofs.listed_paths.is_path.Goals as goal

abbrev slash : List ℕ
slash = 47 ∷ []

pub returns-in_default : goal.returns-in_default
returns-in_default c =
    let below = path_below c.args.folder.now c.args.name.now (sym c.is_empty.ensures ∙ c.if-is_empty.false) in
    sym (ap (bytes_eq c.args.path.now) below ∙ front_differs c.args.path.now c.args.folder.now (slash ++ c.args.name.now) c.in_default.ensures.cases)

pub returns-in_default-strip_prefix : goal.returns-in_default-strip_prefix
returns-in_default-strip_prefix c =
    let below = path_below c.args.folder.now c.args.name.now (sym c.is_empty.ensures ∙ c.if-is_empty.false) in
    sym (ap (bytes_eq c.args.path.now) below ∙ (front_same c.args.path.now c.args.folder.now (slash ++ c.args.name.now) c.in-Some.ensures.cases.0
    ∙ (ap (λ b. bytes_eq b (slash ++ c.args.name.now)) (sym c.in-Some.ensures.cases.1)
    ∙ front_differs c.in-Some.below.now slash c.args.name.now c.in_default-strip_prefix.ensures.cases)))

pub returns : goal.returns
returns c =
    let below = path_below c.args.folder.now c.args.name.now (sym c.is_empty.ensures ∙ c.if-is_empty.false) in
    c.eq-2.ensures ∙ sym (ap (bytes_eq c.args.path.now) below ∙ (front_same c.args.path.now c.args.folder.now (slash ++ c.args.name.now) c.in-Some.ensures.cases.0
    ∙ (ap (λ b. bytes_eq b (slash ++ c.args.name.now)) (sym c.in-Some.ensures.cases.1)
    ∙ (front_same c.in-Some.below.now slash c.args.name.now c.in-Some-strip_prefix.ensures.cases.0
    ∙ ap (λ b. bytes_eq b c.args.name.now) (sym c.in-Some-strip_prefix.ensures.cases.1)))))
