use Rattle.std.proofs.Common.{◌≡◌, ◌∙◌, ◌∷◌, ◌+◌, ℕ, List, Bor, Option, Some, None, arith, drop, map, ap, refl}
use Rattle.std.specs.Prelude.{option_map, slice_get}
use Rattle.adb_view.specs.Plain.{Plain}
use Rattle.own_core.specs.adb_fields.Repeated.{package_name}
use Rattle.own_core.specs.db_core.Seen.{packages_of}
use Rattle.package_changes.proofs.Lists.{all_told, left_at, none_left, pushed}
use Rattle.package_changes.proofs.placed.push_old_names.Goals as goal

-- the name of the package at a place stands in front of the names of those behind it
name_here : (pkgs : List Plain) (i : ℕ) (name : List ℕ) (o : Option Plain) → slice_get pkgs i ≡ o → option_map package_name o ≡ Some name → map package_name (drop i pkgs) ≡ name ∷ map package_name (drop (i + 1) pkgs)
name_here pkgs i name None h e = cc
name_here pkgs i name (Some pkg) h e =
    let is : package_name pkg ≡ name = cc in
    ap (map package_name) (left_at pkgs i pkg h) ∙ ap (λ n. n ∷ map package_name (drop (i + 1) pkgs)) is

pub loop-i-preserved : goal.loop-i-preserved
loop-i-preserved c =
    pushed (λ (n : Bor (List ℕ)). n.now) c.loop-i.names.items _ _ _ (map package_name (drop (c.loop-i.i + 1) (packages_of c.args.db.now))) _
    c.in_ok-push.ensures.items (name_here (packages_of c.args.db.now) c.loop-i.i _ _ refl c.name_at.ensures) c.loop-i.invariant

pub returns : goal.returns
returns c =
    all_told _ _ _ (none_left package_name (packages_of c.args.db.now) c.loop-i.i (omega (arith, c.len-i-end.ensures.value, c.loop-i-test.false, c.loop-i.auto.i-end))) c.loop-i.invariant
