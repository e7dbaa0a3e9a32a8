use Rattle.std.proofs.Common.{◌≡◌, ◌≤◌, ◌-◌, length, not, arith}
use Rattle.std.specs.List.{suffix_len}
use Rattle.std.proofs.lemmas.List.Sums.{suffix_len_is}
use Rattle.package_files.specs.Folders.{is_slash}
use Rattle.package_files.proofs.FolderLemmas.{not_slash, slash}
use Rattle.package_files.proofs.folders.part_start.Goals as goal

pub returns-clause-value : goal.returns-clause-value
returns-clause-value c =
    let within : c.loop-i.start ≤ length c.args.path.now = omega arith in
    let e : suffix_len (λ b. not (is_slash b)) c.args.path.now ≡ length c.args.path.now - c.loop-i.start =
    suffix_len_is (λ b. not (is_slash b)) c.args.path.now c.loop-i.start 0 within
    (λ k lo hi. not_slash _ (c.loop-i.invariant.behind k lo (omega arith)))
    (λ some. slash _ (c.loop-i.invariant.slash some)) in
    omega (arith, e)
