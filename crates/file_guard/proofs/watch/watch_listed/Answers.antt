-- The cases of what an entry says.
use Rattle.std.proofs.Common.{◌≡◌, ◌==◌, ◌∙◌, ◌++◌, false, true, length, ℕ, List, ap, sym, arith}
use Rattle.std.specs.Prelude.{codes}
use Rattle.std.specs.Str.{bytes_eq}
use Rattle.std.proofs.lemmas.Bool.Decides.{nat_tests}
use Rattle.file_guard.proofs.Told.{told_empty, told_hash, told_link, told_never}
use Rattle.file_guard.proofs.watch.watch_listed.Goals as goal

pub returns-then-not-is_empty : goal.returns-then-not-is_empty
returns-then-not-is_empty c = λ further.
    let link : (length c.args.listed.target.now == 0) ≡ false = grind (arith, c.is_empty.ensures) in
    told_link c.args.listed.size c.args.listed.hash.now c.args.listed.target.now further link
    ∙ ap (λ (text : List ℕ). bytes_eq further (codes "!<symlink>" ++ text)) (sym c.link_text_of_target.ensures)

pub returns-then-not-is_empty-2 : goal.returns-then-not-is_empty-2
returns-then-not-is_empty-2 c =
    let no_link : (length c.args.listed.target.now == 0) ≡ true = grind (arith, c.is_empty.ensures) in
    let hashed : (length c.args.listed.hash.now == 0) ≡ false = grind (arith, c.is_empty-2.ensures) in
    (c.new.ensures, λ bytes. told_hash c.args.listed.size c.args.listed.hash.now c.args.listed.target.now bytes no_link hashed)

pub returns-then-listed-eq0 : goal.returns-then-listed-eq0
returns-then-listed-eq0 c = λ bytes.
    let no_link : (length c.args.listed.target.now == 0) ≡ true = grind (arith, c.is_empty.ensures) in
    let no_hash : (length c.args.listed.hash.now == 0) ≡ true = grind (arith, c.is_empty-2.ensures) in
    let empty : (c.args.listed.size == 0) ≡ true = grind (arith, nat_tests) in
    told_empty c.args.listed.size c.args.listed.hash.now c.args.listed.target.now bytes no_link no_hash empty

pub returns : goal.returns
returns c = λ bytes.
    let no_link : (length c.args.listed.target.now == 0) ≡ true = grind (arith, c.is_empty.ensures) in
    let no_hash : (length c.args.listed.hash.now == 0) ≡ true = grind (arith, c.is_empty-2.ensures) in
    let full : (c.args.listed.size == 0) ≡ false = grind (arith, nat_tests) in
    told_never c.args.listed.size c.args.listed.hash.now c.args.listed.target.now bytes no_link no_hash full
