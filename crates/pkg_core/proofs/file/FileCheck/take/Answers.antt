-- A whole piece, after which more is left, or the last piece.
use Rattle.std.proofs.Common.{◌≡◌, ℕ, ◌+◌, ◌-◌, ◌<◌, ◌≤◌, min, List, ◌++◌, length, refl, ap, sym, ◌∙◌, arith}
use Rattle.std.proofs.lemmas.List.{length-append}
use Rattle.pkg_core.specs.Contents.{fault_if_digest_is_not_of_bytes}
use Rattle.pkg_core.specs.Opened.{expected_of}
use Rattle.pkg_core.specs.Pieces.{piece, pieces_of_one_file, piece_count_before_last}
use Rattle.pkg_core.specs.declared.file.Part.{Part}
use Rattle.pkg_core.proofs.Taken.{last_bad, last_good, more_left}
use Rattle.pkg_core.proofs.file.FileCheck.take.Goals as goal

pub returns-then-len-left-clause-taken : goal.returns-then-len-left-clause-taken
returns-then-len-left-clause-taken c = λ so_far left further taken long.
    let wanted = c.args.self.wanted in
    let bytes : List ℕ = c.args.bytes.now in
    let count : length so_far ≡ c.args.self.done = taken.long in
    let len : length bytes ≡ min (wanted.size - length so_far) 65536 = c.requires ∙ ap (λ (n : ℕ). min (wanted.size - n) 65536) (sym count) in
    let less : length bytes < wanted.size - length so_far = omega (arith, c.if-len-left.true, c.saturating_sub-left.ensures, count) in (
      more_left (expected_of wanted) wanted.hash.now so_far bytes left further wanted.size long len less
          ∙ ap (λ (p : Part). piece p bytes (pieces_of_one_file (piece_count_before_last (length left)) (expected_of wanted) (fault_if_digest_is_not_of_bytes wanted.hash.now ((so_far ++ bytes) ++ left)) left further)) (sym c.part_of.ensures),
      record { hashed = c.update.ensures wanted.hash.now so_far taken.hashed; long = length-append so_far bytes ∙ ap (λ (n : ℕ). n + length bytes) count },
      refl,
    )

pub returns-then-len-left-clause-digest : goal.returns-then-len-left-clause-digest
returns-then-len-left-clause-digest c = λ so_far taken. record {
  hashed = c.update.ensures c.args.self.wanted.hash.now so_far taken.hashed;
  long = length-append so_far c.args.bytes.now ∙ ap (λ (n : ℕ). n + length c.args.bytes.now) taken.long;
}

pub returns-in-Some-clause-taken : goal.returns-in-Some-clause-taken
returns-in-Some-clause-taken c = λ so_far left further taken long.
    let wanted = c.args.self.wanted in
    let bytes : List ℕ = c.args.bytes.now in
    let count : length so_far ≡ c.args.self.done = taken.long in
    let len : length bytes ≡ min (wanted.size - length so_far) 65536 = c.requires ∙ ap (λ (n : ℕ). min (wanted.size - n) 65536) (sym count) in
    let least : wanted.size - length so_far ≤ length bytes = omega (arith, c.if-len-left.false, c.saturating_sub-left.ensures, count) in
    last_bad (expected_of wanted) wanted.hash.now so_far bytes left further wanted.size c.in-Some.cause long len least (c.in-Some.ensures (so_far ++ bytes) (c.update.ensures wanted.hash.now so_far taken.hashed))

pub returns-in-None-clause-taken : goal.returns-in-None-clause-taken
returns-in-None-clause-taken c = λ so_far left further taken long.
    let wanted = c.args.self.wanted in
    let bytes : List ℕ = c.args.bytes.now in
    let count : length so_far ≡ c.args.self.done = taken.long in
    let len : length bytes ≡ min (wanted.size - length so_far) 65536 = c.requires ∙ ap (λ (n : ℕ). min (wanted.size - n) 65536) (sym count) in
    let least : wanted.size - length so_far ≤ length bytes = omega (arith, c.if-len-left.false, c.saturating_sub-left.ensures, count) in
    last_good (expected_of wanted) wanted.hash.now so_far bytes left further wanted.size long len least (c.in-None.ensures (so_far ++ bytes) (c.update.ensures wanted.hash.now so_far taken.hashed))
    ∙ ap (λ (p : Part). piece p bytes further) (sym c.part_of-in-None.ensures)

pub returns-in-None-clause-digest : goal.returns-in-None-clause-digest
returns-in-None-clause-digest c = λ so_far taken. sym (c.in-None.ensures (so_far ++ c.args.bytes.now) (c.update.ensures c.args.self.wanted.hash.now so_far taken.hashed))
