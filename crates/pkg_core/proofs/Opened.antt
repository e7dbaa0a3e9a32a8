-- The next file of a walk against the front of a block's contents.
use Rattle.std.proofs.Common.{◌≡◌, ℕ, ◌-◌, Bool, true, false, not, ◌==◌, if◌then◌else◌, List, ◌∷◌, length, take, drop, Option, Some, None, refl, ap, sym, ◌∙◌, lit≤}
use Rattle.std.specs.Int.{w32, from_le_bytes}
use Rattle.std.proofs.lemmas.Bool.{eqb-true, not-false}
use Rattle.std.proofs.lemmas.List.{take-take, drop-take, length-drop}
use Rattle.base_core.specs.declared.cause.Cause.{Cause}
use Rattle.adb_schema.specs.Soundness.{folder_and_file_positions_from_payload}
use Rattle.pkg_core.specs.Contents.{ExpectedFile, contents_from_block_payload}
use Rattle.pkg_core.specs.Pieces.{PiecesRead, refusal, pieces_of_bytes, pieces_of_payload, position_or_size_fault, pieces_or_fault_alone}

pub pair_alike : (payload pair : List ℕ) → take 8 payload ≡ pair → folder_and_file_positions_from_payload payload ≡ folder_and_file_positions_from_payload pair
pair_alike payload pair begins =
    let front : take 4 payload ≡ take 4 pair = sym (take-take 4 8 payload (lit≤ tt)) ∙ ap (take 4) begins in
    let back : take 4 (drop 4 payload) ≡ take 4 (drop 4 pair) = sym (take-take 4 4 (drop 4 payload) (lit≤ tt)) ∙ (ap (take 4) (sym (drop-take 4 4 payload)) ∙ ap (λ (xs : List ℕ). take 4 (drop 4 xs)) begins) in
    λ k. (from_le_bytes w32 (front k), from_le_bytes w32 (back k))

pub contents_len : (payload : List ℕ) (len : ℕ) → length payload ≡ len → length (contents_from_block_payload payload) ≡ len - 8
contents_len payload len long = length-drop 8 payload ∙ ap (λ (n : ℕ). n - 8) long

pub opened_bad : (e : ExpectedFile) (before after : List ExpectedFile) (payload : List ℕ) (further : List ExpectedFile → PiecesRead) (c : Cause) → before ≡ e ∷ after → Some c ≡ position_or_size_fault payload e → pieces_of_payload payload further before ≡ refusal c
opened_bad e before after payload further c first bad =
    ap (pieces_of_payload payload further) first
    ∙ ap (λ (d : Option Cause). pieces_or_fault_alone d (pieces_of_bytes e (contents_from_block_payload payload) (further after))) (sym bad)

pub opened_good : (e : ExpectedFile) (before after : List ExpectedFile) (payload : List ℕ) (further : List ExpectedFile → PiecesRead) → before ≡ e ∷ after → None ≡ position_or_size_fault payload e → pieces_of_payload payload further before ≡ pieces_of_bytes e (contents_from_block_payload payload) (further after)
opened_good e before after payload further first good =
    ap (pieces_of_payload payload further) first
    ∙ ap (λ (d : Option Cause). pieces_or_fault_alone d (pieces_of_bytes e (contents_from_block_payload payload) (further after))) (sym good)

size_by : (a b : Bool) (c d : Cause) → None ≡ (if a then Some c else if b then Some d else None) → b ≡ false
size_by true b c d e = (cc)
size_by false true c d e = (cc)
size_by false false c d e = refl

pub size_same : (e : ExpectedFile) (payload : List ℕ) → None ≡ position_or_size_fault payload e → length (contents_from_block_payload payload) ≡ e.size
size_same e payload good =
    eqb-true (length (contents_from_block_payload payload)) e.size (not-false (length (contents_from_block_payload payload) == e.size) (size_by _ (not (length (contents_from_block_payload payload) == e.size)) _ _ good))
