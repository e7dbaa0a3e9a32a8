use Rattle.std.proofs.Common.{◌≡◌, ℕ, ◌*◌, ◌-◌, ◌/◌, ◌∙◌, ap, List, length, get_or, take, drop}
use Rattle.std.proofs.lemmas.List.{take_rest}
use Rattle.adb_view.proofs.RunWords.{word_read}
use Rattle.adb_view.proofs.words.word_at.Goals as goal

pub returns : goal.returns
returns c =
    let bytes = c.args.bytes.now in
    let i = c.args.i in
    let rest : List ℕ = take (length bytes - 4 * i) (drop (4 * i) bytes) in
    let at : (k : ℕ) → get_or rest k 0 ≡ get_or (drop (4 * i) bytes) k 0 = λ k. ap (λ (xs : List ℕ). get_or xs k 0) (take_rest bytes (4 * i)) in
    c.from_le_bytes.ensures ∙ word_read (length bytes / 4) bytes i (get_or rest 0 0) (get_or rest 1 0) (get_or rest 2 0) (get_or rest 3 0) c.requires (at 0) (at 1) (at 2) (at 3)
