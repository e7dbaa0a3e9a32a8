use Rattle.std.proofs.Common.{◌<◌, ◌-◌, ℕ, length, sym, arith}
use Rattle.std.proofs.lemmas.Bool.{eqb-true}
use Rattle.adb_write.proofs.Compared.{last_low, none_low, read_at, some}
use Rattle.adb_write.proofs.item.list_fingerprint.Goals as goal

pub returns-then-is_empty-clause-value : goal.returns-then-is_empty-clause-value
returns-then-is_empty-clause-value c = none_low c.args.words.now (eqb-true _ _ (sym c.if-is_empty.ensures))

pub returns-clause-value : goal.returns-clause-value
returns-clause-value c =
    let w : ℕ = c.word.result in
    let filled : 0 < length c.args.words.now = some _ (sym c.if-is_empty.ensures) in
    last_low c.args.words.now w filled (omega arith) (read_at c.args.words.now (length c.args.words.now - 1) w c.index-words-last.result c.index-words-last.result c.word.ensures (omega (arith, filled)) c.index-words-last.is)
