-- A hash has one digit at least, and only its mark is skipped.
use Rattle.std.proofs.Common.{◌∙◌, ap}
use Rattle.std.specs.Prelude.{not}
use Rattle.version_core.proofs.Lexemes.{hash_is_stray, hash_is_found}
use Rattle.version_core.proofs.lexeme.hash.Goals as goal

pub returns-then-is_none : goal.returns-then-is_none
returns-then-is_none c =
    hash_is_stray c.args.text.now c.behind-digits.result.now c.stray_lexeme.result c.hex_digit_at.result c.behind-digits.ensures
    c.hex_digit_at.ensures (c.is_none.ensures ∙ ap not c.if-is_none.true) c.stray_lexeme.ensures.token c.stray_lexeme.ensures.class

pub returns : goal.returns
returns c =
    hash_is_found c.args.text.now c.behind-digits.result.now c.lexeme_of_text.result c.hex_digit_at.result c.behind-digits.ensures
    c.hex_digit_at.ensures (c.is_none.ensures ∙ ap not c.if-is_none.false) c.lexeme_of_text.ensures.token c.lexeme_of_text.ensures.class
