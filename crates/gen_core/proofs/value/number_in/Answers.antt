use Rattle.std.proofs.Common.{◌≡◌, ℕ, ap, sym, ◌∙◌, subst}
use Rattle.std.specs.Str.{IsUtf8}
use Rattle.std.proofs.lemmas.Str.{IsUtf8-from_ascii}
use Rattle.std.proofs.lemmas.Fmt.{IsAscii-decimal, parse-decimal}
use Rattle.std.specs.Fmt.{decimal}
use Rattle.gen_core.proofs.value.number_in.Goals as goal

pub returns-in_default : goal.returns-in_default
returns-in_default c n lt e = c.in_default.ensures.cases.0 (subst IsUtf8 e (IsUtf8-from_ascii (decimal n) (IsAscii-decimal n lt)))

pub returns-in_default-parse : goal.returns-in_default-parse
returns-in_default-parse c n lt e = c.in_default-parse.not-Ok n (parse-decimal 64 n c.in-Ok.text.now c.parse.result lt lt (c.in-Ok.ensures.cases.0 ∙ sym e) c.parse.ensures.value.0)

pub returns-then-not-is_decimal_of : goal.returns-then-not-is_decimal_of
returns-then-not-is_decimal_of c n lt e =
    let read = parse-decimal 64 n c.in-Ok.text.now c.parse.result lt lt (c.in-Ok.ensures.cases.0 ∙ sym e) c.parse.ensures.value.0 in
    let same : c.in-Ok-parse.number ≡ n = (let f = sym c.in-Ok-parse.is ∙ read in cc) in
    let f = c.if-not-is_decimal_of.ensures.1 (ap decimal same ∙ e) in
    absurd cc
