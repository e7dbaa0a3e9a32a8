-- After two tokens that fit, the others decide.
use Rattle.std.proofs.Common.{sym, ◌∙◌}
use Rattle.version_core.specs.Reading.{token_view, tokens_left}
use Rattle.version_core.proofs.Fits.{all_fit_after}
use Rattle.version_core.proofs.fuzzy.are_wanted_tokens_met_by.Goals as goal

pub loop-found_tokens-preserved : goal.loop-found_tokens-preserved
loop-found_tokens-preserved c =
    c.loop-found_tokens.invariant
    ∙ all_fit_after (tokens_left c.loop-found_tokens.wanted_tokens) (tokens_left c.loop-found_tokens.found_tokens)
    (token_view c.next-token.result) (token_view c.next.result) (tokens_left c.next-token.new.self) (tokens_left c.next.new.self)
    c.next-token.ensures.tokens c.next.ensures.tokens (sym c.is_end_or_stray_class.ensures ∙ c.if-is_end_or_stray_class.false) (sym c.fits.ensures ∙ c.if-not-fits.false)
