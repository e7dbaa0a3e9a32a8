-- The token that was read, and what is left after it.
use Rattle.version_core.proofs.Walk.{advance_within, left_after, fewer_bytes}
use Rattle.version_core.proofs.token.Tokens.next.Goals as goal

pub behind-self-requires : goal.behind-self-requires
behind-self-requires c =
    advance_within c.args.self.now.last c.unread_text-rest.result.now c.lexeme_at-lexeme.result c.lexeme_at-lexeme.ensures

pub returns-clause-tokens : goal.returns-clause-tokens
returns-clause-tokens c =
    left_after c.args.self.now.last c.args.self.now.rest.now c.unread_text-rest.result.now c.behind-self.result.now c.lexeme_at-lexeme.result
    c.unread_text-rest.ensures c.lexeme_at-lexeme.ensures c.behind-self.ensures

pub returns-clause-shorter : goal.returns-clause-shorter
returns-clause-shorter c =
    fewer_bytes c.args.self.now.last c.args.self.now.rest.now c.unread_text-rest.result.now c.behind-self.result.now c.lexeme_at-lexeme.result
    c.unread_text-rest.ensures c.lexeme_at-lexeme.ensures c.behind-self.ensures
