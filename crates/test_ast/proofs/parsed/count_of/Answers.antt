-- The source was to keep its tokens.
use Rattle.deno_ast.proofs.Theorems.{tokens_kept}
use Rattle.test_ast.proofs.parsed.count_of.Goals as goal

pub tokens-requires : goal.tokens-requires
tokens-requires c = tokens_kept _ _ _ _ _ c.requires.capturing c.in-Ok.ensures.parsed
