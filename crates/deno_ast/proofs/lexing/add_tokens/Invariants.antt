use Rattle.std.proofs.Common.{◌≡◌, ◌++◌, map, take}
use Rattle.deno_ast.specs.Lexing.{token_item}
use Rattle.deno_ast.proofs.lexing.add_tokens.Given as goal

-- the items of the tokens so far
abbrev pub invariant-loop-token : goal.invariant-loop-token
invariant-loop-token l = l.items.items ≡ l.initial.items.items ++ map token_item (take l.token-index l.tokens)
