use Rattle.std.proofs.Common.{◌≡◌, ◌++◌, map}
use Rattle.deno_ast.specs.Lexing.{comment_item}
use Rattle.deno_ast.proofs.lexing.add_comments.Given as goal

-- the items of the comments so far
abbrev pub invariant-loop-comment : goal.invariant-loop-comment
invariant-loop-comment l = l.items.items ≡ l.initial.items.items ++ map comment_item l.yielded
