-- The tokens and the comments of a text in one list.
use Rattle.std.specs.Prelude.{Bool, List, ◌++◌, map}
use Rattle.std.specs.Ordering.{is_lt, nat_cmp}
use Rattle.std.specs.List.Sorted.{IsPermutation, IsSortedBy}
use Rattle.es_token.specs.declared.token.Token.{Token}
use Rattle.es_token.specs.declared.token.Comment.{Comment}
use Rattle.deno_ast.specs.declared.lexing.LexedItem.{LexedItem}
use Rattle.deno_ast.specs.declared.lexing.TokenOrComment.TheVariants as inner

abbrev pub token_item : Token → LexedItem
token_item t = record { range = t.range; inner = inner.Token t.kind }

abbrev pub comment_item : Comment → LexedItem
comment_item c = record { range = c.range; inner = inner.Comment c.kind c.text }

-- the first item starts before the second
abbrev pub is_before : LexedItem → LexedItem → Bool
is_before a b = is_lt (nat_cmp a.range.start b.range.start)

-- the same items by the places where they start
pub record AreSorted (given sorted : List LexedItem) : Type 0 where
  pub same : IsPermutation given sorted
  pub ascending : IsSortedBy is_before sorted

-- these are the tokens and the comments by their places
abbrev pub AreByPlace : List Token → List Comment → List LexedItem → Type 0
AreByPlace tokens comments items = AreSorted (map token_item tokens ++ map comment_item comments) items
