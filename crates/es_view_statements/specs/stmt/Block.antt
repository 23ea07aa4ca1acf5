-- What a view of a block tells.
use Rattle.std.specs.Prelude.{ℕ, List, [], ◌∷◌, Option, None}
use Rattle.es_token.specs.declared.token.Token.{Token}
use Rattle.es_grammar.specs.declared.rows.NodeKind.{NodeKind}
use Rattle.es_grammar.specs.declared.rows.NodeKind.TheVariants as l
use Rattle.es_ast.specs.declared.ast.Stmt.{Stmt}
use Rattle.es_lowering.specs.Value.{Value}
use Rattle.es_lowering.specs.Statements.{stmts_of}
use Rattle.es_syntax.specs.declared.cursor.Siblings.{Siblings}
use Rattle.es_syntax.specs.Held.{held}
use Rattle.es_syntax.specs.Views.{Within}
use Rattle.es_view_statements.specs.declared.stmt.block.Block.{Block}
use Rattle.es_view_statements.specs.declared.stmt.block.Block.TheVariants as view

-- the alternatives
abbrev pub blocks : List NodeKind
blocks = l.Block ∷ []

-- ---- each form, of what its parts are
unfoldable pub block : Value → Option (List Stmt)
block stmts = stmts_of stmts

-- what a view tells
abbrev pub the_block : List ℕ → List Token → Block → Option (List Stmt)
the_block x ts (view.Block stmts) = block (held x ts stmts.entries.now)
the_block x ts view.Broken = None

-- the parts take fewer entries
abbrev pub IsBelow : Siblings → Block → Type 0
IsBelow n (view.Block stmts) = Within stmts n
IsBelow n view.Broken = Unit {0}
