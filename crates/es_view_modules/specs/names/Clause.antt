-- What a view of what an import binds tells.
use Rattle.std.specs.Prelude.{ℕ, List, [], ◌∷◌, Option, Some, None, option_map, slice_get}
use Rattle.base.specs.declared.range.Range.{Range}
use Rattle.es_token.specs.declared.token.Token.{Token}
use Rattle.es_grammar.specs.declared.rows.NodeKind.{NodeKind}
use Rattle.es_grammar.specs.declared.rows.NodeKind.TheVariants as l
use Rattle.es_ast.specs.declared.leaf.ImportClause.{ImportClause}
use Rattle.es_ast.specs.declared.leaf.ImportClause.TheVariants as vClause
use Rattle.es_ast.specs.declared.leaf.ImportNames.{ImportNames}
use Rattle.es_lowering.specs.Value.{given}
use Rattle.es_lowering.specs.Texts.{ident_of}
use Rattle.es_syntax.specs.declared.cursor.Siblings.{Siblings}
use Rattle.es_syntax.specs.Held.{valued}
use Rattle.es_syntax.specs.Roles.{names_in}
use Rattle.es_syntax.specs.Views.{Under, Within}
use Rattle.es_view_modules.specs.declared.names.clause.Clause.{Clause}
use Rattle.es_view_modules.specs.declared.names.clause.Clause.TheVariants as view

-- the alternatives
abbrev pub clauses : List NodeKind
clauses = l.DefaultClause ∷ l.DefaultAndClause ∷ l.Namespace ∷ l.NamedImports ∷ []

-- ---- each form, of what its parts are
unfoldable pub default : List ℕ → Option Token → Option ImportClause
default x local = option_map vClause.Default (option_map (ident_of x) local)

unfoldable pub both : List ℕ → Range → Option Token → Option ImportNames → Option ImportClause
both x r local names =
    given (option_map (ident_of x) local) (λ default.
    given names (λ names. Some (vClause.Both default names r)))

-- what a view tells
abbrev pub the_clause : List ℕ → List Token → Range → Clause → Option ImportClause
the_clause x ts r (view.Default local) = default x (slice_get ts local)
the_clause x ts r (view.Both local names) = both x r (slice_get ts local) (names_in (valued x ts names))
the_clause x ts r (view.Names node) = option_map vClause.Names (names_in (valued x ts node))
the_clause x ts r view.Broken = None

-- the parts take fewer entries
abbrev pub IsBelow : Siblings → Clause → Type 0
IsBelow n (view.Default local) = Unit {0}
IsBelow n (view.Both local names) = Under names n
IsBelow n (view.Names node) = Within node.parts n
IsBelow n view.Broken = Unit {0}
