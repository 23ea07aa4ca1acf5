-- Alternatives of items.
use Rattle.std.specs.Prelude.{Bool, false, List, [], ◌∷◌}
use Rattle.es_grammar.specs.declared.rows.NodeKind.{NodeKind}
use Rattle.es_grammar.specs.declared.rows.NodeKind.TheVariants as l
use Rattle.es_syntax.specs.declared.entry.What.{What}
use Rattle.es_syntax.specs.declared.entry.What.TheVariants as vWhat
use Rattle.es_syntax.specs.Views.{is_one_of}

-- imports and exports
abbrev pub module_labels : List NodeKind
module_labels =
    l.BareImport ∷ l.FromImport ∷ l.SourceImport ∷ l.DeferImport ∷ l.RequireImport ∷ l.EntityImport
    ∷ l.ExportedRequireImport ∷ l.ExportedEntityImport ∷ l.ExportAll ∷ l.ExportNames ∷ l.ExportNamespace
    ∷ l.ExportDefaultFunction ∷ l.ExportDefaultClass ∷ l.ExportDefaultExpression ∷ l.ExportDeclaration
    ∷ l.ExportDefaultInterface ∷ l.ExportAssignment ∷ []

-- `using`
abbrev pub using_labels : List NodeKind
using_labels = l.Using ∷ []

-- a node of one of these
abbrev pub is_node_of : List NodeKind → What → Bool
is_node_of labels (vWhat.Node label) = is_one_of labels label
is_node_of labels _ = false
