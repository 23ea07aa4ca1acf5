-- What a node is as an item of a program.
use Rattle.std.specs.Prelude.{ℕ, Bool, true, false, List, [], ◌∷◌, Option, Some, None, option_map, if◌then◌else◌}
use Rattle.es_token.specs.declared.token.Token.{Token}
use Rattle.es_ast.specs.declared.ast.ModuleItem.{ModuleItem, out-ModuleItem}
use Rattle.es_ast.specs.declared.ast.ModuleItem.TheVariants as vItem
use Rattle.es_ast.specs.declared.ast.ModuleDecl.{ModuleDecl}
use Rattle.es_ast.specs.declared.ast.Stmt.TheVariants as vStmt
use Rattle.es_ast.specs.declared.ast.ClassMember.TheOpen.{ModuleItem-F}
use Rattle.es_site.specs.Parts.{Whole}
use Rattle.es_grammar.specs.declared.rows.NodeKind.{NodeKind}
use Rattle.es_grammar.specs.declared.rows.NodeKind.TheVariants as l
use Rattle.es_lowering.specs.Value.{Value, given, part, turns}
use Rattle.es_lowering.specs.Lowering.{same_label}
use Rattle.es_syntax.specs.declared.entry.What.{What}
use Rattle.es_syntax.specs.declared.entry.What.TheVariants as vWhat
use Rattle.es_syntax.specs.declared.entry.Entry.{Entry}
use Rattle.es_syntax.specs.Held.{held}
use Rattle.es_syntax.specs.Roles.{item_in, stmt_in}
use Rattle.es_syntax.specs.Views.{is_one_of}

abbrev pub is_some : {A : Type 0} → Option A → Bool
is_some (Some a) = true
is_some None = false

-- an item that is an import or an export
abbrev pub decl_by : Whole ModuleItem-F → Option ModuleDecl
decl_by (ModuleItem-F.ModuleDecl it) = Some it
decl_by (ModuleItem-F.Stmt it) = None

-- a node as an import or an export
abbrev pub decl_in : Value → Option ModuleDecl
decl_in v = given (item_in v) (λ item. decl_by (out-ModuleItem item))

-- a node as an item of a module; of a script, as a statement
abbrev pub item_of : Bool → Value → Option ModuleItem
item_of true v = option_map vItem.Stmt (stmt_in v)
item_of false v = item_in v

-- entries as the items of a module or a script, which stand in turns
unfoldable pub items_in : Bool → List ℕ → List Token → List Entry → Option (List ModuleItem)
items_in is_script x ts es = turns (λ turn. item_of is_script (part turn 0)) (held x ts es)

-- the item; where there is none, `debugger`
abbrev pub the_item : Option ModuleItem → ModuleItem
the_item (Some item) = item
the_item None = vItem.Stmt (vStmt.Debugger (record { start = 0; end = 0 }))

-- the items; where there are none, no item
abbrev pub the_items : Option (List ModuleItem) → List ModuleItem
the_items (Some items) = items
the_items None = []

-- the alternatives of imports and exports
abbrev pub decl_labels : List NodeKind
decl_labels =
    l.BareImport ∷ l.FromImport ∷ l.SourceImport ∷ l.DeferImport ∷ l.RequireImport ∷ l.EntityImport ∷
    l.ExportedRequireImport ∷ l.ExportedEntityImport ∷ l.ExportAll ∷ l.ExportNames ∷ l.ExportNamespace ∷
    l.ExportDefaultFunction ∷ l.ExportDefaultClass ∷ l.ExportDefaultExpression ∷ l.ExportDeclaration ∷
    l.ExportDefaultInterface ∷ l.ExportAssignment ∷ []

abbrev pub is_decl_node : What → Bool
is_decl_node (vWhat.Node label) = is_one_of decl_labels label
is_decl_node _ = false

-- what such a node tells of its module
abbrev pub told_of : NodeKind → Option Bool
told_of label =
    if same_label label l.RequireImport then Some true
    else (if same_label label l.EntityImport then Some true
    else (if same_label label l.ExportedRequireImport then Some true
    else (if same_label label l.ExportedEntityImport then Some true
    else (if same_label label l.ExportAssignment then Some true
    else (if same_label label l.ExportNamespace then None
    else Some false)))))

abbrev pub told_node : What → Option Bool
told_node (vWhat.Node label) = told_of label
told_node _ = Some false
