-- Nodes of the tree, by their kind and what stands for their parts.
use Rattle.es_ast.specs.declared.ast.ClassMember.{ClassMember}
use Rattle.es_ast.specs.declared.ast.Decl.{Decl}
use Rattle.es_ast.specs.declared.ast.Expr.{Expr}
use Rattle.es_ast.specs.declared.ast.ModuleDecl.{ModuleDecl}
use Rattle.es_ast.specs.declared.ast.ModuleItem.{ModuleItem}
use Rattle.es_ast.specs.declared.ast.ObjectPatProp.{ObjectPatProp}
use Rattle.es_ast.specs.declared.ast.Pat.{Pat}
use Rattle.es_ast.specs.declared.ast.Prop.{Prop}
use Rattle.es_ast.specs.declared.ast.Stmt.{Stmt}
use Rattle.es_ast.specs.declared.ast.Class.{Class}
use Rattle.es_ast.specs.declared.ast.Function.{Function}
use Rattle.es_ast.specs.declared.ast.Param.{Param}
use Rattle.es_ast.specs.declared.ast.SwitchCase.{SwitchCase}
use Rattle.es_ast.specs.declared.ast.TsEnumMember.{TsEnumMember}
use Rattle.es_ast.specs.declared.ast.VarDeclarator.{VarDeclarator}
use Rattle.es_ast.specs.declared.ast.ClassMember.TheOpen.{Expr-F, Prop-F}

-- a kind of nodes: the type of such a node, by the types of what stands for its parts
abbrev pub Kind : Type 1
Kind = Type 0 → Type 0 → Type 0 → Type 0 → Type 0 → Type 0 → Type 0 → Type 0 → Type 0 → Type 0 → Type 0 → Type 0 → Type 0 → Type 0
    → Type 0 → Type 0

-- such a node with its parts as the tree has them
abbrev pub Whole : Kind → Type 0
Whole K = K ClassMember Decl Expr ModuleDecl ModuleItem ObjectPatProp Pat Prop Stmt Class Function Param SwitchCase TsEnumMember
    VarDeclarator

-- such a node with something beside each of its parts
abbrev pub Beside : Type 0 → Kind → Type 0
Beside A K = K (ClassMember × A) (Decl × A) (Expr × A) (ModuleDecl × A) (ModuleItem × A) (ObjectPatProp × A) (Pat × A) (Prop × A)
    (Stmt × A) (Class × A) (Function × A) (Param × A) (SwitchCase × A) (TsEnumMember × A) (VarDeclarator × A)

abbrev pub ExprParts : Type 0
ExprParts = Whole Expr-F

abbrev pub PropParts : Type 0
PropParts = Whole Prop-F
