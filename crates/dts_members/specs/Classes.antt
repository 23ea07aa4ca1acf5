-- Classes as declarations have them.
use Rattle.std.specs.Prelude.{◌≡◌, ℕ, Bool, true, false, List, [], ◌∷◌, Option, Some}
use Rattle.base.specs.declared.range.Range.{Range}
use Rattle.es_token.specs.declared.token.Token.{Token}
use Rattle.es_ast.specs.declared.ast.Class.{Class}
use Rattle.es_ast.specs.declared.ast.Decl.{Decl}
use Rattle.es_ast.specs.declared.ast.ModuleItem.TheVariants as vItem
use Rattle.es_ast.specs.declared.ast.Stmt.TheVariants as vStmt
use Rattle.es_grammar.specs.declared.rows.NodeKind.{NodeKind}
use Rattle.es_grammar.specs.declared.rows.NodeKind.TheVariants as l
use Rattle.es_lowering.specs.Value.{Value}
use Rattle.es_lowering.specs.Lowering.{packed}
use Rattle.es_lowering.specs.TypedStatements.{Declarable}
use Rattle.es_syntax.specs.Held.{node_of}
use Rattle.es_syntax.specs.Roles.{decl_in, item_in, stmt_in}
use Rattle.es_changed.specs.Formed.{with_declare}
use Rattle.es_changed.specs.Shape.{Writes}
use Rattle.dts_rules.specs.Rules as rules
use Rattle.dts_rules.specs.Programs.{shown_class, shown_decl}
use Rattle.dts_draft.specs.declared.draft.Draft.{Draft}
use Rattle.dts_draft.specs.Drafts.{state_of}
use Rattle.dts_draft.specs.Written.{IfThere}
use Rattle.dts_enums.specs.Enums.{Declares}
use Rattle.dts_names.specs.declared.env.Env.{Env}
use Rattle.dts_names.specs.Names.{Knows}
use Rattle.dts_members.specs.Overloads.{Overloads}

module _ (x : List ℕ) (ts : List Token) where
  -- a class is written as a node of this alternative over these parts, which are read so
  pub record ClassMade (by : rules.Env) (old new : Draft) (label : NodeKind) (from to : ℕ)
      (read : Value → Option Class) (before : Class) : Type 0 where
    pub parts : List Value
    pub writes : Writes x ts old.row new.row (node_of x ts label from to (packed parts) ∷ [])
    pub it : Class
    pub is : read (packed parts) ≡ Some it
    pub declared : (shown_class by before).declared (state_of old) ≡ (it, state_of new)

  -- a declaration is written without a `declare` of its own, as the rules have it on the top, elsewhere and after
  -- `export default`
  pub record DeclWritten (by : rules.Env) (old new : Draft) (before : Decl) : Type 0 where
    pub value : Value
    pub writes : Writes x ts old.row new.row (value ∷ [])
    pub it : Decl
    pub is : decl_in value ≡ Some it
    pub stmt : stmt_in value ≡ Some (vStmt.Decl it)
    pub item : item_in value ≡ Some (vItem.Stmt (vStmt.Decl it))
    pub declared : (top : Bool)
        → (shown_decl by before).declared top (state_of old) ≡ (Some (with_declare top it), state_of new)
    pub defaulted : (shown_decl by before).defaulted (state_of old) ≡ (it, state_of new)

-- ---- by whatever the rules go
abbrev pub ClassBy : Env → List Range → Draft → Draft → NodeKind → ℕ → ℕ → (Value → Option Class) → Option Class → Type 0
ClassBy it ranges old new label from to read o =
    (by : rules.Env) → Knows it by → Overloads ranges by
    → IfThere (ClassMade it.text.now it.tokens.now by old new label from to read) o

-- classes of TypeScript, with `abstract` or not
abbrev pub typed_label : Bool → NodeKind
typed_label true = l.AbstractClass
typed_label false = l.TypedClass

-- as a declaration, of JavaScript and of TypeScript
abbrev pub DeclBy : Env → List Range → Draft → Draft → Option Decl → Type 0
DeclBy it ranges old new o =
    (by : rules.Env) → Knows it by → Overloads ranges by
    → IfThere (DeclWritten it.text.now it.tokens.now by old new) o

-- as what may follow `declare`, of TypeScript alone
abbrev pub DeclaresBy : Env → List Range → Draft → Draft → Range → Option Declarable → Type 0
DeclaresBy it ranges old new span o =
    (by : rules.Env) → Knows it by → Overloads ranges by
    → IfThere (Declares it.text.now it.tokens.now by old new span) o
