-- What is written of declarations before their `declare` is set.
use Rattle.std.specs.Prelude.{◌≡◌, ◌+◌, ℕ, Bool, true, false, List, [], ◌∷◌, Option, Some, option_map}
use Rattle.base.specs.declared.range.Range.{Range}
use Rattle.es_token.specs.declared.token.Token.{Token}
use Rattle.es_grammar.specs.declared.rows.NodeKind.TheVariants as l
use Rattle.es_ast.specs.declared.ast.Decl.{Decl}
use Rattle.es_ast.specs.declared.ast.Decl.TheVariants as vDecl
use Rattle.es_ast.specs.declared.ast.ModuleItem.{ModuleItem}
use Rattle.es_ast.specs.declared.ast.ModuleItem.TheVariants as vItem
use Rattle.es_ast.specs.declared.ast.Stmt.TheVariants as vStmt
use Rattle.es_lowering.specs.Value.{Value, token, as_group}
use Rattle.es_lowering.specs.Lowering.{packed}
use Rattle.es_lowering.specs.Statements.{Variables}
use Rattle.es_lowering.specs.TypedStatements.{Declarable, items_of}
use Rattle.es_syntax.specs.Held.{node_of}
use Rattle.es_syntax.specs.Roles.{declarable_in, decl_in, item_in, stmt_in}
use Rattle.es_changed.specs.declared.entry.ChangedEntry.{ChangedEntry}
use Rattle.es_changed.specs.declared.entry.Form.{Form}
use Rattle.es_changed.specs.declared.entry.Form.TheVariants as form
use Rattle.es_changed.specs.Formed.{with_declare}
use Rattle.es_changed.specs.Shape.{Writes}
use Rattle.dts_rules.specs.Rules as rules
use Rattle.dts_rules.specs.Programs.{shown_decl}
use Rattle.dts_draft.specs.declared.draft.Draft.{Draft}
use Rattle.dts_draft.specs.Drafts.{state_of}
use Rattle.dts_draft.specs.Written.{IfThere}
use Rattle.dts_names.specs.declared.env.Env.{Env}
use Rattle.dts_names.specs.Names.{Knows}
use Rattle.dts_parts.specs.Params.{Made}
use Rattle.dts_members.specs.Overloads.{Overloads}
use Rattle.dts_items.specs.Decls.{DeclPuts}
use Rattle.dts_items.specs.Items.{items_rule}

-- on the top a declaration gets `declare`, elsewhere it loses it
abbrev pub declare_form : Bool → Form
declare_form true = form.Declare
declare_form false = form.Undeclare

-- what may follow `declare`, and variables, as declarations of this range
abbrev pub as_declared : Bool → Range → Option Declarable → Option Decl
as_declared declare r o = option_map (λ d. d declare r) o

abbrev pub as_variables : Bool → Range → Option Variables → Option Decl
as_variables declare r o = option_map (λ v. vDecl.Var declare v.0 v.1 r) o

-- the items of a group
abbrev pub items_in : Value → Option (List ModuleItem)
items_in v = items_of (as_group v)

module _ (x : List ℕ) (ts : List Token) where
  -- a name of this token alone is written
  pub record FirstName (old new : List ChangedEntry) (at : ℕ) : Type 0 where
    pub writes : Writes x ts old new (node_of x ts l.Entity at (at + 1) (packed (token at ∷ [])) ∷ [])

  -- a declaration is written, as the rules have it but for `declare`
  pub record DeclChanged (by : rules.Env) (old new : Draft) (before : Decl) : Type 0 where
    pub value : Value
    pub writes : Writes x ts old.row new.row (value ∷ [])
    pub it : Decl
    pub is : decl_in value ≡ Some it
    pub declared : (top : Bool)
        → (shown_decl by before).declared top (state_of old) ≡ (Some (with_declare top it), state_of new)

  -- the same with `declare`, as a statement and an item
  pub record DeclareChanged (by : rules.Env) (old new : Draft) (before : Decl) : Type 0 where
    pub value : Value
    pub writes : Writes x ts old.row new.row (value ∷ [])
    pub it : Decl
    pub is : decl_in value ≡ Some it
    pub stmt : stmt_in value ≡ Some (vStmt.Decl it)
    pub item : item_in value ≡ Some (vItem.Stmt (vStmt.Decl it))
    pub declared : (top : Bool)
        → (shown_decl by before).declared top (state_of old) ≡ (Some (with_declare top it), state_of new)
    pub marked : with_declare true it ≡ it

  -- what may follow `declare` is written, as the rules have it on the top and elsewhere
  pub record BlockChanged (by : rules.Env) (old new : Draft) (span : Range) (before : Declarable) : Type 0 where
    pub value : Value
    pub writes : Writes x ts old.row new.row (value ∷ [])
    pub it : Declarable
    pub is : declarable_in value ≡ Some it
    pub decl : decl_in value ≡ Some (it false span)
    pub declared : (declare top : Bool) (r : Range)
        → (shown_decl by (before declare r)).declared top (state_of old) ≡ (Some (it top r), state_of new)
    pub marked : (declare again : Bool) (r : Range) → with_declare again (it declare r) ≡ it again r

  -- where it doesn't stay as it is
  abbrev pub IfChanged : rules.Env → Draft → Draft → Range → Declarable → Type 0
  IfChanged by old new span before =
      (declare : Bool) (r : Range) → (shown_decl by (before declare r)).stays ≡ false
      → BlockChanged by old new span before

  -- what may follow `declare` after `export default`
  pub record BlockDefaulted (by : rules.Env) (old new : Draft) (span : Range) (before : Declarable) : Type 0 where
    pub value : Value
    pub writes : Writes x ts old.row new.row (value ∷ [])
    pub it : Declarable
    pub decl : decl_in value ≡ Some (it false span)
    pub defaulted : (r : Range)
        → (shown_decl by (before false r)).defaulted (state_of old) ≡ (it false r, state_of new)

-- ---- by whatever the rules go
abbrev pub ChangedBy : Env → List Range → Draft → Draft → Option Decl → Type 0
ChangedBy it ranges old new o =
    (by : rules.Env) → Knows it by → Overloads ranges by
    → IfThere (λ d. (shown_decl by d).stays ≡ false → DeclChanged it.text.now it.tokens.now by old new d) o

abbrev pub DeclareBy : Env → List Range → Draft → Draft → Option Decl → Type 0
DeclareBy it ranges old new o =
    (by : rules.Env) → Knows it by → Overloads ranges by
    → IfThere (λ d. (shown_decl by d).stays ≡ false → DeclareChanged it.text.now it.tokens.now by old new d) o

-- of variables, in which no overloads are
abbrev pub VarChangedBy : Env → Draft → Draft → Option Decl → Type 0
VarChangedBy it old new o =
    (by : rules.Env) → Knows it by
    → IfThere (λ d. (shown_decl by d).stays ≡ false → DeclChanged it.text.now it.tokens.now by old new d) o

abbrev pub VarDeclareBy : Env → Draft → Draft → Option Decl → Type 0
VarDeclareBy it old new o =
    (by : rules.Env) → Knows it by
    → IfThere (λ d. (shown_decl by d).stays ≡ false → DeclareChanged it.text.now it.tokens.now by old new d) o

abbrev pub VarMade : Env → Bool → Draft → Draft → Option Decl → Type 0
VarMade it top old new o =
    (by : rules.Env) → Knows it by
    → IfThere (λ d. (shown_decl by d).stays ≡ false → DeclPuts it.text.now it.tokens.now by top old new d) o

abbrev pub BlockBy : Env → List Range → Draft → Draft → Range → Option Declarable → Type 0
BlockBy it ranges old new span o =
    (by : rules.Env) → Knows it by → Overloads ranges by
    → IfThere (IfChanged it.text.now it.tokens.now by old new span) o

abbrev pub BlockDefaultBy : Env → List Range → Draft → Draft → Range → Option Declarable → Type 0
BlockDefaultBy it ranges old new span o =
    (by : rules.Env) → Knows it by → Overloads ranges by
    → IfThere (BlockDefaulted it.text.now it.tokens.now by old new span) o

abbrev pub InsideBy : Env → List Range → Draft → Draft → Option (List ModuleItem) → Type 0
InsideBy it ranges old new o =
    (by : rules.Env) → Knows it by → Overloads ranges by
    → IfThere (Made it.text.now it.tokens.now items_in (items_rule by false) old new) o
