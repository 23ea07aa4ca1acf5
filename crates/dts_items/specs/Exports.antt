-- What is written of exports, each in a turn.
use Rattle.std.specs.Prelude.{◌≡◌, ℕ, ◌+◌, Bool, true, false, List, [], ◌∷◌, Option, Some, None}
use Rattle.base.specs.declared.range.Range.{Range}
use Rattle.es_token.specs.declared.token.Token.{Token}
use Rattle.es_ast.specs.declared.ts.ts.TsType.{TsType}
use Rattle.es_ast.specs.declared.ast.Decl.{Decl}
use Rattle.es_ast.specs.declared.ast.Expr.{Expr}
use Rattle.es_ast.specs.declared.ast.Expr.TheVariants as vExpr
use Rattle.es_ast.specs.declared.ast.ModuleDecl.{ModuleDecl}
use Rattle.es_ast.specs.declared.ast.ModuleDecl.TheVariants as vModule
use Rattle.es_ast.specs.declared.ast.ModuleItem.TheVariants as vItem
use Rattle.es_ast.specs.declared.ast.Pat.TheVariants as vPat
use Rattle.es_lowering.specs.Lowering.{item_by}
use Rattle.es_lowering.specs.Value.{Value}
use Rattle.es_syntax.specs.declared.cursor.Item.{Item}
use Rattle.es_syntax.specs.Held.{valued}
use Rattle.es_syntax.specs.Roles.{item_in}
use Rattle.es_changed.specs.declared.entry.ChangedEntry.{ChangedEntry}
use Rattle.es_changed.specs.Formed.{made_const, made_symbol}
use Rattle.es_changed.specs.Shape.{Writes}
use Rattle.dts_rules.specs.declared.found.FoundKind.TheVariants as kind
use Rattle.dts_rules.specs.Made.{annotation, made_name, nowhere}
use Rattle.dts_rules.specs.Rules as rules
use Rattle.dts_rules.specs.Rules.{drawn, note}
use Rattle.dts_rules.specs.Programs.{shown_decl, shown_expr, with_const}
use Rattle.dts_draft.specs.declared.draft.Draft.{Draft}
use Rattle.dts_draft.specs.Drafts.{state_of}
use Rattle.dts_draft.specs.Written.{IfThere, PutsAll}
use Rattle.dts_names.specs.declared.env.Env.{Env}
use Rattle.dts_names.specs.Names.{Knows}
use Rattle.dts_members.specs.Overloads.{Overloads}
use Rattle.dts_items.specs.declared.sorts.Sort.TheVariants as sort
use Rattle.dts_items.specs.Sorts.{Sorted}
use Rattle.dts_items.specs.Items.{item_turn, ModuleDeclPuts}

-- the item is this export
abbrev pub IsExport : Env → Item → Option ModuleDecl → Type 0
IsExport it item o = item_in (valued it.text.now it.tokens.now item) ≡ item_by it.text.now it.tokens.now o None

module _ (x : List ℕ) (ts : List Token) where
  -- one export is written
  abbrev pub PutsOne : List ChangedEntry → List ChangedEntry → ModuleDecl → Type 0
  PutsOne old new it = PutsAll x ts item_turn old new (vItem.ModuleDecl it ∷ [])

  -- a declaration that doesn't stay, exported over this range
  pub record ExportTurn (by : rules.Env) (top : Bool) (old new : Draft) (span : Range) (d : Decl) : Type 0 where
    pub it : Decl
    pub declared : (shown_decl by d).declared top (state_of old) ≡ (Some it, state_of new)
    pub puts : PutsOne old.row new.row (vModule.ExportDecl it span)

  -- one after `export default`
  pub record DefaultTurn (by : rules.Env) (old new : Draft) (span : Range) (d : Decl) : Type 0 where
    pub it : Decl
    pub defaulted : (shown_decl by d).defaulted (state_of old) ≡ (it, state_of new)
    pub puts : PutsOne old.row new.row (vModule.ExportDefaultDecl it span)

  -- `declare const` of a made name, where the expression has a type; else nothing
  abbrev pub PutsConst : Draft → Draft → ℕ → Bool → Option TsType × rules.State → Type 0
  PutsConst old new number wrote (Some ty, s) =
      (wrote ≡ true) × (state_of new ≡ s)
      × PutsAll x ts item_turn old.row new.row (made_const (vPat.Ident (made_name (made_symbol number)) (annotation ty) nowhere) ∷ [])
  PutsConst old new number wrote (None, s) = (wrote ≡ false) × (state_of new ≡ s) × Writes x ts old.row new.row []

  pub record ConstPuts (by : rules.Env) (old new : Draft) (number : ℕ) (wrote : Bool) (e : Expr) : Type 0 where
    pub puts : PutsConst old new number wrote ((shown_expr by e).rule false true (state_of old))

  -- `export default` of a made name
  pub record NamePuts (old new : List ChangedEntry) (number : ℕ) (span : Range) : Type 0 where
    pub puts : PutsOne old new (vModule.ExportDefaultExpr (vExpr.Ident (made_name (made_symbol number))) span)

  -- what the rules make of an expression that is no name
  pub record DefaultExpr (by : rules.Env) (old new : Draft) (span : Range) (e : Expr) : Type 0 where
    pub state : state_of new
        ≡ (with_const by e span (made_name (by.name (old.made + 1))) ((shown_expr by e).rule false true (drawn (state_of old)))).1
    pub puts : PutsAll x ts item_turn old.row new.row
        (with_const by e span (made_name (by.name (old.made + 1))) ((shown_expr by e).rule false true (drawn (state_of old)))).0

-- ---- by whatever the rules go
abbrev pub ExportMade : Env → List Range → Bool → Draft → Draft → Option ModuleDecl → Type 0
ExportMade it ranges top old new o =
    (by : rules.Env) → Knows it by → Overloads ranges by
    → IfThere (ModuleDeclPuts it.text.now it.tokens.now by top old new) o

abbrev pub ExportTurnMade : Env → List Range → Bool → Draft → Draft → Range → Option Decl → Type 0
ExportTurnMade it ranges top old new span o =
    (by : rules.Env) → Knows it by → Overloads ranges by
    → IfThere (λ d. (shown_decl by d).stays ≡ false → ExportTurn it.text.now it.tokens.now by top old new span d) o

-- a function, exported over this range
abbrev pub FunctionExportMade : Env → List Range → Bool → Draft → Draft → Range → Option Decl → Type 0
FunctionExportMade it ranges top old new span o =
    (by : rules.Env) → Knows it by → Overloads ranges by
    → IfThere (λ d. (shown_decl by d).is_function ≡ true → (shown_decl by d).stays ≡ false
    → ModuleDeclPuts it.text.now it.tokens.now by top old new (vModule.ExportDecl d span)) o

abbrev pub DefaultTurnMade : Env → List Range → Draft → Draft → Range → Option Decl → Type 0
DefaultTurnMade it ranges old new span o =
    (by : rules.Env) → Knows it by → Overloads ranges by
    → IfThere (DefaultTurn it.text.now it.tokens.now by old new span) o

abbrev pub FunctionDefaultMade : Env → List Range → Draft → Draft → Range → Option Decl → Type 0
FunctionDefaultMade it ranges old new span o =
    (by : rules.Env) → Knows it by → Overloads ranges by
    → IfThere (λ d. (shown_decl by d).is_function ≡ true → (top : Bool)
    → ModuleDeclPuts it.text.now it.tokens.now by top old new (vModule.ExportDefaultDecl d span)) o

-- nothing is written of an exported `using`, over these ranges
pub record NoUsing (it : Env) (old new : Draft) (inner span : Range) : Type 0 where
  pub state : state_of new ≡ note kind.UnableToInferType span (note kind.UnsupportedUsing inner (state_of old))
  pub writes : Writes it.text.now it.tokens.now old.row new.row []

abbrev pub ConstMade : Env → Draft → Draft → ℕ → Bool → Option Expr → Type 0
ConstMade it old new number wrote o =
    (by : rules.Env) → Knows it by → IfThere (ConstPuts it.text.now it.tokens.now by old new number wrote) o

abbrev pub DefaultExprMade : Env → Draft → Draft → Range → Option Expr → Type 0
DefaultExprMade it old new span o =
    (by : rules.Env) → Knows it by → IfThere (DefaultExpr it.text.now it.tokens.now by old new span) o
