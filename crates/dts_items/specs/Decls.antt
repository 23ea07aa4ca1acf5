-- What is written of declarations.
use Rattle.std.specs.Prelude.{◌≡◌, ℕ, Bool, false, List, [], ◌∷◌, Option, Some}
use Rattle.base.specs.declared.range.Range.{Range}
use Rattle.es_token.specs.declared.token.Token.{Token}
use Rattle.es_ast.specs.declared.ast.Decl.{Decl}
use Rattle.es_ast.specs.declared.ast.ModuleItem.TheVariants as vItem
use Rattle.es_ast.specs.declared.ast.Stmt.TheVariants as vStmt
use Rattle.es_lowering.specs.Value.{Value}
use Rattle.es_syntax.specs.Roles.{decl_in, item_in, stmt_in}
use Rattle.es_changed.specs.Shape.{Writes}
use Rattle.dts_rules.specs.Rules as rules
use Rattle.dts_rules.specs.Programs.{shown_decl}
use Rattle.dts_draft.specs.declared.draft.Draft.{Draft}
use Rattle.dts_draft.specs.Drafts.{state_of}
use Rattle.dts_draft.specs.Written.{IfThere}
use Rattle.dts_names.specs.declared.env.Env.{Env}
use Rattle.dts_names.specs.Names.{Knows}
use Rattle.dts_members.specs.Overloads.{Overloads}

module _ (x : List ℕ) (ts : List Token) where
  -- a declaration is written, as the rules have it on the top or elsewhere; it is a statement and an item
  pub record DeclPuts (by : rules.Env) (top : Bool) (old new : Draft) (before : Decl) : Type 0 where
    pub value : Value
    pub writes : Writes x ts old.row new.row (value ∷ [])
    pub it : Decl
    pub declared : (shown_decl by before).declared top (state_of old) ≡ (Some it, state_of new)
    pub decl : decl_in value ≡ Some it
    pub stmt : stmt_in value ≡ Some (vStmt.Decl it)
    pub item : item_in value ≡ Some (vItem.Stmt (vStmt.Decl it))

  -- the same after `export default`
  pub record DefaultPuts (by : rules.Env) (old new : Draft) (before : Decl) : Type 0 where
    pub value : Value
    pub writes : Writes x ts old.row new.row (value ∷ [])
    pub it : Decl
    pub defaulted : (shown_decl by before).defaulted (state_of old) ≡ (it, state_of new)
    pub decl : decl_in value ≡ Some it

-- ---- by whatever the rules go; types and `using` are written by others
abbrev pub DeclMade : Env → List Range → Bool → Draft → Draft → Option Decl → Type 0
DeclMade it ranges top old new o =
    (by : rules.Env) → Knows it by → Overloads ranges by
    → IfThere (λ d. (shown_decl by d).stays ≡ false → DeclPuts it.text.now it.tokens.now by top old new d) o

abbrev pub DefaultMade : Env → List Range → Draft → Draft → Option Decl → Type 0
DefaultMade it ranges old new o =
    (by : rules.Env) → Knows it by → Overloads ranges by
    → IfThere (DefaultPuts it.text.now it.tokens.now by old new) o
