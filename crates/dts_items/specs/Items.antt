-- What is written of items and statements, each in a turn.
use Rattle.std.specs.Prelude.{◌≡◌, ℕ, Bool, false, List, [], ◌∷◌, Option, Some, None, map}
use Rattle.base.specs.declared.range.Range.{Range}
use Rattle.es_token.specs.declared.token.Token.{Token}
use Rattle.es_ast.specs.declared.ast.Decl.{Decl}
use Rattle.es_ast.specs.declared.ast.ModuleDecl.{ModuleDecl}
use Rattle.es_ast.specs.declared.ast.ModuleItem.{ModuleItem}
use Rattle.es_ast.specs.declared.ast.ModuleItem.TheVariants as vItem
use Rattle.es_ast.specs.declared.ast.Stmt.{Stmt}
use Rattle.es_ast.specs.declared.ast.Stmt.TheVariants as vStmt
use Rattle.es_lowering.specs.Value.{Value, as_group, part, option_list, item_at, stmt_at}
use Rattle.es_syntax.specs.declared.cursor.Item.{Item}
use Rattle.es_syntax.specs.Held.{valued}
use Rattle.es_changed.specs.declared.entry.ChangedEntry.{ChangedEntry}
use Rattle.es_changed.specs.Shape.{Writes}
use Rattle.dts_rules.specs.Rules as rules
use Rattle.dts_rules.specs.Rules.{Run, after, flat, in_turn, some}
use Rattle.dts_rules.specs.Programs.{shown_decl, shown_item, shown_module_decl, shown_stmt}
use Rattle.dts_draft.specs.declared.draft.Draft.{Draft}
use Rattle.dts_draft.specs.Drafts.{state_of}
use Rattle.dts_draft.specs.Written.{IfThere, PutsAll}
use Rattle.dts_names.specs.declared.env.Env.{Env}
use Rattle.dts_names.specs.Names.{Knows}
use Rattle.dts_members.specs.Overloads.{Overloads}
use Rattle.dts_items.specs.declared.sorts.Sort.TheVariants as sort
use Rattle.dts_items.specs.Sorts.{Sorted}

-- ---- the rules: of each item what it becomes, of each statement what may become of it, in order
abbrev pub items_rule : rules.Env → Bool → List ModuleItem → Run (List ModuleItem)
items_rule by top them s = after (λ all. flat all) (in_turn (λ it. shown_item by it top) them s)

abbrev pub stmts_rule : rules.Env → Bool → List Stmt → Run (List Stmt)
stmts_rule by top them s = after (λ all. some all) (in_turn (λ it. shown_stmt by it top) them s)

-- ---- what a turn is
abbrev pub item_turn : Value → Option ModuleItem
item_turn v = item_at (as_group v) 0

abbrev pub stmt_turn : Value → Option Stmt
stmt_turn v = stmt_at (as_group v) 0

-- a statement that may be there, as items
abbrev pub as_items : Option Stmt → List ModuleItem
as_items (Some it) = vItem.Stmt it ∷ []
as_items None = []

-- an item is that of this turn
pub record InTurn (turn it : Item) : Type 0 where
  pub is : (x : List ℕ) (ts : List Token) → part (as_group (valued x ts turn)) 0 ≡ valued x ts it

module _ (x : List ℕ) (ts : List Token) where
  -- what the rules make of one thing is written, a part of this role for each
  pub record MadeList {A B : Type 0} (role : Value → Option B) (f : A → Run (List B)) (old new : Draft) (it : A)
      : Type 0 where
    pub state : state_of new ≡ (f it (state_of old)).1
    pub puts : PutsAll x ts role old.row new.row (f it (state_of old)).0

  -- a statement, or none, is written in a turn; it is an item too
  pub record PutsStmt (old new : List ChangedEntry) (o : Option Stmt) : Type 0 where
    pub values : List Value
    pub writes : Writes x ts old new values
    pub stmts : map stmt_turn values ≡ map Some (option_list o)
    pub items : map item_turn values ≡ map Some (as_items o)

  pub record StmtPuts (by : rules.Env) (top : Bool) (old new : Draft) (it : Stmt) : Type 0 where
    pub state : state_of new ≡ (shown_stmt by it top (state_of old)).1
    pub puts : PutsStmt old.row new.row (shown_stmt by it top (state_of old)).0

  -- a declaration that doesn't stay is written in a turn
  pub record TurnPuts (by : rules.Env) (top : Bool) (old new : Draft) (d : Decl) : Type 0 where
    pub it : Decl
    pub declared : (shown_decl by d).declared top (state_of old) ≡ (Some it, state_of new)
    pub puts : PutsStmt old.row new.row (Some (vStmt.Decl it))

  abbrev pub ItemPuts : rules.Env → Bool → Draft → Draft → ModuleItem → Type 0
  ItemPuts by top old new it = MadeList item_turn (λ it. shown_item by it top) old new it

  abbrev pub ModuleDeclPuts : rules.Env → Bool → Draft → Draft → ModuleDecl → Type 0
  ModuleDeclPuts by top old new it = MadeList item_turn (λ it. shown_module_decl by it top) old new it

  abbrev pub ItemsPut : rules.Env → Bool → Draft → Draft → List ModuleItem → Type 0
  ItemsPut by top old new them = MadeList item_turn (items_rule by top) old new them

  abbrev pub StmtsPut : rules.Env → Bool → Draft → Draft → List Stmt → Type 0
  StmtsPut by top old new them = MadeList stmt_turn (stmts_rule by top) old new them

-- ---- by whatever the rules go
abbrev pub ItemMade : Env → List Range → Bool → Draft → Draft → Option ModuleItem → Type 0
ItemMade it ranges top old new o =
    (by : rules.Env) → Knows it by → Overloads ranges by → IfThere (ItemPuts it.text.now it.tokens.now by top old new) o

abbrev pub StmtMade : Env → List Range → Bool → Draft → Draft → Option Stmt → Type 0
StmtMade it ranges top old new o =
    (by : rules.Env) → Knows it by → Overloads ranges by → IfThere (StmtPuts it.text.now it.tokens.now by top old new) o

-- a declaration as a statement
abbrev pub DeclStmtMade : Env → List Range → Bool → Draft → Draft → Option Decl → Type 0
DeclStmtMade it ranges top old new o =
    (by : rules.Env) → Knows it by → Overloads ranges by
    → IfThere (λ d. StmtPuts it.text.now it.tokens.now by top old new (vStmt.Decl d)) o

-- one that doesn't stay
abbrev pub TurnMade : Env → List Range → Bool → Draft → Draft → Option Decl → Type 0
TurnMade it ranges top old new o =
    (by : rules.Env) → Knows it by → Overloads ranges by
    → IfThere (λ d. (shown_decl by d).stays ≡ false → TurnPuts it.text.now it.tokens.now by top old new d) o

-- a function, over this range
abbrev pub FunctionStmtMade : Env → List Range → Bool → Draft → Draft → Range → Option Decl → Type 0
FunctionStmtMade it ranges top old new span o =
    (by : rules.Env) → Knows it by → Overloads ranges by
    → IfThere (λ d. Sorted sort.Function span d → StmtPuts it.text.now it.tokens.now by top old new (vStmt.Decl d)) o

abbrev pub ModuleDeclMade : Env → List Range → Bool → Draft → Draft → Option ModuleDecl → Type 0
ModuleDeclMade it ranges top old new o =
    (by : rules.Env) → Knows it by → Overloads ranges by
    → IfThere (ModuleDeclPuts it.text.now it.tokens.now by top old new) o

abbrev pub ItemsMade : Env → List Range → Bool → Draft → Draft → Option (List ModuleItem) → Type 0
ItemsMade it ranges top old new o =
    (by : rules.Env) → Knows it by → Overloads ranges by → IfThere (ItemsPut it.text.now it.tokens.now by top old new) o

abbrev pub StmtsMade : Env → List Range → Bool → Draft → Draft → Option (List Stmt) → Type 0
StmtsMade it ranges top old new o =
    (by : rules.Env) → Knows it by → Overloads ranges by → IfThere (StmtsPut it.text.now it.tokens.now by top old new) o
