-- Functions and methods in lists as code has them, and what a part is in its list.
use Rattle.std.specs.Prelude.{◌≡◌, ℕ, Bool, true, false, List, [], ◌∷◌, Option, Some, None, option_map, is_some, IfSome}
use Rattle.base.specs.declared.range.Range.{Range}
use Rattle.es_token.specs.declared.token.Token.{Token}
use Rattle.es_ast.specs.declared.ast.ClassMember.{ClassMember}
use Rattle.es_ast.specs.declared.ast.Decl.{Decl}
use Rattle.es_ast.specs.declared.ast.Function.{Function}
use Rattle.es_ast.specs.declared.ast.ModuleItem.{ModuleItem}
use Rattle.es_ast.specs.declared.ast.Stmt.{Stmt}
use Rattle.es_grammar.specs.declared.rows.NodeKind.{NodeKind}
use Rattle.es_grammar.specs.declared.rows.NodeKind.TheVariants as l
use Rattle.es_lowering.specs.Value.{Value, part, turns}
use Rattle.es_lowering.specs.TypedStatements.{Declarable}
use Rattle.es_syntax.specs.Roles.{stmt_in, item_in, member_in}
use Rattle.dts_rules.specs.Ranges.{Head, decl_head, function_name, seen_decl, seen_function, listed_stmt, listed_item, listed_member, has_range}
use Rattle.dts_overloads.specs.declared.heads.Head.{Head as AHead}
use Rattle.dts_overloads.specs.declared.heads.Kind.{Kind}
use Rattle.dts_overloads.specs.declared.heads.Kind.TheVariants as kind
use Rattle.dts_overloads.specs.Among.{bodies, stmt_head, item_head, member_head, ◌∪◌}
use Rattle.dts_overloads.specs.Names.{name_of}

abbrev pub head_of : AHead → Head
head_of h = record { name = name_of h.name; has_body = h.has_body; span = h.span }

abbrev pub heads_of : Option AHead → Option Head
heads_of h = option_map head_of h

abbrev pub if_there : Bool → Range → List Range
if_there true span = span ∷ []
if_there false span = []

-- a body, or none
pub record HasBody (there : Bool) (part : Option (Option Stmt)) : Type 0 where
  pub has : IfSome part (λ body. is_some body ≡ there)

-- a function, over a range
pub record HeadsFunction (head : Option AHead) (span : Range) (part : Option Function) : Type 0 where
  pub heads : IfSome part (λ f. Some (record {
    name = function_name (seen_function f).ident;
    has_body = (seen_function f).has_body;
    span = span;
  }) ≡ heads_of head)

-- a declaration in an item of the first range, which itself is over the second one
abbrev pub IsHead : Option AHead → Range → Range → Decl → Type 0
IsHead head span own d =
    (decl_head (seen_decl d).function span ≡ heads_of head) × ((seen_decl d).span ≡ own)

pub record HeadsDecl (head : Option AHead) (span own : Range) (part : Option Decl) : Type 0 where
  pub heads : IfSome part (IsHead head span own)

pub record HeadsDeclarable (head : Option AHead) (span : Range) (part : Option Declarable) : Type 0 where
  pub heads : IfSome part (λ decl. (declare : Bool) (r : Range) → IsHead head span r (decl declare r))

pub record HeadsStmt (head : Option AHead) (part : Option Stmt) : Type 0 where
  pub heads : IfSome part (λ it. stmt_head it ≡ heads_of head)

pub record HeadsItem (head : Option AHead) (part : Option ModuleItem) : Type 0 where
  pub heads : IfSome part (λ it. item_head it ≡ heads_of head)

pub record HeadsMember (head : Option AHead) (part : Option ClassMember) : Type 0 where
  pub heads : IfSome part (λ it. member_head it ≡ heads_of head)

-- ---- in a list of this kind
abbrev pub heads_in : Kind → Value → Option (Option Head)
heads_in kind.Stmts v = option_map stmt_head (stmt_in v)
heads_in kind.Items v = option_map item_head (item_in v)
heads_in kind.Members v = option_map member_head (member_in v)

pub record HeadsIn (head : Option AHead) (part : Option (Option Head)) : Type 0 where
  pub heads : IfSome part (λ h. h ≡ heads_of head)

abbrev pub list_heads : Kind → Value → Option (List (Option Head))
list_heads k v = turns (λ turn. heads_in k (part turn 0)) v

-- the bodies of a list after what stands before it are added
pub record Added (k : Kind) (before : Option Head) (v : Value) (old new : List Range) : Type 0 where
  pub added : IfSome (list_heads k v) (λ hs. has_range new ≡ has_range old ∪ has_range (bodies before hs))

-- exports of declarations
abbrev pub exported : List NodeKind
exported =
    l.ExportDeclaration ∷ l.ExportDefaultFunction ∷ l.ExportDefaultClass ∷ l.ExportDefaultInterface ∷ []
