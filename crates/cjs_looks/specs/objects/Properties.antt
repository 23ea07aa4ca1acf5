-- What properties of objects are.
use Rattle.std.specs.Prelude.{◌≡◌, ℕ, Bool, true, false, List, Option, Some, None, option_map, is_some, unwrap_or, IfSome}
use Rattle.es_token.specs.declared.token.Token.{Token}
use Rattle.es_ast.specs.declared.ast.Expr.{Expr, out-Expr}
use Rattle.es_ast.specs.declared.ast.Prop.{Prop}
use Rattle.es_ast.specs.declared.ast.Stmt.{Stmt}
use Rattle.es_syntax.specs.declared.cursor.Item.{Item}
use Rattle.es_syntax.specs.Held.{valued}
use Rattle.es_syntax.specs.Roles.{stmt_in}
use Rattle.cjs_looks.specs.declared.kind.Body.{Body}
use Rattle.base.specs.declared.range.Range.{Range}
use Rattle.es_ast.specs.declared.ast.Param.{Param}
use Rattle.es_lowering.specs.Value.{Signature}
use Rattle.es_lowering.specs.Functions.{Key}
use Rattle.es_view_expressions.specs.member.Prop as view
use Rattle.cjs_looks.specs.declared.looks.Look.{Look}
use Rattle.cjs_facts.specs.Looks.{Name, name_by, key_name, is_harmless, property, returned_by, function_in}
use Rattle.cjs_looks.specs.Seen.{Tells, look_of}
use Rattle.cjs_looks.specs.Kinds.{body_of, body_by}
use Rattle.cjs_looks.specs.objects.Returns.{Meets, handed}
use Rattle.cjs_looks.specs.declared.objects.properties.Property.{Property}

-- what a key names, which is computed or not
abbrev pub key_says : Bool × Expr → Option Name
key_says key = key_name key.0 key.1

-- a body that only returns what is harmless
abbrev pub body_harmless : Option Stmt → Bool
body_harmless body = unwrap_or (option_map is_harmless (returned_by body)) false

-- the body of a function that is told: none, or this one, which is there
abbrev pub Fits : List ℕ → List Token → Option Body → Option (Option Stmt) → Type 0
Fits x ts None body = body ≡ None
Fits x ts (Some told) body = (body ≡ body_of x ts told) × (is_some (body_of x ts told) ≡ true)

-- a property is what this tells
pub record Is (x : List ℕ) (ts : List Token) (told : Property) (prop : Prop) : Type 0 where
  pub names : (property prop).name ≡ name_by (look_of x ts told.name)
  pub exports : (property prop).is_export ≡ told.is_export
  pub runs : Fits x ts told.function (body_by (property prop).function)
  pub spreads : Meets (handed x ts told.spread) (property prop).spread

pub record IsProperty (x : List ℕ) (ts : List Token) (told : Property) (part : Option Prop) : Type 0 where
  pub is : IfSome part (Is x ts told)

-- where the expression is there, it is a function with this body, or none
pub record Runs (x : List ℕ) (ts : List Token) (told : Option Body) (part : Option Expr) : Type 0 where
  pub runs : IfSome part (λ e. Fits x ts told (body_by (function_in (out-Expr e))))

-- an accessor whose key looks so
abbrev pub AsAccessor : Look → Bool → Property
AsAccessor name is = record { name = name; is_export = is; function = None; spread = None }

-- whatever its key, an accessor of this word and this body is an export, or is none
pub record Accesses (x : List ℕ) (ts : List Token) (word : Option Token) (body : Item) (is : Bool) : Type 0 where
  pub plain : (name : Look) (r span : Range) (key : Option Key) (params : Option (List Param))
      → Tells key_says key (name_by (look_of x ts name))
      → IsProperty x ts (AsAccessor name is) (view.accessor r word span key params (stmt_in (valued x ts body)))
  pub typed : (name : Look) (r span : Range) (key : Option Key) (signature : Option Signature)
      → Tells key_says key (name_by (look_of x ts name))
      → IsProperty x ts (AsAccessor name is) (view.typed_accessor r word span key signature (stmt_in (valued x ts body)))
