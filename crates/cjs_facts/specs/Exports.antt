-- What a program exports as a module of CommonJS: its facts, taken one after the other.
use Rattle.std.specs.Prelude.{◌≡◌, ℕ, Bool, true, false, ◌&&◌, ◌||◌, not, List, [], ◌∷◌, ◌++◌, fold, Option, Some, None, bytes_eq, codes, if◌then◌else◌}
use Rattle.std.specs.Cmp.Lexicographic.{slice_cmp}
use Rattle.std.specs.Ordering.{nat_cmp}
use Rattle.std.specs.declared.cmp.Ordering.TheVariants.{Less}
use Rattle.es_ast.specs.declared.ast.Expr.{Expr, out-Expr}
use Rattle.es_ast.specs.declared.ast.Pat.{Pat, out-Pat}
use Rattle.es_ast.specs.declared.ast.Prop.{Prop}
use Rattle.es_ast.specs.declared.ast.Function.{Function}
use Rattle.es_ast.specs.declared.ast.Program.{Program}
use Rattle.es_ast.specs.declared.ast.VarDeclarator.{VarDeclarator, out-VarDeclarator}
use Rattle.es_ast.specs.declared.ast.ClassMember.TheOpen.{Expr-F}
use Rattle.es_site.specs.Parts.{ExprParts}
use Rattle.cjs_facts.specs.declared.found.Found.{Found}
use Rattle.cjs_facts.specs.declared.found.Var.{Var}
use Rattle.cjs_facts.specs.Facts.{Fact, Bound, Called, Assigned, Facts, facts_of}
use Rattle.cjs_facts.specs.Looks.{Name, Key, dotted, quoted, keyed, odd_key, Object, one, within, odd_object, Look, named, text, member, requires, other, look, name_by, Property, property, returned, returns_harmless, props_of, callee_look, right_of, target_in, pat_name_in}

-- ---- what is found by now; names are found in any order, and more than once
abbrev pub with_var : Name → Name → Found → Found
with_var name module_name f = record {
  vars = f.vars ++ record { name = name; module_name = module_name } ∷ [];
  exports = f.exports;
  reexports = f.reexports;
  unsafe_getters = f.unsafe_getters;
}

abbrev pub with_export : Name → Found → Found
with_export name f = record {
  vars = f.vars;
  exports = f.exports ++ name ∷ [];
  reexports = f.reexports;
  unsafe_getters = f.unsafe_getters;
}

abbrev pub with_reexport : Name → Found → Found
with_reexport name f = record {
  vars = f.vars;
  exports = f.exports;
  reexports = f.reexports ++ name ∷ [];
  unsafe_getters = f.unsafe_getters;
}

abbrev pub with_unsafe : Name → Found → Found
with_unsafe name f = record {
  vars = f.vars;
  exports = f.exports;
  reexports = f.reexports;
  unsafe_getters = f.unsafe_getters ++ name ∷ [];
}

-- `module.exports = require("a")` takes the place of all that was exported again
abbrev pub with_one_reexport : Name → Found → Found
with_one_reexport name f = record {
  vars = f.vars;
  exports = f.exports;
  reexports = name ∷ [];
  unsafe_getters = f.unsafe_getters;
}

abbrev pub maybe : (Name → Found → Found) → Option Name → Found → Found
maybe with (Some name) f = with name f
maybe with None f = f

-- the module that a name stands for: the last that it was bound to
abbrev pub var_in : List Var → Name → Option Name
var_in vars name = fold (λ last (v : Var). if bytes_eq name v.name then Some v.module_name else last) None vars

-- ---- words
abbrev pub is_word : Name → Name → Bool
is_word name word = bytes_eq name word

-- `.a` and `["a"]` say the same
abbrev pub key_text : Key → Option Name
key_text (dotted name) = Some name
key_text (quoted name) = Some name
key_text _ = None

abbrev pub says : Key → Name → Bool
says (dotted name) word = bytes_eq name word
says (quoted name) word = bytes_eq name word
says _ word = false

-- `exports`, `module.exports`, `module["exports"]`
abbrev pub is_exports_object : Object → Bool
is_exports_object (one name) = is_word name (codes "exports")
is_exports_object (within name key) = is_word name (codes "module") && says key (codes "exports")
is_exports_object odd_object = false

abbrev pub is_exports : Look → Bool
is_exports (named name) = is_word name (codes "exports")
is_exports _ = false

abbrev pub exports_like : Look → Bool
exports_like (named name) = is_word name (codes "exports")
exports_like (member (one name) key) = is_word name (codes "module") && says key (codes "exports")
exports_like _ = false

-- ---- `var a = require("b")`
abbrev pub bind : Option Name → Look → Found → Found
bind (Some name) (requires module_name) f = with_var name module_name f
bind _ _ f = f

abbrev pub look_of : Option Expr → Look
look_of (Some e) = look e
look_of None = other

unfoldable pub bound : VarDeclarator → Found → Found
bound d f =
    let it = out-VarDeclarator d in
    bind (pat_name_in (out-Pat it.name)) (look_of it.init) f

-- ---- `a[k]`, where `a` stands for a module: the module
abbrev pub module_at : List Var → Name → Look → Option Name
module_at vars k (member (one name) (keyed key)) = if bytes_eq key k then var_in vars name else None
module_at vars k _ = None

-- ---- `Object.defineProperty(exports, name, descriptor)`
abbrev pub is_define : Look → Bool
is_define (member (one name) (dotted key)) = is_word name (codes "Object") && is_word key (codes "defineProperty")
is_define _ = false

abbrev pub is_spread_in : ExprParts → Bool
is_spread_in (Expr-F.Expr::Spread expr span) = true
is_spread_in _ = false

unfoldable pub is_spread : Expr → Bool
is_spread e = is_spread_in (out-Expr e)

-- the first property that is named `get`
abbrev pub is_get : Option Name → Bool
is_get (Some name) = is_word name (codes "get")
is_get None = false

abbrev pub first_get : List Prop → Option Property
first_get [] = None
first_get (prop ∷ props) = if is_get (property prop).name then Some (property prop) else first_get props

-- the property `get` of a descriptor: none, or one that only returns an expression, or another
abbrev pub got : Option Property → Option Function
got (Some it) = it.function
got None = None

-- a getter, if there is one, that only returns what is harmless
abbrev pub is_safe_by : Option Function → Bool
is_safe_by (Some f) = returns_harmless f
is_safe_by None = false

abbrev pub is_safe_get : Option Property → Bool
is_safe_get (Some it) = is_safe_by it.function
is_safe_get None = true

abbrev pub is_safe : Option (List Prop) → Bool
is_safe (Some props) = is_safe_get (first_get props)
is_safe None = false

-- what the getter of a descriptor only returns
abbrev pub returned_by : Option Function → Look
returned_by (Some f) = look_of (returned f)
returned_by None = other

abbrev pub got_look : Option (List Prop) → Look
got_look (Some props) = returned_by (got (first_get props))
got_look None = other

-- a name that is a string is an export or an unsafe getter; where it is a name, a module may be exported again
abbrev pub define : Look → Option (List Prop) → Found → Found
define (text lone name) props f = if is_safe props then with_export name f else with_unsafe name f
define (named key) props f = maybe with_reexport (module_at f.vars key (got_look props)) f
define _ props f = f

abbrev pub defined : List Expr → Found → Found
defined (object ∷ name ∷ descriptor ∷ others) f =
    if exports_like (look object) && not (is_spread descriptor) then define (look name) (props_of descriptor) f else f
defined _ f = f

-- ---- `__exportStar(require("a"), exports)`
abbrev pub is_star_word : Name → Bool
is_star_word name = is_word name (codes "__exportStar") || is_word name (codes "__export")

abbrev pub is_star : Look → Bool
is_star (named name) = is_star_word name
is_star (member (one name) (dotted key)) = is_star_word key
is_star _ = false

abbrev pub starred_module : List Var → Look → Option Name
starred_module vars (requires name) = Some name
starred_module vars (named name) = var_in vars name
starred_module vars _ = None

abbrev pub starred : Look → Found → Found
starred first f = maybe with_reexport (starred_module f.vars first) f

abbrev pub star : List Expr → Found → Found
star (first ∷ []) f = starred (look first) f
star (first ∷ second ∷ []) f = if is_exports (look second) then starred (look first) f else f
star _ f = f

abbrev pub called_by : Look → List Expr → Found → Found
called_by callee args f =
    if is_define callee then defined args f
    else (if is_star callee then star args f
    else f)

unfoldable pub called : Expr → List Expr → Found → Found
called callee args f = called_by (callee_look callee) args f

-- ---- `exports = a`, `module.exports = a`
abbrev pub named_found : Option Name → Bool → Found → Found
named_found (Some name) is_export f = if is_export then with_export name f else with_unsafe name f
named_found None is_export f = f

abbrev pub spread_found : Look → Found → Found
spread_found (requires name) f = with_reexport name f
spread_found _ f = f

abbrev pub property_found : Property → Found → Found
property_found it f = spread_found (look_of it.spread) (named_found it.name it.is_export f)

abbrev pub props_found : List Prop → Found → Found
props_found props f = fold (λ f prop. property_found (property prop) f) f props

abbrev pub required_found : Look → Found → Found
required_found (requires name) f = with_one_reexport name f
required_found _ f = f

abbrev pub right_found : Look → Option (List Prop) → Found → Found
right_found right (Some props) f = props_found props f
right_found right None f = required_found right f

unfoldable pub exports_found : Expr → Found → Found
exports_found right f = right_found (look right) (props_of right) f

-- ---- `exports.a = b`, `exports[k] = a[k]`
abbrev pub key_found : Key → Look → Found → Found
key_found (dotted name) right f = with_export name f
key_found (quoted name) right f = with_export name f
key_found (keyed key) right f = maybe with_reexport (module_at f.vars key right) f
key_found odd_key right f = f

abbrev pub target_found : Look → Expr → Found → Found
target_found (named name) right f = if is_word name (codes "exports") then exports_found (right_of right) f else f
target_found (member object key) right f =
    if exports_like (member object key) then exports_found (right_of right) f
    else (if is_exports_object object then key_found key (look right) f
    else f)
target_found _ right f = f

unfoldable pub assigned : Pat → Expr → Found → Found
assigned left right f = target_found (look_of (target_in (out-Pat left))) right f

-- ---- all facts
abbrev pub step : Found → Fact → Found
step f (Bound declarator) = bound declarator f
step f (Called callee args) = called callee args f
step f (Assigned left right) = assigned left right f

-- after these facts
unfoldable pub after : Found → Facts → Found
after f facts = fold step f facts

unfoldable pub found_in : Facts → Found
found_in facts = after (record { vars = []; exports = []; reexports = []; unsafe_getters = [] }) facts

-- ---- the two lists: ascending by bytes, each name once, without unsafe getters
abbrev pub has : List Name → Name → Bool
has [] name = false
has (first ∷ others) name = if bytes_eq first name then true else has others name

abbrev pub Ascends : List Name → Type 0
Ascends (first ∷ second ∷ others) = (slice_cmp nat_cmp first second ≡ Less) × Ascends (second ∷ others)
Ascends _ = Unit {0}

pub record AreNames (found unsafe_getters names : List Name) : Type 0 where
  pub ascends : Ascends names
  pub members : (name : Name) → has names name ≡ (has found name && not (has unsafe_getters name))

-- `analyze_cjs` answers these
pub record AreExports (program : Program) (exports reexports : List Name) : Type 0 where
  pub exported : AreNames (found_in (facts_of program)).exports (found_in (facts_of program)).unsafe_getters exports
  pub reexported :
      AreNames (found_in (facts_of program)).reexports (found_in (facts_of program)).unsafe_getters reexports
