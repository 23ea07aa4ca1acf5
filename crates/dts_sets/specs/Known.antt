-- What a walk adds to the sets of a module.
use Rattle.std.specs.Prelude.{◌≡◌, ◌||◌, false, is_some, List, ◌∷◌, Option, Some, None, IfSome, Bool}
use Rattle.es_token.specs.declared.token.Token.{Token}
use Rattle.es_ast.specs.declared.ts.leaf.Ident.{Ident}
use Rattle.es_ast.specs.declared.ast.Class.{Class, out-Class}
use Rattle.es_ast.specs.declared.ast.Function.{Function, out-Function}
use Rattle.es_ast.specs.declared.ast.VarDeclarator.{VarDeclarator}
use Rattle.es_ast.specs.declared.ast.Expr.{Expr}
use Rattle.es_ast.specs.declared.ast.Pat.{Pat, out-Pat}
use Rattle.es_ast.specs.declared.ts.ts.TsPart.{TsPart}
use Rattle.es_ast.specs.declared.ts.ts.TsType.{TsType}
use Rattle.es_ast.specs.declared.ast.ModuleDecl.{ModuleDecl, out-ModuleDecl}
use Rattle.es_ast.specs.declared.ast.ModuleItem.{ModuleItem, out-ModuleItem}
use Rattle.base.specs.declared.range.Range.{Range}
use Rattle.es_ast.specs.declared.leaf.VarDeclKind.{VarDeclKind}
use Rattle.std.specs.Prelude.{ℕ, map}
use Rattle.es_lowering.specs.Value.{given}
use Rattle.dts_rules.specs.Sets.{Id, Numbers, Sets, no_sets, all_sets, where_, id_of, class_sets, function_sets, const_by, const_sets, variable_sets, is_function, is_array_value, export_by, item_by}
use Rattle.dts_sets.specs.declared.known.Flags.{Flags}
use Rattle.dts_sets.specs.declared.known.Known.{Known}
use Rattle.dts_sets.specs.Ids.{Extends, Numbered}

-- a name that belongs to the sets with these flags
abbrev pub flagged : Flags → Id → Sets
flagged flags id =
    record { typeofs = where_ flags.typeofs id; plain = where_ flags.plain id; arrays = where_ flags.arrays id }

abbrev pub ident_sets : Flags → Numbers → Ident → Sets
ident_sets flags number id = flagged flags (id_of number id)

-- a name that may be absent
abbrev pub own_sets : Flags → Numbers → Option Ident → Sets
own_sets flags number (Some id) = ident_sets flags number id
own_sets flags number None = no_sets

abbrev pub class_of : Numbers → Class → Sets
class_of number it = class_sets number it (out-Class it).ident

abbrev pub function_of : Numbers → Function → Sets
function_of number it = function_sets number (out-Function it).ident

abbrev pub consts_of : Numbers → List VarDeclarator → Sets
consts_of number decls = all_sets (map (const_sets number) decls)

abbrev pub variables_of : Numbers → VarDeclKind × List VarDeclarator → Sets
variables_of number variables = variable_sets number variables.0 variables.1

abbrev pub export_sets : Numbers → ModuleDecl → Sets
export_sets number it = export_by number (out-ModuleDecl it)

abbrev pub item_sets : Numbers → ModuleItem → Sets
item_sets number it = item_by number (out-ModuleItem it)

-- a pattern with this value
abbrev pub pat_sets : Option Expr → Numbers → Pat → Sets
pat_sets init number pat = const_by number init (out-Pat pat)

-- the same with a type behind it
abbrev pub marked_sets : Option TsPart → Range → Option Expr → Numbers → (Bool → Option TsPart → Range → Pat) → Sets
marked_sets ty r init number pat = const_by number init (out-Pat (pat false ty r))

-- the flags of a constant of this type and this value
pub record Fits (flags : Flags) (ty : Option TsType) (init : Option Expr) : Type 0 where
  pub typeofs : flags.typeofs ≡ (is_some ty || is_function init)
  pub plain : flags.plain ≡ false
  pub arrays : flags.arrays ≡ is_array_value ty init

-- a declarator and those after it, where all are there
unfoldable pub decls_of : Option VarDeclarator → Option (List VarDeclarator) → Option (List VarDeclarator)
decls_of first others = given first (λ first. given others (λ others. Some (first ∷ others)))

-- the sets before with these names
pub record Grown (old new : Known) (s : Sets) : Type 0 where
  pub typeofs : Extends old.typeofs new.typeofs s.typeofs
  pub plain : Extends old.plain new.plain s.plain
  pub arrays : Extends old.arrays new.arrays s.arrays

-- where the part is there, with its names
pub record Adds {A : Type 0} (sets : A → Sets) (old new : Known) (part : Option A) : Type 0 where
  pub added : IfSome part (λ a. Grown old new (sets a))

-- by whatever numbers stand at the tokens
abbrev pub AddsBy : List Token → List ℕ → {A : Type 0} → (Numbers → A → Sets) → Known → Known → Option A → Type 0
AddsBy ts ids sets old new part = (number : Numbers) → Numbered ts ids number → Adds (sets number) old new part
