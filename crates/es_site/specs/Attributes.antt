-- The `type` among the attributes of an import (ECMA-262, "WithClause"; for `import()`, "ImportCall").
use Rattle.std.specs.Prelude.{ℕ, Bool, true, false, ◌&&◌, List, [], ◌∷◌, Option, Some, None, fold, bytes_eq, codes, if◌then◌else◌}
use Rattle.es_ast.specs.declared.ts.leaf.Str.{Str}
use Rattle.es_ast.specs.declared.leaf.ModuleExportName.{ModuleExportName}
use Rattle.es_ast.specs.declared.leaf.ModuleExportName.TheVariants as vName
use Rattle.es_ast.specs.declared.leaf.ImportAttribute.{ImportAttribute}
use Rattle.es_ast.specs.declared.leaf.ImportAttributes.{ImportAttributes}
use Rattle.es_ast.specs.declared.leaf.Lit.TheVariants as vLit
use Rattle.es_ast.specs.declared.ast.Expr.{Expr, out-Expr}
use Rattle.es_ast.specs.declared.ast.Prop.{Prop, out-Prop}
use Rattle.es_ast.specs.declared.ast.ClassMember.TheOpen.{Expr-F, Prop-F}
use Rattle.es_site.specs.Parts.{ExprParts, PropParts}
use Rattle.es_site.specs.declared.site.Attribute.{Attribute}
use Rattle.es_site.specs.declared.site.Attribute.TheVariants.{Absent, Named, Unknown}

-- ---- `with { type: "a" }` of a declaration

-- the name or the string is this word
abbrev pub spells : List ℕ → ModuleExportName → Bool
spells word (vName.Ident name) = bytes_eq name.sym word
spells word (vName.Str s) = bytes_eq s.value word

-- the last value that `type` is given
abbrev pub last_type : List ImportAttribute → Option Str
last_type items = fold (λ last item. if spells (codes "type") item.key then Some item.value else last) None items

abbrev pub named : Option Str → Attribute
named (Some s) = Named s.value
named None = Absent

-- the attribute of a declaration with this clause
abbrev pub attribute_of : Option ImportAttributes → Attribute
attribute_of (Some clause) = named (last_type clause.items)
attribute_of None = Absent

-- ---- the second argument of `import()`

-- the expression is this word, or a string of it
abbrev pub says : List ℕ → ExprParts → Bool
says word (Expr-F.Expr::Ident name) = bytes_eq name.sym word
says word (Expr-F.Lit (vLit.Str s)) = bytes_eq s.value word
says word _ = false

-- the expression is a word or a string
abbrev pub is_name : ExprParts → Bool
is_name (Expr-F.Expr::Ident _) = true
is_name (Expr-F.Lit (vLit.Str _)) = true
is_name _ = false

-- the property is a plain `key: value`, whose key is a word or a string
abbrev pub plain_part : PropParts → Bool
plain_part (Prop-F.Prop::KeyValue false key _ _) = is_name (out-Expr key)
plain_part _ = false

abbrev pub is_plain : Prop → Bool
is_plain p = plain_part (out-Prop p)

abbrev pub are_plain : List Prop → Bool
are_plain props = fold (λ yes p. yes && is_plain p) true props

-- what the property gives this word, where it is a plain `key: value`
abbrev pub given_part : List ℕ → PropParts → Option Expr
given_part word (Prop-F.Prop::KeyValue false key value _) = if says word (out-Expr key) then Some value else None
given_part word _ = None

-- the later of two
abbrev pub or_before : Option Expr → Option Expr → Option Expr
or_before (Some value) before = Some value
or_before None before = before

-- what the last of the properties that gives this word something gives it
abbrev pub last_given : List ℕ → List Prop → Option Expr
last_given word props = fold (λ last p. or_before (given_part word (out-Prop p)) last) None props

-- the value of `type`: a string tells, and nothing else
abbrev pub type_part : ExprParts → Attribute
type_part (Expr-F.Lit (vLit.Str s)) = Named s.value
type_part _ = Unknown

abbrev pub type_attribute : Option Expr → Attribute
type_attribute (Some value) = type_part (out-Expr value)
type_attribute None = Absent

-- the value of `with`: an object of plain properties tells
abbrev pub with_part : ExprParts → Attribute
with_part (Expr-F.Expr::Object props _) = if are_plain props then type_attribute (last_given (codes "type") props) else Unknown
with_part _ = Unknown

abbrev pub with_attribute : Option Expr → Attribute
with_attribute (Some value) = with_part (out-Expr value)
with_attribute None = Absent

-- the options: an object of plain properties tells
abbrev pub options_part : ExprParts → Attribute
options_part (Expr-F.Expr::Object props _) = if are_plain props then with_attribute (last_given (codes "with") props) else Unknown
options_part _ = Unknown

-- the attribute of an `import()` with these arguments behind the first
abbrev pub options_attribute : List Expr → Attribute
options_attribute [] = Absent
options_attribute (options ∷ rest) = options_part (out-Expr options)
