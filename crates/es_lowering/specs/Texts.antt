-- What is kept of tokens: names, literals and pieces of templates, by the text of a token; spans of nodes.
use Rattle.std.specs.Prelude.{ℕ, zero, suc, ◌+◌, ◌-◌, ◌==◌, Bool, true, false, List, Option, Some, None, option_map, if◌then◌else◌, slice_get, slice_range}
use Rattle.base.specs.declared.range.Range.{Range}
use Rattle.es_token.specs.declared.token.Token.{Token}
use Rattle.es_token.specs.declared.token.TokenKind.{TokenKind}
use Rattle.es_token.specs.declared.token.TokenKind.TheVariants as k
use Rattle.es_literal.specs.Values.{value_of, is_lone}
use Rattle.grammar_theory.specs.Key.{same_kind}
use Rattle.es_ast.specs.declared.ts.leaf.Ident.{Ident}
use Rattle.es_ast.specs.declared.ts.leaf.Str.{Str}
use Rattle.es_ast.specs.declared.ts.leaf.TplElement.{TplElement}
use Rattle.es_ast.specs.declared.ts.leaf.TsThisTypeOrIdent.{TsThisTypeOrIdent}
use Rattle.es_ast.specs.declared.ts.leaf.TsThisTypeOrIdent.TheVariants as vThis
use Rattle.es_ast.specs.declared.leaf.Regex.{Regex}
use Rattle.es_ast.specs.declared.leaf.Lit.{Lit}
use Rattle.es_ast.specs.declared.leaf.Lit.TheVariants as vLit
use Rattle.es_ast.specs.declared.leaf.ModuleExportName.{ModuleExportName}
use Rattle.es_ast.specs.declared.leaf.ModuleExportName.TheVariants as vName
use Rattle.es_lowering.specs.Value.{Value, token, part, as_group, given, optional}

-- ---- spans
abbrev pub start_of : Option Token → ℕ
start_of (Some t) = t.range.start
start_of None = 0

abbrev pub end_of : Option Token → ℕ
end_of (Some t) = t.range.end
end_of None = 0

-- where the token before this one ends, or 0
unfoldable pub end_before : List Token → ℕ → ℕ
end_before ts zero = 0
end_before ts (suc n) = end_of (slice_get ts n)

-- from the start of the first token to the end of the last one; without tokens, where the token before ends
unfoldable pub span_of : List Token → ℕ → ℕ → Range
span_of ts from to =
    if from == to then record { start = end_before ts from; end = end_before ts from }
    else record { start = start_of (slice_get ts from); end = end_before ts to }

-- ---- the text of a token
-- a name, a word: its text
unfoldable pub ident_of : List ℕ → Token → Ident
ident_of x t = record { sym = slice_range x t.range.start t.range.end; ctxt = 0; optional = false; span = t.range }

-- a private name: its text without `#`
unfoldable pub private_of : List ℕ → Token → Option Ident
private_of x t =
    if same_kind t.kind k.PrivateName
    then Some (record { sym = slice_range x (t.range.start + 1) t.range.end; ctxt = 0; optional = false; span = t.range })
    else None

-- a string literal: its value and its text
abbrev pub str_by : List ℕ → Range → Str
str_by literal span = record { value = value_of literal; lone = is_lone literal; raw = Some literal; span = span }

unfoldable pub str_of : List ℕ → Token → Str
str_of x t = str_by (slice_range x t.range.start t.range.end) t.range

-- a number or a BigInt: its text
unfoldable pub numeric_of : List ℕ → Token → Option Lit
numeric_of x t =
    if same_kind t.kind k.Number
    then Some (vLit.Num (record { raw = slice_range x t.range.start t.range.end; span = t.range }))
    else (if same_kind t.kind k.BigInt
    then Some (vLit.BigInt (record { raw = slice_range x t.range.start t.range.end; span = t.range }))
    else None)

-- a regular expression: its text with its flags
unfoldable pub regex_of : List ℕ → Token → Regex
regex_of x t = record { raw = slice_range x t.range.start t.range.end; span = t.range }

-- so many bytes of a piece of a template are its end: a backtick, or `${`
unfoldable pub stop_of : TokenKind → Option ℕ
stop_of kind =
    if same_kind kind k.TemplateWhole then Some 1
    else (if same_kind kind k.TemplateTail then Some 1
    else (if same_kind kind k.TemplateHead then Some 2
    else (if same_kind kind k.TemplateMiddle then Some 2
    else None)))

-- what stands between two places of the text
abbrev pub piece_at : List ℕ → ℕ → ℕ → TplElement
piece_at x start end = record { raw = slice_range x start end; span = record { start = start; end = end } }

-- a piece of a template: what stands between its backtick or `}` and its backtick or `${`
unfoldable pub piece_of : List ℕ → Token → Option TplElement
piece_of x t = option_map (λ stop. piece_at x (t.range.start + 1) (t.range.end - stop)) (stop_of t.kind)

-- the line behind `#!`
unfoldable pub shebang_of : List ℕ → Token → Option (List ℕ)
shebang_of x t =
    if same_kind t.kind k.Shebang then Some (slice_range x (t.range.start + 2) t.range.end) else None

-- ---- a token among the parts
abbrev pub token_of : List Token → Value → Option Token
token_of ts (token n) = slice_get ts n
token_of ts _ = None

abbrev pub token_at : List Token → Value → ℕ → Option Token
token_at ts p n = token_of ts (part p n)

abbrev pub kind_at : List Token → Value → ℕ → Option TokenKind
kind_at ts p n = option_map (λ t. t.kind) (token_at ts p n)

abbrev pub ident_at : List ℕ → List Token → Value → ℕ → Option Ident
ident_at x ts p n = option_map (ident_of x) (token_at ts p n)

abbrev pub private_at : List ℕ → List Token → Value → ℕ → Option Ident
private_at x ts p n = given (token_at ts p n) (private_of x)

abbrev pub str_at : List ℕ → List Token → Value → ℕ → Option Str
str_at x ts p n = option_map (str_of x) (token_at ts p n)

abbrev pub numeric_at : List ℕ → List Token → Value → ℕ → Option Lit
numeric_at x ts p n = given (token_at ts p n) (numeric_of x)

abbrev pub piece_there : List ℕ → List Token → Value → ℕ → Option TplElement
piece_there x ts p n = given (token_at ts p n) (piece_of x)

abbrev pub shebang_at : List ℕ → List Token → Value → ℕ → Option (List ℕ)
shebang_at x ts p n = given (token_at ts p n) (shebang_of x)

-- a name behind a dot, and whether it is private
unfoldable pub property_of : List ℕ → Token → Option (Bool × Ident)
property_of x t =
    if same_kind t.kind k.PrivateName then option_map (λ name. (true, name)) (private_of x t)
    else Some (false, ident_of x t)

abbrev pub property_at : List ℕ → List Token → Value → ℕ → Option (Bool × Ident)
property_at x ts p n = given (token_at ts p n) (property_of x)

-- a name or a string literal
unfoldable pub name_of : List ℕ → Token → ModuleExportName
name_of x t =
    if same_kind t.kind k.Str then vName.Str (str_of x t) else vName.Ident (ident_of x t)

abbrev pub name_at : List ℕ → List Token → Value → ℕ → Option ModuleExportName
name_at x ts p n = option_map (name_of x) (token_at ts p n)

-- `this` or a name
unfoldable pub this_or_name_of : List ℕ → Token → TsThisTypeOrIdent
this_or_name_of x t =
    if same_kind t.kind k.ThisWord then vThis.This t.range else vThis.Ident (ident_of x t)

abbrev pub this_or_name_at : List ℕ → List Token → Value → ℕ → Option TsThisTypeOrIdent
this_or_name_at x ts p n = option_map (this_or_name_of x) (token_at ts p n)

-- the name of a function or a class: a token where it is asked for, else a part that may be absent
abbrev pub own_name_of : List ℕ → List Token → Value → Option (Option Ident)
own_name_of x ts (token n) = option_map (λ t. Some (ident_of x t)) (slice_get ts n)
own_name_of x ts v = optional (ident_at x ts) (as_group v)

abbrev pub own_name_at : List ℕ → List Token → Value → ℕ → Option (Option Ident)
own_name_at x ts p n = own_name_of x ts (part p n)
