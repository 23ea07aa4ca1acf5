-- What TypeScript adds to patterns, parameters and functions (the handbook of TypeScript, "Everyday Types", "More on
-- Functions"): types behind `:`, and what stands between `<` and `>`.
use Rattle.std.specs.Prelude.{ℕ, ◌+◌, ◌-◌, Bool, false, ◌||◌, List, ◌∷◌, ◌++◌, Option, Some, None, option_map, if◌then◌else◌}
use Rattle.base.specs.declared.range.Range.{Range}
use Rattle.es_token.specs.declared.token.Token.{Token}
use Rattle.es_token.specs.declared.token.TokenKind.{TokenKind}
use Rattle.es_token.specs.declared.token.TokenKind.TheVariants as k
use Rattle.grammar_theory.specs.Key.{same_kind}
use Rattle.es_ast.specs.declared.ts.ts.TsPart.{TsPart}
use Rattle.es_ast.specs.declared.ts.ts.TsPart.TheVariants as vPart
use Rattle.es_ast.specs.declared.ts.ts.TsExprWithTypeArgs.{TsExprWithTypeArgs}
use Rattle.es_ast.specs.declared.leaf.Accessibility.{Accessibility}
use Rattle.es_ast.specs.declared.leaf.Accessibility.TheVariants as vAccessibility
use Rattle.es_ast.specs.declared.leaf.Modifiers.{Modifiers}
use Rattle.es_ast.specs.declared.ast.Stmt.{Stmt}
use Rattle.es_ast.specs.declared.ast.Pat.{Pat}
use Rattle.es_ast.specs.declared.ast.Pat.TheVariants as vPat
use Rattle.es_ast.specs.declared.ast.Param.{Param, roll-Param}
use Rattle.es_lowering.specs.Value.{Value, node, more, Signature, given, part, as_group, group, first_of, behind, optional, option_list, is_there, turns, expr_at, pat_at, pat_prop_at, param_at, params_at, marked_at, type_at, reference_at, arguments_at, type_params_at}
use Rattle.es_lowering.specs.Texts.{span_of, token_at, kind_at, ident_at}
use Rattle.es_lowering.specs.Expressions.{elements}
use Rattle.es_lowering.specs.Patterns.{with_default}
use Rattle.es_lowering.specs.Functions.{plain}
use Rattle.es_lowering.specs.TypeTexts.{marked}
use Rattle.es_lowering.specs.TypeNames.{behind_in}

-- ---- parts that hold types: each may be absent
-- ':' Type
abbrev pub annotation_at : Value → ℕ → Option (Option TsPart)
annotation_at p n = option_map (λ ty. option_map vPart.TypeAnn ty) (optional type_at (group p n))

-- TParams and TArgs
abbrev pub params_part_at : Value → ℕ → Option (Option TsPart)
params_part_at p n = option_map (λ ps. option_map vPart.TypeParams ps) (optional type_params_at (group p n))

abbrev pub args_part_at : Value → ℕ → Option (Option TsPart)
args_part_at p n = option_map (λ args. option_map vPart.TypeArgs args) (optional arguments_at (group p n))

-- a name with arguments or without, as `extends` and `implements` list it
abbrev pub heritage_at : List Token → Value → ℕ → Option TsExprWithTypeArgs
heritage_at ts p n =
    option_map (λ name. record {
      expr = name.0;
      type_args = name.1;
      span = span_of ts (first_of (part p n)) (behind (part p n));
    }) (reference_at p n)

-- the first of them stands at this part, the others are turns
abbrev pub heritage_from : List Token → Value → ℕ → Option (List TsExprWithTypeArgs)
heritage_from ts p n =
    given (heritage_at ts p n) (λ first.
    given (turns (λ turn. heritage_at ts turn 0) (group p (n + 1))) (λ rest. Some (first ∷ rest)))

abbrev pub heritage_in : List Token → Value → Option (Option TsPart)
heritage_in ts (more v vs) = option_map (λ all. Some (vPart.Heritage all)) (heritage_from ts (more v vs) 0)
heritage_in ts _ = Some None

-- ---- patterns that may have `?` or a type behind them
unfoldable pub marked_name : List ℕ → List Token → Value → Option (Bool → Option TsPart → Range → Pat)
marked_name x ts p = option_map (λ id mark ty r. vPat.Ident (marked mark id) ty r) (ident_at x ts p 0)

unfoldable pub marked_array : List Token → ℕ → Value → Option (Bool → Option TsPart → Range → Pat)
marked_array ts from p =
    option_map (λ elems mark ty r. vPat.Array elems mark ty r) (elements vPat.Hole pat_at ts (from + 1) (group p 0))

unfoldable pub marked_object : Value → Option (Bool → Option TsPart → Range → Pat)
marked_object p =
    option_map (λ props mark ty r. vPat.Object props mark ty r) (turns (λ turn. pat_prop_at turn 0) (group p 0))

-- such a pattern with this mark and this type, over this range
abbrev pub marked_by : Option (Bool → Option TsPart → Range → Pat) → Bool → Option TsPart → Range → Option Pat
marked_by (Some pat) mark ty r = Some (pat mark ty r)
marked_by None mark ty r = None

-- where a pattern ends with the part behind it that may be absent
abbrev pub annotated_span : List Token → Value → ℕ → ℕ → Range
annotated_span ts p n at = span_of ts (first_of (part p n)) (behind_in (group p at) (behind (part p n)))

-- the pattern at this part, with the type that stands at another one
abbrev pub annotated_at : List Token → Value → ℕ → ℕ → Option Pat
annotated_at ts p n at =
    given (annotation_at p at) (λ ty. marked_by (marked_at p n) false ty (annotated_span ts p n at))

-- ---- modifiers
unfoldable pub access_of : TokenKind → Accessibility → Accessibility
access_of kind before =
    if same_kind kind k.PublicWord then vAccessibility.Public
    else (if same_kind kind k.ProtectedWord then vAccessibility.Protected
    else (if same_kind kind k.PrivateWord then vAccessibility.Private
    else before))

unfoldable pub with_modifier : TokenKind → Modifiers → Modifiers
with_modifier kind m = record {
  accessibility = access_of kind m.accessibility;
  is_static = same_kind kind k.StaticWord || m.is_static;
  is_abstract = same_kind kind k.AbstractWord || m.is_abstract;
  is_override = same_kind kind k.OverrideWord || m.is_override;
  readonly = same_kind kind k.ReadonlyWord || m.readonly;
  declare = same_kind kind k.DeclareWord || m.declare;
  accessor = m.accessor;
}

-- those of a list, of which each stands once
abbrev pub modifiers_in : List Token → Modifiers → Value → Option Modifiers
modifiers_in ts before (more v vs) =
    given (kind_at ts (as_group v) 0) (λ kind. modifiers_in ts (with_modifier kind before) vs)
modifiers_in ts before _ = Some before

-- ---- parameters
abbrev pub param_by : Modifiers → Range → Pat → Param
param_by modifiers r pat = roll-Param (record { modifiers = modifiers; pat = pat; span = r })

-- a pattern at this part, and behind it '?'? (':' Type)? ('=' Assign)?: where it ends without its default, and with it
abbrev pub typed_span : List Token → Value → ℕ → Range
typed_span ts p n =
    span_of ts (first_of (part p n)) (behind_in (group p (n + 2)) (behind_in (group p (n + 1)) (behind (part p n))))

abbrev pub tailed_span : List Token → Value → ℕ → Range
tailed_span ts p n =
    span_of ts (first_of (part p n))
    (behind_in (group p (n + 3)) (behind_in (group p (n + 2)) (behind_in (group p (n + 1)) (behind (part p n)))))

abbrev pub tailed_at : List Token → Value → ℕ → Option Pat
tailed_at ts p n =
    given (annotation_at p (n + 2)) (λ ty.
    given (marked_by (marked_at p n) (is_there (group p (n + 1))) ty (typed_span ts p n)) (λ pat.
    given (optional expr_at (group p (n + 3))) (λ value. Some (with_default (tailed_span ts p n) pat value))))

unfoldable pub marked_parameter : List Token → Range → Value → Option Param
marked_parameter ts r p = option_map (param_by plain r) (tailed_at ts p 0)

-- behind modifiers, in a constructor
unfoldable pub property_parameter : List Token → Range → Value → Option Param
property_parameter ts r p =
    given (modifiers_in ts plain (group p 0)) (λ modifiers. option_map (param_by modifiers r) (tailed_at ts p 1))

-- `this`, with its type
unfoldable pub this_parameter : List Token → Range → Value → Option Param
this_parameter ts r p =
    given (token_at ts p 0) (λ t.
    given (annotation_at p 2) (λ ty.
    given (optional expr_at (group p 3)) (λ value.
    Some (param_by plain r (with_default r
    (vPat.This ty (span_of ts (first_of (part p 0)) (behind_in (group p 2) (behind (part p 0))))) value)))))

-- the last one, behind `...`
abbrev pub typed_rest_of : Range → Pat → Option TsPart → Param
typed_rest_of r pat ty = param_by plain r (vPat.Rest pat ty r)

abbrev pub typed_rest_at : List Token → Value → ℕ → Option Param
typed_rest_at ts p n =
    given (pat_at p n) (λ pat.
    given (annotation_at p (n + 1)) (λ ty.
    Some (typed_rest_of
    (span_of ts (first_of (part p n) - 1) (behind_in (group p (n + 1)) (behind (part p n)))) pat ty)))

-- Param% | (Param ',')* '...' Pat (':' Type)?
unfoldable pub typed_parameters : List Token → Value → Option (List Param)
typed_parameters ts p =
    given (turns (λ turn. param_at turn 0) (group p 0)) (λ all.
    given (optional (typed_rest_at ts) (group p 1)) (λ rest. Some (all ++ option_list rest)))

-- TParams? '(' Params ')' (':' Ret)?
unfoldable pub typed_signature : Value → Option Signature
typed_signature p =
    given (params_part_at p 0) (λ type_params.
    given (params_at p 1) (λ params.
    given (annotation_at p 2) (λ result. Some (type_params, params, result))))

-- ---- bodies
-- a block, or none before END
abbrev pub body_in : Value → Option (Option Stmt)
body_in (more (node from to m) vs) = option_map Some m.stmt
body_in _ = Some None

-- the token behind it, or behind what stands before it
abbrev pub behind_body : Value → ℕ → ℕ
behind_body (more (node from to m) vs) before = to
behind_body _ before = before
