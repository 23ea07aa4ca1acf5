-- Types where the text has other string literals in the places of some: each name and literal as its range says, and all
-- places move.
use Rattle.std.specs.Prelude.{option_map, map}
use Rattle.es_ast.specs.declared.ts.ts.Nodes.{Nodes}
use Rattle.es_ast.specs.declared.ts.ts.TsParamPat.{TsParamPat}
use Rattle.es_ast.specs.declared.ts.ts.TsParamPat.TheVariants as vTsParamPat
use Rattle.es_ast.specs.declared.ts.ts.TsPatProp.{TsPatProp}
use Rattle.es_ast.specs.declared.ts.ts.TsPatProp.TheVariants as vTsPatProp
use Rattle.es_ast.specs.declared.ts.ts.TsType.{TsType}
use Rattle.es_ast.specs.declared.ts.ts.TsType.TheVariants as vTsType
use Rattle.es_ast.specs.declared.ts.ts.TsTypeElement.{TsTypeElement}
use Rattle.es_ast.specs.declared.ts.ts.TsTypeElement.TheVariants as vTsTypeElement
use Rattle.es_ast.specs.declared.ts.ts.TsTypeParam.{TsTypeParam, roll-TsTypeParam}
use Rattle.es_ast.specs.declared.ts.ts.TsFnParam.{TsFnParam, roll-TsFnParam}
use Rattle.es_ast.specs.declared.ts.ts.TsTupleElement.{TsTupleElement, roll-TsTupleElement}
use Rattle.es_ast.specs.declared.ts.ts.TsExprWithTypeArgs.{TsExprWithTypeArgs}
use Rattle.es_ast.specs.declared.ts.ts.TsPart.{TsPart}
use Rattle.es_ast.specs.declared.ts.ts.TsPart.TheVariants as vTsPart
use Rattle.es_ast.specs.declared.ts.ts.TsParamPat.TheOpen.{TsParamPat-F, TsPatProp-F}
use Rattle.es_ast.specs.declared.ts.ts.TsParamPat.TheFolds.{fold-TsParamPat, fold-TsPatProp}
use Rattle.es_ast.specs.declared.ts.ts.TsType.TheOpen.{TsType-F, TsTypeElement-F, TsFnParam-F, TsTupleElement-F, TsTypeParam-F}
use Rattle.es_ast.specs.declared.ts.ts.TsType.TheFolds.{fold-TsType, fold-TsTypeElement, fold-TsFnParam, fold-TsTupleElement, fold-TsTypeParam}
use Rattle.es_law_edits.specs.moved.Move.{Move, range_to}
use Rattle.es_law_edits.specs.moved.Leaves.{ident_to, str_to, tpl_element_to, ts_this_type_or_ident_to, ts_entity_name_to, ts_key_to, ts_lit_to}

-- ---- nodes in brackets
abbrev pub nodes_to : {A : Type 0} → Move → (A → A) → Nodes A → Nodes A
nodes_to m f it = record { items = map f it.items; span = range_to m it.span }

-- the same of nodes that have moved
abbrev pub nodes_span : {A : Type 0} → Move → Nodes A → Nodes A
nodes_span m it = record { items = it.items; span = range_to m it.span }

-- a node of this kind, whose parts have moved
abbrev pub OfPattern : (Type 0 → Type 0 → Type 0) → Type 0
OfPattern K = K TsParamPat TsPatProp

abbrev pub in_ts_param_pat : Move → OfPattern TsParamPat-F → TsParamPat
in_ts_param_pat m (TsParamPat-F.Ident ident) = vTsParamPat.Ident (ident_to m ident)
in_ts_param_pat m (TsParamPat-F.This span) = vTsParamPat.This (range_to m span)
in_ts_param_pat m (TsParamPat-F.Array elems span) = vTsParamPat.Array elems (range_to m span)
in_ts_param_pat m (TsParamPat-F.Object props span) = vTsParamPat.Object props (range_to m span)
in_ts_param_pat m (TsParamPat-F.TsParamPat::Rest arg span) = vTsParamPat.Rest arg (range_to m span)
in_ts_param_pat m (TsParamPat-F.Hole span) = vTsParamPat.Hole (range_to m span)

abbrev pub in_ts_pat_prop : Move → OfPattern TsPatProp-F → TsPatProp
in_ts_pat_prop m (TsPatProp-F.TsPatProp::Rest arg span) = vTsPatProp.Rest arg (range_to m span)
in_ts_pat_prop m (TsPatProp-F.KeyValue key value span) = vTsPatProp.KeyValue (ts_key_to m key) value
    (range_to m span)
in_ts_pat_prop m (TsPatProp-F.Shorthand ident) = vTsPatProp.Shorthand (ident_to m ident)

unfoldable pub ts_param_pat_to : Move → TsParamPat → TsParamPat
ts_param_pat_to m =
    fold-TsParamPat TsParamPat TsPatProp
    (in_ts_param_pat m) (in_ts_pat_prop m)

unfoldable pub ts_pat_prop_to : Move → TsPatProp → TsPatProp
ts_pat_prop_to m =
    fold-TsPatProp TsParamPat TsPatProp
    (in_ts_param_pat m) (in_ts_pat_prop m)

-- a node of this kind, whose parts have moved
abbrev pub OfType : (Type 0 → Type 0 → Type 0 → Type 0 → Type 0 → Type 0) → Type 0
OfType K = K TsType TsTypeElement TsFnParam TsTupleElement TsTypeParam

abbrev pub in_ts_type : Move → OfType TsType-F → TsType
in_ts_type m (TsType-F.Keyword kind span) = vTsType.Keyword kind (range_to m span)
in_ts_type m (TsType-F.This span) = vTsType.This (range_to m span)
in_ts_type m (TsType-F.Lit ts_lit) = vTsType.Lit (ts_lit_to m ts_lit)
in_ts_type m (TsType-F.Tpl quasis types span) = vTsType.Tpl (map (tpl_element_to m) quasis) types (range_to m span)
in_ts_type m (TsType-F.Ref name type_params span) = vTsType.Ref (ts_entity_name_to m name)
    (option_map (nodes_span m) type_params) (range_to m span)
in_ts_type m (TsType-F.Query expr_name span) = vTsType.Query expr_name (range_to m span)
in_ts_type m (TsType-F.Import arg qualifier type_args span) = vTsType.Import (str_to m arg)
    (option_map (ts_entity_name_to m) qualifier) (option_map (nodes_span m) type_args) (range_to m span)
in_ts_type m (TsType-F.Paren type_ann span) = vTsType.Paren type_ann (range_to m span)
in_ts_type m (TsType-F.TypeLit members span) = vTsType.TypeLit members (range_to m span)
in_ts_type m (TsType-F.Tuple elems span) = vTsType.Tuple elems (range_to m span)
in_ts_type m (TsType-F.Mapped readonly name constraint name_type optional type_ann span) = vTsType.Mapped readonly
    (ident_to m name) constraint name_type optional type_ann (range_to m span)
in_ts_type m (TsType-F.Fn type_params params type_ann span) = vTsType.Fn (option_map (nodes_span m) type_params)
    params type_ann (range_to m span)
in_ts_type m (TsType-F.Constructor is_abstract type_params params type_ann span) = vTsType.Constructor is_abstract
    (option_map (nodes_span m) type_params) params type_ann (range_to m span)
in_ts_type m (TsType-F.Conditional check extends consequent alternate span) = vTsType.Conditional check extends
    consequent alternate (range_to m span)
in_ts_type m (TsType-F.Union types span) = vTsType.Union types (range_to m span)
in_ts_type m (TsType-F.Intersection types span) = vTsType.Intersection types (range_to m span)
in_ts_type m (TsType-F.Operator op type_ann span) = vTsType.Operator op type_ann (range_to m span)
in_ts_type m (TsType-F.Infer name span) = vTsType.Infer (ident_to m name) (range_to m span)
in_ts_type m (TsType-F.Array elem span) = vTsType.Array elem (range_to m span)
in_ts_type m (TsType-F.IndexedAccess obj index span) = vTsType.IndexedAccess obj index (range_to m span)
in_ts_type m (TsType-F.Predicate asserts name type_ann span) = vTsType.Predicate asserts
    (ts_this_type_or_ident_to m name) type_ann (range_to m span)

abbrev pub in_ts_type_element : Move → OfType TsTypeElement-F → TsTypeElement
in_ts_type_element m (TsTypeElement-F.CallSignature type_params params type_ann span) = vTsTypeElement.CallSignature
    (option_map (nodes_span m) type_params) params type_ann (range_to m span)
in_ts_type_element m (TsTypeElement-F.ConstructSignature type_params params type_ann
    span) = vTsTypeElement.ConstructSignature (option_map (nodes_span m) type_params) params type_ann
    (range_to m span)
in_ts_type_element m (TsTypeElement-F.IndexSignature readonly name of type_ann span) = vTsTypeElement.IndexSignature
    readonly (ident_to m name) of type_ann (range_to m span)
in_ts_type_element m (TsTypeElement-F.MethodSignature kind key optional type_params params type_ann
    span) = vTsTypeElement.MethodSignature kind (ts_key_to m key) optional (option_map (nodes_span m) type_params)
    params type_ann (range_to m span)
in_ts_type_element m (TsTypeElement-F.PropertySignature readonly key optional type_ann
    span) = vTsTypeElement.PropertySignature readonly (ts_key_to m key) optional type_ann (range_to m span)

abbrev pub in_ts_fn_param : Move → OfType TsFnParam-F → TsFnParam
in_ts_fn_param m it = roll-TsFnParam (record {
  rest = it.rest;
  pat = ts_param_pat_to m it.pat;
  optional = it.optional;
  type_ann = it.type_ann;
  span = range_to m it.span;
})

abbrev pub in_ts_tuple_element : Move → OfType TsTupleElement-F → TsTupleElement
in_ts_tuple_element m it = roll-TsTupleElement (record {
  rest = it.rest;
  label = option_map (ident_to m) it.label;
  ty = it.ty;
  optional = it.optional;
  span = range_to m it.span;
})

abbrev pub in_ts_type_param : Move → OfType TsTypeParam-F → TsTypeParam
in_ts_type_param m it = roll-TsTypeParam (record {
  is_const = it.is_const;
  is_in = it.is_in;
  is_out = it.is_out;
  name = ident_to m it.name;
  constraint = it.constraint;
  default = it.default;
  span = range_to m it.span;
})

unfoldable pub ts_type_to : Move → TsType → TsType
ts_type_to m =
    fold-TsType TsType TsTypeElement TsFnParam TsTupleElement TsTypeParam
    (in_ts_type m) (in_ts_type_element m) (in_ts_fn_param m) (in_ts_tuple_element m) (in_ts_type_param m)

unfoldable pub ts_type_element_to : Move → TsTypeElement → TsTypeElement
ts_type_element_to m =
    fold-TsTypeElement TsType TsTypeElement TsFnParam TsTupleElement TsTypeParam
    (in_ts_type m) (in_ts_type_element m) (in_ts_fn_param m) (in_ts_tuple_element m) (in_ts_type_param m)

unfoldable pub ts_fn_param_to : Move → TsFnParam → TsFnParam
ts_fn_param_to m =
    fold-TsFnParam TsType TsTypeElement TsFnParam TsTupleElement TsTypeParam
    (in_ts_type m) (in_ts_type_element m) (in_ts_fn_param m) (in_ts_tuple_element m) (in_ts_type_param m)

unfoldable pub ts_tuple_element_to : Move → TsTupleElement → TsTupleElement
ts_tuple_element_to m =
    fold-TsTupleElement TsType TsTypeElement TsFnParam TsTupleElement TsTypeParam
    (in_ts_type m) (in_ts_type_element m) (in_ts_fn_param m) (in_ts_tuple_element m) (in_ts_type_param m)

unfoldable pub ts_type_param_to : Move → TsTypeParam → TsTypeParam
ts_type_param_to m =
    fold-TsTypeParam TsType TsTypeElement TsFnParam TsTupleElement TsTypeParam
    (in_ts_type m) (in_ts_type_element m) (in_ts_fn_param m) (in_ts_tuple_element m) (in_ts_type_param m)

unfoldable pub ts_expr_with_type_args_to : Move → TsExprWithTypeArgs → TsExprWithTypeArgs
ts_expr_with_type_args_to m it = record {
  expr = ts_entity_name_to m it.expr;
  type_args = option_map (nodes_to m (ts_type_to m)) it.type_args;
  span = range_to m it.span;
}

unfoldable pub ts_part_to : Move → TsPart → TsPart
ts_part_to m (vTsPart.TypeAnn ts_type) = vTsPart.TypeAnn (ts_type_to m ts_type)
ts_part_to m (vTsPart.TypeParams nodes) = vTsPart.TypeParams (nodes_to m (ts_type_param_to m) nodes)
ts_part_to m (vTsPart.TypeArgs nodes) = vTsPart.TypeArgs (nodes_to m (ts_type_to m) nodes)
ts_part_to m (vTsPart.Heritage items) = vTsPart.Heritage (map (ts_expr_with_type_args_to m) items)
ts_part_to m (vTsPart.Members items) = vTsPart.Members (map (ts_type_element_to m) items)
