-- Each form of types moves as its parts do.
use Rattle.std.specs.Prelude.{Bool, List, Option, Some, None, option_map, map}
use Rattle.std.proofs.Common.{◌≡◌, sym, ap, ◌∙◌}
use Rattle.base.specs.declared.range.Range.{Range}
use Rattle.es_ast.specs.declared.ts.leaf.Ident.{Ident}
use Rattle.es_ast.specs.declared.ts.leaf.Str.{Str}
use Rattle.es_ast.specs.declared.ts.leaf.TplElement.{TplElement}
use Rattle.es_ast.specs.declared.ts.leaf.TsThisTypeOrIdent.{TsThisTypeOrIdent}
use Rattle.es_ast.specs.declared.ts.leaf.TsEntityName.{TsEntityName}
use Rattle.es_ast.specs.declared.ts.leaf.TsKey.{TsKey}
use Rattle.es_ast.specs.declared.ts.leaf.TsLit.{TsLit}
use Rattle.es_ast.specs.declared.ts.leaf.TsKeywordTypeKind.{TsKeywordTypeKind}
use Rattle.es_ast.specs.declared.ts.leaf.TsTypeOperatorOp.{TsTypeOperatorOp}
use Rattle.es_ast.specs.declared.ts.leaf.TruePlusMinus.{TruePlusMinus}
use Rattle.es_ast.specs.declared.ts.leaf.MethodKind.{MethodKind}
use Rattle.es_ast.specs.declared.ts.ts.Nodes.{Nodes}
use Rattle.es_ast.specs.declared.ts.ts.TsParamPat.{TsParamPat, roll-TsParamPat, map-TsParamPat}
use Rattle.es_ast.specs.declared.ts.ts.TsParamPat.TheVariants as vTsParamPat
use Rattle.es_ast.specs.declared.ts.ts.TsPatProp.{TsPatProp, roll-TsPatProp, map-TsPatProp}
use Rattle.es_ast.specs.declared.ts.ts.TsPatProp.TheVariants as vTsPatProp
use Rattle.es_ast.specs.declared.ts.ts.TsType.{TsType, roll-TsType, map-TsType}
use Rattle.es_ast.specs.declared.ts.ts.TsType.TheVariants as vTsType
use Rattle.es_ast.specs.declared.ts.ts.TsTypeElement.{TsTypeElement, roll-TsTypeElement, map-TsTypeElement}
use Rattle.es_ast.specs.declared.ts.ts.TsTypeElement.TheVariants as vTsTypeElement
use Rattle.es_ast.specs.declared.ts.ts.TsTypeParam.{TsTypeParam, roll-TsTypeParam, map-TsTypeParam}
use Rattle.es_ast.specs.declared.ts.ts.TsFnParam.{TsFnParam, roll-TsFnParam, map-TsFnParam}
use Rattle.es_ast.specs.declared.ts.ts.TsTupleElement.{TsTupleElement, roll-TsTupleElement, map-TsTupleElement}
use Rattle.es_ast.specs.declared.ts.ts.TsExprWithTypeArgs.{TsExprWithTypeArgs}
use Rattle.es_ast.specs.declared.ts.ts.TsPart.TheVariants as vTsPart
use Rattle.es_ast.specs.declared.ts.ts.TsParamPat.TheOpen.{TsParamPat-F, TsPatProp-F}
use Rattle.es_ast.specs.declared.ts.ts.TsParamPat.TheFolds.{fold-roll-TsParamPat, fold-roll-TsPatProp}
use Rattle.es_ast.specs.declared.ts.ts.TsType.TheOpen.{TsType-F, TsTypeElement-F, TsFnParam-F, TsTupleElement-F, TsTypeParam-F}
use Rattle.es_ast.specs.declared.ts.ts.TsType.TheFolds.{fold-roll-TsType, fold-roll-TsTypeElement, fold-roll-TsFnParam, fold-roll-TsTupleElement, fold-roll-TsTypeParam}
use Rattle.es_law_edits.specs.moved.Move.{Move, range_to}
use Rattle.es_law_edits.specs.moved.Leaves.{ident_to, str_to, tpl_element_to, ts_this_type_or_ident_to, ts_entity_name_to, ts_key_to, ts_lit_to}
use Rattle.es_law_edits.specs.moved.Types.{nodes_to, OfPattern, in_ts_param_pat, in_ts_pat_prop, OfType, in_ts_type, in_ts_type_element, in_ts_fn_param, in_ts_tuple_element, in_ts_type_param, ts_param_pat_to, ts_pat_prop_to, ts_type_to, ts_type_element_to, ts_type_param_to, ts_fn_param_to, ts_tuple_element_to, ts_expr_with_type_args_to, ts_part_to}
use Rattle.es_law_edits.proofs.moved.Rel.{By, Opt, Each, opt_is, each_is}
use Rattle.es_law_edits.proofs.moved.Same.{same1, same2, same3, same4, same5, same7}

pub nodes_made : {A : Type 0} (m : Move) (f : A → A) {items items2 : List A} {span span2 : Range}
    → Each (By f) items items2 → By (range_to m) span span2
    → By (nodes_to m f) (record { items = items; span = span }) (record { items = items2; span = span2 })
nodes_made {A = A} m f h0 h1 =
    let make : List A → Range → Nodes A = λ items span. record { items = items; span = span } in
    record { is = same2 make (each_is h0) h1.is }

at_ts_param_pat : (m : Move) (it : OfPattern TsParamPat-F) → ts_param_pat_to m (roll-TsParamPat it) ≡
    in_ts_param_pat m (map-TsParamPat TsParamPat TsPatProp TsParamPat TsPatProp (ts_param_pat_to m)
    (ts_pat_prop_to m) it)
unfolding ts_param_pat_to ts_pat_prop_to
at_ts_param_pat m it = fold-roll-TsParamPat TsParamPat TsPatProp (in_ts_param_pat m) (in_ts_pat_prop m) it

pub ts_param_pat_Ident : (m : Move) {ident ident2 : Ident} → By (ident_to m) ident ident2
    → By (ts_param_pat_to m) (vTsParamPat.Ident ident) (vTsParamPat.Ident ident2)
ts_param_pat_Ident m {ident = ident} h0 =
    record {
      is = same1 vTsParamPat.Ident h0.is ∙ sym (ap (ts_param_pat_to m) (sym (vTsParamPat.rolls-Ident ident))
          ∙ at_ts_param_pat m (TsParamPat-F.Ident ident));
    }

pub ts_param_pat_This : (m : Move) {span span2 : Range} → By (range_to m) span span2
    → By (ts_param_pat_to m) (vTsParamPat.This span) (vTsParamPat.This span2)
ts_param_pat_This m {span = span} h0 =
    record {
      is = same1 vTsParamPat.This h0.is ∙ sym (ap (ts_param_pat_to m) (sym (vTsParamPat.rolls-This span)) ∙
          at_ts_param_pat m (TsParamPat-F.This span));
    }

pub ts_param_pat_Array : (m : Move) {elems elems2 : List TsParamPat} {span span2 : Range}
    → Each (By (ts_param_pat_to m)) elems elems2 → By (range_to m) span span2
    → By (ts_param_pat_to m) (vTsParamPat.Array elems span) (vTsParamPat.Array elems2 span2)
ts_param_pat_Array m {elems = elems} {span = span} h0 h1 =
    record {
      is = same2 vTsParamPat.Array (each_is h0) h1.is ∙ sym
          (ap (ts_param_pat_to m) (sym (vTsParamPat.rolls-Array elems span)) ∙ at_ts_param_pat m
          (TsParamPat-F.Array elems span));
    }

pub ts_param_pat_Object : (m : Move) {props props2 : List TsPatProp} {span span2 : Range}
    → Each (By (ts_pat_prop_to m)) props props2 → By (range_to m) span span2
    → By (ts_param_pat_to m) (vTsParamPat.Object props span) (vTsParamPat.Object props2 span2)
ts_param_pat_Object m {props = props} {span = span} h0 h1 =
    record {
      is = same2 vTsParamPat.Object (each_is h0) h1.is ∙ sym
          (ap (ts_param_pat_to m) (sym (vTsParamPat.rolls-Object props span)) ∙ at_ts_param_pat m
          (TsParamPat-F.Object props span));
    }

pub ts_param_pat_Rest : (m : Move) {arg arg2 : TsParamPat} {span span2 : Range} → By (ts_param_pat_to m) arg arg2
    → By (range_to m) span span2 → By (ts_param_pat_to m) (vTsParamPat.Rest arg span) (vTsParamPat.Rest arg2 span2)
ts_param_pat_Rest m {arg = arg} {span = span} h0 h1 =
    record {
      is = same2 vTsParamPat.Rest h0.is h1.is ∙ sym (ap (ts_param_pat_to m)
          (sym (vTsParamPat.rolls-Rest arg span)) ∙ at_ts_param_pat m (TsParamPat-F.TsParamPat::Rest arg span));
    }

pub ts_param_pat_Hole : (m : Move) {span span2 : Range} → By (range_to m) span span2
    → By (ts_param_pat_to m) (vTsParamPat.Hole span) (vTsParamPat.Hole span2)
ts_param_pat_Hole m {span = span} h0 =
    record {
      is = same1 vTsParamPat.Hole h0.is ∙ sym (ap (ts_param_pat_to m) (sym (vTsParamPat.rolls-Hole span)) ∙
          at_ts_param_pat m (TsParamPat-F.Hole span));
    }

at_ts_pat_prop : (m : Move) (it : OfPattern TsPatProp-F) → ts_pat_prop_to m (roll-TsPatProp it) ≡ in_ts_pat_prop m
    (map-TsPatProp TsParamPat TsPatProp TsParamPat TsPatProp (ts_param_pat_to m) (ts_pat_prop_to m) it)
unfolding ts_param_pat_to ts_pat_prop_to
at_ts_pat_prop m it = fold-roll-TsPatProp TsParamPat TsPatProp (in_ts_param_pat m) (in_ts_pat_prop m) it

pub ts_pat_prop_Rest : (m : Move) {arg arg2 : TsParamPat} {span span2 : Range} → By (ts_param_pat_to m) arg arg2
    → By (range_to m) span span2 → By (ts_pat_prop_to m) (vTsPatProp.Rest arg span) (vTsPatProp.Rest arg2 span2)
ts_pat_prop_Rest m {arg = arg} {span = span} h0 h1 =
    record {
      is = same2 vTsPatProp.Rest h0.is h1.is ∙ sym (ap (ts_pat_prop_to m)
          (sym (vTsPatProp.rolls-Rest arg span)) ∙ at_ts_pat_prop m (TsPatProp-F.TsPatProp::Rest arg span));
    }

pub ts_pat_prop_KeyValue : (m : Move) {key key2 : TsKey} {value value2 : TsParamPat} {span span2 : Range}
    → By (ts_key_to m) key key2 → By (ts_param_pat_to m) value value2 → By (range_to m) span span2
    → By (ts_pat_prop_to m) (vTsPatProp.KeyValue key value span) (vTsPatProp.KeyValue key2 value2 span2)
ts_pat_prop_KeyValue m {key = key} {value = value} {span = span} h0 h1 h2 =
    record {
      is = same3 vTsPatProp.KeyValue h0.is h1.is h2.is ∙ sym
          (ap (ts_pat_prop_to m) (sym (vTsPatProp.rolls-KeyValue key value span)) ∙ at_ts_pat_prop m
          (TsPatProp-F.KeyValue key value span));
    }

pub ts_pat_prop_Shorthand : (m : Move) {ident ident2 : Ident} → By (ident_to m) ident ident2
    → By (ts_pat_prop_to m) (vTsPatProp.Shorthand ident) (vTsPatProp.Shorthand ident2)
ts_pat_prop_Shorthand m {ident = ident} h0 =
    record {
      is = same1 vTsPatProp.Shorthand h0.is ∙ sym (ap (ts_pat_prop_to m)
          (sym (vTsPatProp.rolls-Shorthand ident)) ∙ at_ts_pat_prop m (TsPatProp-F.Shorthand ident));
    }

at_ts_type : (m : Move) (it : OfType TsType-F) → ts_type_to m (roll-TsType it) ≡ in_ts_type m
    (map-TsType TsType TsTypeElement TsFnParam TsTupleElement TsTypeParam TsType TsTypeElement TsFnParam
    TsTupleElement TsTypeParam (ts_type_to m) (ts_type_element_to m) (ts_fn_param_to m) (ts_tuple_element_to m)
    (ts_type_param_to m) it)
unfolding ts_type_to ts_type_element_to ts_fn_param_to ts_tuple_element_to ts_type_param_to
at_ts_type m it = fold-roll-TsType TsType TsTypeElement TsFnParam TsTupleElement TsTypeParam (in_ts_type m)
    (in_ts_type_element m) (in_ts_fn_param m) (in_ts_tuple_element m) (in_ts_type_param m) it

pub ts_type_Keyword : (m : Move) {kind kind2 : TsKeywordTypeKind} {span span2 : Range} → kind2 ≡ kind
    → By (range_to m) span span2 → By (ts_type_to m) (vTsType.Keyword kind span) (vTsType.Keyword kind2 span2)
ts_type_Keyword m {kind = kind} {span = span} h0 h1 =
    record {
      is = same2 vTsType.Keyword h0 h1.is ∙ sym (ap (ts_type_to m) (sym (vTsType.rolls-Keyword kind span)) ∙
          at_ts_type m (TsType-F.Keyword kind span));
    }

pub ts_type_This : (m : Move) {span span2 : Range} → By (range_to m) span span2
    → By (ts_type_to m) (vTsType.This span) (vTsType.This span2)
ts_type_This m {span = span} h0 =
    record {
      is = same1 vTsType.This h0.is ∙ sym (ap (ts_type_to m) (sym (vTsType.rolls-This span)) ∙ at_ts_type m
          (TsType-F.This span));
    }

pub ts_type_Lit : (m : Move) {ts_lit ts_lit2 : TsLit} → By (ts_lit_to m) ts_lit ts_lit2
    → By (ts_type_to m) (vTsType.Lit ts_lit) (vTsType.Lit ts_lit2)
ts_type_Lit m {ts_lit = ts_lit} h0 =
    record {
      is = same1 vTsType.Lit h0.is ∙ sym (ap (ts_type_to m) (sym (vTsType.rolls-Lit ts_lit)) ∙ at_ts_type m
          (TsType-F.Lit ts_lit));
    }

pub ts_type_Tpl : (m : Move) {quasis quasis2 : List TplElement} {types types2 : List TsType} {span span2 : Range}
    → Each (By (tpl_element_to m)) quasis quasis2 → Each (By (ts_type_to m)) types types2
    → By (range_to m) span span2 → By (ts_type_to m) (vTsType.Tpl quasis types span)
    (vTsType.Tpl quasis2 types2 span2)
ts_type_Tpl m {quasis = quasis} {types = types} {span = span} h0 h1 h2 =
    record {
      is = same3 vTsType.Tpl (each_is h0) (each_is h1) h2.is ∙ sym
          (ap (ts_type_to m) (sym (vTsType.rolls-Tpl quasis types span))
          ∙ at_ts_type m (TsType-F.Tpl quasis types span));
    }

ts_type_Ref_is : (m : Move) (name : TsEntityName) (type_params : Option (Nodes TsType)) (span : Range)
    → ts_type_to m (vTsType.Ref name type_params span) ≡ vTsType.Ref (ts_entity_name_to m name)
    (option_map (nodes_to m (ts_type_to m)) type_params) (range_to m span)
ts_type_Ref_is m name None span =
    ap (ts_type_to m) (sym (vTsType.rolls-Ref name None span)) ∙ at_ts_type m (TsType-F.Ref name None span)
ts_type_Ref_is m name (Some type_params) span =
    ap (ts_type_to m) (sym (vTsType.rolls-Ref name (Some type_params) span)) ∙ at_ts_type m
    (TsType-F.Ref name (Some type_params) span)

pub ts_type_Ref : (m : Move) {name name2 : TsEntityName} {type_params type_params2 : Option (Nodes TsType)}
    {span span2 : Range} → By (ts_entity_name_to m) name name2
    → Opt (By (nodes_to m (ts_type_to m))) type_params type_params2 → By (range_to m) span span2
    → By (ts_type_to m) (vTsType.Ref name type_params span) (vTsType.Ref name2 type_params2 span2)
ts_type_Ref m {name = name} {type_params = type_params} {span = span} h0 h1 h2 =
    record { is = same3 vTsType.Ref h0.is (opt_is h1) h2.is ∙ sym (ts_type_Ref_is m name type_params span) }

pub ts_type_Query : (m : Move) {expr_name expr_name2 : TsType} {span span2 : Range}
    → By (ts_type_to m) expr_name expr_name2 → By (range_to m) span span2
    → By (ts_type_to m) (vTsType.Query expr_name span) (vTsType.Query expr_name2 span2)
ts_type_Query m {expr_name = expr_name} {span = span} h0 h1 =
    record {
      is = same2 vTsType.Query h0.is h1.is ∙ sym (ap (ts_type_to m)
          (sym (vTsType.rolls-Query expr_name span)) ∙ at_ts_type m (TsType-F.Query expr_name span));
    }

ts_type_Import_is : (m : Move) (arg : Str) (qualifier : Option TsEntityName) (type_args : Option (Nodes TsType))
    (span : Range) → ts_type_to m (vTsType.Import arg qualifier type_args span) ≡ vTsType.Import (str_to m arg)
    (option_map (ts_entity_name_to m) qualifier) (option_map (nodes_to m (ts_type_to m)) type_args)
    (range_to m span)
ts_type_Import_is m arg qualifier None span =
    ap (ts_type_to m) (sym (vTsType.rolls-Import arg qualifier None span)) ∙ at_ts_type m
    (TsType-F.Import arg qualifier None span)
ts_type_Import_is m arg qualifier (Some type_args) span =
    ap (ts_type_to m) (sym (vTsType.rolls-Import arg qualifier (Some type_args) span)) ∙ at_ts_type m
    (TsType-F.Import arg qualifier (Some type_args) span)

pub ts_type_Import : (m : Move) {arg arg2 : Str} {qualifier qualifier2 : Option TsEntityName}
    {type_args type_args2 : Option (Nodes TsType)} {span span2 : Range} → By (str_to m) arg arg2
    → Opt (By (ts_entity_name_to m)) qualifier qualifier2 → Opt (By (nodes_to m (ts_type_to m))) type_args
    type_args2 → By (range_to m) span span2 → By (ts_type_to m) (vTsType.Import arg qualifier type_args span)
    (vTsType.Import arg2 qualifier2 type_args2 span2)
ts_type_Import m {arg = arg} {qualifier = qualifier} {type_args = type_args} {span = span} h0 h1 h2 h3 =
    record {
      is = same4 vTsType.Import h0.is (opt_is h1) (opt_is h2) h3.is ∙ sym
          (ts_type_Import_is m arg qualifier type_args span);
    }

pub ts_type_Paren : (m : Move) {type_ann type_ann2 : TsType} {span span2 : Range}
    → By (ts_type_to m) type_ann type_ann2 → By (range_to m) span span2
    → By (ts_type_to m) (vTsType.Paren type_ann span) (vTsType.Paren type_ann2 span2)
ts_type_Paren m {type_ann = type_ann} {span = span} h0 h1 =
    record {
      is = same2 vTsType.Paren h0.is h1.is ∙ sym (ap (ts_type_to m) (sym (vTsType.rolls-Paren type_ann span))
          ∙ at_ts_type m (TsType-F.Paren type_ann span));
    }

pub ts_type_TypeLit : (m : Move) {members members2 : List TsTypeElement} {span span2 : Range}
    → Each (By (ts_type_element_to m)) members members2 → By (range_to m) span span2
    → By (ts_type_to m) (vTsType.TypeLit members span) (vTsType.TypeLit members2 span2)
ts_type_TypeLit m {members = members} {span = span} h0 h1 =
    record {
      is = same2 vTsType.TypeLit (each_is h0) h1.is ∙ sym
          (ap (ts_type_to m) (sym (vTsType.rolls-TypeLit members span)) ∙ at_ts_type m (TsType-F.TypeLit members span));
    }

pub ts_type_Tuple : (m : Move) {elems elems2 : List TsTupleElement} {span span2 : Range}
    → Each (By (ts_tuple_element_to m)) elems elems2 → By (range_to m) span span2
    → By (ts_type_to m) (vTsType.Tuple elems span) (vTsType.Tuple elems2 span2)
ts_type_Tuple m {elems = elems} {span = span} h0 h1 =
    record {
      is = same2 vTsType.Tuple (each_is h0) h1.is ∙ sym
          (ap (ts_type_to m) (sym (vTsType.rolls-Tuple elems span)) ∙ at_ts_type m (TsType-F.Tuple elems span));
    }

ts_type_Mapped_is : (m : Move) (readonly : TruePlusMinus) (name : Ident) (constraint : TsType)
    (name_type : Option TsType) (optional : TruePlusMinus) (type_ann : Option TsType) (span : Range)
    → ts_type_to m (vTsType.Mapped readonly name constraint name_type optional type_ann span) ≡ vTsType.Mapped
    readonly (ident_to m name) (ts_type_to m constraint) (option_map (ts_type_to m) name_type) optional
    (option_map (ts_type_to m) type_ann) (range_to m span)
ts_type_Mapped_is m readonly name constraint None optional None span =
    ap (ts_type_to m) (sym (vTsType.rolls-Mapped readonly name constraint None optional None span)) ∙ at_ts_type m
    (TsType-F.Mapped readonly name constraint None optional None span)
ts_type_Mapped_is m readonly name constraint None optional (Some type_ann) span =
    ap (ts_type_to m) (sym (vTsType.rolls-Mapped readonly name constraint None optional (Some type_ann) span)) ∙
    at_ts_type m (TsType-F.Mapped readonly name constraint None optional (Some type_ann) span)
ts_type_Mapped_is m readonly name constraint (Some name_type) optional None span =
    ap (ts_type_to m) (sym (vTsType.rolls-Mapped readonly name constraint (Some name_type) optional None span)) ∙
    at_ts_type m (TsType-F.Mapped readonly name constraint (Some name_type) optional None span)
ts_type_Mapped_is m readonly name constraint (Some name_type) optional (Some type_ann) span =
    ap (ts_type_to m) (sym (vTsType.rolls-Mapped readonly name constraint (Some name_type) optional (Some type_ann)
    span)) ∙ at_ts_type m (TsType-F.Mapped readonly name constraint (Some name_type) optional (Some type_ann) span)

pub ts_type_Mapped : (m : Move) {readonly readonly2 : TruePlusMinus} {name name2 : Ident}
    {constraint constraint2 : TsType} {name_type name_type2 : Option TsType} {optional optional2 : TruePlusMinus}
    {type_ann type_ann2 : Option TsType} {span span2 : Range} → readonly2 ≡ readonly → By (ident_to m) name name2
    → By (ts_type_to m) constraint constraint2 → Opt (By (ts_type_to m)) name_type name_type2 → optional2 ≡ optional
    → Opt (By (ts_type_to m)) type_ann type_ann2 → By (range_to m) span span2
    → By (ts_type_to m) (vTsType.Mapped readonly name constraint name_type optional type_ann span)
    (vTsType.Mapped readonly2 name2 constraint2 name_type2 optional2 type_ann2 span2)
ts_type_Mapped m {readonly = readonly} {name = name} {constraint = constraint} {name_type = name_type}
    {optional = optional} {type_ann = type_ann} {span = span} h0 h1 h2 h3 h4 h5 h6 =
    record {
      is = same7 vTsType.Mapped h0 h1.is h2.is (opt_is h3) h4 (opt_is h5) h6.is ∙ sym
          (ts_type_Mapped_is m readonly name constraint name_type optional type_ann span);
    }

ts_type_Fn_is : (m : Move) (type_params : Option (Nodes TsTypeParam)) (params : List TsFnParam) (type_ann : TsType)
    (span : Range) → ts_type_to m (vTsType.Fn type_params params type_ann span) ≡ vTsType.Fn
    (option_map (nodes_to m (ts_type_param_to m)) type_params) (map (ts_fn_param_to m) params)
    (ts_type_to m type_ann) (range_to m span)
ts_type_Fn_is m None params type_ann span =
    ap (ts_type_to m) (sym (vTsType.rolls-Fn None params type_ann span)) ∙ at_ts_type m
    (TsType-F.Fn None params type_ann span)
ts_type_Fn_is m (Some type_params) params type_ann span =
    ap (ts_type_to m) (sym (vTsType.rolls-Fn (Some type_params) params type_ann span)) ∙ at_ts_type m
    (TsType-F.Fn (Some type_params) params type_ann span)

pub ts_type_Fn : (m : Move) {type_params type_params2 : Option (Nodes TsTypeParam)}
    {params params2 : List TsFnParam} {type_ann type_ann2 : TsType} {span span2 : Range}
    → Opt (By (nodes_to m (ts_type_param_to m))) type_params type_params2
    → Each (By (ts_fn_param_to m)) params params2 → By (ts_type_to m) type_ann type_ann2
    → By (range_to m) span span2 → By (ts_type_to m) (vTsType.Fn type_params params type_ann span)
    (vTsType.Fn type_params2 params2 type_ann2 span2)
ts_type_Fn m {type_params = type_params} {params = params} {type_ann = type_ann} {span = span} h0 h1 h2 h3 =
    record {
      is = same4 vTsType.Fn (opt_is h0) (each_is h1) h2.is h3.is ∙ sym
          (ts_type_Fn_is m type_params params type_ann span);
    }

ts_type_Constructor_is : (m : Move) (is_abstract : Bool) (type_params : Option (Nodes TsTypeParam))
    (params : List TsFnParam) (type_ann : TsType) (span : Range)
    → ts_type_to m (vTsType.Constructor is_abstract type_params params type_ann span) ≡ vTsType.Constructor
    is_abstract (option_map (nodes_to m (ts_type_param_to m)) type_params) (map (ts_fn_param_to m) params)
    (ts_type_to m type_ann) (range_to m span)
ts_type_Constructor_is m is_abstract None params type_ann span =
    ap (ts_type_to m) (sym (vTsType.rolls-Constructor is_abstract None params type_ann span)) ∙ at_ts_type m
    (TsType-F.Constructor is_abstract None params type_ann span)
ts_type_Constructor_is m is_abstract (Some type_params) params type_ann span =
    ap (ts_type_to m) (sym (vTsType.rolls-Constructor is_abstract (Some type_params) params type_ann span)) ∙
    at_ts_type m (TsType-F.Constructor is_abstract (Some type_params) params type_ann span)

pub ts_type_Constructor : (m : Move) {is_abstract is_abstract2 : Bool}
    {type_params type_params2 : Option (Nodes TsTypeParam)} {params params2 : List TsFnParam}
    {type_ann type_ann2 : TsType} {span span2 : Range} → is_abstract2 ≡ is_abstract
    → Opt (By (nodes_to m (ts_type_param_to m))) type_params type_params2
    → Each (By (ts_fn_param_to m)) params params2 → By (ts_type_to m) type_ann type_ann2
    → By (range_to m) span span2 → By (ts_type_to m) (vTsType.Constructor is_abstract type_params params type_ann
    span) (vTsType.Constructor is_abstract2 type_params2 params2 type_ann2 span2)
ts_type_Constructor m {is_abstract = is_abstract} {type_params = type_params} {params = params}
    {type_ann = type_ann} {span = span} h0 h1 h2 h3 h4 =
    record {
      is = same5 vTsType.Constructor h0 (opt_is h1) (each_is h2) h3.is h4.is ∙ sym
          (ts_type_Constructor_is m is_abstract type_params params type_ann span);
    }

pub ts_type_Conditional : (m : Move) {check check2 : TsType} {extends extends2 : TsType}
    {consequent consequent2 : TsType} {alternate alternate2 : TsType} {span span2 : Range}
    → By (ts_type_to m) check check2 → By (ts_type_to m) extends extends2 → By (ts_type_to m) consequent consequent2
    → By (ts_type_to m) alternate alternate2 → By (range_to m) span span2
    → By (ts_type_to m) (vTsType.Conditional check extends consequent alternate span)
    (vTsType.Conditional check2 extends2 consequent2 alternate2 span2)
ts_type_Conditional m {check = check} {extends = extends} {consequent = consequent} {alternate = alternate}
    {span = span} h0 h1 h2 h3 h4 =
    record {
      is = same5 vTsType.Conditional h0.is h1.is h2.is h3.is h4.is ∙ sym
          (ap (ts_type_to m) (sym (vTsType.rolls-Conditional check extends consequent alternate span)) ∙ at_ts_type m
          (TsType-F.Conditional check extends consequent alternate span));
    }

pub ts_type_Union : (m : Move) {types types2 : List TsType} {span span2 : Range}
    → Each (By (ts_type_to m)) types types2 → By (range_to m) span span2
    → By (ts_type_to m) (vTsType.Union types span) (vTsType.Union types2 span2)
ts_type_Union m {types = types} {span = span} h0 h1 =
    record {
      is = same2 vTsType.Union (each_is h0) h1.is ∙ sym
          (ap (ts_type_to m) (sym (vTsType.rolls-Union types span)) ∙ at_ts_type m (TsType-F.Union types span));
    }

pub ts_type_Intersection : (m : Move) {types types2 : List TsType} {span span2 : Range}
    → Each (By (ts_type_to m)) types types2 → By (range_to m) span span2
    → By (ts_type_to m) (vTsType.Intersection types span) (vTsType.Intersection types2 span2)
ts_type_Intersection m {types = types} {span = span} h0 h1 =
    record {
      is = same2 vTsType.Intersection (each_is h0) h1.is ∙ sym
          (ap (ts_type_to m) (sym (vTsType.rolls-Intersection types span)) ∙ at_ts_type m
          (TsType-F.Intersection types span));
    }

pub ts_type_Operator : (m : Move) {op op2 : TsTypeOperatorOp} {type_ann type_ann2 : TsType} {span span2 : Range}
    → op2 ≡ op → By (ts_type_to m) type_ann type_ann2 → By (range_to m) span span2
    → By (ts_type_to m) (vTsType.Operator op type_ann span) (vTsType.Operator op2 type_ann2 span2)
ts_type_Operator m {op = op} {type_ann = type_ann} {span = span} h0 h1 h2 =
    record {
      is = same3 vTsType.Operator h0 h1.is h2.is ∙ sym
          (ap (ts_type_to m) (sym (vTsType.rolls-Operator op type_ann span)) ∙ at_ts_type m
          (TsType-F.Operator op type_ann span));
    }

pub ts_type_Infer : (m : Move) {name name2 : Ident} {span span2 : Range} → By (ident_to m) name name2
    → By (range_to m) span span2 → By (ts_type_to m) (vTsType.Infer name span) (vTsType.Infer name2 span2)
ts_type_Infer m {name = name} {span = span} h0 h1 =
    record {
      is = same2 vTsType.Infer h0.is h1.is ∙ sym (ap (ts_type_to m) (sym (vTsType.rolls-Infer name span)) ∙
          at_ts_type m (TsType-F.Infer name span));
    }

pub ts_type_Array : (m : Move) {elem elem2 : TsType} {span span2 : Range} → By (ts_type_to m) elem elem2
    → By (range_to m) span span2 → By (ts_type_to m) (vTsType.Array elem span) (vTsType.Array elem2 span2)
ts_type_Array m {elem = elem} {span = span} h0 h1 =
    record {
      is = same2 vTsType.Array h0.is h1.is ∙ sym (ap (ts_type_to m) (sym (vTsType.rolls-Array elem span)) ∙
          at_ts_type m (TsType-F.Array elem span));
    }

pub ts_type_IndexedAccess : (m : Move) {obj obj2 : TsType} {index index2 : TsType} {span span2 : Range}
    → By (ts_type_to m) obj obj2 → By (ts_type_to m) index index2 → By (range_to m) span span2
    → By (ts_type_to m) (vTsType.IndexedAccess obj index span) (vTsType.IndexedAccess obj2 index2 span2)
ts_type_IndexedAccess m {obj = obj} {index = index} {span = span} h0 h1 h2 =
    record {
      is = same3 vTsType.IndexedAccess h0.is h1.is h2.is ∙ sym
          (ap (ts_type_to m) (sym (vTsType.rolls-IndexedAccess obj index span)) ∙ at_ts_type m
          (TsType-F.IndexedAccess obj index span));
    }

ts_type_Predicate_is : (m : Move) (asserts : Bool) (name : TsThisTypeOrIdent) (type_ann : Option TsType)
    (span : Range) → ts_type_to m (vTsType.Predicate asserts name type_ann span) ≡ vTsType.Predicate asserts
    (ts_this_type_or_ident_to m name) (option_map (ts_type_to m) type_ann) (range_to m span)
ts_type_Predicate_is m asserts name None span =
    ap (ts_type_to m) (sym (vTsType.rolls-Predicate asserts name None span)) ∙ at_ts_type m
    (TsType-F.Predicate asserts name None span)
ts_type_Predicate_is m asserts name (Some type_ann) span =
    ap (ts_type_to m) (sym (vTsType.rolls-Predicate asserts name (Some type_ann) span)) ∙ at_ts_type m
    (TsType-F.Predicate asserts name (Some type_ann) span)

pub ts_type_Predicate : (m : Move) {asserts asserts2 : Bool} {name name2 : TsThisTypeOrIdent}
    {type_ann type_ann2 : Option TsType} {span span2 : Range} → asserts2 ≡ asserts
    → By (ts_this_type_or_ident_to m) name name2 → Opt (By (ts_type_to m)) type_ann type_ann2
    → By (range_to m) span span2 → By (ts_type_to m) (vTsType.Predicate asserts name type_ann span)
    (vTsType.Predicate asserts2 name2 type_ann2 span2)
ts_type_Predicate m {asserts = asserts} {name = name} {type_ann = type_ann} {span = span} h0 h1 h2 h3 =
    record {
      is = same4 vTsType.Predicate h0 h1.is (opt_is h2) h3.is ∙ sym
          (ts_type_Predicate_is m asserts name type_ann span);
    }

at_ts_type_element : (m : Move) (it : OfType TsTypeElement-F)
    → ts_type_element_to m (roll-TsTypeElement it) ≡ in_ts_type_element m
    (map-TsTypeElement TsType TsTypeElement TsFnParam TsTupleElement TsTypeParam TsType TsTypeElement TsFnParam
    TsTupleElement TsTypeParam (ts_type_to m) (ts_type_element_to m) (ts_fn_param_to m) (ts_tuple_element_to m)
    (ts_type_param_to m) it)
unfolding ts_type_to ts_type_element_to ts_fn_param_to ts_tuple_element_to ts_type_param_to
at_ts_type_element m it = fold-roll-TsTypeElement TsType TsTypeElement TsFnParam TsTupleElement TsTypeParam
    (in_ts_type m) (in_ts_type_element m) (in_ts_fn_param m) (in_ts_tuple_element m) (in_ts_type_param m) it

ts_type_element_CallSignature_is : (m : Move) (type_params : Option (Nodes TsTypeParam)) (params : List TsFnParam)
    (type_ann : Option TsType) (span : Range) → ts_type_element_to m
    (vTsTypeElement.CallSignature type_params params type_ann span) ≡ vTsTypeElement.CallSignature
    (option_map (nodes_to m (ts_type_param_to m)) type_params) (map (ts_fn_param_to m) params)
    (option_map (ts_type_to m) type_ann) (range_to m span)
ts_type_element_CallSignature_is m None params None span =
    ap (ts_type_element_to m) (sym (vTsTypeElement.rolls-CallSignature None params None span)) ∙ at_ts_type_element
    m (TsTypeElement-F.CallSignature None params None span)
ts_type_element_CallSignature_is m None params (Some type_ann) span =
    ap (ts_type_element_to m) (sym (vTsTypeElement.rolls-CallSignature None params (Some type_ann) span)) ∙
    at_ts_type_element m (TsTypeElement-F.CallSignature None params (Some type_ann) span)
ts_type_element_CallSignature_is m (Some type_params) params None span =
    ap (ts_type_element_to m) (sym (vTsTypeElement.rolls-CallSignature (Some type_params) params None span)) ∙
    at_ts_type_element m (TsTypeElement-F.CallSignature (Some type_params) params None span)
ts_type_element_CallSignature_is m (Some type_params) params (Some type_ann) span =
    ap (ts_type_element_to m) (sym (vTsTypeElement.rolls-CallSignature (Some type_params) params (Some type_ann)
    span)) ∙ at_ts_type_element m (TsTypeElement-F.CallSignature (Some type_params) params (Some type_ann) span)

pub ts_type_element_CallSignature : (m : Move) {type_params type_params2 : Option (Nodes TsTypeParam)}
    {params params2 : List TsFnParam} {type_ann type_ann2 : Option TsType} {span span2 : Range}
    → Opt (By (nodes_to m (ts_type_param_to m))) type_params type_params2
    → Each (By (ts_fn_param_to m)) params params2 → Opt (By (ts_type_to m)) type_ann type_ann2
    → By (range_to m) span span2 → By (ts_type_element_to m) (vTsTypeElement.CallSignature type_params params
    type_ann span) (vTsTypeElement.CallSignature type_params2 params2 type_ann2 span2)
ts_type_element_CallSignature m {type_params = type_params} {params = params} {type_ann = type_ann} {span = span} h0
    h1 h2 h3 =
    record {
      is = same4 vTsTypeElement.CallSignature (opt_is h0) (each_is h1) (opt_is h2) h3.is ∙ sym
          (ts_type_element_CallSignature_is m type_params params type_ann span);
    }

ts_type_element_ConstructSignature_is : (m : Move) (type_params : Option (Nodes TsTypeParam))
    (params : List TsFnParam) (type_ann : Option TsType) (span : Range)
    → ts_type_element_to m (vTsTypeElement.ConstructSignature type_params params type_ann span) ≡
    vTsTypeElement.ConstructSignature (option_map (nodes_to m (ts_type_param_to m)) type_params)
    (map (ts_fn_param_to m) params) (option_map (ts_type_to m) type_ann) (range_to m span)
ts_type_element_ConstructSignature_is m None params None span =
    ap (ts_type_element_to m) (sym (vTsTypeElement.rolls-ConstructSignature None params None span)) ∙
    at_ts_type_element m (TsTypeElement-F.ConstructSignature None params None span)
ts_type_element_ConstructSignature_is m None params (Some type_ann) span =
    ap (ts_type_element_to m) (sym (vTsTypeElement.rolls-ConstructSignature None params (Some type_ann) span)) ∙
    at_ts_type_element m (TsTypeElement-F.ConstructSignature None params (Some type_ann) span)
ts_type_element_ConstructSignature_is m (Some type_params) params None span =
    ap (ts_type_element_to m) (sym (vTsTypeElement.rolls-ConstructSignature (Some type_params) params None span)) ∙
    at_ts_type_element m (TsTypeElement-F.ConstructSignature (Some type_params) params None span)
ts_type_element_ConstructSignature_is m (Some type_params) params (Some type_ann) span =
    ap (ts_type_element_to m) (sym (vTsTypeElement.rolls-ConstructSignature (Some type_params) params
    (Some type_ann) span)) ∙ at_ts_type_element m (TsTypeElement-F.ConstructSignature (Some type_params) params
    (Some type_ann) span)

pub ts_type_element_ConstructSignature : (m : Move) {type_params type_params2 : Option (Nodes TsTypeParam)}
    {params params2 : List TsFnParam} {type_ann type_ann2 : Option TsType} {span span2 : Range}
    → Opt (By (nodes_to m (ts_type_param_to m))) type_params type_params2
    → Each (By (ts_fn_param_to m)) params params2 → Opt (By (ts_type_to m)) type_ann type_ann2
    → By (range_to m) span span2 → By (ts_type_element_to m) (vTsTypeElement.ConstructSignature type_params params
    type_ann span) (vTsTypeElement.ConstructSignature type_params2 params2 type_ann2 span2)
ts_type_element_ConstructSignature m {type_params = type_params} {params = params} {type_ann = type_ann}
    {span = span} h0 h1 h2 h3 =
    record {
      is = same4 vTsTypeElement.ConstructSignature (opt_is h0) (each_is h1) (opt_is h2) h3.is ∙ sym
          (ts_type_element_ConstructSignature_is m type_params params type_ann span);
    }

ts_type_element_IndexSignature_is : (m : Move) (readonly : Bool) (name : Ident) (of : TsType)
    (type_ann : Option TsType) (span : Range) → ts_type_element_to m
    (vTsTypeElement.IndexSignature readonly name of type_ann span) ≡ vTsTypeElement.IndexSignature readonly
    (ident_to m name) (ts_type_to m of) (option_map (ts_type_to m) type_ann) (range_to m span)
ts_type_element_IndexSignature_is m readonly name of None span =
    ap (ts_type_element_to m) (sym (vTsTypeElement.rolls-IndexSignature readonly name of None span)) ∙
    at_ts_type_element m (TsTypeElement-F.IndexSignature readonly name of None span)
ts_type_element_IndexSignature_is m readonly name of (Some type_ann) span =
    ap (ts_type_element_to m) (sym (vTsTypeElement.rolls-IndexSignature readonly name of (Some type_ann) span)) ∙
    at_ts_type_element m (TsTypeElement-F.IndexSignature readonly name of (Some type_ann) span)

pub ts_type_element_IndexSignature : (m : Move) {readonly readonly2 : Bool} {name name2 : Ident} {of of2 : TsType}
    {type_ann type_ann2 : Option TsType} {span span2 : Range} → readonly2 ≡ readonly → By (ident_to m) name name2
    → By (ts_type_to m) of of2 → Opt (By (ts_type_to m)) type_ann type_ann2 → By (range_to m) span span2
    → By (ts_type_element_to m) (vTsTypeElement.IndexSignature readonly name of type_ann span)
    (vTsTypeElement.IndexSignature readonly2 name2 of2 type_ann2 span2)
ts_type_element_IndexSignature m {readonly = readonly} {name = name} {of = of} {type_ann = type_ann} {span = span}
    h0 h1 h2 h3 h4 =
    record {
      is = same5 vTsTypeElement.IndexSignature h0 h1.is h2.is (opt_is h3) h4.is ∙ sym
          (ts_type_element_IndexSignature_is m readonly name of type_ann span);
    }

ts_type_element_MethodSignature_is : (m : Move) (kind : MethodKind) (key : TsKey) (optional : Bool)
    (type_params : Option (Nodes TsTypeParam)) (params : List TsFnParam) (type_ann : Option TsType) (span : Range)
    → ts_type_element_to m (vTsTypeElement.MethodSignature kind key optional type_params params type_ann span) ≡
    vTsTypeElement.MethodSignature kind (ts_key_to m key) optional
    (option_map (nodes_to m (ts_type_param_to m)) type_params) (map (ts_fn_param_to m) params)
    (option_map (ts_type_to m) type_ann) (range_to m span)
ts_type_element_MethodSignature_is m kind key optional None params None span =
    ap (ts_type_element_to m) (sym (vTsTypeElement.rolls-MethodSignature kind key optional None params None span)) ∙
    at_ts_type_element m (TsTypeElement-F.MethodSignature kind key optional None params None span)
ts_type_element_MethodSignature_is m kind key optional None params (Some type_ann) span =
    ap (ts_type_element_to m) (sym (vTsTypeElement.rolls-MethodSignature kind key optional None params
    (Some type_ann) span)) ∙ at_ts_type_element m (TsTypeElement-F.MethodSignature kind key optional None params
    (Some type_ann) span)
ts_type_element_MethodSignature_is m kind key optional (Some type_params) params None span =
    ap (ts_type_element_to m) (sym (vTsTypeElement.rolls-MethodSignature kind key optional (Some type_params) params
    None span)) ∙ at_ts_type_element m (TsTypeElement-F.MethodSignature kind key optional (Some type_params) params
    None span)
ts_type_element_MethodSignature_is m kind key optional (Some type_params) params (Some type_ann) span =
    ap (ts_type_element_to m) (sym (vTsTypeElement.rolls-MethodSignature kind key optional (Some type_params) params
    (Some type_ann) span)) ∙ at_ts_type_element m (TsTypeElement-F.MethodSignature kind key optional
    (Some type_params) params (Some type_ann) span)

pub ts_type_element_MethodSignature : (m : Move) {kind kind2 : MethodKind} {key key2 : TsKey}
    {optional optional2 : Bool} {type_params type_params2 : Option (Nodes TsTypeParam)}
    {params params2 : List TsFnParam} {type_ann type_ann2 : Option TsType} {span span2 : Range} → kind2 ≡ kind
    → By (ts_key_to m) key key2 → optional2 ≡ optional → Opt (By (nodes_to m (ts_type_param_to m))) type_params
    type_params2 → Each (By (ts_fn_param_to m)) params params2 → Opt (By (ts_type_to m)) type_ann type_ann2
    → By (range_to m) span span2 → By (ts_type_element_to m) (vTsTypeElement.MethodSignature kind key optional
    type_params params type_ann span) (vTsTypeElement.MethodSignature kind2 key2 optional2 type_params2 params2
    type_ann2 span2)
ts_type_element_MethodSignature m {kind = kind} {key = key} {optional = optional} {type_params = type_params}
    {params = params} {type_ann = type_ann} {span = span} h0 h1 h2 h3 h4 h5 h6 =
    record {
      is = same7 vTsTypeElement.MethodSignature h0 h1.is h2 (opt_is h3) (each_is h4) (opt_is h5) h6.is ∙ sym
          (ts_type_element_MethodSignature_is m kind key optional type_params params type_ann span);
    }

ts_type_element_PropertySignature_is : (m : Move) (readonly : Bool) (key : TsKey) (optional : Bool)
    (type_ann : Option TsType) (span : Range) → ts_type_element_to m
    (vTsTypeElement.PropertySignature readonly key optional type_ann span) ≡ vTsTypeElement.PropertySignature
    readonly (ts_key_to m key) optional (option_map (ts_type_to m) type_ann) (range_to m span)
ts_type_element_PropertySignature_is m readonly key optional None span =
    ap (ts_type_element_to m) (sym (vTsTypeElement.rolls-PropertySignature readonly key optional None span)) ∙
    at_ts_type_element m (TsTypeElement-F.PropertySignature readonly key optional None span)
ts_type_element_PropertySignature_is m readonly key optional (Some type_ann) span =
    ap (ts_type_element_to m) (sym (vTsTypeElement.rolls-PropertySignature readonly key optional (Some type_ann)
    span)) ∙ at_ts_type_element m (TsTypeElement-F.PropertySignature readonly key optional (Some type_ann) span)

pub ts_type_element_PropertySignature : (m : Move) {readonly readonly2 : Bool} {key key2 : TsKey}
    {optional optional2 : Bool} {type_ann type_ann2 : Option TsType} {span span2 : Range} → readonly2 ≡ readonly
    → By (ts_key_to m) key key2 → optional2 ≡ optional → Opt (By (ts_type_to m)) type_ann type_ann2
    → By (range_to m) span span2 → By (ts_type_element_to m) (vTsTypeElement.PropertySignature readonly key optional
    type_ann span) (vTsTypeElement.PropertySignature readonly2 key2 optional2 type_ann2 span2)
ts_type_element_PropertySignature m {readonly = readonly} {key = key} {optional = optional} {type_ann = type_ann}
    {span = span} h0 h1 h2 h3 h4 =
    record {
      is = same5 vTsTypeElement.PropertySignature h0 h1.is h2 (opt_is h3) h4.is ∙ sym
          (ts_type_element_PropertySignature_is m readonly key optional type_ann span);
    }

at_ts_fn_param : (m : Move) (it : OfType TsFnParam-F) → ts_fn_param_to m (roll-TsFnParam it) ≡ in_ts_fn_param m
    (map-TsFnParam TsType TsTypeElement TsFnParam TsTupleElement TsTypeParam TsType TsTypeElement TsFnParam
    TsTupleElement TsTypeParam (ts_type_to m) (ts_type_element_to m) (ts_fn_param_to m) (ts_tuple_element_to m)
    (ts_type_param_to m) it)
unfolding ts_type_to ts_type_element_to ts_fn_param_to ts_tuple_element_to ts_type_param_to
at_ts_fn_param m it = fold-roll-TsFnParam TsType TsTypeElement TsFnParam TsTupleElement TsTypeParam (in_ts_type m)
    (in_ts_type_element m) (in_ts_fn_param m) (in_ts_tuple_element m) (in_ts_type_param m) it

ts_fn_param_made_is : (m : Move) (rest : Bool) (pat : TsParamPat) (optional : Bool) (type_ann : Option TsType)
    (span : Range) → ts_fn_param_to m (roll-TsFnParam (record
    { rest = rest; pat = pat; optional = optional; type_ann = type_ann; span = span })) ≡ roll-TsFnParam
    (record {
      rest = rest;
      pat = (ts_param_pat_to m pat);
      optional = optional;
      type_ann = (option_map (ts_type_to m) type_ann);
      span = (range_to m span);
    })
ts_fn_param_made_is m rest pat optional None span =
    at_ts_fn_param m (record { rest = rest; pat = pat; optional = optional; type_ann = None; span = span })
ts_fn_param_made_is m rest pat optional (Some type_ann) span =
    at_ts_fn_param m (record {
      rest = rest;
      pat = pat;
      optional = optional;
      type_ann = (Some type_ann);
      span = span;
    })

pub ts_fn_param_made : (m : Move) {rest rest2 : Bool} {pat pat2 : TsParamPat} {optional optional2 : Bool}
    {type_ann type_ann2 : Option TsType} {span span2 : Range} → rest2 ≡ rest → By (ts_param_pat_to m) pat pat2
    → optional2 ≡ optional → Opt (By (ts_type_to m)) type_ann type_ann2 → By (range_to m) span span2
    → By (ts_fn_param_to m) (roll-TsFnParam (record {
      rest = rest;
      pat = pat;
      optional = optional;
      type_ann = type_ann;
      span = span;
    })) (roll-TsFnParam (record
    { rest = rest2; pat = pat2; optional = optional2; type_ann = type_ann2; span = span2 }))
ts_fn_param_made m {rest = rest} {pat = pat} {optional = optional} {type_ann = type_ann} {span = span} h0 h1 h2 h3
    h4 =
    let make : Bool → TsParamPat → Bool → Option TsType → Range
    → TsFnParam = λ rest pat optional type_ann span. roll-TsFnParam
    (record { rest = rest; pat = pat; optional = optional; type_ann = type_ann; span = span }) in
    record {
      is = same5 make h0 h1.is h2 (opt_is h3) h4.is ∙ sym
          (ts_fn_param_made_is m rest pat optional type_ann span);
    }

at_ts_tuple_element : (m : Move) (it : OfType TsTupleElement-F)
    → ts_tuple_element_to m (roll-TsTupleElement it) ≡ in_ts_tuple_element m
    (map-TsTupleElement TsType TsTypeElement TsFnParam TsTupleElement TsTypeParam TsType TsTypeElement TsFnParam
    TsTupleElement TsTypeParam (ts_type_to m) (ts_type_element_to m) (ts_fn_param_to m) (ts_tuple_element_to m)
    (ts_type_param_to m) it)
unfolding ts_type_to ts_type_element_to ts_fn_param_to ts_tuple_element_to ts_type_param_to
at_ts_tuple_element m it = fold-roll-TsTupleElement TsType TsTypeElement TsFnParam TsTupleElement TsTypeParam
    (in_ts_type m) (in_ts_type_element m) (in_ts_fn_param m) (in_ts_tuple_element m) (in_ts_type_param m) it

pub ts_tuple_element_made : (m : Move) {rest rest2 : Bool} {label label2 : Option Ident} {ty ty2 : TsType}
    {optional optional2 : Bool} {span span2 : Range} → rest2 ≡ rest → Opt (By (ident_to m)) label label2
    → By (ts_type_to m) ty ty2 → optional2 ≡ optional → By (range_to m) span span2
    → By (ts_tuple_element_to m) (roll-TsTupleElement (record
    { rest = rest; label = label; ty = ty; optional = optional; span = span }))
    (roll-TsTupleElement (record { rest = rest2; label = label2; ty = ty2; optional = optional2; span = span2 }))
ts_tuple_element_made m {rest = rest} {label = label} {ty = ty} {optional = optional} {span = span} h0 h1 h2 h3 h4 =
    let make : Bool → Option Ident → TsType → Bool → Range → TsTupleElement = λ rest label ty optional span.
    roll-TsTupleElement (record { rest = rest; label = label; ty = ty; optional = optional; span = span }) in
    record {
      is = same5 make h0 (opt_is h1) h2.is h3 h4.is ∙ sym
          (at_ts_tuple_element m (record { rest = rest; label = label; ty = ty; optional = optional; span = span }));
    }

at_ts_type_param : (m : Move) (it : OfType TsTypeParam-F) → ts_type_param_to m (roll-TsTypeParam it) ≡
    in_ts_type_param m (map-TsTypeParam TsType TsTypeElement TsFnParam TsTupleElement TsTypeParam TsType
    TsTypeElement TsFnParam TsTupleElement TsTypeParam (ts_type_to m) (ts_type_element_to m) (ts_fn_param_to m)
    (ts_tuple_element_to m) (ts_type_param_to m) it)
unfolding ts_type_to ts_type_element_to ts_fn_param_to ts_tuple_element_to ts_type_param_to
at_ts_type_param m it = fold-roll-TsTypeParam TsType TsTypeElement TsFnParam TsTupleElement TsTypeParam
    (in_ts_type m) (in_ts_type_element m) (in_ts_fn_param m) (in_ts_tuple_element m) (in_ts_type_param m) it

ts_type_param_made_is : (m : Move) (is_const : Bool) (is_in : Bool) (is_out : Bool) (name : Ident)
    (constraint : Option TsType) (default : Option TsType) (span : Range)
    → ts_type_param_to m (roll-TsTypeParam (record {
      is_const = is_const;
      is_in = is_in;
      is_out = is_out;
      name = name;
      constraint = constraint;
      default = default;
      span = span;
    })) ≡ roll-TsTypeParam
    (record {
      is_const = is_const;
      is_in = is_in;
      is_out = is_out;
      name = (ident_to m name);
      constraint = (option_map (ts_type_to m) constraint);
      default = (option_map (ts_type_to m) default);
      span = (range_to m span);
    })
ts_type_param_made_is m is_const is_in is_out name None None span =
    at_ts_type_param m (record {
      is_const = is_const;
      is_in = is_in;
      is_out = is_out;
      name = name;
      constraint = None;
      default = None;
      span = span;
    })
ts_type_param_made_is m is_const is_in is_out name None (Some default) span =
    at_ts_type_param m (record {
      is_const = is_const;
      is_in = is_in;
      is_out = is_out;
      name = name;
      constraint = None;
      default = (Some default);
      span = span;
    })
ts_type_param_made_is m is_const is_in is_out name (Some constraint) None span =
    at_ts_type_param m (record {
      is_const = is_const;
      is_in = is_in;
      is_out = is_out;
      name = name;
      constraint = (Some constraint);
      default = None;
      span = span;
    })
ts_type_param_made_is m is_const is_in is_out name (Some constraint) (Some default) span =
    at_ts_type_param m (record {
      is_const = is_const;
      is_in = is_in;
      is_out = is_out;
      name = name;
      constraint = (Some constraint);
      default = (Some default);
      span = span;
    })

pub ts_type_param_made : (m : Move) {is_const is_const2 : Bool} {is_in is_in2 : Bool} {is_out is_out2 : Bool}
    {name name2 : Ident} {constraint constraint2 : Option TsType} {default default2 : Option TsType}
    {span span2 : Range} → is_const2 ≡ is_const → is_in2 ≡ is_in → is_out2 ≡ is_out → By (ident_to m) name name2
    → Opt (By (ts_type_to m)) constraint constraint2 → Opt (By (ts_type_to m)) default default2
    → By (range_to m) span span2 → By (ts_type_param_to m) (roll-TsTypeParam
    (record {
      is_const = is_const;
      is_in = is_in;
      is_out = is_out;
      name = name;
      constraint = constraint;
      default = default;
      span = span;
    })) (roll-TsTypeParam (record {
      is_const = is_const2;
      is_in = is_in2;
      is_out = is_out2;
      name = name2;
      constraint = constraint2;
      default = default2;
      span = span2;
    }))
ts_type_param_made m {is_const = is_const} {is_in = is_in} {is_out = is_out} {name = name} {constraint = constraint}
    {default = default} {span = span} h0 h1 h2 h3 h4 h5 h6 =
    let make : Bool → Bool → Bool → Ident → Option TsType → Option TsType → Range
    → TsTypeParam = λ is_const is_in is_out name constraint default span. roll-TsTypeParam
    (record {
      is_const = is_const;
      is_in = is_in;
      is_out = is_out;
      name = name;
      constraint = constraint;
      default = default;
      span = span;
    }) in
    record {
      is = same7 make h0 h1 h2 h3.is (opt_is h4) (opt_is h5) h6.is ∙ sym
          (ts_type_param_made_is m is_const is_in is_out name constraint default span);
    }

pub ts_expr_with_type_args_made : (m : Move) {expr expr2 : TsEntityName}
    {type_args type_args2 : Option (Nodes TsType)} {span span2 : Range} → By (ts_entity_name_to m) expr expr2
    → Opt (By (nodes_to m (ts_type_to m))) type_args type_args2 → By (range_to m) span span2
    → By (ts_expr_with_type_args_to m) (record { expr = expr; type_args = type_args; span = span })
    (record { expr = expr2; type_args = type_args2; span = span2 })
unfolding ts_expr_with_type_args_to
ts_expr_with_type_args_made m h0 h1 h2 =
    let make : TsEntityName → Option (Nodes TsType) → Range → TsExprWithTypeArgs = λ expr type_args span. record
    { expr = expr; type_args = type_args; span = span } in
    record { is = same3 make h0.is (opt_is h1) h2.is }

pub ts_part_TypeAnn : (m : Move) {ts_type ts_type2 : TsType} → By (ts_type_to m) ts_type ts_type2
    → By (ts_part_to m) (vTsPart.TypeAnn ts_type) (vTsPart.TypeAnn ts_type2)
unfolding ts_part_to
ts_part_TypeAnn m h0 =
    record { is = same1 vTsPart.TypeAnn h0.is }

pub ts_part_TypeParams : (m : Move) {nodes nodes2 : Nodes TsTypeParam}
    → By (nodes_to m (ts_type_param_to m)) nodes nodes2 → By (ts_part_to m) (vTsPart.TypeParams nodes)
    (vTsPart.TypeParams nodes2)
unfolding ts_part_to
ts_part_TypeParams m h0 =
    record { is = same1 vTsPart.TypeParams h0.is }

pub ts_part_TypeArgs : (m : Move) {nodes nodes2 : Nodes TsType} → By (nodes_to m (ts_type_to m)) nodes nodes2
    → By (ts_part_to m) (vTsPart.TypeArgs nodes) (vTsPart.TypeArgs nodes2)
unfolding ts_part_to
ts_part_TypeArgs m h0 =
    record { is = same1 vTsPart.TypeArgs h0.is }

pub ts_part_Heritage : (m : Move) {items items2 : List TsExprWithTypeArgs}
    → Each (By (ts_expr_with_type_args_to m)) items items2 → By (ts_part_to m) (vTsPart.Heritage items)
    (vTsPart.Heritage items2)
unfolding ts_part_to
ts_part_Heritage m h0 =
    record { is = same1 vTsPart.Heritage (each_is h0) }

pub ts_part_Members : (m : Move) {items items2 : List TsTypeElement} → Each (By (ts_type_element_to m)) items items2
    → By (ts_part_to m) (vTsPart.Members items) (vTsPart.Members items2)
unfolding ts_part_to
ts_part_Members m h0 =
    record { is = same1 vTsPart.Members (each_is h0) }
