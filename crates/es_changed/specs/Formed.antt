-- What each form is, of its parts: a line for each. What no text has stands at the empty range at 0; what was changed stands
-- where it stood, from its first token to the token behind its last one.
use Rattle.std.specs.Prelude.{ℕ, Bool, true, false, List, [], ◌∷◌, ◌++◌, Option, Some, None, option_map, codes}
use Rattle.std.specs.Fmt.{decimal}
use Rattle.base.specs.declared.range.Range.{Range}
use Rattle.es_token.specs.declared.token.Token.{Token}
use Rattle.es_ast.specs.declared.ts.leaf.Ident.{Ident}
use Rattle.es_ast.specs.declared.ts.leaf.MethodKind.{MethodKind}
use Rattle.es_ast.specs.declared.ts.leaf.MethodKind.TheVariants as vKind
use Rattle.es_ast.specs.declared.ts.leaf.TsEntityName.{TsEntityName}
use Rattle.es_ast.specs.declared.ts.leaf.TsKey.{TsKey}
use Rattle.es_ast.specs.declared.ts.leaf.TsKey.TheVariants as vKey
use Rattle.es_ast.specs.declared.ts.leaf.TsKeywordTypeKind.{TsKeywordTypeKind}
use Rattle.es_ast.specs.declared.ts.leaf.TsKeywordTypeKind.TheVariants as keyword
use Rattle.es_ast.specs.declared.ts.leaf.TsThisTypeOrIdent.{TsThisTypeOrIdent}
use Rattle.es_ast.specs.declared.ts.leaf.TsThisTypeOrIdent.TheVariants as vThis
use Rattle.es_ast.specs.declared.ts.leaf.TsTypeOperatorOp.TheVariants as operator
use Rattle.es_ast.specs.declared.ts.ts.TsFnParam.{TsFnParam}
use Rattle.es_ast.specs.declared.ts.ts.TsParamPat.{TsParamPat}
use Rattle.es_ast.specs.declared.ts.ts.TsParamPat.TheVariants as vTsPat
use Rattle.es_ast.specs.declared.ts.ts.TsPart.TheVariants as vPart
use Rattle.es_ast.specs.declared.ts.ts.TsTupleElement.{TsTupleElement}
use Rattle.es_ast.specs.declared.ts.ts.TsType.{TsType}
use Rattle.es_ast.specs.declared.ts.ts.TsType.TheVariants as vType
use Rattle.es_ast.specs.declared.ts.ts.TsType.TheOpen.{TsTypeElement-F}
use Rattle.es_ast.specs.declared.ts.ts.TsTypeElement.{TsTypeElement, out-TsTypeElement}
use Rattle.es_ast.specs.declared.ts.ts.TsTypeElement.TheVariants as vTsMember
use Rattle.es_ast.specs.declared.ts.ts.TsTypeParam.{TsTypeParam}
use Rattle.es_ast.specs.declared.leaf.VarDeclKind.TheVariants as vVariable
use Rattle.es_ast.specs.declared.ast.ClassMember.{ClassMember}
use Rattle.es_ast.specs.declared.ast.ClassMember.TheVariants as vMember
use Rattle.es_ast.specs.declared.ast.ClassMember.TheOpen.{Decl-F}
use Rattle.es_ast.specs.declared.ast.Decl.{Decl, out-Decl}
use Rattle.es_ast.specs.declared.ast.Decl.TheVariants as vDecl
use Rattle.es_ast.specs.declared.ast.Expr.TheVariants as vExpr
use Rattle.es_ast.specs.declared.ast.ModuleDecl.TheVariants as vModuleDecl
use Rattle.es_ast.specs.declared.ast.ModuleItem.{ModuleItem}
use Rattle.es_ast.specs.declared.ast.ModuleItem.TheVariants as vItem
use Rattle.es_ast.specs.declared.ast.Pat.{Pat}
use Rattle.es_ast.specs.declared.ast.Pat.TheVariants as vPat
use Rattle.es_ast.specs.declared.ast.Stmt.TheVariants as vStmt
use Rattle.es_ast.specs.declared.ast.VarDeclarator.{roll-VarDeclarator}
use Rattle.es_site.specs.Parts.{Whole}
use Rattle.es_lowering.specs.Value.{Value, Typed, more, node, given, part, group, first_of, behind, optional, is_there, expr_at, decl_at, params_at, key_at, marked_at, entity_at, type_at, type_member_at, type_key_at, type_pat_at, type_name_at}
use Rattle.es_lowering.specs.Texts.{span_of, ident_of, token_of, token_at, str_at}
use Rattle.es_lowering.specs.Types.{element_by, function_type}
use Rattle.es_lowering.specs.TypePatterns.{param_by, marked_pat}
use Rattle.es_lowering.specs.TypeTexts.{computed_numeric}
use Rattle.es_lowering.specs.Classes.{modified}
use Rattle.es_lowering.specs.TypedFunctions.{typed_function_of}
use Rattle.es_lowering.specs.TypedParts.{annotation_at}
use Rattle.es_syntax.specs.Roles.{fn_param_in, type_member_in, element_in}
use Rattle.es_changed.specs.declared.entry.Word.{Word}
use Rattle.es_changed.specs.declared.entry.Word.TheVariants as word
use Rattle.es_changed.specs.declared.entry.Form.{Form}
use Rattle.es_changed.specs.declared.entry.Form.TheVariants as form

-- where no text is
abbrev pub nowhere : Range
nowhere = record { start = 0; end = 0 }

-- ---- in what roles a form may stand
abbrev pub nothing : Typed
nothing = record {
  expr = None;
  pat = None;
  stmt = None;
  decl = None;
  item = None;
  program = None;
  block = None;
  variables = None;
  declarator = None;
  head = None;
  param = None;
  params = None;
  pat_prop = None;
  prop = None;
  member = None;
  key = None;
  post = None;
  args = None;
  clause = None;
  names = None;
  import_specifier = None;
  export_specifier = None;
  attributes = None;
  entity = None;
  marked = None;
  signature = None;
  declarable = None;
  ts_type = None;
  reference = None;
  arguments = None;
  type_params = None;
  element = None;
  type_member = None;
  type_key = None;
  fn_params = None;
  fn_param = None;
  type_pat = None;
  type_name = None;
  type_prop = None;
}

abbrev pub a_type : Option TsType → Typed
a_type ty = record nothing { ts_type = ty }

abbrev pub an_element : Option TsTupleElement → Typed
an_element element = record nothing { element = element }

abbrev pub a_type_member : Option TsTypeElement → Typed
a_type_member member = record nothing { type_member = member }

abbrev pub a_type_key : Option TsKey → Typed
a_type_key key = record nothing { type_key = key }

abbrev pub a_type_param : Option TsFnParam → Typed
a_type_param param = record nothing { fn_param = param }

abbrev pub type_params_list : Option (List TsFnParam) → Typed
type_params_list params = record nothing { fn_params = params }

abbrev pub a_type_pattern : Option TsParamPat → Option Ident → Typed
a_type_pattern pat name = record nothing { type_pat = pat; type_name = name }

abbrev pub an_entity : Option TsEntityName → Typed
an_entity name = record nothing { entity = name }

abbrev pub a_member : Option ClassMember → Typed
a_member member = record nothing { member = member }

abbrev pub an_item : Option ModuleItem → Typed
an_item item = record nothing { item = item }

-- a declaration is a statement and an item too
abbrev pub a_declaration : Option Decl → Typed
a_declaration decl = record nothing {
  decl = decl;
  stmt = option_map vStmt.Decl decl;
  item = option_map vItem.Stmt (option_map vStmt.Decl decl);
}

-- a name is an expression, and a pattern of a variable and of a parameter in a type
abbrev pub a_name : Ident → Typed
a_name name = record nothing {
  expr = Some (vExpr.Ident name);
  marked = Some (λ mark ty r. vPat.Ident name ty r);
  type_pat = Some (vTsPat.Ident name);
}

-- each of these parts, where all are there
abbrev pub each_part : {A : Type 0} → (Value → Option A) → Value → Option (List A)
each_part one (more v vs) = given (one v) (λ a. given (each_part one vs) (λ rest. Some (a ∷ rest)))
each_part one _ = Some []

-- ---- types
abbrev pub keyword_of : Word → TsKeywordTypeKind
keyword_of word.Any = keyword.Any
keyword_of word.String = keyword.String
keyword_of word.Number = keyword.Number
keyword_of word.Boolean = keyword.Boolean
keyword_of word.BigInt = keyword.BigInt
keyword_of word.Undefined = keyword.Undefined
keyword_of word.Null = keyword.Null

abbrev pub word_type : Word → TsType
word_type w = vType.Keyword (keyword_of w) nowhere

-- a name, as the name of a type
abbrev pub named_type : Ident → TsType
named_type name =
    vType.Ref (record { left = vThis.Ident name; rest = []; span = name.span }) None name.span

abbrev pub an_element_of : Bool → TsType → TsTupleElement
an_element_of rest ty = element_by rest None false nowhere ty

abbrev pub property_of : Bool → Value → Option TsTypeElement
property_of readonly p =
    given (type_key_at p 0) (λ key.
    given (type_at p 1) (λ ty. Some (vTsMember.PropertySignature readonly key false (Some ty) nowhere)))

-- a property or an index signature is `readonly`; any other member is what it is
abbrev pub readonly_by : TsTypeElement → TsTypeElement-F TsType TsTypeElement TsFnParam TsTupleElement TsTypeParam → TsTypeElement
readonly_by member (TsTypeElement-F.IndexSignature readonly name of ty span) = vTsMember.IndexSignature true name of ty span
readonly_by member (TsTypeElement-F.PropertySignature readonly key mark ty span) =
    vTsMember.PropertySignature true key mark ty span
readonly_by member _ = member

unfoldable pub readonly_member : TsTypeElement → TsTypeElement
readonly_member member = readonly_by member (out-TsTypeElement member)

-- ---- names that are made
unfoldable pub made_symbol : ℕ → List ℕ
made_symbol n = codes "_dts_" ++ decimal n

abbrev pub made_name : List ℕ → Ident
made_name symbol = record { sym = symbol; ctxt = 0; optional = false; span = nowhere }

-- ---- declarations
abbrev pub declared_by : Bool → Whole Decl-F → Decl
declared_by declare (Decl-F.Decl::Class before class span) = vDecl.Class declare class span
declared_by declare (Decl-F.Decl::Fn before function span) = vDecl.Fn declare function span
declared_by declare (Decl-F.Var before kind decls span) = vDecl.Var declare kind decls span
declared_by declare (Decl-F.TsInterface before id type_params extends body span) =
    vDecl.TsInterface declare id type_params extends body span
declared_by declare (Decl-F.TsTypeAlias before id type_params ty span) = vDecl.TsTypeAlias declare id type_params ty span
declared_by declare (Decl-F.TsEnum before is_const id members span) = vDecl.TsEnum declare is_const id members span
declared_by declare (Decl-F.TsNamespace before is_module id body span) = vDecl.TsNamespace declare is_module id body span
declared_by declare (Decl-F.TsModule before id has_body body span) = vDecl.TsModule declare id has_body body span
declared_by declare (Decl-F.TsGlobal before body span) = vDecl.TsGlobal declare body span

-- the same declaration, behind `declare` or not
unfoldable pub with_declare : Bool → Decl → Decl
with_declare declare it = declared_by declare (out-Decl it)

-- `declare const a: b;`
abbrev pub made_const : Pat → ModuleItem
made_const name =
    vItem.Stmt (vStmt.Decl (vDecl.Var true vVariable.Const (roll-VarDeclarator (record {
      name = name;
      definite = false;
      init = None;
      span = nowhere;
    }) ∷ []) nowhere))

abbrev pub default_const : Value → Option ModuleItem
default_const p =
    given (marked_at p 0) (λ name.
    given (type_at p 1) (λ ty. Some (made_const (name false (Some (vPart.TypeAnn ty)) nowhere))))

abbrev pub default_name : Range → Value → Option ModuleItem
default_name r p = option_map (λ e. vItem.ModuleDecl (vModuleDecl.ExportDefaultExpr e r)) (expr_at p 0)

-- ---- members of classes of JavaScript
abbrev pub field_of : Range → Value → Option ClassMember
field_of r p =
    given (key_at p 1) (λ key.
    given (annotation_at p 2) (λ ty.
    Some (vMember.Prop (modified (is_there (group p 0)) false) key.0 key.1 false false ty None r)))

-- a method of this kind without its body; its function stands where its parameters do
abbrev pub method_of : List Token → MethodKind → Bool → Bool → Range → Value → Option ClassMember
method_of ts kind is_async is_generator r p =
    given (key_at p 1) (λ key.
    given (params_at p 2) (λ params.
    Some (vMember.Method (modified (is_there (group p 0)) false) kind key.0 key.1 false
    (typed_function_of is_async is_generator (span_of ts (first_of (part p 2)) (behind (part p 2))) None
    (None, params, None) None) r)))

module _ (x : List ℕ) (ts : List Token) where
  abbrev pub named : Value → Option TsType
  named p = option_map (λ t. named_type (ident_of x t)) (token_at ts p 0)

  -- the first name, or `this`, and the names behind dots
  abbrev pub left_of : Bool → Token → TsThisTypeOrIdent
  left_of true t = vThis.This t.range
  left_of false t = vThis.Ident (ident_of x t)

  abbrev pub path : (is_this : Bool) → Range → Value → Option TsEntityName
  path is_this r (more v vs) =
      given (token_of ts v) (λ t.
      given (each_part (λ w. option_map (ident_of x) (token_of ts w)) vs) (λ rest.
      Some (record { left = left_of is_this t; rest = rest; span = r })))
  path is_this r _ = None

  -- a parameter in a type: a name before `?` says so itself
  abbrev pub marked_name : Bool → Option Ident → TsParamPat → TsParamPat
  marked_name true name pat = marked_pat name pat
  marked_name false name pat = pat

  abbrev pub param_of : Range → Value → Option TsFnParam
  param_of r p =
      given (type_pat_at p 0) (λ pat.
      given (optional type_at (group p 2)) (λ ty.
      Some (param_by false (is_there (group p 1)) r (marked_name (is_there (group p 1)) (type_name_at p 0) pat) ty)))

  abbrev pub rest_param_of : Range → Value → Option TsFnParam
  rest_param_of r p =
      given (type_pat_at p 0) (λ pat.
      given (optional type_at (group p 2)) (λ ty. Some (param_by true false r pat ty)))

  -- what a form is, by its first token, its range and its parts
  abbrev pub form_of : Form → ℕ → Range → Value → Typed
  form_of form.Same from r p = nothing
  form_of form.Element from r p = an_element (option_map (an_element_of false) (type_at p 0))
  form_of form.Rest from r p = an_element (option_map (an_element_of true) (type_at p 0))
  form_of form.Tuple from r p = a_type (option_map (λ elems. vType.Tuple elems nowhere) (each_part element_in p))
  form_of form.Readonly from r p = a_type (option_map (λ ty. vType.Operator operator.ReadOnly ty nowhere) (type_at p 0))
  form_of form.Typeof from r p = a_type (option_map (λ ty. vType.Query ty nowhere) (type_at p 0))
  form_of form.Named from r p = a_type (named p)
  form_of form.RegExp from r p = a_type (Some (named_type (made_name (codes "RegExp"))))
  form_of form.Members from r p =
      a_type (option_map (λ members. vType.TypeLit members nowhere) (each_part type_member_in p))
  form_of form.Property from r p = a_type_member (property_of false p)
  form_of form.ReadonlyProperty from r p = a_type_member (property_of true p)
  form_of form.ReadonlyMember from r p = a_type_member (option_map readonly_member (type_member_at p 0))
  form_of form.Function from r p = a_type (function_type nowhere p)
  form_of form.Parameters from r p = type_params_list (each_part fn_param_in p)
  form_of form.Param from r p = a_type_param (param_of r p)
  form_of form.RestParam from r p = a_type_param (rest_param_of r p)
  form_of form.ThisPattern from r p = a_type_pattern (Some (vTsPat.This r)) None
  form_of form.HolePattern from r p = a_type_pattern (Some (vTsPat.Hole r)) None
  form_of form.Pattern from r p = a_type_pattern (type_pat_at p 0) (type_name_at p 0)
  form_of form.MadeName from r p = a_name (made_name (made_symbol from))
  form_of form.StrKey from r p = a_type_key (option_map (λ s. vKey.ComputedStr s nowhere) (str_at x ts p 0))
  form_of form.NumberKey from r p = a_type_key (given (token_at ts p 0) (computed_numeric x nowhere))
  form_of form.EntityKey from r p = a_type_key (option_map (λ name. vKey.Entity name nowhere) (entity_at p 0))
  form_of form.Path from r p = an_entity (path false r p)
  form_of form.ThisPath from r p = an_entity (path true r p)
  form_of form.Annotation from r p = a_type (type_at p 0)
  form_of form.Optional from r p = nothing
  form_of form.Declare from r p = a_declaration (option_map (with_declare true) (decl_at p 0))
  form_of form.Undeclare from r p = a_declaration (option_map (with_declare false) (decl_at p 0))
  form_of form.DefaultConst from r p = an_item (default_const p)
  form_of form.DefaultName from r p = an_item (default_name r p)
  form_of form.Field from r p = a_member (field_of r p)
  form_of form.Method from r p = a_member (method_of ts vKind.Method false false r p)
  form_of form.Getter from r p = a_member (method_of ts vKind.Getter false false r p)
  form_of form.Setter from r p = a_member (method_of ts vKind.Setter false false r p)
  form_of form.AsyncMethod from r p = a_member (method_of ts vKind.Method true false r p)
  form_of form.GeneratorMethod from r p = a_member (method_of ts vKind.Method false true r p)
  form_of form.AsyncGeneratorMethod from r p = a_member (method_of ts vKind.Method true true r p)

  -- and where it stands: a node that is its part stands where that does
  abbrev pub formed : Form → ℕ → ℕ → Value → Value
  formed form.Same from to p = part p 0
  formed f from to p = node from to (form_of f from (span_of ts from to) p)
