-- What each node shows: its type as an expression, and what it is in a declaration. A step takes what was found so far and how
-- many names were made, and hands both on.
use Rattle.std.specs.Prelude.{ℕ, ◌+◌, ◌==◌, Bool, true, false, ◌&&◌, ◌||◌, not, List, [], ◌∷◌, ◌++◌, Option, Some, None, option_map, if◌then◌else◌, map, fold, bytes_eq, codes}
use Rattle.base.specs.declared.range.Range.{Range}
use Rattle.es_ast.specs.declared.ts.leaf.Ident.{Ident}
use Rattle.es_ast.specs.declared.ts.leaf.TsEntityName.{TsEntityName}
use Rattle.es_ast.specs.declared.ts.leaf.TsThisTypeOrIdent.TheVariants as vThis
use Rattle.es_ast.specs.declared.ts.leaf.TsKey.{TsKey}
use Rattle.es_ast.specs.declared.ts.leaf.TsKey.TheVariants as vKey
use Rattle.es_ast.specs.declared.ts.leaf.TsLit.TheVariants as vTsLit
use Rattle.es_ast.specs.declared.ts.leaf.TsKeywordTypeKind.TheVariants as keyword
use Rattle.es_ast.specs.declared.ts.leaf.MethodKind.{MethodKind}
use Rattle.es_ast.specs.declared.ts.leaf.MethodKind.TheVariants as vMethod
use Rattle.es_ast.specs.declared.ts.ts.Nodes.{Nodes}
use Rattle.es_ast.specs.declared.ts.ts.TsPart.{TsPart}
use Rattle.es_ast.specs.declared.ts.ts.TsPart.TheVariants as vPart
use Rattle.es_ast.specs.declared.ts.ts.TsType.{TsType, out-TsType}
use Rattle.es_ast.specs.declared.ts.ts.TsType.TheVariants as vType
use Rattle.es_ast.specs.declared.ts.ts.TsType.TheOpen.{TsType-F}
use Rattle.es_ast.specs.declared.ts.ts.TsFnParam.{TsFnParam, roll-TsFnParam}
use Rattle.es_ast.specs.declared.ts.ts.TsParamPat.{TsParamPat}
use Rattle.es_ast.specs.declared.ts.ts.TsParamPat.TheVariants as vTsPat
use Rattle.es_ast.specs.declared.ts.ts.TsPatProp.{TsPatProp}
use Rattle.es_ast.specs.declared.ts.ts.TsPatProp.TheVariants as vTsProp
use Rattle.es_ast.specs.declared.ts.ts.TsTupleElement.{TsTupleElement, roll-TsTupleElement}
use Rattle.es_ast.specs.declared.ts.ts.TsTypeElement.{TsTypeElement}
use Rattle.es_ast.specs.declared.ts.ts.TsTypeElement.TheVariants as vMember
use Rattle.es_ast.specs.declared.ts.ts.TsTypeParam.{TsTypeParam}
use Rattle.es_ast.specs.declared.leaf.Lit.{Lit}
use Rattle.es_ast.specs.declared.leaf.Lit.TheVariants as vLit
use Rattle.es_ast.specs.declared.leaf.Accessibility.{Accessibility}
use Rattle.es_ast.specs.declared.leaf.Accessibility.TheVariants as vAccess
use Rattle.es_ast.specs.declared.leaf.Modifiers.{Modifiers}
use Rattle.es_ast.specs.declared.leaf.UnaryOp.{UnaryOp}
use Rattle.es_ast.specs.declared.leaf.UnaryOp.TheVariants as vUnary
use Rattle.es_ast.specs.declared.leaf.VarDeclKind.{VarDeclKind}
use Rattle.es_ast.specs.declared.leaf.VarDeclKind.TheVariants as vKind
use Rattle.es_ast.specs.declared.ast.Class.{Class}
use Rattle.es_ast.specs.declared.ast.ClassMember.{ClassMember}
use Rattle.es_ast.specs.declared.ast.Decl.{Decl}
use Rattle.es_ast.specs.declared.ast.Expr.{Expr, out-Expr}
use Rattle.es_ast.specs.declared.ast.Expr.TheVariants as vExpr
use Rattle.es_ast.specs.declared.ast.Function.{Function, roll-Function}
use Rattle.es_ast.specs.declared.ast.ModuleDecl.{ModuleDecl}
use Rattle.es_ast.specs.declared.ast.ModuleItem.{ModuleItem}
use Rattle.es_ast.specs.declared.ast.ObjectPatProp.{ObjectPatProp}
use Rattle.es_ast.specs.declared.ast.Param.{Param, roll-Param}
use Rattle.es_ast.specs.declared.ast.Pat.{Pat, out-Pat}
use Rattle.es_ast.specs.declared.ast.Pat.TheVariants as vPat
use Rattle.es_ast.specs.declared.ast.Prop.{Prop}
use Rattle.es_ast.specs.declared.ast.Stmt.{Stmt}
use Rattle.es_ast.specs.declared.ast.SwitchCase.{SwitchCase}
use Rattle.es_ast.specs.declared.ast.TsEnumMember.{TsEnumMember}
use Rattle.es_ast.specs.declared.ast.VarDeclarator.{VarDeclarator}
use Rattle.es_ast.specs.declared.ast.ClassMember.TheOpen.{Expr-F, ObjectPatProp-F, Pat-F, Prop-F, Function-F, Param-F}
use Rattle.es_site.specs.Parts.{Kind, Whole}
use Rattle.dts_rules.specs.declared.found.FoundKind.{FoundKind}
use Rattle.dts_rules.specs.declared.found.FoundKind.TheVariants as kind
use Rattle.dts_rules.specs.declared.found.Found.{Found}
use Rattle.dts_rules.specs.Sets.{Numbers, Sets, id_of, is_in, type_in}
use Rattle.dts_rules.specs.Made.{nowhere, word, any_type, annotation, entity_of, named_type, typeof_name, made_name, regexp_type, if_readonly, if_true, frozen}

-- ---- steps
pub record State : Type 0 where
  pub found : List Found
  pub made : ℕ

-- a step that answers this
abbrev pub Run : Type 0 → Type 0
Run A = State → A × State

abbrev pub give : {A : Type 0} → A → Run A
give a s = (a, s)

abbrev pub note : FoundKind → Range → State → State
note k r s = record { found = s.found ++ (record { kind = k; range = r } ∷ []); made = s.made }

-- one more name was made
abbrev pub drawn : State → State
drawn s = record { found = s.found; made = s.made + 1 }

abbrev pub then_ : {A B : Type 0} → (A → Run B) → A × State → B × State
then_ f p = f p.0 p.1

abbrev pub after : {A B : Type 0} → (A → B) → A × State → B × State
after f p = (f p.0, p.1)

-- one after the other
abbrev pub in_turn : {A B : Type 0} → (A → Run B) → List A → Run (List B)
in_turn f [] s = ([], s)
in_turn f (a ∷ others) s = then_ (λ b s. after (λ bs. b ∷ bs) (in_turn f others s)) (f a s)

abbrev pub some : {A : Type 0} → List (Option A) → List A
some [] = []
some (Some a ∷ others) = a ∷ some others
some (None ∷ others) = some others

abbrev pub flat : {A : Type 0} → List (List A) → List A
flat [] = []
flat (first ∷ others) = first ++ flat others

-- a type, where there is one
abbrev pub Typing : Type 0
Typing = Run (Option TsType)

abbrev pub untyped : Typing
untyped = give None

-- the type, or `any` with what was found
abbrev pub or_any : FoundKind → Range → Option TsType × State → TsType × State
or_any k r (Some ty, s) = (ty, s)
or_any k r (None, s) = (any_type, note k r s)

-- ---- what nodes show
pub data Sort : Type 0 where
  hole : Sort
  spread : Sort
  plain : Sort

pub record Shown : Type 0 where
  pub sort : Sort
  pub span : Range
  -- T(e, c, r)
  pub rule : Bool → Bool → Typing
  -- what it is behind `...` in an array, by c; a spread shows here what stands behind it
  pub rest : Bool → Typing
  -- the key of a member that it is in brackets, and whether it is computed still
  pub key : Option (Bool × Expr)
  -- it as the name of a type, and as a key of a type in brackets
  pub entity : Option TsEntityName
  pub type_key : Option TsKey
  -- an enum keeps it as an initialiser
  pub starts_enum : Bool
  -- it is `Object`, `Symbol` of no scope; `Object.freeze`
  pub is_object : Bool
  pub is_symbol : Bool
  pub is_freeze : Bool

pub record ShownPat : Type 0 where
  -- it as a pattern in a type
  pub pattern : TsParamPat
  -- it as a parameter of a function's type
  pub as_type : Range → Run (Option TsFnParam)
  -- it as a parameter of a declaration
  pub declared : Run Pat
  pub span : Range

pub record ShownFunction : Type 0 where
  pub ty : Typing
  -- without its body; the parameters as they are, or by the rules; the result as it is or gone
  pub bare : Bool → Bool → Run Function
  pub span : Range

pub record ShownParam : Type 0 where
  pub as_type : Run (Option TsFnParam)
  pub declared : Run Param

pub record ShownClass : Type 0 where
  pub declared : Run Class
  pub span : Range

pub record ShownDecl : Type 0 where
  pub span : Range
  -- by whether it stands on the top
  pub declared : Bool → Run (Option Decl)
  -- behind `export default`
  pub defaulted : Run Decl
  pub is_function : Bool
  -- it goes as a statement of its own does: types and `using` stay as they are
  pub stays : Bool

abbrev pub ShownMember : Type 0
ShownMember = Run (Option ClassMember)

-- by c and r
abbrev pub ShownProp : Type 0
ShownProp = Bool → Bool → Run (Option TsTypeElement)

abbrev pub ShownDeclarator : Type 0
ShownDeclarator = Run VarDeclarator

abbrev pub ShownItem : Type 0
ShownItem = Bool → Run (List ModuleItem)

abbrev pub ShownStmt : Type 0
ShownStmt = Bool → Run (Option Stmt)

-- nodes with what each of their parts shows
abbrev pub Of : Kind → Type 0
Of K = K (ClassMember × ShownMember) (Decl × ShownDecl) (Expr × Shown) (ModuleDecl × ShownItem) (ModuleItem × ShownItem)
    (ObjectPatProp × Option TsPatProp) (Pat × ShownPat) (Prop × ShownProp) (Stmt × ShownStmt) (Class × ShownClass)
    (Function × ShownFunction) (Param × ShownParam) (SwitchCase × Unit {0}) (TsEnumMember × TsEnumMember)
    (VarDeclarator × ShownDeclarator)

-- an expression of this place without a type, and with no other meaning
abbrev pub nothing : Range → Shown
nothing span = record {
  sort = plain;
  span = span;
  rule = λ c r. untyped;
  rest = λ c. untyped;
  key = None;
  entity = None;
  type_key = None;
  starts_enum = false;
  is_object = false;
  is_symbol = false;
  is_freeze = false;
}

-- the same with a type
abbrev pub ruled : Range → (Bool → Bool → Typing) → Shown
ruled span rule = record (nothing span) { rule = rule }

-- ---- literals
abbrev pub by_const : Bool → TsType → TsType → TsType
by_const true literal wide = literal
by_const false literal wide = wide

abbrev pub lit_span : Lit → Range
lit_span (vLit.Null span) = span
lit_span (vLit.Bool value span) = span
lit_span (vLit.Num it) = it.span
lit_span (vLit.BigInt it) = it.span
lit_span (vLit.Str it) = it.span
lit_span (vLit.Regex it) = it.span

-- behind `-` or not; a `-` stands before a number or a BigInt alone
abbrev pub numeric_type : Bool → Lit → Range → Bool → Option TsType
numeric_type minus (vLit.Num it) span c = Some (by_const c (vType.Lit (vTsLit.Number minus it span)) (word keyword.Number))
numeric_type minus (vLit.BigInt it) span c = Some (by_const c (vType.Lit (vTsLit.BigInt minus it span)) (word keyword.BigInt))
numeric_type minus _ span c = None

abbrev pub lit_type : Lit → Bool → Option TsType
lit_type (vLit.Null span) c = Some (word keyword.Null)
lit_type (vLit.Bool value span) c = Some (by_const c (vType.Lit (vTsLit.Bool value span)) (word keyword.Boolean))
lit_type (vLit.Str it) c = Some (by_const c (vType.Lit (vTsLit.Str it)) (word keyword.String))
lit_type (vLit.Regex it) c = Some regexp_type
lit_type it c = numeric_type false it (lit_span it) c

abbrev pub lit_key : Lit → Option (Bool × Expr)
lit_key (vLit.Str it) = Some (false, vExpr.Lit (vLit.Str it))
lit_key (vLit.Num it) = Some (false, vExpr.Lit (vLit.Num it))
lit_key (vLit.BigInt it) = Some (false, vExpr.Lit (vLit.BigInt it))
lit_key _ = None

abbrev pub lit_type_key : Lit → Option TsKey
lit_type_key (vLit.Str it) = Some (vKey.ComputedStr it nowhere)
lit_type_key (vLit.Num it) = Some (vKey.ComputedNum it nowhere)
lit_type_key (vLit.BigInt it) = Some (vKey.ComputedBigInt it nowhere)
lit_type_key _ = None

abbrev pub lit_starts : Lit → Bool
lit_starts (vLit.Num it) = true
lit_starts (vLit.Str it) = true
lit_starts _ = false

abbrev pub shown_lit : Lit → Shown
shown_lit it = record (nothing (lit_span it)) {
  rule = λ c r. give (lit_type it c);
  key = lit_key it;
  type_key = lit_type_key it;
  starts_enum = lit_starts it;
}

-- ---- arrays
abbrev pub element : Bool → TsType → TsTupleElement
element rest ty = roll-TsTupleElement (record { rest = rest; label = None; ty = ty; optional = false; span = nowhere })

abbrev pub Elements : Type 0
Elements = Option (List TsTupleElement) × State

abbrev pub rest_more : List TsTupleElement → Range → Option TsType × State → Elements
rest_more els span (Some ty, s) = (Some (els ++ element true ty ∷ []), s)
rest_more els span (None, s) = (None, note kind.UnableToInferTypeFromSpread span s)

abbrev pub plain_more : List TsTupleElement → TsType × State → Elements
plain_more els p = (Some (els ++ element false p.0 ∷ []), p.1)

abbrev pub element_more : Bool → Bool → List TsTupleElement → State → Sort → Shown → Elements
element_more c r els s hole e = (Some (els ++ element false any_type ∷ []), s)
element_more c r els s spread e = rest_more els e.span (e.rest c s)
element_more c r els s plain e = plain_more els (or_any kind.UnableToInferType e.span (e.rule c r s))

abbrev pub element_step : Bool → Bool → Elements → Expr × Shown → Elements
element_step c r (None, s) e = (None, s)
element_step c r (Some els, s) e = element_more c r els s e.1.sort e.1

abbrev pub array_type : Bool → Bool → List (Expr × Shown) → Typing
array_type c r es s =
    after (option_map (λ els. if_readonly r (vType.Tuple els nowhere))) (fold (element_step c r) (Some [], s) es)

-- ---- objects
abbrev pub object_type : Bool → Bool → List (Prop × ShownProp) → Typing
object_type c r props s =
    after (λ members. Some (vType.TypeLit (some members) nowhere)) (in_turn (λ p. p.1 c r) props s)

-- ---- parameters of types
abbrev pub fn_param : Bool → Bool → Range → TsParamPat → Option TsType → TsFnParam
fn_param rest mark span pat ty = roll-TsFnParam (record {
  rest = rest;
  pat = pat;
  optional = mark;
  type_ann = ty;
  span = span;
})

abbrev pub type_params_in : Option TsPart → Option (Nodes TsTypeParam)
type_params_in (Some (vPart.TypeParams ps)) = Some ps
type_params_in _ = None

abbrev pub or_any_type : Option TsType → TsType
or_any_type (Some ty) = ty
or_any_type None = any_type

abbrev pub type_or : Option TsPart → TsType → Option TsPart
type_or (Some part) ty = Some part
type_or None ty = annotation ty

-- a name in a type, which says itself whether `?` stands behind it
abbrev pub marked : Bool → Ident → Ident
marked mark id = record { sym = id.sym; ctxt = id.ctxt; optional = mark; span = id.span }

-- ---- what a program knows
pub record Env : Type 0 where
  pub number : Numbers
  pub unresolved : ℕ
  pub sets : Sets
  -- the item or member of this range has the body of overloads
  pub implements : Range → Bool
  -- `_dts_1` and so on
  pub name : ℕ → List ℕ

abbrev pub symbols : List (List ℕ)
symbols =
    codes "asyncDispose" ∷ codes "asyncIterator" ∷ codes "dispose" ∷ codes "hasInstance" ∷ codes "isConcatSpreadable" ∷
    codes "iterator" ∷ codes "match" ∷ codes "matchAll" ∷ codes "metadata" ∷ codes "replace" ∷ codes "search" ∷
    codes "species" ∷ codes "split" ∷ codes "toPrimitive" ∷ codes "toStringTag" ∷ codes "unscopables" ∷ []

abbrev pub is_one : List (List ℕ) → List ℕ → Bool
is_one [] sym = false
is_one (a ∷ others) sym = bytes_eq a sym || is_one others sym

abbrev pub is_plain_const : VarDeclKind → Bool
is_plain_const vKind.Using = false
is_plain_const vKind.AwaitUsing = false
is_plain_const _ = true

abbrev pub is_setter : MethodKind → Bool
is_setter vMethod.Setter = true
is_setter _ = false

abbrev pub is_number_by : TsType-F TsType TsTypeElement TsFnParam TsTupleElement TsTypeParam → Bool
is_number_by (TsType-F.Lit (vTsLit.Number minus num span)) = true
is_number_by _ = false

-- `as` a number literal type
abbrev pub is_number_type : Option TsType → Bool
is_number_type (Some ty) = is_number_by (out-TsType ty)
is_number_type None = false

abbrev pub all_of : {A : Type 0} → (A → Bool) → List A → Bool
all_of f [] = true
all_of f (a ∷ others) = f a && all_of f others

-- modifiers of a field without `declare`
abbrev pub undeclared : Modifiers → Modifiers
undeclared m = record {
  accessibility = m.accessibility;
  is_static = m.is_static;
  is_abstract = m.is_abstract;
  is_override = m.is_override;
  readonly = m.readonly;
  declare = false;
  accessor = m.accessor;
}

-- what a frozen value of a type is, where there is one
abbrev pub if_frozen : Option TsType → Option TsType
if_frozen (Some ty) = frozen ty
if_frozen None = None

module _ (env : Env) where
  -- ---- names
  abbrev pub is_free : Ident → Bool
  is_free id = env.number id.span == env.unresolved

  abbrev pub is_called : List ℕ → Ident → Bool
  is_called sym id = bytes_eq id.sym sym && is_free id

  abbrev pub free_type : Ident → Bool → Option TsType
  free_type id c =
      if c && bytes_eq id.sym (codes "undefined") then Some (word keyword.Undefined)
      else (if bytes_eq id.sym (codes "NaN") || bytes_eq id.sym (codes "Infinity") then Some (word keyword.Number)
      else None)

  abbrev pub name_type : Ident → Bool → Option TsType
  name_type id c =
      if is_free id then free_type id c
      else if_true (is_in env.sets.typeofs (id_of env.number id)) (typeof_name id)

  abbrev pub shown_name : Ident → Shown
  shown_name id = record (nothing id.span) {
    rule = λ c r. give (name_type id c);
    rest = λ c. give (if_true (is_in env.sets.arrays (id_of env.number id)) (typeof_name id));
    key = Some (true, vExpr.Ident id);
    entity = Some (entity_of id);
    type_key = Some (vKey.Entity (entity_of id) nowhere);
    starts_enum = true;
    is_object = is_called (codes "Object") id;
    is_symbol = is_called (codes "Symbol") id;
  }

  -- `this` begins the name of a type as well
  abbrev pub this_entity : Range → TsEntityName
  this_entity span = record { left = vThis.This span; rest = []; span = span }

  abbrev pub shown_this : Range → Shown
  shown_this span = record (nothing span) {
    entity = Some (this_entity span);
    type_key = Some (vKey.Entity (this_entity span) nowhere);
  }

  -- `a.b`: the name of a type, where `a` is one; a key, where it is a known symbol
  abbrev pub longer : Range → Ident → TsEntityName → TsEntityName
  longer span prop name = record { left = name.left; rest = name.rest ++ prop ∷ []; span = span }

  abbrev pub member_entity : Bool → Range → Ident → Option TsEntityName → Option TsEntityName
  member_entity true span prop name = option_map (longer span prop) name
  member_entity false span prop name = None

  abbrev pub entity_key : TsEntityName → TsKey
  entity_key name = vKey.Entity name nowhere

  -- dotted: neither `a?.b` nor `a.#b`
  abbrev pub shown_member : Bool → Expr → Expr × Shown → Ident → Range → Shown
  shown_member dotted whole obj prop span = record (nothing span) {
    key = if_true (dotted && (obj.1.is_symbol && is_one symbols prop.sym)) (true, whole);
    entity = member_entity dotted span prop obj.1.entity;
    type_key = option_map entity_key (member_entity dotted span prop obj.1.entity);
    starts_enum = obj.1.starts_enum;
    is_freeze = dotted && (obj.1.is_object && bytes_eq prop.sym (codes "freeze"));
  }

  -- ---- calls and `new`
  abbrev pub freeze_type : Shown → Bool → Bool → Typing
  freeze_type e c r s = after if_frozen (e.rule c r s)

  abbrev pub one_argument : Bool → Bool → Sort → Shown → Bool → Bool → Typing
  one_argument true false plain e c r = freeze_type e c r
  one_argument freeze mark sort e c r = untyped

  abbrev pub call_type : Shown → Bool → List (Expr × Shown) → Bool → Bool → Typing
  call_type callee mark (arg ∷ []) c r = one_argument callee.is_freeze mark arg.1.sort arg.1 c r
  call_type callee mark args c r = untyped

  abbrev pub new_type : Whole Expr-F → Option TsPart → Option TsType
  new_type (Expr-F.Expr::Ident id) None = if_true (is_in env.sets.plain (id_of env.number id)) (named_type id)
  new_type callee args = None

  -- ---- `-`
  abbrev pub minus_type : UnaryOp → Whole Expr-F → Range → Bool → Option TsType
  minus_type vUnary.Minus (Expr-F.Lit it) span c = numeric_type true it span c
  minus_type op arg span c = None

  -- ---- expressions
  abbrev pub in_expr : Of Expr-F → Shown
  in_expr (Expr-F.Expr::This span) = shown_this span
  in_expr (Expr-F.Super span) = nothing span
  in_expr (Expr-F.Expr::Ident id) = shown_name id
  in_expr (Expr-F.PrivateName id) = nothing id.span
  in_expr (Expr-F.Lit it) = shown_lit it
  in_expr (Expr-F.Expr::Hole span) = record (nothing span) { sort = hole }
  in_expr (Expr-F.Expr::Array elems span) =
      record (nothing span) { rule = λ c r. array_type c r elems; rest = λ c. array_type c false elems }
  in_expr (Expr-F.Expr::Spread expr span) = record (nothing span) { sort = spread; rest = expr.1.rest }
  in_expr (Expr-F.Expr::Object props span) = ruled span (λ c r. object_type c r props)
  in_expr (Expr-F.Expr::Fn it) = ruled it.1.span (λ c r. it.1.ty)
  in_expr (Expr-F.Expr::Class it) = nothing it.1.span
  in_expr (Expr-F.Arrow it) = ruled it.1.span (λ c r. it.1.ty)
  in_expr (Expr-F.Paren expr span) = record (nothing span) { key = expr.1.key; starts_enum = expr.1.starts_enum }
  in_expr (Expr-F.Unary op arg span) = ruled span (λ c r. give (minus_type op (out-Expr arg.0) span c))
  in_expr (Expr-F.Update op prefix arg span) = nothing span
  in_expr (Expr-F.Await arg span) = nothing span
  in_expr (Expr-F.Yield delegate arg span) = nothing span
  in_expr (Expr-F.Bin op left right span) = record (nothing span) { starts_enum = left.1.starts_enum && right.1.starts_enum }
  in_expr (Expr-F.Expr::Assign op left right span) = nothing span
  in_expr (Expr-F.Cond test cons alt span) = nothing span
  in_expr (Expr-F.Seq exprs span) = nothing span
  in_expr (Expr-F.Member obj mark hidden prop span) =
      shown_member (not (mark || hidden)) (vExpr.Member obj.0 mark hidden prop span) obj prop span
  in_expr (Expr-F.Index obj mark prop span) = record (nothing span) { starts_enum = obj.1.starts_enum }
  in_expr (Expr-F.Call callee mark type_args args span) = ruled span (call_type callee.1 mark args)
  in_expr (Expr-F.New callee type_args has_args args span) =
      ruled span (λ c r. give (new_type (out-Expr callee.0) type_args))
  in_expr (Expr-F.ImportCall phase args span) = nothing span
  in_expr (Expr-F.ImportMeta span) = nothing span
  in_expr (Expr-F.NewTarget span) = nothing span
  in_expr (Expr-F.Tpl quasis exprs span) = record (nothing span) {
    rule = λ c r. give (Some (word keyword.String));
    starts_enum = all_of (λ e. e.1.starts_enum) exprs;
  }
  in_expr (Expr-F.TaggedTpl tag type_args tpl span) = nothing span
  in_expr (Expr-F.TsNonNull expr span) = record (nothing span) { key = expr.1.key }
  in_expr (Expr-F.TsAs expr ty span) = record (nothing span) {
    rule = λ c r. give (type_in ty);
    key = expr.1.key;
    starts_enum = is_number_type (type_in ty);
  }
  in_expr (Expr-F.TsConstAssertion expr span) =
      record (nothing span) { rule = λ c r. expr.1.rule true true; key = expr.1.key }
  in_expr (Expr-F.TsSatisfies expr ty span) = record (nothing span) { rule = expr.1.rule; key = expr.1.key }

  -- ---- properties of objects: a member of the type, or none
  abbrev pub key_value : Bool → Bool → Option TsKey → Shown → Range → Run (Option TsTypeElement)
  key_value c r (Some key) e span s =
      after (λ ty. Some (vMember.PropertySignature r key false (Some ty) nowhere))
      (or_any kind.UnableToInferTypeFallbackAny e.span (e.rule c r s))
  key_value c r None e span s = (None, note kind.UnableToInferTypeFromProp span s)

  -- a word or a string is kept; a number and a BigInt are put in brackets
  abbrev pub type_key : Bool → Whole Expr-F → Shown → Option TsKey
  type_key false (Expr-F.Expr::Ident id) e = Some (vKey.Ident id)
  type_key false (Expr-F.Lit (vLit.Str it)) e = Some (vKey.Str it)
  type_key computed key e = e.type_key

  -- a key made of a shorthand has the place of its name
  abbrev pub shorthand : Bool → Ident → Option TsType → Run (Option TsTypeElement)
  shorthand r id (Some ty) s =
      (Some (vMember.PropertySignature r (vKey.Ident (marked false id)) false (Some ty) nowhere), s)
  shorthand r id None s = (None, note kind.UnableToInferTypeFromProp id.span s)

  abbrev pub in_prop : Of Prop-F → ShownProp
  in_prop (Prop-F.Prop::Spread expr span) c r = λ s. (None, note kind.UnableToInferTypeFromSpread span s)
  in_prop (Prop-F.Shorthand id) c r = shorthand r id (name_type id c)
  in_prop (Prop-F.Prop::KeyValue computed key value span) c r =
      key_value c r (type_key computed (out-Expr key.0) key.1) value.1 span
  in_prop (Prop-F.Prop::Method k computed key function span) c r = λ s. (None, note kind.UnableToInferTypeFromProp span s)

  -- ---- patterns
  -- a default gives its type to a name, or to a made name, which is drawn behind it; without a type the parameter goes
  abbrev pub default_name : Whole Pat-F → State → Ident × State
  default_name (Pat-F.Pat::Ident id ty span) s = (marked false id, s)
  default_name pat s = (made_name (env.name (s.made + 1)), drawn s)

  abbrev pub defaulted : Whole Pat-F → Option TsType × State → Option TsFnParam × State
  defaulted left (Some ty, s) =
      after (λ name. Some (fn_param false false nowhere (vTsPat.Ident name) (Some ty))) (default_name left s)
  defaulted left (None, s) = (None, s)

  -- what a pattern with a default is in a declaration: it becomes optional, and has the type of the default
  abbrev pub part_of : TsType → Option TsPart
  part_of ty = annotation ty

  abbrev pub typed_by : Option TsPart → Shown → Run (Option TsPart)
  typed_by (Some part) e s = (Some part, s)
  typed_by None e s = after part_of (or_any kind.UnableToInferTypeFallbackAny e.span (e.rule false false s))

  abbrev pub optional_by : Pat → Whole Pat-F → Shown → Run Pat
  optional_by whole (Pat-F.Pat::Ident id ty span) e s =
      after (λ part. vPat.Ident (marked true id) part span) (typed_by ty e s)
  optional_by whole (Pat-F.Pat::Array elems mark ty span) e s =
      after (λ part. vPat.Array elems true part span) (typed_by ty e s)
  optional_by whole (Pat-F.Pat::Object props mark ty span) e s =
      after (λ part. vPat.Object props true part span) (typed_by ty e s)
  optional_by whole left e s = (whole, s)

  -- a name without a type is `any`
  abbrev pub name_or_any : Ident → Option TsPart → Range → Run Pat
  name_or_any id (Some part) span s = (vPat.Ident id (Some part) span, s)
  name_or_any id None span s =
      (vPat.Ident id (annotation any_type) span, note kind.UnableToInferTypeFallbackAny id.span s)

  abbrev pub in_pat : Of Pat-F → ShownPat
  in_pat (Pat-F.Pat::Ident id ty span) = record {
    pattern = vTsPat.Ident id;
    as_type = λ place. give (Some (fn_param false id.optional place (vTsPat.Ident id) (type_in ty)));
    declared = name_or_any id ty span;
    span = span;
  }
  in_pat (Pat-F.Pat::This ty span) = record {
    pattern = vTsPat.This span;
    as_type = λ place. give (Some (fn_param false false place (vTsPat.This span) (type_in ty)));
    declared = give (vPat.This ty span);
    span = span;
  }
  in_pat (Pat-F.Pat::Hole span) = record {
    pattern = vTsPat.Hole span;
    as_type = λ place. give None;
    declared = give (vPat.Hole span);
    span = span;
  }
  in_pat (Pat-F.Pat::Array elems mark ty span) = record {
    pattern = vTsPat.Array (map (λ e. e.1.pattern) elems) span;
    as_type = λ place. give (Some (fn_param false mark place (vTsPat.Array (map (λ e. e.1.pattern) elems) span) (type_in ty)));
    declared = give (vPat.Array (map (λ e. e.0) elems) mark ty span);
    span = span;
  }
  in_pat (Pat-F.Pat::Object props mark ty span) = record {
    pattern = vTsPat.Object (some (map (λ p. p.1) props)) span;
    as_type = λ place.
        give (Some (fn_param false mark place (vTsPat.Object (some (map (λ p. p.1) props)) span) (type_in ty)));
    declared = give (vPat.Object (map (λ p. p.0) props) mark ty span);
    span = span;
  }
  in_pat (Pat-F.Pat::Rest arg ty span) = record {
    pattern = vTsPat.Rest arg.1.pattern span;
    as_type = λ place. give (Some (fn_param true false place arg.1.pattern (type_in ty)));
    declared = give (vPat.Rest arg.0 ty span);
    span = span;
  }
  in_pat (Pat-F.Pat::Assign left right span) = record {
    pattern = left.1.pattern;
    as_type = λ place s. defaulted (out-Pat left.0) (right.1.rule false false s);
    declared = optional_by (vPat.Assign left.0 right.0 span) (out-Pat left.0) right.1;
    span = span;
  }
  in_pat (Pat-F.Pat::Expr it) = record {
    pattern = vTsPat.Hole it.1.span;
    as_type = λ place. give None;
    declared = give (vPat.Expr it.0);
    span = it.1.span;
  }

  abbrev pub pattern_key : Bool → Whole Expr-F → Option TsKey
  pattern_key false (Expr-F.Expr::Ident id) = Some (vKey.Ident id)
  pattern_key false (Expr-F.Lit (vLit.Str it)) = Some (vKey.Str it)
  pattern_key false (Expr-F.Lit (vLit.Num it)) = Some (vKey.Num it)
  pattern_key computed key = None

  abbrev pub in_pat_prop : Of ObjectPatProp-F → Option TsPatProp
  in_pat_prop (ObjectPatProp-F.ObjectPatProp::KeyValue computed key value span) =
      option_map (λ key. vTsProp.KeyValue key value.1.pattern span) (pattern_key computed (out-Expr key.0))
  in_pat_prop (ObjectPatProp-F.ObjectPatProp::Assign key value span) = Some (vTsProp.Shorthand key)
  in_pat_prop (ObjectPatProp-F.ObjectPatProp::Rest arg span) = Some (vTsProp.Rest arg.1.pattern span)

  -- a property of the class; where its pattern is no name and has a default, it stays as it is
  abbrev pub is_there : Accessibility → Bool
  is_there vAccess.Absent = false
  is_there _ = true

  abbrev pub is_property : Modifiers → Bool
  is_property m = is_there m.accessibility || (m.readonly || m.is_override)

  abbrev pub is_name : Whole Pat-F → Bool
  is_name (Pat-F.Pat::Ident id ty span) = true
  is_name _ = false

  abbrev pub is_defaulted_pattern : Whole Pat-F → Bool
  is_defaulted_pattern (Pat-F.Pat::Assign left right span) = not (is_name (out-Pat left))
  is_defaulted_pattern _ = false

  abbrev pub param_pat : Bool → Pat × ShownPat → Run Pat
  param_pat true pat = give pat.0
  param_pat false pat = pat.1.declared

  abbrev pub in_param : Of Param-F → ShownParam
  in_param it = record {
    as_type = it.pat.1.as_type it.span;
    declared = λ s.
        after (λ pat. roll-Param (record { modifiers = it.modifiers; pat = pat; span = it.span }))
        (param_pat (is_property it.modifiers && is_defaulted_pattern (out-Pat it.pat.0)) it.pat s);
  }

  -- ---- functions
  abbrev pub function_type : Of Function-F → Typing
  function_type it s =
      after (λ params. Some (vType.Fn (type_params_in it.type_params) (some params) (or_any_type (type_in it.return_type)) nowhere))
      (in_turn (λ p. p.1.as_type) it.params s)

  abbrev pub params_by : Bool → List (Param × ShownParam) → Run (List Param)
  params_by true params = in_turn (λ p. p.1.declared) params
  params_by false params = give (map (λ p. p.0) params)

  abbrev pub unless : {A : Type 0} → Bool → Option A → Option A
  unless true a = None
  unless false a = a

  abbrev pub in_function : Of Function-F → ShownFunction
  in_function it = record {
    ty = function_type it;
    bare = λ ruled setter s.
        after (λ params. roll-Function (record {
          ident = it.ident;
          is_async = it.is_async;
          is_generator = it.is_generator;
          type_params = it.type_params;
          params = params;
          return_type = unless setter it.return_type;
          body = None;
          span = it.span;
        })) (params_by ruled it.params s);
    span = it.span;
  }
