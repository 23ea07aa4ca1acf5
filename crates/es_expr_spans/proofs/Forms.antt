-- What holds of the expression that a node becomes, by its alternative: what holds of each of its forms.
use Rattle.std.specs.Prelude.{ℕ, ◌+◌, Bool, true, false, List, [], ◌∷◌, ◌++◌, Option, Some, None, option_map, if◌then◌else◌}
use Rattle.std.proofs.Common.{◌≡◌, refl, ap, ◌∙◌}
use Rattle.base.specs.declared.range.Range.{Range}
use Rattle.es_token.specs.declared.token.Token.{Token}
use Rattle.es_token.specs.declared.token.TokenKind.{TokenKind}
use Rattle.es_token.specs.declared.token.TokenKind.TheVariants as k
use Rattle.grammar_theory.specs.Key.{same_kind}
use Rattle.es_ast.specs.declared.ts.leaf.TplElement.{TplElement}
use Rattle.es_ast.specs.declared.ts.ts.TsPart.{TsPart}
use Rattle.es_ast.specs.declared.ts.ts.TsPart.TheVariants as vPart
use Rattle.es_ast.specs.declared.ts.ts.TsType.{TsType}
use Rattle.es_ast.specs.declared.leaf.AssignOp.{AssignOp}
use Rattle.es_ast.specs.declared.leaf.AssignOp.TheVariants as vAssign
use Rattle.es_ast.specs.declared.leaf.BinaryOp.{BinaryOp}
use Rattle.es_ast.specs.declared.leaf.BinaryOp.TheVariants as vBinary
use Rattle.es_ast.specs.declared.leaf.ImportPhase.{ImportPhase}
use Rattle.es_ast.specs.declared.leaf.Lit.TheVariants as vLit
use Rattle.es_ast.specs.declared.leaf.UnaryOp.{UnaryOp}
use Rattle.es_ast.specs.declared.leaf.UpdateOp.{UpdateOp}
use Rattle.es_ast.specs.declared.ast.Class.{Class, roll-Class, out-Class, out-roll-Class}
use Rattle.es_ast.specs.declared.ast.Expr.{Expr}
use Rattle.es_ast.specs.declared.ast.Expr.TheVariants as vExpr
use Rattle.es_ast.specs.declared.ast.Function.{Function, roll-Function, out-Function, out-roll-Function}
use Rattle.es_ast.specs.declared.ast.Pat.{Pat}
use Rattle.es_ast.specs.declared.ast.Pat.TheVariants as vPat
use Rattle.es_ast.specs.declared.ast.Prop.{Prop}
use Rattle.es_ast.specs.declared.ast.ClassMember.TheOpen.{Class-F, Function-F}
use Rattle.es_site.specs.Parts.{Whole}
use Rattle.es_lowering.specs.Value.{Value, more, nil, absent, token, node, part, group, is_there, given, optional, option_list, turns, expr_at, args_at, pat_at, prop_at, member_at, params_at, signature_at, stmt_at, behind, first_of}
use Rattle.es_lowering.specs.Operators.{listed, unary_ops, update_ops, binary_between, assign_between}
use Rattle.es_lowering.specs.Texts.{kind_at, token_at, private_at, piece_there, own_name_at}
use Rattle.es_lowering.specs.TypedParts.{args_part_at, params_part_at, annotation_at, heritage_in, body_in}
use Rattle.es_lowering.specs.Expressions as exprs
use Rattle.es_lowering.specs.TypedExpressions as typed_exprs
use Rattle.es_lowering.specs.Functions as functions
use Rattle.es_lowering.specs.TypedFunctions as typed_functions
use Rattle.es_lowering.specs.Classes as classes
use Rattle.es_expr_spans.proofs.Given.{Of, one, none, of_given, of_mapped, of_known, of_if}

module _ (P : Expr → Type 0) (x : List ℕ) (ts : List Token) (r : Range) where
  pub word : P (vExpr.This r) → P (vExpr.Lit (vLit.Null r)) → ((b : Bool) → P (vExpr.Lit (vLit.Bool b r)))
      → (p : Value) → Of P (exprs.word ts r p)
  unfolding exprs.word exprs.word_of
  word this null bool p =
      of_given P (kind_at ts p 0) (λ kind.
      of_if P (same_kind kind k.ThisWord) (one P this)
      (of_if P (same_kind kind k.NullWord) (one P null)
      (of_if P (same_kind kind k.TrueWord) (one P (bool true))
      (of_if P (same_kind kind k.FalseWord) (one P (bool false)) (none P)))))

  pub template : ((quasis : List TplElement) (es : List Expr) → P (vExpr.Tpl quasis es r))
      → (p : Value) → Of P (exprs.template x ts r p)
  unfolding exprs.template
  template each p = of_mapped P (piece_there x ts p 0) (λ piece. each (piece ∷ []) [])

  pub template_parts : ((quasis : List TplElement) (es : List Expr) → P (vExpr.Tpl quasis es r))
      → (p : Value) → Of P (exprs.template_parts x ts r p)
  unfolding exprs.template_parts
  template_parts each p =
      of_given P (piece_there x ts p 0) (λ head.
      of_given P (expr_at p 1) (λ first.
      of_given P (turns (λ turn. piece_there x ts turn 0) (group p 2)) (λ middles.
      of_given P (turns (λ turn. expr_at turn 1) (group p 2)) (λ others.
      of_given P (piece_there x ts p 3) (λ tail. one P (each (head ∷ (middles ++ tail ∷ [])) (first ∷ others)))))))

  pub parenthesized : ((e : Expr) → P (vExpr.Paren e r)) → (p : Value) → Of P (exprs.parenthesized r p)
  unfolding exprs.parenthesized
  parenthesized each p = of_mapped P (expr_at p 0) each

  pub array_literal : ((elems : List Expr) → P (vExpr.Array elems r)) → (from : ℕ) (p : Value)
      → Of P (exprs.array_literal ts from r p)
  unfolding exprs.array_literal
  array_literal each from p = of_mapped P (exprs.elements vExpr.Hole expr_at ts (from + 1) (group p 0)) each

  pub object_literal : ((props : List Prop) → P (vExpr.Object props r)) → (p : Value) → Of P (exprs.object_literal r p)
  unfolding exprs.object_literal
  object_literal each p = of_mapped P (turns (λ turn. prop_at turn 0) (group p 0)) each

  pub spread : ((e : Expr) → P (vExpr.Spread e r)) → (p : Value) → Of P (exprs.spread r p)
  unfolding exprs.spread
  spread each p = of_mapped P (expr_at p 0) each

  -- ---- functions and classes, which have this range
  abbrev pub FunctionIs : Function → Type 0
  FunctionIs f = (out-Function f).span ≡ r

  abbrev pub ClassIs : Class → Type 0
  ClassIs c = (out-Class c).span ≡ r

  function_is : (w : Whole Function-F) → w.span ≡ r → FunctionIs (roll-Function w)
  function_is w e = ap (λ (m : Whole Function-F). m.span) (out-roll-Function w) ∙ e

  class_is : (w : Whole Class-F) → w.span ≡ r → ClassIs (roll-Class w)
  class_is w e = ap (λ (m : Whole Class-F). m.span) (out-roll-Class w) ∙ e

  pub function : ((f : Function) → FunctionIs f → P (vExpr.Fn f)) → (is_async : Bool) (p : Value)
      → Of P (option_map vExpr.Fn (functions.function x ts is_async r p))
  unfolding functions.function
  function each is_async p =
      of_known P FunctionIs (functions.function x ts is_async r p)
      (of_given FunctionIs (own_name_at x ts p 1) (λ name.
      of_given FunctionIs (params_at p 2) (λ params.
      of_given FunctionIs (stmt_at p 3) (λ body. one FunctionIs (function_is _ refl))))) each

  pub typed_function : ((f : Function) → FunctionIs f → P (vExpr.Fn f)) → (is_async : Bool) (p : Value)
      → Of P (option_map vExpr.Fn (typed_functions.typed_function x ts is_async r p))
  unfolding typed_functions.typed_function
  typed_function each is_async p =
      of_known P FunctionIs (typed_functions.typed_function x ts is_async r p)
      (of_given FunctionIs (own_name_at x ts p 1) (λ name.
      of_given FunctionIs (signature_at p 2) (λ signature.
      of_given FunctionIs (body_in (group p 3)) (λ body. one FunctionIs (function_is _ refl))))) each

  pub class_ : ((c : Class) → ClassIs c → P (vExpr.Class c)) → (p : Value)
      → Of P (option_map vExpr.Class (classes.class_ x ts r p))
  unfolding classes.class_
  class_ each p =
      of_known P ClassIs (classes.class_ x ts r p)
      (of_given ClassIs (own_name_at x ts p 0) (λ name.
      of_given ClassIs (optional expr_at (group p 1)) (λ super_class.
      of_given ClassIs (turns (λ turn. member_at turn 0) (group p 2)) (λ members.
      one ClassIs (class_is (record {
        ident = name;
        is_abstract = false;
        type_params = None;
        super_class = super_class;
        super_type_args = None;
        implements = None;
        body = members;
        span = r;
      }) refl))))) each

  pub typed_class : ((c : Class) → ClassIs c → P (vExpr.Class c)) → (is_abstract : Bool) (p : Value)
      → Of P (option_map vExpr.Class (typed_functions.typed_class x ts is_abstract r p))
  unfolding typed_functions.typed_class
  typed_class each is_abstract p =
      of_known P ClassIs (typed_functions.typed_class x ts is_abstract r p)
      (of_given ClassIs (own_name_at x ts p 0) (λ name.
      of_given ClassIs (params_part_at p 1) (λ type_params.
      of_given ClassIs (optional expr_at (group p 2)) (λ super_class.
      of_given ClassIs (args_part_at (group p 2) 1) (λ super_type_args.
      of_given ClassIs (heritage_in ts (group p 3)) (λ implements.
      of_given ClassIs (turns (λ turn. member_at turn 0) (group p 4)) (λ members.
      one ClassIs (class_is (record {
        ident = name;
        is_abstract = is_abstract;
        type_params = type_params;
        super_class = super_class;
        super_type_args = super_type_args;
        implements = implements;
        body = members;
        span = r;
      }) refl)))))))) each

  pub name_arrow : ((f : Function) → FunctionIs f → P (vExpr.Arrow f)) → (is_async : Bool) (p : Value)
      → Of P (functions.name_arrow x ts is_async r p)
  unfolding functions.name_arrow
  name_arrow each is_async p =
      of_given P (token_at ts p 0) (λ t.
      of_given P (functions.body_of ts (part (group p 1) 0)) (λ body. one P (each _ (function_is _ refl))))

  pub parenthesized_arrow : ((f : Function) → FunctionIs f → P (vExpr.Arrow f)) → (is_async : Bool) (p : Value)
      → Of P (functions.parenthesized_arrow ts is_async r p)
  unfolding functions.parenthesized_arrow
  parenthesized_arrow each is_async p =
      of_given P (params_at p 0) (λ params.
      of_given P (functions.body_of ts (part (group p 1) 0)) (λ body. one P (each _ (function_is _ refl))))

  pub typed_arrow : ((f : Function) → FunctionIs f → P (vExpr.Arrow f)) → (is_async : Bool) (p : Value)
      → Of P (typed_functions.typed_arrow ts is_async r p)
  unfolding typed_functions.typed_arrow
  typed_arrow each is_async p =
      of_given P (params_part_at p 0) (λ type_params.
      of_given P (params_at p 1) (λ params.
      of_given P (annotation_at p 2) (λ result.
      of_given P (functions.body_of ts (part (group p 3) 0)) (λ body. one P (each _ (function_is _ refl))))))

  -- ---- calls
  pub import_call : ((phase : ImportPhase) (args : List Expr) → P (vExpr.ImportCall phase args r))
      → (phase : ImportPhase) (p : Value) → Of P (exprs.import_call phase r p)
  unfolding exprs.import_call
  import_call each phase p =
      of_given P (expr_at p 0) (λ first.
      of_given P (optional expr_at (group p 1)) (λ second. one P (each phase (first ∷ option_list second))))

  pub new_ : ((callee : Expr) (type_args : Option TsPart) (has_args : Bool) (args : List Expr)
      → P (vExpr.New callee type_args has_args args r)) → (p : Value) → Of P (exprs.new_ r p)
  unfolding exprs.new_
  new_ each p =
      of_given P (expr_at p 0) (λ callee. of_given P (optional args_at (group p 1)) (λ args. one P (made callee args)))
    where
      made : (callee : Expr) (args : Option (List Expr)) → P (exprs.new_of r callee args)
      made callee (Some args) = each callee None true args
      made callee None = each callee None false []

  pub typed_new : ((callee : Expr) (type_args : Option TsPart) (has_args : Bool) (args : List Expr)
      → P (vExpr.New callee type_args has_args args r)) → (p : Value) → Of P (typed_exprs.typed_new r p)
  unfolding typed_exprs.typed_new
  typed_new each p =
      of_given P (expr_at p 0) (λ callee.
      of_given P (args_part_at p 1) (λ type_args.
      of_given P (optional args_at (group p 2)) (λ args. one P (made callee type_args args))))
    where
      made : (callee : Expr) (type_args : Option TsPart) (args : Option (List Expr))
          → P (typed_exprs.typed_new_of r callee type_args args)
      made callee type_args (Some args) = each callee type_args true args
      made callee type_args None = each callee type_args false []

  -- ---- operators
  pub update_prefix : ((op : UpdateOp) (prefix : Bool) (arg : Expr) → P (vExpr.Update op prefix arg r))
      → (p : Value) → Of P (exprs.update_prefix ts r p)
  unfolding exprs.update_prefix
  update_prefix each p =
      of_given P (given (kind_at ts p 0) (listed update_ops))
      (λ op. of_given P (expr_at p 1) (λ arg. one P (each op true arg)))

  pub update_postfix : ((op : UpdateOp) (prefix : Bool) (arg : Expr) → P (vExpr.Update op prefix arg r))
      → (p : Value) → Of P (exprs.update_postfix ts r p)
  unfolding exprs.update_postfix
  update_postfix each p =
      of_given P (expr_at p 0) (λ arg.
      of_given P (given (kind_at ts p 1) (listed update_ops)) (λ op. one P (each op false arg)))

  pub prefix : ((op : UnaryOp) (arg : Expr) → P (vExpr.Unary op arg r)) → (p : Value) → Of P (exprs.prefix ts r p)
  unfolding exprs.prefix
  prefix each p =
      of_given P (given (kind_at ts p 0) (listed unary_ops))
      (λ op. of_given P (expr_at p 1) (λ arg. one P (each op arg)))

  pub await_ : ((arg : Expr) → P (vExpr.Await arg r)) → (p : Value) → Of P (exprs.await_ r p)
  unfolding exprs.await_
  await_ each p = of_mapped P (expr_at p 0) each

  pub binary : ((op : BinaryOp) (left right : Expr) → P (vExpr.Bin op left right r)) → (p : Value)
      → Of P (exprs.binary ts r p)
  unfolding exprs.binary
  binary each p =
      of_given P (expr_at p 0) (λ left.
      of_given P (binary_between ts (behind (part p 0)) (first_of (part p 2))) (λ op.
      of_given P (expr_at p 2) (λ right. one P (each op left right))))

  pub private_in : ((op : BinaryOp) (left right : Expr) → P (vExpr.Bin op left right r)) → (p : Value)
      → Of P (exprs.private_in x ts r p)
  unfolding exprs.private_in
  private_in each p =
      of_given P (private_at x ts p 0) (λ name.
      of_given P (expr_at p 1) (λ right. one P (each vBinary.In (vExpr.PrivateName name) right)))

  pub conditional : ((test cons alt : Expr) → P (vExpr.Cond test cons alt r)) → (p : Value)
      → Of P (exprs.conditional r p)
  unfolding exprs.conditional
  conditional each p =
      of_given P (expr_at p 0) (λ test.
      of_given P (expr_at p 1) (λ cons. of_given P (expr_at p 2) (λ alt. one P (each test cons alt))))

  pub assignment : ((op : AssignOp) (left : Pat) (right : Expr) → P (vExpr.Assign op left right r)) → (p : Value)
      → Of P (exprs.assignment ts r p)
  unfolding exprs.assignment
  assignment each p =
      of_given P (expr_at p 0) (λ left.
      of_given P (assign_between ts (behind (part p 0)) (first_of (part p 2))) (λ op.
      of_given P (expr_at p 2) (λ right. one P (each op (vPat.Expr left) right))))

  pub pattern_assignment : ((op : AssignOp) (left : Pat) (right : Expr) → P (vExpr.Assign op left right r))
      → (p : Value) → Of P (exprs.pattern_assignment r p)
  unfolding exprs.pattern_assignment
  pattern_assignment each p =
      of_given P (pat_at p 0) (λ left. of_given P (expr_at p 1) (λ right. one P (each vAssign.Assign left right)))

  pub yield_ : ((delegate : Bool) (arg : Option Expr) → P (vExpr.Yield delegate arg r)) → (p : Value)
      → Of P (exprs.yield_ r p)
  unfolding exprs.yield_
  yield_ each p = made (group p 0)
    where
      made : (g : Value) → Of P (exprs.yield_of r g)
      made (more v vs) =
          of_mapped P (expr_at (more v vs) 1) (λ arg. each (is_there (group (more v vs) 0)) (Some arg))
      made nil = one P (each false None)
      made absent = one P (each false None)
      made (token n) = one P (each false None)
      made (node from to m) = one P (each false None)

  pub sequence : ((exprs : List Expr) → P (vExpr.Seq exprs r)) → (p : Value) → Of P (exprs.sequence r p)
  unfolding exprs.sequence
  sequence each p =
      of_given P (expr_at p 0) (λ first.
      of_given P (expr_at p 1) (λ second.
      of_given P (turns (λ turn. expr_at turn 0) (group p 2)) (λ others. one P (each (first ∷ second ∷ others)))))

  -- ---- `as`, `satisfies` and the operators of their level: of an operand before
  asserted : (e : Expr) → ((ty : Option TsPart) → P (vExpr.TsAs e ty r))
      → ((ty : Option TsPart) → P (vExpr.TsSatisfies e ty r)) → (b : Bool) (ty : TsType)
      → P (if b then vExpr.TsAs e (Some (vPart.TypeAnn ty)) r else vExpr.TsSatisfies e (Some (vPart.TypeAnn ty)) r)
  asserted e as_ satisfies true ty = as_ (Some (vPart.TypeAnn ty))
  asserted e as_ satisfies false ty = satisfies (Some (vPart.TypeAnn ty))

  asserted_by : (e : Expr) → P (vExpr.TsConstAssertion e r) → ((ty : Option TsPart) → P (vExpr.TsAs e ty r))
      → ((ty : Option TsPart) → P (vExpr.TsSatisfies e ty r)) → (kind : TokenKind) (v : Value)
      → Of P (typed_exprs.asserted_by r e kind v)
  asserted_by e const as_ satisfies kind (token n) = one P const
  asserted_by e const as_ satisfies kind (node from to m) =
      of_mapped P m.ts_type (λ ty. asserted e as_ satisfies (same_kind kind k.AsWord) ty)
  asserted_by e const as_ satisfies kind absent = none P
  asserted_by e const as_ satisfies kind nil = none P
  asserted_by e const as_ satisfies kind (more v vs) = none P

  -- before an operand: a type or `const`
  before_by : (e : Expr) → P (vExpr.TsConstAssertion e r) → ((ty : Option TsPart) → P (vExpr.TsAs e ty r)) → (v : Value)
      → Of P (typed_exprs.asserted_by r e k.AsWord v)
  before_by e const as_ (token n) = one P const
  before_by e const as_ (node from to m) = of_mapped P m.ts_type (λ ty. as_ (Some (vPart.TypeAnn ty)))
  before_by e const as_ absent = none P
  before_by e const as_ nil = none P
  before_by e const as_ (more v vs) = none P

  pub type_assertion : ((e : Expr) → P (vExpr.TsConstAssertion e r))
      → ((e : Expr) (ty : Option TsPart) → P (vExpr.TsAs e ty r)) → (p : Value) → Of P (typed_exprs.type_assertion r p)
  unfolding typed_exprs.type_assertion
  type_assertion const as_ p =
      of_given P (expr_at p 1) (λ e. before_by e (const e) (as_ e) (part (group p 0) 0))

  operand : (e : Expr) → ((op : BinaryOp) (right : Expr) → P (vExpr.Bin op e right r)) → (from : ℕ) (g v : Value)
      → Of P (given (binary_between ts from (first_of v)) (λ op. given (expr_at g 1) (λ right.
      Some (vExpr.Bin op e right r))))
  operand e bin from g v =
      of_given P (binary_between ts from (first_of v)) (λ op. of_given P (expr_at g 1) (λ right. one P (bin op right)))

  pub turned_by : (e : Expr) → P (vExpr.TsConstAssertion e r) → ((ty : Option TsPart) → P (vExpr.TsAs e ty r))
      → ((ty : Option TsPart) → P (vExpr.TsSatisfies e ty r))
      → ((op : BinaryOp) (right : Expr) → P (vExpr.Bin op e right r))
      → (from : ℕ) (g v : Value) → Of P (typed_exprs.turned_by ts r e from g v)
  turned_by e const as_ satisfies bin from g (more v vs) =
      of_given P (kind_at ts g 0) (λ kind. asserted_by e const as_ satisfies kind v)
  turned_by e const as_ satisfies bin from g absent = operand e bin from g absent
  turned_by e const as_ satisfies bin from g nil = operand e bin from g nil
  turned_by e const as_ satisfies bin from g (token n) = operand e bin from g (token n)
  turned_by e const as_ satisfies bin from g (node first to m) = operand e bin from g (node first to m)

  pub typed_binary : ((e : Expr) → P (vExpr.TsConstAssertion e r))
      → ((e : Expr) (ty : Option TsPart) → P (vExpr.TsAs e ty r))
      → ((e : Expr) (ty : Option TsPart) → P (vExpr.TsSatisfies e ty r))
      → ((op : BinaryOp) (left right : Expr) → P (vExpr.Bin op left right r)) → (p : Value)
      → Of P (typed_exprs.typed_binary ts r p)
  unfolding typed_exprs.typed_binary
  typed_binary const as_ satisfies bin p =
      of_given P (expr_at p 0) (λ left.
      turned_by left (const left) (as_ left) (satisfies left) (λ op right. bin op left right) (behind (part p 0))
      (group p 1) (part (group p 1) 1))
