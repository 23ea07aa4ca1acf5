-- What expressions tell.
use Rattle.std.specs.Prelude.{ℕ, ◌+◌, Bool, true, false, List, [], ◌∷◌, ◌++◌, Option, Some, None, option_map, if◌then◌else◌}
use Rattle.std.proofs.Common.{◌≡◌, refl, sym, ap, ◌∙◌}
use Rattle.dts_overloads.proofs.Laws.{or_assoc}
use Rattle.base.specs.declared.range.Range.{Range}
use Rattle.es_token.specs.declared.token.Token.{Token}
use Rattle.es_token.specs.declared.token.TokenKind.{TokenKind}
use Rattle.es_token.specs.declared.token.TokenKind.TheVariants as k
use Rattle.grammar_theory.specs.Key.{same_kind}
use Rattle.es_ast.specs.declared.ts.ts.TsPart.{TsPart}
use Rattle.es_ast.specs.declared.ts.ts.TsPart.TheVariants as vPart
use Rattle.es_ast.specs.declared.ts.ts.TsType.{TsType}
use Rattle.es_ast.specs.declared.leaf.Lit.TheVariants as vLit
use Rattle.es_ast.specs.declared.leaf.ImportPhase.{ImportPhase}
use Rattle.es_ast.specs.declared.leaf.AssignOp.{AssignOp}
use Rattle.es_ast.specs.declared.leaf.AssignOp.TheVariants as vAssign
use Rattle.es_ast.specs.declared.leaf.BinaryOp.TheVariants as vBinary
use Rattle.es_ast.specs.declared.ast.Expr.{Expr}
use Rattle.es_ast.specs.declared.ast.Expr.TheVariants as vExpr
use Rattle.es_ast.specs.declared.ast.Pat.TheVariants as vPat
use Rattle.es_lowering.specs.Value.{Value, Typed, given, part, as_group, group, option_list, first_of, behind, optional, is_there, turns, expr_at, pat_at, prop_at, args_at}
use Rattle.es_lowering.specs.Value as v
use Rattle.es_lowering.specs.Texts.{regex_of, span_of, token_at, kind_at, ident_at, private_at, str_at, numeric_at, piece_there}
use Rattle.es_lowering.specs.Operators.{listed, unary_ops, update_ops, assign_between, binary_between}
use Rattle.es_lowering.specs.Expressions.{elements, argument_of, argument, new_of, word_of, yield_of}
use Rattle.es_lowering.specs.Expressions as low
use Rattle.es_lowering.specs.TypedParts.{args_part_at}
use Rattle.es_lowering.specs.TypedExpressions.{typed_new_of, asserted_by, turned_by}
use Rattle.es_lowering.specs.TypedExpressions as typed
use Rattle.dts_overloads.specs.Among.{none, ◌∪◌, all_of, Among, if_some, of_expr}
use Rattle.dts_overloads.proofs.Equations as laws
use Rattle.dts_overloads.specs.declared.shapes.Group.TheVariants as gr
use Rattle.dts_overloads.specs.declared.shapes.Shape.TheVariants as sh
use Rattle.dts_overloads.specs.Met.{Told, both, Met, absent, nil, more, token, node, one, rows, met}
use Rattle.dts_overloads.proofs.Seen.{Sees, Adds, both_none, adds_moved, ends, alone, past, also, single, mapped, quiet, silent, skipped}
use Rattle.dts_overloads.proofs.Agrees.{Agree, nth, read, parts, parts_in, rows_are, in_list, met_group}
use Rattle.dts_overloads.proofs.Roles.{AgreeRow, inside, expr, pat, maybe_expr, maybe_args, exprs, props, second}
use Rattle.dts_overloads.proofs.Patterns.{list_among, elements_in}

-- ---- words
word_either : (b : Bool) (e : Expr) (o : Option Expr) → of_expr e ≡ none → Sees of_expr o (Some none)
    → Sees of_expr (if b then Some e else o) (Some none)
word_either true e o quiet s = silent e quiet
word_either false e o quiet s = s

word_sees : (r : Range) (kind : TokenKind) → Sees of_expr (word_of r kind) (Some none)
unfolding word_of
word_sees r kind =
    word_either (same_kind kind k.ThisWord) (vExpr.This r) _ (laws.expr_This r)
    (word_either (same_kind kind k.NullWord) (vExpr.Lit (vLit.Null r)) _ (laws.expr_Lit _)
    (word_either (same_kind kind k.TrueWord) (vExpr.Lit (vLit.Bool true r)) _ (laws.expr_Lit _)
    (word_either (same_kind kind k.FalseWord) (vExpr.Lit (vLit.Bool false r)) None (laws.expr_Lit _)
    (record { sees = tt }))))

-- ---- arguments
argument_among : (spread : Bool) (r : Range) (e : Expr) → of_expr (argument_of spread r e) ≡ of_expr e
argument_among true r e = laws.expr_Spread e r
argument_among false r e = refl

module _ (ts : List Token) where
  argument_sees : (u : Value) (w : Met) → Agree u w
      → Sees of_expr (argument ts (as_group u)) (met w (rows (sh.Skip ∷ sh.Node ∷ [])))
  argument_sees u w a =
      mapped (argument_of (is_there (group (as_group u) 0))
      (span_of ts (first_of (part (group (as_group u) 0) 0)) (behind (part (as_group u) 1))))
      (λ e. argument_among _ _ e) (expr_at (as_group u) 1) (second (as_group u) w (parts_in u w a))

  pub arguments_form : (p : Value) (q : Met) → AgreeRow p q
      → Sees (all_of of_expr) (low.arguments ts p) (read q (sh.Each gr.Second ∷ []))
  unfolding low.arguments
  arguments_form p q a =
      single _ _ (in_list of_expr (argument ts) (sh.Skip ∷ sh.Node ∷ []) argument_sees (part p 0) (nth q 0) (a 0))

-- ---- pieces of a template
piece_sees : (u : Value) (w : Met) → Agree u w
    → Sees of_expr (expr_at (as_group u) 1) (met w (rows (sh.Skip ∷ sh.Node ∷ [])))
piece_sees u w a = second (as_group u) w (parts_in u w a)

module _ (x : List ℕ) (ts : List Token) (p : Value) (q : Met) (a : AgreeRow p q) where
  -- ---- names and literals
  pub name_form : Sees of_expr (low.name x ts p) (Some none)
  unfolding low.name
  name_form = quiet vExpr.Ident (λ i. laws.expr_Ident i) (ident_at x ts p 0)

  pub word_form : (r : Range) → Sees of_expr (low.word ts r p) (Some none)
  unfolding low.word
  word_form r = skipped (kind_at ts p 0) (word_of r) (λ kind. word_sees r kind)

  pub number_form : Sees of_expr (low.number x ts p) (Some none)
  unfolding low.number
  number_form = quiet vExpr.Lit (λ l. laws.expr_Lit l) (numeric_at x ts p 0)

  pub str_form : Sees of_expr (low.str x ts p) (Some none)
  unfolding low.str
  str_form = quiet (λ s. vExpr.Lit (vLit.Str s)) (λ s. laws.expr_Lit _) (str_at x ts p 0)

  pub regexp_form : Sees of_expr (low.regexp x ts p) (Some none)
  unfolding low.regexp
  regexp_form = quiet (λ t. vExpr.Lit (vLit.Regex (regex_of x t))) (λ t. laws.expr_Lit _) (token_at ts p 0)

  pub template_form : (r : Range) → Sees of_expr (low.template x ts r p) (Some none)
  unfolding low.template
  template_form r =
      quiet (λ piece. vExpr.Tpl (piece ∷ []) [] r) (λ piece. laws.expr_Tpl (piece ∷ []) [] r) (piece_there x ts p 0)

  pub template_parts : (r : Range)
      → Sees of_expr (low.template_parts x ts r p) (read q (sh.Skip ∷ sh.Node ∷ sh.Each gr.Second ∷ []))
  unfolding low.template_parts
  template_parts r =
      alone _ (past (piece_there x ts p 0) _ (λ head. also (expr_at p 1) _ (expr p q a 1) (λ first.
      past (turns (λ turn. piece_there x ts turn 0) (group p 2)) _ (λ middles.
      also (turns (λ turn. expr_at turn 1) (group p 2)) _
      (in_list of_expr (λ turn. expr_at turn 1) (sh.Skip ∷ sh.Node ∷ []) piece_sees (part p 2) (nth q 2) (a 2))
      (λ others. past (piece_there x ts p 3) _ (λ tail.
      ends (vExpr.Tpl (head ∷ (middles ++ tail ∷ [])) (first ∷ others) r) (laws.expr_Tpl _ (first ∷ others) r)))))))

  -- ---- arrays, objects, parentheses
  pub array_form : (from : ℕ) (r : Range)
      → Sees of_expr (low.array_literal ts from r p) (read q (sh.Each gr.Element ∷ []))
  unfolding low.array_literal
  array_form from r =
      single _ _ (mapped (λ elems. vExpr.Array elems r) (λ elems. laws.expr_Array elems r)
      (elements vExpr.Hole expr_at ts (from + 1) (group p 0))
      (elements_in of_expr vExpr.Hole (λ r. laws.expr_Hole r) (λ m. m.expr) (λ m t s. s.expr) ts (from + 1)
      (part p 0) (nth q 0) (a 0)))

  pub object_form : (r : Range) → Sees of_expr (low.object_literal r p) (read q (sh.Each gr.First ∷ []))
  unfolding low.object_literal
  object_form r =
      single _ _ (mapped (λ props. vExpr.Object props r) (λ props. laws.expr_Object props r)
      (turns (λ turn. prop_at turn 0) (group p 0)) (props p q a 0))

  pub parenthesized_form : (r : Range) → Sees of_expr (low.parenthesized r p) (read q (sh.Node ∷ []))
  unfolding low.parenthesized
  parenthesized_form r =
      single _ _ (mapped (λ e. vExpr.Paren e r) (λ e. laws.expr_Paren e r) (expr_at p 0) (expr p q a 0))

  pub spread_form : (r : Range) → Sees of_expr (low.spread r p) (read q (sh.Node ∷ []))
  unfolding low.spread
  spread_form r =
      single _ _ (mapped (λ e. vExpr.Spread e r) (λ e. laws.expr_Spread e r) (expr_at p 0) (expr p q a 0))

  -- ---- calls
  pub import_call : (phase : ImportPhase) (r : Range)
      → Sees of_expr (low.import_call phase r p) (read q (sh.Node ∷ sh.In gr.First ∷ []))
  unfolding low.import_call
  import_call phase r =
      alone _ (also (expr_at p 0) _ (expr p q a 0) (λ first.
      also (optional expr_at (group p 1)) _ (maybe_expr p q a 1) (λ second.
      ends (vExpr.ImportCall phase (first ∷ option_list second) r)
      (laws.expr_ImportCall phase (first ∷ option_list second) r
      ∙ ap (λ z. of_expr first ∪ z) (list_among of_expr second)))))

  new_among : (r : Range) (callee : Expr) (args : Option (List Expr))
      → of_expr (new_of r callee args) ≡ of_expr callee ∪ if_some (all_of of_expr) args
  new_among r callee (Some args) = laws.expr_New callee None true args r
  new_among r callee None = laws.expr_New callee None false [] r

  pub new_form : (r : Range) → Sees of_expr (low.new_ r p) (read q (sh.Node ∷ sh.In gr.First ∷ []))
  unfolding low.new_
  new_form r =
      alone _ (also (expr_at p 0) _ (expr p q a 0) (λ callee.
      also (optional args_at (group p 1)) _ (maybe_args p q a 1) (λ args.
      ends (new_of r callee args) (new_among r callee args))))

  typed_new_among : (r : Range) (callee : Expr) (types : Option TsPart) (args : Option (List Expr))
      → of_expr (typed_new_of r callee types args)
      ≡ of_expr callee ∪ if_some (all_of of_expr) args
  typed_new_among r callee types (Some args) = laws.expr_New callee types true args r
  typed_new_among r callee types None = laws.expr_New callee types false [] r

  pub typed_new : (r : Range)
      → Sees of_expr (typed.typed_new r p) (read q (sh.Node ∷ sh.Skip ∷ sh.In gr.First ∷ []))
  unfolding typed.typed_new
  typed_new r =
      alone _ (also (expr_at p 0) _ (expr p q a 0) (λ callee. past (args_part_at p 1) _ (λ types.
      also (optional args_at (group p 2)) _ (maybe_args p q a 2) (λ args.
      ends (typed_new_of r callee types args) (typed_new_among r callee types args)))))

  -- ---- operators
  pub prefix_form : (r : Range) → Sees of_expr (low.prefix ts r p) (read q (sh.Skip ∷ sh.Node ∷ []))
  unfolding low.prefix
  prefix_form r =
      alone _ (past (given (kind_at ts p 0) (listed unary_ops)) _ (λ op. also (expr_at p 1) _ (expr p q a 1) (λ arg.
      ends (vExpr.Unary op arg r) (laws.expr_Unary op arg r))))

  pub await_form : (r : Range) → Sees of_expr (low.await_ r p) (read q (sh.Node ∷ []))
  unfolding low.await_
  await_form r =
      single _ _ (mapped (λ arg. vExpr.Await arg r) (λ arg. laws.expr_Await arg r) (expr_at p 0) (expr p q a 0))

  pub update_prefix : (r : Range) → Sees of_expr (low.update_prefix ts r p) (read q (sh.Skip ∷ sh.Node ∷ []))
  unfolding low.update_prefix
  update_prefix r =
      alone _ (past (given (kind_at ts p 0) (listed update_ops)) _ (λ op. also (expr_at p 1) _ (expr p q a 1) (λ arg.
      ends (vExpr.Update op true arg r) (laws.expr_Update op true arg r))))

  pub update_postfix : (r : Range) → Sees of_expr (low.update_postfix ts r p) (read q (sh.Node ∷ []))
  unfolding low.update_postfix
  update_postfix r =
      alone _ (also (expr_at p 0) _ (expr p q a 0) (λ arg. past (given (kind_at ts p 1) (listed update_ops)) _ (λ op.
      ends (vExpr.Update op false arg r) (laws.expr_Update op false arg r))))

  pub binary_form : (r : Range) → Sees of_expr (low.binary ts r p) (read q (sh.Node ∷ sh.Skip ∷ sh.Node ∷ []))
  unfolding low.binary
  binary_form r =
      alone _ (also (expr_at p 0) _ (expr p q a 0) (λ left.
      past (binary_between ts (behind (part p 0)) (first_of (part p 2))) _ (λ op.
      also (expr_at p 2) _ (expr p q a 2) (λ right.
      ends (vExpr.Bin op left right r) (laws.expr_Bin op left right r)))))

  pub private_in : (r : Range) → Sees of_expr (low.private_in x ts r p) (read q (sh.Skip ∷ sh.Node ∷ []))
  unfolding low.private_in
  private_in r =
      alone _ (past (private_at x ts p 0) _ (λ name. also (expr_at p 1) _ (expr p q a 1) (λ right.
      ends (vExpr.Bin vBinary.In (vExpr.PrivateName name) right r)
      (laws.expr_Bin vBinary.In (vExpr.PrivateName name) right r
      ∙ ap (λ (z : Among). z ∪ of_expr right) (laws.expr_PrivateName name)))))

  pub conditional_form : (r : Range)
      → Sees of_expr (low.conditional r p) (read q (sh.Node ∷ sh.Node ∷ sh.Node ∷ []))
  unfolding low.conditional
  conditional_form r =
      alone _ (also (expr_at p 0) _ (expr p q a 0) (λ test. also (expr_at p 1) _ (expr p q a 1) (λ yes.
      also (expr_at p 2) _ (expr p q a 2) (λ no.
      ends (vExpr.Cond test yes no r) (laws.expr_Cond test yes no r)))))

  -- ---- assignments
  assign_among : (op : AssignOp) (left right : Expr) (r : Range)
      → of_expr (vExpr.Assign op (vPat.Expr left) right r) ≡ of_expr left ∪ of_expr right
  assign_among op left right r =
      laws.expr_Assign op (vPat.Expr left) right r ∙ ap (λ (z : Among). z ∪ of_expr right) (laws.pat_Expr left)

  pub assignment_form : (r : Range)
      → Sees of_expr (low.assignment ts r p) (read q (sh.Node ∷ sh.Skip ∷ sh.Node ∷ []))
  unfolding low.assignment
  assignment_form r =
      alone _ (also (expr_at p 0) _ (expr p q a 0) (λ left.
      past (assign_between ts (behind (part p 0)) (first_of (part p 2))) _ (λ op.
      also (expr_at p 2) _ (expr p q a 2) (λ right.
      ends (vExpr.Assign op (vPat.Expr left) right r) (assign_among op left right r)))))

  pub pattern_assignment : (r : Range)
      → Sees of_expr (low.pattern_assignment r p) (read q (sh.Node ∷ sh.Node ∷ []))
  unfolding low.pattern_assignment
  pattern_assignment r =
      alone _ (also (pat_at p 0) _ (pat p q a 0) (λ left. also (expr_at p 1) _ (expr p q a 1) (λ right.
      ends (vExpr.Assign vAssign.Assign left right r) (laws.expr_Assign vAssign.Assign left right r))))

  pub sequence_form : (r : Range)
      → Sees of_expr (low.sequence r p) (read q (sh.Node ∷ sh.Node ∷ sh.Each gr.First ∷ []))
  unfolding low.sequence
  sequence_form r =
      alone _ (also (expr_at p 0) _ (expr p q a 0) (λ first. also (expr_at p 1) _ (expr p q a 1) (λ second.
      also (turns (λ turn. expr_at turn 0) (group p 2)) _ (exprs p q a 2) (λ others.
      ends (vExpr.Seq (first ∷ second ∷ others) r)
      (laws.expr_Seq (first ∷ second ∷ others) r
      ∙ sym (or_assoc (of_expr first) (of_expr second) (all_of of_expr others)))))))

-- ---- `yield`
yield_sees : (r : Range) (u : Value) (w : Met) → Agree u w
    → Sees of_expr (yield_of r (as_group u)) (met w (rows (sh.Skip ∷ sh.Node ∷ [])))
yield_sees r (v.more b bs) (more c cs) a =
    mapped (λ arg. vExpr.Yield (is_there (group (v.more b bs) 0)) (Some arg) r)
    (λ arg. laws.expr_Yield (is_there (group (v.more b bs) 0)) (Some arg) r) (expr_at (v.more b bs) 1)
    (second (v.more b bs) (more c cs) (parts (v.more b bs) (more c cs) a))
yield_sees r v.absent absent a = silent (vExpr.Yield false None r) (laws.expr_Yield false None r)
yield_sees r v.nil nil a = silent (vExpr.Yield false None r) (laws.expr_Yield false None r)
yield_sees r (v.token n) token a = silent (vExpr.Yield false None r) (laws.expr_Yield false None r)
yield_sees r (v.node from to m) (node told) a = silent (vExpr.Yield false None r) (laws.expr_Yield false None r)
yield_sees r _ _ a = absurd a

pub yield_form : (p : Value) (q : Met) → AgreeRow p q → (r : Range)
    → Sees of_expr (low.yield_ r p) (read q (sh.In gr.Second ∷ []))
unfolding low.yield_
yield_form p q a r = single _ _ (yield_sees r (part p 0) (nth q 0) (a 0))

-- ---- the level of `<`, with `as` and `satisfies`
module _ (ts : List Token) (r : Range) (e : Expr) where
  as_among : (b : Bool) (ty : TsType)
      → of_expr (if b then vExpr.TsAs e (Some (vPart.TypeAnn ty)) r
      else vExpr.TsSatisfies e (Some (vPart.TypeAnn ty)) r) ≡ of_expr e
  as_among true ty = laws.expr_TsAs e _ r
  as_among false ty = laws.expr_TsSatisfies e _ r

  typed_as : (b : Bool) (o : Option TsType)
      → Adds of_expr (of_expr e) (option_map (λ ty. if b then vExpr.TsAs e (Some (vPart.TypeAnn ty)) r
      else vExpr.TsSatisfies e (Some (vPart.TypeAnn ty)) r) o) (Some none)
  typed_as b None = record { adds = tt }
  typed_as b (Some ty) = ends _ (as_among b ty)

  asserted : (kind : TokenKind) (u : Value) → Adds of_expr (of_expr e) (asserted_by r e kind u) (Some none)
  asserted kind (v.token n) = ends (vExpr.TsConstAssertion e r) (laws.expr_TsConstAssertion e r)
  asserted kind (v.node from to m) = typed_as (same_kind kind k.AsWord) m.ts_type
  asserted kind v.absent = record { adds = tt }
  asserted kind v.nil = record { adds = tt }
  asserted kind (v.more b bs) = record { adds = tt }

  operand : (from at : ℕ) (o : Option Expr) (m : Told) → Sees of_expr o m
      → Adds of_expr (of_expr e) (given (binary_between ts from at) (λ op.
      given o (λ right. Some (vExpr.Bin op e right r)))) (both m (Some none))
  operand from at o m s =
      past (binary_between ts from at) _ (λ op. also o _ s (λ right.
      ends (vExpr.Bin op e right r) (laws.expr_Bin op e right r)))

  turned : (from : ℕ) (g u : Value) (w : Met) → Agree u w → Sees of_expr (expr_at g 1) (met w one)
      → Adds of_expr (of_expr e) (turned_by ts r e from g u) (both (met w one) (Some none))
  turned from g (v.more b bs) (more c cs) a s =
      adds_moved of_expr _ _ _ _ (both_none _ ∙ met_group c cs)
      (past (kind_at ts g 0) _ (λ kind. asserted kind b))
  turned from g v.absent absent a s = operand from _ (expr_at g 1) _ s
  turned from g v.nil nil a s = operand from _ (expr_at g 1) _ s
  turned from g (v.token n) token a s = operand from _ (expr_at g 1) _ s
  turned from g (v.node f t m) (node told) a s = operand from _ (expr_at g 1) _ s
  turned from g _ _ a s = absurd a

  pub turned_adds : (from : ℕ) (g : Value) (w : Met) → AgreeRow g w
      → Adds of_expr (of_expr e) (turned_by ts r e from g (part g 1))
      (both (met w (rows (sh.Skip ∷ sh.Node ∷ []))) (Some none))
  turned_adds from g w a =
      adds_moved of_expr _ _ _ _ (both_none _ ∙ rows_are (sh.Skip ∷ sh.Node ∷ []) refl w)
      (turned from g (part g 1) (nth w 1) (a 1) (expr g w a 1))

pub typed_binary : (ts : List Token) (p : Value) (q : Met) → AgreeRow p q → (r : Range)
    → Sees of_expr (typed.typed_binary ts r p) (read q (sh.Node ∷ sh.In gr.Second ∷ []))
unfolding typed.typed_binary
typed_binary ts p q a r =
    alone _ (also (expr_at p 0) _ (expr p q a 0) (λ left.
    turned_adds ts r left (behind (part p 0)) (group p 1) (nth q 1) (inside p q a 1)))

pub type_assertion : (ts : List Token) (p : Value) (q : Met) → AgreeRow p q → (r : Range)
    → Sees of_expr (typed.type_assertion r p) (read q (sh.Skip ∷ sh.Node ∷ []))
unfolding typed.type_assertion
type_assertion ts p q a r =
    alone _ (also (expr_at p 1) _ (expr p q a 1) (λ e. asserted ts r e k.AsWord (part (group p 0) 0)))
