-- What expressions become.
use Rattle.std.specs.Prelude.{Bool, true, false, List, [], ◌∷◌, ◌++◌, Option, Some, None, option_map}
use Rattle.std.proofs.Common.{ℕ, ◌+◌}
use Rattle.base.specs.declared.range.Range.{Range}
use Rattle.es_token.specs.declared.token.Token.{Token}
use Rattle.es_token.specs.declared.token.TokenKind.{TokenKind}
use Rattle.es_ast.specs.declared.ts.leaf.Ident.{Ident}
use Rattle.es_ast.specs.declared.leaf.Lit.TheVariants as vLit
use Rattle.es_ast.specs.declared.leaf.ImportPhase.{ImportPhase}
use Rattle.es_ast.specs.declared.leaf.AssignOp.TheVariants as vAssign
use Rattle.es_ast.specs.declared.leaf.BinaryOp.TheVariants as vBinary
use Rattle.es_ast.specs.declared.ast.Expr.{Expr}
use Rattle.es_ast.specs.declared.ast.Expr.TheVariants as vExpr
use Rattle.es_ast.specs.declared.ast.Pat.TheVariants as vPat
use Rattle.es_token.specs.declared.token.TokenKind.TheVariants as k
use Rattle.grammar_theory.specs.Key.{same_kind}
use Rattle.es_lowering.specs.Value.{Value, absent, nil, more, token, node, Typed, given, part, as_group, group, typed, first_of, behind, optional, option_list, is_there, turns, expr_at, pat_at, prop_at, post_at, args_at}
use Rattle.es_lowering.specs.Texts.{span_of, regex_of, token_of, token_at, kind_at, ident_at, private_at, str_at, numeric_of, numeric_at, piece_there, property_of, property_at}
use Rattle.es_lowering.specs.Operators.{listed, unary_ops, update_ops, binary_between, assign_between}
use Rattle.es_lowering.specs.Expressions.{name, word_of, word, number, str, regexp, template, template_parts, element_of, behind_element, elements, array_literal, object_literal, parenthesized, spread, argument_of, argument, arguments, member_of, index_of, call_of, tagged_of, Post, member_post, index_post, call_post, template_post, optional_inner, optional_of, optional_post, chained, chain, import_call, new_of, new_, prefix, await_, update_prefix, update_postfix, binary, private_in, conditional, assignment, pattern_assignment, yield_of, yield_, sequence}
use Rattle.es_law_sites.proofs.ranges.Cuts.{Each, Opt, ExprCuts, PatCuts, PropCuts, StrCuts, LitCuts, expr_Lit_cuts, expr_ImportCall_cuts}
use Rattle.es_law_sites.proofs.ranges.Forms.{pat_Expr_cuts, expr_This_cuts, expr_Ident_cuts, expr_PrivateName_cuts, expr_Array_cuts, expr_Spread_cuts, expr_Object_cuts, expr_Paren_cuts, expr_Unary_cuts, expr_Update_cuts, expr_Await_cuts, expr_Yield_cuts, expr_Bin_cuts, expr_Assign_cuts, expr_Cond_cuts, expr_Seq_cuts, expr_Member_cuts, expr_Index_cuts, expr_Call_cuts, expr_New_cuts, expr_Tpl_cuts, expr_TaggedTpl_cuts, expr_Hole_cuts}
use Rattle.es_law_sites.proofs.ranges.Fine.{PostCuts, Fine, given_fine, given_any, map_fine, map_any, if_fine, listed_fine, part_fine, as_group_fine, group_fine, read_fine, optional_fine, turns_fine, expr_fine, pat_fine, prop_fine, post_fine, args_fine}

module _ (x : List ℕ) (ts : List Token) where
  -- ---- names and literals
  pub name_cuts : (p : Value) → Opt (ExprCuts x) (name x ts p)
  unfolding name
  name_cuts p = map_any (ExprCuts x) (ident_at x ts p 0) vExpr.Ident (expr_Ident_cuts x)

  word_of_cuts : (r : Range) (kind : TokenKind) → Opt (ExprCuts x) (word_of r kind)
  unfolding word_of
  word_of_cuts r kind =
      if_fine (ExprCuts x) (same_kind kind k.ThisWord) _ _ (λ e. expr_This_cuts x r)
      (if_fine (ExprCuts x) (same_kind kind k.NullWord) _ _ (λ e. expr_Lit_cuts x (vLit.Null r) tt)
      (if_fine (ExprCuts x) (same_kind kind k.TrueWord) _ _ (λ e. expr_Lit_cuts x (vLit.Bool true r) tt)
      (if_fine (ExprCuts x) (same_kind kind k.FalseWord) _ _ (λ e. expr_Lit_cuts x (vLit.Bool false r) tt) tt)))

  pub word_cuts : (r : Range) (p : Value) → Opt (ExprCuts x) (word ts r p)
  unfolding word
  word_cuts r p = given_any (ExprCuts x) (kind_at ts p 0) (word_of r) (word_of_cuts r)

  pub numeric_cuts : (t : Token) → Opt (LitCuts x) (numeric_of x t)
  unfolding numeric_of
  numeric_cuts t =
      if_fine (LitCuts x) (same_kind t.kind k.Number) _ _ (λ e. tt)
      (if_fine (LitCuts x) (same_kind t.kind k.BigInt) _ _ (λ e. tt) tt)

  pub number_cuts : (p : Value) → Opt (ExprCuts x) (number x ts p)
  unfolding number
  number_cuts p =
      map_fine (LitCuts x) (ExprCuts x) (numeric_at x ts p 0) vExpr.Lit
      (given_any (LitCuts x) (token_at ts p 0) (numeric_of x) numeric_cuts) (expr_Lit_cuts x)

  pub str_cuts : (p : Value) → Opt (StrCuts x) (str_at x ts p 0) → Opt (ExprCuts x) (str x ts p)
  unfolding str
  str_cuts p there =
      map_fine (StrCuts x) (ExprCuts x) (str_at x ts p 0) _ there (λ s f. expr_Lit_cuts x (vLit.Str s) f)

  pub regexp_cuts : (p : Value) → Opt (ExprCuts x) (regexp x ts p)
  unfolding regexp
  regexp_cuts p =
      map_any (ExprCuts x) (token_at ts p 0) _ (λ t. expr_Lit_cuts x (vLit.Regex (regex_of x t)) tt)

  -- ---- templates
  pub template_cuts : (r : Range) (p : Value) → Opt (ExprCuts x) (template x ts r p)
  unfolding template
  template_cuts r p = map_any (ExprCuts x) (piece_there x ts p 0) _ (λ piece. expr_Tpl_cuts x (piece ∷ []) [] r tt)

  pub template_parts_cuts : (r : Range) (p : Value) → Fine x p → Opt (ExprCuts x) (template_parts x ts r p)
  unfolding template_parts
  template_parts_cuts r p fine =
      given_any (ExprCuts x) (piece_there x ts p 0) _ (λ head.
      given_fine (ExprCuts x) (ExprCuts x) (expr_at p 1) _ (expr_fine x p 1 fine) (λ first f.
      given_any (ExprCuts x) (turns (λ turn. piece_there x ts turn 0) (group p 2)) _ (λ middles.
      given_fine (Each (ExprCuts x)) (ExprCuts x) (turns (λ turn. expr_at turn 1) (group p 2)) _
      (turns_fine x (ExprCuts x) (λ turn. expr_at turn 1) (λ turn here. expr_fine x turn 1 here) (group p 2)
      (group_fine x p 2 fine)) (λ others g.
      given_any (ExprCuts x) (piece_there x ts p 3) _ (λ tail.
      expr_Tpl_cuts x (head ∷ (middles ++ tail ∷ [])) (first ∷ others) r (f, g))))))

  -- ---- arrays, objects, parentheses
  pub object_literal_cuts : (r : Range) (p : Value) → Fine x p → Opt (ExprCuts x) (object_literal r p)
  unfolding object_literal
  object_literal_cuts r p fine =
      map_fine (Each (PropCuts x)) (ExprCuts x) (turns (λ turn. prop_at turn 0) (group p 0)) _
      (turns_fine x (PropCuts x) (λ turn. prop_at turn 0) (λ turn here. prop_fine x turn 0 here) (group p 0)
      (group_fine x p 0 fine)) (λ props f. expr_Object_cuts x props r f)

  pub parenthesized_cuts : (r : Range) (p : Value) → Fine x p → Opt (ExprCuts x) (parenthesized r p)
  unfolding parenthesized
  parenthesized_cuts r p fine =
      map_fine (ExprCuts x) (ExprCuts x) (expr_at p 0) _ (expr_fine x p 0 fine) (λ e f. expr_Paren_cuts x e r f)

  pub spread_cuts : (r : Range) (p : Value) → Fine x p → Opt (ExprCuts x) (spread r p)
  unfolding spread
  spread_cuts r p fine =
      map_fine (ExprCuts x) (ExprCuts x) (expr_at p 0) _ (expr_fine x p 0 fine) (λ e f. expr_Spread_cuts x e r f)

  -- ---- operators
  pub await_cuts : (r : Range) (p : Value) → Fine x p → Opt (ExprCuts x) (await_ r p)
  unfolding await_
  await_cuts r p fine =
      map_fine (ExprCuts x) (ExprCuts x) (expr_at p 0) _ (expr_fine x p 0 fine) (λ e f. expr_Await_cuts x e r f)

  pub conditional_cuts : (r : Range) (p : Value) → Fine x p → Opt (ExprCuts x) (conditional r p)
  unfolding conditional
  conditional_cuts r p fine =
      given_fine (ExprCuts x) (ExprCuts x) (expr_at p 0) _ (expr_fine x p 0 fine) (λ test f.
      given_fine (ExprCuts x) (ExprCuts x) (expr_at p 1) _ (expr_fine x p 1 fine) (λ yes g.
      given_fine (ExprCuts x) (ExprCuts x) (expr_at p 2) _ (expr_fine x p 2 fine) (λ no h.
      expr_Cond_cuts x test yes no r f g h)))

  pub prefix_cuts : (r : Range) (p : Value) → Fine x p → Opt (ExprCuts x) (prefix ts r p)
  unfolding prefix
  prefix_cuts r p fine =
      given_any (ExprCuts x) (given (kind_at ts p 0) (listed unary_ops)) _ (λ op.
      given_fine (ExprCuts x) (ExprCuts x) (expr_at p 1) _ (expr_fine x p 1 fine) (λ arg f.
      expr_Unary_cuts x op arg r f))

  pub update_prefix_cuts : (r : Range) (p : Value) → Fine x p → Opt (ExprCuts x) (update_prefix ts r p)
  unfolding update_prefix
  update_prefix_cuts r p fine =
      given_any (ExprCuts x) (given (kind_at ts p 0) (listed update_ops)) _ (λ op.
      given_fine (ExprCuts x) (ExprCuts x) (expr_at p 1) _ (expr_fine x p 1 fine) (λ arg f.
      expr_Update_cuts x op true arg r f))

  pub update_postfix_cuts : (r : Range) (p : Value) → Fine x p → Opt (ExprCuts x) (update_postfix ts r p)
  unfolding update_postfix
  update_postfix_cuts r p fine =
      given_fine (ExprCuts x) (ExprCuts x) (expr_at p 0) _ (expr_fine x p 0 fine) (λ arg f.
      given_any (ExprCuts x) (given (kind_at ts p 1) (listed update_ops)) _ (λ op.
      expr_Update_cuts x op false arg r f))

  pub binary_cuts : (r : Range) (p : Value) → Fine x p → Opt (ExprCuts x) (binary ts r p)
  unfolding binary
  binary_cuts r p fine =
      given_fine (ExprCuts x) (ExprCuts x) (expr_at p 0) _ (expr_fine x p 0 fine) (λ left f.
      given_any (ExprCuts x) (binary_between ts (behind (part p 0)) (first_of (part p 2))) _ (λ op.
      given_fine (ExprCuts x) (ExprCuts x) (expr_at p 2) _ (expr_fine x p 2 fine) (λ right g.
      expr_Bin_cuts x op left right r f g)))

  pub private_in_cuts : (r : Range) (p : Value) → Fine x p → Opt (ExprCuts x) (private_in x ts r p)
  unfolding private_in
  private_in_cuts r p fine =
      given_any (ExprCuts x) (private_at x ts p 0) _ (λ name.
      given_fine (ExprCuts x) (ExprCuts x) (expr_at p 1) _ (expr_fine x p 1 fine) (λ right g.
      expr_Bin_cuts x vBinary.In (vExpr.PrivateName name) right r (expr_PrivateName_cuts x name) g))

  -- ---- assignments
  pub assignment_cuts : (r : Range) (p : Value) → Fine x p → Opt (ExprCuts x) (assignment ts r p)
  unfolding assignment
  assignment_cuts r p fine =
      given_fine (ExprCuts x) (ExprCuts x) (expr_at p 0) _ (expr_fine x p 0 fine) (λ left f.
      given_any (ExprCuts x) (assign_between ts (behind (part p 0)) (first_of (part p 2))) _ (λ op.
      given_fine (ExprCuts x) (ExprCuts x) (expr_at p 2) _ (expr_fine x p 2 fine) (λ right g.
      expr_Assign_cuts x op (vPat.Expr left) right r (pat_Expr_cuts x left f) g)))

  pub pattern_assignment_cuts : (r : Range) (p : Value) → Fine x p → Opt (ExprCuts x) (pattern_assignment r p)
  unfolding pattern_assignment
  pattern_assignment_cuts r p fine =
      given_fine (PatCuts x) (ExprCuts x) (pat_at p 0) _ (pat_fine x p 0 fine) (λ left f.
      given_fine (ExprCuts x) (ExprCuts x) (expr_at p 1) _ (expr_fine x p 1 fine) (λ right g.
      expr_Assign_cuts x vAssign.Assign left right r f g))

  yield_of_cuts : (r : Range) (v : Value) → Fine x v → Opt (ExprCuts x) (yield_of r v)
  yield_of_cuts r (more v vs) fine =
      map_fine (ExprCuts x) (ExprCuts x) (expr_at (more v vs) 1) _ (expr_fine x (more v vs) 1 fine) (λ arg f.
      expr_Yield_cuts x (is_there (group (more v vs) 0)) (Some arg) r f)
  yield_of_cuts r _ fine = expr_Yield_cuts x false None r tt

  pub yield_cuts : (r : Range) (p : Value) → Fine x p → Opt (ExprCuts x) (yield_ r p)
  unfolding yield_
  yield_cuts r p fine = yield_of_cuts r (group p 0) (group_fine x p 0 fine)

  pub sequence_cuts : (r : Range) (p : Value) → Fine x p → Opt (ExprCuts x) (sequence r p)
  unfolding sequence
  sequence_cuts r p fine =
      given_fine (ExprCuts x) (ExprCuts x) (expr_at p 0) _ (expr_fine x p 0 fine) (λ first f.
      given_fine (ExprCuts x) (ExprCuts x) (expr_at p 1) _ (expr_fine x p 1 fine) (λ second g.
      given_fine (Each (ExprCuts x)) (ExprCuts x) (turns (λ turn. expr_at turn 0) (group p 2)) _
      (turns_fine x (ExprCuts x) (λ turn. expr_at turn 0) (λ turn here. expr_fine x turn 0 here) (group p 2)
      (group_fine x p 2 fine)) (λ others h.
      expr_Seq_cuts x (first ∷ second ∷ others) r (f, (g, h)))))

  pub import_call_cuts : (phase : ImportPhase) (r : Range) (p : Value) → Fine x p
      → Opt (ExprCuts x) (import_call phase r p)
  unfolding import_call
  import_call_cuts phase r p fine =
      given_fine (ExprCuts x) (ExprCuts x) (expr_at p 0) _ (expr_fine x p 0 fine) (λ first f.
      given_fine (Opt (ExprCuts x)) (ExprCuts x) (optional expr_at (group p 1)) _
      (optional_fine x (ExprCuts x) expr_at (λ v here. expr_fine x v 0 here) (group p 1) (group_fine x p 1 fine))
      (λ second g.
      expr_ImportCall_cuts x phase (first ∷ option_list second) r (f, listed_fine (ExprCuts x) second g)))

  new_of_cuts : (r : Range) (callee : Expr) (args : Option (List Expr)) → ExprCuts x callee
      → Opt (Each (ExprCuts x)) args → ExprCuts x (new_of r callee args)
  new_of_cuts r callee (Some args) f g = expr_New_cuts x callee None true args r f g
  new_of_cuts r callee None f g = expr_New_cuts x callee None false [] r f tt

  pub new_cuts : (r : Range) (p : Value) → Fine x p → Opt (ExprCuts x) (new_ r p)
  unfolding new_
  new_cuts r p fine =
      given_fine (ExprCuts x) (ExprCuts x) (expr_at p 0) _ (expr_fine x p 0 fine) (λ callee f.
      given_fine (Opt (Each (ExprCuts x))) (ExprCuts x) (optional args_at (group p 1)) _
      (optional_fine x (Each (ExprCuts x)) args_at (λ v here. args_fine x v 0 here) (group p 1) (group_fine x p 1 fine))
      (λ args g. new_of_cuts r callee args f g))

  -- ---- chains
  argument_of_cuts : (there : Bool) (r : Range) (e : Expr) → ExprCuts x e → ExprCuts x (argument_of there r e)
  argument_of_cuts true r e f = expr_Spread_cuts x e r f
  argument_of_cuts false r e f = f

  argument_cuts : (turn : Value) → Fine x turn → Opt (ExprCuts x) (argument ts turn)
  argument_cuts turn fine =
      map_fine (ExprCuts x) (ExprCuts x) (expr_at turn 1) _ (expr_fine x turn 1 fine) (λ e f.
      argument_of_cuts (is_there (group turn 0)) (span_of ts (first_of (part (group turn 0) 0)) (behind (part turn 1)))
      e f)

  pub arguments_cuts : (p : Value) → Fine x p → Opt (Each (ExprCuts x)) (arguments ts p)
  unfolding arguments
  arguments_cuts p fine =
      turns_fine x (ExprCuts x) (argument ts) argument_cuts (group p 0) (group_fine x p 0 fine)

  pub member_of_cuts : (there : Bool) (r : Range) (m : Bool × Ident) → PostCuts x (member_of there r m)
  member_of_cuts there r m start e f = expr_Member_cuts x e there m.0 m.1 _ f

  pub index_of_cuts : (there : Bool) (r : Range) (i : Expr) → ExprCuts x i → PostCuts x (index_of there r i)
  index_of_cuts there r i g start e f = expr_Index_cuts x e there i _ f g

  call_of_cuts : (there : Bool) (r : Range) (args : List Expr) → Each (ExprCuts x) args
      → PostCuts x (call_of there r args)
  call_of_cuts there r args g start e f = expr_Call_cuts x e there None args _ f g

  tagged_of_cuts : (r : Range) (tpl : Expr) → ExprCuts x tpl → PostCuts x (tagged_of r tpl)
  tagged_of_cuts r tpl g start e f = expr_TaggedTpl_cuts x e None tpl _ f g

  pub member_post_cuts : (r : Range) (p : Value) → Opt (PostCuts x) (member_post x ts r p)
  unfolding member_post
  member_post_cuts r p = map_any (PostCuts x) (property_at x ts p 0) (member_of false r) (member_of_cuts false r)

  pub index_post_cuts : (r : Range) (p : Value) → Fine x p → Opt (PostCuts x) (index_post r p)
  unfolding index_post
  index_post_cuts r p fine =
      map_fine (ExprCuts x) (PostCuts x) (expr_at p 0) (index_of false r) (expr_fine x p 0 fine) (index_of_cuts false r)

  pub call_post_cuts : (r : Range) (p : Value) → Fine x p → Opt (PostCuts x) (call_post r p)
  unfolding call_post
  call_post_cuts r p fine =
      map_fine (Each (ExprCuts x)) (PostCuts x) (args_at p 0) (call_of false r) (args_fine x p 0 fine)
      (call_of_cuts false r)

  pub template_post_cuts : (r : Range) (p : Value) → Fine x p → Opt (PostCuts x) (template_post r p)
  unfolding template_post
  template_post_cuts r p fine =
      map_fine (ExprCuts x) (PostCuts x) (expr_at p 0) (tagged_of r) (expr_fine x p 0 fine) (tagged_of_cuts r)

  inner_args : (r : Range) (v : Value) → Fine x v
      → Opt (PostCuts x) (option_map (call_of true r) (given (typed v) (λ m. m.args)))
  inner_args r v fine =
      map_fine (Each (ExprCuts x)) (PostCuts x) (given (typed v) (λ (m : Typed). m.args)) (call_of true r)
      (read_fine x (Each (ExprCuts x)) (λ (m : Typed). m.args) (λ m f. f.args) v fine) (call_of_cuts true r)

  inner_cuts : (r : Range) (v : Value) → Fine x v → Opt (PostCuts x) (optional_inner x ts r v)
  inner_cuts r (token n) fine =
      map_any (PostCuts x) (given (token_of ts (token n)) (property_of x)) (member_of true r) (member_of_cuts true r)
  inner_cuts r absent fine = inner_args r absent fine
  inner_cuts r nil fine = inner_args r nil fine
  inner_cuts r (more v vs) fine = inner_args r (more v vs) fine
  inner_cuts r (node from to m) fine = inner_args r (node from to m) fine

  optional_cuts : (r : Range) (v : Value) → Fine x v → Opt (PostCuts x) (optional_of x ts r v)
  optional_cuts r (node from to m) fine =
      map_fine (ExprCuts x) (PostCuts x) m.expr (index_of true r) fine.expr (index_of_cuts true r)
  optional_cuts r absent fine = inner_cuts r absent tt
  optional_cuts r nil fine = inner_cuts r absent tt
  optional_cuts r (more v vs) fine = inner_cuts r v fine.0
  optional_cuts r (token n) fine = inner_cuts r absent tt

  pub optional_post_cuts : (r : Range) (p : Value) → Fine x p → Opt (PostCuts x) (optional_post x ts r p)
  unfolding optional_post
  optional_post_cuts r p fine = optional_cuts r (part (group p 0) 0) (part_fine x (group p 0) 0 (group_fine x p 0 fine))

  chained_cuts : (start : ℕ) (obj : Expr) (posts : List Post) → ExprCuts x obj → Each (PostCuts x) posts
      → ExprCuts x (chained start obj posts)
  chained_cuts start obj [] f g = f
  chained_cuts start obj (post ∷ posts) f g = chained_cuts start (post start obj) posts (g.0 start obj f) g.1

  pub chain_cuts : (r : Range) (p : Value) → Fine x p → Opt (ExprCuts x) (chain r p)
  unfolding chain
  chain_cuts r p fine =
      given_fine (ExprCuts x) (ExprCuts x) (expr_at p 0) _ (expr_fine x p 0 fine) (λ base f.
      given_fine (PostCuts x) (ExprCuts x) (post_at p 1) _ (post_fine x p 1 fine) (λ first g.
      given_fine (Each (PostCuts x)) (ExprCuts x) (turns (λ turn. post_at turn 0) (group p 2)) _
      (turns_fine x (PostCuts x) (λ turn. post_at turn 0) (λ turn here. post_fine x turn 0 here) (group p 2)
      (group_fine x p 2 fine)) (λ others h.
      chained_cuts r.start base (first ∷ others) f (g, h))))

  -- ---- elements of arrays
  element_cuts : {A : Type 0} (P : A → Type 0) (hole : Range → A) (one : Value → ℕ → Option A)
      → ((r : Range) → P (hole r))
      → ((v : Value) → Fine x v → Opt P (one v 0)) → (at : ℕ) (v : Value) → Fine x v
      → Opt P (element_of hole one ts at v)
  element_cuts P hole one holes each at (more v vs) fine = each (more v vs) fine
  element_cuts P hole one holes each at absent fine = holes (span_of ts at at)
  element_cuts P hole one holes each at nil fine = holes (span_of ts at at)
  element_cuts P hole one holes each at (token n) fine = holes (span_of ts at at)
  element_cuts P hole one holes each at (node from to m) fine = holes (span_of ts at at)

  pub elements_cuts : {A : Type 0} (P : A → Type 0) (hole : Range → A) (one : Value → ℕ → Option A)
      → ((r : Range) → P (hole r)) → ((v : Value) → Fine x v → Opt P (one v 0)) → (at : ℕ) (v : Value) → Fine x v
      → Opt (Each P) (elements hole one ts at v)
  elements_cuts P hole one holes each at (more turn vs) fine =
      given_fine P (Each P) (element_of hole one ts at (group (as_group turn) 0)) _
      (element_cuts P hole one holes each at (group (as_group turn) 0)
      (group_fine x (as_group turn) 0 (as_group_fine x turn fine.0))) (λ a f.
      given_fine (Each P) (Each P) (elements hole one ts (behind_element at (group (as_group turn) 0)) vs) _
      (elements_cuts P hole one holes each (behind_element at (group (as_group turn) 0)) vs fine.1) (λ rest g. (f, g)))
  elements_cuts P hole one holes each at absent fine = tt
  elements_cuts P hole one holes each at nil fine = tt
  elements_cuts P hole one holes each at (token n) fine = tt
  elements_cuts P hole one holes each at (node from to m) fine = tt

  pub array_literal_cuts : (from : ℕ) (r : Range) (p : Value) → Fine x p → Opt (ExprCuts x) (array_literal ts from r p)
  unfolding array_literal
  array_literal_cuts from r p fine =
      map_fine (Each (ExprCuts x)) (ExprCuts x) (elements vExpr.Hole expr_at ts (from + 1) (group p 0)) _
      (elements_cuts (ExprCuts x) vExpr.Hole expr_at (expr_Hole_cuts x) (λ v here. expr_fine x v 0 here) (from + 1)
      (group p 0) (group_fine x p 0 fine)) (λ elems f. expr_Array_cuts x elems r f)
