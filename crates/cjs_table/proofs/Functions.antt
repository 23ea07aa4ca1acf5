-- What functions, methods and classes tell.
use Rattle.std.specs.Prelude.{ℕ, ◌+◌, Bool, false, List, [], ◌∷◌, ◌++◌, Option, Some, None}
use Rattle.std.specs.List.{flat_map}
use Rattle.std.proofs.Common.{◌≡◌, refl, sym, ap, ◌∙◌}
use Rattle.std.proofs.lemmas.List.{append-nil, append_assoc}
use Rattle.base.specs.declared.range.Range.{Range}
use Rattle.es_token.specs.declared.token.Token.{Token}
use Rattle.es_token.specs.declared.token.TokenKind.TheVariants as k
use Rattle.es_ast.specs.declared.ts.leaf.MethodKind.{MethodKind}
use Rattle.es_ast.specs.declared.ts.leaf.Ident.{Ident}
use Rattle.es_ast.specs.declared.ast.Expr.{Expr}
use Rattle.es_ast.specs.declared.ast.Expr.TheVariants as vExpr
use Rattle.es_ast.specs.declared.ast.Param.{Param}
use Rattle.es_ast.specs.declared.ast.Prop.TheVariants as vProp
use Rattle.es_ast.specs.declared.ast.Stmt.{Stmt}
use Rattle.es_ast.specs.declared.ast.Stmt.TheVariants as vStmt
use Rattle.es_ast.specs.declared.ast.Class.{roll-Class, out-roll-Class}
use Rattle.es_ast.specs.declared.ast.ClassMember.TheVariants as vMember
use Rattle.es_ast.specs.declared.ast.ClassMember.TheOpen.{Class-F, Function-F}
use Rattle.es_ast.specs.declared.ast.Function.{roll-Function, out-roll-Function}
use Rattle.es_site.specs.Parts.{Whole}
use Rattle.es_lowering.specs.Value.{Value, Signature, given, part, as_group, group, first_of, behind, optional, is_there, turns, expr_at, stmt_at, member_at, params_at, key_at, block_at, signature_at}
use Rattle.es_lowering.specs.Value as v
use Rattle.es_lowering.specs.Texts.{span_of, token_at, kind_at, ident_at, own_name_at}
use Rattle.es_lowering.specs.Operators.{listed, accessor_kinds}
use Rattle.es_lowering.specs.Functions.{plain, function_of, method_at, block_or, body_of, arrow_of, name_param}
use Rattle.es_lowering.specs.Functions as low
use Rattle.es_lowering.specs.Classes.{modified}
use Rattle.es_lowering.specs.Classes as classes
use Rattle.es_lowering.specs.TypedParts.{annotation_at, params_part_at, args_part_at, heritage_in, modifiers_in, body_in, behind_body}
use Rattle.es_lowering.specs.TypedFunctions.{typed_function_of, with_accessor, is_mark}
use Rattle.es_lowering.specs.TypedFunctions as typed
use Rattle.cjs_facts.specs.Facts.{Facts, if_some, facts_of_class, facts_of_class_member, facts_of_expr, facts_of_function, facts_of_param, facts_of_prop, facts_of_stmt}
use Rattle.cjs_facts.proofs.Equations as facts
use Rattle.cjs_table.specs.declared.shapes.Group.TheVariants as gr
use Rattle.cjs_table.specs.declared.shapes.Shape.TheVariants as sh
use Rattle.cjs_table.specs.Met.{Told, both, Met, absent, nil, more, token, node, one, rows, met}
use Rattle.cjs_table.proofs.Seen.{Sees, both_none, both_assoc, moved, ends, alone, past, also, single, mapped, quiet, skipped}
use Rattle.cjs_table.proofs.Agrees.{key_facts, params_facts, Agree, first, nth, read, rows_are, met_group}
use Rattle.cjs_table.proofs.Roles.{AgreeRow, inside, expr, stmt, params, key, block, signature, maybe_expr, members}
use Rattle.cjs_table.proofs.Patterns.{param_facts}

-- ---- functions
by_parts : (w : Whole Function-F)
    → facts_of_function (roll-Function w) ≡ flat_map facts_of_param w.params ++ if_some facts_of_stmt w.body
by_parts w =
    facts.function_parts [] (roll-Function w)
    ∙ ap (λ (v : Whole Function-F). flat_map facts_of_param v.params ++ if_some facts_of_stmt v.body)
    (out-roll-Function w)

function_facts : (is_async is_generator : Bool) (r : Range) (name : Option Ident) (params : List Param) (body : Stmt)
    → facts_of_function (function_of is_async is_generator r name params body)
    ≡ flat_map facts_of_param params ++ facts_of_stmt body
function_facts is_async is_generator r name all body = by_parts _

typed_facts : (is_async is_generator : Bool) (r : Range) (name : Option Ident) (signature : Signature)
    (body : Option Stmt)
    → facts_of_function (typed_function_of is_async is_generator r name signature body)
    ≡ params_facts signature ++ if_some facts_of_stmt body
typed_facts is_async is_generator r name told body = by_parts _

-- a body that may be absent
body_in_sees : (u : Value) (w : Met) → Agree u w
    → Sees (if_some facts_of_stmt) (body_in (as_group u)) (met w (rows (sh.Node ∷ [])))
body_in_sees (v.more (v.node from to m) bs) (more (node told) cs) a =
    moved (if_some facts_of_stmt) _ _ _
    (rows_are (sh.Node ∷ []) refl (more (node told) cs) ∙ both_none told)
    (mapped Some (λ e. refl) m.stmt a.0.stmt)
body_in_sees (v.more v.absent bs) (more absent cs) a = record { sees = rows_are (sh.Node ∷ []) refl (more absent cs) }
body_in_sees (v.more v.nil bs) (more nil cs) a = record { sees = rows_are (sh.Node ∷ []) refl (more nil cs) }
body_in_sees (v.more (v.token n) bs) (more token cs) a = record { sees = rows_are (sh.Node ∷ []) refl (more token cs) }
body_in_sees (v.more (v.more d ds) bs) (more (more e es) cs) a = record {
  sees = rows_are (sh.Node ∷ []) refl (more (more e es) cs) ∙ both_none _ ∙ met_group e es;
}
body_in_sees (v.more _ bs) (more _ cs) a = absurd a.0
body_in_sees v.absent absent a = record { sees = refl }
body_in_sees v.nil nil a = record { sees = refl }
body_in_sees (v.token n) token a = record { sees = refl }
body_in_sees (v.node from to m) (node told) a = record { sees = refl }
body_in_sees _ _ a = absurd a

-- the body of an arrow: a block, or an expression alone
block_or_sees : (r : Range) (block : Option (List Stmt)) (e : Option Expr) (m : Told)
    → Sees (flat_map facts_of_stmt) block m → Sees facts_of_expr e m → Sees facts_of_stmt (block_or r block e) m
block_or_sees r (Some stmts) e m s t = record { sees = s.sees ∙ ap Some (sym (facts.stmt_Block [] stmts r)) }
block_or_sees r None e m s t = mapped (λ e. vStmt.Expr e r) (λ e. facts.stmt_Expr [] e r) e t

body_sees : (ts : List Token) (u : Value) (w : Met) → Agree u w → Sees facts_of_stmt (body_of ts u) (met w one)
body_sees ts (v.node from to m) (node told) a = block_or_sees (span_of ts from to) m.block m.expr told a.block a.expr
body_sees ts v.absent w a = record { sees = tt }
body_sees ts v.nil w a = record { sees = tt }
body_sees ts (v.token n) w a = record { sees = tt }
body_sees ts (v.more b bs) w a = record { sees = tt }
body_sees ts (v.node from to m) _ a = absurd a

body_group : (ts : List Token) (g : Value) (w : Met) → AgreeRow g w
    → Sees facts_of_stmt (body_of ts (part g 0)) (met w (rows (sh.Node ∷ [])))
body_group ts g w a =
    moved facts_of_stmt _ _ _ (rows_are (sh.Node ∷ []) refl w ∙ both_none (met (first w) one))
    (body_sees ts (part g 0) (first w) (a 0))

name_facts : (x : List ℕ) (t : Token) → flat_map facts_of_param (name_param x t ∷ []) ≡ []
name_facts x t =
    append-nil (facts_of_param (name_param x t)) ∙ param_facts plain t.range _ ∙ facts.pat_Ident [] _ None t.range

module _ (x : List ℕ) (ts : List Token) (p : Value) (q : Met) (a : AgreeRow p q) where
  pub function_form : (is_async : Bool) (r : Range)
      → Sees facts_of_function (low.function x ts is_async r p)
      (read q (sh.Skip ∷ sh.Skip ∷ sh.Node ∷ sh.Node ∷ []))
  unfolding low.function
  function_form is_async r =
      alone _ (past (own_name_at x ts p 1) _ (λ name. also (params_at p 2) _ (params p q a 2) (λ params.
      also (stmt_at p 3) _ (stmt p q a 3) (λ body.
      ends (function_of is_async (is_there (group p 0)) r name params body) (function_facts _ _ r name params body)))))

  pub typed_function : (is_async : Bool) (r : Range)
      → Sees facts_of_function (typed.typed_function x ts is_async r p)
      (read q (sh.Skip ∷ sh.Skip ∷ sh.Node ∷ sh.In gr.First ∷ []))
  unfolding typed.typed_function
  typed_function is_async r =
      alone _ (past (own_name_at x ts p 1) _ (λ name. also (signature_at p 2) _ (signature p q a 2) (λ signature.
      also (body_in (group p 3)) _ (body_in_sees (part p 3) (nth q 3) (a 3)) (λ body.
      ends (typed_function_of is_async (is_there (group p 0)) r name signature body)
      (typed_facts _ _ r name signature body)))))

  -- ---- arrows
  pub name_arrow : (is_async : Bool) (r : Range)
      → Sees facts_of_expr (low.name_arrow x ts is_async r p) (read q (sh.Skip ∷ sh.In gr.First ∷ []))
  unfolding low.name_arrow
  name_arrow is_async r =
      alone _ (past (token_at ts p 0) _ (λ t.
      also (body_of ts (part (group p 1) 0)) _ (body_group ts (group p 1) (nth q 1) (inside p q a 1)) (λ body.
      ends (arrow_of is_async r (name_param x t ∷ []) body)
      (facts.expr_Arrow [] _ ∙ function_facts is_async false r None (name_param x t ∷ []) body
      ∙ ap (λ (z : Facts). z ++ facts_of_stmt body) (name_facts x t)))))

  pub parenthesized_arrow : (is_async : Bool) (r : Range)
      → Sees facts_of_expr (low.parenthesized_arrow ts is_async r p) (read q (sh.Node ∷ sh.In gr.First ∷ []))
  unfolding low.parenthesized_arrow
  parenthesized_arrow is_async r =
      alone _ (also (params_at p 0) _ (params p q a 0) (λ params.
      also (body_of ts (part (group p 1) 0)) _ (body_group ts (group p 1) (nth q 1) (inside p q a 1)) (λ body.
      ends (arrow_of is_async r params body)
      (facts.expr_Arrow [] _ ∙ function_facts is_async false r None params body))))

  pub typed_arrow : (is_async : Bool) (r : Range)
      → Sees facts_of_expr (typed.typed_arrow ts is_async r p)
      (read q (sh.Skip ∷ sh.Node ∷ sh.Skip ∷ sh.In gr.First ∷ []))
  unfolding typed.typed_arrow
  typed_arrow is_async r =
      alone _ (past (params_part_at p 0) _ (λ types. also (params_at p 1) _ (params p q a 1) (λ params.
      past (annotation_at p 2) _ (λ result.
      also (body_of ts (part (group p 3) 0)) _ (body_group ts (group p 3) (nth q 3) (inside p q a 3)) (λ body.
      ends (vExpr.Arrow (typed_function_of is_async false r None (types, params, result) (Some body)))
      (facts.expr_Arrow [] _ ∙ typed_facts is_async false r None (types, params, result) (Some body)))))))

  -- ---- classes
  class_facts : (w : Whole Class-F)
      → facts_of_class (roll-Class w) ≡ if_some facts_of_expr w.super_class ++ flat_map facts_of_class_member w.body
  class_facts w =
      facts.class_parts [] (roll-Class w)
      ∙ ap (λ (v : Whole Class-F). if_some facts_of_expr v.super_class ++ flat_map facts_of_class_member v.body)
      (out-roll-Class w)

  pub class_form : (r : Range)
      → Sees facts_of_class (classes.class_ x ts r p) (read q (sh.Skip ∷ sh.In gr.First ∷ sh.Each gr.First ∷ []))
  unfolding classes.class_
  class_form r =
      alone _ (past (own_name_at x ts p 0) _ (λ name.
      also (optional expr_at (group p 1)) _ (maybe_expr p q a 1) (λ super_class.
      also (turns (λ turn. member_at turn 0) (group p 2)) _ (members p q a 2) (λ members. ends _ (class_facts _)))))

  pub typed_class : (is_abstract : Bool) (r : Range)
      → Sees facts_of_class (typed.typed_class x ts is_abstract r p)
      (read q (sh.Skip ∷ sh.Skip ∷ sh.In gr.First ∷ sh.Skip ∷ sh.Each gr.First ∷ []))
  unfolding typed.typed_class
  typed_class is_abstract r =
      alone _ (past (own_name_at x ts p 0) _ (λ name. past (params_part_at p 1) _ (λ types.
      also (optional expr_at (group p 2)) _ (maybe_expr p q a 2) (λ super_class.
      past (args_part_at (group p 2) 1) _ (λ super_args. past (heritage_in ts (group p 3)) _ (λ implements.
      also (turns (λ turn. member_at turn 0) (group p 4)) _ (members p q a 4) (λ members.
      ends _ (class_facts _))))))))

-- ---- methods
module _ (ts : List Token) (p : Value) (q : Met) (a : AgreeRow p q) where
  -- what follows a key
  method_sees : (is_async is_generator : Bool) (n : ℕ)
      → Sees facts_of_function (method_at ts is_async is_generator p n)
      (both (met (nth q n) one) (both (met (nth q (n + 1)) one) (Some [])))
  unfolding method_at
  method_sees is_async is_generator n =
      alone _ (also (params_at p n) _ (params p q a n)
      (λ params. also (stmt_at p (n + 1)) _ (stmt p q a (n + 1)) (λ body.
      ends (function_of is_async is_generator (span_of ts (first_of (part p n)) (behind (part p (n + 1)))) None params
      body)
      (function_facts is_async is_generator _ None params body))))

  abbrev method_told : ℕ → Told
  method_told n =
      both (met (nth q n) one)
      (both (met (nth q (n + 1)) one) (both (met (nth q (n + 1 + 1)) one) (Some [])))

  method_moved : (n : ℕ)
      → method_told n
      ≡ both (met (nth q n) one)
      (both (both (met (nth q (n + 1)) one) (both (met (nth q (n + 1 + 1)) one) (Some []))) (Some []))
  method_moved n = ap (both (met (nth q n) one)) (sym (both_none _))

  pub method_property : (kind : MethodKind) (is_async is_generator : Bool) (r : Range) (n : ℕ)
      → Sees facts_of_prop (low.method_property ts kind is_async is_generator r p n) (method_told n)
  unfolding low.method_property
  method_property kind is_async is_generator r n =
      moved facts_of_prop _ _ _ (method_moved n)
      (alone _ (also (key_at p n) _ (key p q a n) (λ key.
      also (method_at ts is_async is_generator p (n + 1)) _ (method_sees is_async is_generator (n + 1)) (λ function.
      ends (vProp.Method kind key.0 key.1 function r) (facts.prop_Method [] kind key.0 key.1 function r)))))

  pub accessor_property : (r : Range) → Sees facts_of_prop (low.accessor_property ts r p) (method_told 1)
  unfolding low.accessor_property
  accessor_property r =
      skipped (given (kind_at ts p 0) (listed accessor_kinds)) _ (λ kind. method_property kind false false r 1)

  pub method_member : (kind : MethodKind) (is_async is_generator : Bool) (r : Range) (n : ℕ)
      → Sees facts_of_class_member (classes.method_member ts kind is_async is_generator r p n) (method_told n)
  unfolding classes.method_member
  method_member kind is_async is_generator r n =
      moved facts_of_class_member _ _ _ (method_moved n)
      (alone _ (also (key_at p n) _ (key p q a n) (λ key.
      also (method_at ts is_async is_generator p (n + 1)) _ (method_sees is_async is_generator (n + 1)) (λ function.
      ends (vMember.Method (modified (is_there (group p 0)) false) kind key.0 key.1 false function r)
      (facts.class_member_Method [] _ kind key.0 key.1 false function r)))))

  pub accessor_member : (r : Range) → Sees facts_of_class_member (classes.accessor_member ts r p) (method_told 2)
  unfolding classes.accessor_member
  accessor_member r =
      skipped (given (kind_at ts p 1) (listed accessor_kinds)) _ (λ kind. method_member kind false false r 2)

  -- a key and a signature in a group, and a body behind it
  abbrev typed_property_told : ℕ → Told
  typed_property_told n =
      both (met (nth q n) (rows (sh.Node ∷ sh.Node ∷ []))) (both (met (nth q (n + 1)) one) (Some []))

  property_moved : (n : ℕ)
      → typed_property_told n
      ≡ both (met (nth (nth q n) 0) one) (both (met (nth (nth q n) 1) one) (both (met (nth q (n + 1)) one) (Some [])))
  property_moved n =
      ap (λ (z : Told). both z (both (met (nth q (n + 1)) one) (Some [])))
      (rows_are (sh.Node ∷ sh.Node ∷ []) refl (nth q n)
      ∙ ap (both (met (nth (nth q n) 0) one)) (both_none (met (nth (nth q n) 1) one)))
      ∙ both_assoc (met (nth (nth q n) 0) one) (met (nth (nth q n) 1) one) (both (met (nth q (n + 1)) one) (Some []))

  pub typed_method_property : (kind : MethodKind) (is_async is_generator : Bool) (r : Range) (n : ℕ)
      → Sees facts_of_prop (typed.typed_method_property ts kind is_async is_generator r p n) (typed_property_told n)
  unfolding typed.typed_method_property
  typed_method_property kind is_async is_generator r n =
      moved facts_of_prop _ _ _ (property_moved n)
      (alone _ (also (key_at (group p n) 0) _ (key (group p n) (nth q n) (inside p q a n) 0) (λ key.
      also (signature_at (group p n) 1) _ (signature (group p n) (nth q n) (inside p q a n) 1) (λ signature.
      also (stmt_at p (n + 1)) _ (stmt p q a (n + 1)) (λ body.
      ends (vProp.Method kind key.0 key.1 (typed_function_of is_async is_generator
      (span_of ts (first_of (part (group p n) 1)) (behind (part p (n + 1)))) None signature (Some body)) r)
      (facts.prop_Method [] kind key.0 key.1 _ r
      ∙ ap (λ (z : Facts). key_facts key ++ z) (typed_facts is_async is_generator _ None signature (Some body))
      ∙ sym (append_assoc (key_facts key) (params_facts signature) (facts_of_stmt body))))))))

  pub typed_accessor_property : (r : Range)
      → Sees facts_of_prop (typed.typed_accessor_property ts r p) (typed_property_told 1)
  unfolding typed.typed_accessor_property
  typed_accessor_property r =
      skipped (given (kind_at ts p 0) (listed accessor_kinds)) _ (λ kind. typed_method_property kind false false r 1)

  abbrev typed_member_told : ℕ → Told
  typed_member_told n =
      both (met (nth q n) (rows (sh.Node ∷ sh.Skip ∷ sh.Node ∷ [])))
      (both (met (nth q (n + 1)) (rows (sh.Node ∷ []))) (Some []))

  member_moved : (n : ℕ)
      → typed_member_told n
      ≡ both (met (nth (nth q n) 0) one)
      (both (met (nth (nth q n) 2) one) (both (met (nth q (n + 1)) (rows (sh.Node ∷ []))) (Some [])))
  member_moved n =
      ap (λ (z : Told). both z (both (met (nth q (n + 1)) (rows (sh.Node ∷ []))) (Some [])))
      (rows_are (sh.Node ∷ sh.Skip ∷ sh.Node ∷ []) refl (nth q n)
      ∙ ap (both (met (nth (nth q n) 0) one)) (both_none (met (nth (nth q n) 2) one)))
      ∙ both_assoc (met (nth (nth q n) 0) one) (met (nth (nth q n) 2) one)
      (both (met (nth q (n + 1)) (rows (sh.Node ∷ []))) (Some []))

  pub typed_method_member : (kind : MethodKind) (is_async is_generator : Bool) (r : Range) (n : ℕ)
      → Sees facts_of_class_member (typed.typed_method_member ts kind is_async is_generator r p n) (typed_member_told n)
  unfolding typed.typed_method_member
  typed_method_member kind is_async is_generator r n =
      moved facts_of_class_member _ _ _ (member_moved n)
      (alone _ (past (modifiers_in ts plain (group p 0)) _ (λ modifiers.
      also (key_at (group p n) 0) _ (key (group p n) (nth q n) (inside p q a n) 0) (λ key.
      also (signature_at (group p n) 2) _ (signature (group p n) (nth q n) (inside p q a n) 2) (λ signature.
      also (body_in (group p (n + 1))) _ (body_in_sees (part p (n + 1)) (nth q (n + 1)) (a (n + 1))) (λ body.
      ends (vMember.Method modifiers kind key.0 key.1 (is_there (group (group p n) 1))
      (typed_function_of is_async is_generator
      (span_of ts (first_of (part (group p n) 2)) (behind_body (group p (n + 1)) (behind (part (group p n) 2)))) None
      signature body) r)
      (facts.class_member_Method [] modifiers kind key.0 key.1 _ _ r
      ∙ ap (λ (z : Facts). key_facts key ++ z) (typed_facts is_async is_generator _ None signature body)
      ∙ sym (append_assoc (key_facts key) (params_facts signature) (if_some facts_of_stmt body)))))))))

  pub typed_accessor_member : (r : Range)
      → Sees facts_of_class_member (typed.typed_accessor_member ts r p) (typed_member_told 2)
  unfolding typed.typed_accessor_member
  typed_accessor_member r =
      skipped (given (kind_at ts p 1) (listed accessor_kinds)) _ (λ kind. typed_method_member kind false false r 2)

  -- ---- fields, and other members
  pub field_member : (accessor : Bool) (r : Range)
      → Sees facts_of_class_member (classes.field_member accessor r p)
      (read q (sh.Skip ∷ sh.Node ∷ sh.In gr.First ∷ []))
  unfolding classes.field_member
  field_member accessor r =
      alone _ (also (key_at p 1) _ (key p q a 1) (λ key.
      also (optional expr_at (group p 2)) _ (maybe_expr p q a 2) (λ value.
      ends (vMember.Prop (modified (is_there (group p 0)) accessor) key.0 key.1 false false None value r)
      (facts.class_member_Prop [] _ key.0 key.1 false false None value r))))

  pub typed_field : (accessor : Bool) (r : Range)
      → Sees facts_of_class_member (typed.typed_field ts accessor r p)
      (read q (sh.Skip ∷ sh.Node ∷ sh.Skip ∷ sh.Skip ∷ sh.In gr.First ∷ []))
  unfolding typed.typed_field
  typed_field accessor r =
      alone _ (past (modifiers_in ts plain (group p 0)) _ (λ modifiers. also (key_at p 1) _ (key p q a 1) (λ key.
      past (annotation_at p 3) _ (λ ty. also (optional expr_at (group p 4)) _ (maybe_expr p q a 4) (λ value.
      ends (vMember.Prop (with_accessor accessor modifiers) key.0 key.1
      (is_mark k.Question (kind_at ts (group p 2) 0)) (is_mark k.Exclamation (kind_at ts (group p 2) 0)) ty value r)
      (facts.class_member_Prop [] _ key.0 key.1 _ _ ty value r))))))

  pub static_block : (r : Range) → Sees facts_of_class_member (classes.static_block r p) (read q (sh.Node ∷ []))
  unfolding classes.static_block
  static_block r =
      single _ _ (mapped (λ stmts. vMember.StaticBlock stmts r) (λ stmts. facts.class_member_StaticBlock [] stmts r)
      (block_at p 0) (block p q a 0))

  -- ---- properties of objects
  pub spread_property : (r : Range) → Sees facts_of_prop (low.spread_property r p) (read q (sh.Node ∷ []))
  unfolding low.spread_property
  spread_property r =
      single _ _ (mapped (λ e. vProp.Spread e r) (λ e. facts.prop_Spread [] e r) (expr_at p 0) (expr p q a 0))

  pub shorthand_form : (x : List ℕ) → Sees facts_of_prop (low.shorthand x ts p) (Some [])
  unfolding low.shorthand
  shorthand_form x = quiet vProp.Shorthand (λ i. facts.prop_Shorthand [] i) (ident_at x ts p 0)

  pub key_value : (r : Range) → Sees facts_of_prop (low.key_value r p) (read q (sh.Node ∷ sh.Node ∷ []))
  unfolding low.key_value
  key_value r =
      alone _ (also (key_at p 0) _ (key p q a 0) (λ key. also (expr_at p 1) _ (expr p q a 1) (λ value.
      ends (vProp.KeyValue key.0 key.1 value r) (facts.prop_KeyValue [] key.0 key.1 value r))))
