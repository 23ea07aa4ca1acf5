-- What functions, methods and classes tell.
use Rattle.std.specs.Prelude.{ℕ, ◌+◌, Bool, false, List, [], ◌∷◌, Option, Some, None}
use Rattle.std.proofs.Common.{◌≡◌, refl, sym, ap, ◌∙◌}
use Rattle.dts_overloads.proofs.Laws.{or_none, or_assoc, swapped, members_law}
use Rattle.base.specs.declared.range.Range.{Range}
use Rattle.es_token.specs.declared.token.Token.{Token}
use Rattle.es_token.specs.declared.token.TokenKind.TheVariants as k
use Rattle.es_ast.specs.declared.ts.leaf.MethodKind.{MethodKind}
use Rattle.es_ast.specs.declared.ts.leaf.Ident.{Ident}
use Rattle.es_ast.specs.declared.ast.Expr.{Expr}
use Rattle.es_ast.specs.declared.ast.Expr.TheVariants as vExpr
use Rattle.es_ast.specs.declared.ast.Param.{Param}
use Rattle.es_ast.specs.declared.ast.Prop.TheVariants as vProp
use Rattle.es_ast.specs.declared.ast.Stmt.{Stmt}
use Rattle.es_ast.specs.declared.ast.Stmt.TheVariants as vStmt
use Rattle.es_ast.specs.declared.ast.Class.{Class, roll-Class, out-Class, out-roll-Class, roll-out-Class}
use Rattle.es_ast.specs.declared.ast.ClassMember.TheVariants as vMember
use Rattle.es_ast.specs.declared.ast.ClassMember.TheOpen.{Class-F, Function-F}
use Rattle.es_ast.specs.declared.ast.Function.{roll-Function}
use Rattle.es_site.specs.Parts.{Whole}
use Rattle.es_lowering.specs.Value.{Value, Signature, given, part, as_group, group, first_of, behind, optional, is_there, turns, expr_at, stmt_at, member_at, params_at, key_at, block_at, signature_at}
use Rattle.es_lowering.specs.Value as v
use Rattle.es_lowering.specs.Texts.{span_of, token_at, kind_at, ident_at, own_name_at}
use Rattle.es_lowering.specs.Operators.{listed, accessor_kinds}
use Rattle.es_lowering.specs.Functions.{plain, function_of, method_at, block_or, body_of, arrow_of, name_param}
use Rattle.es_lowering.specs.Functions as low
use Rattle.es_lowering.specs.Classes.{modified}
use Rattle.es_lowering.specs.Classes as classes
use Rattle.es_lowering.specs.TypedParts.{annotation_at, params_part_at, args_part_at, heritage_in, modifiers_in, body_in, behind_body}
use Rattle.es_lowering.specs.TypedFunctions.{typed_function_of, with_accessor, is_mark}
use Rattle.es_lowering.specs.TypedFunctions as typed
use Rattle.dts_overloads.specs.Among.{none, ◌∪◌, all_of, Among, if_some, of_class, of_class_member, of_expr, of_function, of_param, of_prop, of_stmt, of_stmts, own_members}
use Rattle.dts_overloads.proofs.Equations as laws
use Rattle.dts_overloads.specs.declared.shapes.Group.TheVariants as gr
use Rattle.dts_overloads.specs.declared.shapes.Shape.TheVariants as sh
use Rattle.dts_overloads.specs.Met.{Told, both, Met, absent, nil, more, token, node, one, rows, met}
use Rattle.dts_overloads.specs.Own.{members_told}
use Rattle.dts_overloads.proofs.Seen.{Sees, both_none, both_assoc, moved, ends, alone, past, also, single, mapped, quiet, skipped, joined, kept}
use Rattle.dts_overloads.proofs.Agrees.{key_among, params_among, Agree, first, nth, read, rows_are, met_group}
use Rattle.dts_overloads.proofs.Roles.{AgreeRow, inside, expr, stmt, params, key, block, signature, maybe_expr, members}
use Rattle.dts_overloads.proofs.Patterns.{param_among}

-- ---- functions
by_parts : (w : Whole Function-F)
    → of_function (roll-Function w) ≡ all_of of_param w.params ∪ if_some of_stmt w.body
by_parts w = laws.function_roll w

function_among : (is_async is_generator : Bool) (r : Range) (name : Option Ident) (params : List Param) (body : Stmt)
    → of_function (function_of is_async is_generator r name params body)
    ≡ all_of of_param params ∪ of_stmt body
function_among is_async is_generator r name all body = by_parts _

typed_among : (is_async is_generator : Bool) (r : Range) (name : Option Ident) (signature : Signature)
    (body : Option Stmt)
    → of_function (typed_function_of is_async is_generator r name signature body)
    ≡ params_among signature ∪ if_some of_stmt body
typed_among is_async is_generator r name told body = by_parts _

-- a body that may be absent
body_in_sees : (u : Value) (w : Met) → Agree u w
    → Sees (if_some of_stmt) (body_in (as_group u)) (met w (rows (sh.Node ∷ [])))
body_in_sees (v.more (v.node from to m) bs) (more (node told) cs) a =
    moved (if_some of_stmt) _ _ _
    (rows_are (sh.Node ∷ []) refl (more (node told) cs) ∙ both_none told)
    (mapped Some (λ e. refl) m.stmt a.0.stmt)
body_in_sees (v.more v.absent bs) (more absent cs) a = record { sees = rows_are (sh.Node ∷ []) refl (more absent cs) }
body_in_sees (v.more v.nil bs) (more nil cs) a = record { sees = rows_are (sh.Node ∷ []) refl (more nil cs) }
body_in_sees (v.more (v.token n) bs) (more token cs) a = record { sees = rows_are (sh.Node ∷ []) refl (more token cs) }
body_in_sees (v.more (v.more d ds) bs) (more (more e es) cs) a = record {
  sees = rows_are (sh.Node ∷ []) refl (more (more e es) cs) ∙ both_none _ ∙ met_group e es;
}
body_in_sees (v.more _ bs) (more _ cs) a = absurd a.0
body_in_sees v.absent absent a = record { sees = refl }
body_in_sees v.nil nil a = record { sees = refl }
body_in_sees (v.token n) token a = record { sees = refl }
body_in_sees (v.node from to m) (node told) a = record { sees = refl }
body_in_sees _ _ a = absurd a

-- the body of an arrow: a block, or an expression alone
block_or_sees : (r : Range) (block : Option (List Stmt)) (e : Option Expr) (m : Told)
    → Sees of_stmts block m → Sees of_expr e m → Sees of_stmt (block_or r block e) m
block_or_sees r (Some stmts) e m s t = record { sees = s.sees ∙ ap Some (sym (laws.stmt_Block stmts r)) }
block_or_sees r None e m s t = mapped (λ e. vStmt.Expr e r) (λ e. laws.stmt_Expr e r) e t

body_sees : (ts : List Token) (u : Value) (w : Met) → Agree u w → Sees of_stmt (body_of ts u) (met w one)
body_sees ts (v.node from to m) (node told) a = block_or_sees (span_of ts from to) m.block m.expr told a.block a.expr
body_sees ts v.absent w a = record { sees = tt }
body_sees ts v.nil w a = record { sees = tt }
body_sees ts (v.token n) w a = record { sees = tt }
body_sees ts (v.more b bs) w a = record { sees = tt }
body_sees ts (v.node from to m) _ a = absurd a

body_group : (ts : List Token) (g : Value) (w : Met) → AgreeRow g w
    → Sees of_stmt (body_of ts (part g 0)) (met w (rows (sh.Node ∷ [])))
body_group ts g w a =
    moved of_stmt _ _ _ (rows_are (sh.Node ∷ []) refl w ∙ both_none (met (first w) one))
    (body_sees ts (part g 0) (first w) (a 0))

name_among : (x : List ℕ) (t : Token) → all_of of_param (name_param x t ∷ []) ≡ none
name_among x t =
    or_none (of_param (name_param x t)) ∙ param_among plain t.range _ ∙ laws.pat_Ident _ None t.range

module _ (x : List ℕ) (ts : List Token) (p : Value) (q : Met) (a : AgreeRow p q) where
  pub function_form : (is_async : Bool) (r : Range)
      → Sees of_function (low.function x ts is_async r p)
      (read q (sh.Skip ∷ sh.Skip ∷ sh.Node ∷ sh.Node ∷ []))
  unfolding low.function
  function_form is_async r =
      alone _ (past (own_name_at x ts p 1) _ (λ name. also (params_at p 2) _ (params p q a 2) (λ params.
      also (stmt_at p 3) _ (stmt p q a 3) (λ body.
      ends (function_of is_async (is_there (group p 0)) r name params body) (function_among _ _ r name params body)))))

  pub typed_function : (is_async : Bool) (r : Range)
      → Sees of_function (typed.typed_function x ts is_async r p)
      (read q (sh.Skip ∷ sh.Skip ∷ sh.Node ∷ sh.In gr.First ∷ []))
  unfolding typed.typed_function
  typed_function is_async r =
      alone _ (past (own_name_at x ts p 1) _ (λ name. also (signature_at p 2) _ (signature p q a 2) (λ signature.
      also (body_in (group p 3)) _ (body_in_sees (part p 3) (nth q 3) (a 3)) (λ body.
      ends (typed_function_of is_async (is_there (group p 0)) r name signature body)
      (typed_among _ _ r name signature body)))))

  -- ---- arrows
  pub name_arrow : (is_async : Bool) (r : Range)
      → Sees of_expr (low.name_arrow x ts is_async r p) (read q (sh.Skip ∷ sh.In gr.First ∷ []))
  unfolding low.name_arrow
  name_arrow is_async r =
      alone _ (past (token_at ts p 0) _ (λ t.
      also (body_of ts (part (group p 1) 0)) _ (body_group ts (group p 1) (nth q 1) (inside p q a 1)) (λ body.
      ends (arrow_of is_async r (name_param x t ∷ []) body)
      (laws.expr_Arrow _ ∙ function_among is_async false r None (name_param x t ∷ []) body
      ∙ ap (λ (z : Among). z ∪ of_stmt body) (name_among x t)))))

  pub parenthesized_arrow : (is_async : Bool) (r : Range)
      → Sees of_expr (low.parenthesized_arrow ts is_async r p) (read q (sh.Node ∷ sh.In gr.First ∷ []))
  unfolding low.parenthesized_arrow
  parenthesized_arrow is_async r =
      alone _ (also (params_at p 0) _ (params p q a 0) (λ params.
      also (body_of ts (part (group p 1) 0)) _ (body_group ts (group p 1) (nth q 1) (inside p q a 1)) (λ body.
      ends (arrow_of is_async r params body)
      (laws.expr_Arrow _ ∙ function_among is_async false r None params body))))

  pub typed_arrow : (is_async : Bool) (r : Range)
      → Sees of_expr (typed.typed_arrow ts is_async r p)
      (read q (sh.Skip ∷ sh.Node ∷ sh.Skip ∷ sh.In gr.First ∷ []))
  unfolding typed.typed_arrow
  typed_arrow is_async r =
      alone _ (past (params_part_at p 0) _ (λ types. also (params_at p 1) _ (params p q a 1) (λ params.
      past (annotation_at p 2) _ (λ result.
      also (body_of ts (part (group p 3) 0)) _ (body_group ts (group p 3) (nth q 3) (inside p q a 3)) (λ body.
      ends (vExpr.Arrow (typed_function_of is_async false r None (types, params, result) (Some body)))
      (laws.expr_Arrow _ ∙ typed_among is_async false r None (types, params, result) (Some body)))))))

  -- ---- classes
  -- the members of a class as a list, and what is in its parts
  abbrev own_class : Class → Among
  own_class c = own_members (out-Class c).body

  abbrev in_class : Class → Among
  in_class c = if_some of_expr (out-Class c).super_class ∪ all_of of_class_member (out-Class c).body

  class_law : (c : Class) → of_class c ≡ own_class c ∪ in_class c
  class_law c =
      ap of_class (sym (roll-out-Class c)) ∙ laws.class_roll (out-Class c)
      ∙ ap (λ (z : Among). if_some of_expr (out-Class c).super_class ∪ z) (members_law (out-Class c).body)
      ∙ swapped (if_some of_expr (out-Class c).super_class) (own_class c) (all_of of_class_member (out-Class c).body)

  in_rolled : (w : Whole Class-F)
      → in_class (roll-Class w) ≡ if_some of_expr w.super_class ∪ all_of of_class_member w.body
  in_rolled w =
      ap (λ (v : Whole Class-F). if_some of_expr v.super_class ∪ all_of of_class_member v.body) (out-roll-Class w)

  own_rolled : (w : Whole Class-F) → own_class (roll-Class w) ≡ own_members w.body
  own_rolled w = ap (λ (v : Whole Class-F). own_members v.body) (out-roll-Class w)

  class_parts : (r : Range)
      → Sees in_class (classes.class_ x ts r p) (read q (sh.Skip ∷ sh.In gr.First ∷ sh.Each gr.First ∷ []))
  unfolding classes.class_
  class_parts r =
      alone _ (past (own_name_at x ts p 0) _ (λ name.
      also (optional expr_at (group p 1)) _ (maybe_expr p q a 1) (λ super_class.
      also (turns (λ turn. member_at turn 0) (group p 2)) _ (members p q a 2) (λ members. ends _ (in_rolled (record { ident = name; is_abstract = false; type_params = None; super_class = super_class; super_type_args = None; implements = None; body = members; span = r }))))))

  class_own : (r : Range) → Sees own_class (classes.class_ x ts r p) (members_told (group p 2))
  unfolding classes.class_
  class_own r =
      skipped (own_name_at x ts p 0) _ (λ name. skipped (optional expr_at (group p 1)) _ (λ super_class.
      kept _ (λ members. own_rolled (record { ident = name; is_abstract = false; type_params = None; super_class = super_class; super_type_args = None; implements = None; body = members; span = r })) (turns (λ turn. member_at turn 0) (group p 2))))

  pub class_form : (r : Range)
      → Sees of_class (classes.class_ x ts r p)
      (both (members_told (group p 2)) (read q (sh.Skip ∷ sh.In gr.First ∷ sh.Each gr.First ∷ [])))
  class_form r = joined (classes.class_ x ts r p) (class_own r) (class_parts r) class_law

  typed_parts : (is_abstract : Bool) (r : Range)
      → Sees in_class (typed.typed_class x ts is_abstract r p)
      (read q (sh.Skip ∷ sh.Skip ∷ sh.In gr.First ∷ sh.Skip ∷ sh.Each gr.First ∷ []))
  unfolding typed.typed_class
  typed_parts is_abstract r =
      alone _ (past (own_name_at x ts p 0) _ (λ name. past (params_part_at p 1) _ (λ types.
      also (optional expr_at (group p 2)) _ (maybe_expr p q a 2) (λ super_class.
      past (args_part_at (group p 2) 1) _ (λ super_args. past (heritage_in ts (group p 3)) _ (λ implements.
      also (turns (λ turn. member_at turn 0) (group p 4)) _ (members p q a 4) (λ members.
      ends _ (in_rolled (record { ident = name; is_abstract = is_abstract; type_params = types; super_class = super_class; super_type_args = super_args; implements = implements; body = members; span = r })))))))))

  typed_own : (is_abstract : Bool) (r : Range)
      → Sees own_class (typed.typed_class x ts is_abstract r p) (members_told (group p 4))
  unfolding typed.typed_class
  typed_own is_abstract r =
      skipped (own_name_at x ts p 0) _ (λ name. skipped (params_part_at p 1) _ (λ types.
      skipped (optional expr_at (group p 2)) _ (λ super_class. skipped (args_part_at (group p 2) 1) _ (λ super_args.
      skipped (heritage_in ts (group p 3)) _ (λ implements.
      kept _ (λ members. own_rolled (record { ident = name; is_abstract = is_abstract; type_params = types; super_class = super_class; super_type_args = super_args; implements = implements; body = members; span = r })) (turns (λ turn. member_at turn 0) (group p 4)))))))

  pub typed_class : (is_abstract : Bool) (r : Range)
      → Sees of_class (typed.typed_class x ts is_abstract r p)
      (both (members_told (group p 4))
      (read q (sh.Skip ∷ sh.Skip ∷ sh.In gr.First ∷ sh.Skip ∷ sh.Each gr.First ∷ [])))
  typed_class is_abstract r =
      joined (typed.typed_class x ts is_abstract r p) (typed_own is_abstract r) (typed_parts is_abstract r) class_law

-- ---- methods
module _ (ts : List Token) (p : Value) (q : Met) (a : AgreeRow p q) where
  -- what follows a key
  method_sees : (is_async is_generator : Bool) (n : ℕ)
      → Sees of_function (method_at ts is_async is_generator p n)
      (both (met (nth q n) one) (both (met (nth q (n + 1)) one) (Some none)))
  unfolding method_at
  method_sees is_async is_generator n =
      alone _ (also (params_at p n) _ (params p q a n)
      (λ params. also (stmt_at p (n + 1)) _ (stmt p q a (n + 1)) (λ body.
      ends (function_of is_async is_generator (span_of ts (first_of (part p n)) (behind (part p (n + 1)))) None params
      body)
      (function_among is_async is_generator _ None params body))))

  abbrev method_told : ℕ → Told
  method_told n =
      both (met (nth q n) one)
      (both (met (nth q (n + 1)) one) (both (met (nth q (n + 1 + 1)) one) (Some none)))

  method_moved : (n : ℕ)
      → method_told n
      ≡ both (met (nth q n) one)
      (both (both (met (nth q (n + 1)) one) (both (met (nth q (n + 1 + 1)) one) (Some none))) (Some none))
  method_moved n = ap (both (met (nth q n) one)) (sym (both_none _))

  pub method_property : (kind : MethodKind) (is_async is_generator : Bool) (r : Range) (n : ℕ)
      → Sees of_prop (low.method_property ts kind is_async is_generator r p n) (method_told n)
  unfolding low.method_property
  method_property kind is_async is_generator r n =
      moved of_prop _ _ _ (method_moved n)
      (alone _ (also (key_at p n) _ (key p q a n) (λ key.
      also (method_at ts is_async is_generator p (n + 1)) _ (method_sees is_async is_generator (n + 1)) (λ function.
      ends (vProp.Method kind key.0 key.1 function r) (laws.prop_Method kind key.0 key.1 function r)))))

  pub accessor_property : (r : Range) → Sees of_prop (low.accessor_property ts r p) (method_told 1)
  unfolding low.accessor_property
  accessor_property r =
      skipped (given (kind_at ts p 0) (listed accessor_kinds)) _ (λ kind. method_property kind false false r 1)

  pub method_member : (kind : MethodKind) (is_async is_generator : Bool) (r : Range) (n : ℕ)
      → Sees of_class_member (classes.method_member ts kind is_async is_generator r p n) (method_told n)
  unfolding classes.method_member
  method_member kind is_async is_generator r n =
      moved of_class_member _ _ _ (method_moved n)
      (alone _ (also (key_at p n) _ (key p q a n) (λ key.
      also (method_at ts is_async is_generator p (n + 1)) _ (method_sees is_async is_generator (n + 1)) (λ function.
      ends (vMember.Method (modified (is_there (group p 0)) false) kind key.0 key.1 false function r)
      (laws.class_member_Method _ kind key.0 key.1 false function r)))))

  pub accessor_member : (r : Range) → Sees of_class_member (classes.accessor_member ts r p) (method_told 2)
  unfolding classes.accessor_member
  accessor_member r =
      skipped (given (kind_at ts p 1) (listed accessor_kinds)) _ (λ kind. method_member kind false false r 2)

  -- a key and a signature in a group, and a body behind it
  abbrev typed_property_told : ℕ → Told
  typed_property_told n =
      both (met (nth q n) (rows (sh.Node ∷ sh.Node ∷ []))) (both (met (nth q (n + 1)) one) (Some none))

  property_moved : (n : ℕ)
      → typed_property_told n
      ≡ both (met (nth (nth q n) 0) one) (both (met (nth (nth q n) 1) one) (both (met (nth q (n + 1)) one) (Some none)))
  property_moved n =
      ap (λ (z : Told). both z (both (met (nth q (n + 1)) one) (Some none)))
      (rows_are (sh.Node ∷ sh.Node ∷ []) refl (nth q n)
      ∙ ap (both (met (nth (nth q n) 0) one)) (both_none (met (nth (nth q n) 1) one)))
      ∙ both_assoc (met (nth (nth q n) 0) one) (met (nth (nth q n) 1) one) (both (met (nth q (n + 1)) one) (Some none))

  pub typed_method_property : (kind : MethodKind) (is_async is_generator : Bool) (r : Range) (n : ℕ)
      → Sees of_prop (typed.typed_method_property ts kind is_async is_generator r p n) (typed_property_told n)
  unfolding typed.typed_method_property
  typed_method_property kind is_async is_generator r n =
      moved of_prop _ _ _ (property_moved n)
      (alone _ (also (key_at (group p n) 0) _ (key (group p n) (nth q n) (inside p q a n) 0) (λ key.
      also (signature_at (group p n) 1) _ (signature (group p n) (nth q n) (inside p q a n) 1) (λ signature.
      also (stmt_at p (n + 1)) _ (stmt p q a (n + 1)) (λ body.
      ends (vProp.Method kind key.0 key.1 (typed_function_of is_async is_generator
      (span_of ts (first_of (part (group p n) 1)) (behind (part p (n + 1)))) None signature (Some body)) r)
      (laws.prop_Method kind key.0 key.1 _ r
      ∙ ap (λ (z : Among). key_among key ∪ z) (typed_among is_async is_generator _ None signature (Some body))
      ∙ sym (or_assoc (key_among key) (params_among signature) (of_stmt body))))))))

  pub typed_accessor_property : (r : Range)
      → Sees of_prop (typed.typed_accessor_property ts r p) (typed_property_told 1)
  unfolding typed.typed_accessor_property
  typed_accessor_property r =
      skipped (given (kind_at ts p 0) (listed accessor_kinds)) _ (λ kind. typed_method_property kind false false r 1)

  abbrev typed_member_told : ℕ → Told
  typed_member_told n =
      both (met (nth q n) (rows (sh.Node ∷ sh.Skip ∷ sh.Node ∷ [])))
      (both (met (nth q (n + 1)) (rows (sh.Node ∷ []))) (Some none))

  member_moved : (n : ℕ)
      → typed_member_told n
      ≡ both (met (nth (nth q n) 0) one)
      (both (met (nth (nth q n) 2) one) (both (met (nth q (n + 1)) (rows (sh.Node ∷ []))) (Some none)))
  member_moved n =
      ap (λ (z : Told). both z (both (met (nth q (n + 1)) (rows (sh.Node ∷ []))) (Some none)))
      (rows_are (sh.Node ∷ sh.Skip ∷ sh.Node ∷ []) refl (nth q n)
      ∙ ap (both (met (nth (nth q n) 0) one)) (both_none (met (nth (nth q n) 2) one)))
      ∙ both_assoc (met (nth (nth q n) 0) one) (met (nth (nth q n) 2) one)
      (both (met (nth q (n + 1)) (rows (sh.Node ∷ []))) (Some none))

  pub typed_method_member : (kind : MethodKind) (is_async is_generator : Bool) (r : Range) (n : ℕ)
      → Sees of_class_member (typed.typed_method_member ts kind is_async is_generator r p n) (typed_member_told n)
  unfolding typed.typed_method_member
  typed_method_member kind is_async is_generator r n =
      moved of_class_member _ _ _ (member_moved n)
      (alone _ (past (modifiers_in ts plain (group p 0)) _ (λ modifiers.
      also (key_at (group p n) 0) _ (key (group p n) (nth q n) (inside p q a n) 0) (λ key.
      also (signature_at (group p n) 2) _ (signature (group p n) (nth q n) (inside p q a n) 2) (λ signature.
      also (body_in (group p (n + 1))) _ (body_in_sees (part p (n + 1)) (nth q (n + 1)) (a (n + 1))) (λ body.
      ends (vMember.Method modifiers kind key.0 key.1 (is_there (group (group p n) 1))
      (typed_function_of is_async is_generator
      (span_of ts (first_of (part (group p n) 2)) (behind_body (group p (n + 1)) (behind (part (group p n) 2)))) None
      signature body) r)
      (laws.class_member_Method modifiers kind key.0 key.1 _ _ r
      ∙ ap (λ (z : Among). key_among key ∪ z) (typed_among is_async is_generator _ None signature body)
      ∙ sym (or_assoc (key_among key) (params_among signature) (if_some of_stmt body)))))))))

  pub typed_accessor_member : (r : Range)
      → Sees of_class_member (typed.typed_accessor_member ts r p) (typed_member_told 2)
  unfolding typed.typed_accessor_member
  typed_accessor_member r =
      skipped (given (kind_at ts p 1) (listed accessor_kinds)) _ (λ kind. typed_method_member kind false false r 2)

  -- ---- fields, and other members
  pub field_member : (accessor : Bool) (r : Range)
      → Sees of_class_member (classes.field_member accessor r p)
      (read q (sh.Skip ∷ sh.Node ∷ sh.In gr.First ∷ []))
  unfolding classes.field_member
  field_member accessor r =
      alone _ (also (key_at p 1) _ (key p q a 1) (λ key.
      also (optional expr_at (group p 2)) _ (maybe_expr p q a 2) (λ value.
      ends (vMember.Prop (modified (is_there (group p 0)) accessor) key.0 key.1 false false None value r)
      (laws.class_member_Prop _ key.0 key.1 false false None value r))))

  pub typed_field : (accessor : Bool) (r : Range)
      → Sees of_class_member (typed.typed_field ts accessor r p)
      (read q (sh.Skip ∷ sh.Node ∷ sh.Skip ∷ sh.Skip ∷ sh.In gr.First ∷ []))
  unfolding typed.typed_field
  typed_field accessor r =
      alone _ (past (modifiers_in ts plain (group p 0)) _ (λ modifiers. also (key_at p 1) _ (key p q a 1) (λ key.
      past (annotation_at p 3) _ (λ ty. also (optional expr_at (group p 4)) _ (maybe_expr p q a 4) (λ value.
      ends (vMember.Prop (with_accessor accessor modifiers) key.0 key.1
      (is_mark k.Question (kind_at ts (group p 2) 0)) (is_mark k.Exclamation (kind_at ts (group p 2) 0)) ty value r)
      (laws.class_member_Prop _ key.0 key.1 _ _ ty value r))))))

  pub static_block : (r : Range) → Sees of_class_member (classes.static_block r p) (read q (sh.Node ∷ []))
  unfolding classes.static_block
  static_block r =
      single _ _ (mapped (λ stmts. vMember.StaticBlock stmts r) (λ stmts. laws.class_member_StaticBlock stmts r)
      (block_at p 0) (block p q a 0))

  -- ---- properties of objects
  pub spread_property : (r : Range) → Sees of_prop (low.spread_property r p) (read q (sh.Node ∷ []))
  unfolding low.spread_property
  spread_property r =
      single _ _ (mapped (λ e. vProp.Spread e r) (λ e. laws.prop_Spread e r) (expr_at p 0) (expr p q a 0))

  pub shorthand_form : (x : List ℕ) → Sees of_prop (low.shorthand x ts p) (Some none)
  unfolding low.shorthand
  shorthand_form x = quiet vProp.Shorthand (λ i. laws.prop_Shorthand i) (ident_at x ts p 0)

  pub key_value : (r : Range) → Sees of_prop (low.key_value r p) (read q (sh.Node ∷ sh.Node ∷ []))
  unfolding low.key_value
  key_value r =
      alone _ (also (key_at p 0) _ (key p q a 0) (λ key. also (expr_at p 1) _ (expr p q a 1) (λ value.
      ends (vProp.KeyValue key.0 key.1 value r) (laws.prop_KeyValue key.0 key.1 value r))))
