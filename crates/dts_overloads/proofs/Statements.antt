-- What statements and declarations of variables tell.
use Rattle.std.specs.Prelude.{ℕ, ◌+◌, Bool, true, false, List, [], ◌∷◌, map, Option, Some, None, option_map, IfSome, if◌then◌else◌}
use Rattle.std.proofs.Common.{◌≡◌, refl, sym, ap, ◌∙◌}
use Rattle.dts_overloads.proofs.Laws.{or_none, crossed, swapped, stmts_law}
use Rattle.base.specs.declared.range.Range.{Range}
use Rattle.es_token.specs.declared.token.Token.{Token}
use Rattle.es_token.specs.declared.token.TokenKind.{TokenKind}
use Rattle.es_token.specs.declared.token.TokenKind.TheVariants as k
use Rattle.grammar_theory.specs.Key.{same_kind}
use Rattle.es_ast.specs.declared.ts.ts.TsPart.{TsPart}
use Rattle.es_ast.specs.declared.leaf.VarDeclKind.{VarDeclKind}
use Rattle.es_ast.specs.declared.leaf.VarDeclKind.TheVariants as vKind
use Rattle.es_ast.specs.declared.ast.Decl.TheVariants as vDecl
use Rattle.es_ast.specs.declared.ast.Expr.{Expr}
use Rattle.es_ast.specs.declared.ast.Pat.{Pat}
use Rattle.es_ast.specs.declared.ast.Stmt.{Stmt}
use Rattle.es_ast.specs.declared.ast.Stmt.TheVariants as vStmt
use Rattle.es_ast.specs.declared.ast.SwitchCase.{SwitchCase, roll-SwitchCase, out-SwitchCase, out-roll-SwitchCase, roll-out-SwitchCase}
use Rattle.es_ast.specs.declared.ast.VarDeclarator.{VarDeclarator, roll-VarDeclarator}
use Rattle.es_ast.specs.declared.ast.ClassMember.TheOpen.{SwitchCase-F, VarDeclarator-F}
use Rattle.es_site.specs.Parts.{Whole}
use Rattle.es_lowering.specs.Value.{Value, given, part, as_group, group, first_of, behind, optional, is_there, turns, expr_at, pat_at, stmt_at, variables_at, declarator_at, head_at, marked_at}
use Rattle.es_lowering.specs.Value as v
use Rattle.es_lowering.specs.Texts.{span_of, token_at, kind_at, ident_at}
use Rattle.es_lowering.specs.Operators.{listed, variable_kinds, or_else}
use Rattle.es_lowering.specs.Patterns.{ident_pat}
use Rattle.es_lowering.specs.TypedParts.{annotation_at, annotated_at, annotated_span, marked_by}
use Rattle.es_lowering.specs.TypedStatements as typed
use Rattle.es_lowering.specs.Statements.{Variables, Head, declarator_of, declarators_at, using_kind, expression_at, each_of, returned, behind_clause, clause_of, clauses, stmts_of, handled}
use Rattle.es_lowering.specs.Statements as low
use Rattle.dts_overloads.specs.Among.{none, ◌∪◌, all_of, Among, if_some, of_decl, of_expr, of_pat, of_stmt, of_stmts, of_switch_case, of_var_declarator, own_stmts}
use Rattle.dts_overloads.proofs.Equations as laws
use Rattle.dts_overloads.specs.declared.shapes.Group.TheVariants as gr
use Rattle.dts_overloads.specs.declared.shapes.Shape.TheVariants as sh
use Rattle.dts_overloads.specs.Met.{Told, both, Met, absent, nil, more, token, node, one, rows, each, met, is_there as is_met, is_single}
use Rattle.dts_overloads.specs.Plan.{inner}
use Rattle.dts_overloads.specs.Own.{stmts_told, cases_told}
use Rattle.dts_overloads.proofs.Seen.{Sees, Adds, both_none, none_both, moved, more_told, adds_moved, ends, alone, past, also, also_mapped, single, mapped, quiet, skipped, told_is, joined, two_end}
use Rattle.dts_overloads.proofs.Agrees.{variables_among, head_among, Agree, first, rest, nth, read, parts, parts_in, rows_are, met_row, met_done, in_first}
use Rattle.dts_overloads.proofs.Roles.{AgreeRow, inside, expr, pat, stmt, variables, declarator, head, marked, maybe_expr, maybe_pat, maybe_stmt, stmts, declarators, second}

-- ---- patterns with a type behind them
pub marked_is : (o : Option (Bool → Option TsPart → Range → Pat)) (m : Told) (mark : Bool) (ty : Option TsPart)
    (r : Range)
    → Sees (λ (pat : Bool → Option TsPart → Range → Pat). of_pat (pat mark ty r)) o m
    → Sees of_pat (marked_by o mark ty r) m
marked_is None m mark ty r s = record { sees = tt }
marked_is (Some made) m mark ty r s = record { sees = s.sees }

pub annotated : (ts : List Token) (p : Value) (q : Met) → AgreeRow p q → (n at : ℕ)
    → Sees of_pat (annotated_at ts p n at) (met (nth q n) one)
annotated ts p q a n at =
    skipped (annotation_at p at) _ (λ ty.
    marked_is (marked_at p n) (met (nth q n) one) false ty (annotated_span ts p n at)
    (marked p q a n false ty (annotated_span ts p n at)))

-- ---- variables
declarator_among : (w : Whole VarDeclarator-F)
    → of_var_declarator (roll-VarDeclarator w) ≡ of_pat w.name ∪ if_some of_expr w.init
declarator_among w =
    laws.var_declarator_roll w

-- a pattern alone
pub bare_declarator : (r : Range) (pat : Pat)
    → of_var_declarator (declarator_of r None pat) ≡ of_pat pat
bare_declarator r pat = declarator_among _ ∙ or_none (of_pat pat)

pub bare_head : (o : Option Pat) (m : Told) → Sees of_pat o m
    → Sees head_among (option_map (λ target. (None, target)) o) m
bare_head o m s = mapped (λ target. (None, target)) (λ target. refl) o s

module _ (p : Value) (q : Met) (a : AgreeRow p q) where
  -- the first declarator, and the others
  pub all_declarators : (n : ℕ)
      → Sees (all_of of_var_declarator) (declarators_at p n)
      (both (met (nth q n) one) (both (met (nth q (n + 1)) (each (sh.Node ∷ []))) (Some none)))
  all_declarators n =
      alone _ (also (declarator_at p n) _ (declarator p q a n) (λ first.
      also (turns (λ turn. declarator_at turn 0) (group p (n + 1))) _ (declarators p q a (n + 1)) (λ others.
      ends (first ∷ others) refl)))

  kinded : (kind : VarDeclKind) (all : Option (List VarDeclarator)) (m : Told) → Sees (all_of of_var_declarator) all m
      → Sees variables_among (given all (λ decls. Some (kind, decls))) m
  kinded kind None m s = record { sees = tt }
  kinded kind (Some decls) m s = record { sees = s.sees }

  pub variables_form : (ts : List Token)
      → Sees variables_among (low.variables ts p) (read q (sh.Skip ∷ sh.Node ∷ sh.Each gr.First ∷ []))
  unfolding low.variables
  variables_form ts =
      skipped (given (kind_at ts p 0) (listed variable_kinds)) _ (λ kind.
      kinded kind (declarators_at p 1) _ (all_declarators 1))

  pub using_form : Sees variables_among (low.using_ p) (read q (sh.Skip ∷ sh.Node ∷ sh.Each gr.First ∷ []))
  unfolding low.using_
  using_form = kinded (using_kind (is_there (group p 0))) (declarators_at p 1) _ (all_declarators 1)

  pub variable_declaration : (r : Range) → Sees of_decl (low.variable_declaration r p) (read q (sh.Node ∷ []))
  unfolding low.variable_declaration
  variable_declaration r =
      single _ _ (mapped (low.decl_of r) (λ v. laws.decl_Var false v.0 v.1 r) (variables_at p 0)
      (variables p q a 0))

  pub declared_variables : (r : Range) → Sees of_decl (typed.declared_variables r p) (read q (sh.Node ∷ []))
  unfolding typed.declared_variables
  declared_variables r =
      single _ _ (mapped (λ v. vDecl.Var true v.0 v.1 r) (λ v. laws.decl_Var true v.0 v.1 r) (variables_at p 0)
      (variables p q a 0))

  pub declarator_form : (r : Range)
      → Sees of_var_declarator (low.declarator r p) (read q (sh.Node ∷ sh.Node ∷ []))
  unfolding low.declarator
  declarator_form r =
      alone _ (also (pat_at p 0) _ (pat p q a 0) (λ pat. also (expr_at p 1) _ (expr p q a 1) (λ value.
      ends (declarator_of r (Some value) pat) (declarator_among _))))

  pub typed_declarator : (ts : List Token) (r : Range)
      → Sees of_var_declarator (typed.typed_declarator ts r p)
      (read q (sh.Node ∷ sh.Skip ∷ sh.Skip ∷ sh.In gr.First ∷ []))
  unfolding typed.typed_declarator
  typed_declarator ts r =
      alone _ (also (annotated_at ts p 0 2) _ (annotated ts p q a 0 2) (λ pat.
      also (optional expr_at (group p 3)) _ (maybe_expr p q a 3) (λ value.
      ends (roll-VarDeclarator (record { name = pat; definite = is_there (group p 1); init = value; span = r }))
      (declarator_among _))))

  -- ---- heads
  pub variable_head : (ts : List Token) → Sees head_among (low.variable_head ts p) (read q (sh.Skip ∷ sh.Node ∷ []))
  unfolding low.variable_head
  variable_head ts =
      alone _ (past (given (kind_at ts p 0) (listed variable_kinds)) _ (λ kind.
      also (pat_at p 1) _ (pat p q a 1) (λ pat. ends (Some kind, pat) refl)))

  pub typed_head : (ts : List Token) → Sees head_among (typed.typed_head ts p) (read q (sh.Skip ∷ sh.Node ∷ []))
  unfolding typed.typed_head
  typed_head ts =
      alone _ (past (given (kind_at ts p 0) (listed variable_kinds)) _ (λ kind.
      also (annotated_at ts p 1 2) _ (annotated ts p q a 1 2) (λ pat. ends (Some kind, pat) refl)))

  pub using_head : (x : List ℕ) (ts : List Token) → Sees head_among (low.using_head x ts p) (Some none)
  unfolding low.using_head
  using_head x ts =
      quiet (λ t. (Some (using_kind (is_there (group p 0))), ident_pat x t)) (λ t. laws.pat_Ident _ None _)
      (token_at ts p 1)

  -- ---- statements
  pub block_form : Sees of_stmts (low.block p) (both (stmts_told (group p 0)) (read q (sh.Each gr.First ∷ [])))
  unfolding low.block
  block_form =
      joined (stmts_of (group p 0)) (told_is own_stmts (stmts_of (group p 0))) (single _ _ (stmts p q a 0)) stmts_law

  pub block_stmt : (r : Range)
      → Sees of_stmt (option_map (λ stmts. vStmt.Block stmts r) (low.block p))
      (both (stmts_told (group p 0)) (read q (sh.Each gr.First ∷ [])))
  block_stmt r = mapped (λ stmts. vStmt.Block stmts r) (λ stmts. laws.stmt_Block stmts r) (low.block p) block_form

  pub expression_stmt : (r : Range) → Sees of_stmt (low.expression_statement r p) (read q (sh.Node ∷ []))
  unfolding low.expression_statement
  expression_stmt r =
      single _ _ (mapped (λ e. vStmt.Expr e r) (λ e. laws.stmt_Expr e r) (expr_at p 0) (expr p q a 0))

  pub labelled : (x : List ℕ) (ts : List Token) (r : Range)
      → Sees of_stmt (low.labelled x ts r p) (read q (sh.Skip ∷ sh.Node ∷ []))
  unfolding low.labelled
  labelled x ts r =
      alone _ (past (ident_at x ts p 0) _ (λ label. also (stmt_at p 1) _ (stmt p q a 1) (λ body.
      ends (vStmt.Labeled label body r) (laws.stmt_Labeled label body r))))

  pub if_form : (r : Range) → Sees of_stmt (low.if_ r p) (read q (sh.Node ∷ sh.Node ∷ sh.In gr.First ∷ []))
  unfolding low.if_
  if_form r =
      alone _ (also (expr_at p 0) _ (expr p q a 0) (λ test. also (stmt_at p 1) _ (stmt p q a 1) (λ yes.
      also (optional stmt_at (group p 2)) _ (maybe_stmt p q a 2) (λ no.
      ends (vStmt.If test yes no r) (laws.stmt_If test yes no r)))))

  pub while_form : (r : Range) → Sees of_stmt (low.while_ r p) (read q (sh.Node ∷ sh.Node ∷ []))
  unfolding low.while_
  while_form r =
      alone _ (also (expr_at p 0) _ (expr p q a 0) (λ test. also (stmt_at p 1) _ (stmt p q a 1) (λ body.
      ends (vStmt.While test body r) (laws.stmt_While test body r))))

  pub do_form : (r : Range) → Sees of_stmt (low.do_ r p) (read q (sh.Node ∷ sh.Node ∷ []))
  unfolding low.do_
  do_form r =
      alone _ (also (stmt_at p 0) _ (stmt p q a 0) (λ body. also (expr_at p 1) _ (expr p q a 1) (λ test.
      ends (vStmt.DoWhile body test r) (laws.stmt_DoWhile body test r))))

  pub with_form : (r : Range) → Sees of_stmt (low.with_ r p) (read q (sh.Node ∷ sh.Node ∷ []))
  unfolding low.with_
  with_form r =
      alone _ (also (expr_at p 0) _ (expr p q a 0) (λ obj. also (stmt_at p 1) _ (stmt p q a 1) (λ body.
      ends (vStmt.With obj body r) (laws.stmt_With obj body r))))

  pub throw_form : (r : Range) → Sees of_stmt (low.throw_ r p) (read q (sh.Node ∷ []))
  unfolding low.throw_
  throw_form r =
      single _ _ (mapped (λ arg. vStmt.Throw arg r) (λ arg. laws.stmt_Throw arg r) (expr_at p 0) (expr p q a 0))

  pub continue_form : (x : List ℕ) (ts : List Token) (r : Range)
      → Sees of_stmt (low.continue_ x ts r p) (Some none)
  unfolding low.continue_
  continue_form x ts r =
      quiet (λ label. vStmt.Continue label r) (λ label. laws.stmt_Continue label r)
      (optional (ident_at x ts) (group p 0))

  pub break_form : (x : List ℕ) (ts : List Token) (r : Range) → Sees of_stmt (low.break_ x ts r p) (Some none)
  unfolding low.break_
  break_form x ts r =
      quiet (λ label. vStmt.Break label r) (λ label. laws.stmt_Break label r)
      (optional (ident_at x ts) (group p 0))

  -- ---- loops over what there is
  each_among : (b : Bool) (r : Range) (head : Head) (right : Expr) (body : Stmt)
      → of_stmt (each_of b r head right body) ≡ (head_among head ∪ of_expr right) ∪ of_stmt body
  each_among true r head right body = laws.stmt_ForIn head.0 head.1 right body r
  each_among false r head right body = laws.stmt_ForOf false head.0 head.1 right body r

  pub for_each : (ts : List Token) (r : Range)
      → Sees of_stmt (low.for_each ts r p) (read q (sh.Node ∷ sh.In gr.Second ∷ sh.Node ∷ []))
  unfolding low.for_each
  for_each ts r =
      alone _ (also (head_at p 0) _ (head p q a 0) (λ head. past (kind_at ts (group p 1) 0) _ (λ kind.
      also (expr_at (group p 1) 1) _ (second (group p 1) (nth q 1) (inside p q a 1)) (λ right.
      also (stmt_at p 2) _ (stmt p q a 2) (λ body.
      ends (each_of (same_kind kind k.InWord) r head right body)
      (each_among (same_kind kind k.InWord) r head right body))))))

  pub for_await : (r : Range) → Sees of_stmt (low.for_await r p) (read q (sh.Node ∷ sh.Node ∷ sh.Node ∷ []))
  unfolding low.for_await
  for_await r =
      alone _ (also (head_at p 0) _ (head p q a 0) (λ head. also (expr_at p 1) _ (expr p q a 1) (λ right.
      also (stmt_at p 2) _ (stmt p q a 2) (λ body.
      ends (vStmt.ForOf true head.0 head.1 right body r) (laws.stmt_ForOf true head.0 head.1 right body r)))))

-- ---- `return`
returned_more : (b bs : Value) (c cs : Met) → Agree (v.more b bs) (more c cs)
    → Sees (if_some of_expr) (option_map Some (expr_at (v.more b bs) 0)) (met (more c cs) (rows (sh.Node ∷ [])))
returned_more b bs c cs a =
    mapped Some (λ e. refl) (expr_at (v.more b bs) 0)
    (in_first of_expr (λ m. m.expr) (λ m t s. s.expr) (v.more b bs) (more c cs) a)

returned_sees : (u : Value) (w : Met) → Agree u w
    → Sees (if_some of_expr) (returned (as_group u)) (met w (rows (if is_single w then [] else sh.Node ∷ [])))
returned_sees (v.more b v.nil) (more c nil) a = record { sees = met_done (more c nil) }
returned_sees (v.more b (v.more d ds)) (more c (more e es)) a = returned_more b (v.more d ds) c (more e es) a
returned_sees (v.more b v.absent) (more c absent) a = returned_more b v.absent c absent a
returned_sees (v.more b (v.token n)) (more c token) a = returned_more b (v.token n) c token a
returned_sees (v.more b (v.node from to m)) (more c (node told)) a = returned_more b (v.node from to m) c (node told) a
returned_sees (v.more b _) (more c _) a = absurd a.1
returned_sees v.absent absent a = record { sees = tt }
returned_sees v.nil nil a = record { sees = tt }
returned_sees (v.token n) token a = record { sees = tt }
returned_sees (v.node from to m) (node told) a = record { sees = tt }
returned_sees _ _ a = absurd a

pub return_form : (p : Value) (q : Met) → AgreeRow p q → (r : Range)
    → Sees of_stmt (low.return_ r p) (read q (sh.Ended gr.Nothing gr.First ∷ []))
unfolding low.return_
return_form p q a r =
    single _ _ (mapped (λ arg. vStmt.Return arg r) (λ arg. laws.stmt_Return arg r) (returned (group p 0))
    (ended (is_single (nth q 0)) (returned_sees (part p 0) (nth q 0) (a 0))))
  where
    ended : (b : Bool) → Sees (if_some of_expr) (returned (group p 0))
        (met (nth q 0) (rows (if b then [] else sh.Node ∷ [])))
        → Sees (if_some of_expr) (returned (group p 0))
        (met (nth q 0) (rows (if b then inner gr.Nothing else inner gr.First)))
    ended true s = s
    ended false s = s

-- ---- `switch`
-- the statements of a clause as a list, and what is in its parts
abbrev own_case : SwitchCase → Among
own_case c = own_stmts (out-SwitchCase c).cons

abbrev in_case : SwitchCase → Among
in_case c = if_some of_expr (out-SwitchCase c).test ∪ all_of of_stmt (out-SwitchCase c).cons

case_law : (c : SwitchCase) → of_switch_case c ≡ own_case c ∪ in_case c
case_law c =
    ap of_switch_case (sym (roll-out-SwitchCase c)) ∙ laws.switch_case_roll (out-SwitchCase c)
    ∙ ap (λ (z : Among). if_some of_expr (out-SwitchCase c).test ∪ z) (stmts_law (out-SwitchCase c).cons)
    ∙ swapped (if_some of_expr (out-SwitchCase c).test) (own_case c) (all_of of_stmt (out-SwitchCase c).cons)

cases_law : (cs : List SwitchCase) → all_of of_switch_case cs ≡ all_of own_case cs ∪ all_of in_case cs
cases_law [] = refl
cases_law (c ∷ cs) =
    ap (λ (z : Among). z ∪ all_of of_switch_case cs) (case_law c)
    ∙ ap (λ (z : Among). (own_case c ∪ in_case c) ∪ z) (cases_law cs)
    ∙ crossed (own_case c) (in_case c) (all_of own_case cs) (all_of in_case cs)

-- a clause has these statements
record HasCons (o : Option SwitchCase) (cons : Option (List Stmt)) : Type 0 where
  has : IfSome o (λ c. cons ≡ Some (out-SwitchCase c).cons)

has_cons : (test : Option (Option Expr)) (cons : Option (List Stmt)) (span : Range)
    → HasCons (given test (λ test. given cons (λ cons.
    Some (roll-SwitchCase (record { test = test; cons = cons; span = span }))))) cons
has_cons None cons span = record { has = tt }
has_cons (Some test) None span = record { has = tt }
has_cons (Some test) (Some cons) span = record {
  has = ap (λ (v : Whole SwitchCase-F). Some v.cons)
      (sym (out-roll-SwitchCase (record { test = test; cons = cons; span = span })));
}

abbrev lists_told : Option (List (List Stmt)) → Told
lists_told ls = option_map (all_of own_stmts) ls

first_list : (cons : List Stmt) (ls : Option (List (List Stmt)))
    → lists_told (given ls (λ rest. Some (cons ∷ rest))) ≡ option_map (λ (z : Among). own_stmts cons ∪ z) (lists_told ls)
first_list cons None = refl
first_list cons (Some ls) = refl

more_cons : (o : Option SwitchCase) (os : Option (List SwitchCase)) (cons : Option (List Stmt))
    (ls : Option (List (List Stmt))) → HasCons o cons → Sees (all_of own_case) os (lists_told ls)
    → Sees (all_of own_case) (given o (λ c. given os (λ rest. Some (c ∷ rest))))
    (lists_told (given cons (λ a. given ls (λ rest. Some (a ∷ rest)))))
more_cons None os cons ls h s = record { sees = tt }
more_cons (Some c) None cons ls h s = record { sees = tt }
more_cons (Some c) (Some cs) cons ls h s = record {
  sees = ap (λ (o : Option (List Stmt)). lists_told (given o (λ a. given ls (λ rest. Some (a ∷ rest))))) h.has
      ∙ first_list (out-SwitchCase c).cons ls
      ∙ ap (option_map (λ (z : Among). own_case c ∪ z)) s.sees;
}

module _ (ts : List Token) where
  clause_sees : (at : ℕ) (p : Value) (q : Met) → AgreeRow p q
      → Sees in_case (clause_of ts at p) (read q (sh.In gr.First ∷ sh.Each gr.First ∷ []))
  clause_sees at p q a =
      alone _ (also (optional expr_at (group p 0)) _ (maybe_expr p q a 0) (λ test.
      also (stmts_of (group p 1)) _ (stmts p q a 1) (λ cons.
      ends (roll-SwitchCase (record { test = test; cons = cons; span = span_of ts at (behind_clause at p) }))
      (ap (λ (v : Whole SwitchCase-F). if_some of_expr v.test ∪ all_of of_stmt v.cons)
      (out-roll-SwitchCase (record { test = test; cons = cons; span = span_of ts at (behind_clause at p) }))))))

  clauses_see : (at : ℕ) (u : Value) (w : Met) → Agree u w
      → Sees (all_of in_case) (clauses ts at u) (met w (each (sh.In gr.First ∷ sh.Each gr.First ∷ [])))
  clauses_see at (v.more b bs) (more c cs) a =
      more_told in_case _ _ _ _
      (moved in_case _ _ _ (rows_are (sh.In gr.First ∷ sh.Each gr.First ∷ []) refl c)
      (clause_sees at (as_group b) c (parts_in b c a.0)))
      (clauses_see (behind_clause at (as_group b)) bs cs a.1)
  clauses_see at v.absent absent a = record { sees = refl }
  clauses_see at v.nil nil a = record { sees = refl }
  clauses_see at (v.token n) token a = record { sees = refl }
  clauses_see at (v.node from to m) (node told) a = record { sees = refl }
  clauses_see at _ _ a = absurd a

  clauses_in : (at : ℕ) (u : Value) (w : Met) → Agree u w
      → Sees (all_of in_case) (clauses ts at (as_group u))
      (met w (each (sh.In gr.First ∷ sh.Each gr.First ∷ [])))
  clauses_in at (v.more b bs) (more c cs) a = clauses_see at (v.more b bs) (more c cs) a
  clauses_in at v.absent absent a = record { sees = refl }
  clauses_in at v.nil nil a = record { sees = refl }
  clauses_in at (v.token n) token a = record { sees = refl }
  clauses_in at (v.node from to m) (node told) a = record { sees = refl }
  clauses_in at _ _ a = absurd a

  clauses_own : (at : ℕ) (u : Value) → Sees (all_of own_case) (clauses ts at u) (cases_told u)
  clauses_own at (v.more b bs) =
      more_cons (clause_of ts at (as_group b)) (clauses ts (behind_clause at (as_group b)) bs)
      (stmts_of (group (as_group b) 1))
      (turns (λ turn. turns (λ turn. stmt_at turn 0) (group turn 1)) bs)
      (has_cons (optional expr_at (group (as_group b) 0)) (stmts_of (group (as_group b) 1))
      (span_of ts at (behind_clause at (as_group b)))) (clauses_own (behind_clause at (as_group b)) bs)
  clauses_own at v.absent = record { sees = refl }
  clauses_own at v.nil = record { sees = refl }
  clauses_own at (v.token n) = record { sees = refl }
  clauses_own at (v.node from to m) = record { sees = refl }

  pub switch_form : (p : Value) (q : Met) → AgreeRow p q → (r : Range)
      → Sees of_stmt (low.switch_ ts r p)
      (both (cases_told (group p 1)) (read q (sh.Node ∷ sh.Each gr.Clause ∷ [])))
  unfolding low.switch_
  switch_form p q a r =
      two_end (expr_at p 0) (clauses ts (behind (part p 0) + 2) (group p 1))
      (λ discriminant cases. vStmt.Switch discriminant cases r)
      (clauses_own (behind (part p 0) + 2) (group p 1)) (expr p q a 0)
      (single _ _ (clauses_in (behind (part p 0) + 2) (part p 1) (nth q 1) (a 1)))
      (λ discriminant cases. laws.stmt_Switch discriminant cases r
      ∙ ap (λ (z : Among). of_expr discriminant ∪ z) (cases_law cases)
      ∙ swapped (of_expr discriminant) (all_of own_case cases) (all_of in_case cases))

-- ---- `try`
module _ (r : Range) (block : Stmt) where
  finally_among : (finalizer : Stmt)
      → of_stmt (vStmt.Try block None None (Some finalizer) r) ≡ of_stmt block ∪ of_stmt finalizer
  finally_among finalizer =
      laws.stmt_Try block None None (Some finalizer) r
      ∙ ap (λ (z : Among). z ∪ of_stmt finalizer)
      (or_none (of_stmt block ∪ none) ∙ or_none (of_stmt block))

  finally_adds : (b bs : Value) (c cs : Met) → Agree (v.more b bs) (more c cs)
      → Adds of_stmt (of_stmt block)
      (option_map (λ finalizer. vStmt.Try block None None (Some finalizer) r) (stmt_at (v.more b bs) 0))
      (both (met (more c cs) (rows (sh.Node ∷ []))) (Some none))
  finally_adds b bs c cs a =
      also_mapped (stmt_at (v.more b bs) 0) (λ finalizer. vStmt.Try block None None (Some finalizer) r)
      (in_first of_stmt (λ m. m.stmt) (λ m t s. s.stmt) (v.more b bs) (more c cs) a) finally_among

  -- `catch`, and perhaps `finally`, by what is caught
  caught_adds : (caught : Option (Option Pat)) (g : Value) (w : Met) → AgreeRow g w
      → Sees (if_some of_pat) caught (met (nth w 0) (rows (sh.Node ∷ [])))
      → Adds of_stmt (of_stmt block) (given caught (λ param.
      given (stmt_at g 1) (λ handler.
      given (optional stmt_at (group g 2)) (λ finalizer. Some (vStmt.Try block param (Some handler) finalizer r)))))
      (both (met w (rows (sh.In gr.First ∷ sh.Node ∷ sh.In gr.First ∷ []))) (Some none))
  caught_adds caught g w a sees =
      adds_moved _ _ _ _ _ (both_none _ ∙ rows_are (sh.In gr.First ∷ sh.Node ∷ sh.In gr.First ∷ []) refl w)
      (also caught _ sees (λ param. also (stmt_at g 1) _ (stmt g w a 1) (λ handler.
      also (optional stmt_at (group g 2)) _ (maybe_stmt g w a 2) (λ finalizer.
      ends (vStmt.Try block param (Some handler) finalizer r)
      (laws.stmt_Try block param (Some handler) finalizer r)))))

  abbrev Handles : Option Stmt → Met → Type 0
  Handles o w =
      Adds of_stmt (of_stmt block) o
      (both (met w (rows (if is_single w then inner gr.First else inner gr.Handled))) (Some none))

  plain_caught : (b bs : Value) (c cs : Met) → Agree (v.more b bs) (more c cs)
      → Adds of_stmt (of_stmt block) (given (optional pat_at (group (v.more b bs) 0)) (λ param.
      given (stmt_at (v.more b bs) 1) (λ handler. given (optional stmt_at (group (v.more b bs) 2)) (λ finalizer.
      Some (vStmt.Try block param (Some handler) finalizer r)))))
      (both (met (more c cs) (rows (sh.In gr.First ∷ sh.Node ∷ sh.In gr.First ∷ []))) (Some none))
  plain_caught b bs c cs a =
      caught_adds (optional pat_at (group (v.more b bs) 0)) (v.more b bs) (more c cs)
      (parts (v.more b bs) (more c cs) a)
      (maybe_pat (v.more b bs) (more c cs) (parts (v.more b bs) (more c cs) a) 0)

  handled_adds : (u : Value) (w : Met) → Agree u w → Handles (handled r block (as_group u)) w
  handled_adds (v.more b v.nil) (more c nil) a = finally_adds b v.nil c nil a
  handled_adds (v.more b (v.more d ds)) (more c (more e es)) a = plain_caught b (v.more d ds) c (more e es) a
  handled_adds (v.more b v.absent) (more c absent) a = plain_caught b v.absent c absent a
  handled_adds (v.more b (v.token n)) (more c token) a = plain_caught b (v.token n) c token a
  handled_adds (v.more b (v.node from to m)) (more c (node told)) a =
      plain_caught b (v.node from to m) c (node told) a
  handled_adds (v.more b _) (more c _) a = absurd a.1
  handled_adds v.absent absent a = record { adds = tt }
  handled_adds v.nil nil a = record { adds = tt }
  handled_adds (v.token n) token a = record { adds = tt }
  handled_adds (v.node from to m) (node told) a = record { adds = tt }
  handled_adds _ _ a = absurd a

  module _ (ts : List Token) where
    caught_sees : (u : Value) (w : Met) → Agree u w
        → Sees (if_some of_pat) (typed.caught_in ts (as_group u)) (met w (rows (sh.Node ∷ [])))
    caught_sees (v.more b bs) (more c cs) a =
        moved (if_some of_pat) _ _ _ (rows_are (sh.Node ∷ []) refl (more c cs) ∙ both_none (met c one))
        (mapped Some (λ e. refl) (annotated_at ts (v.more b bs) 0 1)
        (annotated ts (v.more b bs) (more c cs) (parts (v.more b bs) (more c cs) a) 0 1))
    caught_sees v.absent absent a = record { sees = refl }
    caught_sees v.nil nil a = record { sees = refl }
    caught_sees (v.token n) token a = record { sees = refl }
    caught_sees (v.node from to m) (node told) a = record { sees = refl }
    caught_sees _ _ a = absurd a

    typed_caught : (b bs : Value) (c cs : Met) → Agree (v.more b bs) (more c cs)
        → Adds of_stmt (of_stmt block) (given (typed.caught_in ts (group (v.more b bs) 0)) (λ param.
        given (stmt_at (v.more b bs) 1) (λ handler. given (optional stmt_at (group (v.more b bs) 2)) (λ finalizer.
        Some (vStmt.Try block param (Some handler) finalizer r)))))
        (both (met (more c cs) (rows (sh.In gr.First ∷ sh.Node ∷ sh.In gr.First ∷ []))) (Some none))
    typed_caught b bs c cs a =
        caught_adds (typed.caught_in ts (group (v.more b bs) 0)) (v.more b bs) (more c cs)
        (parts (v.more b bs) (more c cs) a) (caught_sees b c a.0)

    typed_handled : (u : Value) (w : Met) → Agree u w → Handles (typed.typed_handled ts r block (as_group u)) w
    typed_handled (v.more b v.nil) (more c nil) a = finally_adds b v.nil c nil a
    typed_handled (v.more b (v.more d ds)) (more c (more e es)) a = typed_caught b (v.more d ds) c (more e es) a
    typed_handled (v.more b v.absent) (more c absent) a = typed_caught b v.absent c absent a
    typed_handled (v.more b (v.token n)) (more c token) a = typed_caught b (v.token n) c token a
    typed_handled (v.more b (v.node from to m)) (more c (node told)) a =
        typed_caught b (v.node from to m) c (node told) a
    typed_handled (v.more b _) (more c _) a = absurd a.1
    typed_handled v.absent absent a = record { adds = tt }
    typed_handled v.nil nil a = record { adds = tt }
    typed_handled (v.token n) token a = record { adds = tt }
    typed_handled (v.node from to m) (node told) a = record { adds = tt }
    typed_handled _ _ a = absurd a

module _ (p : Value) (q : Met) (a : AgreeRow p q) (r : Range) where
  pub try_form : Sees of_stmt (low.try_ r p) (read q (sh.Node ∷ sh.Ended gr.First gr.Handled ∷ []))
  unfolding low.try_
  try_form =
      alone _ (also (stmt_at p 0) _ (stmt p q a 0) (λ block. handled_adds r block (part p 1) (nth q 1) (a 1)))

  pub typed_try : (ts : List Token)
      → Sees of_stmt (typed.typed_try ts r p) (read q (sh.Node ∷ sh.Ended gr.First gr.Handled ∷ []))
  unfolding typed.typed_try
  typed_try ts =
      alone _ (also (stmt_at p 0) _ (stmt p q a 0) (λ block. typed_handled r block ts (part p 1) (nth q 1) (a 1)))

-- ---- `for`
-- the first part: variables, `using`, or an expression
abbrev start_met : Met → Met → Met → Told
start_met a b c =
    if is_met a then met a (rows (sh.Node ∷ []))
    else (if is_met b then met b (rows (sh.Node ∷ [])) else met c (rows (sh.Node ∷ [])))

as_stmt : (r : Range) (e : Option Expr)
    → if_some of_stmt (option_map (λ e. vStmt.Expr e r) e) ≡ if_some of_expr e
as_stmt r None = refl
as_stmt r (Some e) = laws.stmt_Expr e r

module _ (ts : List Token) where
  expression_sees : (u : Value) (w : Met) → Agree u w
      → Sees (if_some of_stmt) (optional (expression_at ts) (as_group u)) (met w (rows (sh.Node ∷ [])))
  expression_sees (v.more b bs) (more c cs) a =
      mapped Some (λ e. refl) (expression_at ts (v.more b bs) 0)
      (mapped (λ e. vStmt.Expr e (span_of ts (first_of b) (behind b))) (λ e. laws.stmt_Expr e _)
      (expr_at (v.more b bs) 0)
      (in_first of_expr (λ m. m.expr) (λ m t s. s.expr) (v.more b bs) (more c cs) a))
  expression_sees v.absent absent a = record { sees = refl }
  expression_sees v.nil nil a = record { sees = refl }
  expression_sees (v.token n) token a = record { sees = refl }
  expression_sees (v.node from to m) (node told) a = record { sees = refl }
  expression_sees _ _ a = absurd a

  -- where the first is there, the others don't count
  by_first : (o : Option Stmt) (b c : Option (Option Stmt)) (m : Told) → Sees of_stmt o m
      → Sees (if_some of_stmt) (given (option_map Some o) (λ a. given b (λ b. given c (λ c.
      Some (or_else a (or_else b c)))))) m
  by_first None b c m s = record { sees = tt }
  by_first (Some a) None c m s = record { sees = tt }
  by_first (Some a) (Some b) None m s = record { sees = tt }
  by_first (Some a) (Some b) (Some c) m s = record { sees = s.sees }

  by_second : (o : Option Stmt) (c : Option (Option Stmt)) (m : Told) → Sees of_stmt o m
      → Sees (if_some of_stmt) (given (option_map Some o) (λ b. given c (λ c. Some (or_else b c)))) m
  by_second None c m s = record { sees = tt }
  by_second (Some b) None m s = record { sees = tt }
  by_second (Some b) (Some c) m s = record { sees = s.sees }

  by_third : (c : Option (Option Stmt)) (m : Told) → Sees (if_some of_stmt) c m
      → Sees (if_some of_stmt) (given c (λ c. Some c)) m
  by_third None m s = record { sees = tt }
  by_third (Some c) m s = record { sees = s.sees }

  second_start : (u : Value) (w : Met) (o : Option (Option Stmt)) (m : Told) → Agree u w
      → Sees (if_some of_stmt) o m
      → Sees (if_some of_stmt) (given (optional stmt_at (as_group u)) (λ b. given o (λ c. Some (or_else b c))))
      (if is_met w then met w (rows (sh.Node ∷ [])) else m)
  second_start (v.more b bs) (more c cs) o m a s =
      by_second (stmt_at (v.more b bs) 0) o _
      (in_first of_stmt (λ m. m.stmt) (λ m t s. s.stmt) (v.more b bs) (more c cs) a)
  second_start v.absent absent o m a s = by_third o m s
  second_start v.nil nil o m a s = by_third o m s
  second_start (v.token n) token o m a s = by_third o m s
  second_start (v.node from to t) (node told) o m a s = by_third o m s
  second_start _ _ o m a s = absurd a

  first_start : (u : Value) (w : Met) (o o2 : Option (Option Stmt)) (m : Told) → Agree u w
      → Sees (if_some of_stmt) (given o (λ b. given o2 (λ c. Some (or_else b c)))) m
      → Sees (if_some of_stmt) (given (optional stmt_at (as_group u)) (λ a. given o (λ b. given o2 (λ c.
      Some (or_else a (or_else b c)))))) (if is_met w then met w (rows (sh.Node ∷ [])) else m)
  first_start (v.more b bs) (more c cs) o o2 m a s =
      by_first (stmt_at (v.more b bs) 0) o o2 _
      (in_first of_stmt (λ m. m.stmt) (λ m t s. s.stmt) (v.more b bs) (more c cs) a)
  first_start v.absent absent o o2 m a s = s
  first_start v.nil nil o o2 m a s = s
  first_start (v.token n) token o o2 m a s = s
  first_start (v.node from to t) (node told) o o2 m a s = s
  first_start _ _ o o2 m a s = absurd a

-- the parts behind the first
abbrev behind_start : Met → Told
behind_start q = read q (sh.In gr.First ∷ sh.In gr.First ∷ sh.Node ∷ [])

second_met : (w : Met) (q : Met)
    → both (met w (rows (sh.Node ∷ []))) (met q (rows (if is_met w then inner gr.ForUsing
    else sh.In gr.First ∷ sh.In gr.First ∷ sh.In gr.First ∷ sh.Node ∷ [])))
    ≡ both (if is_met w then met w (rows (sh.Node ∷ [])) else met (nth q 0) (rows (sh.Node ∷ [])))
    (behind_start (rest q))
second_met (more c cs) q = ap (both (met (more c cs) (rows (sh.Node ∷ [])))) (rows_are (inner gr.ForUsing) refl q)
second_met absent q = none_both _ ∙ rows_are (sh.In gr.First ∷ sh.In gr.First ∷ sh.In gr.First ∷ sh.Node ∷ []) refl q
second_met nil q = none_both _ ∙ rows_are (sh.In gr.First ∷ sh.In gr.First ∷ sh.In gr.First ∷ sh.Node ∷ []) refl q
second_met token q = none_both _ ∙ rows_are (sh.In gr.First ∷ sh.In gr.First ∷ sh.In gr.First ∷ sh.Node ∷ []) refl q
second_met (node told) q =
    none_both _ ∙ rows_are (sh.In gr.First ∷ sh.In gr.First ∷ sh.In gr.First ∷ sh.Node ∷ []) refl q

second_row : (q : Met)
    → met q (rows (sh.Or gr.ForUsing ∷ sh.In gr.First ∷ sh.In gr.First ∷ sh.In gr.First ∷ sh.Node ∷ []))
    ≡ both (if is_met (nth q 0) then met (nth q 0) (rows (sh.Node ∷ [])) else met (nth q 1) (rows (sh.Node ∷ [])))
    (behind_start (rest (rest q)))
second_row q =
    met_row q (sh.Or gr.ForUsing) (sh.In gr.First ∷ sh.In gr.First ∷ sh.In gr.First ∷ sh.Node ∷ [])
    ∙ second_met (first q) (rest q)

first_met : (w : Met) (q : Met)
    → both (met w (rows (sh.Node ∷ []))) (met q (rows (if is_met w then inner gr.ForVariables
    else sh.Or gr.ForUsing ∷ sh.In gr.First ∷ sh.In gr.First ∷ sh.In gr.First ∷ sh.Node ∷ [])))
    ≡ both (start_met w (nth q 0) (nth q 1)) (behind_start (rest (rest q)))
first_met (more c cs) q = ap (both (met (more c cs) (rows (sh.Node ∷ [])))) (rows_are (inner gr.ForVariables) refl q)
first_met absent q = none_both _ ∙ second_row q
first_met nil q = none_both _ ∙ second_row q
first_met token q = none_both _ ∙ second_row q
first_met (node told) q = none_both _ ∙ second_row q

pub for_form : (p : Value) (q : Met) → AgreeRow p q → (ts : List Token) (r : Range)
    → Sees of_stmt (low.for_ ts r p)
    (met q (rows (sh.Or gr.ForVariables ∷ sh.Or gr.ForUsing ∷ sh.In gr.First ∷ sh.In gr.First ∷ sh.In gr.First
    ∷ sh.Node ∷ [])))
unfolding low.for_
for_form p q a ts r =
    moved of_stmt _ _ (both (start_met (nth q 0) (nth q 1) (nth q 2)) (behind_start (rest (rest (rest q)))))
    (met_row q (sh.Or gr.ForVariables)
    (sh.Or gr.ForUsing ∷ sh.In gr.First ∷ sh.In gr.First ∷ sh.In gr.First ∷ sh.Node ∷ [])
    ∙ first_met (first q) (rest q))
    (alone _ (also (low.start_of_for ts p) _
    (first_start ts (part p 0) (nth q 0) (optional stmt_at (group p 1)) (optional (expression_at ts) (group p 2)) _
    (a 0)
    (second_start ts (part p 1) (nth q 1) (optional (expression_at ts) (group p 2)) _ (a 1)
    (expression_sees ts (part p 2) (nth q 2) (a 2)))) (λ init.
    also (optional expr_at (group p 3)) _ (maybe_expr p q a 3) (λ test.
    also (optional expr_at (group p 4)) _ (maybe_expr p q a 4) (λ update.
    also (stmt_at p 5) _ (stmt p q a 5) (λ body.
    ends (vStmt.For init test update body r) (laws.stmt_For init test update body r)))))))
