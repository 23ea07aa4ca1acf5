-- The sites of what statements become.
use Rattle.std.specs.Prelude.{Bool, true, false, List, [], ◌++◌, Option, Some, None, option_map}
use Rattle.std.specs.List.{flat_map}
use Rattle.std.proofs.Common.{◌≡◌, ℕ, ◌+◌, refl, ap, ◌∙◌, subst}
use Rattle.std.proofs.lemmas.List.{append-nil, append_assoc}
use Rattle.base.specs.declared.range.Range.{Range}
use Rattle.es_token.specs.declared.token.Token.{Token}
use Rattle.es_token.specs.declared.token.TokenKind.TheVariants as k
use Rattle.grammar_theory.specs.Key.{same_kind}
use Rattle.es_ast.specs.declared.ast.Expr.{Expr}
use Rattle.es_ast.specs.declared.ast.Pat.{Pat}
use Rattle.es_ast.specs.declared.ast.Stmt.{Stmt}
use Rattle.es_ast.specs.declared.ast.Stmt.TheVariants as vStmt
use Rattle.es_ast.specs.declared.ast.SwitchCase.{roll-SwitchCase, out-roll-SwitchCase}
use Rattle.es_ast.specs.declared.ast.VarDeclarator.{roll-VarDeclarator, out-roll-VarDeclarator}
use Rattle.es_ast.specs.declared.ast.ClassMember.TheOpen.{SwitchCase-F, VarDeclarator-F}
use Rattle.es_grammar.specs.declared.rows.NodeKind.TheVariants as l
use Rattle.es_site.specs.Parts.{Whole}
use Rattle.es_site.specs.Sites.{Found, if_some, sites_of_expr, sites_of_pat, sites_of_stmt, sites_of_decl, sites_of_switch_case, sites_of_var_declarator}
use Rattle.es_site.proofs.Equations.{stmt_With, stmt_Return, stmt_Labeled, stmt_Break, stmt_Continue, stmt_If, stmt_Switch, stmt_Throw, stmt_Try, stmt_While, stmt_DoWhile, stmt_For, stmt_ForIn, stmt_ForOf, stmt_Expr, decl_Var, pat_Ident, switch_case_parts, var_declarator_parts}
use Rattle.es_lowering.specs.Value.{Typed, Value, given, typed}
use Rattle.es_lowering.specs.Value as v
use Rattle.es_lowering.specs.Texts.{token_at, kind_at, ident_at}
use Rattle.es_lowering.specs.Operators.{listed, variable_kinds, or_else}
use Rattle.es_lowering.specs.Statements as d
use Rattle.es_law_sites.proofs.ranges.Cuts.{Opt}
use Rattle.es_law_sites.specs.plain.Part.{Part, absent, nil, more, token, node, as_group, group, found, at, inside, may, each, turns}
use Rattle.es_law_sites.specs.plain.Own as o
use Rattle.es_law_sites.specs.plain.Own.{own}
use Rattle.es_law_sites.proofs.plain.Given.{given_fine, given_any, map_fine, map_any}
use Rattle.es_law_sites.proofs.plain.Is.{Of, Is, none, nothing, both, same, made, as_group_is, group_is, head_sites, variables_sites, expr_in, stmt_in, pat_in, variables_in, declarator_in, head_in, turns_in, may_in, list_in}
use Rattle.es_law_sites.proofs.plain.Exprs.{two}

three : (a b c s t u : Found) → a ≡ s → b ≡ t → c ≡ u → a ++ b ++ c ≡ s ++ t ++ u
three a b c s t u e f g = two (λ k m. k ++ m) (two (λ k m. k ++ m) e f) g

pub declarator_parts : (it : Whole VarDeclarator-F)
    → sites_of_var_declarator (roll-VarDeclarator it) ≡ sites_of_pat it.name ++ if_some sites_of_expr it.init
declarator_parts it =
    let P : Whole VarDeclarator-F → Type 0 = λ w. sites_of_var_declarator (roll-VarDeclarator it)
    ≡ sites_of_pat w.name ++ if_some sites_of_expr w.init in
    subst P (out-roll-VarDeclarator it) (var_declarator_parts [] (roll-VarDeclarator it))

case_parts : (it : Whole SwitchCase-F)
    → sites_of_switch_case (roll-SwitchCase it) ≡ if_some sites_of_expr it.test ++ flat_map sites_of_stmt it.cons
case_parts it =
    let P : Whole SwitchCase-F → Type 0 = λ w. sites_of_switch_case (roll-SwitchCase it)
    ≡ if_some sites_of_expr w.test ++ flat_map sites_of_stmt w.cons in
    subst P (out-roll-SwitchCase it) (switch_case_parts [] (roll-SwitchCase it))

module _ (x : List ℕ) (ts : List Token) where
  abbrev pub St : Found → Stmt → Type 0
  St s it = sites_of_stmt it ≡ s

  -- ---- lists
  stmts_in : (p : Value) (q : Part) → Is x ts p q
      → Opt (Of (flat_map sites_of_stmt) (each (λ turn. at turn 0) q)) (d.stmts_of p)
  stmts_in p q h = turns_in x ts sites_of_stmt (λ turn. v.stmt_at turn 0) (λ turn. at turn 0)
      (λ a b i. stmt_in x ts 0 a b i) p q h

  declarators_in : (n : ℕ) (p : Value) (q : Part) → Is x ts p q
      → Opt (Of (flat_map sites_of_var_declarator) (at q n ++ turns q (n + 1) 0)) (d.declarators_at p n)
  declarators_in n p q h =
      given_fine (Of sites_of_var_declarator (at q n)) _ (v.declarator_at p n) _ (declarator_in x ts n p q h)
      (λ first f.
      given_fine (Of (flat_map sites_of_var_declarator) (turns q (n + 1) 0)) _
      (v.turns (λ turn. v.declarator_at turn 0) (v.group p (n + 1))) _
      (list_in x ts sites_of_var_declarator v.declarator_at (λ a b i. declarator_in x ts 0 a b i) (n + 1) p q h)
      (λ others g.
      two (λ k m. k ++ m) f g))

  each_of_is : (kind : Bool) (r : Range) (head : d.Head) (right : Expr) (body : Stmt)
      → sites_of_stmt (d.each_of kind r head right body) ≡ head_sites head ++ sites_of_expr right ++ sites_of_stmt body
  each_of_is true r head right body = stmt_ForIn [] head.0 head.1 right body r
  each_of_is false r head right body = stmt_ForOf [] false head.0 head.1 right body r

  -- the first part of a `for`
  StartIs : Part → Option Stmt → Type 0
  StartIs g it = (others : Option Stmt) (s : Found) → if_some sites_of_stmt others ≡ s
      → if_some sites_of_stmt (or_else it others) ≡ o.first_of x ts g s

  start_in : (a : Value) (b : Part) → Is x ts a b → Opt (StartIs b) (v.optional v.stmt_at a)
  unfolding StartIs
  start_in a b none = λ others s e. e
  start_in a b nothing = λ others s e. e
  start_in a b (same n) = λ others s e. e
  start_in a b (made from to m label c s i) = λ others s e. e
  start_in a b (both c e m s i j) =
      map_fine (Of sites_of_stmt (at (more e s) 0)) (StartIs (more e s)) (v.stmt_at (v.more c m) 0) Some
      (stmt_in x ts 0 (v.more c m) (more e s) (both c e m s i j)) (λ it f others s e. f)

  module _ (r : Range) (p : Value) (q : Part) (h : Is x ts p q) where
    pub block_is : Opt (Of (flat_map sites_of_stmt) (turns q 0 0)) (d.block p)
    unfolding d.block
    block_is = stmts_in (v.group p 0) (group q 0) (group_is x ts p q 0 h)

    pub declarator_is : Opt (Of sites_of_var_declarator (at q 0 ++ at q 1)) (d.declarator r p)
    unfolding d.declarator
    declarator_is =
        given_fine (Of sites_of_pat (at q 0)) _ (v.pat_at p 0) _ (pat_in x ts 0 p q h) (λ pat f.
        given_fine (Of sites_of_expr (at q 1)) _ (v.expr_at p 1) _ (expr_in x ts 1 p q h) (λ value g.
        declarator_parts _ ∙ two (λ k m. k ++ m) f g))

    pub bare_declarator_is : (s : Found) (pat : Pat) → sites_of_pat pat ≡ s
        → sites_of_var_declarator (d.declarator_of r None pat) ≡ s
    bare_declarator_is s pat f = declarator_parts _ ∙ append-nil (sites_of_pat pat) ∙ f

    pub variables_is : Opt (Of variables_sites (at q 1 ++ turns q 2 0)) (d.variables ts p)
    unfolding d.variables
    variables_is =
        given_any _ (given (kind_at ts p 0) (listed variable_kinds)) _ (λ kind.
        given_fine (Of (flat_map sites_of_var_declarator) (at q 1 ++ turns q 2 0)) _ (d.declarators_at p 1) _
        (declarators_in 1 p q h) (λ decls f. f))

    pub using_is : Opt (Of variables_sites (at q 1 ++ turns q 2 0)) (d.using_ p)
    unfolding d.using_
    using_is =
        given_fine (Of (flat_map sites_of_var_declarator) (at q 1 ++ turns q 2 0)) _ (d.declarators_at p 1) _
        (declarators_in 1 p q h) (λ decls f. f)

    pub variable_declaration_is : Opt (Of sites_of_decl (at q 0)) (d.variable_declaration r p)
    unfolding d.variable_declaration
    variable_declaration_is =
        map_fine (Of variables_sites (at q 0)) (Of sites_of_decl (at q 0)) (v.variables_at p 0) _
        (variables_in x ts 0 p q h)
        (λ vs f. decl_Var [] false vs.0 vs.1 r ∙ f)

    pub variable_head_is : Opt (Of head_sites (at q 1)) (d.variable_head ts p)
    unfolding d.variable_head
    variable_head_is =
        given_any _ (given (kind_at ts p 0) (listed variable_kinds)) _ (λ kind.
        given_fine (Of sites_of_pat (at q 1)) _ (v.pat_at p 1) _ (pat_in x ts 1 p q h) (λ pat f. f))

    pub using_head_is : Opt (Of head_sites []) (d.using_head x ts p)
    unfolding d.using_head
    using_head_is = map_any (Of head_sites []) (token_at ts p 1) _ (λ t. pat_Ident [] _ None _)

    -- ---- loops
    pub for_each_is : Opt (St (own x ts l.ForEachStatement q)) (d.for_each ts r p)
    unfolding d.for_each
    for_each_is =
        let T = St (own x ts l.ForEachStatement q) in
        given_fine (Of head_sites (at q 0)) T (v.head_at p 0) _ (head_in x ts 0 p q h) (λ head e.
        given_any T (kind_at ts (v.group p 1) 0) _ (λ kind.
        given_fine (Of sites_of_expr (at (group q 1) 1)) T (v.expr_at (v.group p 1) 1) _
        (expr_in x ts 1 (v.group p 1) (group q 1) (group_is x ts p q 1 h)) (λ right f.
        given_fine (Of sites_of_stmt (at q 2)) T (v.stmt_at p 2) _ (stmt_in x ts 2 p q h) (λ body g.
        each_of_is (same_kind kind k.InWord) r head right body ∙ three _ _ _ _ _ _ e f g))))

    pub for_await_is : Opt (St (own x ts l.ForAwaitStatement q)) (d.for_await r p)
    unfolding d.for_await
    for_await_is =
        let T = St (own x ts l.ForAwaitStatement q) in
        given_fine (Of head_sites (at q 0)) T (v.head_at p 0) _ (head_in x ts 0 p q h) (λ head e.
        given_fine (Of sites_of_expr (at q 1)) T (v.expr_at p 1) _ (expr_in x ts 1 p q h) (λ right f.
        given_fine (Of sites_of_stmt (at q 2)) T (v.stmt_at p 2) _ (stmt_in x ts 2 p q h) (λ body g.
        stmt_ForOf [] true head.0 head.1 right body r ∙ three _ _ _ _ _ _ e f g)))

    pub while_is : Opt (St (own x ts l.WhileStatement q)) (d.while_ r p)
    unfolding d.while_
    while_is =
        let T = St (own x ts l.WhileStatement q) in
        given_fine (Of sites_of_expr (at q 0)) T (v.expr_at p 0) _ (expr_in x ts 0 p q h) (λ test f.
        given_fine (Of sites_of_stmt (at q 1)) T (v.stmt_at p 1) _ (stmt_in x ts 1 p q h) (λ body g.
        stmt_While [] test body r ∙ two (λ k m. k ++ m) f g))

    pub do_is : Opt (St (own x ts l.DoStatement q)) (d.do_ r p)
    unfolding d.do_
    do_is =
        let T = St (own x ts l.DoStatement q) in
        given_fine (Of sites_of_stmt (at q 0)) T (v.stmt_at p 0) _ (stmt_in x ts 0 p q h) (λ body f.
        given_fine (Of sites_of_expr (at q 1)) T (v.expr_at p 1) _ (expr_in x ts 1 p q h) (λ test g.
        stmt_DoWhile [] body test r ∙ two (λ k m. k ++ m) f g))

    -- ---- statements
    pub expression_statement_is : Opt (St (own x ts l.ExpressionStatement q)) (d.expression_statement r p)
    unfolding d.expression_statement
    expression_statement_is =
        map_fine (Of sites_of_expr (at q 0)) (St (at q 0)) (v.expr_at p 0) _ (expr_in x ts 0 p q h)
        (λ e f. stmt_Expr [] e r ∙ f)

    pub labelled_is : Opt (St (own x ts l.LabelledStatement q)) (d.labelled x ts r p)
    unfolding d.labelled
    labelled_is =
        given_any (St (at q 1)) (ident_at x ts p 0) _ (λ label.
        given_fine (Of sites_of_stmt (at q 1)) (St (at q 1)) (v.stmt_at p 1) _ (stmt_in x ts 1 p q h) (λ body f.
        stmt_Labeled [] label body r ∙ f))

    pub if_is : Opt (St (own x ts l.IfStatement q)) (d.if_ r p)
    unfolding d.if_
    if_is =
        let T = St (own x ts l.IfStatement q) in
        given_fine (Of sites_of_expr (at q 0)) T (v.expr_at p 0) _ (expr_in x ts 0 p q h) (λ test e.
        given_fine (Of sites_of_stmt (at q 1)) T (v.stmt_at p 1) _ (stmt_in x ts 1 p q h) (λ one f.
        given_fine (Of (if_some sites_of_stmt) (may q 2)) T (v.optional v.stmt_at (v.group p 2)) _
        (may_in x ts sites_of_stmt v.stmt_at (λ a b i. stmt_in x ts 0 a b i) 2 p q h) (λ other g.
        stmt_If [] test one other r ∙ three _ _ _ _ _ _ e f g)))

    pub continue_is : Opt (St []) (d.continue_ x ts r p)
    unfolding d.continue_
    continue_is = map_any (St []) _ _ (λ label. stmt_Continue [] label r)

    pub break_is : Opt (St []) (d.break_ x ts r p)
    unfolding d.break_
    break_is = map_any (St []) _ _ (λ label. stmt_Break [] label r)

    pub throw_is : Opt (St (own x ts l.ThrowStatement q)) (d.throw_ r p)
    unfolding d.throw_
    throw_is =
        map_fine (Of sites_of_expr (at q 0)) (St (at q 0)) (v.expr_at p 0) _ (expr_in x ts 0 p q h)
        (λ e f. stmt_Throw [] e r ∙ f)

    pub with_is : Opt (St (own x ts l.WithStatement q)) (d.with_ r p)
    unfolding d.with_
    with_is =
        let T = St (own x ts l.WithStatement q) in
        given_fine (Of sites_of_expr (at q 0)) T (v.expr_at p 0) _ (expr_in x ts 0 p q h) (λ obj f.
        given_fine (Of sites_of_stmt (at q 1)) T (v.stmt_at p 1) _ (stmt_in x ts 1 p q h) (λ body g.
        stmt_With [] obj body r ∙ two (λ k m. k ++ m) f g))

    -- ---- `return`, `for`, `switch`, `try`
    found_value : (a : Value) (b : Part) → Is x ts a b
        → Opt (Of (if_some sites_of_expr) (at b 0)) (option_map Some (v.expr_at a 0))
    found_value a b i =
        map_fine (Of sites_of_expr (at b 0)) (Of (if_some sites_of_expr) (at b 0)) (v.expr_at a 0) Some
        (expr_in x ts 0 a b i) (λ e f. f)

    returned_is : (a : Value) (b : Part) → Is x ts a b
        → Opt (Of (if_some sites_of_expr) (o.returned x ts b)) (d.returned a)
    returned_is a b none = tt
    returned_is a b nothing = tt
    returned_is a b (same n) = tt
    returned_is a b (made from to m label c s i) = tt
    returned_is a b (both c e m s i nothing) = refl
    returned_is a b (both c e m s i none) =
        found_value (v.more c v.absent) (more e absent) (both c e v.absent absent i none)
    returned_is a b (both c e m s i (same n)) =
        found_value (v.more c (v.token n)) (more e (token n)) (both c e (v.token n) (token n) i (same n))
    returned_is a b (both c e m s i (both f g n u j k)) =
        found_value (v.more c (v.more f n)) (more e (more g u)) (both c e (v.more f n) (more g u) i (both f g n u j k))
    returned_is a b (both c e m s i (made from to n label d u j)) =
        found_value (v.more c (v.node from to n)) (more e (node label d u))
        (both c e (v.node from to n) (node label d u) i (made from to n label d u j))

    pub return_is : Opt (St (own x ts l.ReturnStatement q)) (d.return_ r p)
    unfolding d.return_
    return_is =
        map_fine (Of (if_some sites_of_expr) (o.returned x ts (group q 0))) (St (own x ts l.ReturnStatement q))
        (d.returned (v.group p 0)) _
        (returned_is (v.group p 0) (group q 0) (group_is x ts p q 0 h)) (λ arg f. stmt_Return [] arg r ∙ f)

    clause_is : (n : ℕ) (a : Value) (b : Part) → Is x ts a b
        → Opt (Of sites_of_switch_case (may b 0 ++ turns b 1 0)) (d.clause_of ts n a)
    clause_is n a b i =
        given_fine (Of (if_some sites_of_expr) (may b 0)) _ (v.optional v.expr_at (v.group a 0)) _
        (may_in x ts sites_of_expr v.expr_at (λ a b i. expr_in x ts 0 a b i) 0 a b i) (λ test f.
        given_fine (Of (flat_map sites_of_stmt) (turns b 1 0)) _ (d.stmts_of (v.group a 1)) _
        (stmts_in (v.group a 1) (group b 1) (group_is x ts a b 1 i)) (λ cons g.
        case_parts _ ∙ two (λ k m. k ++ m) f g))

    clauses_is : (n : ℕ) (a : Value) (b : Part) → Is x ts a b
        → Opt (Of (flat_map sites_of_switch_case) (each (λ turn. may turn 0 ++ turns turn 1 0) b)) (d.clauses ts n a)
    clauses_is n a b none = refl
    clauses_is n a b nothing = refl
    clauses_is n a b (same k) = refl
    clauses_is n a b (made from to m label c s i) = refl
    clauses_is n a b (both c e m s i j) =
        given_fine (Of sites_of_switch_case (may (as_group e) 0 ++ turns (as_group e) 1 0)) _
        (d.clause_of ts n (v.as_group c)) _
        (clause_is n (v.as_group c) (as_group e) (as_group_is x ts c e i)) (λ it f.
        given_fine (Of (flat_map sites_of_switch_case) (each (λ turn. may turn 0 ++ turns turn 1 0) s)) _ _ _
        (clauses_is (d.behind_clause n (v.as_group c)) m s j) (λ rest g. two (λ k m. k ++ m) f g))

    pub switch_is : Opt (St (own x ts l.SwitchStatement q)) (d.switch_ ts r p)
    unfolding d.switch_
    switch_is =
        let T = St (own x ts l.SwitchStatement q) in
        given_fine (Of sites_of_expr (at q 0)) T (v.expr_at p 0) _ (expr_in x ts 0 p q h) (λ discriminant f.
        given_fine (Of (flat_map sites_of_switch_case) (each (λ turn. may turn 0 ++ turns turn 1 0) (group q 1))) T
        (d.clauses ts (v.behind (v.part p 0) + 2) (v.group p 1)) _
        (clauses_is (v.behind (v.part p 0) + 2) (v.group p 1) (group q 1) (group_is x ts p q 1 h)) (λ cases g.
        stmt_Switch [] discriminant cases r ∙ two (λ k m. k ++ m) f g))

    start_is : Opt (Of (if_some sites_of_stmt) (o.first_of x ts (group q 0) (o.first_of x ts (group q 1) (may q 2))))
        (d.start_of_for ts p)
    unfolding StartIs
    start_is =
        let T = Of (if_some sites_of_stmt) (o.first_of x ts (group q 0) (o.first_of x ts (group q 1) (may q 2))) in
        given_fine (StartIs (group q 0)) T (v.optional v.stmt_at (v.group p 0)) _
        (start_in (v.group p 0) (group q 0) (group_is x ts p q 0 h)) (λ one e.
        given_fine (StartIs (group q 1)) T (v.optional v.stmt_at (v.group p 1)) _
        (start_in (v.group p 1) (group q 1) (group_is x ts p q 1 h)) (λ two_ f.
        given_fine (Of (if_some sites_of_stmt) (may q 2)) T (v.optional (d.expression_at ts) (v.group p 2)) _
        (may_in x ts sites_of_stmt (d.expression_at ts)
        (λ a b i. map_fine (Of sites_of_expr (at b 0)) (Of sites_of_stmt (at b 0)) (v.expr_at a 0) _
        (expr_in x ts 0 a b i)
        (λ it k. stmt_Expr [] it _ ∙ k)) 2 p q h) (λ other g.
        e (or_else two_ other) (o.first_of x ts (group q 1) (may q 2)) (f other (may q 2) g))))

    pub for_is : Opt (St (own x ts l.ForStatement q)) (d.for_ ts r p)
    unfolding d.for_
    for_is =
        let T = St (own x ts l.ForStatement q) in
        given_fine (Of (if_some sites_of_stmt) (o.first_of x ts (group q 0) (o.first_of x ts (group q 1) (may q 2)))) T
        (d.start_of_for ts p) _ start_is (λ init e.
        given_fine (Of (if_some sites_of_expr) (may q 3)) T (v.optional v.expr_at (v.group p 3)) _
        (may_in x ts sites_of_expr v.expr_at (λ a b i. expr_in x ts 0 a b i) 3 p q h) (λ test f.
        given_fine (Of (if_some sites_of_expr) (may q 4)) T (v.optional v.expr_at (v.group p 4)) _
        (may_in x ts sites_of_expr v.expr_at (λ a b i. expr_in x ts 0 a b i) 4 p q h) (λ update g.
        given_fine (Of sites_of_stmt (at q 5)) T (v.stmt_at p 5) _ (stmt_in x ts 5 p q h) (λ body k.
        stmt_For [] init test update body r ∙ two (λ a b. a ++ b) (three _ _ _ _ _ _ e f g) k))))

  four : (a b c d : Found) → a ++ b ++ c ++ d ≡ a ++ (b ++ c ++ d)
  four a b c d = ap (λ k. k ++ d) (append_assoc a b c) ∙ append_assoc a (b ++ c) d

  -- behind the block of a `try`
  pub try_parts : (r : Range) (block : Stmt) (param : Option Pat) (handler : Stmt) (finalizer : Option Stmt)
      (a b c e : Found)
      → sites_of_stmt block ≡ a → if_some sites_of_pat param ≡ b → sites_of_stmt handler ≡ c
      → if_some sites_of_stmt finalizer ≡ e
      → sites_of_stmt (vStmt.Try block param (Some handler) finalizer r) ≡ a ++ (b ++ c ++ e)
  try_parts r block param handler finalizer a b c e f g i j =
      stmt_Try [] block param (Some handler) finalizer r ∙ two (λ k m. k ++ m) (three _ _ _ _ _ _ f g i) j
      ∙ four a b c e

  pub final_parts : (r : Range) (block : Stmt) (finalizer : Stmt) (a b : Found) → sites_of_stmt block ≡ a
      → sites_of_stmt finalizer ≡ b → sites_of_stmt (vStmt.Try block None None (Some finalizer) r) ≡ a ++ b
  final_parts r block finalizer a b f g =
      stmt_Try [] block None None (Some finalizer) r
      ∙ ap (λ k. k ++ sites_of_stmt finalizer)
      (append-nil (sites_of_stmt block ++ []) ∙ append-nil (sites_of_stmt block))
      ∙ two (λ k m. k ++ m) f g

  caught_one : (r : Range) (block : Stmt) (a : Found) → sites_of_stmt block ≡ a → (v1 : Value) (b : Part) → Is x ts v1 b
      → Opt (St (a ++ (may b 0 ++ at b 1 ++ may b 2)))
      (given (v.optional v.pat_at (v.group v1 0)) (λ param.
      given (v.stmt_at v1 1) (λ handler.
      given (v.optional v.stmt_at (v.group v1 2))
      (λ finalizer. Some (vStmt.Try block param (Some handler) finalizer r)))))
  caught_one r block a e v1 b i =
      let T = St (a ++ (may b 0 ++ at b 1 ++ may b 2)) in
      given_fine (Of (if_some sites_of_pat) (may b 0)) T (v.optional v.pat_at (v.group v1 0)) _
      (may_in x ts sites_of_pat v.pat_at (λ a b i. pat_in x ts 0 a b i) 0 v1 b i) (λ param f.
      given_fine (Of sites_of_stmt (at b 1)) T (v.stmt_at v1 1) _ (stmt_in x ts 1 v1 b i) (λ handler g.
      given_fine (Of (if_some sites_of_stmt) (may b 2)) T (v.optional v.stmt_at (v.group v1 2)) _
      (may_in x ts sites_of_stmt v.stmt_at (λ a b i. stmt_in x ts 0 a b i) 2 v1 b i) (λ finalizer j.
      try_parts r block param handler finalizer a (may b 0) (at b 1) (may b 2) e f g j)))

  handled_is : (r : Range) (block : Stmt) (a : Found) → sites_of_stmt block ≡ a → (v1 : Value) (b : Part) → Is x ts v1 b
      → Opt (St (a ++ o.handled x ts (inside (λ g. at g 0)) b)) (d.handled r block v1)
  handled_is r block a e v1 b none = caught_one r block a e v.absent absent none
  handled_is r block a e v1 b nothing = caught_one r block a e v.nil nil nothing
  handled_is r block a e v1 b (same n) = caught_one r block a e (v.token n) (token n) (same n)
  handled_is r block a e v1 b (made from to m label c s i) =
      caught_one r block a e (v.node from to m) (node label c s) (made from to m label c s i)
  handled_is r block a e v1 b (both c f m s i nothing) =
      map_fine (Of sites_of_stmt (found f)) (St (a ++ found f)) (v.stmt_at (v.more c v.nil) 0) _
      (stmt_in x ts 0 (v.more c v.nil) (more f nil) (both c f v.nil nil i nothing)) (λ finalizer g.
      final_parts r block finalizer a (found f) e g)
  handled_is r block a e v1 b (both c f m s i none) =
      caught_one r block a e (v.more c v.absent) (more f absent) (both c f v.absent absent i none)
  handled_is r block a e v1 b (both c f m s i (same n)) =
      caught_one r block a e (v.more c (v.token n)) (more f (token n)) (both c f (v.token n) (token n) i (same n))
  handled_is r block a e v1 b (both c f m s i (both g k n u j t)) =
      caught_one r block a e (v.more c (v.more g n)) (more f (more k u))
      (both c f (v.more g n) (more k u) i (both g k n u j t))
  handled_is r block a e v1 b (both c f m s i (made from to n label t u j)) =
      caught_one r block a e (v.more c (v.node from to n)) (more f (node label t u))
      (both c f (v.node from to n) (node label t u) i (made from to n label t u j))

  pub try_is : (r : Range) (p : Value) (q : Part) → Is x ts p q → Opt (St (own x ts l.TryStatement q)) (d.try_ r p)
  unfolding d.try_
  try_is r p q h =
      given_fine (Of sites_of_stmt (at q 0)) (St (own x ts l.TryStatement q)) (v.stmt_at p 0) _ (stmt_in x ts 0 p q h)
      (λ block e.
      handled_is r block (at q 0) e (v.group p 1) (group q 1) (group_is x ts p q 1 h))
