-- What statements and declarations of variables become moves with their parts.
use Rattle.std.specs.Prelude.{ℕ, ◌+◌, Bool, true, false, List, Option}
use Rattle.base.specs.declared.range.Range.{Range}
use Rattle.es_token.specs.declared.token.Token.{Token}
use Rattle.es_token.specs.declared.token.TokenKind.TheVariants as k
use Rattle.grammar_theory.specs.Key.{same_kind}
use Rattle.es_ast.specs.declared.leaf.VarDeclKind.{VarDeclKind}
use Rattle.es_ast.specs.declared.ast.Expr.{Expr}
use Rattle.es_ast.specs.declared.ast.Stmt.{Stmt}
use Rattle.es_ast.specs.declared.ast.Pat.{Pat}
use Rattle.es_ast.specs.declared.ast.VarDeclarator.{VarDeclarator}
use Rattle.es_lowering.specs.Value.{Value}
use Rattle.es_lowering.specs.Statements.{stmts_of, block, declarator_of, declarator, declarators_at, variables, using_kind, using_, decl_of, variable_declaration, variable_head, using_head, expression_at, start_of_for, for_, each_of, for_each, for_await, while_, do_, expression_statement, labelled, if_, continue_, break_, returned, return_, throw_, behind_colon, behind_stmts, behind_clause, clause_of, clauses, switch_, handled, try_, with_}
use Rattle.std.proofs.Common.{◌≡◌, ap, sym, subst}
use Rattle.es_law_edits.proofs.moved.Patterns.{var_declarator_made}
use Rattle.es_law_edits.proofs.moved.Rel.{Both, By, Each, Opt, Same, end, next, none, some}
use Rattle.es_law_edits.proofs.moved.Statements.{decl_Var, stmt_Break, stmt_Continue, stmt_DoWhile, stmt_Expr, stmt_For, stmt_ForIn, stmt_ForOf, stmt_If, stmt_Labeled, stmt_Return, stmt_Switch, stmt_Throw, stmt_Try, stmt_While, stmt_With, switch_case_made}
use Rattle.es_law_edits.specs.moved.Move.{Move, range_to}
use Rattle.es_law_edits.specs.moved.Trees.{decl_to, expr_to, pat_to, stmt_to, switch_case_to, var_declarator_to}
use Rattle.es_law_edits.proofs.moved_lowering.Frame.{Moves, Texts, as_group_moves, behind_moves, first_of_moves, given_moves, gone, is_there_moves, leaf, listed_moves, made, map_moves, opt_equal, optional_moves, or_else_moves, over, pair, part_moves, same, turns_moves}
use Rattle.es_law_edits.proofs.moved_lowering.Leaves.{span_of_moves}
use Rattle.es_law_edits.proofs.moved_lowering.Patterns.{ident_pat_moves}
use Rattle.es_law_edits.proofs.moved_lowering.Texts.{ident_at_moves, kind_at_moves, token_at_moves}
use Rattle.es_law_edits.proofs.moved_lowering.Value.{declarator_at_moves, expr_at_moves, group_moves, head_at_moves, pat_at_moves, stmt_at_moves, variables_at_moves}

pub stmts_of_moves : {m : Move} {v v2 : Value} → Moves m v v2 → Opt (Each (By (stmt_to m))) (stmts_of v) (stmts_of v2)
stmts_of_moves v_ = turns_moves (λ turn turn2 turn_. stmt_at_moves turn_ (same 0)) v_

pub block_moves : {m : Move} {p p2 : Value} → Moves m p p2 → Opt (Each (By (stmt_to m))) (block p) (block p2)
unfolding block
block_moves p_ = stmts_of_moves (group_moves p_ (same 0))

pub declarator_of_moves : (m : Move) {r r2 : Range} → By (range_to m) r r2 → {value value2 : Option Expr}
    → Opt (By (expr_to m)) value value2 → {pat pat2 : Pat} → By (pat_to m) pat pat2
    → By (var_declarator_to m) (declarator_of r value pat) (declarator_of r2 value2 pat2)
declarator_of_moves m r_ value_ pat_ = var_declarator_made m pat_ (same false) value_ r_

pub declarator_moves : {m : Move} {r r2 : Range} → By (range_to m) r r2 → {p p2 : Value} → Moves m p p2
    → Opt (By (var_declarator_to m)) (declarator r p) (declarator r2 p2)
unfolding declarator
declarator_moves {m = m} r_ p_ =
    given_moves (pat_at_moves p_ (same 0))
    (λ pat pat2 pat_. given_moves (expr_at_moves p_ (same 1))
    (λ value value2 value_. some (declarator_of_moves m r_ (some value_) pat_)))

pub declarators_at_moves : {m : Move} {p p2 : Value} → Moves m p p2 → {n n2 : ℕ} → n2 ≡ n
    → Opt (Each (By (var_declarator_to m))) (declarators_at p n) (declarators_at p2 n2)
declarators_at_moves p_ n_ =
    given_moves (declarator_at_moves p_ n_)
    (λ first first2 first_. given_moves
    (turns_moves (λ turn turn2 turn_. declarator_at_moves turn_ (same 0))
    (group_moves p_ (ap (λ n. n + 1) n_))) (λ others others2 others_. some (next first_ others_)))

pub variables_moves : {m : Move} {x y : List ℕ} {ts us : List Token} → Texts m x y ts us → {p p2 : Value}
    → Moves m p p2 → Opt (Both Same (Each (By (var_declarator_to m)))) (variables ts p) (variables us p2)
unfolding variables
variables_moves told p_ =
    given_moves (given_moves (kind_at_moves told p_ (same 0)) (λ a a2 a_. listed_moves _ a_))
    (λ kind kind2 kind_. given_moves (declarators_at_moves p_ (same 1))
    (λ decls decls2 decls_. some (kind_, decls_)))

pub using__moves : {m : Move} {p p2 : Value} → Moves m p p2
    → Opt (Both Same (Each (By (var_declarator_to m)))) (using_ p) (using_ p2)
unfolding using_
using__moves p_ = given_moves (declarators_at_moves p_ (same 1))
    (λ decls decls2 decls_. some (ap (λ a. using_kind a) (is_there_moves (group_moves p_ (same 0))), decls_))

pub decl_of_moves : (m : Move) {r r2 : Range} → By (range_to m) r r2 → {v v2 : VarDeclKind × (List VarDeclarator)}
    → Both Same (Each (By (var_declarator_to m))) v v2 → By (decl_to m) (decl_of r v) (decl_of r2 v2)
decl_of_moves m r_ v_ = decl_Var m (same false) v_.0 v_.1 r_

pub variable_declaration_moves : {m : Move} {r r2 : Range} → By (range_to m) r r2 → {p p2 : Value} → Moves m p p2
    → Opt (By (decl_to m)) (variable_declaration r p) (variable_declaration r2 p2)
unfolding variable_declaration
variable_declaration_moves {m = m} r_ p_ =
    map_moves _ _ (variables_at_moves p_ (same 0)) (λ a a2 a_. decl_of_moves m r_ a_)

pub variable_head_moves : {m : Move} {x y : List ℕ} {ts us : List Token} → Texts m x y ts us → {p p2 : Value}
    → Moves m p p2 → Opt (Both (Opt Same) (By (pat_to m))) (variable_head ts p) (variable_head us p2)
unfolding variable_head
variable_head_moves told p_ =
    given_moves (given_moves (kind_at_moves told p_ (same 0)) (λ a a2 a_. listed_moves _ a_))
    (λ kind kind2 kind_. given_moves (pat_at_moves p_ (same 1)) (λ pat pat2 pat_. some (some kind_, pat_)))

pub using_head_moves : {m : Move} {x y : List ℕ} {ts us : List Token} → Texts m x y ts us → {p p2 : Value}
    → Moves m p p2 → Opt (Both (Opt Same) (By (pat_to m))) (using_head x ts p) (using_head y us p2)
unfolding using_head
using_head_moves told p_ =
    map_moves _ _ (token_at_moves told p_ (same 1))
    (λ t t2 t_. (some (ap (λ a. using_kind a) (is_there_moves (group_moves p_ (same 0)))), ident_pat_moves told t_))

pub expression_at_moves : {m : Move} {x y : List ℕ} {ts us : List Token} → Texts m x y ts us → {p p2 : Value}
    → Moves m p p2 → {n n2 : ℕ} → n2 ≡ n → Opt (By (stmt_to m)) (expression_at ts p n) (expression_at us p2 n2)
expression_at_moves {m = m} told p_ n_ =
    map_moves _ _ (expr_at_moves p_ n_)
    (λ e e2 e_. stmt_Expr m e_
    (span_of_moves told (first_of_moves (part_moves p_ n_)) (behind_moves (part_moves p_ n_))))

pub start_of_for_moves : {m : Move} {x y : List ℕ} {ts us : List Token} → Texts m x y ts us → {p p2 : Value}
    → Moves m p p2 → Opt (Opt (By (stmt_to m))) (start_of_for ts p) (start_of_for us p2)
start_of_for_moves told p_ =
    given_moves (optional_moves (λ a a2 a_ b b2 b_. stmt_at_moves a_ b_) (group_moves p_ (same 0)))
    (λ variables variables2 variables_. given_moves
    (optional_moves (λ a a2 a_ b b2 b_. stmt_at_moves a_ b_) (group_moves p_ (same 1)))
    (λ using using2 using_. given_moves
    (optional_moves (λ a a2 a_ b b2 b_. expression_at_moves told a_ b_) (group_moves p_ (same 2)))
    (λ expression expression2 expression_. some
    (or_else_moves variables_ (or_else_moves using_ expression_)))))

pub for__moves : {m : Move} {x y : List ℕ} {ts us : List Token} → Texts m x y ts us → {r r2 : Range}
    → By (range_to m) r r2 → {p p2 : Value} → Moves m p p2 → Opt (By (stmt_to m)) (for_ ts r p) (for_ us r2 p2)
unfolding for_
for__moves {m = m} told r_ p_ =
    given_moves (start_of_for_moves told p_)
    (λ init init2 init_. given_moves
    (optional_moves (λ a a2 a_ b b2 b_. expr_at_moves a_ b_) (group_moves p_ (same 3)))
    (λ test test2 test_. given_moves
    (optional_moves (λ a a2 a_ b b2 b_. expr_at_moves a_ b_) (group_moves p_ (same 4)))
    (λ update update2 update_. given_moves (stmt_at_moves p_ (same 5))
    (λ body body2 body_. some (stmt_For m init_ test_ update_ body_ r_)))))

pub each_of_moves : (m : Move) {b b2 : Bool} → b2 ≡ b → {r r2 : Range} → By (range_to m) r r2
    → {head head2 : Option VarDeclKind × Pat} → Both (Opt Same) (By (pat_to m)) head head2 → {right right2 : Expr}
    → By (expr_to m) right right2 → {body body2 : Stmt} → By (stmt_to m) body body2
    → By (stmt_to m) (each_of b r head right body) (each_of b2 r2 head2 right2 body2)
each_of_moves m {b} {b2} b_ {r} {r2} r_ {head} {head2} head_ {right} {right2} right_ {body} {body2} body_ =
    subst (λ (c : Bool). By (stmt_to m) (each_of b r head right body) (each_of c r2 head2 right2 body2)) (sym b_)
    (by_case b)
  where
    by_case : (b : Bool) → By (stmt_to m) (each_of b r head right body) (each_of b r2 head2 right2 body2)
    by_case true = stmt_ForIn m (opt_equal head_.0) head_.1 right_ body_ r_
    by_case false = stmt_ForOf m (same false) (opt_equal head_.0) head_.1 right_ body_ r_

pub for_each_moves : {m : Move} {x y : List ℕ} {ts us : List Token} → Texts m x y ts us → {r r2 : Range}
    → By (range_to m) r r2 → {p p2 : Value} → Moves m p p2 → Opt (By (stmt_to m)) (for_each ts r p) (for_each us r2 p2)
unfolding for_each
for_each_moves {m = m} told r_ p_ =
    given_moves (head_at_moves p_ (same 0))
    (λ head head2 head_. given_moves (kind_at_moves told (group_moves p_ (same 1)) (same 0))
    (λ kind kind2 kind_. given_moves (expr_at_moves (group_moves p_ (same 1)) (same 1))
    (λ right right2 right_. given_moves (stmt_at_moves p_ (same 2))
    (λ body body2 body_. some
    (each_of_moves m (ap (λ kind. same_kind kind k.InWord) kind_) r_ head_ right_ body_)))))

pub for_await_moves : {m : Move} {r r2 : Range} → By (range_to m) r r2 → {p p2 : Value} → Moves m p p2
    → Opt (By (stmt_to m)) (for_await r p) (for_await r2 p2)
unfolding for_await
for_await_moves {m = m} r_ p_ =
    given_moves (head_at_moves p_ (same 0))
    (λ head head2 head_. given_moves (expr_at_moves p_ (same 1))
    (λ right right2 right_. given_moves (stmt_at_moves p_ (same 2))
    (λ body body2 body_. some (stmt_ForOf m (same true) (opt_equal head_.0) head_.1 right_ body_ r_))))

pub while__moves : {m : Move} {r r2 : Range} → By (range_to m) r r2 → {p p2 : Value} → Moves m p p2
    → Opt (By (stmt_to m)) (while_ r p) (while_ r2 p2)
unfolding while_
while__moves {m = m} r_ p_ =
    given_moves (expr_at_moves p_ (same 0))
    (λ test test2 test_. given_moves (stmt_at_moves p_ (same 1))
    (λ body body2 body_. some (stmt_While m test_ body_ r_)))

pub do__moves : {m : Move} {r r2 : Range} → By (range_to m) r r2 → {p p2 : Value} → Moves m p p2
    → Opt (By (stmt_to m)) (do_ r p) (do_ r2 p2)
unfolding do_
do__moves {m = m} r_ p_ =
    given_moves (stmt_at_moves p_ (same 0))
    (λ body body2 body_. given_moves (expr_at_moves p_ (same 1))
    (λ test test2 test_. some (stmt_DoWhile m body_ test_ r_)))

pub expression_statement_moves : {m : Move} {r r2 : Range} → By (range_to m) r r2 → {p p2 : Value} → Moves m p p2
    → Opt (By (stmt_to m)) (expression_statement r p) (expression_statement r2 p2)
unfolding expression_statement
expression_statement_moves {m = m} r_ p_ = map_moves _ _ (expr_at_moves p_ (same 0)) (λ e e2 e_. stmt_Expr m e_ r_)

pub labelled_moves : {m : Move} {x y : List ℕ} {ts us : List Token} → Texts m x y ts us → {r r2 : Range}
    → By (range_to m) r r2 → {p p2 : Value} → Moves m p p2
    → Opt (By (stmt_to m)) (labelled x ts r p) (labelled y us r2 p2)
unfolding labelled
labelled_moves {m = m} told r_ p_ =
    given_moves (ident_at_moves told p_ (same 0))
    (λ label label2 label_. given_moves (stmt_at_moves p_ (same 1))
    (λ body body2 body_. some (stmt_Labeled m label_ body_ r_)))

pub if__moves : {m : Move} {r r2 : Range} → By (range_to m) r r2 → {p p2 : Value} → Moves m p p2
    → Opt (By (stmt_to m)) (if_ r p) (if_ r2 p2)
unfolding if_
if__moves {m = m} r_ p_ =
    given_moves (expr_at_moves p_ (same 0))
    (λ test test2 test_. given_moves (stmt_at_moves p_ (same 1))
    (λ yes yes2 yes_. given_moves
    (optional_moves (λ a a2 a_ b b2 b_. stmt_at_moves a_ b_) (group_moves p_ (same 2)))
    (λ no no2 no_. some (stmt_If m test_ yes_ no_ r_))))

pub continue__moves : {m : Move} {x y : List ℕ} {ts us : List Token} → Texts m x y ts us → {r r2 : Range}
    → By (range_to m) r r2 → {p p2 : Value} → Moves m p p2
    → Opt (By (stmt_to m)) (continue_ x ts r p) (continue_ y us r2 p2)
unfolding continue_
continue__moves {m = m} told r_ p_ =
    map_moves _ _ (optional_moves (λ a a2 a_ b b2 b_. ident_at_moves told a_ b_) (group_moves p_ (same 0)))
    (λ label label2 label_. stmt_Continue m label_ r_)

pub break__moves : {m : Move} {x y : List ℕ} {ts us : List Token} → Texts m x y ts us → {r r2 : Range}
    → By (range_to m) r r2 → {p p2 : Value} → Moves m p p2 → Opt (By (stmt_to m)) (break_ x ts r p) (break_ y us r2 p2)
unfolding break_
break__moves {m = m} told r_ p_ =
    map_moves _ _ (optional_moves (λ a a2 a_ b b2 b_. ident_at_moves told a_ b_) (group_moves p_ (same 0)))
    (λ label label2 label_. stmt_Break m label_ r_)

pub returned_moves : {m : Move} {v v2 : Value} → Moves m v v2 → Opt (Opt (By (expr_to m))) (returned v) (returned v2)
returned_moves (pair v_ over) = some none
returned_moves gone = map_moves _ _ (expr_at_moves gone (same 0)) (λ a a2 a_. some a_)
returned_moves over = map_moves _ _ (expr_at_moves over (same 0)) (λ a a2 a_. some a_)
returned_moves (pair a gone) = map_moves _ _ (expr_at_moves (pair a gone) (same 0)) (λ a a2 a_. some a_)
returned_moves (pair a (pair b c)) = map_moves _ _ (expr_at_moves (pair a (pair b c)) (same 0)) (λ a a2 a_. some a_)
returned_moves (pair a (leaf b)) = map_moves _ _ (expr_at_moves (pair a (leaf b)) (same 0)) (λ a a2 a_. some a_)
returned_moves (pair a (made b c d)) = map_moves _ _ (expr_at_moves (pair a (made b c d)) (same 0)) (λ a a2 a_. some a_)
returned_moves (leaf a) = map_moves _ _ (expr_at_moves (leaf a) (same 0)) (λ a a2 a_. some a_)
returned_moves (made a b c) = map_moves _ _ (expr_at_moves (made a b c) (same 0)) (λ a a2 a_. some a_)

pub return__moves : {m : Move} {r r2 : Range} → By (range_to m) r r2 → {p p2 : Value} → Moves m p p2
    → Opt (By (stmt_to m)) (return_ r p) (return_ r2 p2)
unfolding return_
return__moves {m = m} r_ p_ =
    map_moves _ _ (returned_moves (group_moves p_ (same 0))) (λ arg arg2 arg_. stmt_Return m arg_ r_)

pub throw__moves : {m : Move} {r r2 : Range} → By (range_to m) r r2 → {p p2 : Value} → Moves m p p2
    → Opt (By (stmt_to m)) (throw_ r p) (throw_ r2 p2)
unfolding throw_
throw__moves {m = m} r_ p_ = map_moves _ _ (expr_at_moves p_ (same 0)) (λ arg arg2 arg_. stmt_Throw m arg_ r_)

pub behind_colon_moves : {m : Move} {at at2 : ℕ} → at2 ≡ at → {v v2 : Value} → Moves m v v2
    → behind_colon at2 v2 ≡ behind_colon at v
behind_colon_moves at_ (pair test_ vs_) = ap (λ n. n + 1) (behind_moves test_)
behind_colon_moves at_ gone = ap (λ n. n + 2) at_
behind_colon_moves at_ over = ap (λ n. n + 2) at_
behind_colon_moves at_ (leaf a) = ap (λ n. n + 2) at_
behind_colon_moves at_ (made a b c) = ap (λ n. n + 2) at_

pub behind_stmts_moves : {m : Move} {v v2 : Value} → Moves m v v2 → {at at2 : ℕ} → at2 ≡ at
    → behind_stmts at2 v2 ≡ behind_stmts at v
behind_stmts_moves (pair turn_ vs_) at_ =
    behind_stmts_moves vs_ (behind_moves (part_moves (as_group_moves turn_) (same 0)))
behind_stmts_moves gone at_ = at_
behind_stmts_moves over at_ = at_
behind_stmts_moves (leaf a) at_ = at_
behind_stmts_moves (made a b c) at_ = at_

pub behind_clause_moves : {m : Move} {at at2 : ℕ} → at2 ≡ at → {turn turn2 : Value} → Moves m turn turn2
    → behind_clause at2 turn2 ≡ behind_clause at turn
behind_clause_moves at_ turn_ =
    behind_stmts_moves (group_moves turn_ (same 1)) (behind_colon_moves at_ (group_moves turn_ (same 0)))

pub clause_of_moves : {m : Move} {x y : List ℕ} {ts us : List Token} → Texts m x y ts us → {at at2 : ℕ} → at2 ≡ at
    → {turn turn2 : Value} → Moves m turn turn2
    → Opt (By (switch_case_to m)) (clause_of ts at turn) (clause_of us at2 turn2)
clause_of_moves {m = m} told at_ turn_ =
    given_moves (optional_moves (λ a a2 a_ b b2 b_. expr_at_moves a_ b_) (group_moves turn_ (same 0)))
    (λ test test2 test_. given_moves (stmts_of_moves (group_moves turn_ (same 1)))
    (λ cons cons2 cons_. some
    (switch_case_made m test_ cons_ (span_of_moves told at_ (behind_clause_moves at_ turn_)))))

pub clauses_moves : {m : Move} {x y : List ℕ} {ts us : List Token} → Texts m x y ts us → {c c2 : Value} → Moves m c c2
    → {at at2 : ℕ} → at2 ≡ at → Opt (Each (By (switch_case_to m))) (clauses ts at c) (clauses us at2 c2)
clauses_moves told (pair turn_ vs_) at_ =
    given_moves (clause_of_moves told at_ (as_group_moves turn_))
    (λ clause clause2 clause_. given_moves
    (clauses_moves told vs_ (behind_clause_moves at_ (as_group_moves turn_)))
    (λ rest rest2 rest_. some (next clause_ rest_)))
clauses_moves told gone at_ = some end
clauses_moves told over at_ = some end
clauses_moves told (leaf a) at_ = some end
clauses_moves told (made a b c) at_ = some end

pub switch__moves : {m : Move} {x y : List ℕ} {ts us : List Token} → Texts m x y ts us → {r r2 : Range}
    → By (range_to m) r r2 → {p p2 : Value} → Moves m p p2 → Opt (By (stmt_to m)) (switch_ ts r p) (switch_ us r2 p2)
unfolding switch_
switch__moves {m = m} told r_ p_ =
    given_moves (expr_at_moves p_ (same 0))
    (λ discriminant discriminant2 discriminant_. given_moves
    (clauses_moves told (group_moves p_ (same 1)) (ap (λ n. n + 2) (behind_moves (part_moves p_ (same 0)))))
    (λ cases cases2 cases_. some (stmt_Switch m discriminant_ cases_ r_)))

pub handled_moves : {m : Move} {r r2 : Range} → By (range_to m) r r2 → {block block2 : Stmt}
    → By (stmt_to m) block block2 → {v v2 : Value} → Moves m v v2
    → Opt (By (stmt_to m)) (handled r block v) (handled r2 block2 v2)
handled_moves {m = m} r_ block_ (pair body_ over) =
    map_moves _ _ (stmt_at_moves (pair body_ over) (same 0))
    (λ finalizer finalizer2 finalizer_. stmt_Try m block_ none none (some finalizer_) r_)
handled_moves {m = m} r_ block_ gone =
    given_moves (optional_moves (λ a a2 a_ b b2 b_. pat_at_moves a_ b_) (group_moves gone (same 0)))
    (λ param param2 param_. given_moves (stmt_at_moves gone (same 1))
    (λ handler handler2 handler_. given_moves
    (optional_moves (λ a a2 a_ b b2 b_. stmt_at_moves a_ b_) (group_moves gone (same 2)))
    (λ finalizer finalizer2 finalizer_. some (stmt_Try m block_ param_ (some handler_) finalizer_ r_))))
handled_moves {m = m} r_ block_ over =
    given_moves (optional_moves (λ a a2 a_ b b2 b_. pat_at_moves a_ b_) (group_moves over (same 0)))
    (λ param param2 param_. given_moves (stmt_at_moves over (same 1))
    (λ handler handler2 handler_. given_moves
    (optional_moves (λ a a2 a_ b b2 b_. stmt_at_moves a_ b_) (group_moves over (same 2)))
    (λ finalizer finalizer2 finalizer_. some (stmt_Try m block_ param_ (some handler_) finalizer_ r_))))
handled_moves {m = m} r_ block_ (pair a gone) =
    given_moves (optional_moves (λ a a2 a_ b b2 b_. pat_at_moves a_ b_) (group_moves (pair a gone) (same 0)))
    (λ param param2 param_. given_moves (stmt_at_moves (pair a gone) (same 1))
    (λ handler handler2 handler_. given_moves
    (optional_moves (λ a a2 a_ b b2 b_. stmt_at_moves a_ b_) (group_moves (pair a gone) (same 2)))
    (λ finalizer finalizer2 finalizer_. some (stmt_Try m block_ param_ (some handler_) finalizer_ r_))))
handled_moves {m = m} r_ block_ (pair a (pair b c)) =
    given_moves (optional_moves (λ a a2 a_ b b2 b_. pat_at_moves a_ b_) (group_moves (pair a (pair b c)) (same 0)))
    (λ param param2 param_. given_moves (stmt_at_moves (pair a (pair b c)) (same 1))
    (λ handler handler2 handler_. given_moves
    (optional_moves (λ a a2 a_ b b2 b_. stmt_at_moves a_ b_) (group_moves (pair a (pair b c)) (same 2)))
    (λ finalizer finalizer2 finalizer_. some (stmt_Try m block_ param_ (some handler_) finalizer_ r_))))
handled_moves {m = m} r_ block_ (pair a (leaf b)) =
    given_moves (optional_moves (λ a a2 a_ b b2 b_. pat_at_moves a_ b_) (group_moves (pair a (leaf b)) (same 0)))
    (λ param param2 param_. given_moves (stmt_at_moves (pair a (leaf b)) (same 1))
    (λ handler handler2 handler_. given_moves
    (optional_moves (λ a a2 a_ b b2 b_. stmt_at_moves a_ b_) (group_moves (pair a (leaf b)) (same 2)))
    (λ finalizer finalizer2 finalizer_. some (stmt_Try m block_ param_ (some handler_) finalizer_ r_))))
handled_moves {m = m} r_ block_ (pair a (made b c d)) =
    given_moves (optional_moves (λ a a2 a_ b b2 b_. pat_at_moves a_ b_) (group_moves (pair a (made b c d)) (same 0)))
    (λ param param2 param_. given_moves (stmt_at_moves (pair a (made b c d)) (same 1))
    (λ handler handler2 handler_. given_moves
    (optional_moves (λ a a2 a_ b b2 b_. stmt_at_moves a_ b_) (group_moves (pair a (made b c d)) (same 2)))
    (λ finalizer finalizer2 finalizer_. some (stmt_Try m block_ param_ (some handler_) finalizer_ r_))))
handled_moves {m = m} r_ block_ (leaf a) =
    given_moves (optional_moves (λ a a2 a_ b b2 b_. pat_at_moves a_ b_) (group_moves (leaf a) (same 0)))
    (λ param param2 param_. given_moves (stmt_at_moves (leaf a) (same 1))
    (λ handler handler2 handler_. given_moves
    (optional_moves (λ a a2 a_ b b2 b_. stmt_at_moves a_ b_) (group_moves (leaf a) (same 2)))
    (λ finalizer finalizer2 finalizer_. some (stmt_Try m block_ param_ (some handler_) finalizer_ r_))))
handled_moves {m = m} r_ block_ (made a b c) =
    given_moves (optional_moves (λ a a2 a_ b b2 b_. pat_at_moves a_ b_) (group_moves (made a b c) (same 0)))
    (λ param param2 param_. given_moves (stmt_at_moves (made a b c) (same 1))
    (λ handler handler2 handler_. given_moves
    (optional_moves (λ a a2 a_ b b2 b_. stmt_at_moves a_ b_) (group_moves (made a b c) (same 2)))
    (λ finalizer finalizer2 finalizer_. some (stmt_Try m block_ param_ (some handler_) finalizer_ r_))))

pub try__moves : {m : Move} {r r2 : Range} → By (range_to m) r r2 → {p p2 : Value} → Moves m p p2
    → Opt (By (stmt_to m)) (try_ r p) (try_ r2 p2)
unfolding try_
try__moves r_ p_ = given_moves (stmt_at_moves p_ (same 0))
    (λ block block2 block_. handled_moves r_ block_ (group_moves p_ (same 1)))

pub with__moves : {m : Move} {r r2 : Range} → By (range_to m) r r2 → {p p2 : Value} → Moves m p p2
    → Opt (By (stmt_to m)) (with_ r p) (with_ r2 p2)
unfolding with_
with__moves {m = m} r_ p_ =
    given_moves (expr_at_moves p_ (same 0))
    (λ obj obj2 obj_. given_moves (stmt_at_moves p_ (same 1))
    (λ body body2 body_. some (stmt_With m obj_ body_ r_)))
