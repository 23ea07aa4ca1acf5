-- What functions, parameters, keys and properties become moves with their parts.
use Rattle.std.specs.Prelude.{ℕ, ◌+◌, ◌-◌, Bool, true, false, List, Option}
use Rattle.base.specs.declared.range.Range.{Range}
use Rattle.es_token.specs.declared.token.Token.{Token}
use Rattle.es_ast.specs.declared.ts.leaf.Ident.{Ident}
use Rattle.es_ast.specs.declared.ts.leaf.MethodKind.{MethodKind}
use Rattle.es_ast.specs.declared.ast.Expr.{Expr}
use Rattle.es_ast.specs.declared.ast.Stmt.{Stmt}
use Rattle.es_ast.specs.declared.ast.Pat.{Pat}
use Rattle.es_ast.specs.declared.ast.Param.{Param}
use Rattle.es_lowering.specs.Value.{Value}
use Rattle.es_lowering.specs.Functions.{plain, param_of, default_parameter, rest_of, rest_at, parameters, signature, function_of, function, method_at, block_or, body_of, arrow_of, name_param, name_arrow, parenthesized_arrow, word_key, str_key, number_key, computed_key, private_key, spread_property, shorthand, key_value, method_property, accessor_property}
use Rattle.std.proofs.Common.{◌≡◌, ap}
use Rattle.es_law_edits.proofs.moved.Expressions.{expr_Arrow, expr_Ident, expr_Lit, expr_PrivateName, prop_KeyValue, prop_Method, prop_Shorthand, prop_Spread}
use Rattle.es_law_edits.proofs.moved.Functions.{function_made}
use Rattle.es_law_edits.proofs.moved.ModuleLeaves.{lit_Str}
use Rattle.es_law_edits.proofs.moved.Patterns.{param_made, pat_Assign, pat_Ident, pat_Rest}
use Rattle.es_law_edits.proofs.moved.Rel.{Both, By, Each, Opt, Same, end, next, none, some}
use Rattle.es_law_edits.proofs.moved.Statements.{stmt_Block, stmt_Expr}
use Rattle.es_law_edits.specs.moved.Leaves.{ident_to}
use Rattle.es_law_edits.specs.moved.Move.{Move, range_to}
use Rattle.es_law_edits.specs.moved.Trees.{expr_to, function_to, param_to, pat_to, prop_to, stmt_to}
use Rattle.es_law_edits.proofs.moved_lowering.Frame.{Moves, Texts, TokenMoves, append_moves, behind_moves, first_of_moves, given_moves, gone, is_there_moves, leaf, listed_moves, made, map_moves, option_list_moves, optional_moves, over, pair, part_moves, place_moves, same, turns_moves}
use Rattle.es_law_edits.proofs.moved_lowering.Leaves.{ident_of_moves, span_of_moves}
use Rattle.es_law_edits.proofs.moved_lowering.Texts.{ident_at_moves, kind_at_moves, numeric_at_moves, own_name_at_moves, private_at_moves, str_at_moves, token_at_moves}
use Rattle.es_law_edits.proofs.moved_lowering.Value.{expr_at_moves, group_moves, key_at_moves, param_at_moves, params_at_moves, pat_at_moves, stmt_at_moves}

pub param_of_moves : (m : Move) {r r2 : Range} → By (range_to m) r r2 → {pat pat2 : Pat} → By (pat_to m) pat pat2
    → By (param_to m) (param_of r pat) (param_of r2 pat2)
param_of_moves m r_ pat_ = param_made m (same plain) pat_ r_

pub default_parameter_moves : {m : Move} {r r2 : Range} → By (range_to m) r r2 → {p p2 : Value} → Moves m p p2
    → Opt (By (param_to m)) (default_parameter r p) (default_parameter r2 p2)
unfolding default_parameter
default_parameter_moves {m = m} r_ p_ =
    given_moves (pat_at_moves p_ (same 0))
    (λ left left2 left_. given_moves (expr_at_moves p_ (same 1))
    (λ right right2 right_. some (param_of_moves m r_ (pat_Assign m left_ right_ r_))))

pub rest_of_moves : (m : Move) {r r2 : Range} → By (range_to m) r r2 → {pat pat2 : Pat} → By (pat_to m) pat pat2
    → By (param_to m) (rest_of r pat) (rest_of r2 pat2)
rest_of_moves m r_ pat_ = param_of_moves m r_ (pat_Rest m pat_ none r_)

pub rest_at_moves : {m : Move} {x y : List ℕ} {ts us : List Token} → Texts m x y ts us → {p p2 : Value} → Moves m p p2
    → {n n2 : ℕ} → n2 ≡ n → Opt (By (param_to m)) (rest_at ts p n) (rest_at us p2 n2)
rest_at_moves {m = m} told p_ n_ =
    map_moves _ _ (pat_at_moves p_ n_)
    (λ a a2 a_. rest_of_moves m
    (span_of_moves told (ap (λ n. n - 1) (first_of_moves (part_moves p_ n_)))
    (behind_moves (part_moves p_ n_))) a_)

pub parameters_moves : {m : Move} {x y : List ℕ} {ts us : List Token} → Texts m x y ts us → {p p2 : Value}
    → Moves m p p2 → Opt (Each (By (param_to m))) (parameters ts p) (parameters us p2)
unfolding parameters
parameters_moves told p_ =
    given_moves (turns_moves (λ turn turn2 turn_. param_at_moves turn_ (same 0)) (group_moves p_ (same 0)))
    (λ all all2 all_. given_moves
    (optional_moves (λ a a2 a_ b b2 b_. rest_at_moves told a_ b_) (group_moves p_ (same 1)))
    (λ rest rest2 rest_. some (append_moves all_ (option_list_moves rest_))))

pub signature_moves : {m : Move} {p p2 : Value} → Moves m p p2
    → Opt (Each (By (param_to m))) (signature p) (signature p2)
unfolding signature
signature_moves p_ = params_at_moves p_ (same 0)

pub function_of_moves : (m : Move) {is_async is_async2 : Bool} → is_async2 ≡ is_async
    → {is_generator is_generator2 : Bool} → is_generator2 ≡ is_generator → {r r2 : Range} → By (range_to m) r r2
    → {name name2 : Option Ident} → Opt (By (ident_to m)) name name2 → {params params2 : List Param}
    → Each (By (param_to m)) params params2 → {body body2 : Stmt} → By (stmt_to m) body body2
    → By (function_to m) (function_of is_async is_generator r name params body)
    (function_of is_async2 is_generator2 r2 name2 params2 body2)
function_of_moves m is_async_ is_generator_ r_ name_ params_ body_ =
    function_made m name_ is_async_ is_generator_ none params_ none (some body_) r_

pub function_moves : {m : Move} {x y : List ℕ} {ts us : List Token} → Texts m x y ts us → {is_async is_async2 : Bool}
    → is_async2 ≡ is_async → {r r2 : Range} → By (range_to m) r r2 → {p p2 : Value} → Moves m p p2
    → Opt (By (function_to m)) (function x ts is_async r p) (function y us is_async2 r2 p2)
unfolding function
function_moves {m = m} told is_async_ r_ p_ =
    given_moves (own_name_at_moves told p_ (same 1))
    (λ name name2 name_. given_moves (params_at_moves p_ (same 2))
    (λ params params2 params_. given_moves (stmt_at_moves p_ (same 3))
    (λ body body2 body_. some
    (function_of_moves m is_async_ (is_there_moves (group_moves p_ (same 0))) r_ name_ params_ body_))))

pub method_at_moves : {m : Move} {x y : List ℕ} {ts us : List Token} → Texts m x y ts us → {is_async is_async2 : Bool}
    → is_async2 ≡ is_async → {is_generator is_generator2 : Bool} → is_generator2 ≡ is_generator → {p p2 : Value}
    → Moves m p p2 → {n n2 : ℕ} → n2 ≡ n
    → Opt (By (function_to m)) (method_at ts is_async is_generator p n)
    (method_at us is_async2 is_generator2 p2 n2)
unfolding method_at
method_at_moves {m = m} told is_async_ is_generator_ p_ n_ =
    given_moves (params_at_moves p_ n_)
    (λ params params2 params_. given_moves (stmt_at_moves p_ (ap (λ n. n + 1) n_))
    (λ body body2 body_. some
    (function_of_moves m is_async_ is_generator_
    (span_of_moves told (first_of_moves (part_moves p_ n_))
    (behind_moves (part_moves p_ (ap (λ n. n + 1) n_)))) none params_ body_)))

pub block_or_moves : (m : Move) {r r2 : Range} → By (range_to m) r r2 → {b b2 : Option (List Stmt)}
    → Opt (Each (By (stmt_to m))) b b2 → {e e2 : Option Expr} → Opt (By (expr_to m)) e e2
    → Opt (By (stmt_to m)) (block_or r b e) (block_or r2 b2 e2)
block_or_moves m r_ (some stmts_) e_ = some (stmt_Block m stmts_ r_)
block_or_moves m r_ none e_ = map_moves _ _ e_ (λ e e2 e_. stmt_Expr m e_ r_)

pub body_of_moves : {m : Move} {x y : List ℕ} {ts us : List Token} → Texts m x y ts us → {v v2 : Value} → Moves m v v2
    → Opt (By (stmt_to m)) (body_of ts v) (body_of us v2)
body_of_moves {m = m} told (made from to it_) =
    block_or_moves m (span_of_moves told (same from) (same to)) it_.block it_.expr
body_of_moves told gone = none
body_of_moves told over = none
body_of_moves told (pair a b) = none
body_of_moves told (leaf a) = none

pub arrow_of_moves : (m : Move) {is_async is_async2 : Bool} → is_async2 ≡ is_async → {r r2 : Range}
    → By (range_to m) r r2 → {params params2 : List Param} → Each (By (param_to m)) params params2
    → {body body2 : Stmt} → By (stmt_to m) body body2
    → By (expr_to m) (arrow_of is_async r params body) (arrow_of is_async2 r2 params2 body2)
arrow_of_moves m is_async_ r_ params_ body_ =
    expr_Arrow m (function_of_moves m is_async_ (same false) r_ none params_ body_)

pub name_param_moves : {m : Move} {x y : List ℕ} {ts us : List Token} → Texts m x y ts us → {t t2 : Token}
    → TokenMoves m ts t t2 → By (param_to m) (name_param x t) (name_param y t2)
name_param_moves {m = m} told t_ =
    param_of_moves m (place_moves t_) (pat_Ident m (ident_of_moves told t_) none (place_moves t_))

pub name_arrow_moves : {m : Move} {x y : List ℕ} {ts us : List Token} → Texts m x y ts us → {is_async is_async2 : Bool}
    → is_async2 ≡ is_async → {r r2 : Range} → By (range_to m) r r2 → {p p2 : Value} → Moves m p p2
    → Opt (By (expr_to m)) (name_arrow x ts is_async r p) (name_arrow y us is_async2 r2 p2)
unfolding name_arrow
name_arrow_moves {m = m} told is_async_ r_ p_ =
    given_moves (token_at_moves told p_ (same 0))
    (λ t t2 t_. given_moves (body_of_moves told (part_moves (group_moves p_ (same 1)) (same 0)))
    (λ body body2 body_. some (arrow_of_moves m is_async_ r_ (next (name_param_moves told t_) end) body_)))

pub parenthesized_arrow_moves : {m : Move} {x y : List ℕ} {ts us : List Token} → Texts m x y ts us
    → {is_async is_async2 : Bool} → is_async2 ≡ is_async → {r r2 : Range} → By (range_to m) r r2 → {p p2 : Value}
    → Moves m p p2 → Opt (By (expr_to m)) (parenthesized_arrow ts is_async r p)
    (parenthesized_arrow us is_async2 r2 p2)
unfolding parenthesized_arrow
parenthesized_arrow_moves {m = m} told is_async_ r_ p_ =
    given_moves (params_at_moves p_ (same 0))
    (λ params params2 params_. given_moves (body_of_moves told (part_moves (group_moves p_ (same 1)) (same 0)))
    (λ body body2 body_. some (arrow_of_moves m is_async_ r_ params_ body_)))

pub word_key_moves : {m : Move} {x y : List ℕ} {ts us : List Token} → Texts m x y ts us → {p p2 : Value} → Moves m p p2
    → Opt (Both Same (By (expr_to m))) (word_key x ts p) (word_key y us p2)
unfolding word_key
word_key_moves {m = m} told p_ =
    map_moves _ _ (ident_at_moves told p_ (same 0)) (λ name name2 name_. (same false, expr_Ident m name_))

pub str_key_moves : {m : Move} {x y : List ℕ} {ts us : List Token} → Texts m x y ts us → {p p2 : Value} → Moves m p p2
    → Opt (Both Same (By (expr_to m))) (str_key x ts p) (str_key y us p2)
unfolding str_key
str_key_moves {m = m} told p_ =
    map_moves _ _ (str_at_moves told p_ (same 0)) (λ s s2 s_. (same false, expr_Lit m (lit_Str m s_)))

pub number_key_moves : {m : Move} {x y : List ℕ} {ts us : List Token} → Texts m x y ts us → {p p2 : Value}
    → Moves m p p2 → Opt (Both Same (By (expr_to m))) (number_key x ts p) (number_key y us p2)
unfolding number_key
number_key_moves {m = m} told p_ =
    map_moves _ _ (numeric_at_moves told p_ (same 0)) (λ lit lit2 lit_. (same false, expr_Lit m lit_))

pub computed_key_moves : {m : Move} {p p2 : Value} → Moves m p p2
    → Opt (Both Same (By (expr_to m))) (computed_key p) (computed_key p2)
unfolding computed_key
computed_key_moves p_ = map_moves _ _ (expr_at_moves p_ (same 0)) (λ e e2 e_. (same true, e_))

pub private_key_moves : {m : Move} {x y : List ℕ} {ts us : List Token} → Texts m x y ts us → {p p2 : Value}
    → Moves m p p2 → Opt (Both Same (By (expr_to m))) (private_key x ts p) (private_key y us p2)
unfolding private_key
private_key_moves {m = m} told p_ =
    map_moves _ _ (private_at_moves told p_ (same 0)) (λ name name2 name_. (same false, expr_PrivateName m name_))

pub spread_property_moves : {m : Move} {r r2 : Range} → By (range_to m) r r2 → {p p2 : Value} → Moves m p p2
    → Opt (By (prop_to m)) (spread_property r p) (spread_property r2 p2)
unfolding spread_property
spread_property_moves {m = m} r_ p_ = map_moves _ _ (expr_at_moves p_ (same 0)) (λ e e2 e_. prop_Spread m e_ r_)

pub shorthand_moves : {m : Move} {x y : List ℕ} {ts us : List Token} → Texts m x y ts us → {p p2 : Value}
    → Moves m p p2 → Opt (By (prop_to m)) (shorthand x ts p) (shorthand y us p2)
unfolding shorthand
shorthand_moves {m = m} told p_ = map_moves _ _ (ident_at_moves told p_ (same 0)) (λ a a2 a_. prop_Shorthand m a_)

pub key_value_moves : {m : Move} {r r2 : Range} → By (range_to m) r r2 → {p p2 : Value} → Moves m p p2
    → Opt (By (prop_to m)) (key_value r p) (key_value r2 p2)
unfolding key_value
key_value_moves {m = m} r_ p_ =
    given_moves (key_at_moves p_ (same 0))
    (λ key key2 key_. given_moves (expr_at_moves p_ (same 1))
    (λ value value2 value_. some (prop_KeyValue m key_.0 key_.1 value_ r_)))

pub method_property_moves : {m : Move} {x y : List ℕ} {ts us : List Token} → Texts m x y ts us
    → {kind kind2 : MethodKind} → kind2 ≡ kind → {is_async is_async2 : Bool} → is_async2 ≡ is_async
    → {is_generator is_generator2 : Bool} → is_generator2 ≡ is_generator → {r r2 : Range} → By (range_to m) r r2
    → {p p2 : Value} → Moves m p p2 → {n n2 : ℕ} → n2 ≡ n
    → Opt (By (prop_to m)) (method_property ts kind is_async is_generator r p n)
    (method_property us kind2 is_async2 is_generator2 r2 p2 n2)
unfolding method_property
method_property_moves {m = m} told kind_ is_async_ is_generator_ r_ p_ n_ =
    given_moves (key_at_moves p_ n_)
    (λ key key2 key_. given_moves (method_at_moves told is_async_ is_generator_ p_ (ap (λ n. n + 1) n_))
    (λ function function2 function_. some (prop_Method m kind_ key_.0 key_.1 function_ r_)))

pub accessor_property_moves : {m : Move} {x y : List ℕ} {ts us : List Token} → Texts m x y ts us → {r r2 : Range}
    → By (range_to m) r r2 → {p p2 : Value} → Moves m p p2
    → Opt (By (prop_to m)) (accessor_property ts r p) (accessor_property us r2 p2)
unfolding accessor_property
accessor_property_moves told r_ p_ =
    given_moves (given_moves (kind_at_moves told p_ (same 0)) (λ a a2 a_. listed_moves _ a_))
    (λ kind kind2 kind_. method_property_moves told kind_ (same false) (same false) r_ p_ (same 1))
