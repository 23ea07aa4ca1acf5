-- What expressions become moves with their parts.
use Rattle.std.specs.Prelude.{ℕ, ◌+◌, Bool, true, false, List, Option}
use Rattle.base.specs.declared.range.Range.{Range}
use Rattle.es_token.specs.declared.token.Token.{Token}
use Rattle.es_token.specs.declared.token.TokenKind.{TokenKind}
use Rattle.es_token.specs.declared.token.TokenKind.TheVariants as k
use Rattle.grammar_theory.specs.Key.{same_kind}
use Rattle.es_ast.specs.declared.ts.leaf.Ident.{Ident}
use Rattle.es_ast.specs.declared.leaf.ImportPhase.{ImportPhase}
use Rattle.es_ast.specs.declared.leaf.AssignOp.TheVariants as vAssign
use Rattle.es_ast.specs.declared.leaf.BinaryOp.TheVariants as vBinary
use Rattle.es_ast.specs.declared.ast.Expr.{Expr}
use Rattle.es_lowering.specs.Value.{Value}
use Rattle.es_lowering.specs.Expressions.{name, word_of, word, number, str, regexp, template, template_parts, array_literal, object_literal, parenthesized, spread, argument_of, argument, arguments, from_byte, member_of, index_of, call_of, tagged_of, member_post, index_post, call_post, template_post, optional_inner, optional_of, optional_post, chain, import_call, new_of, new_, prefix, await_, update_prefix, update_postfix, binary, private_in, conditional, assignment, pattern_assignment, yield_of, yield_, sequence}
use Rattle.std.proofs.Common.{◌≡◌, ap, sym, subst}
use Rattle.es_law_edits.proofs.moved.Expressions.{expr_Array, expr_Assign, expr_Await, expr_Bin, expr_Call, expr_Cond, expr_Hole, expr_Ident, expr_ImportCall, expr_Index, expr_Lit, expr_Member, expr_New, expr_Object, expr_Paren, expr_PrivateName, expr_Seq, expr_Spread, expr_TaggedTpl, expr_This, expr_Tpl, expr_Unary, expr_Update, expr_Yield}
use Rattle.es_law_edits.proofs.moved.Leaves.{range_made}
use Rattle.es_law_edits.proofs.moved.ModuleLeaves.{lit_Bool, lit_Null, lit_Regex, lit_Str}
use Rattle.es_law_edits.proofs.moved.Patterns.{pat_Expr}
use Rattle.es_law_edits.proofs.moved.Rel.{Both, By, Each, Fun, Opt, Same, end, next, none, some}
use Rattle.es_law_edits.specs.moved.Leaves.{ident_to}
use Rattle.es_law_edits.specs.moved.Move.{Move, range_to}
use Rattle.es_law_edits.specs.moved.Trees.{expr_to}
use Rattle.es_law_edits.proofs.moved_lowering.Frame.{Moves, Texts, append_moves, as_group_moves, behind_moves, first_of_moves, given_moves, gone, if_moves, is_there_moves, leaf, listed_moves, made, map_moves, option_list_moves, optional_moves, over, pair, part_moves, same, turns_moves, typed_moves}
use Rattle.es_law_edits.proofs.moved_lowering.Leaves.{chained_moves, elements_moves, end_moves, regex_of_moves, span_of_moves, start_moves, token_of_moves}
use Rattle.es_law_edits.proofs.moved_lowering.Operators.{assign_between_moves, binary_between_moves}
use Rattle.es_law_edits.proofs.moved_lowering.Texts.{ident_at_moves, kind_at_moves, numeric_at_moves, piece_there_moves, private_at_moves, property_at_moves, property_of_moves, str_at_moves, token_at_moves}
use Rattle.es_law_edits.proofs.moved_lowering.Value.{args_at_moves, expr_at_moves, group_moves, pat_at_moves, post_at_moves, prop_at_moves}

pub name_moves : {m : Move} {x y : List ℕ} {ts us : List Token} → Texts m x y ts us → {p p2 : Value} → Moves m p p2
    → Opt (By (expr_to m)) (name x ts p) (name y us p2)
unfolding name
name_moves {m = m} told p_ = map_moves _ _ (ident_at_moves told p_ (same 0)) (λ a a2 a_. expr_Ident m a_)

pub word_of_moves : (m : Move) {r r2 : Range} → By (range_to m) r r2 → {kind kind2 : TokenKind} → kind2 ≡ kind
    → Opt (By (expr_to m)) (word_of r kind) (word_of r2 kind2)
unfolding word_of
word_of_moves m r_ kind_ =
    if_moves (ap (λ kind. same_kind kind k.ThisWord) kind_) (some (expr_This m r_))
    (if_moves (ap (λ kind. same_kind kind k.NullWord) kind_) (some (expr_Lit m (lit_Null m r_)))
    (if_moves (ap (λ kind. same_kind kind k.TrueWord) kind_) (some (expr_Lit m (lit_Bool m (same true) r_)))
    (if_moves (ap (λ kind. same_kind kind k.FalseWord) kind_)
    (some (expr_Lit m (lit_Bool m (same false) r_))) none)))

pub word_moves : {m : Move} {x y : List ℕ} {ts us : List Token} → Texts m x y ts us → {r r2 : Range}
    → By (range_to m) r r2 → {p p2 : Value} → Moves m p p2 → Opt (By (expr_to m)) (word ts r p) (word us r2 p2)
unfolding word
word_moves {m = m} told r_ p_ = given_moves (kind_at_moves told p_ (same 0)) (λ a a2 a_. word_of_moves m r_ a_)

pub number_moves : {m : Move} {x y : List ℕ} {ts us : List Token} → Texts m x y ts us → {p p2 : Value} → Moves m p p2
    → Opt (By (expr_to m)) (number x ts p) (number y us p2)
unfolding number
number_moves {m = m} told p_ = map_moves _ _ (numeric_at_moves told p_ (same 0)) (λ a a2 a_. expr_Lit m a_)

pub str_moves : {m : Move} {x y : List ℕ} {ts us : List Token} → Texts m x y ts us → {p p2 : Value} → Moves m p p2
    → Opt (By (expr_to m)) (str x ts p) (str y us p2)
unfolding str
str_moves {m = m} told p_ = map_moves _ _ (str_at_moves told p_ (same 0)) (λ s s2 s_. expr_Lit m (lit_Str m s_))

pub regexp_moves : {m : Move} {x y : List ℕ} {ts us : List Token} → Texts m x y ts us → {p p2 : Value} → Moves m p p2
    → Opt (By (expr_to m)) (regexp x ts p) (regexp y us p2)
unfolding regexp
regexp_moves {m = m} told p_ =
    map_moves _ _ (token_at_moves told p_ (same 0)) (λ t t2 t_. expr_Lit m (lit_Regex m (regex_of_moves told t_)))

pub template_moves : {m : Move} {x y : List ℕ} {ts us : List Token} → Texts m x y ts us → {r r2 : Range}
    → By (range_to m) r r2 → {p p2 : Value} → Moves m p p2
    → Opt (By (expr_to m)) (template x ts r p) (template y us r2 p2)
unfolding template
template_moves {m = m} told r_ p_ =
    map_moves _ _ (piece_there_moves told p_ (same 0)) (λ piece piece2 piece_. expr_Tpl m (next piece_ end) end r_)

pub template_parts_moves : {m : Move} {x y : List ℕ} {ts us : List Token} → Texts m x y ts us → {r r2 : Range}
    → By (range_to m) r r2 → {p p2 : Value} → Moves m p p2
    → Opt (By (expr_to m)) (template_parts x ts r p) (template_parts y us r2 p2)
unfolding template_parts
template_parts_moves {m = m} told r_ p_ =
    given_moves (piece_there_moves told p_ (same 0))
    (λ head head2 head_. given_moves (expr_at_moves p_ (same 1))
    (λ first first2 first_. given_moves
    (turns_moves (λ turn turn2 turn_. piece_there_moves told turn_ (same 0)) (group_moves p_ (same 2)))
    (λ middles middles2 middles_. given_moves
    (turns_moves (λ turn turn2 turn_. expr_at_moves turn_ (same 1)) (group_moves p_ (same 2)))
    (λ others others2 others_. given_moves (piece_there_moves told p_ (same 3))
    (λ tail tail2 tail_. some
    (expr_Tpl m (next head_ (append_moves middles_ (next tail_ end)))
    (next first_ others_) r_))))))

pub array_literal_moves : {m : Move} {x y : List ℕ} {ts us : List Token} → Texts m x y ts us → {from from2 : ℕ}
    → from2 ≡ from → {r r2 : Range} → By (range_to m) r r2 → {p p2 : Value} → Moves m p p2
    → Opt (By (expr_to m)) (array_literal ts from r p) (array_literal us from2 r2 p2)
unfolding array_literal
array_literal_moves {m = m} told from_ r_ p_ =
    map_moves _ _ (elements_moves told _ _ (λ a a2 a_. expr_Hole m a_) (λ a a2 a_ b b2 b_. expr_at_moves a_ b_)
    (group_moves p_ (same 0)) (ap (λ n. n + 1) from_)) (λ elems elems2 elems_. expr_Array m elems_ r_)

pub object_literal_moves : {m : Move} {r r2 : Range} → By (range_to m) r r2 → {p p2 : Value} → Moves m p p2
    → Opt (By (expr_to m)) (object_literal r p) (object_literal r2 p2)
unfolding object_literal
object_literal_moves {m = m} r_ p_ =
    map_moves _ _ (turns_moves (λ turn turn2 turn_. prop_at_moves turn_ (same 0)) (group_moves p_ (same 0)))
    (λ props props2 props_. expr_Object m props_ r_)

pub parenthesized_moves : {m : Move} {r r2 : Range} → By (range_to m) r r2 → {p p2 : Value} → Moves m p p2
    → Opt (By (expr_to m)) (parenthesized r p) (parenthesized r2 p2)
unfolding parenthesized
parenthesized_moves {m = m} r_ p_ = map_moves _ _ (expr_at_moves p_ (same 0)) (λ e e2 e_. expr_Paren m e_ r_)

pub spread_moves : {m : Move} {r r2 : Range} → By (range_to m) r r2 → {p p2 : Value} → Moves m p p2
    → Opt (By (expr_to m)) (spread r p) (spread r2 p2)
unfolding spread
spread_moves {m = m} r_ p_ = map_moves _ _ (expr_at_moves p_ (same 0)) (λ e e2 e_. expr_Spread m e_ r_)

pub argument_of_moves : (m : Move) {b b2 : Bool} → b2 ≡ b → {r r2 : Range} → By (range_to m) r r2 → {e e2 : Expr}
    → By (expr_to m) e e2 → By (expr_to m) (argument_of b r e) (argument_of b2 r2 e2)
argument_of_moves m {b} {b2} b_ {r} {r2} r_ {e} {e2} e_ =
    subst (λ (c : Bool). By (expr_to m) (argument_of b r e) (argument_of c r2 e2)) (sym b_) (by_case b)
  where
    by_case : (b : Bool) → By (expr_to m) (argument_of b r e) (argument_of b r2 e2)
    by_case true = expr_Spread m e_ r_
    by_case false = e_

pub argument_moves : {m : Move} {x y : List ℕ} {ts us : List Token} → Texts m x y ts us → {turn turn2 : Value}
    → Moves m turn turn2 → Opt (By (expr_to m)) (argument ts turn) (argument us turn2)
argument_moves {m = m} told turn_ =
    map_moves _ _ (expr_at_moves turn_ (same 1))
    (λ a a2 a_. argument_of_moves m (is_there_moves (group_moves turn_ (same 0)))
    (span_of_moves told (first_of_moves (part_moves (group_moves turn_ (same 0)) (same 0)))
    (behind_moves (part_moves turn_ (same 1)))) a_)

pub arguments_moves : {m : Move} {x y : List ℕ} {ts us : List Token} → Texts m x y ts us → {p p2 : Value}
    → Moves m p p2 → Opt (Each (By (expr_to m))) (arguments ts p) (arguments us p2)
unfolding arguments
arguments_moves told p_ = turns_moves (λ a a2 a_. argument_moves told a_) (group_moves p_ (same 0))

pub from_byte_moves : (m : Move) {start start2 : ℕ} → By m.place start start2 → {r r2 : Range} → By (range_to m) r r2
    → By (range_to m) (from_byte start r) (from_byte start2 r2)
from_byte_moves m start_ r_ = range_made m start_.is (end_moves m r_).is

pub member_of_moves : (m : Move) {is_optional is_optional2 : Bool} → is_optional2 ≡ is_optional → {r r2 : Range}
    → By (range_to m) r r2 → {it it2 : Bool × Ident} → Both Same (By (ident_to m)) it it2 → {start start2 : ℕ}
    → By m.place start start2 → {obj obj2 : Expr} → By (expr_to m) obj obj2
    → By (expr_to m) (member_of is_optional r it start obj) (member_of is_optional2 r2 it2 start2 obj2)
member_of_moves m is_optional_ r_ it_ start_ obj_ =
    expr_Member m obj_ is_optional_ it_.0 it_.1 (from_byte_moves m start_ r_)

pub index_of_moves : (m : Move) {is_optional is_optional2 : Bool} → is_optional2 ≡ is_optional → {r r2 : Range}
    → By (range_to m) r r2 → {e e2 : Expr} → By (expr_to m) e e2 → {start start2 : ℕ} → By m.place start start2
    → {obj obj2 : Expr} → By (expr_to m) obj obj2
    → By (expr_to m) (index_of is_optional r e start obj) (index_of is_optional2 r2 e2 start2 obj2)
index_of_moves m is_optional_ r_ e_ start_ obj_ = expr_Index m obj_ is_optional_ e_ (from_byte_moves m start_ r_)

pub call_of_moves : (m : Move) {is_optional is_optional2 : Bool} → is_optional2 ≡ is_optional → {r r2 : Range}
    → By (range_to m) r r2 → {args args2 : List Expr} → Each (By (expr_to m)) args args2 → {start start2 : ℕ}
    → By m.place start start2 → {obj obj2 : Expr} → By (expr_to m) obj obj2
    → By (expr_to m) (call_of is_optional r args start obj) (call_of is_optional2 r2 args2 start2 obj2)
call_of_moves m is_optional_ r_ args_ start_ obj_ =
    expr_Call m obj_ is_optional_ none args_ (from_byte_moves m start_ r_)

pub tagged_of_moves : (m : Move) {r r2 : Range} → By (range_to m) r r2 → {tpl tpl2 : Expr} → By (expr_to m) tpl tpl2
    → {start start2 : ℕ} → By m.place start start2 → {obj obj2 : Expr} → By (expr_to m) obj obj2
    → By (expr_to m) (tagged_of r tpl start obj) (tagged_of r2 tpl2 start2 obj2)
tagged_of_moves m r_ tpl_ start_ obj_ = expr_TaggedTpl m obj_ none tpl_ (from_byte_moves m start_ r_)

pub member_post_moves : {m : Move} {x y : List ℕ} {ts us : List Token} → Texts m x y ts us → {r r2 : Range}
    → By (range_to m) r r2 → {p p2 : Value} → Moves m p p2
    → Opt (Fun (By m.place) (Fun (By (expr_to m)) (By (expr_to m)))) (member_post x ts r p) (member_post y us r2 p2)
unfolding member_post
member_post_moves {m = m} told r_ p_ =
    map_moves _ _ (property_at_moves told p_ (same 0))
    (λ a a2 a_ b b2 b_ c c2 c_. member_of_moves m (same false) r_ a_ b_ c_)

pub index_post_moves : {m : Move} {r r2 : Range} → By (range_to m) r r2 → {p p2 : Value} → Moves m p p2
    → Opt (Fun (By m.place) (Fun (By (expr_to m)) (By (expr_to m)))) (index_post r p) (index_post r2 p2)
unfolding index_post
index_post_moves {m = m} r_ p_ =
    map_moves _ _ (expr_at_moves p_ (same 0)) (λ a a2 a_ b b2 b_ c c2 c_. index_of_moves m (same false) r_ a_ b_ c_)

pub call_post_moves : {m : Move} {r r2 : Range} → By (range_to m) r r2 → {p p2 : Value} → Moves m p p2
    → Opt (Fun (By m.place) (Fun (By (expr_to m)) (By (expr_to m)))) (call_post r p) (call_post r2 p2)
unfolding call_post
call_post_moves {m = m} r_ p_ =
    map_moves _ _ (args_at_moves p_ (same 0)) (λ a a2 a_ b b2 b_ c c2 c_. call_of_moves m (same false) r_ a_ b_ c_)

pub template_post_moves : {m : Move} {r r2 : Range} → By (range_to m) r r2 → {p p2 : Value} → Moves m p p2
    → Opt (Fun (By m.place) (Fun (By (expr_to m)) (By (expr_to m)))) (template_post r p) (template_post r2 p2)
unfolding template_post
template_post_moves {m = m} r_ p_ =
    map_moves _ _ (expr_at_moves p_ (same 0)) (λ a a2 a_ b b2 b_ c c2 c_. tagged_of_moves m r_ a_ b_ c_)

pub optional_inner_moves : {m : Move} {x y : List ℕ} {ts us : List Token} → Texts m x y ts us → {r r2 : Range}
    → By (range_to m) r r2 → {v v2 : Value} → Moves m v v2
    → Opt (Fun (By m.place) (Fun (By (expr_to m)) (By (expr_to m)))) (optional_inner x ts r v)
    (optional_inner y us r2 v2)
optional_inner_moves {m = m} told r_ (leaf n) =
    map_moves _ _ (given_moves (token_of_moves told (leaf n)) (λ a a2 a_. property_of_moves told a_))
    (λ a a2 a_ b b2 b_ c c2 c_. member_of_moves m (same true) r_ a_ b_ c_)
optional_inner_moves {m = m} told r_ gone =
    map_moves _ _ (given_moves (typed_moves {m = m} gone) (λ it it2 it_. it_.args))
    (λ a a2 a_ b b2 b_ c c2 c_. call_of_moves m (same true) r_ a_ b_ c_)
optional_inner_moves {m = m} told r_ over =
    map_moves _ _ (given_moves (typed_moves {m = m} over) (λ it it2 it_. it_.args))
    (λ a a2 a_ b b2 b_ c c2 c_. call_of_moves m (same true) r_ a_ b_ c_)
optional_inner_moves {m = m} told r_ (pair a b) =
    map_moves _ _ (given_moves (typed_moves (pair a b)) (λ it it2 it_. it_.args))
    (λ a a2 a_ b b2 b_ c c2 c_. call_of_moves m (same true) r_ a_ b_ c_)
optional_inner_moves {m = m} told r_ (made a b c) =
    map_moves _ _ (given_moves (typed_moves (made a b c)) (λ it it2 it_. it_.args))
    (λ a a2 a_ b b2 b_ c c2 c_. call_of_moves m (same true) r_ a_ b_ c_)

pub optional_of_moves : {m : Move} {x y : List ℕ} {ts us : List Token} → Texts m x y ts us → {r r2 : Range}
    → By (range_to m) r r2 → {v v2 : Value} → Moves m v v2
    → Opt (Fun (By m.place) (Fun (By (expr_to m)) (By (expr_to m)))) (optional_of x ts r v) (optional_of y us r2 v2)
optional_of_moves {m = m} told r_ (made from to it_) =
    map_moves _ _ it_.expr (λ a a2 a_ b b2 b_ c c2 c_. index_of_moves m (same true) r_ a_ b_ c_)
optional_of_moves {m = m} told r_ gone =
    optional_inner_moves told r_ (part_moves (as_group_moves {m = m} gone) (same 0))
optional_of_moves {m = m} told r_ over =
    optional_inner_moves told r_ (part_moves (as_group_moves {m = m} over) (same 0))
optional_of_moves told r_ (pair a b) = optional_inner_moves told r_ (part_moves (as_group_moves (pair a b)) (same 0))
optional_of_moves {m = m} told r_ (leaf a) =
    optional_inner_moves told r_ (part_moves (as_group_moves {m = m} (leaf a)) (same 0))

pub optional_post_moves : {m : Move} {x y : List ℕ} {ts us : List Token} → Texts m x y ts us → {r r2 : Range}
    → By (range_to m) r r2 → {p p2 : Value} → Moves m p p2
    → Opt (Fun (By m.place) (Fun (By (expr_to m)) (By (expr_to m)))) (optional_post x ts r p)
    (optional_post y us r2 p2)
unfolding optional_post
optional_post_moves told r_ p_ = optional_of_moves told r_ (part_moves (group_moves p_ (same 0)) (same 0))

pub chain_moves : {m : Move} {r r2 : Range} → By (range_to m) r r2 → {p p2 : Value} → Moves m p p2
    → Opt (By (expr_to m)) (chain r p) (chain r2 p2)
unfolding chain
chain_moves {m = m} r_ p_ =
    given_moves (expr_at_moves p_ (same 0))
    (λ base base2 base_. given_moves (post_at_moves p_ (same 1))
    (λ first first2 first_. given_moves
    (turns_moves (λ turn turn2 turn_. post_at_moves turn_ (same 0)) (group_moves p_ (same 2)))
    (λ others others2 others_. some (chained_moves m (start_moves m r_) base_ (next first_ others_)))))

pub import_call_moves : {m : Move} {phase phase2 : ImportPhase} → phase2 ≡ phase → {r r2 : Range}
    → By (range_to m) r r2 → {p p2 : Value} → Moves m p p2
    → Opt (By (expr_to m)) (import_call phase r p) (import_call phase2 r2 p2)
unfolding import_call
import_call_moves {m = m} phase_ r_ p_ =
    given_moves (expr_at_moves p_ (same 0))
    (λ first first2 first_. given_moves
    (optional_moves (λ a a2 a_ b b2 b_. expr_at_moves a_ b_) (group_moves p_ (same 1)))
    (λ second second2 second_. some
    (expr_ImportCall m phase_ (next first_ (option_list_moves second_)) r_)))

pub new_of_moves : (m : Move) {r r2 : Range} → By (range_to m) r r2 → {callee callee2 : Expr}
    → By (expr_to m) callee callee2 → {c c2 : Option (List Expr)} → Opt (Each (By (expr_to m))) c c2
    → By (expr_to m) (new_of r callee c) (new_of r2 callee2 c2)
new_of_moves m r_ callee_ (some args_) = expr_New m callee_ none (same true) args_ r_
new_of_moves m r_ callee_ none = expr_New m callee_ none (same false) end r_

pub new__moves : {m : Move} {r r2 : Range} → By (range_to m) r r2 → {p p2 : Value} → Moves m p p2
    → Opt (By (expr_to m)) (new_ r p) (new_ r2 p2)
unfolding new_
new__moves {m = m} r_ p_ =
    given_moves (expr_at_moves p_ (same 0))
    (λ callee callee2 callee_. given_moves
    (optional_moves (λ a a2 a_ b b2 b_. args_at_moves a_ b_) (group_moves p_ (same 1)))
    (λ args args2 args_. some (new_of_moves m r_ callee_ args_)))

pub prefix_moves : {m : Move} {x y : List ℕ} {ts us : List Token} → Texts m x y ts us → {r r2 : Range}
    → By (range_to m) r r2 → {p p2 : Value} → Moves m p p2 → Opt (By (expr_to m)) (prefix ts r p) (prefix us r2 p2)
unfolding prefix
prefix_moves {m = m} told r_ p_ =
    given_moves (given_moves (kind_at_moves told p_ (same 0)) (λ a a2 a_. listed_moves _ a_))
    (λ op op2 op_. given_moves (expr_at_moves p_ (same 1)) (λ arg arg2 arg_. some (expr_Unary m op_ arg_ r_)))

pub await__moves : {m : Move} {r r2 : Range} → By (range_to m) r r2 → {p p2 : Value} → Moves m p p2
    → Opt (By (expr_to m)) (await_ r p) (await_ r2 p2)
unfolding await_
await__moves {m = m} r_ p_ = map_moves _ _ (expr_at_moves p_ (same 0)) (λ arg arg2 arg_. expr_Await m arg_ r_)

pub update_prefix_moves : {m : Move} {x y : List ℕ} {ts us : List Token} → Texts m x y ts us → {r r2 : Range}
    → By (range_to m) r r2 → {p p2 : Value} → Moves m p p2
    → Opt (By (expr_to m)) (update_prefix ts r p) (update_prefix us r2 p2)
unfolding update_prefix
update_prefix_moves {m = m} told r_ p_ =
    given_moves (given_moves (kind_at_moves told p_ (same 0)) (λ a a2 a_. listed_moves _ a_))
    (λ op op2 op_. given_moves (expr_at_moves p_ (same 1))
    (λ arg arg2 arg_. some (expr_Update m op_ (same true) arg_ r_)))

pub update_postfix_moves : {m : Move} {x y : List ℕ} {ts us : List Token} → Texts m x y ts us → {r r2 : Range}
    → By (range_to m) r r2 → {p p2 : Value} → Moves m p p2
    → Opt (By (expr_to m)) (update_postfix ts r p) (update_postfix us r2 p2)
unfolding update_postfix
update_postfix_moves {m = m} told r_ p_ =
    given_moves (expr_at_moves p_ (same 0))
    (λ arg arg2 arg_. given_moves (given_moves (kind_at_moves told p_ (same 1)) (λ a a2 a_. listed_moves _ a_))
    (λ op op2 op_. some (expr_Update m op_ (same false) arg_ r_)))

pub binary_moves : {m : Move} {x y : List ℕ} {ts us : List Token} → Texts m x y ts us → {r r2 : Range}
    → By (range_to m) r r2 → {p p2 : Value} → Moves m p p2 → Opt (By (expr_to m)) (binary ts r p) (binary us r2 p2)
unfolding binary
binary_moves {m = m} told r_ p_ =
    given_moves (expr_at_moves p_ (same 0))
    (λ left left2 left_. given_moves
    (binary_between_moves told (behind_moves (part_moves p_ (same 0)))
    (first_of_moves (part_moves p_ (same 2))))
    (λ op op2 op_. given_moves (expr_at_moves p_ (same 2))
    (λ right right2 right_. some (expr_Bin m op_ left_ right_ r_))))

pub private_in_moves : {m : Move} {x y : List ℕ} {ts us : List Token} → Texts m x y ts us → {r r2 : Range}
    → By (range_to m) r r2 → {p p2 : Value} → Moves m p p2
    → Opt (By (expr_to m)) (private_in x ts r p) (private_in y us r2 p2)
unfolding private_in
private_in_moves {m = m} told r_ p_ =
    given_moves (private_at_moves told p_ (same 0))
    (λ name name2 name_. given_moves (expr_at_moves p_ (same 1))
    (λ right right2 right_. some (expr_Bin m (same vBinary.In) (expr_PrivateName m name_) right_ r_)))

pub conditional_moves : {m : Move} {r r2 : Range} → By (range_to m) r r2 → {p p2 : Value} → Moves m p p2
    → Opt (By (expr_to m)) (conditional r p) (conditional r2 p2)
unfolding conditional
conditional_moves {m = m} r_ p_ =
    given_moves (expr_at_moves p_ (same 0))
    (λ test test2 test_. given_moves (expr_at_moves p_ (same 1))
    (λ yes yes2 yes_. given_moves (expr_at_moves p_ (same 2))
    (λ no no2 no_. some (expr_Cond m test_ yes_ no_ r_))))

pub assignment_moves : {m : Move} {x y : List ℕ} {ts us : List Token} → Texts m x y ts us → {r r2 : Range}
    → By (range_to m) r r2 → {p p2 : Value} → Moves m p p2
    → Opt (By (expr_to m)) (assignment ts r p) (assignment us r2 p2)
unfolding assignment
assignment_moves {m = m} told r_ p_ =
    given_moves (expr_at_moves p_ (same 0))
    (λ left left2 left_. given_moves
    (assign_between_moves told (behind_moves (part_moves p_ (same 0)))
    (first_of_moves (part_moves p_ (same 2))))
    (λ op op2 op_. given_moves (expr_at_moves p_ (same 2))
    (λ right right2 right_. some (expr_Assign m op_ (pat_Expr m left_) right_ r_))))

pub pattern_assignment_moves : {m : Move} {r r2 : Range} → By (range_to m) r r2 → {p p2 : Value} → Moves m p p2
    → Opt (By (expr_to m)) (pattern_assignment r p) (pattern_assignment r2 p2)
unfolding pattern_assignment
pattern_assignment_moves {m = m} r_ p_ =
    given_moves (pat_at_moves p_ (same 0))
    (λ left left2 left_. given_moves (expr_at_moves p_ (same 1))
    (λ right right2 right_. some (expr_Assign m (same vAssign.Assign) left_ right_ r_)))

pub yield_of_moves : {m : Move} {r r2 : Range} → By (range_to m) r r2 → {b b2 : Value} → Moves m b b2
    → Opt (By (expr_to m)) (yield_of r b) (yield_of r2 b2)
yield_of_moves {m = m} r_ (pair v_ vs_) =
    map_moves _ _ (expr_at_moves (pair v_ vs_) (same 1))
    (λ arg arg2 arg_. expr_Yield m (is_there_moves (group_moves (pair v_ vs_) (same 0))) (some arg_) r_)
yield_of_moves {m = m} r_ gone = some (expr_Yield m (same false) none r_)
yield_of_moves {m = m} r_ over = some (expr_Yield m (same false) none r_)
yield_of_moves {m = m} r_ (leaf a) = some (expr_Yield m (same false) none r_)
yield_of_moves {m = m} r_ (made a b c) = some (expr_Yield m (same false) none r_)

pub yield__moves : {m : Move} {r r2 : Range} → By (range_to m) r r2 → {p p2 : Value} → Moves m p p2
    → Opt (By (expr_to m)) (yield_ r p) (yield_ r2 p2)
unfolding yield_
yield__moves r_ p_ = yield_of_moves r_ (group_moves p_ (same 0))

pub sequence_moves : {m : Move} {r r2 : Range} → By (range_to m) r r2 → {p p2 : Value} → Moves m p p2
    → Opt (By (expr_to m)) (sequence r p) (sequence r2 p2)
unfolding sequence
sequence_moves {m = m} r_ p_ =
    given_moves (expr_at_moves p_ (same 0))
    (λ first first2 first_. given_moves (expr_at_moves p_ (same 1))
    (λ second second2 second_. given_moves
    (turns_moves (λ turn turn2 turn_. expr_at_moves turn_ (same 0)) (group_moves p_ (same 2)))
    (λ others others2 others_. some (expr_Seq m (next first_ (next second_ others_)) r_))))
