-- What classes and their members become moves with their parts.
use Rattle.std.specs.Prelude.{ℕ, ◌+◌, Bool, false, List}
use Rattle.base.specs.declared.range.Range.{Range}
use Rattle.es_token.specs.declared.token.Token.{Token}
use Rattle.es_ast.specs.declared.ts.leaf.MethodKind.{MethodKind}
use Rattle.es_lowering.specs.Value.{Value}
use Rattle.es_lowering.specs.Classes.{class_, modified, static_block, method_member, accessor_member, field_member}
use Rattle.std.proofs.Common.{◌≡◌, ap}
use Rattle.es_law_edits.proofs.moved.Functions.{class_made, class_member_Method, class_member_Prop, class_member_StaticBlock}
use Rattle.es_law_edits.proofs.moved.Rel.{By, Opt, none, some}
use Rattle.es_law_edits.specs.moved.Move.{Move, range_to}
use Rattle.es_law_edits.specs.moved.Trees.{class_member_to, class_to}
use Rattle.es_law_edits.proofs.moved_lowering.Frame.{Moves, Texts, given_moves, is_there_moves, listed_moves, map_moves, optional_moves, same, turns_moves, two}
use Rattle.es_law_edits.proofs.moved_lowering.Functions.{method_at_moves}
use Rattle.es_law_edits.proofs.moved_lowering.Texts.{kind_at_moves, own_name_at_moves}
use Rattle.es_law_edits.proofs.moved_lowering.Value.{block_at_moves, expr_at_moves, group_moves, key_at_moves, member_at_moves}

pub class__moves : {m : Move} {x y : List ℕ} {ts us : List Token} → Texts m x y ts us → {r r2 : Range}
    → By (range_to m) r r2 → {p p2 : Value} → Moves m p p2 → Opt (By (class_to m)) (class_ x ts r p) (class_ y us r2 p2)
unfolding class_
class__moves {m = m} told r_ p_ =
    given_moves (own_name_at_moves told p_ (same 0))
    (λ name name2 name_. given_moves
    (optional_moves (λ a a2 a_ b b2 b_. expr_at_moves a_ b_) (group_moves p_ (same 1)))
    (λ super_class super_class2 super_class_. given_moves
    (turns_moves (λ turn turn2 turn_. member_at_moves turn_ (same 0)) (group_moves p_ (same 2)))
    (λ members members2 members_. some
    (class_made m name_ (same false) none super_class_ none none members_ r_))))

pub static_block_moves : {m : Move} {r r2 : Range} → By (range_to m) r r2 → {p p2 : Value} → Moves m p p2
    → Opt (By (class_member_to m)) (static_block r p) (static_block r2 p2)
unfolding static_block
static_block_moves {m = m} r_ p_ =
    map_moves _ _ (block_at_moves p_ (same 0)) (λ stmts stmts2 stmts_. class_member_StaticBlock m stmts_ r_)

pub method_member_moves : {m : Move} {x y : List ℕ} {ts us : List Token} → Texts m x y ts us
    → {kind kind2 : MethodKind} → kind2 ≡ kind → {is_async is_async2 : Bool} → is_async2 ≡ is_async
    → {is_generator is_generator2 : Bool} → is_generator2 ≡ is_generator → {r r2 : Range} → By (range_to m) r r2
    → {p p2 : Value} → Moves m p p2 → {n n2 : ℕ} → n2 ≡ n
    → Opt (By (class_member_to m)) (method_member ts kind is_async is_generator r p n)
    (method_member us kind2 is_async2 is_generator2 r2 p2 n2)
unfolding method_member
method_member_moves {m = m} told kind_ is_async_ is_generator_ r_ p_ n_ =
    given_moves (key_at_moves p_ n_)
    (λ key key2 key_. given_moves (method_at_moves told is_async_ is_generator_ p_ (ap (λ n. n + 1) n_))
    (λ function function2 function_. some
    (class_member_Method m (ap (λ a. modified a false) (is_there_moves (group_moves p_ (same 0)))) kind_
    key_.0 key_.1 (same false) function_ r_)))

pub accessor_member_moves : {m : Move} {x y : List ℕ} {ts us : List Token} → Texts m x y ts us → {r r2 : Range}
    → By (range_to m) r r2 → {p p2 : Value} → Moves m p p2
    → Opt (By (class_member_to m)) (accessor_member ts r p) (accessor_member us r2 p2)
unfolding accessor_member
accessor_member_moves told r_ p_ =
    given_moves (given_moves (kind_at_moves told p_ (same 1)) (λ a a2 a_. listed_moves _ a_))
    (λ kind kind2 kind_. method_member_moves told kind_ (same false) (same false) r_ p_ (same 2))

pub field_member_moves : {m : Move} {accessor accessor2 : Bool} → accessor2 ≡ accessor → {r r2 : Range}
    → By (range_to m) r r2 → {p p2 : Value} → Moves m p p2
    → Opt (By (class_member_to m)) (field_member accessor r p) (field_member accessor2 r2 p2)
unfolding field_member
field_member_moves {m = m} accessor_ r_ p_ =
    given_moves (key_at_moves p_ (same 1))
    (λ key key2 key_. given_moves
    (optional_moves (λ a a2 a_ b b2 b_. expr_at_moves a_ b_) (group_moves p_ (same 2)))
    (λ value value2 value_. some
    (class_member_Prop m
    (two (λ a b. modified a b) (is_there_moves (group_moves p_ (same 0))) accessor_) key_.0 key_.1
    (same false) (same false) none value_ r_)))
