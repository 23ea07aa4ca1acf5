-- What variables, declarations and items of TypeScript become moves with their parts.
use Rattle.std.specs.Prelude.{ℕ, true, List}
use Rattle.base.specs.declared.range.Range.{Range}
use Rattle.es_token.specs.declared.token.Token.{Token}
use Rattle.es_token.specs.declared.token.TokenKind.TheVariants as k
use Rattle.grammar_theory.specs.Key.{same_kind}
use Rattle.es_ast.specs.declared.ast.Stmt.{Stmt}
use Rattle.es_lowering.specs.Value.{Value}
use Rattle.es_lowering.specs.TypedStatements.{typed_declarator, typed_head, caught_in, typed_handled, typed_try, interface, alias, enum_member, enum_, items_of, namespace, module_namespace, global, declared, declared_variables, export_assignment}
use Rattle.std.proofs.Common.{ap}
use Rattle.es_law_edits.proofs.moved.Functions.{ts_enum_member_made}
use Rattle.es_law_edits.proofs.moved.Items.{module_decl_TsExportAssignment}
use Rattle.es_law_edits.proofs.moved.Patterns.{var_declarator_made}
use Rattle.es_law_edits.proofs.moved.Rel.{Both, By, Each, Fun, Opt, Same, none, some}
use Rattle.es_law_edits.proofs.moved.Statements.{decl_TsEnum, decl_TsGlobal, decl_TsInterface, decl_TsModule, decl_TsNamespace, decl_TsTypeAlias, decl_Var, stmt_Try}
use Rattle.es_law_edits.proofs.moved.Types.{ts_part_Members, ts_part_TypeAnn}
use Rattle.es_law_edits.specs.moved.Move.{Move, range_to}
use Rattle.es_law_edits.specs.moved.Trees.{decl_to, module_decl_to, module_item_to, pat_to, stmt_to, ts_enum_member_to, var_declarator_to}
use Rattle.es_law_edits.proofs.moved_lowering.Frame.{Moves, Texts, behind_moves, first_of_moves, given_moves, gone, is_there_moves, leaf, listed_moves, made, map_moves, optional_moves, over, pair, part_moves, same, turns_moves}
use Rattle.es_law_edits.proofs.moved_lowering.Leaves.{span_of_moves}
use Rattle.es_law_edits.proofs.moved_lowering.Operators.{is_kind_at_moves}
use Rattle.es_law_edits.proofs.moved_lowering.Texts.{ident_at_moves, kind_at_moves, str_at_moves}
use Rattle.es_law_edits.proofs.moved_lowering.TypeNames.{behind_in_moves}
use Rattle.es_law_edits.proofs.moved_lowering.TypedParts.{annotated_at_moves, heritage_in_moves, params_part_at_moves}
use Rattle.es_law_edits.proofs.moved_lowering.Value.{declarable_at_moves, entity_at_moves, expr_at_moves, group_moves, item_at_moves, key_at_moves, stmt_at_moves, type_at_moves, type_member_at_moves, variables_at_moves}

pub typed_declarator_moves : {m : Move} {x y : List ℕ} {ts us : List Token} → Texts m x y ts us → {r r2 : Range}
    → By (range_to m) r r2 → {p p2 : Value} → Moves m p p2
    → Opt (By (var_declarator_to m)) (typed_declarator ts r p) (typed_declarator us r2 p2)
unfolding typed_declarator
typed_declarator_moves {m = m} told r_ p_ =
    given_moves (annotated_at_moves told p_ (same 0) (same 2))
    (λ pat pat2 pat_. given_moves
    (optional_moves (λ a a2 a_ b b2 b_. expr_at_moves a_ b_) (group_moves p_ (same 3)))
    (λ value value2 value_. some
    (var_declarator_made m pat_ (is_there_moves (group_moves p_ (same 1))) value_ r_)))

pub typed_head_moves : {m : Move} {x y : List ℕ} {ts us : List Token} → Texts m x y ts us → {p p2 : Value}
    → Moves m p p2 → Opt (Both (Opt Same) (By (pat_to m))) (typed_head ts p) (typed_head us p2)
unfolding typed_head
typed_head_moves told p_ =
    given_moves (given_moves (kind_at_moves told p_ (same 0)) (λ a a2 a_. listed_moves _ a_))
    (λ kind kind2 kind_. given_moves (annotated_at_moves told p_ (same 1) (same 2))
    (λ pat pat2 pat_. some (some kind_, pat_)))

pub caught_in_moves : {m : Move} {x y : List ℕ} {ts us : List Token} → Texts m x y ts us → {b b2 : Value}
    → Moves m b b2 → Opt (Opt (By (pat_to m))) (caught_in ts b) (caught_in us b2)
caught_in_moves told (pair v_ vs_) =
    map_moves _ _ (annotated_at_moves told (pair v_ vs_) (same 0) (same 1)) (λ a a2 a_. some a_)
caught_in_moves told gone = some none
caught_in_moves told over = some none
caught_in_moves told (leaf a) = some none
caught_in_moves told (made a b c) = some none

pub typed_handled_moves : {m : Move} {x y : List ℕ} {ts us : List Token} → Texts m x y ts us → {r r2 : Range}
    → By (range_to m) r r2 → {block block2 : Stmt} → By (stmt_to m) block block2 → {v v2 : Value} → Moves m v v2
    → Opt (By (stmt_to m)) (typed_handled ts r block v) (typed_handled us r2 block2 v2)
typed_handled_moves {m = m} told r_ block_ (pair body_ over) =
    map_moves _ _ (stmt_at_moves (pair body_ over) (same 0))
    (λ finalizer finalizer2 finalizer_. stmt_Try m block_ none none (some finalizer_) r_)
typed_handled_moves {m = m} told r_ block_ gone =
    given_moves (caught_in_moves told (group_moves gone (same 0)))
    (λ param param2 param_. given_moves (stmt_at_moves gone (same 1))
    (λ handler handler2 handler_. given_moves
    (optional_moves (λ a a2 a_ b b2 b_. stmt_at_moves a_ b_) (group_moves gone (same 2)))
    (λ finalizer finalizer2 finalizer_. some (stmt_Try m block_ param_ (some handler_) finalizer_ r_))))
typed_handled_moves {m = m} told r_ block_ over =
    given_moves (caught_in_moves told (group_moves over (same 0)))
    (λ param param2 param_. given_moves (stmt_at_moves over (same 1))
    (λ handler handler2 handler_. given_moves
    (optional_moves (λ a a2 a_ b b2 b_. stmt_at_moves a_ b_) (group_moves over (same 2)))
    (λ finalizer finalizer2 finalizer_. some (stmt_Try m block_ param_ (some handler_) finalizer_ r_))))
typed_handled_moves {m = m} told r_ block_ (pair a gone) =
    given_moves (caught_in_moves told (group_moves (pair a gone) (same 0)))
    (λ param param2 param_. given_moves (stmt_at_moves (pair a gone) (same 1))
    (λ handler handler2 handler_. given_moves
    (optional_moves (λ a a2 a_ b b2 b_. stmt_at_moves a_ b_) (group_moves (pair a gone) (same 2)))
    (λ finalizer finalizer2 finalizer_. some (stmt_Try m block_ param_ (some handler_) finalizer_ r_))))
typed_handled_moves {m = m} told r_ block_ (pair a (pair b c)) =
    given_moves (caught_in_moves told (group_moves (pair a (pair b c)) (same 0)))
    (λ param param2 param_. given_moves (stmt_at_moves (pair a (pair b c)) (same 1))
    (λ handler handler2 handler_. given_moves
    (optional_moves (λ a a2 a_ b b2 b_. stmt_at_moves a_ b_) (group_moves (pair a (pair b c)) (same 2)))
    (λ finalizer finalizer2 finalizer_. some (stmt_Try m block_ param_ (some handler_) finalizer_ r_))))
typed_handled_moves {m = m} told r_ block_ (pair a (leaf b)) =
    given_moves (caught_in_moves told (group_moves (pair a (leaf b)) (same 0)))
    (λ param param2 param_. given_moves (stmt_at_moves (pair a (leaf b)) (same 1))
    (λ handler handler2 handler_. given_moves
    (optional_moves (λ a a2 a_ b b2 b_. stmt_at_moves a_ b_) (group_moves (pair a (leaf b)) (same 2)))
    (λ finalizer finalizer2 finalizer_. some (stmt_Try m block_ param_ (some handler_) finalizer_ r_))))
typed_handled_moves {m = m} told r_ block_ (pair a (made b c d)) =
    given_moves (caught_in_moves told (group_moves (pair a (made b c d)) (same 0)))
    (λ param param2 param_. given_moves (stmt_at_moves (pair a (made b c d)) (same 1))
    (λ handler handler2 handler_. given_moves
    (optional_moves (λ a a2 a_ b b2 b_. stmt_at_moves a_ b_) (group_moves (pair a (made b c d)) (same 2)))
    (λ finalizer finalizer2 finalizer_. some (stmt_Try m block_ param_ (some handler_) finalizer_ r_))))
typed_handled_moves {m = m} told r_ block_ (leaf a) =
    given_moves (caught_in_moves told (group_moves (leaf a) (same 0)))
    (λ param param2 param_. given_moves (stmt_at_moves (leaf a) (same 1))
    (λ handler handler2 handler_. given_moves
    (optional_moves (λ a a2 a_ b b2 b_. stmt_at_moves a_ b_) (group_moves (leaf a) (same 2)))
    (λ finalizer finalizer2 finalizer_. some (stmt_Try m block_ param_ (some handler_) finalizer_ r_))))
typed_handled_moves {m = m} told r_ block_ (made a b c) =
    given_moves (caught_in_moves told (group_moves (made a b c) (same 0)))
    (λ param param2 param_. given_moves (stmt_at_moves (made a b c) (same 1))
    (λ handler handler2 handler_. given_moves
    (optional_moves (λ a a2 a_ b b2 b_. stmt_at_moves a_ b_) (group_moves (made a b c) (same 2)))
    (λ finalizer finalizer2 finalizer_. some (stmt_Try m block_ param_ (some handler_) finalizer_ r_))))

pub typed_try_moves : {m : Move} {x y : List ℕ} {ts us : List Token} → Texts m x y ts us → {r r2 : Range}
    → By (range_to m) r r2 → {p p2 : Value} → Moves m p p2
    → Opt (By (stmt_to m)) (typed_try ts r p) (typed_try us r2 p2)
unfolding typed_try
typed_try_moves told r_ p_ =
    given_moves (stmt_at_moves p_ (same 0))
    (λ block block2 block_. typed_handled_moves told r_ block_ (group_moves p_ (same 1)))

pub interface_moves : {m : Move} {x y : List ℕ} {ts us : List Token} → Texts m x y ts us → {p p2 : Value}
    → Moves m p p2 → Opt (Fun Same (Fun (By (range_to m)) (By (decl_to m)))) (interface x ts p) (interface y us p2)
unfolding interface
interface_moves {m = m} told p_ =
    given_moves (ident_at_moves told p_ (same 0))
    (λ id id2 id_. given_moves (params_part_at_moves p_ (same 1))
    (λ type_params type_params2 type_params_. given_moves (heritage_in_moves told (group_moves p_ (same 2)))
    (λ extends extends2 extends_. given_moves
    (map_moves _ _ (turns_moves (λ turn turn2 turn_. type_member_at_moves turn_ (same 0))
    (group_moves p_ (same 3))) (λ a a2 a_. ts_part_Members m a_))
    (λ body body2 body_. some
    (λ declare declare2 declare_ r r2 r_. decl_TsInterface m declare_ id_ type_params_
    extends_ (some body_) r_)))))

pub alias_moves : {m : Move} {x y : List ℕ} {ts us : List Token} → Texts m x y ts us → {p p2 : Value} → Moves m p p2
    → Opt (Fun Same (Fun (By (range_to m)) (By (decl_to m)))) (alias x ts p) (alias y us p2)
unfolding alias
alias_moves {m = m} told p_ =
    given_moves (ident_at_moves told p_ (same 0))
    (λ id id2 id_. given_moves (params_part_at_moves p_ (same 1))
    (λ type_params type_params2 type_params_. given_moves
    (map_moves _ _ (type_at_moves p_ (same 2)) (λ a a2 a_. ts_part_TypeAnn m a_))
    (λ ty ty2 ty_. some (λ declare declare2 declare_ r r2 r_. decl_TsTypeAlias m declare_ id_
    type_params_ (some ty_) r_))))

pub enum_member_moves : {m : Move} {x y : List ℕ} {ts us : List Token} → Texts m x y ts us → {turn turn2 : Value}
    → Moves m turn turn2 → Opt (By (ts_enum_member_to m)) (enum_member ts turn) (enum_member us turn2)
enum_member_moves {m = m} told turn_ =
    given_moves (key_at_moves turn_ (same 0))
    (λ key key2 key_. given_moves
    (optional_moves (λ a a2 a_ b b2 b_. expr_at_moves a_ b_) (group_moves turn_ (same 1)))
    (λ value value2 value_. some
    (ts_enum_member_made m key_.0 key_.1 value_
    (span_of_moves told (first_of_moves (part_moves turn_ (same 0)))
    (behind_in_moves (group_moves turn_ (same 1))
    (behind_moves (part_moves turn_ (same 0))))))))

pub enum__moves : {m : Move} {x y : List ℕ} {ts us : List Token} → Texts m x y ts us → {p p2 : Value} → Moves m p p2
    → Opt (Fun Same (Fun (By (range_to m)) (By (decl_to m)))) (enum_ x ts p) (enum_ y us p2)
unfolding enum_
enum__moves {m = m} told p_ =
    given_moves (ident_at_moves told p_ (same 1))
    (λ id id2 id_. given_moves (turns_moves (λ a a2 a_. enum_member_moves told a_) (group_moves p_ (same 2)))
    (λ members members2 members_. some
    (λ declare declare2 declare_ r r2 r_. decl_TsEnum m declare_ (is_there_moves (group_moves p_ (same 0)))
    id_ members_ r_)))

pub items_of_moves : {m : Move} {v v2 : Value} → Moves m v v2
    → Opt (Each (By (module_item_to m))) (items_of v) (items_of v2)
items_of_moves v_ = turns_moves (λ turn turn2 turn_. item_at_moves turn_ (same 0)) v_

pub namespace_moves : {m : Move} {x y : List ℕ} {ts us : List Token} → Texts m x y ts us → {p p2 : Value}
    → Moves m p p2 → Opt (Fun Same (Fun (By (range_to m)) (By (decl_to m)))) (namespace ts p) (namespace us p2)
unfolding namespace
namespace_moves {m = m} told p_ =
    given_moves (kind_at_moves told p_ (same 0))
    (λ kind kind2 kind_. given_moves (entity_at_moves p_ (same 1))
    (λ id id2 id_. given_moves (items_of_moves (group_moves p_ (same 2)))
    (λ body body2 body_. some
    (λ declare declare2 declare_ r r2 r_. decl_TsNamespace m declare_
    (ap (λ kind. same_kind kind k.ModuleWord) kind_) id_ body_ r_))))

pub module_namespace_moves : {m : Move} {x y : List ℕ} {ts us : List Token} → Texts m x y ts us → {p p2 : Value}
    → Moves m p p2 → Opt (Fun Same (Fun (By (range_to m)) (By (decl_to m)))) (module_namespace x ts p)
    (module_namespace y us p2)
unfolding module_namespace
module_namespace_moves {m = m} told p_ =
    given_moves (str_at_moves told p_ (same 0))
    (λ id id2 id_. given_moves (items_of_moves (group_moves (group_moves p_ (same 1)) (same 0)))
    (λ body body2 body_. some
    (λ declare declare2 declare_ r r2 r_. decl_TsModule m declare_ id_
    (is_kind_at_moves told (same k.OpenBrace) (behind_moves (part_moves p_ (same 0)))) body_ r_)))

pub global_moves : {m : Move} {p p2 : Value} → Moves m p p2
    → Opt (Fun Same (Fun (By (range_to m)) (By (decl_to m)))) (global p) (global p2)
unfolding global
global_moves {m = m} p_ =
    map_moves _ _ (items_of_moves (group_moves p_ (same 0)))
    (λ body body2 body_ declare declare2 declare_ r r2 r_. decl_TsGlobal m declare_ body_ r_)

pub declared_moves : {m : Move} {r r2 : Range} → By (range_to m) r r2 → {p p2 : Value} → Moves m p p2
    → Opt (By (decl_to m)) (declared r p) (declared r2 p2)
unfolding declared
declared_moves r_ p_ =
    map_moves _ _ (declarable_at_moves p_ (same 0)) (λ decl decl2 decl_. decl_ _ _ (same true) _ _ r_)

pub declared_variables_moves : {m : Move} {r r2 : Range} → By (range_to m) r r2 → {p p2 : Value} → Moves m p p2
    → Opt (By (decl_to m)) (declared_variables r p) (declared_variables r2 p2)
unfolding declared_variables
declared_variables_moves {m = m} r_ p_ =
    map_moves _ _ (variables_at_moves p_ (same 0)) (λ v v2 v_. decl_Var m (same true) v_.0 v_.1 r_)

pub export_assignment_moves : {m : Move} {r r2 : Range} → By (range_to m) r r2 → {p p2 : Value} → Moves m p p2
    → Opt (By (module_decl_to m)) (export_assignment r p) (export_assignment r2 p2)
unfolding export_assignment
export_assignment_moves {m = m} r_ p_ =
    map_moves _ _ (expr_at_moves p_ (same 0)) (λ e e2 e_. module_decl_TsExportAssignment m e_ r_)
