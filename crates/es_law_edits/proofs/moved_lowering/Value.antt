-- What stands at a place among the parts of a node moves with the part.
use Rattle.std.specs.Prelude.{ℕ}
use Rattle.es_lowering.specs.Value.{group, expr_at, pat_at, stmt_at, decl_at, item_at, block_at, variables_at, declarator_at, head_at, param_at, params_at, pat_prop_at, prop_at, member_at, key_at, post_at, args_at, clause_at, names_at, import_specifier_at, export_specifier_at, attributes_at, entity_at, marked_at, signature_at, declarable_at, type_at, reference_at, arguments_at, type_params_at, element_at, type_member_at, type_key_at, fn_params_at, fn_param_at, type_pat_at, type_name_at, type_prop_at, Value}
use Rattle.std.proofs.Common.{◌≡◌}
use Rattle.es_law_edits.proofs.moved.Rel.{Both, By, Each, Fun, Opt, Same}
use Rattle.es_law_edits.specs.moved.Leaves.{ident_to, ts_entity_name_to, ts_key_to}
use Rattle.es_law_edits.specs.moved.ModuleLeaves.{export_specifier_to, import_attributes_to, import_clause_to, import_names_to, import_specifier_to}
use Rattle.es_law_edits.specs.moved.Move.{Move, range_to}
use Rattle.es_law_edits.specs.moved.Trees.{class_member_to, decl_to, expr_to, module_item_to, object_pat_prop_to, param_to, pat_to, prop_to, stmt_to, var_declarator_to}
use Rattle.es_law_edits.specs.moved.Types.{nodes_to, ts_fn_param_to, ts_param_pat_to, ts_part_to, ts_pat_prop_to, ts_tuple_element_to, ts_type_element_to, ts_type_param_to, ts_type_to}
use Rattle.es_law_edits.proofs.moved_lowering.Frame.{Moves, as_group_moves, given_moves, part_moves, typed_moves}
use Rattle.es_law_edits.proofs.moved_lowering.TypedMoves.{SignatureMoves}

pub group_moves : {m : Move} {p p2 : Value} → Moves m p p2 → {n n2 : ℕ} → n2 ≡ n → Moves m (group p n) (group p2 n2)
group_moves p_ n_ = as_group_moves (part_moves p_ n_)

pub expr_at_moves : {m : Move} {p p2 : Value} → Moves m p p2 → {n n2 : ℕ} → n2 ≡ n
    → Opt (By (expr_to m)) (expr_at p n) (expr_at p2 n2)
expr_at_moves p_ n_ = given_moves (typed_moves (part_moves p_ n_)) (λ it it2 it_. it_.expr)

pub pat_at_moves : {m : Move} {p p2 : Value} → Moves m p p2 → {n n2 : ℕ} → n2 ≡ n
    → Opt (By (pat_to m)) (pat_at p n) (pat_at p2 n2)
pat_at_moves p_ n_ = given_moves (typed_moves (part_moves p_ n_)) (λ it it2 it_. it_.pat)

pub stmt_at_moves : {m : Move} {p p2 : Value} → Moves m p p2 → {n n2 : ℕ} → n2 ≡ n
    → Opt (By (stmt_to m)) (stmt_at p n) (stmt_at p2 n2)
stmt_at_moves p_ n_ = given_moves (typed_moves (part_moves p_ n_)) (λ it it2 it_. it_.stmt)

pub decl_at_moves : {m : Move} {p p2 : Value} → Moves m p p2 → {n n2 : ℕ} → n2 ≡ n
    → Opt (By (decl_to m)) (decl_at p n) (decl_at p2 n2)
decl_at_moves p_ n_ = given_moves (typed_moves (part_moves p_ n_)) (λ it it2 it_. it_.decl)

pub item_at_moves : {m : Move} {p p2 : Value} → Moves m p p2 → {n n2 : ℕ} → n2 ≡ n
    → Opt (By (module_item_to m)) (item_at p n) (item_at p2 n2)
item_at_moves p_ n_ = given_moves (typed_moves (part_moves p_ n_)) (λ it it2 it_. it_.item)

pub block_at_moves : {m : Move} {p p2 : Value} → Moves m p p2 → {n n2 : ℕ} → n2 ≡ n
    → Opt (Each (By (stmt_to m))) (block_at p n) (block_at p2 n2)
block_at_moves p_ n_ = given_moves (typed_moves (part_moves p_ n_)) (λ it it2 it_. it_.block)

pub variables_at_moves : {m : Move} {p p2 : Value} → Moves m p p2 → {n n2 : ℕ} → n2 ≡ n
    → Opt (Both Same (Each (By (var_declarator_to m)))) (variables_at p n) (variables_at p2 n2)
variables_at_moves p_ n_ = given_moves (typed_moves (part_moves p_ n_)) (λ it it2 it_. it_.variables)

pub declarator_at_moves : {m : Move} {p p2 : Value} → Moves m p p2 → {n n2 : ℕ} → n2 ≡ n
    → Opt (By (var_declarator_to m)) (declarator_at p n) (declarator_at p2 n2)
declarator_at_moves p_ n_ = given_moves (typed_moves (part_moves p_ n_)) (λ it it2 it_. it_.declarator)

pub head_at_moves : {m : Move} {p p2 : Value} → Moves m p p2 → {n n2 : ℕ} → n2 ≡ n
    → Opt (Both (Opt Same) (By (pat_to m))) (head_at p n) (head_at p2 n2)
head_at_moves p_ n_ = given_moves (typed_moves (part_moves p_ n_)) (λ it it2 it_. it_.head)

pub param_at_moves : {m : Move} {p p2 : Value} → Moves m p p2 → {n n2 : ℕ} → n2 ≡ n
    → Opt (By (param_to m)) (param_at p n) (param_at p2 n2)
param_at_moves p_ n_ = given_moves (typed_moves (part_moves p_ n_)) (λ it it2 it_. it_.param)

pub params_at_moves : {m : Move} {p p2 : Value} → Moves m p p2 → {n n2 : ℕ} → n2 ≡ n
    → Opt (Each (By (param_to m))) (params_at p n) (params_at p2 n2)
params_at_moves p_ n_ = given_moves (typed_moves (part_moves p_ n_)) (λ it it2 it_. it_.params)

pub pat_prop_at_moves : {m : Move} {p p2 : Value} → Moves m p p2 → {n n2 : ℕ} → n2 ≡ n
    → Opt (By (object_pat_prop_to m)) (pat_prop_at p n) (pat_prop_at p2 n2)
pat_prop_at_moves p_ n_ = given_moves (typed_moves (part_moves p_ n_)) (λ it it2 it_. it_.pat_prop)

pub prop_at_moves : {m : Move} {p p2 : Value} → Moves m p p2 → {n n2 : ℕ} → n2 ≡ n
    → Opt (By (prop_to m)) (prop_at p n) (prop_at p2 n2)
prop_at_moves p_ n_ = given_moves (typed_moves (part_moves p_ n_)) (λ it it2 it_. it_.prop)

pub member_at_moves : {m : Move} {p p2 : Value} → Moves m p p2 → {n n2 : ℕ} → n2 ≡ n
    → Opt (By (class_member_to m)) (member_at p n) (member_at p2 n2)
member_at_moves p_ n_ = given_moves (typed_moves (part_moves p_ n_)) (λ it it2 it_. it_.member)

pub key_at_moves : {m : Move} {p p2 : Value} → Moves m p p2 → {n n2 : ℕ} → n2 ≡ n
    → Opt (Both Same (By (expr_to m))) (key_at p n) (key_at p2 n2)
key_at_moves p_ n_ = given_moves (typed_moves (part_moves p_ n_)) (λ it it2 it_. it_.key)

pub post_at_moves : {m : Move} {p p2 : Value} → Moves m p p2 → {n n2 : ℕ} → n2 ≡ n
    → Opt (Fun (By m.place) (Fun (By (expr_to m)) (By (expr_to m)))) (post_at p n) (post_at p2 n2)
post_at_moves p_ n_ = given_moves (typed_moves (part_moves p_ n_)) (λ it it2 it_. it_.post)

pub args_at_moves : {m : Move} {p p2 : Value} → Moves m p p2 → {n n2 : ℕ} → n2 ≡ n
    → Opt (Each (By (expr_to m))) (args_at p n) (args_at p2 n2)
args_at_moves p_ n_ = given_moves (typed_moves (part_moves p_ n_)) (λ it it2 it_. it_.args)

pub clause_at_moves : {m : Move} {p p2 : Value} → Moves m p p2 → {n n2 : ℕ} → n2 ≡ n
    → Opt (By (import_clause_to m)) (clause_at p n) (clause_at p2 n2)
clause_at_moves p_ n_ = given_moves (typed_moves (part_moves p_ n_)) (λ it it2 it_. it_.clause)

pub names_at_moves : {m : Move} {p p2 : Value} → Moves m p p2 → {n n2 : ℕ} → n2 ≡ n
    → Opt (By (import_names_to m)) (names_at p n) (names_at p2 n2)
names_at_moves p_ n_ = given_moves (typed_moves (part_moves p_ n_)) (λ it it2 it_. it_.names)

pub import_specifier_at_moves : {m : Move} {p p2 : Value} → Moves m p p2 → {n n2 : ℕ} → n2 ≡ n
    → Opt (By (import_specifier_to m)) (import_specifier_at p n) (import_specifier_at p2 n2)
import_specifier_at_moves p_ n_ = given_moves (typed_moves (part_moves p_ n_)) (λ it it2 it_. it_.import_specifier)

pub export_specifier_at_moves : {m : Move} {p p2 : Value} → Moves m p p2 → {n n2 : ℕ} → n2 ≡ n
    → Opt (By (export_specifier_to m)) (export_specifier_at p n) (export_specifier_at p2 n2)
export_specifier_at_moves p_ n_ = given_moves (typed_moves (part_moves p_ n_)) (λ it it2 it_. it_.export_specifier)

pub attributes_at_moves : {m : Move} {p p2 : Value} → Moves m p p2 → {n n2 : ℕ} → n2 ≡ n
    → Opt (By (import_attributes_to m)) (attributes_at p n) (attributes_at p2 n2)
attributes_at_moves p_ n_ = given_moves (typed_moves (part_moves p_ n_)) (λ it it2 it_. it_.attributes)

pub entity_at_moves : {m : Move} {p p2 : Value} → Moves m p p2 → {n n2 : ℕ} → n2 ≡ n
    → Opt (By (ts_entity_name_to m)) (entity_at p n) (entity_at p2 n2)
entity_at_moves p_ n_ = given_moves (typed_moves (part_moves p_ n_)) (λ it it2 it_. it_.entity)

pub marked_at_moves : {m : Move} {p p2 : Value} → Moves m p p2 → {n n2 : ℕ} → n2 ≡ n
    → Opt (Fun Same (Fun (Opt (By (ts_part_to m))) (Fun (By (range_to m)) (By (pat_to m))))) (marked_at p n)
    (marked_at p2 n2)
marked_at_moves p_ n_ = given_moves (typed_moves (part_moves p_ n_)) (λ it it2 it_. it_.marked)

pub signature_at_moves : {m : Move} {p p2 : Value} → Moves m p p2 → {n n2 : ℕ} → n2 ≡ n
    → Opt (SignatureMoves m) (signature_at p n) (signature_at p2 n2)
signature_at_moves p_ n_ = given_moves (typed_moves (part_moves p_ n_)) (λ it it2 it_. it_.signature)

pub declarable_at_moves : {m : Move} {p p2 : Value} → Moves m p p2 → {n n2 : ℕ} → n2 ≡ n
    → Opt (Fun Same (Fun (By (range_to m)) (By (decl_to m)))) (declarable_at p n) (declarable_at p2 n2)
declarable_at_moves p_ n_ = given_moves (typed_moves (part_moves p_ n_)) (λ it it2 it_. it_.declarable)

pub type_at_moves : {m : Move} {p p2 : Value} → Moves m p p2 → {n n2 : ℕ} → n2 ≡ n
    → Opt (By (ts_type_to m)) (type_at p n) (type_at p2 n2)
type_at_moves p_ n_ = given_moves (typed_moves (part_moves p_ n_)) (λ it it2 it_. it_.ts_type)

pub reference_at_moves : {m : Move} {p p2 : Value} → Moves m p p2 → {n n2 : ℕ} → n2 ≡ n
    → Opt (Both (By (ts_entity_name_to m)) (Opt (By (nodes_to m (ts_type_to m))))) (reference_at p n)
    (reference_at p2 n2)
reference_at_moves p_ n_ = given_moves (typed_moves (part_moves p_ n_)) (λ it it2 it_. it_.reference)

pub arguments_at_moves : {m : Move} {p p2 : Value} → Moves m p p2 → {n n2 : ℕ} → n2 ≡ n
    → Opt (By (nodes_to m (ts_type_to m))) (arguments_at p n) (arguments_at p2 n2)
arguments_at_moves p_ n_ = given_moves (typed_moves (part_moves p_ n_)) (λ it it2 it_. it_.arguments)

pub type_params_at_moves : {m : Move} {p p2 : Value} → Moves m p p2 → {n n2 : ℕ} → n2 ≡ n
    → Opt (By (nodes_to m (ts_type_param_to m))) (type_params_at p n) (type_params_at p2 n2)
type_params_at_moves p_ n_ = given_moves (typed_moves (part_moves p_ n_)) (λ it it2 it_. it_.type_params)

pub element_at_moves : {m : Move} {p p2 : Value} → Moves m p p2 → {n n2 : ℕ} → n2 ≡ n
    → Opt (By (ts_tuple_element_to m)) (element_at p n) (element_at p2 n2)
element_at_moves p_ n_ = given_moves (typed_moves (part_moves p_ n_)) (λ it it2 it_. it_.element)

pub type_member_at_moves : {m : Move} {p p2 : Value} → Moves m p p2 → {n n2 : ℕ} → n2 ≡ n
    → Opt (By (ts_type_element_to m)) (type_member_at p n) (type_member_at p2 n2)
type_member_at_moves p_ n_ = given_moves (typed_moves (part_moves p_ n_)) (λ it it2 it_. it_.type_member)

pub type_key_at_moves : {m : Move} {p p2 : Value} → Moves m p p2 → {n n2 : ℕ} → n2 ≡ n
    → Opt (By (ts_key_to m)) (type_key_at p n) (type_key_at p2 n2)
type_key_at_moves p_ n_ = given_moves (typed_moves (part_moves p_ n_)) (λ it it2 it_. it_.type_key)

pub fn_params_at_moves : {m : Move} {p p2 : Value} → Moves m p p2 → {n n2 : ℕ} → n2 ≡ n
    → Opt (Each (By (ts_fn_param_to m))) (fn_params_at p n) (fn_params_at p2 n2)
fn_params_at_moves p_ n_ = given_moves (typed_moves (part_moves p_ n_)) (λ it it2 it_. it_.fn_params)

pub fn_param_at_moves : {m : Move} {p p2 : Value} → Moves m p p2 → {n n2 : ℕ} → n2 ≡ n
    → Opt (By (ts_fn_param_to m)) (fn_param_at p n) (fn_param_at p2 n2)
fn_param_at_moves p_ n_ = given_moves (typed_moves (part_moves p_ n_)) (λ it it2 it_. it_.fn_param)

pub type_pat_at_moves : {m : Move} {p p2 : Value} → Moves m p p2 → {n n2 : ℕ} → n2 ≡ n
    → Opt (By (ts_param_pat_to m)) (type_pat_at p n) (type_pat_at p2 n2)
type_pat_at_moves p_ n_ = given_moves (typed_moves (part_moves p_ n_)) (λ it it2 it_. it_.type_pat)

pub type_name_at_moves : {m : Move} {p p2 : Value} → Moves m p p2 → {n n2 : ℕ} → n2 ≡ n
    → Opt (By (ident_to m)) (type_name_at p n) (type_name_at p2 n2)
type_name_at_moves p_ n_ = given_moves (typed_moves (part_moves p_ n_)) (λ it it2 it_. it_.type_name)

pub type_prop_at_moves : {m : Move} {p p2 : Value} → Moves m p p2 → {n n2 : ℕ} → n2 ≡ n
    → Opt (By (ts_pat_prop_to m)) (type_prop_at p n) (type_prop_at p2 n2)
type_prop_at_moves p_ n_ = given_moves (typed_moves (part_moves p_ n_)) (λ it it2 it_. it_.type_prop)
