-- What a node may be read as, and the same node moved.
use Rattle.es_lowering.specs.Value.{Signature, Typed}
use Rattle.es_law_edits.proofs.moved.Rel.{Both, By, Each, Fun, Opt, Same}
use Rattle.es_law_edits.specs.moved.Leaves.{ident_to, ts_entity_name_to, ts_key_to}
use Rattle.es_law_edits.specs.moved.ModuleLeaves.{export_specifier_to, import_attributes_to, import_clause_to, import_names_to, import_specifier_to}
use Rattle.es_law_edits.specs.moved.Move.{Move, range_to}
use Rattle.es_law_edits.specs.moved.Trees.{class_member_to, decl_to, expr_to, module_item_to, moved_program, object_pat_prop_to, param_to, pat_to, prop_to, stmt_to, var_declarator_to}
use Rattle.es_law_edits.specs.moved.Types.{nodes_to, ts_fn_param_to, ts_param_pat_to, ts_part_to, ts_pat_prop_to, ts_tuple_element_to, ts_type_element_to, ts_type_param_to, ts_type_to}

-- what stands between `<` and `>`, the parameters, and the result
abbrev pub SignatureMoves : Move → Signature → Signature → Type 0
SignatureMoves m a b =
    Opt (By (ts_part_to m)) a.0 b.0 × Each (By (param_to m)) a.1 b.1 × Opt (By (ts_part_to m)) a.2 b.2

pub record TypedMoves (m : Move) (t u : Typed) : Type 0 where
  pub expr : Opt (By (expr_to m)) t.expr u.expr
  pub pat : Opt (By (pat_to m)) t.pat u.pat
  pub stmt : Opt (By (stmt_to m)) t.stmt u.stmt
  pub decl : Opt (By (decl_to m)) t.decl u.decl
  pub item : Opt (By (module_item_to m)) t.item u.item
  pub program : Opt (By (moved_program m)) t.program u.program
  pub block : Opt (Each (By (stmt_to m))) t.block u.block
  pub variables : Opt (Both Same (Each (By (var_declarator_to m)))) t.variables u.variables
  pub declarator : Opt (By (var_declarator_to m)) t.declarator u.declarator
  pub head : Opt (Both (Opt Same) (By (pat_to m))) t.head u.head
  pub param : Opt (By (param_to m)) t.param u.param
  pub params : Opt (Each (By (param_to m))) t.params u.params
  pub pat_prop : Opt (By (object_pat_prop_to m)) t.pat_prop u.pat_prop
  pub prop : Opt (By (prop_to m)) t.prop u.prop
  pub member : Opt (By (class_member_to m)) t.member u.member
  pub key : Opt (Both Same (By (expr_to m))) t.key u.key
  pub post : Opt (Fun (By m.place) (Fun (By (expr_to m)) (By (expr_to m)))) t.post u.post
  pub args : Opt (Each (By (expr_to m))) t.args u.args
  pub clause : Opt (By (import_clause_to m)) t.clause u.clause
  pub names : Opt (By (import_names_to m)) t.names u.names
  pub import_specifier : Opt (By (import_specifier_to m)) t.import_specifier u.import_specifier
  pub export_specifier : Opt (By (export_specifier_to m)) t.export_specifier u.export_specifier
  pub attributes : Opt (By (import_attributes_to m)) t.attributes u.attributes
  pub entity : Opt (By (ts_entity_name_to m)) t.entity u.entity
  pub marked : Opt (Fun Same (Fun (Opt (By (ts_part_to m))) (Fun (By (range_to m)) (By (pat_to m))))) t.marked u.marked
  pub signature : Opt (SignatureMoves m) t.signature u.signature
  pub declarable : Opt (Fun Same (Fun (By (range_to m)) (By (decl_to m)))) t.declarable u.declarable
  pub ts_type : Opt (By (ts_type_to m)) t.ts_type u.ts_type
  pub reference : Opt (Both (By (ts_entity_name_to m)) (Opt (By (nodes_to m (ts_type_to m))))) t.reference u.reference
  pub arguments : Opt (By (nodes_to m (ts_type_to m))) t.arguments u.arguments
  pub type_params : Opt (By (nodes_to m (ts_type_param_to m))) t.type_params u.type_params
  pub element : Opt (By (ts_tuple_element_to m)) t.element u.element
  pub type_member : Opt (By (ts_type_element_to m)) t.type_member u.type_member
  pub type_key : Opt (By (ts_key_to m)) t.type_key u.type_key
  pub fn_params : Opt (Each (By (ts_fn_param_to m))) t.fn_params u.fn_params
  pub fn_param : Opt (By (ts_fn_param_to m)) t.fn_param u.fn_param
  pub type_pat : Opt (By (ts_param_pat_to m)) t.type_pat u.type_pat
  pub type_name : Opt (By (ident_to m)) t.type_name u.type_name
  pub type_prop : Opt (By (ts_pat_prop_to m)) t.type_prop u.type_prop
