-- What a node may be read as: the fields of `Typed`, and those that the rows of the table give.
use Rattle.std.specs.Prelude.{Bool, true, ◌==◌, List, [], ◌∷◌, Option, Some, None}
use Rattle.std.proofs.Common.{◌≡◌, ℕ, zero, suc, refl, sym, ap, ◌∙◌}
use Rattle.std.proofs.lemmas.Option.{same_Some}
use Rattle.std.proofs.lemmas.Bool.{eqb-true}
use Rattle.es_lowering.specs.Value.{Value, given, typed}

pub data Use : Type 0 where
  as_expr as_pat as_stmt as_decl as_item as_program as_block as_variables as_declarator as_head as_param as_params : Use
  as_pat_prop as_prop as_member as_key as_post as_args as_clause as_names as_import_specifier as_export_specifier : Use
  as_attributes as_entity as_marked as_signature as_declarable as_type as_reference as_arguments as_type_params : Use
  as_element as_type_member as_type_key as_fn_params as_fn_param as_type_pat as_type_prop : Use

-- something is there
abbrev pub IsThere : {A : Type 0} → Option A → Type 0
IsThere (Some a) = Unit {0}
IsThere None = ⊥

-- the value is a node that may be read so
abbrev pub HasAt : Use → Value → Type 0
HasAt as_expr v = IsThere (given (typed v) (λ m. m.expr))
HasAt as_pat v = IsThere (given (typed v) (λ m. m.pat))
HasAt as_stmt v = IsThere (given (typed v) (λ m. m.stmt))
HasAt as_decl v = IsThere (given (typed v) (λ m. m.decl))
HasAt as_item v = IsThere (given (typed v) (λ m. m.item))
HasAt as_program v = IsThere (given (typed v) (λ m. m.program))
HasAt as_block v = IsThere (given (typed v) (λ m. m.block))
HasAt as_variables v = IsThere (given (typed v) (λ m. m.variables))
HasAt as_declarator v = IsThere (given (typed v) (λ m. m.declarator))
HasAt as_head v = IsThere (given (typed v) (λ m. m.head))
HasAt as_param v = IsThere (given (typed v) (λ m. m.param))
HasAt as_params v = IsThere (given (typed v) (λ m. m.params))
HasAt as_pat_prop v = IsThere (given (typed v) (λ m. m.pat_prop))
HasAt as_prop v = IsThere (given (typed v) (λ m. m.prop))
HasAt as_member v = IsThere (given (typed v) (λ m. m.member))
HasAt as_key v = IsThere (given (typed v) (λ m. m.key))
HasAt as_post v = IsThere (given (typed v) (λ m. m.post))
HasAt as_args v = IsThere (given (typed v) (λ m. m.args))
HasAt as_clause v = IsThere (given (typed v) (λ m. m.clause))
HasAt as_names v = IsThere (given (typed v) (λ m. m.names))
HasAt as_import_specifier v = IsThere (given (typed v) (λ m. m.import_specifier))
HasAt as_export_specifier v = IsThere (given (typed v) (λ m. m.export_specifier))
HasAt as_attributes v = IsThere (given (typed v) (λ m. m.attributes))
HasAt as_entity v = IsThere (given (typed v) (λ m. m.entity))
HasAt as_marked v = IsThere (given (typed v) (λ m. m.marked))
HasAt as_signature v = IsThere (given (typed v) (λ m. m.signature))
HasAt as_declarable v = IsThere (given (typed v) (λ m. m.declarable))
HasAt as_type v = IsThere (given (typed v) (λ m. m.ts_type))
HasAt as_reference v = IsThere (given (typed v) (λ m. m.reference))
HasAt as_arguments v = IsThere (given (typed v) (λ m. m.arguments))
HasAt as_type_params v = IsThere (given (typed v) (λ m. m.type_params))
HasAt as_element v = IsThere (given (typed v) (λ m. m.element))
HasAt as_type_member v = IsThere (given (typed v) (λ m. m.type_member))
HasAt as_type_key v = IsThere (given (typed v) (λ m. m.type_key))
HasAt as_fn_params v = IsThere (given (typed v) (λ m. m.fn_params))
HasAt as_fn_param v = IsThere (given (typed v) (λ m. m.fn_param))
HasAt as_type_pat v = IsThere (given (typed v) (λ m. m.type_pat))
HasAt as_type_prop v = IsThere (given (typed v) (λ m. m.type_prop))

-- the number of a use, and the uses by their numbers
abbrev number_of : Use → ℕ
number_of as_expr = 0
number_of as_pat = 1
number_of as_stmt = 2
number_of as_decl = 3
number_of as_item = 4
number_of as_program = 5
number_of as_block = 6
number_of as_variables = 7
number_of as_declarator = 8
number_of as_head = 9
number_of as_param = 10
number_of as_params = 11
number_of as_pat_prop = 12
number_of as_prop = 13
number_of as_member = 14
number_of as_key = 15
number_of as_post = 16
number_of as_args = 17
number_of as_clause = 18
number_of as_names = 19
number_of as_import_specifier = 20
number_of as_export_specifier = 21
number_of as_attributes = 22
number_of as_entity = 23
number_of as_marked = 24
number_of as_signature = 25
number_of as_declarable = 26
number_of as_type = 27
number_of as_reference = 28
number_of as_arguments = 29
number_of as_type_params = 30
number_of as_element = 31
number_of as_type_member = 32
number_of as_type_key = 33
number_of as_fn_params = 34
number_of as_fn_param = 35
number_of as_type_pat = 36
number_of as_type_prop = 37

uses : List Use
uses =
    as_expr ∷ as_pat ∷ as_stmt ∷ as_decl ∷ as_item ∷ as_program ∷ as_block ∷ as_variables ∷ as_declarator ∷ as_head
    ∷ as_param ∷ as_params ∷ as_pat_prop ∷ as_prop ∷ as_member ∷ as_key ∷ as_post ∷ as_args ∷ as_clause ∷ as_names ∷
    as_import_specifier ∷ as_export_specifier ∷ as_attributes ∷ as_entity ∷ as_marked ∷ as_signature ∷ as_declarable
    ∷ as_type ∷ as_reference ∷ as_arguments ∷ as_type_params ∷ as_element ∷ as_type_member ∷ as_type_key ∷
    as_fn_params ∷ as_fn_param ∷ as_type_pat ∷ as_type_prop ∷ []

abbrev use_at : List Use → ℕ → Option Use
use_at [] n = None
use_at (u ∷ us) zero = Some u
use_at (u ∷ us) (suc n) = use_at us n

use_listed : (u : Use) → use_at uses (number_of u) ≡ Some u
unfolding uses
use_listed as_expr = refl
use_listed as_pat = refl
use_listed as_stmt = refl
use_listed as_decl = refl
use_listed as_item = refl
use_listed as_program = refl
use_listed as_block = refl
use_listed as_variables = refl
use_listed as_declarator = refl
use_listed as_head = refl
use_listed as_param = refl
use_listed as_params = refl
use_listed as_pat_prop = refl
use_listed as_prop = refl
use_listed as_member = refl
use_listed as_key = refl
use_listed as_post = refl
use_listed as_args = refl
use_listed as_clause = refl
use_listed as_names = refl
use_listed as_import_specifier = refl
use_listed as_export_specifier = refl
use_listed as_attributes = refl
use_listed as_entity = refl
use_listed as_marked = refl
use_listed as_signature = refl
use_listed as_declarable = refl
use_listed as_type = refl
use_listed as_reference = refl
use_listed as_arguments = refl
use_listed as_type_params = refl
use_listed as_element = refl
use_listed as_type_member = refl
use_listed as_type_key = refl
use_listed as_fn_params = refl
use_listed as_fn_param = refl
use_listed as_type_pat = refl
use_listed as_type_prop = refl

abbrev pub same_use : Use → Use → Bool
same_use a b = number_of a == number_of b

pub same_uses : (a b : Use) → same_use a b ≡ true → a ≡ b
same_uses a b e =
    same_Some a b
    (sym (use_listed a) ∙ (ap (use_at uses) (eqb-true (number_of a) (number_of b) e) ∙ use_listed b))
