-- Each form of leaves moves as its parts do.
use Rattle.std.specs.Prelude.{ℕ, Bool, List}
use Rattle.std.proofs.Common.{◌≡◌}
use Rattle.base.specs.declared.range.Range.{Range}
use Rattle.es_ast.specs.declared.ts.leaf.Ident.{Ident}
use Rattle.es_ast.specs.declared.ts.leaf.Str.{Str}
use Rattle.es_ast.specs.declared.ts.leaf.Number.{Number}
use Rattle.es_ast.specs.declared.ts.leaf.BigInt.{BigInt}
use Rattle.es_ast.specs.declared.ts.leaf.TplElement.{TplElement}
use Rattle.es_ast.specs.declared.ts.leaf.TsThisTypeOrIdent.{TsThisTypeOrIdent}
use Rattle.es_ast.specs.declared.ts.leaf.TsThisTypeOrIdent.TheVariants as vTsThisTypeOrIdent
use Rattle.es_ast.specs.declared.ts.leaf.TsEntityName.{TsEntityName}
use Rattle.es_ast.specs.declared.ts.leaf.TsKey.TheVariants as vTsKey
use Rattle.es_ast.specs.declared.ts.leaf.TsLit.TheVariants as vTsLit
use Rattle.es_law_edits.specs.moved.Move.{Move, range_to}
use Rattle.es_law_edits.specs.moved.Leaves.{ident_to, str_to, number_to, big_int_to, tpl_element_to, ts_this_type_or_ident_to, ts_entity_name_to, ts_key_to, ts_lit_to}
use Rattle.es_law_edits.proofs.moved.Rel.{By, Each, each_is}
use Rattle.es_law_edits.proofs.moved.Same.{same1, same2, same3}

pub range_made : (m : Move) {start start2 end end2 : ℕ} → start2 ≡ m.place start
    → end2 ≡ m.place end
    → By (range_to m) (record { start = start; end = end }) (record { start = start2; end = end2 })
unfolding range_to
range_made m {start = start} {start2 = start2} {end = end} {end2 = end2} h0 h1 =
    let make : ℕ → ℕ → Range = λ start end. record { start = start; end = end } in
    record { is = same2 make h0 h1 }

pub tpl_element_made : (m : Move) {raw raw2 : List ℕ} {span span2 : Range} → raw2 ≡ raw → By (range_to m) span span2
    → By (tpl_element_to m) (record { raw = raw; span = span }) (record { raw = raw2; span = span2 })
unfolding tpl_element_to
tpl_element_made m h0 h1 =
    let make : List ℕ → Range → TplElement = λ raw span. record { raw = raw; span = span } in
    record { is = same2 make h0 h1.is }

pub ts_this_type_or_ident_This : (m : Move) {span span2 : Range} → By (range_to m) span span2
    → By (ts_this_type_or_ident_to m) (vTsThisTypeOrIdent.This span) (vTsThisTypeOrIdent.This span2)
unfolding ts_this_type_or_ident_to
ts_this_type_or_ident_This m h0 =
    record { is = same1 vTsThisTypeOrIdent.This h0.is }

pub ts_this_type_or_ident_Ident : (m : Move) {ident ident2 : Ident} → By (ident_to m) ident ident2
    → By (ts_this_type_or_ident_to m) (vTsThisTypeOrIdent.Ident ident) (vTsThisTypeOrIdent.Ident ident2)
unfolding ts_this_type_or_ident_to
ts_this_type_or_ident_Ident m h0 =
    record { is = same1 vTsThisTypeOrIdent.Ident h0.is }

pub ts_entity_name_made : (m : Move) {left left2 : TsThisTypeOrIdent} {rest rest2 : List Ident} {span span2 : Range}
    → By (ts_this_type_or_ident_to m) left left2 → Each (By (ident_to m)) rest rest2 → By (range_to m) span span2
    → By (ts_entity_name_to m) (record { left = left; rest = rest; span = span })
    (record { left = left2; rest = rest2; span = span2 })
unfolding ts_entity_name_to
ts_entity_name_made m h0 h1 h2 =
    let make : TsThisTypeOrIdent → List Ident → Range → TsEntityName = λ left rest span. record
    { left = left; rest = rest; span = span } in
    record { is = same3 make h0.is (each_is h1) h2.is }

pub ts_key_Ident : (m : Move) {ident ident2 : Ident} → By (ident_to m) ident ident2
    → By (ts_key_to m) (vTsKey.Ident ident) (vTsKey.Ident ident2)
unfolding ts_key_to
ts_key_Ident m h0 =
    record { is = same1 vTsKey.Ident h0.is }

pub ts_key_Str : (m : Move) {str str2 : Str} → By (str_to m) str str2
    → By (ts_key_to m) (vTsKey.Str str) (vTsKey.Str str2)
unfolding ts_key_to
ts_key_Str m h0 =
    record { is = same1 vTsKey.Str h0.is }

pub ts_key_Num : (m : Move) {number number2 : Number} → By (number_to m) number number2
    → By (ts_key_to m) (vTsKey.Num number) (vTsKey.Num number2)
unfolding ts_key_to
ts_key_Num m h0 =
    record { is = same1 vTsKey.Num h0.is }

pub ts_key_Entity : (m : Move) {name name2 : TsEntityName} {span span2 : Range}
    → By (ts_entity_name_to m) name name2 → By (range_to m) span span2
    → By (ts_key_to m) (vTsKey.Entity name span) (vTsKey.Entity name2 span2)
unfolding ts_key_to
ts_key_Entity m h0 h1 =
    record { is = same2 vTsKey.Entity h0.is h1.is }

pub ts_key_ComputedStr : (m : Move) {str str2 : Str} {span span2 : Range} → By (str_to m) str str2
    → By (range_to m) span span2 → By (ts_key_to m) (vTsKey.ComputedStr str span) (vTsKey.ComputedStr str2 span2)
unfolding ts_key_to
ts_key_ComputedStr m h0 h1 =
    record { is = same2 vTsKey.ComputedStr h0.is h1.is }

pub ts_key_ComputedNum : (m : Move) {num num2 : Number} {span span2 : Range} → By (number_to m) num num2
    → By (range_to m) span span2 → By (ts_key_to m) (vTsKey.ComputedNum num span) (vTsKey.ComputedNum num2 span2)
unfolding ts_key_to
ts_key_ComputedNum m h0 h1 =
    record { is = same2 vTsKey.ComputedNum h0.is h1.is }

pub ts_key_ComputedBigInt : (m : Move) {big big2 : BigInt} {span span2 : Range} → By (big_int_to m) big big2
    → By (range_to m) span span2 → By (ts_key_to m) (vTsKey.ComputedBigInt big span)
    (vTsKey.ComputedBigInt big2 span2)
unfolding ts_key_to
ts_key_ComputedBigInt m h0 h1 =
    record { is = same2 vTsKey.ComputedBigInt h0.is h1.is }

pub ts_lit_Bool : (m : Move) {value value2 : Bool} {span span2 : Range} → value2 ≡ value
    → By (range_to m) span span2 → By (ts_lit_to m) (vTsLit.Bool value span) (vTsLit.Bool value2 span2)
unfolding ts_lit_to
ts_lit_Bool m h0 h1 =
    record { is = same2 vTsLit.Bool h0 h1.is }

pub ts_lit_Str : (m : Move) {str str2 : Str} → By (str_to m) str str2
    → By (ts_lit_to m) (vTsLit.Str str) (vTsLit.Str str2)
unfolding ts_lit_to
ts_lit_Str m h0 =
    record { is = same1 vTsLit.Str h0.is }

pub ts_lit_Number : (m : Move) {minus minus2 : Bool} {num num2 : Number} {span span2 : Range} → minus2 ≡ minus
    → By (number_to m) num num2 → By (range_to m) span span2 → By (ts_lit_to m) (vTsLit.Number minus num span)
    (vTsLit.Number minus2 num2 span2)
unfolding ts_lit_to
ts_lit_Number m h0 h1 h2 =
    record { is = same3 vTsLit.Number h0 h1.is h2.is }

pub ts_lit_BigInt : (m : Move) {minus minus2 : Bool} {big big2 : BigInt} {span span2 : Range} → minus2 ≡ minus
    → By (big_int_to m) big big2 → By (range_to m) span span2
    → By (ts_lit_to m) (vTsLit.BigInt minus big span) (vTsLit.BigInt minus2 big2 span2)
unfolding ts_lit_to
ts_lit_BigInt m h0 h1 h2 =
    record { is = same3 vTsLit.BigInt h0 h1.is h2.is }
