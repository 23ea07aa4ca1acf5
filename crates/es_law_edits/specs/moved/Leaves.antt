-- Names, literals and other leaves of types where the text has other string literals in the places of some: a leaf at a
-- changed range has the new text, any other its old one, and all places move.
use Rattle.std.specs.Prelude.{option_map, map}
use Rattle.es_literal.specs.Values.{value_of, is_lone}
use Rattle.es_ast.specs.declared.ts.leaf.Ident.{Ident}
use Rattle.es_ast.specs.declared.ts.leaf.Str.{Str}
use Rattle.es_ast.specs.declared.ts.leaf.Number.{Number}
use Rattle.es_ast.specs.declared.ts.leaf.BigInt.{BigInt}
use Rattle.es_ast.specs.declared.ts.leaf.TplElement.{TplElement}
use Rattle.es_ast.specs.declared.ts.leaf.TsThisTypeOrIdent.{TsThisTypeOrIdent}
use Rattle.es_ast.specs.declared.ts.leaf.TsThisTypeOrIdent.TheVariants as vTsThisTypeOrIdent
use Rattle.es_ast.specs.declared.ts.leaf.TsEntityName.{TsEntityName}
use Rattle.es_ast.specs.declared.ts.leaf.TsKey.{TsKey}
use Rattle.es_ast.specs.declared.ts.leaf.TsKey.TheVariants as vTsKey
use Rattle.es_ast.specs.declared.ts.leaf.TsLit.{TsLit}
use Rattle.es_ast.specs.declared.ts.leaf.TsLit.TheVariants as vTsLit
use Rattle.es_law_edits.specs.moved.Move.{Move, range_to, put, put_by}

unfoldable pub ident_to : Move → Ident → Ident
ident_to m it = record {
  sym = put (m.other it.span) it.sym;
  ctxt = it.ctxt;
  optional = it.optional;
  span = range_to m it.span;
}

-- its value and its spelling are those of the new literal, where it has one
unfoldable pub str_to : Move → Str → Str
str_to m it = record {
  value = put_by value_of (m.other it.span) it.value;
  lone = put_by is_lone (m.other it.span) it.lone;
  raw = option_map (put (m.other it.span)) it.raw;
  span = range_to m it.span;
}

unfoldable pub number_to : Move → Number → Number
number_to m it = record { raw = put (m.other it.span) it.raw; span = range_to m it.span }

unfoldable pub big_int_to : Move → BigInt → BigInt
big_int_to m it = record { raw = put (m.other it.span) it.raw; span = range_to m it.span }

unfoldable pub tpl_element_to : Move → TplElement → TplElement
tpl_element_to m it = record { raw = it.raw; span = range_to m it.span }

unfoldable pub ts_this_type_or_ident_to : Move → TsThisTypeOrIdent → TsThisTypeOrIdent
ts_this_type_or_ident_to m (vTsThisTypeOrIdent.This span) = vTsThisTypeOrIdent.This (range_to m span)
ts_this_type_or_ident_to m (vTsThisTypeOrIdent.Ident ident) = vTsThisTypeOrIdent.Ident (ident_to m ident)

unfoldable pub ts_entity_name_to : Move → TsEntityName → TsEntityName
ts_entity_name_to m it = record {
  left = ts_this_type_or_ident_to m it.left;
  rest = map (ident_to m) it.rest;
  span = range_to m it.span;
}

unfoldable pub ts_key_to : Move → TsKey → TsKey
ts_key_to m (vTsKey.Ident ident) = vTsKey.Ident (ident_to m ident)
ts_key_to m (vTsKey.Str str) = vTsKey.Str (str_to m str)
ts_key_to m (vTsKey.Num number) = vTsKey.Num (number_to m number)
ts_key_to m (vTsKey.Entity name span) = vTsKey.Entity (ts_entity_name_to m name) (range_to m span)
ts_key_to m (vTsKey.ComputedStr str span) = vTsKey.ComputedStr (str_to m str) (range_to m span)
ts_key_to m (vTsKey.ComputedNum num span) = vTsKey.ComputedNum (number_to m num) (range_to m span)
ts_key_to m (vTsKey.ComputedBigInt big span) = vTsKey.ComputedBigInt (big_int_to m big) (range_to m span)

unfoldable pub ts_lit_to : Move → TsLit → TsLit
ts_lit_to m (vTsLit.Bool value span) = vTsLit.Bool value (range_to m span)
ts_lit_to m (vTsLit.Str str) = vTsLit.Str (str_to m str)
ts_lit_to m (vTsLit.Number minus num span) = vTsLit.Number minus (number_to m num) (range_to m span)
ts_lit_to m (vTsLit.BigInt minus big span) = vTsLit.BigInt minus (big_int_to m big) (range_to m span)
