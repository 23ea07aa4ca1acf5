-- A place where may stand what scripts alone have, and what modules alone have, and a row there.
use Rattle.std.specs.Prelude.{true}
use Rattle.es_grammar.specs.declared.rows.Context.{Context}
use Rattle.es_grammar.specs.declared.rows.Row.{Row}
use Rattle.es_grammar.specs.declared.rows.Row.TheVariants.{ModuleRow, ScriptRow, ItemRow, ClauseRow, NamedRow, ImportSpecifierRow, ExportSpecifierRow, AttributesRow, EntityRow, StatementRow, BlockRow, DeclarationRow, DeclaredRow, VariablesRow, DeclaratorRow, UsingRow, HeadRow, HeadPatternRow, FunctionRow, ClassRow, SignatureRow, ParametersRow, ParameterRow, PatternRow, InnerPatternRow, PatternElementRow, PatternPropertyRow, MemberRow, PropertyRow, KeyRow, ExpressionRow, AssignmentRow, AndRow, BitOrRow, BitXorRow, BitAndRow, EqualityRow, RelationRow, RightRow, ShiftRow, SumRow, ProductRow, PowerRow, UnaryRow, ChainRow, CalleeRow, PostRow, MemberPostRow, ArgumentsRow, ElementRow, TemplateRow, TypesRow}

-- the same place, for both
abbrev pub both : Context → Context
both c = record {
  script = true;
  as_module = true;
  no_in = c.no_in;
  in_async = c.in_async;
  no_colon = c.no_colon;
  in_constructor = c.in_constructor;
}

-- the same row there; the rows of types, those of names, and those of programs stand in no place
abbrev pub both_row : Row → Row
both_row ModuleRow = ModuleRow
both_row ScriptRow = ScriptRow
both_row (ItemRow c) = ItemRow (both c)
both_row ClauseRow = ClauseRow
both_row NamedRow = NamedRow
both_row ImportSpecifierRow = ImportSpecifierRow
both_row ExportSpecifierRow = ExportSpecifierRow
both_row AttributesRow = AttributesRow
both_row EntityRow = EntityRow
both_row (StatementRow c) = StatementRow (both c)
both_row (BlockRow c) = BlockRow (both c)
both_row (DeclarationRow c) = DeclarationRow (both c)
both_row (DeclaredRow c) = DeclaredRow (both c)
both_row (VariablesRow c) = VariablesRow (both c)
both_row (DeclaratorRow c) = DeclaratorRow (both c)
both_row (UsingRow c) = UsingRow (both c)
both_row (HeadRow c) = HeadRow (both c)
both_row (HeadPatternRow c) = HeadPatternRow (both c)
both_row (FunctionRow named c) = FunctionRow named (both c)
both_row (ClassRow named c) = ClassRow named (both c)
both_row (SignatureRow c) = SignatureRow (both c)
both_row (ParametersRow c) = ParametersRow (both c)
both_row (ParameterRow c) = ParameterRow (both c)
both_row (PatternRow t c) = PatternRow t (both c)
both_row (InnerPatternRow t c) = InnerPatternRow t (both c)
both_row (PatternElementRow t c) = PatternElementRow t (both c)
both_row (PatternPropertyRow t c) = PatternPropertyRow t (both c)
both_row (MemberRow c) = MemberRow (both c)
both_row (PropertyRow c) = PropertyRow (both c)
both_row (KeyRow p c) = KeyRow p (both c)
both_row (ExpressionRow c) = ExpressionRow (both c)
both_row (AssignmentRow c) = AssignmentRow (both c)
both_row (AndRow c) = AndRow (both c)
both_row (BitOrRow c) = BitOrRow (both c)
both_row (BitXorRow c) = BitXorRow (both c)
both_row (BitAndRow c) = BitAndRow (both c)
both_row (EqualityRow c) = EqualityRow (both c)
both_row (RelationRow c) = RelationRow (both c)
both_row (RightRow c) = RightRow (both c)
both_row (ShiftRow c) = ShiftRow (both c)
both_row (SumRow c) = SumRow (both c)
both_row (ProductRow c) = ProductRow (both c)
both_row (PowerRow c) = PowerRow (both c)
both_row (UnaryRow c) = UnaryRow (both c)
both_row (ChainRow c) = ChainRow (both c)
both_row (CalleeRow c) = CalleeRow (both c)
both_row (PostRow c) = PostRow (both c)
both_row (MemberPostRow c) = MemberPostRow (both c)
both_row (ArgumentsRow c) = ArgumentsRow (both c)
both_row (ElementRow c) = ElementRow (both c)
both_row (TemplateRow c) = TemplateRow (both c)
both_row (TypesRow r) = TypesRow r
