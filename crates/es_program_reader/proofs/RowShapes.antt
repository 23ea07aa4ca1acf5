-- Where the parts of nodes stand, in the rows of programs: computed, row by row.
use Rattle.std.specs.Prelude.{List, true, false}
use Rattle.std.proofs.Common.{◌≡◌, ℕ, refl}
use Rattle.grammar_theory.specs.declared.error.Lang.{Lang}
use Rattle.grammar_theory.specs.Key.{Key}
use Rattle.grammar_theory.specs.Plain.{Plain}
use Rattle.grammar_theory.specs.Fits.{Reading, Under}
use Rattle.es_grammar.specs.declared.rows.Row.{Row}
use Rattle.es_grammar.specs.declared.rows.NodeKind.{NodeKind}
use Rattle.es_grammar.specs.declared.rows.Row.TheVariants.{ModuleRow, ScriptRow, ItemRow, ClauseRow, NamedRow, ImportSpecifierRow, ExportSpecifierRow, AttributesRow, EntityRow, StatementRow, BlockRow, DeclarationRow, DeclaredRow, VariablesRow, DeclaratorRow, UsingRow, HeadRow, HeadPatternRow, SignatureRow, ParametersRow, ParameterRow, PatternRow, InnerPatternRow, PatternElementRow, PatternPropertyRow, FunctionRow, ClassRow, MemberRow, PropertyRow, KeyRow, ExpressionRow, AssignmentRow, AndRow, BitOrRow, BitXorRow, BitAndRow, EqualityRow, RelationRow, RightRow, ShiftRow, SumRow, ProductRow, PowerRow, UnaryRow, ChainRow, CalleeRow, PostRow, MemberPostRow, ArgumentsRow, ElementRow, TemplateRow, TypesRow}
use Rattle.es_grammar.specs.Table.{rule}
use Rattle.es_grammar.proofs.Languages.{in_each, each_holds, holds_in}
use Rattle.es_grammar.proofs.OnRows.{rules_on_rows}
use Rattle.es_program_reader.proofs.FormedLemmas.{Formed, claims, row_formed}
use Rattle.es_program_reader.proofs.Shapes.{Stands, stands, stands_holds}
use Rattle.es_program_reader.proofs.TypeShapes as types

-- in each language
each_stand : (any r : Row) → in_each (λ l. claims any stands (rule l r)) ≡ true
unfolding rules_on_rows
each_stand any ModuleRow = refl
each_stand any ScriptRow = refl
each_stand any (ItemRow c) = refl
each_stand any ClauseRow = refl
each_stand any NamedRow = refl
each_stand any ImportSpecifierRow = refl
each_stand any ExportSpecifierRow = refl
each_stand any AttributesRow = refl
each_stand any EntityRow = refl
each_stand any (StatementRow c) = refl
each_stand any (BlockRow c) = refl
each_stand any (DeclarationRow c) = refl
each_stand any (DeclaredRow c) = refl
each_stand any (VariablesRow c) = refl
each_stand any (DeclaratorRow c) = refl
each_stand any (UsingRow c) = refl
each_stand any (HeadRow c) = refl
each_stand any (HeadPatternRow c) = refl
each_stand any (SignatureRow c) = refl
each_stand any (ParametersRow c) = refl
each_stand any (ParameterRow c) = refl
each_stand any (PatternRow true c) = refl
each_stand any (PatternRow false c) = refl
each_stand any (InnerPatternRow true c) = refl
each_stand any (InnerPatternRow false c) = refl
each_stand any (PatternElementRow true c) = refl
each_stand any (PatternElementRow false c) = refl
each_stand any (PatternPropertyRow true c) = refl
each_stand any (PatternPropertyRow false c) = refl
each_stand any (FunctionRow true c) = refl
each_stand any (FunctionRow false c) = refl
each_stand any (ClassRow true c) = refl
each_stand any (ClassRow false c) = refl
each_stand any (MemberRow c) = refl
each_stand any (PropertyRow c) = refl
each_stand any (KeyRow true c) = refl
each_stand any (KeyRow false c) = refl
each_stand any (ExpressionRow c) = refl
each_stand any (AssignmentRow c) = refl
each_stand any (AndRow c) = refl
each_stand any (BitOrRow c) = refl
each_stand any (BitXorRow c) = refl
each_stand any (BitAndRow c) = refl
each_stand any (EqualityRow c) = refl
each_stand any (RelationRow c) = refl
each_stand any (RightRow c) = refl
each_stand any (ShiftRow c) = refl
each_stand any (SumRow c) = refl
each_stand any (ProductRow c) = refl
each_stand any (PowerRow c) = refl
each_stand any (UnaryRow c) = refl
each_stand any (ChainRow c) = refl
each_stand any (CalleeRow c) = refl
each_stand any (PostRow c) = refl
each_stand any (MemberPostRow c) = refl
each_stand any (ArgumentsRow c) = refl
each_stand any (ElementRow c) = refl
each_stand any (TemplateRow c) = refl
each_stand any (TypesRow r) =
    each_holds (λ l. claims any stands (rule l (TypesRow r))) (λ l. types.types_stand l any r)

rows_stand : (l : Lang) (any r : Row) → claims any stands (rule l r) ≡ true
rows_stand l any r = holds_in (λ m. claims any stands (rule m r)) (each_stand any r) l

-- each node of a tree of the table
pub formed : (l : Lang) (h : Reading) (K : List Key) (room : ℕ) (r : Row) (p : Plain NodeKind) (from to : ℕ)
    → Under h K (rule l) room r p from to
    → Formed Stands p
formed l h K = row_formed h K Stands stands (stands_holds h K) (rule l) (λ r. rows_stand l r r)
