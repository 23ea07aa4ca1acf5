-- Where string literals stand in a plain tree of a program: at each place where one names a module, and where an expression,
-- a key or a type is one.
use Rattle.std.specs.Prelude.{List, true, false, length}
use Rattle.std.proofs.Common.{◌≡◌, refl}
use Rattle.grammar_theory.specs.declared.error.Lang.{Lang}
use Rattle.grammar_theory.specs.declared.error.Mode.{Mode}
use Rattle.grammar_theory.specs.Key.{Key}
use Rattle.grammar_theory.specs.Plain.{Plain}
use Rattle.grammar_theory.specs.Fits.{free, Shape, most_nodes}
use Rattle.grammar_theory.proofs.EachKind.{holds_everywhere}
use Rattle.es_grammar.specs.declared.rows.Row.{Row}
use Rattle.es_grammar.specs.declared.rows.NodeKind.{NodeKind}
use Rattle.es_grammar.specs.declared.rows.Row.TheVariants.{ModuleRow, ScriptRow, ItemRow, ClauseRow, NamedRow, ImportSpecifierRow, ExportSpecifierRow, AttributesRow, EntityRow, StatementRow, BlockRow, DeclarationRow, DeclaredRow, VariablesRow, DeclaratorRow, UsingRow, HeadRow, HeadPatternRow, SignatureRow, ParametersRow, ParameterRow, PatternRow, InnerPatternRow, PatternElementRow, PatternPropertyRow, FunctionRow, ClassRow, MemberRow, PropertyRow, KeyRow, ExpressionRow, AssignmentRow, AndRow, BitOrRow, BitXorRow, BitAndRow, EqualityRow, RelationRow, RightRow, ShiftRow, SumRow, ProductRow, PowerRow, UnaryRow, ChainRow, CalleeRow, PostRow, MemberPostRow, ArgumentsRow, ElementRow, TemplateRow, TypesRow}
use Rattle.es_grammar.specs.Table.{rule}
use Rattle.es_grammar.specs.Conditions.{leans, program_row}
use Rattle.es_grammar.proofs.Languages.{in_each, each_holds, holds_in}
use Rattle.es_grammar.proofs.OnRows.{rules_on_rows}
use Rattle.es_law_sites.proofs.shapes.FormedLemmas.{Formed, claims, row_formed}
use Rattle.es_law_sites.proofs.literal_places.Places.{Names, names, names_hold}
use Rattle.es_law_sites.proofs.literal_places.TypePlaces as types

-- in each language
each_name : (any r : Row) → in_each (λ l. claims any names (rule l r)) ≡ true
unfolding rules_on_rows holds_everywhere
each_name any ModuleRow = refl
each_name any ScriptRow = refl
each_name any (ItemRow c) = refl
each_name any ClauseRow = refl
each_name any NamedRow = refl
each_name any ImportSpecifierRow = refl
each_name any ExportSpecifierRow = refl
each_name any AttributesRow = refl
each_name any EntityRow = refl
each_name any (StatementRow c) = refl
each_name any (BlockRow c) = refl
each_name any (DeclarationRow c) = refl
each_name any (DeclaredRow c) = refl
each_name any (VariablesRow c) = refl
each_name any (DeclaratorRow c) = refl
each_name any (UsingRow c) = refl
each_name any (HeadRow c) = refl
each_name any (HeadPatternRow c) = refl
each_name any (SignatureRow c) = refl
each_name any (ParametersRow c) = refl
each_name any (ParameterRow c) = refl
each_name any (PatternRow true c) = refl
each_name any (PatternRow false c) = refl
each_name any (InnerPatternRow true c) = refl
each_name any (InnerPatternRow false c) = refl
each_name any (PatternElementRow true c) = refl
each_name any (PatternElementRow false c) = refl
each_name any (PatternPropertyRow true c) = refl
each_name any (PatternPropertyRow false c) = refl
each_name any (FunctionRow true c) = refl
each_name any (FunctionRow false c) = refl
each_name any (ClassRow true c) = refl
each_name any (ClassRow false c) = refl
each_name any (MemberRow c) = refl
each_name any (PropertyRow c) = refl
each_name any (KeyRow true c) = refl
each_name any (KeyRow false c) = refl
each_name any (ExpressionRow c) = refl
each_name any (AssignmentRow c) = refl
each_name any (AndRow c) = refl
each_name any (BitOrRow c) = refl
each_name any (BitXorRow c) = refl
each_name any (BitAndRow c) = refl
each_name any (EqualityRow c) = refl
each_name any (RelationRow c) = refl
each_name any (RightRow c) = refl
each_name any (ShiftRow c) = refl
each_name any (SumRow c) = refl
each_name any (ProductRow c) = refl
each_name any (PowerRow c) = refl
each_name any (UnaryRow c) = refl
each_name any (ChainRow c) = refl
each_name any (CalleeRow c) = refl
each_name any (PostRow c) = refl
each_name any (MemberPostRow c) = refl
each_name any (ArgumentsRow c) = refl
each_name any (ElementRow c) = refl
each_name any (TemplateRow c) = refl
each_name any (TypesRow r) =
    each_holds (λ l. claims any names (rule l (TypesRow r))) (λ l. types.types_name l any r)

rows_name : (l : Lang) (any r : Row) → claims any names (rule l r) ≡ true
rows_name l any r = holds_in (λ m. claims any names (rule m r)) (each_name any r) l

-- in a plain tree of the shape of a program, string literals stand where they name modules, and where expressions, keys and
-- types are such
pub strs : (l : Lang) (m : Mode) (K : List Key) (p : Plain NodeKind) → Shape leans free (rule l) (program_row m) K p
    → Formed (Names K) p
unfolding Shape
strs l m K p shaped =
    row_formed free K (Names K) names (names_hold free K) (rule l) (λ r. rows_name l r r) most_nodes (program_row m) p 0
    (length K) shaped.0
