-- When a part of a type stands at a place.
use Rattle.std.specs.Prelude.{◌≤◌, ℕ, Bool, true, ◌||◌, ◌&&◌, ◌≡◌, List}
use Rattle.es_token.specs.declared.token.TokenKind.TheVariants as k
use Rattle.grammar_theory.specs.Key.{Key, TokenTest, seen, is}
use Rattle.grammar_theory.specs.Productions.{Production}
use Rattle.grammar_theory.specs.Plain.{Plain, none_leans, tall}
use Rattle.grammar_theory.specs.Fits.{free, Under, most_nodes}
use Rattle.es_grammar.specs.declared.types.rows.TypeRow.{TypeRow as Row}
use Rattle.es_grammar.specs.declared.types.rows.TypeRow.TheVariants.{TypeRow, ResultRow, TypeParametersRow, ArgumentsRow}
use Rattle.es_grammar.specs.types.TypeRows.{NodeKind}
use Rattle.es_grammar.specs.types.TypeTable.{type_rule}
use Rattle.es_grammar.specs.declared.rows.NodeKind.{NodeKind as Name}
use Rattle.es_grammar.specs.TypeNames.{label_name}
use Rattle.es_rules.specs.Labelled.{labelled}
use Rattle.es_type_rules.specs.declared.ends.types.TypePart.{TypePart}
use Rattle.es_type_rules.specs.declared.ends.types.TypePart.TheVariants as parts

-- the rule of a row, its alternatives by the names that the table of programs gives them
abbrev pub named_rule : Row → Production Row Name
named_rule r = labelled label_name (type_rule r)

-- the row of a part
abbrev pub part_row : TypePart → Row
part_row parts.Whole = TypeRow true
part_row parts.Ret = ResultRow true
part_row parts.TParams = TypeParametersRow
part_row parts.TArgs = ArgumentsRow

-- a plain tree of the part, from exactly the tokens from one place up to another, with at most so many nodes on a path
pub record IsType (which : TypePart) (K : List Key) (room from to : ℕ) (p : Plain NodeKind) : Type 0 where
  pub derived : Under free K type_rule most_nodes (part_row which) p from to
  pub low : tall none_leans p ≤ room

-- there is one
pub record Reaches (which : TypePart) (K : List Key) (room from to : ℕ) : Type 0 where
  pub plain : Plain NodeKind
  pub stands : IsType which K room from to plain

-- what follows type arguments behind an expression: `(` or the start of a template, and in `extends` also `{` or `implements`
abbrev pub follows_arguments : Bool → TokenTest
follows_arguments in_extends x =
    is k.OpenParen x || (is k.TemplateWhole x || (is k.TemplateHead x
    || (in_extends && (is k.OpenBrace x || is k.ImplementsWord x))))

-- type arguments can be read behind an expression: with at most 500 nodes on a path, before what follows them
pub record OpensArguments (in_extends : Bool) (K : List Key) (at : ℕ) : Type 0 where
  pub end : ℕ
  pub reaches : Reaches parts.TArgs K 500 at end
  pub follows : follows_arguments in_extends (seen K end) ≡ true
