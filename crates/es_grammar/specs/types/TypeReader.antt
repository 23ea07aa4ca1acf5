-- Keys written short, and what the reader of the types' table answers for them: for worked rows.
use Rattle.std.specs.Prelude.{ℕ, true, false, List, Some, None}
use Rattle.es_token.specs.declared.token.TokenKind.{TokenKind}
use Rattle.grammar_theory.specs.Key.{Key}
use Rattle.grammar_theory.specs.Plain.{Plain, plain}
use Rattle.grammar_theory.specs.Fits.{most_nodes}
use Rattle.grammar_theory.specs.Reader.{Out, read_row}
use Rattle.es_grammar.specs.declared.types.rows.TypeRow.TheVariants.{TypeRow}
use Rattle.es_grammar.specs.types.TypeRows.{NodeKind}
use Rattle.es_grammar.specs.types.TypeTable.{type_rule}

-- a token on the line of the one before it, that is no bracket, and one that is, with the number of the bracket that
-- matches it
abbrev pub one : TokenKind → Key
one kind = record { kind = kind; line_before = false; partner = None; adjacent = false }

abbrev pub paired : TokenKind → ℕ → Key
paired kind n = record { kind = kind; line_before = false; partner = Some n; adjacent = false }

-- one that starts where the token before it ends
abbrev pub joined : TokenKind → Key
joined kind = record { kind = kind; line_before = false; partner = None; adjacent = true }

-- the same behind a line end
abbrev pub line : TokenKind → Key
line kind = record { kind = kind; line_before = true; partner = None; adjacent = false }

abbrev pub line_paired : TokenKind → ℕ → Key
line_paired kind n = record { kind = kind; line_before = true; partner = Some n; adjacent = false }

-- what is read as a type at the first of these keys
unfoldable pub read_type : List Key → Out (Plain NodeKind)
read_type K = read_row plain K type_rule most_nodes (TypeRow true) 0
