-- What is seen of a token at run time, as the tests of a table see it.
use Rattle.std.specs.Prelude.{Option, Some, None}
use Rattle.grammar_theory.specs.Key.{Seen}
use Rattle.es_lookahead.specs.declared.looks.Seen.{Seen as Sighted}

-- what the tests see
unfoldable pub sight : Option Sighted → Option Seen
sight (Some s) = Some (record { kind = s.kind; line_before = s.line_before })
sight None = None
