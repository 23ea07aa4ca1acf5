-- When an arrow, or a pattern that is assigned to, opens at a token: the predicates of the grammar under one name each.
use Rattle.std.specs.Prelude.{Bool, true, false, not, ◌&&◌, ◌||◌}
use Rattle.grammar_theory.specs.Productions.{Predicate}
use Rattle.es_grammar.specs.types.Expressions.{opens_pattern}
use Rattle.es_grammar.specs.types.Functions.{opens_inner_pattern}
use Rattle.es_grammar.specs.types.Statements.{opens_head_pattern}
use Rattle.es_grammar.specs.declared.rows.Context.{Context}

-- a place where `:` may open an arrow's result, or may not
abbrev pub arrow_place : Bool → Context
arrow_place colon = record {
  script = false;
  as_module = true;
  no_in = false;
  in_async = false;
  no_colon = not colon;
  in_constructor = false;
}

-- `[` or `{` whose closer is followed by `=`, in the head of a `for` by `of` or `in`, inside a pattern by `,`, `]` or `}`
unfoldable pub is_pattern_head : Bool → Bool → Predicate
is_pattern_head in_for in_pattern K at =
    opens_pattern K at || ((in_for && opens_head_pattern K at) || (in_pattern && opens_inner_pattern K at))
