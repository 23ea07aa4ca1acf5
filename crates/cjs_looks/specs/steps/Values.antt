-- What strings say.
use Rattle.std.specs.Prelude.{Option, Some, None, if◌then◌else◌}
use Rattle.es_literal.specs.declared.value.LiteralValue.{LiteralValue}
use Rattle.cjs_facts.specs.Looks.{Name, Look, text, other}

-- what a string with this value looks like; none that is there looks like nothing
abbrev pub text_by : Option LiteralValue → Look
text_by (Some value) = text value.lone value.text
text_by None = other

-- a string without lone surrogate
abbrev pub value_by : Look → Option Name
value_by (text lone value) = if lone then None else Some value
value_by _ = None
